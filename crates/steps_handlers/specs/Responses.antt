-- What a leader sends to a member next, and what the response makes of what it knows of the member.
use Rattle.std.specs.Prelude.{◌≡◌, ℕ, ◌+◌, ◌-◌, ◌^◌, Bool, false, if◌then◌else◌, min, max, nat_eq, nat_lt, Option, Some, None, Result, Ok, Err, IsOk, IsTrue, OnErr}
use Rattle.std.specs.Option.{option_map_or}
use Rattle.std.specs.Result.{result_unwrap_or}
use Rattle.std.specs.declared.cmp.Ordering.{Ordering}
use Rattle.raft_base.specs.LogId.{id_lt, next_index}
use Rattle.raft_base.specs.LogView.{LogView, prev_id}
use Rattle.raft_base.specs.Logged.{Logged}
use Rattle.raft_base.specs.declared.log_id.LogIdOf.{LogIdOf}
use Rattle.raft_progress.specs.entry.EntryTable.{entry_after_ack, entry_after_conflict}
pub use Rattle.raft_progress.specs.entry.Probe.{after_probe, after_send, is_probe_due, is_searched, limit_of, with_probe}
use Rattle.raft_progress.specs.entry.Request.{after_request}
use Rattle.raft_progress.specs.inflight.Inflight.{id_of, is_idle}
use Rattle.raft_progress.specs.progress.Comparisons.{OrdMembers}
use Rattle.raft_progress.specs.declared.entry.ProgressEntryOf.{ProgressEntryOf}
use Rattle.raft_progress.specs.declared.inflight.InflightError.{InflightError}
use Rattle.raft_progress.specs.declared.inflight.InflightError.TheVariants.{IndexTooLarge}
use Rattle.raft_progress.specs.declared.inflight.InflightOf.{InflightOf}
use Rattle.raft_progress.specs.declared.inflight.InflightOf.TheVariants.{None as Idle}
use Rattle.raft_state.specs.raft_state.Sending.{FromLog}
use Rattle.steps_handlers.specs.Leadership.{Leadership, WritesEntry, WritesMember, entry_of}
use Rattle.steps_handlers.specs.declared.error.ResponseError.{ResponseError}
use Rattle.steps_handlers.specs.declared.error.ResponseError.TheVariants.{Foreign, HigherVote, Inflight, LateHeartbeat, UnknownMember}
use Rattle.steps_handlers.specs.declared.message.Heartbeat.{Heartbeat as HeartbeatOf}
use Rattle.steps_handlers.specs.declared.message.Outcome.{Outcome}
use Rattle.steps_handlers.specs.declared.message.Outcome.TheVariants.{Matches, Conflict, HigherVote as RefusedFor}
use Rattle.steps_handlers.specs.declared.message.RequestNumber.{RequestNumber}
use Rattle.steps_handlers.specs.declared.message.RequestNumber.TheVariants.{InFlight, Heartbeat}
use Rattle.steps_handlers.specs.declared.message.Response.{Response}

-- a response answers a request of this leader
abbrev pub answers : {L K N C : Type 0} → (C → C → Bool) → Response L C → Leadership K N C → Bool
answers eq response leader = eq response.leader_id leader.leader_id

-- a refusal of what is in flight as a refusal of the leader
abbrev pub as_refused : {S : Type 0} → Result S InflightError → Result S ResponseError
as_refused (Ok entry) = Ok entry
as_refused (Err e) = Err (Inflight e)

-- the index after the last one of a member's log, of which it gives the last index, if there is one
abbrev pub end_after : (last : Option ℕ) → ℕ
end_after None = 0
end_after (Some index) = min (index + 1) (2 ^ 64 - 1)

-- after an accepted conflict the search ends where the member's log ends, if that is lower and not
-- below what matches
abbrev pub with_hint : {C : Type 0} → (last : Option ℕ)
    → Result (ProgressEntryOf C) InflightError → Result (ProgressEntryOf C) InflightError
with_hint last (Err e) = Err e
with_hint last (Ok entry) =
    Ok (result_unwrap_or (entry_after_conflict entry None (end_after last)) entry)

-- a conflict: the search ends at its index, or where the member's log ends
abbrev pub after_conflict : {C : Type 0} → ProgressEntryOf C → Option ℕ → (index : ℕ)
    → (last : Option ℕ) → Result (ProgressEntryOf C) InflightError
after_conflict entry request index last =
    with_hint last (entry_after_conflict entry request index)

-- what is known of a member once the response to a heartbeat has raised its match to a log id: nothing
-- is in flight any more, because the member may have a part of what was
abbrev pub matched : {C : Type 0} → ProgressEntryOf C → Option (LogIdOf C) → ProgressEntryOf C
matched entry upto = record entry {
  matching = upto;
  inflight = Idle;
  searching_end = max entry.searching_end (next_index upto);
}

-- the response to a heartbeat that the member matches up to a log id. It raises the match, and never
-- lowers it
abbrev pub after_match : {C : Type 0} → (C → C → Ordering) → ProgressEntryOf C
    → Option (LogIdOf C) → Result (ProgressEntryOf C) InflightError
after_match cmp entry upto =
    if id_lt cmp entry.matching upto
    then (if nat_lt (next_index upto) (2 ^ 64) then Ok (matched entry upto) else Err IndexTooLarge)
    else Ok entry

-- the response to a heartbeat is late, and refused, if a request was sent to the member after the
-- heartbeat
abbrev pub unless_late : {S C : Type 0} → ProgressEntryOf C → ℕ → Result S InflightError
    → Result S ResponseError
unless_late entry number response =
    if nat_eq entry.curr_inflight_id number then as_refused response else Err LateHeartbeat

-- an acknowledgement raises the match, a conflict lowers the end of the search, and the response of a
-- higher vote is refused
abbrev pub after_outcome : {L C : Type 0} → (C → C → Ordering) → ProgressEntryOf C
    → RequestNumber → Outcome L C → Result (ProgressEntryOf C) ResponseError
after_outcome cmp entry (InFlight number) (Matches upto) =
    as_refused (entry_after_ack cmp entry number upto)
after_outcome cmp entry (Heartbeat number) (Matches upto) =
    unless_late entry number (after_match cmp entry upto)
after_outcome cmp entry (InFlight number) (Conflict index last) =
    as_refused (after_conflict entry (Some number) index last)
after_outcome cmp entry (Heartbeat number) (Conflict index last) =
    unless_late entry number (after_conflict entry None index last)
after_outcome cmp entry request (RefusedFor vote) = Err HigherVote

-- what is known of a member after its response
abbrev pub after_response : {L C : Type 0} → (C → C → Ordering) → ProgressEntryOf C → Response L C
    → Result (ProgressEntryOf C) ResponseError
after_response cmp entry response = after_outcome cmp entry response.request response.outcome

-- what a heartbeat says to a member: the number of the last request to it, and the log id before the
-- end of the search for its match
abbrev pub heartbeat_to : {C : Type 0} → LogView C → ProgressEntryOf C → HeartbeatOf C
heartbeat_to log entry = record {
  request = Heartbeat entry.curr_inflight_id;
  prev = prev_id log.id_at entry.searching_end;
}

-- the greatest number of a request, once this is sent
abbrev pub number_after : {C : Type 0} → ℕ → Option (InflightOf C) → ℕ
number_after last None = last
number_after last (Some sending) = option_map_or (λ id. max last id) (id_of sending) last

module _ {K N C : Type 0} (eq : K → K → Bool) (by : OrdMembers C) where
  -- what is sent to a member next: what is put in flight, if a send is allowed and there is something to
  -- send, and otherwise a heartbeat, which changes nothing; to an id of no member nothing is sent; over
  -- a log that has all its log ids from the purge point on, what is sent and is no probe is a piece of
  -- the log
  pub record SendsNext (to : K) (log : LogView C) (max_entries : ℕ) (old new : Leadership K N C)
      (result : Option (InflightOf C)) : Type 0 where
    pub unknown : entry_of eq old to ≡ None → result ≡ None
    pub sent : (entry next : ProgressEntryOf C) → entry_of eq old to ≡ Some entry
        → after_send by.cmp entry log max_entries ≡ Some next → result ≡ Some next.inflight
    pub in_flight : (entry next : ProgressEntryOf C) → entry_of eq old to ≡ Some entry
        → after_send by.cmp entry log max_entries ≡ Some next
        → WritesMember eq old.followers to next new.followers
    pub numbered : new ≡ record old {
      followers = new.followers;
      last_request = number_after old.last_request result;
    }
    pub from_log : (entry next : ProgressEntryOf C) → entry_of eq old to ≡ Some entry
        → after_probe entry log ≡ None
        → after_request by.cmp entry log (limit_of entry max_entries) ≡ Some next
        → IsTrue (is_idle entry.inflight) → Logged by.cmp log
        → FromLog log (limit_of entry max_entries) entry next.inflight
    pub heartbeat : (entry : ProgressEntryOf C) → entry_of eq old to ≡ Some entry
        → after_send by.cmp entry log max_entries ≡ None → result ≡ Some Idle
    pub unchanged : result ≡ None → new ≡ old
    pub unchanged_by_heartbeat : (entry : ProgressEntryOf C) → entry_of eq old to ≡ Some entry
        → after_send by.cmp entry log max_entries ≡ None → new ≡ old

  -- what a response does: one to another leader or of no member is refused; otherwise it is taken as the
  -- table of responses says, or refused; a refused response changes nothing
  pub record TakesResponse {L : Type 0} (from : K) (response : Response L C) (old new : Leadership K N C)
      (result : Result (Unit {0}) ResponseError) : Type 0 where
    pub foreign : answers by.eq response old ≡ false → result ≡ Err Foreign
    pub unknown : IsTrue (answers by.eq response old) → entry_of eq old from ≡ None
        → result ≡ Err UnknownMember
    pub ok : (entry next : ProgressEntryOf C) → IsTrue (answers by.eq response old)
        → entry_of eq old from ≡ Some entry → after_response by.cmp entry response ≡ Ok next
        → IsOk result
    pub taken : (entry next : ProgressEntryOf C) → IsTrue (answers by.eq response old)
        → entry_of eq old from ≡ Some entry → after_response by.cmp entry response ≡ Ok next
        → WritesEntry eq old from next new
    pub refused : (entry : ProgressEntryOf C) (e : ResponseError)
        → IsTrue (answers by.eq response old) → entry_of eq old from ≡ Some entry
        → after_response by.cmp entry response ≡ Err e → result ≡ Err e
    pub err : OnErr result (new ≡ old)
