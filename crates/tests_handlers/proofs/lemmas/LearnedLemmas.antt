-- What a leader has learned from a response that it took.
use Rattle.std.specs.Prelude.{◌≡◌, ℕ, ◌^◌, max, nat_eq, nat_lt, Bool, true, false, cond, ◌&&◌, if◌then◌else◌}
use Rattle.std.specs.Prelude.{Option, Some, None}
use Rattle.std.specs.Prelude.{List, [], ◌∷◌, Result, Ok, Err, OnOk, refl}
use Rattle.std.specs.Cmp.{IsEquivalence, IsTotalOrder}
use Rattle.std.specs.declared.cmp.Ordering.{Ordering}
use Rattle.std.proofs.Common.{ap, subst, sym, ◌∙◌}
use Rattle.raft_base.specs.LogId.{id_le, id_lt, next_index}
use Rattle.raft_base.specs.LogIdLawful.{optional-log_id_cmp-total}
use Rattle.raft_base.specs.declared.log_id.LogIdOf.{LogIdOf}
use Rattle.raft_progress.specs.entry.EntryTable.{with_matching}
use Rattle.raft_progress.specs.inflight.InflightTable.{inflight_after_ack}
use Rattle.raft_progress.specs.progress.Comparisons.{OrdMembers}
use Rattle.raft_progress.specs.declared.entry.ProgressEntryOf.{ProgressEntryOf}
use Rattle.raft_progress.specs.declared.inflight.InflightError.{InflightError}
use Rattle.raft_progress.specs.declared.inflight.InflightError.TheVariants.{IndexTooLarge, MatchingRegress}
use Rattle.raft_progress.specs.declared.inflight.InflightOf.{InflightOf}
use Rattle.raft_progress.proofs.lemmas.OrderLemmas.{AtMost-from_not_lt, AtMost-refl}
use Rattle.steps_handlers.specs.Append.{has_all, last_id_of_request}
use Rattle.steps_handlers.specs.Leadership.{Leadership, entry_of}
use Rattle.steps_handlers.specs.Responses.{TakesResponse, after_match, after_response, answers, as_refused, matched, unless_late}
use Rattle.steps_handlers.specs.declared.error.ResponseError.{ResponseError}
use Rattle.steps_handlers.specs.declared.error.ResponseError.TheVariants.{Foreign, LateHeartbeat, UnknownMember}
use Rattle.steps_handlers.specs.declared.message.Outcome.TheVariants.{Matches}
use Rattle.steps_handlers.specs.declared.message.RequestNumber.{RequestNumber}
use Rattle.steps_handlers.specs.declared.message.RequestNumber.TheVariants.{InFlight, Heartbeat}
use Rattle.steps_handlers.specs.declared.message.Response.{Response}
use Rattle.raft_state.specs.raft_state.Sound.{purged_or_logged}
use Rattle.raft_state.specs.declared.entry.EntryOf.{EntryOf}
use Rattle.raft_state.specs.declared.raft_state.RaftStateIn.{RaftStateIn}

-- an acknowledgement that is taken is the match
ack_match : {C : Type 0} (cmp : C → C → Ordering) (entry next : ProgressEntryOf C) (upto : Option (LogIdOf C))
    (r : Result (InflightOf C) InflightError) → as_refused (with_matching cmp entry upto r) ≡ Ok next → next.matching ≡ upto
ack_match {C} cmp entry next upto (Err e) is = cc
ack_match {C} cmp entry next upto (Ok inflight) is =
    by (id_lt cmp upto entry.matching) (nat_lt (next_index upto) (2 ^ 64)) is
  where
    taken : ProgressEntryOf C
    taken = record entry {
      matching = upto;
      inflight = inflight;
      searching_end = max entry.searching_end (next_index upto);
    }

    by : (a b : Bool) → as_refused (let r : Result (ProgressEntryOf C) InflightError = if a then Err MatchingRegress
        else (if b then Ok taken else Err IndexTooLarge) in r) ≡ Ok next → next.matching ≡ upto
    by true b is = cc
    by false true is =
        let same : taken ≡ next = cc in
        sym (ap (λ (x : ProgressEntryOf C). x.matching) same)
    by false false is = cc

-- the response to a request that acknowledges a log id, and is taken, makes it the match
pub outcome_match : {L C : Type 0} (cmp : C → C → Ordering) (upto : Option (LogIdOf C)) (response : Response L C) (number : ℕ)
    → response.request ≡ InFlight number → response.outcome ≡ Matches upto → (entry next : ProgressEntryOf C)
    → after_response cmp entry response ≡ Ok next → next.matching ≡ upto
outcome_match cmp upto response number is matches entry next after =
    ack_match cmp entry next upto (inflight_after_ack cmp entry.inflight number upto) (rw (is, matches) at after)

module _ {C : Type 0} (cmp : C → C → Ordering) (total : IsTotalOrder cmp) (upto : Option (LogIdOf C)) where
  abbrev AtLeast : ProgressEntryOf C → Type 0
  AtLeast entry = id_le cmp upto entry.matching ≡ true

  same_match : (next : ProgressEntryOf C) → next.matching ≡ upto → AtLeast next
  same_match next is =
      subst (λ (m : Option (LogIdOf C)). id_le cmp upto m ≡ true) (sym is) (AtMost-refl (optional-log_id_cmp-total total) upto)

  -- the response to a heartbeat that matches up to a log id, and is taken, leaves no lesser match
  heartbeat_match : (entry next : ProgressEntryOf C) (number : ℕ)
      → unless_late entry number (after_match cmp entry upto) ≡ Ok next → AtLeast next
  heartbeat_match entry next number after =
      by (nat_eq entry.curr_inflight_id number) (id_lt cmp entry.matching upto) refl (nat_lt (next_index upto) (2 ^ 64)) after
    where
      by : (same below : Bool) → id_lt cmp entry.matching upto ≡ below → (fits : Bool)
          → (let r : Result (ProgressEntryOf C) ResponseError = if same then as_refused (if below
          then (if fits then Ok (matched entry upto) else Err IndexTooLarge) else Ok entry) else Err LateHeartbeat in r) ≡ Ok next
          → AtLeast next
      by false below is fits after = cc
      by true true is false after = cc
      by true true is true after =
          let e : matched entry upto ≡ next = cc in
          same_match next (sym (ap (λ (x : ProgressEntryOf C). x.matching) e))
      by true false is fits after =
          let e : entry ≡ next = cc in
          subst AtLeast e (AtMost-from_not_lt (optional-log_id_cmp-total total) entry.matching upto is)

  -- a response that matches up to a log id, and is taken, leaves no lesser match
  pub outcome_at_least : {L : Type 0} (response : Response L C) (request : RequestNumber) → response.request ≡ request
      → response.outcome ≡ Matches upto → (entry next : ProgressEntryOf C) → after_response cmp entry response ≡ Ok next
      → AtLeast next
  outcome_at_least response (InFlight number) is matches entry next after =
      same_match next (outcome_match cmp upto response number is matches entry next after)
  outcome_at_least response (Heartbeat number) is matches entry next after =
      heartbeat_match entry next number (rw (is, matches) at after)

module _ {K N L C : Type 0} (eq : K → K → Bool) (laws : IsEquivalence eq) (logs : OrdMembers C) (old new : Leadership K N C) (from : K)
    (response : Response L C) (Knows : ProgressEntryOf C → Type 0)
    (knows : (entry next : ProgressEntryOf C) → after_response logs.cmp entry response ≡ Ok next → Knows next) where
  abbrev Learned : Type 0
  Learned = (entry : ProgressEntryOf C) → entry_of eq new from ≡ Some entry → Knows entry

  -- the leader knows of the member what any response leaves that it has taken
  pub learned : (r : Result (Unit {0}) ResponseError) → TakesResponse eq logs from response old new r → OnOk r Learned
  learned (Err e) takes = tt
  learned (Ok x) takes = by (answers logs.eq response old) refl
    where
      refused : (e : ResponseError) → (let r : Result (Unit {0}) ResponseError = Ok x in r ≡ Err e) → Learned
      refused e is = cc

      with_next : answers logs.eq response old ≡ true → (entry : ProgressEntryOf C) → entry_of eq old from ≡ Some entry
          → (r : Result (ProgressEntryOf C) ResponseError) → after_response logs.cmp entry response ≡ r → Learned
      with_next mine entry f (Err e) is = refused e (takes.refused entry e mine f is)
      with_next mine entry f (Ok next) is = λ now known.
          let written : entry_of eq new from ≡ Some next =
          (takes.taken entry next mine f is).member.entries from
          ∙ ap (λ (b : Bool). cond b (Some next) (entry_of eq old from)) (laws.refl from) in
          let e : Some next ≡ Some now = sym written ∙ known in
          let same : next ≡ now = cc in
          subst Knows same (knows entry next is)

      with_entry : answers logs.eq response old ≡ true → (o : Option (ProgressEntryOf C)) → entry_of eq old from ≡ o → Learned
      with_entry mine None f = refused UnknownMember (takes.unknown mine f)
      with_entry mine (Some entry) f = with_next mine entry f (after_response logs.cmp entry response) refl

      by : (b : Bool) → answers logs.eq response old ≡ b → Learned
      by false e = refused Foreign (takes.foreign e)
      by true e = with_entry e (entry_of eq old from) refl

-- a log that has a log id and each of some entries has the last log id of them
pub has_last : {K N I L C D : Type 0} (eq : C → C → Bool) (s : RaftStateIn K N I L C) (prev : Option (LogIdOf C))
    (es : List (EntryOf C K N D)) → purged_or_logged eq s prev ≡ true → has_all eq s es ≡ true
    → purged_or_logged eq s (last_id_of_request prev es) ≡ true
has_last eq s prev [] there all = there
has_last eq s prev (e ∷ []) there all = by (purged_or_logged eq s (Some e.log_id)) all
  where
    by : (b : Bool) → (b && true) ≡ true → b ≡ true
    by true h = refl
    by false h = cc
has_last eq s prev (e ∷ f ∷ es) there all =
    has_last eq s prev (f ∷ es) there (by (purged_or_logged eq s (Some e.log_id)) (has_all eq s (f ∷ es)) all)
  where
    by : (a b : Bool) → (a && b) ≡ true → b ≡ true
    by true b h = h
    by false b h = cc
