-- What a leader's requests and their responses make of what it knows of a member.
use Rattle.std.specs.Prelude.{◌≡◌, ℕ, Bool, Option, Some, None, Result, Ok, Err}
use Rattle.std.specs.Option.{option_cmp}
use Rattle.std.specs.declared.cmp.Ordering.{Ordering}
use Rattle.raft_base.specs.LogId.{log_id_cmp}
use Rattle.raft_base.specs.LogView.{LogView}
use Rattle.raft_base.specs.declared.log_id.LogIdOf.{LogIdOf}
use Rattle.raft_progress.specs.entry.EntryTable.{entry_after_ack, entry_after_conflict}
use Rattle.raft_progress.specs.entry.Probe.{after_send}
use Rattle.raft_progress.specs.entry.Request.{FollowsRequest, after_request}
use Rattle.raft_progress.specs.progress.Kept.{with_value}
use Rattle.raft_progress.specs.progress.ProgressView.{state}
use Rattle.raft_progress.specs.tracked.SingleSteps.{IsTrackedUpdate}
use Rattle.raft_progress.specs.tracked.TrackedState.{TrackedView}
use Rattle.raft_progress.specs.declared.entry.ProgressEntryOf.{ProgressEntryOf}
use Rattle.raft_progress.specs.declared.inflight.InflightError.{InflightError}
use Rattle.raft_progress.specs.declared.inflight.InflightOf.{InflightOf}
use Rattle.raft_progress.specs.declared.progress.steps.Reply.TheVariants.{Granted}

-- A response that is taken writes what the table makes of the present value. A refused one, and one
-- of an unknown member, changes nothing.
abbrev pub IsResponse : {V E U S : Type 0} → Option V → (V → Result V E) → (V → Type 0) → S
    → Option (Result U E) → S → Type 0
IsResponse {V} value table Writes old (Some (Ok u)) new =
    (entry next : V) × (value ≡ Some entry) × (table entry ≡ Ok next) × Writes next
IsResponse {V} value table Writes old (Some (Err e)) new =
    (entry : V) × (value ≡ Some entry) × (table entry ≡ Err e) × (new ≡ old)
IsResponse value table Writes old None new = (value ≡ None) × (new ≡ old)

module _ {K N V P : Type 0} (eq : K → K → Bool) where
  -- the value of a member
  abbrev pub member_value : TrackedView K N V P → K → Option V
  member_value t id = (state eq t.progress).value id

  -- the value of a member is this one, and nothing else has changed: granted stays, and no update is
  -- counted
  abbrev pub with_member_value : TrackedView K N V P → K → V → TrackedView K N V P
  with_member_value t id value = record t { progress = with_value eq t.progress id value }

-- what contracts see of the followers of a leader, as it tracks them
abbrev pub Followers : Type 0 → Type 0 → Type 0 → Type 0
Followers K N C = TrackedView K N (ProgressEntryOf C) (Option (LogIdOf C))

-- what a table makes of the value of a member is put in flight, if the table has a request; no other
-- value changes
abbrev pub IsRequest : {K N C : Type 0} → (K → K → Bool)
    → (ProgressEntryOf C → Option (ProgressEntryOf C)) → Followers K N C → K → Option (InflightOf C)
    → Followers K N C → Type 0
IsRequest {K} {N} {C} eq table old id (Some sending) new =
    (entry next : ProgressEntryOf C) × (member_value eq old id ≡ Some entry)
    × FollowsRequest (table entry) entry sending next × (new ≡ with_member_value eq old id next)
IsRequest eq table old id None new = (member_value eq old id ≡ None) × (new ≡ old)

module _ {K N C : Type 0} (eq : K → K → Bool) (cmp : C → C → Ordering) where
  -- the next request to a member is put in flight, if there is one; no other value changes
  abbrev pub IsNextSend : Followers K N C → K → LogView C → ℕ → Option (InflightOf C) → Followers K N C
      → Type 0
  IsNextSend old id log max_entries result new =
      IsRequest eq (λ entry. after_request cmp entry log max_entries) old id result new

  -- the next request to a member is put in flight, a probe if one is due; no other value changes
  abbrev pub IsNextRequest : Followers K N C → K → LogView C → ℕ → Option (InflightOf C)
      → Followers K N C → Type 0
  IsNextRequest old id log max_entries result new =
      IsRequest eq (λ entry. after_send cmp entry log max_entries) old id result new

  -- a member has all logs up to a log id: its match is updated, and granted recomputed
  abbrev pub IsAcknowledged : Followers K N C → K → ℕ → Option (LogIdOf C)
      → Option (Result (Unit {0}) InflightError) → Followers K N C → Type 0
  IsAcknowledged old id request_id matching result new =
      IsResponse (member_value eq old id) (λ entry. entry_after_ack cmp entry request_id matching)
      (λ next. IsTrackedUpdate eq (option_cmp (log_id_cmp cmp)) (λ e. e.matching) old id next
      (Granted new.progress.granted) new)
      old result new

  -- a member does not match at an index: the search ends there, and no other value changes
  abbrev pub IsConflict : Followers K N C → K → Option ℕ → ℕ
      → Option (Result (Unit {0}) InflightError) → Followers K N C → Type 0
  IsConflict old id request_id conflict result new =
      IsResponse (member_value eq old id) (λ entry. entry_after_conflict entry request_id conflict)
      (λ next. new ≡ with_member_value eq old id next)
      old result new
