-- What a request to a member, and a response of it, make of what a leader knows of it.
use Rattle.std.specs.Prelude.{◌≡◌, ℕ, nat_eq, Bool, true, false, if◌then◌else◌}
use Rattle.std.specs.Prelude.{Option, Some, None, Result, Ok, Err, IsOk, OnErr, refl, option_map}
use Rattle.std.specs.Cmp.{IsEquivalence, IsTotalOrder}
use Rattle.std.specs.Map.{update}
use Rattle.std.specs.Result.{result_unwrap_or}
use Rattle.std.specs.declared.cmp.Ordering.{Ordering}
use Rattle.std.proofs.Common.{ap, sym, subst, ◌∙◌}
use Rattle.raft_base.specs.LogId.{id_le}
use Rattle.raft_base.specs.declared.log_id.LogIdOf.{LogIdOf}
use Rattle.raft_progress.specs.entry.Request.{FollowsRequest, sent}
use Rattle.raft_progress.specs.entry.EntryTable.{entry_after_conflict}
use Rattle.raft_progress.specs.tracked.Followers.{Followers, IsAcknowledged, IsConflict, IsRequest, IsResponse}
use Rattle.raft_progress.specs.tracked.Followers.{member_value, with_member_value}
use Rattle.raft_progress.specs.declared.entry.ProgressEntryOf.{ProgressEntryOf}
use Rattle.raft_progress.specs.declared.inflight.InflightError.{InflightError}
use Rattle.raft_progress.specs.declared.inflight.InflightOf.{InflightOf}
use Rattle.raft_progress.specs.declared.inflight.InflightOf.TheVariants.{None as Idle}
use Rattle.raft_progress.proofs.lemmas.tracked.FollowerLemmas.{member_writes, same_member}
use Rattle.steps_handlers.specs.Leadership.{Leadership, WritesEntry, WritesMember}
use Rattle.steps_handlers.specs.Responses.{after_conflict, after_outcome, as_refused, end_after, unless_late, with_hint}
use Rattle.steps_handlers.specs.declared.error.ResponseError.{ResponseError}
use Rattle.steps_handlers.specs.declared.error.ResponseError.TheVariants.{HigherVote, LateHeartbeat}
use Rattle.steps_handlers.specs.declared.message.Outcome.TheVariants.{HigherVote as RefusedFor}
use Rattle.steps_handlers.specs.declared.message.RequestNumber.{RequestNumber}
use Rattle.steps_handlers.specs.declared.message.RequestNumber.TheVariants.{Heartbeat, InFlight}
use Rattle.steps_handlers.proofs.lemmas.FollowerLemmas.{id_le-refl}

-- ---- responses, by their results

module _ {V E U S : Type 0} (value : Option V) (table : V → Result V E) (Writes : V → Type 0) (old new : S) where
  -- a response of a member is none of an unknown one
  pub response_known : (r : Result U E) → IsResponse value table Writes old (Some r) new → value ≡ None → ⊥
  response_known (Ok u) s h = let e : Some s.0 ≡ None = sym s.2 ∙ h in cc
  response_known (Err f) s h = let e : Some s.0 ≡ None = sym s.1 ∙ h in cc

  -- what the table gives is written
  pub response_written : (r : Result U E) → IsResponse value table Writes old (Some r) new → (entry next : V) → value ≡ Some entry
      → table entry ≡ Ok next → Writes next
  response_written (Ok u) s entry next known is =
      let e : Some s.0 ≡ Some entry = sym s.2 ∙ known in
      let same : s.0 ≡ entry = cc in
      let f : Ok s.1 ≡ Ok next = sym s.3 ∙ ap table same ∙ is in
      let made : s.1 ≡ next = cc in
      subst Writes made s.4
  response_written (Err f) s entry next known is =
      let e : Some s.0 ≡ Some entry = sym s.1 ∙ known in
      let same : s.0 ≡ entry = cc in
      let g : Err f ≡ Ok next = sym s.2 ∙ ap table same ∙ is in
      cc

  -- and the response is taken
  pub response_ok : (r : Result U E) → IsResponse value table Writes old (Some r) new → (entry next : V) → value ≡ Some entry
      → table entry ≡ Ok next → IsOk r
  response_ok (Ok u) s entry next known is = refl
  response_ok (Err f) s entry next known is =
      let e : Some s.0 ≡ Some entry = sym s.1 ∙ known in
      let same : s.0 ≡ entry = cc in
      let g : Err f ≡ Ok next = sym s.2 ∙ ap table same ∙ is in
      cc

  -- what the table refuses is refused
  pub response_refused : (r : Result U E) → IsResponse value table Writes old (Some r) new → (entry : V) (e : E) → value ≡ Some entry
      → table entry ≡ Err e → r ≡ Err e
  response_refused (Ok u) s entry e known is =
      let f : Some s.0 ≡ Some entry = sym s.2 ∙ known in
      let same : s.0 ≡ entry = cc in
      let g : Ok s.1 ≡ Err e = sym s.3 ∙ ap table same ∙ is in
      cc
  response_refused (Err f) s entry e known is =
      let g : Some s.0 ≡ Some entry = sym s.1 ∙ known in
      let same : s.0 ≡ entry = cc in
      let h : Err f ≡ Err e = sym s.2 ∙ ap table same ∙ is in
      cc

  -- a refused response changes nothing
  pub response_err : (r : Result U E) → IsResponse value table Writes old (Some r) new → OnErr r (new ≡ old)
  response_err (Ok u) s = tt
  response_err (Err f) s = s.3

-- what follows from a fact on an error
pub on_err : {U E : Type 0} (r : Result U E) (P Q : Type 0) → (P → Q) → OnErr r P → OnErr r Q
on_err (Ok u) P Q f p = tt
on_err (Err e) P Q f p = f p

-- a higher vote, in the response to a request in flight or to a heartbeat
pub vote_table : {L C : Type 0} (cmp : C → C → Ordering) (entry : ProgressEntryOf C) (request : RequestNumber) (vote : _)
    → after_outcome {L = L} cmp entry request (RefusedFor vote) ≡ Err HigherVote
vote_table cmp entry (InFlight n) vote = refl
vote_table cmp entry (Heartbeat n) vote = refl

-- a response whose refusals are taken as a leader's
pub refused_response : {V U S : Type 0} (value : Option V) (table : V → Result V InflightError) (table' : V → Result V ResponseError)
    (Writes Writes' : V → Type 0) (old new : S)
    → ((entry : V) → value ≡ Some entry → table' entry ≡ as_refused (table entry))
    → ((entry next : V) → value ≡ Some entry → Writes next → Writes' next) → (r : Option (Result U InflightError))
    → IsResponse value table Writes old r new → IsResponse value table' Writes' old (option_map as_refused r) new
refused_response value table table' Writes Writes' old new same w (Some (Ok u)) s =
    (s.0, s.1, s.2, same s.0 s.2 ∙ ap as_refused s.3, w s.0 s.1 s.2 s.4)
refused_response value table table' Writes Writes' old new same w (Some (Err e)) s =
    (s.0, s.1, same s.0 s.1 ∙ ap as_refused s.2, s.3)
refused_response value table table' Writes Writes' old new same w None s = s

-- the response to a heartbeat of a member with another number is late
pub late_table : {S C : Type 0} (entry found : ProgressEntryOf C) (number : ℕ) (response : Result S InflightError)
    → entry ≡ found → nat_eq found.curr_inflight_id number ≡ false → unless_late entry number response ≡ Err LateHeartbeat
late_table entry found number response same other = rw (same, other) refl

-- and one with its number is not
pub timely_table : {S C : Type 0} (entry found : ProgressEntryOf C) (number : ℕ) (response : Result S InflightError)
    → entry ≡ found → nat_eq found.curr_inflight_id number ≡ true → unless_late entry number response ≡ as_refused response
timely_table entry found number response same own = rw (same, own) refl

-- a refusal to a member that is known
pub refuses_known : {V E S : Type 0} (U : Type 0) (value : Option V) (table : V → Result V E) (Writes : V → Type 0) (old : S) (e : E)
    → ((entry : V) → table entry ≡ Err e)
    → IsResponse {U = U} value table Writes old (option_map (λ (v : V). Err e) value) old
refuses_known U (Some entry) table Writes old e same = (entry, refl, same entry, refl)
refuses_known U None table Writes old e same = (refl, refl)

-- ---- what is written of a member

module _ {K N C : Type 0} {eq : K → K → Bool} (laws : IsEquivalence eq) (old new : Followers K N C) (id : K) where
  -- a value in place of that of a member
  pub member_written : (entry next : ProgressEntryOf C) → member_value eq old id ≡ Some entry → new ≡ with_member_value eq old id next
      → WritesMember eq old id next new
  member_written entry next known is =
      subst (WritesMember eq old id next) (sym is)
      record { entries = (member_writes eq old id laws entry next known).value; members = refl }

  -- the value of a member in place of itself
  pub member_stays : (entry : ProgressEntryOf C) → member_value eq old id ≡ Some entry → WritesMember eq old id entry old
  member_stays entry known =
      subst (WritesMember eq old id entry) (same_member eq old id entry known)
      record { entries = (member_writes eq old id laws entry entry known).value; members = refl }

-- a value that is written twice has the latter one
writes_twice : {K N C : Type 0} (eq : K → K → Bool) (old mid new : Followers K N C) (id : K) (next last : ProgressEntryOf C)
    → WritesMember eq old id next mid → WritesMember eq mid id last new → WritesMember eq old id last new
writes_twice eq old mid new id next last first later = record {
  entries = λ x. later.entries x ∙ by x (eq id x) refl;
  members = later.members ∙ first.members;
}
  where
    by : (x : _) (b : Bool) → eq id x ≡ b
        → update eq (member_value eq mid) id (Some last) x ≡ update eq (member_value eq old) id (Some last) x
    by x true is = rw is refl
    by x false is = let w = first.entries x in rw is (rw is at w)

module _ {K N C : Type 0} {eq : K → K → Bool} (laws : IsEquivalence eq) (cmp : C → C → Ordering) (old mid new : Followers K N C)
    (id : K) (request : Option ℕ) (index : ℕ) (last : Option ℕ) where
  abbrev pub Hinted : Option (Result (Unit {0}) InflightError) → Followers K N C → Type 0
  Hinted r after = IsResponse (member_value eq old id) (λ entry. after_conflict entry request index last)
      (λ next. WritesMember eq old id next after) old r after

  -- a conflict, and then the hint of the member
  pub conflict_hinted : IsConflict eq cmp old id request index (Some (Ok tt)) mid → (r : Option (Result (Unit {0}) InflightError))
      → IsConflict eq cmp mid id None (end_after last) r new → Hinted (Some (Ok tt)) new
  conflict_hinted s r t = by r t
    where
      first : WritesMember eq old id s.1 mid
      first = member_written laws old mid id s.0 s.1 s.2 s.4

      there : member_value eq mid id ≡ Some s.1
      there = let w = first.entries id in rw (laws.refl id) at w

      hint : (r : Result (ProgressEntryOf C) InflightError) → entry_after_conflict s.1 None (end_after last) ≡ r
          → after_conflict s.0 request index last ≡ Ok (result_unwrap_or r s.1)
      hint r is = ap (with_hint last) s.3 ∙ ap (λ (x : Result (ProgressEntryOf C) InflightError). Ok (result_unwrap_or x s.1)) is

      by : (r : Option (Result (Unit {0}) InflightError)) → IsConflict eq cmp mid id None (end_after last) r new
          → Hinted (Some (Ok tt)) new
      by (Some (Ok u)) t =
          let e : Some t.0 ≡ Some s.1 = sym t.2 ∙ there in
          let same : t.0 ≡ s.1 = cc in
          let table = rw same at t.3 in (
            s.0,
            t.1,
            s.2,
            hint (Ok t.1) table,
            writes_twice eq old mid new id s.1 t.1 first (member_written laws mid new id t.0 t.1 t.2 t.4),
          )
      by (Some (Err f)) t =
          let e : Some t.0 ≡ Some s.1 = sym t.1 ∙ there in
          let same : t.0 ≡ s.1 = cc in
          let table = rw same at t.2 in
          (s.0, s.1, s.2, hint (Err f) table, subst (WritesMember eq old id s.1) (sym t.3) first)
      by None t = let e : Some s.1 ≡ None = sym there ∙ t.0 in cc

-- what is written of a member is written of what a leader knows of it
pub leader_writes : {K N C : Type 0} (eq : K → K → Bool) (l : Leadership K N C) (new : Followers K N C) (id : K) (entry : ProgressEntryOf C)
    → WritesMember eq l.followers id entry new → WritesEntry eq l id entry (record l { followers = new })
leader_writes eq l new id entry w = record { member = w; rest = refl }

module _ {K N C : Type 0} (eq : K → K → Bool) {cmp : C → C → Ordering} (total : IsTotalOrder cmp) (old new : Followers K N C) (id : K) where
  same_granted : old.progress.granted ≡ new.progress.granted → id_le cmp old.progress.granted new.progress.granted ≡ true
  same_granted e =
      subst (λ (g : Option (LogIdOf C)). id_le cmp old.progress.granted g ≡ true) e (id_le-refl total old.progress.granted)

  -- an acknowledgement never lowers what is granted
  pub ack_rises : (request : ℕ) (upto : Option (LogIdOf C)) (r : Option (Result (Unit {0}) InflightError))
      → IsAcknowledged eq cmp old id request upto r new → id_le cmp old.progress.granted new.progress.granted ≡ true
  ack_rises request upto (Some (Ok u)) s = (s.4.answered.done refl).monotone
  ack_rises request upto (Some (Err e)) s = same_granted (λ i. (sym s.3 i).progress.granted)
  ack_rises request upto None s = same_granted (λ i. (sym s.1 i).progress.granted)

  -- and a conflict leaves it
  pub conflict_rises : (request : Option ℕ) (index : ℕ) (r : Option (Result (Unit {0}) InflightError))
      → IsConflict eq cmp old id request index r new → id_le cmp old.progress.granted new.progress.granted ≡ true
  conflict_rises request index (Some (Ok u)) s = same_granted (λ i. (sym s.4 i).progress.granted)
  conflict_rises request index (Some (Err e)) s = same_granted (λ i. (sym s.3 i).progress.granted)
  conflict_rises request index None s = same_granted (λ i. (sym s.1 i).progress.granted)

  -- and neither changes the default
  pub ack_default : (request : ℕ) (upto : Option (LogIdOf C)) (r : Option (Result (Unit {0}) InflightError))
      → IsAcknowledged eq cmp old id request upto r new → new.progress.default_part ≡ old.progress.default_part
  ack_default request upto (Some (Ok u)) s = s.4.values.3.default_part
  ack_default request upto (Some (Err e)) s = λ i. (s.3 i).progress.default_part
  ack_default request upto None s = λ i. (s.1 i).progress.default_part

  pub conflict_default : (request : Option ℕ) (index : ℕ) (r : Option (Result (Unit {0}) InflightError))
      → IsConflict eq cmp old id request index r new → new.progress.default_part ≡ old.progress.default_part
  conflict_default request index (Some (Ok u)) s = λ i. (s.4 i).progress.default_part
  conflict_default request index (Some (Err e)) s = λ i. (s.3 i).progress.default_part
  conflict_default request index None s = λ i. (s.1 i).progress.default_part

-- ---- requests, by their results

-- what is put in flight is what an allowed send makes
pub request_sent : {C : Type 0} (can : Bool) (table : Result (ProgressEntryOf C) (ProgressEntryOf C)) (next : ProgressEntryOf C)
    → (let made : Option (ProgressEntryOf C) = (if can then sent table else None) in made) ≡ Some next
    → (can ≡ true) × (table ≡ Ok next)
request_sent true (Ok e) next h = let same : e ≡ next = cc in (refl, ap Ok same)
request_sent true (Err e) next h = cc
request_sent false table next h = cc

module _ {K N C : Type 0} (eq : K → K → Bool) (table : ProgressEntryOf C → Option (ProgressEntryOf C)) (old new : Followers K N C)
    (id : K) where
  follows : (x : InflightOf C) (s : IsRequest eq table old id (Some x) new) (entry : ProgressEntryOf C)
      (request : Option (ProgressEntryOf C)) → member_value eq old id ≡ Some entry → table entry ≡ request
      → FollowsRequest request s.0 x s.1
  follows x s entry request known is =
      let e : Some s.0 ≡ Some entry = sym s.2 ∙ known in
      let same : s.0 ≡ entry = cc in
      subst (λ (r : Option (ProgressEntryOf C)). FollowsRequest r s.0 x s.1) (ap table same ∙ is) s.3

  pub next_unknown : (r : Option (InflightOf C)) → IsRequest eq table old id r new → member_value eq old id ≡ None → r ≡ None
  next_unknown (Some x) s none = let e : Some s.0 ≡ None = sym s.2 ∙ none in cc
  next_unknown None s none = refl

  pub next_sent : (r : Option (InflightOf C)) → IsRequest eq table old id r new → (entry next : ProgressEntryOf C)
      → member_value eq old id ≡ Some entry → table entry ≡ Some next → r ≡ Some next.inflight
  next_sent (Some x) s entry next known is = ap Some (follows x s entry (Some next) known is).1
  next_sent None s entry next known is = let e : Some entry ≡ None = sym known ∙ s.0 in cc

  pub next_written : (r : Option (InflightOf C)) → IsRequest eq table old id r new → (entry next : ProgressEntryOf C)
      → member_value eq old id ≡ Some entry → table entry ≡ Some next → new ≡ with_member_value eq old id next
  next_written (Some x) s entry next known is =
      s.4 ∙ ap (λ n. with_member_value eq old id n) (follows x s entry (Some next) known is).0
  next_written None s entry next known is = let e : Some entry ≡ None = sym known ∙ s.0 in cc

  pub next_idle : (r : Option (InflightOf C)) → IsRequest eq table old id r new → (entry : ProgressEntryOf C)
      → member_value eq old id ≡ Some entry → table entry ≡ None → r ≡ Some Idle
  next_idle (Some x) s entry known is = ap Some (follows x s entry None known is).1
  next_idle None s entry known is = let e : Some entry ≡ None = sym known ∙ s.0 in cc

  pub next_kept : (r : Option (InflightOf C)) → IsRequest eq table old id r new → (entry : ProgressEntryOf C)
      → member_value eq old id ≡ Some entry → table entry ≡ None → new ≡ old
  next_kept (Some x) s entry known is =
      s.4 ∙ ap (λ n. with_member_value eq old id n) (follows x s entry None known is).0 ∙ same_member eq old id s.0 s.2
  next_kept None s entry known is = let e : Some entry ≡ None = sym known ∙ s.0 in cc

  pub next_none : (r : Option (InflightOf C)) → IsRequest eq table old id r new → r ≡ None → new ≡ old
  next_none (Some x) s none = cc
  next_none None s none = s.1

  -- a request leaves the default
  pub next_default : (r : Option (InflightOf C)) → IsRequest eq table old id r new
      → new.progress.default_part ≡ old.progress.default_part
  next_default (Some x) s = λ i. (s.4 i).progress.default_part
  next_default None s = λ i. (s.1 i).progress.default_part
