-- What a call that follows a table says of the table, by its result, and what responses and requests
-- leave of a match.
use Rattle.std.specs.Prelude.{◌≡◌, ℕ, Bool, true, false, Option, Some, None, Result, Ok, Err, nat_lt, refl, if◌then◌else◌}
use Rattle.std.specs.Option.{option_map, option_or}
use Rattle.std.specs.declared.cmp.Ordering.{Ordering}
use Rattle.std.proofs.Common.{ap, sym, subst}
use Rattle.raft_base.specs.LogId.{next_index}
use Rattle.raft_base.specs.LogView.{LogView, prev_id}
use Rattle.raft_base.specs.declared.log_id.LogIdOf.{LogIdOf}
use Rattle.raft_progress.specs.entry.EntryTable.{entry_after_conflict, with_search_end}
use Rattle.raft_progress.specs.entry.Probe.{after_probe, after_send, is_probe_due, limit_of, with_probe}
use Rattle.raft_progress.specs.entry.Request.{FollowsRequest, after_request, sent}
use Rattle.raft_progress.specs.entry.Send.{can_send, idle_send_table, send_table}
use Rattle.raft_progress.specs.inflight.Inflight.{is_idle}
use Rattle.raft_progress.specs.inflight.InflightTable.{FollowsTable, inflight_after_conflict}
use Rattle.raft_progress.specs.tracked.Followers.{IsResponse}
use Rattle.raft_progress.specs.declared.entry.ProgressEntryOf.{ProgressEntryOf}
use Rattle.raft_progress.specs.declared.inflight.InflightError.{InflightError}
use Rattle.raft_progress.specs.declared.inflight.InflightOf.{InflightOf}
use Rattle.raft_progress.specs.declared.inflight.InflightOf.TheVariants.{None as Idle}

-- a call that is not refused leaves the table's value
pub taken_by : {S E U : Type 0} (table : Result S E) (old new : S) (u : U) → FollowsTable table old (Ok u) new
    → table ≡ Ok new
taken_by (Ok s) old new u is = ap Ok (sym is)
taken_by (Err e) old new u never = absurd never

-- a call that is refused has the table's error, and leaves the value as it was
pub refused_by : {S E : Type 0} (U : Type 0) (table : Result S E) (old new : S) (e : E)
    → FollowsTable {U = U} table old (Err e) new → (table ≡ Err e) × (new ≡ old)
refused_by U (Ok s) old new e never = absurd never
refused_by U (Err f) old new e both = (ap Err (sym both.0), both.1)

-- a call that follows a table is a response of a known member
pub responds : {V E U S : Type 0} (value : Option V) (table : V → Result V E) (Writes : V → Type 0) (old new : S) (entry next : V)
    (result : Result U E) → value ≡ Some entry → FollowsTable (table entry) entry result next → Writes next
    → (next ≡ entry → new ≡ old) → IsResponse value table Writes old (Some result) new
responds value table Writes old new entry next (Ok u) known follows written kept =
    (entry, next, known, taken_by (table entry) entry next u follows, written)
responds value table Writes old new entry next (Err e) known follows written kept =
    let refused = refused_by _ (table entry) entry next e follows in (entry, known, refused.0, kept refused.1)

-- a value that a table leaves is as it was or the table's
pub followed : {S E U : Type 0} (P : S → Type 0) (table : Result S E) (old : S) (result : Result U E) (new : S)
    → P old → ((s : S) → table ≡ Ok s → P s) → FollowsTable table old result new → P new
followed P (Ok s) old (Ok u) new p q h = subst P (sym h) (q s refl)
followed P (Err e) old (Err f) new p q h = subst P (sym h.1) p
followed P (Ok s) old (Err f) new p q h = absurd h
followed P (Err e) old (Ok u) new p q h = absurd h

-- of the two that a choice among three gives as Ok, what holds of both
either : {S E : Type 0} (P : S → Type 0) (a b : Bool) (x y : S) (e : E) (n : S) → P x → P y
    → (if a then Ok x else if b then Err e else Ok y) ≡ Ok n → P n
either P true b x y e n px py h = let same : x ≡ n = cc in subst P same px
either P false true x y e n px py h = cc
either P false false x y e n px py h = let same : y ≡ n = cc in subst P same py

if_idle : {S E : Type 0} (P : S → Type 0) (a : Bool) (r : Result S E) (e : E) (n : S)
    → (r ≡ Ok n → P n) → (if a then r else Err e) ≡ Ok n → P n
if_idle P true r e n p h = p h
if_idle P false r e n p h = cc

if_sent : {C : Type 0} (P : ProgressEntryOf C
    → Type 0) (a : Bool) (r : Result (ProgressEntryOf C) (ProgressEntryOf C)) (n : ProgressEntryOf C)
    → ((m : ProgressEntryOf C) → r ≡ Ok m → P m) → (if a then sent r else None) ≡ Some n → P n
if_sent P true (Ok m) n p h = let same : m ≡ n = cc in subst P same (p m refl)
if_sent P true (Err m) n p h = cc
if_sent P false r n p h = cc

module _ {C : Type 0} (cmp : C → C → Ordering) where
  -- a send leaves the match
  pub send_keeps : (entry new : ProgressEntryOf C) (log : LogView C) (max_entries : ℕ)
      → send_table cmp entry log max_entries ≡ Ok new → new.matching ≡ entry.matching
  send_keeps entry new log max_entries h =
      if_idle (λ (n : ProgressEntryOf C). n.matching ≡ entry.matching) (is_idle entry.inflight)
      (idle_send_table cmp entry log max_entries) entry new
      (λ k. either (λ (n : ProgressEntryOf C). n.matching ≡ entry.matching) _ _ _ _ entry new refl refl k) h

  -- and so does the next request
  pub request_keeps : (entry new : ProgressEntryOf C) (log : LogView C) (max_entries : ℕ)
      → after_request cmp entry log max_entries ≡ Some new → new.matching ≡ entry.matching
  request_keeps entry new log max_entries h =
      if_sent (λ (n : ProgressEntryOf C). n.matching ≡ entry.matching) (can_send entry log) (send_table cmp entry log max_entries) new
      (λ m k. send_keeps entry m log max_entries k) h

-- a probe leaves the match
probe_matches : {C : Type 0} (entry next : ProgressEntryOf C) (due : Bool) (prev : Option (LogIdOf C))
    → (let made : Option (ProgressEntryOf C) = (if due then option_map (with_probe entry) prev else None) in made) ≡ Some next
    → next.matching ≡ entry.matching
probe_matches entry next true (Some id) h = let same : with_probe entry id ≡ next = cc in ap (λ e. e.matching) (sym same)
probe_matches entry next true None h = cc
probe_matches entry next false prev h = cc

pub probe_keeps : {C : Type 0} (entry next : ProgressEntryOf C) (log : LogView C) → after_probe entry log ≡ Some next
    → next.matching ≡ entry.matching
probe_keeps entry next log h = probe_matches entry next (is_probe_due entry log) (prev_id log.id_at entry.searching_end) h

first_of : {C : Type 0} (P : ProgressEntryOf C → Type 0) (probe request : Option (ProgressEntryOf C)) (n : ProgressEntryOf C)
    → ((m : ProgressEntryOf C) → probe ≡ Some m → P m) → ((m : ProgressEntryOf C) → request ≡ Some m → P m)
    → option_or probe request ≡ Some n → P n
first_of P (Some m) request n p q h = let same : m ≡ n = cc in subst P same (p m refl)
first_of P None request n p q h = q n h

-- and so does a probe or the next request
pub next_keeps : {C : Type 0} (cmp : C → C → Ordering) (entry new : ProgressEntryOf C) (log : LogView C) (max_entries : ℕ)
    → after_send cmp entry log max_entries ≡ Some new → new.matching ≡ entry.matching
next_keeps cmp entry new log max_entries h =
    first_of (λ (n : ProgressEntryOf _). n.matching ≡ entry.matching) (after_probe entry log)
    (after_request cmp entry log (limit_of entry max_entries)) new
    (λ m k. probe_keeps entry m log k) (λ m k. request_keeps cmp entry m log (limit_of entry max_entries) k) h

-- a call that says whether a request is made leaves what each request leaves
module _ {C : Type 0} (request : Option (ProgressEntryOf C)) (old new : ProgressEntryOf C) where
  pub requests : (made : Bool) → request ≡ (if made then Some new else None) → (made ≡ false → new ≡ old)
      → FollowsRequest request old (if made then new.inflight else Idle) new
  requests true is same = subst (λ (r : Option (ProgressEntryOf C)). FollowsRequest r old new.inflight new) (sym is) (refl, refl)
  requests false is same = subst (λ (r : Option (ProgressEntryOf C)). FollowsRequest r old Idle new) (sym is) (same refl, refl)

  pub made_by : (P : ProgressEntryOf C → Type 0) → P old → ((n : ProgressEntryOf C) → request ≡ Some n → P n) → (made : Bool)
      → request ≡ (if made then Some new else None) → (made ≡ false → new ≡ old) → P new
  made_by P p q true is same = q new is
  made_by P p q false is same = subst P (sym (same refl)) p

-- a call that makes the next request leaves what each request leaves
pub requested : {C : Type 0} (P : ProgressEntryOf C → Type 0) (request : Option (ProgressEntryOf C)) (old : ProgressEntryOf C)
    (sending : InflightOf C) (new : ProgressEntryOf C) → P old → ((n : ProgressEntryOf C) → request ≡ Some n → P n)
    → FollowsRequest request old sending new → P new
requested P (Some n) old sending new p q h = subst P (sym h.0) (q n refl)
requested P None old sending new p q h = subst P (sym h.0) p

lower : {S E : Type 0} (P : S → Type 0) (a b : Bool) (x y : S) (e : E) (n : S) → P x → P y
    → (if a then (if b then Err e else Ok x) else Ok y) ≡ Ok n → P n
lower P true true x y e n px py h = cc
lower P true false x y e n px py h = let same : x ≡ n = cc in subst P same px
lower P false b x y e n px py h = let same : y ≡ n = cc in subst P same py

search_keeps : {C : Type 0} (entry new : ProgressEntryOf C) (index : ℕ) (r : Result (InflightOf C) InflightError)
    → with_search_end entry index r ≡ Ok new → new.matching ≡ entry.matching
search_keeps entry new index (Err e) h = cc
search_keeps entry new index (Ok inflight) h =
    lower (λ (n : _). n.matching ≡ entry.matching) (nat_lt index entry.searching_end) (nat_lt index (next_index entry.matching))
    _ _ _ new refl refl h

-- a conflict leaves the match
pub conflict_keeps : {C : Type 0} (entry new : ProgressEntryOf C) (request : Option ℕ) (index : ℕ)
    → entry_after_conflict entry request index ≡ Ok new → new.matching ≡ entry.matching
conflict_keeps entry new None index h = search_keeps entry new index (Ok entry.inflight) h
conflict_keeps entry new (Some id) index h = search_keeps entry new index (inflight_after_conflict entry.inflight id index) h
