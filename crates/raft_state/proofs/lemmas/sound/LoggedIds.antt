-- Log ids that a log has, and what edits of the log leave of them.
use Rattle.std.proofs.Common.{◌≡◌, ℕ, ◌+◌, ◌<◌, ◌≤◌, Bool, true, false, ◌||◌, List, Option, Some, None, nat_eq, nat_le, refl, sym, arith, inl, inr, true≢false, ◌∙◌}
use Rattle.std.proofs.lemmas.Bool.{cases_lt, or_left, or_right}
use Rattle.std.proofs.lemmas.Bool.Decides.{nat_tests}
use Rattle.std.specs.declared.cmp.Ordering.{Ordering}
use Rattle.std.specs.Cmp.{IsEquivalence, IsTotalOrder}
use Rattle.std.specs.Cmp.Derive.{both_true}
use Rattle.std.specs.Ordering.{is_eq, is_le}
use Rattle.raft_base.specs.LogId.{id_le, index_of, next_index, same_ids}
use Rattle.raft_base.specs.LogIdLawful.{optional-log_id_cmp-total}
use Rattle.raft_base.specs.LogIndex.{index_le, index_lt}
use Rattle.raft_base.specs.declared.log_id.LogIdOf.{LogIdOf}
use Rattle.raft_progress.proofs.lemmas.OrderLemmas.{AtMost-refl, AtMost-trans, not_lt-from_AtMost}
use Rattle.raft_state.proofs.lemmas.log_id_list.IdOrderLemmas.{leaders_symm, leaders_trans, none_at_most, then_below, then_less, upto_equal}
use Rattle.raft_state.proofs.lemmas.log_id_list.KeptLemmas.{end_at, front_reads, has_id_at, purged_reads}
use Rattle.raft_state.proofs.lemmas.log_id_list.KeyListLemmas.{IsKeyList}
use Rattle.raft_state.proofs.lemmas.log_id_list.OrderLemmas.{From, index_within, never_fall_by_index, none_above_last}
use Rattle.raft_state.proofs.lemmas.log_id_list.SameLogLemmas.{equal_found}
use Rattle.raft_state.specs.log_id_list.FullLog.{end_index, first_index, full_log}
use Rattle.raft_state.specs.log_id_list.LogEdits.{front, log_after_purge}
use Rattle.raft_state.specs.log_id_list.LogKept.{KeepsIds}
use Rattle.raft_state.specs.log_id_list.LogReads.{id_at, last_id}
use Rattle.raft_state.specs.log_id_list.LogReadsLawful.{id_at-indexed}
use Rattle.raft_state.specs.raft_state.Sound.{purged_or_logged}
use Rattle.raft_state.specs.raft_state.VoteAndLog.{log_view_of}
use Rattle.raft_state.specs.raft_state.Valid.{none_or_logged}
use Rattle.raft_state.specs.declared.raft_state.RaftStateIn.{RaftStateIn}

-- a log has a log id, if there is one
abbrev pub in_log : {C : Type 0} → (C → C → Bool) → List (LogIdOf C) → Option (LogIdOf C) → Bool
in_log eq log None = true
in_log eq log (Some id) = same_ids eq (id_at log id.index) (Some id)

-- or its index is purged
abbrev pub purged_or_in : {C : Type 0} → (C → C → Bool) → ℕ → List (LogIdOf C) → Option (LogIdOf C) → Bool
purged_or_in eq next log id = nat_le (next_index id) next || in_log eq log id

pub is_logged : {K N I L C : Type 0} (eq : C → C → Bool) (s : RaftStateIn K N I L C) (o : Option (LogIdOf C))
    → none_or_logged eq (log_view_of s) o ≡ in_log eq (full_log s.log_ids) o
is_logged eq s None = refl
is_logged eq s (Some id) = refl

pub is_kept : {K N I L C : Type 0} (eq : C → C → Bool) (s : RaftStateIn K N I L C) (o : Option (LogIdOf C))
    → purged_or_logged eq s o ≡ purged_or_in eq s.purged_next (full_log s.log_ids) o
is_kept eq s None = refl
is_kept eq s (Some id) = refl

pub either_second : (s t : Bool) → s ≡ false → s || t ≡ true → t ≡ true
either_second s t e h = rw e at h

-- what an index past a log id, and one not past it, says of the end
pub ends_before : {C : Type 0} (o : Option (LogIdOf C)) (since : ℕ) → index_lt (index_of o) (Some since) ≡ true → next_index o ≤ since
ends_before None since h = omega arith
ends_before (Some id) since h = grind (arith, nat_tests)

pub ends_not_past : {C : Type 0} (o : Option (LogIdOf C)) (since : ℕ) → index_le (Some since) (index_of o) ≡ false → next_index o ≤ since
ends_not_past None since h = omega arith
ends_not_past (Some id) since h = grind (arith, nat_tests)

pub ends_past : {C : Type 0} (o : Option (LogIdOf C)) (i : ℕ) → index_le (Some i) (index_of o) ≡ true → i < next_index o
ends_past None i h = cc
ends_past (Some id) i h = grind (arith, nat_tests)

pub ends_by : {C : Type 0} (o : Option (LogIdOf C)) (i : ℕ) → index_le (index_of o) (Some i) ≡ true → next_index o ≤ i + 1
ends_by None i h = omega arith
ends_by (Some id) i h = grind (arith, nat_tests)

pub ends_after : {C : Type 0} (o : Option (LogIdOf C)) (i : ℕ) → index_le (index_of o) (Some i) ≡ false → i + 1 < next_index o
ends_after None i h = cc
ends_after (Some id) i h = grind (arith, nat_tests)

module _ {C : Type 0} (eq : C → C → Bool) where
  -- a log id that a log has is within it
  pub within : (b : ℕ) (log : List (LogIdOf C)) (id : LogIdOf C) → From b log → in_log eq log (Some id) ≡ true
      → (b ≤ id.index) × (id.index < end_index log)
  within b log id row h =
      let f = equal_found eq (id_at log id.index) id h in
      let w = index_within b id.index log f.0 row f.1 in let w0 = w.0 in let w1 = w.1 in
      let e = end_at b log row w.1 w.0 in (omega arith, omega arith)

  -- and so is each index from the first one up to it
  pub found_below : (b i : ℕ) (log : List (LogIdOf C)) (id : LogIdOf C) → From b log → in_log eq log (Some id) ≡ true → b ≤ i
      → i ≤ id.index → (x : LogIdOf C) × (id_at log i ≡ Some x)
  found_below b i log id row h from le =
      let f = equal_found eq (id_at log id.index) id h in
      let w = index_within b id.index log f.0 row f.1 in let w1 = w.1 in
      has_id_at b log i row from (omega arith)

  -- a truncation past it leaves it
  pub front_has : (log : List (LogIdOf C)) (since : ℕ) (o : Option (LogIdOf C)) → next_index o ≤ since → in_log eq log o ≡ true
      → in_log eq (front log since) o ≡ true
  front_has log since None le h = refl
  front_has log since (Some id) le h = rw (front_reads log since id.index (omega arith)) h

  pub front_keeps : (next : ℕ) (log : List (LogIdOf C)) (since : ℕ) (o : Option (LogIdOf C)) → next_index o ≤ since
      → purged_or_in eq next log o ≡ true → purged_or_in eq next (front log since) o ≡ true
  front_keeps next log since o le h = by (nat_le (next_index o) next) h
    where
      by : (t : Bool) → t || in_log eq log o ≡ true → t || in_log eq (front log since) o ≡ true
      by true h = refl
      by false h = front_has log since o le h

  -- a purge not past it leaves it
  pub purge_has : (log : List (LogIdOf C)) (upto : LogIdOf C) (o : Option (LogIdOf C)) → From (first_index log) log
      → upto.index < next_index o → in_log eq log o ≡ true → in_log eq (log_after_purge log upto) o ≡ true
  purge_has log upto None row lt h = refl
  purge_has log upto (Some id) row lt h =
      let w = within (first_index log) log id row h in
      rw (purged_reads log upto row id.index (omega arith) w.1) h

  pub purge_keeps : (next : ℕ) (log : List (LogIdOf C)) (upto : LogIdOf C) (o : Option (LogIdOf C)) → From (first_index log) log
      → next ≤ upto.index + 1 → purged_or_in eq next log o ≡ true
      → purged_or_in eq (upto.index + 1) (log_after_purge log upto) o ≡ true
  purge_keeps next log upto o row le h = elim (cases_lt (upto.index + 1) (next_index o)) [
    | inl past ↦
        (let t : nat_le (next_index o) next ≡ false = grind (arith, nat_tests) in
        or_right (nat_le (next_index o) (upto.index + 1)) (in_log eq (log_after_purge log upto) o)
        (purge_has log upto o row (omega arith) (either_second (nat_le (next_index o) next) (in_log eq log o) t h)))
    | inr covered ↦
        (let t : nat_le (next_index o) (upto.index + 1) ≡ true = grind (arith, nat_tests) in
        or_left (nat_le (next_index o) (upto.index + 1)) (in_log eq (log_after_purge log upto) o) t)
  ]

module _ {C : Type 0} (eq : C → C → Bool) (eqs : IsEquivalence eq) where
  pub same_itself : (o : Option (LogIdOf C)) → same_ids eq o o ≡ true
  same_itself None = refl
  same_itself (Some x) = let t : nat_eq x.index x.index ≡ true = grind (arith, nat_tests) in both_true (eqs.refl x.leader_id) t

  -- and what reads as before leaves it
  pub extension_has : (b : ℕ) (old new : List (LogIdOf C)) (o : Option (LogIdOf C)) → From b old → KeepsIds eq old new
      → in_log eq old o ≡ true → in_log eq new o ≡ true
  extension_has b old new None row kept h = refl
  extension_has b old new (Some id) row kept h =
      let w = within eq b old id row h in
      let f = equal_found eq (id_at old id.index) id h in let f3 = f.3 in
      let same = kept id.index w.1 in
      let g = equal_found eq (id_at new id.index) f.0 (rw f.1 at same) in let g3 = g.3 in
      let t : nat_eq g.0.index id.index ≡ true = grind (arith, nat_tests) in
      rw g.1 (both_true (leaders_trans eqs g.0.leader_id f.0.leader_id id.leader_id g.2 f.2) t)

  pub extension_keeps : (b next : ℕ) (old new : List (LogIdOf C)) (o : Option (LogIdOf C)) → From b old → KeepsIds eq old new
      → purged_or_in eq next old o ≡ true → purged_or_in eq next new o ≡ true
  extension_keeps b next old new o row kept h = by (nat_le (next_index o) next) h
    where
      by : (t : Bool) → t || in_log eq old o ≡ true → t || in_log eq new o ≡ true
      by true h = refl
      by false h = extension_has b old new o row kept h

module _ {C : Type 0} (cmp : C → C → Ordering) (eq : C → C → Bool) (total : IsTotalOrder cmp) (law : (x y : C) → eq x y ≡ is_eq (cmp x y))
    (eqs : IsEquivalence eq) where
  equal_leaders : (a b : C) → eq a b ≡ true → is_le (cmp a b) ≡ true
  equal_leaders a b e = upto_equal cmp eq total law a b b e (AtMost-refl total b)

  -- of two log ids of a log the lesser one has no greater index
  pub in_order : (ks : List (LogIdOf C)) (a b : Option (LogIdOf C)) → IsKeyList cmp ks → in_log eq (full_log ks) a ≡ true
      → in_log eq (full_log ks) b ≡ true → id_le cmp a b ≡ true → next_index a ≤ next_index b
  in_order ks None b are h g le = omega arith
  in_order ks (Some x) None are h g le = cc
  in_order ks (Some x) (Some y) are h g le = elim (cases_lt y.index x.index) [
    | inl before ↦
        (let f = equal_found eq (id_at (full_log ks) x.index) x h in
        let z = equal_found eq (id_at (full_log ks) y.index) y g in
        let falls = never_fall_by_index cmp total ks are y.index x.index z.0 f.0 before z.1 f.1 in
        let low = upto_equal cmp eq total law y.leader_id z.0.leader_id f.0.leader_id
        (leaders_symm eqs z.0.leader_id y.leader_id z.2) falls in
        let leader = AtMost-trans total y.leader_id f.0.leader_id x.leader_id low (equal_leaders f.0.leader_id x.leader_id f.2) in
        let less = then_less (cmp y.leader_id x.leader_id) y.index x.index leader before in
        let not_less = not_lt-from_AtMost (optional-log_id_cmp-total total) (Some x) (Some y) le in
        absurd (true≢false (sym less ∙ not_less)))
    | inr after ↦ omega arith
  ]

  -- what a log has up to an index is at most a log id that it has from there on
  pub at_below : (ks : List (LogIdOf C)) (i : ℕ) (p : LogIdOf C) → IsKeyList cmp ks → in_log eq (full_log ks) (Some p) ≡ true
      → i ≤ p.index → id_le cmp (id_at (full_log ks) i) (Some p) ≡ true
  at_below ks i p are h le = by (id_at (full_log ks) i) refl
    where
      by : (o : Option (LogIdOf C)) → id_at (full_log ks) i ≡ o → id_le cmp o (Some p) ≡ true
      by None e = refl
      by (Some x) e =
          let at : x.index ≡ i = rw e at (id_at-indexed (full_log ks) i) in
          let f = equal_found eq (id_at (full_log ks) p.index) p h in
          let upper = equal_leaders f.0.leader_id p.leader_id f.2 in
          elim (cases_lt i p.index) [
            | inl before ↦
                (let low = never_fall_by_index cmp total ks are i p.index x f.0 before e f.1 in
                then_below (cmp x.leader_id p.leader_id) x.index p.index
                (AtMost-trans total x.leader_id f.0.leader_id p.leader_id low upper) (omega arith))
            | inr same ↦
                (let index : i ≡ p.index = omega arith in
                let g = rw index at e in let is : x ≡ f.0 = cc in
                then_below (cmp x.leader_id p.leader_id) x.index p.index (rw is upper) (omega arith))
          ]

  -- and none that it has is above the last one
  pub at_most_last : (ks : List (LogIdOf C)) (o : Option (LogIdOf C)) → IsKeyList cmp ks → in_log eq (full_log ks) o ≡ true
      → id_le cmp o (last_id (full_log ks)) ≡ true
  at_most_last ks None are h = none_at_most cmp (last_id (full_log ks))
  at_most_last ks (Some id) are h =
      let f = equal_found eq (id_at (full_log ks) id.index) id h in let f3 = f.3 in
      let leader = equal_leaders id.leader_id f.0.leader_id (leaders_symm eqs f.0.leader_id id.leader_id f.2) in
      let low : id_le cmp (Some id) (Some f.0) ≡ true =
      then_below (cmp id.leader_id f.0.leader_id) id.index f.0.index leader (omega arith) in
      let above = none_above_last cmp total ks are id.index in
      AtMost-trans (optional-log_id_cmp-total total) (Some id) (Some f.0) (last_id (full_log ks)) low (rw f.1 at above)
