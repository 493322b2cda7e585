-- A state whose log is extended stays valid.
use Rattle.std.proofs.Common.{◌≡◌, ℕ, ◌==◌, Bool, true, false, List, [], ◌∷◌, Option, Some, None, if◌then◌else◌, IsTrue, nat_eq, refl, ap, arith, ◌∙◌}
use Rattle.std.proofs.lemmas.Bool.{and_parts}
use Rattle.std.proofs.lemmas.Bool.Decides.{nat_tests}
use Rattle.std.specs.declared.cmp.Ordering.{Ordering}
use Rattle.std.specs.Cmp.{IsTotalOrder}
use Rattle.std.specs.Option.{option_or}
use Rattle.std.specs.Ordering.{is_eq}
use Rattle.raft_base.specs.LogId.{id_le, index_of, next_index, same_ids}
use Rattle.raft_base.specs.LogIdLawful.{optional-log_id_cmp-total}
use Rattle.raft_base.specs.LogIndex.{index_le, next_index_of}
use Rattle.raft_base.specs.Validate.{first_false}
use Rattle.raft_base.specs.declared.log_id.LogIdOf.{LogIdOf}
use Rattle.raft_progress.proofs.lemmas.OrderLemmas.{AtMost-refl, AtMost-trans}
use Rattle.raft_state.proofs.lemmas.log_id_list.IdOrderLemmas.{none_at_most, then_below, upto_equal}
use Rattle.raft_state.proofs.lemmas.log_id_list.ExtendLemmas.{extend_raises, first_extended}
use Rattle.raft_state.proofs.lemmas.validate.RelationLemmas.{all_hold, hold_all}
use Rattle.raft_state.proofs.lemmas.log_id_list.SameEditsLemmas.{first_id_finds}
use Rattle.raft_state.specs.raft_state.Appended.{begins_at_zero}
use Rattle.raft_state.specs.log_id_list.FullLog.{full_log, same_log}
use Rattle.raft_state.specs.log_id_list.LogConditions.{all_follow}
use Rattle.raft_state.specs.log_id_list.LogEdits.{log_after_extend}
use Rattle.raft_state.specs.log_id_list.LogReads.{first_id, last_id}
use Rattle.raft_state.specs.membership_state.MembershipRelations.{membership_relations}
use Rattle.raft_state.specs.membership_state.Memberships.{Memberships}
use Rattle.raft_state.specs.raft_state.Valid.{broken_relation, fits_purged_next}
use Rattle.raft_state.specs.declared.raft_state.RaftStateIn.{RaftStateIn}

-- equal log ids have one index
same_index : {C : Type 0} (eq : C → C → Bool) (a b : Option (LogIdOf C)) → same_ids eq a b ≡ true → index_of a ≡ index_of b
same_index eq None None h = refl
same_index eq None (Some y) h = cc
same_index eq (Some x) None h = cc
same_index eq (Some x) (Some y) h =
    let d1 = (and_parts (eq x.leader_id y.leader_id) (nat_eq x.index y.index) h).1 in
    let at : x.index ≡ y.index = grind (arith, nat_tests) in ap Some at

-- whether a log begins at the last purged index depends on its first index alone
fits_same : {C : Type 0} (next : ℕ) (a b : Option (LogIdOf C)) → index_of a ≡ index_of b → fits_purged_next next b ≡ true
    → fits_purged_next next a ≡ true
fits_same next a b same fits = ap (λ (i : Option ℕ). if next == 0 then index_le i (Some 0) else next_index_of i == next) same ∙ fits

-- an empty log that nothing was purged of may begin at index 0
fits_first : {C : Type 0} (next : ℕ) (first : Option (LogIdOf C)) → fits_purged_next {C = C} next None ≡ true
    → index_le (index_of first) (Some 0) ≡ true → fits_purged_next next first ≡ true
fits_first {C} next first fits zero = by (next == 0) refl fits
  where
    by : (t : Bool) → t ≡ (next == 0) → (if t then index_le (index_of {C = C} None) (Some 0) else next_index {C = C} None == next) ≡ true
        → (if t then index_le (index_of first) (Some 0) else next_index first == next) ≡ true
    by true is fits = zero
    by false is fits = absurd (grind (arith, nat_tests))

module _ {C : Type 0} (cmp : C → C → Ordering) (eq : C → C → Bool) (total : IsTotalOrder cmp)
    (law : (x y : C) → eq x y ≡ is_eq (cmp x y)) where
  -- what equals a log id is at most what that one is
  same_below : (a b c : Option (LogIdOf C)) → same_ids eq a b ≡ true → id_le cmp b c ≡ true → id_le cmp a c ≡ true
  same_below None b c h le = none_at_most cmp c
  same_below (Some x) None c h le = cc
  same_below (Some x) (Some y) c h le =
      let d = and_parts (eq x.leader_id y.leader_id) (nat_eq x.index y.index) h in let d1 = d.1 in
      let index : x.index ≡ y.index = grind (arith, nat_tests) in
      let leader = upto_equal cmp eq total law x.leader_id y.leader_id y.leader_id d.0 (AtMost-refl total y.leader_id) in
      let below = then_below (cmp x.leader_id y.leader_id) x.index y.index leader (omega arith) in
      AtMost-trans (optional-log_id_cmp-total total) (Some x) (Some y) c below le

  -- a log that begins where it did, or an empty one at index 0
  extended_begins : (next : ℕ) (log ids : List (LogIdOf C)) (first : Option (LogIdOf C))
      → same_ids eq first (option_or (first_id log) (first_id ids)) ≡ true → begins_at_zero log ids ≡ true
      → fits_purged_next next (first_id log) ≡ true → fits_purged_next next first ≡ true
  extended_begins next [] ids first same zero fits =
      fits_same next first (first_id ids) (same_index eq first (first_id ids) same) (fits_first next (first_id ids) fits zero)
  extended_begins next (x ∷ log) ids first same zero fits = fits_same next first (Some x) (same_index eq first (Some x) same) fits

  extended_purged : (next : ℕ) (log ids : List (LogIdOf C)) (first upto : Option (LogIdOf C))
      → same_ids eq first (option_or (first_id log) (first_id ids)) ≡ true
      → fits_purged_next next (first_id log) ≡ true → id_le cmp (if next == 0 then None else first_id log) upto ≡ true
      → id_le cmp (if next == 0 then None else first) upto ≡ true
  extended_purged next [] ids first upto same fits low = by (next == 0) refl fits
    where
      by : (t : Bool) → t ≡ (next == 0) → (if t then index_le (index_of {C = C} None) (Some 0) else next_index {C = C} None == next) ≡ true
          → id_le cmp (if t then None else first) upto ≡ true
      by true is fits = none_at_most cmp upto
      by false is fits = absurd (grind (arith, nat_tests))
  extended_purged next (x ∷ log) ids first upto same fits low = by (next == 0) low
    where
      by : (t : Bool) → id_le cmp (if t then None else Some x) upto ≡ true → id_le cmp (if t then None else first) upto ≡ true
      by true low = low
      by false low = same_below first (Some x) upto same low

  -- with memberships that are valid
  pub extended_stays_valid : {K N I L : Type 0} (s : RaftStateIn K N I L C) (ids keys : List (LogIdOf C)) (m : Memberships C K N)
      → IsTrue (same_log eq (full_log keys) (log_after_extend (full_log s.log_ids) ids))
      → last_id (full_log keys) ≡ option_or (last_id ids) (last_id (full_log s.log_ids))
      → all_follow cmp (last_id (full_log s.log_ids)) ids ≡ true → begins_at_zero (full_log s.log_ids) ids ≡ true
      → (first_false (membership_relations cmp s.membership_state) ≡ None → first_false (membership_relations cmp m) ≡ None)
      → broken_relation cmp s ≡ None → broken_relation cmp (record s { log_ids = keys; membership_state = m }) ≡ None
  extended_stays_valid s ids keys m same last follow zero members valid =
      let fits = all_hold _ _ _ valid in
      let purge_point = all_hold _ _ _ fits.1 in
      let upto = all_hold _ _ _ purge_point.1 in
      let snapshot = all_hold _ _ _ upto.1 in
      let committed = all_hold _ _ _ snapshot.1 in
      let log = full_log s.log_ids in
      let first : same_ids eq (first_id (full_log keys)) (option_or (first_id log) (first_id ids)) ≡ true =
      rw (first_extended log ids) at (first_id_finds eq (full_log keys) (log_after_extend log ids) same) in
      let begins : fits_purged_next s.purged_next (first_id (full_log keys)) ≡ true =
      extended_begins s.purged_next log ids (first_id (full_log keys)) first zero fits.0 in
      let purged : id_le cmp (if s.purged_next == 0 then None else first_id (full_log keys)) s.purge_upto ≡ true =
      extended_purged s.purged_next log ids (first_id (full_log keys)) s.purge_upto first fits.0 purge_point.0 in
      let ends : id_le cmp s.committed (last_id (full_log keys)) ≡ true =
      rw last (AtMost-trans (optional-log_id_cmp-total total) s.committed (last_id log) (option_or (last_id ids) (last_id log)) committed.0
      (extend_raises total (last_id log) ids follow)) in
      hold_all _ _ _ begins (hold_all _ _ _ purged
      (hold_all _ _ _ upto.0 (hold_all _ _ _ snapshot.0 (hold_all _ _ _ ends (members committed.1)))))
