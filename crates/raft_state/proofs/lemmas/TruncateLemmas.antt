-- A state that is truncated past what is committed stays valid.
use Rattle.std.proofs.Common.{◌≡◌, ℕ, ◌==◌, Bool, true, false, List, [], ◌∷◌, Option, Some, None, if◌then◌else◌, nat_lt, refl, arith, inl, inr}
use Rattle.std.proofs.lemmas.Bool.{and_parts, cases_lt}
use Rattle.std.proofs.lemmas.Bool.Decides.{nat_tests}
use Rattle.std.specs.declared.cmp.Ordering.{Ordering}
use Rattle.std.specs.Cmp.{IsTotalOrder, nat_cmp_total}
use Rattle.std.specs.Cmp.Lexicographic.{options_total}
use Rattle.raft_base.specs.LogId.{id_le, index_of, next_index}
use Rattle.raft_base.specs.LogIdLawful.{optional-log_id_cmp-total}
use Rattle.raft_base.specs.LogIndex.{index_le}
use Rattle.raft_base.specs.Validate.{first_false}
use Rattle.raft_base.specs.declared.log_id.LogIdOf.{LogIdOf}
use Rattle.raft_members.specs.membership.Stored.{log_id_of}
use Rattle.raft_progress.proofs.lemmas.OrderLemmas.{AtMost-refl, AtMost-trans}
use Rattle.raft_state.proofs.lemmas.log_id_list.FrontLemmas.{front_none}
use Rattle.raft_state.proofs.lemmas.log_id_list.IdOrderLemmas.{none_at_most}
use Rattle.raft_state.proofs.lemmas.validate.RelationLemmas.{all_hold, hold_all}
use Rattle.raft_state.proofs.lemmas.log_id_list.OrderLemmas.{From}
use Rattle.raft_state.specs.log_id_list.FullLog.{full_log}
use Rattle.raft_state.specs.log_id_list.LogEdits.{front}
use Rattle.raft_state.specs.log_id_list.LogReads.{first_id, last_id}
use Rattle.raft_state.specs.membership_state.MembershipMoves.{after_truncate, is_cut}
use Rattle.raft_state.specs.membership_state.MembershipRelations.{membership_relations}
use Rattle.raft_state.specs.membership_state.Memberships.{Memberships, index_at}
use Rattle.raft_state.specs.raft_state.Truncate.{can_truncate_log}
use Rattle.raft_state.specs.raft_state.Valid.{broken_relation, fits_purged_next, upto_relation}
use Rattle.raft_state.specs.declared.raft_state.RaftStateIn.{RaftStateIn}

-- nothing stays: nothing was purged
none_purged : {C : Type 0} (cmp : C → C → Ordering) (next : ℕ) (t : Bool) (x : LogIdOf C)
    → id_le cmp (if t then None else Some x) None ≡ true
    → (if t then index_le (index_of {C = C} None) (Some 0) else next_index {C = C} None == next) ≡ true
none_purged cmp next true x h = refl
none_purged cmp next false x h = cc

none_below_all : {C : Type 0} (cmp : C → C → Ordering) (t : Bool) (upto : Option (LogIdOf C))
    → id_le cmp (if t then None else None) upto ≡ true
none_below_all cmp true upto = none_at_most cmp upto
none_below_all cmp false upto = none_at_most cmp upto

module _ {C : Type 0} {cmp : C → C → Ordering} (total : IsTotalOrder cmp) where
  -- a purge point is not past what is committed
  pub upto_committed : (upto committed snapshot : Option (LogIdOf C)) → (upto_relation cmp upto committed snapshot).0 ≡ true
      → id_le cmp snapshot committed ≡ true → id_le cmp upto committed ≡ true
  upto_committed upto committed None h k = h
  upto_committed upto committed (Some s) h k = AtMost-trans (optional-log_id_cmp-total total) upto (Some s) committed h k

  -- the log begins where it did, or nothing was purged
  cut_begins : (next a b : ℕ) (log : List (LogIdOf C)) (committed : Option (LogIdOf C)) → From b log
      → fits_purged_next next (first_id log) ≡ true
      → id_le cmp (if next == 0 then None else first_id log) committed ≡ true → id_le cmp committed (last_id (front log a)) ≡ true
      → fits_purged_next next (first_id (front log a)) ≡ true
  cut_begins next a b [] committed row fits low up = fits
  cut_begins next a b (x ∷ xs) committed row fits low up = let x0 = row.0 in elim (cases_lt x.index a) [
    | inl below ↦ (let t : nat_lt x.index a ≡ true = grind (arith, nat_tests) in rw t fits)
    | inr past ↦ (let none = front_none b a (x ∷ xs) row (omega arith) in
        rw none (none_purged cmp next (next == 0) x
        (AtMost-trans (optional-log_id_cmp-total total) (if next == 0 then None else Some x) committed None low (rw none at up))))
  ]

  cut_purged : (t : Bool) (a b : ℕ) (log : List (LogIdOf C)) (upto : Option (LogIdOf C)) → From b log
      → id_le cmp (if t then None else first_id log) upto ≡ true → id_le cmp (if t then None else first_id (front log a)) upto ≡ true
  cut_purged t a b [] upto row low = low
  cut_purged t a b (x ∷ xs) upto row low = let x0 = row.0 in elim (cases_lt x.index a) [
    | inl below ↦ (let u : nat_lt x.index a ≡ true = grind (arith, nat_tests) in rw u low)
    | inr past ↦ rw (front_none b a (x ∷ xs) row (omega arith)) (none_below_all cmp t upto)
  ]

  -- valid memberships stay valid
  pub cut_members_stay : {K N : Type 0} (since : ℕ) (m : Memberships C K N) → first_false (membership_relations cmp m) ≡ None
      → first_false (membership_relations cmp (after_truncate since m)) ≡ None
  cut_members_stay since m h = by (is_cut since m)
    where
      by : (t : Bool) → first_false (membership_relations cmp
          (if t then record { committed = m.committed; effective = m.committed } else m)) ≡ None
      by true = hold_all _ _ _ (AtMost-refl (optional-log_id_cmp-total total) (log_id_of m.committed))
          (hold_all _ _ _ (AtMost-refl (options_total nat_cmp_total) (index_at m.committed)) refl)
      by false = h

  pub cut_stays_valid : {K N I L : Type 0} (s : RaftStateIn K N I L C) (since b : ℕ) (keys : List (LogIdOf C)) (m : Memberships C K N)
      → From b (full_log s.log_ids)
      → full_log keys ≡ front (full_log s.log_ids) since → m ≡ after_truncate since s.membership_state → can_truncate_log cmp since s ≡ true
      → broken_relation cmp s ≡ None → broken_relation cmp (record s { log_ids = keys; membership_state = m }) ≡ None
  cut_stays_valid s since b keys m row is is_m may valid =
      let fits = all_hold _ _ _ valid in
      let purge_point = all_hold _ _ _ fits.1 in
      let upto = all_hold _ _ _ purge_point.1 in
      let snapshot = all_hold _ _ _ upto.1 in
      let committed = all_hold _ _ _ snapshot.1 in
      let log = full_log s.log_ids in
      let in_log = (and_parts _ _ (and_parts _ _ may).0).1 in
      let low = AtMost-trans (optional-log_id_cmp-total total) (if s.purged_next == 0 then None else first_id log) s.purge_upto s.committed
      purge_point.0
      (upto_committed s.purge_upto s.committed s.snapshot_meta.last_log_id upto.0 snapshot.0) in
      let ends : id_le cmp s.committed (last_id (full_log keys)) ≡ true = rw is in_log in
      let members : first_false (membership_relations cmp m) ≡ None = rw is_m (cut_members_stay since s.membership_state committed.1) in
      let begins : fits_purged_next s.purged_next (first_id (full_log keys)) ≡ true =
      rw is (cut_begins s.purged_next since b log s.committed row fits.0 low in_log) in
      let purged : id_le cmp (if s.purged_next == 0 then None else first_id (full_log keys)) s.purge_upto ≡ true =
      rw is (cut_purged (s.purged_next == 0) since b log s.purge_upto row purge_point.0) in
      hold_all _ _ _ begins (hold_all _ _ _ purged (hold_all _ _ _ upto.0 (hold_all _ _ _ snapshot.0 (hold_all _ _ _ ends members))))
