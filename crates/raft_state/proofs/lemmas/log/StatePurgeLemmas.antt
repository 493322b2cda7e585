-- A state whose log is purged stays valid.
use Rattle.std.proofs.Common.{◌≡◌, ℕ, ◌+◌, ◌==◌, ◌≤◌, ◌<◌, Bool, true, false, ◌&&◌, List, [], ◌∷◌, Option, Some, None, if◌then◌else◌, IfSome, nat_lt, nat_le, refl, ap, arith, ◌∙◌}
use Rattle.std.proofs.lemmas.Bool.{and_parts}
use Rattle.std.proofs.lemmas.Bool.Decides.{nat_tests}
use Rattle.std.specs.declared.cmp.Ordering.{Ordering}
use Rattle.std.specs.Cmp.{IsTotalOrder}
use Rattle.std.specs.Option.{option_or}
use Rattle.raft_base.specs.LogId.{id_le, index_of, next_index}
use Rattle.raft_base.specs.LogIdLawful.{optional-log_id_cmp-total}
use Rattle.raft_base.specs.LogIndex.{next_index_of}
use Rattle.raft_base.specs.declared.log_id.LogIdOf.{LogIdOf}
use Rattle.raft_progress.proofs.lemmas.OrderLemmas.{AtMost-trans}
use Rattle.raft_state.proofs.lemmas.log_id_list.IdOrderLemmas.{then_below}
use Rattle.raft_state.proofs.lemmas.log_id_list.FrontLemmas.{rest_first}
use Rattle.raft_state.proofs.lemmas.log_id_list.KeptLemmas.{ends_there, from_end, purged_ends, has_id_at}
use Rattle.raft_state.proofs.lemmas.validate.RelationLemmas.{all_hold, hold_all}
use Rattle.raft_state.proofs.lemmas.log_id_list.OrderLemmas.{From}
use Rattle.raft_state.specs.log_id_list.FullLog.{end_index, first_index, full_log}
use Rattle.raft_state.specs.log_id_list.LogConditions.{can_purge}
use Rattle.raft_state.specs.log_id_list.LogEdits.{log_after_purge, rest}
use Rattle.raft_state.specs.log_id_list.LogReads.{first_id, id_at, last_id}
use Rattle.raft_state.specs.log_id_list.LogReadsLawful.{id_at-indexed}
use Rattle.raft_state.specs.raft_state.Purge.{first_after_purge, may_purge}
use Rattle.raft_state.specs.raft_state.Valid.{broken_relation, fits_purged_next}
use Rattle.raft_state.specs.declared.raft_state.RaftStateIn.{RaftStateIn}

-- of two tests that hold, what the second one says
pub both_below : (t : Bool) (i n : ℕ) → t && nat_lt i n ≡ true → i < n
both_below t i n h = let b = (and_parts t (nat_lt i n) h).1 in grind (arith, nat_tests)

-- a log that is purged up to a log id begins with the one at its index, or with it
purged_begins : {C : Type 0} (log : List (LogIdOf C)) (upto : LogIdOf C) → From (first_index log) log
    → nat_le (first_index log) upto.index ≡ true
    → first_id (log_after_purge log upto) ≡ first_after_purge log upto
purged_begins {C} log upto row from = by (nat_le (end_index log) upto.index) refl
  where
    within : (xs : List (LogIdOf C)) → From (first_index xs) xs → nat_le (first_index xs) upto.index ≡ true
        → nat_le (end_index xs) upto.index ≡ false
        → first_id (rest xs upto.index) ≡ first_after_purge xs upto
    within [] row from e = cc
    within (x ∷ xs) row from e =
        let n = from_end x.index x xs row in
        let low : x.index ≤ upto.index = grind (arith, nat_tests) in
        let high : upto.index < end_index (x ∷ xs) = grind (arith, nat_tests) in
        let z = has_id_at x.index (x ∷ xs) upto.index row low (omega arith) in
        rest_first x.index upto.index (x ∷ xs) row low ∙ (rw z.1 refl)

    by : (t : Bool) → nat_le (end_index log) upto.index ≡ t
        → first_id (if t then upto ∷ [] else (if nat_lt upto.index (first_index log) then log else rest log upto.index))
        ≡ first_after_purge log upto
    by true e = let past : end_index log ≤ upto.index = grind (arith, nat_tests) in
        rw (ends_there (first_index log) log row upto.index past) refl
    by false e = let t : nat_lt upto.index (first_index log) ≡ false = grind (arith, nat_tests) in rw t (within log row from e)

-- and so at its index
begins_at : {C : Type 0} (log : List (LogIdOf C)) (upto : LogIdOf C) → index_of (first_after_purge log upto) ≡ Some upto.index
begins_at {C} log upto = by (id_at log upto.index) (id_at-indexed log upto.index)
  where
    by : (o : Option (LogIdOf C)) → IfSome o (λ id. id.index ≡ upto.index) → index_of (option_or o (Some upto)) ≡ Some upto.index
    by None h = refl
    by (Some x) h = ap Some h

fits_so : {C : Type 0} (i : ℕ) (first : Option (LogIdOf C)) → index_of first ≡ Some i → fits_purged_next (i + 1) first ≡ true
fits_so i first is =
    let t : ((i + 1) == 0) ≡ false = grind (arith, nat_tests) in
    let n : next_index first ≡ i + 1 = ap next_index_of is in
    let u : ((i + 1) == (i + 1)) ≡ true = grind (arith, nat_tests) in
    rw (t, n) u

module _ {C : Type 0} {cmp : C → C → Ordering} (total : IsTotalOrder cmp) where
  -- past the end of a log it is above the last log id
  past_last : (last : Option (LogIdOf C)) (upto : LogIdOf C) → can_purge cmp last upto ≡ true
      → nat_le (next_index last) upto.index ≡ true → id_le cmp last (Some upto) ≡ true
  past_last None upto may past = refl
  past_last (Some l) upto may past =
      let t : nat_le upto.index l.index ≡ false = grind (arith, nat_tests) in
      then_below (cmp l.leader_id upto.leader_id) l.index upto.index (rw t at may) (grind (arith, nat_tests))

  pub purge_stays_valid : {K N I L : Type 0} (s : RaftStateIn K N I L C) (upto : LogIdOf C) (keys : List (LogIdOf C))
      → From (first_index (full_log s.log_ids)) (full_log s.log_ids)
      → full_log keys ≡ log_after_purge (full_log s.log_ids) upto → may_purge cmp (full_log s.log_ids) upto ≡ true
      → broken_relation cmp s ≡ None
      → id_le cmp (first_after_purge (full_log s.log_ids) upto) s.purge_upto ≡ true
      → broken_relation cmp (record s { purged_next = upto.index + 1; log_ids = keys }) ≡ None
  purge_stays_valid s upto keys row is may valid low =
      let fits = all_hold _ _ _ valid in
      let purge_point = all_hold _ _ _ fits.1 in
      let relation = all_hold _ _ _ purge_point.1 in
      let snapshot = all_hold _ _ _ relation.1 in
      let committed = all_hold _ _ _ snapshot.1 in
      let log = full_log s.log_ids in
      let can = and_parts _ _ (and_parts _ _ may).0 in
      let first : first_id (full_log keys) ≡ first_after_purge log upto = ap first_id is ∙ purged_begins log upto row can.1 in
      let t : ((upto.index + 1) == 0) ≡ false = grind (arith, nat_tests) in
      let begins : fits_purged_next (upto.index + 1) (first_id (full_log keys)) ≡ true =
      rw first (fits_so upto.index (first_after_purge log upto) (begins_at log upto)) in
      let purged : id_le cmp (if (upto.index + 1) == 0 then None else first_id (full_log keys)) s.purge_upto ≡ true = rw (first, t) low in
      let ends : id_le cmp s.committed (last_id (full_log keys)) ≡ true =
      rw (is, purged_ends log upto row) (last_so (nat_le (end_index log) upto.index) refl committed.0 can.0) in
      hold_all _ _ _ begins (hold_all _ _ _ purged
      (hold_all _ _ _ relation.0 (hold_all _ _ _ snapshot.0 (hold_all _ _ _ ends committed.1))))
    where
      last_so : (t : Bool) → nat_le (end_index (full_log s.log_ids)) upto.index ≡ t
          → id_le cmp s.committed (last_id (full_log s.log_ids)) ≡ true
          → can_purge cmp (last_id (full_log s.log_ids)) upto ≡ true
          → id_le cmp s.committed (if t then Some upto else last_id (full_log s.log_ids)) ≡ true
      last_so true e up can = AtMost-trans (optional-log_id_cmp-total total) s.committed (last_id (full_log s.log_ids)) (Some upto) up
          (past_last (last_id (full_log s.log_ids)) upto can e)
      last_so false e up can = up
