-- A log that is truncated past one of its log ids ends at no lesser one.
use Rattle.std.proofs.Common.{◌≡◌, ℕ, suc, ◌-◌, ◌<◌, ◌≤◌, min, Bool, true, List, [], ◌∷◌, Option, Some, None, subst, arith, inl, inr}
use Rattle.std.proofs.lemmas.Bool.{cases_lt}
use Rattle.std.proofs.lemmas.Bool.Decides.{nat_tests}
use Rattle.std.specs.declared.cmp.Ordering.{Ordering}
use Rattle.std.specs.Cmp.{IsEquivalence, IsTotalOrder}
use Rattle.std.specs.Ordering.{is_eq, is_le}
use Rattle.raft_base.specs.LogId.{id_le, index_of, same_ids}
use Rattle.raft_base.specs.LogIndex.{index_lt}
use Rattle.raft_base.specs.declared.log_id.LogIdOf.{LogIdOf}
use Rattle.raft_progress.proofs.lemmas.OrderLemmas.{AtMost-refl}
use Rattle.raft_state.proofs.lemmas.log_id_list.IdOrderLemmas.{leaders_symm, none_at_most, then_below, upto_equal}
use Rattle.raft_state.proofs.lemmas.log_id_list.FrontLemmas.{from_first}
use Rattle.raft_state.proofs.lemmas.log_id_list.SameLogLemmas.{equal_found}
use Rattle.raft_state.proofs.lemmas.log_id_list.KeptLemmas.{end_at, front_ends, has_id_at}
use Rattle.raft_state.proofs.lemmas.log_id_list.KeyListLemmas.{IsKeyList}
use Rattle.raft_state.proofs.lemmas.log_id_list.OrderLemmas.{Above, From, above_full, index_within, never_falls_at}
use Rattle.raft_state.specs.log_id_list.FullLog.{end_index, first_index, full_log}
use Rattle.raft_state.specs.log_id_list.LogEdits.{front}
use Rattle.raft_state.specs.log_id_list.LogReads.{id_at, last_id}
use Rattle.raft_state.specs.log_id_list.LogReadsLawful.{id_at-indexed}
use Rattle.raft_state.specs.raft_state.VoteAndLog.{log_view_of}
use Rattle.raft_state.specs.raft_state.Valid.{none_or_logged}
use Rattle.raft_state.specs.declared.raft_state.RaftStateIn.{RaftStateIn}

module _ {C : Type 0} (cmp : C → C → Ordering) (eq : C → C → Bool) (total : IsTotalOrder cmp) (law : (x y : C) → eq x y ≡ is_eq (cmp x y))
    (eqs : IsEquivalence eq) where
  -- the log id at an index has no lesser leader than that at an earlier one
  not_lesser : (c : C) (b : ℕ) (log : List (LogIdOf C)) (i j : ℕ) (y z : LogIdOf C) → Above cmp total c log → From b log → i ≤ j
      → id_at log i ≡ Some y → id_at log j ≡ Some z → is_le (cmp y.leader_id z.leader_id) ≡ true
  not_lesser c b log i j y z above row le e f = elim (cases_lt i j) [
    | inl before ↦ never_falls_at cmp total c b log i j y z above row before e f
    | inr same ↦ (let index : i ≡ j = omega arith in let g = rw index at e in let is : y ≡ z = cc in
        subst (λ (w : LogIdOf C). is_le (cmp y.leader_id w.leader_id) ≡ true) is (AtMost-refl total y.leader_id))
  ]

  cut_past : (c : C) (b : ℕ) (log : List (LogIdOf C)) (x : LogIdOf C) (since : ℕ) → Above cmp total c log → From b log
      → same_ids eq (id_at log x.index) (Some x) ≡ true → x.index < since
      → id_le cmp (Some x) (last_id (front log since)) ≡ true
  cut_past c b log x since above row logged lt =
      let f = equal_found eq (id_at log x.index) x logged in
      let w = index_within b x.index log f.0 row f.1 in let w0 = w.0 in let w1 = w.1 in
      let e = end_at b log row w.1 w.0 in
      let s : min since (end_index log) ≡ suc (min since (end_index log) - 1) = omega arith in
      let j = min since (end_index log) - 1 in
      let low : x.index ≤ min since (end_index log) - 1 = omega arith in
      let z = has_id_at b log (min since (end_index log) - 1) row (omega arith) (omega arith) in
      let index = rw z.1 at (id_at-indexed log (min since (end_index log) - 1)) in
      let leader = upto_equal cmp eq total law x.leader_id f.0.leader_id z.0.leader_id (leaders_symm eqs f.0.leader_id x.leader_id f.2)
      (not_lesser c b log x.index (min since (end_index log) - 1) f.0 z.0 above row low f.1 z.1) in
      rw (front_ends b log since row, s, z.1) (then_below (cmp x.leader_id z.0.leader_id) x.index z.0.index leader (omega arith))

  pub cut_past_committed : {K N I L : Type 0} (s : RaftStateIn K N I L C) (since : ℕ) → IsKeyList cmp s.log_ids
      → none_or_logged eq (log_view_of s) s.committed ≡ true → index_lt (index_of s.committed) (Some since) ≡ true
      → id_le cmp s.committed (last_id (front (full_log s.log_ids) since)) ≡ true
  cut_past_committed s since are logged past = by s.committed s.log_ids are logged past
    where
      by : (o : Option (LogIdOf C)) (ks : List (LogIdOf C)) → IsKeyList cmp ks
          → none_or_logged eq (record (log_view_of s) { id_at = id_at (full_log ks) }) o ≡ true → index_lt (index_of o) (Some since) ≡ true
          → id_le cmp o (last_id (front (full_log ks) since)) ≡ true
      by None ks are logged past = none_at_most cmp (last_id (front (full_log ks) since))
      by (Some x) [] are logged past = cc
      by (Some x) (k ∷ ks) are logged past =
          cut_past k.leader_id (first_index (full_log (k ∷ ks))) (full_log (k ∷ ks)) x since
          (above_full cmp total k.leader_id k ks are (AtMost-refl total k.leader_id)) (from_first cmp (k ∷ ks) are) logged
          (grind (arith, nat_tests))
