-- A commit of a log id that is not past the log leaves a valid state valid.
use Rattle.std.proofs.Common.{◌≡◌, Bool, true, false, Option, Some, None, if◌then◌else◌, refl}
use Rattle.std.specs.declared.cmp.Ordering.{Ordering}
use Rattle.std.specs.Cmp.{IsTotalOrder, nat_cmp_total}
use Rattle.std.specs.Cmp.Lexicographic.{options_total}
use Rattle.std.specs.Option.{option_cmp}
use Rattle.raft_base.specs.LogId.{id_le, id_lt, log_id_cmp}
use Rattle.raft_base.specs.LogIdLawful.{optional-log_id_cmp-total}
use Rattle.raft_base.specs.Validate.{first_false}
use Rattle.raft_base.specs.declared.log_id.LogIdOf.{LogIdOf}
use Rattle.raft_members.specs.membership.Stored.{log_id_of}
use Rattle.raft_progress.proofs.lemmas.OrderLemmas.{AtMost-from_lt, AtMost-refl, AtMost-trans}
use Rattle.raft_state.proofs.lemmas.validate.RelationLemmas.{all_hold, hold_all}
use Rattle.raft_state.specs.log_id_list.FullLog.{full_log}
use Rattle.raft_state.specs.log_id_list.LogReads.{last_id}
use Rattle.raft_state.specs.membership_state.MembershipMoves.{after_commit, commits}
use Rattle.raft_state.specs.membership_state.MembershipRelations.{membership_relations}
use Rattle.raft_state.specs.membership_state.Memberships.{Memberships, index_at}
use Rattle.raft_state.specs.raft_state.Valid.{broken_relation, upto_relation}
use Rattle.raft_state.specs.declared.raft_state.RaftStateIn.{RaftStateIn}

module _ {C : Type 0} {cmp : C → C → Ordering} (total : IsTotalOrder cmp) where
  at_most : (a b c : Option (LogIdOf C)) → id_le cmp a b ≡ true → id_lt cmp b c ≡ true → id_le cmp a c ≡ true
  at_most a b c h g = let ids = optional-log_id_cmp-total total in
      AtMost-trans ids a b c h (AtMost-from_lt (option_cmp (log_id_cmp cmp)) b c g)

  -- a purge point that may be at its log id may stay there
  upto_stays : (upto old new snapshot : Option (LogIdOf C)) → id_lt cmp old new ≡ true → (upto_relation cmp upto old snapshot).0 ≡ true
      → (upto_relation cmp upto new snapshot).0 ≡ true
  upto_stays upto old new None up h = at_most upto old new h up
  upto_stays upto old new (Some snapshot) up h = h

  -- valid memberships stay valid
  committed_members_stay : {K N : Type 0} (id : Option (LogIdOf C)) (m : Memberships C K N)
      → first_false (membership_relations cmp m) ≡ None
      → first_false (membership_relations cmp (after_commit cmp id m)) ≡ None
  committed_members_stay id m h = by (commits cmp id m)
    where
      by : (t : Bool) → first_false (membership_relations cmp
          (if t then record { committed = m.effective; effective = m.effective } else m)) ≡ None
      by true = hold_all _ _ _ (AtMost-refl (optional-log_id_cmp-total total) (log_id_of m.effective))
          (hold_all _ _ _ (AtMost-refl (options_total nat_cmp_total) (index_at m.effective)) refl)
      by false = h

  -- a greater log id is committed, and with it the memberships
  pub stays_valid : {K N I L : Type 0} (id : Option (LogIdOf C)) (s : RaftStateIn K N I L C) (m : Memberships C K N)
      → m ≡ after_commit cmp id s.membership_state → id_lt cmp s.committed id ≡ true → broken_relation cmp s ≡ None
      → id_le cmp id (last_id (full_log s.log_ids)) ≡ true → broken_relation cmp (record s { committed = id; membership_state = m }) ≡ None
  stays_valid id s m is up valid in_log =
      let purged = all_hold _ _ _ valid in
      let purge_point = all_hold _ _ _ purged.1 in
      let upto = all_hold _ _ _ purge_point.1 in
      let snapshot = all_hold _ _ _ upto.1 in
      let committed = all_hold _ _ _ snapshot.1 in
      hold_all _ _ _ purged.0 (hold_all _ _ _ purge_point.0
      (hold_all _ _ _ (upto_stays s.purge_upto s.committed id s.snapshot_meta.last_log_id up upto.0)
      (hold_all _ _ _ (at_most s.snapshot_meta.last_log_id s.committed id snapshot.0 up)
      (hold_all _ _ _ in_log (rw is (committed_members_stay id s.membership_state committed.1))))))
