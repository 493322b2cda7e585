-- What the calls of a state leave of a sound one.
use Rattle.std.proofs.Common.{◌≡◌, ℕ, ◌+◌, ◌==◌, ◌<◌, ◌≤◌, Bool, true, false, List, [], ◌∷◌, Option, Some, None, if◌then◌else◌, nat_le, refl, sym, arith, ◌∙◌}
use Rattle.std.proofs.lemmas.Bool.{and_parts}
use Rattle.std.proofs.lemmas.Bool.Decides.{nat_tests}
use Rattle.std.specs.declared.cmp.Ordering.{Ordering}
use Rattle.std.specs.Cmp.{IsEquivalence, IsTotalOrder}
use Rattle.std.specs.Ordering.{is_eq}
use Rattle.raft_base.specs.LogId.{id_le, id_lt, index_of, next_index}
use Rattle.raft_base.specs.LogIdLawful.{optional-log_id_cmp-total}
use Rattle.raft_base.specs.LogIndex.{index_le}
use Rattle.raft_base.specs.Validate.{first_false}
use Rattle.raft_base.specs.declared.log_id.LogIdOf.{LogIdOf}
use Rattle.raft_base.specs.declared.log_id.validate.Invalid.TheVariants.{PurgedNext, LastPurgedPastUpto, SnapshotPastCommitted, CommittedPastLast, MembershipLogId, MembershipIndex}
use Rattle.raft_members.specs.membership.Stored.{log_id_of}
use Rattle.raft_progress.proofs.lemmas.OrderLemmas.{AtMost-refl, AtMost-trans}
use Rattle.raft_state.proofs.lemmas.TruncateLemmas.{cut_stays_valid, upto_committed}
use Rattle.raft_state.proofs.lemmas.log.CommitLemmas.{stays_valid}
use Rattle.raft_state.proofs.lemmas.log.StatePurgeLemmas.{purge_stays_valid}
use Rattle.raft_state.proofs.lemmas.log_id_list.FrontLemmas.{from_first}
use Rattle.raft_state.proofs.lemmas.log_id_list.KeptLemmas.{purged_ends}
use Rattle.raft_state.proofs.lemmas.log_id_list.KeyListLemmas.{IsKeyList}
use Rattle.raft_state.proofs.lemmas.sound.LoggedIds.{at_below, at_most_last, ends_before, ends_past, extension_has, found_below, front_has, in_log, in_order, is_kept, is_logged, purge_has, within}
use Rattle.raft_state.proofs.lemmas.sound.LoggedMembers.{AreKept, commit_members, cut_members, purge_members}
use Rattle.raft_state.proofs.lemmas.validate.RelationLemmas.{all_hold, hold_all}
use Rattle.raft_state.specs.Accepted.{accepted_from, accepted_upto, last_accepted}
use Rattle.raft_state.specs.raft_state.BuiltSnapshot.{may_build_snapshot, may_schedule_purge}
use Rattle.raft_state.specs.log_id_list.FullLog.{end_index, first_index, full_log}
use Rattle.raft_state.specs.log_id_list.LogEdits.{front, log_after_purge}
use Rattle.raft_state.specs.log_id_list.LogKept.{KeepsIds}
use Rattle.raft_state.specs.log_id_list.LogReads.{first_id, last_id}
use Rattle.raft_state.specs.membership_state.MembershipMoves.{after_commit, after_truncate}
use Rattle.raft_state.specs.membership_state.MembershipRelations.{membership_relations}
use Rattle.raft_state.specs.membership_state.Memberships.{Memberships, index_at}
use Rattle.raft_state.specs.raft_state.Purge.{first_after_purge, may_purge}
use Rattle.raft_state.specs.raft_state.Sound.{IsSound}
use Rattle.raft_state.specs.raft_state.Truncate.{can_truncate_log}
use Rattle.raft_state.specs.raft_state.Valid.{broken_relation, fits_purged_next, upto_relation}
use Rattle.raft_state.specs.declared.accepted.AcceptedIn.{AcceptedIn}
use Rattle.raft_state.specs.declared.raft_state.RaftStateIn.{RaftStateIn}
use Rattle.raft_state.specs.declared.snapshot_meta.SnapshotMetaOf.{SnapshotMetaOf}

-- what was accepted is not past the log to whose end it is lowered
pub accepted_fits : {L C : Type 0} {cmp : C → C → Ordering} → IsTotalOrder cmp → (accepted : AcceptedIn L C) (last : Option (LogIdOf C))
    → id_le cmp (last_accepted (accepted_upto cmp accepted last)) last ≡ true
accepted_fits {L} {C} {cmp} total accepted last = by (id_le cmp accepted.log_id last) refl
  where
    by : (t : Bool) → t ≡ id_le cmp accepted.log_id last
        → id_le cmp (last_accepted (if t then accepted else accepted_from accepted.leader_id last)) last ≡ true
    by true e = sym e
    by false e = AtMost-refl (optional-log_id_cmp-total total) last

at_most : (a b : ℕ) → nat_le a b ≡ true → a ≤ b
at_most a b h = grind (arith, nat_tests)

not_at_most : (a b : ℕ) → b < a → nat_le a b ≡ false
not_at_most a b h = grind (arith, nat_tests)

-- the index after a purged log id is not below the one before
pub next_rises : {C : Type 0} (next i : ℕ) (first : Option (LogIdOf C)) → fits_purged_next next first ≡ true
    → next_index first ≤ i + 1 → next ≤ i + 1
next_rises next i first fits le = by (next == 0) refl fits
  where
    by : (t : Bool) → t ≡ (next == 0) → (if t then index_le (index_of first) (Some 0) else next_index first == next) ≡ true → next ≤ i + 1
    by true e f = let z : next ≡ 0 = grind (arith, nat_tests) in omega arith
    by false e f = let z : next_index first ≡ next = grind (arith, nat_tests) in omega arith

pub first_not_past : {C : Type 0} (log : List (LogIdOf C)) (i : ℕ) → first_index log ≤ i → next_index (first_id log) ≤ i + 1
first_not_past [] i le = omega arith
first_not_past (x ∷ xs) i le = omega arith

-- what is committed is not past a valid log, and its memberships are valid
past_snapshot : {K N I L C : Type 0} (cmp : C → C → Ordering) (s : RaftStateIn K N I L C) → broken_relation cmp s ≡ None
    → (id_le cmp s.committed (last_id (full_log s.log_ids)) ≡ true) × (first_false (membership_relations cmp s.membership_state) ≡ None)
past_snapshot cmp s valid =
    let fits = all_hold (fits_purged_next s.purged_next (first_id (full_log s.log_ids))) PurgedNext _ valid in
    let purge_point = all_hold (id_le cmp (if s.purged_next == 0 then None else first_id (full_log s.log_ids)) s.purge_upto)
    LastPurgedPastUpto _ fits.1 in
    let relation = upto_relation cmp s.purge_upto s.committed s.snapshot_meta.last_log_id in
    let upto = all_hold relation.0 relation.1 _ purge_point.1 in
    let snapshot = all_hold (id_le cmp s.snapshot_meta.last_log_id s.committed) SnapshotPastCommitted _ upto.1 in
    all_hold (id_le cmp s.committed (last_id (full_log s.log_ids))) CommittedPastLast _ snapshot.1

pub committed_low : {K N I L C : Type 0} (cmp : C → C → Ordering) (s : RaftStateIn K N I L C) → broken_relation cmp s ≡ None
    → id_le cmp s.committed (last_id (full_log s.log_ids)) ≡ true
committed_low cmp s valid = (past_snapshot cmp s valid).0

pub members_in_order : {K N I L C : Type 0} (cmp : C → C → Ordering) (s : RaftStateIn K N I L C) → broken_relation cmp s ≡ None
    → index_le (index_at s.membership_state.committed) (index_at s.membership_state.effective) ≡ true
members_in_order cmp s valid =
    let first = all_hold (id_le cmp (log_id_of s.membership_state.committed) (log_id_of s.membership_state.effective)) MembershipLogId _
    (past_snapshot cmp s valid).1 in
    (all_hold (index_le (index_at s.membership_state.committed) (index_at s.membership_state.effective)) MembershipIndex None first.1).0

module _ {C : Type 0} (cmp : C → C → Ordering) (eq : C → C → Bool) where
  -- the memberships of a sound state, and what else makes a state sound
  pub members_of : {K N I L : Type 0} (s : RaftStateIn K N I L C) → IsSound eq cmp s
      → AreKept eq cmp s.purged_next (full_log s.log_ids) s.committed s.membership_state
  members_of s sound = record {
    committed = sym (is_kept eq s (log_id_of s.membership_state.committed)) ∙ sound.committed_membership;
    effective = sym (is_kept eq s (log_id_of s.membership_state.effective)) ∙ sound.effective_membership;
    known = sound.known;
  }

  pub makes_sound : {K N I L : Type 0} (s : RaftStateIn K N I L C) → broken_relation cmp s ≡ None
      → in_log eq (full_log s.log_ids) s.purge_upto ≡ true → in_log eq (full_log s.log_ids) s.committed ≡ true
      → id_le cmp (last_accepted s.accepted) (last_id (full_log s.log_ids)) ≡ true
      → AreKept eq cmp s.purged_next (full_log s.log_ids) s.committed s.membership_state → IsSound eq cmp s
  makes_sound s valid purge_point committed accepted members = record {
    valid = valid;
    purge_point = is_logged eq s s.purge_upto ∙ purge_point;
    committed = is_logged eq s s.committed ∙ committed;
    accepted = accepted;
    committed_membership = is_kept eq s (log_id_of s.membership_state.committed) ∙ members.committed;
    effective_membership = is_kept eq s (log_id_of s.membership_state.effective) ∙ members.effective;
    known = members.known;
  }

  pub purge_point_in : {K N I L : Type 0} (s : RaftStateIn K N I L C) → IsSound eq cmp s
      → in_log eq (full_log s.log_ids) s.purge_upto ≡ true
  purge_point_in s sound = sym (is_logged eq s s.purge_upto) ∙ sound.purge_point

  pub committed_in : {K N I L : Type 0} (s : RaftStateIn K N I L C) → IsSound eq cmp s
      → in_log eq (full_log s.log_ids) s.committed ≡ true
  committed_in s sound = sym (is_logged eq s s.committed) ∙ sound.committed

-- a snapshot of its own, and a purge point up to it
module _ {C : Type 0} {cmp : C → C → Ordering} (total : IsTotalOrder cmp) where
  upto_fits : (upto committed snapshot : Option (LogIdOf C)) → id_le cmp upto snapshot ≡ true → id_le cmp snapshot committed ≡ true
      → (upto_relation cmp upto committed snapshot).0 ≡ true
  upto_fits upto committed None low le = AtMost-trans (optional-log_id_cmp-total total) upto None committed low le
  upto_fits upto committed (Some s) low le = low

  pub built_stays_valid : {K N I L : Type 0} (s : RaftStateIn K N I L C) (meta : SnapshotMetaOf C K N)
      → may_build_snapshot cmp meta s ≡ true → broken_relation cmp s ≡ None
      → broken_relation cmp (record s { snapshot_meta = meta }) ≡ None
  built_stays_valid s meta may valid =
      let low = and_parts _ _ (and_parts _ _ (and_parts _ _ may).0).0 in
      let fits = all_hold _ _ _ valid in
      let purge_point = all_hold _ _ _ fits.1 in
      let upto = all_hold _ _ _ purge_point.1 in
      let snapshot = all_hold _ _ _ upto.1 in
      let committed = (and_parts _ _ low.0).1 in
      hold_all _ _ _ fits.0 (hold_all _ _ _ purge_point.0
      (hold_all _ _ _ (upto_fits s.purge_upto s.committed meta.last_log_id low.1 committed)
      (hold_all _ _ _ committed snapshot.1)))

  pub scheduled_stays_valid : {K N I L : Type 0} (eq : C → C → Bool) (s : RaftStateIn K N I L C) (upto : LogIdOf C)
      → may_schedule_purge eq cmp upto s ≡ true → broken_relation cmp s ≡ None
      → broken_relation cmp (record s { purge_upto = Some upto }) ≡ None
  scheduled_stays_valid eq s upto may valid =
      let asks = and_parts _ _ may in
      let fits = all_hold _ _ _ valid in
      let purge_point = all_hold _ _ _ fits.1 in
      let relation = all_hold _ _ _ purge_point.1 in
      let snapshot = all_hold _ _ _ relation.1 in
      let first : Option (LogIdOf C) = (if s.purged_next == 0 then None else first_id (full_log s.log_ids)) in
      hold_all _ _ _ fits.0
      (hold_all _ _ _ (AtMost-trans (optional-log_id_cmp-total total) first s.purge_upto (Some upto) purge_point.0 (and_parts _ _ asks.0).1)
      (hold_all _ _ _ (upto_fits (Some upto) s.committed s.snapshot_meta.last_log_id asks.1 snapshot.0) relation.1))

module _ {C : Type 0} (cmp : C → C → Ordering) (eq : C → C → Bool) (total : IsTotalOrder cmp) where
  pub build_sound : {K N I L : Type 0} (s : RaftStateIn K N I L C) (meta : SnapshotMetaOf C K N)
      → may_build_snapshot cmp meta s ≡ true → IsSound eq cmp s → IsSound eq cmp (record s { snapshot_meta = meta })
  build_sound s meta may sound = makes_sound cmp eq (record s { snapshot_meta = meta }) (built_stays_valid total s meta may sound.valid)
      (purge_point_in cmp eq s sound) (committed_in cmp eq s sound) sound.accepted (members_of cmp eq s sound)

  pub schedule_sound : {K N I L : Type 0} (s : RaftStateIn K N I L C) (upto : LogIdOf C)
      → may_schedule_purge eq cmp upto s ≡ true → IsSound eq cmp s → IsSound eq cmp (record s { purge_upto = Some upto })
  schedule_sound s upto may sound =
      makes_sound cmp eq (record s { purge_upto = Some upto }) (scheduled_stays_valid total eq s upto may sound.valid)
      (and_parts _ _ (and_parts _ _ may).0).0 (committed_in cmp eq s sound) sound.accepted (members_of cmp eq s sound)

module _ {C : Type 0} (cmp : C → C → Ordering) (eq : C → C → Bool) (total : IsTotalOrder cmp) (law : (x y : C) → eq x y ≡ is_eq (cmp x y))
    (eqs : IsEquivalence eq) where
  -- the purge point is not past what is committed
  pub purge_before : {K N I L : Type 0} (s : RaftStateIn K N I L C) → IsKeyList cmp s.log_ids → IsSound eq cmp s
      → next_index s.purge_upto ≤ next_index s.committed
  purge_before s are sound =
      let fits = all_hold _ _ _ sound.valid in
      let purge_point = all_hold _ _ _ fits.1 in
      let upto = all_hold _ _ _ purge_point.1 in
      let snapshot = all_hold _ _ _ upto.1 in
      in_order cmp eq total law eqs s.log_ids s.purge_upto s.committed are (purge_point_in cmp eq s sound) (committed_in cmp eq s sound)
      (upto_committed total s.purge_upto s.committed s.snapshot_meta.last_log_id upto.0 snapshot.0)

  pub cut_sound : {K N I L : Type 0} (s : RaftStateIn K N I L C) (since : ℕ) (keys : List (LogIdOf C)) (m : Memberships C K N)
      (accepted : AcceptedIn L C)
      → IsKeyList cmp s.log_ids → full_log keys ≡ front (full_log s.log_ids) since → m ≡ after_truncate since s.membership_state
      → accepted ≡ accepted_upto cmp s.accepted (last_id (full_log keys)) → can_truncate_log cmp since s ≡ true → IsSound eq cmp s
      → IsSound eq cmp (record s { log_ids = keys; membership_state = m; accepted = accepted })
  cut_sound s since keys m accepted are is is_m is_accepted may sound =
      let row = from_first cmp s.log_ids are in
      let asks = and_parts _ _ may in
      let past = ends_before s.committed since (and_parts _ _ asks.0).0 in
      let members = ends_before (log_id_of s.membership_state.committed) since asks.1 in
      let low = purge_before s are sound in
      makes_sound cmp eq (record s { log_ids = keys; membership_state = m; accepted = accepted })
      (cut_stays_valid total s since (first_index (full_log s.log_ids)) keys m row is is_m may sound.valid)
      (rw is (front_has eq (full_log s.log_ids) since s.purge_upto (omega arith) (purge_point_in cmp eq s sound)))
      (rw is (front_has eq (full_log s.log_ids) since s.committed past (committed_in cmp eq s sound)))
      (rw is_accepted (accepted_fits total s.accepted (last_id (full_log keys))))
      (rw (is, is_m) (cut_members eq cmp eqs s.purged_next (full_log s.log_ids) s.committed since s.membership_state members
      (members_of cmp eq s sound)))

  pub commit_sound : {K N I L : Type 0} (s : RaftStateIn K N I L C) (id : Option (LogIdOf C)) (m : Memberships C K N)
      → IsKeyList cmp s.log_ids → m ≡ after_commit cmp id s.membership_state → id_lt cmp s.committed id ≡ true
      → in_log eq (full_log s.log_ids) id ≡ true → IsSound eq cmp s → IsSound eq cmp (record s { committed = id; membership_state = m })
  commit_sound s id m are is_m up logged sound =
      makes_sound cmp eq (record s { committed = id; membership_state = m })
      (stays_valid total id s m is_m up sound.valid (at_most_last cmp eq total law eqs s.log_ids id are logged))
      (purge_point_in cmp eq s sound) logged sound.accepted
      (rw is_m (commit_members eq cmp eqs s.purged_next (full_log s.log_ids) s.committed id s.membership_state (members_of cmp eq s sound)))

  pub extend_sound : {K N I L : Type 0} (s : RaftStateIn K N I L C) (keys : List (LogIdOf C)) (m : Memberships C K N)
      → IsKeyList cmp s.log_ids → KeepsIds eq (full_log s.log_ids) (full_log keys)
      → id_le cmp (last_id (full_log s.log_ids)) (last_id (full_log keys)) ≡ true
      → broken_relation cmp (record s { log_ids = keys; membership_state = m }) ≡ None
      → AreKept eq cmp s.purged_next (full_log keys) s.committed m → IsSound eq cmp s
      → IsSound eq cmp (record s { log_ids = keys; membership_state = m })
  extend_sound s keys m are kept up valid members sound =
      let row = from_first cmp s.log_ids are in
      makes_sound cmp eq (record s { log_ids = keys; membership_state = m }) valid
      (extension_has eq eqs (first_index (full_log s.log_ids)) (full_log s.log_ids) (full_log keys) s.purge_upto row kept
      (purge_point_in cmp eq s sound))
      (extension_has eq eqs (first_index (full_log s.log_ids)) (full_log s.log_ids) (full_log keys) s.committed row kept
      (committed_in cmp eq s sound))
      (AtMost-trans (optional-log_id_cmp-total total) (last_accepted s.accepted) (last_id (full_log s.log_ids)) (last_id (full_log keys))
      sound.accepted up)
      members

  -- a purge that is not past the purge point
  begins_low : (ks : List (LogIdOf C)) (upto : LogIdOf C) (point : Option (LogIdOf C)) → IsKeyList cmp ks
      → first_index (full_log ks) ≤ upto.index → in_log eq (full_log ks) point ≡ true → upto.index < next_index point
      → (id_le cmp (first_after_purge (full_log ks) upto) point ≡ true) × (upto.index < end_index (full_log ks))
  begins_low ks upto None are from logged lt = absurd (omega arith)
  begins_low ks upto (Some p) are from logged lt =
      let row = from_first cmp ks are in
      let w = within eq (first_index (full_log ks)) (full_log ks) p row logged in let w1 = w.1 in
      let z = found_below eq (first_index (full_log ks)) upto.index (full_log ks) p row logged from (omega arith) in
      let low = at_below cmp eq total law eqs ks upto.index p are logged (omega arith) in
      (rw z.1 (rw z.1 at low), omega arith)

  pub purge_sound : {K N I L : Type 0} (s : RaftStateIn K N I L C) (upto : LogIdOf C) (keys : List (LogIdOf C))
      → IsKeyList cmp s.log_ids → full_log keys ≡ log_after_purge (full_log s.log_ids) upto
      → may_purge cmp (full_log s.log_ids) upto ≡ true → index_le (Some upto.index) (index_of s.purge_upto) ≡ true
      → IsSound eq cmp s → IsSound eq cmp (record s { purged_next = upto.index + 1; log_ids = keys })
  purge_sound s upto keys are is may not_past sound =
      let log = full_log s.log_ids in
      let row = from_first cmp s.log_ids are in
      let point = ends_past s.purge_upto upto.index not_past in
      let low = purge_before s are sound in
      let from_index = (and_parts _ _ (and_parts _ _ may).0).1 in
      let from = at_most (first_index (full_log s.log_ids)) upto.index from_index in
      let begins = begins_low s.log_ids upto s.purge_upto are from (purge_point_in cmp eq s sound) point in
      let not_end = not_at_most (end_index (full_log s.log_ids)) upto.index begins.1 in
      let last : last_id (log_after_purge (full_log s.log_ids) upto) ≡ last_id (full_log s.log_ids) =
      purged_ends (full_log s.log_ids) upto row ∙ rw not_end refl in
      let fits = all_hold _ _ _ sound.valid in
      let next = next_rises s.purged_next upto.index (first_id (full_log s.log_ids)) fits.0
      (first_not_past (full_log s.log_ids) upto.index from) in
      makes_sound cmp eq (record s { purged_next = upto.index + 1; log_ids = keys })
      (purge_stays_valid total s upto keys row is may sound.valid begins.0)
      (rw is (purge_has eq (full_log s.log_ids) upto s.purge_upto row point (purge_point_in cmp eq s sound)))
      (rw is (purge_has eq (full_log s.log_ids) upto s.committed row (omega arith) (committed_in cmp eq s sound)))
      (rw (is, last) sound.accepted)
      (rw is (purge_members eq cmp eqs s.purged_next (full_log s.log_ids) s.committed upto s.membership_state row next
      (members_of cmp eq s sound)))
