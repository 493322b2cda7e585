-- What an install leaves of a sound state, and of its memberships.
use Rattle.std.proofs.Common.{◌≡◌, ℕ, ◌+◌, ◌==◌, ◌≤◌, Bool, true, false, ◌&&◌, ◌||◌, List, [], ◌∷◌, Option, Some, None, if◌then◌else◌, nat_eq, nat_le, nat_lt, refl, sym, arith, true≢false, ◌∙◌}
use Rattle.std.proofs.lemmas.Bool.{and_parts, or_left}
use Rattle.std.proofs.lemmas.Bool.Decides.{nat_tests}
use Rattle.std.specs.declared.cmp.Ordering.{Ordering}
use Rattle.std.specs.declared.cmp.Ordering.TheVariants.{Less, Equal, Greater}
use Rattle.std.specs.Cmp.{IsEquivalence, IsTotalOrder}
use Rattle.std.specs.Cmp.Derive.{both_true}
use Rattle.std.specs.Option.{option_cmp}
use Rattle.std.specs.Ordering.{is_eq, is_le, is_lt, nat_cmp, ordering_then}
use Rattle.raft_base.specs.LogId.{id_le, id_lt, index_of, log_id_cmp, next_index, same_ids}
use Rattle.raft_base.specs.LogIdLawful.{optional-log_id_cmp-total}
use Rattle.raft_base.specs.LogIndex.{index_le, index_lt}
use Rattle.raft_base.specs.declared.log_id.LogIdOf.{LogIdOf}
use Rattle.raft_members.specs.membership.Stored.{log_id_of}
use Rattle.raft_members.specs.declared.membership.stored.StoredMembershipOf.{StoredMembershipOf}
use Rattle.raft_progress.proofs.lemmas.OrderLemmas.{AtMost-from_lt, AtMost-refl}
use Rattle.raft_state.proofs.lemmas.InstallLemmas.{install_stays_valid, not_below_zero, not_in_index}
use Rattle.raft_state.proofs.lemmas.log_id_list.FrontLemmas.{from_first}
use Rattle.raft_state.proofs.lemmas.log_id_list.KeptLemmas.{purged_reads}
use Rattle.raft_state.proofs.lemmas.log_id_list.KeyListLemmas.{IsKeyList}
use Rattle.raft_state.proofs.lemmas.sound.LoggedIds.{either_second, ends_after, ends_by, in_log, in_order, purge_keeps, purged_or_in, same_itself, within}
use Rattle.raft_state.proofs.lemmas.sound.LoggedMembers.{AreKept, alone}
use Rattle.raft_state.proofs.lemmas.sound.SoundCalls.{accepted_fits, first_not_past, makes_sound, members_in_order, members_of, next_rises}
use Rattle.raft_state.proofs.lemmas.validate.RelationLemmas.{all_hold}
use Rattle.raft_state.specs.Accepted.{accepted_upto}
use Rattle.raft_state.specs.log_id_list.FullLog.{first_index, full_log}
use Rattle.raft_state.specs.raft_state.Install.{is_logged, is_not_above, is_not_past, keeps_committed, keeps_effective, log_after_install, memberships_after_install}
use Rattle.raft_state.specs.log_id_list.LogEdits.{log_after_purge}
use Rattle.raft_state.specs.log_id_list.LogReads.{first_id, last_id}
use Rattle.raft_state.specs.membership_state.MembershipMoves.{after_update_committed, is_covered}
use Rattle.raft_state.specs.membership_state.Memberships.{Memberships, index_at}
use Rattle.raft_state.specs.raft_state.Sound.{IsSound}
use Rattle.raft_state.specs.raft_state.Valid.{broken_relation}
use Rattle.raft_state.specs.declared.accepted.AcceptedIn.{AcceptedIn}
use Rattle.raft_state.specs.declared.raft_state.RaftStateIn.{RaftStateIn}
use Rattle.raft_state.specs.declared.snapshot_meta.SnapshotMetaOf.{SnapshotMetaOf}

-- neither is below the other
ties : (o p : Ordering) → is_le (ordering_then o p) ≡ true → is_lt (ordering_then o p) ≡ false → (is_eq o ≡ true) × (is_eq p ≡ true)
ties Less p h g = cc
ties Equal Less h g = cc
ties Equal Equal h g = (refl, refl)
ties Equal Greater h g = cc
ties Greater p h g = cc

past_index : (a b : Option ℕ) (i : ℕ) → index_le a b ≡ true → index_le b (Some i) ≡ true → index_lt (Some i) a ≡ false
past_index None b i h g = refl
past_index (Some a) None i h g = cc
past_index (Some a) (Some b) i h g = grind (arith, nat_tests)

within_index : (a : Option ℕ) (i : ℕ) → index_le a (Some i) ≡ true → index_lt (Some i) a ≡ false
within_index None i h = refl
within_index (Some a) i h = grind (arith, nat_tests)

-- of two tests the first one, if the second one is false
first_holds : (s t u : Bool) → u ≡ false → s || (t && u) ≡ true → s ≡ true
first_holds true t u e h = refl
first_holds false true u e h = absurd (true≢false (sym h ∙ e))
first_holds false false u e h = cc

not_logged_holds : (s u : Bool) → s || (false && u) ≡ true → s ≡ true
not_logged_holds true u h = refl
not_logged_holds false u h = cc

itself : (i : ℕ) → (i == i) ≡ true
itself i = grind (arith, nat_tests)

module _ {C : Type 0} (cmp : C → C → Ordering) (eq : C → C → Bool) (total : IsTotalOrder cmp) (law : (x y : C) → eq x y ≡ is_eq (cmp x y))
    (eqs : IsEquivalence eq) where
  same_ties : (a b : Option (LogIdOf C)) → id_le cmp a b ≡ true → id_lt cmp a b ≡ false → same_ids eq a b ≡ true
  same_ties None None h g = refl
  same_ties None (Some y) h g = cc
  same_ties (Some x) None h g = cc
  same_ties (Some x) (Some y) h g =
      let t = ties (cmp x.leader_id y.leader_id) (nat_cmp x.index y.index) h g in let t1 = t.1 in
      let u : nat_eq x.index y.index ≡ true = grind (arith, nat_tests) in
      both_true (law x.leader_id y.leader_id ∙ t.0) u

  -- the snapshot's last log id is in the log then
  at_itself : (id : LogIdOf C) (t : Bool) → t ≡ true
      → same_ids eq (let o : Option (LogIdOf C) = (if t then Some id else None) in o) (Some id) ≡ true
  at_itself id true e = same_itself eq eqs (Some id)
  at_itself id false e = cc

  alone_has : (id : LogIdOf C) (t : Bool) → t ≡ true → (others : List (LogIdOf C))
      → in_log eq (let log : List (LogIdOf C) = (if t then id ∷ [] else others) in log) (Some id) ≡ true
  alone_has id true e others = at_itself id (id.index == id.index) (itself id.index)
  alone_has id false e others = cc

  pub installed_has : {K N I L : Type 0} (s : RaftStateIn K N I L C) (id : LogIdOf C) → IsKeyList cmp s.log_ids
      → in_log eq (log_after_install eq id s) (Some id) ≡ true
  installed_has s id are = by (is_logged eq id s) refl
    where
      by : (t : Bool) → t ≡ is_logged eq id s
          → in_log eq (log_after_purge (let log : List (LogIdOf C) = (if t then full_log s.log_ids else []) in log) id) (Some id) ≡ true
      by true e =
          let row = from_first cmp s.log_ids are in
          let w = within eq (first_index (full_log s.log_ids)) (full_log s.log_ids) id row (sym e) in
          rw (purged_reads (full_log s.log_ids) id row id.index (omega arith) w.1) (sym e)
      by false e = alone_has id (nat_le 0 id.index) (not_below_zero id.index) (if nat_lt id.index 0 then [] else [])

  -- and its membership is in the snapshot
  in_snapshot : {K N : Type 0} (log : List (LogIdOf C)) (id : LogIdOf C) (stored : StoredMembershipOf C K N)
      → is_not_past cmp id stored ≡ true → purged_or_in eq (id.index + 1) log (log_id_of stored) ≡ true
  in_snapshot log id stored past =
      let low = ends_by (log_id_of stored) id.index (and_parts _ _ past).1 in
      let t : nat_le (next_index (log_id_of stored)) (id.index + 1) ≡ true = grind (arith, nat_tests) in
      or_left (nat_le (next_index (log_id_of stored)) (id.index + 1)) (in_log eq log (log_id_of stored)) t

  one_of : {K N : Type 0} (next : ℕ) (log : List (LogIdOf C)) (a b : StoredMembershipOf C K N) (t : Bool)
      → purged_or_in eq next log (log_id_of b) ≡ true → purged_or_in eq next log (log_id_of a) ≡ true
      → purged_or_in eq next log (log_id_of (let new : StoredMembershipOf C K N = (if t then a else b) in new)) ≡ true
  one_of next log a b true old new = new
  one_of next log a b false old new = old

  -- an effective membership past the snapshot is not committed by it
  not_known : (ks : List (LogIdOf C)) (next : ℕ) (id : LogIdOf C) (effective : Option (LogIdOf C)) → IsKeyList cmp ks
      → in_log eq (full_log ks) (Some id) ≡ true → next ≤ id.index + 1 → purged_or_in eq next (full_log ks) effective ≡ true
      → index_le (index_of effective) (Some id.index) ≡ false → id_le cmp effective (Some id) ≡ true → ⊥
  not_known ks next id effective are here le kept past low =
      let after = ends_after effective id.index past in
      let t : nat_le (next_index effective) next ≡ false = grind (arith, nat_tests) in
      let there = either_second (nat_le (next_index effective) next) (in_log eq (full_log ks) effective) t kept in
      let order = in_order cmp eq total law eqs ks effective (Some id) are there here low in
      omega arith

  installed_members : {K N I L : Type 0} (s : RaftStateIn K N I L C) (id : LogIdOf C) (stored : StoredMembershipOf C K N)
      → IsKeyList cmp s.log_ids → is_not_past cmp id stored ≡ true → IsSound eq cmp s
      → AreKept eq cmp (id.index + 1) (log_after_install eq id s) (Some id) (memberships_after_install cmp eq id stored s)
  installed_members {K} {N} s id stored are past sound = by (is_logged eq id s) refl
    where
      over : (t : Bool) → t ≡ is_covered id.index s.membership_state → is_logged eq id s ≡ true
          → AreKept eq cmp (id.index + 1) (log_after_purge (full_log s.log_ids) id) (Some id)
          (let new : Memberships C K N = (if t then record { committed = stored; effective = stored } else record {
            committed = if id_lt cmp (log_id_of s.membership_state.committed) (log_id_of stored) then stored else
                s.membership_state.committed;
            effective = if index_le (index_at s.membership_state.effective) (index_at stored) then stored else s.membership_state.effective;
          }) in new)
      over true e here = alone eq cmp eqs (id.index + 1) (log_after_purge (full_log s.log_ids) id) (Some id) stored
          (in_snapshot (log_after_purge (full_log s.log_ids) id) id stored past)
      over false e here =
          let stays : index_le (index_at s.membership_state.effective) (index_at stored) ≡ false =
          not_in_index (index_at stored) (index_at s.membership_state.effective) id.index (and_parts _ _ past).1 (sym e) in
          let row = from_first cmp s.log_ids are in
          let w = within eq (first_index (full_log s.log_ids)) (full_log s.log_ids) id row here in
          let fits = all_hold _ _ _ sound.valid in
          let next = next_rises s.purged_next id.index (first_id (full_log s.log_ids)) fits.0
          (first_not_past (full_log s.log_ids) id.index w.0) in
          let members = members_of cmp eq s sound in
          rw stays (record {
            committed = one_of (id.index + 1) (log_after_purge (full_log s.log_ids) id) stored s.membership_state.committed
                (id_lt cmp (log_id_of s.membership_state.committed) (log_id_of stored))
                (purge_keeps eq s.purged_next (full_log s.log_ids) id (log_id_of s.membership_state.committed) row next members.committed)
                (in_snapshot (log_after_purge (full_log s.log_ids) id) id stored past);
            effective = purge_keeps eq s.purged_next (full_log s.log_ids) id (log_id_of s.membership_state.effective) row next
                members.effective;
            known = λ low. absurd (not_known s.log_ids s.purged_next id (log_id_of s.membership_state.effective) are here next
                members.effective (sym e) low);
          })

      by : (t : Bool) → t ≡ is_logged eq id s
          → AreKept eq cmp (id.index + 1) (log_after_purge (let log : List (LogIdOf C) = (if t then full_log s.log_ids else []) in log) id)
          (Some id)
          (let new : Memberships C K N = (if t then after_update_committed cmp stored id.index s.membership_state
          else record { committed = stored; effective = stored }) in new)
      by true e = over (is_covered id.index s.membership_state) refl (sym e)
      by false e = alone eq cmp eqs (id.index + 1) (log_after_purge [] id) (Some id) stored
          (in_snapshot (log_after_purge [] id) id stored past)

  pub install_sound : {K N I L : Type 0} (base s : RaftStateIn K N I L C) (id : LogIdOf C) (stored : StoredMembershipOf C K N)
      (keys : List (LogIdOf C)) (m : Memberships C K N) (before accepted : AcceptedIn L C) (meta : SnapshotMetaOf C K N)
      → IsKeyList cmp s.log_ids → full_log keys ≡ log_after_install eq id s
      → m ≡ memberships_after_install cmp eq id stored s → accepted ≡ accepted_upto cmp before (last_id (full_log keys))
      → meta.last_log_id ≡ Some id
      → is_not_past cmp id stored ≡ true → keeps_effective cmp eq id stored s ≡ true
      → IsSound eq cmp s
      → IsSound eq cmp (record base {
        committed = Some id;
        purged_next = id.index + 1;
        log_ids = keys;
        membership_state = m;
        accepted = accepted;
        snapshot_meta = meta;
        purge_upto = Some id;
      })
  install_sound base s id stored keys m before accepted meta are is is_m is_accepted is_meta past may sound =
      makes_sound cmp eq (record base {
        committed = Some id;
        purged_next = id.index + 1;
        log_ids = keys;
        membership_state = m;
        accepted = accepted;
        snapshot_meta = meta;
        purge_upto = Some id;
      })
      (install_stays_valid cmp eq total law eqs s id stored keys m accepted meta are is is_m is_meta past may sound.valid)
      (rw is (installed_has s id are)) (rw is (installed_has s id are))
      (rw is_accepted (accepted_fits total before (last_id (full_log keys))))
      (rw (is, is_m) (installed_members s id stored are past sound))

  -- the committed membership is the snapshot's, unless it is past the snapshot
  pub installs_own : {K N I L : Type 0} (s : RaftStateIn K N I L C) (id : LogIdOf C) (stored : StoredMembershipOf C K N)
      → keeps_committed cmp eq id stored s ≡ true → index_le (index_at s.membership_state.committed) (Some id.index) ≡ true
      → same_ids eq (log_id_of (memberships_after_install cmp eq id stored s).committed) (log_id_of stored) ≡ true
  installs_own {K} {N} s id stored keeps low = by (is_logged eq id s) keeps
    where
      last : (t : Bool) → t ≡ id_lt cmp (log_id_of s.membership_state.committed) (log_id_of stored)
          → id_le cmp (log_id_of s.membership_state.committed) (log_id_of stored) ≡ true
          → same_ids eq (log_id_of (let new : StoredMembershipOf C K N = (if t then stored else s.membership_state.committed) in new))
          (log_id_of stored) ≡ true
      last true e le = same_itself eq eqs (log_id_of stored)
      last false e le = same_ties (log_id_of s.membership_state.committed) (log_id_of stored) le (sym e)

      over : (t : Bool) → id_le cmp (log_id_of s.membership_state.committed) (log_id_of stored) ≡ true
          → same_ids eq (log_id_of (let new : Memberships C K N = (if t then record { committed = stored; effective = stored } else record {
            committed = if id_lt cmp (log_id_of s.membership_state.committed) (log_id_of stored) then stored else
                s.membership_state.committed;
            effective = if index_le (index_at s.membership_state.effective) (index_at stored) then stored else s.membership_state.effective;
          }) in new).committed) (log_id_of stored) ≡ true
      over true le = same_itself eq eqs (log_id_of stored)
      over false le = last (id_lt cmp (log_id_of s.membership_state.committed) (log_id_of stored)) refl le

      by : (t : Bool)
          → is_not_above cmp s.membership_state.committed stored
          || (t && index_lt (Some id.index) (index_at s.membership_state.committed)) ≡ true
          → same_ids eq (log_id_of (let new : Memberships C K N = (if t then after_update_committed cmp stored id.index s.membership_state
          else record { committed = stored; effective = stored }) in new).committed) (log_id_of stored) ≡ true
      by true k =
          let above = first_holds (is_not_above cmp s.membership_state.committed stored) true
          (index_lt (Some id.index) (index_at s.membership_state.committed))
          (within_index (index_at s.membership_state.committed) id.index low) k in
          over (is_covered id.index s.membership_state) (and_parts _ _ above).0
      by false k = same_itself eq eqs (log_id_of stored)

  -- and no committed membership is lost
  pub installs_no_lower : {K N I L : Type 0} (s : RaftStateIn K N I L C) (id : LogIdOf C) (stored : StoredMembershipOf C K N)
      → keeps_committed cmp eq id stored s ≡ true → broken_relation cmp s ≡ None
      → id_le cmp (log_id_of s.membership_state.committed) (log_id_of (memberships_after_install cmp eq id stored s).committed) ≡ true
  installs_no_lower {K} {N} s id stored keeps valid = by (is_logged eq id s) keeps
    where
      last : (t : Bool) → t ≡ id_lt cmp (log_id_of s.membership_state.committed) (log_id_of stored)
          → id_le cmp (log_id_of s.membership_state.committed)
          (log_id_of (let new : StoredMembershipOf C K N = (if t then stored else s.membership_state.committed) in new)) ≡ true
      last true e = AtMost-from_lt (option_cmp (log_id_cmp cmp)) (log_id_of s.membership_state.committed) (log_id_of stored) (sym e)
      last false e = AtMost-refl (optional-log_id_cmp-total total) (log_id_of s.membership_state.committed)

      over : (t : Bool) → t ≡ is_covered id.index s.membership_state
          → is_not_above cmp s.membership_state.committed stored
          || (true && index_lt (Some id.index) (index_at s.membership_state.committed)) ≡ true
          → id_le cmp (log_id_of s.membership_state.committed)
          (log_id_of (let new : Memberships C K N = (if t then record { committed = stored; effective = stored } else record {
            committed = if id_lt cmp (log_id_of s.membership_state.committed) (log_id_of stored) then stored else
                s.membership_state.committed;
            effective = if index_le (index_at s.membership_state.effective) (index_at stored) then stored else s.membership_state.effective;
          }) in new).committed) ≡ true
      over true e k =
          let not_after = past_index (index_at s.membership_state.committed) (index_at s.membership_state.effective) id.index
          (members_in_order cmp s valid) (sym e) in
          let above = first_holds (is_not_above cmp s.membership_state.committed stored) true
          (index_lt (Some id.index) (index_at s.membership_state.committed)) not_after k in
          (and_parts _ _ above).0
      over false e k = last (id_lt cmp (log_id_of s.membership_state.committed) (log_id_of stored)) refl

      by : (t : Bool)
          → is_not_above cmp s.membership_state.committed stored
          || (t && index_lt (Some id.index) (index_at s.membership_state.committed)) ≡ true
          → id_le cmp (log_id_of s.membership_state.committed)
          (log_id_of (let new : Memberships C K N = (if t then after_update_committed cmp stored id.index s.membership_state
          else record { committed = stored; effective = stored }) in new).committed) ≡ true
      by true k = over (is_covered id.index s.membership_state) refl k
      by false k = (and_parts _ _ (not_logged_holds (is_not_above cmp s.membership_state.committed stored)
          (index_lt (Some id.index) (index_at s.membership_state.committed)) k)).0
