-- A state over which a snapshot is installed stays valid.
use Rattle.std.proofs.Common.{◌≡◌, ℕ, ◌+◌, ◌==◌, ◌≤◌, Bool, true, false, ◌||◌, List, [], ◌∷◌, Option, Some, None, if◌then◌else◌, not, nat_lt, nat_le, refl, sym, arith, ◌∙◌}
use Rattle.std.proofs.lemmas.Bool.{and_parts, or_left}
use Rattle.std.proofs.lemmas.Bool.Decides.{nat_tests}
use Rattle.std.specs.declared.cmp.Ordering.{Ordering}
use Rattle.std.specs.Cmp.{IsEquivalence, IsTotalOrder, nat_cmp_total}
use Rattle.std.specs.Cmp.Lexicographic.{options_total}
use Rattle.std.specs.Ordering.{is_eq, is_le}
use Rattle.raft_base.specs.LogId.{id_le, id_lt, same_ids}
use Rattle.raft_base.specs.LogIdLawful.{optional-log_id_cmp-total}
use Rattle.raft_base.specs.LogIndex.{index_le}
use Rattle.raft_base.specs.Validate.{first_false}
use Rattle.raft_base.specs.declared.log_id.LogIdOf.{LogIdOf}
use Rattle.raft_members.specs.membership.Stored.{log_id_of}
use Rattle.raft_members.specs.declared.membership.stored.StoredMembershipOf.{StoredMembershipOf}
use Rattle.raft_progress.proofs.lemmas.OrderLemmas.{AtMost-refl}
use Rattle.raft_base.specs.declared.log_id.validate.Invalid.TheVariants.{PurgedNext, LastPurgedPastUpto, SnapshotPastCommitted, CommittedPastLast}
use Rattle.raft_state.proofs.lemmas.log_id_list.IdOrderLemmas.{leaders_symm, then_below, upto_equal}
use Rattle.raft_state.proofs.lemmas.log_id_list.FrontLemmas.{from_first, rest_first, rest_last}
use Rattle.raft_state.proofs.lemmas.log_id_list.KeyListLemmas.{IsKeyList}
use Rattle.raft_state.proofs.lemmas.validate.RelationLemmas.{all_hold, hold_all}
use Rattle.raft_state.proofs.lemmas.log_id_list.OrderLemmas.{From, above_full, index_within, last_at_least}
use Rattle.raft_state.proofs.lemmas.log_id_list.SameLogLemmas.{equal_found}
use Rattle.raft_state.specs.log_id_list.FullLog.{end_index, first_index, full_log}
use Rattle.raft_state.specs.raft_state.Install.{is_logged, is_not_past, keeps_effective, log_after_install, log_to_keep, memberships_after_install}
use Rattle.raft_state.specs.log_id_list.LogConditions.{can_purge}
use Rattle.raft_state.specs.log_id_list.LogEdits.{log_after_purge, rest}
use Rattle.raft_state.specs.log_id_list.LogReads.{first_id, id_at, last_id}
use Rattle.raft_state.specs.membership_state.MembershipMoves.{after_update_committed, is_covered}
use Rattle.raft_state.specs.membership_state.MembershipRelations.{membership_relations}
use Rattle.raft_state.specs.membership_state.Memberships.{Memberships, index_at}
use Rattle.raft_state.specs.raft_state.Valid.{broken_relation, fits_purged_next, upto_relation}
use Rattle.raft_state.specs.declared.accepted.AcceptedIn.{AcceptedIn}
use Rattle.raft_state.specs.declared.raft_state.RaftStateIn.{RaftStateIn}
use Rattle.raft_state.specs.declared.snapshot_meta.SnapshotMetaOf.{SnapshotMetaOf}

in_index : (a b : Option ℕ) (i j : ℕ) → index_le a (Some i) ≡ true → index_le b (Some j) ≡ false → i ≤ j → index_le a b ≡ true
in_index None None i j h g le = refl
in_index None (Some b) i j h g le = refl
in_index (Some a) None i j h g le = cc
in_index (Some a) (Some b) i j h g le = grind (arith, nat_tests)

pub not_in_index : (a b : Option ℕ) (i : ℕ) → index_le a (Some i) ≡ true → index_le b (Some i) ≡ false → index_le b a ≡ false
not_in_index None None i h g = cc
not_in_index None (Some b) i h g = refl
not_in_index (Some a) None i h g = cc
not_in_index (Some a) (Some b) i h g = grind (arith, nat_tests)

pub not_below_zero : (i : ℕ) → nat_le 0 i ≡ true
not_below_zero i = grind (arith, nat_tests)

-- a log that begins and ends where a snapshot up to a log id does, or after it
pub record IsFrom {C : Type 0} (cmp : C → C → Ordering) (id : LogIdOf C) (log : List (LogIdOf C)) : Type 0 where
  pub first : LogIdOf C
  pub is_first : first_id log ≡ Some first
  pub index : first.index ≡ id.index
  pub first_at_most : id_le cmp (Some first) (Some id) ≡ true
  pub last_at_least : id_le cmp (Some id) (last_id log) ≡ true

module _ {C : Type 0} (cmp : C → C → Ordering) (eq : C → C → Bool) (total : IsTotalOrder cmp) (law : (x y : C) → eq x y ≡ is_eq (cmp x y))
    (eqs : IsEquivalence eq) where
  alone : (id : LogIdOf C) → IsFrom cmp id (id ∷ [])
  alone id = let r = AtMost-refl (optional-log_id_cmp-total total) (Some id) in
      record { first = id; is_first = refl; index = refl; first_at_most = r; last_at_least = r }

  alone_of : (id : LogIdOf C) (t : Bool) → t ≡ true → (others : List (LogIdOf C))
      → IsFrom cmp id (let log : List (LogIdOf C) = (if t then id ∷ [] else others) in log)
  alone_of id true e others = alone id
  alone_of id false e others = cc

  -- a log that has the log id
  over_logged : (keys : List (LogIdOf C)) (id : LogIdOf C) → IsKeyList cmp keys
      → same_ids eq (id_at (full_log keys) id.index) (Some id) ≡ true → IsFrom cmp id (log_after_purge (full_log keys) id)
  over_logged [] id s h = cc
  over_logged (k ∷ ks) id s h = by_end (nat_le (end_index log) id.index) refl
    where
      log : List (LogIdOf C)
      log = full_log (k ∷ ks)

      row : From (first_index (full_log (k ∷ ks))) (full_log (k ∷ ks))
      row = from_first cmp (k ∷ ks) s

      by_end : (t : Bool) → t ≡ nat_le (end_index (full_log (k ∷ ks))) id.index
          → IsFrom cmp id (if t then id ∷ [] else (if nat_lt id.index (first_index (full_log (k ∷ ks))) then full_log (k ∷ ks) else rest
          (full_log (k ∷ ks)) id.index))
      by_end true e = alone id
      by_end false e =
          let f = equal_found eq (id_at (full_log (k ∷ ks)) id.index) id h in
          let f3 = f.3 in
          let w = index_within (first_index (full_log (k ∷ ks))) id.index (full_log (k ∷ ks)) f.0 row f.1 in let w0 = w.0 in
          let z = last_at_least cmp total k.leader_id (first_index (full_log (k ∷ ks))) id.index (full_log (k ∷ ks)) f.0
          (above_full cmp total k.leader_id k ks s (AtMost-refl total k.leader_id)) row f.1 in
          let t : nat_lt id.index (first_index (full_log (k ∷ ks))) ≡ false = grind (arith, nat_tests) in
          rw t (record {
            first = f.0;
            is_first = rest_first (first_index (full_log (k ∷ ks))) id.index (full_log (k ∷ ks)) row w.0 ∙ f.1;
            index = f.3;
            first_at_most = then_below (cmp f.0.leader_id id.leader_id) f.0.index id.index
                (upto_equal cmp eq total law f.0.leader_id id.leader_id id.leader_id f.2 (AtMost-refl total id.leader_id))
                (omega arith);
            last_at_least = rw (rest_last (first_index (full_log (k ∷ ks))) id.index (full_log (k ∷ ks)) row w.1, z.1)
                (then_below (cmp id.leader_id z.0.leader_id) id.index z.0.index
                (upto_equal cmp eq total law id.leader_id f.0.leader_id z.0.leader_id (leaders_symm eqs f.0.leader_id id.leader_id f.2) z.2)
                z.3);
          })

  -- the log once a snapshot is installed
  pub is_from : {K N I L : Type 0} (s : RaftStateIn K N I L C) (id : LogIdOf C) → IsKeyList cmp s.log_ids
      → IsFrom cmp id (log_after_install eq id s)
  is_from s id keys = by (is_logged eq id s) refl
    where
      by : (t : Bool) → t ≡ is_logged eq id s
          → IsFrom cmp id (log_after_purge (let log : List (LogIdOf C) = (if t then full_log s.log_ids else []) in log) id)
      by true e = over_logged s.log_ids id keys (sym e)
      by false e = alone_of id (nat_le 0 id.index) (not_below_zero id.index) (if nat_lt id.index 0 then [] else [])

  -- the log may be purged to the snapshot's last log id
  pub purge_fits : {K N I L : Type 0} (s : RaftStateIn K N I L C) (id : LogIdOf C)
      → IsKeyList cmp s.log_ids → can_purge cmp (last_id (log_to_keep eq id s)) id ≡ true
  purge_fits s id keys = by (is_logged eq id s) refl
    where
      whole : (ks : List (LogIdOf C)) → IsKeyList cmp ks → same_ids eq (id_at (full_log ks) id.index) (Some id) ≡ true
          → can_purge cmp (last_id (full_log ks)) id ≡ true
      whole [] is h = cc
      whole (k ∷ ks) is h =
          let f = equal_found eq (id_at (full_log (k ∷ ks)) id.index) id h in
          let z = last_at_least cmp total k.leader_id (first_index (full_log (k ∷ ks))) id.index (full_log (k ∷ ks)) f.0
          (above_full cmp total k.leader_id k ks is (AtMost-refl total k.leader_id)) (from_first cmp (k ∷ ks) is) f.1 in
          let z3 = z.3 in
          let t : nat_le id.index z.0.index ≡ true = grind (arith, nat_tests) in
          rw z.1 (or_left (nat_le id.index z.0.index) (is_le (cmp z.0.leader_id id.leader_id)) t)

      by : (t : Bool) → t ≡ is_logged eq id s
          → can_purge cmp (last_id (let log : List (LogIdOf C) = (if t then full_log s.log_ids else []) in log)) id ≡ true
      by true e = whole s.log_ids keys (sym e)
      by false e = refl

  -- valid memberships stay valid
  members_stay : {K N : Type 0} (id : LogIdOf C) (stored : StoredMembershipOf C K N) (m : Memberships C K N)
      → first_false (membership_relations cmp m) ≡ None → is_not_past cmp id stored ≡ true
      → is_covered id.index m || id_le cmp (log_id_of stored) (log_id_of m.effective) ≡ true
      → first_false (membership_relations cmp (after_update_committed cmp stored id.index m)) ≡ None
  members_stay {K} {N} id stored m valid past over = by (is_covered id.index m) refl over
    where
      old : (id_le cmp (log_id_of m.committed) (log_id_of m.effective) ≡ true)
          × (index_le (index_at m.committed) (index_at m.effective) ≡ true)
      old = let first = all_hold _ _ _ valid in (first.0, (all_hold _ _ _ first.1).0)

      kept : (t : Bool) → id_le cmp (log_id_of stored) (log_id_of m.effective) ≡ true
          → index_le (index_at stored) (index_at m.effective) ≡ true
          → first_false (membership_relations cmp
          (let new : Memberships C K N = record { committed = if t then stored else m.committed; effective = m.effective } in new))
          ≡ None
      kept true low index = hold_all _ _ _ low (hold_all _ _ _ index refl)
      kept false low index = hold_all _ _ _ old.0 (hold_all _ _ _ old.1 refl)

      by : (t : Bool) → t ≡ is_covered id.index m → t || id_le cmp (log_id_of stored) (log_id_of m.effective) ≡ true
          → first_false (membership_relations cmp
          (let new : Memberships C K N = (if t then record { committed = stored; effective = stored } else record {
            committed = if id_lt cmp (log_id_of m.committed) (log_id_of stored) then stored else m.committed;
            effective = if index_le (index_at m.effective) (index_at stored) then stored else m.effective;
          }) in new)) ≡ None
      by true e o = hold_all _ _ _ (AtMost-refl (optional-log_id_cmp-total total) (log_id_of stored))
          (hold_all _ _ _ (AtMost-refl (options_total nat_cmp_total) (index_at stored)) refl)
      by false e o =
          let in_snapshot = (and_parts _ _ past).1 in
          let stays : index_le (index_at m.effective) (index_at stored) ≡ false =
          not_in_index (index_at stored) (index_at m.effective) id.index in_snapshot (sym e) in
          rw stays (kept (id_lt cmp (log_id_of m.committed) (log_id_of stored)) o
          (in_index (index_at stored) (index_at m.effective) id.index id.index in_snapshot (sym e) (omega arith)))

  -- and so do those over which a snapshot is installed
  all_members_stay : {K N I L : Type 0} (s : RaftStateIn K N I L C) (id : LogIdOf C) (stored : StoredMembershipOf C K N)
      → is_not_past cmp id stored ≡ true → keeps_effective cmp eq id stored s ≡ true
      → first_false (membership_relations cmp s.membership_state) ≡ None
      → first_false (membership_relations cmp (memberships_after_install cmp eq id stored s)) ≡ None
  all_members_stay {K} {N} s id stored past may valid = by (is_logged eq id s) may
    where
      by : (t : Bool)
          → not t || is_covered id.index s.membership_state
          || id_le cmp (log_id_of stored) (log_id_of s.membership_state.effective) ≡ true
          → first_false (membership_relations cmp
          (let new : Memberships C K N = (if t then after_update_committed cmp stored id.index s.membership_state
          else record { committed = stored; effective = stored }) in new)) ≡ None
      by true m = members_stay id stored s.membership_state valid past m
      by false m = hold_all _ _ _ (AtMost-refl (optional-log_id_cmp-total total) (log_id_of stored))
          (hold_all _ _ _ (AtMost-refl (options_total nat_cmp_total) (index_at stored)) refl)

  installed_begins : (log : List (LogIdOf C)) (id : LogIdOf C) → IsFrom cmp id log
      → (fits_purged_next (id.index + 1) (first_id log) ≡ true)
      × (id_le cmp (if (id.index + 1) == 0 then None else first_id log) (Some id) ≡ true)
  installed_begins log id f =
      let t : ((id.index + 1) == 0) ≡ false = grind (arith, nat_tests) in
      let at = f.index in
      let u : ((f.first.index + 1) == (id.index + 1)) ≡ true = grind (arith, nat_tests) in
      (rw (f.is_first, t) u, rw (f.is_first, t) f.first_at_most)

  pub install_stays_valid : {K N I L : Type 0} (s : RaftStateIn K N I L C) (id : LogIdOf C) (stored : StoredMembershipOf C K N)
      (keys : List (LogIdOf C)) (m : Memberships C K N) (accepted : AcceptedIn L C) (meta : SnapshotMetaOf C K N)
      → IsKeyList cmp s.log_ids → full_log keys ≡ log_after_install eq id s
      → m ≡ memberships_after_install cmp eq id stored s → meta.last_log_id ≡ Some id
      → is_not_past cmp id stored ≡ true → keeps_effective cmp eq id stored s ≡ true
      → broken_relation cmp s ≡ None
      → broken_relation cmp (record s {
        committed = Some id;
        purged_next = id.index + 1;
        log_ids = keys;
        membership_state = m;
        accepted = accepted;
        snapshot_meta = meta;
        purge_upto = Some id;
      }) ≡ None
  install_stays_valid s id stored keys m accepted meta are is is_m is_meta not_past may valid =
      let log = full_log s.log_ids in
      let fits = all_hold (fits_purged_next s.purged_next (first_id log)) PurgedNext _ valid in
      let purge_point = all_hold (id_le cmp (if s.purged_next == 0 then None else first_id log) s.purge_upto) LastPurgedPastUpto _ fits.1 in
      let relation = upto_relation cmp s.purge_upto s.committed s.snapshot_meta.last_log_id in
      let old_upto = all_hold relation.0 relation.1 _ purge_point.1 in
      let old_snapshot = all_hold (id_le cmp s.snapshot_meta.last_log_id s.committed) SnapshotPastCommitted _ old_upto.1 in
      let old = all_hold (id_le cmp s.committed (last_id log)) CommittedPastLast _ old_snapshot.1 in
      let from = is_from s id are in
      let begins = installed_begins (log_after_install eq id s) id from in
      let itself = AtMost-refl (optional-log_id_cmp-total total) (Some id) in
      let first : fits_purged_next (id.index + 1) (first_id (full_log keys)) ≡ true = rw is begins.0 in
      let purged : id_le cmp (if (id.index + 1) == 0 then None else first_id (full_log keys)) (Some id) ≡ true = rw is begins.1 in
      let upto : (upto_relation cmp (Some id) (Some id) meta.last_log_id).0 ≡ true = rw is_meta itself in
      let snapshot : id_le cmp meta.last_log_id (Some id) ≡ true = rw is_meta itself in
      let last : id_le cmp (Some id) (last_id (full_log keys)) ≡ true = rw is from.last_at_least in
      let members : first_false (membership_relations cmp m) ≡ None = rw is_m (all_members_stay s id stored not_past may old.1) in
      hold_all (fits_purged_next (id.index + 1) (first_id (full_log keys))) PurgedNext _ first
      (hold_all (id_le cmp (if (id.index + 1) == 0 then None else first_id (full_log keys)) (Some id)) LastPurgedPastUpto _ purged
      (hold_all (upto_relation cmp (Some id) (Some id) meta.last_log_id).0 (upto_relation cmp (Some id) (Some id) meta.last_log_id).1 _ upto
      (hold_all (id_le cmp meta.last_log_id (Some id)) SnapshotPastCommitted _ snapshot
      (hold_all (id_le cmp (Some id) (last_id (full_log keys))) CommittedPastLast _ last members))))
