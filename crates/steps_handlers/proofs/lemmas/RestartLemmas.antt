-- A server that has a snapshot alone, and the entries past it.
use Rattle.std.proofs.Common.{◌≡◌, ℕ, ◌+◌, ◌^◌, ◌≤◌, Bool, true, false, ◌&&◌, List, [], ◌∷◌, ◌++◌, Option, Some, None, if◌then◌else◌, nat_eq, nat_le, nat_lt, not, refl, sym, subst, ap, arith, true≢false, ◌∙◌}
use Rattle.std.proofs.Math.Bool.{and-false, and-true}
use Rattle.std.proofs.lemmas.Bool.Decides.{nat_tests}
use Rattle.std.proofs.lemmas.Bool.{and_right}
use Rattle.std.proofs.lemmas.List.{append-nil}
use Rattle.std.specs.Cmp.{IsEquivalence, IsPartialOrder, IsTotalOrder}
use Rattle.std.specs.Prelude.{is_some, Result, Ok, Err}
use Rattle.std.specs.declared.cmp.Ordering.{Ordering}
use Rattle.std.specs.declared.cmp.Ordering.TheVariants.{Equal}
use Rattle.std.specs.Cmp.Derive.{both_true}
use Rattle.std.specs.Ordering.{partial_ge}
use Rattle.raft_base.specs.LogId.{id_lt, index_of, next_index}
use Rattle.raft_base.specs.LogIndex.{index_le, index_lt}
use Rattle.raft_base.specs.UTime.{moment_of, utime_of}
use Rattle.raft_base.specs.Vote.{vote_cmp}
use Rattle.raft_base.specs.declared.log_id.LogIdOf.{LogIdOf}
use Rattle.raft_base.specs.declared.vote.VoteIn.{VoteIn}
use Rattle.raft_base.specs.LogIdLawful.{optional-log_id_cmp-total}
use Rattle.steps_handlers.proofs.lemmas.TakeLemmas.{commit_allows, commit_committed, commit_lacks, commit_log, commit_point, commit_purged, commit_snapshot, commit_takes}
use Rattle.steps_handlers.specs.Append.{greater_id, memberships_before, TakesMemberships}
use Rattle.steps_handlers.specs.Entries.{allows_commit_past, effective_before, effective_with, ends_before, entry_ids, has_id, has_memberships_in_order, keeps_committed, last_before, log_with_new}
use Rattle.steps_handlers.specs.Restart.{entries_past, refused_entries, snapshot_fits, snapshot_ids, snapshot_membership, AppendsStored, CommitsKnown, IsMembershipAt, IsRefusedWith, IsRestartRefusal, IsSnapshotAt, Restores}
use Rattle.steps_handlers.specs.Entries.{RefusedUnless}
use Rattle.steps_handlers.specs.Snapshot.{install_refusal, InstallsSnapshot, RefusedFor}
use Rattle.steps_handlers.specs.Inner.Log.{Replaces, commit_tests, new_tests}
use Rattle.steps_handlers.specs.Inner.Restart.{HasSnapshotAlone, RefusedUnlessFits}
use Rattle.steps_handlers.specs.declared.error.AppendError.{AppendError}
use Rattle.steps_handlers.specs.declared.error.AppendError.TheVariants.{CommittedNotLogged, MembershipNotInOrder, NotInOrder, OutOfMemory, TruncatesCommitted}
use Rattle.steps_handlers.specs.declared.error.SnapshotError.{SnapshotError}
use Rattle.steps_handlers.specs.declared.error.SnapshotError.TheVariants.{DoesNotFit}
use Rattle.raft_members.specs.membership.Stored.{log_id_of}
use Rattle.raft_state.proofs.lemmas.log_id_list.IdOrderLemmas.{none_at_most}
use Rattle.raft_progress.proofs.lemmas.OrderLemmas.{AtMost-refl, not_lt-from_AtMost}
use Rattle.raft_progress.specs.progress.Comparisons.{OrdMembers}
use Rattle.raft_state.specs.Accepted.{accepted_from}
use Rattle.raft_state.specs.SnapshotMeta.{IsSnapshotCopy}
use Rattle.raft_state.specs.log_id_list.FullLog.{full_log}
use Rattle.raft_state.specs.log_id_list.LogEdits.{front}
use Rattle.raft_state.specs.log_id_list.LogReads.{last_id}
use Rattle.raft_state.specs.membership_state.MembershipMoves.{after_commit, may_commit}
use Rattle.raft_state.specs.membership_state.Memberships.{index_at, IsNoMembership}
use Rattle.raft_state.specs.raft_state.Commit.{state_after_commit, state_may_commit}
use Rattle.raft_state.specs.raft_state.Install.{is_logged, is_not_above, is_not_past, may_accept, may_install}
use Rattle.raft_state.specs.raft_state.NewState.{HasNewVote, IsNewState}
use Rattle.raft_state.specs.raft_state.VoteAndLog.{log_view_of, vote_of}
use Rattle.raft_state.specs.raft_state.Valid.{none_or_logged}
use Rattle.raft_state.specs.declared.entry.EntryOf.{EntryOf}
use Rattle.raft_state.specs.declared.raft_state.RaftStateIn.{RaftStateIn}
use Rattle.raft_state.specs.declared.snapshot_meta.SnapshotMetaOf.{SnapshotMetaOf}

no_index_at_most : (o : Option ℕ) → index_le None o ≡ true
no_index_at_most None = refl
no_index_at_most (Some i) = refl

pub some_there : {X : Type 0} (o : Option X) → is_some o ≡ true → (x : X) × (o ≡ Some x)
some_there None h = absurd (true≢false (sym h))
some_there (Some x) h = (x, refl)

pub none_there : {X : Type 0} (o : Option X) → is_some o ≡ false → o ≡ None
none_there None h = refl
none_there (Some x) h = cc

-- a committed vote is at least the vote for the same leader
pub promises_own : {L : Type 0} (eq : L → L → Bool) (order : L → L → Option Ordering) → IsEquivalence eq → IsPartialOrder eq order
    → (leader : L) → partial_ge (vote_cmp order) (record { leader_id = leader; committed = true })
    (record { leader_id = leader; committed = false }) ≡ true
promises_own eq order eqs partial leader =
    let same : order leader leader ≡ Some Equal = (partial.matches_eq leader leader).0 (eqs.refl leader) in rw same refl

-- a leader that nothing was accepted from but itself may be accepted from
pub accepts_own : {K N I L C : Type 0} (eq : L → L → Bool) (order : L → L → Option Ordering) → IsEquivalence eq → IsPartialOrder eq order
    → (s : RaftStateIn K N I L C) (leader : L) → (vote_of s).leader_id ≡ leader → (vote_of s).committed ≡ true
    → s.accepted ≡ accepted_from leader None → may_accept order s ≡ true
accepts_own eq order eqs partial s leader is committed accepted =
    let same : order leader leader ≡ Some Equal = (partial.matches_eq leader leader).0 (eqs.refl leader) in
    rw (committed, is, accepted, same) refl

module _ {K N I L C : Type 0} (id_eq : K → K → Bool) (same : N → N → Bool) where
  -- a new state has no snapshot
  pub alone_new : (meta : SnapshotMetaOf C K N) (s : RaftStateIn K N I L C) → meta.last_log_id ≡ None → IsNewState s
      → HasSnapshotAlone id_eq same meta s
  alone_new meta s none new = record {
    log = rw none new.log;
    committed = rw none new.committed;
    purged_next = rw none new.purged_next;
    purge_point = rw none new.purge_upto;
    memberships = rw none (new.committed_membership, new.effective_membership);
    snapshot = rw none new.snapshot_meta;
  }

  -- after an install it has that snapshot
  pub alone_installed : (same_leader : L → L → Bool) (ord : OrdMembers C) (meta : SnapshotMetaOf C K N)
      (old new : RaftStateIn K N I L C) (last : LogIdOf C) → meta.last_log_id ≡ Some last → full_log old.log_ids ≡ []
      → InstallsSnapshot ord same_leader (IsSnapshotCopy id_eq same) meta old new → HasSnapshotAlone id_eq same meta new
  alone_installed same_leader ord meta old new last is empty installed =
      let rest = rw is at installed.rest in
      let copied = rest.1 in
      let kept : is_logged ord.eq last old ≡ false = rw empty refl in
      let log = rw is at installed.log in
      let begins : nat_le 0 last.index ≡ true = grind (arith, nat_tests) in
      let members : new.membership_state ≡ record { committed = rest.0.last_membership; effective = rest.0.last_membership } =
      ap (λ s. s.membership_state) rest.2 ∙ rw kept refl in
      record {
        log = rw is (log ∙ rw (kept, begins) refl);
        committed = rw is (ap (λ s. s.committed) rest.2);
        purged_next = rw is (ap (λ s. s.purged_next) rest.2);
        purge_point = rw is (ap (λ s. s.purge_upto) rest.2);
        memberships = rw (is, members) ((copied.log_id, copied.membership), (copied.log_id, copied.membership));
        snapshot = subst (λ (o : Option (LogIdOf C)). IsSnapshotAt id_eq same o meta new.snapshot_meta) (sym is) installed.snapshot;
      }

  -- and it may be installed exactly if it fits
  pub fits_alone : (order : L → L → Option Ordering) (cmp : C → C → Ordering) (eq : C → C → Bool) (meta : SnapshotMetaOf C K N)
      (s : RaftStateIn K N I L C) (last : LogIdOf C) → meta.last_log_id ≡ Some last → full_log s.log_ids ≡ [] → s.committed ≡ None
      → IsNoMembership s.membership_state.committed → may_accept order s ≡ true
      → may_install order cmp eq meta s ≡ snapshot_fits cmp meta.last_log_id meta.last_membership
  fits_alone order cmp eq meta s last is empty committed member accept =
      let none = member.log_id in
      let low : is_not_above cmp s.membership_state.committed meta.last_membership ≡ true =
      rw none (both_true (none_at_most cmp (log_id_of meta.last_membership)) (no_index_at_most (index_at meta.last_membership))) in
      let kept : is_logged eq last s ≡ false = rw empty refl in
      rw (is, committed, low, accept, kept)
      (and-true ((nat_lt (last.index + 1) (2 ^ 64) && is_not_past cmp last meta.last_membership && true) && true)
      ∙ and-true (nat_lt (last.index + 1) (2 ^ 64) && is_not_past cmp last meta.last_membership && true)
      ∙ and-true (nat_lt (last.index + 1) (2 ^ 64) && is_not_past cmp last meta.last_membership))

-- a new state that has promised the committed vote for its own leader
module _ {K N I L C : Type 0} (id_eq : K → K → Bool) (same : N → N → Bool) (same_leader : L → L → Bool)
    (order : L → L → Option Ordering) (cmp : C → C → Ordering) (eq : C → C → Bool) (leaders : IsEquivalence same_leader)
    (partial : IsPartialOrder same_leader order) (leader : L) (elected : C) (s new : RaftStateIn K N I L C) (fresh : IsNewState s)
    (own : HasNewVote leader elected s) (vote : VoteIn L) (is_vote : vote ≡ record (vote_of s) { committed = true }) (taken : Bool)
    (answer : taken ≡ partial_ge (vote_cmp order) vote (vote_of s))
    (is : new ≡ (let t : RaftStateIn K N I L C = (if taken then record s { vote = utime_of vote (moment_of s.vote) } else s) in t)) where
  made : vote ≡ record { leader_id = leader; committed = true }
  made = is_vote ∙ ap (λ v. record { leader_id = v.leader_id; committed = true }) own.vote

  pub promised : new ≡ record s { vote = utime_of vote (moment_of s.vote) }
  promised = let yes : taken ≡ true = answer ∙ rw (made, own.vote) (promises_own same_leader order leaders partial leader) in rw yes at is

  pub fits_promised : (meta : SnapshotMetaOf C K N) → is_some meta.last_log_id ≡ true
      → may_install order cmp eq meta new ≡ snapshot_fits cmp meta.last_log_id meta.last_membership
  fits_promised meta some =
      let there = some_there meta.last_log_id some in
      let accept = accepts_own same_leader order leaders partial new leader
      (ap (λ t. (vote_of t).leader_id) promised ∙ ap (λ v. v.leader_id) made)
      (ap (λ t. (vote_of t).committed) promised ∙ ap (λ v. v.committed) made) (ap (λ t. t.accepted) promised ∙ own.accepted) in
      fits_alone id_eq same order cmp eq meta new there.0 there.1 (rw promised fresh.log)
      (ap (λ t. t.committed) promised ∙ fresh.committed) (rw promised fresh.committed_membership) accept

  -- it has committed nothing, so each snapshot is past what it has committed
  pub past_promised : (o : Option (LogIdOf C)) → is_some o ≡ true → id_lt cmp new.committed o ≡ true
  past_promised None h = cc
  past_promised (Some last) h = rw (promised, fresh.committed) refl

  -- so an install into it is refused exactly if the snapshot does not fit
  pub refusal_promised : (meta : SnapshotMetaOf C K N) → is_some meta.last_log_id ≡ true
      → install_refusal order cmp eq meta new
      ≡ (if not (snapshot_fits cmp meta.last_log_id meta.last_membership) then Some DoesNotFit else None)
  refusal_promised meta some = rw (past_promised meta.last_log_id some, fits_promised meta some) refl

-- what the result of such an install says of the snapshot
pub fits_if_taken : {T : Type 0} (fits : Bool) (value : T) → RefusedFor (if not fits then Some DoesNotFit else None)
    (let taken : Result T SnapshotError = Ok value in taken) → fits ≡ true
fits_if_taken true value h = refl
fits_if_taken false value h = cc

pub refused_if_not : (T : Type 0) (fits : Bool) (e : SnapshotError) → RefusedFor (if not fits then Some DoesNotFit else None)
    (let refused : Result T SnapshotError = Err e in refused) → RefusedUnlessFits fits e
refused_if_not T true e h = rw h tt
refused_if_not T false e h = let is : e ≡ DoesNotFit = cc in rw is refl

-- an entry up to the last log id of a snapshot is not past it. If another leader has it at that index,
-- no entry is past it
module _ {C K N D : Type 0} (eq : C → C → Bool) (last : LogIdOf C) (e : EntryOf C K N D) (es : List (EntryOf C K N D))
    (le : e.log_id.index ≤ last.index) where
  low : nat_lt last.index e.log_id.index ≡ false
  low = grind (arith, nat_tests)

  pub past_later : nat_eq e.log_id.index last.index ≡ false → entries_past eq (Some last) (e ∷ es) ≡ entries_past eq (Some last) es
  past_later apart = rw (low, apart) refl

  pub past_same : not (eq e.log_id.leader_id last.leader_id) ≡ false → entries_past eq (Some last) (e ∷ es) ≡ entries_past eq (Some last) es
  past_same same = rw (low, same) (rw (and-false (nat_eq e.log_id.index last.index)) refl)

  pub past_other : nat_eq e.log_id.index last.index ≡ true → not (eq e.log_id.leader_id last.leader_id) ≡ true
      → entries_past eq (Some last) (e ∷ es) ≡ []
  past_other here other = rw (low, here, other) refl

-- entries past a snapshot are past its last log id
pub past_begin : {C K N D : Type 0} (eq : C → C → Bool) (last : Option (LogIdOf C)) (es rest : List (EntryOf C K N D)) (e : EntryOf C K N D)
    → entries_past eq last es ≡ e ∷ rest → next_index last ≤ e.log_id.index
past_begin eq None es rest e h = omega arith
past_begin eq (Some last) [] rest e h = cc
past_begin {C} {K} {N} {D} eq (Some last) (x ∷ xs) rest e h =
    by (nat_lt last.index x.log_id.index) refl
    (nat_eq x.log_id.index last.index && not (eq x.log_id.leader_id last.leader_id)) (past_begin eq (Some last) xs rest e) h
  where
    by : (t : Bool) → t ≡ nat_lt last.index x.log_id.index → (u : Bool)
        → (entries_past eq (Some last) xs ≡ e ∷ rest → last.index + 1 ≤ e.log_id.index)
        → (if t then x ∷ xs else (if u then [] else entries_past eq (Some last) xs)) ≡ e ∷ rest → last.index + 1 ≤ e.log_id.index
    by true t u more h = let is : x ≡ e = cc in rw (← is) (grind (arith, nat_tests))
    by false t true more h = cc
    by false t false more h = more h

-- a log of a snapshot alone has nothing past it
pub front_alone : {C : Type 0} (last : Option (LogIdOf C)) (i : ℕ) → next_index last ≤ i → front (snapshot_ids last) i ≡ snapshot_ids last
front_alone None i le = refl
front_alone (Some x) i le = let t : nat_lt x.index i ≡ true = grind (arith, nat_tests) in rw t refl

pub last_alone : {C : Type 0} (last : Option (LogIdOf C)) → last_id (snapshot_ids last) ≡ last
last_alone None = refl
last_alone (Some x) = refl

-- what a server with a snapshot alone has before entries past the snapshot
module _ {K N I L C : Type 0} (id_eq : K → K → Bool) (same : N → N → Bool) (ord : OrdMembers C)
    (meta : SnapshotMetaOf C K N) (s : RaftStateIn K N I L C) (alone : HasSnapshotAlone id_eq same meta s) where
  last_is : last_id (full_log s.log_ids) ≡ meta.last_log_id
  last_is = rw alone.log (last_alone meta.last_log_id)

  ends_alone : (i : ℕ) → next_index meta.last_log_id ≤ i → ends_before i s ≡ true
  ends_alone i le = rw last_is (by meta.last_log_id le)
    where
      by : (o : Option (LogIdOf C)) → next_index o ≤ i → index_lt (index_of o) (Some i) ≡ true
      by None le = refl
      by (Some x) le = grind (arith, nat_tests)

  effective_alone : log_id_of s.membership_state.effective ≡ snapshot_membership meta.last_log_id meta.last_membership
  effective_alone = by meta.last_log_id alone.memberships.1
    where
      by : (o : Option (LogIdOf C)) → IsMembershipAt id_eq same o meta.last_membership s.membership_state.effective
          → log_id_of s.membership_state.effective ≡ snapshot_membership o meta.last_membership
      by None m = m.log_id
      by (Some x) m = m.0

  module _ {D : Type 0} (stored new : List (EntryOf C K N D)) (is : entries_past ord.eq meta.last_log_id stored ≡ new)
      (committed : Option (LogIdOf C)) where
    before_alone : (memberships_before new s ≡ s.membership_state) × (last_before new s ≡ meta.last_log_id)
        × (effective_before new s ≡ snapshot_membership meta.last_log_id meta.last_membership)
        × (keeps_committed ord.cmp new s ≡ true)
        × (log_with_new (full_log s.log_ids) new ≡ snapshot_ids meta.last_log_id ++ entry_ids new)
    before_alone = by new is
      where
        by : (xs : List (EntryOf C K N D)) → entries_past ord.eq meta.last_log_id stored ≡ xs
            → (memberships_before xs s ≡ s.membership_state) × (last_before xs s ≡ meta.last_log_id)
            × (effective_before xs s ≡ snapshot_membership meta.last_log_id meta.last_membership)
            × (keeps_committed ord.cmp xs s ≡ true)
            × (log_with_new (full_log s.log_ids) xs ≡ snapshot_ids meta.last_log_id ++ entry_ids xs)
        by [] is = (refl, last_is, effective_alone, refl, rw alone.log (sym (append-nil (snapshot_ids meta.last_log_id))))
        by (e ∷ es) is =
            let le = past_begin ord.eq meta.last_log_id stored es e is in
            let ends = ends_alone e.log_id.index le in
            let front_is : front (full_log s.log_ids) e.log_id.index ≡ snapshot_ids meta.last_log_id =
            rw alone.log (front_alone meta.last_log_id e.log_id.index le) in (
              rw ends refl,
              ap last_id front_is ∙ last_alone meta.last_log_id,
              rw ends effective_alone,
              rw ends refl,
              ap (λ xs. xs ++ entry_ids (e ∷ es)) front_is,
            )

    -- entries past the snapshot are refused for what a restart is refused for
    pub restart_refused : (e : AppendError) → RefusedUnless (new_tests ord.cmp new s) e
        → IsRestartRefusal ord.eq ord.cmp meta stored committed (refused_entries e)
    restart_refused e refused = rw is (by e refused)
      where
        by : (e : AppendError) → RefusedUnless (new_tests ord.cmp new s) e
            → IsRefusedWith ord.eq ord.cmp meta new committed (refused_entries e)
        by NotInOrder h = rw before_alone.1 at h
        by TruncatesCommitted h = absurd (true≢false (sym before_alone.3 ∙ h))
        by MembershipNotInOrder h = rw (rw before_alone.2 at h) refl
        by CommittedNotLogged h = absurd (true≢false h)
        by OutOfMemory h = tt

    -- once they are appended
    module _ (eqs : IsEquivalence ord.eq) (mid : RaftStateIn K N I L C) (replaced : Replaces ord id_eq same new s mid) where
      -- so is the commit
      pub restart_not_committed : (e : AppendError) → RefusedUnless (commit_tests ord.eq ord.cmp committed mid) e
          → IsRestartRefusal ord.eq ord.cmp meta stored committed (refused_entries e)
      restart_not_committed e refused = rw is (by e refused)
        where
          by : (e : AppendError) → RefusedUnless (commit_tests ord.eq ord.cmp committed mid) e
              → IsRefusedWith ord.eq ord.cmp meta new committed (refused_entries e)
          by NotInOrder h = absurd (true≢false h)
          by TruncatesCommitted h = absurd (true≢false h)
          by MembershipNotInOrder h =
              let effective = snapshot_membership meta.last_log_id meta.last_membership in
              and_right (has_memberships_in_order ord.cmp effective new)
              (allows_commit_past ord.cmp (effective_with effective new) meta.last_log_id committed)
              (rw (before_alone.2, alone.committed) at (commit_allows ord id_eq same new committed s mid replaced false h))
          by CommittedNotLogged h =
              rw (alone.log, alone.committed) at (commit_lacks ord id_eq same new committed s mid replaced eqs h)
          by OutOfMemory h = tt

      -- and then the server has what its disk has
      pub restores : (after end : RaftStateIn K N I L C) → state_may_commit ord.cmp committed mid ≡ true
          → after ≡ state_after_commit ord.cmp committed mid
          → CommitsKnown ord.eq ord.cmp after.committed after.membership_state end
          → end ≡ record after { committed = end.committed; membership_state = end.membership_state }
          → Restores ord id_eq same meta stored committed end
      restores after end may commits known rest =
          let b = before_alone in
          let logs : end.log_ids ≡ mid.log_ids = ap (λ t. t.log_ids) rest ∙ commit_log ord.cmp committed mid after commits in
          let takes = commit_takes ord id_eq same new committed s mid replaced after commits in
          let stays : mid.committed ≡ s.committed = ap (λ t. t.committed) replaced.rest in
          let now : after.committed ≡ greater_id ord.cmp meta.last_log_id committed =
          rw (rw alone.committed at stays) at (commit_committed ord.cmp committed mid after commits) in
          record {
            log = rw (is, logs) (rw b.4 at replaced.log);
            purge_point = ap (λ t. t.purge_upto) rest ∙ commit_point ord.cmp committed mid after commits
                ∙ ap (λ t. t.purge_upto) replaced.rest ∙ alone.purge_point;
            purged = ap (λ t. t.purged_next) rest ∙ commit_purged ord.cmp committed mid after commits
                ∙ ap (λ t. t.purged_next) replaced.rest ∙ alone.purged_next;
            snapshot = rw (snapshots after end commits rest) alone.snapshot;
            allowed = rw is (rw (before_alone.2, alone.committed) at (commit_allows ord id_eq same new committed s mid replaced true may));
            committed = (after.membership_state, appended after takes, rw now at known);
          }
        where
          snapshots : (after end : RaftStateIn K N I L C) → after ≡ state_after_commit ord.cmp committed mid
              → end ≡ record after { committed = end.committed; membership_state = end.membership_state }
              → end.snapshot_meta ≡ s.snapshot_meta
          snapshots after end commits rest =
              ap (λ t. t.snapshot_meta) rest ∙ commit_snapshot ord.cmp committed mid after commits ∙ ap (λ t. t.snapshot_meta) replaced.rest

          appended : (after : RaftStateIn K N I L C) → TakesMemberships ord.cmp id_eq same new committed s after.membership_state
              → AppendsStored ord.cmp id_eq same meta (entries_past ord.eq meta.last_log_id stored) committed after.membership_state
          appended after takes =
              let b = before_alone in
              rw is (s.membership_state, takes.0, alone.memberships, rw b.0 at takes.1, rw alone.committed at takes.2)

-- what is known to be committed
not_below : {C : Type 0} (cmp : C → C → Ordering) → IsTotalOrder cmp → (o : Option (LogIdOf C)) → id_lt cmp o o ≡ false
not_below cmp total o = not_lt-from_AtMost (optional-log_id_cmp-total total) o o (AtMost-refl (optional-log_id_cmp-total total) o)

either_way : {C : Type 0} (b : Bool) (o : Option (LogIdOf C)) → o ≡ (if b then o else o)
either_way true o = refl
either_way false o = refl

module _ {K N I L C : Type 0} (eq : C → C → Bool) (cmp : C → C → Ordering) (total : IsTotalOrder cmp) where
  has_is : (s : RaftStateIn K N I L C) (o : Option (LogIdOf C)) → none_or_logged eq (log_view_of s) o ≡ has_id eq (full_log s.log_ids) o
  has_is s None = refl
  has_is s (Some x) = refl

  pub is_known : (s new : RaftStateIn K N I L C) → none_or_logged eq (log_view_of s) (log_id_of s.membership_state.committed) ≡ true
      → state_may_commit cmp (log_id_of s.membership_state.committed) s ≡ true
      → new ≡ state_after_commit cmp (log_id_of s.membership_state.committed) s
      → CommitsKnown eq cmp s.committed s.membership_state new
  is_known s new logged may is =
      rw is (by (id_lt cmp s.committed (log_id_of s.membership_state.committed)) refl
      (sym (has_is s (log_id_of s.membership_state.committed)) ∙ logged) may)
    where
      by : (t : Bool) → t ≡ id_lt cmp s.committed (log_id_of s.membership_state.committed)
          → has_id eq (full_log s.log_ids) (log_id_of s.membership_state.committed) ≡ true
          → (if t then may_commit cmp (log_id_of s.membership_state.committed) s.membership_state else true) ≡ true
          → CommitsKnown eq cmp s.committed s.membership_state (let u : RaftStateIn K N I L C = (if t then record s {
            committed = log_id_of s.membership_state.committed;
            membership_state = after_commit cmp (log_id_of s.membership_state.committed) s.membership_state;
          } else s) in u)
      by true e has may = record { known = rw (has, may, ← e) refl; memberships = rw (← e) refl }
      by false e has may = record {
        known = rw (← e)
            (either_way (has_id eq (full_log s.log_ids) (log_id_of s.membership_state.committed)
            && may_commit cmp (log_id_of s.membership_state.committed) s.membership_state) s.committed);
        memberships = rw (not_below cmp total s.committed) refl;
      }
