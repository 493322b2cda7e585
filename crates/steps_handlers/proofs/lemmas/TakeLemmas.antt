-- What a request to append entries leaves, from what its steps leave.
use Rattle.std.proofs.Common.{◌≡◌, ℕ, zero, suc, ◌+◌, Bool, true, false, ◌⊎◌, List, [], ◌∷◌, Option, Some, None, if◌then◌else◌, take, drop, refl, sym, ap, subst, inl, inr, true≢false, ◌∙◌}
use Rattle.std.proofs.lemmas.Bool.{and_parts, and_right}
use Rattle.std.specs.Cmp.{IsEquivalence}
use Rattle.std.specs.Cmp.Derive.{both_true}
use Rattle.std.specs.List.{prefix_len}
use Rattle.std.specs.declared.cmp.Ordering.{Ordering}
use Rattle.raft_base.specs.LogId.{id_lt, index_of}
use Rattle.raft_base.specs.declared.log_id.LogIdOf.{LogIdOf}
use Rattle.raft_base.specs.declared.utime.UTime.{UTime}
use Rattle.raft_base.specs.declared.vote.VoteIn.{VoteIn}
use Rattle.steps_handlers.proofs.lemmas.EntryLemmas.{entries_present, has_after_entries, has_alike, has_with_alone, prev_stays}
use Rattle.steps_handlers.proofs.lemmas.RefusalLemmas.{refused_unless_more}
use Rattle.steps_handlers.specs.Append.{accepted_before, append_tests, greater_id, has_entry, last_id_of_request, lesser_id, log_before, may_cut_at, memberships_before, entries_to_append, replaced_since, take_tests, Answers, ChangesNothing, CutAt, HasReplaced, IfHigherVote, IsConflict, IsCutBefore, IsLeftBy, IsLogKept, KeepsBelow, Refused, Refuses, TakesMemberships, Took}
use Rattle.steps_handlers.specs.Entries.{allows_commit_past, are_in_order, effective_before, effective_with, entry_ids, has_committed_with, has_id, has_memberships_in_order, has_with, keeps_committed, last_before, may_cut, tests_hold, RefusedUnless, TakeTests}
use Rattle.steps_handlers.specs.Inner.Log.{IsCut, Replaces, Stops, commit_tests, has_past_committed, new_tests}
use Rattle.steps_handlers.specs.Follow.{heard, is_followed}
use Rattle.steps_handlers.specs.declared.error.AppendError.{AppendError}
use Rattle.steps_handlers.specs.declared.error.AppendError.TheVariants.{NotInOrder}
use Rattle.steps_handlers.specs.declared.message.AppendEntries.{AppendEntries}
use Rattle.steps_handlers.specs.declared.message.Outcome.{Outcome}
use Rattle.steps_handlers.specs.declared.message.Outcome.TheVariants.{Matches, Conflict, HigherVote}
use Rattle.raft_members.specs.quorum.MajorityLawful.{list_all-weaker}
use Rattle.raft_progress.specs.progress.Comparisons.{OrdMembers}
use Rattle.raft_state.proofs.lemmas.sound.LoggedIds.{in_log, same_itself}
use Rattle.raft_state.specs.log_id_list.FullLog.{full_log}
use Rattle.raft_state.specs.log_id_list.LogReads.{id_at}
use Rattle.raft_state.specs.membership_state.MembershipMoves.{after_commit}
use Rattle.raft_state.specs.raft_state.Appended.{are_consecutive}
use Rattle.raft_state.specs.raft_state.Commit.{state_after_commit, state_may_commit}
use Rattle.raft_state.specs.membership_state.Memberships.{Memberships}
use Rattle.raft_state.specs.raft_state.Sound.{purged_or_logged}
use Rattle.raft_state.specs.raft_state.Valid.{none_or_logged}
use Rattle.raft_state.specs.raft_state.VoteAndLog.{log_view_of}
use Rattle.raft_state.specs.declared.accepted.AcceptedIn.{AcceptedIn}
use Rattle.raft_state.specs.declared.entry.EntryOf.{EntryOf}
use Rattle.raft_state.specs.declared.raft_state.RaftStateIn.{RaftStateIn}

-- the first ones of consecutive entries are consecutive
consecutive_take : {C K N D : Type 0} (n : ℕ) (last : Option (LogIdOf C)) (es : List (EntryOf C K N D))
    → are_consecutive last (entry_ids es) ≡ true → are_consecutive last (entry_ids (take n es)) ≡ true
consecutive_take zero last [] h = refl
consecutive_take zero last (e ∷ es) h = refl
consecutive_take (suc n) last [] h = refl
consecutive_take (suc n) last (e ∷ es) h =
    let b = and_parts _ _ h in both_true b.0 (consecutive_take n (Some e.log_id) es b.1)

-- a log has a log id, in the words of either side
in_log_is : {C : Type 0} (eq : C → C → Bool) (log : List (LogIdOf C)) (o : Option (LogIdOf C)) → in_log eq log o ≡ has_id eq log o
in_log_is eq log None = refl
in_log_is eq log (Some x) = refl

-- a commit leaves the log
module _ {K N I L C : Type 0} (cmp : C → C → Ordering) (id : Option (LogIdOf C)) (s new : RaftStateIn K N I L C)
    (is : new ≡ state_after_commit cmp id s) where
  abbrev After : Bool → RaftStateIn K N I L C
  After t = if t then record s { committed = id; membership_state = after_commit cmp id s.membership_state } else s

  pub commit_log : new.log_ids ≡ s.log_ids
  commit_log = by (id_lt cmp s.committed id) is
    where
      by : (t : Bool) → new ≡ After t → new.log_ids ≡ s.log_ids
      by true e = rw e refl
      by false e = rw e refl

  pub commit_purged : new.purged_next ≡ s.purged_next
  commit_purged = by (id_lt cmp s.committed id) is
    where
      by : (t : Bool) → new ≡ After t → new.purged_next ≡ s.purged_next
      by true e = rw e refl
      by false e = rw e refl

  pub commit_point : new.purge_upto ≡ s.purge_upto
  commit_point = by (id_lt cmp s.committed id) is
    where
      by : (t : Bool) → new ≡ After t → new.purge_upto ≡ s.purge_upto
      by true e = rw e refl
      by false e = rw e refl

  pub commit_snapshot : new.snapshot_meta ≡ s.snapshot_meta
  commit_snapshot = by (id_lt cmp s.committed id) is
    where
      by : (t : Bool) → new ≡ After t → new.snapshot_meta ≡ s.snapshot_meta
      by true e = rw e refl
      by false e = rw e refl

  pub commit_accepted : new.accepted ≡ s.accepted
  commit_accepted = by (id_lt cmp s.committed id) is
    where
      by : (t : Bool) → new ≡ After t → new.accepted ≡ s.accepted
      by true e = rw e refl
      by false e = rw e refl

  pub commit_committed : new.committed ≡ greater_id cmp s.committed id
  commit_committed = by (id_lt cmp s.committed id) is
    where
      by : (t : Bool) → new ≡ After t → new.committed ≡ (if t then id else s.committed)
      by true e = rw e refl
      by false e = rw e refl

  pub commit_members : new.membership_state
      ≡ (if id_lt cmp s.committed id then after_commit cmp id s.membership_state else s.membership_state)
  commit_members = by (id_lt cmp s.committed id) is
    where
      by : (t : Bool) → new ≡ After t
          → new.membership_state ≡ (if t then after_commit cmp id s.membership_state else s.membership_state)
      by true e = rw e refl
      by false e = rw e refl

-- nor anything but two fields
pub commit_rest : {K N I L C : Type 0} (cmp : C → C → Ordering) (id : Option (LogIdOf C)) (s new : RaftStateIn K N I L C)
    → new ≡ state_after_commit cmp id s
    → new ≡ record s { committed = new.committed; membership_state = new.membership_state }
commit_rest {K} {N} {I} {L} {C} cmp id s new is = by (id_lt cmp s.committed id) is
  where
    by : (t : Bool) → new ≡ After cmp id s new is t
        → new ≡ record s { committed = new.committed; membership_state = new.membership_state }
    by true e =
        let committed : new.committed ≡ id = ap (λ t. t.committed) e in
        let members : new.membership_state ≡ after_commit cmp id s.membership_state = ap (λ t. t.membership_state) e in
        subst (λ (m : Memberships C K N). new ≡ record s { committed = new.committed; membership_state = m }) (sym members)
        (subst (λ (o : Option (LogIdOf C)). new ≡ record s {
          committed = o;
          membership_state = after_commit cmp id s.membership_state;
        }) (sym committed) e)
    by false e = rw e refl

-- what the test of a log id says
pub logged_is : {K N I L C : Type 0} (eq : C → C → Bool) (s : RaftStateIn K N I L C) (o : Option (LogIdOf C))
    → none_or_logged eq (log_view_of s) o ≡ has_id eq (full_log s.log_ids) o
logged_is eq s None = refl
logged_is eq s (Some x) = refl

-- a commit after entries have taken the place of the end of a log
module _ {K N I L C D : Type 0} (ord : OrdMembers C) (id_eq : K → K → Bool) (same : N → N → Bool) (es : List (EntryOf C K N D))
    (id : Option (LogIdOf C)) (old mid : RaftStateIn K N I L C) (replaced : Replaces ord id_eq same es old mid) where
  committed_stays : mid.committed ≡ old.committed
  committed_stays = ap (λ s. s.committed) replaced.rest

  -- their memberships allow it exactly if the effective one does now
  pub commit_allows : (t : Bool) → state_may_commit ord.cmp id mid ≡ t
      → allows_commit_past ord.cmp (effective_with (effective_before es old) es) old.committed id ≡ t
  commit_allows t h = rw (committed_stays, replaced.effective) at h

  -- a log id that the log lacks now is not among them either
  pub commit_lacks : IsEquivalence ord.eq → has_past_committed ord.eq ord.cmp id mid ≡ false
      → has_committed_with ord.eq ord.cmp (full_log old.log_ids) old.committed es id ≡ false
  commit_lacks eqs h = by (id_lt ord.cmp old.committed id) (rw committed_stays at h)
    where
      with_new : (xs : List (EntryOf C K N D)) → Replaces ord id_eq same xs old mid
          → has_with ord.eq (full_log old.log_ids) (entry_ids xs) id ≡ true → has_id ord.eq (full_log mid.log_ids) id ≡ true
      with_new [] r h =
          rw (r.nothing_new refl)
          (sym (in_log_is ord.eq (full_log old.log_ids) id) ∙ has_with_alone ord.eq (full_log old.log_ids) id h)
      with_new (x ∷ xs) r h =
          sym (in_log_is ord.eq (full_log mid.log_ids) id)
          ∙ has_after_entries ord.eq eqs (full_log old.log_ids) (full_log mid.log_ids) (x ∷ xs) x id refl r.kept r.own h

      not_with : (b : Bool) → (b ≡ true → has_id ord.eq (full_log mid.log_ids) id ≡ true)
          → has_id ord.eq (full_log mid.log_ids) id ≡ false → b ≡ false
      not_with true f h = absurd (true≢false (sym (f refl) ∙ h))
      not_with false f h = refl

      by : (t : Bool) → (if t then has_id ord.eq (full_log mid.log_ids) id else true) ≡ false
          → (if t then has_with ord.eq (full_log old.log_ids) (entry_ids es) id else true) ≡ false
      by true h = not_with (has_with ord.eq (full_log old.log_ids) (entry_ids es) id) (with_new es replaced) h
      by false h = absurd (true≢false h)

  -- the memberships then
  pub commit_takes : (new : RaftStateIn K N I L C) → new ≡ state_after_commit ord.cmp id mid
      → TakesMemberships ord.cmp id_eq same es id old new.membership_state
  commit_takes new is = (mid.membership_state, replaced.memberships, rw committed_stays at (commit_members ord.cmp id mid new is))

module _ {K N I L C D : Type 0} (ord : OrdMembers C) (id_eq : K → K → Bool) (same : N → N → Bool) (eqs : IsEquivalence ord.eq)
    (prev : Option (LogIdOf C)) (es : List (EntryOf C K N D)) (id : Option (LogIdOf C)) (old : RaftStateIn K N I L C) where
  -- what is left as it was
  pub kept_itself : (since : ℕ) → KeepsBelow ord.eq since (full_log old.log_ids) (full_log old.log_ids)
  kept_itself since i lt = same_itself ord.eq eqs (id_at (full_log old.log_ids) i)

  pub nothing_left : IsLogKept old old
  nothing_left = record { log = refl; memberships = refl; accepted = refl }

  -- entries that are not in order are refused before anything changes
  pub disorder_refused : are_in_order ord.cmp prev es ≡ false → Refused ord id_eq same
      (append_tests (purged_or_logged ord.eq old prev) ord.eq ord.cmp prev es id old) prev es NotInOrder old old
  disorder_refused h = record {
    reason = by (purged_or_logged ord.eq old prev);
    kept = kept_itself (replaced_since (full_log old.log_ids) (entries_to_append ord.eq old es));
    left = inl nothing_left;
    rest = refl;
  }
    where
      by : (has : Bool) → RefusedUnless (append_tests has ord.eq ord.cmp prev es id old) NotInOrder
      by true = rw h refl
      by false = h

  -- the entries after those that the log had
  module _ (n : ℕ) (is : n ≡ prefix_len (has_entry ord.eq old) es) (has : purged_or_logged ord.eq old prev ≡ true)
      (order : are_in_order ord.cmp prev es ≡ true) where
    -- they are refused before they are in the log
    pub new_refused : (new : RaftStateIn K N I L C) (e : AppendError) → Stops ord (drop n es) e old new
        → Refused ord id_eq same (take_tests ord.eq ord.cmp prev es id old) prev es e old new
    new_refused new e stopped =
        let stops = subst (λ (m : ℕ). Stops ord (drop m es) e old new) is stopped in
        let vote : new.vote ≡ old.vote = ap (λ s. s.vote) stops.rest in
        record {
          reason = refused_unless_more (new_tests ord.cmp (entries_to_append ord.eq old es) old) (take_tests ord.eq ord.cmp prev es id old)
              (λ h. h)
              (λ h. and_right (are_in_order ord.cmp prev es)
              (are_in_order ord.cmp (last_before (entries_to_append ord.eq old es) old) (entries_to_append ord.eq old es)) h)
              (λ h. rw h refl) (λ h. absurd (true≢false h)) e stops.refused;
          kept = stops.kept;
          left = elim stops.left [
            | inl kept ↦ inl kept
            | inr cut ↦ inr (record { has_prev = has; in_order = order; keeps = cut.0 }, inl cut.1)
          ];
          rest = subst (λ (v : UTime (VoteIn L) I). new ≡ record old {
            vote = v;
            log_ids = new.log_ids;
            membership_state = new.membership_state;
            accepted = new.accepted;
          }) (sym vote) stops.rest;
        }

    -- or they are in the log, and a commit is tried then
    module _ (mid : RaftStateIn K N I L C) (replaced : Replaces ord id_eq same (drop n es) old mid) where
      now : Replaces ord id_eq same (entries_to_append ord.eq old es) old mid
      now = subst (λ (m : ℕ). Replaces ord id_eq same (drop m es) old mid) is replaced

      purged : mid.purged_next ≡ old.purged_next
      purged = ap (λ s. s.purged_next) replaced.rest

      committed : mid.committed ≡ old.committed
      committed = ap (λ s. s.committed) replaced.rest

      row : are_consecutive prev (entry_ids (take (n + 1) es)) ≡ true
      row = consecutive_take (n + 1) prev es ((and_parts _ _ order).1)

      pub commit_refused : (new : RaftStateIn K N I L C) (e : AppendError) → new ≡ mid
          → RefusedUnless (commit_tests ord.eq ord.cmp id mid) e
          → Refused ord id_eq same (take_tests ord.eq ord.cmp prev es id old) prev es e old new
      commit_refused new e stays why =
          let vote : mid.vote ≡ old.vote = ap (λ s. s.vote) replaced.rest in
          rw stays (record {
            reason = refused_unless_more (commit_tests ord.eq ord.cmp id mid) (take_tests ord.eq ord.cmp prev es id old)
                (λ h. absurd (true≢false h)) (λ h. absurd (true≢false h))
                (λ h. and_right (has_memberships_in_order ord.cmp (effective_before (entries_to_append ord.eq old es) old)
                (entries_to_append ord.eq old es))
                (allows_commit_past ord.cmp (effective_with (effective_before (entries_to_append ord.eq old es) old)
                (entries_to_append ord.eq old es))
                old.committed id)
                (commit_allows ord id_eq same (entries_to_append ord.eq old es) id old mid now false h))
                (commit_lacks ord id_eq same (entries_to_append ord.eq old es) id old mid now eqs) e why;
            kept = now.kept;
            left = inr (
              record { has_prev = has; in_order = order; keeps = now.keeps },
              inr (record { log = now.log; memberships = now.memberships; accepted = now.accepted }),
            );
            rest = subst (λ (v : UTime (VoteIn L) I). mid ≡ record old {
              vote = v;
              log_ids = mid.log_ids;
              membership_state = mid.membership_state;
              accepted = mid.accepted;
            }) (sym vote) now.rest;
          })

      pub commit_took : (new : RaftStateIn K N I L C) → state_may_commit ord.cmp id mid ≡ true
          → has_past_committed ord.eq ord.cmp id mid ≡ true → new ≡ state_after_commit ord.cmp id mid
          → Took ord id_eq same prev es id old new
      commit_took new may logged after =
          let logs = commit_log ord.cmp id mid new after in
          let points = commit_purged ord.cmp id mid new after in
          let there = prev_stays ord.eq eqs old mid prev es n row replaced.kept purged replaced.nothing_new has in
          let all = entries_present ord.eq eqs old mid prev es n is row replaced.kept purged replaced.nothing_new replaced.own in
          record {
            has_prev = has_alike ord.eq mid new prev points logs there;
            has_entries = list_all-weaker (has_entry ord.eq mid) (has_entry ord.eq new)
                (λ e h. has_alike ord.eq mid new (Some e.log_id) points logs h) es all;
            in_order = order;
            may = both_true now.keeps (both_true now.order now.members);
            allowed = both_true now.members (commit_allows ord id_eq same (entries_to_append ord.eq old es) id old mid now true may);
            log = rw logs now.log;
            kept = rw logs now.kept;
            nothing_new = λ none. logs ∙ now.nothing_new none;
            ends = rw logs now.ends;
            memberships = commit_takes ord id_eq same (entries_to_append ord.eq old es) id old mid now new after;
            accepted = commit_accepted ord.cmp id mid new after ∙ now.accepted;
            committed = rw committed at (commit_committed ord.cmp id mid new after);
            has_committed = λ lt. rw logs (rw (committed, lt) at logged);
          }

-- an append and then a commit change four fields
pub take_rest : {K N I L C : Type 0} (old mid new : RaftStateIn K N I L C) → mid ≡ record old {
  log_ids = mid.log_ids;
  membership_state = mid.membership_state;
  accepted = mid.accepted;
} → new ≡ record mid { committed = new.committed; membership_state = new.membership_state } → new ≡ record old {
  log_ids = new.log_ids;
  membership_state = new.membership_state;
  accepted = new.accepted;
  committed = new.committed;
}
take_rest {K} {N} {I} {L} {C} old mid new first later =
    let logs : new.log_ids ≡ mid.log_ids = ap (λ s. s.log_ids) later in
    let accepted : new.accepted ≡ mid.accepted = ap (λ s. s.accepted) later in
    subst (λ (a : AcceptedIn L C). new ≡ record old {
      log_ids = new.log_ids;
      membership_state = new.membership_state;
      accepted = a;
      committed = new.committed;
    }) (sym accepted) (rw (← logs) at (later ∙ ap (λ (s : RaftStateIn K N I L C).
    record s { committed = new.committed; membership_state = new.membership_state }) first))

-- a truncation alone changes three of them
pub cut_rest : {K N I L C : Type 0} (old new : RaftStateIn K N I L C) → new ≡ record old {
  log_ids = new.log_ids;
  membership_state = new.membership_state;
  accepted = new.accepted;
} → new ≡ record old {
  log_ids = new.log_ids;
  membership_state = new.membership_state;
  accepted = new.accepted;
  committed = new.committed;
}
cut_rest {K} {N} {I} {L} {C} old new rest =
    let committed : new.committed ≡ old.committed = ap (λ s. s.committed) rest in
    subst (λ (o : Option (LogIdOf C)). new ≡ record old {
      log_ids = new.log_ids;
      membership_state = new.membership_state;
      accepted = new.accepted;
      committed = o;
    }) (sym committed) rest

-- a log that conflicts is cut at the index of `prev`, or that is refused
pub conflict_cut : {K N I L C D : Type 0} (ord : OrdMembers C) (at : ℕ) (prev : Option (LogIdOf C)) (es : List (EntryOf C K N D))
    (old new : RaftStateIn K N I L C) → are_in_order ord.cmp prev es ≡ true → IsConflict ord.eq at prev old → IsCut ord at old new
    → CutAt ord at prev es old new
conflict_cut ord at prev es old new order conflict was_cut = record {
  in_order = order;
  conflict = conflict;
  may = was_cut.keeps;
  truncated = was_cut.log;
  memberships = was_cut.memberships;
  accepted = was_cut.accepted;
  committed = ap (λ s. s.committed) was_cut.rest;
}

cut_is : {K N I L C : Type 0} (cmp : C → C → Ordering) (at : ℕ) (prev : Option (LogIdOf C)) (s : RaftStateIn K N I L C)
    → index_of prev ≡ Some at → may_cut cmp at s ≡ may_cut_at cmp prev s
cut_is cmp at None s h = cc
cut_is cmp at (Some x) s h = let is : x.index ≡ at = cc in rw (← is) refl

pub conflict_refused : {K N I L C D : Type 0} (ord : OrdMembers C) (id_eq : K → K → Bool) (same : N → N → Bool)
    → IsEquivalence ord.eq → (prev : Option (LogIdOf C)) (es : List (EntryOf C K N D)) (id : Option (LogIdOf C))
    (old new : RaftStateIn K N I L C) (at : ℕ) (e : AppendError) → IsConflict ord.eq at prev old → new ≡ old
    → RefusedUnless (record tests_hold { keeps = may_cut ord.cmp at old }) e
    → Refused ord id_eq same (append_tests (purged_or_logged ord.eq old prev) ord.eq ord.cmp prev es id old) prev es e old new
conflict_refused ord id_eq same eqs prev es id old new at e conflict stays why =
    rw (stays, conflict.1) (record {
      reason = refused_unless_more (record tests_hold { keeps = may_cut ord.cmp at old })
          (append_tests false ord.eq ord.cmp prev es id old) (λ h. sym (cut_is ord.cmp at prev old conflict.0) ∙ h)
          (λ h. absurd (true≢false h)) (λ h. h) (λ h. h) e why;
      kept = kept_itself ord id_eq same eqs prev es id old (replaced_since (full_log old.log_ids) (entries_to_append ord.eq old es));
      left = inl (nothing_left ord id_eq same eqs prev es id old);
      rest = refl;
    })

-- entries after a log id that the log has are refused as their request is
pub matched_refused : {K N I L C D : Type 0} (ord : OrdMembers C) (id_eq : K → K → Bool) (same : N → N → Bool)
    (prev : Option (LogIdOf C)) (es : List (EntryOf C K N D)) (id : Option (LogIdOf C)) (old new : RaftStateIn K N I L C)
    (e : AppendError) → purged_or_logged ord.eq old prev ≡ true
    → Refused ord id_eq same (take_tests ord.eq ord.cmp prev es id old) prev es e old new
    → Refused ord id_eq same (append_tests (purged_or_logged ord.eq old prev) ord.eq ord.cmp prev es id old) prev es e old new
matched_refused ord id_eq same prev es id old new e has refused = rw has refused

-- what is said of a server that has heard a leader is said of it before, because only its vote has
-- changed
abbrev voted : {K N I L C : Type 0} → RaftStateIn K N I L C → UTime (VoteIn L) I → RaftStateIn K N I L C
voted s vote = record s { vote = vote }

heard_cut : {K N I L C D : Type 0} (ord : OrdMembers C) (s new : RaftStateIn K N I L C) (vote : UTime (VoteIn L) I) (at : ℕ)
    (prev : Option (LogIdOf C)) (es : List (EntryOf C K N D)) → CutAt ord at prev es (voted s vote) new → CutAt ord at prev es s new
heard_cut ord s new vote at prev es h = record {
  in_order = h.in_order;
  conflict = h.conflict;
  may = h.may;
  truncated = h.truncated;
  memberships = h.memberships;
  accepted = h.accepted;
  committed = h.committed;
}

pub heard_rest : {K N I L C : Type 0} (s mid new : RaftStateIn K N I L C) (vote : UTime (VoteIn L) I) → mid ≡ voted s vote
    → new ≡ record mid {
      log_ids = new.log_ids;
      membership_state = new.membership_state;
      accepted = new.accepted;
      committed = new.committed;
    } → new ≡ record s {
      vote = new.vote;
      log_ids = new.log_ids;
      membership_state = new.membership_state;
      accepted = new.accepted;
      committed = new.committed;
    }
heard_rest {K} {N} {I} {L} {C} s mid new vote heard rest =
    let is : new ≡ record s {
      vote = vote;
      log_ids = new.log_ids;
      membership_state = new.membership_state;
      accepted = new.accepted;
      committed = new.committed;
    } = rest ∙ ap (λ (t : RaftStateIn K N I L C). record t {
      log_ids = new.log_ids;
      membership_state = new.membership_state;
      accepted = new.accepted;
      committed = new.committed;
    }) heard in
    let own : new.vote ≡ vote = ap (λ t. t.vote) is in
    subst (λ (v : UTime (VoteIn L) I). new ≡ record s {
      vote = v;
      log_ids = new.log_ids;
      membership_state = new.membership_state;
      accepted = new.accepted;
      committed = new.committed;
    }) (sym own) is

module _ {K N I L C D : Type 0} (ord : OrdMembers C) (id_eq : K → K → Bool) (same : N → N → Bool) (s new : RaftStateIn K N I L C)
    (vote : UTime (VoteIn L) I) where
  -- what is before these entries does not depend on the vote
  module _ (xs : List (EntryOf C K N D)) where
    same_keeps : keeps_committed ord.cmp xs (voted s vote) ≡ keeps_committed ord.cmp xs s
    same_keeps = by xs
      where
        by : (ys : List (EntryOf C K N D)) → keeps_committed ord.cmp ys (voted s vote) ≡ keeps_committed ord.cmp ys s
        by [] = refl
        by (y ∷ ys) = refl

    same_last : last_before xs (voted s vote) ≡ last_before xs s
    same_last = by xs
      where
        by : (ys : List (EntryOf C K N D)) → last_before ys (voted s vote) ≡ last_before ys s
        by [] = refl
        by (y ∷ ys) = refl

    same_effective : effective_before xs (voted s vote) ≡ effective_before xs s
    same_effective = by xs
      where
        by : (ys : List (EntryOf C K N D)) → effective_before ys (voted s vote) ≡ effective_before ys s
        by [] = refl
        by (y ∷ ys) = refl

    same_log_before : log_before xs (voted s vote) ≡ log_before xs s
    same_log_before = by xs
      where
        by : (ys : List (EntryOf C K N D)) → log_before ys (voted s vote) ≡ log_before ys s
        by [] = refl
        by (y ∷ ys) = refl

    same_memberships : memberships_before xs (voted s vote) ≡ memberships_before xs s
    same_memberships = by xs
      where
        by : (ys : List (EntryOf C K N D)) → memberships_before ys (voted s vote) ≡ memberships_before ys s
        by [] = refl
        by (y ∷ ys) = refl

    same_accepted : accepted_before ord.cmp xs (voted s vote) ≡ accepted_before ord.cmp xs s
    same_accepted = by xs
      where
        by : (ys : List (EntryOf C K N D)) → accepted_before ord.cmp ys (voted s vote) ≡ accepted_before ord.cmp ys s
        by [] = refl
        by (y ∷ ys) = refl

  module _ (prev : Option (LogIdOf C)) (es : List (EntryOf C K N D)) where
    heard_took : (id : Option (LogIdOf C)) → Took ord id_eq same prev es id (voted s vote) new → Took ord id_eq same prev es id s new
    heard_took id h = record {
      has_prev = h.has_prev;
      has_entries = h.has_entries;
      in_order = h.in_order;
      may = rw (
        same_keeps (entries_to_append ord.eq s es),
        same_last (entries_to_append ord.eq s es),
        same_effective (entries_to_append ord.eq s es),
      ) at h.may;
      allowed = rw (same_effective (entries_to_append ord.eq s es)) at h.allowed;
      log = h.log;
      kept = h.kept;
      nothing_new = h.nothing_new;
      ends = h.ends;
      memberships = (h.memberships.0, rw (same_memberships (entries_to_append ord.eq s es)) at h.memberships.1, h.memberships.2);
      accepted = h.accepted ∙ same_accepted (entries_to_append ord.eq s es);
      committed = h.committed;
      has_committed = h.has_committed;
    }

    heard_left : IsLeftBy ord id_eq same prev es (voted s vote) new → IsLeftBy ord id_eq same prev es s new
    heard_left (inl h) = inl (record { log = h.log; memberships = h.memberships; accepted = h.accepted })
    heard_left (inr h) =
        let had = h.0 in
        inr (
          record {
            has_prev = had.has_prev;
            in_order = had.in_order;
            keeps = sym (same_keeps (entries_to_append ord.eq s es)) ∙ had.keeps;
          },
          by h.1,
        )
      where
        by : IsCutBefore ord.cmp (entries_to_append ord.eq (voted s vote) es) (voted s vote) new
            ⊎ HasReplaced ord id_eq same (entries_to_append ord.eq (voted s vote) es) (voted s vote) new
            → IsCutBefore ord.cmp (entries_to_append ord.eq s es) s new ⊎ HasReplaced ord id_eq same (entries_to_append ord.eq s es) s new
        by (inl c) = inl (record {
          log = c.log ∙ same_log_before (entries_to_append ord.eq s es);
          memberships = c.memberships ∙ same_memberships (entries_to_append ord.eq s es);
          accepted = c.accepted ∙ same_accepted (entries_to_append ord.eq s es);
        })
        by (inr r) = inr (record {
          log = r.log;
          memberships = rw (same_memberships (entries_to_append ord.eq s es)) at r.memberships;
          accepted = r.accepted ∙ same_accepted (entries_to_append ord.eq s es);
        })

    -- nor do the tests of a request
    same_tests : (has : Bool) (id : Option (LogIdOf C))
        → append_tests has ord.eq ord.cmp prev es id (voted s vote) ≡ append_tests has ord.eq ord.cmp prev es id s
    same_tests true id =
        rw (
          same_keeps (entries_to_append ord.eq s es),
          same_last (entries_to_append ord.eq s es),
          same_effective (entries_to_append ord.eq s es),
        ) refl
    same_tests false id = by prev
      where
        by : (o : Option (LogIdOf C))
            → (let t : TakeTests = record tests_hold {
              keeps = may_cut_at ord.cmp o (voted s vote);
              order = are_in_order ord.cmp prev es;
            } in t) ≡ record tests_hold { keeps = may_cut_at ord.cmp o s; order = are_in_order ord.cmp prev es }
        by None = refl
        by (Some x) = refl

  pub heard_refuses : (request : AppendEntries L C K N D) (e : AppendError) → Refuses ord id_eq same request e (voted s vote) new
      → Refuses ord id_eq same request e s new
  heard_refuses request e h = record {
    reason = subst (λ (t : TakeTests). RefusedUnless t e)
        (same_tests request.prev request.entries.items (purged_or_logged ord.eq s request.prev)
        (lesser_id ord.cmp request.committed (last_id_of_request request.prev request.entries.items))) h.reason;
    kept = h.kept;
    left = heard_left request.prev request.entries.items h.left;
    rest = h.rest;
  }

  -- nor whether it changes anything
  pub heard_nothing : (request : AppendEntries L C K N D) → ChangesNothing ord.eq ord.cmp request s
      → ChangesNothing ord.eq ord.cmp request (voted s vote)
  heard_nothing request h =
      record { in_order = h.in_order; has_prev = h.has_prev; has_entries = h.has_entries; committed = h.committed }

  pub heard_answers : (request : AppendEntries L C K N D) (o : Outcome L C) → IfHigherVote o (λ _. ⊥)
      → Answers ord id_eq same request o (voted s vote) new → Answers ord id_eq same request o s new
  heard_answers request (Matches upto) not h = (
    h.0,
    heard_took request.prev request.entries.items (lesser_id ord.cmp request.committed
        (last_id_of_request request.prev request.entries.items)) h.1,
  )
  heard_answers request (Conflict at last) not h = (heard_cut ord s new vote at request.prev request.entries.items h.0, h.1)
  heard_answers request (HigherVote v) not h = absurd not

-- a server that does not follow a leader is as it was
pub not_heard : {K N I L C : Type 0} (order : L → L → Option Ordering) (leader : L) (s new : RaftStateIn K N I L C)
    → is_followed order leader s ≡ false → new ≡ heard order leader s → new ≡ s
not_heard order leader s new not is = rw not at is
