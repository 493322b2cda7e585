-- What a truncation leaves, and then the entries that are appended.
use Rattle.std.proofs.Common.{◌≡◌, ℕ, Bool, true, false, ◌++◌, List, [], ◌∷◌, Some, IsTrue, refl, sym, subst, ap, inl, inr, true≢false, ◌∙◌}
use Rattle.std.proofs.lemmas.Bool.{and_parts}
use Rattle.std.specs.Cmp.{IsEquivalence}
use Rattle.std.specs.Option.{option_or}
use Rattle.std.specs.Prelude.{slice_get}
use Rattle.std.specs.declared.cmp.Ordering.{Ordering}
use Rattle.steps_handlers.proofs.lemmas.EntryLemmas.{ends_alike, front_whole, kept_through, same_log_itself}
use Rattle.steps_handlers.proofs.lemmas.RefusalLemmas.{refused_unless_more}
use Rattle.steps_handlers.specs.Entries.{are_in_order, effective_below, effective_with, ends_before, entry_ids, has_memberships_in_order, last_below, may_cut, tests_hold, RefusedUnless}
use Rattle.steps_handlers.specs.Inner.Log.{IsCut, Replaces, Stops, end_tests, may_extend, new_tests}
use Rattle.steps_handlers.specs.declared.error.AppendError.{AppendError}
use Rattle.raft_members.specs.membership.Stored.{log_id_of}
use Rattle.raft_progress.specs.progress.Comparisons.{OrdMembers}
use Rattle.raft_state.proofs.lemmas.log_id_list.KeptLemmas.{front_reads}
use Rattle.raft_state.proofs.lemmas.log_id_list.OrderLemmas.{From}
use Rattle.raft_state.proofs.lemmas.sound.LoggedIds.{same_itself}
use Rattle.raft_state.specs.Accepted.{accepted_upto}
use Rattle.raft_state.specs.entry.Entry.{payload_membership}
use Rattle.raft_state.specs.log_id_list.FullLog.{full_log, same_log}
use Rattle.raft_state.specs.log_id_list.LogEdits.{front}
use Rattle.raft_state.specs.log_id_list.LogKept.{HasIds, KeepsIds}
use Rattle.raft_state.specs.log_id_list.LogReads.{id_at, last_id}
use Rattle.raft_state.specs.membership_state.MembershipMoves.{after_truncate}
use Rattle.raft_state.specs.membership_state.Memberships.{Memberships}
use Rattle.raft_state.specs.raft_state.Appended.{AppendsMemberships}
use Rattle.raft_state.specs.raft_state.Truncate.{can_truncate_log}
use Rattle.raft_state.specs.declared.accepted.AcceptedIn.{AcceptedIn}
use Rattle.raft_state.specs.declared.entry.EntryOf.{EntryOf}
use Rattle.raft_state.specs.declared.raft_state.RaftStateIn.{RaftStateIn}

-- a log that ends before an index is cut there as it is
pub ends_cut : {K N I L C : Type 0} (ord : OrdMembers C) (b since : ℕ) (s : RaftStateIn K N I L C) → From b (full_log s.log_ids)
    → ends_before since s ≡ true → IsCut ord since s s
ends_cut ord b since s row ends = record {
  keeps = rw ends refl;
  log = sym (front_whole b since (full_log s.log_ids) row ends);
  memberships = rw ends refl;
  accepted = rw ends refl;
  rest = refl;
}

-- another one is truncated
pub truncated_cut : {K N I L C : Type 0} (ord : OrdMembers C) (since : ℕ) (old new : RaftStateIn K N I L C)
    → ends_before since old ≡ false → can_truncate_log ord.cmp since old ≡ true
    → full_log new.log_ids ≡ front (full_log old.log_ids) since → new ≡ record old {
      log_ids = new.log_ids;
      membership_state = after_truncate since old.membership_state;
      accepted = accepted_upto ord.cmp old.accepted (last_id (full_log new.log_ids));
    } → IsCut ord since old new
truncated_cut {K} {N} {I} {L} {C} ord since old new ends can log is =
    let members : new.membership_state ≡ after_truncate since old.membership_state = ap (λ s. s.membership_state) is in
    let accepted : new.accepted ≡ accepted_upto ord.cmp old.accepted (last_id (full_log new.log_ids)) = ap (λ s. s.accepted) is in
    record {
      keeps = rw ends can;
      log = log;
      memberships = rw ends members;
      accepted = rw ends (rw log at accepted);
      rest = subst (λ (a : AcceptedIn L C). new ≡ record old {
        log_ids = new.log_ids;
        membership_state = new.membership_state;
        accepted = a;
      }) (sym accepted) (subst (λ (m : Memberships C K N). new ≡ record old {
        log_ids = new.log_ids;
        membership_state = m;
        accepted = accepted_upto ord.cmp old.accepted (last_id (full_log new.log_ids));
      }) (sym members) is);
    }

-- entries that have a first one are some
not_none : {A : Type 0} (xs : List A) (first : A) → slice_get xs 0 ≡ Some first → xs ≡ [] → ⊥
not_none [] first begins none = cc
not_none (x ∷ xs) first begins none = cc

-- a refusal because of the index of the first entry
pub cut_refused : {K N I L C D : Type 0} (cmp : C → C → Ordering) (es : List (EntryOf C K N D)) (first : EntryOf C K N D)
    (s : RaftStateIn K N I L C) (e : AppendError) → slice_get es 0 ≡ Some first
    → RefusedUnless (record tests_hold { keeps = may_cut cmp first.log_id.index s }) e → RefusedUnless (new_tests cmp es s) e
cut_refused cmp [] first s e begins why = cc
cut_refused cmp (x ∷ xs) first s e begins why =
    let is : x ≡ first = cc in
    refused_unless_more (record tests_hold { keeps = may_cut cmp first.log_id.index s }) (new_tests cmp (x ∷ xs) s)
    (λ h. rw is h) (λ h. absurd (true≢false h)) (λ h. absurd (true≢false h)) (λ h. h) e why

-- a truncation and then an append change three fields
pub append_rest : {K N I L C : Type 0} (old mid new : RaftStateIn K N I L C) → mid ≡ record old {
  log_ids = mid.log_ids;
  membership_state = mid.membership_state;
  accepted = mid.accepted;
} → new ≡ record mid { log_ids = new.log_ids; membership_state = new.membership_state } → new ≡ record old {
  log_ids = new.log_ids;
  membership_state = new.membership_state;
  accepted = new.accepted;
}
append_rest {K} {N} {I} {L} {C} old mid new first later =
    let accepted : new.accepted ≡ mid.accepted = ap (λ s. s.accepted) later in
    subst (λ (a : AcceptedIn L C). new ≡ record old {
      log_ids = new.log_ids;
      membership_state = new.membership_state;
      accepted = a;
    }) (sym accepted) (later ∙ ap (λ (s : RaftStateIn K N I L C).
    record s { log_ids = new.log_ids; membership_state = new.membership_state }) first)

module _ {K N I L C D : Type 0} (ord : OrdMembers C) (id_eq : K → K → Bool) (same : N → N → Bool) (eqs : IsEquivalence ord.eq) where
  -- no entries replace nothing
  pub replaces_nothing : (s : RaftStateIn K N I L C) → (let none : List (EntryOf C K N D) = [] in Replaces ord id_eq same none s s)
  replaces_nothing s = record {
    keeps = refl;
    order = refl;
    members = refl;
    log = same_log_itself ord.eq eqs (full_log s.log_ids);
    kept = λ i lt. same_itself ord.eq eqs (id_at (full_log s.log_ids) i);
    nothing_new = λ none. refl;
    own = λ n id is. cc;
    ends = refl;
    memberships = refl;
    effective = refl;
    accepted = refl;
    rest = refl;
  }

  -- a refusal before anything has changed
  pub stops_unchanged : (es : List (EntryOf C K N D)) (first : EntryOf C K N D) (e : AppendError) (old new : RaftStateIn K N I L C)
      → slice_get es 0 ≡ Some first → RefusedUnless (new_tests ord.cmp es old) e → new ≡ old → Stops ord es e old new
  stops_unchanged es first e old new begins why is = rw is (record {
    refused = why;
    some = not_none es first begins;
    left = inl (record { log = refl; memberships = refl; accepted = refl });
    kept = λ i lt. same_itself ord.eq eqs (id_at (full_log old.log_ids) i);
    rest = refl;
  })

  -- after the log is cut at the first entry
  module _ (es : List (EntryOf C K N D)) (first : EntryOf C K N D) (old mid : RaftStateIn K N I L C)
      (begins : slice_get es 0 ≡ Some first) (was_cut : IsCut ord first.log_id.index old mid) where
    pub stops_cut : (new : RaftStateIn K N I L C) (e : AppendError) → RefusedUnless (new_tests ord.cmp es old) e → new ≡ mid
        → Stops ord es e old new
    stops_cut new e why stays = rw stays (by es begins why)
      where
        by : (xs : List (EntryOf C K N D)) → slice_get xs 0 ≡ Some first → RefusedUnless (new_tests ord.cmp xs old) e
            → Stops ord xs e old mid
        by [] h r = cc
        by (x ∷ xs) h r =
            let is : x ≡ first = cc in
            let c : IsCut ord x.log_id.index old mid = rw is was_cut in
            record {
              refused = r;
              some = λ none. cc;
              left = inr (c.keeps, record { log = c.log; memberships = c.memberships; accepted = c.accepted });
              kept = λ i lt. rw (c.log, front_reads (full_log old.log_ids) x.log_id.index i lt)
                  (same_itself ord.eq eqs (id_at (full_log old.log_ids) i));
              rest = c.rest;
            }

    pub end_refused : (e : AppendError) → RefusedUnless (end_tests ord.cmp es mid) e → RefusedUnless (new_tests ord.cmp es old) e
    end_refused e why = by es begins why
      where
        by : (xs : List (EntryOf C K N D)) → slice_get xs 0 ≡ Some first → RefusedUnless (end_tests ord.cmp xs mid) e
            → RefusedUnless (new_tests ord.cmp xs old) e
        by [] h r = cc
        by (x ∷ xs) h r =
            let is : x ≡ first = cc in
            let c : IsCut ord x.log_id.index old mid = rw is was_cut in
            refused_unless_more (end_tests ord.cmp (x ∷ xs) mid) (new_tests ord.cmp (x ∷ xs) old)
            (λ h. absurd (true≢false h)) (λ h. rw c.log at h) (λ h. rw c.memberships at h) (λ h. h) e r

    pub replaces : (new : RaftStateIn K N I L C) → may_extend ord.cmp es mid ≡ true
        → IsTrue (same_log ord.eq (full_log new.log_ids) (full_log mid.log_ids ++ entry_ids es))
        → last_id (full_log new.log_ids) ≡ option_or (last_id (entry_ids es)) (last_id (full_log mid.log_ids))
        → KeepsIds ord.eq (full_log mid.log_ids) (full_log new.log_ids) → HasIds ord.eq (entry_ids es) (full_log new.log_ids)
        → AppendsMemberships id_eq same (λ e. e.log_id) (λ e. payload_membership e.payload) es mid.membership_state new.membership_state
        → log_id_of new.membership_state.effective ≡ effective_with (log_id_of mid.membership_state.effective) es
        → new ≡ record mid { log_ids = new.log_ids; membership_state = new.membership_state }
        → Replaces ord id_eq same es old new
    replaces new may log last kept own members effective rest = by es begins may log last own members effective
      where
        by : (xs : List (EntryOf C K N D)) → slice_get xs 0 ≡ Some first → may_extend ord.cmp xs mid ≡ true
            → IsTrue (same_log ord.eq (full_log new.log_ids) (full_log mid.log_ids ++ entry_ids xs))
            → last_id (full_log new.log_ids) ≡ option_or (last_id (entry_ids xs)) (last_id (full_log mid.log_ids))
            → HasIds ord.eq (entry_ids xs) (full_log new.log_ids)
            → AppendsMemberships id_eq same (λ e. e.log_id) (λ e. payload_membership e.payload) xs mid.membership_state
            new.membership_state
            → log_id_of new.membership_state.effective ≡ effective_with (log_id_of mid.membership_state.effective) xs
            → Replaces ord id_eq same xs old new
        by [] h may log last own members effective = cc
        by (x ∷ xs) h may log last own members effective =
            let is : x ≡ first = cc in
            let c : IsCut ord x.log_id.index old mid = rw is was_cut in
            let order = are_in_order ord.cmp (last_below x.log_id.index old) (x ∷ xs) in
            let follow = has_memberships_in_order ord.cmp (effective_below x.log_id.index old) (x ∷ xs) in
            let b = and_parts order follow (rw (c.log, c.memberships) at may) in
            let row = (and_parts _ _ b.0).1 in
            let accepted : new.accepted ≡ mid.accepted = ap (λ s. s.accepted) rest in
            record {
              keeps = c.keeps;
              order = b.0;
              members = b.1;
              log = rw c.log at log;
              kept = kept_through ord.eq (full_log old.log_ids) (full_log new.log_ids) x.log_id.index
                  (last_below x.log_id.index old) (x ∷ xs) x refl row refl refl (rw c.log at kept);
              nothing_new = λ none. cc;
              own = own;
              ends = last ∙ ends_alike (x ∷ xs) x (last_id (full_log mid.log_ids)) (last_id (full_log old.log_ids)) refl;
              memberships = rw c.memberships at members;
              effective = rw c.memberships at effective;
              accepted = accepted ∙ c.accepted;
              rest = append_rest old mid new c.rest rest;
            }
