-- What the contracts of the handlers say of what is seen of a state.
use Rattle.std.specs.Prelude.{◌≡◌, ◌⊎◌, ◌<◌, ◌≤◌, ◌+◌, ◌==◌, ℕ, suc, Bool, true, false, not, ◌&&◌, ◌||◌, List, [], ◌∷◌, length, Option, Some, None, IfSome, nat_eq, nat_le, nat_lt, if◌then◌else◌}
use Rattle.std.specs.Cmp.Derive.{both_true}
use Rattle.std.specs.List.{list_all, prefix_len}
use Rattle.std.specs.Option.{option_cmp}
use Rattle.std.specs.Ordering.{is_le, is_lt}
use Rattle.std.specs.declared.cmp.Ordering.{Ordering}
use Rattle.std.specs.declared.cmp.Ordering.TheVariants.{Less, Equal, Greater}
use Rattle.std.proofs.Common.{refl, sym, ap, subst, ◌∙◌, inl, inr, arith, true≢false}
use Rattle.std.proofs.lemmas.Bool.{and_parts, false≢true, or_cases}
use Rattle.std.proofs.lemmas.Bool.Decides.{nat_tests}
use Rattle.raft_base.specs.LogId.{id_le, id_lt, index_of, log_id_cmp, next_index, same_ids}
use Rattle.raft_base.specs.LogIndex.{index_le, index_lt}
use Rattle.raft_base.specs.UTime.{data_of, moment_of, utime_of}
use Rattle.raft_base.specs.declared.log_id.LogIdOf.{LogIdOf}
use Rattle.raft_base.specs.declared.vote.VoteIn.{VoteIn}
use Rattle.steps_handlers.specs.Append.{Answers, greater_id, has_all, has_entry, lesser_id, entries_to_append, replaced_since}
use Rattle.steps_handlers.specs.Compared.{LeaderMembers, compared}
use Rattle.steps_handlers.specs.Entries.{entry_ids}
use Rattle.steps_handlers.specs.Follow.{committed_vote_of, heard, is_followed, vote_heard}
use Rattle.steps_handlers.specs.Snapshot.{Installs, snapshot_refusal}
use Rattle.steps_handlers.specs.declared.message.AppendEntries.{AppendEntries}
use Rattle.steps_handlers.specs.declared.message.Outcome.{Outcome}
use Rattle.steps_handlers.specs.declared.message.Outcome.TheVariants.{Conflict, HigherVote, Matches}
use Rattle.steps_handlers.specs.declared.error.SnapshotError.TheVariants.{DoesNotFit}
use Rattle.raft_members.specs.membership.Stored.{log_id_of}
use Rattle.raft_progress.specs.progress.Comparisons.{OrdMembers}
use Rattle.raft_state.specs.SnapshotMeta.{IsSnapshotCopy}
use Rattle.raft_state.specs.log_id_list.FullLog.{end_index, first_index, full_log}
use Rattle.raft_state.specs.log_id_list.LogEdits.{log_after_purge, rest}
use Rattle.raft_state.specs.log_id_list.LogReads.{first_id, id_at, last_id}
use Rattle.raft_state.specs.raft_state.Appended.{are_consecutive as are_in_row}
use Rattle.raft_state.specs.membership_state.Memberships.{index_at}
use Rattle.raft_state.specs.raft_state.Install.{is_logged, is_not_past, keeps_committed, log_after_install, may_install, may_install_to, memberships_after_install, state_after_install}
use Rattle.raft_state.specs.raft_state.Sound.{IsSound, purged_or_logged as is_kept}
use Rattle.raft_state.specs.raft_state.Valid.{fits_purged_next, none_or_logged}
use Rattle.raft_state.specs.raft_state.VoteAndLog.{log_view_of, vote_of}
use Rattle.raft_state.specs.declared.entry.EntryOf.{EntryOf}
use Rattle.raft_state.specs.declared.raft_state.RaftStateIn.{RaftStateIn}
use Rattle.raft_state.specs.declared.snapshot_meta.SnapshotMetaOf.{SnapshotMetaOf}
use Rattle.raft_state.proofs.lemmas.log_id_list.FrontLemmas.{from_first}
use Rattle.raft_state.proofs.lemmas.log_id_list.KeptLemmas.{end_at, from_end, has_id_at, last_found, purged_ends}
use Rattle.raft_state.proofs.lemmas.log_id_list.KeyListLemmas.{IsKeyList}
use Rattle.raft_state.proofs.lemmas.log_id_list.OrderLemmas.{From, index_within}
use Rattle.raft_state.proofs.lemmas.sound.LoggedIds.{ends_before, in_log, in_order, within}
use Rattle.raft_state.proofs.lemmas.log_id_list.SameLogLemmas.{equal_found}
use Rattle.raft_state.proofs.lemmas.sound.SoundCalls.{first_not_past, next_rises, purge_before, purge_point_in}
use Rattle.raft_state.proofs.lemmas.validate.RelationLemmas.{all_hold}
use Rattle.steps_safety.specs.Seen.{leaders_of, seen}
use Rattle.steps_safety.specs.Server.{Place}
use Rattle.steps_safety.proofs.Whole.{IsWhole}
use Rattle.steps_safety.proofs.Calls.{AppendConflicts, AppendMatches, InstallMatches, IsInstalled, IsKnownSnapshot, are_consecutive, fresh_of, purged_or_logged, since_of}
use Rattle.steps_safety.proofs.AppendingLemmas.{drop_next}
use Rattle.steps_safety.proofs.LawLemmas.{Laws}
use Rattle.steps_safety.proofs.OrderLemmas.{not_at_most}

-- ---- the log ids of a sound state are whole

begins : {C : Type 0} (next i : ℕ) (log : List (LogIdOf C)) → fits_purged_next next (first_id log) ≡ true → next ≤ suc i
    → first_index log ≤ i
begins next i [] fits le = omega arith
begins next i (x ∷ xs) fits le = by (next == 0) refl fits
  where
    by : (t : Bool) → t ≡ (next == 0) → (if t then index_le (index_of (Some x)) (Some 0) else next_index (Some x) == next) ≡ true
        → x.index ≤ i
    by true e f = let z : x.index ≤ 0 = grind (arith, nat_tests) in omega (arith, z)
    by false e f = let z : x.index + 1 ≡ next = grind (arith, nat_tests) in omega (arith, z, le)

found : {C : Type 0} (b : ℕ) (xs : List (LogIdOf C)) (i : ℕ) → From b xs → b ≤ i → i < next_index (last_id xs)
    → (x : LogIdOf C) × (id_at xs i ≡ Some x)
found b [] i row le lt = absurd (omega (arith, lt))
found b (x ∷ xs) i row le lt = let e = from_end b x xs row in has_id_at b (x ∷ xs) i row le (omega (arith, e, lt))

ends_past : {C : Type 0} (next : ℕ) (b : ℕ) (log : List (LogIdOf C)) → fits_purged_next next (first_id log) ≡ true → From b log
    → first_index log ≡ b → next ≤ next_index (last_id log)
ends_past next b [] fits row is = by (next == 0) refl fits
  where
    by : (t : Bool) → t ≡ (next == 0) → (if t then index_le None (Some 0) else 0 == next) ≡ true → next ≤ 0
    by true e f = grind (arith, nat_tests)
    by false e f = grind (arith, nat_tests)
ends_past next b (x ∷ xs) fits row is =
    let e = from_end b x xs row in by (next == 0) refl fits e
  where
    by : (t : Bool) → t ≡ (next == 0) → (if t then index_le (index_of (Some x)) (Some 0) else next_index (Some x) == next) ≡ true
        → end_index (x ∷ xs) ≡ b + length (x ∷ xs) → next ≤ end_index (x ∷ xs)
    by true e f g = let z : next ≡ 0 = grind (arith, nat_tests) in omega (arith, z)
    by false e f g = let z : x.index + 1 ≡ next = grind (arith, nat_tests) in omega (arith, z, g, is)

pub sound_is_whole : {K N I L C : Type 0} (cmp : C → C → Ordering) (eq : C → C → Bool) (s : RaftStateIn K N I L C)
    → IsKeyList cmp s.log_ids → IsSound eq cmp s → IsWhole s.purged_next (full_log s.log_ids)
sound_is_whole cmp eq s are sound = record {
  present = λ i le lt. found (first_index (full_log s.log_ids)) (full_log s.log_ids) i row (begins s.purged_next i
      (full_log s.log_ids) fits le) lt;
  within = λ i y at.
      let w = index_within (first_index (full_log s.log_ids)) i (full_log s.log_ids) y row at in let w0 = w.0 in let w1 = w.1 in
      let e = end_at (first_index (full_log s.log_ids)) (full_log s.log_ids) row w.1 w.0 in omega (arith, e, w1);
  purged_within = ends_past s.purged_next (first_index (full_log s.log_ids)) (full_log s.log_ids) fits row refl;
  at_end = λ z e. last_found (first_index (full_log s.log_ids)) (full_log s.log_ids) z row e;
}
  where
    row : From (first_index (full_log s.log_ids)) (full_log s.log_ids)
    row = from_first cmp s.log_ids are

    fits : fits_purged_next s.purged_next (first_id (full_log s.log_ids)) ≡ true
    fits = (all_hold _ _ _ sound.valid).0

-- the effective membership of a sound state is within its log
pub effective_within : {K N I L C : Type 0} (cmp : C → C → Ordering) (eq : C → C → Bool) (s : RaftStateIn K N I L C)
    → IsKeyList cmp s.log_ids → IsSound eq cmp s
    → index_le (index_at s.membership_state.effective) (index_of (last_id (full_log s.log_ids))) ≡ true
effective_within {K} {N} {I} {L} {C} cmp eq s are sound = by (log_id_of s.membership_state.effective) sound.effective_membership
  where
    whole : IsWhole s.purged_next (full_log s.log_ids)
    whole = sound_is_whole cmp eq s are sound

    below : (i : ℕ) (o : Option (LogIdOf C)) → i < next_index o → index_le (Some i) (index_of o) ≡ true
    below i None lt = absurd (omega (arith, lt))
    below i (Some z) lt = grind (arith, nat_tests)

    by : (o : Option (LogIdOf C)) → is_kept eq s o ≡ true → index_le (index_of o) (index_of (last_id (full_log s.log_ids))) ≡ true
    by None h = least (index_of (last_id (full_log s.log_ids)))
      where
        least : (o : Option ℕ) → index_le None o ≡ true
        least None = refl
        least (Some i) = refl
    by (Some id) h =
        either (or_cases (nat_le (next_index (Some id)) s.purged_next) (none_or_logged eq (log_view_of s) (Some id)) h)
      where
        either : (nat_le (next_index (Some id)) s.purged_next ≡ true) ⊎ (none_or_logged eq (log_view_of s) (Some id) ≡ true)
            → index_le (Some id.index) (index_of (last_id (full_log s.log_ids))) ≡ true
        either (inl purged) =
            let le : id.index + 1 ≤ s.purged_next = grind (arith, nat_tests) in
            let past = whole.purged_within in
            below id.index (last_id (full_log s.log_ids)) (omega (arith, le, past))
        either (inr logged) =
            let f = equal_found eq (id_at (full_log s.log_ids) id.index) id logged in
            below id.index (last_id (full_log s.log_ids)) (whole.within id.index f.0 f.1)

-- ---- what the contract of `handle_append_entries` says of entries, over their log ids

module _ {K N I L C : Type 0} (eq : C → C → Bool) (s : RaftStateIn K N I L C) where
  pub kept_too : (o : Option (LogIdOf C)) → is_kept eq s o ≡ true → purged_or_logged eq (seen s) o ≡ true
  kept_too None h = refl
  kept_too (Some id) h = h

  pub not_kept : (o : Option (LogIdOf C)) → is_kept eq s o ≡ false → purged_or_logged eq (seen s) o ≡ false
  not_kept None h = by (nat_le 0 s.purged_next) h
    where
      by : (b : Bool) → (b || true) ≡ false → true ≡ false
      by true h = h
      by false h = h
  not_kept (Some id) h = h

module _ {K N I L C D : Type 0} (eq : C → C → Bool) (s : RaftStateIn K N I L C) where
  pub fresh_ids : (es : List (EntryOf C K N D)) → fresh_of eq (seen s) (entry_ids es) ≡ entry_ids (entries_to_append eq s es)
  fresh_ids [] = refl
  fresh_ids (e ∷ es) = by (purged_or_logged eq (seen s) (Some e.log_id)) refl (fresh_ids es)
    where
      by : (b : Bool) → purged_or_logged eq (seen s) (Some e.log_id) ≡ b
          → fresh_of eq (seen s) (entry_ids es) ≡ entry_ids (entries_to_append eq s es)
          → fresh_of eq (seen s) (entry_ids (e ∷ es)) ≡ entry_ids (entries_to_append eq s (e ∷ es))
      by true h rest =
          rw h
          (drop_next (prefix_len (λ id. purged_or_logged eq (seen s) (Some id)) (entry_ids es)) e.log_id (entry_ids es) ∙ rest
          ∙ ap entry_ids (sym (drop_next (prefix_len (has_entry eq s) es) e es)))
      by false h rest = rw h refl

  pub all_ids : (es : List (EntryOf C K N D)) → has_all eq s es ≡ true
      → list_all (λ id. purged_or_logged eq (seen s) (Some id)) (entry_ids es) ≡ true
  all_ids [] h = refl
  all_ids (e ∷ es) h =
      let d = and_parts (has_entry eq s e) (has_all eq s es) h in
      rw (d.0, all_ids es d.1) refl

pub same_row : {C : Type 0} (o : Option (LogIdOf C)) (ids : List (LogIdOf C)) → are_in_row o ids ≡ true → are_consecutive o ids ≡ true
same_row o [] h = refl
same_row o (x ∷ xs) h =
    let d = and_parts (nat_eq x.index (next_index o)) (are_in_row (Some x) xs) h in
    rw (d.0, same_row (Some x) xs d.1) refl

pub same_since : {C K N D : Type 0} (log : List (LogIdOf C)) (es : List (EntryOf C K N D))
    → replaced_since log es ≡ since_of log (entry_ids es)
same_since log [] = refl
same_since log (e ∷ es) = refl

none_left : {C K N D : Type 0} (es : List (EntryOf C K N D)) → entry_ids es ≡ [] → es ≡ []
none_left [] h = refl
none_left (e ∷ es) h = cc

-- a server that follows a leader has the leader's vote
heard_vote : {K N I L C : Type 0} (kind : LeaderMembers L K C) (old new : RaftStateIn K N I L C) (leader : L)
    → new.vote ≡ vote_heard kind.order leader old → is_followed kind.order leader old ≡ true → vote_of new ≡ committed_vote_of leader
heard_vote kind old new leader vote follows = ap data_of vote ∙ taken (is_followed kind.order leader old) follows
  where
    taken : (b : Bool) → b ≡ true
        → data_of (if b then utime_of (committed_vote_of leader) (moment_of old.vote) else old.vote) ≡ committed_vote_of leader
    taken true e = refl
    taken false e = absurd (false≢true e)

-- an answer to a leader's request to append entries
module _ {K N I L C D E : Type 0} (ids : OrdMembers K) (node_eq : N → N → Bool) (kind : LeaderMembers L K C) (logs : OrdMembers C)
    (p : Place L C K E) (old new : RaftStateIn K N I L C) (leader : L) (request : AppendEntries L C K N D)
    (is_leader : request.leader_id ≡ leader) (vote : new.vote ≡ vote_heard kind.order leader old)
    (purged : new.purged_next ≡ old.purged_next) (follows : is_followed kind.order leader old ≡ true) where
  pub matches_seen : (upto : Option (LogIdOf C)) → Answers logs ids.eq node_eq request (Matches upto) old new
      → AppendMatches (leaders_of (compared ids node_eq kind logs)) p leader request.prev
      (entry_ids request.entries.items) request.committed upto (seen old) (seen new)
  matches_seen upto a =
      let t = a.1 in
      record {
        followed = follows;
        vote = heard_vote kind old new leader vote follows;
        is_upto = a.0;
        has_prev = kept_too logs.eq new request.prev t.has_prev;
        has_entries = all_ids logs.eq new request.entries.items t.has_entries;
        consecutive = same_row request.prev (entry_ids request.entries.items) (and_parts _ (are_in_row request.prev
            (entry_ids request.entries.items)) t.in_order).1;
        kept = λ i lt. t.kept i (rw (same_since (full_log old.log_ids) (entries_to_append logs.eq old request.entries.items))
            (rw (fresh_ids logs.eq old request.entries.items) at lt));
        nothing_new = λ none. ap full_log (t.nothing_new (none_left (entries_to_append logs.eq old request.entries.items) (sym
            (fresh_ids logs.eq old request.entries.items) ∙ none)));
        ends = rw (fresh_ids logs.eq old request.entries.items) t.ends;
        committed_is = t.committed
            ∙ ap (λ (o : Option (LogIdOf C)). greater_id logs.cmp old.committed (lesser_id logs.cmp request.committed o)) (sym a.0);
        purged = purged;
      }

  pub conflicts_seen : (at : ℕ) (last : Option ℕ) → Answers logs ids.eq node_eq request (Conflict at last) old new
      → AppendConflicts (leaders_of (compared ids node_eq kind logs)) p leader request.prev at (seen old) (seen new)
  conflicts_seen at last a = record {
    followed = follows;
    vote = heard_vote kind old new leader vote follows;
    index = a.0.conflict.0;
    conflict = not_kept logs.eq old request.prev a.0.conflict.1;
    truncated = a.0.truncated;
    committed_is = a.0.committed;
    purged = purged;
  }

-- an answer but that of a higher vote is of a leader that is followed
pub followed_if : {L C : Type 0} (b : Bool) (o : Outcome L C) (v : VoteIn L) → (b ≡ false → o ≡ HigherVote v)
    → ((w : VoteIn L) → o ≡ HigherVote w → ⊥) → b ≡ true
followed_if true o v higher apart = refl
followed_if false o v higher apart = absurd (apart v (higher refl))

abbrev is_higher : {L C : Type 0} → Outcome L C → Bool
is_higher (Matches upto) = false
is_higher (Conflict at last) = false
is_higher (HigherVote vote) = true

pub not_higher : {L C : Type 0} (o : Outcome L C) (w : VoteIn L) → is_higher o ≡ false → o ≡ HigherVote w → ⊥
not_higher o w e f = false≢true (sym e ∙ ap is_higher f)

-- ---- a snapshot

-- what is read of the rest of a log is there
rest_above : {C : Type 0} (xs : List (LogIdOf C)) (a i : ℕ) (y : LogIdOf C) → id_at (rest xs a) i ≡ Some y → a ≤ i
rest_above [] a i y h = cc
rest_above {C} (x ∷ xs) a i y h = by (nat_le a x.index) refl h (rest_above xs a i y)
  where
    by : (t : Bool) → nat_le a x.index ≡ t → id_at (if t then x ∷ rest xs a else rest xs a) i ≡ Some y
        → (id_at (rest xs a) i ≡ Some y → a ≤ i) → a ≤ i
    by true e g more = pick (x.index == i) refl g
      where
        pick : (t : Bool) → (x.index == i) ≡ t → (if t then Some x else id_at (rest xs a) i) ≡ Some y → a ≤ i
        pick true f g = let same : x.index ≡ i = grind (arith, nat_tests) in let le : a ≤ x.index = grind (arith, nat_tests) in
            omega (arith, same, le)
        pick false f g = more g
    by false e g more = more g

rest_found : {C : Type 0} (xs : List (LogIdOf C)) (a i : ℕ) (y : LogIdOf C) → id_at (rest xs a) i ≡ Some y → id_at xs i ≡ Some y
rest_found [] a i y h = h
rest_found {C} (x ∷ xs) a i y h = by (nat_le a x.index) refl h (rest_found xs a i y) (rest_above xs a i y)
  where
    by : (t : Bool) → nat_le a x.index ≡ t → id_at (if t then x ∷ rest xs a else rest xs a) i ≡ Some y
        → (id_at (rest xs a) i ≡ Some y → id_at xs i ≡ Some y) → (id_at (rest xs a) i ≡ Some y → a ≤ i)
        → id_at (x ∷ xs) i ≡ Some y
    by true e g more above = pick (x.index == i) g
      where
        pick : (t : Bool) → (if t then Some x else id_at (rest xs a) i) ≡ Some y → (if t then Some x else id_at xs i) ≡ Some y
        pick true g = g
        pick false g = more g
    by false e g more above =
        let le = above g in
        let low : x.index < a = grind (arith, nat_tests) in
        let t : (x.index == i) ≡ false = grind (arith, nat_tests) in
        rw t (more g)

purged_found : {C : Type 0} (xs : List (LogIdOf C)) (upto : LogIdOf C) (i : ℕ) (y : LogIdOf C) → nat_le (end_index xs) upto.index ≡ false
    → id_at (log_after_purge xs upto) i ≡ Some y → id_at xs i ≡ Some y
purged_found {C} xs upto i y past h = by (nat_le (end_index xs) upto.index) past h
  where
    two : (u : Bool) → id_at (if u then xs else rest xs upto.index) i ≡ Some y → id_at xs i ≡ Some y
    two true g = g
    two false g = rest_found xs upto.index i y g

    by : (t : Bool) → t ≡ false
        → id_at (if t then upto ∷ [] else (if nat_lt upto.index (first_index xs) then xs else rest xs upto.index)) i ≡ Some y
        → id_at xs i ≡ Some y
    by true e g = absurd (true≢false e)
    by false e g = two (nat_lt upto.index (first_index xs)) g

-- a purge up to a log id of a log leaves the log ids from there on, with the last one
pub purge_keeps : {C : Type 0} (cmp : C → C → Ordering) (keys : List (LogIdOf C)) (upto : LogIdOf C) → IsKeyList cmp keys
    → id_at (full_log keys) upto.index ≡ Some upto
    → ((i : ℕ) (y : LogIdOf C) → id_at (log_after_purge (full_log keys) upto) i ≡ Some y → id_at (full_log keys) i ≡ Some y)
    × (last_id (log_after_purge (full_log keys) upto) ≡ last_id (full_log keys))
purge_keeps cmp keys upto are at =
    let row : From (first_index (full_log keys)) (full_log keys) = from_first cmp keys are in
    let w = index_within (first_index (full_log keys)) upto.index (full_log keys) upto row at in
    let w0 = w.0 in
    let w1 = w.1 in
    let e = end_at (first_index (full_log keys)) (full_log keys) row w1 w0 in
    let inside : upto.index < end_index (full_log keys) = omega (arith, e, w1) in
    let not_past : nat_le (end_index (full_log keys)) upto.index ≡ false = grind (arith, nat_tests) in (
      λ i y found. purged_found (full_log keys) upto i y not_past found,
      purged_ends (full_log keys) upto row
          ∙ ap (λ (b : Bool). if b then Some upto else last_id (full_log keys)) not_past,
    )

purged_alone : {C : Type 0} (upto : LogIdOf C) → log_after_purge [] upto ≡ upto ∷ []
purged_alone {C} upto = by (nat_le (end_index {C = C} []) upto.index) (grind (arith, nat_tests))
  where
    by : (t : Bool) → t ≡ true
        → (if t then upto ∷ [] else (if nat_lt upto.index (first_index {C = C} []) then [] else rest [] upto.index)) ≡ upto ∷ []
    by true e = refl
    by false e = absurd (false≢true e)

-- a log id that is found is the log id itself, if leader ids that are `==` are equal
pub exact_found : {C : Type 0} (eq : C → C → Bool) → ((x y : C) → eq x y ≡ true → x ≡ y) → (o : Option (LogIdOf C)) (x : LogIdOf C)
    → same_ids eq o (Some x) ≡ true → o ≡ Some x
exact_found eq exact None x h = cc
exact_found eq exact (Some y) x h =
    let d = and_parts (eq y.leader_id x.leader_id) (nat_eq y.index x.index) h in
    let a : y.leader_id ≡ x.leader_id = exact y.leader_id x.leader_id d.0 in
    let d1 = d.1 in
    let b : y.index ≡ x.index = grind (arith, nat_tests) in
    λ i. Some (record { leader_id = a i; index = b i })

at_most_of : (o : Ordering) → is_lt o ≡ true → is_le o ≡ true
at_most_of Less h = refl
at_most_of Equal h = absurd (false≢true h)
at_most_of Greater h = absurd (false≢true h)

refused_not : (followed past may : Bool) → followed ≡ true → past ≡ true
    → (if followed then (if past && not may then Some DoesNotFit else None) else None) ≡ None → may ≡ true
refused_not true true true a b h = refl
refused_not true true false a b h = cc
refused_not true false may a b h = absurd (false≢true b)
refused_not false past may a b h = absurd (false≢true a)

module _ {K N I L C : Type 0} {ids : OrdMembers K} {kind : LeaderMembers L K C} {logs : OrdMembers C} (node_eq : N → N → Bool)
    (laws : Laws ids kind logs) (exact : (x y : C) → logs.eq x y ≡ true → x ≡ y) where
  -- what is purged is committed
  purged_low : (s : RaftStateIn K N I L C) → IsKeyList logs.cmp s.log_ids → IsSound logs.eq logs.cmp s
      → s.purged_next ≤ next_index s.committed
  purged_low s are sound =
      let fits = all_hold _ _ _ sound.valid in
      let point = all_hold _ _ _ fits.1 in
      by (s.purged_next == 0) refl fits.0 point.0
    where
      first_in : (log : List (LogIdOf C)) → in_log logs.eq log (first_id log) ≡ true
      first_in [] = refl
      first_in (x ∷ xs) =
          let t : (x.index == x.index) ≡ true = grind (arith, nat_tests) in
          let u : nat_eq x.index x.index ≡ true = grind (arith, nat_tests) in
          rw t (both_true (laws.logs_equal.refl x.leader_id) u)

      by : (t : Bool) → (s.purged_next == 0) ≡ t
          → (if t then index_le (index_of (first_id (full_log s.log_ids))) (Some 0)
          else next_index (first_id (full_log s.log_ids)) == s.purged_next) ≡ true
          → id_le logs.cmp (if t then None else first_id (full_log s.log_ids)) s.purge_upto ≡ true → s.purged_next ≤ next_index s.committed
      by true e f g = let z : s.purged_next ≡ 0 = grind (arith, nat_tests) in omega (arith, z)
      by false e f g =
          let n : next_index (first_id (full_log s.log_ids)) ≡ s.purged_next = grind (arith, nat_tests) in
          let low = in_order logs.cmp logs.eq laws.total laws.ties laws.logs_equal s.log_ids (first_id (full_log s.log_ids)) s.purge_upto
          are (first_in (full_log s.log_ids)) (purge_point_in logs.cmp logs.eq s sound) g in
          let point = purge_before logs.cmp logs.eq laws.total laws.ties laws.logs_equal s are sound in
          omega (arith, n, low, point)

  pub committed_found : (s : RaftStateIn K N I L C) → IsSound logs.eq logs.cmp s → (x : LogIdOf C) → s.committed ≡ Some x
      → id_at (full_log s.log_ids) x.index ≡ Some x
  committed_found s sound x at = by s.committed at sound.committed
    where
      by : (o : Option (LogIdOf C)) → o ≡ Some x → in_log logs.eq (full_log s.log_ids) o ≡ true
          → id_at (full_log s.log_ids) x.index ≡ Some x
      by None e h = cc
      by (Some y) e h =
          let same : y ≡ x = cc in
          exact_found logs.eq exact (id_at (full_log s.log_ids) x.index) x
          (subst (λ (z : LogIdOf C). in_log logs.eq (full_log s.log_ids) (Some z) ≡ true) same h)

  -- if the committed membership is past a log id of the log, it has the greater log id
  pub members_sorted : (s : RaftStateIn K N I L C) → IsKeyList logs.cmp s.log_ids → IsSound logs.eq logs.cmp s → (id : LogIdOf C)
      → is_logged logs.eq id s ≡ true → index_lt (Some id.index) (index_at s.membership_state.committed) ≡ true
      → id_le logs.cmp (Some id) (log_id_of s.membership_state.committed) ≡ true
  members_sorted s are sound id logged = by (log_id_of s.membership_state.committed) sound.committed_membership
    where
      by : (o : Option (LogIdOf C)) → is_kept logs.eq s o ≡ true → index_lt (Some id.index) (index_of o) ≡ true
          → id_le logs.cmp (Some id) o ≡ true
      by None h past = cc
      by (Some x) h past = pick (id_le logs.cmp (Some id) (Some x)) refl
        where
          later : id.index < x.index
          later = grind (arith, nat_tests)

          pick : (b : Bool) → id_le logs.cmp (Some id) (Some x) ≡ b → id_le logs.cmp (Some id) (Some x) ≡ true
          pick true e = e
          pick false e =
              absurd (either (or_cases (nat_le (next_index (Some x)) s.purged_next) (none_or_logged logs.eq (log_view_of s) (Some x)) h))
            where
              less : id_le logs.cmp (Some x) (Some id) ≡ true
              less = at_most_of (option_cmp (log_id_cmp logs.cmp) (Some x) (Some id)) (not_at_most laws.total (Some id) (Some x) e)

              either : (nat_le (next_index (Some x)) s.purged_next ≡ true) ⊎ (none_or_logged logs.eq (log_view_of s) (Some x) ≡ true)
                  → ⊥
              either (inl purged) =
                  let le : x.index + 1 ≤ s.purged_next = grind (arith, nat_tests) in
                  let row = from_first logs.cmp s.log_ids are in
                  let inside = (within logs.eq (first_index (full_log s.log_ids)) (full_log s.log_ids) id row logged).0 in
                  let rises = next_rises s.purged_next id.index (first_id (full_log s.log_ids)) (all_hold _ _ _ sound.valid).0
                  (first_not_past (full_log s.log_ids) id.index inside) in
                  omega (arith, le, rises, later)
              either (inr has) =
                  let order = in_order logs.cmp logs.eq laws.total laws.ties laws.logs_equal s.log_ids (Some x) (Some id) are has logged
                  less in
                  omega (arith, order, later)

  module _ (old new : RaftStateIn K N I L C) (leader : L) (meta : SnapshotMetaOf C K N) (upto : LogIdOf C)
      (is_upto : meta.last_log_id ≡ Some upto) (are : IsKeyList logs.cmp old.log_ids) (sound : IsSound logs.eq logs.cmp old)
      (follows : is_followed kind.order leader old ≡ true)
      (allowed : snapshot_refusal kind.order logs.cmp logs.eq leader meta old ≡ None)
      (is : Installs logs kind.eq (IsSnapshotCopy ids.eq node_eq) meta (heard kind.order leader old) new) where
    abbrev log : List (LogIdOf C)
    log = full_log old.log_ids

    row : From (first_index (full_log old.log_ids)) (full_log old.log_ids)
    row = from_first logs.cmp old.log_ids are

    -- it is past what is committed
    module _ (e : id_lt logs.cmp old.committed (Some upto) ≡ true) where
      is_past : id_lt logs.cmp old.committed meta.last_log_id ≡ true
      is_past = ap (λ (o : Option (LogIdOf C)). id_lt logs.cmp old.committed o) is_upto ∙ e

      may : may_install kind.order logs.cmp logs.eq meta (heard kind.order leader old) ≡ true
      may =
          refused_not (is_followed kind.order leader old) (id_lt logs.cmp old.committed meta.last_log_id)
          (may_install kind.order logs.cmp logs.eq meta (heard kind.order leader old)) follows is_past allowed

      may_to : may_install_to kind.order logs.cmp logs.eq meta.last_membership (heard kind.order leader old) (Some upto) ≡ true
      may_to =
          ap (λ (o : Option (LogIdOf C)). may_install_to kind.order logs.cmp logs.eq meta.last_membership (heard kind.order leader old) o)
          (sym is_upto) ∙ may

      log_is : full_log new.log_ids ≡ log_after_purge (if is_logged logs.eq upto old then full_log old.log_ids else []) upto
      log_is = by meta.last_log_id is_upto (is.installed is_past).log
        where
          by : (o : Option (LogIdOf C)) → o ≡ Some upto
              → IfSome o (λ u. full_log new.log_ids ≡ log_after_install logs.eq u (heard kind.order leader old))
              → full_log new.log_ids ≡ log_after_purge (if is_logged logs.eq upto old then full_log old.log_ids else []) upto
          by None f h = cc
          by (Some u) f h =
              let same : u ≡ upto = cc in
              subst (λ (z : LogIdOf C). full_log new.log_ids ≡ log_after_install logs.eq z (heard kind.order leader old)) same h

      left : (copy : SnapshotMetaOf C K N) × IsSnapshotCopy ids.eq node_eq meta copy
          × (new ≡ record (state_after_install kind.eq logs.cmp logs.eq upto copy.last_membership (heard kind.order leader old)) {
            log_ids = new.log_ids;
            snapshot_meta = new.snapshot_meta;
          })
      left = by meta.last_log_id is_upto (is.installed is_past).rest
        where
          by : (o : Option (LogIdOf C)) → o ≡ Some upto
              → IfSome o (λ u. (copy : SnapshotMetaOf C K N) × IsSnapshotCopy ids.eq node_eq meta copy
              × (new ≡ record (state_after_install kind.eq logs.cmp logs.eq u copy.last_membership (heard kind.order leader old)) {
                log_ids = new.log_ids;
                snapshot_meta = new.snapshot_meta;
              }))
              → ((copy : SnapshotMetaOf C K N) × IsSnapshotCopy ids.eq node_eq meta copy
              × (new ≡ record (state_after_install kind.eq logs.cmp logs.eq upto copy.last_membership (heard kind.order leader old)) {
                log_ids = new.log_ids;
                snapshot_meta = new.snapshot_meta;
              }))
          by None f h = cc
          by (Some u) f h =
              let same : u ≡ upto = cc in
              subst (λ (z : LogIdOf C). (copy : SnapshotMetaOf C K N) × IsSnapshotCopy ids.eq node_eq meta copy
              × (new ≡ record (state_after_install kind.eq logs.cmp logs.eq z copy.last_membership (heard kind.order leader old)) {
                log_ids = new.log_ids;
                snapshot_meta = new.snapshot_meta;
              })) same h

      greater : (o : Option (LogIdOf C)) → o ≡ Some upto → greater_id logs.cmp old.committed o ≡ Some upto
      greater o f = pick (id_lt logs.cmp old.committed o) (ap (λ (z : Option (LogIdOf C)). id_lt logs.cmp old.committed z) f ∙ e)
        where
          pick : (b : Bool) → b ≡ true → (if b then o else old.committed) ≡ Some upto
          pick true g = f
          pick false g = absurd (false≢true g)

      pub installs_members : (copy : SnapshotMetaOf C K N) × IsSnapshotCopy ids.eq node_eq meta copy
          × (new.membership_state ≡ memberships_after_install logs.cmp logs.eq upto copy.last_membership old)
      installs_members = (left.0, left.1, ap (λ (s : RaftStateIn K N I L C). s.membership_state) left.2)

      pub snapshot_fits : is_not_past logs.cmp upto meta.last_membership ≡ true
      snapshot_fits = (and_parts _ _ (and_parts _ _ (and_parts _ _ (and_parts _ _ may_to).0).0).0).1

      pub snapshot_keeps : keeps_committed logs.cmp logs.eq upto meta.last_membership old ≡ true
      snapshot_keeps = (and_parts _ _ (and_parts _ _ may_to).0).1

    pub known_members : id_lt logs.cmp old.committed (Some upto) ≡ false → new.membership_state ≡ old.membership_state
    known_members e =
        ap (λ (s : RaftStateIn K N I L C). s.membership_state)
        (is.known (ap (λ (o : Option (LogIdOf C)). id_lt logs.cmp old.committed o) is_upto ∙ e))

    module _ {E : Type 0} (p : Place L C K E) where
      -- it was committed already
      pub known_snapshot : id_lt logs.cmp old.committed (Some upto) ≡ false
          → IsKnownSnapshot (leaders_of (compared ids node_eq kind logs)) p upto (seen old) (seen new)
      known_snapshot e =
          let same : new ≡ heard kind.order leader old =
          is.known (ap (λ (o : Option (LogIdOf C)). id_lt logs.cmp old.committed o) is_upto ∙ e) in
          record {
            not_past = e;
            has_committed = committed_found old sound;
            same_ids_now = ap (λ (s : RaftStateIn K N I L C). full_log s.log_ids) same;
            committed_is = ap (λ (s : RaftStateIn K N I L C). s.committed) same;
            purged = ap (λ (s : RaftStateIn K N I L C). s.purged_next) same;
          }

      -- it is installed
      installed : id_lt logs.cmp old.committed (Some upto) ≡ true
          → IsInstalled (leaders_of (compared ids node_eq kind logs)) p upto (seen old) (seen new)
      installed e = record {
        past = ends_before old.committed upto.index
            (and_parts _ _ (and_parts _ _ (and_parts _ _ (and_parts _ _ (and_parts _ _ (and_parts _ _ (may_to e)).0).0).0).0).0).1;
        purged_low = purged_low old are sound;
        committed_is = is.committed ∙ greater e meta.last_log_id is_upto;
        purged = ap (λ (s : RaftStateIn K N I L C). s.purged_next) (left e).2
            ∙ (let n : upto.index + 1 ≡ suc upto.index = omega arith in n);
        kept = λ has.
            let still = log_is e ∙ ap (λ (b : Bool). log_after_purge (if b then full_log old.log_ids else []) upto) has in
            let inside = (within logs.eq (first_index (full_log old.log_ids)) (full_log old.log_ids) upto row has).1 in
            let not_past : nat_le (end_index (full_log old.log_ids)) upto.index ≡ false = grind (arith, nat_tests) in (
              λ i y at. purged_found (full_log old.log_ids) upto i y not_past (ap (λ (l : List (LogIdOf C)). id_at l i) (sym still) ∙ at),
              ap last_id still ∙ purged_ends (full_log old.log_ids) upto row
                  ∙ ap (λ (b : Bool). if b then Some upto else last_id (full_log old.log_ids)) not_past,
            );
        dropped = λ lacks.
            log_is e ∙ ap (λ (b : Bool). log_after_purge (if b then full_log old.log_ids else []) upto) lacks ∙ purged_alone upto;
      }

      pub installs_seen : InstallMatches (leaders_of (compared ids node_eq kind logs)) p leader upto (seen old) (seen new)
      installs_seen = record {
        followed = follows;
        vote = heard_vote kind old new leader is.vote follows;
        either = by (id_lt logs.cmp old.committed (Some upto)) refl;
      }
        where
          by : (b : Bool) → id_lt logs.cmp old.committed (Some upto) ≡ b
              → IsKnownSnapshot (leaders_of (compared ids node_eq kind logs)) p upto (seen old) (seen new)
              ⊎ IsInstalled (leaders_of (compared ids node_eq kind logs)) p upto (seen old) (seen new)
          by true e = inr (installed e)
          by false e = inl (known_snapshot e)
