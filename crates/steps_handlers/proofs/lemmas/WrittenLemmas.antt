-- What a disk has once it has followed the changes of a request.
use Rattle.std.proofs.Common.{◌≡◌, ℕ, Bool, true, false, ◌&&◌, ◌||◌, List, [], ◌∷◌, ◌++◌, ◌<◌, ◌==◌, Option, Some, None, if◌then◌else◌, nat_eq, nat_le, refl, subst, sym, ap, true≢false, arith, ◌∙◌}
use Rattle.std.proofs.lemmas.Bool.{and_parts}
use Rattle.std.proofs.lemmas.Bool.Decides.{nat_tests}
use Rattle.std.specs.Cmp.{IsEquivalence, IsTotalOrder}
use Rattle.std.specs.Cmp.Derive.{both_true}
use Rattle.std.specs.Cmp.Lexicographic.{options_equiv}
use Rattle.std.specs.Prelude.{IfSome, min, not, slice_get}
use Rattle.std.specs.declared.cmp.Ordering.{Ordering}
use mathlib.Core.Bool.{beq}
use Rattle.raft_base.specs.LogId.{id_lt, same_ids}
use Rattle.raft_base.specs.LogIdLawful.{optional-log_id_cmp-total, same_id-equiv}
use Rattle.raft_base.specs.declared.log_id.LogIdOf.{LogIdOf}
use Rattle.raft_base.specs.declared.utime.UTime.{UTime}
use Rattle.raft_base.specs.declared.vote.VoteIn.{VoteIn}
use Rattle.steps_handlers.specs.Append.{entries_to_append, KeepsBelow}
use Rattle.steps_handlers.specs.Campaign.{same_vote}
use Rattle.steps_handlers.specs.Entries.{ends_before, has_id}
use Rattle.steps_handlers.specs.Written.{changed_from, first_index_of, lesser_index, no_changes, nothing_installed, risen_to, vote_written, EntryIsWritten, HasLogWritten, JoinedAreWritten, VoteIsWritten, Writes, WritesInstall, WritesSnapshot}
use Rattle.steps_handlers.specs.Compared.{Compared}
use Rattle.steps_handlers.specs.Proposals.{log_with_own, next_own_id}
use Rattle.steps_handlers.specs.Inner.Log.{IsCut, Replaces, Truncates}
use Rattle.steps_handlers.specs.Inner.Steps.{PutsNew, WritesLog}
use Rattle.steps_handlers.specs.declared.changes.Changes.{Changes}
use Rattle.steps_handlers.specs.declared.changes.SnapshotChanges.{SnapshotChanges}
use Rattle.steps_handlers.specs.declared.message.Outcome.{Outcome}
use Rattle.steps_handlers.specs.declared.message.Outcome.TheVariants.{Matches, Conflict, HigherVote}
use Rattle.raft_progress.proofs.lemmas.OrderLemmas.{AtMost-refl, not_lt-from_AtMost}
use Rattle.raft_progress.specs.progress.Comparisons.{OrdMembers}
use Rattle.raft_state.proofs.lemmas.log_id_list.KeptLemmas.{front_reads}
use Rattle.raft_state.proofs.lemmas.sound.LoggedIds.{same_itself}
use Rattle.raft_state.proofs.lemmas.log_id_list.SameLogLemmas.{SameLog, says_same}
use Rattle.raft_state.specs.log_id_list.FullLog.{end_index, full_log}
use Rattle.raft_state.specs.log_id_list.LogEdits.{log_after_purge}
use Rattle.raft_state.specs.log_id_list.LogReads.{id_at}
use Rattle.raft_state.specs.raft_state.Install.{log_after_install}
use Rattle.raft_state.specs.raft_state.VoteAndLog.{vote_of}
use Rattle.raft_state.specs.declared.entry.EntryOf.{EntryOf}
use Rattle.raft_state.specs.declared.raft_state.RaftStateIn.{RaftStateIn}
use Rattle.raft_state.specs.declared.snapshot_meta.SnapshotMetaOf.{SnapshotMetaOf}

-- a committed log id that stays has not risen
pub none_risen : {C : Type 0} {cmp : C → C → Ordering} → IsTotalOrder cmp → (a b : Option (LogIdOf C)) → b ≡ a
    → None ≡ risen_to cmp a b
none_risen {C} {cmp} total a b same =
    let o = optional-log_id_cmp-total total in
    let low : id_lt cmp a a ≡ false = not_lt-from_AtMost o a a (AtMost-refl o a) in
    rw (same, low) refl

must_not : (b : Bool) → not b ≡ true → b ≡ false
must_not true h = cc
must_not false h = refl

-- a vote equals itself
beq_itself : (b : Bool) → beq b b ≡ true
beq_itself true = refl
beq_itself false = refl

beq_through : (a b c : Bool) → beq a b ≡ true → beq b c ≡ true → beq a c ≡ true
beq_through true true c h g = g
beq_through true false c h g = cc
beq_through false true c h g = cc
beq_through false false c h g = g

same_vote_itself : {L : Type 0} (eq : L → L → Bool) → IsEquivalence eq → (v : VoteIn L) → same_vote eq v v ≡ true
same_vote_itself eq eqs v = both_true (eqs.refl v.leader_id) (beq_itself v.committed)

-- votes that are each equal to the next one
votes_through : {L : Type 0} (eq : L → L → Bool) → IsEquivalence eq → (u v w : VoteIn L) → same_vote eq u v ≡ true
    → same_vote eq v w ≡ true → same_vote eq u w ≡ true
votes_through eq eqs u v w h g =
    let x = and_parts _ _ h in let y = and_parts _ _ g in
    both_true (eqs.congr u.leader_id v.leader_id w.leader_id x.0 ∙ y.0) (beq_through u.committed v.committed w.committed x.1 y.1)

-- the vote that a disk has after two steps
joined_vote : {L : Type 0} (eq : L → L → Bool) → IsEquivalence eq → (a b : Bool) (old mid new : VoteIn L)
    → same_vote eq mid (vote_written a old mid) ≡ true → same_vote eq new (vote_written b mid new) ≡ true
    → same_vote eq new (vote_written (a || b) old new) ≡ true
joined_vote eq eqs true b old mid new h g = same_vote_itself eq eqs new
joined_vote eq eqs false true old mid new h g = same_vote_itself eq eqs new
joined_vote eq eqs false false old mid new h g = votes_through eq eqs new mid old g h

module _ {C : Type 0} {eq : C → C → Bool} (eqs : IsEquivalence eq) where
  itself : (id : Option (LogIdOf C)) → same_ids eq id id ≡ true
  itself = same_itself eq eqs

  through : (a b c : Option (LogIdOf C)) → same_ids eq a b ≡ true → same_ids eq b c ≡ true → same_ids eq a c ≡ true
  through a b c h g = (options_equiv (same_id-equiv eqs)).congr a b c h ∙ g

  -- a log that has not changed is on the disk
  pub none_written : (log : List (LogIdOf C)) → HasLogWritten eq None log log
  none_written log i = itself (id_at log i)

  -- a log that has not changed below an index is on the disk once it is written from the index on
  pub kept_written : (since : ℕ) (old new : List (LogIdOf C)) → KeepsBelow eq since old new → HasLogWritten eq (Some since) old new
  kept_written since old new kept i = by (nat_le since i) refl
    where
      by : (t : Bool) → t ≡ nat_le since i → same_ids eq (id_at new i) (if t then id_at new i else id_at old i) ≡ true
      by true le = itself (id_at new i)
      by false le = kept i (grind (arith, nat_tests))

  -- the log that a disk has after two steps
  joined_log : (a b : Option ℕ) (old mid new : List (LogIdOf C)) → HasLogWritten eq a old mid → HasLogWritten eq b mid new
      → HasLogWritten eq (lesser_index a b) old new
  joined_log None None old mid new h g i = through (id_at new i) (id_at mid i) (id_at old i) (g i) (h i)
  joined_log None (Some b) old mid new h g i = by (nat_le b i) (g i)
    where
      by : (t : Bool) → same_ids eq (id_at new i) (if t then id_at new i else id_at mid i) ≡ true
          → same_ids eq (id_at new i) (if t then id_at new i else id_at old i) ≡ true
      by true at = at
      by false at = through (id_at new i) (id_at mid i) (id_at old i) at (h i)
  joined_log (Some a) None old mid new h g i = by (nat_le a i) (h i)
    where
      by : (t : Bool) → same_ids eq (id_at mid i) (if t then id_at mid i else id_at old i) ≡ true
          → same_ids eq (id_at new i) (if t then id_at new i else id_at old i) ≡ true
      by true at = itself (id_at new i)
      by false at = through (id_at new i) (id_at mid i) (id_at old i) (g i) at
  joined_log (Some a) (Some b) old mid new h g i = by (nat_le (min a b) i) refl (nat_le a i) refl (h i) (nat_le b i) refl (g i)
    where
      by : (m : Bool) → m ≡ nat_le (min a b) i
          → (t : Bool) → t ≡ nat_le a i → same_ids eq (id_at mid i) (if t then id_at mid i else id_at old i) ≡ true
          → (u : Bool) → u ≡ nat_le b i → same_ids eq (id_at new i) (if u then id_at new i else id_at mid i) ≡ true
          → same_ids eq (id_at new i) (if m then id_at new i else id_at old i) ≡ true
      by true m t le at u less there = itself (id_at new i)
      by false m true le at u less there = absurd (grind (arith, nat_tests))
      by false m false le at true less there = absurd (grind (arith, nat_tests))
      by false m false le at false less there = through (id_at new i) (id_at mid i) (id_at old i) there at

-- a disk that follows the joined changes has what the server has after both steps
pub joined_written : {K N I L C : Type 0} (same_leader : L → L → Bool) (eq : C → C → Bool) → IsEquivalence same_leader
    → IsEquivalence eq → JoinedAreWritten K N I L C same_leader eq
joined_written same_leader eq leaders eqs changes later old mid new h g = record {
  vote = joined_vote same_leader leaders changes.vote later.vote (vote_of old) (vote_of mid) (vote_of new) h.vote g.vote;
  log = joined_log eqs changes.log_from later.log_from (full_log old.log_ids) (full_log mid.log_ids) (full_log new.log_ids) h.log g.log;
}

-- a step that changes the vote alone leaves the log
pub vote_written_alone : {K N I L C : Type 0} (same_leader : L → L → Bool) (eq : C → C → Bool) → IsEquivalence same_leader
    → IsEquivalence eq → VoteIsWritten K N I L C same_leader eq
vote_written_alone {C = C} same_leader eq leaders eqs old new alone = record {
  vote = same_vote_itself same_leader leaders (vote_of new);
  log = subst (λ (ks : List (LogIdOf C)). HasLogWritten eq None (full_log old.log_ids) (full_log ks)) (sym (ap (λ s. s.log_ids) alone))
      (none_written eqs (full_log old.log_ids));
}

-- below the index of the last log id a log reads as before
own_reads : {C : Type 0} (eq : C → C → Bool) (new old : List (LogIdOf C)) (id : LogIdOf C) (i : ℕ) → i < id.index
    → SameLog eq new (old ++ id ∷ []) → same_ids eq (id_at new i) (id_at old i) ≡ true
own_reads eq [] [] id i lt h = absurd h
own_reads eq [] (y ∷ ys) id i lt h = absurd h
own_reads eq (x ∷ []) [] id i lt h =
    let at : x.index ≡ id.index = h.1 in let t : (x.index == i) ≡ false = grind (arith, nat_tests) in rw t refl
own_reads eq (x ∷ z ∷ zs) [] id i lt h = absurd h.2
own_reads {C} eq (x ∷ xs) (y ∷ ys) id i lt h = by (y.index == i) (ap (λ n. n == i) h.1) (own_reads eq xs ys id i lt h.2)
  where
    by : (t : Bool) → (x.index == i) ≡ t → same_ids eq (id_at xs i) (id_at ys i) ≡ true
        → same_ids eq (if x.index == i then Some x else id_at xs i) (if t then Some y else id_at ys i) ≡ true
    by true is more =
        let e : x.index ≡ y.index = h.1 in let at : nat_eq x.index y.index ≡ true = grind (arith, nat_tests) in
        rw is (both_true h.0 at)
    by false is more = rw is more

-- a leader that appends an entry of its own changes the log from the entry on
pub entry_written : {K N I L C D : Type 0} (by : Compared K N L C) → IsEquivalence by.leader_eq → IsEquivalence by.eq
    → EntryIsWritten I D by
entry_written by leaders eqs leader payload old new entry own = record {
  vote = subst (λ (v : VoteIn _). same_vote by.leader_eq (vote_of new) v ≡ true) (ap (λ s. vote_of s) own.rest)
      (same_vote_itself by.leader_eq leaders (vote_of new));
  log = rw (ap (λ e. e.log_id.index) own.is_next) (kept_written eqs (end_index (full_log old.log_ids)) (full_log old.log_ids)
      (full_log new.log_ids)
      (λ i lt. own_reads by.eq (full_log new.log_ids) (full_log old.log_ids) (next_own_id leader.leader_id old) i lt
      (says_same by.eq (full_log new.log_ids) (log_with_own leader.leader_id old) own.log)));
}

-- the index of the first entry
pub first_is : {C K N D : Type 0} (es : List (EntryOf C K N D)) (e : EntryOf C K N D) → slice_get es 0 ≡ Some e
    → Some e.log_id.index ≡ first_index_of es
first_is [] e h = cc
first_is (x ∷ xs) e h = let is : x ≡ e = cc in rw is refl

-- the vote that a disk has, if it is written where it is another one
vote_on_disk : {L : Type 0} (eq : L → L → Bool) → IsEquivalence eq → (is_new : Bool) (old new : VoteIn L)
    → is_new ≡ not (same_vote eq new old) → same_vote eq new (vote_written is_new old new) ≡ true
vote_on_disk eq eqs true old new is = same_vote_itself eq eqs new
vote_on_disk eq eqs false old new is = by (same_vote eq new old) is
  where
    by : (t : Bool) → false ≡ not t → t ≡ true
    by true e = refl
    by false e = cc

module _ {K N I L C D : Type 0} (ord : OrdMembers C) (eqs : IsEquivalence ord.eq) (es : List (EntryOf C K N D)) where
  -- entries past those that a log has take the place of its end, and then some are committed
  pub entries_written : (id_eq : K → K → Bool) (same : N → N → Bool) (fresh : List (EntryOf C K N D)) (old mid new : RaftStateIn K N I L C)
      (prev committed : Option (LogIdOf C)) (from : Option ℕ)
      → fresh ≡ entries_to_append ord.eq old es → PutsNew ord id_eq same fresh from old mid
      → new.log_ids ≡ mid.log_ids → mid.committed ≡ old.committed → committed ≡ risen_to ord.cmp mid.committed new.committed
      → WritesLog ord es (Matches prev) (record { vote = false; log_from = from; committed = committed }) old new
  entries_written id_eq same fresh old mid new prev committed from is puts logs stays risen = record {
    from = puts.from ∙ ap (λ (xs : List (EntryOf C K N D)). first_index_of xs) is;
    log = rw (puts.from, logs) (by fresh puts.replaced);
    committed = rw stays at risen;
  }
    where
      by : (xs : List (EntryOf C K N D)) → Replaces ord id_eq same xs old mid
          → HasLogWritten ord.eq (first_index_of xs) (full_log old.log_ids) (full_log mid.log_ids)
      by [] r = rw (r.nothing_new refl) (none_written eqs (full_log old.log_ids))
      by (x ∷ xs) r = kept_written eqs x.log_id.index (full_log old.log_ids) (full_log mid.log_ids) r.kept

  -- nothing is written if there are no entries, and nothing is committed
  pub nothing_matches : IsTotalOrder ord.cmp → (upto : Option (LogIdOf C)) (s : RaftStateIn K N I L C) → es ≡ []
      → WritesLog ord es (Matches upto) no_changes s s
  nothing_matches total upto s none = rw none (record {
    from = refl;
    log = none_written eqs (full_log s.log_ids);
    committed = none_risen total s.committed s.committed refl;
  })

  -- the log id that an answer has does not matter
  pub matches_alike : (a b : Option (LogIdOf C)) (changes : Changes C) (old new : RaftStateIn K N I L C)
      → WritesLog ord es (Matches a) changes old new → WritesLog ord es (Matches b) changes old new
  matches_alike a b changes old new w = record { from = w.from; log = w.log; committed = w.committed }

  -- a log that conflicts is truncated, and gets no entry
  pub conflict_written : IsTotalOrder ord.cmp → (at : ℕ) (last : Option ℕ) (from : Option ℕ)
      (old new : RaftStateIn K N I L C) → Truncates at from old new → IsCut ord at old new
      → WritesLog ord es (Conflict at last) (record { vote = false; log_from = from; committed = None }) old new
  conflict_written total at last from old new t cut = record {
    from = t.at;
    log = rw t.at (by (ends_before at old) refl);
    committed = none_risen total old.committed new.committed (ap (λ s. s.committed) cut.rest);
  }
    where
      by : (ends : Bool) → ends_before at old ≡ ends
          → HasLogWritten ord.eq (if ends then None else Some at) (full_log old.log_ids) (full_log new.log_ids)
      by true e = rw (t.kept e) (none_written eqs (full_log old.log_ids))
      by false e = kept_written eqs at (full_log old.log_ids) (full_log new.log_ids)
          (λ i lt. rw (cut.log, front_reads (full_log old.log_ids) at i lt) (same_itself ord.eq eqs (id_at (full_log old.log_ids) i)))

  -- what a server writes that has heard a leader, from what it writes of the log once it has the vote
  pub heard_writes : (same_leader : L → L → Bool) → IsEquivalence same_leader → (s new : RaftStateIn K N I L C) (vote : UTime (VoteIn L) I)
      (outcome : Outcome L C) (changes : Changes C) (is_new : Bool)
      → is_new ≡ not (same_vote same_leader (vote_of new) (vote_of s))
      → WritesLog ord es outcome changes (record s { vote = vote }) new
      → Writes ord same_leader es outcome (record changes { vote = is_new }) s new
  heard_writes same_leader leaders s new vote outcome changes is_new is w = record {
    vote = is;
    from = w.from ∙ by outcome;
    written = record { vote = vote_on_disk same_leader leaders is_new (vote_of s) (vote_of new) is; log = w.log };
    committed = w.committed;
  }
    where
      by : (o : Outcome L C) → changed_from ord.eq o es (let t : RaftStateIn K N I L C = record s { vote = vote } in t)
          ≡ changed_from ord.eq o es s
      by (Matches upto) = refl
      by (Conflict at last) = refl
      by (HigherVote v) = refl

  -- nothing is written for a leader that is not followed
  pub higher_writes : IsTotalOrder ord.cmp → (same_leader : L → L → Bool) → IsEquivalence same_leader
      → (vote : VoteIn L) (s : RaftStateIn K N I L C) → Writes ord same_leader es (HigherVote vote) no_changes s s
  higher_writes total same_leader leaders vote s = record {
    vote = rw (same_vote_itself same_leader leaders (vote_of s)) refl;
    from = refl;
    written = record { vote = same_vote_itself same_leader leaders (vote_of s); log = none_written eqs (full_log s.log_ids) };
    committed = none_risen total s.committed s.committed refl;
  }

module _ {K N I L C : Type 0} (ord : OrdMembers C) (meta : SnapshotMetaOf C K N) where
  -- a snapshot that is committed already is not installed, nor is one of a leader that is not followed
  pub nothing_installed_of : (followed : Bool) (old new : RaftStateIn K N I L C)
      → (followed && id_lt ord.cmp old.committed meta.last_log_id) ≡ false → new.log_ids ≡ old.log_ids
      → WritesInstall ord followed meta nothing_installed old new
  nothing_installed_of followed old new not stays = record {
    installed = sym not;
    log = by meta.last_log_id;
    needed = λ h. absurd (true≢false (sym h));
  }
    where
      by : (o : Option (LogIdOf C)) → IfSome o (λ upto. full_log new.log_ids ≡ full_log old.log_ids)
      by None = tt
      by (Some x) = ap (λ (ks : List (LogIdOf C)). full_log ks) stays

  -- an install purges the log, or drops it if it lacks the last log id of the snapshot
  pub installed_written : (old new : RaftStateIn K N I L C) (logged : Bool)
      → logged ≡ has_id ord.eq (full_log old.log_ids) meta.last_log_id → id_lt ord.cmp old.committed meta.last_log_id ≡ true
      → IfSome meta.last_log_id (λ upto. full_log new.log_ids ≡ log_after_install ord.eq upto old)
      → WritesInstall ord true meta (record { vote = false; installed = true; drops_log = not logged }) old new
  installed_written old new logged is past log = record {
    installed = sym past;
    log = by meta.last_log_id logged is log;
    needed = λ h. sym is ∙ must_not logged h;
  }
    where
      by : (o : Option (LogIdOf C)) (l : Bool) → l ≡ has_id ord.eq (full_log old.log_ids) o
          → IfSome o (λ upto. full_log new.log_ids ≡ log_after_install ord.eq upto old)
          → IfSome o (λ upto. full_log new.log_ids ≡ log_after_purge (if not l then [] else full_log old.log_ids) upto)
      by None l e h = tt
      by (Some x) true e h = rw (← e) at h
      by (Some x) false e h = rw (← e) at h

  -- what a server writes that has heard a leader, from what it writes once it has the vote
  pub heard_installs : (same_leader : L → L → Bool) (s new : RaftStateIn K N I L C) (vote : UTime (VoteIn L) I)
      (changes : SnapshotChanges) (is_new followed : Bool) → is_new ≡ not (same_vote same_leader (vote_of new) (vote_of s))
      → followed ≡ true → WritesInstall ord true meta changes (record s { vote = vote }) new
      → WritesSnapshot ord same_leader followed meta (record changes { vote = is_new }) s new
  heard_installs same_leader s new vote changes is_new followed is follows w = record {
    vote = is;
    install = record { installed = rw follows w.installed; log = w.log; needed = w.needed };
  }

  -- a server that does not follow a leader writes nothing
  pub not_installed : (same_leader : L → L → Bool) → IsEquivalence same_leader → (s new : RaftStateIn K N I L C) (followed : Bool)
      → followed ≡ false → new ≡ s → WritesSnapshot ord same_leader followed meta nothing_installed s new
  not_installed same_leader leaders s new followed follows stays = rw (stays, follows) (record {
    vote = rw (same_vote_itself same_leader leaders (vote_of s)) refl;
    install = nothing_installed_of false s s refl refl;
  })
