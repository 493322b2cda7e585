-- Entries that take the place of the end of a log.
use Rattle.std.proofs.Common.{◌≡◌, ℕ, zero, suc, ◌+◌, ◌-◌, ◌<◌, ◌≤◌, Bool, true, false, ◌||◌, List, [], ◌∷◌, ◌++◌, Option, Some, None, if◌then◌else◌, nat_eq, nat_le, refl, sym, ap, add-one, take, drop, length, length-drop, arith, ◌∙◌}
use Rattle.std.proofs.lemmas.Bool.{and_parts, or_right}
use Rattle.std.proofs.lemmas.Bool.Decides.{nat_tests}
use Rattle.std.specs.Prelude.{slice_get}
use Rattle.std.proofs.lemmas.List.{drop_all, take-append-drop}
use Rattle.std.proofs.lemmas.List.Folds.{list_all-append}
use Rattle.std.specs.List.{list_all, prefix_len}
use Rattle.std.specs.Option.{option_or}
use Rattle.std.specs.Cmp.{IsEquivalence}
use Rattle.std.specs.Cmp.Derive.{both_true}
use Rattle.raft_base.specs.LogId.{index_of, next_index, same_ids}
use Rattle.raft_base.specs.LogIndex.{index_lt}
use Rattle.raft_base.specs.declared.log_id.LogIdOf.{LogIdOf}
use Rattle.steps_handlers.specs.Append.{has_entry, replaced_since, KeepsBelow}
use Rattle.steps_handlers.specs.Entries.{entry_ids, has_with}
use Rattle.raft_members.specs.quorum.MajorityLawful.{list_all-weaker}
use Rattle.raft_state.proofs.lemmas.log.ConflictLemmas.{place_passes}
use Rattle.raft_state.proofs.lemmas.log_id_list.EndsLemmas.{last_of_map, last_of_some}
use Rattle.raft_state.proofs.lemmas.log_id_list.FrontLemmas.{front_all, last_at}
use Rattle.raft_state.proofs.lemmas.log_id_list.IdOrderLemmas.{leaders_trans}
use Rattle.raft_state.proofs.lemmas.log_id_list.KeptLemmas.{front_reads}
use Rattle.raft_state.proofs.lemmas.log_id_list.OrderLemmas.{From}
use Rattle.raft_state.proofs.lemmas.log_id_list.SameLogLemmas.{equal_found}
use Rattle.raft_state.proofs.lemmas.sound.LoggedIds.{in_log, is_kept}
use Rattle.raft_state.specs.raft_state.Appended.{are_consecutive}
use Rattle.raft_state.specs.log_id_list.FullLog.{end_index, full_log, same_log}
use Rattle.raft_state.specs.log_id_list.LogEdits.{front}
use Rattle.raft_state.specs.log_id_list.LogKept.{HasIds, KeepsIds}
use Rattle.raft_state.specs.log_id_list.LogReads.{id_at, last_id}
use Rattle.raft_state.specs.raft_state.Sound.{purged_or_logged}
use Rattle.raft_state.specs.declared.entry.EntryOf.{EntryOf}
use Rattle.raft_state.specs.declared.raft_state.RaftStateIn.{RaftStateIn}

-- what two log ids equal to a third one are
pub same_through : {C : Type 0} (eq : C → C → Bool) → IsEquivalence eq → (a b : Option (LogIdOf C)) (id : LogIdOf C)
    → same_ids eq a b ≡ true → same_ids eq b (Some id) ≡ true → same_ids eq a (Some id) ≡ true
same_through eq eqs a b id h g =
    let y = equal_found eq b id g in let y3 = y.3 in
    let x = equal_found eq a y.0 (rw y.1 at h) in let x3 = x.3 in
    let t : nat_eq x.0.index id.index ≡ true = grind (arith, nat_tests) in
    rw x.1 (both_true (leaders_trans eqs x.0.leader_id y.0.leader_id id.leader_id x.2 y.2) t)

-- a log id that a log has with new log ids is in the log that has these, and reads as before below them
pub has_after : {C : Type 0} (eq : C → C → Bool) → IsEquivalence eq → (old new ids : List (LogIdOf C)) (first : LogIdOf C)
    (id : Option (LogIdOf C)) → KeepsBelow eq first.index old new → HasIds eq (first ∷ ids) new
    → has_with eq old (first ∷ ids) id ≡ true → in_log eq new id ≡ true
has_after eq eqs old new ids first None kept own h = refl
has_after eq eqs old new ids first (Some id) kept own h = by (nat_le first.index id.index) refl h
  where
    by : (t : Bool) → t ≡ nat_le first.index id.index
        → (if t then same_ids eq (slice_get (first ∷ ids) (id.index - first.index)) (Some id)
        else same_ids eq (id_at old id.index) (Some id)) ≡ true
        → same_ids eq (id_at new id.index) (Some id) ≡ true
    by true le h =
        let f = equal_found eq (slice_get (first ∷ ids) (id.index - first.index)) id h in
        let at : f.0.index ≡ id.index = f.3 in
        let there = own (id.index - first.index) f.0 f.1 in
        same_through eq eqs (id_at new id.index) (Some f.0) id (rw at at there) (rw f.1 at h)
    by false le h =
        let lt : id.index < first.index = grind (arith, nat_tests) in
        same_through eq eqs (id_at new id.index) (id_at old id.index) id (kept id.index lt) h

-- consecutive log ids in two parts
pub consecutive_to : {C K N D : Type 0} (last : Option (LogIdOf C)) (es : List (EntryOf C K N D)) (x : LogIdOf C)
    → are_consecutive last (entry_ids es ++ x ∷ []) ≡ true → next_index last ≤ x.index
consecutive_to last [] x h =
    let b = and_parts _ _ h in let t : nat_eq x.index (next_index last) ≡ true = b.0 in grind (arith, nat_tests)
consecutive_to last (e ∷ es) x h =
    let b = and_parts _ _ h in let t : nat_eq e.log_id.index (next_index last) ≡ true = b.0 in
    let at : e.log_id.index ≡ next_index last = grind (arith, nat_tests) in
    let more : e.log_id.index + 1 ≤ x.index = consecutive_to (Some e.log_id) es x b.1 in omega arith

-- what a log has below an index it has once it reads the same there
pub stays_present : {K N I L C : Type 0} (eq : C → C → Bool) → IsEquivalence eq → (old new : RaftStateIn K N I L C) (since : ℕ)
    (id : Option (LogIdOf C)) → next_index id ≤ since → KeepsBelow eq since (full_log old.log_ids) (full_log new.log_ids)
    → new.purged_next ≡ old.purged_next → purged_or_logged eq old id ≡ true → purged_or_logged eq new id ≡ true
stays_present eq eqs old new since None le kept purged h = rw purged h
stays_present eq eqs old new since (Some id) le kept purged h = rw purged (by (nat_le (id.index + 1) old.purged_next) h)
  where
    by : (t : Bool) → t || same_ids eq (id_at (full_log old.log_ids) id.index) (Some id) ≡ true
        → t || same_ids eq (id_at (full_log new.log_ids) id.index) (Some id) ≡ true
    by true h = refl
    by false h = same_through eq eqs (id_at (full_log new.log_ids) id.index) (id_at (full_log old.log_ids) id.index) id
        (kept id.index (omega arith)) h

pub all_stay_present : {K N I L C D : Type 0} (eq : C → C → Bool) → IsEquivalence eq → (old new : RaftStateIn K N I L C)
    (last : Option (LogIdOf C)) (es : List (EntryOf C K N D)) (x : LogIdOf C)
    → are_consecutive last (entry_ids es ++ x ∷ []) ≡ true
    → KeepsBelow eq x.index (full_log old.log_ids) (full_log new.log_ids) → new.purged_next ≡ old.purged_next
    → list_all (has_entry eq old) es ≡ true → list_all (has_entry eq new) es ≡ true
all_stay_present eq eqs old new last [] x h kept purged has = refl
all_stay_present eq eqs old new last (e ∷ es) x h kept purged has =
    let b = and_parts _ _ h in let c = and_parts _ _ has in
    let le : e.log_id.index + 1 ≤ x.index = consecutive_to (Some e.log_id) es x b.1 in
    both_true (stays_present eq eqs old new x.index (Some e.log_id) le kept purged c.0)
    (all_stay_present eq eqs old new (Some e.log_id) es x b.1 kept purged c.1)

-- a log that has these log ids has their entries
pub own_present : {K N I L C D : Type 0} (eq : C → C → Bool) (s : RaftStateIn K N I L C) (es : List (EntryOf C K N D))
    → HasIds eq (entry_ids es) (full_log s.log_ids) → list_all (has_entry eq s) es ≡ true
own_present eq s [] own = refl
own_present eq s (e ∷ es) own =
    both_true (or_right (nat_le (e.log_id.index + 1) s.purged_next)
    (same_ids eq (id_at (full_log s.log_ids) e.log_id.index) (Some e.log_id)) (own 0 e.log_id refl))
    (own_present eq s es (λ n id at. own (suc n) id at))

-- a log that ends before an index is truncated nowhere there
pub front_whole : {C : Type 0} (b since : ℕ) (log : List (LogIdOf C)) → From b log → index_lt (index_of (last_id log)) (Some since) ≡ true
    → front log since ≡ log
front_whole b since [] row ends = refl
front_whole b since (x ∷ xs) row ends =
    let y = last_at b x xs row in let y2 = y.2 in let f = rw y.1 at ends in
    let lt : y.0.index < since = grind (arith, nat_tests) in
    front_all b since (x ∷ xs) row (omega arith)

-- the first entry, by its place
pub no_first : {A : Type 0} (xs : List A) → None ≡ slice_get xs 0 → xs ≡ []
no_first [] h = refl
no_first (x ∷ xs) h = cc

pub first_next : {C K N D : Type 0} (last : Option (LogIdOf C)) (es : List (EntryOf C K N D)) (first : EntryOf C K N D)
    → slice_get es 0 ≡ Some first → are_consecutive last (entry_ids es) ≡ true → first.log_id.index ≡ next_index last
first_next last [] first h row = cc
first_next last (e ∷ es) first h row =
    let is : e ≡ first = cc in
    let b = and_parts _ _ row in let t : nat_eq e.log_id.index (next_index last) ≡ true = b.0 in
    rw (← is) (grind (arith, nat_tests))

pub ends_alike : {C K N D : Type 0} (es : List (EntryOf C K N D)) (first : EntryOf C K N D) (a b : Option (LogIdOf C))
    → slice_get es 0 ≡ Some first → option_or (last_id (entry_ids es)) a ≡ option_or (last_id (entry_ids es)) b
ends_alike [] first a b h = cc
ends_alike (e ∷ es) first a b h = rw (last_of_some e.log_id (entry_ids es)) refl

pub has_with_alone : {C : Type 0} (eq : C → C → Bool) (log : List (LogIdOf C)) (o : Option (LogIdOf C))
    → has_with eq log [] o ≡ true → in_log eq log o ≡ true
has_with_alone eq log None h = refl
has_with_alone eq log (Some id) h = h

pub has_after_entries : {C K N D : Type 0} (eq : C → C → Bool) → IsEquivalence eq → (old new : List (LogIdOf C))
    (es : List (EntryOf C K N D)) (first : EntryOf C K N D) (id : Option (LogIdOf C)) → slice_get es 0 ≡ Some first
    → KeepsBelow eq first.log_id.index old new → HasIds eq (entry_ids es) new → has_with eq old (entry_ids es) id ≡ true
    → in_log eq new id ≡ true
has_after_entries eq eqs old new [] first id h kept own has = cc
has_after_entries eq eqs old new (e ∷ es) first id h kept own has =
    let is : e ≡ first = cc in
    has_after eq eqs old new (entry_ids es) e.log_id id (rw is kept) own has

-- below the first new entry the log reads as before
pub kept_through : {C K N D : Type 0} (eq : C → C → Bool) (old new : List (LogIdOf C)) (since : ℕ) (last : Option (LogIdOf C))
    (es : List (EntryOf C K N D)) (first : EntryOf C K N D) → last ≡ last_id (front old since)
    → are_consecutive last (entry_ids es) ≡ true → slice_get es 0 ≡ Some first → since ≡ first.log_id.index
    → KeepsIds eq (front old since) new → KeepsBelow eq since old new
kept_through eq old new since last es first is row h at kept i lt =
    let n = first_next last es first h row in
    let end : next_index last ≡ end_index (front old since) = ap next_index is in
    rw (front_reads old since i lt) at (kept i (omega arith))

ids_end : {C K N D : Type 0} (es : List (EntryOf C K N D)) (x : EntryOf C K N D)
    → entry_ids (es ++ x ∷ []) ≡ entry_ids es ++ x.log_id ∷ []
ids_end [] x = refl
ids_end (e ∷ es) x = ap (λ ids. e.log_id ∷ ids) (ids_end es x)

take_next : {A : Type 0} (n : ℕ) (xs : List A) (x : A) (rest : List A) → drop n xs ≡ x ∷ rest → take (suc n) xs ≡ take n xs ++ x ∷ []
take_next zero [] x rest h = cc
take_next zero (y ∷ ys) x rest h = let is : y ≡ x = cc in rw is refl
take_next (suc n) [] x rest h = cc
take_next (suc n) (y ∷ ys) x rest h = ap (λ zs. y ∷ zs) (take_next n ys x rest h)

take_whole : {A : Type 0} (n : ℕ) (xs : List A) → drop n xs ≡ [] → take n xs ≡ xs
take_whole zero [] h = refl
take_whole zero (y ∷ ys) h = cc
take_whole (suc n) [] h = refl
take_whole (suc n) (y ∷ ys) h = ap (λ zs. y ∷ zs) (take_whole n ys h)

pub has_alike : {K N I L C : Type 0} (eq : C → C → Bool) (old new : RaftStateIn K N I L C) (id : Option (LogIdOf C))
    → new.purged_next ≡ old.purged_next → new.log_ids ≡ old.log_ids → purged_or_logged eq old id ≡ true
    → purged_or_logged eq new id ≡ true
has_alike eq old new id purged logs has = rw (is_kept eq new id, purged, logs) (sym (is_kept eq old id) ∙ has)

-- the rest of a list from a place on
pub slice_rest : {A : Type 0} (n : ℕ) (xs : List A) → take (length xs - n) (drop n xs) ≡ drop n xs
slice_rest n xs =
    let len = length-drop n xs in
    take_whole (length xs - n) (drop n xs) (drop_all (length xs - n) (drop n xs) (omega arith))

-- a state after a request, of whose entries so many were in the log before
module _ {K N I L C D : Type 0} (eq : C → C → Bool) (eqs : IsEquivalence eq) (old new : RaftStateIn K N I L C)
    (prev : Option (LogIdOf C)) (es : List (EntryOf C K N D)) (n : ℕ) where
  -- the log id of the first new entry comes after those before it
  row_to : (x : EntryOf C K N D) (xs : List (EntryOf C K N D)) → are_consecutive prev (entry_ids (take (n + 1) es)) ≡ true
      → drop n es ≡ x ∷ xs → are_consecutive prev (entry_ids (take n es) ++ x.log_id ∷ []) ≡ true
  row_to x xs row is =
      let next : take (n + 1) es ≡ take n es ++ x ∷ [] = rw add-one (take_next n es x xs is) in
      rw (next, ids_end (take n es) x) at row

  pub prev_stays : are_consecutive prev (entry_ids (take (n + 1) es)) ≡ true
      → KeepsBelow eq (replaced_since (full_log old.log_ids) (drop n es)) (full_log old.log_ids) (full_log new.log_ids)
      → new.purged_next ≡ old.purged_next → (drop n es ≡ [] → new.log_ids ≡ old.log_ids)
      → purged_or_logged eq old prev ≡ true → purged_or_logged eq new prev ≡ true
  prev_stays row kept purged none has = by (drop n es) refl kept
    where
      by : (fresh : List (EntryOf C K N D)) → drop n es ≡ fresh
          → KeepsBelow eq (replaced_since (full_log old.log_ids) fresh) (full_log old.log_ids) (full_log new.log_ids)
          → purged_or_logged eq new prev ≡ true
      by [] is kept = has_alike eq old new prev purged (none is) has
      by (x ∷ xs) is kept =
          stays_present eq eqs old new x.log_id.index prev (consecutive_to prev (take n es) x.log_id (row_to x xs row is)) kept purged has

  pub entries_present : n ≡ prefix_len (has_entry eq old) es → are_consecutive prev (entry_ids (take (n + 1) es)) ≡ true
      → KeepsBelow eq (replaced_since (full_log old.log_ids) (drop n es)) (full_log old.log_ids) (full_log new.log_ids)
      → new.purged_next ≡ old.purged_next → (drop n es ≡ [] → new.log_ids ≡ old.log_ids)
      → HasIds eq (entry_ids (drop n es)) (full_log new.log_ids) → list_all (has_entry eq new) es ≡ true
  entries_present place row kept purged none own = by (drop n es) refl kept own
    where
      before : list_all (has_entry eq old) (take n es) ≡ true
      before = place_passes (has_entry eq old) es n place

      by : (fresh : List (EntryOf C K N D)) → drop n es ≡ fresh
          → KeepsBelow eq (replaced_since (full_log old.log_ids) fresh) (full_log old.log_ids) (full_log new.log_ids)
          → HasIds eq (entry_ids fresh) (full_log new.log_ids) → list_all (has_entry eq new) es ≡ true
      by [] is kept own =
          list_all-weaker (has_entry eq old) (has_entry eq new) (λ e h. has_alike eq old new (Some e.log_id) purged (none is) h) es
          (rw (take_whole n es is) at before)
      by (x ∷ xs) is kept own =
          let first = all_stay_present eq eqs old new prev (take n es) x.log_id (row_to x xs row is) kept purged before in
          let parts = list_all-append (has_entry eq new) (take n es) (x ∷ xs) in
          let whole : take n es ++ x ∷ xs ≡ es = rw is at (take-append-drop n es) in
          rw (← whole, parts) (both_true first (own_present eq new (x ∷ xs) own))

-- the log id of the last entry
pub last_of_entries : {C K N D : Type 0} (prev : Option (LogIdOf C)) (es : List (EntryOf C K N D)) (e : EntryOf C K N D)
    → slice_get es (length es - 1) ≡ Some e → Some e.log_id ≡ option_or (last_id (entry_ids es)) prev
last_of_entries prev [] e h = cc
last_of_entries {C} {K} {N} {D} prev (x ∷ xs) e h =
    let n : length (x ∷ xs) - 1 ≡ length xs = omega arith in
    let here = rw n at h in
    rw (last_of_some x.log_id (entry_ids xs), last_of_map (λ (y : EntryOf C K N D). y.log_id) x xs, here) refl

-- a log is the same as itself
pub same_log_itself : {C : Type 0} (eq : C → C → Bool) → IsEquivalence eq → (log : List (LogIdOf C)) → same_log eq log log ≡ true
same_log_itself eq eqs [] = refl
same_log_itself eq eqs (x ∷ xs) =
    let t : nat_eq x.index x.index ≡ true = grind (arith, nat_tests) in
    both_true (both_true (eqs.refl x.leader_id) t) (same_log_itself eq eqs xs)
