-- Entries that continue a log under one leader, and look-ups past the last index of a log.
use Rattle.std.proofs.Common.{◌≡◌, ℕ, zero, suc, ◌+◌, ◌≤◌, ◌==◌, Bool, true, false, ◌&&◌, List, [], ◌∷◌, Option, Some, None, if◌then◌else◌, drop, is_some, nat_eq, nat_le, option_map, refl, sym, true≢false, arith, ◌∙◌}
use Rattle.std.proofs.Math.Bool.{and-false}
use Rattle.std.specs.Prelude.{nat_lt, not, slice_get}
use Rattle.std.specs.List.{list_any}
use Rattle.std.proofs.lemmas.Bool.{and_parts}
use Rattle.std.proofs.lemmas.Bool.Decides.{nat_tests}
use Rattle.std.specs.Cmp.{IsEquivalence}
use Rattle.std.specs.Cmp.Derive.{both_true}
use Rattle.std.specs.Ordering.{is_eq, is_le}
use Rattle.std.specs.declared.cmp.Ordering.{Ordering}
use Rattle.std.specs.declared.cmp.Ordering.TheVariants.{Less, Equal, Greater}
use Rattle.raft_base.specs.LogId.{next_index, same_id, same_ids}
use Rattle.raft_base.specs.declared.log_id.LogIdOf.{LogIdOf}
use Rattle.steps_handlers.specs.Entries.{are_in_order, entry_ids, has_memberships_in_order}
use Rattle.steps_handlers.specs.Inner.Log.{are_plain, continue_from, stores_membership}
use Rattle.raft_state.proofs.lemmas.log_id_list.FrontLemmas.{last_at}
use Rattle.raft_state.proofs.lemmas.log_id_list.IdOrderLemmas.{leaders_symm, leaders_trans}
use Rattle.raft_state.proofs.lemmas.log_id_list.OrderLemmas.{From}
use Rattle.raft_state.proofs.lemmas.sound.LoggedIds.{is_kept}
use Rattle.raft_state.specs.entry.Entry.{payload_membership}
use Rattle.raft_state.specs.log_id_list.FullLog.{full_log}
use Rattle.raft_state.specs.log_id_list.LogConditions.{all_follow, follows}
use Rattle.raft_state.specs.log_id_list.LogReads.{id_at, last_id}
use Rattle.raft_state.specs.raft_state.Appended.{are_consecutive, memberships_follow}
use Rattle.raft_state.specs.raft_state.Sound.{purged_or_logged}
use Rattle.raft_state.specs.declared.entry.EntryOf.{EntryOf}
use Rattle.raft_state.specs.declared.raft_state.RaftStateIn.{RaftStateIn}

pub continue_past : {C K N D : Type 0} (eq : C → C → Bool) (leader : C) (i : ℕ) (e : EntryOf C K N D) (es : List (EntryOf C K N D))
    → e.log_id.index ≡ i → eq e.log_id.leader_id leader ≡ true → stores_membership e ≡ false
    → continue_from eq leader i (e ∷ es) ≡ continue_from eq leader (i + 1) es
continue_past eq leader i e es at of_leader plain =
    let t : nat_eq e.log_id.index i ≡ true = grind (arith, nat_tests) in rw (t, of_leader, plain) refl

eq_is_le : (r : Ordering) → is_eq r ≡ true → is_le r ≡ true
eq_is_le Less h = refl
eq_is_le Equal h = refl
eq_is_le Greater h = cc

must_not : (b : Bool) → not b ≡ true → b ≡ false
must_not true h = cc
must_not false h = refl

-- such entries may be appended after a log id of their leader, and leave the memberships
module _ {C K N D : Type 0} (eq : C → C → Bool) (leader : C) where
  leaders_stay : (cmp : C → C → Ordering) → IsEquivalence eq → ((x y : C) → eq x y ≡ is_eq (cmp x y)) → (prev : LogIdOf C)
      (es : List (EntryOf C K N D)) → eq prev.leader_id leader ≡ true → continue_from eq leader (prev.index + 1) es ≡ true
      → all_follow cmp (Some prev) (entry_ids es) ≡ true
  leaders_stay cmp eqs is prev [] of_leader h = refl
  leaders_stay cmp eqs is prev (e ∷ es) of_leader h =
      let b = and_parts _ _ h in let c = and_parts _ _ b.1 in let d = and_parts _ _ c.1 in
      let t : nat_eq e.log_id.index (prev.index + 1) ≡ true = b.0 in
      let at : e.log_id.index ≡ prev.index + 1 = grind (arith, nat_tests) in
      let lt : nat_lt prev.index e.log_id.index ≡ true = grind (arith, nat_tests) in
      let same = leaders_trans eqs prev.leader_id leader e.log_id.leader_id of_leader
      (leaders_symm eqs e.log_id.leader_id leader c.0) in
      let le = eq_is_le (cmp prev.leader_id e.log_id.leader_id) (sym (is prev.leader_id e.log_id.leader_id) ∙ same) in
      both_true (both_true lt le) (leaders_stay cmp eqs is e.log_id es c.0 (rw at d.1))

  indexes_follow : (prev : LogIdOf C) (es : List (EntryOf C K N D)) → continue_from eq leader (prev.index + 1) es ≡ true
      → are_consecutive (Some prev) (entry_ids es) ≡ true
  indexes_follow prev [] h = refl
  indexes_follow prev (e ∷ es) h =
      let b = and_parts _ _ h in let c = and_parts _ _ b.1 in let d = and_parts _ _ c.1 in
      let t : nat_eq e.log_id.index (prev.index + 1) ≡ true = b.0 in
      let at : e.log_id.index ≡ prev.index + 1 = grind (arith, nat_tests) in
      let next : nat_eq e.log_id.index (next_index (Some prev)) ≡ true = grind (arith, nat_tests) in
      both_true next (indexes_follow e.log_id es (rw at d.1))

  members_stay : (cmp : C → C → Ordering) (i : ℕ) (members : Option (LogIdOf C)) (es : List (EntryOf C K N D))
      → continue_from eq leader i es ≡ true
      → memberships_follow cmp (λ e. e.log_id) (λ e. stores_membership e) members es ≡ true
  members_stay cmp i members [] h = refl
  members_stay cmp i members (e ∷ es) h =
      let b = and_parts _ _ h in let c = and_parts _ _ b.1 in let d = and_parts _ _ c.1 in
      rw (must_not (stores_membership e) d.0) (members_stay cmp (i + 1) members es d.1)

  none_stored_from : (i : ℕ) (es : List (EntryOf C K N D)) → continue_from eq leader i es ≡ true
      → list_any (λ e. is_some (payload_membership e.payload)) es ≡ false
  none_stored_from i [] h = refl
  none_stored_from i (e ∷ es) h =
      let b = and_parts _ _ h in let c = and_parts _ _ b.1 in let d = and_parts _ _ c.1 in
      rw (must_not (stores_membership e) d.0) (none_stored_from (i + 1) es d.1)

-- what a loan that is absent shows
pub none_shown : {A B : Type 0} (f : A → B) (o : Option A) (m : Option B) → option_map f o ≡ m → is_some o ≡ false → is_some m ≡ false
none_shown f None m e h = rw (← e) refl
none_shown f (Some x) m e h = absurd (true≢false h)

both_alone : (a b : Bool) → (a && b) ≡ ((a && true) && (b && true))
both_alone true true = refl
both_alone true false = refl
both_alone false true = refl
both_alone false false = refl

-- plain entries
module _ {C K N D : Type 0} (eq : C → C → Bool) (eqs : IsEquivalence eq) where
  -- entries of a leader are of each leader that equals it
  leader_alike : (a b : C) (i : ℕ) (es : List (EntryOf C K N D)) → eq a b ≡ true → continue_from eq a i es ≡ true
      → continue_from eq b i es ≡ true
  leader_alike a b i [] same h = refl
  leader_alike a b i (e ∷ es) same h =
      let p = and_parts _ _ h in let q = and_parts _ _ p.1 in let r = and_parts _ _ q.1 in
      both_true p.0 (both_true (leaders_trans eqs e.log_id.leader_id a b q.0 same)
      (both_true r.0 (leader_alike a b (i + 1) es same r.1)))

  -- what is left of them is plain
  plain_rest : (e : EntryOf C K N D) (es : List (EntryOf C K N D)) → are_plain eq (e ∷ es) ≡ true → are_plain eq es ≡ true
  plain_rest e [] h = refl
  plain_rest e (x ∷ xs) h =
      let a = and_parts _ _ h in
      let p = and_parts _ _ a.1 in let q = and_parts _ _ p.1 in let r = and_parts _ _ q.1 in
      let t : nat_eq x.log_id.index (e.log_id.index + 1) ≡ true = p.0 in
      let at : e.log_id.index + 1 ≡ x.log_id.index = grind (arith, nat_tests) in
      let later : continue_from eq e.log_id.leader_id (e.log_id.index + 1 + 1) xs ≡ true = r.1 in
      both_true r.0 (leader_alike e.log_id.leader_id x.log_id.leader_id (x.log_id.index + 1) xs
      (leaders_symm eqs x.log_id.leader_id e.log_id.leader_id q.0) (rw at at later))

  pub plain_drop : (n : ℕ) (es : List (EntryOf C K N D)) → are_plain eq es ≡ true → are_plain eq (drop n es) ≡ true
  plain_drop zero es h = h
  plain_drop (suc n) [] h = refl
  plain_drop (suc n) (e ∷ es) h = plain_drop n es (plain_rest e es h)

  -- entries are plain if the others continue the first one, and that stores no membership
  pub plain_from : (first : EntryOf C K N D) (es : List (EntryOf C K N D)) → slice_get es 0 ≡ Some first
      → stores_membership first ≡ false
      → continue_from eq first.log_id.leader_id (first.log_id.index + 1) (drop 1 es) ≡ true → are_plain eq es ≡ true
  plain_from first [] begins none h = refl
  plain_from first (x ∷ xs) begins none h = let same : x ≡ first = cc in rw (same, none) h

  -- they are in order wherever the first one may come
  pub plain_in_order : (cmp : C → C → Ordering) → ((x y : C) → eq x y ≡ is_eq (cmp x y)) → (last : Option (LogIdOf C))
      (first : EntryOf C K N D) (es : List (EntryOf C K N D)) → slice_get es 0 ≡ Some first → are_plain eq es ≡ true
      → (follows cmp last first.log_id && nat_eq first.log_id.index (next_index last)) ≡ are_in_order cmp last es
  plain_in_order cmp is last first [] begins h = cc
  plain_in_order cmp is last first (x ∷ xs) begins h =
      let same : x ≡ first = cc in
      let a = and_parts _ _ h in
      let later = leaders_stay eq x.log_id.leader_id cmp eqs is x.log_id xs (eqs.refl x.log_id.leader_id) a.1 in
      let next = indexes_follow eq x.log_id.leader_id x.log_id xs a.1 in
      rw (← same, later, next) (both_alone (follows cmp last x.log_id) (nat_eq x.log_id.index (next_index last)))

  -- and leave the memberships
  pub plain_members : (cmp : C → C → Ordering) (members : Option (LogIdOf C)) (es : List (EntryOf C K N D)) → are_plain eq es ≡ true
      → has_memberships_in_order cmp members es ≡ true
  plain_members cmp members [] h = refl
  plain_members cmp members (e ∷ es) h =
      let a = and_parts _ _ h in
      rw (must_not (stores_membership e) a.0)
      (members_stay eq e.log_id.leader_id cmp (e.log_id.index + 1) members es a.1)

  pub plain_stores_none : (es : List (EntryOf C K N D)) → are_plain eq es ≡ true
      → list_any (λ e. is_some (payload_membership e.payload)) es ≡ false
  plain_stores_none [] h = refl
  plain_stores_none (e ∷ es) h =
      let a = and_parts _ _ h in
      rw (must_not (stores_membership e) a.0) (none_stored_from eq e.log_id.leader_id (e.log_id.index + 1) es a.1)

-- what a log has past its last index, and at it
found_alone : {C : Type 0} (eq : C → C → Bool) (x id : LogIdOf C)
    → same_ids eq (id_at (x ∷ []) id.index) (Some id) ≡ same_id eq x id
found_alone eq x id = by (nat_eq x.index id.index) refl
  where
    by : (t : Bool) → t ≡ nat_eq x.index id.index
        → same_ids eq (if t then Some x else None) (Some id) ≡ (eq x.leader_id id.leader_id && t)
    by true h = rw (← h) refl
    by false h = sym (and-false (eq x.leader_id id.leader_id))

found_at_end : {C : Type 0} (eq : C → C → Bool) (b : ℕ) (x : LogIdOf C) (xs : List (LogIdOf C)) (last id : LogIdOf C)
    → From b (x ∷ xs) → last_id (x ∷ xs) ≡ Some last → last.index ≤ id.index
    → same_ids eq (id_at (x ∷ xs) id.index) (Some id) ≡ same_id eq last id
found_at_end eq b x [] last id row is le = let e : x ≡ last = cc in rw (← e) (found_alone eq x id)
found_at_end eq b x (y ∷ ys) last id row is le =
    let h0 = row.0 in
    let z = last_at (b + 1) y ys row.1 in let z2 = z.2 in
    let e : Some z.0 ≡ Some last = sym z.1 ∙ is in
    let at : z.0 ≡ last = cc in
    let le2 : z.0.index ≤ id.index = rw at le in
    let t : (x.index == id.index) ≡ false = grind (arith, nat_tests) in
    rw t (found_at_end eq (b + 1) y ys last id row.1 is le)

pub has_at_end : {K N I L C : Type 0} (eq : C → C → Bool) (s : RaftStateIn K N I L C) (b : ℕ) (last id : LogIdOf C)
    → From b (full_log s.log_ids) → last_id (full_log s.log_ids) ≡ Some last → last.index ≤ id.index
    → nat_le (id.index + 1) s.purged_next ≡ false → same_id eq last id ≡ purged_or_logged eq s (Some id)
has_at_end {K} {N} {I} {L} {C} eq s b last id row is le kept =
    sym (is_kept eq s (Some id) ∙ rw kept (by (full_log s.log_ids) row is))
  where
    by : (log : List (LogIdOf C)) → From b log → last_id log ≡ Some last
        → same_ids eq (id_at log id.index) (Some id) ≡ same_id eq last id
    by [] row is = cc
    by (x ∷ xs) row is = found_at_end eq b x xs last id row is le
