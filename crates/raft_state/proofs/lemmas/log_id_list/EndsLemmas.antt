-- Appending log ids of one leader: the keys are those of appending the first one and the last one.
use Rattle.std.proofs.Common.{◌≡◌, ◌-◌, ◌≤◌, Bool, true, false, List, [], ◌∷◌, Some, if◌then◌else◌, IsTrue, nat_lt, refl, sym, ◌∙◌, ap, arith, length, map}
use Rattle.std.proofs.lemmas.Bool.{and_parts}
use Rattle.std.specs.Prelude.{slice_get}
use Rattle.std.specs.Option.{option_map}
use Rattle.std.specs.declared.cmp.Ordering.{Ordering}
use Rattle.std.specs.declared.cmp.Ordering.TheVariants.{Less, Equal, Greater}
use Rattle.std.specs.Ordering.{is_le, is_eq, ordering_reverse}
use Rattle.std.specs.Cmp.{IsEquivalence, IsTotalOrder}
use Rattle.std.proofs.lemmas.Cmp.{tied_back}
use Rattle.raft_base.specs.declared.log_id.LogIdOf.{LogIdOf}
use Rattle.raft_progress.proofs.lemmas.OrderLemmas.{AtMost-refl, AtMost-trans}
use Rattle.raft_state.specs.Inner.KeyEdits.{keys_after_append, rest_after_append, keys_after_extend}
use Rattle.raft_state.specs.log_id_list.LogConditions.{all_follow, ends_share_leader, follows}
use Rattle.raft_state.specs.log_id_list.LogReads.{first_id, last_id}
use Rattle.raft_state.proofs.lemmas.log_id_list.AppendLemmas.{some_after}
use Rattle.raft_state.proofs.lemmas.log_id_list.IdOrderLemmas.{equal_of, leaders_trans}

-- the last of these log ids, or x if there is none
abbrev pub last_or : {C : Type 0} → LogIdOf C → List (LogIdOf C) → LogIdOf C
last_or x [] = x
last_or x (y ∷ ys) = last_or y ys

-- each of these log ids has a leader that c equals
abbrev pub OfLeader : {C : Type 0} → (C → C → Bool) → C → List (LogIdOf C) → Type 0
OfLeader eq c [] = Unit {0}
OfLeader eq c (id ∷ ids) = IsTrue (eq c id.leader_id) × OfLeader eq c ids

-- the last of these keys has a leader that equals the leader of y
abbrev pub EndsWith : {C : Type 0} → (C → C → Bool) → List (LogIdOf C) → LogIdOf C → Type 0
EndsWith eq [] y = ⊥
EndsWith eq (k ∷ []) y = IsTrue (eq k.leader_id y.leader_id)
EndsWith eq (k ∷ l ∷ ks) y = EndsWith eq (l ∷ ks) y

module _ {C : Type 0} (eq : C → C → Bool) (eqs : IsEquivalence eq) where
  after_first_key : (k l : LogIdOf C) (xs : List (LogIdOf C)) (z : LogIdOf C) → 1 ≤ length xs
      → rest_after_append eq k (l ∷ xs) z ≡ l ∷ rest_after_append eq l xs z
  after_first_key k l [] z some = absurd (omega arith)
  after_first_key k l (x ∷ xs) z some = refl

  -- a key that was appended with the last key's leader is replaced by the next one with that leader
  merged_after : (k : LogIdOf C) (ks : List (LogIdOf C)) (y z : LogIdOf C) → EndsWith eq (k ∷ ks) y
      → rest_after_append eq k (rest_after_append eq k ks y) z ≡ rest_after_append eq k ks z
  merged_after k [] y z h = rw h refl
  merged_after k (l ∷ []) y z h = by_last (eq k.leader_id l.leader_id) refl
    where
      by_last : (t : Bool) → t ≡ eq k.leader_id l.leader_id
          → rest_after_append eq k (if t then y ∷ [] else l ∷ y ∷ []) z ≡ (if t then z ∷ [] else l ∷ z ∷ [])
      by_last true e = let near : eq k.leader_id y.leader_id ≡ true = leaders_trans eqs k.leader_id l.leader_id y.leader_id (sym e) h in
          rw near refl
      by_last false e = rw h refl
  merged_after k (l ∷ m ∷ ks) y z h =
      after_first_key k l (rest_after_append eq l (m ∷ ks) y) z (some_after eq eqs.refl l (m ∷ ks) y)
      ∙ ap (λ (r : List (LogIdOf C)). l ∷ r) (merged_after l (m ∷ ks) y z h)

  merged : (ks : List (LogIdOf C)) (y z : LogIdOf C) → EndsWith eq ks y
      → keys_after_append eq (keys_after_append eq ks y) z ≡ keys_after_append eq ks z
  merged [] y z h = absurd h
  merged (k ∷ ks) y z h = ap (λ (r : List (LogIdOf C)). k ∷ r) (merged_after k ks y z h)

  ends_cons : (k : LogIdOf C) (xs : List (LogIdOf C)) (y : LogIdOf C) → EndsWith eq xs y → EndsWith eq (k ∷ xs) y
  ends_cons k [] y h = absurd h
  ends_cons k (x ∷ xs) y h = h

  ends_after : (k : LogIdOf C) (ks : List (LogIdOf C)) (x y : LogIdOf C) → eq x.leader_id y.leader_id ≡ true
      → EndsWith eq (rest_after_append eq k ks x) y
  ends_after k [] x y e = e
  ends_after k (l ∷ []) x y e = by_last (eq k.leader_id l.leader_id)
    where
      by_last : (t : Bool) → EndsWith eq (if t then x ∷ [] else l ∷ x ∷ []) y
      by_last true = e
      by_last false = e
  ends_after k (l ∷ m ∷ ks) x y e = ends_cons l (rest_after_append eq l (m ∷ ks) x) y (ends_after l (m ∷ ks) x y e)

  -- after an append the last key is the log id
  ends_added : (ks : List (LogIdOf C)) (x y : LogIdOf C) → eq x.leader_id y.leader_id ≡ true → EndsWith eq (keys_after_append eq ks x) y
  ends_added [] x y e = e
  ends_added (k ∷ ks) x y e = ends_cons k (rest_after_append eq k ks x) y (ends_after k ks x y e)

  -- of log ids of one leader, the first one and the last one make the keys
  pub added_by_ends : (ks : List (LogIdOf C)) (x y : LogIdOf C) (ids : List (LogIdOf C)) → OfLeader eq x.leader_id (y ∷ ids)
      → keys_after_extend eq (keys_after_append eq (keys_after_append eq ks x) y) ids
      ≡ keys_after_append eq (keys_after_append eq ks x) (last_or y ids)
  added_by_ends ks x y [] h = refl
  added_by_ends ks x y (z ∷ ids) h =
      ap (λ (r : List (LogIdOf C)). keys_after_extend eq r ids) (merged (keys_after_append eq ks x) y z (ends_added ks x y h.0))
      ∙ added_by_ends ks x z ids h.1

tied_of : (o p : Ordering) → o ≡ ordering_reverse p → is_le o ≡ true → is_le p ≡ true → is_eq o ≡ true
tied_of Less Less e h g = cc
tied_of Less Equal e h g = cc
tied_of Less Greater e h g = cc
tied_of Equal p e h g = refl
tied_of Greater p e h g = cc

module _ {C : Type 0} (cmp : C → C → Ordering) (eq : C → C → Bool) (total : IsTotalOrder cmp)
    (law : (x y : C) → eq x y ≡ is_eq (cmp x y)) where
  -- leaders that follow one another do not fall
  none_falls : (x : LogIdOf C) (ids : List (LogIdOf C)) → IsTrue (all_follow cmp (Some x) ids)
      → is_le (cmp x.leader_id (last_or x ids).leader_id) ≡ true
  none_falls x [] h = AtMost-refl total x.leader_id
  none_falls x (y ∷ ids) h =
      let b = and_parts (follows cmp (Some x) y) (all_follow cmp (Some y) ids) h in
      let step = and_parts (nat_lt x.index y.index) (is_le (cmp x.leader_id y.leader_id)) b.0 in
      AtMost-trans total x.leader_id y.leader_id (last_or y ids).leader_id step.1 (none_falls y ids b.1)

  tied : (a b : C) → is_le (cmp a b) ≡ true → is_le (cmp b a) ≡ true → eq a b ≡ true
  tied a b h g = law a b ∙ tied_of (cmp a b) (cmp b a) (total.antisymm a b) h g

  -- a leader between equal leaders equals them
  between : (c : C) (x : LogIdOf C) (ids : List (LogIdOf C)) → is_le (cmp c x.leader_id) ≡ true
      → is_le (cmp (last_or x ids).leader_id c) ≡ true → IsTrue (all_follow cmp (Some x) ids) → OfLeader eq c (x ∷ ids)
  between c x [] up down h = (tied c x.leader_id up down, tt)
  between c x (y ∷ ids) up down h =
      let b = and_parts (follows cmp (Some x) y) (all_follow cmp (Some y) ids) h in
      let step = and_parts (nat_lt x.index y.index) (is_le (cmp x.leader_id y.leader_id)) b.0 in
      let back = AtMost-trans total x.leader_id (last_or y ids).leader_id c (none_falls x (y ∷ ids) h) down in
      (tied c x.leader_id up back, between c y ids (AtMost-trans total c x.leader_id y.leader_id up step.1) down b.1)

  -- log ids that follow one another and end under the leader of the first are all of that leader
  pub one_leader : (x y : LogIdOf C) (ids : List (LogIdOf C)) → IsTrue (all_follow cmp (Some x) (y ∷ ids))
      → eq x.leader_id (last_or y ids).leader_id ≡ true → OfLeader eq x.leader_id (y ∷ ids)
  one_leader x y ids h e =
      let b = and_parts (follows cmp (Some x) y) (all_follow cmp (Some y) ids) h in
      let step = and_parts (nat_lt x.index y.index) (is_le (cmp x.leader_id y.leader_id)) b.0 in
      let z = (last_or y ids).leader_id in
      between x.leader_id y ids step.1 (ap is_le (tied_back total x.leader_id z
      (equal_of (cmp x.leader_id z) (sym (law x.leader_id z) ∙ e)))) b.1

-- the ends of log ids, by position
pub last_of_some : {C : Type 0} (x : LogIdOf C) (ids : List (LogIdOf C)) → last_id (x ∷ ids) ≡ Some (last_or x ids)
last_of_some x [] = refl
last_of_some x (y ∷ ids) = last_of_some y ids

pub last_of_map : {C L : Type 0} (id_of : L → LogIdOf C) (l : L) (ls : List L)
    → Some (last_or (id_of l) (map id_of ls)) ≡ option_map id_of (slice_get (l ∷ ls) (length ls))
last_of_map id_of l [] = refl
last_of_map id_of l (m ∷ ls) = last_of_map id_of m ls

first_mapped : {C L : Type 0} (id_of : L → LogIdOf C) (ls : List L) → first_id (map id_of ls) ≡ option_map id_of (slice_get ls 0)
first_mapped id_of [] = refl
first_mapped id_of (l ∷ ls) = refl

last_mapped : {C L : Type 0} (id_of : L → LogIdOf C) (ls : List L)
    → last_id (map id_of ls) ≡ option_map id_of (slice_get ls (length ls - 1))
last_mapped id_of [] = refl
last_mapped id_of (l ∷ ls) =
    let e : length (l ∷ ls) - 1 ≡ length ls = omega arith in
    rw e (last_of_some (id_of l) (map id_of ls) ∙ last_of_map id_of l ls)

-- the test of the ends compares the first and the last one
pub ends_by_place : {C L : Type 0} (eq : C → C → Bool) (id_of : L → LogIdOf C) (ls : List L) (f l : L) → Some f ≡ slice_get ls 0
    → Some l ≡ slice_get ls (length ls - 1) → eq (id_of f).leader_id (id_of l).leader_id ≡ ends_share_leader eq (map id_of ls)
ends_by_place eq id_of ls f l first last = rw (first_mapped id_of ls, last_mapped id_of ls, ← first, ← last) refl
