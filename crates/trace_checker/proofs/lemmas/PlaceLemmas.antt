-- Leaders are found by the numbers of their rank.
use Rattle.std.specs.Prelude.{◌≡◌, ◌⊎◌, ◌+◌, ◌<◌, ◌≤◌, ℕ, zero, suc, Bool, true, false, ◌&&◌, nat_lt, if◌then◌else◌, min, Option, Some, None, List, [], ◌∷◌, length, get_or, set}
use Rattle.std.specs.List.{position, position_or_len}
use Rattle.std.specs.Option.{unwrap_or}
use Rattle.std.proofs.Common.{refl, sym, ap, ◌∙◌, subst, inl, inr, arith}
use Rattle.std.proofs.lemmas.Bool.{cases_eq, le-ltb, lt-ltb}
use Rattle.std.proofs.lemmas.List.{get_or_default, get_or-set_other, get_or-set_same, length-set}
use Rattle.std.proofs.lemmas.List.Sums.{position_or_len_is}
use Rattle.trace_checker.specs.Inner.Places.{ArePlaced, IsWithin, first_of, place_of}
use Rattle.trace_checker.specs.declared.checker.leader.Leader.{Leader}

-- ---- a search

-- the first element that passes
pub found_first : {X : Type 0} (p : X → Bool) (xs : List X) (i : ℕ) (d : X) → i < length xs
    → ((k : ℕ) → k < i → p (get_or xs k d) ≡ false) → p (get_or xs i d) ≡ true → position p xs ≡ Some i
found_first p xs i d within before here =
    let is : position_or_len p xs ≡ i =
    position_or_len_is p xs i d (omega (arith, within)) before (λ h. here) in
    ap (λ n. if nat_lt n (length xs) then Some n else None) is
    ∙ ap (λ b. if b then Some i else None) (lt-ltb i (length xs) within)

-- no element passes
pub found_none : {X : Type 0} (p : X → Bool) (xs : List X)
    → ((k : ℕ) (d : X) → k < length xs → p (get_or xs k d) ≡ false) → position p xs ≡ None
found_none p [] before = refl
found_none p (x ∷ xs) before =
    let is : position_or_len p (x ∷ xs) ≡ length (x ∷ xs) =
    position_or_len_is p (x ∷ xs) (length (x ∷ xs)) x (omega arith) (λ k h. before k x h)
    (λ h. absurd (omega (arith, h))) in
    ap (λ n. if nat_lt n (length (x ∷ xs)) then Some n else None) is
    ∙ ap (λ b. if b then Some (length (x ∷ xs)) else None) (le-ltb (length (x ∷ xs)) (length (x ∷ xs)) (omega arith))

module _ {T N : Type 0} (rank : T → ℕ) (same_term : T → T → Bool) (same_id : N → N → Bool)
    (right : (x y : T) → same_term x y ≡ true → x ≡ y) (places : List (ℕ × (ℕ × ℕ))) (leaders : List (Leader T N))
    (placed : ArePlaced rank places leaders) (t : T) (c : N) where
  within_place : (i : ℕ) (d : Leader T N) → i < length leaders → same_term (get_or leaders i d).term t ≡ true
      → IsWithin (place_of places (rank t)) i (length leaders)
  within_place i d within same =
      let q : (get_or leaders i d).term ≡ t = right (get_or leaders i d).term t same in
      subst (λ (u : T). IsWithin (place_of places (rank u)) i (length leaders)) q
      (placed i (get_or leaders i d) within (get_or_default leaders i d (get_or leaders i d) within))

  -- no leader of the term is outside its numbers
  pub outside : (first last i : ℕ) (d : Leader T N) → place_of places (rank t) ≡ Some (first, last)
      → i < length leaders → (length leaders ≤ first + i) ⊎ (last + i + 1 < length leaders)
      → (same_term (get_or leaders i d).term t && same_id (get_or leaders i d).id c) ≡ false
  outside first last i d is within apart = go (same_term (get_or leaders i d).term t) refl apart
    where
      go : (b : Bool) → same_term (get_or leaders i d).term t ≡ b
          → (length leaders ≤ first + i) ⊎ (last + i + 1 < length leaders)
          → (b && same_id (get_or leaders i d).id c) ≡ false
      go false e o = refl
      go true e o =
          let w : IsWithin (place_of places (rank t)) i (length leaders) = within_place i d within e in
          let a : w.first ≡ first = ap (λ (x : Option (ℕ × ℕ)). (unwrap_or x (0, 0)).0) (sym w.is ∙ is) in
          let b : w.last ≡ last = ap (λ (x : Option (ℕ × ℕ)). (unwrap_or x (0, 0)).1) (sym w.is ∙ is) in
          out a b w.not_before w.not_after o
        where
          out : {x y : ℕ} → x ≡ first → y ≡ last → x + i < length leaders → length leaders ≤ y + i + 1
              → (length leaders ≤ first + i) ⊎ (last + i + 1 < length leaders)
              → (true && same_id (get_or leaders i d).id c) ≡ false
          out a b low high (inl h) = absurd (omega (arith, a, low, h))
          out a b low high (inr h) = absurd (omega (arith, b, high, h))

  -- no leader is of the term if its rank has no numbers
  pub unplaced : place_of places (rank t) ≡ None
      → position (λ (l : Leader T N). same_term l.term t && same_id l.id c) leaders ≡ None
  unplaced none =
      found_none (λ (l : Leader T N). same_term l.term t && same_id l.id c) leaders
      (λ i d h. go i d h (same_term (get_or leaders i d).term t) refl)
    where
      none_some : (y : ℕ × ℕ) → None ≡ Some y → ⊥
      none_some y q = cc

      go : (i : ℕ) (d : Leader T N) → i < length leaders → (b : Bool)
          → same_term (get_or leaders i d).term t ≡ b → (b && same_id (get_or leaders i d).id c) ≡ false
      go i d h false e = refl
      go i d h true e =
          let w : IsWithin (place_of places (rank t)) i (length leaders) = within_place i d h e in
          absurd (none_some (w.first, w.last) (sym none ∙ w.is))

module _ {T N : Type 0} (rank : T → ℕ) where
  -- a leader is replaced by one of its term
  pub placed_set : (places : List (ℕ × (ℕ × ℕ))) (leaders : List (Leader T N)) (j : ℕ) (l new : Leader T N)
      → j < length leaders → l ≡ get_or leaders j l → new.term ≡ l.term → ArePlaced rank places leaders
      → ArePlaced rank places (set leaders j new)
  placed_set places leaders j l new within is same placed i x h at = go (cases_eq i j)
    where
      in_list : i < length leaders
      in_list = rw (length-set leaders j new) at h

      back : IsWithin (place_of places (rank x.term)) i (length leaders)
          → IsWithin (place_of places (rank x.term)) i (length (set leaders j new))
      back w = rw (length-set leaders j new) w

      go : (i ≡ j) ⊎ (i ≡ j → ⊥) → IsWithin (place_of places (rank x.term)) i (length (set leaders j new))
      go (inl q) =
          let it : x ≡ new = at ∙ ap (λ m. get_or (set leaders j new) m x) q ∙ get_or-set_same leaders j new x within in
          let t : x.term ≡ l.term = ap (λ (y : Leader T N). y.term) it ∙ same in
          let old : IsWithin (place_of places (rank l.term)) j (length leaders) = placed j l within is in
          back (subst (λ (u : T). IsWithin (place_of places (rank u)) i (length leaders)) (sym t)
          (subst (λ (m : ℕ). IsWithin (place_of places (rank l.term)) m (length leaders)) (sym q) old))
      go (inr q) = back (placed i x in_list (at ∙ get_or-set_other leaders j i new x q))

  -- a leader is added
  pub placed_more : (old new : List (ℕ × (ℕ × ℕ))) (leaders : List (Leader T N)) (l : Leader T N) (r : ℕ)
      → rank l.term ≡ r
      → place_of new r ≡ Some (first_of (place_of old r) (length leaders), length leaders)
      → ((q : ℕ) → (q ≡ r → ⊥) → place_of new q ≡ place_of old q) → ArePlaced rank old leaders
      → ArePlaced rank new (l ∷ leaders)
  placed_more old new leaders l r is_r here others placed zero x h at =
      let it : x.term ≡ l.term = ap (λ (y : Leader T N). y.term) at in
      let least : first_of (place_of old r) (length leaders) ≤ length leaders = low (place_of old r) in
      record {
        first = first_of (place_of old r) (length leaders);
        last = length leaders;
        is = ap (place_of new) (ap rank it ∙ is_r) ∙ here;
        not_before = omega (arith, least);
        not_after = omega arith;
      }
    where
      low : (o : Option (ℕ × ℕ)) → first_of o (length leaders) ≤ length leaders
      low None = omega arith
      low (Some w) = omega arith
  placed_more old new leaders l r is_r here others placed (suc i) x h at =
      go (cases_eq (rank x.term) r) (placed i x (omega (arith, h)) at)
    where
      go : (rank x.term ≡ r) ⊎ (rank x.term ≡ r → ⊥) → IsWithin (place_of old (rank x.term)) i (length leaders)
          → IsWithin (place_of new (rank x.term)) (suc i) (length (l ∷ leaders))
      go (inl q) w =
          let before : place_of old r ≡ Some (w.first, w.last) = ap (place_of old) (sym q) ∙ w.is in
          let first : first_of (place_of old r) (length leaders) ≡ min w.first (length leaders) =
          ap (λ o. first_of o (length leaders)) before in
          record {
            first = first_of (place_of old r) (length leaders);
            last = length leaders;
            is = ap (place_of new) q ∙ here;
            not_before = omega (arith, first, w.not_before);
            not_after = omega arith;
          }
      go (inr q) w = record {
        first = w.first;
        last = w.last;
        is = others (rank x.term) q ∙ w.is;
        not_before = omega (arith, w.not_before);
        not_after = omega (arith, w.not_after);
      }
