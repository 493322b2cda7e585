-- Memberships that are found by their places, and contents that are found in a set.
use Rattle.std.specs.Prelude.{◌≡◌, ◌+◌, ◌-◌, ◌<◌, ◌≤◌, ◌||◌, ℕ, zero, suc, Bool, true, false, cond, Option, Some, None, List, [], ◌∷◌, ◌++◌, length, map, take, get_or, nat_eq, if◌then◌else◌, is_some}
use Rattle.std.specs.List.{list_any, position_from}
use Rattle.std.specs.Map.{lookup}
use Rattle.std.specs.Borrow.{Bor}
use Rattle.std.specs.Option.{option_copied, option_or, unwrap_or}
use Rattle.std.proofs.Common.{refl, sym, ap, ◌∙◌, arith}
use Rattle.std.proofs.lemmas.Bool.{eq-eqb, ne_eqb}
use Rattle.std.proofs.lemmas.List.{length_push, take-append-le}
use Rattle.std.proofs.Math.Seq.{take-length}
use Rattle.trace_checker.specs.Inner.Index.{place_after, place_before}
use Rattle.trace_checker.specs.Memberships.{held_by}

-- ---- places

module _ {X : Type 0} (p : X → Bool) where
  -- the first place after an item is added at the end
  pub position_push : (i : ℕ) (xs : List X) (y : X)
      → position_from p i (xs ++ y ∷ []) ≡ option_or (position_from p i xs) (cond (p y) (Some (i + length xs)) None)
  position_push i [] y = let e : i ≡ i + 0 = omega arith in ap (λ n. cond (p y) (Some n) None) e
  position_push i (x ∷ xs) y = go (p x) (position_push (i + 1) xs y)
    where
      go : (b : Bool) → position_from p (i + 1) (xs ++ y ∷ [])
          ≡ option_or (position_from p (i + 1) xs) (cond (p y) (Some (i + 1 + length xs)) None)
          → cond b (Some i) (position_from p (i + 1) (xs ++ y ∷ []))
          ≡ option_or (cond b (Some i) (position_from p (i + 1) xs)) (cond (p y) (Some (i + length (x ∷ xs))) None)
      go true rest = refl
      go false rest =
          let e : i + 1 + length xs ≡ i + length (x ∷ xs) = omega arith in
          rest ∙ ap (λ n. option_or (position_from p (i + 1) xs) (cond (p y) (Some n) None)) e

  -- a place is within the list
  pub position_within : (i : ℕ) (xs : List X) (n : ℕ) → position_from p i xs ≡ Some n → (i ≤ n) × (n < i + length xs)
  position_within i [] n is = absurd (cc)
  position_within i (x ∷ xs) n is = go (p x) (position_within (i + 1) xs n) is
    where
      go : (b : Bool) → (position_from p (i + 1) xs ≡ Some n → (i + 1 ≤ n) × (n < i + 1 + length xs))
          → cond b (Some i) (position_from p (i + 1) xs) ≡ Some n → (i ≤ n) × (n < i + length (x ∷ xs))
      go true rest h = let e : i ≡ n = ap (λ o. unwrap_or o i) h in (omega (arith, e), omega (arith, e))
      go false rest h = let w = rest h in (omega (arith, w.0), omega (arith, w.1))

  -- the first place before an item was added at the end
  pub position_pop : (xs : List X) (y : X)
      → place_before (position_from p 0 (xs ++ y ∷ [])) (p y) (length xs) ≡ position_from p 0 xs
  position_pop xs y =
      let start : 0 + length xs ≡ length xs = omega arith in
      ap (λ o. place_before o (p y) (length xs))
      (position_push 0 xs y ∙ ap (λ n. option_or (position_from p 0 xs) (cond (p y) (Some n) None)) start)
      ∙ go (position_from p 0 xs) refl
    where
      last : (b : Bool) → place_before (cond b (Some (length xs)) None) b (length xs) ≡ None
      last true = ap (λ b. cond b None (Some (length xs))) (eq-eqb (length xs) (length xs) refl)
      last false = refl

      earlier : (b : Bool) (n : ℕ) → nat_eq n (length xs) ≡ false → place_before (Some n) b (length xs) ≡ Some n
      earlier true n h = ap (λ b. cond b None (Some n)) h
      earlier false n h = refl

      go : (o : Option ℕ) → position_from p 0 xs ≡ o
          → place_before (option_or o (cond (p y) (Some (length xs)) None)) (p y) (length xs) ≡ o
      go None h = last (p y)
      go (Some n) h =
          let within = position_within 0 xs n h in
          earlier (p y) n (ne_eqb n (length xs) (omega (arith, within.1)))

module _ {V D : Type 0} (same : D → D → Bool) (content d : D) where
  abbrev first : List (D × V) → Option ℕ
  first items = position_from (λ m. same m.0 d) 0 items

  -- the index after a membership of a content is added at the end
  pub pushed : (items before new : List (D × V)) (v : V) (place : ℕ) (o p : Option ℕ)
      → p ≡ place_after o (same content d) place → o ≡ first items → place ≡ length items → before ≡ items
      → new ≡ before ++ (content, v) ∷ [] → p ≡ first new
  pushed items before new v place o p is was at kept added =
      let start : length items ≡ 0 + length items = omega arith in
      is ∙ (λ q. place_after (was q) (same content d) (at q))
      ∙ ap (λ n. place_after (first items) (same content d) n) start
      ∙ sym (position_push (λ m. same m.0 d) 0 items (content, v))
      ∙ ap (λ l. first (l ++ (content, v) ∷ [])) (sym kept) ∙ ap first (sym added)

  -- the index after the last membership, which is of a content, is removed
  pub popped : (items now before new : List (D × V)) (v : V) (len place : ℕ) (o p : Option ℕ)
      → p ≡ place_before o (same content d) place → o ≡ first items → items ≡ now
      → now ≡ before ++ (content, v) ∷ [] → len ≡ length items → new ≡ take (len - 1) items
      → place ≡ length new → p ≡ first new
  popped items now before new v len place o p is was same_items last full rest at =
      let all : items ≡ before ++ (content, v) ∷ [] = same_items ∙ last in
      let count : length items ≡ length before + 1 = ap length all ∙ length_push before (content, v) in
      let short : len - 1 ≡ length before = omega (arith, full, count) in
      let left : new ≡ before =
      rest ∙ (λ q. take (short q) (all q)) ∙ take-append-le (length before) before ((content, v) ∷ []) (omega arith)
      ∙ take-length before in
      is ∙ (λ q. place_before (was q) (same content d) (at q))
      ∙ (λ q. place_before (first (all q)) (same content d) (length (left q)))
      ∙ position_pop (λ m. same m.0 d) before (content, v) ∙ ap first (sym left)

-- ---- memberships

module _ {V D : Type 0} (p : D → Bool) where
  -- the item at the first place is the one that is looked up
  pub lookup_at : (i k n : ℕ) (xs : List (D × V)) (m : D × V) → position_from (λ x. p x.0) i xs ≡ Some n
      → n ≡ i + k → m ≡ get_or xs k m → lookup p xs ≡ Some m.1
  lookup_at i k n [] m is at read = absurd (cc)
  lookup_at i k n (x ∷ xs) m is at read = go (p x.0) k (λ j. lookup_at (i + 1) j n xs m) is at read
    where
      go : (b : Bool) (j : ℕ)
          → ((l : ℕ) → position_from (λ y. p y.0) (i + 1) xs ≡ Some n → n ≡ i + 1 + l → m ≡ get_or xs l m
          → lookup p xs ≡ Some m.1)
          → cond b (Some i) (position_from (λ y. p y.0) (i + 1) xs) ≡ Some n → n ≡ i + j
          → m ≡ get_or (x ∷ xs) j m → cond b (Some x.1) (lookup p xs) ≡ Some m.1
      go true zero rest h e r = ap (λ (y : D × V). Some y.1) (sym r)
      go true (suc j) rest h e r = let f : i ≡ n = ap (λ o. unwrap_or o i) h in absurd (omega (arith, e, f))
      go false zero rest h e r =
          let w = position_within (λ (y : D × V). p y.0) (i + 1) xs n h in absurd (omega (arith, e, w.0))
      go false (suc j) rest h e r = rest j h (omega (arith, e)) r

  -- nothing is looked up without a place
  pub lookup_nowhere : (i : ℕ) (xs : List (D × V)) → position_from (λ x. p x.0) i xs ≡ None → lookup p xs ≡ None
  lookup_nowhere i [] is = refl
  lookup_nowhere i (x ∷ xs) is = go (p x.0) (lookup_nowhere (i + 1) xs) is
    where
      go : (b : Bool) → (position_from (λ y. p y.0) (i + 1) xs ≡ None → lookup p xs ≡ None)
          → cond b (Some i) (position_from (λ y. p y.0) (i + 1) xs) ≡ None → cond b (Some x.1) (lookup p xs) ≡ None
      go true rest h = absurd (cc)
      go false rest h = rest h

  -- some item passes exactly if one is found
  pub any_found : (xs : List (D × V)) → is_some (lookup p xs) ≡ list_any (λ x. p x.0) xs
  any_found [] = refl
  any_found (x ∷ xs) = go (p x.0) (any_found xs)
    where
      go : (b : Bool) → is_some (lookup p xs) ≡ list_any (λ y. p y.0) xs
          → is_some (cond b (Some x.1) (lookup p xs)) ≡ (b || list_any (λ y. p y.0) xs)
      go true rest = refl
      go false rest = rest

  -- an item is found exactly if a reference to it is
  pub any_copied : (xs : List (D × V)) (o : Option (Bor V)) → option_copied o ≡ lookup p xs
      → is_some o ≡ list_any (λ x. p x.0) xs
  any_copied xs None is = ap (λ r. is_some r) is ∙ any_found xs
  any_copied xs (Some v) is = ap (λ r. is_some r) is ∙ any_found xs

module _ {V Q D : Type 0} (same : D → D → Bool) (d : D) (items : V → List Q) where
  -- the configs of the membership that is found
  pub held_found : (xs : List (D × V)) (v : V) → Some v ≡ lookup (λ c. same c d) xs
      → items v ≡ held_by same d (map (λ p. (p.0, items p.1)) xs)
  held_found [] v is = absurd (cc)
  held_found (x ∷ xs) v is = go (same x.0 d) (held_found xs v) is
    where
      go : (b : Bool)
          → (Some v ≡ lookup (λ c. same c d) xs → items v ≡ held_by same d (map (λ p. (p.0, items p.1)) xs))
          → Some v ≡ cond b (Some x.1) (lookup (λ c. same c d) xs)
          → items v ≡ (if b then items x.1 else held_by same d (map (λ p. (p.0, items p.1)) xs))
      go true rest h = ap (λ o. items (unwrap_or o v)) h
      go false rest h = rest h

  -- if none is found, there are no configs
  pub held_nowhere : (xs : List (D × V)) → None ≡ lookup (λ c. same c d) xs
      → [] ≡ held_by same d (map (λ p. (p.0, items p.1)) xs)
  held_nowhere [] is = refl
  held_nowhere (x ∷ xs) is = go (same x.0 d) (held_nowhere xs) is
    where
      go : (b : Bool)
          → (None ≡ lookup (λ c. same c d) xs → [] ≡ held_by same d (map (λ p. (p.0, items p.1)) xs))
          → None ≡ cond b (Some x.1) (lookup (λ c. same c d) xs)
          → [] ≡ (if b then items x.1 else held_by same d (map (λ p. (p.0, items p.1)) xs))
      go true rest h = absurd (cc)
      go false rest h = rest h
