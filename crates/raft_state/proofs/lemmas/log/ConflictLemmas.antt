-- A search along a list up to the first value that fails a test: its position is the length of the
-- prefix that passes.
use Rattle.std.proofs.Common.{◌≡◌, ℕ, suc, ◌+◌, ◌<◌, ◌≤◌, Bool, true, false, List, [], ◌∷◌, IfSome, IsTrue, if◌then◌else◌, length, drop, take, get_or, refl, sym, subst, ap, ◌∙◌, arith}
use Rattle.std.specs.Prelude.{slice_get}
use Rattle.std.specs.List.{list_all, prefix_len}
use Rattle.std.proofs.lemmas.List.Sums.{prefix_len-drop_all, prefix_len-drop_no, prefix_len-drop_yes, prefix_len-le-length}

module _ {A : Type 0} (test : A → Bool) (xs : List A) (i : ℕ) (x : A) (inside : i < length xs) (is : x ≡ get_or xs i x) where
  -- the search stops here
  pub fails_here : test x ≡ false → prefix_len test xs ≡ i + prefix_len test (drop i xs) → i ≡ prefix_len test xs
  fails_here fails before = let here = prefix_len-drop_no test xs i x inside (ap test (sym is) ∙ fails) in omega arith

  -- the search goes on
  pub passes_here : test x ≡ true → prefix_len test xs ≡ i + prefix_len test (drop i xs)
      → prefix_len test xs ≡ (i + 1) + prefix_len test (drop (i + 1) xs)
  passes_here passes before = let here = prefix_len-drop_yes test xs i x inside (ap test (sym is) ∙ passes) in omega arith

module _ {A : Type 0} (test : A → Bool) where
  -- the values of the prefix pass
  prefix_passes : (xs : List A) → list_all test (take (prefix_len test xs) xs) ≡ true
  prefix_passes [] = refl
  prefix_passes (x ∷ xs) = by (test x) refl (prefix_passes xs)
    where
      by : (t : Bool) → test x ≡ t → list_all test (take (prefix_len test xs) xs) ≡ true
          → list_all test (take (if t then 1 + prefix_len test xs else 0) (x ∷ xs)) ≡ true
      by true is h =
          let next : 1 + prefix_len test xs ≡ suc (prefix_len test xs) = omega arith in
          subst (λ (n : ℕ). list_all test (take n (x ∷ xs)) ≡ true) (sym next) (rw is h)
      by false is h = refl

  -- and the one after it does not
  prefix_stops : (xs : List A) → IfSome (slice_get xs (prefix_len test xs)) (λ x. test x ≡ false)
  prefix_stops [] = tt
  prefix_stops (x ∷ xs) = by (test x) refl (prefix_stops xs)
    where
      by : (t : Bool) → test x ≡ t → IfSome (slice_get xs (prefix_len test xs)) (λ y. test y ≡ false)
          → IfSome (slice_get (x ∷ xs) (if t then 1 + prefix_len test xs else 0)) (λ y. test y ≡ false)
      by true is h =
          let next : 1 + prefix_len test xs ≡ suc (prefix_len test xs) = omega arith in
          subst (λ (n : ℕ). IfSome (slice_get (x ∷ xs) n) (λ y. test y ≡ false)) (sym next) h
      by false is h = is

  -- a search to the end
  pub passes_all : (xs : List A) (i : ℕ) → length xs ≤ i → prefix_len test xs ≡ i + prefix_len test (drop i xs)
      → length xs ≡ prefix_len test xs
  passes_all xs i end walked = let none = prefix_len-drop_all test xs i end in let le = prefix_len-le-length test xs in omega arith

  pub place_within : (xs : List A) (i : ℕ) → i ≡ prefix_len test xs → i ≤ length xs
  place_within xs i is = rw is (prefix_len-le-length test xs)

  pub place_passes : (xs : List A) (i : ℕ) → i ≡ prefix_len test xs → IsTrue (list_all test (take i xs))
  place_passes xs i is = rw is (prefix_passes xs)

  pub place_fails : (xs : List A) (i : ℕ) → i ≡ prefix_len test xs → IfSome (slice_get xs i) (λ x. test x ≡ false)
  place_fails xs i is = rw is (prefix_stops xs)
