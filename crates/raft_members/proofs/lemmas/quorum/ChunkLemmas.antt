-- A test of a list, made of its chunks.
use Rattle.std.specs.Prelude.{◌≡◌, ℕ, zero, suc, ◌+◌, ◌*◌, ◌≤◌, Bool, true, false, ◌||◌, List, [], ◌∷◌, drop, take}
use Rattle.std.specs.List.{list_any}
use Rattle.std.specs.Simd.{first_chunks}
use Rattle.std.proofs.Common.{arith, sym, ap, refl, ◌∙◌}
use Rattle.std.proofs.Math.Bool.{or_assoc}
use Rattle.std.proofs.Math.Nat.{suc-mul, zero-mul}
use Rattle.std.proofs.lemmas.List.{drop-drop, take-append-drop}
use Rattle.std.proofs.lemmas.List.Folds.{list_any-append}

module _ {X : Type 0} (p : X → Bool) (n : ℕ) where
  -- what comes after the chunks, one chunk on
  drop-chunk : (k : ℕ) (xs : List X) → drop (suc k * n) xs ≡ drop (k * n) (drop n xs)
  drop-chunk k xs =
      let e : suc k * n ≡ n + k * n = omega (arith, suc-mul k n) in
      ap (λ m. drop m xs) e ∙ sym (drop-drop (k * n) n xs)

  -- an element passes if one in a chunk does, or one after the chunks
  list_any-first_chunks : (k : ℕ) (xs : List X)
      → (list_any (list_any p) (first_chunks n k xs) || list_any p (drop (k * n) xs)) ≡ list_any p xs
  list_any-first_chunks zero xs = ap (λ m. list_any p (drop m xs)) (zero-mul n)
  list_any-first_chunks (suc k) xs =
      or_assoc (list_any p (take n xs)) (list_any (list_any p) (first_chunks n k (drop n xs))) (list_any p (drop (suc k * n) xs))
      ∙ ap (λ ys. list_any p (take n xs) || (list_any (list_any p) (first_chunks n k (drop n xs)) || list_any p ys)) (drop-chunk k xs)
      ∙ ap (λ b. list_any p (take n xs) || b) (list_any-first_chunks k (drop n xs))
      ∙ sym (list_any-append p (take n xs) (drop n xs))
      ∙ ap (list_any p) (take-append-drop n xs)

  -- from the results for the chunks and for the rest, the result for all
  pub list_any-from_chunks : (k : ℕ) (xs : List X) (chunks : List (List X)) (rest : List X) (b : Bool) → chunks ≡ first_chunks n k xs
      → rest ≡ drop (k * n) xs → list_any (list_any p) chunks ≡ b → (b || list_any p rest) ≡ list_any p xs
  list_any-from_chunks k xs chunks rest b c r e =
      ap (λ a. a || list_any p rest) (sym e ∙ ap (list_any (list_any p)) c)
      ∙ ap (λ ys. list_any (list_any p) (first_chunks n k xs) || list_any p ys) r
      ∙ list_any-first_chunks k xs

module _ {X : Type 0} (p : X → Bool) where
  -- the first n elements, and the elements after the first k, are all
  pub list_any-ends : (n k : ℕ) (xs : List X) → k ≤ n → (list_any p (take n xs) || list_any p (drop k xs)) ≡ list_any p xs
  list_any-ends zero zero xs l = refl
  list_any-ends zero (suc k) xs l = absurd (omega arith)
  list_any-ends (suc n) zero [] l = refl
  list_any-ends (suc n) (suc k) [] l = refl
  list_any-ends (suc n) zero (x ∷ xs) l =
      elim (p x) as (λ b. ((b || list_any p (take n xs)) || (b || list_any p xs)) ≡ (b || list_any p xs))
      [ true ↦ refl | false ↦ list_any-ends n zero xs (omega arith) ]
  list_any-ends (suc n) (suc k) (x ∷ xs) l =
      elim (p x) as (λ b. ((b || list_any p (take n xs)) || list_any p (drop k xs)) ≡ (b || list_any p xs))
      [ true ↦ refl | false ↦ list_any-ends n k xs (omega arith) ]
