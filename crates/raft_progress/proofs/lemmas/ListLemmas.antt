-- Tests that hold together, what is inside a `Some`, and what holds of lists and of each of their elements.
use Rattle.std.specs.Prelude.{◌≡◌, ℕ, ◌+◌, ◌<◌, ◌≤◌, Bool, true, false, ◌&&◌, List, [], ◌∷◌, ◌++◌, Some, filter, length, slice_get, take}
use Rattle.std.specs.Cmp.{IsEquivalence}
use Rattle.std.specs.List.{AllByRecursion, list_any}
use Rattle.std.specs.Set.{is_member}
use Rattle.std.proofs.Common.{ap, arith, get_or, refl, sym, suc, true≢false, zero}

pub both : (a b : Bool) → a ≡ true → b ≡ true → (a && b) ≡ true
both a b h k = λ i. h i && k i

pub of_both : (a b : Bool) → (a && b) ≡ true → (a ≡ true) × (b ≡ true)
of_both true b e = (refl, e)
of_both false b e = absurd (true≢false (sym e))

-- a position within a list has an element
pub element_at : {X : Type 0} (xs : List X) (i : ℕ) → i < length xs → (x : X) × (slice_get xs i ≡ Some x)
element_at [] i l = absurd (omega arith)
element_at (x ∷ xs) zero l = (x, refl)
element_at (x ∷ xs) (suc i) l = element_at xs i (omega arith)

-- what follows from a fact holds wherever the fact does
pub all_weaker : {X : Type 0} (P Q : X → Type 0) → ((x : X) → P x → Q x) → (xs : List X) → AllByRecursion P xs → AllByRecursion Q xs
all_weaker P Q h [] a = tt
all_weaker P Q h (x ∷ xs) a = (h x a.0, all_weaker P Q h xs a.1)

-- a search from the other side finds the same
pub member_flipped : {ID : Type 0} {eq : ID → ID → Bool} → IsEquivalence eq → (xs : List ID) (k : ID)
    → list_any (λ y. eq y k) xs ≡ is_member eq xs k
member_flipped laws [] k = refl
member_flipped laws (x ∷ xs) k = rw (laws.symm x k, member_flipped laws xs k) refl

-- the value inside an option
pub some_inside : {A : Type 0} (x y : A) → Some x ≡ Some y → x ≡ y
some_inside x y h = cc

pub filter_none : {X : Type 0} (p : X → Bool) (xs : List X) → AllByRecursion (λ x. p x ≡ false) xs → filter p xs ≡ []
filter_none p [] a = refl
filter_none p (x ∷ xs) a = rw (a.0, filter_none p xs a.1) refl

pub all_get : {X : Type 0} (R : X → Type 0) (xs : List X) (i : ℕ) (d : X) → i < length xs → AllByRecursion R xs → R (get_or xs i d)
all_get R [] i d l a = absurd (omega arith)
all_get R (x ∷ xs) zero d l a = a.0
all_get R (x ∷ xs) (suc i) d l a = all_get R xs i d (omega arith) a.1

-- all of two lists
pub all_first : {X : Type 0} (P : X → Type 0) (xs ys : List X) → AllByRecursion P (xs ++ ys) → AllByRecursion P xs
all_first P [] ys a = tt
all_first P (x ∷ xs) ys a = (a.0, all_first P xs ys a.1)

pub all_last : {X : Type 0} (P : X → Type 0) (xs ys : List X) → AllByRecursion P (xs ++ ys) → AllByRecursion P ys
all_last P [] ys a = a
all_last P (x ∷ xs) ys a = all_last P xs ys a.1

pub all_both : {X : Type 0} (P : X → Type 0) (xs ys : List X) → AllByRecursion P xs → AllByRecursion P ys → AllByRecursion P (xs ++ ys)
all_both P [] ys a b = b
all_both P (x ∷ xs) ys a b = (a.0, all_both P xs ys a.1 b)

pub take_add : {X : Type 0} (xs ys : List X) (k n : ℕ) → n ≡ length xs + k → take n (xs ++ ys) ≡ xs ++ take k ys
take_add [] ys k n e = let z : n ≡ k = omega arith in ap (λ m. take m ys) z
take_add (x ∷ xs) ys k zero e = absurd (omega arith)
take_add (x ∷ xs) ys k (suc n) e = ap (λ zs. x ∷ zs) (take_add xs ys k n (omega arith))

pub length_take_le : {X : Type 0} (xs : List X) (n : ℕ) → length (take n xs) ≤ n
length_take_le xs zero = omega arith
length_take_le [] (suc n) = omega arith
length_take_le (x ∷ xs) (suc n) = let h = length_take_le xs n in omega arith
