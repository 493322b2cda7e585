-- Lists of numbers that are read part by part.
use Rattle.std.specs.Prelude.{◌≡◌, ◌==◌, ◌<◌, ◌||◌, ℕ, Bool, true, false, cond, List, [], ◌∷◌, ◌++◌, Option, Some, None, SomeIff, Result, Ok, Err, OnOk, is_ok, if◌then◌else◌, length, codes, nat_eq}
use Rattle.std.specs.Cmp.{unsigned_tied}
use Rattle.std.specs.Cmp.Lexicographic.{pointwise}
use Rattle.std.specs.List.{All, AllZip, list_any, slice_split}
use Rattle.std.specs.Ordering.{eq_by_cmp, nat_cmp}
use Rattle.std.specs.Str.Parse.{digits_value}
use Rattle.std.proofs.Common.{refl, sym, ap, ◌∙◌, subst, get_or}
use Rattle.std.proofs.lemmas.Bool.{true≢false}
use Rattle.std.proofs.lemmas.List.Folds.{list_any-append}
use Rattle.raft_script.specs.Word.{IsNumber, lists, parts}
use Rattle.std.proofs.lemmas.Slice.Zip.{all_zipped_more}

either_way : (a b : Bool) → cond a true b ≡ (b || (a || false))
either_way true true = refl
either_way true false = refl
either_way false true = refl
either_way false false = refl

-- one more number in a set, and one more word
pub one_more_number : (added n : ℕ) (was now : Bool) (words : List (List ℕ)) (word : List ℕ)
    → now ≡ cond (eq_by_cmp nat_cmp added n) true was → was ≡ list_any (λ part. digits_value 10 part == n) words
    → added ≡ digits_value 10 word → now ≡ list_any (λ part. digits_value 10 part == n) (words ++ word ∷ [])
one_more_number added n was now words word updated before is =
    updated
    ∙ (λ i. cond ((unsigned_tied added n ∙ ap (λ m. m == n) is) i) true (before i))
    ∙ either_way (digits_value 10 word == n) (list_any (λ part. digits_value 10 part == n) words)
    ∙ sym (list_any-append (λ part. digits_value 10 part == n) words (word ∷ []))

-- one more pair, where both lists are known by equations
pub zip_pushed : {A B : Type 0} (R : A → B → Type 0) (xs new : List A) (ys more : List B) (x : A) (y : B) → new ≡ xs ++ x ∷ []
    → more ≡ ys ++ y ∷ [] → AllZip R xs ys → R x y → AllZip R new more
zip_pushed {A} R xs new ys more x y pushed read all last =
    subst (λ (l : List A). AllZip R l more) (sym pushed) (subst (AllZip R (xs ++ x ∷ [])) (sym read) (all_zipped_more R xs ys x y all last))

-- of a word that isn't a dash
pub parts_of_other : (word : List ℕ) → false ≡ pointwise nat_eq word (codes "-") → parts word ≡ slice_split (λ byte. byte == 44) word
parts_of_other word other = ap (λ (b : Bool). if b then [] else slice_split (λ byte. byte == 44) word) (sym other)

-- of a word that isn't `none`
pub lists_of_other : (word : List ℕ) → false ≡ pointwise nat_eq word (codes "none") → lists word ≡ slice_split (λ byte. byte == 47) word
lists_of_other word other = ap (λ (b : Bool). if b then [] else slice_split (λ byte. byte == 47) word) (sym other)

-- if one word lacks something, not all have it
pub not_all : (P : List ℕ → Type 0) (all : List (List ℕ)) (i : ℕ) (word : List ℕ) → i < length all → word ≡ get_or all i word → ¬ (P word)
    → ¬ (All P all)
not_all P all i word within is lacks have = lacks (subst P (sym is) (have i word within))

-- a word from which no number was read is no number
pub no_number : (word : List ℕ) (n : Option ℕ) → SomeIff n (IsNumber word) (digits_value 10 word) → n ≡ None → ¬ (IsNumber word)
no_number word n says none = subst (λ (o : Option ℕ). SomeIff o (IsNumber word) (digits_value 10 word)) none says

-- a word from which a number was read
pub number_of : (word : List ℕ) (n : Option ℕ) (m : ℕ) → SomeIff n (IsNumber word) (digits_value 10 word) → n ≡ Some m
    → IsNumber word × (m ≡ digits_value 10 word)
number_of word n m says some = subst (λ (o : Option ℕ). SomeIff o (IsNumber word) (digits_value 10 word)) some says

-- what holds if a call returned a value, known from its result with another error type
pub where_ok : {T E F : Type 0} (r : Result T E) (m : Result T F) (x : T) (Q : Type 0) → is_ok m ≡ is_ok r → m ≡ Ok x → OnOk r Q → Q
where_ok (Ok y) m x Q same is q = q
where_ok (Err e) m x Q same is q = absurd (true≢false (sym (ap is_ok is) ∙ same))
