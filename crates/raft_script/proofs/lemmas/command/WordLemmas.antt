-- The words of a line, taken one by one.
use Rattle.std.specs.Prelude.{◌≡◌, ◌==◌, ◌<◌, ◌≤◌, ◌+◌, ◌-◌, ℕ, Bool, true, false, cond, List, [], ◌∷◌, filter, length, not, Option, Some, None, unwrap_or}
use Rattle.std.specs.List.{slice_split, onto_first, position_or_len}
use Rattle.std.proofs.Common.{refl, sym, ap, ◌∙◌, take, drop, arith, get_or, ltb, length-drop}
use Rattle.std.proofs.lemmas.Bool.{ltb-true, ltb-false}
use Rattle.std.proofs.lemmas.List.{take_all, drop_all, get_or-drop}
use Rattle.std.proofs.lemmas.List.Sums.{passes_at_first, prefix_len-le-length}
use Rattle.std.proofs.Math.Numerals.{one-add}
use Rattle.raft_script.specs.Line.{has_bytes, words}

-- the parts without the empty ones
abbrev filled : List (List ℕ) → List (List ℕ)
filled = filter has_bytes

abbrev parts : List ℕ → List (List ℕ)
parts = slice_split (λ byte. byte == 32)

-- a space at the beginning makes no word
space_first : (x : ℕ) (xs : List ℕ) → (x == 32) ≡ true → words (x ∷ xs) ≡ words xs
space_first x xs is = ap (λ (b : Bool). filled (cond b ([] ∷ parts xs) (onto_first x (parts xs)))) is

-- one more byte at the beginning of a word
longer : (x y : ℕ) (word : List ℕ) (rest ps : List (List ℕ)) → filled (onto_first y ps) ≡ (y ∷ word) ∷ rest
    → filled (onto_first x (onto_first y ps)) ≡ (x ∷ y ∷ word) ∷ rest
longer x y word rest [] is = cc
longer x y word rest (p ∷ ps) is = cc

-- the number of bytes before the first space
abbrev before : List ℕ → ℕ
before = position_or_len (λ b. b == 32)

opened : (x : ℕ) (xs : List ℕ) → (x == 32) ≡ false → words (x ∷ xs) ≡ filled (onto_first x (parts xs))
opened x xs other = ap (λ (b : Bool). filled (cond b ([] ∷ parts xs) (onto_first x (parts xs)))) other

-- of a word that goes on
within : (x y : ℕ) (ys : List ℕ) → (y == 32) ≡ false → words (y ∷ ys) ≡ (y ∷ take (before ys) ys) ∷ words (drop (before ys) ys)
    → filled (onto_first x (onto_first y (parts ys))) ≡ (x ∷ take (1 + before ys) (y ∷ ys)) ∷ words (drop (1 + before ys) (y ∷ ys))
within x y ys other next = rw one-add (longer x y (take (before ys) ys) (words (drop (before ys) ys)) (parts ys)
    (sym (opened y ys other) ∙ next))

by_test : (x y : ℕ) (ys : List ℕ) (b : Bool) → (y == 32) ≡ b
    → (b ≡ false → words (y ∷ ys) ≡ (y ∷ take (before ys) ys) ∷ words (drop (before ys) ys))
    → filled (onto_first x (cond b ([] ∷ parts ys) (onto_first y (parts ys))))
    ≡ (x ∷ take (cond (not b) (1 + before ys) 0) (y ∷ ys)) ∷ words (drop (cond (not b) (1 + before ys) 0) (y ∷ ys))
by_test x y ys true is next = ap (λ rest. (x ∷ []) ∷ rest) (sym (space_first y ys is))
by_test x y ys false is next = within x y ys is (next refl)

-- the first word of bytes that begin with it, and the words after it
first_word : (x : ℕ) (xs : List ℕ) → (x == 32) ≡ false → words (x ∷ xs) ≡ (x ∷ take (before xs) xs) ∷ words (drop (before xs) xs)
first_word x [] other = opened x [] other
first_word x (y ∷ ys) other = opened x (y ∷ ys) other ∙ by_test x y ys (y == 32) refl (λ is. first_word y ys is)

-- the number of bytes before the first word
abbrev spaces : List ℕ → ℕ
spaces = position_or_len (λ b. not (b == 32))

skip_by : (x : ℕ) (xs : List ℕ) (b : Bool) → (x == 32) ≡ b → words (drop (spaces xs) xs) ≡ words xs
    → words (drop (cond (not (not b)) (1 + spaces xs) 0) (x ∷ xs)) ≡ words (x ∷ xs)
skip_by x xs true is next = rw one-add (next ∙ sym (space_first x xs is))
skip_by x xs false is next = refl

-- spaces at the beginning make no words
pub skipped : (line : List ℕ) → words (drop (spaces line) line) ≡ words line
skipped [] = refl
skipped (x ∷ xs) = skip_by x xs (x == 32) refl (skipped xs)

take_by : (x : ℕ) (xs : List ℕ) (b : Bool) → (x == 32) ≡ b → b ≡ false
    → words (x ∷ xs) ≡ take (cond (not b) (1 + before xs) 0) (x ∷ xs) ∷ words (drop (cond (not b) (1 + before xs) 0) (x ∷ xs))
take_by x xs false is other = rw one-add (first_word x xs is)
take_by x xs true is other = cc

-- bytes that begin with no space have their first word up to the next one
pub taken : (from : List ℕ) → 0 < length from → (get_or from 0 0 == 32) ≡ false
    → words from ≡ take (before from) from ∷ words (drop (before from) from)
taken [] some other = absurd (omega arith)
taken (x ∷ xs) some other = take_by x xs (x == 32) refl other

not_so : (b : Bool) → not b ≡ true → b ≡ false
not_so false is = refl
not_so true is = cc

found : (n m : ℕ) (b : Bool) (start : ℕ) → ltb n m ≡ b → cond b (Some n) None ≡ Some start → (start ≡ n) × (n < m)
found n m true start is e = (cc, ltb-true n m is)
found n m false start is e = cc

missed : (n m : ℕ) (b : Bool) → ltb n m ≡ b → cond b (Some n) None ≡ None → m ≤ n
missed n m true is e = cc
missed n m false is e = ltb-false n m is

up_to : (n m : ℕ) (b : Bool) → ltb n m ≡ b → n ≤ m → unwrap_or (cond b (Some n) None) m ≡ n
up_to n m true is at_most = refl
up_to n m false is at_most = let least : m ≤ n = ltb-false n m is in omega arith

-- a line that has nothing but spaces has no words
pub no_words : (line : List ℕ) (place : Option ℕ) → place ≡ cond (ltb (spaces line) (length line)) (Some (spaces line)) None → place ≡ None
    → words line ≡ []
no_words line place is none =
    let past : length line ≤ spaces line = missed (spaces line) (length line) _ refl (sym is ∙ none) in
    sym (skipped line) ∙ ap words (drop_all (spaces line) line past)

-- the first word of a line, from where it begins and how long it is
pub one_word : (line from : List ℕ) (place : Option ℕ) (start : ℕ) (size : Option ℕ) (n : ℕ)
    → place ≡ cond (ltb (spaces line) (length line)) (Some (spaces line)) None → place ≡ Some start
    → from ≡ take (length line - start) (drop start line) → size ≡ cond (ltb (before from) (length from)) (Some (before from)) None
    → n ≡ unwrap_or size (length from) → words line ≡ take n from ∷ words (take (length from - n) (drop n from))
one_word line from place start size n is some whole sized end =
    let at = found (spaces line) (length line) _ start refl (sym is ∙ some) in
    let from_start : from ≡ drop start line =
    whole ∙ take_all (length line - start) (drop start line) (omega (arith, length-drop {A = ℕ})) in
    let up : n ≡ before from = end ∙ ap (λ o. unwrap_or o (length from)) sized
    ∙ up_to (before from) (length from) _ refl (prefix_len-le-length (λ b. not (b == 32)) from) in
    let same : words line ≡ words from = sym (skipped line) ∙ ap (λ k. words (drop k line)) (sym at.0) ∙ ap words (sym from_start) in
    let some_left : 0 < length from = omega (arith, ap length from_start, length-drop start line) in
    let first : get_or from 0 0 ≡ get_or line (spaces line) 0 =
    ap (λ l. get_or l 0 0) from_start ∙ get_or-drop start line 0 0 ∙ ap (λ k. get_or line k 0) (omega (arith, at.0)) in
    let no_space : (get_or from 0 0 == 32) ≡ false =
    ap (λ b. b == 32) first ∙ not_so _ (passes_at_first (λ b. not (b == 32)) line 0 (omega (arith, at.0, at.1))) in
    same
    ∙ taken from some_left no_space
    ∙ ap (λ k. take k from ∷ words (drop k from)) (sym up)
    ∙ ap (λ rest. take n from ∷ words rest) (sym (take_all (length from - n) (drop n from) (omega (arith, length-drop n from))))
