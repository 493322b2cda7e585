-- Numbers that are read from the left, a digit at a time.
use Rattle.std.specs.Prelude.{◌≡◌, ◌<◌, ◌≤◌, ◌+◌, ◌*◌, ◌^◌, ℕ, List, Option, None, SomeIff, length, take}
use Rattle.std.specs.Char.{digit_value}
use Rattle.std.specs.Str.Parse.{AllDigits, IsNumeral, digits_value}
use Rattle.std.proofs.Common.{arith, subst, sym, ap, ◌∙◌, get_or}
use Rattle.std.proofs.lemmas.List.{take_all}
use Rattle.std.proofs.lemmas.Int.Digits.{digits_more, digits_value_more}
use Rattle.std.proofs.lemmas.Str.{digit_value_digit}
use Rattle.std.proofs.lemmas.Str.Parse.{digit_at, digits_value-take-le}

pub none_where_not : {P : Type 0} (v : ℕ) (r : Option ℕ) → r ≡ None → ¬ P → SomeIff r P v
none_where_not {P} v r none h = subst (λ (o : Option ℕ). SomeIff o P v) (sym none) h

module _ (word : List ℕ) (i : ℕ) (within : i < length word) (b : ℕ) (byte : b ≡ get_or word i 0) where
  -- a byte that is no digit
  pub no_digit : ¬ (digit_value b < 10) → ¬ (IsNumeral 10 word × (digits_value 10 word < 2 ^ 64))
  no_digit above (numeral, fits) =
      let range = digit_at word i numeral.1 within in
      let low : 48 ≤ get_or word i 0 = range.0 in
      let high : get_or word i 0 ≤ 57 = range.1 in
      let value : digit_value b + 48 ≡ get_or word i 0 = ap (λ n. digit_value n + 48) byte ∙ digit_value_digit _ range in
      above (omega arith)

  module _ (n : ℕ) (so_far : n ≡ digits_value 10 (take i word)) where
    -- digits whose number does not fit
    pub too_great : ¬ (n * 10 + digit_value b < 2 ^ 64) → ¬ (IsNumeral 10 word × (digits_value 10 word < 2 ^ 64))
    too_great above (numeral, fits) =
        let more : digits_value 10 (take (i + 1) word) ≡ n * 10 + digit_value b =
        digits_value_more 10 word i within ∙ ap (λ m. m * 10 + digit_value (get_or word i 0)) (sym so_far)
        ∙ ap (λ c. n * 10 + digit_value c) (sym byte) in
        let at_most : digits_value 10 (take (i + 1) word) ≤ digits_value 10 word = digits_value-take-le 10 word (i + 1) (omega arith) in
        above (omega arith)

    pub one_more : (m : ℕ) → m ≡ n * 10 + digit_value b → m ≡ digits_value 10 (take (i + 1) word)
    one_more m is = is ∙ ap (λ c. n * 10 + digit_value c) byte ∙ ap (λ k. k * 10 + digit_value (get_or word i 0)) so_far
        ∙ sym (digits_value_more 10 word i within)

  pub digits_so_far : AllDigits 10 (take i word) → digit_value b < 10 → AllDigits 10 (take (i + 1) word)
  digits_so_far digits below = digits_more 10 word i within digits (subst (λ (c : ℕ). digit_value c < 10) byte below)

-- all digits are read
pub all_read : (word : List ℕ) (i n : ℕ) → length word ≤ i → 0 < length word → AllDigits 10 (take i word)
    → n ≡ digits_value 10 (take i word) → n < 2 ^ 64 → (IsNumeral 10 word × (digits_value 10 word < 2 ^ 64)) × (n ≡ digits_value 10 word)
all_read word i n done some digits value fits =
    let whole : take i word ≡ word = take_all i word done in
    let is : n ≡ digits_value 10 word = value ∙ ap (digits_value 10) whole in
    (((some, subst (AllDigits 10) whole digits), subst (λ (m : ℕ). m < 2 ^ 64) is fits), is)
