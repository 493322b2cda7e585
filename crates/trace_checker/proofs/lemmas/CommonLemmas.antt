-- The longest common prefix of two logs that begin with others.
use Rattle.std.specs.Prelude.{◌≡◌, ◌⊎◌, ◌+◌, ◌-◌, ◌<◌, ◌≤◌, ℕ, zero, suc, Bool, true, false, min, if◌then◌else◌, List, [], ◌∷◌, ◌++◌, length, take, drop, get_or}
use Rattle.std.proofs.Common.{refl, sym, ap, ◌∙◌, inl, inr, arith}
use Rattle.std.proofs.lemmas.Bool.{cases_lt}
use Rattle.std.proofs.lemmas.List.{append_assoc, drop_all, drop_at, drop_more, length_push, length-take-le, take-append-drop, take_at}
use Rattle.trace_checker.specs.Inner.CheckerState.{common_len}
use Rattle.trace_checker.specs.Inner.Logs.{IsExact}

module _ {E : Type 0} (S : E → E → Bool) where
  pub at_start : (a b p q : List E) (n : ℕ) → n ≡ min (length a) (length b) → p ≡ take n a
      → q ≡ take n b → (length p ≡ n) × (length q ≡ n)
  at_start a b p q n is_n is_p is_q = (
    ap length is_p ∙ length-take-le n a (omega (arith, is_n)),
    ap length is_q ∙ length-take-le n b (omega (arith, is_n)),
  )

  nil_right : (a : List E) → common_len S a [] ≡ 0
  nil_right [] = refl
  nil_right (x ∷ a) = refl

  -- nothing is left of a list or of the rest of another
  pub none_left : (a b : List E) (keep n : ℕ) → n ≡ min (length a - keep) (length b)
      → common_len S (drop (keep + n) a) (drop n b) ≡ 0
  none_left a b keep n is = go (cases_lt n (length b))
    where
      go : (n < length b) ⊎ (length b ≤ n) → common_len S (drop (keep + n) a) (drop n b) ≡ 0
      go (inl h) =
          let past : length a ≤ keep + n = omega (arith, is, h) in
          ap (λ l. common_len S l (drop n b)) (drop_all (keep + n) a past)
      go (inr h) =
          ap (λ l. common_len S (drop (keep + n) a) l) (drop_all n b h) ∙ nil_right (drop (keep + n) a)

  -- one element more, from the end
  pub one_before : (a b p : List E) (keep i : ℕ) (e x : E) (c : Bool) → take (keep + i) a ≡ p ++ e ∷ []
      → 0 < i → keep + i ≤ length a → i ≤ length b → x ≡ get_or b (i - 1) x → S e x ≡ c
      → (p ≡ take (keep + (i - 1)) a)
      × (common_len S (drop (keep + (i - 1)) a) (drop (i - 1) b)
      ≡ (if c then suc (common_len S (drop (keep + i) a) (drop i b)) else 0))
  one_before a b p keep i e x c is pos in_a in_b read same =
      let whole : a ≡ p ++ (e ∷ drop (keep + i) a) =
      sym (take-append-drop (keep + i) a) ∙ ap (λ l. l ++ drop (keep + i) a) is
      ∙ append_assoc p (e ∷ []) (drop (keep + i) a) in
      let len : length p ≡ keep + (i - 1) =
      omega (arith, ap length is, length_push p e, length-take-le (keep + i) a in_a, pos) in
      let rest_a : drop (keep + (i - 1)) a ≡ e ∷ drop (keep + i) a =
      ap (drop (keep + (i - 1))) whole ∙ drop_at p (e ∷ drop (keep + i) a) (keep + (i - 1)) len in
      let next : i - 1 + 1 ≡ i = omega (arith, pos) in
      let rest_b : drop (i - 1) b ≡ x ∷ drop i b =
      drop_more b (i - 1) x (omega (arith, pos, in_b))
      ∙ (λ q. sym read q ∷ drop (next q) b) in (
        sym (ap (take (keep + (i - 1))) whole ∙ take_at p (e ∷ drop (keep + i) a) (keep + (i - 1)) len),
        (λ q. common_len S (rest_a q) (rest_b q))
            ∙ ap (λ d. if d then suc (common_len S (drop (keep + i) a) (drop i b)) else 0) same,
      )

  -- what is left of a list is not empty before its end
  pub not_nil : (a : List E) (n : ℕ) → take n a ≡ [] → 0 < n → n ≤ length a → ⊥
  not_nil a n e pos within = omega (arith, ap length e, length-take-le n a within, pos)

  pub common_take : (n : ℕ) (a b : List E)
      → common_len S (take n a) (take n b) ≡ min n (common_len S a b)
  common_take zero a b = omega arith
  common_take (suc n) [] b = omega arith
  common_take (suc n) (x ∷ a) [] = omega arith
  common_take (suc n) (x ∷ a) (y ∷ b) = go (S x y) (common_take n a b)
    where
      go : (c : Bool) → common_len S (take n a) (take n b) ≡ min n (common_len S a b)
          → (if c then suc (common_len S (take n a) (take n b)) else 0)
          ≡ min (suc n) (if c then suc (common_len S a b) else 0)
      go true h = omega (arith, h)
      go false h = omega arith

  pub common_in_a : (a b : List E) → common_len S a b ≤ length a
  common_in_a [] b = omega arith
  common_in_a (x ∷ a) [] = omega arith
  common_in_a (x ∷ a) (y ∷ b) = go (S x y) (common_in_a a b)
    where
      go : (c : Bool) → common_len S a b ≤ length a
          → (if c then suc (common_len S a b) else 0) ≤ suc (length a)
      go true h = omega (arith, h)
      go false h = omega arith

  pub common_in_b : (a b : List E) → common_len S a b ≤ length b
  common_in_b [] b = omega arith
  common_in_b (x ∷ a) [] = omega arith
  common_in_b (x ∷ a) (y ∷ b) = go (S x y) (common_in_b a b)
    where
      go : (c : Bool) → common_len S a b ≤ length b
          → (if c then suc (common_len S a b) else 0) ≤ suc (length b)
      go true h = omega (arith, h)
      go false h = omega arith

  module _ (exact : IsExact S) where
    pub common_same : (a : List E) → common_len S a a ≡ length a
    common_same [] = refl
    common_same (x ∷ a) = rw (exact.itself x, common_same a) refl

    full : (p q : List E) → length p ≡ length q → common_len S p q ≡ length p → p ≡ q
    full [] [] len e = refl
    full [] (y ∷ q) len e = absurd (omega (arith, len))
    full (x ∷ p) [] len e = absurd (omega (arith, len))
    full (x ∷ p) (y ∷ q) len e = go (S x y) refl e (λ h. full p q (omega (arith, len)) h)
      where
        go : (c : Bool) → S x y ≡ c → (if c then suc (common_len S p q) else 0) ≡ suc (length p)
            → (common_len S p q ≡ length p → p ≡ q) → x ∷ p ≡ y ∷ q
        go true s h rest =
            let hd : x ≡ y = exact.right x y s in
            let tl : p ≡ q = rest (omega (arith, h)) in
            λ i. hd i ∷ tl i
        go false s h rest = absurd (omega (arith, h))

    pub differ : (a b : List E) → length a ≡ length b → (a ≡ b → ⊥) → common_len S a b < length a
    differ a b len apart = go (cases_lt (common_len S a b) (length a))
      where
        go : (common_len S a b < length a) ⊎ (length a ≤ common_len S a b)
            → common_len S a b < length a
        go (inl h) = h
        go (inr h) =
            let e : common_len S a b ≡ length a = omega (arith, h, common_in_a a b) in
            absurd (apart (full a b len e))

    -- two lists have as much in common as shorter ones with which they begin, if these differ
    pub at_jumps : (a b p q : List E) → p ≡ take (length p) a → q ≡ take (length q) b
        → length p ≡ length q → (p ≡ q → ⊥) → common_len S p q ≡ common_len S a b
    at_jumps a b p q is_p is_q len apart =
        let to_q : q ≡ take (length p) b = is_q ∙ ap (λ m. take m b) (sym len) in
        let taken : common_len S p q ≡ common_len S (take (length p) a) (take (length p) b) =
        (λ i. common_len S (is_p i) (to_q i)) in
        let least : common_len S (take (length p) a) (take (length p) b) ≡ min (length p) (common_len S a b) =
        common_take (length p) a b in
        let less : common_len S p q < length p = differ p q len apart in
        omega (arith, taken, least, less)

    -- two lists of one length that differ have as much in common without their last elements
    pub at_parents : (a b p q : List E) (x y : E) → a ≡ p ++ x ∷ [] → b ≡ q ++ y ∷ []
        → length a ≡ length b → (a ≡ b → ⊥) → common_len S p q ≡ common_len S a b
    at_parents a b p q x y is_a is_b len apart =
        let len_a : length a ≡ length p + 1 = ap length is_a ∙ length_push p x in
        let len_b : length b ≡ length q + 1 = ap length is_b ∙ length_push q y in
        let same : length q ≡ length p = omega (arith, len_a, len_b, len) in
        let to_p : p ≡ take (length p) a = sym (ap (take (length p)) is_a ∙ take_at p (x ∷ []) (length p) refl) in
        let to_q : q ≡ take (length p) b = sym (ap (take (length p)) is_b ∙ take_at q (y ∷ []) (length p) same) in
        let taken : common_len S p q ≡ common_len S (take (length p) a) (take (length p) b) =
        (λ i. common_len S (to_p i) (to_q i)) in
        let least : common_len S (take (length p) a) (take (length p) b) ≡ min (length p) (common_len S a b) =
        common_take (length p) a b in
        let less : common_len S a b < length a = differ a b len apart in
        omega (arith, taken, least, less, len_a)

    -- the common prefix of two lists is that of their first elements up to the shorter's length
    pub at_first : (a b p q : List E) (n : ℕ) → n ≡ min (length a) (length b) → p ≡ take n a
        → q ≡ take n b → common_len S p q ≡ common_len S a b
    at_first a b p q n is_n is_p is_q =
        let taken : common_len S p q ≡ common_len S (take n a) (take n b) = (λ i. common_len S (is_p i) (is_q i)) in
        let least : common_len S (take n a) (take n b) ≡ min n (common_len S a b) = common_take n a b in
        omega (arith, taken, least, is_n, common_in_a a b, common_in_b a b)
