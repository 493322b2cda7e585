-- What the rules of the checker say of logs.
use Rattle.std.specs.Prelude.{◌≡◌, ◌+◌, ◌<◌, ◌≤◌, ℕ, zero, suc, Bool, true, false, ◌||◌, ◌&&◌, nat_eq, nat_le, if◌then◌else◌, Option, Some, None, List, [], ◌∷◌, ◌++◌, length, take, drop}
use Rattle.std.specs.Option.{option_or}
use Rattle.std.proofs.Common.{refl, sym, ap, ◌∙◌, arith}
use Rattle.std.specs.Cmp.{first_so, second_so}
use Rattle.std.proofs.lemmas.Bool.{eqb-true, le-leb, leb-true, lt-leb, ne_eqb}
use Rattle.std.proofs.lemmas.List.{drop-take, length-take, take-append-drop, take-take}
use Rattle.std.proofs.Math.Bool.{and-false}
use Rattle.safety_laws.specs.Log.{Entry, last_term, last_term_or}
use Rattle.safety_laws.specs.Trace.{unless}
use Rattle.trace_checker.specs.Inner.CheckerState.{LeaderState, ServerState, append_rule, common_len}
use Rattle.trace_checker.specs.Inner.Logs.{IsExact, last_entry}
use Rattle.safety_laws.specs.declared.rule.Rule.{Rule}
use Rattle.safety_laws.specs.declared.rule.Rule.TheVariants.{DropsMatching, ForeignEntries, MissingEntries, PassedTerm}
use Rattle.trace_checker.proofs.lemmas.CommonLemmas.{common_in_b}
use Rattle.safety_laws.proofs.lemmas.RuleLemmas.{first_none, rest_none}

module _ {E : Type 0} (S : E → E → Bool) (exact : IsExact S) where
  prefix_is : (a b : List E) → common_len S a b ≡ length b → take (length b) a ≡ b
  prefix_is a [] h = refl
  prefix_is [] (y ∷ b) h = absurd (omega (arith, h))
  prefix_is (x ∷ a) (y ∷ b) h = go (S x y) refl h (λ e. prefix_is a b e)
    where
      go : (c : Bool) → S x y ≡ c → (if c then suc (common_len S a b) else 0) ≡ suc (length b)
          → (common_len S a b ≡ length b → take (length b) a ≡ b) → x ∷ take (length b) a ≡ y ∷ b
      go true s e rest =
          let hd : x ≡ y = exact.right x y s in
          let tl : take (length b) a ≡ b = rest (omega (arith, e)) in
          λ q. hd q ∷ tl q
      go false s e rest = absurd (omega (arith, e))

  take_sum : (n m : ℕ) (a : List E) → take (n + m) a ≡ take n a ++ take m (drop n a)
  take_sum n m a =
      let short : n ≤ n + m = omega arith in
      sym (take-append-drop n (take (n + m) a))
      ∙ (λ q. take-take n (n + m) a short q ++ drop-take n m a q)

  -- a list of which first elements are kept, and others appended that it has already, is a prefix of it
  pub keeps_all : (n : ℕ) (a b : List E) → common_len S (drop n a) b ≡ length b
      → take (n + length b) a ≡ take n a ++ b
  keeps_all n a b h = take_sum n (length b) a ∙ ap (λ l. take n a ++ l) (prefix_is (drop n a) b h)

  pub common_takes : (n : ℕ) (a b : List E) → n ≤ common_len S a b → take n a ≡ take n b
  common_takes zero a b h = refl
  common_takes (suc n) [] b h = absurd (omega (arith, h))
  common_takes (suc n) (x ∷ a) [] h = absurd (omega (arith, h))
  common_takes (suc n) (x ∷ a) (y ∷ b) h = go (S x y) refl h (λ e. common_takes n a b e)
    where
      go : (c : Bool) → S x y ≡ c → suc n ≤ (if c then suc (common_len S a b) else 0)
          → (n ≤ common_len S a b → take n a ≡ take n b) → x ∷ take n a ≡ y ∷ take n b
      go true s e rest =
          let hd : x ≡ y = exact.right x y s in
          let tl : take n a ≡ take n b = rest (omega (arith, e)) in
          λ q. hd q ∷ tl q
      go false s e rest = absurd (omega (arith, e))

  -- more entries are not committed than a leader has committed
  pub too_long : (a : Bool) (n : ℕ) (p log : List E) → n < length p
      → false ≡ (a && nat_eq (common_len S p (take n log)) (length p))
  too_long a n p log h = sym (ap (λ b. a && b) apart ∙ and-false a)
    where
      short : common_len S p (take n log) ≤ length (take n log)
      short = common_in_b S p (take n log)

      apart : nat_eq (common_len S p (take n log)) (length p) ≡ false
      apart =
          ne_eqb (common_len S p (take n log)) (length p)
          (λ e. omega (arith, short, length-take n log, e, h))

module _ {T N D : Type 0} (same : Entry T D → Entry T D → Bool) where
  -- what an append that breaks no rule appends
  pub appends : (s : ServerState T N D) (l : LeaderState T N D) (r n : ℕ) (sent : List (Entry T D))
      → append_rule same s l r n sent ≡ None
      → (nat_eq (common_len same (drop n s.log) sent) (length sent)
      || (nat_le n (common_len same s.log l.log)
      && nat_eq (common_len same (drop n l.log) sent) (length sent))) ≡ true
  appends s l r n sent free =
      let last : Option Rule = unless (nat_eq (common_len same (drop n s.log) sent) (length sent)
      || (nat_le n (common_len same s.log l.log)
      && nat_eq (common_len same (drop n l.log) sent) (length sent))) ForeignEntries None in
      let drops : Option Rule = unless (nat_le (common_len same s.log l.log)
      (n + common_len same (drop n s.log) sent)) DropsMatching last in
      let missing : Option Rule = unless (nat_le n (length s.log)) MissingEntries drops in
      first_none _ ForeignEntries None
      (rest_none (nat_le (common_len same s.log l.log) (n + common_len same (drop n s.log) sent)) DropsMatching last
      (rest_none (nat_le n (length s.log)) MissingEntries drops
      (rest_none (nat_le s.term r) PassedTerm missing free)))

  -- if the server does not have the appended entries, they are the leader's
  pub appends_new : (s : ServerState T N D) (l : LeaderState T N D) (r n : ℕ) (sent : List (Entry T D))
      → append_rule same s l r n sent ≡ None → (common_len same (drop n s.log) sent ≡ length sent → ⊥)
      → (n ≤ common_len same s.log l.log) × (common_len same (drop n l.log) sent ≡ length sent)
  appends_new s l r n sent free apart =
      let both : (nat_le n (common_len same s.log l.log)
      && nat_eq (common_len same (drop n l.log) sent) (length sent)) ≡ true =
      rw (ne_eqb (common_len same (drop n s.log) sent) (length sent) apart) at (appends s l r n sent free) in (
        leb-true n (common_len same s.log l.log)
            (first_so (nat_le n (common_len same s.log l.log)) (nat_eq (common_len same (drop n l.log) sent) (length sent)) both),
        eqb-true (common_len same (drop n l.log) sent) (length sent)
            (second_so (nat_le n (common_len same s.log l.log)) (nat_eq (common_len same (drop n l.log) sent) (length sent)) both),
      )

module _ {T D : Type 0} (rank : T → ℕ) where
  -- the rank of the term of an entry, this number if there is none
  abbrev pub term_or : ℕ → Option (Entry T D) → ℕ
  term_or r None = r
  term_or r (Some e) = rank e.term

  last_term_is : (r : ℕ) (log : List (Entry T D)) → last_term_or rank r log ≡ term_or r (last_entry log)
  last_term_is r [] = refl
  last_term_is r (e ∷ log) = last_term_is (rank e.term) log ∙ go (last_entry log)
    where
      go : (o : Option (Entry T D)) → term_or (rank e.term) o ≡ term_or r (option_or o (Some e))
      go None = refl
      go (Some x) = refl

  pub last_term_of : (log : List (Entry T D)) (o : Option (Entry T D)) → o ≡ last_entry log
      → term_or 0 o ≡ last_term rank log
  last_term_of log o e = ap (term_or 0) e ∙ sym (last_term_is 0 log)

-- as many first entries are kept as are acknowledged, or not
pub too_few : (a : Bool) (n k kept : ℕ) → kept ≡ (if a then n else k) → kept < n → (a || nat_le n k) ≡ false
too_few true n k kept e h = absurd (omega (arith, e, h))
too_few false n k kept e h = lt-leb n k (omega (arith, e, h))

pub enough : (a : Bool) (n k kept : ℕ) → kept ≡ (if a then n else k) → n ≤ kept → (a || nat_le n k) ≡ true
enough true n k kept e h = refl
enough false n k kept e h = le-leb n k (omega (arith, e, h))
