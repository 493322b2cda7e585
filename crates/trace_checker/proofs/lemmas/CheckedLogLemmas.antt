-- Comparing logs by the length of their longest common prefix.
use Rattle.std.specs.Prelude.{◌≡◌, ◌+◌, ◌≤◌, ℕ, zero, suc, Bool, true, false, ◌&&◌, nat_le, nat_eq, min, if◌then◌else◌, List, [], ◌∷◌, ◌++◌, length, take, drop}
use Rattle.std.proofs.Common.{refl, sym, ap, ◌∙◌, arith, zero-add, length-append}
use Rattle.std.proofs.Math.Dec.{leb-suc-suc, leb-suc-zero}
use Rattle.std.proofs.lemmas.Bool.{both_ways, le-leb, ne_eqb}
use Rattle.std.proofs.lemmas.Bool.Decides.{nat_tests}
use Rattle.std.proofs.lemmas.List.{length-take-le, take-append-drop}
use Rattle.safety_laws.specs.Log.{Entry, IsPrefix}
use Rattle.safety_laws.specs.Trace.{AreExact, Tests, common_prefix, is_prefix, same_entry}
use Rattle.trace_checker.specs.Inner.CheckerState.{common_len}
use Rattle.safety_laws.proofs.lemmas.TestLemmas.{prefix_right, entry_right, entry_itself}

le_test_suc : (n m : ℕ) → nat_le (suc n) (suc m) ≡ nat_le n m
le_test_suc n m = leb-suc-suc n m

eq_test_suc : (n m : ℕ) → nat_eq (suc n) (suc m) ≡ nat_eq n m
eq_test_suc n m = grind (arith, nat_tests)

eq_test_zero : (n : ℕ) → nat_eq 0 (suc n) ≡ false
eq_test_zero n = ne_eqb 0 (suc n) (λ e. omega arith)

pub le_test_zero : (n : ℕ) → nat_le 0 n ≡ true
le_test_zero n = le-leb 0 n (omega arith)

eq_test_add : (n a b : ℕ) → nat_eq (n + a) (n + b) ≡ nat_eq a b
eq_test_add n a b = grind (arith, nat_tests)

pub le_test_min : (n a b : ℕ) → (nat_le n b && nat_le n a) ≡ nat_le n (min a b)
le_test_min n a b = grind (arith, nat_tests)

module _ {E : Type 0} (S : E → E → Bool) (same : (x y : E) → S x y ≡ true → x ≡ y)
    (itself : (x : E) → S x x ≡ true) where
  same_sym_at : (x y : E) (b c : Bool) → S x y ≡ b → S y x ≡ c → b ≡ c
  same_sym_at x y true true p q = refl
  same_sym_at x y false false p q = refl
  same_sym_at x y true false p q =
      let e : x ≡ y = same x y p in absurd (both_ways (S y y) (rw e at q) (itself y))
  same_sym_at x y false true p q =
      let e : y ≡ x = same y x q in absurd (both_ways (S x x) (rw e at p) (itself x))

  pub same_sym : (x y : E) → S x y ≡ S y x
  same_sym x y = same_sym_at x y (S x y) (S y x) refl refl

  suc_if : (b : Bool) (n m : ℕ) → n ≡ m → (if b then suc n else 0) ≡ (if b then suc m else 0)
  suc_if b n m e = ap (λ x. if b then suc x else 0) e

  pub common_sym : (a b : List E) → common_len S a b ≡ common_len S b a
  common_sym [] [] = refl
  common_sym [] (y ∷ b) = refl
  common_sym (x ∷ a) [] = refl
  common_sym (x ∷ a) (y ∷ b) =
      rw (same_sym x y) (suc_if (S y x) (common_len S a b) (common_len S b a) (common_sym a b))

  pub common_itself : (a : List E) → common_len S a a ≡ length a
  common_itself [] = refl
  common_itself (x ∷ a) = rw (itself x, common_itself a) refl

  -- what a list and another have in common reaches over a prefix of the other
  pub reaches : (p l rest : List E)
      → nat_le (length p) (common_len S l (p ++ rest)) ≡ nat_eq (common_len S p l) (length p)
  reaches [] l rest = le_test_zero (common_len S l rest)
  reaches (x ∷ p) [] rest = leb-suc-zero (length p) ∙ sym (eq_test_zero (length p))
  reaches (x ∷ p) (y ∷ l) rest = rw (same_sym y x) (go (S x y) (reaches p l rest))
    where
      go : (b : Bool)
          → nat_le (length p) (common_len S l (p ++ rest)) ≡ nat_eq (common_len S p l) (length p)
          → nat_le (suc (length p)) (if b then suc (common_len S l (p ++ rest)) else 0)
          ≡ nat_eq (if b then suc (common_len S p l) else 0) (suc (length p))
      go true h =
          le_test_suc (length p) (common_len S l (p ++ rest)) ∙ h
          ∙ sym (eq_test_suc (common_len S p l) (length p))
      go false h = leb-suc-zero (length p) ∙ sym (eq_test_zero (length p))

  pub common_from : (n : ℕ) (log sent : List E) → n ≤ length log
      → common_len S log (take n log ++ sent) ≡ n + common_len S (drop n log) sent
  common_from zero log sent h = sym (zero-add (common_len S log sent))
  common_from (suc n) [] sent h = absurd (omega arith)
  common_from (suc n) (x ∷ log) sent h =
      let rest : common_len S log (take n log ++ sent) ≡ n + common_len S (drop n log) sent =
      common_from n log sent (omega arith) in
      rw (itself x) (omega arith)

module _ {T ID D M : Type 0} (k : Tests T ID D M) (exact : AreExact k) where
  pub is_prefix_by_len : (p q : List (Entry T D))
      → is_prefix k p q ≡ nat_eq (common_len (same_entry k) p q) (length p)
  is_prefix_by_len [] q = refl
  is_prefix_by_len (x ∷ p) [] = sym (eq_test_zero (length p))
  is_prefix_by_len (x ∷ p) (y ∷ q) = go (same_entry k x y) (is_prefix_by_len p q)
    where
      go : (b : Bool) → is_prefix k p q ≡ nat_eq (common_len (same_entry k) p q) (length p)
          → (b && is_prefix k p q)
          ≡ nat_eq (if b then suc (common_len (same_entry k) p q) else 0) (suc (length p))
      go true h = h ∙ sym (eq_test_suc (common_len (same_entry k) p q) (length p))
      go false h = sym (eq_test_zero (length p))

  common_is_take : (a b : List (Entry T D))
      → common_prefix k a b ≡ take (common_len (same_entry k) a b) a
  common_is_take [] b = refl
  common_is_take (x ∷ a) [] = refl
  common_is_take (x ∷ a) (y ∷ b) = go (same_entry k x y) (common_is_take a b)
    where
      go : (c : Bool) → common_prefix k a b ≡ take (common_len (same_entry k) a b) a
          → (if c then x ∷ common_prefix k a b else [])
          ≡ take (if c then suc (common_len (same_entry k) a b) else 0) (x ∷ a)
      go true h = ap (λ (l : List (Entry T D)). x ∷ l) h
      go false h = refl

  pub common_length : (a b : List (Entry T D))
      → length (common_prefix k a b) ≡ common_len (same_entry k) a b
  common_length [] b = refl
  common_length (x ∷ a) [] = refl
  common_length (x ∷ a) (y ∷ b) = go (same_entry k x y) (common_length a b)
    where
      go : (c : Bool) → length (common_prefix k a b) ≡ common_len (same_entry k) a b
          → length (if c then x ∷ common_prefix k a b else [])
          ≡ (if c then suc (common_len (same_entry k) a b) else 0)
      go true h = ap suc h
      go false h = refl

  -- what two logs share is a prefix of a third exactly if the first shares as much with the third
  pub keeps_common : (a b new : List (Entry T D))
      → is_prefix k (common_prefix k a b) new
      ≡ nat_le (common_len (same_entry k) a b) (common_len (same_entry k) a new)
  keeps_common a b new =
      let p : List (Entry T D) = common_prefix k a b in
      let n : ℕ = common_len (same_entry k) a b in
      let whole : p ++ drop n a ≡ a = rw (common_is_take a b) (take-append-drop n a) in
      let step : nat_le (length p) (common_len (same_entry k) new (p ++ drop n a))
      ≡ nat_eq (common_len (same_entry k) p new) (length p) =
      reaches (same_entry k) (entry_right k exact) (entry_itself k exact) p new (drop n a) in
      let step2 : nat_le (length p) (common_len (same_entry k) new a)
      ≡ nat_eq (common_len (same_entry k) p new) (length p) = rw whole at step in
      let turned : common_len (same_entry k) new a ≡ common_len (same_entry k) a new =
      common_sym (same_entry k) (entry_right k exact) (entry_itself k exact) new a in
      let len : length p ≡ n = common_length a b in
      is_prefix_by_len p new ∙ sym step2
      ∙ (ap (λ x. nat_le x (common_len (same_entry k) new a)) len ∙ ap (λ x. nat_le n x) turned)

  -- a log of which first entries are kept, and others appended, is a prefix of the log
  pub appended_is_old : (n : ℕ) (log sent : List (Entry T D)) → n ≤ length log
      → is_prefix k (take n log ++ sent) log
      ≡ nat_eq (common_len (same_entry k) (drop n log) sent) (length sent)
  appended_is_old n log sent h =
      let new : List (Entry T D) = take n log ++ sent in
      let c : ℕ = common_len (same_entry k) (drop n log) sent in
      let turned : common_len (same_entry k) new log ≡ common_len (same_entry k) log new =
      common_sym (same_entry k) (entry_right k exact) (entry_itself k exact) new log in
      let from : common_len (same_entry k) log new ≡ n + c =
      common_from (same_entry k) (entry_right k exact) (entry_itself k exact) n log sent h in
      let len : length new ≡ n + length sent =
      length-append (take n log) sent ∙ ap (λ x. x + length sent) (length-take-le n log h) in
      is_prefix_by_len new log ∙ ap (λ x. nat_eq x (length new)) (turned ∙ from)
      ∙ (ap (λ x. nat_eq (n + c) x) len ∙ eq_test_add n c (length sent))

  -- a log of which first entries are kept, and others appended, is a prefix of another log
  pub appended_is_other : (n : ℕ) (log other sent : List (Entry T D)) → n ≤ length log
      → is_prefix k (take n log ++ sent) other
      ≡ (nat_le n (common_len (same_entry k) log other)
      && nat_eq (common_len (same_entry k) (drop n other) sent) (length sent))
  appended_is_other zero log other sent h =
      let turned : common_len (same_entry k) sent other ≡ common_len (same_entry k) other sent =
      common_sym (same_entry k) (entry_right k exact) (entry_itself k exact) sent other in
      rw (le_test_zero (common_len (same_entry k) log other))
      (is_prefix_by_len sent other ∙ ap (λ x. nat_eq x (length sent)) turned)
  appended_is_other (suc n) [] other sent h = absurd (omega arith)
  appended_is_other (suc n) (x ∷ log) [] sent h =
      ap (λ b. b && nat_eq 0 (length sent)) (sym (leb-suc-zero n))
  appended_is_other (suc n) (x ∷ log) (y ∷ other) sent h =
      go (same_entry k x y) (appended_is_other n log other sent (omega arith))
    where
      go : (b : Bool) → is_prefix k (take n log ++ sent) other
          ≡ (nat_le n (common_len (same_entry k) log other)
          && nat_eq (common_len (same_entry k) (drop n other) sent) (length sent))
          → (b && is_prefix k (take n log ++ sent) other)
          ≡ (nat_le (suc n) (if b then suc (common_len (same_entry k) log other) else 0)
          && nat_eq (common_len (same_entry k) (drop n other) sent) (length sent))
      go true e = rw (le_test_suc n (common_len (same_entry k) log other)) e
      go false e = rw (leb-suc-zero n) refl

  -- if a list is a prefix of one log, it is a prefix of another exactly if the logs share as much
  pub prefix_of_both : (p old new : List (Entry T D)) → is_prefix k p new ≡ true
      → is_prefix k p old ≡ nat_le (length p) (common_len (same_entry k) old new)
  prefix_of_both p old new h =
      let s : IsPrefix p new = prefix_right k exact p new h in
      let step : nat_le (length p) (common_len (same_entry k) old (p ++ s.rest))
      ≡ nat_eq (common_len (same_entry k) p old) (length p) =
      reaches (same_entry k) (entry_right k exact) (entry_itself k exact) p old s.rest in
      is_prefix_by_len p old ∙ sym (rw (← s.is) at step)
