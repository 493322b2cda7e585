-- Prefixes of the voters.
use Rattle.std.specs.Prelude.{◌≡◌, ℕ, ◌+◌, ◌-◌, ◌/◌, ◌^◌, ◌<◌, ◌≤◌, Bool, true, false, ◌||◌, Some, None, List, [], ◌∷◌, length, min, take}
use Rattle.std.specs.Bool.{then_some}
use Rattle.std.specs.Cmp.{IsEquivalence}
use Rattle.std.specs.List.{IsDistinct}
use Rattle.std.specs.Map.{keys_of}
use Rattle.std.specs.Set.{is_member}
use Rattle.std.proofs.Common.{arith, ap, sym, refl, ◌∙◌, subst, true≢false, suc, zero}
use Rattle.std.proofs.Math.Nat.{two-pow-succ}
use Rattle.raft_progress.specs.Inner.Recount.{prefix_test}
use Rattle.raft_progress.specs.Inner.Rises.{IsShortestPrefix}
use Rattle.raft_progress.proofs.lemmas.progress.UpdateLemmas.{IsDistinct-voters}

module _ {ID V : Type 0} (eq : ID → ID → Bool) where
  -- a longer prefix has the members of a shorter one
  pub prefix_grows : (voters : List (ID × V)) (k n : ℕ) → k ≤ n → (x : ID) → is_member eq (keys_of (take k voters)) x ≡ true
      → is_member eq (keys_of (take n voters)) x ≡ true
  prefix_grows voters zero n l x m = absurd (true≢false (sym m))
  prefix_grows voters (suc k) zero l x m = absurd (omega arith)
  prefix_grows [] (suc k) (suc n) l x m = m
  prefix_grows (e ∷ es) (suc k) (suc n) l x m = by (eq x e.0) m (prefix_grows es k n (omega arith) x)
    where
      by : (b : Bool) → (b || is_member eq (keys_of (take k es)) x) ≡ true
          → (is_member eq (keys_of (take k es)) x ≡ true → is_member eq (keys_of (take n es)) x ≡ true)
          → (b || is_member eq (keys_of (take n es)) x) ≡ true
      by true i r = refl
      by false i r = r i

  -- no prefix of a prefix that is not a quorum is a quorum
  pub prefix_fails : (is_quorum : (ID → Bool) → Bool)
      (superset : (s t : ID → Bool) → ((x : ID) → s x ≡ true → t x ≡ true) → is_quorum s ≡ true → is_quorum t ≡ true)
      (voters : List (ID × V)) (k n : ℕ) → k ≤ n → prefix_test eq is_quorum voters n ≡ false → prefix_test eq is_quorum voters k ≡ false
  prefix_fails is_quorum superset voters k n l f = by (prefix_test eq is_quorum voters k) refl
    where
      by : (b : Bool) → prefix_test eq is_quorum voters k ≡ b → b ≡ false
      by false e = refl
      by true e = absurd (true≢false (sym
          (superset (is_member eq (keys_of (take k voters))) (is_member eq (keys_of (take n voters))) (prefix_grows voters k n l) e)
          ∙ f))

-- a number that isn't zero loses a binary digit by halving
fewer_digits : (left j : ℕ) → 1 ≤ left → left < 2 ^ j → (i : ℕ) × (j ≡ suc i) × (left / 2 < 2 ^ i)
fewer_digits left zero one l = absurd (omega arith)
fewer_digits left (suc i) one l = let e = two-pow-succ i in (i, refl, omega arith)

module _ {ID V : Type 0} (eq : ID → ID → Bool) (is_quorum : (ID → Bool) → Bool) (voters : List (ID × V)) (low high : ℕ) where
  -- no prefix up to `failed` is a quorum, and if a test has passed, the prefix one longer than
  -- `end` is; between these at most `left` prefixes remain, and for each halving of them one more
  -- test is allowed
  pub record Halves (failed end left tests : ℕ) : Type 0 where
    pub fails : (k : ℕ) → low < k → k ≤ failed → prefix_test eq is_quorum voters k ≡ false
    pub above : low ≤ failed
    pub within : end ≤ high
    pub covers : end ≤ failed + left
    pub holds : end < high → prefix_test eq is_quorum voters (end + 1) ≡ true
    pub exceeds : end < high → low ≤ end
    pub tested : end < high → 1 ≤ tests
    pub few : (k : ℕ) → length voters < 2 ^ k → (j : ℕ) × (tests + j ≡ k) × (left < 2 ^ j)

  -- before the first test
  pub halves_none : high ≤ length voters → Halves low high (length voters) 0
  halves_none fits = record {
    fails = λ k l m. absurd (omega arith);
    above = omega arith;
    within = omega arith;
    covers = omega arith;
    holds = λ l. absurd (omega arith);
    exceeds = λ l. absurd (omega arith);
    tested = λ l. absurd (omega arith);
    few = λ k l. (k, omega arith, l);
  }

  module _ (failed end left tests : ℕ) (h : Halves failed end left tests) where
    -- at most 64 tests are made, since a length has at most 64 binary digits
    pub tests_fit : length voters < 2 ^ 64 → tests ≤ 64
    tests_fit l = let q = h.few 64 l in let e = q.1 in omega arith

    few_more : failed < end → (k : ℕ) → length voters < 2 ^ k → (j : ℕ) × (tests + 1 + j ≡ k) × (left / 2 < 2 ^ j)
    few_more goes k l =
        let q = h.few k l in
        let c = h.covers in
        let f = fewer_digits left q.0 (omega arith) q.2 in
        let e = q.1 in
        let d = f.1 in
        (f.0, omega arith, f.2)

    module _ (goes : failed < end) (prefix : ℕ) (is : prefix ≡ failed + 1 + min (left / 2) (end - failed - 1)) where
      -- the prefix that was tested is a quorum
      pub halves_passed : prefix_test eq is_quorum voters prefix ≡ true → Halves failed (prefix - 1) (left / 2) (tests + 1)
      halves_passed passed =
          let a = h.above in
          let w = h.within in
          let same : prefix - 1 + 1 ≡ prefix = omega arith in
          record {
            fails = h.fails;
            above = a;
            within = omega arith;
            covers = omega arith;
            holds = λ l. ap (prefix_test eq is_quorum voters) same ∙ passed;
            exceeds = λ l. omega arith;
            tested = λ l. omega arith;
            few = few_more goes;
          }

      -- the prefix that was tested is not a quorum
      pub halves_failed : (superset : (s t : ID → Bool) → ((x : ID) → s x ≡ true → t x ≡ true) → is_quorum s ≡ true → is_quorum t ≡ true)
          → prefix_test eq is_quorum voters prefix ≡ false → Halves prefix end (left / 2) (tests + 1)
      halves_failed superset missed =
          let a = h.above in
          let c = h.covers in
          record {
            fails = λ k l m. prefix_fails eq is_quorum superset voters k prefix m missed;
            above = omega arith;
            within = h.within;
            covers = omega arith;
            holds = h.holds;
            exceeds = h.exceeds;
            tested = λ l. omega arith;
            few = few_more goes;
          }

    -- no prefix is left
    module _ (over : end ≤ failed) where
      few_all : (k : ℕ) → length voters < 2 ^ k → tests ≤ k
      few_all k l = let q = h.few k l in let e = q.1 in omega arith

      pub halves_found : end < high → IsShortestPrefix eq is_quorum voters low high (Some (end + 1)) tests
      halves_found some = record {
        none = λ e. cc;
        above = λ k e. let same : end + 1 ≡ k = cc in let q = h.exceeds some in omega arith;
        within = λ k e. let same : end + 1 ≡ k = cc in omega arith;
        holds = λ k e. let same : end + 1 ≡ k = cc in ap (prefix_test eq is_quorum voters) (sym same) ∙ h.holds some;
        least = λ k l e m n. let same : end + 1 ≡ k = cc in h.fails l m (omega arith);
        tested = λ k e. h.tested some;
        few = few_all;
      }

      pub halves_missed : high ≤ end → IsShortestPrefix eq is_quorum voters low high None tests
      halves_missed all = record {
        none = λ e k l m. h.fails k l (omega arith);
        above = λ k e. cc;
        within = λ k e. cc;
        holds = λ k e. cc;
        least = λ k l e. cc;
        tested = λ k e. cc;
        few = few_all;
      }

  fewest : (k : ℕ) → 1 ≤ length voters → length voters < 2 ^ k → 1 ≤ k
  fewest zero one l = absurd (omega arith)
  fewest (suc k) one l = omega arith

  -- if a single prefix is left, one test is enough
  pub single_prefix : high ≡ low + 1 → high ≤ length voters → (passed : Bool) → passed ≡ prefix_test eq is_quorum voters high
      → IsShortestPrefix eq is_quorum voters low high (then_some passed high) 1
  single_prefix single fits true is = record {
    none = λ e. cc;
    above = λ k e. let same : high ≡ k = cc in omega arith;
    within = λ k e. let same : high ≡ k = cc in omega arith;
    holds = λ k e. let same : high ≡ k = cc in ap (prefix_test eq is_quorum voters) (sym same) ∙ sym is;
    least = λ k l e m n. let same : high ≡ k = cc in absurd (omega arith);
    tested = λ k e. omega arith;
    few = λ k l. fewest k (omega arith) l;
  }
  single_prefix single fits false is = record {
    none = λ e k l m. let same : k ≡ high = omega arith in ap (prefix_test eq is_quorum voters) same ∙ sym is;
    above = λ k e. cc;
    within = λ k e. cc;
    holds = λ k e. cc;
    least = λ k l e. cc;
    tested = λ k e. cc;
    few = λ k l. fewest k (omega arith) l;
  }

-- the first of the ids that were gathered
prefix_of : {ID V : Type 0} (voters : List (ID × V)) (scratch : List ID) (high k : ℕ) → k ≤ high
    → take high scratch ≡ keys_of (take high voters)
    → take k scratch ≡ keys_of (take k voters)
prefix_of voters scratch high k l is = sym (take_take scratch k high l) ∙ ap (take k) is ∙ keys_shorter voters k high l
  where
    take_take : {X : Type 0} (xs : List X) (k n : ℕ) → k ≤ n → take k (take n xs) ≡ take k xs
    take_take xs zero n l = refl
    take_take xs (suc k) zero l = absurd (omega arith)
    take_take [] (suc k) (suc n) l = refl
    take_take (x ∷ xs) (suc k) (suc n) l = ap (λ ys. x ∷ ys) (take_take xs k n (omega arith))

    keys_shorter : {ID V : Type 0} (es : List (ID × V)) (k n : ℕ) → k ≤ n → take k (keys_of (take n es)) ≡ keys_of (take k es)
    keys_shorter es zero n l = refl
    keys_shorter es (suc k) zero l = absurd (omega arith)
    keys_shorter [] (suc k) (suc n) l = refl
    keys_shorter (e ∷ es) (suc k) (suc n) l = ap (λ ks. e.0 ∷ ks) (keys_shorter es k n (omega arith))

-- a test of the first of the gathered ids is a test of that prefix
pub prefix_tested : {ID V : Type 0} {eq : ID → ID → Bool} (laws : IsEquivalence eq) (is_quorum : (ID → Bool)
    → Bool) (voters : List (ID × V))
    (distinct : IsDistinct eq (keys_of voters)) (scratch : List ID) (high k : ℕ) (l : k ≤ high)
    (gathered : take high scratch ≡ keys_of (take high voters)) (answer : Bool)
    (tells : IsDistinct eq (take k scratch) → answer ≡ is_quorum (is_member eq (take k scratch)))
    → answer ≡ prefix_test eq is_quorum voters k
prefix_tested {eq = eq} laws is_quorum voters distinct scratch high k l gathered answer tells =
    let prefix = prefix_of voters scratch high k l gathered in
    tells (subst (IsDistinct eq) (sym prefix) (IsDistinct-voters laws k voters distinct)) ∙ ap (λ ks. is_quorum (is_member eq ks)) prefix
