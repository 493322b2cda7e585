-- Logs that no commit covers, because they have greater numbers than the logs of all commits.
use Rattle.std.specs.Prelude.{◌≡◌, ◌⊎◌, ◌+◌, ◌<◌, ◌≤◌, ◌&&◌, ◌||◌, ℕ, zero, suc, max, nat_eq, nat_lt, Bool, true, false, if◌then◌else◌, List, [], ◌∷◌, ◌++◌, length, map, take}
use Rattle.std.proofs.Common.{refl, sym, ap, ◌∙◌, inl, inr, arith}
use Rattle.std.proofs.lemmas.Bool.{cases_eq, cases_lt, eqb-true}
use Rattle.std.proofs.lemmas.List.{length_push, take-append-le, take_all}
use Rattle.safety_laws.specs.Log.{Entry}
use Rattle.trace_checker.specs.Inner.CheckerState.{common_len}
use Rattle.trace_checker.specs.Inner.Known.{AreUpTo, any_covers, commit_in, covers}
use Rattle.trace_checker.specs.Inner.Logs.{AllLogs, AreLogs, HasParent, IsExact, IsTree, log_at}
use Rattle.trace_checker.specs.Inner.Noted.{IsNoted}
use Rattle.trace_checker.specs.declared.checker.known.Commit.{Commit}

-- ---- the numbers of commits

pub up_to_more : (n m : ℕ) (commits : List Commit) → n ≤ m → AreUpTo n commits → AreUpTo m commits
up_to_more n m [] h up = tt
up_to_more n m (c ∷ commits) h up = (omega (arith, h, up.0), up_to_more n m commits h up.1)

up_to_push : (n : ℕ) (commits : List Commit) (c : Commit) → c.log ≤ n → AreUpTo n commits
    → AreUpTo n (commits ++ c ∷ [])
up_to_push n [] c h up = (h, tt)
up_to_push n (d ∷ commits) c h up = (up.0, up_to_push n commits c h up.1)

up_to_first : (n : ℕ) (commits : List Commit) (c : Commit) → AreUpTo n (commits ++ c ∷ []) → AreUpTo n commits
up_to_first n [] c up = tt
up_to_first n (d ∷ commits) c up = (up.0, up_to_first n commits c up.1)

-- the numbers after a commit is noted
pub noted_up_to : {T D : Type 0} (same : Entry T D → Entry T D → Bool) (logs : AllLogs T D) (n m : ℕ)
    (old new : List Commit) (commit : Commit) → m ≡ max n commit.log → IsNoted same logs old commit new
    → AreUpTo n old → AreUpTo m new
noted_up_to same logs n m old new commit is (inl added) up =
    rw added (up_to_push m old commit (omega (arith, is)) (up_to_more n m old (omega (arith, is)) up))
noted_up_to same logs n m old new commit is (inr longer) up =
    let first : AreUpTo n longer.earlier = up_to_first n longer.earlier longer.last (rw longer.was at up) in
    rw longer.is (up_to_push m longer.earlier commit (omega (arith, is)) (up_to_more n m longer.earlier (omega (arith, is)) first))

take_none : {X : Type 0} (k : ℕ) → take {A = X} k [] ≡ []
take_none zero = refl
take_none (suc k) = refl

-- ---- the numbers of the logs with which a log begins

module _ {T D : Type 0} (t : AllLogs T D) (tree : IsTree t) (empty : log_at t 0 ≡ []) where
  -- the first entries of a log are a log whose number is not greater
  pub has_first : (most n m : ℕ) → m ≤ most → m < length t.logs
      → (j : ℕ) × (j ≤ m) × (log_at t j ≡ take n (log_at t m))
  has_first zero n m small within =
      let none : m ≡ 0 = omega (arith, small) in
      (0, omega arith, empty ∙ sym (take_none n) ∙ ap (take n) (sym empty ∙ ap (log_at t) (sym none)))
  has_first (suc most) n m small within = go (cases_eq m 0) (λ k. has_first most n k)
    where
      go : (m ≡ 0) ⊎ (m ≡ 0 → ⊥)
          → ((k : ℕ) → k ≤ most → k < length t.logs → (j : ℕ) × (j ≤ k) × (log_at t j ≡ take n (log_at t k)))
          → (j : ℕ) × (j ≤ m) × (log_at t j ≡ take n (log_at t m))
      go (inl none) rest =
          (0, omega arith, empty ∙ sym (take_none n) ∙ ap (take n) (sym empty ∙ ap (log_at t) (sym none)))
      go (inr some) rest =
          let up : HasParent t m = tree m (omega (arith, some)) within in
          by_len up (cases_lt (length (log_at t up.parent)) n)
          (rest up.parent (omega (arith, up.earlier, small)) (omega (arith, up.earlier, within)))
        where
          by_len : (up : HasParent t m) → (length (log_at t up.parent) < n) ⊎ (n ≤ length (log_at t up.parent))
              → (j : ℕ) × (j ≤ up.parent) × (log_at t j ≡ take n (log_at t up.parent))
              → (j : ℕ) × (j ≤ m) × (log_at t j ≡ take n (log_at t m))
          by_len up (inl h) at =
              let len : length (log_at t m) ≡ length (log_at t up.parent) + 1 =
              ap length up.is ∙ length_push (log_at t up.parent) up.entry in
              (m, omega arith, sym (take_all n (log_at t m) (omega (arith, h, len))))
          by_len up (inr h) at = (
            at.0,
            omega (arith, at.1, up.earlier),
            at.2 ∙ sym (take-append-le n (log_at t up.parent) (up.entry ∷ []) h) ∙ ap (take n) (sym up.is),
          )

and_false : (a b : Bool) → b ≡ false → (a && b) ≡ false
and_false true b e = e
and_false false b e = refl

module _ {T D : Type 0} (S : Entry T D → Entry T D → Bool) (exact : IsExact S) where
  -- entries that another list has in common from its start are its first ones
  are_first : (p q : List (Entry T D)) → common_len S p q ≡ length p → p ≡ take (length p) q
  are_first [] q e = refl
  are_first (x ∷ p) [] e = absurd (omega (arith, e))
  are_first (x ∷ p) (y ∷ q) e = go (S x y) refl e (are_first p q)
    where
      go : (c : Bool) → S x y ≡ c → (if c then suc (common_len S p q) else 0) ≡ suc (length p)
          → (common_len S p q ≡ length p → p ≡ take (length p) q) → x ∷ p ≡ y ∷ take (length p) q
      go true s h rest =
          let hd : x ≡ y = exact.right x y s in
          let tl : p ≡ take (length p) q = rest (omega (arith, h)) in
          λ i. hd i ∷ tl i
      go false s h rest = absurd (omega (arith, h))

  module _ (holds : D → Bool) (t : AllLogs T D) (tree : IsTree t) (are : AreLogs holds t) (log : ℕ)
      (within : log < length t.logs) where
    -- a log does not begin with one of a greater number
    begins_not : (m : ℕ) → m < log
        → nat_eq (common_len S (log_at t log) (log_at t m)) (length (log_at t log)) ≡ false
    begins_not m less = go (nat_eq (common_len S (log_at t log) (log_at t m)) (length (log_at t log))) refl
      where
        go : (b : Bool) → nat_eq (common_len S (log_at t log) (log_at t m)) (length (log_at t log)) ≡ b → b ≡ false
        go true e =
            let is : log_at t log ≡ take (length (log_at t log)) (log_at t m) =
            are_first (log_at t log) (log_at t m)
            (eqb-true (common_len S (log_at t log) (log_at t m)) (length (log_at t log)) e) in
            let at = has_first t tree are.empty m (length (log_at t log)) m (omega arith) (omega (arith, less, within)) in
            let same : log ≡ at.0 =
            are.distinct log at.0 within (omega (arith, at.1, less, within)) (is ∙ sym at.2) in
            absurd (omega (arith, same, at.1, less))
        go false e = refl

    -- no commit covers a log with a greater number
    pub none_covers : (r a n : ℕ) (commits : List Commit) → AreUpTo n commits → n < log
        → any_covers S r a (log_at t log) (map (commit_in t) commits) ≡ false
    none_covers r a n [] up less = refl
    none_covers r a n (c ∷ commits) up less =
        ap (λ b. b || any_covers S r a (log_at t log) (map (commit_in t) commits))
        (none (begins_not c.log (omega (arith, up.0, less)))) ∙ none_covers r a n commits up.1 less
      where
        none : nat_eq (common_len S (log_at t log) (log_at t c.log)) (length (log_at t log)) ≡ false
            → covers S r a (log_at t log) (commit_in t c) ≡ false
        none e =
            and_false (nat_lt c.rank r || (nat_eq c.rank r && nat_lt c.counted_at a))
            (nat_eq (common_len S (log_at t log) (log_at t c.log)) (length (log_at t log))) e
