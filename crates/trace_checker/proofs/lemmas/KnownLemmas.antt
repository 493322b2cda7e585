-- What a commit makes known, if configs count once they are applied.
use Rattle.std.specs.Prelude.{◌≡◌, ◌+◌, ◌-◌, ◌<◌, ℕ, zero, suc, Bool, true, false, ◌||◌, List, [], ◌∷◌, ◌++◌, length, take, drop, get_or, set}
use Rattle.std.specs.List.{list_any}
use Rattle.std.proofs.Common.{refl, sym, ap, ◌∙◌, arith}
use Rattle.std.proofs.Math.ListN.{length-set}
use Rattle.std.proofs.lemmas.Bool.{le-leb, lt-leb, or_right}
use Rattle.std.proofs.lemmas.List.{drop_more, take_all, take_more, take_more_set}
use Rattle.safety_laws.specs.Log.{Entry}
use Rattle.trace_checker.specs.Inner.CheckerState.{no_config_in}
use Rattle.trace_checker.specs.Inner.Logs.{AllLogs, AreLogs, config_at, log_at}

-- ---- lists that are searched from the end

-- if this element passes, some element passes
pub any_before : {X : Type 0} (p : X → Bool) (xs : List X) (i : ℕ) (x : X) → i < length xs
    → x ≡ get_or xs i x → p x ≡ true → true ≡ list_any p xs
any_before p [] i x h is passes = absurd (omega (arith, h))
any_before p (y ∷ xs) zero x h is passes = ap (λ b. b || list_any p xs) (sym passes ∙ ap p is)
any_before p (y ∷ xs) (suc i) x h is passes =
    sym (or_right (p y) (list_any p xs) (sym (any_before p xs i x (omega (arith, h)) is passes)))

-- if no later element passes and this one does not, none from this one on passes
pub none_from : {X : Type 0} (p : X → Bool) (xs : List X) (i : ℕ) (x : X) → i < length xs
    → x ≡ get_or xs i x → p x ≡ false → list_any p (drop (i + 1) xs) ≡ false → list_any p (drop i xs) ≡ false
none_from p xs i x h is fails later =
    ap (list_any p) (drop_more xs i x h)
    ∙ ap (λ y. p y || list_any p (drop (i + 1) xs)) (sym is)
    ∙ ap (λ b. b || list_any p (drop (i + 1) xs)) fails
    ∙ later

-- ---- the last element of a list

-- a list ends in its last element, and another may take the place of this one
pub replaced : {X : Type 0} (xs : List X) (n : ℕ) (x y : X) → 0 < n → n ≡ length xs
    → x ≡ get_or xs (n - 1) x
    → (xs ≡ take (n - 1) xs ++ x ∷ []) × (set xs (n - 1) y ≡ take (n - 1) xs ++ y ∷ [])
replaced {X} xs n x y some len last = (
  sym (take_all (n - 1 + 1) xs (omega (arith, len))) ∙ take_more xs (n - 1) x in_list
      ∙ ap (λ (z : X). take (n - 1) xs ++ z ∷ []) (sym last),
  sym (take_all (n - 1 + 1) (set xs (n - 1) y) (omega (arith, len, length-set xs (n - 1) y)))
      ∙ take_more_set xs (n - 1) y in_list,
)
  where
    in_list : n - 1 < length xs
    in_list = omega (arith, some, len)

-- ---- logs without a config

module _ {T D : Type 0} (holds : D → Bool) (t : AllLogs T D) (log : ℕ) (are : AreLogs holds t)
    (within : log < length t.logs) where
  -- a log has no config if the log up to its last config is the empty one
  pub config_none : config_at t log ≡ 0 → no_config_in holds (log_at t log) ≡ true
  config_none is =
      (are.config log within).since 0 ∙ le-leb (length (log_at t (config_at t log))) 0 (omega (arith, empty))
    where
      empty : length (log_at t (config_at t log)) ≡ 0
      empty = ap (λ i. length (log_at t i)) is ∙ ap length are.empty

  -- and only then
  pub config_some : (config_at t log ≡ 0 → ⊥) → no_config_in holds (log_at t log) ≡ false
  config_some not =
      (are.config log within).since 0 ∙ lt-leb (length (log_at t (config_at t log))) 0 (some (log_at t (config_at t log)) refl)
    where
      some : (l : List (Entry T D)) → log_at t (config_at t log) ≡ l → 0 < length l
      some [] e =
          absurd (not (are.distinct (config_at t log) 0 (omega (arith, are.config_first log within, within)) are.some
          (e ∙ sym are.empty)))
      some (x ∷ l) e = omega arith
