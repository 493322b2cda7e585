-- How an entry moves up past its neighbours, and what a scan of prefixes finds.
use Rattle.std.specs.Prelude.{◌≡◌, ℕ, ◌+◌, ◌^◌, ◌<◌, ◌≤◌, Bool, true, false, Option, Some, None, List, [], ◌∷◌, ◌++◌, length, ⊤}
use Rattle.std.specs.declared.cmp.Ordering.{Ordering}
use Rattle.std.specs.Ordering.{is_lt}
use Rattle.std.specs.List.{AllByRecursion}
use Rattle.raft_progress.specs.Inner.Recount.{prefix_test}
use Rattle.raft_progress.specs.progress.CountedValue.{AtMost}

module _ {ID V P : Type 0} (cmp : P → P → Ordering) (part : V → P) where
  -- the last of the entries, if there is one, has a part of at least p
  abbrev pub LastAtLeast : P → List (ID × V) → Type 0
  LastAtLeast p [] = ⊤
  LastAtLeast p (f ∷ []) = AtMost cmp p (part f.1)
  LastAtLeast p (f ∷ h ∷ hs) = LastAtLeast p (h ∷ hs)

  -- the entry at `from` has passed the entries down to `to`, each with a lesser part
  pub record Passed (old : List (ID × V)) (from : ℕ) (new : List (ID × V)) (to : ℕ) : Type 0 where
    pub prefix : List (ID × V)
    pub passed : List (ID × V)
    pub entry : ID × V
    pub rest : List (ID × V)
    pub was : old ≡ prefix ++ (passed ++ (entry ∷ rest))
    pub was_at : length prefix + length passed ≡ from
    pub now : new ≡ prefix ++ (entry ∷ (passed ++ rest))
    pub now_at : length prefix ≡ to
    pub lesser : AllByRecursion (λ f. is_lt (cmp (part f.1) (part entry.1)) ≡ true) passed

  -- the entry comes directly after one with at least its part, or is first
  pub record RisesTo (old : List (ID × V)) (from : ℕ) (new : List (ID × V)) (to : ℕ) : Type 0 where
    pub passes : Passed old from new to
    pub stops : LastAtLeast (part passes.entry.1) passes.prefix

module _ {ID V : Type 0} (eq : ID → ID → Bool) (is_quorum : (ID → Bool) → Bool) where
  -- the shortest prefix longer than low and at most high long that is a quorum, if there is one,
  -- and the number of prefixes that were tested: at most k if the number of voters is less than 2^k
  pub record IsShortestPrefix (voters : List (ID × V)) (low high : ℕ) (found : Option ℕ) (tests : ℕ)
      : Type 0 where
    pub none : found ≡ None → (k : ℕ) → low < k → k ≤ high
        → prefix_test eq is_quorum voters k ≡ false
    pub above : (k : ℕ) → found ≡ Some k → low < k
    pub within : (k : ℕ) → found ≡ Some k → k ≤ high
    pub holds : (k : ℕ) → found ≡ Some k → prefix_test eq is_quorum voters k ≡ true
    pub least : (k l : ℕ) → found ≡ Some k → low < l → l < k
        → prefix_test eq is_quorum voters l ≡ false
    pub tested : (k : ℕ) → found ≡ Some k → 1 ≤ tests
    pub few : (k : ℕ) → length voters < 2 ^ k → tests ≤ k
