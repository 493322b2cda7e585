-- Lines that say how the cluster starts.
use Rattle.std.specs.Prelude.{◌≡◌, ℕ, Bool, true, List, [], ◌∷◌, nat_eq}
use Rattle.std.specs.Cmp.Lexicographic.{pointwise}
use Rattle.std.specs.Global.{Vec}
use Rattle.std.proofs.Common.{sym, subst}
use Rattle.std.proofs.lemmas.Bool.{and_parts}
use Rattle.std.proofs.lemmas.Slice.Eq.{bytes_eq-Decides}
use Rattle.serde_json.specs.Data.{Data, Items, no_items, item}
use Rattle.safety_laws.specs.declared.counting.ConfigsCount.{ConfigsCount}
use Rattle.trace_judge.specs.Fields.{HasConfigs, IsConfig, IsCounting, IsFirst, SayEach}
use Rattle.trace_judge.specs.Names.{AreApart, HasNumber, Numbering}
use Rattle.trace_judge.specs.Run.{SayOneStart, SaysStart}

-- the same voters
abbrev same_config : Vec ℕ → Vec ℕ → Bool
same_config a b = pointwise nat_eq a.items b.items

module _ (number_of : Numbering) where
  is_same_config : (d : Data) (a b : Vec ℕ) → same_config a b ≡ true → IsConfig number_of d b → IsConfig number_of d a
  is_same_config d a b same says = (
    says.0,
    says.1,
    subst (λ (l : List ℕ). SayEach (HasNumber number_of) says.0 l) (sym ((bytes_eq-Decides a.items b.items).0 same)) says.2,
  )

  -- what says these configs, says the same ones
  say_same_configs : (ds : Items) (xs ys : List (Vec ℕ)) → pointwise same_config xs ys ≡ true
      → SayEach (IsConfig number_of) ds ys → SayEach (IsConfig number_of) ds xs
  say_same_configs no_items [] ys same say = tt
  say_same_configs no_items (a ∷ xs) [] same say = cc
  say_same_configs no_items (a ∷ xs) (b ∷ ys) same say = absurd say
  say_same_configs (item d ds) xs [] same say = absurd say
  say_same_configs (item d ds) [] (b ∷ ys) same say = cc
  say_same_configs (item d ds) (a ∷ xs) (b ∷ ys) same say =
      let both = and_parts (same_config a b) (pointwise same_config xs ys) same in
      (is_same_config d a b both.0 say.0, say_same_configs ds xs ys both.1 say.1)

  -- a line that says configs says the same ones
  pub same_configs : (d : Data) (xs ys : List (Vec ℕ)) → pointwise same_config xs ys ≡ true → HasConfigs number_of d ys
      → HasConfigs number_of d xs
  same_configs d xs ys same says = (says.0, says.1, say_same_configs says.0 xs ys same says.2)

  -- lines that say the same configs and the same first index, and configs count in the same way
  pub say_one_start : AreApart number_of → (line other : List ℕ) (xs ys : List (Vec ℕ)) (first other_first : ℕ)
      (counting other_counting : ConfigsCount) → SaysStart number_of line xs first counting
      → SaysStart number_of other ys other_first other_counting → first ≡ other_first → counting ≡ other_counting
      → pointwise same_config xs ys ≡ true → SayOneStart line other
  say_one_start apart line other xs ys first other_first counting other_counting says other_says same_first same_counting
      same = (
        number_of,
        apart,
        (
          xs,
          first,
          counting,
          says,
          (
            other_says.0,
            other_says.1,
            other_says.2,
            same_configs other_says.0 xs ys same other_says.3,
            subst (λ (n : ℕ). IsFirst n other_says.0) (sym same_first) other_says.4,
            subst (λ (w : ConfigsCount). IsCounting w other_says.0) (sym same_counting) other_says.5,
          ),
        ),
      )
