-- Reading the items of a list one by one.
use Rattle.std.specs.Prelude.{◌≡◌, ◌+◌, ◌<◌, ◌≤◌, ℕ, List, [], ◌∷◌, ◌++◌, length, drop, get_or}
use Rattle.std.proofs.Common.{sym, subst, append_assoc}
use Rattle.std.proofs.lemmas.List.{append-nil, drop_all, drop_more}
use Rattle.serde_json.specs.Data.{Data}
use Rattle.serde_json.specs.View.{items_view, view}
use Rattle.serde_json.specs.declared.value.Value.{Value}
use Rattle.trace_judge.specs.Fields.{SayEach}

module _ {A : Type 0} (P : Data → A → Type 0) where
  -- the items before this one say these values: if the later ones say others, all say both
  abbrev pub SaySoFar : List Value → ℕ → List A → Type 0
  SaySoFar vs i xs =
      (rest : List A) → SayEach P (items_view (drop i vs)) rest → SayEach P (items_view vs) (xs ++ rest)

  pub say_none : (vs : List Value) (xs : List A) → xs ≡ [] → SaySoFar vs 0 xs
  say_none vs xs is rest h = subst (λ (ys : List A). SayEach P (items_view vs) (ys ++ rest)) (sym is) h

  pub say_more : (vs : List Value) (i : ℕ) (xs new : List A) (v : Value) (x : A) → i < length vs
      → v ≡ get_or vs i v → P (view v) x → new ≡ xs ++ x ∷ [] → SaySoFar vs i xs → SaySoFar vs (i + 1) new
  say_more vs i xs new v x h is says new_is so_far rest later =
      let here : P (view (get_or vs i v)) x = subst (λ (u : Value). P (view u) x) is says in
      let these : SayEach P (items_view (drop i vs)) (x ∷ rest) =
      subst (λ (l : List Value). SayEach P (items_view l) (x ∷ rest)) (sym (drop_more vs i v h)) (here, later) in
      subst (λ (ys : List A). SayEach P (items_view vs) (ys ++ rest)) (sym new_is)
      (subst (λ (ys : List A). SayEach P (items_view vs) ys) (sym (append_assoc xs (x ∷ []) rest)) (so_far (x ∷ rest) these))

  pub say_all : (vs : List Value) (i : ℕ) (xs : List A) → length vs ≤ i → SaySoFar vs i xs
      → SayEach P (items_view vs) xs
  say_all vs i xs h so_far =
      subst (λ (ys : List A). SayEach P (items_view vs) ys) (append-nil xs)
      (so_far [] (subst (λ (l : List Value). SayEach P (items_view l) []) (sym (drop_all i vs h)) tt))
