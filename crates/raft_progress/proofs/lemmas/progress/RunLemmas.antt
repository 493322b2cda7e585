-- A run that is made step by step, and what it is seen as.
use Rattle.std.specs.Prelude.{◌≡◌, List, [], ◌∷◌, ◌++◌}
use Rattle.std.proofs.Common.{refl, subst, sym}
use Rattle.raft_progress.specs.progress.Run.{Runs}

module _ {S A R : Type 0} (Step : S → A → R → S → Type 0) where
  -- one step and one reply further
  pub run_more : (first now next : S) (step : A) (reply : R) (steps : List A) (replies : List R)
      → Runs Step (λ a b. b ≡ a) first steps replies now → Step now step reply next
      → Runs Step (λ a b. b ≡ a) first (steps ++ step ∷ []) (replies ++ reply ∷ []) next
  run_more first now next step reply [] [] same made = (next, subst (λ (s : S). Step s step reply next) same made, refl)
  run_more first now next step reply (x ∷ xs) (y ∷ ys) (middle, here, rest) made =
      (middle, here, run_more middle now next step reply xs ys rest made)
  run_more first now next step reply [] (y ∷ ys) run made = absurd run
  run_more first now next step reply (x ∷ xs) [] run made = absurd run

module _ {S T A R : Type 0} (Step : S → A → R → S → Type 0) (Seen : T → A → R → T → Type 0) (Same : T → T → Type 0) (see : S → T)
    (steps_seen : (old : S) (step : A) (reply : R) (new : S) → Step old step reply new → Seen (see old) step reply (see new))
    (same : (t : T) → Same t t) where
  -- a run is one of what is seen of it
  pub run_seen : (old : S) (steps : List A) (replies : List R) (new : S) → Runs Step (λ a b. b ≡ a) old steps replies new
      → Runs Seen Same (see old) steps replies (see new)
  run_seen old [] [] new is = subst (λ (s : S). Same (see old) (see s)) (sym is) (same (see old))
  run_seen old (x ∷ xs) (y ∷ ys) new (middle, here, rest) = (see middle, steps_seen old x y middle here, run_seen middle xs ys new rest)
  run_seen old [] (y ∷ ys) new run = absurd run
  run_seen old (x ∷ xs) [] new run = absurd run
