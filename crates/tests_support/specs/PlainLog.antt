-- The log of the tests keeps the law of those that are read.
use Rattle.std.proofs.Common.{◌≡◌, ℕ, Bool, true, false, ◌==◌, List, [], ◌∷◌, Option, Some, IfSome, find, if◌then◌else◌, refl, arith}
use Rattle.std.proofs.lemmas.Bool.Decides.{nat_tests}
use Rattle.raft_base.specs.declared.log_id.LogIdOf.{LogIdOf}

-- the first id with this index
abbrev pub id_at : {C : Type 0} → List (LogIdOf C) → ℕ → Option (LogIdOf C)
id_at ids i = find (λ id. id.index == i) ids

here : {C : Type 0} (t : Bool) (x : LogIdOf C) (o : Option (LogIdOf C)) (i : ℕ) → t ≡ (x.index == i)
    → IfSome o (λ id. id.index ≡ i) → IfSome (if t then Some x else o) (λ id. id.index ≡ i)
here true x o i e h = grind (arith, nat_tests)
here false x o i e h = h

pub indexed : {C : Type 0} (ids : List (LogIdOf C)) (i : ℕ)
    → IfSome (id_at ids i) (λ id. id.index ≡ i)
indexed [] i = tt
indexed (x ∷ xs) i = here (x.index == i) x (id_at xs i) i refl (indexed xs i)
