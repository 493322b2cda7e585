-- The log id at an index has that index.
use Rattle.std.proofs.Common.{◌≡◌, ℕ, Bool, true, false, ◌==◌, List, [], ◌∷◌, Option, Some, IfSome, if◌then◌else◌, refl, arith}
use Rattle.std.proofs.lemmas.Bool.Decides.{nat_tests}
use Rattle.raft_base.specs.declared.log_id.LogIdOf.{LogIdOf}
use Rattle.raft_state.specs.log_id_list.LogReads.{id_at}

here : {C : Type 0} (t : Bool) (x : LogIdOf C) (o : Option (LogIdOf C)) (i : ℕ) → t ≡ (x.index == i)
    → IfSome o (λ id. id.index ≡ i) → IfSome (if t then Some x else o) (λ id. id.index ≡ i)
here true x o i e h = grind (arith, nat_tests)
here false x o i e h = h

pub id_at-indexed : {C : Type 0} (log : List (LogIdOf C)) (i : ℕ)
    → IfSome (id_at log i) (λ id. id.index ≡ i)
id_at-indexed [] i = tt
id_at-indexed (x ∷ xs) i = here (x.index == i) x (id_at xs i) i refl (id_at-indexed xs i)
