use Rattle.std.proofs.Common.{nat_eq, ◌≡◌, true, subst, sym, ℕ}
use Rattle.std.specs.Cmp.{nat_eq_equiv}
use Rattle.raft_progress.proofs.lemmas.progress.CloneLemmas.{list_is_equal}
use Rattle.tests_progress.proofs.allocations.cloned.Goals as goal

pub try_clone-requires-clause-quorum_sets : goal.try_clone-requires-clause-quorum_sets
try_clone-requires-clause-quorum_sets c =
    λ x y a. list_is_equal nat_eq _ (λ m n e. subst (λ (k : ℕ). nat_eq m k ≡ true) (sym e) (nat_eq_equiv.refl m)) x.items y.items a.0
