use Rattle.std.proofs.Common.{◌≡◌, nat_eq}
use Rattle.raft_members.proofs.CallerLemmas.{list_clones}
use Rattle.tests_members.proofs.lemmas.NumberLemmas.{same}
use Rattle.tests_members.proofs.coherent.leads.Goals as goal

pub find_coherent-requires : goal.find_coherent-requires
find_coherent-requires c x y h = list_clones nat_eq (λ a b. b ≡ a) same x.items y.items h.0

pub try_clone-requires : goal.try_clone-requires
try_clone-requires c = record {
  clones_are_equal = λ x y h. list_clones nat_eq (λ a b. b ≡ a) same x.items y.items h.0;
}
