use Rattle.std.specs.Prelude.{◌↔◌, IsTrue}
use Rattle.std.specs.List.{IsDistinct}
use Rattle.std.proofs.Common.{subst, List}
use Rattle.std.proofs.lemmas.List.Sorted.{IsPermutation-sym}
use Rattle.std.proofs.lemmas.Map.Keys.{IsDistinct-IsPermutation}
use Rattle.raft_progress.proofs.progress.conditions.are_distinct.Goals as goal

pub returns : goal.returns
returns g c =
    let eq = g.ID.PartialEq.eq in
    let given = c.args.ids.items in
    let sorted = c.sort_unstable.new.self.items in
    let told = subst (λ (ids : List g.row.ID.Denot). IsTrue c.have_no_equal_neighbours.result ↔ IsDistinct eq ids) c.deref.ensures.value
    c.have_no_equal_neighbours.ensures in (
      (λ t. IsDistinct-IsPermutation eq g.met.ID.Eq.laws.symm sorted given
          (IsPermutation-sym given sorted c.sort_unstable.ensures.permutation) (told.0 t)),
      (λ d. told.1 (IsDistinct-IsPermutation eq g.met.ID.Eq.laws.symm given sorted c.sort_unstable.ensures.permutation d)),
    )
