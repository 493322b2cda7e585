use Rattle.std.proofs.Common.{◌∙◌, sym}
use Rattle.raft_progress.proofs.lemmas.progress.LentLemmas.{entries_left}
use Rattle.raft_progress.proofs.progress.vec_progress.VecProgress.iter_mut.Goals as goal

pub returns : goal.returns
returns g c = (
  (sym c.iter_mut.ensures.iter_mut_name, (λ w. entries_left c.args.self.now w _ _ _ _ _)),
  record { writes_back = tt; rest = c.iter_mut.ensures.rest ∙ c.deref_mut.ensures.value },
)
