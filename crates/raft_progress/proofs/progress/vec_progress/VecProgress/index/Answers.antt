use Rattle.raft_progress.proofs.progress.vec_progress.VecProgress.index.Goals as goal

pub find-requires : goal.find-requires
find-requires g c = λ fresh. rw c.deref.ensures.value (c.args.self.now.agree fresh)

pub returns : goal.returns
returns g c = rw c.deref.ensures.value at c.find.ensures
