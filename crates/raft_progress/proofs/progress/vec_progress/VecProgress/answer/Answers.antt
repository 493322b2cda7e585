use Rattle.raft_progress.proofs.progress.vec_progress.VecProgress.answer.Goals as goal

pub upgrade-requires-clause-clones_have_the_part : goal.upgrade-requires-clause-clones_have_the_part
upgrade-requires-clause-clones_have_the_part g c = c.requires.clones_have_the_part
