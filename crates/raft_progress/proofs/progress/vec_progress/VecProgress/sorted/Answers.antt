use Rattle.raft_progress.proofs.lemmas.progress.SideLemmas.{known_ids}
use Rattle.raft_progress.proofs.progress.vec_progress.VecProgress.sorted.Goals as goal

pub returns-clause-ascending : goal.returns-clause-ascending
returns-clause-ascending g c = λ s is. let h = c.sorted.ensures s is in rw h.1 c.args.self.now.positions.ascending

pub returns-clause-known : goal.returns-clause-known
returns-clause-known g c = λ s is id.
    let p = c.args.self.now in
    let h = c.sorted.ensures s is in
    rw h.1 (known_ids g.met.ID.Eq.laws p.positions.sorted.items p.entries.items (p.agree h.0) id)
