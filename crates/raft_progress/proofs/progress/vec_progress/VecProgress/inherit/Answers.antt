use Rattle.std.specs.Map.{keys_of}
use Rattle.raft_progress.specs.progress.VecProgress.{view}
use Rattle.raft_progress.proofs.lemmas.progress.SideLemmas.{known_ids}
use Rattle.raft_progress.proofs.lemmas.progress.upgrade.TakeOverLemmas.{not_refused}
use Rattle.raft_progress.proofs.progress.vec_progress.VecProgress.inherit.Goals as goal

pub write-reply-requires-clause-voters : goal.write-reply-requires-clause-voters
write-reply-requires-clause-voters g c = λ counts. c.requires.voters

pub write-reply-requires-clause-sides : goal.write-reply-requires-clause-sides
write-reply-requires-clause-sides g c = λ s is fresh.
    let p = c.args.self.now in
    c.requires.sides s is (keys_of p.positions.sorted.items) p.positions.ascending
    (known_ids g.met.ID.Eq.laws p.positions.sorted.items p.entries.items (p.agree fresh))

pub returns-clause-updated : goal.returns-clause-updated
returns-clause-updated g c = c.write-reply.ensures.step.answered.done
    (not_refused g.ID.PartialEq.eq g.met.P.Ord.total g.V.ProgressPart.part_of g.QS.QuorumSet.has_quorum (view c.args.self.now)
    c.args.id.now c.args.value c.write-reply.result (view c.write-reply.new.self) c.requires.monotone c.write-reply.ensures.step.values)
