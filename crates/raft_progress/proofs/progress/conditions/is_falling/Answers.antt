use Rattle.std.proofs.Common.{arith, sym, ◌∙◌, ◌-◌}
use Rattle.raft_progress.proofs.lemmas.progress.InOrderLemmas.{last_falls}
use Rattle.raft_progress.proofs.progress.conditions.is_falling.Goals as goal

pub returns : goal.returns
returns g c = sym (c.loop-position.invariant
    ∙ last_falls g.P.Ord.cmp g.V.ProgressPart.part_of c.args.granted c.args.voters.now (c.loop-position.position - 1) (omega arith))
