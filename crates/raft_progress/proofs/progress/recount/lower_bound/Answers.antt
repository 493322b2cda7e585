use Rattle.std.proofs.Common.{arith, sym, ap, ◌∙◌, is_lt}
use Rattle.raft_progress.proofs.lemmas.progress.recount.RecountLemmas.{greatest_first}
use Rattle.raft_progress.proofs.progress.recount.lower_bound.Goals as goal

pub returns-then-is_reached : goal.returns-then-is_reached
returns-then-is_reached g c =
    greatest_first g.ID.PartialEq.eq g.met.P.Ord.total g.V.ProgressPart.part_of (g.QS.QuorumSet.has_quorum c.args.quorum_set.now)
    c.args.voters.now c.args.default_part c.loop-entry.entry-index c.entry-item.result c.part-part.result (omega arith) c.entry-item.is
    c.part-part.ensures (ap is_lt (sym c.cmp-then-is_eq.ensures) ∙ sym c.is_lt.ensures ∙ c.if-is_lt.true)
    (sym c.is_reached.ensures ∙ c.if-is_reached.true)
