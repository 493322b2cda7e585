use Rattle.std.proofs.Common.{arith, sym, ap, ◌∙◌, true≢false, is_lt}
use Rattle.raft_progress.proofs.lemmas.progress.recount.RecountLemmas.{loop_rises, loop_keeps, unreached_beyond}
use Rattle.raft_progress.proofs.progress.recount.count.Goals as goal
use Rattle.raft_progress.proofs.progress.recount.count.Goals.{then-is_lt+then-is_below_bound+then-is_reached, else-is_lt, else-is_lt-via-then-is_lt+then-is_below_bound+else-is_reached, else-is_lt-via-then-is_lt+else-is_below_bound, else-is_lt-via-else-is_lt}

pub loop-entry-preserved : goal.loop-entry-preserved
loop-entry-preserved g c =
    let raise = loop_rises g.ID.PartialEq.eq g.met.P.Ord.total g.V.ProgressPart.part_of (g.QS.QuorumSet.has_quorum c.args.quorum_set.now)
    c.args.voters.now c.args.default_part c.loop-entry.entry-index c.entry-item.result c.loop-entry.best c.part-part.result in
    let keep = loop_keeps g.ID.PartialEq.eq g.met.P.Ord.total g.V.ProgressPart.part_of (g.QS.QuorumSet.has_quorum c.args.quorum_set.now)
    c.args.voters.now c.args.default_part c.loop-entry.entry-index c.entry-item.result c.loop-entry.best c.part-part.result in
    elim c.if-is_lt.branch [
      | then-is_lt+then-is_below_bound+then-is_reached w ↦
          raise c.if-is_lt.best (omega arith) c.entry-item.is c.part-part.ensures
          (ap is_lt (sym c.cmp.ensures) ∙ sym c.is_lt.ensures ∙ w.if-is_lt.true) (sym w.is_reached.ensures ∙ w.if-is_reached.true)
          w.best-is c.loop-entry.invariant
      | else-is_lt w ↦
          keep c.if-is_lt.best (omega arith) c.entry-item.is c.part-part.ensures
          (elim w.else-is_lt.branch [
            | else-is_lt-via-then-is_lt+then-is_below_bound+else-is_reached w' ↦
                λ q. absurd (true≢false (sym q ∙ sym w'.is_reached.ensures ∙ w'.if-is_reached.false))
            | else-is_lt-via-then-is_lt+else-is_below_bound w' ↦
                λ q. absurd (true≢false (sym q
                ∙ unreached_beyond g.ID.PartialEq.eq g.met.P.Ord.total g.V.ProgressPart.part_of
                (g.QS.QuorumSet.has_quorum c.args.quorum_set.now) (g.met.QS.QuorumSet.superset c.args.quorum_set.now) c.args.voters.now
                c.part-part.result c.upper_bound-unreached.result c.upper_bound-unreached.ensures
                (sym w'.is_below_bound.ensures ∙ w'.if-is_below_bound.false)))
            | else-is_lt-via-else-is_lt w' ↦ λ q. ap is_lt (sym c.cmp.ensures) ∙ sym c.is_lt.ensures ∙ w'.if-is_lt.false
          ])
          w.best-is c.loop-entry.invariant
    ]
