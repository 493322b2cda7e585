use Rattle.std.proofs.Common.{ap, ◌∙◌, sym, subst}
use Rattle.std.specs.List.{IsDistinct}
use Rattle.std.specs.Set.{is_member}
use Rattle.std.proofs.lemmas.Map.Made.{IsDistinct-keys_filter}
use Rattle.raft_progress.specs.Inner.Recount.{at_least}
use Rattle.raft_progress.proofs.progress.recount.is_reached.Goals as goal

pub returns : goal.returns
returns g c =
    c.is_quorum.ensures.quorum (subst (IsDistinct g.ID.PartialEq.eq) (sym c.gather-n.ensures.prefix)
    (IsDistinct-keys_filter g.ID.PartialEq.eq (at_least g.P.Ord.cmp g.V.ProgressPart.part_of c.args.part) c.args.voters.now
    c.requires.distinct))
    ∙ ap (λ ks. g.QS.QuorumSet.has_quorum c.args.quorum_set.now (is_member g.ID.PartialEq.eq ks)) c.gather-n.ensures.prefix
