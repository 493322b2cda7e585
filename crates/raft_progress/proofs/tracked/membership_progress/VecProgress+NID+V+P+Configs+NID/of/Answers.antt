use Rattle.std.proofs.Common.{◌∙◌}
use Rattle.raft_progress.specs.progress.VecProgress.{view}
use Rattle.raft_progress.proofs.lemmas.tracked.MembershipProgressLemmas.{begins_over}
use Rattle.raft_progress.proofs.tracked.membership_progress.VecProgress+NID+V+P+Configs+NID.of.Goals as goal

pub returns-clause-begins : goal.returns-clause-begins
returns-clause-begins g c = begins_over g.NID.PartialEq.eq g.NID.Ord.cmp g.P.Ord.cmp g.V.ProgressPart.part_of g.V.Clone.is_clone view
    c.args.membership.now c.in_ok-configs.configs c.in_ok-configs.ensures.configs c.deref.result.now
    (c.deref.ensures.value ∙ c.in_ok-learners.ensures.same) c.args.default c.new.result c.new.ensures.made c.new.ensures.entries
    c.new.ensures.granted c.new.ensures.no_counts
