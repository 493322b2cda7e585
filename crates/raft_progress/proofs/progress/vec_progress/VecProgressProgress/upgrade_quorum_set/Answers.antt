use Rattle.raft_progress.specs.progress.VecProgress.{view}
use Rattle.raft_progress.specs.progress.ProgressView.{state}
use Rattle.raft_progress.proofs.lemmas.progress.upgrade.FoldLemmas.{fold_counts, fold_learners}
use Rattle.raft_progress.proofs.lemmas.progress.upgrade.TakeOverLemmas.{folded, new_voters, none_below, taken_over}
use Rattle.raft_progress.proofs.progress.vec_progress.VecProgressProgress.upgrade_quorum_set.Goals as goal

pub take_over-requires-clause-none_falls : goal.take_over-requires-clause-none_falls
take_over-requires-clause-none_falls g c =
    none_below g.met.ID.Eq.laws g.P.Ord.cmp g.V.ProgressPart.part_of g.ID.Ord.cmp g.V.Clone.is_clone g.QS.QuorumSet.has_quorum
    g.QS.QuorumSet.is_voter c.args.quorum_set c.args.learners.now c.args.default (view c.in_ok-made.made) c.in_ok-made.ensures.made
    (c.requires.clones_have_the_part c.args.default) (state g.ID.PartialEq.eq (view c.args.self.now)).value c.requires.can_upgrade

pub take_over-requires-clause-voters : goal.take_over-requires-clause-voters
take_over-requires-clause-voters g c =
    new_voters g.met.ID.Eq.laws g.P.Ord.cmp g.V.ProgressPart.part_of g.ID.Ord.cmp g.V.Clone.is_clone g.QS.QuorumSet.has_quorum
    g.QS.QuorumSet.is_voter c.args.quorum_set c.args.learners.now c.args.default (view c.in_ok-made.made) c.in_ok-made.ensures.made

pub returns-clause-made : goal.returns-clause-made
returns-clause-made g c =
    taken_over g.met.ID.Eq.laws g.P.Ord.cmp g.V.ProgressPart.part_of g.ID.Ord.cmp g.V.Clone.is_clone g.QS.QuorumSet.has_quorum
    g.QS.QuorumSet.is_voter c.args.quorum_set c.args.learners.now c.args.default (view c.in_ok-made.made) c.args.self.now.stat
    c.args.self.now.entries.items c.requires.ordered.distinct c.in_ok-made.ensures.made c.in_ok-made.ensures.entries
    c.in_ok-made.ensures.granted (view c.take_over.new.self) c.in_ok-take_over.ensures.takes_over

pub returns-clause-fold : goal.returns-clause-fold
returns-clause-fold g c =
    folded g.met.ID.Eq.laws g.P.Ord.cmp g.V.ProgressPart.part_of g.ID.Ord.cmp g.V.Clone.is_clone g.QS.QuorumSet.has_quorum
    g.QS.QuorumSet.is_voter c.args.quorum_set c.args.learners.now c.args.default (view c.in_ok-made.made) c.args.self.now.stat
    c.args.self.now.entries.items c.requires.ordered.distinct c.in_ok-made.ensures.made c.in_ok-made.ensures.entries
    c.in_ok-made.ensures.granted (view c.take_over.new.self) c.in_ok-take_over.ensures.takes_over

pub returns-clause-learners : goal.returns-clause-learners
returns-clause-learners g c =
    fold_learners g.ID.PartialEq.eq g.ID.Ord.cmp g.P.Ord.cmp g.V.ProgressPart.part_of g.V.Clone.is_clone g.QS.QuorumSet.has_quorum
    g.QS.QuorumSet.is_voter c.args.self.now.entries.items c.args.self.now.stat c.args.quorum_set c.args.learners.now c.args.default
    (view c.take_over.new.self) (returns-clause-fold g c)

pub returns-clause-counts : goal.returns-clause-counts
returns-clause-counts g c =
    fold_counts g.ID.PartialEq.eq g.ID.Ord.cmp g.P.Ord.cmp g.V.ProgressPart.part_of g.V.Clone.is_clone g.QS.QuorumSet.has_quorum
    g.QS.QuorumSet.is_voter c.args.self.now.entries.items c.args.self.now.stat c.args.quorum_set c.args.learners.now c.args.default
    (view c.take_over.new.self) (returns-clause-fold g c) c.in_ok-take_over.ensures.counts
