use Rattle.std.specs.Prelude.{Bool}
use Rattle.std.specs.Option.{option_copied}
use Rattle.std.proofs.Common.{List, None, ap, subst, sym, ◌∙◌}
use Rattle.raft_members.specs.membership.Members.{members_of}
use Rattle.raft_progress.specs.progress.NewProgress.{LearnersFit}
use Rattle.raft_progress.specs.progress.ProgressView.{state}
use Rattle.raft_progress.specs.progress.Upgrade.{CanUpgrade}
use Rattle.raft_progress.specs.progress.VecProgress.{view}
use Rattle.raft_progress.specs.tracked.TrackedState.{AreLearners, has_quorum, is_voter}
use Rattle.raft_progress.proofs.lemmas.progress.SideLemmas.{sides_of_members}
use Rattle.raft_progress.proofs.lemmas.progress.upgrade.TakeOverLemmas.{folded, new_voters, none_below, taken_over}
use Rattle.raft_progress.proofs.lemmas.progress.upgrade.UpgradeLemmas.{upgraded_none}
use Rattle.raft_progress.proofs.lemmas.tracked.MembershipProgressLemmas.{fold_over, ready_over, upgraded_over}
use Rattle.raft_progress.proofs.lemmas.tracked.TrackedLemmas.{learners_of_fit, ready_upgraded}
use Rattle.raft_progress.proofs.tracked.membership_progress.VecProgress+NID+V+P+Configs+NID.upgraded_to.Goals as goal

pub new-requires-clause-learners_fit : goal.new-requires-clause-learners_fit
new-requires-clause-learners_fit g c =
    subst (LearnersFit g.NID.PartialEq.eq (is_voter g.NID.PartialEq.eq c.in_ok-configs.configs)) (sym c.deref.ensures.value)
    (learners_of_fit g.NID.PartialEq.eq (members_of g.NID.Ord.cmp c.args.membership.now) c.in_ok-configs.configs
    c.in_ok-learners.learners.items c.in_ok-configs.ensures.voters c.in_ok-learners.ensures.learners)

pub sides_of-requires-clause-known : goal.sides_of-requires-clause-known
sides_of-requires-clause-known g c κs within =
    (ready_upgraded g.NID.PartialEq.eq g.NID.Ord.cmp g.P.Ord.cmp g.V.ProgressPart.part_of c.args.membership.now c.in_ok-configs.configs
    c.deref.result.now c.in_ok-configs.ensures.voters c.in_ok-configs.ensures.configs
    (subst (AreLearners g.NID.PartialEq.eq (members_of g.NID.Ord.cmp c.args.membership.now)) (sym c.deref.ensures.value)
    c.in_ok-learners.ensures.learners) g.V.Clone.is_clone c.args.default (λ x. None)
    (view c.in_ok-made.made) c.in_ok-made.ensures.ordered
    (upgraded_none g.NID.PartialEq.eq g.V.Clone.is_clone g.V.ProgressPart.part_of
    (is_voter g.NID.PartialEq.eq c.in_ok-configs.configs) c.in_ok-configs.configs c.deref.result.now c.args.default
    (state g.NID.PartialEq.eq (view c.in_ok-made.made)) c.in_ok-made.ensures.made)).counts_by.known

pub take_over-requires-clause-none_falls : goal.take_over-requires-clause-none_falls
take_over-requires-clause-none_falls g c =
    none_below g.met.NID.Eq.laws g.P.Ord.cmp g.V.ProgressPart.part_of g.NID.Ord.cmp g.V.Clone.is_clone (has_quorum g.NID.PartialEq.eq)
    (is_voter g.NID.PartialEq.eq) c.in_ok-configs.configs c.deref.result.now c.args.default (view c.in_ok-made.made)
    c.in_ok-made.ensures.made (c.requires.clones_have_the_part c.args.default)
    (state g.NID.PartialEq.eq (view c.args.self.now)).value
    (subst (λ (v : g.row.NID.Denot → Bool). CanUpgrade g.NID.PartialEq.eq g.P.Ord.cmp g.V.ProgressPart.part_of v c.deref.result.now
    c.args.default (state g.NID.PartialEq.eq (view c.args.self.now)).value) (λ i id. sym (c.in_ok-configs.ensures.voters id) i)
    (subst (λ (ls : List g.row.NID.Denot). CanUpgrade g.NID.PartialEq.eq g.P.Ord.cmp g.V.ProgressPart.part_of
    (Rattle.raft_members.specs.quorum.Majority.is_voter_of g.NID.PartialEq.eq c.args.membership.now.configs) ls c.args.default
    (state g.NID.PartialEq.eq (view c.args.self.now)).value) (sym (c.deref.ensures.value ∙ c.in_ok-learners.ensures.same))
    c.requires.can_upgrade))

pub take_over-requires-clause-voters : goal.take_over-requires-clause-voters
take_over-requires-clause-voters g c =
    new_voters g.met.NID.Eq.laws g.P.Ord.cmp g.V.ProgressPart.part_of g.NID.Ord.cmp g.V.Clone.is_clone (has_quorum g.NID.PartialEq.eq)
    (is_voter g.NID.PartialEq.eq) c.in_ok-configs.configs c.deref.result.now c.args.default (view c.in_ok-made.made)
    c.in_ok-made.ensures.made

pub take_over-requires-clause-sides : goal.take_over-requires-clause-sides
take_over-requires-clause-sides g c = λ s is ids ascending known.
    let made = view c.in_ok-made.made in
    let counts_by =
    (ready_upgraded g.NID.PartialEq.eq g.NID.Ord.cmp g.P.Ord.cmp g.V.ProgressPart.part_of c.args.membership.now c.in_ok-configs.configs
    c.deref.result.now c.in_ok-configs.ensures.voters c.in_ok-configs.ensures.configs
    (subst (AreLearners g.NID.PartialEq.eq (members_of g.NID.Ord.cmp c.args.membership.now)) (sym c.deref.ensures.value)
    c.in_ok-learners.ensures.learners) g.V.Clone.is_clone c.args.default (λ x. None) made c.in_ok-made.ensures.ordered
    (upgraded_none g.NID.PartialEq.eq g.V.Clone.is_clone g.V.ProgressPart.part_of
    (is_voter g.NID.PartialEq.eq c.in_ok-configs.configs) c.in_ok-configs.configs c.deref.result.now c.args.default
    (state g.NID.PartialEq.eq made) c.in_ok-made.ensures.made)).counts_by in
    sides_of_members g.NID.PartialEq.eq g.NID.Ord.cmp c.args.membership.now s.now
    (c.in_ok-sides.ensures s.now (sym c.as_ref.ensures.value ∙ ap option_copied is)) made.quorum_set counts_by.configs ids
    record { ascending = ascending; known = λ id. known id ∙ counts_by.known id }

pub returns-clause-made : goal.returns-clause-made
returns-clause-made g c = upgraded_over g.NID.PartialEq.eq g.NID.Ord.cmp g.P.Ord.cmp g.V.ProgressPart.part_of g.V.Clone.is_clone view
    c.args.membership.now c.in_ok-configs.configs c.in_ok-configs.ensures.configs c.deref.result.now
    (c.deref.ensures.value ∙ c.in_ok-learners.ensures.same) c.args.default (view c.args.self.now) c.take_over.new.self
    (taken_over g.met.NID.Eq.laws g.P.Ord.cmp g.V.ProgressPart.part_of g.NID.Ord.cmp g.V.Clone.is_clone
    (has_quorum g.NID.PartialEq.eq) (is_voter g.NID.PartialEq.eq) c.in_ok-configs.configs c.deref.result.now c.args.default
    (view c.in_ok-made.made) c.args.self.now.stat c.args.self.now.entries.items c.requires.ordered.distinct
    c.in_ok-made.ensures.made c.in_ok-made.ensures.entries c.in_ok-made.ensures.granted (view c.take_over.new.self)
    c.in_ok-take_over.ensures.takes_over)

pub returns-clause-fold : goal.returns-clause-fold
returns-clause-fold g c = fold_over g.NID.PartialEq.eq g.NID.Ord.cmp g.P.Ord.cmp g.V.ProgressPart.part_of g.V.Clone.is_clone view
    c.args.membership.now c.in_ok-configs.configs c.in_ok-configs.ensures.configs c.deref.result.now
    (c.deref.ensures.value ∙ c.in_ok-learners.ensures.same) c.args.default (view c.args.self.now) c.take_over.new.self
    (taken_over g.met.NID.Eq.laws g.P.Ord.cmp g.V.ProgressPart.part_of g.NID.Ord.cmp g.V.Clone.is_clone
    (has_quorum g.NID.PartialEq.eq) (is_voter g.NID.PartialEq.eq) c.in_ok-configs.configs c.deref.result.now c.args.default
    (view c.in_ok-made.made) c.args.self.now.stat c.args.self.now.entries.items c.requires.ordered.distinct
    c.in_ok-made.ensures.made c.in_ok-made.ensures.entries c.in_ok-made.ensures.granted (view c.take_over.new.self)
    c.in_ok-take_over.ensures.takes_over)
    (folded g.met.NID.Eq.laws g.P.Ord.cmp g.V.ProgressPart.part_of g.NID.Ord.cmp g.V.Clone.is_clone
    (has_quorum g.NID.PartialEq.eq) (is_voter g.NID.PartialEq.eq) c.in_ok-configs.configs c.deref.result.now c.args.default
    (view c.in_ok-made.made) c.args.self.now.stat c.args.self.now.entries.items c.requires.ordered.distinct
    c.in_ok-made.ensures.made c.in_ok-made.ensures.entries c.in_ok-made.ensures.granted (view c.take_over.new.self)
    c.in_ok-take_over.ensures.takes_over)

pub returns-clause-ready : goal.returns-clause-ready
returns-clause-ready g c =
    ready_over g.NID.PartialEq.eq g.NID.Ord.cmp g.P.Ord.cmp g.V.ProgressPart.part_of g.V.Clone.is_clone view c.args.membership.now
    c.in_ok-configs.configs c.in_ok-configs.ensures.configs c.deref.result.now (c.deref.ensures.value ∙ c.in_ok-learners.ensures.same)
    c.args.default (view c.args.self.now) c.in_ok-configs.ensures.voters
    (subst (AreLearners g.NID.PartialEq.eq (members_of g.NID.Ord.cmp c.args.membership.now)) (sym c.deref.ensures.value)
    c.in_ok-learners.ensures.learners)
    c.take_over.new.self c.in_ok-take_over.ensures.ordered
    (taken_over g.met.NID.Eq.laws g.P.Ord.cmp g.V.ProgressPart.part_of g.NID.Ord.cmp g.V.Clone.is_clone
    (has_quorum g.NID.PartialEq.eq) (is_voter g.NID.PartialEq.eq) c.in_ok-configs.configs c.deref.result.now c.args.default
    (view c.in_ok-made.made) c.args.self.now.stat c.args.self.now.entries.items c.requires.ordered.distinct
    c.in_ok-made.ensures.made c.in_ok-made.ensures.entries c.in_ok-made.ensures.granted (view c.take_over.new.self)
    c.in_ok-take_over.ensures.takes_over)
