use Rattle.std.specs.Prelude.{◌↔◌, Bool, IfOk, IsTrue}
use Rattle.std.proofs.Common.{List, subst, ◌∙◌}
use Rattle.raft_progress.specs.progress.ProgressView.{state}
use Rattle.raft_progress.specs.progress.Upgrade.{CanUpgrade}
use Rattle.raft_progress.specs.progress.VecProgress.{view}
use Rattle.raft_progress.specs.tracked.TrackedState.{is_voter}
use Rattle.raft_progress.proofs.tracked.membership_progress.VecProgress+NID+V+P+Configs+NID.can_upgrade_to.Goals as goal

pub returns : goal.returns
returns g c =
    subst (λ (v : g.row.NID.Denot → Bool). IfOk c.can_upgrade.result
    (λ can. IsTrue can ↔ CanUpgrade g.NID.PartialEq.eq g.P.Ord.cmp g.V.ProgressPart.part_of v
    (Rattle.raft_members.specs.membership.Learners.learners_of g.NID.PartialEq.eq c.args.membership.now) c.args.default.now
    (state g.NID.PartialEq.eq (view c.args.self.now)).value)) (λ i id. c.in_ok-configs.ensures.voters id i)
    (subst (λ (ls : List g.row.NID.Denot). IfOk c.can_upgrade.result
    (λ can. IsTrue can ↔ CanUpgrade g.NID.PartialEq.eq g.P.Ord.cmp g.V.ProgressPart.part_of
    (is_voter g.NID.PartialEq.eq c.in_ok-configs.configs) ls c.args.default.now
    (state g.NID.PartialEq.eq (view c.args.self.now)).value)) (c.deref.ensures.value ∙ c.in_ok-learners.ensures.same)
    c.can_upgrade.ensures)
