use Rattle.raft_progress.specs.progress.Comparisons.{Comparisons}
use Rattle.raft_progress.specs.progress.ProgressState.{IsSame}
use Rattle.raft_progress.specs.progress.ProgressView.{state}
use Rattle.raft_progress.specs.progress.ViewSteps.{IsViewStep}
use Rattle.raft_progress.specs.progress.Steps.{IsStep}
use Rattle.raft_progress.proofs.lemmas.progress.CallStepLemmas.{increases_are_steps, runs_compose, updates_are_steps, upgrades_are_steps}
use Rattle.raft_progress.proofs.lemmas.progress.GrantedLemmas.{run_not_lower}
use Rattle.raft_progress.proofs.lemmas.progress.RunLemmas.{run_seen}
use Rattle.raft_progress.proofs.lemmas.progress.Traits.{compared}
use Rattle.raft_progress.proofs.lemmas.progress.UpdateLemmas.{IsSame-refl}
use Rattle.raft_progress.proofs.laws.calls_are_runs.Goals as goal

pub returns-clause-compose : goal.returns-clause-compose
returns-clause-compose g c order =
    let by : Comparisons g.row.ID.Denot g.row.V.Denot g.row.P.Denot =
    compared g.ID.PartialEq.eq g.ID.Ord.cmp g.P.Ord.cmp order g.V.ProgressPart.part_of g.V.Clone.is_clone in
    runs_compose (IsViewStep by g.QS.QuorumSet.has_quorum g.QS.QuorumSet.is_voter)

pub returns-clause-updates : goal.returns-clause-updates
returns-clause-updates g c order =
    let by : Comparisons g.row.ID.Denot g.row.V.Denot g.row.P.Denot =
    compared g.ID.PartialEq.eq g.ID.Ord.cmp g.P.Ord.cmp order g.V.ProgressPart.part_of g.V.Clone.is_clone in
    updates_are_steps by g.met.ID.Eq.laws g.met.P.Ord.total g.QS.QuorumSet.has_quorum g.QS.QuorumSet.is_voter

pub returns-clause-increases : goal.returns-clause-increases
returns-clause-increases g c order =
    let by : Comparisons g.row.ID.Denot g.row.V.Denot g.row.P.Denot =
    compared g.ID.PartialEq.eq g.ID.Ord.cmp g.P.Ord.cmp order g.V.ProgressPart.part_of g.V.Clone.is_clone in
    increases_are_steps by g.met.ID.Eq.laws g.met.P.Ord.total g.QS.QuorumSet.has_quorum g.QS.QuorumSet.is_voter

pub returns-clause-upgrades : goal.returns-clause-upgrades
returns-clause-upgrades g c order =
    let by : Comparisons g.row.ID.Denot g.row.V.Denot g.row.P.Denot =
    compared g.ID.PartialEq.eq g.ID.Ord.cmp g.P.Ord.cmp order g.V.ProgressPart.part_of g.V.Clone.is_clone in
    upgrades_are_steps by g.met.ID.Eq.laws g.met.P.Ord.total g.QS.QuorumSet.has_quorum g.QS.QuorumSet.is_voter

pub returns-clause-values : goal.returns-clause-values
returns-clause-values g c order =
    let by : Comparisons g.row.ID.Denot g.row.V.Denot g.row.P.Denot =
    compared g.ID.PartialEq.eq g.ID.Ord.cmp g.P.Ord.cmp order g.V.ProgressPart.part_of g.V.Clone.is_clone in
    λ old new steps replies run. run_seen (IsViewStep by g.QS.QuorumSet.has_quorum g.QS.QuorumSet.is_voter)
    (IsStep by g.QS.QuorumSet.has_quorum g.QS.QuorumSet.is_voter) IsSame (state g.ID.PartialEq.eq) (λ old step reply new s. s.values)
    IsSame-refl old steps replies new run

pub returns-clause-monotone : goal.returns-clause-monotone
returns-clause-monotone g c order =
    let by : Comparisons g.row.ID.Denot g.row.V.Denot g.row.P.Denot =
    compared g.ID.PartialEq.eq g.ID.Ord.cmp g.P.Ord.cmp order g.V.ProgressPart.part_of g.V.Clone.is_clone in
    λ old new steps replies run none. run_not_lower by g.met.P.Ord.total g.QS.QuorumSet.has_quorum g.QS.QuorumSet.is_voter old steps
    replies new run none
