use Rattle.raft_progress.specs.progress.Comparisons.{Comparisons}
use Rattle.raft_progress.specs.tracked.TrackedViewSteps.{IsTrackedViewStep}
use Rattle.raft_progress.specs.tracked.TrackedState.{tracked_state}
use Rattle.raft_progress.specs.tracked.TrackedSteps.{IsSameTracked, IsTrackedStep}
use Rattle.raft_progress.proofs.lemmas.progress.CallStepLemmas.{runs_compose}
use Rattle.raft_progress.proofs.lemmas.progress.GrantedLemmas.{tracked_run_not_lower}
use Rattle.raft_progress.proofs.lemmas.progress.RunLemmas.{run_seen}
use Rattle.raft_progress.proofs.lemmas.tracked.ChangeLemmas.{IsSameTracked-refl}
use Rattle.raft_progress.proofs.lemmas.tracked.TrackedCallLemmas.{tracked_changes_are_steps, tracked_updates_are_steps}
use Rattle.raft_progress.proofs.lemmas.progress.Traits.{compared}
use Rattle.raft_progress.proofs.laws.tracked_calls_are_runs.Goals as goal

pub returns-clause-compose : goal.returns-clause-compose
returns-clause-compose g c order =
    let by : Comparisons g.row.NID.Denot g.row.V.Denot g.row.P.Denot =
    compared g.NID.PartialEq.eq g.NID.Ord.cmp g.P.Ord.cmp order g.V.ProgressPart.part_of g.V.Clone.is_clone in
    runs_compose (IsTrackedViewStep by g.N.PartialEq.eq)

pub returns-clause-updates : goal.returns-clause-updates
returns-clause-updates g c order =
    let by : Comparisons g.row.NID.Denot g.row.V.Denot g.row.P.Denot =
    compared g.NID.PartialEq.eq g.NID.Ord.cmp g.P.Ord.cmp order g.V.ProgressPart.part_of g.V.Clone.is_clone in
    tracked_updates_are_steps by g.N.PartialEq.eq

pub returns-clause-changes : goal.returns-clause-changes
returns-clause-changes g c order =
    let by : Comparisons g.row.NID.Denot g.row.V.Denot g.row.P.Denot =
    compared g.NID.PartialEq.eq g.NID.Ord.cmp g.P.Ord.cmp order g.V.ProgressPart.part_of g.V.Clone.is_clone in
    tracked_changes_are_steps by g.N.PartialEq.eq

pub returns-clause-values : goal.returns-clause-values
returns-clause-values g c order =
    let by : Comparisons g.row.NID.Denot g.row.V.Denot g.row.P.Denot =
    compared g.NID.PartialEq.eq g.NID.Ord.cmp g.P.Ord.cmp order g.V.ProgressPart.part_of g.V.Clone.is_clone in
    λ old new steps replies run. run_seen (IsTrackedViewStep by g.N.PartialEq.eq) (IsTrackedStep by g.N.PartialEq.eq) IsSameTracked
    (tracked_state g.NID.PartialEq.eq) (λ old step reply new s. s.values) IsSameTracked-refl old steps replies new run

pub returns-clause-monotone : goal.returns-clause-monotone
returns-clause-monotone g c order =
    let by : Comparisons g.row.NID.Denot g.row.V.Denot g.row.P.Denot =
    compared g.NID.PartialEq.eq g.NID.Ord.cmp g.P.Ord.cmp order g.V.ProgressPart.part_of g.V.Clone.is_clone in
    λ old new steps replies run none. tracked_run_not_lower by g.met.P.Ord.total g.N.PartialEq.eq old steps replies new run none
