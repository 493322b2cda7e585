use Rattle.raft_progress.specs.progress.Comparisons.{Comparisons}
use Rattle.raft_progress.proofs.lemmas.tracked.KnownStaysLemmas.{known_over_changes, known_stays}
use Rattle.raft_progress.proofs.lemmas.progress.Traits.{compared}
use Rattle.raft_progress.proofs.laws.known_stays.Goals as goal

pub returns-clause-without_change : goal.returns-clause-without_change
returns-clause-without_change g c order =
    let by : Comparisons g.row.NID.Denot g.row.V.Denot g.row.P.Denot =
    compared g.NID.PartialEq.eq g.NID.Ord.cmp g.P.Ord.cmp order g.V.ProgressPart.part_of g.V.Clone.is_clone in
    known_stays by g.met.NID.Eq.laws g.met.P.Ord.total g.N.PartialEq.eq

pub returns-clause-over_changes : goal.returns-clause-over_changes
returns-clause-over_changes g c order =
    let by : Comparisons g.row.NID.Denot g.row.V.Denot g.row.P.Denot =
    compared g.NID.PartialEq.eq g.NID.Ord.cmp g.P.Ord.cmp order g.V.ProgressPart.part_of g.V.Clone.is_clone in
    known_over_changes by g.met.NID.Eq.laws g.met.P.Ord.total g.N.PartialEq.eq
