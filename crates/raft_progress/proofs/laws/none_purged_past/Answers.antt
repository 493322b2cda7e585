use Rattle.raft_progress.proofs.lemmas.search.PurgedLemmas.{none_purged_past}
use Rattle.raft_progress.proofs.laws.none_purged_past.Goals as goal

pub returns : goal.returns
returns g c search events index within all = none_purged_past g.C.Ord.cmp g.L.LogStateReader.log_view index search events within all
