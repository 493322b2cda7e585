use Rattle.raft_base.specs.LogId.{next_index}
use Rattle.raft_progress.specs.search.Search.{new_search}
use Rattle.std.proofs.Common.{arith}
use Rattle.tests_progress.proofs.laws.conflicts_of.Goals as goal

pub returns : goal.returns
returns g c = c.search_run.ensures.near_digits c.requires.can
    (c.none_purged_past.ensures (new_search c.args.entry.now) c.args.events.now (next_index c.args.entry.now.matching) (omega arith)
    c.requires.purged)
