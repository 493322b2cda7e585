use Rattle.raft_progress.proofs.lemmas.catch_up.CatchUpLemmas.{Along, to_go}
use Rattle.raft_progress.proofs.catch_up.catch_up_entry.Given as goal

abbrev pub invariant-turns : goal.invariant-turns
invariant-turns g l = Along g.C.PartialEq.eq g.C.Ord.cmp (g.L.LogStateReader.log_view l.log) l.max_entries l.fn.entry l.fn.agree l.entry
    l.agreed l.conflicts l.acks

abbrev pub decreases-turns : goal.decreases-turns
decreases-turns g l = to_go (g.L.LogStateReader.log_view l.log) l.entry
