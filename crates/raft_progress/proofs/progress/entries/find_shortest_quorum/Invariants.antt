use Rattle.std.proofs.Common.{◌-◌, ◌<◌, ◌^◌, length}
use Rattle.raft_progress.proofs.lemmas.progress.entries.PrefixLemmas.{Halves}
use Rattle.raft_progress.proofs.progress.entries.find_shortest_quorum.Given as goal

-- each test halves the remaining prefixes
abbrev pub invariant-loop-failed : goal.invariant-loop-failed
invariant-loop-failed g l = record {
  halves : Halves g.ID.PartialEq.eq (g.QS.QuorumSet.has_quorum l.quorum_set) l.voters l.low l.high l.failed l.end l.left l.tests;
  fits : length l.voters < 2 ^ 64;
}

abbrev pub decreases-loop-failed : goal.decreases-loop-failed
decreases-loop-failed g l = l.end - l.failed
