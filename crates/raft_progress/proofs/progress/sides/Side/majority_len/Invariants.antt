use Rattle.std.proofs.Common.{◌≡◌, ◌<◌, count_by, false, get_or, take}
use Rattle.raft_progress.proofs.progress.sides.Side.majority_len.Given as goal

-- the voters so far are counted, and are no majority
abbrev pub invariant-loop-position : goal.invariant-loop-position
invariant-loop-position l = record {
  counted : l.found ≡ count_by (λ r. get_or l.self.has.items r false) (take l.position l.ranks);
  few : l.found < l.self.need;
}
