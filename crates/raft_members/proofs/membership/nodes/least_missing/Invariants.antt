use Rattle.std.proofs.Common.{map, take}
use Rattle.std.specs.BTreeMap.{get}
use Rattle.raft_members.specs.membership.Valid.{FirstWithoutNode}
use Rattle.raft_members.proofs.membership.nodes.least_missing.Given as goal

abbrev pub invariant-loop-c : goal.invariant-loop-c
invariant-loop-c g l = FirstWithoutNode g.NID.PartialEq.eq g.NID.Ord.cmp
    (record { configs = map (λ s. s.keys) (take l.c-index l.configs); node = get g.NID.Ord.cmp l.nodes }) l.least
