use Rattle.std.proofs.Common.{◌≡◌, false, take}
use Rattle.std.specs.List.{list_any}
use Rattle.raft_members.proofs.quorum.quorum_set_impl.has.Given as goal

abbrev pub invariant-loop-chunk : goal.invariant-loop-chunk
invariant-loop-chunk g l = list_any (list_any (λ y. g.ID.PartialEq.eq y l.id)) (take l.chunk-index l.chunks) ≡ false
