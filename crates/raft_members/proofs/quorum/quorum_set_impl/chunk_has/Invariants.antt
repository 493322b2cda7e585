use Rattle.std.proofs.Common.{◌≡◌, take}
use Rattle.std.specs.List.{list_any}
use Rattle.raft_members.proofs.quorum.quorum_set_impl.chunk_has.Given as goal

abbrev pub invariant-loop-voter : goal.invariant-loop-voter
invariant-loop-voter g l = l.found ≡ list_any (λ y. g.ID.PartialEq.eq y l.id) (take l.voter-index l.chunk)
