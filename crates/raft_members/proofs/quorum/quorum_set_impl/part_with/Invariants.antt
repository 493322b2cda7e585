use Rattle.std.proofs.Common.{◌≡◌, length}
use Rattle.std.specs.List.{list_any}
use Rattle.std.specs.List.Sorted.{IsSorted}
use Rattle.raft_members.proofs.quorum.quorum_set_impl.part_with.Given as goal

abbrev pub invariant-loop-part : goal.invariant-loop-part
invariant-loop-part g l = IsSorted g.ID.Ord.cmp l.voters
    → (IsSorted g.ID.Ord.cmp l.part) × (list_any (λ y. g.ID.PartialEq.eq y l.id) l.part ≡ list_any (λ y. g.ID.PartialEq.eq y l.id) l.voters)

abbrev pub decreases-loop-part : goal.decreases-loop-part
decreases-loop-part g l = length l.part
