use Rattle.std.proofs.Common.{◌≡◌, ℕ, take}
use Rattle.std.specs.Borrow.{Bor}
use Rattle.std.specs.Fn.{AnyResult}
use Rattle.std.specs.List.{list_all}
use Rattle.raft_members.specs.quorum.QuorumSize.{QuorumsHaveAtLeast, greatest_by}
use Rattle.raft_members.proofs.quorum.joint_impl.least_of_each.Given as goal

abbrev pub invariant-loop-child : goal.invariant-loop-child
invariant-loop-child g l = ((size : g.row.QS.Denot → ℕ)
    → ((c : Bor g.row.QS.Denot) → AnyResult g.F.Fn l.size_of (c, tt) (λ n. n ≡ size c.now))
    → l.greatest ≡ greatest_by size (take l.child-index l.children))
    × (((c : Bor g.row.QS.Denot)
    → AnyResult g.F.Fn l.size_of (c, tt) (QuorumsHaveAtLeast g.ID.PartialEq.eq (g.QS.QuorumSet.has_quorum c.now)))
    → QuorumsHaveAtLeast g.ID.PartialEq.eq (λ s. list_all (λ c. g.QS.QuorumSet.has_quorum c s) l.children) l.greatest)
