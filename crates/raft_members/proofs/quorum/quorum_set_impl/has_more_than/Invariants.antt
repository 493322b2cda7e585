use Rattle.std.proofs.Common.{◌≡◌, ◌≤◌, Bool, count_by, take}
use Rattle.std.specs.Fn.{AnyResult}
use Rattle.raft_members.proofs.quorum.quorum_set_impl.has_more_than.Given as goal

abbrev pub invariant-loop-id : goal.invariant-loop-id
invariant-loop-id g l = ((voter : g.row.ID.Denot → Bool) → ((x : g.row.ID.Denot) → AnyResult g.F.Fn l.is_voter (x, tt) (λ b. b ≡ voter x))
    → l.found ≡ count_by voter (take l.id-index l.ids)) × (l.found ≤ l.limit)
