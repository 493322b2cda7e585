-- What contracts see of an `AtLeast`. No other file reads its private fields.
use Rattle.std.specs.Prelude.{◌≡◌, ℕ, List}
use Rattle.std.specs.declared.cmp.Ord as order_ghosts
use Rattle.std.specs.declared.cmp.PartialEq as eq_ghosts
use Rattle.std.specs.declared.cmp.PartialOrd as partial_ghosts
use Rattle.raft_members.specs.declared.quorum.at_least.AtLeast.{AtLeast}

-- the ids of which a quorum has at least a stated number
abbrev pub ids_of : {ID : Type 0} {o : order_ghosts.Ghosts ID} {e : eq_ghosts.Ghosts ID}
    {q : partial_ghosts.Ghosts ID} → AtLeast ID o e q → List ID
ids_of q = q.ids.items

-- the number of its ids that a quorum must have
abbrev pub need_of : {ID : Type 0} {o : order_ghosts.Ghosts ID} {e : eq_ghosts.Ghosts ID}
    {q : partial_ghosts.Ghosts ID} → AtLeast ID o e q → ℕ
need_of q = q.need

-- the same ids and the same number
abbrev pub IsAlike : {ID : Type 0} {o : order_ghosts.Ghosts ID} {e : eq_ghosts.Ghosts ID}
    {q : partial_ghosts.Ghosts ID} → AtLeast ID o e q → AtLeast ID o e q → Type 0
IsAlike a b = (ids_of b ≡ ids_of a) × (need_of b ≡ need_of a)
