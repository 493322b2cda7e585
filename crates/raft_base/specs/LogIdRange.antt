-- Which ranges of logs are valid.
use Rattle.std.specs.Prelude.{Bool, List, [], ◌∷◌}
use Rattle.std.specs.declared.cmp.Ordering.{Ordering}
use Rattle.raft_base.specs.LogId.{id_le}
use Rattle.raft_base.specs.declared.log_id.log_id_range.LogIdRangeOf.{LogIdRangeOf}
use Rattle.raft_base.specs.declared.log_id.validate.Invalid.{Invalid}
use Rattle.raft_base.specs.declared.log_id.validate.Invalid.TheVariants.{RangeOrder}

-- a range does not end before it begins
abbrev pub range_relations : {C : Type 0} → (C → C → Ordering) → LogIdRangeOf C
    → List (Bool × Invalid)
range_relations cmp range = (id_le cmp range.prev range.last, RangeOrder) ∷ []
