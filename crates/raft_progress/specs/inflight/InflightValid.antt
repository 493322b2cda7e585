-- When what is in flight is valid.
use Rattle.std.specs.Prelude.{Bool, List, []}
use Rattle.std.specs.declared.cmp.Ordering.{Ordering}
use Rattle.raft_base.specs.LogIdRange.{range_relations}
use Rattle.raft_base.specs.declared.log_id.validate.Invalid.{Invalid}
use Rattle.raft_progress.specs.declared.inflight.InflightOf.{InflightOf}
use Rattle.raft_progress.specs.declared.inflight.InflightOf.TheVariants.{None as Idle, Logs, Snapshot}

-- logs in flight are a valid range
abbrev pub inflight_relations : {C : Type 0} → (C → C → Ordering) → InflightOf C
    → List (Bool × Invalid)
inflight_relations cmp Idle = []
inflight_relations cmp (Logs id range) = range_relations cmp range
inflight_relations cmp (Snapshot id last) = []
