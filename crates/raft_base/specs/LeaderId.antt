-- How leader ids compare.
use Rattle.std.specs.declared.cmp.Ordering.{Ordering}
use Rattle.std.specs.Ordering.{ordering_then, nat_cmp}
use Rattle.raft_base.specs.declared.leader_id.LeaderId.{LeaderId}

-- by term, and within a term by the order of node ids
abbrev pub leader_id_cmp : {N : Type 0} → (N → N → Ordering) → LeaderId N → LeaderId N → Ordering
leader_id_cmp cmp a b = ordering_then (nat_cmp a.term b.term) (cmp a.node_id b.node_id)
