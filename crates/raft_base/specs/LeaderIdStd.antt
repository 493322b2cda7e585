-- How leader ids and log ids of standard Raft compare.
use Rattle.std.specs.Prelude.{Bool, Option, Some, None, if◌then◌else◌}
use Rattle.std.specs.declared.cmp.Ordering.{Ordering}
use Rattle.std.specs.declared.cmp.Ordering.TheVariants.{Less, Equal, Greater}
use Rattle.std.specs.Ordering.{nat_cmp, ordering_then, partial_ordering_then}
use Rattle.raft_base.specs.declared.leader_id_std.CommittedLeaderId.{CommittedLeaderId}
use Rattle.raft_base.specs.declared.leader_id_std.LeaderId.{LeaderId}
use Rattle.raft_base.specs.declared.log_id.LogIdOf.{LogIdOf}

-- in one term: no node is below each node, and two different nodes do not compare
abbrev pub voted_cmp : {N : Type 0} → (N → N → Bool) → Option N → Option N → Option Ordering
voted_cmp same None None = Some Equal
voted_cmp same None (Some n) = Some Less
voted_cmp same (Some m) None = Some Greater
voted_cmp same (Some m) (Some n) = if same m n then Some Equal else None

-- by term, and within a term by the node
abbrev pub std_leader_cmp : {N : Type 0} → (N → N → Bool) → LeaderId N → LeaderId N
    → Option Ordering
std_leader_cmp same a b =
    partial_ordering_then (Some (nat_cmp a.term b.term)) (voted_cmp same a.voted_for b.voted_for)

-- log ids: by the term of the leader, and within a term by index
abbrev pub std_log_id_cmp : LogIdOf CommittedLeaderId → LogIdOf CommittedLeaderId → Ordering
std_log_id_cmp a b =
    ordering_then (nat_cmp a.leader_id.term b.leader_id.term) (nat_cmp a.index b.index)
