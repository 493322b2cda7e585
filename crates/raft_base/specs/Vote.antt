-- How votes compare.
use Rattle.std.specs.Prelude.{Bool, true, false, Option, Some, None}
use Rattle.std.specs.declared.cmp.Ordering.{Ordering}
use Rattle.std.specs.declared.cmp.Ordering.TheVariants.{Less, Equal, Greater}
use Rattle.std.specs.Ordering.{bool_cmp, ordering_then}
use Rattle.raft_base.specs.LeaderId.{leader_id_cmp}
use Rattle.raft_base.specs.declared.leader_id.LeaderId.{LeaderId}
use Rattle.raft_base.specs.declared.vote.VoteIn.{VoteIn}

-- how two votes compare, from how their leaders compare and from whether each vote is committed:
-- unequal leaders decide; for equal leaders, and for leaders that do not compare, a committed vote
-- is above an uncommitted one; otherwise votes compare as their leaders do
abbrev pub by_leader_then_committed : Option Ordering → Bool → Bool → Option Ordering
by_leader_then_committed (Some Less) c d = Some Less
by_leader_then_committed (Some Greater) c d = Some Greater
by_leader_then_committed (Some Equal) c d = Some (bool_cmp c d)
by_leader_then_committed None true false = Some Greater
by_leader_then_committed None false true = Some Less
by_leader_then_committed None false false = None
by_leader_then_committed None true true = None

-- by the order of their leaders, then an uncommitted vote below a committed one, also if the leaders
-- do not compare
abbrev pub vote_cmp : {L : Type 0} → (L → L → Option Ordering) → VoteIn L → VoteIn L
    → Option Ordering
vote_cmp leader_order a b =
    by_leader_then_committed (leader_order a.leader_id b.leader_id) a.committed b.committed

-- votes whose leaders compare by term and then by node: by leader, then `false` below `true`
abbrev pub default_vote_cmp : {N : Type 0} → (N → N → Ordering) → VoteIn (LeaderId N)
    → VoteIn (LeaderId N) → Ordering
default_vote_cmp cmp a b =
    ordering_then (leader_id_cmp cmp a.leader_id b.leader_id) (bool_cmp a.committed b.committed)
