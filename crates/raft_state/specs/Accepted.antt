-- What a node has accepted of a leader's log. No other file reads the private fields.
use Rattle.std.specs.Prelude.{Bool, Option, None, if◌then◌else◌}
use Rattle.std.specs.declared.cmp.Ordering.{Ordering}
use Rattle.raft_base.specs.declared.log_id.LogIdOf.{LogIdOf}
use Rattle.raft_base.specs.LogId.{id_le, id_lt}
use Rattle.raft_state.specs.declared.accepted.AcceptedIn.{AcceptedIn}

-- a log id that was accepted from a leader
abbrev pub accepted_from : {L C : Type 0} → L → Option (LogIdOf C) → AcceptedIn L C
accepted_from leader id = record { leader_id = leader; log_id = id }

-- the leader
abbrev pub leader_of : {L C : Type 0} → AcceptedIn L C → L
leader_of accepted = accepted.leader_id

-- the log id
abbrev pub last_accepted : {L C : Type 0} → AcceptedIn L C → Option (LogIdOf C)
last_accepted accepted = accepted.log_id

-- the log id that was accepted from this leader, and none for any other leader
abbrev pub accepted_id : {L C : Type 0} → (L → L → Bool) → AcceptedIn L C → L → Option (LogIdOf C)
accepted_id eq accepted leader = if eq leader accepted.leader_id then accepted.log_id else None

-- a greater log id of this leader replaces what was accepted
abbrev pub after_accept : {L C : Type 0} → (L → L → Bool) → (C → C → Ordering) → AcceptedIn L C → L
    → Option (LogIdOf C) → AcceptedIn L C
after_accept eq cmp accepted leader id =
    if id_lt cmp (accepted_id eq accepted leader) id then accepted_from leader id else accepted

-- what is accepted of a log that ends with this log id: at most that log id
abbrev pub accepted_upto : {L C : Type 0} → (C → C → Ordering) → AcceptedIn L C
    → Option (LogIdOf C) → AcceptedIn L C
accepted_upto cmp accepted last =
    if id_le cmp accepted.log_id last then accepted else accepted_from accepted.leader_id last
