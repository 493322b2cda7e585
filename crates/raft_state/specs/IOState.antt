-- The progress of a node's storage. No other file reads the private field.
use Rattle.std.specs.Prelude.{Bool, Option}
use Rattle.raft_base.specs.declared.log_id.LogIdOf.{LogIdOf}
use Rattle.raft_base.specs.declared.vote.VoteIn.{VoteIn}
use Rattle.raft_state.specs.declared.io_state.IOStateIn.{IOStateIn}
use Rattle.raft_state.specs.declared.io_state.log_io_id.LogIOIdOf.{LogIOIdOf}

-- whether a snapshot is being built, and the public fields
abbrev pub io_state : {L C : Type 0} → Bool → VoteIn L → LogIOIdOf C → Option (LogIdOf C)
    → Option (LogIdOf C) → Option (LogIdOf C) → IOStateIn L C
io_state building vote flushed applied snapshot purged =
    record {
      building_snapshot = building;
      vote = vote;
      flushed = flushed;
      applied = applied;
      snapshot = snapshot;
      purged = purged;
    }

-- whether a snapshot is being built
abbrev pub is_building : {L C : Type 0} → IOStateIn L C → Bool
is_building io = io.building_snapshot

-- the same progress, with a snapshot being built or not
abbrev pub with_building : {L C : Type 0} → IOStateIn L C → Bool → IOStateIn L C
with_building io building = record io { building_snapshot = building }
