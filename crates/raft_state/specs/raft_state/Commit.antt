-- What a greater committed log id does to a state.
use Rattle.std.specs.Prelude.{Bool, true, ◌&&◌, Option, Some, None, if◌then◌else◌}
use Rattle.std.specs.declared.cmp.Ordering.{Ordering}
use Rattle.raft_base.specs.LogId.{id_lt}
use Rattle.raft_base.specs.declared.log_id.LogIdOf.{LogIdOf}
use Rattle.raft_state.specs.membership_state.MembershipMoves.{after_commit, commits, may_commit}
use Rattle.raft_state.specs.declared.raft_state.RaftStateIn.{RaftStateIn}

-- a greater log id is committed, and with it the effective membership if it is not past that log id
abbrev pub state_after_commit : {K N I L C : Type 0} → (C → C → Ordering) → Option (LogIdOf C)
    → RaftStateIn K N I L C → RaftStateIn K N I L C
state_after_commit cmp id s =
    if id_lt cmp s.committed id
    then record s { committed = id; membership_state = after_commit cmp id s.membership_state }
    else s

-- a greater log id is committed, and with it the effective membership
abbrev pub state_commits : {K N I L C : Type 0} → (C → C → Ordering) → Option (LogIdOf C)
    → RaftStateIn K N I L C → Bool
state_commits cmp id s = id_lt cmp s.committed id && commits cmp id s.membership_state

-- the log id that was committed before, if a greater one is now committed
abbrev pub committed_before : {K N I L C : Type 0} → (C → C → Ordering) → Option (LogIdOf C)
    → RaftStateIn K N I L C → Option (Option (LogIdOf C))
committed_before cmp id s = if id_lt cmp s.committed id then Some s.committed else None

-- a greater log id may be committed if the memberships allow it
abbrev pub state_may_commit : {K N I L C : Type 0} → (C → C → Ordering) → Option (LogIdOf C)
    → RaftStateIn K N I L C → Bool
state_may_commit cmp id s =
    if id_lt cmp s.committed id then may_commit cmp id s.membership_state else true
