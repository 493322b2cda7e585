-- When a server follows a leader that has sent a request, and the vote that it then has.
use Rattle.std.specs.Prelude.{Bool, true, Option, if◌then◌else◌}
use Rattle.std.specs.Ordering.{partial_ge}
use Rattle.std.specs.declared.cmp.Ordering.{Ordering}
use Rattle.raft_base.specs.UTime.{moment_of, utime_of}
use Rattle.raft_base.specs.Vote.{vote_cmp}
use Rattle.raft_base.specs.declared.utime.UTime.{UTime}
use Rattle.raft_base.specs.declared.vote.VoteIn.{VoteIn}
use Rattle.steps_handlers.specs.declared.message.Outcome.TheVariants.{HigherVote}
use Rattle.steps_handlers.specs.declared.message.RequestNumber.{RequestNumber}
use Rattle.steps_handlers.specs.declared.message.Response.{Response}
use Rattle.raft_state.specs.raft_state.VoteAndLog.{vote_of}
use Rattle.raft_state.specs.declared.raft_state.RaftStateIn.{RaftStateIn}

-- the vote that an elected leader's requests stand for
abbrev pub committed_vote_of : {L : Type 0} → L → VoteIn L
committed_vote_of leader = record { leader_id = leader; committed = true }

-- a server follows a leader: the leader's vote is at least the server's own
abbrev pub is_followed : {K N I L C : Type 0} → (L → L → Option Ordering) → L → RaftStateIn K N I L C
    → Bool
is_followed order leader s = partial_ge (vote_cmp order) (committed_vote_of leader) (vote_of s)

-- the vote of a server that has heard a leader: the leader's vote at the same moment, if the leader is
-- followed
abbrev pub vote_heard : {K N I L C : Type 0} → (L → L → Option Ordering) → L → RaftStateIn K N I L C
    → UTime (VoteIn L) I
vote_heard order leader s =
    if is_followed order leader s then utime_of (committed_vote_of leader) (moment_of s.vote) else s.vote

-- a server that has heard a leader: its vote alone has changed
abbrev pub heard : {K N I L C : Type 0} → (L → L → Option Ordering) → L → RaftStateIn K N I L C
    → RaftStateIn K N I L C
heard order leader s = record s { vote = vote_heard order leader s }

-- the response to a leader that is not followed: it names the leader and the request, and has the vote
-- that the server has promised
abbrev pub higher_vote_response : {K N I L C : Type 0} → (leader : C) → (request : RequestNumber)
    → RaftStateIn K N I L C → Response L C
higher_vote_response leader request s =
    record { leader_id = leader; request = request; outcome = HigherVote (vote_of s) }
