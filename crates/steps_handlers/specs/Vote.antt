-- When a voter grants its vote.
use Rattle.std.specs.Prelude.{◌≡◌, Bool, false, not, ◌&&◌, Option, IsTrue}
use Rattle.std.specs.Ordering.{partial_ge}
use Rattle.std.specs.declared.cmp.Ordering.{Ordering}
use Rattle.raft_base.specs.LogId.{id_le}
use Rattle.raft_base.specs.UTime.{moment_of, utime_of}
use Rattle.raft_base.specs.Vote.{vote_cmp}
use Rattle.raft_base.specs.declared.log_id.LogIdOf.{LogIdOf}
use Rattle.steps_handlers.specs.declared.message.VoteRequest.{VoteRequest}
use Rattle.steps_handlers.specs.declared.message.VoteResponse.{VoteResponse}
use Rattle.raft_state.specs.log_id_list.FullLog.{full_log}
use Rattle.raft_state.specs.log_id_list.LogReads.{last_id}
use Rattle.raft_state.specs.raft_state.VoteAndLog.{vote_of}
use Rattle.raft_state.specs.declared.raft_state.RaftStateIn.{RaftStateIn}

-- a log that ends with this log id is at least as up to date as that of a state: its last log id is
-- at least the state's
abbrev pub is_up_to_date : {K N I L C : Type 0} → (C → C → Ordering) → Option (LogIdOf C)
    → RaftStateIn K N I L C → Bool
is_up_to_date cmp last s = id_le cmp (last_id (full_log s.log_ids)) last

-- a candidate may have the vote that it asks for: its log is at least as up to date, the vote is not
-- committed, and it is at least the voter's own
abbrev pub may_have_vote : {K N I L C : Type 0} → (L → L → Option Ordering) → (C → C → Ordering)
    → VoteRequest L C → RaftStateIn K N I L C → Bool
may_have_vote order cmp request s =
    is_up_to_date cmp request.last_log_id s && not request.vote.committed
    && partial_ge (vote_cmp order) request.vote (vote_of s)

-- a voter has answered a candidate: the vote is granted exactly if the candidate may have it; then it
-- is the voter's own, at the same moment, and otherwise nothing changes. The answer has the voter's
-- vote, which never falls
pub record Grants {K N I L C : Type 0} (order : L → L → Option Ordering) (cmp : C → C → Ordering)
    (request : VoteRequest L C) (old : RaftStateIn K N I L C) (response : VoteResponse L)
    (new : RaftStateIn K N I L C) : Type 0 where
  pub granted : response.granted ≡ may_have_vote order cmp request old
  pub taken : IsTrue response.granted
      → new ≡ record old { vote = utime_of request.vote (moment_of old.vote) }
  pub refused : response.granted ≡ false → new ≡ old
  pub answer : response.vote ≡ vote_of new
  pub monotone : IsTrue (partial_ge (vote_cmp order) (vote_of new) (vote_of old))
