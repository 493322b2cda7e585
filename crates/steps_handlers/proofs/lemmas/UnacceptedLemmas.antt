-- A server that restarts: nothing is accepted.
use Rattle.std.proofs.Common.{◌≡◌, Bool, None}
use Rattle.std.specs.declared.cmp.Ordering.{Ordering}
use Rattle.raft_base.specs.declared.utime.UTime.{UTime}
use Rattle.raft_base.specs.declared.vote.VoteIn.{VoteIn}
use Rattle.raft_state.proofs.lemmas.log_id_list.IdOrderLemmas.{none_at_most}
use Rattle.raft_state.specs.Accepted.{last_accepted}
use Rattle.raft_state.specs.log_id_list.FullLog.{full_log}
use Rattle.raft_state.specs.log_id_list.LogReads.{last_id}
use Rattle.raft_state.specs.raft_state.Sound.{IsSound}
use Rattle.raft_state.specs.declared.accepted.AcceptedIn.{AcceptedIn}
use Rattle.raft_state.specs.declared.raft_state.RaftStateIn.{RaftStateIn}

-- a sound state that has accepted nothing, under any vote, is sound
pub unaccepted_sound : {K N I L C : Type 0} (cmp : C → C → Ordering) (eq : C → C → Bool) (s : RaftStateIn K N I L C)
    (vote : UTime (VoteIn L) I) (accepted : AcceptedIn L C) → last_accepted accepted ≡ None → IsSound eq cmp s
    → IsSound eq cmp (record s { vote = vote; accepted = accepted })
unaccepted_sound cmp eq s vote accepted none sound = record {
  valid = sound.valid;
  purge_point = sound.purge_point;
  committed = sound.committed;
  accepted = rw none (none_at_most cmp (last_id (full_log s.log_ids)));
  committed_membership = sound.committed_membership;
  effective_membership = sound.effective_membership;
  known = sound.known;
}
