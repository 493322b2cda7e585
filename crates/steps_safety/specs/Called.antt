-- A call of a handler is a step of a run. Each of these facts is about every world in which a server has the
-- state before the call, and the world in which it has the state after the call and has sent its message.
use Rattle.std.specs.Prelude.{◌≡◌, ◌⊎◌, ◌≤◌, Bool, false, List, [], ◌∷◌, Option, Some, None, IsTrue}
use Rattle.raft_base.specs.LogId.{next_index}
use Rattle.raft_base.specs.declared.log_id.LogIdOf.{LogIdOf}
use Rattle.raft_base.specs.declared.vote.VoteIn.{VoteIn}
use Rattle.steps_handlers.specs.Campaign.{Campaign, grants_vote}
use Rattle.steps_handlers.specs.Compared.{LeaderMembers}
use Rattle.steps_handlers.specs.Leadership.{Leadership}
use Rattle.steps_handlers.specs.Restart.{entries_past}
use Rattle.steps_handlers.specs.declared.message.AppendEntries.{AppendEntries}
use Rattle.steps_handlers.specs.declared.message.Heartbeat.{Heartbeat}
use Rattle.steps_handlers.specs.declared.message.InstallSnapshot.{InstallSnapshot}
use Rattle.steps_handlers.specs.declared.message.Outcome.{Outcome}
use Rattle.steps_handlers.specs.declared.message.VoteRequest.{VoteRequest}
use Rattle.steps_handlers.specs.declared.message.VoteResponse.{VoteResponse}
use Rattle.raft_progress.specs.progress.Comparisons.{OrdMembers}
use Rattle.raft_progress.specs.declared.inflight.InflightOf.{InflightOf}
use Rattle.steps_safety.specs.Disk.{HasOnDisk}
use Rattle.steps_safety.specs.Running.{Answered, Carries, Cluster, Counted, CountsByEffective, CountsTrueMatches, EntriesSent, Leads, Message, SnapshotSent, Step, VoteAnswered, VoteAsked, WasBuilt, WasWritten, World, Written, vote_in}
use Rattle.steps_safety.specs.Seen.{seen}
use Rattle.safety_laws.specs.Ranks.{IsAmong}
use Rattle.raft_state.specs.log_id_list.FullLog.{full_log}
use Rattle.raft_state.specs.log_id_list.Keys.{may_be_keys}
use Rattle.raft_state.specs.log_id_list.LogReads.{id_at, last_id}
use Rattle.raft_state.specs.raft_state.VoteAndLog.{vote_of}
use Rattle.raft_state.specs.declared.entry.EntryOf.{EntryOf}
use Rattle.raft_state.specs.declared.raft_state.RaftStateIn.{RaftStateIn}
use Rattle.raft_state.specs.declared.snapshot_meta.SnapshotMetaOf.{SnapshotMetaOf}

-- one world comes after another: a server had one state and has another, with a campaign or none, and the
-- network has these messages. The other servers have done nothing
pub record ComesAfter {K N I L C D : Type 0} (eq : K → K → Bool) (s : K) (old new : RaftStateIn K N I L C)
    (campaign : Option (Campaign K N L C)) (network : List (Message K N L C D))
    (w v : World K N I L C D) : Type 0 where
  pub before : w.servers s ≡ old
  pub after : v.servers s ≡ new
  pub has_campaign : v.campaigns s ≡ campaign
  pub sent : v.network ≡ network
  pub others : (r : K) → eq s r ≡ false → v.servers r ≡ w.servers r
  pub other_campaigns : (r : K) → eq s r ≡ false → v.campaigns r ≡ w.campaigns r

module _ {K N I L C : Type 0} (D : Type 0) (ids : OrdMembers K) (node_eq : N → N → Bool)
    (kind : LeaderMembers L K C) (logs : OrdMembers C) where
  -- an answer to another server that asks for a vote
  abbrev pub VoteIsStep : VoteRequest L C → RaftStateIn K N I L C → VoteResponse L
      → RaftStateIn K N I L C → Type 0
  VoteIsStep request old response new =
      (c : Cluster K L) (s : K) (w v : World K N I L C D)
      → ComesAfter ids.eq s old new (w.campaigns s) (VoteAnswered s response ∷ w.network) w v
      → IsAmong (VoteAsked request) w.network → (kind.voted request.vote.leader_id ≡ Some s → ⊥)
      → Step ids node_eq kind logs c w v

  -- an answer to a leader that has sent entries
  abbrev pub AppendIsStep : AppendEntries L C K N D → RaftStateIn K N I L C → Outcome L C
      → RaftStateIn K N I L C → Type 0
  AppendIsStep request old outcome new =
      (c : Cluster K L) (s : K) (w v : World K N I L C D)
      → ComesAfter ids.eq s old new (w.campaigns s) (Answered s request.leader_id outcome ∷ w.network) w v
      → IsAmong (EntriesSent request) w.network → (kind.voted request.leader_id ≡ Some s → ⊥)
      → Step ids node_eq kind logs c w v

  -- an answer to a leader that has sent a snapshot, which has a last log id
  abbrev pub InstallIsStep : InstallSnapshot L C K N → RaftStateIn K N I L C → Outcome L C
      → RaftStateIn K N I L C → Type 0
  InstallIsStep request old outcome new =
      (c : Cluster K L) (s : K) (w v : World K N I L C D) (upto : LogIdOf C)
      → ComesAfter ids.eq s old new (w.campaigns s) (Answered s request.leader_id outcome ∷ w.network) w v
      → IsAmong (SnapshotSent request) w.network → (kind.voted request.leader_id ≡ Some s → ⊥)
      → request.meta.last_log_id ≡ Some upto → Step ids node_eq kind logs c w v

  -- a vote that a response has. The campaign is as it was, or over
  abbrev pub HearingIsStep : VoteIn L → RaftStateIn K N I L C → RaftStateIn K N I L C → Type 0
  HearingIsStep vote old new =
      (c : Cluster K L) (s : K) (w v : World K N I L C D) (campaign : Option (Campaign K N L C))
      (response : Message K N L C D) → ComesAfter ids.eq s old new campaign w.network w v
      → (campaign ≡ w.campaigns s) ⊎ (campaign ≡ None) → IsAmong response w.network
      → vote_in response ≡ Some vote → Step ids node_eq kind logs c w v

  -- a campaign, which counts by the effective membership
  abbrev pub CampaignIsStep : K → RaftStateIn K N I L C → Campaign K N L C → RaftStateIn K N I L C → Type 0
  CampaignIsStep s old made new =
      (c : Cluster K L) (w v : World K N I L C D)
      → ComesAfter ids.eq s old new (Some made)
      (VoteAsked (record { vote = made.vote; last_log_id = made.last_log_id })
      ∷ Counted made.vote.leader_id made.votes.membership.configs ∷ w.network) w v
      → IsAmong made.vote.leader_id c.leaders → Step ids node_eq kind logs c w v

  -- an election of the server's own candidate
  abbrev pub ElectionIsStep : Campaign K N L C → RaftStateIn K N I L C → RaftStateIn K N I L C → Type 0
  ElectionIsStep candidate old new =
      (c : Cluster K L) (s : K) (w v : World K N I L C D)
      → ComesAfter ids.eq s old new (w.campaigns s) w.network w v → w.campaigns s ≡ Some candidate
      → Step ids node_eq kind logs c w v

  -- a proposal of an entry without a membership, after the first entry
  abbrev pub ProposalIsStep : Leadership K N C → RaftStateIn K N I L C → EntryOf C K N D
      → RaftStateIn K N I L C → Type 0
  ProposalIsStep leader old entry new =
      (c : Cluster K L) (s : K) (w v : World K N I L C D) (last : LogIdOf C)
      → ComesAfter ids.eq s old new (w.campaigns s) (Written entry ∷ w.network) w v → leader.id ≡ s
      → IsAmong (vote_of old).leader_id c.leaders → last_id (full_log old.log_ids) ≡ Some last
      → Step ids node_eq kind logs c w v

  -- a proposal of a membership, by a leader that counts true matches by the effective membership
  abbrev pub ChangeIsStep : Leadership K N C → RaftStateIn K N I L C → EntryOf C K N D
      → RaftStateIn K N I L C → Type 0
  ChangeIsStep leader old entry new =
      (c : Cluster K L) (s : K) (w v : World K N I L C D) (last : LogIdOf C)
      → ComesAfter ids.eq s old new (w.campaigns s) (Written entry ∷ w.network) w v
      → Leads ids node_eq kind logs c s w v leader → last_id (full_log old.log_ids) ≡ Some last
      → CountsByEffective leader old → CountsTrueMatches ids.eq s w leader
      → Step ids node_eq kind logs c w v

  -- a send of what is put in flight, in a request that carries it, with entries of the leader's log, as they
  -- were written
  abbrev pub SendIsStep : Leadership K N C → RaftStateIn K N I L C → InflightOf C → Type 0
  SendIsStep leader state sending =
      (c : Cluster K L) (s : K) (w v : World K N I L C D) (request : AppendEntries L C K N D)
      → ComesAfter ids.eq s state state (w.campaigns s) (EntriesSent request ∷ w.network) w v
      → Leads ids node_eq kind logs c s w v leader → request.leader_id ≡ (vote_of state).leader_id
      → Carries ids node_eq kind logs c s w v sending request.prev
      → ((e : EntryOf C K N D) → IsAmong e request.entries.items
      → (id_at (full_log state.log_ids) e.log_id.index ≡ Some e.log_id) × WasWritten c w e)
      → request.committed ≡ state.committed → Step ids node_eq kind logs c w v

  -- a send of a heartbeat, in a request without entries that asks what the heartbeat says
  abbrev pub HeartbeatIsStep : Leadership K N C → RaftStateIn K N I L C → Heartbeat C → Type 0
  HeartbeatIsStep leader state heartbeat =
      (c : Cluster K L) (s : K) (w v : World K N I L C D) (request : AppendEntries L C K N D)
      → ComesAfter ids.eq s state state (w.campaigns s) (EntriesSent request ∷ w.network) w v
      → Leads ids node_eq kind logs c s w v leader → request.leader_id ≡ (vote_of state).leader_id
      → request.prev ≡ heartbeat.prev → request.entries.items ≡ [] → request.committed ≡ state.committed
      → Step ids node_eq kind logs c w v

  -- a commit by the effective membership, of true matches
  abbrev pub CommitIsStep : Leadership K N C → RaftStateIn K N I L C → RaftStateIn K N I L C → Type 0
  CommitIsStep leader old new =
      (c : Cluster K L) (s : K) (w v : World K N I L C D)
      → ComesAfter ids.eq s old new (w.campaigns s) w.network w v
      → Leads ids node_eq kind logs c s w v leader → CountsByEffective leader old
      → CountsTrueMatches ids.eq s w leader → Step ids node_eq kind logs c w v

  -- a restart from a disk that has the vote and the log, with entries as they were written and a snapshot
  -- that was built
  abbrev pub RestartIsStep : VoteIn L → SnapshotMetaOf C K N → List (EntryOf C K N D) → Option (LogIdOf C)
      → RaftStateIn K N I L C → Type 0
  RestartIsStep vote meta stored known new =
      (c : Cluster K L) (s : K) (w v : World K N I L C D)
      → ComesAfter ids.eq s (w.servers s) new None w.network w v → vote ≡ vote_of (w.servers s)
      → HasOnDisk logs.eq meta stored (seen (w.servers s))
      → ((e : EntryOf C K N D) → IsAmong e (entries_past logs.eq meta.last_log_id stored) → WasWritten c w e)
      → ((upto : LogIdOf C) → meta.last_log_id ≡ Some upto → WasBuilt w meta upto)
      → next_index known ≤ next_index (w.servers s).committed → Step ids node_eq kind logs c w v

-- a count of a response that grants this vote
abbrev pub CountIsStep : {K N L C : Type 0} → (I D : Type 0) → OrdMembers K → (N → N → Bool)
    → LeaderMembers L K C → OrdMembers C → K → VoteResponse L → Campaign K N L C → Campaign K N L C → Type 0
CountIsStep {K} {N} {L} {C} I D ids node_eq kind logs from response before after =
    (c : Cluster K L) (s : K) (w v : World K N I L C D)
    → ComesAfter ids.eq s (w.servers s) (w.servers s) (Some after) w.network w v
    → w.campaigns s ≡ Some before → IsTrue (may_be_keys logs.cmp (w.servers s).log_ids)
    → IsAmong (VoteAnswered from response) w.network → IsTrue (grants_vote kind.eq before.vote response)
    → response.vote ≡ before.vote → Step ids node_eq kind logs c w v
