-- Runs of servers that change their states only as the contracts of steps_handlers say, over a network
-- that may lose, delay, duplicate and reorder messages. Members change by joint memberships. Servers
-- crash and restart, purge their logs, build and install snapshots, and take the votes that responses
-- have.
--
-- Each handler has a step. A step has the record that the handler's contract promises of the state
-- before and after the call, the message that the handler takes from the network, and the message that
-- the server sends afterwards. A step is whole before its message is sent: what it changes is on disk.
use Rattle.std.specs.Prelude.{◌≡◌, ◌⊎◌, ◌+◌, ◌<◌, ◌≤◌, ℕ, Bool, true, false, List, [], ◌∷◌, length, map, Option, Some, None, IsTrue, if◌then◌else◌}
use Rattle.std.specs.Option.{option_map}
use Rattle.std.specs.Ordering.{partial_ge}
use Rattle.raft_base.specs.declared.log_id.LogIdOf.{LogIdOf}
use Rattle.raft_base.specs.LogId.{next_index}
use Rattle.raft_base.specs.LogIndex.{index_le}
use Rattle.raft_base.specs.UTime.{moment_of, utime_of}
use Rattle.raft_base.specs.Vote.{vote_cmp}
use Rattle.raft_base.specs.declared.vote.VoteIn.{VoteIn}
use Rattle.steps_handlers.specs.Append.{Answers, IfHigherVote}
use Rattle.steps_handlers.specs.Changes.{AppendsMembers}
use Rattle.steps_handlers.specs.Campaign.{Campaign, Campaigns, CountsVoteOf}
use Rattle.steps_handlers.specs.Compared.{LeaderMembers, compared}
use Rattle.steps_handlers.specs.Follow.{heard, is_followed, vote_heard}
use Rattle.steps_handlers.specs.Leadership.{BecomesLeader, Commits, Leadership, entry_of, is_leading}
use Rattle.steps_handlers.specs.Proposals.{AppendsOwn}
use Rattle.steps_handlers.specs.Responses.{SendsNext, heartbeat_to}
use Rattle.steps_handlers.specs.Restart.{Restores, entries_past}
use Rattle.steps_handlers.specs.Snapshot.{AnswersSnapshot, snapshot_refusal}
use Rattle.steps_handlers.specs.Vote.{Grants}
use Rattle.steps_handlers.specs.declared.message.AppendEntries.{AppendEntries}
use Rattle.steps_handlers.specs.declared.message.InstallSnapshot.{InstallSnapshot}
use Rattle.steps_handlers.specs.declared.message.Outcome.{Outcome}
use Rattle.steps_handlers.specs.declared.message.Outcome.TheVariants.{Conflict, HigherVote, Matches}
use Rattle.steps_handlers.specs.declared.message.VoteRequest.{VoteRequest}
use Rattle.steps_handlers.specs.declared.message.VoteResponse.{VoteResponse}
use Rattle.raft_members.specs.membership.Members.{Members}
use Rattle.raft_members.specs.membership.Stored.{log_id_of, membership_of}
use Rattle.raft_members.specs.declared.membership.stored.StoredMembershipOf.{StoredMembershipOf}
use Rattle.raft_progress.specs.progress.Comparisons.{OrdMembers}
use Rattle.raft_progress.specs.declared.entry.ProgressEntryOf.{ProgressEntryOf}
use Rattle.raft_progress.specs.declared.inflight.InflightOf.{InflightOf}
use Rattle.raft_progress.specs.declared.inflight.InflightOf.TheVariants.{None as Idle, Logs, Snapshot}
use Rattle.steps_safety.specs.Disk.{HasOnDisk}
use Rattle.steps_safety.specs.Seen.{seen}
use Rattle.safety_laws.specs.Ranks.{IsAmong}
use Rattle.raft_state.specs.SnapshotMeta.{IsSnapshotCopy}
use Rattle.raft_state.specs.entry.Entry.{payload_membership}
use Rattle.raft_state.specs.log_id_list.FullLog.{full_log}
use Rattle.raft_state.specs.log_id_list.Keys.{may_be_keys}
use Rattle.raft_state.specs.log_id_list.LogEdits.{log_after_purge}
use Rattle.raft_state.specs.log_id_list.LogReads.{id_at, last_id}
use Rattle.raft_state.specs.membership_state.MembershipMoves.{is_covered}
use Rattle.raft_state.specs.membership_state.Memberships.{Memberships, in_effect, index_at}
use Rattle.raft_state.specs.raft_state.Sound.{IsSound}
use Rattle.raft_state.specs.raft_state.VoteAndLog.{log_view_of, vote_of}
use Rattle.raft_state.specs.declared.entry.EntryOf.{EntryOf}
use Rattle.raft_state.specs.declared.entry.payload.EntryPayload.{EntryPayload}
use Rattle.raft_state.specs.declared.raft_state.RaftStateIn.{RaftStateIn}
use Rattle.raft_state.specs.declared.snapshot_meta.SnapshotMetaOf.{SnapshotMetaOf}

-- a message: a candidate's request, and the response of a server; a leader's requests, and what a
-- server has answered to the leader with this id. Besides, what nobody sends, but every world remembers:
-- a candidate counts by these configs, a leader has written an entry, and a snapshot was built up to a
-- log id, with a membership that has a log id and these configs
pub data Message (K N L C D : Type 0) : Type 0 where
  VoteAsked : VoteRequest L C → Message K N L C D
  VoteAnswered : K → VoteResponse L → Message K N L C D
  EntriesSent : AppendEntries L C K N D → Message K N L C D
  SnapshotSent : InstallSnapshot L C K N → Message K N L C D
  Answered : K → L → Outcome L C → Message K N L C D
  Counted : L → List (List K) → Message K N L C D
  Written : EntryOf C K N D → Message K N L C D
  Built : LogIdOf C → Option (LogIdOf C) → List (List K) → Message K N L C D

-- the vote of the server that has sent a response, if the response has it
abbrev pub vote_in : {K N L C D : Type 0} → Message K N L C D → Option (VoteIn L)
vote_in (VoteAsked request) = None
vote_in (VoteAnswered from response) = Some response.vote
vote_in (EntriesSent request) = None
vote_in (SnapshotSent request) = None
vote_in (Answered from leader (Matches upto)) = None
vote_in (Answered from leader (Conflict at last)) = None
vote_in (Answered from leader (HigherVote vote)) = Some vote
vote_in (Counted leader configs) = None
vote_in (Written entry) = None
vote_in (Built upto at configs) = None

-- the state of each server, its campaign if there is one, and every message that was ever sent
pub record World (K N I L C D : Type 0) : Type 0 where
  pub servers : K → RaftStateIn K N I L C
  pub campaigns : K → Option (Campaign K N L C)
  pub network : List (Message K N L C D)

-- what is fixed in a cluster: the configs of its initial membership, the leader id in the vote of a server
-- that has not voted, and the leader ids of all campaigns
pub record Cluster (K L : Type 0) : Type 0 where
  pub initial : List (List K)
  pub start : L
  pub leaders : List L

-- the initial membership has a config. A server that has not voted has a vote in term 0. Each campaign is
-- of a node, in a later term, and its committed leader id is not that of a server that has not voted
pub record IsCluster {K L C : Type 0} (kind : LeaderMembers L K C) (c : Cluster K L) : Type 0 where
  pub has_config : 0 < length c.initial
  pub start_term : kind.term_of c.start ≡ 0
  pub later : (l : L) → IsAmong l c.leaders → 0 < kind.term_of l
  pub node : (l : L) → IsAmong l c.leaders → (n : K) × (kind.voted l ≡ Some n)
  pub not_start : (l : L) → IsAmong l c.leaders → kind.committed l ≡ kind.committed c.start → ⊥

-- a cluster with these initial configs, in which each of these nodes campaigns, in the term after this number
abbrev pub cluster_of : {K L C : Type 0} → LeaderMembers L K C → List (List K) → L → List (ℕ × K) → Cluster K L
cluster_of {K} kind initial start campaigns = record {
  initial = initial;
  start = start;
  leaders = map (λ (x : ℕ × K). kind.leader_of (x.0 + 1) x.1) campaigns;
}

-- whatever the nodes, their campaigns and the leader id of term 0 are, this is a cluster
abbrev pub NodesAreACluster : {K L C : Type 0} → LeaderMembers L K C → Type 0
NodesAreACluster {K} {L} kind =
    (initial : List (List K)) (start : L) (campaigns : List (ℕ × K)) → 0 < length initial
    → kind.term_of start ≡ 0 → IsCluster kind (cluster_of kind initial start campaigns)

-- a membership has no configs if no entry holds it, and otherwise the initial ones, of index 0
abbrev pub IsInitial : {C K N : Type 0} → List (List K) → StoredMembershipOf C K N → Type 0
IsInitial {C} initial m =
    ((log_id_of m ≡ None) × ((membership_of m).configs ≡ []))
    ⊎ ((id : LogIdOf C) × (log_id_of m ≡ Some id) × (id.index ≡ 0) × ((membership_of m).configs ≡ initial))

-- a new server has not voted, and its log has at most the entry at index 0, which holds the initial
-- membership
pub record IsNewServer {K N I L C : Type 0} (kind : LeaderMembers L K C) (logs : OrdMembers C)
    (initial : List (List K)) (start : L) (s : RaftStateIn K N I L C) : Type 0 where
  pub vote : vote_of s ≡ record { leader_id = start; committed = false }
  pub log : (full_log s.log_ids ≡ [])
      ⊎ (full_log s.log_ids ≡ (record { leader_id = kind.committed start; index = 0 }) ∷ [])
  pub purged : s.purged_next ≡ 0
  pub committed : next_index s.committed ≤ 1
  pub committed_membership : IsInitial initial s.membership_state.committed
  pub effective_membership : IsInitial initial s.membership_state.effective
  pub sound : IsSound logs.eq logs.cmp s
  pub keys : IsTrue (may_be_keys logs.cmp s.log_ids)

-- of the two memberships of a state the one that is in effect at an index of its log, which is not before the
-- committed one
abbrev pub in_effect_at : {C K N : Type 0} → ℕ → Memberships C K N → StoredMembershipOf C K N
in_effect_at index m = if is_covered index m then m.effective else m.committed

-- an entry was written: by a leader, or it is the entry at index 0, which holds the initial membership
abbrev pub WasWritten : {K N I L C D : Type 0} → Cluster K L → World K N I L C D → EntryOf C K N D → Type 0
WasWritten c w entry =
    IsAmong (Written entry) w.network
    ⊎ ((entry.log_id.index ≡ 0)
    × (option_map (λ m. m.configs) (payload_membership entry.payload) ≡ Some c.initial))

-- a snapshot was built, up to its last log id and with its membership
abbrev pub WasBuilt : {K N I L C D : Type 0} → World K N I L C D → SnapshotMetaOf C K N → LogIdOf C → Type 0
WasBuilt w meta upto =
    IsAmong (Built upto (log_id_of meta.last_membership) (membership_of meta.last_membership).configs) w.network

-- what a leader counts as the match of another member is what this member has answered to it, and its own
-- match is of its own log
abbrev pub CountsTrueMatches : {K N I L C D : Type 0} → (K → K → Bool) → K → World K N I L C D
    → Leadership K N C → Type 0
CountsTrueMatches {K} {N} {I} {L} {C} eq s w leader =
    (r : K) (entry : ProgressEntryOf C) (m : LogIdOf C)
    → entry_of eq leader r ≡ Some entry → entry.matching ≡ Some m
    → ((r ≡ s) × (id_at (full_log (w.servers s).log_ids) m.index ≡ Some m))
    ⊎ IsAmong (Answered r (vote_of (w.servers s)).leader_id (Matches (Some m))) w.network

-- a leader counts by the effective membership of its state
abbrev pub CountsByEffective : {K N I L C : Type 0} → Leadership K N C → RaftStateIn K N I L C → Type 0
CountsByEffective leader state =
    leader.followers.membership.configs ≡ (in_effect state.membership_state).configs

module _ {K N I L C D : Type 0} (ids : OrdMembers K) (node_eq : N → N → Bool)
    (kind : LeaderMembers L K C) (logs : OrdMembers C) where
  module _ (c : Cluster K L) (s : K) (w v : World K N I L C D) where
    -- the server answers a candidate, which is another server: `handle_vote_request`
    pub record AnswersCandidate : Type 0 where
      pub request : VoteRequest L C
      pub response : VoteResponse L
      pub message : IsAmong (VoteAsked request) w.network
      pub other : kind.voted request.vote.leader_id ≡ Some s → ⊥
      pub call : Grants kind.order logs.cmp request (w.servers s) response (v.servers s)
      pub campaign : v.campaigns s ≡ w.campaigns s
      pub sends : v.network ≡ VoteAnswered s response ∷ w.network

    -- the server answers a leader's request to append entries: `handle_append_entries`
    pub record AnswersLeader : Type 0 where
      pub request : AppendEntries L C K N D
      pub outcome : Outcome L C
      pub message : IsAmong (EntriesSent request) w.network
      pub other : kind.voted request.leader_id ≡ Some s → ⊥
      pub vote : (v.servers s).vote ≡ vote_heard kind.order request.leader_id (w.servers s)
      pub not_followed : is_followed kind.order request.leader_id (w.servers s) ≡ false
          → outcome ≡ HigherVote (vote_of (w.servers s))
      pub answers : Answers logs ids.eq node_eq request outcome (w.servers s) (v.servers s)
      pub purged : (v.servers s).purged_next ≡ (w.servers s).purged_next
      pub campaign : v.campaigns s ≡ w.campaigns s
      pub sends : v.network ≡ Answered s request.leader_id outcome ∷ w.network

    -- the server answers a leader's request to install a snapshot: `handle_install_snapshot`
    pub record AnswersSnapshotOf : Type 0 where
      pub request : InstallSnapshot L C K N
      pub upto : LogIdOf C
      pub is_upto : request.meta.last_log_id ≡ Some upto
      pub outcome : Outcome L C
      pub message : IsAmong (SnapshotSent request) w.network
      pub other : kind.voted request.leader_id ≡ Some s → ⊥
      pub not_followed : is_followed kind.order request.leader_id (w.servers s) ≡ false
          → outcome ≡ HigherVote (vote_of (w.servers s))
      pub followed : IfHigherVote outcome (λ _. is_followed kind.order request.leader_id (w.servers s) ≡ false)
      pub answers : AnswersSnapshot logs kind.eq (IsSnapshotCopy ids.eq node_eq) request.meta outcome
          (heard kind.order request.leader_id (w.servers s)) (v.servers s)
      pub allowed : snapshot_refusal kind.order logs.cmp logs.eq request.leader_id request.meta (w.servers s)
          ≡ None
      pub campaign : v.campaigns s ≡ w.campaigns s
      pub sends : v.network ≡ Answered s request.leader_id outcome ∷ w.network

    -- the server takes the vote that a response has, if it is at least its own vote: `promise`. Its campaign
    -- may be over then
    pub record HearsVote : Type 0 where
      pub vote : VoteIn L
      pub response : Message K N L C D
      pub message : IsAmong response w.network
      pub has_vote : vote_in response ≡ Some vote
      pub promised : Bool
      pub answer : promised ≡ partial_ge (vote_cmp kind.order) vote (vote_of (w.servers s))
      pub taken : (v.servers s) ≡ (if promised then record (w.servers s) {
        vote = utime_of vote (moment_of (w.servers s).vote);
      } else w.servers s)
      pub campaign : (v.campaigns s ≡ w.campaigns s) ⊎ (v.campaigns s ≡ None)
      pub sends : v.network ≡ w.network

    -- the server campaigns: `campaign`. It counts by its effective membership
    pub record StartsCampaign : Type 0 where
      pub greatest_term : ℕ
      pub made : Campaign K N L C
      pub in_use : IsAmong made.vote.leader_id c.leaders
      pub call : Campaigns (compared ids node_eq kind logs) s greatest_term (w.servers s) (v.servers s) made
      pub campaign : v.campaigns s ≡ Some made
      pub sends : v.network
          ≡ VoteAsked (record { vote = made.vote; last_log_id = made.last_log_id })
          ∷ Counted made.vote.leader_id made.votes.membership.configs ∷ w.network

    -- the server counts a vote: `handle_vote_response`
    pub record CountsVote : Type 0 where
      pub before : Campaign K N L C
      pub after : Campaign K N L C
      pub from : K
      pub response : VoteResponse L
      pub message : IsAmong (VoteAnswered from response) w.network
      pub granted : response.granted ≡ true
      pub for_this : response.vote ≡ before.vote
      pub campaign_before : w.campaigns s ≡ Some before
      pub call : CountsVoteOf ids.eq from before after
      pub campaign : v.campaigns s ≡ Some after
      pub state : (v.servers s) ≡ (w.servers s)
      pub sends : v.network ≡ w.network

    -- the server is elected: `Leader::new`
    pub record IsElectedLeader : Type 0 where
      pub candidate : Campaign K N L C
      pub made : Leadership K N C
      pub campaign_before : w.campaigns s ≡ Some candidate
      pub call : BecomesLeader (compared ids node_eq kind logs) candidate (w.servers s) (v.servers s) made
      pub campaign : v.campaigns s ≡ w.campaigns s
      pub sends : v.network ≡ w.network

    -- the server leads, in the term of a campaign of its own. An engine keeps this if each leader of it was
    -- made by `Leader::new` or `Leader::resume`
    pub record Leads (leader : Leadership K N C) : Type 0 where
      pub leads : IsTrue (is_leading (compared ids node_eq kind logs) leader (w.servers s))
      pub node : leader.id ≡ s
      pub in_use : IsAmong (vote_of (w.servers s)).leader_id c.leaders

    -- a leader proposes, and its log is not empty: `propose`, `propose_blank`. The entry holds no membership.
    -- An engine keeps this if no server campaigns before it has the entry at index 0
    pub record Proposes : Type 0 where
      pub leader : Leadership K N C
      pub leads : Leads leader
      pub payload : EntryPayload K N D
      pub entry : EntryOf C K N D
      pub no_membership : payload_membership payload ≡ None
      pub started : (last : LogIdOf C) × (last_id (full_log (w.servers s).log_ids) ≡ Some last)
      pub call : AppendsOwn (compared ids node_eq kind logs) leader payload (w.servers s) (v.servers s) entry
      pub campaign : v.campaigns s ≡ w.campaigns s
      pub sends : v.network ≡ Written entry ∷ w.network

    -- a leader proposes a membership: `propose_change`, `leave_joint`. It counts by the effective membership,
    -- and counts true matches
    pub record ProposesMembers : Type 0 where
      pub leader : Leadership K N C
      pub after : Leadership K N C
      pub leads : Leads leader
      pub next : Members K N
      pub entry : EntryOf C K N D
      pub started : (last : LogIdOf C) × (last_id (full_log (w.servers s).log_ids) ≡ Some last)
      pub counts : CountsByEffective leader (w.servers s)
      pub true_matches : CountsTrueMatches ids.eq s w leader
      pub call : AppendsMembers (compared ids node_eq kind logs) next leader (w.servers s) after (v.servers s)
          entry
      pub campaign : v.campaigns s ≡ w.campaigns s
      pub sends : v.network ≡ Written entry ∷ w.network

    -- the log id before the entries of a request is that of what the leader puts in flight, or, in a
    -- heartbeat of the engine's own, one of the leader's log
    abbrev pub Carries : InflightOf C → Option (LogIdOf C) → Type 0
    Carries (Logs id range) prev = prev ≡ range.prev
    Carries Idle prev = (x : LogIdOf C) → prev ≡ Some x
        → id_at (full_log (w.servers s).log_ids) x.index ≡ Some x
    Carries (Snapshot id last) prev = ⊥

    -- a leader sends what it puts in flight: `next_request`. The entries are read from its log, as they were
    -- written, and what it has committed goes with them
    pub record SendsEntries : Type 0 where
      pub leader : Leadership K N C
      pub leads : Leads leader
      pub to : K
      pub max_entries : ℕ
      pub sending : InflightOf C
      pub after : Leadership K N C
      pub call : SendsNext ids.eq logs to (log_view_of (w.servers s)) max_entries leader after (Some sending)
      pub request : AppendEntries L C K N D
      pub is_own : request.leader_id ≡ (vote_of (w.servers s)).leader_id
      pub prev : Carries sending request.prev
      pub entries : (e : EntryOf C K N D) → IsAmong e request.entries.items
          → (id_at (full_log (w.servers s).log_ids) e.log_id.index ≡ Some e.log_id) × WasWritten c w e
      pub committed : request.committed ≡ (w.servers s).committed
      pub state : (v.servers s) ≡ (w.servers s)
      pub campaign : v.campaigns s ≡ w.campaigns s
      pub sends : v.network ≡ EntriesSent request ∷ w.network

    -- a leader sends a heartbeat to a member, at any time: `heartbeat`. The request has no entries, and what
    -- the leader has committed goes with it
    pub record SendsHeartbeat : Type 0 where
      pub leader : Leadership K N C
      pub leads : Leads leader
      pub to : K
      pub entry : ProgressEntryOf C
      pub known : entry_of ids.eq leader to ≡ Some entry
      pub request : AppendEntries L C K N D
      pub is_own : request.leader_id ≡ (vote_of (w.servers s)).leader_id
      pub prev : request.prev ≡ (heartbeat_to (log_view_of (w.servers s)) entry).prev
      pub no_entries : request.entries.items ≡ []
      pub committed : request.committed ≡ (w.servers s).committed
      pub state : (v.servers s) ≡ (w.servers s)
      pub campaign : v.campaigns s ≡ w.campaigns s
      pub sends : v.network ≡ EntriesSent request ∷ w.network

    -- a leader sends a snapshot that was built, up to a log id of its log that it knows to be committed
    pub record SendsSnapshot : Type 0 where
      pub leader : Leadership K N C
      pub leads : Leads leader
      pub request : InstallSnapshot L C K N
      pub is_own : request.leader_id ≡ (vote_of (w.servers s)).leader_id
      pub upto : LogIdOf C
      pub is_upto : request.meta.last_log_id ≡ Some upto
      pub logged : id_at (full_log (w.servers s).log_ids) upto.index ≡ Some upto
      pub is_committed : upto.index < next_index (w.servers s).committed
      pub built : WasBuilt w request.meta upto
      pub state : (v.servers s) ≡ (w.servers s)
      pub campaign : v.campaigns s ≡ w.campaigns s
      pub sends : v.network ≡ SnapshotSent request ∷ w.network

    -- a leader commits: `commit`. It counts by the effective membership, and each match that it counts is
    -- true: it is of the leader's own log, or the member has answered with it. An engine keeps this if it has
    -- one leader for a term, and the leader takes responses that came, and flushes of its own log: a new
    -- leader counts no match
    pub record CommitsGranted : Type 0 where
      pub leader : Leadership K N C
      pub leads : Leads leader
      pub counts : CountsByEffective leader (w.servers s)
      pub true_matches : CountsTrueMatches ids.eq s w leader
      pub upto : Option (LogIdOf C)
      pub call : Commits ids.eq logs leader (w.servers s) (v.servers s) upto
      pub campaign : v.campaigns s ≡ w.campaigns s
      pub sends : v.network ≡ w.network

    -- a server restarts from its disk: `restart_server`. Before any message left, all that the server's steps had
    -- changed was on disk, so the disk has the vote and the log, with entries as they were written, and a snapshot
    -- that was built. What it knows to be committed may be less than the server did, and its campaign is over
    pub record Restarts : Type 0 where
      pub meta : SnapshotMetaOf C K N
      pub stored : List (EntryOf C K N D)
      pub known : Option (LogIdOf C)
      pub disk : HasOnDisk logs.eq meta stored (seen (w.servers s))
      pub written : (e : EntryOf C K N D) → IsAmong e (entries_past logs.eq meta.last_log_id stored)
          → WasWritten c w e
      pub built : (upto : LogIdOf C) → meta.last_log_id ≡ Some upto → WasBuilt w meta upto
      pub same_vote : vote_of (v.servers s) ≡ vote_of (w.servers s)
      pub call : Restores logs ids.eq node_eq meta stored known (v.servers s)
      pub no_more : next_index known ≤ next_index (w.servers s).committed
      pub campaign : v.campaigns s ≡ None
      pub sends : v.network ≡ w.network

    -- a server builds a snapshot up to a log id of its log. Its membership is the one in effect there
    pub record BuildsSnapshot : Type 0 where
      pub upto : LogIdOf C
      pub logged : id_at (full_log (w.servers s).log_ids) upto.index ≡ Some upto
      pub past_committed : IsTrue (index_le (index_at (w.servers s).membership_state.committed)
          (Some upto.index))
      pub same : seen (v.servers s) ≡ seen (w.servers s)
      pub members : (v.servers s).membership_state ≡ (w.servers s).membership_state
      pub campaign : v.campaigns s ≡ w.campaigns s
      pub sends : (let held = in_effect_at upto.index (w.servers s).membership_state in
          v.network ≡ Built upto (log_id_of held) (membership_of held).configs ∷ w.network)

    -- a server purges its log up to a log id that it knows to be committed: `purge_log`
    pub record Purges : Type 0 where
      pub upto : LogIdOf C
      pub logged : id_at (full_log (w.servers s).log_ids) upto.index ≡ Some upto
      pub is_known : upto.index < next_index (w.servers s).committed
      pub log : full_log (v.servers s).log_ids ≡ log_after_purge (full_log (w.servers s).log_ids) upto
      pub rest : (v.servers s) ≡ record (w.servers s) {
        purged_next = upto.index + 1;
        log_ids = (v.servers s).log_ids;
      }
      pub campaign : v.campaigns s ≡ w.campaigns s
      pub sends : v.network ≡ w.network

    -- a server changes nothing but what the theorem does not speak of: it schedules a purge, or notes what
    -- its storage has done, its role or the time
    pub record ChangesElse : Type 0 where
      pub same : seen (v.servers s) ≡ seen (w.servers s)
      pub members : (v.servers s).membership_state ≡ (w.servers s).membership_state
      pub campaign : v.campaigns s ≡ w.campaigns s
      pub sends : v.network ≡ w.network

    -- a server takes one step
    pub data DoesOne : Type 0 where
      OneVote : AnswersCandidate → DoesOne
      OneAppend : AnswersLeader → DoesOne
      OneSnapshot : AnswersSnapshotOf → DoesOne
      OneHearing : HearsVote → DoesOne
      OneCampaign : StartsCampaign → DoesOne
      OneCount : CountsVote → DoesOne
      OneElection : IsElectedLeader → DoesOne
      OneProposal : Proposes → DoesOne
      OneChange : ProposesMembers → DoesOne
      OneSend : SendsEntries → DoesOne
      OneHeartbeat : SendsHeartbeat → DoesOne
      OneSendSnapshot : SendsSnapshot → DoesOne
      OneCommit : CommitsGranted → DoesOne
      OneRestart : Restarts → DoesOne
      OnePurge : Purges → DoesOne
      OneBuild : BuildsSnapshot → DoesOne
      OneElse : ChangesElse → DoesOne

  -- a server takes one step, and the others do nothing. Each call keeps a sound state sound, and the keys
  -- of a log are in order, as the type of a log keeps them
  pub record Step (c : Cluster K L) (w v : World K N I L C D) : Type 0 where
    pub server : K
    pub does : DoesOne c server w v
    pub sound : IsSound logs.eq logs.cmp (w.servers server) → IsSound logs.eq logs.cmp (v.servers server)
    pub keys : IsTrue (may_be_keys logs.cmp (v.servers server).log_ids)
    pub others : (r : K) → ids.eq server r ≡ false → v.servers r ≡ w.servers r
    pub other_campaigns : (r : K) → ids.eq server r ≡ false → v.campaigns r ≡ w.campaigns r

  -- the first world: each server is new
  pub record IsFirst (c : Cluster K L) (w : World K N I L C D) : Type 0 where
    pub server : (s : K) → IsNewServer kind logs c.initial c.start (w.servers s)
    pub no_campaign : (s : K) → w.campaigns s ≡ None
    pub nothing_sent : w.network ≡ []

  -- worlds that came about step by step, the latest first
  abbrev pub IsRun : Cluster K L → World K N I L C D → List (World K N I L C D) → Type 0
  IsRun c w [] = IsFirst c w
  IsRun c w (v ∷ vs) = Step c v w × IsRun c v vs

-- what a server knows to be committed in one world, and another server in another world, agrees: if both
-- logs have a log id at an index, it is of one leader
abbrev pub CommittedAgree : {K N I L C D : Type 0} → World K N I L C D → World K N I L C D → Type 0
CommittedAgree {K} {N} {I} {L} {C} {D} w v =
    (s r : K) (i : ℕ) (x y : LogIdOf C) → i < next_index (w.servers s).committed
    → i < next_index (v.servers r).committed → id_at (full_log (w.servers s).log_ids) i ≡ Some x
    → id_at (full_log (v.servers r).log_ids) i ≡ Some y → x ≡ y

-- the memberships that two servers know to be committed, in two worlds, are one if entries of one index hold
-- them: they have the same configs
abbrev pub CommittedMembersAgree : {K N I L C D : Type 0} → World K N I L C D → World K N I L C D → Type 0
CommittedMembersAgree {K} {N} {I} {L} {C} {D} w v =
    (s r : K) (x y : LogIdOf C) → log_id_of (w.servers s).membership_state.committed ≡ Some x
    → log_id_of (v.servers r).membership_state.committed ≡ Some y → x.index ≡ y.index
    → (membership_of (w.servers s).membership_state.committed).configs
    ≡ (membership_of (v.servers r).membership_state.committed).configs

-- in every run of servers, also if their members change, what any two servers know to be committed, at any two
-- times, agrees, and so do their committed memberships. Ids that are `==` are equal
abbrev pub RunsAreSafe : {K N L C : Type 0} → (I D : Type 0) → OrdMembers K → (N → N → Bool)
    → LeaderMembers L K C → OrdMembers C → Type 0
RunsAreSafe {K} {N} {L} {C} I D ids node_eq kind logs =
    ((x y : K) → ids.eq x y ≡ true → x ≡ y) → ((x y : L) → kind.eq x y ≡ true → x ≡ y)
    → ((x y : C) → logs.eq x y ≡ true → x ≡ y) → (c : Cluster K L)
    → IsCluster kind c → (w : World K N I L C D) (ws : List (World K N I L C D))
    → IsRun ids node_eq kind logs c w ws → (u v : World K N I L C D) → IsAmong u (w ∷ ws)
    → IsAmong v (w ∷ ws) → CommittedAgree u v × CommittedMembersAgree u v
