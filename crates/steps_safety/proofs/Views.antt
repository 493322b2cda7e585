-- Runs of what is seen of servers: a run of servers is a run of their views. Members change.
use Rattle.std.specs.Prelude.{◌≡◌, ◌⊎◌, ◌<◌, ◌≤◌, ◌-◌, ℕ, suc, Bool, true, false, if◌then◌else◌, List, [], ◌∷◌, ◌++◌, Option, Some, None}
use Rattle.std.specs.declared.cmp.Ordering.TheVariants.{Greater}
use Rattle.raft_base.specs.declared.log_id.LogIdOf.{LogIdOf}
use Rattle.raft_base.specs.declared.vote.VoteIn.{VoteIn}
use Rattle.raft_base.specs.LogId.{id_le, next_index}
use Rattle.raft_base.specs.Vote.{vote_cmp}
use Rattle.std.specs.Ordering.{partial_ge}
use Rattle.safety_laws.specs.Events.{History}
use Rattle.raft_state.specs.log_id_list.LogReads.{id_at, last_id}
use Rattle.safety_laws.specs.Ranks.{IsAmong}
use Rattle.steps_safety.specs.Server.{State}
use Rattle.raft_base.specs.LogId.{same_ids}
use Rattle.safety_laws.specs.Configs.{QuorumsIntersect}
use Rattle.steps_safety.proofs.Members.{Members, after_cut, after_ids, after_member, both_are, settled}
use Rattle.steps_safety.proofs.Whole.{IsWhole}
use Rattle.steps_handlers.specs.Follow.{committed_vote_of}
use Rattle.steps_safety.proofs.Calls.{AppendConflicts, AppendMatches, HandlesVoteRequest, InstallMatches, IsInstalled, IsKnownSnapshot, are_consecutive, fresh_of}
use Rattle.std.specs.Option.{option_or}
use Rattle.steps_safety.proofs.Stepping.{SeenCluster, IsSeenCluster, at_server}

-- a message: a request for a vote, the response that grants it, the vote that a response has, a request to
-- append entries, the response that the log matches, and a snapshot up to a log id. Other responses have no
-- effect on safety
pub data SeenMessage (L C K M : Type 0) : Type 0 where
  SeenAsked : VoteIn L → Option (LogIdOf C) → SeenMessage L C K M
  SeenVoted : K → VoteIn L → SeenMessage L C K M
  SeenPromised : VoteIn L → SeenMessage L C K M
  SeenSent : L → Option (LogIdOf C) → List (LogIdOf C) → Option (LogIdOf C) → (LogIdOf C → Option M) → SeenMessage L C K M
  SeenMatched : K → L → Option (LogIdOf C) → SeenMessage L C K M
  SeenSnapshot : L → LogIdOf C → ℕ → M → SeenMessage L C K M
  -- an entry was written, and the config that it holds; a candidate counts by a config; a snapshot was built up
  -- to a log id, and holds a config of the entry at an index. Nobody sends these
  SeenWrote : LogIdOf C → Option M → SeenMessage L C K M
  SeenCounts : L → M → SeenMessage L C K M
  SeenBuilt : LogIdOf C → ℕ → M → SeenMessage L C K M

-- the states of all servers, and every message that was ever sent
pub record SeenWorld (L C K M : Type 0) : Type 0 where
  pub servers : K → State L C
  pub members : K → Members M
  pub network : List (SeenMessage L C K M)

-- a request has brought entries: those that are new are in place of the end of the log
abbrev pub after_fresh : {C M : Type 0} → (LogIdOf C → Option M) → List (LogIdOf C) → Members M → Members M
after_fresh holds [] m = m
after_fresh holds (x ∷ xs) m = after_ids holds (x ∷ xs) (after_cut (x.index - 1) m)

-- a snapshot up to an index, which holds a config of the entry at another index, was installed in a log that has
-- its last log id (`after_update_committed`): if it covers the effective config, its own is both. Otherwise it may
-- be the committed one, if that is of no later index
abbrev pub AfterUpdate : {M : Type 0} → ℕ → ℕ → M → Members M → Members M → Type 0
AfterUpdate upto at held old new =
    ((old.effective_at ≤ upto) × (new ≡ both_are at held))
    ⊎ ((upto < old.effective_at) × ((new ≡ old) ⊎ ((old.committed_at ≤ at) × (new ≡ record {
      committed = held;
      committed_at = at;
      effective = old.effective;
      effective_at = old.effective_at;
    }))))

-- the memberships stay, or the effective one is committed, if all before an index is committed
abbrev pub MaySettle : {M : Type 0} → ℕ → Members M → Members M → Type 0
MaySettle next old new = (new ≡ old) ⊎ ((new ≡ settled old) × (old.effective_at < next))

-- a vote for a node that is not committed
abbrev pub uncommitted : {L : Type 0} → L → VoteIn L
uncommitted leader = record { leader_id = leader; committed = false }

module _ {L C K D M : Type 0} (c : SeenCluster L C K D M) (s : K) (w v : SeenWorld L C K M) where
  -- the server handles a request for a vote, of another node
  pub record HandlesVote : Type 0 where
    pub vote : VoteIn L
    pub last : Option (LogIdOf C)
    pub granted : Bool
    pub message : IsAmong (SeenAsked vote last) w.network
    pub other : c.kind.voted vote.leader_id ≡ Some s → ⊥
    pub call : (h : History C K D) → HandlesVoteRequest c.kind (at_server c h s) vote last (w.servers s) (v.servers s) granted
    pub sends : v.network
        ≡ SeenPromised (v.servers s).vote ∷ (if granted then SeenVoted s vote ∷ w.network else w.network)
    pub members : v.members s ≡ w.members s

  -- the server handles a request to append entries, of another node, and answers that it matches
  pub record HandlesMatch : Type 0 where
    pub leader : L
    pub prev : Option (LogIdOf C)
    pub ids : List (LogIdOf C)
    pub committed : Option (LogIdOf C)
    pub upto : Option (LogIdOf C)
    pub holds : LogIdOf C → Option M
    pub message : IsAmong (SeenSent leader prev ids committed holds) w.network
    pub other : c.kind.voted leader ≡ Some s → ⊥
    pub whole : IsWhole (w.servers s).purged_next (w.servers s).ids
    pub whole_after : IsWhole (v.servers s).purged_next (v.servers s).ids
    pub call : (h : History C K D) → AppendMatches c.kind (at_server c h s) leader prev ids committed upto (w.servers s) (v.servers s)
    pub sends : v.network ≡ SeenMatched s leader upto ∷ w.network
    -- index 0 is new only to an empty log: the proof of safety knows this
    pub members : ((x : LogIdOf C) (xs : List (LogIdOf C)) → fresh_of c.kind.eq (w.servers s) ids ≡ x ∷ xs → x.index ≡ 0
        → last_id (w.servers s).ids ≡ None) → MaySettle (next_index (v.servers s).committed)
        (after_fresh holds (fresh_of c.kind.eq (w.servers s) ids) (w.members s)) (v.members s)

  -- or that it conflicts
  pub record HandlesConflict : Type 0 where
    pub leader : L
    pub prev : Option (LogIdOf C)
    pub ids : List (LogIdOf C)
    pub committed : Option (LogIdOf C)
    pub at : ℕ
    pub holds : LogIdOf C → Option M
    pub message : IsAmong (SeenSent leader prev ids committed holds) w.network
    pub other : c.kind.voted leader ≡ Some s → ⊥
    pub whole : IsWhole (w.servers s).purged_next (w.servers s).ids
    pub whole_after : IsWhole (v.servers s).purged_next (v.servers s).ids
    pub call : (h : History C K D) → AppendConflicts c.kind (at_server c h s) leader prev at (w.servers s) (v.servers s)
    pub sends : v.network ≡ w.network
    pub members : (at ≡ 0 → last_id (w.servers s).ids ≡ None) → v.members s ≡ after_cut (at - 1) (w.members s)

  -- the server handles a snapshot
  pub record HandlesSnapshot : Type 0 where
    pub leader : L
    pub upto : LogIdOf C
    pub held_at : ℕ
    pub held : M
    pub message : IsAmong (SeenSnapshot leader upto held_at held) w.network
    pub other : c.kind.voted leader ≡ Some s → ⊥
    pub whole : IsWhole (w.servers s).purged_next (w.servers s).ids
    pub call : (h : History C K D) → InstallMatches c.kind (at_server c h s) leader upto (w.servers s) (v.servers s)
    pub sends : v.network ≡ SeenMatched s leader (Some upto) ∷ w.network
    pub known : (h : History C K D) → IsKnownSnapshot c.kind (at_server c h s) upto (w.servers s) (v.servers s)
        → v.members s ≡ w.members s
    pub kept : (h : History C K D) → IsInstalled c.kind (at_server c h s) upto (w.servers s) (v.servers s)
        → same_ids c.kind.eq (id_at (w.servers s).ids upto.index) (Some upto) ≡ true
        → AfterUpdate upto.index held_at held (w.members s) (v.members s)
    pub replaced : (h : History C K D) → IsInstalled c.kind (at_server c h s) upto (w.servers s) (v.servers s)
        → same_ids c.kind.eq (id_at (w.servers s).ids upto.index) (Some upto) ≡ false
        → v.members s ≡ both_are held_at held

  -- the server follows no leader that has asked it, and answers with its vote
  pub record Refuses : Type 0 where
    pub call : v.servers s ≡ w.servers s
    pub sends : v.network ≡ SeenPromised (w.servers s).vote ∷ w.network
    pub members : v.members s ≡ w.members s

  -- the server takes the vote that a response has, if it is at least its own
  pub record Hears : Type 0 where
    pub vote : VoteIn L
    pub message : IsAmong (SeenPromised vote) w.network
    pub call : v.servers s ≡ (if partial_ge (vote_cmp c.kind.order) vote (w.servers s).vote
        then record (w.servers s) { vote = vote } else w.servers s)
    pub sends : v.network ≡ w.network
    pub members : v.members s ≡ w.members s

  -- nothing changes of what is seen of the server, and it sends nothing that matters
  pub record Idles : Type 0 where
    pub call : v.servers s ≡ w.servers s
    pub sends : v.network ≡ w.network
    pub members : v.members s ≡ w.members s

  -- the server starts a campaign, in a term above that of its vote
  pub record Campaigns : Type 0 where
    pub leader : L
    pub in_use : IsAmong leader c.leaders
    pub is_own : c.kind.voted leader ≡ Some s
    pub term : 0 < c.kind.term_of leader
    pub above : c.kind.order leader (w.servers s).vote.leader_id ≡ Some Greater
    pub call : v.servers s ≡ record (w.servers s) { vote = uncommitted leader }
    pub sends : v.network
        ≡ SeenAsked (uncommitted leader) (last_id (w.servers s).ids) ∷ SeenCounts leader (w.members s).effective ∷ w.network
    pub members : v.members s ≡ w.members s

  -- the server is elected, by its own vote and those of others
  pub record IsMadeLeader : Type 0 where
    pub is_own : c.kind.voted (w.servers s).vote.leader_id ≡ Some s
    pub term : 0 < c.kind.term_of (w.servers s).vote.leader_id
    pub not_yet : (w.servers s).vote.committed ≡ false
    pub counts : K → Bool
    pub votes : (r : K) → counts r ≡ true → (r ≡ s) ⊎ IsAmong (SeenVoted r (w.servers s).vote) w.network
    pub counted : M
    pub counting : IsAmong (SeenCounts (w.servers s).vote.leader_id counted) w.network
    pub majority : c.quorum_of counted counts ≡ true
    pub call : v.servers s ≡ record (w.servers s) { vote = committed_vote_of (w.servers s).vote.leader_id }
    pub sends : v.network ≡ w.network
    pub members : v.members s ≡ w.members s

  -- the server leads
  pub record Leads : Type 0 where
    pub is_own : c.kind.voted (w.servers s).vote.leader_id ≡ Some s
    pub term : 0 < c.kind.term_of (w.servers s).vote.leader_id
    pub is_committed : (w.servers s).vote.committed ≡ true

  -- a leader counts by its effective config: a quorum has a log id of its own
  pub record Counts : Type 0 where
    pub leads : Leads
    pub granted : LogIdOf C
    pub own : granted.leader_id ≡ c.kind.committed (w.servers s).vote.leader_id
    pub matching : K → Option (LogIdOf C)
    pub is_there : (id_at (w.servers s).ids granted.index ≡ Some granted) ⊎ ((r : K) × (matching r ≡ Some granted))
    pub true_matches : (r : K) (m : LogIdOf C) → matching r ≡ Some m
        → ((r ≡ s) × (id_at (w.servers s).ids m.index ≡ Some m))
        ⊎ IsAmong (SeenMatched r (w.servers s).vote.leader_id (Some m)) w.network
    pub majority : c.quorum_of (w.members s).effective (λ r. id_le c.kind.cmp (Some granted) (matching r)) ≡ true

  -- it may propose a config: a quorum has a log id of its own, no change is in progress, and quorums of the new
  -- config intersect each other and those of the effective one
  pub record MayChange (m : M) : Type 0 where
    pub counts : Counts
    pub settled_now : (w.members s).effective_at ≡ (w.members s).committed_at
    pub old_and_new : QuorumsIntersect c.quorum_of (w.members s).effective m
    pub new : QuorumsIntersect c.quorum_of m m

  -- a leader appends an entry of its own, and writes it to disk
  pub record Writes : Type 0 where
    pub leads : Leads
    pub last : LogIdOf C
    pub is_last : last_id (w.servers s).ids ≡ Some last
    pub content : D
    pub call : v.servers s ≡ record (w.servers s) {
      ids = (w.servers s).ids ++ (record {
        leader_id = c.kind.committed (w.servers s).vote.leader_id;
        index = suc last.index;
      }) ∷ [];
    }
    pub may_change : (m : M) → c.config_of content ≡ Some m → MayChange m
    pub members : v.members s ≡ after_member (suc last.index) (c.config_of content) (w.members s)
    pub sends : v.network ≡ SeenWrote (record {
      leader_id = c.kind.committed (w.servers s).vote.leader_id;
      index = suc last.index;
    }) (c.config_of content) ∷ w.network

  -- a leader sends log ids of its log, with what it has committed
  pub record Sends : Type 0 where
    pub leads : Leads
    pub prev : Option (LogIdOf C)
    pub ids : List (LogIdOf C)
    pub has_prev : (x : LogIdOf C) → prev ≡ Some x → id_at (w.servers s).ids x.index ≡ Some x
    pub has_ids : (x : LogIdOf C) → IsAmong x ids → id_at (w.servers s).ids x.index ≡ Some x
    pub has_committed : (x : LogIdOf C) → (w.servers s).committed ≡ Some x
        → id_at (w.servers s).ids x.index ≡ Some x
    pub holds : LogIdOf C → Option M
    pub has_holds : (x : LogIdOf C) → IsAmong x ids → IsAmong (SeenWrote x (holds x)) w.network
        ⊎ ((x.index ≡ 0) × ((holds x ≡ None) ⊎ (holds x ≡ Some c.initial)))
    pub call : v.servers s ≡ w.servers s
    pub sends : v.network ≡ SeenSent (w.servers s).vote.leader_id prev ids (w.servers s).committed holds
        ∷ w.network
    pub members : v.members s ≡ w.members s

  -- a leader sends a snapshot, up to a log id of its log that it knows to be committed
  pub record SendsSnapshot : Type 0 where
    pub leads : Leads
    pub upto : LogIdOf C
    pub logged : id_at (w.servers s).ids upto.index ≡ Some upto
    pub is_committed : suc upto.index ≤ next_index (w.servers s).committed
    pub held_at : ℕ
    pub held : M
    pub built : IsAmong (SeenBuilt upto held_at held) w.network
    pub call : v.servers s ≡ w.servers s
    pub sends : v.network ≡ SeenSnapshot (w.servers s).vote.leader_id upto held_at held ∷ w.network
    pub members : v.members s ≡ w.members s

  -- a leader commits a log id of its own, which a quorum has
  pub record Commits : Type 0 where
    pub counts : Counts
    pub members : MaySettle (next_index (v.servers s).committed) (w.members s) (v.members s)
    pub call : v.servers s ≡ record (w.servers s) { committed = Some counts.granted }
    pub sends : v.network ≡ w.network

  -- a snapshot on disk: built up to a log id of the log that is known to be committed
  pub record StartsAt (from : Option (LogIdOf C)) (start : Members M) : Type 0 where
    pub upto : LogIdOf C
    pub held_at : ℕ
    pub held : M
    pub is : from ≡ Some upto
    pub logged : id_at (w.servers s).ids upto.index ≡ Some upto
    pub is_committed : suc upto.index ≤ next_index (w.servers s).committed
    pub built : IsAmong (SeenBuilt upto held_at held) w.network
    pub both : start ≡ both_are held_at held

  -- a server restarts: every call was written to disk before it was answered, so the vote and the end of the
  -- log are as they were. A part of what is committed may be purged, and what it knows to be committed may be
  -- less. A call of which a crash leaves a part is one of fewer entries, whose answer was lost
  pub record Restarts : Type 0 where
    pub known : Option (LogIdOf C)
    pub next : ℕ
    pub left : List (LogIdOf C)
    pub is_committed : next ≤ next_index (w.servers s).committed
    pub same_end : last_id left ≡ last_id (w.servers s).ids
    pub kept : (i : ℕ) (x : LogIdOf C) → id_at left i ≡ Some x → id_at (w.servers s).ids i ≡ Some x
    pub from : Option (LogIdOf C)
    pub start : Members M
    pub begins : ((from ≡ None) × (start ≡ both_are 0 c.initial)) ⊎ StartsAt from start
    pub tail : List (LogIdOf C)
    pub holds : LogIdOf C → Option M
    pub row : are_consecutive from tail ≡ true
    pub in_log : (x : LogIdOf C) → IsAmong x tail → id_at (w.servers s).ids x.index ≡ Some x
    pub has_holds : (x : LogIdOf C) → IsAmong x tail → IsAmong (SeenWrote x (holds x)) w.network
        ⊎ ((x.index ≡ 0) × ((holds x ≡ None) ⊎ (holds x ≡ Some c.initial)))
    pub at_end : option_or (last_id tail) from ≡ last_id (w.servers s).ids
    pub no_more : (next_index known ≤ next_index (w.servers s).committed)
        ⊎ (next_index known ≤ suc (after_ids holds tail start).committed_at)
    pub call : v.servers s ≡ record (w.servers s) { ids = left; purged_next = next; committed = known }
    pub members : MaySettle (next_index known) (after_ids holds tail start) (v.members s)
    pub sends : v.network ≡ w.network

  -- a server purges a part of what is committed: the log ids from there on stay
  pub record Purges : Type 0 where
    pub next : ℕ
    pub left : List (LogIdOf C)
    pub is_committed : next ≤ next_index (w.servers s).committed
    pub same_end : last_id left ≡ last_id (w.servers s).ids
    pub kept : (i : ℕ) (x : LogIdOf C) → id_at left i ≡ Some x → id_at (w.servers s).ids i ≡ Some x
    pub call : v.servers s ≡ record (w.servers s) { ids = left; purged_next = next }
    pub sends : v.network ≡ w.network
    pub members : v.members s ≡ w.members s

  -- a server builds a snapshot up to a log id of its log. Of its two memberships it has the one in effect there
  pub record Builds : Type 0 where
    pub upto : LogIdOf C
    pub logged : id_at (w.servers s).ids upto.index ≡ Some upto
    pub past_committed : (w.members s).committed_at ≤ upto.index
    pub call : v.servers s ≡ w.servers s
    pub members : v.members s ≡ w.members s
    pub sends : v.network ≡ SeenBuilt upto (after_cut upto.index (w.members s)).effective_at
        (after_cut upto.index (w.members s)).effective ∷ w.network

  -- a server takes a step: a call of a handler, and others do nothing
  pub data SeenDoes : Type 0 where
    SeesVote : HandlesVote → SeenDoes
    SeesMatch : HandlesMatch → SeenDoes
    SeesConflict : HandlesConflict → SeenDoes
    SeesRefusal : Refuses → SeenDoes
    SeesHearing : Hears → SeenDoes
    SeesCampaign : Campaigns → SeenDoes
    SeesElection : IsMadeLeader → SeenDoes
    SeesWrite : Writes → SeenDoes
    SeesSend : Sends → SeenDoes
    SeesCommit : Commits → SeenDoes
    SeesRestart : Restarts → SeenDoes
    SeesPurge : Purges → SeenDoes
    SeesSnapshot : HandlesSnapshot → SeenDoes
    SeesSendSnapshot : SendsSnapshot → SeenDoes
    SeesIdle : Idles → SeenDoes
    SeesBuild : Builds → SeenDoes

module _ {L C K D M : Type 0} (c : SeenCluster L C K D M) where
  pub record SeenStep (w v : SeenWorld L C K M) : Type 0 where
    pub server : K
    pub does : SeenDoes c server w v
    pub others : (r : K) → c.same_node server r ≡ false → v.servers r ≡ w.servers r
    pub other_members : (r : K) → c.same_node server r ≡ false → v.members r ≡ w.members r

  -- nothing has happened: no server has voted in a term after 0, and a log has at most the entry at
  -- index 0
  pub record IsSeenFirst (w : SeenWorld L C K M) : Type 0 where
    pub in_use : (s : K) → IsAmong (w.servers s).vote.leader_id c.leaders
    pub no_vote : (s : K) → c.kind.term_of (w.servers s).vote.leader_id ≡ 0
    pub ids : (s : K) → ((w.servers s).ids ≡ []) ⊎ ((w.servers s).ids ≡ (record { leader_id = c.first; index = 0 }) ∷ [])
    pub purged : (s : K) → (w.servers s).purged_next ≤ 1
    pub committed : (s : K) → next_index (w.servers s).committed ≤ 1
    pub sent : w.network ≡ []
    pub members : (s : K) → w.members s ≡ both_are 0 c.initial

  -- worlds that came about step by step, the latest first
  abbrev pub IsSeenRun : SeenWorld L C K M → List (SeenWorld L C K M) → Type 0
  IsSeenRun w [] = IsSeenFirst w
  IsSeenRun w (v ∷ vs) = SeenStep v w × IsSeenRun v vs

  -- what a server knows to be committed in one world, and another server in another world, agrees: they have
  -- the same log ids there
  abbrev pub SeenAgree : SeenWorld L C K M → SeenWorld L C K M → Type 0
  SeenAgree w v =
      (s r : K) (i : ℕ) (x y : LogIdOf C) → i < next_index (w.servers s).committed
      → i < next_index (v.servers r).committed → id_at (w.servers s).ids i ≡ Some x
      → id_at (v.servers r).ids i ≡ Some y → x.leader_id ≡ y.leader_id

-- committed memberships of one index are one membership
abbrev pub MembersAgree : {L C K M : Type 0} → SeenWorld L C K M → SeenWorld L C K M → Type 0
MembersAgree {L} {C} {K} w v =
    (s r : K) → (w.members s).committed_at ≡ (v.members r).committed_at
    → (w.members s).committed ≡ (v.members r).committed

-- in every run of servers, also if members change, what any two servers know to be committed, at any two times,
-- agrees
abbrev pub SeenRunsAreSafe : Type 0 → Type 0 → Type 0 → Type 0 → Type 0 → Type 0
SeenRunsAreSafe L C K D M =
    (c : SeenCluster L C K D M) → IsSeenCluster c → IsAmong c.first c.terms
    → ((l : L) → IsAmong l c.leaders → 0 < c.kind.term_of l → c.kind.committed l ≡ c.first → ⊥)
    → (w : SeenWorld L C K M) (ws : List (SeenWorld L C K M)) → IsSeenRun c w ws → (u v : SeenWorld L C K M)
    → IsAmong u (w ∷ ws) → IsAmong v (w ∷ ws) → SeenAgree c u v × MembersAgree u v
