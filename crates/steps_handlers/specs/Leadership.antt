-- What a leader knows of its members, and when it leads, commits and proposes.
use Rattle.std.specs.Prelude.{◌≡◌, ◌↔◌, ℕ, Bool, true, false, ◌&&◌, ◌||◌, ◌+◌, ◌-◌, ◌^◌, min, not, nat_lt, Option, Some, None, is_some}
use Rattle.std.specs.Prelude.{IsTrue, if◌then◌else◌}
use Rattle.std.specs.Map.{update}
use Rattle.std.specs.Option.{option_cmp, option_eq}
use Rattle.std.specs.declared.cmp.Ordering.{Ordering}
use Rattle.raft_base.specs.LogId.{id_le, id_lt, log_id_cmp, next_index, same_ids}
use Rattle.raft_base.specs.UTime.{moment_of, utime_of}
use Rattle.raft_base.specs.declared.log_id.LogIdOf.{LogIdOf}
use Rattle.raft_members.specs.membership.Change.{changed}
use Rattle.raft_members.specs.membership.Members.{members_of, node_at, same_members}
use Rattle.raft_members.specs.quorum.Majority.{is_voter_of}
use Rattle.raft_members.specs.quorum.Reached.{EachQuorumKnows}
use Rattle.raft_members.specs.membership.Stored.{log_id_of, membership_of}
use Rattle.raft_members.specs.declared.change_members.ChangeMembers.{ChangeMembers}
use Rattle.raft_progress.specs.progress.Comparisons.{OrdMembers}
use Rattle.raft_progress.specs.progress.CountedValue.{has_part}
use Rattle.raft_progress.specs.progress.ProgressView.{state}
use Rattle.raft_progress.specs.tracked.EachConfig.{MajorityOfEach}
use Rattle.raft_progress.specs.tracked.Followers.{Followers, member_value}
use Rattle.raft_progress.specs.tracked.Known.{QuorumsKnow}
use Rattle.raft_progress.specs.tracked.TrackedState.{TrackedView}
use Rattle.raft_progress.specs.declared.entry.ProgressEntryOf.{ProgressEntryOf}
use Rattle.raft_progress.specs.declared.inflight.InflightOf.TheVariants.{None as Idle}
use Rattle.steps_handlers.specs.Campaign.{Campaign, HasMajorities, may_campaign, same_vote}
use Rattle.steps_handlers.specs.Compared.{Compared}
use Rattle.steps_handlers.specs.declared.error.ResumeError.{ResumeError}
use Rattle.steps_handlers.specs.declared.error.ResumeError.TheVariants as resume
use Rattle.steps_handlers.specs.declared.error.CommitError.{CommitError}
use Rattle.steps_handlers.specs.declared.error.CommitError.TheVariants as commit
use Rattle.steps_handlers.specs.declared.error.FlushError.{FlushError}
use Rattle.steps_handlers.specs.declared.error.FlushError.TheVariants as flush
use Rattle.raft_state.specs.raft_state.Commit.{state_after_commit, state_commits, state_may_commit}
use Rattle.raft_state.specs.log_id_list.FullLog.{end_index, full_log}
use Rattle.raft_state.specs.membership_state.Memberships.{Memberships}
use Rattle.raft_state.specs.raft_state.VoteAndLog.{log_view_of, vote_of}
use Rattle.raft_state.specs.raft_state.Valid.{none_or_logged}
use Rattle.raft_state.specs.declared.raft_state.RaftStateIn.{RaftStateIn}

-- the node that leads, its committed leader id, what it knows of each member by its membership, the log
-- id of that membership, and the greatest number that it has used for a request
pub record Leadership (K N C : Type 0) : Type 0 where
  pub id : K
  pub leader_id : C
  pub followers : TrackedView K N (ProgressEntryOf C) (Option (LogIdOf C))
  pub members_at : Option (LogIdOf C)
  pub last_request : ℕ

-- the last log id that a quorum has
abbrev pub granted_by : {K N C : Type 0} → Leadership K N C → Option (LogIdOf C)
granted_by l = l.followers.progress.granted

-- a leader counts by the effective membership: by the one that is stored under the same log id
abbrev pub counts_by_effective : {K N M C : Type 0} → (C → C → Bool) → Leadership K N C
    → Memberships C K M → Bool
counts_by_effective eq l m = same_ids eq l.members_at (log_id_of m.effective)

-- the number past another one, and the greatest number past itself
abbrev pub number_past : ℕ → ℕ
number_past last = min (last + 1) (2 ^ 64 - 1)

-- a log id is of a leader
abbrev pub is_of_leader : {C : Type 0} → (C → C → Bool) → C → Option (LogIdOf C) → Bool
is_of_leader eq leader None = false
is_of_leader eq leader (Some id) = eq id.leader_id leader

-- the vote of a state is the committed vote for this leader, and for its node
abbrev pub is_leading : {K N I L C : Type 0} → Compared K N L C → Leadership K N C
    → RaftStateIn K N I L C → Bool
is_leading by l s =
    (vote_of s).committed && by.eq (by.committed (vote_of s).leader_id) l.leader_id
    && option_eq by.id_eq (by.voted (vote_of s).leader_id) (Some l.id)

-- a leader that may not campaign any more is removed
abbrev pub is_removed : {K N M C : Type 0} → (K → K → Bool) → Leadership K N C → Memberships C K M
    → Bool
is_removed eq l m = not (may_campaign eq l.id m)

-- what is known of a new member: its log does not match from an index on, and no more; its requests
-- are numbered after this number
abbrev pub new_entry : {C : Type 0} → ℕ → (last_request : ℕ) → ProgressEntryOf C
new_entry end last_request = record {
  matching = None;
  curr_inflight_id = last_request;
  inflight = Idle;
  searching_end = end;
}

-- the value of one member is this one now, and membership and other values are as they were
pub record WritesMember {K N C : Type 0} (eq : K → K → Bool) (old : Followers K N C) (id : K)
    (entry : ProgressEntryOf C) (new : Followers K N C) : Type 0 where
  pub entries : (x : K) → member_value eq new x ≡ update eq (member_value eq old) id (Some entry) x
  pub members : new.membership ≡ old.membership

module _ {K N C : Type 0} (eq : K → K → Bool) where
  -- what the leader knows of a member
  abbrev pub entry_of : Leadership K N C → K → Option (ProgressEntryOf C)
  entry_of l id = (state eq l.followers.progress).value id

  -- what is known of one member is this entry now, and all else is as it was
  pub record WritesEntry (old : Leadership K N C) (id : K) (entry : ProgressEntryOf C)
      (new : Leadership K N C) : Type 0 where
    pub member : WritesMember eq old.followers id entry new.followers
    pub rest : new ≡ record old { followers = new.followers }

  -- a node begins to lead with a committed leader id: it counts by a copy of the effective membership
  -- of a state; each member of it, voter or learner, has an entry, and nothing is known of the members
  -- but that no log matches the leader's from its end on; all requests are numbered after a number
  pub record BeginsToLead {I L : Type 0} (id_cmp : K → K → Ordering) (same : N → N → Bool) (id : K) (leader_id : C)
      (last_request : ℕ) (s : RaftStateIn K N I L C) (l : Leadership K N C) : Type 0 where
    pub node : l.id ≡ id
    pub leader : l.leader_id ≡ leader_id
    pub numbered : l.last_request ≡ last_request
    pub members : IsTrue (same_members eq same (membership_of s.membership_state.effective)
        l.followers.membership)
    pub configs : l.followers.membership.configs
        ≡ (membership_of s.membership_state.effective).configs
    pub members_at : l.members_at ≡ log_id_of s.membership_state.effective
    pub counted : (x : K) → is_some (entry_of l x) ≡ (is_voter_of eq l.followers.membership.configs x
        || is_some (node_at id_cmp l.followers.membership.nodes x))
    pub entries : (x : K) (entry : ProgressEntryOf C) → entry_of l x ≡ Some entry
        → entry ≡ new_entry (end_index (full_log s.log_ids)) last_request

-- an elected candidate becomes the leader: a majority of each config has voted for it, the vote of the
-- state is the candidate's and is committed now, and nothing is known of the members yet
pub record BecomesLeader {K N I L C : Type 0} (by : Compared K N L C) (candidate : Campaign K N L C)
    (old new : RaftStateIn K N I L C) (made : Leadership K N C) : Type 0 where
  pub elected : HasMajorities by.id_eq candidate
  pub vote : IsTrue (same_vote by.leader_eq (vote_of old) candidate.vote)
  pub begins : BeginsToLead by.id_eq by.id_cmp by.node_eq candidate.id
      (by.committed (vote_of old).leader_id) 0 old made
  pub committed : new ≡ record old {
    vote = utime_of (record (vote_of old) { committed = true }) (moment_of old.vote);
  }

module _ {K N C : Type 0} (eq : K → K → Bool) (cmp : C → C → Ordering) where
  -- each quorum of the membership has a voter whose match is at least a log id
  abbrev pub QuorumsHave : Leadership K N C → Option (LogIdOf C) → Type 0
  QuorumsHave l upto =
      QuorumsKnow eq (option_cmp (log_id_cmp cmp)) (λ e. e.matching) l.followers upto

  -- and so does each quorum of what one change makes of the membership, accepted or not
  abbrev pub ChangedQuorumsHave : (K → K → Ordering) → Leadership K N C → Option (LogIdOf C)
      → Type 0
  ChangedQuorumsHave id_cmp l upto =
      (change : ChangeMembers K N) (retain : Bool)
      → EachQuorumKnows eq
      (changed eq id_cmp (members_of id_cmp l.followers.membership) change retain).configs
      (state eq l.followers.progress).is_voter
      (λ id. has_part (option_cmp (log_id_cmp cmp)) (λ e. e.matching) upto (entry_of eq l id))

  -- a majority of each config of the membership matches a log id
  abbrev pub MajorityMatches : Leadership K N C → LogIdOf C → Type 0
  MajorityMatches l id = MajorityOfEach eq l.followers (λ e. id_le cmp (Some id) e.matching)

  -- what is granted is the greatest log id that a majority of each config matches: a log id is at most
  -- what is granted exactly if a majority of each config matches it
  abbrev pub IsGreatestMatch : Leadership K N C → Option (LogIdOf C) → Type 0
  IsGreatestMatch l granted =
      (id : LogIdOf C) → IsTrue (id_le cmp (Some id) granted) ↔ MajorityMatches l id

-- what is known of a node whose log is on disk up to a log id, as the leader's own is
abbrev pub flushed_entry : {C : Type 0} → Option (LogIdOf C) → ProgressEntryOf C
flushed_entry upto = record {
  matching = upto;
  curr_inflight_id = 0;
  inflight = Idle;
  searching_end = next_index upto;
}

-- why a leader does not count what is on its disk up to a log id: it does not lead, no index is after
-- the log id, or the log does not have it
abbrev pub IsFlushRefusal : {K N I L C : Type 0} → Compared K N L C → Leadership K N C
    → Option (LogIdOf C) → RaftStateIn K N I L C → FlushError → Type 0
IsFlushRefusal by l upto s flush.NotLeader = is_leading by l s ≡ false
IsFlushRefusal by l upto s flush.NoNextIndex = nat_lt (next_index upto) (2 ^ 64) ≡ false
IsFlushRefusal by l upto s flush.NotLogged = none_or_logged by.eq (log_view_of s) upto ≡ false

-- a commit is due: a quorum has an entry of the leader's own that is not committed yet
abbrev pub is_commit_due : {K N I L C : Type 0} → OrdMembers C → Leadership K N C
    → RaftStateIn K N I L C → Bool
is_commit_due by l s =
    is_of_leader by.eq l.leader_id (granted_by l) && id_lt by.cmp s.committed (granted_by l)

-- what a leader commits, if a commit is due: what a quorum of the effective membership has, which is in
-- its log, and all before it.
-- The answer is what is committed then, and none if no commit is due
pub record Commits {K N I L C : Type 0} (eq : K → K → Bool) (by : OrdMembers C) (leader : Leadership K N C)
    (old new : RaftStateIn K N I L C) (upto : Option (LogIdOf C)) : Type 0 where
  pub answer : upto ≡ (if is_commit_due by leader old then granted_by leader else None)
  pub counts : IsTrue (is_some upto) → IsTrue (counts_by_effective by.eq leader old.membership_state)
  pub logged : IsTrue (is_some upto)
      → IsTrue (none_or_logged by.eq (log_view_of old) (granted_by leader))
  pub may : IsTrue (is_some upto) → IsTrue (state_may_commit by.cmp (granted_by leader) old)
  pub is_granted : IsTrue (is_some upto) → new.committed ≡ granted_by leader
  pub greatest : IsGreatestMatch eq by.cmp leader (granted_by leader)
  pub committed : new
      ≡ (if is_some upto then state_after_commit by.cmp (granted_by leader) old else old)

-- why the commit of what is granted is refused: the leader counts by another membership than the
-- effective one, the log does not have it, the memberships are not in the order of the log, or an
-- allocation failed, which only the commit of a membership makes
abbrev pub IsCommitRefusal : {K N I L C : Type 0} → OrdMembers C → Leadership K N C
    → RaftStateIn K N I L C → CommitError → Type 0
IsCommitRefusal by l s commit.NotEffective = counts_by_effective by.eq l s.membership_state ≡ false
IsCommitRefusal by l s commit.NotLogged =
    none_or_logged by.eq (log_view_of s) (granted_by l) ≡ false
IsCommitRefusal by l s commit.MembershipNotInOrder =
    state_may_commit by.cmp (granted_by l) s ≡ false
IsCommitRefusal by l s commit.OutOfMemory = state_commits by.cmp (granted_by l) s ≡ true

-- a commit that is due is refused, and the state is as it was
pub record RefusesCommit {K N I L C : Type 0} (by : OrdMembers C) (leader : Leadership K N C)
    (old new : RaftStateIn K N I L C) (e : CommitError) : Type 0 where
  pub due : IsTrue (is_commit_due by leader old)
  pub refused : IsCommitRefusal by leader old e
  pub err : new ≡ old

-- why a node does not lead on: the vote is not committed or not for it, no index is after its log, or
-- an allocation failed
abbrev pub IsResumeRefusal : {K N I L C : Type 0} → Compared K N L C → K → RaftStateIn K N I L C
    → ResumeError → Type 0
IsResumeRefusal by id s resume.NotLeader =
    ((vote_of s).committed && option_eq by.id_eq (by.voted (vote_of s).leader_id) (Some id)) ≡ false
IsResumeRefusal by id s resume.NoNextIndex = nat_lt (end_index (full_log s.log_ids)) (2 ^ 64) ≡ false
IsResumeRefusal by id s resume.OutOfMemory = Unit {0}
