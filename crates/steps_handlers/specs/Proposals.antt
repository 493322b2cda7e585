-- What a leader proposes.
use Rattle.std.specs.Prelude.{◌≡◌, ◌^◌, Bool, false, nat_lt, ◌&&◌, ◌++◌, [], ◌∷◌, List, Option, Some, None, IsTrue}
use Rattle.std.specs.declared.cmp.Ordering.{Ordering}
use Rattle.raft_base.specs.declared.log_id.LogIdOf.{LogIdOf}
use Rattle.steps_handlers.specs.Compared.{Compared}
use Rattle.steps_handlers.specs.Leadership.{Leadership, is_leading}
use Rattle.steps_handlers.specs.declared.error.ProposeError.{ProposeError}
use Rattle.steps_handlers.specs.declared.error.ProposeError.TheVariants.{NoNextIndex, NotInOrder, NotLeader, OutOfMemory}
use Rattle.raft_state.specs.Accepted.{after_accept}
use Rattle.raft_state.specs.log_id_list.FullLog.{end_index, full_log, same_log}
use Rattle.raft_members.specs.membership.Members.{MemberList}
use Rattle.raft_members.specs.declared.membership.stored.StoredMembershipOf.{StoredMembershipOf}
use Rattle.raft_state.specs.raft_state.Appended.{IsStoredBy, may_append_entries}
use Rattle.raft_state.specs.raft_state.Install.{may_accept}
use Rattle.raft_state.specs.raft_state.VoteAndLog.{vote_of}
use Rattle.raft_state.specs.membership_state.MembershipMoves.{after_append}
use Rattle.raft_state.specs.membership_state.Memberships.{Memberships}
use Rattle.raft_state.specs.entry.Entry.{payload_membership}
use Rattle.raft_state.specs.declared.entry.EntryOf.{EntryOf}
use Rattle.raft_state.specs.declared.entry.payload.EntryPayload.{EntryPayload}
use Rattle.raft_state.specs.declared.raft_state.RaftStateIn.{RaftStateIn}

-- the log id of a leader's next entry: the index after the last log id
abbrev pub next_own_id : {K N I L C : Type 0} → C → RaftStateIn K N I L C → LogIdOf C
next_own_id leader s = record { leader_id = leader; index = end_index (full_log s.log_ids) }

-- the log with the leader's next entry
abbrev pub log_with_own : {K N I L C : Type 0} → C → RaftStateIn K N I L C → List (LogIdOf C)
log_with_own leader s = full_log s.log_ids ++ next_own_id leader s ∷ []

-- the memberships once a payload is appended under a log id: a membership that it stores is effective,
-- and the one before it is committed
abbrev pub AppendsPayload : {K N C : Type 0} → (K → K → Bool) → (N → N → Bool) → LogIdOf C
    → Option (MemberList K N) → Memberships C K N → Memberships C K N → Type 0
AppendsPayload eq same id None old new = new ≡ old
AppendsPayload {K} {N} {C} eq same id (Some m) old new =
    (stored : StoredMembershipOf C K N) × IsStoredBy eq same id m stored
    × (new ≡ after_append stored old)

-- why an entry of a leader's own is refused: the leader does not lead, which is given; no index is
-- after the log's end; the entry may not be appended; or an allocation failed
abbrev pub IsProposalRefusal : {K N I L C D : Type 0} → (C → C → Ordering) → (leads : Bool)
    → EntryOf C K N D → RaftStateIn K N I L C → ProposeError → Type 0
IsProposalRefusal cmp leads entry s NotLeader = leads ≡ false
IsProposalRefusal cmp leads entry s NoNextIndex =
    nat_lt (end_index (full_log s.log_ids)) (2 ^ 64) ≡ false
IsProposalRefusal cmp leads entry s NotInOrder =
    may_append_entries cmp (λ e. e.log_id) (λ e. payload_membership e.payload) (entry ∷ []) s ≡ false
IsProposalRefusal cmp leads entry s OutOfMemory = Unit {0}

module _ {K N I L C : Type 0} (by : Compared K N L C) where
  -- an entry of the leader's own is appended: the leader leads, the entry has the payload under the
  -- next log id, the log has it at its end, a membership in it is effective, it is accepted, and all
  -- else is as it was
  pub record AppendsOwn {D : Type 0} (leader : Leadership K N C) (payload : EntryPayload K N D)
      (old new : RaftStateIn K N I L C) (entry : EntryOf C K N D) : Type 0 where
    pub leads : IsTrue (is_leading by leader old)
    pub is_next : entry ≡ record { log_id = next_own_id leader.leader_id old; payload = payload }
    pub log : IsTrue (same_log by.eq (full_log new.log_ids) (log_with_own leader.leader_id old))
    pub memberships : AppendsPayload by.id_eq by.node_eq (next_own_id leader.leader_id old)
        (payload_membership payload) old.membership_state new.membership_state
    pub accepted : new.accepted
        ≡ after_accept by.leader_eq by.cmp old.accepted (vote_of old).leader_id
        (Some (next_own_id leader.leader_id old))
    pub rest : new ≡ record old {
      log_ids = new.log_ids;
      membership_state = new.membership_state;
      accepted = new.accepted;
    }

  -- why the leader's next entry is refused with this payload
  abbrev pub IsOwnRefusal : {D : Type 0} → Leadership K N C → EntryPayload K N D
      → RaftStateIn K N I L C → ProposeError → Type 0
  IsOwnRefusal leader payload old e =
      IsProposalRefusal by.cmp (is_leading by leader old && may_accept by.order old)
      (record { log_id = next_own_id leader.leader_id old; payload = payload }) old e

  -- an entry of the leader's own is refused, and the state is as it was
  pub record RefusesOwn {D : Type 0} (leader : Leadership K N C) (payload : EntryPayload K N D)
      (old new : RaftStateIn K N I L C) (e : ProposeError) : Type 0 where
    pub refused : IsOwnRefusal leader payload old e
    pub err : new ≡ old
