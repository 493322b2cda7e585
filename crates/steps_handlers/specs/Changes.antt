-- What a change of the membership leaves of what a leader knows, and what its entry stores.
use Rattle.std.specs.Prelude.{◌≡◌, ◌<◌, ℕ, Bool, true, false, Some, None, Option, is_some, length, IsTrue}
use Rattle.std.specs.declared.cmp.Ordering.{Ordering}
use Rattle.raft_base.specs.declared.log_id.LogIdOf.{LogIdOf}
use Rattle.steps_handlers.specs.Compared.{Compared}
use Rattle.steps_handlers.specs.Leadership.{IsGreatestMatch, Leadership, QuorumsHave, counts_by_effective, granted_by, is_of_leader, new_entry, number_past}
use Rattle.steps_handlers.specs.Proposals.{AppendsOwn, IsOwnRefusal}
use Rattle.steps_handlers.specs.declared.leader.change.ChangeError.{ChangeError}
use Rattle.steps_handlers.specs.declared.leader.change.ChangeError.TheVariants.{Change, Entry, NoOwnGranted, NotEffective, NotJoint}
use Rattle.raft_members.specs.membership.Change.{last_config, next_members}
use Rattle.raft_members.specs.membership.Members.{HasMembers, MemberList, Members, members_of, same_members}
use Rattle.raft_members.specs.membership.Valid.{IsValid}
use Rattle.raft_members.specs.quorum.Coherence.{is_coherent}
use Rattle.raft_progress.specs.progress.ProgressView.{state}
use Rattle.raft_progress.specs.tracked.TrackedState.{TrackedView}
use Rattle.raft_progress.specs.declared.entry.ProgressEntryOf.{ProgressEntryOf}
use Rattle.raft_state.specs.log_id_list.FullLog.{end_index, full_log}
use Rattle.raft_state.specs.membership_state.Apply.{IsApplyRefusal, in_progress}
use Rattle.raft_state.specs.membership_state.Memberships.{Memberships, in_effect}
use Rattle.raft_state.specs.declared.raft_state.RaftStateIn.{RaftStateIn}
use Rattle.raft_state.specs.declared.entry.EntryOf.{EntryOf}
use Rattle.raft_state.specs.declared.entry.payload.EntryPayload.{EntryPayload}
use Rattle.raft_state.specs.declared.entry.payload.EntryPayload.TheVariants.{Blank, Normal, Membership}

module _ {K N C : Type 0} (eq : K → K → Bool) where
  -- who stays a member keeps what is known of it, and of a new member nothing is known but that its
  -- log does not match from an index on; its requests are numbered after a number
  pub record KeepsValues (end last_request : ℕ) (old new : TrackedView K N (ProgressEntryOf C) (Option (LogIdOf C)))
      : Type 0 where
    pub kept : (id : K) (entry : ProgressEntryOf C)
        → (state eq old.progress).value id ≡ Some entry
        → is_some ((state eq new.progress).value id) ≡ true
        → (state eq new.progress).value id ≡ Some entry
    pub added : (id : K) (entry : ProgressEntryOf C) → (state eq old.progress).value id ≡ None
        → (state eq new.progress).value id ≡ Some entry → entry ≡ new_entry end last_request

  -- the same of what a leader knows, with a number that it has not used for a request before
  abbrev pub KeepsEntries : ℕ → Leadership K N C → Leadership K N C → Type 0
  KeepsEntries end old new =
      KeepsValues end (number_past old.last_request) old.followers new.followers

-- an entry stores a membership: equal configs, and equal nodes
abbrev pub StoresMembership : {K N D : Type 0} → (K → K → Bool) → (N → N → Bool) → MemberList K N
    → EntryPayload K N D → Type 0
StoresMembership eq same m Blank = ⊥
StoresMembership eq same m (Normal d) = ⊥
StoresMembership eq same m (Membership stored) =
    (stored.configs ≡ m.configs) × IsTrue (same_members eq same m stored)

-- what the step from a joint membership to its last config leads to; with `retain` removed voters stay
-- as learners
abbrev pub members_after_leave : {C K N : Type 0} → (K → K → Bool) → (K → K → Ordering)
    → Memberships C K N → (retain : Bool) → Members K N
members_after_leave eq cmp m retain =
    next_members eq (members_of cmp (in_effect m)) (last_config (in_effect m).configs) retain

module _ {K N I L C : Type 0} (by : Compared K N L C) where
  -- why a change to these members is refused: the leader counts by another membership than the
  -- effective one; no quorum has an entry of the leader's own; a step out of a joint membership does not
  -- fit, because the membership is not joint; the members are refused, or an earlier change is in
  -- progress; or the entry that would store the membership is refused. Whether the change fits is given
  abbrev pub IsChangeRefusal : (D : Type 0) → (fits : Bool) → Members K N → Leadership K N C
      → RaftStateIn K N I L C → ChangeError C K → Type 0
  IsChangeRefusal D fits next l s NotEffective =
      counts_by_effective by.eq l s.membership_state ≡ false
  IsChangeRefusal D fits next l s NoOwnGranted =
      is_of_leader by.eq l.leader_id (granted_by l) ≡ false
  IsChangeRefusal D fits next l s NotJoint = fits ≡ false
  IsChangeRefusal D fits next l s (Change e) =
      IsApplyRefusal by.eq by.id_eq by.id_cmp s.membership_state next e
  IsChangeRefusal D fits next l s (Entry e) =
      (m : MemberList K N) × IsOwnRefusal by {D = D} l (Membership m) s e

  -- a membership is proposed: the leader counts by the effective one, which is committed, and a quorum
  -- of it has an entry of the leader's own; an entry of the leader's own stores the next members, which
  -- are valid and share a config with the ones before; the leader counts by them, and what it knows of
  -- those who stay, and what each quorum has, stays known
  pub record AppendsMembers {D : Type 0} (next : Members K N) (old : Leadership K N C)
      (before : RaftStateIn K N I L C) (new : Leadership K N C) (after : RaftStateIn K N I L C)
      (entry : EntryOf C K N D) : Type 0 where
    pub counts : IsTrue (counts_by_effective by.eq old before.membership_state)
    pub greatest : IsGreatestMatch by.id_eq by.cmp old (granted_by old)
    pub own_granted : IsTrue (is_of_leader by.eq old.leader_id (granted_by old))
    pub committed : in_progress by.eq before.membership_state ≡ None
    pub own : AppendsOwn by old entry.payload before after entry
    pub stores : StoresMembership by.id_eq by.node_eq new.followers.membership entry.payload
    pub changed : HasMembers by.node_eq by.id_cmp new.followers.membership next
    pub valid : IsValid by.id_eq (members_of by.id_cmp new.followers.membership)
    pub coherent : 0 < length (in_effect before.membership_state).configs
        → is_coherent by.id_eq (in_effect before.membership_state).configs
        new.followers.membership.configs ≡ true
    pub counted : new.followers.membership.configs ≡ (in_effect after.membership_state).configs
    pub kept : KeepsEntries by.id_eq (end_index (full_log before.log_ids)) old new
    pub still_known : 0 < length old.followers.membership.configs
        → old.followers.membership.configs ≡ (in_effect before.membership_state).configs
        → QuorumsHave by.id_eq by.cmp new (granted_by old)
    pub node : new ≡ record old {
      followers = new.followers;
      members_at = Some entry.log_id;
      last_request = number_past old.last_request;
    }

  -- a membership is refused, and the leader and its state are as they were
  pub record RefusesMembers (D : Type 0) (fits : Bool) (next : Members K N) (old : Leadership K N C)
      (before : RaftStateIn K N I L C) (new : Leadership K N C) (after : RaftStateIn K N I L C)
      (e : ChangeError C K) : Type 0 where
    pub refused : IsChangeRefusal D fits next old before e
    pub err : new ≡ old
    pub err_state : after ≡ before
