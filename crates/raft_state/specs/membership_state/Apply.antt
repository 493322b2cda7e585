-- What a change makes of the effective membership, and when it is refused.
use Rattle.std.specs.Prelude.{◌≡◌, Bool, Option, Some, None, if◌then◌else◌}
use Rattle.std.specs.declared.cmp.Ordering.{Ordering}
use Rattle.raft_members.specs.membership.Change.{changed}
use Rattle.raft_members.specs.membership.Members.{Members, members_of}
use Rattle.raft_members.specs.membership.Refusal.{IsRefusal}
use Rattle.raft_members.specs.membership.Stored.{log_id_of}
use Rattle.raft_members.specs.declared.change_members.ChangeMembers.{ChangeMembers}
use Rattle.raft_members.specs.declared.error.ChangeMembershipErrorOf.{ChangeMembershipErrorOf}
use Rattle.raft_members.specs.declared.error.ChangeMembershipErrorOf.TheVariants.{InProgress}
use Rattle.raft_members.specs.declared.error.InProgressOf.{InProgressOf}
use Rattle.raft_state.specs.membership_state.MembershipMoves.{is_effective_committed}
use Rattle.raft_state.specs.membership_state.Memberships.{Memberships, in_effect}

-- what a change makes of the effective membership; with `retain` removed voters stay as learners
abbrev pub members_after_change : {C K N : Type 0} → (K → K → Bool) → (K → K → Ordering)
    → Memberships C K N
    → ChangeMembers K N → (retain : Bool) → Members K N
members_after_change eq cmp m change retain =
    changed eq cmp (members_of cmp (in_effect m)) change retain

-- the error while the effective membership is not committed
abbrev pub in_progress : {C K N : Type 0} → (C → C → Bool) → Memberships C K N
    → Option (InProgressOf C)
in_progress leader m =
    if is_effective_committed leader m then None else Some (record {
      committed = log_id_of m.committed;
      membership_log_id = log_id_of m.effective;
    })

-- why a change that makes these members is refused: an earlier change is in progress; or none is,
-- and the members are refused
abbrev pub IsApplyRefusal : {C K N : Type 0} → (C → C → Bool) → (K → K → Bool) → (K → K → Ordering)
    → Memberships C K N → Members K N → ChangeMembershipErrorOf C K → Type 0
IsApplyRefusal leader eq cmp m w (InProgress e) = in_progress leader m ≡ Some e
IsApplyRefusal leader eq cmp m w refusal =
    (in_progress leader m ≡ None) × IsRefusal eq cmp w refusal
