-- A change of the effective membership that is refused is refused alike over a node's leader ids.
use Rattle.std.proofs.Common.{◌≡◌, Bool, Option, Some, None, ap, sym, ◌∙◌}
use Rattle.std.specs.Option.{IfSome}
use Rattle.std.specs.declared.cmp.Ordering.{Ordering}
use Rattle.raft_members.specs.membership.Change.{changed}
use Rattle.raft_members.specs.membership.Members.{MemberList, Members, members_of}
use Rattle.raft_members.specs.membership.Refusal.{IsRefusal}
use Rattle.raft_members.specs.membership.ReplaceAll.{OnlyMemory, goal_of}
use Rattle.raft_members.specs.declared.change_members.ChangeMembers.{ChangeMembers}
use Rattle.raft_members.specs.declared.error.ChangeMembershipErrorOf.{ChangeMembershipErrorOf}
use Rattle.raft_members.specs.declared.error.ChangeMembershipErrorOf.TheVariants.{InProgress, EmptyMembership, LearnerNotFound, OutOfMemory}
use Rattle.raft_state.specs.membership_state.Apply.{members_after_change, in_progress, IsApplyRefusal}
use Rattle.raft_state.specs.Inner.Refusal.{refusal_of}
use Rattle.raft_state.specs.membership_state.Memberships.{Memberships, in_effect}

alike : {B C K N : Type 0} (leader : C → C → Bool) (eq : K → K → Bool) (cmp : K → K → Ordering) (m : Memberships C K N) (w : Members K N)
    (e : ChangeMembershipErrorOf B K) → None ≡ in_progress leader m → IsRefusal eq cmp w e
    → IsApplyRefusal leader eq cmp m w (refusal_of e)
alike leader eq cmp m w (InProgress e) none refused = absurd refused
alike leader eq cmp m w (EmptyMembership e) none refused = (sym none, refused)
alike leader eq cmp m w (LearnerNotFound e) none refused = (sym none, refused)
alike leader eq cmp m w OutOfMemory none refused = (sym none, refused)

if_some : {A : Type 0} (P Q : A → Type 0) (o : Option A) → ((x : A) → P x → Q x) → IfSome o P → IfSome o Q
if_some P Q None more h = h
if_some P Q (Some x) more h = more x h

module _ {B C K N : Type 0} (eq : K → K → Bool) (cmp : K → K → Ordering) (m : Memberships C K N) (change : ChangeMembers K N)
    (mine : MemberList K N) (is : mine ≡ in_effect m) (e : ChangeMembershipErrorOf B K) (told : ChangeMembershipErrorOf C K)
    (is_told : told ≡ refusal_of e) where
  pub refused_alike : (leader : C → C → Bool) (retain : Bool) → None ≡ in_progress leader m
      → IsRefusal eq cmp (changed eq cmp (members_of cmp mine) change retain) e
      → IsApplyRefusal leader eq cmp m (members_after_change eq cmp m change retain) told
  refused_alike leader retain none refused =
      rw is_told (alike leader eq cmp m (members_after_change eq cmp m change retain) e none (rw is at refused))

  pub only_memory_alike : OnlyMemory eq (members_of cmp mine) change e → OnlyMemory eq (members_of cmp (in_effect m)) change told
  only_memory_alike only = if_some _ _ (goal_of change) (λ goal h can. is_told ∙ ap (refusal_of {C = C}) (h (rw is can))) only
