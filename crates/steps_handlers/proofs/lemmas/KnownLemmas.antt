-- What each quorum knows before a change of the membership, each quorum of the new one knows after it.
use Rattle.std.specs.Prelude.{◌≡◌, Bool, true, ◌&&◌, List, Option, Some, None, is_some, refl}
use Rattle.std.specs.Cmp.{IsEquivalence, first_so, second_so}
use Rattle.std.specs.declared.cmp.Ordering.{Ordering}
use Rattle.std.proofs.Common.{ap, sym, ◌∙◌, true≢false}
use Rattle.raft_members.specs.membership.Change.{changed, last_config, union_of, without}
use Rattle.raft_members.specs.quorum.Coherence.{next_configs}
use Rattle.raft_members.specs.membership.Members.{Members}
use Rattle.raft_members.specs.quorum.Reached.{EachQuorumKnows}
use Rattle.raft_members.specs.declared.change_members.ChangeMembers.{ChangeMembers}
use Rattle.raft_members.specs.declared.change_members.ChangeMembers.TheVariants.{AddVoterIds, AddVoters, RemoveVoters, ReplaceAllVoters, AddNodes, SetNodes, RemoveNodes, ReplaceAllNodes}
use Rattle.raft_members.proofs.CallerLemmas.{joint_majority_of_voters}
use Rattle.raft_progress.specs.progress.CountedValue.{has_part}
use Rattle.raft_progress.specs.progress.ProgressView.{state}
use Rattle.raft_progress.specs.tracked.TrackedState.{IsReady, TrackedView}

module _ {K N : Type 0} (eq : K → K → Bool) (cmp : K → K → Ordering) where
  -- the configs that a change leads to follow from the configs alone
  pub changed_configs : (m n : Members K N) (change : ChangeMembers K N) (retain : Bool) → m.configs ≡ n.configs
      → (changed eq cmp m change retain).configs ≡ (changed eq cmp n change retain).configs
  changed_configs m n (AddVoterIds ids) retain e = λ i. next_configs eq (e i) (union_of cmp (last_config (e i)) ids.keys)
  changed_configs m n (AddVoters nodes) retain e =
      ap (λ (c : List (List K)). (changed eq cmp (record m { configs = c }) (AddVoters nodes) retain).configs) e
  changed_configs m n (RemoveVoters ids) retain e = λ i. next_configs eq (e i) (without eq (last_config (e i)) ids.keys)
  changed_configs m n (ReplaceAllVoters ids) retain e = λ i. next_configs eq (e i) ids.keys
  changed_configs m n (AddNodes nodes) retain e = e
  changed_configs m n (SetNodes nodes) retain e = e
  changed_configs m n (RemoveNodes ids) retain e = e
  changed_configs m n (ReplaceAllNodes nodes) retain e = e

module _ {K N V P : Type 0} {eq : K → K → Bool} (laws : IsEquivalence eq) (id_cmp : K → K → Ordering)
    (cmp : P → P → Ordering) (part : V → P) (old new : TrackedView K N V P) (p : P) where
  abbrev value : TrackedView K N V P → K → Option V
  value t id = (state eq t.progress).value id

  kept_part : (before after : Option V) → ((v : V) → before ≡ Some v → after ≡ Some v)
      → has_part cmp part p before ≡ true → has_part cmp part p after ≡ true
  kept_part None after keeps h = absurd (true≢false (sym h))
  kept_part (Some v) after keeps h = ap (has_part cmp part p) (keeps v refl) ∙ h

  -- each quorum of the new configs knows a part that it knew, if those who stay keep their values
  pub quorums_still_know : IsReady eq id_cmp cmp part new
      → EachQuorumKnows eq new.membership.configs (state eq old.progress).is_voter (λ id. has_part cmp part p (value old id))
      → ((id : K) (v : V) → value old id ≡ Some v → is_some (value new id) ≡ true → value new id ≡ Some v)
      → EachQuorumKnows eq new.membership.configs (state eq new.progress).is_voter (λ id. has_part cmp part p (value new id))
  quorums_still_know ready knows keeps set majority =
      let voter = (state eq new.progress).is_voter in
      let within = joint_majority_of_voters laws voter set new.membership.configs (λ x v. ready.counts_by.voters x ∙ v) majority in
      let k = knows (λ x. voter x && set x) within in
      let votes = first_so (voter k.0) (set k.0) k.1 in
      let some : is_some (value new k.0) ≡ true =
      ready.counts_by.known k.0 ∙ rw (sym (ready.counts_by.voters k.0) ∙ votes) refl in (
        k.0,
        second_so (voter k.0) (set k.0) k.1,
        votes,
        kept_part (value old k.0) (value new k.0) (λ v known. keeps k.0 v known some) k.3,
      )
