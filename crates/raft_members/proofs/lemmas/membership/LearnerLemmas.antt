-- The members of the list of learners.
use Rattle.std.specs.Prelude.{◌≡◌, Bool, not, ◌&&◌, List, is_some}
use Rattle.std.proofs.Common.{sym, ◌∙◌, ap}
use Rattle.std.specs.declared.cmp.Ordering.{Ordering}
use Rattle.std.specs.Cmp.{IsEquivalence}
use Rattle.std.specs.Ordering.{eq_by_cmp}
use Rattle.std.specs.Map.{keys_of}
use Rattle.std.specs.BTreeMap.{is_at}
use Rattle.std.specs.Set.{is_member}
use Rattle.std.proofs.lemmas.Map.Made.{is_member-filter, is_some-lookup}
use Rattle.raft_members.specs.quorum.Majority.{is_voter_of}
use Rattle.raft_members.specs.membership.Members.{node_at}
use Rattle.raft_members.specs.membership.Learners.{learners_among}
use Rattle.raft_members.proofs.lemmas.quorum.MajorityLemmas.{in_set}
use Rattle.raft_members.proofs.lemmas.membership.KeptLemmas.{voter_alike}

module _ {K : Type 0} {eq : K → K → Bool} (laws : IsEquivalence eq) where
  -- the learners among some ids are those that are not voters
  pub learner_in : (configs : List (List K)) (ids : List K) (id : K)
      → is_member eq (learners_among eq configs ids) id ≡ (is_member eq ids id && not (is_voter_of eq configs id))
  learner_in configs ids id = is_member-filter laws (λ k. not (is_voter_of eq configs k)) id
      (λ x e. ap not (voter_alike laws configs id x e)) ids

  -- an id is a learner exactly if it has a node and is not a voter
  pub learner_with_node : {N : Type 0} (cmp : K → K → Ordering) (ties : (x y : K) → eq x y ≡ eq_by_cmp cmp x y) (configs : List (List K))
      (nodes : List (K × N)) (id : K) → is_member eq (learners_among eq configs (keys_of nodes)) id
      ≡ (is_some (node_at cmp nodes id) && not (is_voter_of eq configs id))
  learner_with_node cmp ties configs nodes id =
      learner_in configs (keys_of nodes) id
      ∙ ap (λ b. b && not (is_voter_of eq configs id))
      (sym (in_set laws cmp ties id (keys_of nodes)) ∙ sym (is_some-lookup (is_at (cmp id)) nodes))
