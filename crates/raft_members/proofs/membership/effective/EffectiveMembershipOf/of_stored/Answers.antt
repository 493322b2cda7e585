use Rattle.std.proofs.Common.{◌≡◌, ◌∙◌, ap, length, sym}
use Rattle.raft_members.specs.quorum.Majority.{is_voter_of}
use Rattle.raft_members.specs.membership.Stored.{membership_of}
use Rattle.raft_members.proofs.membership.effective.EffectiveMembershipOf.of_stored.Goals as goal

pub invariant_of-result : goal.invariant_of-result
invariant_of-result g c =
    let stored_is : c.membership-membership.result.now ≡ membership_of c.args.stored.value =
    c.membership-membership.ensures ∙ ap membership_of c.deref.ensures in
    record {
      configs = c.in_ok-quorum_set.ensures.configs ∙ ap (λ m. m.configs) stored_is;
      some = λ set is id. c.in_ok-voter_ids.ensures.some set is id ∙ ap (λ m. is_voter_of g.NID.PartialEq.eq m.configs id) stored_is;
      none = λ is. ap (λ m. length m.configs) (sym stored_is) ∙ c.in_ok-voter_ids.ensures.none is;
    }
