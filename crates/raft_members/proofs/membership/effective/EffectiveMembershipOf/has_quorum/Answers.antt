use Rattle.std.proofs.Common.{sym, ◌∙◌, ap}
use Rattle.std.specs.Set.{is_member}
use Rattle.raft_members.specs.quorum.Majority.{is_majority, is_joint_majority}
use Rattle.raft_members.proofs.lemmas.membership.MappedLemmas.{list_all-map}
use Rattle.raft_members.proofs.membership.effective.EffectiveMembershipOf.has_quorum.Goals as goal

pub returns : goal.returns
returns g c d =
    let s = is_member g.NID.PartialEq.eq c.args.ids.now in
    c.is_quorum.ensures.quorum d
    ∙ sym (list_all-map (λ v. v.items) (λ ks. is_majority g.NID.PartialEq.eq ks s) c.self.inside.quorum_set.items)
    ∙ ap (λ cs. is_joint_majority g.NID.PartialEq.eq cs s) (c.self.invariant.configs ∙ ap (λ m. m.membership.configs) c.self.view_is)
