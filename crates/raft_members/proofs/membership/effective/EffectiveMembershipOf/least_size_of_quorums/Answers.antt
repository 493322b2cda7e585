use Rattle.std.proofs.Common.{sym, ◌∙◌, ap, rules}
use Rattle.std.proofs.lemmas.List.Folds.{fold-map}
use Rattle.std.specs.Prelude.{max}
use Rattle.std.specs.Set.{is_member}
use Rattle.raft_members.specs.quorum.Majority.{is_majority, is_joint_majority}
use Rattle.raft_members.specs.quorum.QuorumSize.{greatest_by, majority_size}
use Rattle.raft_members.proofs.lemmas.membership.MappedLemmas.{list_all-map}
use Rattle.raft_members.proofs.membership.effective.EffectiveMembershipOf.least_size_of_quorums.Goals as goal

pub returns-clause-exact : goal.returns-clause-exact
returns-clause-exact g c =
    let exact = c.least_of_each.ensures.exact (λ config. majority_size config.items) (λ config n answered. search rules) in
    rw c.deref.ensures.value at exact
    ∙ sym (fold-map (λ so_far config. max (majority_size config) so_far) (λ config. config.items) 0 c.get_joint_config.result.now.items)
    ∙ ap (greatest_by majority_size) c.get_joint_config.ensures

pub returns-clause-least : goal.returns-clause-least
returns-clause-least g c ids d h =
    let s = is_member g.NID.PartialEq.eq ids in
    let least = c.least_of_each.ensures.least (λ config n answered. search rules) in
    (rw c.deref.ensures.value at least) ids d
    (sym (list_all-map (λ v. v.items) (λ ks. is_majority g.NID.PartialEq.eq ks s) c.get_joint_config.result.now.items)
    ∙ ap (λ cs. is_joint_majority g.NID.PartialEq.eq cs s) c.get_joint_config.ensures ∙ h)
