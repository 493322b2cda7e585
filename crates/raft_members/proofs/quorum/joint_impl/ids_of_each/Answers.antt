use Rattle.std.proofs.Common.{◌∙◌, ◌||◌, ap, sym}
use Rattle.std.proofs.lemmas.List.{take_all}
use Rattle.std.specs.List.{list_any}
use Rattle.raft_members.proofs.lemmas.membership.MappedLemmas.{any_more}
use Rattle.raft_members.proofs.quorum.joint_impl.ids_of_each.Goals as goal

pub loop-child-preserved : goal.loop-child-preserved
loop-child-preserved g c x =
    c.in_ok-append_ids.ensures x
    ∙ ap (λ b. b || g.QS.QuorumSet.is_voter c.child-item.result x) (c.loop-child.invariant x)
    ∙ sym (any_more (λ q. g.QS.QuorumSet.is_voter q x) c.args.children.now c.loop-child.child-index c.child-item.result
    c.loop-child-test.true (sym c.child-item.is))

pub returns-clause-voters : goal.returns-clause-voters
returns-clause-voters g c x =
    c.sorted.ensures.members x
    ∙ c.loop-child.invariant x
    ∙ ap (list_any (λ q. g.QS.QuorumSet.is_voter q x)) (take_all c.loop-child.child-index c.args.children.now c.loop-child-test.false)
