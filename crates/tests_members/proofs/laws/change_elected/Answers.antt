use Rattle.std.proofs.Common.{sym, ◌∙◌}
use Rattle.std.specs.Set.{is_member}
use Rattle.raft_members.proofs.CallerLemmas.{is_member-alike}
use Rattle.tests_members.proofs.laws.change_elected.Goals as goal

pub returns : goal.returns
returns g c before after config =
    let eq = g.NID.PartialEq.eq in
    c.coherent_quorums_meet.ensures c.args.from.now.configs c.in_ok-to.to.configs (is_member eq c.args.before.now)
    (is_member eq c.args.after.now)
    (λ x y e. is_member-alike g.met.NID.Eq.laws x y e c.args.before.now)
    (c.in_ok-to.ensures.coherent config)
    (sym (c.in_ok-quorums.ensures.quorums (is_member eq c.args.before.now)) ∙ sym (c.is_quorum.ensures.quorum before)
    ∙ c.if-not-is_quorum.false)
    (sym (c.in_ok-later.ensures.quorums (is_member eq c.args.after.now)) ∙ sym (c.is_quorum-is_later_quorum.ensures.quorum after)
    ∙ c.if-not-is_later_quorum.false)
