use Rattle.std.proofs.Common.{sym, ◌∙◌}
use Rattle.std.specs.Set.{is_member}
use Rattle.tests_members.proofs.laws.are_both_elected.Goals as goal

pub returns : goal.returns
returns g c first second config both =
    let eq = g.NID.PartialEq.eq in
    let quorums = c.in_ok-quorums.ensures.quorums in
    c.quorums_meet.ensures c.args.members.now.configs (is_member eq c.args.first.now) (is_member eq c.args.second.now) config
    (sym (quorums (is_member eq c.args.first.now)) ∙ sym (c.is_quorum.ensures.quorum first) ∙ c.if-not-is_quorum.false)
    (sym (quorums (is_member eq c.args.second.now)) ∙ sym (c.is_quorum-has_second.ensures.quorum second) ∙ both)
