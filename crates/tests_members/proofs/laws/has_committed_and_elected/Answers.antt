use Rattle.std.proofs.Common.{◌≡◌, List, true, ap, sym, ◌∙◌}
use Rattle.std.specs.Set.{is_member}
use Rattle.raft_members.specs.quorum.AtLeast.{ids_of, need_of}
use Rattle.raft_members.specs.quorum.Majority.{has_at_least}
use Rattle.tests_members.proofs.laws.has_committed_and_elected.Goals as goal

pub returns : goal.returns
returns g c same more holders voters elected =
    let eq = g.ID.PartialEq.eq in
    let commits = c.args.commits.now in
    let elects = c.args.elects.now in
    c.at_least_quorums_meet.ensures (ids_of commits) (need_of commits) (need_of elects) (is_member eq c.args.holders.now)
    (is_member eq c.args.voters.now) more
    (sym (c.is_quorum.ensures.quorum holders) ∙ c.if-not-is_quorum.false)
    (ap (λ ids. has_at_least eq ids (need_of elects) (is_member eq c.args.voters.now)) (sym same)
    ∙ sym (c.is_quorum-is_elected.ensures.quorum voters) ∙ elected)
