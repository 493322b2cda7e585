use Rattle.std.proofs.Common.{◌≡◌, true, refl, sym, ◌∙◌, ap, inl}
use Rattle.std.specs.Set.{is_member}
use Rattle.raft_members.specs.quorum.Majority.{is_joint_majority}
use Rattle.raft_members.specs.membership.Members.{members_of}
use Rattle.raft_members.specs.quorum.Reached.{IsGranted}
use Rattle.raft_members.proofs.CallerLemmas.{is_member-alike}
use Rattle.tests_members.proofs.laws.change_once_held.Goals as goal

pub returns : goal.returns
returns g c distinct config set q =
    let eq = g.NID.PartialEq.eq in
    let held = is_member eq c.args.holders.now in
    let configs = c.args.from.now.configs in
    let h : is_joint_majority eq configs held ≡ true =
    sym (c.in_ok-quorums.ensures.quorums held) ∙ sym (c.is_quorum.ensures.quorum distinct) ∙ c.if-not-is_quorum.false in
    let granted : IsGranted eq configs (λ id. true) held = record {
      has_config = config;
      are_voters = λ id v. refl;
      respects_equality = λ x y e. is_member-alike g.met.NID.Eq.laws x y e c.args.holders.now;
      voters_reached = inl h;
    } in
    let known = c.change_keeps_reached.ensures (members_of g.NID.Ord.cmp c.args.from.now) (λ id. true) held granted in
    known.changed_quorums c.args.change c.args.retain set (ap (λ cs. is_joint_majority eq cs set) (sym c.in_ok-to.ensures.changed.0) ∙ q)
