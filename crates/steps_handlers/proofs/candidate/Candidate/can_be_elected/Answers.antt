use Rattle.std.proofs.Common.{◌≡◌, ◌&&◌, ap, map, sym, ◌∙◌}
use Rattle.std.specs.BTreeSet.{BTreeSet}
use Rattle.raft_members.specs.quorum.Majority.{is_joint_majority}
use Rattle.steps_handlers.specs.Campaign.{can_have_vote_of}
use Rattle.steps_handlers.proofs.lemmas.TallyLemmas.{a_config, each_majority, no_config}
use Rattle.steps_handlers.proofs.candidate.Candidate.can_be_elected.Goals as goal

pub returns-then-is_empty : goal.returns-then-is_empty
returns-then-is_empty g c =
    let eq = g.NID.PartialEq.eq in
    let configs = c.args.self.now.votes.membership.configs in
    let sets = c.as_slice-configs.result.now in
    let is : map (λ (s : BTreeSet g.row.NID.Denot). s.keys) sets ≡ configs =
    ap (map (λ (s : BTreeSet g.row.NID.Denot). s.keys)) c.as_slice-configs.ensures.value ∙ c.get_joint_config.ensures
    ∙ ap (λ m. m.configs) c.membership.ensures ∙ ap (λ m. m.votes.membership.configs) c.self.view_is in
    sym (ap (λ b. b && is_joint_majority eq configs (can_have_vote_of eq c.args.self.now c.args.refused.now))
    (no_config sets configs is (sym c.is_empty.ensures ∙ c.if-is_empty.true)))

pub returns : goal.returns
returns g c =
    let eq = g.NID.PartialEq.eq in
    let configs = c.args.self.now.votes.membership.configs in
    let sets = c.as_slice-configs.result.now in
    let may = can_have_vote_of eq c.args.self.now c.args.refused.now in
    let is : map (λ (s : BTreeSet g.row.NID.Denot). s.keys) sets ≡ configs =
    ap (map (λ (s : BTreeSet g.row.NID.Denot). s.keys)) c.as_slice-configs.ensures.value ∙ c.get_joint_config.ensures
    ∙ ap (λ m. m.configs) c.membership.ensures ∙ ap (λ m. m.votes.membership.configs) c.self.view_is in
    c.can_have_each.ensures ∙ each_majority eq may sets configs is
    ∙ sym (ap (λ b. b && is_joint_majority eq configs may)
    (a_config sets configs is (sym c.is_empty.ensures ∙ c.if-is_empty.false)))
