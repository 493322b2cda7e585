use Rattle.std.specs.Prelude.{length, nat_lt}
use Rattle.std.proofs.Common.{◌≡◌, List, true, ap, rules, sym, ◌∙◌}
use Rattle.std.proofs.lemmas.Result.{IfErr-weaker, IfOk-weaker}
use Rattle.raft_members.specs.membership.Change.{last_config, next_members, union_of}
use Rattle.raft_members.specs.membership.Members.{members_of}
use Rattle.raft_members.specs.quorum.Coherence.{next_configs}
use Rattle.raft_state.specs.membership_state.Memberships.{in_effect}
use Rattle.steps_handlers.proofs.lemmas.AppendLemmas.{ok_gives}
use Rattle.steps_handlers.proofs.lemmas.ChangeLemmas.{appends_joint, last_alone, longer, no_more, refuses_joint}
use Rattle.steps_handlers.proofs.leader.Leader.leave_joint.Goals as goal

pub returns-clause-goal : goal.returns-clause-goal
returns-clause-goal g c =
    let configs = (in_effect c.args.state.now.membership_state).configs in
    let is : c.membership-members.result.now ≡ in_effect c.args.state.now.membership_state = search rules in
    let long : nat_lt 1 (length configs) ≡ true =
    ap (λ m. nat_lt 1 (length m.configs)) (sym is) ∙ sym c.is_in_joint_consensus.ensures ∙ c.if-not-is_in_joint_consensus.false in
    ok_gives _ _ c.propose_change.result
    (λ entry says. says.changed.0
    ∙ ap (λ keys. next_configs g.NID.PartialEq.eq configs (union_of g.NID.Ord.cmp (last_config configs) keys)) c.new-none.ensures.empty
    ∙ last_alone g.met.NID.Eq.laws g.NID.Ord.cmp configs (longer (length configs) long))
    c.propose_change.ensures.appended

pub returns-clause-appended : goal.returns-clause-appended
returns-clause-appended g c =
    let old = in_effect c.args.state.now.membership_state in
    let goal : union_of g.NID.Ord.cmp (last_config old.configs) c.new-none.result.keys ≡ last_config old.configs =
    ap (λ keys. union_of g.NID.Ord.cmp (last_config old.configs) keys) c.new-none.ensures.empty
    ∙ no_more g.NID.Ord.cmp (last_config old.configs) in
    IfOk-weaker c.propose_change.result _ _
    (appends_joint _ _ _
    (ap (λ (ids : List g.row.NID.Denot). next_members g.NID.PartialEq.eq (members_of g.NID.Ord.cmp old) ids c.args.retain) goal)
    _ _ _ _)
    c.propose_change.ensures.appended

pub returns-clause-refused : goal.returns-clause-refused
returns-clause-refused g c =
    let old = in_effect c.args.state.now.membership_state in
    let goal : union_of g.NID.Ord.cmp (last_config old.configs) c.new-none.result.keys ≡ last_config old.configs =
    ap (λ keys. union_of g.NID.Ord.cmp (last_config old.configs) keys) c.new-none.ensures.empty
    ∙ no_more g.NID.Ord.cmp (last_config old.configs) in
    IfErr-weaker c.propose_change.result _ _
    (refuses_joint _ _ _
    (ap (λ (ids : List g.row.NID.Denot). next_members g.NID.PartialEq.eq (members_of g.NID.Ord.cmp old) ids c.args.retain) goal)
    _ _ _ _ _)
    c.propose_change.ensures.refused
