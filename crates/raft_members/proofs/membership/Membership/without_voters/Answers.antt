use Rattle.std.proofs.Common.{◌≡◌, ◌∙◌, ap, map}
use Rattle.raft_members.specs.membership.Change.{without, last_config}
use Rattle.raft_members.proofs.membership.Membership.without_voters.Goals as goal

pub returns : goal.returns
returns g c =
    let last = ap (λ xs. last_config (map (λ s. s.keys) xs)) c.deref.ensures.value ∙ ap (λ m. last_config m.configs) c.self.view_is in
    let goal_is : c.in_ok-goal.goal.keys ≡ without g.NID.PartialEq.eq (last_config c.args.self.now.configs) c.args.ids.now.keys =
    c.in_ok-goal.ensures ∙ ap (λ l. without g.NID.PartialEq.eq l c.args.ids.now.keys) last in
    rw (← goal_is) c.next_coherent.ensures
