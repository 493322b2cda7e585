use Rattle.std.proofs.Common.{◌≡◌, ◌∙◌, ap, map}
use Rattle.raft_members.specs.membership.Change.{union_of, last_config}
use Rattle.raft_members.proofs.membership.Membership.with_voter_ids.Goals as goal

pub returns : goal.returns
returns g c =
    let last = ap (λ xs. last_config (map (λ s. s.keys) xs)) c.deref.ensures.value ∙ ap (λ m. last_config m.configs) c.self.view_is in
    let goal_is : c.in_ok-goal.goal.keys ≡ union_of g.NID.Ord.cmp (last_config c.args.self.now.configs) c.args.ids.keys =
    c.in_ok-goal.ensures ∙ ap (λ l. union_of g.NID.Ord.cmp l c.args.ids.keys) last in
    rw (← goal_is) c.next_coherent.ensures
