use Rattle.std.specs.Option.{option_eq}
use Rattle.std.proofs.Common.{◌≡◌, Some, ap, sym, true, ◌∙◌}
use Rattle.raft_state.specs.raft_state.VoteAndLog.{vote_of}
use Rattle.steps_handlers.proofs.lemmas.AppendLemmas.{must_be}
use Rattle.steps_handlers.proofs.lemmas.VoteLemmas.{leads_alike}
use Rattle.steps_handlers.proofs.leader.Leader.resume.Goals as goal

pub returns-clause-leads : goal.returns-clause-leads
returns-clause-leads g c =
    let eq = g.NID.PartialEq.eq in
    let v : c.vote_ref-vote.result.now ≡ vote_of c.args.state.now = c.vote_ref-vote.ensures in
    let for_it : option_eq eq c.voted_for.result (Some c.args.id) ≡ true = must_be _ (sym c.ne.ensures ∙ c.if-ne.false) in
    let made = c.in_ok-leader.leader in
    let begins = c.in_ok-leader.ensures.begins in
    leads_alike eq g.C.PartialEq.eq g.met.C.Eq.laws g.L.LeaderIdentity.voted g.L.LeaderIdentity.committed
    (vote_of c.args.state.now).committed (vote_of c.args.state.now).leader_id made.leader_id made.id
    (ap (λ w. w.committed) (sym v) ∙ sym c.is_committed.ensures ∙ c.if-not-is_committed.false)
    (begins.leader ∙ c.to_committed-leader_id.ensures ∙ ap g.L.LeaderIdentity.committed (c.leader_id-2.ensures ∙ ap (λ w. w.leader_id) v))
    (ap (λ o. option_eq eq o (Some made.id)) (sym (c.voted_for.ensures
    ∙ ap g.L.LeaderIdentity.voted (c.leader_id.ensures ∙ ap (λ w. w.leader_id) v)))
    ∙ ap (λ i. option_eq eq c.voted_for.result (Some i)) begins.node ∙ for_it)
