use Rattle.std.proofs.Common.{◌≡◌, ◌+◌, ◌<◌, ap, arith, rules, true, ◌∙◌}
use Rattle.raft_base.specs.Vote.{vote_cmp}
use Rattle.raft_members.specs.quorum.Majority.{is_voter_of}
use Rattle.raft_progress.specs.tracked.Tracked.{tracked_view}
use Rattle.raft_state.specs.membership_state.Memberships.{in_effect}
use Rattle.raft_state.specs.raft_state.VoteAndLog.{vote_of}
use Rattle.std.specs.Prelude.{Some}
use Rattle.std.specs.declared.cmp.Ordering.TheVariants.{Greater}
use Rattle.steps_handlers.proofs.lemmas.TermLemmas.{at_least, later_term}
use Rattle.steps_handlers.proofs.lemmas.TrackedLemmas.{begins_with_default, voter_known}
use Rattle.steps_handlers.proofs.lemmas.VoteLemmas.{first_vote}
use Rattle.steps_handlers.proofs.candidate.Candidate.campaign.Goals as goal

pub returns-clause-campaigns : goal.returns-clause-campaigns
returns-clause-campaigns g c =
    let term_of = g.L.LeaderIdentity.term_of in
    let order = g.L.LeaderIdentity.order in
    let old = vote_of c.args.state.now in
    let made = c.new-vote.result in
    let old_term : c.term.result ≡ term_of old.leader_id =
    c.term.ensures ∙ ap term_of (c.leader_id.ensures ∙ ap (λ v. v.leader_id) c.vote_ref.ensures) in
    let new_term : term_of made.leader_id ≡ c.max-term.result + 1 =
    ap (λ v. term_of v.leader_id) c.new-vote.ensures
    ∙ (g.met.L.LeaderIdentity.made (c.max-term.result + 1) c.args.id).0 in
    let later : term_of old.leader_id < term_of made.leader_id = omega (arith, old_term, new_term, c.max-term.ensures) in
    let greater : vote_cmp order made old ≡ Some Greater =
    later_term order term_of made old (g.met.L.LeaderIdentity.by_term made.leader_id old.leader_id) later in
    let yes : c.promise-promised.result ≡ true =
    c.promise-promised.ensures.answer ∙ at_least order term_of made old greater in
    let counted : (tracked_view c.update-reply.new.self).membership.configs ≡ (in_effect c.args.state.now.membership_state).configs =
    search rules in
    record {
      may = search rules;
      node = search rules;
      vote = search rules;
      is_greater = greater;
      promised = rw yes at c.promise-promised.ensures.taken;
      last = search rules;
      configs = counted;
      voters_counted = λ x votes.
          voter_known g.NID.PartialEq.eq _ _ _ (tracked_view c.update-reply.new.self) c.update-reply.ensures.ready x
          (ap (λ cs. is_voter_of g.NID.PartialEq.eq cs x) counted ∙ votes);
      own_vote = λ x.
          first_vote g.NID.PartialEq.eq g.met.NID.Eq.laws (tracked_view c.in-Ok-new.votes) (tracked_view c.update-reply.new.self) c.args.id
          c.update-reply.result c.update-reply.ensures.step
          (λ y v known. begins_with_default g.NID.PartialEq.eq _ _ _ _ _ (tracked_view c.in-Ok-new.votes)
          c.in-Ok-new.ensures.progress y v known)
          x;
    }
