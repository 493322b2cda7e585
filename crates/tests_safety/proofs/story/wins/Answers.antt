use Rattle.std.specs.Prelude.{ℕ, Some, nat_eq}
use Rattle.std.specs.Cmp.{nat_eq_equiv}
use Rattle.std.specs.Ordering.{nat_cmp}
use Rattle.steps_handlers.specs.Compared.{LeaderMembers}
use Rattle.raft_progress.specs.progress.Comparisons.{OrdMembers}
use Rattle.std.proofs.Common.{ap, ◌∙◌}
use Rattle.tests_safety.proofs.StoryLemmas.{of_campaign, ok_of, wins}
use Rattle.tests_safety.proofs.story.wins.Goals as goal

pub returns : goal.returns
returns g c =
    let ids : OrdMembers ℕ = record { partial_cmp = λ x y. Some (nat_cmp x y); eq = nat_eq; cmp = nat_cmp } in
    let logs : OrdMembers _ = record {
      partial_cmp = g.C.PartialOrd.partial_cmp;
      eq = g.C.PartialEq.eq;
      cmp = g.C.Ord.cmp;
    } in
    let kind : LeaderMembers _ _ _ = record {
      is_default = g.L.Default.is_default;
      eq = g.L.PartialEq.eq;
      order = g.L.LeaderIdentity.order;
      term_of = g.L.LeaderIdentity.term_of;
      voted = g.L.LeaderIdentity.voted;
      committed = g.L.LeaderIdentity.committed;
      leader_of = g.L.LeaderIdentity.leader_of;
      committed_of = g.L.LeaderIdentity.committed_of;
      same_as = g.L.LeaderIdentity.same_as;
    } in
    let counted = c.counts.ensures in
    let made = c.leads-made.ensures in
    let call = ok_of _ c.leads-made.result c.in-Ok-made.leader c.in-Ok-made.is made.call in
    record {
      run = wins ℕ ℕ ids _ kind logs nat_eq_equiv c.args.id c.args.voter.now c.args.term c.args.state.now c.campaigns.new.state
          c.leads-made.new.state c.args.other.now c.answers_candidate-response.new.state c.in-Ok.candidate c.counts.new.candidate
          c.answers_candidate-response.result c.in-Ok-made.leader g.met.C.Eq.laws g.met.L.LeaderIdentity.made c.in-Ok.ensures.call
          counted.call counted.ignored call c.request-request.result c.request-request.ensures
          c.in-Ok.ensures.step c.answers_candidate-response.ensures.step c.answers_candidate-response.ensures.call counted.step
          (ok_of _ c.leads-made.result c.in-Ok-made.leader c.in-Ok-made.is made.step);
      of_campaign = of_campaign ℕ ℕ ids _ kind logs nat_eq_equiv c.args.id c.args.voter.now c.args.term c.args.state.now
          c.campaigns.new.state
          c.leads-made.new.state c.args.other.now c.answers_candidate-response.new.state c.in-Ok.candidate c.counts.new.candidate
          c.answers_candidate-response.result c.in-Ok-made.leader g.met.C.Eq.laws g.met.L.LeaderIdentity.made c.in-Ok.ensures.call
          counted.call counted.ignored call;
    }
