use Rattle.std.specs.Prelude.{ℕ}
use Rattle.std.specs.Cmp.{nat_eq_equiv}
use Rattle.std.proofs.Common.{ap, ◌∙◌}
use Rattle.tests_safety.proofs.StoryLemmas.{leads_in_vain, some_of}
use Rattle.tests_safety.proofs.story.leads_in_vain.Goals as goal

pub returns : goal.returns
returns g c =
    let run = some_of _ c.writes-wrote.result tt c.in-Some-wrote.is c.writes-wrote.ensures.run in
    let vote = some_of _ c.writes-wrote.result tt c.in-Some-wrote.is c.writes-wrote.ensures.vote in
    record {
      run = leads_in_vain ℕ ℕ _ _ _ _ nat_eq_equiv c.args.id c.args.voter.now c.args.state.now c.wins.new.state
          c.writes-wrote.new.state c.args.other.now c.wins.new.other c.in-Some.leader c.in-Some.ensures.run run vote;
      of_campaign = (
        c.in-Some.ensures.of_campaign.0,
        ap (λ v. v.leader_id) vote ∙ c.in-Some.ensures.of_campaign.1,
      );
    }
