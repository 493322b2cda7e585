use Rattle.std.specs.Prelude.{ℕ}
use Rattle.std.specs.Cmp.{nat_eq_equiv}
use Rattle.tests_safety.proofs.StoryLemmas.{exchanges}
use Rattle.tests_safety.proofs.story.exchanges.Goals as goal

pub returns : goal.returns
returns g c =
    record {
      run = exchanges ℕ ℕ _ _ _ _ nat_eq_equiv c.args.to.now c.args.follower.now c.answers_leader.new.state c.args.request.now
          c.in-Ok.made.0
          c.args.leader.now c.handle_response.new.self tt c.in-Ok.ensures.step c.in-Ok-handle_response.ensures.takes;
    }
