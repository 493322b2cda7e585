use Rattle.std.specs.Prelude.{ℕ}
use Rattle.std.specs.Cmp.{nat_eq_equiv}
use Rattle.tests_safety.proofs.StoryLemmas.{asks, if_some}
use Rattle.tests_safety.proofs.story.asks.Goals as goal

pub returns : goal.returns
returns g c =
    record {
      run = if_some c.exchanges.result c.exchanges.ensures.run
          (λ outcome exchange.
          asks ℕ ℕ _ _ _ _ nat_eq_equiv c.args.to.now c.args.state.now c.args.follower.now c.exchanges.new.follower
          c.args.leader.now c.exchanges.new.leader c.in-Some.request outcome c.in-Some.ensures.run c.in-Some.ensures.own exchange);
    }
