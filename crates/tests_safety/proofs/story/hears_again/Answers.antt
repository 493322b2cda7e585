use Rattle.std.specs.Prelude.{ℕ}
use Rattle.std.specs.Cmp.{nat_eq_equiv}
use Rattle.tests_safety.proofs.StoryLemmas.{hears_again}
use Rattle.tests_safety.proofs.story.hears_again.Goals as goal

pub returns : goal.returns
returns g c =
    record {
      run = hears_again ℕ ℕ _ _ _ _ nat_eq_equiv c.args.to.now c.args.state.now c.args.follower.now c.asks.new.follower
          c.asks-2.new.follower c.exchanges.new.follower c.args.leader.now c.sends.new.leader c.asks.new.leader c.asks-2.new.leader
          c.sends-2.new.leader c.exchanges.new.leader c.in-Some._lost c.in-Some-sends.request c.in-Some-asks.cut
          c.in-Some-asks-2.found c.in-Some-exchanges._outcome c.args.members.now.configs c.in-Some.ensures.run c.in-Some-asks.ensures.run
          c.in-Some-asks-2.ensures.run c.in-Some-sends.ensures.run c.in-Some-sends.ensures.own c.in-Some-exchanges.ensures.run;
    }
