use Rattle.std.specs.Prelude.{ℕ}
use Rattle.std.specs.Cmp.{nat_eq_equiv}
use Rattle.tests_safety.proofs.StoryLemmas.{if_some, replicates}
use Rattle.tests_safety.proofs.story.replicates.Goals as goal

pub returns : goal.returns
returns g c =
    record {
      run = if_some c.commits.result c.commits.ensures.run
          (λ committed commit.
          replicates ℕ ℕ _ _ _ _ nat_eq_equiv c.args.to.now c.args.state.now c.writes.new.state c.commits.new.state
          c.args.follower.now
          c.exchanges.new.follower c.args.leader.now c.sends.new.leader c.exchanges.new.leader c.commits.new.leader
          c.in-Some-sends.request c.in-Some-exchanges._outcome c.in-Some.ensures.run c.args.members.now.configs c.in-Some-sends.ensures.run
          c.in-Some-sends.ensures.own c.in-Some-exchanges.ensures.run commit);
    }
