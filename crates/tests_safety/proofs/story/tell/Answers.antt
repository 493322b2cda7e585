use Rattle.std.specs.Prelude.{ℕ}
use Rattle.std.specs.Cmp.{nat_eq_equiv}
use Rattle.tests_safety.proofs.StoryLemmas.{if_some, tells}
use Rattle.tests_safety.proofs.story.tell.Goals as goal

pub returns : goal.returns
returns g c =
    record {
      tells = if_some c.hears_again.result c.hears_again.ensures.run
          (λ answers back.
          tells ℕ ℕ _ _ _ _ nat_eq_equiv 1 2 3 c.args.one.now c.leads_in_vain.new.state c.hears_again.new.follower
          c.args.two.now c.leads_in_vain.new.other c.leads_in_vain-2.new.other c.wins.new.other c.replicates.new.follower
          c.args.three.now c.leads_in_vain-2.new.state c.wins.new.state c.replicates.new.state c.in-Some-wins.leader
          c.replicates.new.leader c.hears_again.new.leader answers.0 answers.1 c.in-Some.ensures.run c.in-Some.ensures.of_campaign
          c.in-Some-leads_in_vain.ensures.run c.in-Some-leads_in_vain.ensures.of_campaign c.args.members.now.configs
          c.in-Some-wins.ensures.run c.in-Some-wins.ensures.of_campaign c.in-Some-replicates.ensures.run back);
    }
