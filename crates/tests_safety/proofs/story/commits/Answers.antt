use Rattle.std.specs.Prelude.{ℕ}
use Rattle.std.specs.Cmp.{nat_eq_equiv}
use Rattle.tests_safety.proofs.StoryLemmas.{commits, whenever}
use Rattle.tests_safety.proofs.story.commits.Goals as goal

pub returns : goal.returns
returns g c =
    let flushed = c.in-Ok.ensures in
    record {
      run = whenever c.in-Ok-commits.committed
          (commits ℕ ℕ _ _ _ _ nat_eq_equiv c.args.state.now c.commits.new.state c.args.leader.now c.handle_flushed.new.self
          c.copied-upto.result c.in-Ok-commits.committed flushed.logged flushed.counted c.handle_flushed.ensures.stale
          c.handle_flushed.ensures.not_counted c.handle_flushed.ensures.members c.handle_flushed.ensures.node
          c.in-Ok-commits.ensures.step c.in-Ok-commits.ensures.call);
    }
