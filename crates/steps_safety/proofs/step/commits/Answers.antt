use Rattle.steps_safety.proofs.CalledLemmas.{commit_steps}
use Rattle.steps_safety.proofs.step.commits.Goals as goal

pub returns : goal.returns
returns g c =
    record {
      step = commit_steps _ _ _ _ _ _ c.args.leader.now c.args.state.now c.commit-made.new.state
          (record {
            sound = c.commit-made.ensures.sound;
            keys = rw c.key_log_ids-after.ensures.keys at c.key_log_ids-after.ensures.canonical;
          })
          c.commit-made.result
          c.commit-made.ensures.committed;
      call = c.commit-made.ensures.committed;
    }
