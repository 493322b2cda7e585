use Rattle.steps_safety.proofs.CalledLemmas.{change_steps}
use Rattle.steps_safety.proofs.step.leaves_joint.Goals as goal

pub returns : goal.returns
returns g c =
    record {
      step = change_steps _ _ _ _ _ _ c.args.leader.now c.leave_joint-made.new.self _ c.args.state.now
          c.leave_joint-made.new.state
          (record {
            sound = c.leave_joint-made.ensures.sound;
            keys = rw c.key_log_ids-after.ensures.keys at c.key_log_ids-after.ensures.canonical;
          })
          c.leave_joint-made.result c.leave_joint-made.ensures.appended;
      call = c.leave_joint-made.ensures.appended;
    }
