use Rattle.steps_safety.proofs.CalledLemmas.{change_steps}
use Rattle.steps_safety.proofs.step.proposes_change.Goals as goal

pub returns : goal.returns
returns g c =
    record {
      step = change_steps _ _ _ _ _ _ c.args.leader.now c.propose_change-made.new.self _ c.args.state.now
          c.propose_change-made.new.state
          (record {
            sound = c.propose_change-made.ensures.sound;
            keys = rw c.key_log_ids-after.ensures.keys at c.key_log_ids-after.ensures.canonical;
          })
          c.propose_change-made.result c.propose_change-made.ensures.appended;
      call = c.propose_change-made.ensures.appended;
    }
