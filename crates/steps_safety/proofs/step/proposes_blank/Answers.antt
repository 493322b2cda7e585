use Rattle.std.proofs.Common.{refl}
use Rattle.steps_safety.proofs.CalledLemmas.{proposal_steps}
use Rattle.steps_safety.proofs.step.proposes_blank.Goals as goal

pub returns : goal.returns
returns g c =
    record {
      step = proposal_steps _ _ _ _ _ _ c.args.leader.now _ c.args.state.now c.propose_blank-made.new.state
          (record {
            sound = c.propose_blank-made.ensures.sound;
            keys = rw c.key_log_ids-after.ensures.keys at c.key_log_ids-after.ensures.canonical;
          })
          c.propose_blank-made.result c.propose_blank-made.ensures.appended refl;
      call = c.propose_blank-made.ensures.appended;
    }
