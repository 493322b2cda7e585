use Rattle.steps_safety.proofs.CalledLemmas.{election_steps}
use Rattle.steps_safety.proofs.step.leads.Goals as goal

pub returns : goal.returns
returns g c =
    record {
      step = election_steps _ _ _ _ _ _ c.args.candidate.now c.args.state.now c.new-made.new.state
          (record {
            sound = c.new-made.ensures.sound;
            keys = rw c.key_log_ids-after.ensures.keys at c.key_log_ids-after.ensures.canonical;
          })
          c.new-made.result
          c.new-made.ensures.leads;
      call = c.new-made.ensures.leads;
    }
