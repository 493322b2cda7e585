use Rattle.steps_safety.proofs.CalledLemmas.{heartbeat_steps}
use Rattle.steps_safety.proofs.step.sends_heartbeat.Goals as goal

pub returns : goal.returns
returns g c =
    record {
      step = heartbeat_steps _ _ _ _ _ _ c.args.leader.now c.args.state.now c.args.to.now
          (rw c.key_log_ids-keys.ensures.keys at c.key_log_ids-keys.ensures.canonical) c.heartbeat.result c.heartbeat.ensures;
      call = c.heartbeat.ensures;
    }
