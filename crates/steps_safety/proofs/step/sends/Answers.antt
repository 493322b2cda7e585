use Rattle.steps_safety.proofs.CalledLemmas.{send_steps}
use Rattle.steps_safety.proofs.step.sends.Goals as goal

pub returns : goal.returns
returns g c =
    record {
      step = send_steps _ _ _ _ _ _ c.args.leader.now c.next_request.new.self c.args.state.now c.args.to.now
          c.args.max_entries
          (rw c.key_log_ids-keys.ensures.keys at c.key_log_ids-keys.ensures.canonical) c.next_request.result c.next_request.ensures;
      call = c.next_request.ensures;
    }
