use Rattle.steps_safety.proofs.CalledLemmas.{restart_step}
use Rattle.steps_safety.proofs.step.restarts.Goals as goal

pub returns : goal.returns
returns g c =
    let call = c.in_ok-state.ensures in
    record {
      step = restart_step _ _ _ _ _ _ c.args.stored.now.vote c.args.stored.now.snapshot
          c.args.stored.now.entries.items c.args.stored.now.committed c.in_ok-state.state call.sound
          (rw c.key_log_ids-after.ensures.keys at c.key_log_ids-after.ensures.canonical) call.vote call.restores;
      call = call.restores;
    }
