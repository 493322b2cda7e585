use Rattle.steps_safety.proofs.CalledLemmas.{hearing_step}
use Rattle.steps_safety.proofs.step.hears.Goals as goal

pub returns : goal.returns
returns g c =
    record {
      step = hearing_step _ _ _ _ _ _ c.args.vote c.args.state.now c.promise-promised.new.self
          c.promise-promised.result
          (record {
            sound = c.promise-promised.ensures.sound;
            keys = rw c.key_log_ids-after.ensures.keys at c.key_log_ids-after.ensures.canonical;
          })
          c.promise-promised.ensures.answer c.promise-promised.ensures.taken;
      answer = c.promise-promised.ensures.answer;
      call = c.promise-promised.ensures.taken;
    }
