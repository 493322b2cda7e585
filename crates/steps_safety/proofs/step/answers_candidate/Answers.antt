use Rattle.steps_safety.proofs.CalledLemmas.{vote_steps}
use Rattle.steps_safety.proofs.step.answers_candidate.Goals as goal

pub returns : goal.returns
returns g c =
    record {
      step = vote_steps _ _ _ _ _ _ c.args.request.now c.args.state.now c.handle_vote_request-response.result
          c.handle_vote_request-response.new.state
          (record {
            sound = c.handle_vote_request-response.ensures.sound;
            keys = rw c.key_log_ids-after.ensures.keys at c.key_log_ids-after.ensures.canonical;
          })
          c.handle_vote_request-response.ensures.answers;
      call = c.handle_vote_request-response.ensures.answers;
    }
