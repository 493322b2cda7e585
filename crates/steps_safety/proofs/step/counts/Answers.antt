use Rattle.steps_safety.proofs.CalledLemmas.{count_steps}
use Rattle.steps_safety.proofs.step.counts.Goals as goal

pub returns : goal.returns
returns g c =
    record {
      step = count_steps _ _ _ _ _ _ c.args.from.now c.args.response.now c.args.candidate.now
          c.handle_vote_response.new.self
          c.handle_vote_response.ensures.counted;
      call = c.handle_vote_response.ensures.counted;
      ignored = c.handle_vote_response.ensures.ignored;
    }
