use Rattle.steps_safety.proofs.CalledLemmas.{campaign_steps}
use Rattle.steps_safety.proofs.step.campaigns.Goals as goal

pub returns : goal.returns
returns g c =
    record {
      step = campaign_steps _ _ _ _ _ _ c.args.id c.args.greatest_term c.args.state.now c.campaign-made.new.state
          (record {
            sound = c.campaign-made.ensures.sound;
            keys = rw c.key_log_ids-after.ensures.keys at c.key_log_ids-after.ensures.canonical;
          })
          c.campaign-made.result
          c.campaign-made.ensures.campaigns;
      call = c.campaign-made.ensures.campaigns;
    }
