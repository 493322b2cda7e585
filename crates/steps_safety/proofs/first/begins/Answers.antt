use Rattle.steps_safety.proofs.FirstLemmas.{new_server}
use Rattle.steps_safety.proofs.first.begins.Goals as goal

pub returns-clause-new : goal.returns-clause-new
returns-clause-new g c =
    let call = c.in_ok-state.ensures in
    let own = call.new_vote in (
      own.0,
      own.2,
      λ initial. new_server _ _ initial c.in_ok-state.state own.0 call.new own.4.vote call.sound
          (rw c.key_log_ids-keys.ensures.keys at c.key_log_ids-keys.ensures.canonical),
    )
