use Rattle.std.specs.Prelude.{ℕ}
use Rattle.std.specs.Cmp.{nat_eq_equiv}
use Rattle.std.proofs.Common.{refl, ap}
use Rattle.steps_handlers.specs.declared.message.AppendEntries.{AppendEntries}
use Rattle.tests_safety.proofs.StoryLemmas.{beats}
use Rattle.tests_safety.proofs.story.beats.Goals as goal

pub returns : goal.returns
returns g c =
    let request : AppendEntries _ _ _ _ _ = record {
      leader_id = c.vote_ref.result.now.leader_id;
      request = c.in-Some.heartbeat.request;
      prev = c.in-Some.heartbeat.prev;
      entries = c.new.result;
      committed = c.args.state.now.committed;
    } in
    record {
      run = beats ℕ ℕ _ _ _ _ nat_eq_equiv c.args.state.now c.args.leader.now c.in-Some.heartbeat request c.in-Some.ensures.step
          (ap (λ v. v.leader_id) c.vote_ref.ensures) refl c.new.ensures.items refl;
      own = ap (λ v. v.leader_id) c.vote_ref.ensures;
    }
