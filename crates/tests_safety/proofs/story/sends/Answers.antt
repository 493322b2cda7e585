use Rattle.std.specs.Prelude.{ℕ}
use Rattle.std.specs.Cmp.{nat_eq_equiv}
use Rattle.std.proofs.Common.{refl, ap}
use Rattle.steps_handlers.specs.declared.message.AppendEntries.{AppendEntries}
use Rattle.steps_handlers.specs.declared.message.RequestNumber.TheVariants.{InFlight}
use Rattle.tests_safety.proofs.StoryLemmas.{carries_logs, sends}
use Rattle.raft_state.specs.log_id_list.FullLog.{full_log}
use Rattle.tests_safety.proofs.story.sends.Goals as goal

pub returns : goal.returns
returns g c =
    let request : AppendEntries _ _ _ _ _ = record {
      leader_id = c.vote_ref.result.now.leader_id;
      request = InFlight c.in-Logs.id;
      prev = c.in-Logs.log_id_range.prev;
      entries = c.in-Some-entries.entries;
      committed = c.args.state.now.committed;
    } in
    record {
      run = sends ℕ ℕ _ _ _ _ nat_eq_equiv c.args.state.now c.args.to.now 64 c.args.leader.now c.sends.new.leader
          c.in-Some.sending request
          c.in-Some.ensures.step c.in-Some.ensures.call (ap (λ v. v.leader_id) c.vote_ref.ensures)
          (carries_logs (full_log c.args.state.now.log_ids) c.in-Some.sending c.in-Logs.id c.in-Logs.log_id_range c.in-Logs.is)
          c.args.members.now.configs c.in-Some-entries.ensures.logged refl;
      own = ap (λ v. v.leader_id) c.vote_ref.ensures;
    }
