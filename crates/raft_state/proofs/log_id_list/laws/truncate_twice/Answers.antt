use Rattle.std.proofs.Common.{ap, ◌∙◌}
use Rattle.raft_state.specs.log_id_list.FullLog.{full_log}
use Rattle.raft_state.specs.log_id_list.LogEdits.{front}
use Rattle.raft_state.proofs.lemmas.log_id_list.CutLemmas.{front_twice}
use Rattle.raft_state.proofs.log_id_list.laws.truncate_twice.Goals as goal

pub returns : goal.returns
returns g c = c.truncate-2.ensures.log ∙ (ap (λ log. front log c.args.at) c.truncate.ensures.log
    ∙ front_twice (full_log c.args.list.now) c.args.at)
