use Rattle.tests_safety.specs.Story.{AreLogged}
use Rattle.raft_state.specs.log_id_list.FullLog.{full_log}
use Rattle.tests_safety.proofs.story.entries.Given as goal

abbrev pub invariant-loop-index : goal.invariant-loop-index
invariant-loop-index g l = AreLogged l.members.configs (full_log l.state.log_ids) l.read.items
