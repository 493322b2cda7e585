use Rattle.std.proofs.Common.{sym}
use Rattle.tests_safety.proofs.StoryLemmas.{logged_push}
use Rattle.raft_state.specs.log_id_list.FullLog.{full_log}
use Rattle.tests_safety.proofs.story.entries.Goals as goal

pub loop-index-preserved : goal.loop-index-preserved
loop-index-preserved g c =
    logged_push c.args.members.now.configs (full_log c.args.state.now.log_ids) c.loop-index.read.items c.push.new.self.items
    c.loop-index.index _
    c.in-Ok.ensures.items c.loop-index.invariant (sym c.in-Some.ensures) c.in-Some-payload_at.ensures.read
