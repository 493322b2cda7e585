use Rattle.std.proofs.Common.{◌≡◌, List, ℕ, Some, subst, sym}
use Rattle.raft_script.specs.Script.{RunsScript}
use Rattle.raft_script.proofs.tests.script.replies_to.Goals as goal

pub returns : goal.returns
returns c done =
    let printed = c.run-status.ensures.prints done in
    let whole : c.run-status.new.writer.items ≡ printed.0 = rw c.new-out.ensures.items at printed.1 in
    subst (λ (text : List ℕ). RunsScript (Some c.args.script.now) c.run-status.result text) (sym whole) printed.2
