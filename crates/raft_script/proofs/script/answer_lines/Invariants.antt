use Rattle.raft_script.specs.Engine.{engine_state}
use Rattle.raft_script.specs.Input.{contents, unread}
use Rattle.raft_script.proofs.lemmas.ScriptLemmas.{Passed}
use Rattle.raft_script.proofs.script.answer_lines.Given as goal

-- the lines before are run, and their replies are printed
abbrev pub invariant-loop-passed : goal.invariant-loop-passed
invariant-loop-passed g l = Passed (unread g.R.Read.remaining l.fn.dialogue) (contents (g.W.Write.contents l.fn.writer) l.fn.dialogue)
    l.passed (engine_state l.engine) (unread g.R.Read.remaining l.dialogue) (contents (g.W.Write.contents l.writer) l.dialogue)
