use Rattle.std.specs.Prelude.{⊤}
use Rattle.std.proofs.lemmas.Result.{MatchResult-from_err}
use Rattle.std.proofs.Common.{◌+◌, arith}
use Rattle.raft_script.specs.Engine.{engine_state}
use Rattle.raft_script.specs.LineRun.{AnswersLine}
use Rattle.raft_script.proofs.lemmas.ScriptLemmas.{broken_after, broken_inside, held_back, passed_all, passed_last, passed_more, passed_none, passed_to_bad}
use Rattle.raft_script.proofs.script.answer_lines.Goals as goal

pub loop-passed-init : goal.loop-passed-init
loop-passed-init g c = passed_none _ _ _ c.new-engine.ensures

pub returns-then-not-branch-clause-ok : goal.returns-then-not-branch-clause-ok
returns-then-not-branch-clause-ok g c = passed_to_bad _ _ _ _ _ _ c.loop-passed.invariant _ _ _ c.in_ok-is_last.ensures.contents
    c.read_line.new.line.items (engine_state c.answer_line.new.engine) _ _ c.if-not-branch.true c.in_ok-is_last.ensures.line
    (held_back (g.W.Write.contents c.read_line.new.writer) c.read_line.new.self.replies.items c.answer_line.new.replies.items
    (AnswersLine (c.loop-passed.passed + 1) (engine_state c.loop-passed.engine) c.read_line.new.line.items
    c.in_ok-answer_line.field-0 (engine_state c.answer_line.new.engine))
    (rw c.deref.ensures.value at c.in_ok-answer_line.ensures.answered))

pub returns-then-is_last-clause-ok : goal.returns-then-is_last-clause-ok
returns-then-is_last-clause-ok g c = passed_last _ _ _ _ _ _ c.loop-passed.invariant _ _ _ c.in_ok-is_last.ensures.contents
    c.read_line.new.line.items (engine_state c.answer_line.new.engine) _ _ c.if-is_last.true c.if-not-branch.false
    c.in_ok-is_last.ensures.line
    (held_back (g.W.Write.contents c.read_line.new.writer) c.read_line.new.self.replies.items c.answer_line.new.replies.items
    (AnswersLine (c.loop-passed.passed + 1) (engine_state c.loop-passed.engine) c.read_line.new.line.items
    c.in_ok-answer_line.field-0 (engine_state c.answer_line.new.engine))
    (rw c.deref.ensures.value at c.in_ok-answer_line.ensures.answered))

pub loop-passed-preserved : goal.loop-passed-preserved
loop-passed-preserved g c = passed_more _ _ _ _ _ _ c.loop-passed.invariant _ _ _ c.in_ok-is_last.ensures.contents
    c.read_line.new.line.items (engine_state c.answer_line.new.engine) _ _ c.if-is_last.false c.if-not-branch.false
    c.in_ok-is_last.ensures.line
    (held_back (g.W.Write.contents c.read_line.new.writer) c.read_line.new.self.replies.items c.answer_line.new.replies.items
    (AnswersLine (c.loop-passed.passed + 1) (engine_state c.loop-passed.engine) c.read_line.new.line.items
    c.in_ok-answer_line.field-0 (engine_state c.answer_line.new.engine))
    (rw c.deref.ensures.value at c.in_ok-answer_line.ensures.answered))

pub returns-clause-ok : goal.returns-clause-ok
returns-clause-ok g c = passed_all _ _ _ _ _ _ c.loop-passed.invariant
    (omega (arith, c.loop-passed.auto.passed-end, c.loop-passed-test.false))

pub returns-in_err-is_last-clause-err : goal.returns-in_err-is_last-clause-err
returns-in_err-is_last-clause-err g c = MatchResult-from_err c.from_residual.result (λ _. ⊤) _ c.from_residual.ensures.0
    (λ _. broken_inside _ _ _ _ _ _ c.loop-passed.invariant _ _ c.in_err-is_last.ensures.none_lost c.in_err-is_last.ensures.contents)

pub returns-in_err-answer_line-clause-err : goal.returns-in_err-answer_line-clause-err
returns-in_err-answer_line-clause-err g c =
    MatchResult-from_err c.from_residual-in_err-answer_line.result (λ _. ⊤) _ c.from_residual-in_err-answer_line.ensures.0
    (λ _. broken_after _ _ _ _ _ _ c.loop-passed.invariant _ _ c.read_line.new.line.items _ c.in_ok-is_last.ensures.line)
