use Rattle.std.proofs.Common.{[], ◌∷◌, ◌++◌, ◌∙◌, ap, List, refl, subst, ℕ}
use Rattle.safety_laws.specs.Ranks.{IsAmong}
use Rattle.trace_lines.specs.Reader.{lines_of, lines_read}
use Rattle.trace_judge.specs.Input.{WaitsWith}
use Rattle.trace_judge.specs.Numbers.{number_tests}
use Rattle.trace_judge.proofs.lemmas.ListLemmas.{judges_no_next, judges_same, passed_line}
use Rattle.trace_judge.proofs.run.take_next.Goals as goal

pub returns-then-not-branch-clause-judged : goal.returns-then-not-branch-clause-judged
returns-then-not-branch-clause-judged g c =
    judges_no_next number_tests c.args.first_line.now c.args.list.now c.has_next.new.self c.args.judge.now c.args.judge.now
    c.in_ok-has_next.ensures.none_passed c.has_next.ensures.waits
    (judges_same number_tests (λ later. WaitsWith later c.has_next.new.self) c.args.first_line.now c.args.judge.now)

pub returns-in-Ok-clause-judged : goal.returns-in-Ok-clause-judged
returns-in-Ok-clause-judged g c = (
  c.has_next.new.self.reader.line.items ∷ [],
  c.pass.ensures.passed
      ∙ ap (λ (l : List (List ℕ)). l ++ c.has_next.new.self.reader.line.items ∷ []) c.in_ok-has_next.ensures.none_passed,
  λ later with_line. passed_line number_tests c.args.list.now c.has_next.new.self later c.has_next.ensures.waits,
  λ later judged with_line. (rw c.line.ensures at c.in-Ok.ensures.taken) later judged tt,
)

pub returns-in-Err-clause-judged : goal.returns-in-Err-clause-judged
returns-in-Err-clause-judged g c =
    let pending = c.in_ok-has_next.ensures.pending ∙ c.if-not-branch.false in
    judges_no_next number_tests c.args.first_line.now c.args.list.now c.refuse.new.self c.args.judge.now c.take_line.new.judge
    (ap lines_read c.refuse.ensures ∙ c.in_ok-has_next.ensures.none_passed)
    (λ is. c.refuse.ensures ∙ c.has_next.ensures.waits is)
    (λ later judged waits.
    (rw c.line.ensures at (c.in-Err.ensures.broken (c.if-is_broken.ensures refl))) later judged
    (subst (λ r. IsAmong r.line.items later) c.refuse.ensures
    (waits (ap (λ r. r.is_pending) c.refuse.ensures ∙ pending))))

pub returns-in-Ok-clause-known : goal.returns-in-Ok-clause-known
returns-in-Ok-clause-known g c = λ ls known. c.pass.ensures.known ls (c.in_ok-has_next.ensures.known ls known)

pub returns-in-Err-clause-known : goal.returns-in-Err-clause-known
returns-in-Err-clause-known g c = λ ls known.
    ap (lines_of g.B.Read.remaining) c.refuse.ensures ∙ c.in_ok-has_next.ensures.known ls known
