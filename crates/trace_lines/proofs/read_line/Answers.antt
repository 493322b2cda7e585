use Rattle.std.specs.Prelude.{IfSome}
use Rattle.std.specs.Io.BufRead.{take_through}
use Rattle.std.proofs.Common.{rules, tests, subst, ◌≡◌, ◌++◌, List, ℕ}
use Rattle.trace_lines.proofs.lemmas.LineLemmas.{takes_line, trimmed}
use Rattle.trace_lines.proofs.read_line.Goals as goal

pub returns-clause-line : goal.returns-clause-line
returns-clause-line g c = takes_line _ _ c.read_until.new.buf.items _ _
    (subst (λ (l : List ℕ). IfSome (g.B.Read.remaining c.args.input.now) (λ text. c.read_until.new.buf.items ≡ l ++ take_through 10 text))
    c.clear.ensures.items c.in_ok-read_until.ensures.bytes) c.in_ok-read_until.ensures.rest
    (trimmed _ _ _ _ c.pop_if.result _ (λ x b y q. search (rules, tests)) c.pop_if.ensures.cases c.is_none.ensures)
