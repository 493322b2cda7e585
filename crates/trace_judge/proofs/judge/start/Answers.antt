use Rattle.std.proofs.Common.{ℕ}
use Rattle.std.proofs.lemmas.Bool.{eqb-true}
use Rattle.trace_checker.specs.declared.memberships.Memberships.{Memberships}
use Rattle.trace_judge.specs.Numbers.{number_tests}
use Rattle.trace_judge.proofs.lemmas.RunLemmas.{exact_when, started}
use Rattle.trace_judge.proofs.judge.start.Goals as goal

pub returns : goal.returns
returns c =
    let members : Memberships ℕ ℕ = record { initial = c.in-Some.initial; held = c.new-held.result } in
    started number_tests c.args.line.now _ members c.in-Some.counting c.in_ok-checker.ensures.ok c.in_ok-checker.ensures.counting
    (rw c.in-Some.is at c.in_ok-initial.ensures.says) c.new-held.ensures.items (c.in_ok-initial.ensures.learns.1 c.new-names.ensures)
    (exact_when _ c.in-Some.counting
    (c.memberships_are_exact.ensures (λ x y e. eqb-true x y e) (λ x y e. eqb-true x y e) (λ x y e. eqb-true x y e)))
    c.in_ok-checker.ensures.begins c.in_ok-counts.ensures
