use Rattle.std.proofs.Common.{◌∙◌, length, sym}
use Rattle.std.proofs.lemmas.Bool.{eqb-true}
use Rattle.std.proofs.lemmas.List.{nil_from_length}
use Rattle.std.proofs.lemmas.Result.{IfErr-weaker, on_ok_weaker}
use Rattle.serde_json.specs.View.{view}
use Rattle.trace_judge.specs.Filled.{IsFilledInFor}
use Rattle.trace_judge.specs.Inner.Table.{numbering}
use Rattle.trace_judge.specs.Inner.Taken.{IsBroken, Refuses, Stays}
use Rattle.trace_judge.specs.Numbers.{number_tests}
use Rattle.trace_judge.proofs.lemmas.RunLemmas.{fills_on, refuses, stays_both, stays_named, takes_empty, takes_line, takes_restored}
use Rattle.trace_judge.proofs.judge.Judge.take.Goals as goal

pub returns-then-branch-clause-taken : goal.returns-then-branch-clause-taken
returns-then-branch-clause-taken c =
    let old = c.args.self.now in
    let start = record old { names = c.learn.new.self; chart = c.begin.new.self } in
    on_ok_weaker c.take_restored.result
    (takes_restored number_tests c.args.line.now (view c.in-Some.value) old start c.fill_in_append.new.self
    c.take_restored.new.self (rw c.in-Some.is at c.in_ok-value.ensures)
    (stays_named number_tests old c.learn.new.self c.begin.new.self c.in_ok-learn.ensures)
    (c.in_ok-fill_in_append.ensures.restored c.if-branch.true)) c.take_restored.ensures.taken

pub returns-then-branch-clause-broken : goal.returns-then-branch-clause-broken
returns-then-branch-clause-broken c =
    IfErr-weaker c.take_restored.result (λ fault. IsBroken fault → ⊥)
    (λ fault. IsBroken fault → Refuses number_tests c.args.line.now c.args.self.now c.take_restored.new.self)
    (λ fault never broken. absurd (never broken)) c.take_restored.ensures.broken

pub returns-then-is_empty-clause-taken : goal.returns-then-is_empty-clause-taken
returns-then-is_empty-clause-taken c =
    takes_empty number_tests c.args.line.now c.args.self.now (nil_from_length c.args.line.now
    (eqb-true (length c.args.line.now) 0 (sym c.is_empty.ensures ∙ c.if-is_empty.true)))

pub returns-clause-taken : goal.returns-clause-taken
returns-clause-taken c =
    let old = c.args.self.now in
    let named = record old { names = c.learn.new.self; chart = c.begin.new.self } in
    let start = c.fill_in_append.new.self in
    let stays =
    stays_both number_tests old named start (stays_named number_tests old c.learn.new.self c.begin.new.self c.in_ok-learn.ensures)
    (c.in_ok-fill_in_append.ensures.stays c.if-branch.false) in
    on_ok_weaker c.take_value.result
    (takes_line number_tests c.args.line.now (view c.in-Some.value) old start c.fill_in_commit.new.self c.take_value.new.self
    (rw c.in-Some.is at c.in_ok-value.ensures) stays c.in_ok-fill_in_commit.ensures) c.take_value.ensures.taken

pub returns-clause-broken : goal.returns-clause-broken
returns-clause-broken c =
    let old = c.args.self.now in
    let named = record old { names = c.learn.new.self; chart = c.begin.new.self } in
    let start = c.fill_in_append.new.self in
    let P = IsFilledInFor (numbering start.names) start.first (view c.in-Some.value) in
    let stays =
    stays_both number_tests old named start (stays_named number_tests old c.learn.new.self c.begin.new.self c.in_ok-learn.ensures)
    (c.in_ok-fill_in_append.ensures.stays c.if-branch.false) in
    IfErr-weaker c.take_value.result (λ fault. IsBroken fault → Stays number_tests c.fill_in_commit.new.self c.take_value.new.self)
    (λ fault. IsBroken fault → Refuses number_tests c.args.line.now old c.take_value.new.self)
    (λ fault refused broken.
    refuses number_tests c.args.line.now (view c.in-Some.value) old start c.take_value.new.self
    (rw c.in-Some.is at c.in_ok-value.ensures) stays
    (fills_on number_tests P P (λ es e h. h) start c.fill_in_commit.new.self c.take_value.new.self c.in_ok-fill_in_commit.ensures
    (refused broken))) c.take_value.ensures.broken
