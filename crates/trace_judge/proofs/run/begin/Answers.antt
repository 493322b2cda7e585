use Rattle.std.specs.Prelude.{get_or}
use Rattle.std.proofs.Common.{◌<◌, ◌∙◌, ap, arith, length, sym, ℕ, List, ◌++◌, ◌∷◌, []}
use Rattle.std.proofs.lemmas.Bool.Decides.{nat_tests}
use Rattle.std.proofs.lemmas.Option.{slice_get-get_or}
use Rattle.trace_judge.specs.Input.{read_of}
use Rattle.trace_judge.specs.Numbers.{number_tests}
use Rattle.trace_judge.proofs.lemmas.ListLemmas.{begins, keep_known}
use Rattle.trace_judge.proofs.run.begin.Goals as goal

pub returns-clause-begins : goal.returns-clause-begins
returns-clause-begins g c =
    let is_some = c.if-is_empty.ensures in
    let within : 0 < length c.args.lists.now = grind (arith, nat_tests) in
    let same = c.in_ok-line.ensures.items_if_clones_equal (λ x y e. e) ∙ c.line.ensures in
    let was = read_of (get_or c.args.lists.now 0 c.index-lists-0.result) in
    let grows =
    c.pass.ensures.passed ∙ ap (λ (l : List (List ℕ)). l ++ c.has_next.new.self.reader.line.items ∷ [])
    c.in_ok-has_next.ensures.none_passed ∙ ap (λ (line : List ℕ). was ++ line ∷ []) (sym same) in
    begins number_tests read_of c.args.lists.now 0 _ c.pass.new.self c.in_ok-line.line.items
    c.in_ok-judge.judge (slice_get-get_or c.args.lists.now 0 c.index-lists-0.result within) grows
    (rw c.deref.ensures.value at c.in_ok-judge.ensures)

pub returns-clause-known : goal.returns-clause-known
returns-clause-known g c =
    let is_some = c.if-is_empty.ensures in
    let within : 0 < length c.args.lists.now = grind (arith, nat_tests) in
    keep_known g.B.Read.remaining c.args.lists.now 0 _ c.pass.new.self
    (slice_get-get_or c.args.lists.now 0 c.index-lists-0.result within)
    (λ ls known. c.pass.ensures.known ls (c.in_ok-has_next.ensures.known ls known))
