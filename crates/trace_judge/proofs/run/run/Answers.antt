use Rattle.std.proofs.Common.{◌∷◌, [], List, ℕ, arith, map, subst}
use Rattle.trace_judge.specs.Input.{read_of}
use Rattle.trace_judge.specs.Lists.{HaveSafeMerge}
use Rattle.trace_judge.specs.Numbers.{number_tests}
use Rattle.trace_judge.proofs.lemmas.ListLemmas.{all_read, none_wait, safe_alone}
use Rattle.trace_judge.proofs.run.run.Goals as goal

pub returns-in-Ok-clause-safe : goal.returns-in-Ok-clause-safe
returns-in-Ok-clause-safe g c = λ zero.
    c.in-Ok.ensures.safe (omega (arith, zero)) [] (none_wait number_tests c.judge_lists.new.lists (c.in-Ok.ensures.ended zero))

pub returns-in-Ok-clause-whole : goal.returns-in-Ok-clause-whole
returns-in-Ok-clause-whole g c = λ zero all are.
    all_read g.B.Read.remaining c.judge_lists.new.lists all (c.in-Ok.ensures.ended zero)
    (c.in-Ok.ensures.known (omega (arith, zero)) all are)

pub returns-in-Ok-clause-alone : goal.returns-in-Ok-clause-alone
returns-in-Ok-clause-alone g c = λ zero lines none alone.
    let read =
    all_read g.B.Read.remaining c.judge_lists.new.lists (lines ∷ []) (c.in-Ok.ensures.ended zero)
    (c.in-Ok.ensures.known (omega (arith, zero)) (lines ∷ []) alone) in
    safe_alone number_tests lines
    (subst (λ (l : List (List (List ℕ))). HaveSafeMerge number_tests [] l (lines ∷ [])) none
    (subst (λ (l : List (List (List ℕ))). HaveSafeMerge number_tests [] (map read_of c.args.lists.now) l) read
    (c.in-Ok.ensures.safe (omega (arith, zero)) []
    (none_wait number_tests c.judge_lists.new.lists (c.in-Ok.ensures.ended zero)))))
