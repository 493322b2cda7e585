use Rattle.std.proofs.Common.{◌<◌, length, arith}
use Rattle.std.proofs.lemmas.Option.{slice_get-get_or}
use Rattle.trace_judge.specs.Numbers.{number_tests}
use Rattle.trace_judge.proofs.lemmas.ListLemmas.{judges_more, judges_no_more, keep_known}
use Rattle.trace_judge.proofs.run.take_lines.Goals as goal
use Rattle.trace_judge.proofs.run.take_lines.Goals.{then-at-lists, else-at-lists}

pub loop-init : goal.loop-init
loop-init g c = (judges_no_more number_tests c.args.first_line.now c.args.lists.now c.args.judge.now, λ all are. are)

pub loop-preserved : goal.loop-preserved
loop-preserved g c =
    let within : c.if-at-lists.at < length c.loop.lists =
    elim c.if-at-lists.branch [ then-at-lists w ↦ omega arith | else-at-lists w ↦ omega arith ] in
    let at = slice_get-get_or c.loop.lists c.if-at-lists.at c.index-lists-at.result within in
    let kept =
    keep_known g.B.Read.remaining c.loop.lists c.if-at-lists.at _ c.take_next.new.list at c.in-Ok.ensures.known in (
      judges_more number_tests c.args.first_line.now c.args.lists.now c.loop.lists c.if-at-lists.at _
          c.take_next.new.list c.args.judge.now c.loop.judge c.take_next.new.judge at c.loop.invariant.0 c.in-Ok.ensures.judged,
      λ all are. kept all (c.loop.invariant.1 all are),
    )
