use Rattle.trace_checker.specs.Inner.CheckerState.{same_entry_by}
use Rattle.trace_checker.proofs.lemmas.UpToLemmas.{noted_up_to}
use Rattle.trace_checker.proofs.checker.known.note_commit.Goals as goal

pub invariant_of-commits-2 : goal.invariant_of-commits-2
invariant_of-commits-2 g c =
    noted_up_to (same_entry_by g.T.PartialEq.eq g.D.PartialEq.eq) c.args.logs.now c.commits.inside.greatest
    c.max-commits-inside.result c.commits.inside.list.items c.note_in.new.commits.items c.args.commit
    c.max-commits-inside.ensures c.in_ok-note_in.ensures.noted c.commits.invariant
