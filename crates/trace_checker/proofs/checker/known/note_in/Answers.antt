use Rattle.std.proofs.Common.{◌-◌, arith, inr, refl, take}
use Rattle.trace_checker.proofs.lemmas.KnownLemmas.{replaced}
use Rattle.trace_checker.proofs.checker.known.note_in.Goals as goal

pub returns-then-continues-clause-noted : goal.returns-then-continues-clause-noted
returns-then-continues-clause-noted g c =
    let ends = replaced c.args.commits.now.items c.len-count.result c.index.result.now c.args.commit
    (omega arith) (omega arith) c.index.ensures in
    inr (record {
      earlier = take (c.len-count.result - 1) c.args.commits.now.items;
      last = c.index.result.now;
      continues = c.if-continues.ensures refl;
      was = ends.0;
      is = ends.1;
    })
