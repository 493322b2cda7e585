use Rattle.std.proofs.Common.{arith, sym, ap, ◌∙◌, is_lt}
use Rattle.std.proofs.lemmas.Grind.{common_steps}
use Rattle.std.proofs.lemmas.List.Sums.{prefix_len-le-length}
use Rattle.raft_progress.specs.Inner.Recount.{exceeds}
use Rattle.raft_progress.proofs.lemmas.progress.entries.RisingLemmas.{prefix_ends, prefix_goes}
use Rattle.raft_progress.proofs.progress.entries.gather_leading.Goals as goal

pub returns-then-not-is_lt-clause-count : goal.returns-then-not-is_lt-clause-count
returns-then-not-is_lt-clause-count g c =
    prefix_ends (exceeds g.P.Ord.cmp g.V.ProgressPart.part_of c.args.least) c.args.voters.now c.loop-entry.n c.entry-item.result
    c.entry-item.result
    c.loop-entry.invariant.lead (omega arith) (rw c.loop-entry.invariant.at c.entry-item.is)
    (ap (λ q. is_lt (g.P.Ord.cmp c.args.least q)) (sym c.part.ensures) ∙ ap is_lt (sym c.cmp.ensures) ∙ sym c.is_lt.ensures
    ∙ c.if-not-is_lt.true)

pub loop-entry-preserved : goal.loop-entry-preserved
loop-entry-preserved g c = record {
  at = omega arith;
  gathered = grind (arith, common_steps);
  lead =
      prefix_goes (exceeds g.P.Ord.cmp g.V.ProgressPart.part_of c.args.least) c.args.voters.now c.loop-entry.n c.entry-item.result
      c.entry-item.result
      c.loop-entry.invariant.lead (omega arith) (rw c.loop-entry.invariant.at c.entry-item.is)
      (ap (λ q. is_lt (g.P.Ord.cmp c.args.least q)) (sym c.part.ensures) ∙ ap is_lt (sym c.cmp.ensures) ∙ sym c.is_lt.ensures
      ∙ c.if-not-is_lt.false);
}

pub returns-clause-count : goal.returns-clause-count
returns-clause-count g c =
    let h = prefix_len-le-length (exceeds g.P.Ord.cmp g.V.ProgressPart.part_of c.args.least) c.args.voters.now in
    omega arith
