use Rattle.std.proofs.Common.{◌≡◌, List, length}
use Rattle.safety_laws.specs.Trace.{AreExact, TraceEvent}
use Rattle.trace_checker.specs.Checker.{Keeps, kept_by, tests_when}
use Rattle.trace_checker.specs.Merge.{Interleaves}
use Rattle.trace_checker.proofs.lemmas.MergeLemmas.{left}
use Rattle.trace_checker.proofs.merge.check_each_counting.Given as goal

-- what was recorded interleaves what was placed
abbrev pub invariant-loop-checker : goal.invariant-loop-checker
invariant-loop-checker g l =
    let k =
    tests_when l.fn.counting (record { eq = g.T.PartialEq.eq; rank = g.T.Term.rank }) g.N.PartialEq g.D.PartialEq g.C.Configs
    l.fn.configs in
    record {
      configs : l.checker.configs ≡ l.fn.configs;
      counting : l.checker.counting ≡ l.fn.counting;
      counts : length l.placed.items ≡ length l.lists;
      seen : AreExact k
          → (es : List (TraceEvent g.row.T.Denot g.row.N.Denot g.row.D.Denot))
          × Keeps k es (kept_by l.checker)
          × Interleaves l.lists l.placed.items es;
    }

abbrev pub decreases-loop-checker : goal.decreases-loop-checker
decreases-loop-checker g l = left l.lists l.placed.items
