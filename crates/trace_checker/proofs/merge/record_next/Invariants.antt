use Rattle.std.proofs.Common.{◌≡◌, List, None}
use Rattle.safety_laws.specs.Trace.{AreExact, TraceEvent}
use Rattle.trace_checker.specs.Checker.{Keeps, kept_by, tests_when}
use Rattle.trace_checker.specs.Merge.{AreEnded}
use Rattle.trace_checker.proofs.lemmas.MergeLemmas.{AreTried}
use Rattle.trace_checker.proofs.merge.record_next.Given as goal

abbrev pub invariant-loop-i : goal.invariant-loop-i
invariant-loop-i g l =
    let k =
    tests_when l.fn.checker.counting (record { eq = g.T.PartialEq.eq; rank = g.T.Term.rank }) g.N.PartialEq g.D.PartialEq g.C.Configs
    l.fn.checker.configs in
    record {
      configs : l.checker.configs ≡ l.fn.checker.configs;
      counting : l.checker.counting ≡ l.fn.checker.counting;
      placed : l.placed ≡ l.fn.placed;
      ended : l.refused ≡ None → AreEnded l.lists l.fn.placed l.i;
      tried : AreExact k → (es : List (TraceEvent g.row.T.Denot g.row.N.Denot g.row.D.Denot))
          → Keeps k es (kept_by l.fn.checker)
          → Keeps k es (kept_by l.checker)
          × AreTried k l.lists l.fn.placed es l.i l.refused;
    }
