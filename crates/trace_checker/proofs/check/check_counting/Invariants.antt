use Rattle.std.proofs.Common.{◌≡◌, take}
use Rattle.safety_laws.specs.Trace.{AreExact}
use Rattle.trace_checker.specs.Checker.{Keeps, kept_by, tests_when, trace_of}
use Rattle.trace_checker.proofs.check.check_counting.Given as goal

abbrev pub invariant-loop-i : goal.invariant-loop-i
invariant-loop-i g l = record {
  same : l.checker.configs ≡ l.fn.configs;
  counting : l.checker.counting ≡ l.fn.counting;
  seen : AreExact (tests_when l.fn.counting (record { eq = g.T.PartialEq.eq; rank = g.T.Term.rank }) g.N.PartialEq g.D.PartialEq
      g.C.Configs l.fn.configs)
      → Keeps (tests_when l.fn.counting (record { eq = g.T.PartialEq.eq; rank = g.T.Term.rank }) g.N.PartialEq g.D.PartialEq
      g.C.Configs l.fn.configs)
      (trace_of (take l.i l.events)) (kept_by l.checker);
}
