-- The test of a recorded trace of either kind: configs that count from their append on, and configs that
-- count once they are applied. A cluster keeps to one, because no rule lets each event choose.
use Rattle.std.specs.Prelude.{Bool, Option, List}
use Rattle.safety_laws.specs.AppliedTrace.{IsSafeAppliedTrace, applied_tests}
use Rattle.safety_laws.specs.Trace.{ConfigTests, IsSafeTrace, Tests, TraceEvent, appended_tests, are_allowed_by, broken_rule_by, is_allowed_by}
use Rattle.safety_laws.specs.declared.counting.ConfigsCount.{ConfigsCount}
use Rattle.safety_laws.specs.declared.counting.ConfigsCount.TheVariants.{WhenAppended, WhenApplied}
use Rattle.safety_laws.specs.declared.rule.Rule.{Rule}

module _ {T ID D M : Type 0} (k : Tests T ID D M) where
  -- how elections, commits and configs are tested
  abbrev pub tests_by : ConfigsCount → ConfigTests T ID D M
  tests_by WhenAppended = appended_tests k
  tests_by WhenApplied = applied_tests k

  -- a candidate is elected
  abbrev pub is_elected_when : List (TraceEvent T ID D) → T → ID → Bool
  is_elected_when es t c = (tests_by k.counting).is_elected es t c

  -- the first rule that an event breaks after the earlier ones
  abbrev pub first_broken : TraceEvent T ID D → List (TraceEvent T ID D) → Option Rule
  first_broken e es = broken_rule_by k (tests_by k.counting) e es

  -- an event is allowed after the earlier ones if it breaks no rule
  abbrev pub is_allowed_when : TraceEvent T ID D → List (TraceEvent T ID D) → Bool
  is_allowed_when e es = is_allowed_by k (tests_by k.counting) e es

  -- quorums of the initial config intersect, and each event is allowed after the earlier ones
  abbrev pub are_all_allowed : List (TraceEvent T ID D) → Bool
  are_all_allowed es = are_allowed_by k (tests_by k.counting) es

  -- a trace is an execution by the rules for such configs, so its history is safe, and no two servers
  -- apply different entries
  abbrev pub IsSafeBy : ConfigsCount → List (TraceEvent T ID D) → Type 0
  IsSafeBy WhenAppended es = IsSafeTrace k es
  IsSafeBy WhenApplied es = IsSafeAppliedTrace k es

  abbrev pub IsSafeWhen : List (TraceEvent T ID D) → Type 0
  IsSafeWhen es = IsSafeBy k.counting es
