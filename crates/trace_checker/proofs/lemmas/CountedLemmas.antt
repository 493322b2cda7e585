-- A trace that passes the test is an execution, whichever way configs count.
use Rattle.std.specs.Prelude.{◌≡◌, true, List}
use Rattle.safety_laws.specs.Trace.{AreExact, TermsHaveRanks, Tests, TraceEvent, are_allowed_by}
use Rattle.trace_checker.specs.Counted.{IsSafeBy, IsSafeWhen, are_all_allowed, tests_by}
use Rattle.safety_laws.specs.declared.counting.ConfigsCount.{ConfigsCount}
use Rattle.safety_laws.specs.declared.counting.ConfigsCount.TheVariants.{WhenAppended, WhenApplied}
use Rattle.safety_laws.proofs.lemmas.AppendedTraceLemmas.{trace_is_safe as appended_is_safe}
use Rattle.safety_laws.proofs.lemmas.AppliedTraceLemmas.{trace_is_safe as applied_is_safe}

module _ {T ID D M : Type 0} (k : Tests T ID D M) (exact : AreExact k) where
  pub trace_is_safe : (es : List (TraceEvent T ID D)) → TermsHaveRanks k es → are_all_allowed k es ≡ true
      → IsSafeWhen k es
  trace_is_safe es ranks ok = go k.counting ok
    where
      go : (w : ConfigsCount) → are_allowed_by k (tests_by k w) es ≡ true → IsSafeBy k w es
      go WhenAppended h = appended_is_safe k exact es ranks h
      go WhenApplied h = applied_is_safe k exact es ranks h
