use Rattle.std.proofs.Common.{◌≡◌, ◌<◌, ◌≤◌, ◌+◌, ◌-◌, ◌∙◌, [], ap, arith, false, length, min, refl, sym, true}
use Rattle.trace_checker.specs.Inner.CheckerState.{same_entry_by}
use Rattle.trace_checker.specs.Inner.Logs.{log_at}
use Rattle.trace_checker.proofs.lemmas.CommonLemmas.{none_left, not_nil, one_before}
use Rattle.trace_checker.proofs.checker.logs.Logs.common_with.Goals as goal
use Rattle.trace_checker.proofs.checker.logs.Logs.common_with.Goals.{then-not-same_entry, else-not-same_entry}

pub loop-i-init : goal.loop-i-init
loop-i-init g c =
    let log = log_at c.args.self.now c.args.log in
    let len : c.min-len.result ≡ min (length log - c.args.keep) (length c.args.entries.now) =
    c.min-len.ensures ∙ (λ q. min ((c.saturating_sub.ensures ∙ ap (λ n. n - c.args.keep) c.len.ensures.len) q)
    (length c.args.entries.now)) in
    let none = none_left (same_entry_by g.T.PartialEq.eq g.D.PartialEq.eq) log c.args.entries.now c.args.keep c.min-len.result
    len in record {
      at = c.first-at.ensures.first;
      common = omega (arith, none);
      within = omega arith;
    }

pub returns-in_default-clause-common : goal.returns-in_default-clause-common
returns-in_default-clause-common g c =
    let log = log_at c.args.self.now c.args.log in
    let none : log_at c.args.self.now c.loop-i.at ≡ [] = c.in_default.ensures.none refl in
    let pos : 0 < c.args.keep + c.loop-i.i = omega arith in
    let within : c.args.keep + c.loop-i.i ≤ length log = omega (arith, c.len.ensures.len) in
    absurd (not_nil (same_entry_by g.T.PartialEq.eq g.D.PartialEq.eq) log (c.args.keep + c.loop-i.i)
    (sym c.loop-i.invariant.at ∙ none) pos within)

pub loop-i-preserved : goal.loop-i-preserved
loop-i-preserved g c =
    let log = log_at c.args.self.now c.args.log in
    let n = c.in-Some.ensures.some in
    let last = sym c.loop-i.invariant.at ∙ n.is in
    let pos : 0 < c.loop-i.i = omega arith in
    let within : c.args.keep + c.loop-i.i ≤ length log = omega (arith, c.len.ensures.len) in
    let within_b : c.loop-i.i ≤ length c.args.entries.now = omega arith in
    elim c.if-not-same_entry.branch [
      | then-not-same_entry w ↦
          let step = one_before (same_entry_by g.T.PartialEq.eq g.D.PartialEq.eq) log c.args.entries.now
          (log_at c.args.self.now c.in-Some.node.now.parent) c.args.keep
          c.loop-i.i c.in-Some.node.now.entry c.index-entries-i.result false last pos within within_b c.index-entries-i.is
          (sym c.same_entry.ensures ∙ w.if-not-same_entry.true) in record {
            at = step.0;
            common = w.common-is ∙ omega (arith, step.1);
            within = omega (arith, w.common-is);
          }
      | else-not-same_entry w ↦
          let step = one_before (same_entry_by g.T.PartialEq.eq g.D.PartialEq.eq) log c.args.entries.now
          (log_at c.args.self.now c.in-Some.node.now.parent) c.args.keep
          c.loop-i.i c.in-Some.node.now.entry c.index-entries-i.result true last pos within within_b c.index-entries-i.is
          (sym c.same_entry.ensures ∙ w.if-not-same_entry.false) in record {
            at = step.0;
            common = omega (arith, w.common-is, step.1, c.loop-i.invariant.common, pos);
            within = omega (arith, w.common-is, c.loop-i.invariant.within);
          }
    ]
