use Rattle.std.proofs.Common.{◌≡◌, ◌∙◌, ap, arith, length, min, sym}
use Rattle.trace_checker.specs.Inner.CheckerState.{common_len, same_entry_by}
use Rattle.trace_checker.specs.Inner.Logs.{log_at}
use Rattle.trace_checker.proofs.lemmas.CommonLemmas.{at_first, at_jumps, at_parents, at_start, common_same}
use Rattle.trace_checker.proofs.lemmas.LogTreeLemmas.{jump_short, parent_len}
use Rattle.trace_checker.proofs.checker.logs.Logs.common_len.Goals as goal

pub loop-x-init : goal.loop-x-init
loop-x-init g c =
    let t = c.args.self.now in
    let len : c.min-len.result ≡ min (length (log_at t c.args.a)) (length (log_at t c.args.b)) =
    c.min-len.ensures ∙ (λ q. min (c.len.ensures.len q) (c.len-2.ensures.len q)) in
    let lens = at_start (same_entry_by g.T.PartialEq.eq g.D.PartialEq.eq) (log_at t c.args.a) (log_at t c.args.b)
    (log_at t c.first-x.result) (log_at t c.first-y.result)
    c.min-len.result len c.first-x.ensures.first c.first-y.ensures.first in record {
      same_len = lens.0 ∙ sym lens.1;
      in_a = omega (arith, lens.0, len);
      in_b = omega (arith, lens.0, len);
      common = λ exact distinct. at_first (same_entry_by g.T.PartialEq.eq g.D.PartialEq.eq) exact (log_at t c.args.a)
          (log_at t c.args.b) (log_at t c.first-x.result)
          (log_at t c.first-y.result) c.min-len.result len c.first-x.ensures.first c.first-y.ensures.first;
    }

pub loop-x-preserved-then-len : goal.loop-x-preserved-then-len
loop-x-preserved-then-len g c =
    let t = c.args.self.now in
    let n = c.in-Some.ensures.some in
    let m = c.in-Some-node.ensures.some in
    let same : length (log_at t c.in-Some.n.now.jump) ≡ length (log_at t c.in-Some-node.m.now.jump) =
    sym c.len-then-n-m.ensures.len ∙ c.if-len.true ∙ c.len-then-n-m-2.ensures.len in
    let short = jump_short t c.loop-x.x c.in-Some.n.now n in record {
      same_len = same;
      in_a = omega (arith, short, c.loop-x.invariant.in_a);
      in_b = omega (arith, short, c.loop-x.invariant.in_b);
      common = λ exact distinct. at_jumps (same_entry_by g.T.PartialEq.eq g.D.PartialEq.eq) exact (log_at t c.loop-x.x)
          (log_at t c.loop-x.y)
          (log_at t c.in-Some.n.now.jump) (log_at t c.in-Some-node.m.now.jump) n.jumps m.jumps same
          (λ e. c.if-n-m.true (distinct c.in-Some.n.now.jump c.in-Some-node.m.now.jump (omega (arith, n.jump, n.within))
          (omega (arith, m.jump, m.within)) e))
          ∙ c.loop-x.invariant.common exact distinct;
    }

pub loop-x-preserved : goal.loop-x-preserved
loop-x-preserved g c =
    let t = c.args.self.now in
    let n = c.in-Some.ensures.some in
    let m = c.in-Some-node.ensures.some in
    let len_n = parent_len t c.loop-x.x c.in-Some.n.now n in
    let len_m = parent_len t c.loop-x.y c.in-Some-node.m.now m in record {
      same_len = omega (arith, len_n, len_m, c.loop-x.invariant.same_len);
      in_a = omega (arith, len_n, c.loop-x.invariant.in_a);
      in_b = omega (arith, len_n, c.loop-x.invariant.in_b);
      common = λ exact distinct. at_parents (same_entry_by g.T.PartialEq.eq g.D.PartialEq.eq) exact (log_at t c.loop-x.x)
          (log_at t c.loop-x.y)
          (log_at t c.in-Some.n.now.parent) (log_at t c.in-Some-node.m.now.parent) c.in-Some.n.now.entry c.in-Some-node.m.now.entry
          n.is m.is c.loop-x.invariant.same_len
          (λ e. c.loop-x-test.true (distinct c.loop-x.x c.loop-x.y n.within m.within e))
          ∙ c.loop-x.invariant.common exact distinct;
    }

pub returns-clause-common : goal.returns-clause-common
returns-clause-common g c =
    let t = c.args.self.now in
    λ exact distinct. c.len-3.ensures.len ∙ sym (common_same (same_entry_by g.T.PartialEq.eq g.D.PartialEq.eq) exact (log_at t c.loop-x.x))
    ∙ ap (λ i. common_len (same_entry_by g.T.PartialEq.eq g.D.PartialEq.eq) (log_at t c.loop-x.x) (log_at t i)) c.loop-x-test.false
    ∙ c.loop-x.invariant.common exact distinct
