use Rattle.std.proofs.Common.{◌<◌, length, nat_le, arith}
use Rattle.trace_checker.specs.Inner.CheckerState.{same_entry_by}
use Rattle.trace_checker.specs.Inner.Logs.{log_at}
use Rattle.trace_checker.proofs.lemmas.StateLemmas.{too_long}
use Rattle.trace_checker.proofs.checker.broken.knows.Goals as goal

pub returns-then-len : goal.returns-then-len
returns-then-len g c =
    λ exact distinct.
    let more : c.in-Some.len < length (log_at c.args.logs.now c.args.prefix) = omega (arith, c.len.ensures.len, c.if-len.true) in
    rw c.in-Some.is (too_long (same_entry_by g.T.PartialEq.eq g.D.PartialEq.eq) exact
    (nat_le (g.T.Term.rank c.args.leader.now.term) c.args.rank) c.in-Some.len (log_at c.args.logs.now c.args.prefix)
    (log_at c.args.logs.now c.args.leader.now.log) more)
