use Rattle.std.proofs.Common.{◌+◌, arith, get_or}
use Rattle.tests_laws.specs.Follower.{unset}
use Rattle.tests_laws.proofs.FollowerLemmas.{absent, shared_more}
use Rattle.tests_laws.proofs.follower.shared.Goals as goal
use Rattle.tests_laws.proofs.follower.shared.Goals.{then-i-log-via-then-i-log, then-i-log-via-else-i-log+then-log-from}

pub returns-then-i-log : goal.returns-then-i-log
returns-then-i-log c = record {
  within = omega arith;
  fits = c.loop-i.invariant.fits;
  rest = c.loop-i.invariant.rest;
  next = λ lt.
      absent c.args.log.now (c.args.from + c.loop-i.i) (get_or c.args.entries.now c.loop-i.i unset).term
      (elim c.then-i-log.branch [
        | then-i-log-via-then-i-log w ↦ λ a b. absurd (omega (arith, w.if-i-log.true, a))
        | then-i-log-via-else-i-log+then-log-from w ↦ λ a b. w.if-log-from.true b
      ]);
}

pub loop-i-preserved : goal.loop-i-preserved
loop-i-preserved c = record {
  fits = omega (arith, c.if-i-log.false, c.requires);
  rest =
      shared_more c.args.log.now c.args.entries.now c.args.from c.loop-i.i c.loop-i-test.true
      (omega (arith, c.if-i-log.false, c.requires)) c.if-log-from.false c.loop-i.invariant.rest;
}
