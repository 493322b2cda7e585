use Rattle.std.proofs.Common.{length, refl, arith}
use Rattle.std.proofs.lemmas.Bool.{le-leb, lt-leb}
use Rattle.trace_checker.specs.Inner.Logs.{log_at}
use Rattle.trace_checker.proofs.checker.broken.apply_rule.Goals as goal

pub returns-then-len : goal.returns-then-len
returns-then-len g c =
    λ exact distinct. rw
    (lt-leb c.args.len (length (log_at c.args.logs.now c.args.leader.now.log)) (omega (arith, c.len.ensures.len))) refl

pub returns-then-not-begins_with : goal.returns-then-not-begins_with
returns-then-not-begins_with g c =
    λ exact distinct. let begins = rw c.first.ensures.first at (c.begins_with.ensures exact distinct) in
    rw (
      le-leb c.args.len (length (log_at c.args.logs.now c.args.leader.now.log)) (omega (arith, c.len.ensures.len)),
      ← begins,
      c.if-not-begins_with.true,
    ) refl

pub returns : goal.returns
returns g c =
    λ exact distinct. let begins = rw c.first.ensures.first at (c.begins_with.ensures exact distinct) in
    rw (
      le-leb c.args.len (length (log_at c.args.logs.now c.args.leader.now.log)) (omega (arith, c.len.ensures.len)),
      ← begins,
      c.if-not-begins_with.false,
    ) refl
