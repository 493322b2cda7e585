use Rattle.std.proofs.Common.{length, nat_le, refl, arith}
use Rattle.std.proofs.lemmas.Bool.{le-leb, lt-leb}
use Rattle.std.proofs.lemmas.List.{length-take-le}
use Rattle.trace_checker.specs.Inner.CheckerState.{kept_from}
use Rattle.trace_checker.specs.Inner.Logs.{log_at}
use Rattle.trace_checker.proofs.lemmas.StateLemmas.{enough, too_few}
use Rattle.trace_checker.proofs.checker.broken.ack_rule.Goals as goal

pub returns-then-term-rank : goal.returns-then-term-rank
returns-then-term-rank g c =
    λ exact distinct. rw
    (lt-leb c.args.rank c.args.server.now.terms.term (rw c.term.ensures at c.if-term-rank.true)) refl

pub returns-then-len : goal.returns-then-len
returns-then-len g c =
    λ exact distinct. rw (
      le-leb c.args.rank c.args.server.now.terms.term (rw c.term.ensures at c.if-term-rank.false),
      lt-leb c.args.len (length (log_at c.args.logs.now c.args.leader.now.log)) (omega (arith, c.len.ensures.len)),
    ) refl

pub returns-then-not-begins_with : goal.returns-then-not-begins_with
returns-then-not-begins_with g c =
    λ exact distinct. let begins = rw c.first.ensures.first at (c.begins_with.ensures exact distinct) in
    rw (
      le-leb c.args.rank c.args.server.now.terms.term (rw c.term.ensures at c.if-term-rank.false),
      le-leb c.args.len (length (log_at c.args.logs.now c.args.leader.now.log)) (omega (arith, c.len.ensures.len)),
      ← begins,
      c.if-not-begins_with.true,
    ) refl

pub returns-then-kept_since-len : goal.returns-then-kept_since-len
returns-then-kept_since-len g c =
    λ exact distinct. let begins = rw c.first.ensures.first at (c.begins_with.ensures exact distinct) in
    rw (
      le-leb c.args.rank c.args.server.now.terms.term (rw c.term.ensures at c.if-term-rank.false),
      le-leb c.args.len (length (log_at c.args.logs.now c.args.leader.now.log)) (omega (arith, c.len.ensures.len)),
      ← begins,
      c.if-not-begins_with.false,
      length-take-le c.args.len (log_at c.args.logs.now c.args.leader.now.log) (omega (arith, c.len.ensures.len)),
      too_few (nat_le c.args.server.now.terms.term c.args.rank) c.args.len (kept_from 0 c.args.server.now.terms.kept c.args.rank)
          c.kept_since.result c.kept_since.ensures c.if-kept_since-len.true,
    ) refl

pub returns : goal.returns
returns g c =
    λ exact distinct. let begins = rw c.first.ensures.first at (c.begins_with.ensures exact distinct) in
    rw (
      le-leb c.args.rank c.args.server.now.terms.term (rw c.term.ensures at c.if-term-rank.false),
      le-leb c.args.len (length (log_at c.args.logs.now c.args.leader.now.log)) (omega (arith, c.len.ensures.len)),
      ← begins,
      c.if-not-begins_with.false,
      length-take-le c.args.len (log_at c.args.logs.now c.args.leader.now.log) (omega (arith, c.len.ensures.len)),
      enough (nat_le c.args.server.now.terms.term c.args.rank) c.args.len (kept_from 0 c.args.server.now.terms.kept c.args.rank)
          c.kept_since.result c.kept_since.ensures c.if-kept_since-len.false,
    ) refl
