use Rattle.std.proofs.Common.{◌+◌, length, refl, arith}
use Rattle.std.proofs.lemmas.Bool.{eq-eqb, le-leb, lt-leb, ne_eqb}
use Rattle.trace_checker.specs.Inner.Logs.{log_at}
use Rattle.trace_checker.proofs.checker.broken.append_rule.Goals as goal
use Rattle.trace_checker.proofs.checker.broken.append_rule.Goals.{else-keep-matching-via-then-keep-matching+else-common_with-entries, else-keep-matching-via-else-keep-matching}

pub returns-then-rank-term-clause-rule : goal.returns-then-rank-term-clause-rule
returns-then-rank-term-clause-rule g c =
    λ exact distinct. rw
    (lt-leb c.args.server.now.terms.term c.args.rank (rw c.term.ensures at c.if-rank-term.true)) refl

pub returns-then-len-keep-clause-rule : goal.returns-then-len-keep-clause-rule
returns-then-len-keep-clause-rule g c =
    λ exact distinct. rw (
      le-leb c.args.server.now.terms.term c.args.rank (rw c.term.ensures at c.if-rank-term.false),
      lt-leb c.args.keep (length (log_at c.args.logs.now c.args.server.now.log)) (omega (arith, c.len.ensures.len)),
    ) refl

pub returns-then-old-saturating_sub-clause-rule : goal.returns-then-old-saturating_sub-clause-rule
returns-then-old-saturating_sub-clause-rule g c =
    λ exact distinct. let matching = c.common_len-matching.ensures.common exact distinct in
    let old = c.common_with-old.ensures.common in
    rw (
      le-leb c.args.server.now.terms.term c.args.rank (rw c.term.ensures at c.if-rank-term.false),
      le-leb c.args.keep (length (log_at c.args.logs.now c.args.server.now.log)) (omega (arith, c.len.ensures.len)),
      ← matching,
      ← old,
      lt-leb c.common_len-matching.result (c.args.keep + c.common_with-old.result) (omega arith),
    ) refl

pub returns-then-old-entries-clause-rule : goal.returns-then-old-entries-clause-rule
returns-then-old-entries-clause-rule g c =
    λ exact distinct. let matching = c.common_len-matching.ensures.common exact distinct in
    let old = c.common_with-old.ensures.common in
    let all = eq-eqb c.common_with-old.result (length c.args.entries.now) (omega arith) in
    rw (
      le-leb c.args.server.now.terms.term c.args.rank (rw c.term.ensures at c.if-rank-term.false),
      le-leb c.args.keep (length (log_at c.args.logs.now c.args.server.now.log)) (omega (arith, c.len.ensures.len)),
      ← matching,
      ← old,
      le-leb c.common_len-matching.result (c.args.keep + c.common_with-old.result) (omega arith),
      all,
    ) refl

pub returns-then-common_with-entries-clause-rule : goal.returns-then-common_with-entries-clause-rule
returns-then-common_with-entries-clause-rule g c =
    λ exact distinct. let matching = c.common_len-matching.ensures.common exact distinct in
    let old = c.common_with-old.ensures.common in
    let sent = c.common_with.ensures.common in
    let not_old = ne_eqb c.common_with-old.result (length c.args.entries.now) (λ e. omega (arith, e)) in
    let all = eq-eqb c.common_with.result (length c.args.entries.now) (omega arith) in
    rw (
      le-leb c.args.server.now.terms.term c.args.rank (rw c.term.ensures at c.if-rank-term.false),
      le-leb c.args.keep (length (log_at c.args.logs.now c.args.server.now.log)) (omega (arith, c.len.ensures.len)),
      ← matching,
      ← old,
      le-leb c.common_len-matching.result (c.args.keep + c.common_with-old.result) (omega arith),
      not_old,
      le-leb c.args.keep c.common_len-matching.result c.if-keep-matching.true,
      ← sent,
      all,
    ) refl

pub returns-clause-rule : goal.returns-clause-rule
returns-clause-rule g c =
    λ exact distinct. let matching = c.common_len-matching.ensures.common exact distinct in
    let old = c.common_with-old.ensures.common in
    let not_old = ne_eqb c.common_with-old.result (length c.args.entries.now) (λ e. omega (arith, e)) in
    rw (
      le-leb c.args.server.now.terms.term c.args.rank (rw c.term.ensures at c.if-rank-term.false),
      le-leb c.args.keep (length (log_at c.args.logs.now c.args.server.now.log)) (omega (arith, c.len.ensures.len)),
      ← matching,
      ← old,
      le-leb c.common_len-matching.result (c.args.keep + c.common_with-old.result) (omega arith),
      not_old,
    )
    (elim c.else-keep-matching.branch [
      | else-keep-matching-via-then-keep-matching+else-common_with-entries w ↦
          let sent = w.common_with.ensures.common in
          let not_all = ne_eqb w.common_with.result (length c.args.entries.now) (λ e. omega (arith, e)) in
          rw (le-leb c.args.keep c.common_len-matching.result w.if-keep-matching.true, ← sent, not_all) refl
      | else-keep-matching-via-else-keep-matching w ↦
          rw (lt-leb c.args.keep c.common_len-matching.result w.if-keep-matching.false) refl
    ])
