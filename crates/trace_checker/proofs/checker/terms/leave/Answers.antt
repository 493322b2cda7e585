use Rattle.std.proofs.Common.{◌≡◌, arith}
use Rattle.trace_checker.specs.Inner.TermsState.{last_kept}
use Rattle.trace_checker.proofs.lemmas.TermsLemmas.{reach_lowers, reach_pushes, rising_higher, rising_lowered, rising_push}
use Rattle.trace_checker.proofs.checker.terms.leave.Goals as goal

pub returns-then-last_len-len-clause-rising : goal.returns-then-last_len-len-clause-rising
returns-then-last_len-len-clause-rising c =
    λ rising next up. let items = rw c.unwrap.ensures at c.push.ensures.items in
    let last : c.last_len.result ≡ last_kept 0 c.args.kept.now.items = rw c.deref.ensures.value at c.last_len.ensures in
    rw items (rising_push 0 0 c.args.term next c.args.len c.args.kept.now.items rising
    (omega (arith, last, c.if-last_len-len.true)) (omega arith))

pub returns-then-last_len-len-clause-kept : goal.returns-then-last_len-len-clause-kept
returns-then-last_len-len-clause-kept c =
    λ rising next r up. let items = rw c.unwrap.ensures at c.push.ensures.items in
    let last : c.last_len.result ≡ last_kept 0 c.args.kept.now.items = rw c.deref.ensures.value at c.last_len.ensures in
    rw items (reach_pushes c.args.term next c.args.len r c.args.kept.now.items rising up
    (omega (arith, last, c.if-last_len-len.true)))

pub returns-clause-rising : goal.returns-clause-rising
returns-clause-rising c =
    λ rising next up. rw (c.lower.ensures c.args.term rising)
    (rising_higher 0 0 c.args.term next _ (rising_lowered c.args.len c.args.term c.args.kept.now.items rising) (omega arith))

pub returns-clause-kept : goal.returns-clause-kept
returns-clause-kept c =
    λ rising next r up.
    let last : c.last_len.result ≡ last_kept 0 c.args.kept.now.items = rw c.deref.ensures.value at c.last_len.ensures in
    rw (c.lower.ensures c.args.term rising)
    (reach_lowers c.args.term next c.args.len r c.args.kept.now.items rising up
    (omega (arith, last, c.if-last_len-len.false)))
