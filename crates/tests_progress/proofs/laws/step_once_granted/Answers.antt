use Rattle.std.proofs.Common.{◌≡◌, ◌≤◌, ℕ, true, List, [], ◌∷◌, length, ap, arith, subst, ◌∙◌}
use Rattle.std.proofs.lemmas.Bool.Decides.{nat_tests}
use Rattle.std.specs.Ordering.{as_partial_cmp, is_le, nat_cmp}
use Rattle.std.specs.declared.cmp.Ordering.{Ordering}
use Rattle.raft_progress.specs.progress.CountedValue.{AtMost}
use Rattle.raft_progress.specs.tracked.Known.{GrantedAtChanges}
use Rattle.raft_progress.specs.tracked.Tracked.{tracked_view}
use Rattle.raft_progress.specs.declared.progress.steps.Reply.{Reply}
use Rattle.raft_progress.specs.declared.tracked.step.Step.{Step}
use Rattle.tests_progress.proofs.laws.step_once_granted.Goals as goal

cmp_le : (a b : ℕ) → a ≤ b → is_le (nat_cmp a b) ≡ true
cmp_le a b h = grind (arith, nat_tests)

-- one step, made while p is granted
once : {K N V P : Type 0} (cmp : P → P → Ordering) (p g : P) (steps : List (Step K N V)) (replies : List (Reply K P)) → length steps ≡ 1
    → AtMost cmp p g → GrantedAtChanges cmp p g steps replies
once cmp p g [] replies one h = tt
once cmp p g (step ∷ steps) [] one h = tt
once cmp p g (step ∷ []) (reply ∷ replies) one h = (λ _. h, tt)
once cmp p g (step ∷ more ∷ steps) (reply ∷ replies) one h = absurd (omega arith)

pub returns : goal.returns
returns g c config known =
    let old = tracked_view c.args.cluster.now in
    let reached : AtMost nat_cmp c.args.matched old.progress.granted =
    subst (λ (n : ℕ). AtMost nat_cmp c.args.matched n) (c.granted.ensures ∙ ap (λ p. p.granted) c.progress.ensures)
    (cmp_le _ _ c.if-granted-matched.false) in
    c.known_stays.ensures.over_changes (as_partial_cmp nat_cmp) (λ v w e. e) old (tracked_view c.replay.new.cluster) c.args.step.items
    c.in_ok-_replies._replies.items
    c.args.matched c.quorums_know_granted.ensures.ready config c.in_ok-_replies.ensures.view_run
    (once nat_cmp c.args.matched old.progress.granted c.args.step.items c.in_ok-_replies._replies.items c.requires.one reached) known
