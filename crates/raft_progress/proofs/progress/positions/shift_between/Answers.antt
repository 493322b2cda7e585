use Rattle.std.proofs.Common.{arith, rules, refl, sym, ap, subst, set, get_or, length, ◌∙◌, ◌≡◌, ◌<◌, ◌-◌, ℕ, map}
use Rattle.std.specs.Map.{values_of}
use Rattle.std.proofs.lemmas.List.{length-map}
use Rattle.raft_progress.specs.Inner.Positions.{AreInverse, position_after}
use Rattle.raft_progress.proofs.lemmas.progress.positions.InverseLemmas.{keys_rewritten, values_rewritten, Lifted, lifted_none, lifted_more, passed_within}
use Rattle.raft_progress.proofs.progress.positions.shift_between.Goals as goal

pub loop-position-init : goal.loop-position-init
loop-position-init g c = record {
  lifted = lifted_none (values_of c.args.sorted.now) c.args.ranks.now c.args.last (get_or c.args.ranks.now c.args.last 0)
      c.requires.inverse c.requires.within refl;
  ids = refl;
  down = c.requires.ascending;
  up = omega arith;
}

pub offset_bounds-sorted-passed : goal.offset_bounds-sorted-passed
offset_bounds-sorted-passed g c =
    let P = values_of c.args.sorted.now in
    let l = passed_within P c.args.ranks.now c.args.last (get_or c.args.ranks.now c.args.last 0) c.loop-position.position
    (values_of c.loop-position.sorted) c.loop-position.ranks c.loop-position.invariant.lifted (omega arith)
    (get_or c.loop-position.ranks (c.loop-position.position - 1) 0) (omega arith) c.loop-position.invariant.up refl in
    let b : get_or c.loop-position.ranks (c.loop-position.position - 1) 0 < length c.loop-position.sorted =
    omega (arith, length-map c.loop-position.sorted (λ e. e.1)) in
    search rules

pub bounds-sorted-passed : goal.bounds-sorted-passed
bounds-sorted-passed g c =
    let P = values_of c.args.sorted.now in
    let l = passed_within P c.args.ranks.now c.args.last (get_or c.args.ranks.now c.args.last 0) c.loop-position.position
    (values_of c.loop-position.sorted) c.loop-position.ranks c.loop-position.invariant.lifted (omega arith)
    (get_or c.loop-position.ranks (c.loop-position.position - 1) 0) (omega arith) c.loop-position.invariant.up refl in
    omega (arith, length-map c.loop-position.sorted (λ e. e.1))

pub bounds-sorted-passed-in-loop-position : goal.bounds-sorted-passed-in-loop-position
bounds-sorted-passed-in-loop-position g c =
    let P = values_of c.args.sorted.now in
    let l = passed_within P c.args.ranks.now c.args.last (get_or c.args.ranks.now c.args.last 0) c.loop-position.position
    (values_of c.loop-position.sorted) c.loop-position.ranks c.loop-position.invariant.lifted (omega arith)
    (get_or c.loop-position.ranks (c.loop-position.position - 1) 0) (omega arith) c.loop-position.invariant.up refl in
    omega (arith, length-map c.loop-position.sorted (λ e. e.1))

pub loop-position-preserved : goal.loop-position-preserved
loop-position-preserved g c =
    let P = values_of c.args.sorted.now in
    let R = c.args.ranks.now in
    let risen = get_or R c.args.last 0 in
    let passed = get_or c.loop-position.ranks (c.loop-position.position - 1) 0 in
    let m = lifted_more P R c.args.last risen c.loop-position.position (values_of c.loop-position.sorted) c.loop-position.ranks
    c.loop-position.invariant.lifted (omega arith) passed (omega arith) c.loop-position.invariant.up refl in
    record {
      lifted = subst (λ vs. Lifted P R c.args.last risen (c.loop-position.position - 1) vs
          (set c.loop-position.ranks c.loop-position.position passed))
          (sym (values_rewritten c.loop-position.sorted passed _ c.loop-position.position)) m;
      ids = keys_rewritten _ _ _ _ ∙ c.loop-position.invariant.ids;
      down = omega arith;
      up = omega arith;
    }

pub returns-clause-ids : goal.returns-clause-ids
returns-clause-ids g c = keys_rewritten _ _ _ _ ∙ c.loop-position.invariant.ids

pub returns-clause-shifted : goal.returns-clause-shifted
returns-clause-shifted g c =
    let P = values_of c.args.sorted.now in
    let e : c.loop-position.position ≡ c.args.first = omega arith in
    values_rewritten _ _ _ _ ∙ ap (set (values_of c.loop-position.sorted) (get_or c.args.ranks.now c.args.last 0)) (sym e)
    ∙ c.loop-position.invariant.lifted.positions ∙ ap (λ n. map (position_after n c.args.last) P) e

pub returns-clause-inverse : goal.returns-clause-inverse
returns-clause-inverse g c =
    let risen = get_or c.args.ranks.now c.args.last 0 in
    let e : c.loop-position.position ≡ c.args.first = omega arith in
    subst (λ vs. AreInverse vs (set c.loop-position.ranks c.args.first risen))
    (sym (values_rewritten c.loop-position.sorted risen _ c.args.first))
    (subst (λ (n : ℕ). AreInverse (set (values_of c.loop-position.sorted) risen n) (set c.loop-position.ranks n risen)) e
    c.loop-position.invariant.lifted.inverse)
