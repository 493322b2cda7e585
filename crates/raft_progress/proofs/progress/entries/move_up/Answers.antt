use Rattle.std.proofs.Common.{arith, get_or, is_lt, ◌≡◌, ◌+◌, ◌-◌, ◌<◌, subst, sym, ◌∙◌, ℕ, ap}
use Rattle.std.specs.List.{swap}
use Rattle.std.proofs.lemmas.List.Edits.{swapped_from_swap}
use Rattle.raft_progress.specs.Inner.Rises.{Passed, RisesTo}
use Rattle.raft_progress.proofs.lemmas.progress.positions.PositionsLemmas.{any_default}
use Rattle.raft_progress.proofs.lemmas.progress.entries.RisingLemmas.{passed_none, passed_more, passed_within, rises_stop, rises_prefix}
use Rattle.raft_progress.proofs.progress.entries.move_up.Goals as goal

-- the position before a position in a list is in it too
before_within : {n : ℕ} (m : ℕ) → n < m → n - 1 < m
before_within m h = omega arith

pub loop-at-init : goal.loop-at-init
loop-at-init g c = record {
  passes = passed_none g.P.Ord.cmp g.V.ProgressPart.part_of c.args.entries.now.items c.args.position c.requires;
  carries = λ d.
      ap (λ (e : g.row.ID.Denot × g.row.V.Denot). g.V.ProgressPart.part_of e.1)
      (any_default c.args.entries.now.items c.args.position d c.index.result.now c.requires ∙ sym c.index.ensures)
      ∙ sym c.part-part.ensures;
}

pub loop-at-preserved : goal.loop-at-preserved
loop-at-preserved g c =
    let e : c.loop-at.at ≡ c.loop-at.at - 1 + 1 = omega arith in
    let at_within = passed_within g.P.Ord.cmp g.V.ProgressPart.part_of c.args.entries.now.items c.args.position c.loop-at.entries.items
    c.loop-at.at c.loop-at.invariant.passes in
    let moved : (d : g.row.ID.Denot × g.row.V.Denot)
    → get_or c.swap_with_previous.new.entries.items (c.loop-at.at - 1) d ≡ get_or c.loop-at.entries.items c.loop-at.at d =
    λ d. (swapped_from_swap c.loop-at.entries.items c.swap_with_previous.new.entries.items (c.loop-at.at - 1) c.loop-at.at d
    (before_within _ at_within)
    at_within c.swap_with_previous.ensures).0 in
    let before = before_within _ (passed_within g.P.Ord.cmp g.V.ProgressPart.part_of c.args.entries.now.items c.args.position
    c.loop-at.entries.items c.loop-at.at c.loop-at.invariant.passes) in
    let below : (d : g.row.ID.Denot × g.row.V.Denot)
    → is_lt (g.P.Ord.cmp (g.V.ProgressPart.part_of (get_or c.loop-at.entries.items (c.loop-at.at - 1) d).1) c.part-part.result)
    ≡ c.is_lt.result =
    λ d. ap (λ (e : g.row.ID.Denot × g.row.V.Denot). is_lt (g.P.Ord.cmp (g.V.ProgressPart.part_of e.1) c.part-part.result))
    (any_default c.loop-at.entries.items (c.loop-at.at - 1) d c.index-in-loop-at.result.now before ∙ sym c.index-in-loop-at.ensures)
    ∙ ap (λ q. is_lt (g.P.Ord.cmp q c.part-part.result)) (sym c.part.ensures) ∙ ap is_lt (sym c.cmp.ensures) ∙ sym c.is_lt.ensures in
    record {
      passes =
          passed_more g.P.Ord.cmp g.V.ProgressPart.part_of c.args.entries.now.items c.args.position c.loop-at.entries.items
          (c.loop-at.at - 1)
          (subst (λ (n : ℕ). Passed g.P.Ord.cmp g.V.ProgressPart.part_of c.args.entries.now.items c.args.position
          c.loop-at.entries.items n) e
          c.loop-at.invariant.passes)
          c.swap_with_previous.new.entries.items (c.swap_with_previous.ensures ∙ ap (swap c.loop-at.entries.items (c.loop-at.at - 1)) e)
          (λ d. ap (λ q. is_lt (g.P.Ord.cmp (g.V.ProgressPart.part_of (get_or c.loop-at.entries.items (c.loop-at.at - 1) d).1) q))
          (ap (λ (n : ℕ). g.V.ProgressPart.part_of (get_or c.loop-at.entries.items n d).1) (sym e) ∙ c.loop-at.invariant.carries d)
          ∙ below d ∙ c.if-not-is_lt.false);
      carries = λ d. ap (λ (e : g.row.ID.Denot × g.row.V.Denot). g.V.ProgressPart.part_of e.1) (moved d) ∙ c.loop-at.invariant.carries d;
    }

pub returns-then-not-is_lt : goal.returns-then-not-is_lt
returns-then-not-is_lt g c =
    let e : c.loop-at.at ≡ c.loop-at.at - 1 + 1 = omega arith in
    let before = before_within _ (passed_within g.P.Ord.cmp g.V.ProgressPart.part_of c.args.entries.now.items c.args.position
    c.loop-at.entries.items c.loop-at.at c.loop-at.invariant.passes) in
    let below : (d : g.row.ID.Denot × g.row.V.Denot)
    → is_lt (g.P.Ord.cmp (g.V.ProgressPart.part_of (get_or c.loop-at.entries.items (c.loop-at.at - 1) d).1) c.part-part.result)
    ≡ c.is_lt.result =
    λ d. ap (λ (e : g.row.ID.Denot × g.row.V.Denot). is_lt (g.P.Ord.cmp (g.V.ProgressPart.part_of e.1) c.part-part.result))
    (any_default c.loop-at.entries.items (c.loop-at.at - 1) d c.index-in-loop-at.result.now before ∙ sym c.index-in-loop-at.ensures)
    ∙ ap (λ q. is_lt (g.P.Ord.cmp q c.part-part.result)) (sym c.part.ensures) ∙ ap is_lt (sym c.cmp.ensures) ∙ sym c.is_lt.ensures in
    subst (λ (n : ℕ). RisesTo g.P.Ord.cmp g.V.ProgressPart.part_of c.args.entries.now.items c.args.position
    c.loop-at.entries.items n) (sym e)
    (rises_stop g.P.Ord.cmp g.V.ProgressPart.part_of c.args.entries.now.items c.args.position c.loop-at.entries.items (c.loop-at.at - 1)
    (subst (λ (n : ℕ). Passed g.P.Ord.cmp g.V.ProgressPart.part_of c.args.entries.now.items c.args.position c.loop-at.entries.items n) e
    c.loop-at.invariant.passes)
    g.met.P.Ord.total
    (λ d. ap (λ q. is_lt (g.P.Ord.cmp (g.V.ProgressPart.part_of (get_or c.loop-at.entries.items (c.loop-at.at - 1) d).1) q))
    (ap (λ (n : ℕ). g.V.ProgressPart.part_of (get_or c.loop-at.entries.items n d).1) (sym e) ∙ c.loop-at.invariant.carries d)
    ∙ below d ∙ c.if-not-is_lt.true))

pub returns : goal.returns
returns g c =
    let e : c.loop-at.at ≡ 0 = omega arith in
    subst (λ (n : ℕ). RisesTo g.P.Ord.cmp g.V.ProgressPart.part_of c.args.entries.now.items c.args.position
    c.loop-at.entries.items n) (sym e)
    (rises_prefix g.P.Ord.cmp g.V.ProgressPart.part_of c.args.entries.now.items c.args.position c.loop-at.entries.items
    (subst (λ (n : ℕ). Passed g.P.Ord.cmp g.V.ProgressPart.part_of c.args.entries.now.items c.args.position c.loop-at.entries.items n) e
    c.loop-at.invariant.passes))

pub index-requires-in-loop-at : goal.index-requires-in-loop-at
index-requires-in-loop-at g c =
    let within = passed_within g.P.Ord.cmp g.V.ProgressPart.part_of c.args.entries.now.items c.args.position c.loop-at.entries.items
    c.loop-at.at c.loop-at.invariant.passes in
    let fits = c.loop-at.entries.ok.0 in
    omega arith

pub swap_with_previous-requires : goal.swap_with_previous-requires
swap_with_previous-requires g c = (
  omega arith,
  passed_within g.P.Ord.cmp g.V.ProgressPart.part_of c.args.entries.now.items c.args.position
      c.loop-at.entries.items c.loop-at.at c.loop-at.invariant.passes,
)
