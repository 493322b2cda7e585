use Rattle.std.proofs.Common.{refl, sym, ap, ◌∙◌, true≢false, nat_lt, lt-ltb, is_le, is_lt, ◌&&◌, ◌≡◌, Bool, true, false, subst, List}
use Rattle.std.specs.List.{IsDistinct}
use Rattle.std.specs.Map.{keys_of}
use Rattle.std.proofs.lemmas.Option.{get_or_from_slice_get}
use Rattle.raft_progress.specs.progress.VecProgress.{view}
use Rattle.raft_progress.proofs.lemmas.OrderLemmas.{le_lt}
use Rattle.raft_progress.proofs.lemmas.ListLemmas.{element_at}
use Rattle.raft_progress.proofs.lemmas.progress.entries.MovedLemmas.{distinct_moved}
use Rattle.raft_progress.proofs.progress.vec_progress.VecProgress.restore_order.Goals as goal
use Rattle.raft_progress.proofs.progress.vec_progress.VecProgress.restore_order.Goals.{else-not-passes_granted-via-then-not-passes_granted+else-not-is_below-2, else-not-passes_granted-via-else-not-passes_granted}
use Rattle.std.proofs.lemmas.Bool.{le-ltb}

and_false : (b c : Bool) → c ≡ false → (b && c) ≡ false
and_false true c e = e
and_false false c e = refl

pub returns-then-position-self : goal.returns-then-position-self
returns-then-position-self g c =
    let e = element_at c.args.self.now.entries.items c.args.position c.requires.within in
    let rises : Bool = is_lt (g.P.Ord.cmp c.args.before (g.V.ProgressPart.part_of e.0.1))
    && is_lt (g.P.Ord.cmp c.args.self.now.granted (g.V.ProgressPart.part_of e.0.1)) in
    let no : (nat_lt c.args.position c.args.self.now.voter_count && rises) ≡ false =
    ap (λ b. b && rises) (le-ltb c.args.position c.args.self.now.voter_count c.if-position-self.true) in
    record {
      entry = e.0;
      at = sym (get_or_from_slice_get c.args.self.now.entries.items c.args.position e.0 e.0 e.1);
      raised = λ h. absurd (true≢false (sym h ∙ no));
      kept = λ h. refl;
    }

pub returns-then-not-is_below : goal.returns-then-not-is_below
returns-then-not-is_below g c =
    let e = element_at c.args.self.now.entries.items c.args.position c.requires.within in
    let same : c.args.after ≡ g.V.ProgressPart.part_of e.0.1 = c.requires.at e.0 e.1 in
    let rises : Bool = is_lt (g.P.Ord.cmp c.args.before (g.V.ProgressPart.part_of e.0.1))
    && is_lt (g.P.Ord.cmp c.args.self.now.granted (g.V.ProgressPart.part_of e.0.1)) in
    let low : is_lt (g.P.Ord.cmp c.args.self.now.granted c.args.after) ≡ false = cc in
    let no : (nat_lt c.args.position c.args.self.now.voter_count && rises) ≡ false =
    and_false (nat_lt c.args.position c.args.self.now.voter_count) rises
    (and_false (is_lt (g.P.Ord.cmp c.args.before (g.V.ProgressPart.part_of e.0.1))) _ (rw (← same) low)) in
    record {
      entry = e.0;
      at = sym (get_or_from_slice_get c.args.self.now.entries.items c.args.position e.0 e.0 e.1);
      raised = λ h. absurd (true≢false (sym h ∙ no));
      kept = λ h. refl;
    }

pub find_granted-requires-clause-distinct : goal.find_granted-requires-clause-distinct
find_granted-requires-clause-distinct g c =
    let p = c.move_voter_up-to.ensures.risen.rises.passes in
    subst (λ (es : List (g.row.ID.Denot × g.row.V.Denot)). IsDistinct g.ID.PartialEq.eq (keys_of es)) (sym p.now)
    (distinct_moved g.met.ID.Eq.laws p.prefix p.passed p.entry p.rest
    (subst (λ (es : List (g.row.ID.Denot × g.row.V.Denot)). IsDistinct g.ID.PartialEq.eq (keys_of es)) p.was c.requires.distinct))

pub find_granted-requires-clause-can_count : goal.find_granted-requires-clause-can_count
find_granted-requires-clause-can_count g c = λ counts.
    let high : is_lt (g.P.Ord.cmp c.args.self.now.granted c.args.after) ≡ true = cc in
    c.requires.can_count counts c.if-position-self.false high c.move_voter_up-to.result (view c.move_voter_up-to.new.self)
    c.move_voter_up-to.ensures.risen

pub find_granted-requires-clause-sides : goal.find_granted-requires-clause-sides
find_granted-requires-clause-sides g c = λ s is fresh.
    rw (c.move_voter_up-to.ensures.risen.kept.quorum_set, c.move_voter_up-to.ensures.ids)
    (c.requires.sides s is (sym c.move_voter_up-to.ensures.stale ∙ fresh))

pub returns-then-not-is_below-2 : goal.returns-then-not-is_below-2
returns-then-not-is_below-2 g c =
    let e = element_at c.args.self.now.entries.items c.args.position c.requires.within in
    let same : c.args.after ≡ g.V.ProgressPart.part_of e.0.1 = c.requires.at e.0 e.1 in
    let down : is_lt (g.P.Ord.cmp c.args.before c.args.after) ≡ false = cc in
    let rises : Bool = is_lt (g.P.Ord.cmp c.args.before (g.V.ProgressPart.part_of e.0.1))
    && is_lt (g.P.Ord.cmp c.args.self.now.granted (g.V.ProgressPart.part_of e.0.1)) in
    let no : rises ≡ false = rw (← same, down) refl in
    record {
      entry = e.0;
      at = sym (get_or_from_slice_get c.args.self.now.entries.items c.args.position e.0 e.0 e.1);
      raised = λ h. absurd (true≢false (sym h ∙ and_false (nat_lt c.args.position c.args.self.now.voter_count) rises no));
      kept = λ h. refl;
    }

pub returns-then-passes_granted : goal.returns-then-passes_granted
returns-then-passes_granted g c =
    let e = element_at c.args.self.now.entries.items c.args.position c.requires.within in
    let same : c.args.after ≡ g.V.ProgressPart.part_of e.0.1 = c.requires.at e.0 e.1 in
    let high : is_lt (g.P.Ord.cmp c.args.self.now.granted c.args.after) ≡ true = cc in
    let low : is_le (g.P.Ord.cmp c.args.before c.args.self.now.granted) ≡ true = cc in
    let yes : (nat_lt c.args.position c.args.self.now.voter_count
    && (is_lt (g.P.Ord.cmp c.args.before (g.V.ProgressPart.part_of e.0.1))
    && is_lt (g.P.Ord.cmp c.args.self.now.granted (g.V.ProgressPart.part_of e.0.1)))) ≡ true =
    rw (lt-ltb _ _ c.if-position-self.false, ← same, le_lt g.met.P.Ord.total _ _ _ low high, high) refl in
    record {
      entry = e.0;
      at = sym (get_or_from_slice_get c.args.self.now.entries.items c.args.position e.0 e.0 e.1);
      raised = λ h. record {
        middle = view c.move_voter_up-to.new.self;
        to = c.move_voter_up-to.result;
        risen = c.move_voter_up-to.ensures.risen;
        looked = λ f. c.find_granted.ensures;
        kept = λ f. absurd (true≢false (sym low ∙ f));
      };
      kept = λ h. absurd (true≢false (sym yes ∙ h));
    }

pub returns-else-passes_granted : goal.returns-else-passes_granted
returns-else-passes_granted g c =
    let e = element_at c.args.self.now.entries.items c.args.position c.requires.within in
    let same : c.args.after ≡ g.V.ProgressPart.part_of e.0.1 = c.requires.at e.0 e.1 in
    let high : is_lt (g.P.Ord.cmp c.args.self.now.granted c.args.after) ≡ true = cc in
    let above : is_le (g.P.Ord.cmp c.args.before c.args.self.now.granted) ≡ false = cc in
    let up : is_lt (g.P.Ord.cmp c.args.before c.args.after) ≡ true =
    elim c.else-not-passes_granted.branch [
      | else-not-passes_granted-via-then-not-passes_granted+else-not-is_below-2 w ↦ cc
      | else-not-passes_granted-via-else-not-passes_granted w ↦
          absurd (true≢false (sym w.if-not-passes_granted.false ∙ c.if-passes_granted.false))
    ] in
    let yes : (nat_lt c.args.position c.args.self.now.voter_count
    && (is_lt (g.P.Ord.cmp c.args.before (g.V.ProgressPart.part_of e.0.1))
    && is_lt (g.P.Ord.cmp c.args.self.now.granted (g.V.ProgressPart.part_of e.0.1)))) ≡ true =
    rw (lt-ltb _ _ c.if-position-self.false, ← same, up, high) refl in
    record {
      entry = e.0;
      at = sym (get_or_from_slice_get c.args.self.now.entries.items c.args.position e.0 e.0 e.1);
      raised = λ h. record {
        middle = view c.move_voter_up-to.new.self;
        to = c.move_voter_up-to.result;
        risen = c.move_voter_up-to.ensures.risen;
        looked = λ f. absurd (true≢false (sym f ∙ above));
        kept = λ f. refl;
      };
      kept = λ h. absurd (true≢false (sym yes ∙ h));
    }
