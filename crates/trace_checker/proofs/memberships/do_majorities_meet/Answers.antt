use Rattle.std.proofs.Common.{◌+◌, ◌∙◌, Bool, ap, not, sym, arith}
use Rattle.std.specs.Set.{is_member}
use Rattle.std.proofs.lemmas.List.Sums.{count_by_more_no, count_by_more_yes}
use Rattle.raft_members.proofs.lemmas.quorum.MajorityLemmas.{flipped}
use Rattle.trace_checker.proofs.memberships.do_majorities_meet.Goals as goal
use Rattle.trace_checker.proofs.memberships.do_majorities_meet.Goals.{then-not-contains, else-not-contains}

pub loop-id-preserved : goal.loop-id-preserved
loop-id-preserved g c =
    let absent : g.row.N.Denot → Bool = λ x. not (is_member g.N.PartialEq.eq c.args.config.now x) in
    elim c.if-not-contains.branch [
      | then-not-contains w ↦ record {
        counted = w.added-is ∙ ap (λ n. n + 1) c.loop-id.invariant.counted
            ∙ sym (count_by_more_yes absent c.args.other.now c.loop-id.id-index c.id-item.result (omega arith)
            (ap absent (sym c.id-item.is) ∙ ap not (sym (flipped g.met.N.Eq.laws c.id-item.result c.args.config.now) ∙ sym
            c.contains.ensures.value
            ∙ w.if-not-contains.true)));
        few = omega (arith, c.loop-id.invariant.few, w.added-is);
      }
      | else-not-contains w ↦ record {
        counted = w.added-is ∙ c.loop-id.invariant.counted
            ∙ sym (count_by_more_no absent c.args.other.now c.loop-id.id-index c.id-item.result (omega arith)
            (ap absent (sym c.id-item.is) ∙ ap not (sym (flipped g.met.N.Eq.laws c.id-item.result c.args.config.now) ∙ sym
            c.contains.ensures.value
            ∙ w.if-not-contains.false)));
        few = omega (arith, c.loop-id.invariant.few, w.added-is);
      }
    ]
