use Rattle.std.proofs.Common.{◌≡◌, ◌∙◌, Some, refl, rules, sym}
use Rattle.std.specs.Prelude.{slice_get}
use Rattle.steps_handlers.proofs.lemmas.EntryLemmas.{no_first}
use Rattle.steps_handlers.proofs.lemmas.CutLemmas.{cut_refused, end_refused, replaces, replaces_nothing, stops_cut, stops_unchanged}
use Rattle.steps_handlers.proofs.lemmas.WrittenLemmas.{first_is}
use Rattle.steps_handlers.specs.declared.error.AppendError.TheVariants.{OutOfMemory}
use Rattle.raft_progress.specs.progress.Comparisons.{OrdMembers}
use Rattle.steps_handlers.proofs.log.append_new.Goals as goal

pub returns-in_default-clause-puts : goal.returns-in_default-clause-puts
returns-in_default-clause-puts g c =
    let none = no_first c.args.new.now (rw c.in_default.is at c.first.ensures.value) in
    rw none (record {
      from = refl;
      replaced = replaces_nothing _ g.NID.PartialEq.eq g.N.PartialEq.eq g.met.C.Eq.laws c.args.state.now;
    })

pub returns-clause-puts : goal.returns-clause-puts
returns-clause-puts g c =
    let first = c.in-Some.first.now in
    let begins : slice_get c.args.new.now 0 ≡ Some first = sym (rw c.in-Some.is at c.first.ensures.value) in
    let may = sym c.may_extend.ensures ∙ c.if-not-may_extend.false in
    let a = c.in_ok-extend.ensures.extends in
    record {
      from = first_is c.args.new.now first begins;
      replaced = replaces _ g.NID.PartialEq.eq g.N.PartialEq.eq g.met.C.Eq.laws c.args.new.now first c.args.state.now c.cut.new.state begins
          c.in_ok-cut.ensures.cut c.extend.new.state may a.log a.last a.kept a.own a.memberships a.effective a.rest;
    }

pub returns-in_err-cut-clause-stops : goal.returns-in_err-cut-clause-stops
returns-in_err-cut-clause-stops g c =
    let ord : OrdMembers g.row.C.Denot = record {
      partial_cmp = g.C.PartialOrd.partial_cmp;
      eq = g.C.PartialEq.eq;
      cmp = g.C.Ord.cmp;
    } in
    let first = c.in-Some.first.now in
    let begins : slice_get c.args.new.now 0 ≡ Some first = sym (rw c.in-Some.is at c.first.ensures.value) in
    let reason = cut_refused g.C.Ord.cmp c.args.new.now first c.args.state.now c.in_err-cut.field-0.0 begins
    c.in_err-cut.ensures.refused in
    let stops = stops_unchanged ord g.NID.PartialEq.eq g.N.PartialEq.eq g.met.C.Eq.laws c.args.new.now first
    c.in_err-cut.field-0.0 c.args.state.now c.cut.new.state begins reason c.in_err-cut.ensures.err in
    search (rules, stops)

pub returns-then-not-may_extend-clause-stops : goal.returns-then-not-may_extend-clause-stops
returns-then-not-may_extend-clause-stops g c =
    let ord : OrdMembers g.row.C.Denot = record {
      partial_cmp = g.C.PartialOrd.partial_cmp;
      eq = g.C.PartialEq.eq;
      cmp = g.C.Ord.cmp;
    } in
    let first = c.in-Some.first.now in
    let begins : slice_get c.args.new.now 0 ≡ Some first = sym (rw c.in-Some.is at c.first.ensures.value) in
    let reason = end_refused ord g.NID.PartialEq.eq g.N.PartialEq.eq g.met.C.Eq.laws c.args.new.now first c.args.state.now c.cut.new.state
    begins c.in_ok-cut.ensures.cut c.refusal.result c.refusal.ensures in
    stops_cut ord g.NID.PartialEq.eq g.N.PartialEq.eq g.met.C.Eq.laws c.args.new.now first c.args.state.now c.cut.new.state begins
    c.in_ok-cut.ensures.cut c.cut.new.state c.refusal.result reason refl

pub returns-in_err-extend-clause-stops : goal.returns-in_err-extend-clause-stops
returns-in_err-extend-clause-stops g c =
    let ord : OrdMembers g.row.C.Denot = record {
      partial_cmp = g.C.PartialOrd.partial_cmp;
      eq = g.C.PartialEq.eq;
      cmp = g.C.Ord.cmp;
    } in
    let first = c.in-Some.first.now in
    let begins : slice_get c.args.new.now 0 ≡ Some first = sym (rw c.in-Some.is at c.first.ensures.value) in
    let stops = stops_cut ord g.NID.PartialEq.eq g.N.PartialEq.eq g.met.C.Eq.laws c.args.new.now first c.args.state.now c.cut.new.state
    begins c.in_ok-cut.ensures.cut c.extend.new.state OutOfMemory tt c.in_err-extend.ensures.err in
    search (rules, stops)
