use Rattle.std.proofs.Common.{◌≡◌, ◌<◌, ◌≤◌, ◌+◌, ◌∙◌, ◌&&◌, Some, None, inl, inr, length, sym, arith}
use Rattle.std.proofs.lemmas.Bool.{cases_lt}
use Rattle.trace_checker.specs.Inner.Places.{place_of}
use Rattle.trace_checker.specs.declared.checker.leader.Leader.{Leader}
use Rattle.trace_checker.proofs.lemmas.PlaceLemmas.{found_first, found_none, outside, unplaced}
use Rattle.trace_checker.proofs.checker.places.leader_at.Goals as goal

pub returns-then-count-eq0-clause-place : goal.returns-then-count-eq0-clause-place
returns-then-count-eq0-clause-place g c =
    λ right placed. sym (found_none (λ (x : Leader g.row.T.Denot g.row.N.Denot).
    g.T.PartialEq.eq x.term c.args.term && g.N.PartialEq.eq x.id c.args.id) c.args.leaders.now.items
    (λ k d h. absurd (omega (arith, h, c.if-count-eq0.true, c.len-count.ensures, c.args.leaders.now.ok.0))))

pub returns-then-is_leader-clause-place : goal.returns-then-is_leader-clause-place
returns-then-is_leader-clause-place g c =
    λ right placed.
    let within : 0 < length c.args.leaders.now.items =
    omega (arith, c.if-count-eq0.false, c.len-count.ensures, c.args.leaders.now.ok.0) in
    sym (found_first (λ (x : Leader g.row.T.Denot g.row.N.Denot).
    g.T.PartialEq.eq x.term c.args.term && g.N.PartialEq.eq x.id c.args.id) c.args.leaders.now.items 0
    c.index.result.now within (λ k h. absurd (omega (arith, h)))
    (rw (← c.index.ensures) (sym c.is_leader.ensures ∙ c.if-is_leader.true)))

pub returns-in_default-clause-place : goal.returns-in_default-clause-place
returns-in_default-clause-place g c =
    λ right placed.
    let none : place_of c.args.places.now.entries (g.T.Term.rank c.args.term) ≡ None =
    rw c.rank.ensures at (sym c.in_default.ensures.value) in
    sym (unplaced g.T.Term.rank g.T.PartialEq.eq g.N.PartialEq.eq right c.args.places.now.entries c.args.leaders.now.items
    placed c.args.term c.args.id none)

pub returns-then-is_leader-2-clause-place : goal.returns-then-is_leader-2-clause-place
returns-then-is_leader-2-clause-place g c =
    λ right placed.
    let within : c.loop-j.j < length c.args.leaders.now.items = omega (arith, c.args.leaders.now.ok.0) in
    sym (found_first (λ (x : Leader g.row.T.Denot g.row.N.Denot).
    g.T.PartialEq.eq x.term c.args.term && g.N.PartialEq.eq x.id c.args.id) c.args.leaders.now.items c.loop-j.j
    c.index-in-loop-j.result.now within
    (λ k h. c.loop-j.invariant right placed k c.index-in-loop-j.result.now h (omega (arith, h, within)))
    (rw (← c.index-in-loop-j.ensures) (sym c.is_leader-in-loop-j.ensures ∙ c.if-is_leader-2.true)))

pub returns-clause-place : goal.returns-clause-place
returns-clause-place g c =
    λ right placed.
    let is : place_of c.args.places.now.entries (g.T.Term.rank c.args.term) ≡ Some c.in-Some.place.now =
    rw c.rank.ensures at (sym c.in-Some.ensures.value) in
    sym (found_none (λ (x : Leader g.row.T.Denot g.row.N.Denot).
    g.T.PartialEq.eq x.term c.args.term && g.N.PartialEq.eq x.id c.args.id) c.args.leaders.now.items
    (λ k d h. elim (cases_lt k c.loop-j.j) [
      | inl before ↦ c.loop-j.invariant right placed k d before h
      | inr after ↦
          let past : length c.args.leaders.now.items ≤ c.in-Some.place.now.0 + k =
          omega (arith, after, c.loop-j-test.false, c.saturating_sub-to.ensures, c.len-count.ensures, c.args.leaders.now.ok.0) in
          outside g.T.Term.rank g.T.PartialEq.eq g.N.PartialEq.eq right c.args.places.now.entries c.args.leaders.now.items placed
          c.args.term c.args.id c.in-Some.place.now.0 c.in-Some.place.now.1 k d is h (inl past)
    ]))
