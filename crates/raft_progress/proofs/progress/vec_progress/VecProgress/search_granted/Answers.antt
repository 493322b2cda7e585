use Rattle.std.specs.Prelude.{max}
use Rattle.std.specs.List.{prefix_len}
use Rattle.std.proofs.Common.{ap, arith, get_or, is_lt, refl, subst, sym, take, ◌∙◌, ◌≡◌, ◌-◌, ◌^◌, ◌<◌, ◌≤◌, true, false, ℕ}
use Rattle.std.proofs.lemmas.List.Sums.{prefix_len-le-length}
use Rattle.raft_progress.specs.Inner.Recount.{exceeds}
use Rattle.raft_progress.specs.Inner.Settled.{FindsGranted}
use Rattle.raft_progress.specs.progress.VecProgress.{view}
use Rattle.raft_progress.proofs.lemmas.progress.entries.ShortPrefixLemmas.{finds_granted_past, finds_no_granted, lead_ends}
use Rattle.raft_progress.proofs.lemmas.ListLemmas.{length_take_le}
use Rattle.raft_progress.proofs.lemmas.progress.UpdateLemmas.{IsDistinct-voters}
use Rattle.raft_progress.proofs.progress.vec_progress.VecProgress.search_granted.Goals as goal
use Rattle.std.proofs.lemmas.List.{get_or-take}
use Rattle.std.proofs.lemmas.Option.{get_or_from_slice_get}

pub test_only_voter-requires-clause-leads : goal.test_only_voter-requires-clause-leads
test_only_voter-requires-clause-leads g c = λ f is.
    let p = c.args.self.now in
    let e = c.index.result.now in
    let first : c.max-short.result ≡ 0 = omega arith in
    let here : get_or p.entries.items c.max-short.result e ≡ f =
    subst (λ (n : ℕ). get_or p.entries.items n e ≡ f) (sym first) (get_or_from_slice_get p.entries.items 0 f e is) in
    let same : e ≡ f = c.index.ensures ∙ here in
    let leads : is_lt (g.P.Ord.cmp p.granted (g.V.ProgressPart.part_of e.1)) ≡ true = cc in
    ap (λ (h : g.row.ID.Denot × g.row.V.Denot). is_lt (g.P.Ord.cmp p.granted (g.V.ProgressPart.part_of h.1))) (sym same) ∙ leads

pub returns-then-self-eq1 : goal.returns-then-self-eq1
returns-then-self-eq1 g c =
    let p = c.args.self.now in
    let short_is : c.max-short.result ≡ max (c.least_quorum_size-least.result - 1) c.args.position =
    rw (c.max-short.ensures, c.saturating_sub.ensures) refl in
    let first : 0 ≡ c.max-short.result = omega arith in
    finds_granted_past g.met.ID.Eq.laws g.P.Ord.cmp g.V.ProgressPart.part_of g.QS.QuorumSet.has_quorum (view p)
    (IsDistinct-voters g.met.ID.Eq.laws p.voter_count p.entries.items c.requires.distinct) c.least_quorum_size-least.result
    c.least_quorum_size-least.ensures.least c.args.position c.max-short.result short_is (view c.test_only_voter.new.self)
    (subst (λ (n : ℕ). FindsGranted g.ID.PartialEq.eq g.P.Ord.cmp g.V.ProgressPart.part_of g.QS.QuorumSet.has_quorum (view p) n
    (view c.test_only_voter.new.self)) first c.test_only_voter.ensures)

pub returns-else-self-eq1 : goal.returns-else-self-eq1
returns-else-self-eq1 g c =
    let p = c.args.self.now in
    let short_is : c.max-short.result ≡ max (c.least_quorum_size-least.result - 1) c.args.position =
    rw (c.max-short.ensures, c.saturating_sub.ensures) refl in
    finds_granted_past g.met.ID.Eq.laws g.P.Ord.cmp g.V.ProgressPart.part_of g.QS.QuorumSet.has_quorum (view p)
    (IsDistinct-voters g.met.ID.Eq.laws p.voter_count p.entries.items c.requires.distinct) c.least_quorum_size-least.result
    c.least_quorum_size-least.ensures.least c.args.position c.max-short.result short_is (view c.test_prefixes.new.self)
    c.test_prefixes.ensures

pub returns-then-short-self : goal.returns-then-short-self
returns-then-short-self g c =
    let p = c.args.self.now in
    let short_is : c.max-short.result ≡ max (c.least_quorum_size-least.result - 1) c.args.position =
    rw (c.max-short.ensures, c.saturating_sub.ensures) refl in
    let fits : p.stat.is_quorum_count < 2 ^ 64 = omega arith in
    let over = exceeds g.P.Ord.cmp g.V.ProgressPart.part_of p.granted in
    let past = c.if-short-self.true in
    let ends : prefix_len over (take p.voter_count p.entries.items) ≤ c.max-short.result =
    omega (arith, prefix_len-le-length over (take p.voter_count p.entries.items), length_take_le p.entries.items p.voter_count) in
    finds_no_granted g.met.ID.Eq.laws g.P.Ord.cmp g.V.ProgressPart.part_of g.QS.QuorumSet.has_quorum (view p)
    (IsDistinct-voters g.met.ID.Eq.laws p.voter_count p.entries.items c.requires.distinct) c.least_quorum_size-least.result
    c.least_quorum_size-least.ensures.least c.args.position c.max-short.result short_is ends fits

pub returns-then-not-is_below : goal.returns-then-not-is_below
returns-then-not-is_below g c =
    let p = c.args.self.now in
    let short_is : c.max-short.result ≡ max (c.least_quorum_size-least.result - 1) c.args.position =
    rw (c.max-short.ensures, c.saturating_sub.ensures) refl in
    let fits : p.stat.is_quorum_count < 2 ^ 64 = omega arith in
    let over = exceeds g.P.Ord.cmp g.V.ProgressPart.part_of p.granted in
    let e = c.index.result.now in
    let within : c.max-short.result < p.voter_count = let near = c.if-short-self.false in omega arith in
    let fails : is_lt (g.P.Ord.cmp p.granted (g.V.ProgressPart.part_of e.1)) ≡ false = cc in
    let ends : prefix_len over (take p.voter_count p.entries.items) ≤ c.max-short.result =
    lead_ends over (take p.voter_count p.entries.items) c.max-short.result e
    (ap over (get_or-take p.voter_count p.entries.items c.max-short.result e within ∙ sym c.index.ensures) ∙ fails) in
    finds_no_granted g.met.ID.Eq.laws g.P.Ord.cmp g.V.ProgressPart.part_of g.QS.QuorumSet.has_quorum (view p)
    (IsDistinct-voters g.met.ID.Eq.laws p.voter_count p.entries.items c.requires.distinct) c.least_quorum_size-least.result
    c.least_quorum_size-least.ensures.least c.args.position c.max-short.result short_is ends fits
