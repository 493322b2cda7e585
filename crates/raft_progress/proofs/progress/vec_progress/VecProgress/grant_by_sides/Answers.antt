use Rattle.std.proofs.Common.{arith, ap, get_or, refl, sym, ◌∙◌, ◌≡◌, ◌≤◌, ◌<◌, ◌-◌, ◌^◌, ℕ, false, length, max, take, true}
use Rattle.std.specs.List.{prefix_len}
use Rattle.std.specs.Map.{keys_of}
use Rattle.std.specs.Ordering.{is_lt}
use Rattle.std.proofs.lemmas.List.{get_or-take, length-take}
use Rattle.std.proofs.lemmas.List.Sums.{prefix_len-le-length}
use Rattle.std.proofs.lemmas.Map.Entries.{length-keys_of}
use Rattle.raft_progress.specs.Inner.Recount.{exceeds, prefix_test}
use Rattle.raft_progress.specs.progress.VecProgress.{view}
use Rattle.raft_progress.proofs.lemmas.ListLemmas.{length_take_le}
use Rattle.raft_progress.proofs.lemmas.progress.SideLemmas.{enough_ranks, rank_within, sides_decide, sides_least}
use Rattle.raft_progress.proofs.lemmas.progress.SizeLemmas.{last_granted, none_granted}
use Rattle.raft_progress.proofs.lemmas.progress.UpdateLemmas.{IsDistinct-voters}
use Rattle.raft_progress.proofs.lemmas.progress.entries.ShortPrefixLemmas.{finds_no_granted, lead_ends}
use Rattle.raft_progress.proofs.progress.vec_progress.VecProgress.grant_by_sides.Goals as goal

pub first_ranks-requires : goal.first_ranks-requires
first_ranks-requires g c =
    let p = c.args.self.now in
    let some : 0 < p.voter_count = let within = c.requires.within in omega arith in
    let n_ids : p.voter_count ≤ length (keys_of p.entries.items) =
    let fit = p.voters_fit in omega (arith, length-keys_of p.entries.items) in
    enough_ranks g.met.ID.Eq.laws p.positions.sorted.items p.positions.ranks.items p.positions.inverse (keys_of p.entries.items)
    (p.agree c.requires.fresh) p.voter_count some n_ids

pub returns-then-short-self : goal.returns-then-short-self
returns-then-short-self g c =
    let p = c.args.self.now in
    let least_is = c.least_size-least.ensures in
    let short_is : c.max-short.result ≡ max (max c.args.sides.now.first.need c.args.sides.now.second.need - 1) c.args.position =
    rw (c.max-short.ensures, c.saturating_sub.ensures, c.least_size-least.ensures) refl in
    let fits : p.stat.is_quorum_count < 2 ^ 64 = omega arith in
    let over = exceeds g.P.Ord.cmp g.V.ProgressPart.part_of p.granted in
    let past = c.if-short-self.true in
    let ends : prefix_len over (take p.voter_count p.entries.items) ≤ c.max-short.result =
    omega (arith, prefix_len-le-length over (take p.voter_count p.entries.items), length_take_le p.entries.items p.voter_count) in
    finds_no_granted g.met.ID.Eq.laws g.P.Ord.cmp g.V.ProgressPart.part_of g.QS.QuorumSet.has_quorum (view p)
    (IsDistinct-voters g.met.ID.Eq.laws p.voter_count p.entries.items c.requires.distinct)
    (max c.args.sides.now.first.need c.args.sides.now.second.need)
    (sides_least g.met.ID.Eq.laws (g.QS.QuorumSet.has_quorum p.quorum_set) (keys_of p.positions.sorted.items) c.args.sides.now
    c.requires.sides) c.args.position c.max-short.result short_is ends fits

pub returns-then-not-is_below : goal.returns-then-not-is_below
returns-then-not-is_below g c =
    let p = c.args.self.now in
    let short_is : c.max-short.result ≡ max (max c.args.sides.now.first.need c.args.sides.now.second.need - 1) c.args.position =
    rw (c.max-short.ensures, c.saturating_sub.ensures, c.least_size-least.ensures) refl in
    let fits : p.stat.is_quorum_count < 2 ^ 64 = omega arith in
    let over = exceeds g.P.Ord.cmp g.V.ProgressPart.part_of p.granted in
    let e = c.index.result.now in
    let within : c.max-short.result < p.voter_count = let near = c.if-short-self.false in omega arith in
    let fails : is_lt (g.P.Ord.cmp p.granted (g.V.ProgressPart.part_of e.1)) ≡ false = cc in
    let ends : prefix_len over (take p.voter_count p.entries.items) ≤ c.max-short.result =
    lead_ends over (take p.voter_count p.entries.items) c.max-short.result e
    (ap over (get_or-take p.voter_count p.entries.items c.max-short.result e within ∙ sym c.index.ensures) ∙ fails) in
    finds_no_granted g.met.ID.Eq.laws g.P.Ord.cmp g.V.ProgressPart.part_of g.QS.QuorumSet.has_quorum (view p)
    (IsDistinct-voters g.met.ID.Eq.laws p.voter_count p.entries.items c.requires.distinct)
    (max c.args.sides.now.first.need c.args.sides.now.second.need)
    (sides_least g.met.ID.Eq.laws (g.QS.QuorumSet.has_quorum p.quorum_set) (keys_of p.positions.sorted.items) c.args.sides.now
    c.requires.sides) c.args.position c.max-short.result short_is ends fits

pub quorum_len-len-requires : goal.quorum_len-len-requires
quorum_len-len-requires g c =
    let p = c.args.self.now in
    let a = c.requires.sides in
    let within = rank_within g.met.ID.Eq.laws p.positions.sorted.items p.positions.ranks.items p.positions.inverse
    (keys_of p.entries.items) (p.agree c.requires.fresh) in
    let first = a.first.need in
    let second = a.second.need in
    record {
      first_needs_one = omega arith;
      second_needs_one = omega arith;
      within_first = rw c.first_ranks.ensures (within a.first_config c.args.sides.now.first a.first p.voter_count);
      within_second = rw c.first_ranks.ensures (within a.second_config c.args.sides.now.second a.second p.voter_count);
    }

pub returns-then-last-self : goal.returns-then-last-self
returns-then-last-self g c =
    let p = c.args.self.now in
    let last_is : c.max-last.result ≡ max (c.quorum_len-len.result - 1) c.args.position =
    rw (c.max-last.ensures, c.saturating_sub-2.ensures) refl in
    let over = exceeds g.P.Ord.cmp g.V.ProgressPart.part_of p.granted in
    let past = c.if-last-self.true in
    let ends : prefix_len over (take p.voter_count p.entries.items) ≤ c.max-last.result =
    omega (arith, prefix_len-le-length over (take p.voter_count p.entries.items), length_take_le p.entries.items p.voter_count) in
    let some : 0 < length (take p.voter_count p.entries.items) =
    let fit = p.voters_fit in omega (arith, length-take p.voter_count p.entries.items) in
    let voters : 0 < p.voter_count = let within = c.requires.within in omega arith in
    let n_ids : p.voter_count ≤ length (keys_of p.entries.items) =
    let fit = p.voters_fit in omega (arith, length-keys_of p.entries.items) in
    none_granted g.ID.PartialEq.eq g.met.P.Ord.total g.V.ProgressPart.part_of g.QS.QuorumSet.has_quorum (view p)
    c.requires.can_count.falling c.quorum_len-len.result
    (sides_decide g.met.ID.Eq.laws p.positions.sorted.items p.positions.ranks.items p.positions.inverse (keys_of p.entries.items)
    (p.agree c.requires.fresh) c.requires.distinct p.voter_count voters n_ids (g.QS.QuorumSet.has_quorum p.quorum_set)
    c.args.sides.now c.requires.sides p.entries.items refl c.quorum_len-len.result
    (rw c.first_ranks.ensures at c.quorum_len-len.ensures))
    c.args.position c.max-last.result last_is ends some 1 c.saturating_add-self.result (omega arith) c.saturating_add-self.ensures

pub returns-then-is_below : goal.returns-then-is_below
returns-then-is_below g c =
    let p = c.args.self.now in
    let last_is : c.max-last.result ≡ max (c.quorum_len-len.result - 1) c.args.position =
    rw (c.max-last.ensures, c.saturating_sub-2.ensures) refl in
    let e = c.index-2.result.now in
    let near : c.max-last.result < p.voter_count = let not_past = c.if-last-self.false in omega arith in
    let within : c.max-last.result < length (take p.voter_count p.entries.items) =
    let fit = p.voters_fit in omega (arith, length-take p.voter_count p.entries.items) in
    let voters : 0 < p.voter_count = let some = c.requires.within in omega arith in
    let n_ids : p.voter_count ≤ length (keys_of p.entries.items) =
    let fit = p.voters_fit in omega (arith, length-keys_of p.entries.items) in
    let leads : is_lt (g.P.Ord.cmp p.granted (g.V.ProgressPart.part_of e.1)) ≡ true = cc in
    last_granted g.ID.PartialEq.eq g.met.P.Ord.total g.V.ProgressPart.part_of g.QS.QuorumSet.has_quorum (view p)
    c.requires.can_count.falling c.quorum_len-len.result
    (sides_decide g.met.ID.Eq.laws p.positions.sorted.items p.positions.ranks.items p.positions.inverse (keys_of p.entries.items)
    (p.agree c.requires.fresh) c.requires.distinct p.voter_count voters n_ids (g.QS.QuorumSet.has_quorum p.quorum_set)
    c.args.sides.now c.requires.sides p.entries.items refl c.quorum_len-len.result
    (rw c.first_ranks.ensures at c.quorum_len-len.ensures))
    c.args.position c.max-last.result last_is within e
    (c.index-2.ensures ∙ sym (get_or-take p.voter_count p.entries.items c.max-last.result e near)) leads
    c.part-part.result c.part-part.ensures c.saturating_add-self.result c.saturating_add-self.ensures

pub returns-else-is_below : goal.returns-else-is_below
returns-else-is_below g c =
    let p = c.args.self.now in
    let last_is : c.max-last.result ≡ max (c.quorum_len-len.result - 1) c.args.position =
    rw (c.max-last.ensures, c.saturating_sub-2.ensures) refl in
    let over = exceeds g.P.Ord.cmp g.V.ProgressPart.part_of p.granted in
    let e = c.index-2.result.now in
    let within : c.max-last.result < p.voter_count = let near = c.if-last-self.false in omega arith in
    let fails : is_lt (g.P.Ord.cmp p.granted (g.V.ProgressPart.part_of e.1)) ≡ false = cc in
    let ends : prefix_len over (take p.voter_count p.entries.items) ≤ c.max-last.result =
    lead_ends over (take p.voter_count p.entries.items) c.max-last.result e
    (ap over (get_or-take p.voter_count p.entries.items c.max-last.result e within ∙ sym c.index-2.ensures) ∙ fails) in
    let some : 0 < length (take p.voter_count p.entries.items) =
    let fit = p.voters_fit in omega (arith, length-take p.voter_count p.entries.items) in
    let voters : 0 < p.voter_count = let within = c.requires.within in omega arith in
    let n_ids : p.voter_count ≤ length (keys_of p.entries.items) =
    let fit = p.voters_fit in omega (arith, length-keys_of p.entries.items) in
    none_granted g.ID.PartialEq.eq g.met.P.Ord.total g.V.ProgressPart.part_of g.QS.QuorumSet.has_quorum (view p)
    c.requires.can_count.falling c.quorum_len-len.result
    (sides_decide g.met.ID.Eq.laws p.positions.sorted.items p.positions.ranks.items p.positions.inverse (keys_of p.entries.items)
    (p.agree c.requires.fresh) c.requires.distinct p.voter_count voters n_ids (g.QS.QuorumSet.has_quorum p.quorum_set)
    c.args.sides.now c.requires.sides p.entries.items refl c.quorum_len-len.result
    (rw c.first_ranks.ensures at c.quorum_len-len.ensures))
    c.args.position c.max-last.result last_is ends some 1 c.saturating_add-self.result (omega arith) c.saturating_add-self.ensures
