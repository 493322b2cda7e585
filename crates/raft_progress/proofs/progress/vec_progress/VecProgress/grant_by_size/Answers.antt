use Rattle.std.proofs.Common.{arith, ap, refl, sym, ◌∙◌, ◌≡◌, ◌≤◌, ◌<◌, ◌-◌, ◌^◌, false, length, max, take, true}
use Rattle.std.specs.List.{prefix_len}
use Rattle.std.specs.Ordering.{is_lt}
use Rattle.std.proofs.lemmas.List.{get_or-take, length-take}
use Rattle.std.proofs.lemmas.List.Sums.{prefix_len-le-length}
use Rattle.raft_progress.specs.Inner.Recount.{exceeds}
use Rattle.raft_progress.specs.progress.VecProgress.{view}
use Rattle.raft_progress.proofs.lemmas.ListLemmas.{length_take_le}
use Rattle.raft_progress.proofs.lemmas.progress.SizeLemmas.{decided_by_size, last_granted, none_granted}
use Rattle.raft_progress.proofs.lemmas.progress.UpdateLemmas.{IsDistinct-voters}
use Rattle.raft_progress.proofs.lemmas.progress.entries.ShortPrefixLemmas.{lead_ends}
use Rattle.raft_progress.proofs.progress.vec_progress.VecProgress.grant_by_size.Goals as goal

pub returns-then-last-self : goal.returns-then-last-self
returns-then-last-self g c =
    let p = c.args.self.now in
    let last_is : c.max-last.result ≡ max (c.args.size - 1) c.args.position = rw (c.max-last.ensures, c.saturating_sub.ensures) refl in
    let fits : p.stat.is_quorum_count < 2 ^ 64 = omega arith in
    let over = exceeds g.P.Ord.cmp g.V.ProgressPart.part_of p.granted in
    let past = c.if-last-self.true in
    let ends : prefix_len over (take p.voter_count p.entries.items) ≤ c.max-last.result =
    omega (arith, prefix_len-le-length over (take p.voter_count p.entries.items), length_take_le p.entries.items p.voter_count) in
    let some : 0 < length (take p.voter_count p.entries.items) =
    let fit = p.voters_fit in omega (arith, length-take p.voter_count p.entries.items) in
    none_granted g.ID.PartialEq.eq g.met.P.Ord.total g.V.ProgressPart.part_of g.QS.QuorumSet.has_quorum (view p)
    c.requires.can_count.falling c.args.size
    (decided_by_size g.met.ID.Eq.laws g.QS.QuorumSet.has_quorum g.QS.QuorumSet.is_voter (view p)
    (IsDistinct-voters g.met.ID.Eq.laws p.voter_count p.entries.items c.requires.distinct) c.requires.can_count c.args.size
    c.requires.decides) c.args.position c.max-last.result last_is ends some 0 p.stat.is_quorum_count (omega arith) (omega arith)

pub returns-then-not-is_below : goal.returns-then-not-is_below
returns-then-not-is_below g c =
    let p = c.args.self.now in
    let last_is : c.max-last.result ≡ max (c.args.size - 1) c.args.position = rw (c.max-last.ensures, c.saturating_sub.ensures) refl in
    let fits : p.stat.is_quorum_count < 2 ^ 64 = omega arith in
    let over = exceeds g.P.Ord.cmp g.V.ProgressPart.part_of p.granted in
    let e = c.index.result.now in
    let within : c.max-last.result < p.voter_count = let near = c.if-last-self.false in omega arith in
    let fails : is_lt (g.P.Ord.cmp p.granted (g.V.ProgressPart.part_of e.1)) ≡ false = cc in
    let ends : prefix_len over (take p.voter_count p.entries.items) ≤ c.max-last.result =
    lead_ends over (take p.voter_count p.entries.items) c.max-last.result e
    (ap over (get_or-take p.voter_count p.entries.items c.max-last.result e within ∙ sym c.index.ensures) ∙ fails) in
    let some : 0 < length (take p.voter_count p.entries.items) =
    let fit = p.voters_fit in omega (arith, length-take p.voter_count p.entries.items) in
    none_granted g.ID.PartialEq.eq g.met.P.Ord.total g.V.ProgressPart.part_of g.QS.QuorumSet.has_quorum (view p)
    c.requires.can_count.falling c.args.size
    (decided_by_size g.met.ID.Eq.laws g.QS.QuorumSet.has_quorum g.QS.QuorumSet.is_voter (view p)
    (IsDistinct-voters g.met.ID.Eq.laws p.voter_count p.entries.items c.requires.distinct) c.requires.can_count c.args.size
    c.requires.decides) c.args.position c.max-last.result last_is ends some 0 p.stat.is_quorum_count (omega arith) (omega arith)

pub returns : goal.returns
returns g c =
    let p = c.args.self.now in
    let last_is : c.max-last.result ≡ max (c.args.size - 1) c.args.position = rw (c.max-last.ensures, c.saturating_sub.ensures) refl in
    let e = c.index.result.now in
    let near : c.max-last.result < p.voter_count = let not_past = c.if-last-self.false in omega arith in
    let within : c.max-last.result < length (take p.voter_count p.entries.items) =
    let fit = p.voters_fit in omega (arith, length-take p.voter_count p.entries.items) in
    let leads : is_lt (g.P.Ord.cmp p.granted (g.V.ProgressPart.part_of e.1)) ≡ true = cc in
    last_granted g.ID.PartialEq.eq g.met.P.Ord.total g.V.ProgressPart.part_of g.QS.QuorumSet.has_quorum (view p)
    c.requires.can_count.falling c.args.size
    (decided_by_size g.met.ID.Eq.laws g.QS.QuorumSet.has_quorum g.QS.QuorumSet.is_voter (view p)
    (IsDistinct-voters g.met.ID.Eq.laws p.voter_count p.entries.items c.requires.distinct) c.requires.can_count c.args.size
    c.requires.decides) c.args.position c.max-last.result last_is within e
    (c.index.ensures ∙ sym (get_or-take p.voter_count p.entries.items c.max-last.result e near)) leads
    c.part-part.result c.part-part.ensures c.saturating_add-self.result c.saturating_add-self.ensures
