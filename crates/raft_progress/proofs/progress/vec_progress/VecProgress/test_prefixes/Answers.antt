use Rattle.std.proofs.Common.{arith, refl, sym, ap, ◌≡◌, get_or, ◌∙◌, subst, ◌-◌, ◌<◌, ◌≤◌, length, take, ℕ, Bool, List, Option, Some}
use Rattle.std.specs.List.{prefix_len}
use Rattle.std.proofs.lemmas.List.{length-take, get_or-take}
use Rattle.std.proofs.lemmas.List.Sums.{prefix_len-le-length}
use Rattle.raft_progress.specs.Inner.Recount.{exceeds}
use Rattle.raft_progress.specs.Inner.Rises.{IsShortestPrefix}
use Rattle.raft_progress.proofs.lemmas.progress.UpdateLemmas.{IsDistinct-voters}
use Rattle.raft_progress.proofs.lemmas.ListLemmas.{length_take_le}
use Rattle.raft_progress.proofs.progress.vec_progress.VecProgress.test_prefixes.Goals as goal

-- the end of a prefix that was found, over the voters, of which the first `high` lead
module _ {ID V : Type 0} {eq : ID → ID → Bool} {has_quorum : (ID → Bool) → Bool} {position high tests : ℕ} {found : Option ℕ}
    (leads : ID × V → Bool) (n : ℕ) (lent : List (ID × V)) (count : high ≡ prefix_len leads (take n lent))
    (least : IsShortestPrefix eq has_quorum (take n lent) position high found tests) where
  front_within : (k : ℕ) → found ≡ Some k → (position < k) × (k ≤ length (take n lent))
  front_within k is =
      let far = least.within k is in
      let top = prefix_len-le-length leads (take n lent) in
      (least.above k is, omega arith)

  -- the same over the entries
  least_of_entries : (entries : List (ID × V)) → lent ≡ entries
      → IsShortestPrefix eq has_quorum (take n entries) position (prefix_len leads (take n entries)) found tests
  least_of_entries entries same =
      subst (λ ws. IsShortestPrefix eq has_quorum (take n ws) position (prefix_len leads (take n ws)) found tests) same
      (subst (λ h. IsShortestPrefix eq has_quorum (take n lent) position h found tests) count least)

pub find_shortest_quorum-found-requires-clause-within : goal.find_shortest_quorum-found-requires-clause-within
find_shortest_quorum-found-requires-clause-within g c =
    let h = prefix_len-le-length (exceeds g.P.Ord.cmp g.V.ProgressPart.part_of c.args.self.now.granted)
    (take c.args.self.now.voter_count c.deref.result.now) in
    rw c.gather_leading-high.ensures.count h

pub find_shortest_quorum-found-requires-clause-distinct : goal.find_shortest_quorum-found-requires-clause-distinct
find_shortest_quorum-found-requires-clause-distinct g c =
    rw c.deref.ensures.value (IsDistinct-voters g.met.ID.Eq.laws c.args.self.now.voter_count c.args.self.now.entries.items
    c.requires.distinct)

pub index-requires : goal.index-requires
index-requires g c =
    let at = front_within (exceeds g.P.Ord.cmp g.V.ProgressPart.part_of c.args.self.now.granted) c.args.self.now.voter_count
    c.deref.result.now c.gather_leading-high.ensures.count c.find_shortest_quorum-found.ensures c.in-Some.len c.in-Some.is in
    let near = at.0 in
    let far = at.1 in
    let t = length-take c.args.self.now.voter_count c.deref.result.now in
    let f = c.args.self.now.voters_fit in
    let q = c.args.self.now.entries.ok.0 in
    let z = ap (length {A = g.row.ID.Denot × g.row.V.Denot}) c.deref.ensures.value in
    omega arith

pub returns-in-Some : goal.returns-in-Some
returns-in-Some g c = record {
  kept = record { quorum_set = refl; voter_count = refl; default_part = refl; updates = refl };
  same_progress_entries = refl;
  moves = refl;
  found = c.find_shortest_quorum-found.result.len;
  tests = c.find_shortest_quorum-found.result.tests;
  shortest = least_of_entries (exceeds g.P.Ord.cmp g.V.ProgressPart.part_of c.args.self.now.granted) c.args.self.now.voter_count
      c.deref.result.now c.gather_leading-high.ensures.count c.find_shortest_quorum-found.ensures c.args.self.now.entries.items
      c.deref.ensures.value;
  counts = c.saturating_add-self.ensures;
  stays = λ e. cc;
  rises = λ k e.
      let is : c.in-Some.len ≡ k = cc in
      let at = front_within (exceeds g.P.Ord.cmp g.V.ProgressPart.part_of c.args.self.now.granted) c.args.self.now.voter_count
      c.deref.result.now c.gather_leading-high.ensures.count c.find_shortest_quorum-found.ensures c.in-Some.len c.in-Some.is in
      let near = at.0 in
      let far = at.1 in
      let t = length_take_le c.deref.result.now c.args.self.now.voter_count in (
        c.index.result.now,
        c.index.ensures ∙ ap (λ n. get_or c.args.self.now.entries.items (n - 1) c.index.result.now) is
            ∙ sym (get_or-take c.args.self.now.voter_count c.args.self.now.entries.items (k - 1) c.index.result.now (omega arith)),
        c.part-self.ensures,
      );
}

pub returns-in_default : goal.returns-in_default
returns-in_default g c = record {
  kept = record { quorum_set = refl; voter_count = refl; default_part = refl; updates = refl };
  same_progress_entries = refl;
  moves = refl;
  found = c.find_shortest_quorum-found.result.len;
  tests = c.find_shortest_quorum-found.result.tests;
  shortest = least_of_entries (exceeds g.P.Ord.cmp g.V.ProgressPart.part_of c.args.self.now.granted) c.args.self.now.voter_count
      c.deref.result.now c.gather_leading-high.ensures.count c.find_shortest_quorum-found.ensures c.args.self.now.entries.items
      c.deref.ensures.value;
  counts = c.saturating_add-self.ensures;
  stays = λ e. refl;
  rises = λ k e. cc;
}
