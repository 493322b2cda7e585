use Rattle.std.proofs.Common.{◌≡◌, Bool, List, [], ◌∷◌, ◌++◌, sym, ◌∙◌, ap, append-nil, map, subst, IsTrue, Option}
use Rattle.std.specs.Map.{keys_of}
use Rattle.std.specs.BTreeMap.{is_at, get}
use Rattle.std.specs.List.{filter}
use Rattle.std.specs.List.Sorted.{IsStrictlySortedBy}
use Rattle.std.specs.Map.Iter.{deref_pair}
use Rattle.std.specs.Option.{option_eq}
use Rattle.std.proofs.lemmas.Map.Iter.{rest_all}
use Rattle.std.proofs.lemmas.Map.Entries.{lookup-filter-keys}
use Rattle.raft_members.specs.membership.Change.{keeps_node}
use Rattle.raft_members.proofs.lemmas.membership.KeptLemmas.{kept_in, kept_out, same_lookup, same_stays, same_entries, moved_on}
use Rattle.raft_members.proofs.membership.nodes.kept.Goals as goal

pub returns-clause-nodes : goal.returns-clause-nodes
returns-clause-nodes g c q =
    let i = c.loop-id.invariant in
    let p : g.row.NID.Denot → Bool = keeps_node g.NID.PartialEq.eq (map (λ s. s.keys) c.args.old.now) (map (λ s. s.keys) c.args.new.now)
    c.args.retain in
    let e : c.args.nodes.now.entries ≡ i.0 =
    i.1 ∙ ap (λ l. i.0 ++ l) (rest_all deref_pair c.loop-id.id-iterator c.next.new.self c.next.result c.in-None.is c.next.ensures.steps)
    ∙ append-nil i.0 in
    let f = lookup-filter-keys (is_at (g.NID.Ord.cmp q)) p (p q)
    (λ k h. sym (same_stays g.met.NID.Eq.laws (map (λ s. s.keys) c.args.old.now) (map (λ s. s.keys) c.args.new.now) c.args.retain q k
    (g.met.NID.Ord.matches_eq q k ∙ h))) i.0 in
    let P : Option g.row.N.Denot → Type 0 = λ o. IsTrue (option_eq g.N.PartialEq.eq (get g.NID.Ord.cmp c.loop-id.kept q) o) in
    rw e (subst P f (same_lookup g.N.PartialEq.eq (is_at (g.NID.Ord.cmp q)) c.loop-id.kept.entries (filter (λ n. p n.0) i.0) i.2))

pub returns-clause-entries : goal.returns-clause-entries
returns-clause-entries g c =
    let i = c.loop-id.invariant in
    let e : c.args.nodes.now.entries ≡ i.0 =
    i.1 ∙ ap (λ l. i.0 ++ l) (rest_all deref_pair c.loop-id.id-iterator c.next.new.self c.next.result c.in-None.is c.next.ensures.steps)
    ∙ append-nil i.0 in
    rw e (same_entries g.met.NID.Eq.laws g.met.N.Eq.laws c.loop-id.kept.entries
    (filter (λ n. keeps_node g.NID.PartialEq.eq (map (λ s. s.keys) c.args.old.now) (map (λ s. s.keys) c.args.new.now) c.args.retain
    n.0) i.0) i.2)

pub loop-id-init : goal.loop-id-init
loop-id-init g c = (
  [],
  sym (c.into_iter-id-iterator.ensures.into_iter_gives ∙ c.iter-id-items.ensures.rest),
  rw c.new-kept.ensures.empty
      tt,
)

pub loop-id-preserved : goal.loop-id-preserved
loop-id-preserved g c =
    let i = c.loop-id.invariant in
    let x : g.row.NID.Denot × g.row.N.Denot = (c.in-Some.id.now, c.in-Some.node.now) in
    let rest : c.args.nodes.now.entries ≡ (i.0 ++ x ∷ []) ++ c.next.new.self =
    moved_on i.0 x c.next.new.self c.args.nodes.now.entries (i.1 ∙ ap (λ l. i.0 ++ l) c.in-Some.ensures.steps) in
    let p : g.row.NID.Denot × g.row.N.Denot → Bool =
    λ n. keeps_node g.NID.PartialEq.eq (map (λ s. s.keys) c.args.old.now) (map (λ s. s.keys) c.args.new.now) c.args.retain n.0 in
    (i.0 ++ x ∷ [], rest, kept_out g.N.PartialEq.eq p i.0 c.loop-id.kept.entries x c.if-is_kept.ensures i.2)

pub loop-id-preserved-in-Continue-1 : goal.loop-id-preserved-in-Continue-1
loop-id-preserved-in-Continue-1 g c =
    let i = c.loop-id.invariant in
    let x : g.row.NID.Denot × g.row.N.Denot = (c.in-Some.id.now, c.in-Some.node.now) in
    let front : c.args.nodes.now.entries ≡ i.0 ++ x ∷ c.next.new.self = i.1 ∙ ap (λ l. i.0 ++ l) c.in-Some.ensures.steps in
    let rest : c.args.nodes.now.entries ≡ (i.0 ++ x ∷ []) ++ c.next.new.self =
    moved_on i.0 x c.next.new.self c.args.nodes.now.entries front in
    let w = c.in_ok-put_copy.ensures in
    let P : List (g.row.NID.Denot × g.row.N.Denot) → Type 0 = λ es. IsStrictlySortedBy g.NID.Ord.cmp (keys_of es) in
    let p : g.row.NID.Denot × g.row.N.Denot → Bool =
    λ n. keeps_node g.NID.PartialEq.eq (map (λ s. s.keys) c.args.old.now) (map (λ s. s.keys) c.args.new.now) c.args.retain n.0 in (
      i.0 ++ x ∷ [],
      rest,
      rw w.entries (kept_in g.N.PartialEq.eq g.met.NID.Ord.total p i.0 c.next.new.self c.loop-id.kept.entries x.0 x.1
          w.copy (subst P front c.iter-id-items.ensures.ordered) c.if-is_kept.ensures (g.met.N.PartialEq.laws.symm w.copy x.1 ∙ w.equal)
          i.2),
    )
