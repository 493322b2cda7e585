use Rattle.std.proofs.Common.{◌≡◌, List, [], ◌∷◌, ◌++◌, sym, ◌∙◌, ap, append-nil, append_assoc, subst}
use Rattle.std.specs.Map.{keys_of}
use Rattle.std.specs.BTreeMap.{is_at}
use Rattle.std.specs.Iterator.Adapters.{rev_source}
use Rattle.std.specs.List.Sorted.{IsStrictlySortedBy}
use Rattle.raft_members.proofs.lemmas.membership.KeptLemmas.{same_entries, same_first, same_lookup}
use Rattle.raft_members.proofs.membership.nodes.copy_each.Goals as goal

pub loop-id-init : goal.loop-id-init
loop-id-init g c =
    let rest = ap rev_source c.into_iter-id-iterator.ensures.into_iter_gives ∙ c.rev-id-items.ensures.source ∙ c.iter.ensures.rest in
    ([], sym (append-nil (rev_source c.into_iter-id-iterator.result) ∙ rest), rw c.new-copies.ensures.empty tt)

pub loop-id-preserved : goal.loop-id-preserved
loop-id-preserved g c =
    let i = c.loop-id.invariant in
    let x : g.row.NID.Denot × g.row.N.Denot = (c.in-Some.id.now, c.in-Some.node.now) in
    let ahead : List (g.row.NID.Denot × g.row.N.Denot) = rev_source c.next.new.self in
    let front : c.args.nodes.now.entries ≡ ahead ++ x ∷ i.0 =
    i.1 ∙ ap (λ l. l ++ i.0) c.in-Some.ensures.steps ∙ append_assoc ahead (x ∷ []) i.0 in
    let P : List (g.row.NID.Denot × g.row.N.Denot) → Type 0 = λ es. IsStrictlySortedBy g.NID.Ord.cmp (keys_of es) in
    let w = c.in_ok-put_copy.ensures in (
      x ∷ i.0,
      front,
      rw w.entries (same_first g.N.PartialEq.eq g.NID.Ord.cmp ahead c.loop-id.copies.entries i.0 x.0 w.copy x.1
          (subst P front c.iter.ensures.ordered) i.2 (g.met.N.PartialEq.laws.symm w.copy x.1 ∙ w.equal)),
    )

pub returns-clause-nodes : goal.returns-clause-nodes
returns-clause-nodes g c q =
    let i = c.loop-id.invariant in
    let e : c.args.nodes.now.entries ≡ i.0 = i.1 ∙ ap (λ l. l ++ i.0) c.in-None.ensures.steps.0 in
    rw e (same_lookup g.N.PartialEq.eq (is_at (g.NID.Ord.cmp q)) c.loop-id.copies.entries i.0 i.2)

pub returns-clause-entries : goal.returns-clause-entries
returns-clause-entries g c =
    let i = c.loop-id.invariant in
    let e : c.args.nodes.now.entries ≡ i.0 = i.1 ∙ ap (λ l. l ++ i.0) c.in-None.ensures.steps.0 in
    rw e (same_entries g.met.NID.Eq.laws g.met.N.Eq.laws c.loop-id.copies.entries i.0 i.2)
