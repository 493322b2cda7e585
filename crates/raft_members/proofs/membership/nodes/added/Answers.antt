use Rattle.std.proofs.Common.{List, ◌∷◌, Option, IsTrue, sym, ◌∙◌, ap, subst, inl, inr, true≢false}
use Rattle.std.specs.Map.{lookup}
use Rattle.std.specs.BTreeMap.{get, is_at}
use Rattle.std.specs.Option.{option_eq, option_or}
use Rattle.raft_members.proofs.lemmas.membership.AddedLemmas.{option_alike, option_trans, or_none, add_there, add_new, either_has, has_still}
use Rattle.raft_members.proofs.membership.nodes.added.Goals as goal

pub returns-clause-nodes : goal.returns-clause-nodes
returns-clause-nodes g c q =
    let goal_node : Option g.row.N.Denot = option_or (get g.NID.Ord.cmp c.args.nodes q) (get g.NID.Ord.cmp c.args.more.now q) in
    subst (λ (v : Option g.row.N.Denot). IsTrue (option_eq g.N.PartialEq.eq v goal_node))
    (ap (λ es. option_or (get g.NID.Ord.cmp c.loop-id.added q) (lookup (is_at (g.NID.Ord.cmp q)) es)) c.in-None.ensures.steps.0
    ∙ or_none (get g.NID.Ord.cmp c.loop-id.added q)) (c.loop-id.invariant.nodes q)

pub loop-id-init : goal.loop-id-init
loop-id-init g c = record {
  nodes = λ q.
      let goal_node : Option g.row.N.Denot = option_or (get g.NID.Ord.cmp c.args.nodes q) (get g.NID.Ord.cmp c.args.more.now q) in
      subst (λ (es : List (g.row.NID.Denot × g.row.N.Denot)). IsTrue
      (option_eq g.N.PartialEq.eq (option_or (get g.NID.Ord.cmp c.args.nodes q) (lookup (is_at (g.NID.Ord.cmp q)) es)) goal_node))
      (sym (c.into_iter-id-iterator.ensures.into_iter_gives ∙ c.iter-id-items.ensures.rest)) (option_alike g.met.N.Eq.laws goal_node);
  kept = λ q h. h;
}

pub loop-id-preserved : goal.loop-id-preserved
loop-id-preserved g c = record {
  nodes = λ q.
      let goal_node : Option g.row.N.Denot = option_or (get g.NID.Ord.cmp c.args.nodes q) (get g.NID.Ord.cmp c.args.more.now q) in
      let x : g.row.NID.Denot × g.row.N.Denot = (c.in-Some.id.now, c.in-Some.node.now) in
      subst (λ (v : Option g.row.N.Denot). IsTrue (option_eq g.N.PartialEq.eq v goal_node))
      (ap (λ es. option_or (get g.NID.Ord.cmp c.loop-id.added q) (lookup (is_at (g.NID.Ord.cmp q)) es)) c.in-Some.ensures.steps
      ∙ add_there g.met.NID.Ord.total c.loop-id.added.entries c.next.new.self x (sym c.contains_key.ensures ∙ c.if-not-contains_key.false)
      q)
      (c.loop-id.invariant.nodes q);
  kept = c.loop-id.invariant.kept;
}

pub loop-id-preserved-in-Continue-1 : goal.loop-id-preserved-in-Continue-1
loop-id-preserved-in-Continue-1 g c = record {
  nodes = λ q.
      let goal_node : Option g.row.N.Denot = option_or (get g.NID.Ord.cmp c.args.nodes q) (get g.NID.Ord.cmp c.args.more.now q) in
      let x : g.row.NID.Denot × g.row.N.Denot = (c.in-Some.id.now, c.in-Some.node.now) in
      let p = c.in_ok-put_copy.ensures in
      option_trans g.met.N.Eq.laws
      (option_or (get g.NID.Ord.cmp c.put_copy.new.kept q) (lookup (is_at (g.NID.Ord.cmp q)) c.next.new.self))
      (option_or (get g.NID.Ord.cmp c.loop-id.added q) (lookup (is_at (g.NID.Ord.cmp q)) (x ∷ c.next.new.self)))
      goal_node
      (add_new g.met.NID.Ord.total g.met.N.Eq.laws c.loop-id.added.entries c.put_copy.new.kept.entries c.next.new.self x p.copy
      (g.met.N.PartialEq.laws.symm p.copy x.1 ∙ p.equal) (sym c.contains_key.ensures ∙ c.if-not-contains_key.true) p.nodes q)
      (subst (λ (es : List (g.row.NID.Denot × g.row.N.Denot)). IsTrue
      (option_eq g.N.PartialEq.eq (option_or (get g.NID.Ord.cmp c.loop-id.added q) (lookup (is_at (g.NID.Ord.cmp q)) es))
      goal_node)) c.in-Some.ensures.steps (c.loop-id.invariant.nodes q));
  kept = λ q h. has_still g.met.NID.Ord.total c.loop-id.added.entries c.put_copy.new.kept.entries c.in-Some.id.now q
      c.in_ok-put_copy.ensures.copy (c.in_ok-put_copy.ensures.nodes q) (c.loop-id.invariant.kept q h);
}

pub returns-in_err-put_copy-clause-no_memory : goal.returns-in_err-put_copy-clause-no_memory
returns-in_err-put_copy-clause-no_memory g c = λ adds_none.
    let x : g.row.NID.Denot × g.row.N.Denot = (c.in-Some.id.now, c.in-Some.node.now) in
    let gone = sym c.contains_key.ensures ∙ c.if-not-contains_key.true in
    let goal_node : Option g.row.N.Denot = option_or (get g.NID.Ord.cmp c.args.nodes x.0) (get g.NID.Ord.cmp c.args.more.now x.0) in
    let to_come = subst (λ (es : List (g.row.NID.Denot × g.row.N.Denot)). IsTrue
    (option_eq g.N.PartialEq.eq (option_or (get g.NID.Ord.cmp c.loop-id.added x.0) (lookup (is_at (g.NID.Ord.cmp x.0)) es))
    goal_node)) c.in-Some.ensures.steps (c.loop-id.invariant.nodes x.0) in
    absurd (true≢false (sym (elim (either_has g.met.NID.Ord.total g.N.PartialEq.eq c.loop-id.added.entries c.args.nodes.entries
    c.args.more.now.entries x c.next.new.self gone to_come) [
      | inl had ↦ c.loop-id.invariant.kept x.0 had
      | inr new ↦ c.loop-id.invariant.kept x.0 (adds_none x.0 new)
    ]) ∙ gone))
