use Rattle.std.proofs.Common.{cond, None, sym, ◌∙◌, ap}
use Rattle.std.specs.List.{list_any}
use Rattle.std.specs.BTreeMap.{get, is_at}
use Rattle.raft_members.proofs.lemmas.membership.AddedLemmas.{remove_next}
use Rattle.raft_members.proofs.membership.nodes.remove_all.Goals as goal

pub returns : goal.returns
returns g c q =
    sym (ap (λ ks. cond (list_any (is_at (g.NID.Ord.cmp q)) ks) None (get g.NID.Ord.cmp c.loop-id.nodes q)) c.in-None.ensures.steps.0)
    ∙ c.loop-id.invariant q

pub loop-id-init : goal.loop-id-init
loop-id-init g c q =
    ap (λ ks. cond (list_any (is_at (g.NID.Ord.cmp q)) ks) None (get g.NID.Ord.cmp c.args.nodes.now q))
    (c.into_iter-id-iterator.ensures.into_iter_gives ∙ c.iter-id-items.ensures.rest)

pub loop-id-preserved-in-Some : goal.loop-id-preserved-in-Some
loop-id-preserved-in-Some g c q =
    remove_next g.met.NID.Ord.total c.loop-id.nodes.entries c.remove-gone.new.self.entries c.in-Some.id.now c.next.new.self
    c.remove-gone.ensures.updates.0 q
    ∙ sym (ap (λ ks. cond (list_any (is_at (g.NID.Ord.cmp q)) ks) None (get g.NID.Ord.cmp c.loop-id.nodes q)) c.in-Some.ensures.steps)
    ∙ c.loop-id.invariant q

pub loop-id-preserved : goal.loop-id-preserved
loop-id-preserved g c q =
    remove_next g.met.NID.Ord.total c.loop-id.nodes.entries c.remove-gone.new.self.entries c.in-Some.id.now c.next.new.self
    c.remove-gone.ensures.updates.0 q
    ∙ sym (ap (λ ks. cond (list_any (is_at (g.NID.Ord.cmp q)) ks) None (get g.NID.Ord.cmp c.loop-id.nodes q)) c.in-Some.ensures.steps)
    ∙ c.loop-id.invariant q
