use Rattle.std.specs.Prelude.{◌≡◌, Bool, true, false, not, length, refl}
use Rattle.std.proofs.Common.{sym, ◌∙◌, ap}
use Rattle.std.specs.Map.{keys_of}
use Rattle.std.specs.Iterator.Adapters.{rev_source}
use Rattle.raft_members.proofs.lemmas.membership.KeptLemmas.{agree_all, agree_first, agree_next}
use Rattle.raft_members.proofs.membership.nodes.have_equal_ids.Goals as goal

holds : (b : Bool) → false ≡ not b → b ≡ true
holds true e = refl
holds false e = e

pub loop-id-init : goal.loop-id-init
loop-id-init g c =
    let ids = ap rev_source c.into_iter-id-iterator.ensures.into_iter_gives ∙ c.rev-id-items.ensures.source ∙ c.keys-2.ensures.rest in
    let others = c.rev-rest.ensures.source ∙ c.keys.ensures.rest in
    agree_first g.NID.PartialEq.eq (keys_of c.args.nodes.now.entries) (keys_of c.args.clones.now.entries)
    (rev_source c.into_iter-id-iterator.result) (rev_source c.rev-rest.result) (sym ids) (sym others)

pub loop-id-preserved : goal.loop-id-preserved
loop-id-preserved g c =
    agree_next g.NID.PartialEq.eq (keys_of c.args.nodes.now.entries) (keys_of c.args.clones.now.entries)
    (rev_source c.loop-id.id-iterator) (rev_source c.loop-id.rest) (rev_source c.next.new.self) (rev_source c.next-in-loop-id.new.self)
    c.in-Some.id.now c.in-Some-next.other.now c.loop-id.invariant c.in-Some.ensures.steps c.in-Some-next.ensures.steps
    (holds (g.NID.PartialEq.eq c.in-Some.id.now c.in-Some-next.other.now) c.if-ne.ensures)

pub returns : goal.returns
returns g c _ =
    agree_all g.NID.PartialEq.eq (keys_of c.args.nodes.now.entries) (keys_of c.args.clones.now.entries)
    (rev_source c.loop-id.id-iterator) (rev_source c.loop-id.rest) c.loop-id.invariant c.in-None.ensures.steps.0
    (ap length (sym c.keys-2.ensures.rest) ∙ c.keys-2.ensures.len ∙ sym c.len.ensures.len ∙ c.if-len.false ∙ c.len-2.ensures.len
    ∙ sym c.keys.ensures.len ∙ ap length c.keys.ensures.rest)
