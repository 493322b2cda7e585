use Rattle.std.proofs.Common.{Bool, ◌||◌, true, false, length, sym, ◌∙◌, ap, ◌/◌, get_or}
use Rattle.std.specs.List.{list_any}
use Rattle.std.proofs.lemmas.List.{take_all}
use Rattle.std.proofs.lemmas.List.Folds.{list_any_at, list_any_more}
use Rattle.raft_members.proofs.lemmas.quorum.ChunkLemmas.{list_any-from_chunks}
use Rattle.raft_members.proofs.quorum.quorum_set_impl.has.Goals as goal

pub returns-then-chunk_has : goal.returns-then-chunk_has
returns-then-chunk_has g c =
    let p : g.row.ID.Denot → Bool = λ y. g.ID.PartialEq.eq y c.args.id in
    list_any-from_chunks p 8 (length c.args.voters.now / 8) c.args.voters.now c.as_chunks.result.0.now c.as_chunks.result.1.now true
    c.as_chunks.ensures.front c.as_chunks.ensures.back
    (list_any_at (list_any p) c.as_chunks.result.0.now c.loop-chunk.chunk-index c.chunk-item.result c.loop-chunk-test.true
    (ap (list_any p) (sym c.chunk-item.is) ∙ sym c.chunk_has.ensures ∙ c.if-chunk_has.true))

pub loop-chunk-preserved : goal.loop-chunk-preserved
loop-chunk-preserved g c =
    let p : g.row.ID.Denot → Bool = λ y. g.ID.PartialEq.eq y c.args.id in
    list_any_more (list_any p) c.as_chunks.result.0.now c.loop-chunk.chunk-index c.chunk-item.result c.loop-chunk-test.true
    ∙ ap (λ b. b || list_any p (get_or c.as_chunks.result.0.now c.loop-chunk.chunk-index c.chunk-item.result)) c.loop-chunk.invariant
    ∙ ap (list_any p) (sym c.chunk-item.is) ∙ sym c.chunk_has.ensures ∙ c.if-chunk_has.false

pub returns : goal.returns
returns g c =
    let p : g.row.ID.Denot → Bool = λ y. g.ID.PartialEq.eq y c.args.id in
    c.has_singly-2.ensures
    ∙ list_any-from_chunks p 8 (length c.args.voters.now / 8) c.args.voters.now c.as_chunks.result.0.now c.as_chunks.result.1.now false
    c.as_chunks.ensures.front c.as_chunks.ensures.back
    (ap (list_any (list_any p)) (sym (take_all c.loop-chunk.chunk-index c.as_chunks.result.0.now c.loop-chunk-test.false))
    ∙ c.loop-chunk.invariant)
