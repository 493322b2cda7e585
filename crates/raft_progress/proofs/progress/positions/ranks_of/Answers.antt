use Rattle.std.proofs.Common.{arith, sym, ap, ◌∙◌, ◌≡◌, get_or, set, length}
use Rattle.std.specs.Map.{values_of}
use Rattle.std.proofs.lemmas.List.{length-map, length-set}
use Rattle.raft_progress.proofs.lemmas.progress.positions.MadeLemmas.{position_at, position_below, ranks_more, ranks_all}
use Rattle.raft_progress.proofs.progress.positions.ranks_of.Goals as goal

pub index_mut-requires : goal.index_mut-requires
index_mut-requires g c =
    let es = c.args.sorted.now in
    let b = position_below (values_of es) c.requires c.loop-rank-2.rank (omega (arith, length-map es (λ e. e.1))) in
    let e = position_at es c.loop-rank-2.rank c.index-sorted-rank.result 0 c.loop-rank-2-test.true in
    omega (arith, c.loop-rank-2.ranks.ok.0, c.loop-rank-2.invariant.one_length, length-map es (λ e. e.1))

pub loop-rank-2-preserved : goal.loop-rank-2-preserved
loop-rank-2-preserved g c =
    let es = c.args.sorted.now in
    let rank = c.loop-rank-2.rank in
    let R = c.loop-rank-2.ranks.items in
    let n = length-map es (λ e. e.1) in
    let e = position_at es rank c.index-sorted-rank.result 0 c.loop-rank-2-test.true in
    let w : length R ≡ length (values_of es) = c.loop-rank-2.invariant.one_length ∙ sym n in
    record {
      one_length = length-set R _ rank ∙ c.loop-rank-2.invariant.one_length;
      written = λ r l. ap (λ p. get_or (set R p rank) (get_or (values_of es) r 0) 0) e
          ∙ ranks_more (values_of es) c.requires R rank w (omega arith) c.loop-rank-2.invariant.written r l;
    }

pub returns : goal.returns
returns g c =
    let es = c.args.sorted.now in
    let n = length-map es (λ e. e.1) in
    ranks_all (values_of es) c.requires c.loop-rank-2.ranks.items (c.loop-rank-2.invariant.one_length ∙ sym n)
    (λ r l. c.loop-rank-2.invariant.written r (omega arith))
