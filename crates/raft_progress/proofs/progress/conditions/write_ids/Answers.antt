use Rattle.std.proofs.Common.{arith, sym, ap, ◌∙◌, ◌++◌, ◌∷◌, [], get_or, take}
use Rattle.std.specs.Map.{keys_of}
use Rattle.std.proofs.lemmas.List.{length-set, take_all, take_more, take_more_set}
use Rattle.std.proofs.lemmas.Map.Entries.{length-keys_of}
use Rattle.raft_progress.proofs.lemmas.progress.positions.LookupLemmas.{key_at}
use Rattle.raft_progress.proofs.progress.conditions.write_ids.Goals as goal

pub loop-position-preserved : goal.loop-position-preserved
loop-position-preserved g c =
    let voters = c.args.voters.now in
    let position = c.loop-position.position in
    let id = (get_or voters position c.index-voters-position.result).0 in
    let is = key_at voters position c.index-voters-position.result id c.loop-position-test.true in
    record {
      written = take_more_set c.loop-position.scratch position id (omega arith)
          ∙ ap (λ xs. xs ++ id ∷ []) c.loop-position.invariant.written
          ∙ ap (λ k. take position (keys_of voters) ++ k ∷ []) is
          ∙ sym (take_more (keys_of voters) position id (rw (length-keys_of voters) c.loop-position-test.true));
      one_length = length-set c.loop-position.scratch position id ∙ c.loop-position.invariant.one_length;
    }

pub returns : goal.returns
returns g c =
    let n = length-keys_of c.args.voters.now in
    sym (take_all c.loop-position.position c.loop-position.scratch (omega arith)) ∙ c.loop-position.invariant.written
    ∙ take_all c.loop-position.position (keys_of c.args.voters.now) (omega arith)
