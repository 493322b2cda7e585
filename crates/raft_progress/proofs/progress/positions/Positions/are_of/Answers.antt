use Rattle.std.proofs.Common.{arith}
use Rattle.std.specs.Map.{keys_of}
use Rattle.std.proofs.lemmas.Map.Entries.{length-keys_of}
use Rattle.raft_progress.proofs.lemmas.progress.positions.LookupLemmas.{distinct_ascending}
use Rattle.raft_progress.proofs.lemmas.progress.positions.PositionsLemmas.{distinct_if_found}
use Rattle.raft_progress.proofs.progress.positions.Positions.are_of.Goals as goal

pub returns : goal.returns
returns g c = λ t.
    let n = length-keys_of c.args.entries.now in
    distinct_if_found g.met.ID.Eq.laws c.args.self.now.sorted.items c.args.self.now.ranks.items c.args.self.now.inverse
    (distinct_ascending g.met.ID.Eq.laws g.met.ID.Ord.total g.met.ID.Ord.matches_eq (keys_of c.args.self.now.sorted.items)
    c.args.self.now.ascending)
    (keys_of c.args.entries.now) (omega arith) (λ p d e l. c.loop-position.invariant p d e (omega arith))
