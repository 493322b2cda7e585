use Rattle.std.proofs.Common.{◌≡◌, ◌++◌, List}
use Rattle.std.specs.Iterator.Adapters.{rev_source}
use Rattle.raft_members.proofs.lemmas.membership.KeptLemmas.{SameEntries}
use Rattle.raft_members.proofs.membership.nodes.copy_each.Given as goal

abbrev pub invariant-loop-id : goal.invariant-loop-id
invariant-loop-id g l = (xs : List (g.row.NID.Denot × g.row.N.Denot)) × (l.nodes.entries ≡ rev_source l.id-iterator ++ xs)
    × SameEntries g.N.PartialEq.eq l.copies.entries xs
