use Rattle.std.proofs.Common.{◌≡◌, ◌++◌, List, map}
use Rattle.std.specs.List.{filter}
use Rattle.raft_members.proofs.lemmas.membership.KeptLemmas.{SameEntries}
use Rattle.raft_members.specs.membership.Change.{keeps_node}
use Rattle.raft_members.proofs.membership.nodes.kept.Given as goal

abbrev pub invariant-loop-id : goal.invariant-loop-id
invariant-loop-id g l = (xs : List (g.row.NID.Denot × g.row.N.Denot)) × (l.nodes.entries ≡ xs ++ l.id-iterator)
    × SameEntries g.N.PartialEq.eq l.kept.entries
    (filter (λ e. keeps_node g.NID.PartialEq.eq (map (λ s. s.keys) l.old) (map (λ s. s.keys) l.new) l.retain e.0) xs)
