use Rattle.std.proofs.Common.{rules}
use Rattle.raft_members.proofs.lemmas.quorum.AtLeastLemmas.{ascending_count, same_quorums}
use Rattle.raft_members.proofs.quorum.at_least.AtLeast.new.Goals as goal

pub returns-clause-count : goal.returns-clause-count
returns-clause-count g c = search (rules, ascending_count)

pub returns-clause-quorums : goal.returns-clause-quorums
returns-clause-quorums g c = λ set respects. search (rules, same_quorums)
