use Rattle.std.proofs.Common.{◌≡◌, map, not, length}
use Rattle.std.specs.List.{filter}
use Rattle.raft_members.specs.quorum.Majority.{is_voter_of}
use Rattle.raft_members.proofs.membership.learner_ids.LearnerIdsIterator.next.Given as goal

abbrev pub invariant-loop-id : goal.invariant-loop-id
invariant-loop-id g l = (l.self.configs ≡ l.fn.self.configs)
    × (filter (λ k. not (is_voter_of g.NID.PartialEq.eq (map (λ c. c.keys) l.fn.self.configs.now) k)) l.self.nodes
    ≡ filter (λ k. not (is_voter_of g.NID.PartialEq.eq (map (λ c. c.keys) l.fn.self.configs.now) k)) l.fn.self.nodes)

abbrev pub decreases-loop-id : goal.decreases-loop-id
decreases-loop-id g l = length l.self.nodes
