use Rattle.std.proofs.Common.{◌≡◌, map, take}
use Rattle.raft_members.proofs.membership.configs.copy.Given as goal

abbrev pub invariant-loop-config : goal.invariant-loop-config
invariant-loop-config g l = map (λ c. c.keys) l.copies.items ≡ map (λ c. c.keys) (take l.config-index l.configs)
