use Rattle.std.proofs.Common.{◌≡◌, map, take}
use Rattle.raft_members.proofs.membership.configs.lists_of.Given as goal

abbrev pub invariant-loop-config : goal.invariant-loop-config
invariant-loop-config g l = map (λ c. c.items) l.lists.items ≡ map (λ c. c.keys) (take l.config-index l.configs)
