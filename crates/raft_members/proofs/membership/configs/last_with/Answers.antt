use Rattle.std.proofs.Common.{sym, ap}
use Rattle.raft_members.specs.membership.Change.{union_of}
use Rattle.raft_members.proofs.lemmas.membership.MappedLemmas.{last_config-some, last_config-none}
use Rattle.raft_members.proofs.membership.configs.last_with.Goals as goal

pub returns-in-None : goal.returns-in-None
returns-in-None g c = ap (λ l. union_of g.ID.Ord.cmp l c.args.ids.keys)
    (sym (last_config-none (λ s. s.keys) c.args.configs.now c.in-None.ensures.value))

pub returns-in-Some : goal.returns-in-Some
returns-in-Some g c = rw (last_config-some (λ s. s.keys) c.args.configs.now c.in-Some.last.now c.in-Some.ensures.value) c.union.ensures
