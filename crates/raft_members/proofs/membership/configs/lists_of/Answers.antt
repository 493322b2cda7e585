use Rattle.raft_members.proofs.lemmas.membership.MappedLemmas.{map_pushed}
use Rattle.raft_members.proofs.membership.configs.lists_of.Goals as goal

pub loop-config-preserved : goal.loop-config-preserved
loop-config-preserved g c =
    rw c.in_ok-push.ensures.items (map_pushed (λ s. s.keys) (λ v. v.items) c.args.configs.now c.loop-config.lists.items
    c.loop-config.config-index c.config-item.result c.in_ok-list_of.field-0 c.loop-config-test.true c.config-item.is
    c.loop-config.invariant c.in_ok-list_of.ensures)
