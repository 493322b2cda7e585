use Rattle.raft_members.proofs.lemmas.membership.MappedLemmas.{map_pushed}
use Rattle.raft_members.proofs.membership.configs.copy.Goals as goal

pub loop-config-preserved : goal.loop-config-preserved
loop-config-preserved g c =
    rw c.in_ok-push.ensures.items (map_pushed (λ s. s.keys) (λ s. s.keys) c.args.configs.now c.loop-config.copies.items
    c.loop-config.config-index c.config-item.result c.in_ok-copy.field-0 c.loop-config-test.true c.config-item.is
    c.loop-config.invariant c.in_ok-copy.ensures)
