use Rattle.std.specs.Cmp.{then_total, on_total, nat_cmp_total}
use Rattle.raft_base.proofs.order.compare_standard_log_ids.Goals as goal

pub returns-clause-total : goal.returns-clause-total
returns-clause-total c = then_total (on_total (λ k. k.leader_id.term) nat_cmp_total) (on_total (λ k. k.index) nat_cmp_total)
