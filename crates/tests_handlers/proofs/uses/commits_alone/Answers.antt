use Rattle.std.specs.Cmp.{nat_cmp_total, nat_eq_equiv, on_total, unsigned_ties}
use Rattle.std.specs.Ordering.{is_eq}
use Rattle.std.proofs.Common.{ap, ◌∙◌}
use Rattle.raft_base.specs.declared.leader_id_std.CommittedLeaderId.{CommittedLeaderId}
use Rattle.tests_handlers.proofs.lemmas.AloneLemmas.{alone_commits}
use Rattle.tests_handlers.proofs.uses.commits_alone.Goals as goal

pub returns : goal.returns
returns c = record {
  alone = λ configs.
      alone_commits nat_eq_equiv _ (on_total (λ (a : CommittedLeaderId). a.term) nat_cmp_total)
      (λ x y tie. unsigned_ties x.term y.term ∙ ap is_eq tie) _ _ _ _ _ _ _ _ _ _ _ _ c.in_ok-leader.ensures.begins configs
      c.in_ok-handle_flushed.ensures.counted (ap (λ e. e.log_id.leader_id) c.in_ok-entry.ensures.appended.is_next)
      c.in_ok-commit.ensures.committed;
}
