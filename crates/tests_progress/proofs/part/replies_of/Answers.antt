use Rattle.std.proofs.Common.{◌≡◌, Some, None, ap, refl, ◌∙◌, ℕ}
use Rattle.raft_base.specs.declared.leader_id_std.CommittedLeaderId.{CommittedLeaderId}
use Rattle.raft_base.specs.declared.log_id.LogIdOf.{LogIdOf}
use Rattle.tests_progress.proofs.part.replies_of.Goals as goal

-- log ids of one leader and one index are the same
same_log_id : (v w : LogIdOf CommittedLeaderId) → w.leader_id ≡ v.leader_id → w.index ≡ v.index → w ≡ v
same_log_id v w e f =
    let id : CommittedLeaderId → ℕ → LogIdOf CommittedLeaderId = λ l i. record { leader_id = l; index = i } in
    ap (λ (l : CommittedLeaderId). id l w.index) e ∙ ap (λ (i : ℕ). id v.leader_id i) f

pub replay_any-requires-clause-clones_have_the_part : goal.replay_any-requires-clause-clones_have_the_part
replay_any-requires-clause-clones_have_the_part g c None None h = refl
replay_any-requires-clause-clones_have_the_part g c None (Some w) h = absurd h
replay_any-requires-clause-clones_have_the_part g c (Some v) None h = absurd h
replay_any-requires-clause-clones_have_the_part g c (Some v) (Some w) h = ap Some (same_log_id v w h.0 h.1)
