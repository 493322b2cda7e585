use Rattle.steps_handlers.specs.Compared.{LeaderMembers}
use Rattle.raft_progress.specs.progress.Comparisons.{OrdMembers}
use Rattle.steps_safety.proofs.FirstLemmas.{started_server}
use Rattle.steps_safety.specs.Running.{IsNewServer}
use Rattle.steps_safety.proofs.first.starts.Goals as goal

pub returns : goal.returns
returns g c =
    let logs : OrdMembers _ = record {
      partial_cmp = g.L.Committed.PartialOrd.partial_cmp;
      eq = g.L.Committed.PartialEq.eq;
      cmp = g.L.Committed.Ord.cmp;
    } in
    let kind : LeaderMembers _ _ _ = record {
      is_default = g.L.Default.is_default;
      eq = g.L.PartialEq.eq;
      order = g.L.LeaderIdentity.order;
      term_of = g.L.LeaderIdentity.term_of;
      voted = g.L.LeaderIdentity.voted;
      committed = g.L.LeaderIdentity.committed;
      leader_of = g.L.LeaderIdentity.leader_of;
      committed_of = g.L.LeaderIdentity.committed_of;
      same_as = g.L.LeaderIdentity.same_as;
    } in
    let is : IsNewServer kind logs c.args.membership.configs g.start c.args.state.now = assumption (c.requires) in
    let call = c.start_cluster-entries.ensures in
    record {
      new = started_server kind logs c.args.membership.configs g.start c.args.state.now c.start_cluster-entries.new.state is call.sound
          (rw c.key_log_ids-after.ensures.keys at c.key_log_ids-after.ensures.canonical) call.rest _ c.start_cluster-entries.result
          call.starts (λ x starts. starts.log)
          (λ x starts. (starts.effective.0, (starts.effective.1).0, (starts.effective.1).2, starts.effective.2)) call.err;
      call = c.start_cluster-entries.ensures.starts;
      decides = c.start_cluster-entries.ensures.decides;
    }
