use Rattle.steps_handlers.specs.Written.{nothing_installed}
use Rattle.steps_handlers.specs.Compared.{LeaderMembers}
use Rattle.raft_progress.specs.progress.Comparisons.{OrdMembers}
use Rattle.steps_safety.proofs.CalledLemmas.{Keeps, install_steps}
use Rattle.steps_safety.proofs.step.answers_snapshot.Goals as goal

pub returns : goal.returns
returns g c =
    let ids : OrdMembers _ = record {
      partial_cmp = g.NID.PartialOrd.partial_cmp;
      eq = g.NID.PartialEq.eq;
      cmp = g.NID.Ord.cmp;
    } in
    let logs : OrdMembers _ = record {
      partial_cmp = g.L.Committed.PartialOrd.partial_cmp;
      eq = g.L.Committed.PartialEq.eq;
      cmp = g.L.Committed.Ord.cmp;
    } in
    let kind : LeaderMembers _ _ _ = record {
      is_default = g.L.Default.is_default;
      eq = g.L.PartialEq.eq;
      order = g.L.LeaderIdentity.order;
      term_of = g.L.LeaderIdentity.term_of;
      voted = g.L.LeaderIdentity.voted;
      committed = g.L.LeaderIdentity.committed;
      leader_of = g.L.LeaderIdentity.leader_of;
      committed_of = g.L.LeaderIdentity.committed_of;
      same_as = g.L.LeaderIdentity.same_as;
    } in
    let keeps : Keeps logs c.args.state.now c.handle_install_snapshot-made.new.state = record {
      sound = c.handle_install_snapshot-made.ensures.sound;
      keys = rw c.key_log_ids-after.ensures.keys at c.key_log_ids-after.ensures.canonical;
    } in
    let call = c.handle_install_snapshot-made.ensures in
    record {
      step = install_steps _ _ ids g.N.PartialEq.eq kind logs nothing_installed c.args.request.now c.args.state.now
          c.handle_install_snapshot-made.new.state keeps
          c.handle_install_snapshot-made.result call.not_followed call.followed call.answers call.refused;
      call = c.handle_install_snapshot-made.ensures.answers;
    }
