use Rattle.raft_progress.specs.entry.Probe.{after_send, limit_of}
use Rattle.raft_progress.specs.entry.Send.{can_send, send_table}
use Rattle.raft_progress.specs.tracked.Tracked.{tracked_view}
use Rattle.raft_progress.specs.declared.entry.ProgressEntryOf.{ProgressEntryOf}
use Rattle.raft_state.specs.raft_state.VoteAndLog.{log_view_of}
use Rattle.std.proofs.Common.{◌≡◌, ap, refl, ◌∙◌}
use Rattle.steps_handlers.specs.Responses.{number_after}
use Rattle.steps_handlers.proofs.lemmas.SendLemmas.{member_written, next_default, next_idle, next_kept, next_none, next_sent, next_unknown, next_written, request_sent}
use Rattle.steps_handlers.proofs.leader.Leader.next_request.Goals as goal

pub invariant_of-self : goal.invariant_of-self
invariant_of-self g c =
    next_default g.NID.PartialEq.eq
    (λ (e : ProgressEntryOf g.row.C.Denot). after_send g.C.Ord.cmp e (log_view_of c.args.state.now) c.args.max_entries)
    (tracked_view c.self.inside.followers) (tracked_view c.next_request-sending.new.self) c.args.to.now
    c.next_request-sending.result c.next_request-sending.ensures ∙ c.self.invariant

pub returns : goal.returns
returns g c =
    let eq = g.NID.PartialEq.eq in
    let cmp = g.C.Ord.cmp in
    let log = log_view_of c.args.state.now in
    let max = c.args.max_entries in
    let to = c.args.to.now in
    let me = c.self.inside in
    let table = λ (e : ProgressEntryOf g.row.C.Denot). after_send cmp e log max in
    let old = tracked_view me.followers in
    let new = tracked_view c.next_request-sending.new.self in
    let result = c.next_request-sending.result in
    let is = c.next_request-sending.ensures in
    record {
      unknown = λ none. next_unknown eq table old new to result is (rw (← c.self.view_is) at none);
      sent = λ entry next known after. next_sent eq table old new to result is entry next (rw (← c.self.view_is) at known) after;
      in_flight = λ entry next known after.
          let here = rw (← c.self.view_is) at known in
          rw (← c.self.view_is)
          (member_written g.met.NID.Eq.laws old new to entry next here (next_written eq table old new to result is entry next here after));
      numbered = rw (← c.self.view_is, c.number_after-self-inside.ensures) refl;
      from_log = λ entry next known probe after idle logged.
          let limit = limit_of entry max in
          let is = request_sent (can_send entry log) (send_table cmp entry log limit) next after in
          c.sends_from_log.ensures log entry next limit logged idle is.0 is.1;
      heartbeat = λ entry known after. next_idle eq table old new to result is entry (rw (← c.self.view_is) at known) after;
      unchanged = λ none.
          let kept = next_none eq table old new to result is none in
          let same : c.number_after-self-inside.result ≡ me.last_request =
          c.number_after-self-inside.ensures ∙ ap (number_after me.last_request) none in
          rw (← c.self.view_is) (λ i. record {
            id = me.id;
            leader_id = me.leader_id;
            followers = kept i;
            members_at = me.members_at;
            last_request = same i;
          });
      unchanged_by_heartbeat = λ entry known after.
          let here = rw (← c.self.view_is) at known in
          let kept = next_kept eq table old new to result is entry here after in
          let idle = next_idle eq table old new to result is entry here after in
          let same : c.number_after-self-inside.result ≡ me.last_request =
          c.number_after-self-inside.ensures ∙ ap (number_after me.last_request) idle in
          rw (← c.self.view_is) (λ i. record {
            id = me.id;
            leader_id = me.leader_id;
            followers = kept i;
            members_at = me.members_at;
            last_request = same i;
          });
    }
