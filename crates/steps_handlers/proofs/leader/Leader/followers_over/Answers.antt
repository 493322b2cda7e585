use Rattle.std.proofs.Common.{ap, ◌∙◌}
use Rattle.raft_progress.specs.declared.entry.ProgressEntryOf.{ProgressEntryOf}
use Rattle.raft_progress.specs.tracked.Tracked.{tracked_view}
use Rattle.steps_handlers.proofs.lemmas.ChangeLemmas.{begins_part, begins_value, keeps_value}
use Rattle.steps_handlers.proofs.leader.Leader.followers_over.Goals as goal

pub returns-in-Granted-clause-default : goal.returns-in-Granted-clause-default
returns-in-Granted-clause-default g c =
    begins_part g.NID.PartialEq.eq _ _ _ _ (λ v w is. is) (tracked_view c.self.inside.followers) (tracked_view c.in_ok-followers.followers)
    (tracked_view c.change_to.new.self) c.args.members c.with_curr_inflight_id-unknown.result _ c.in-Granted.ensures.step
    c.in_ok-followers.ensures.progress
    ∙ ap (λ (e : ProgressEntryOf g.row.C.Denot). e.matching) c.with_curr_inflight_id-unknown.ensures
    ∙ ap (λ (e : ProgressEntryOf g.row.C.Denot). e.matching) c.empty-unknown.ensures

pub returns-in-Granted-clause-kept : goal.returns-in-Granted-clause-kept
returns-in-Granted-clause-kept g c =
    let old = tracked_view c.self.inside.followers in
    let clone = tracked_view c.in_ok-followers.followers in
    let new = tracked_view c.change_to.new.self in
    let eq = g.NID.PartialEq.eq in
    let unknown = c.with_curr_inflight_id-unknown.result in
    rw (← c.self.view_is) (record {
      kept = keeps_value eq _ _ _ _ (λ v w is. is) old clone new c.args.members unknown _ c.in-Granted.ensures.step
          c.in_ok-followers.ensures.progress;
      added = λ id entry none some.
          begins_value eq _ _ _ _ (λ v w is. is) old clone new c.args.members unknown _ c.in-Granted.ensures.step
          c.in_ok-followers.ensures.progress id entry none some
          ∙ c.with_curr_inflight_id-unknown.ensures
          ∙ ap (λ (e : ProgressEntryOf g.row.C.Denot). record e { curr_inflight_id = c.args.number })
          c.empty-unknown.ensures;
    })
