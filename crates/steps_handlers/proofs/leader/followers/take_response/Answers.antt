use Rattle.std.proofs.Common.{◌≡◌, ◌∙◌, Some, ap, refl}
use Rattle.std.specs.Option.{option_cmp}
use Rattle.raft_base.specs.LogId.{log_id_cmp}
use Rattle.raft_progress.specs.entry.EntryTable.{entry_after_ack}
use Rattle.raft_progress.specs.tracked.Followers.{member_value}
use Rattle.raft_progress.specs.tracked.SingleSteps.{IsTrackedUpdate}
use Rattle.raft_progress.specs.tracked.Tracked.{tracked_view}
use Rattle.raft_progress.specs.declared.entry.ProgressEntryOf.{ProgressEntryOf}
use Rattle.raft_progress.specs.declared.progress.steps.Reply.TheVariants.{Granted}
use Rattle.steps_handlers.specs.Leadership.{WritesMember}
use Rattle.steps_handlers.specs.Responses.{after_conflict, after_outcome, after_response, as_refused}
use Rattle.steps_handlers.specs.declared.error.ResponseError.TheVariants.{HigherVote}
use Rattle.steps_handlers.proofs.lemmas.FollowerLemmas.{id_le-refl}
use Rattle.steps_handlers.proofs.lemmas.SendLemmas.{ack_default, ack_rises, refused_response, refuses_known, vote_table}
use Rattle.steps_handlers.proofs.leader.followers.take_response.Goals as goal

pub returns-in-Matches-clause-step : goal.returns-in-Matches-clause-step
returns-in-Matches-clause-step g c =
    let eq = g.NID.PartialEq.eq in
    let cmp = g.C.Ord.cmp in
    let old = tracked_view c.args.followers.now in
    let new = tracked_view c.acknowledge.new.self in
    let from = c.args.from.now in
    let number = c.in-InFlight.number in
    let upto = c.in-Matches.upto in
    let table : (entry : ProgressEntryOf g.row.C.Denot) → after_response cmp entry c.args.response.now
    ≡ as_refused (entry_after_ack cmp entry number upto) = λ entry. rw (c.in-InFlight.is, c.in-Matches.is) refl in
    rw c.refuse.ensures (refused_response (member_value eq old from) (λ entry. entry_after_ack cmp entry number upto)
    (λ entry. after_response cmp entry c.args.response.now)
    (λ next. IsTrackedUpdate eq (option_cmp (log_id_cmp cmp)) (λ (e : ProgressEntryOf g.row.C.Denot). e.matching) old from next
    (Granted new.progress.granted) new) (λ next. WritesMember eq old from next new) old new (λ entry _. table entry)
    (λ entry next known u. record { entries = u.values.3.value; members = u.membership })
    c.acknowledge.result c.acknowledge.ensures)

pub returns-in-Matches-clause-default : goal.returns-in-Matches-clause-default
returns-in-Matches-clause-default g c =
    ack_default g.NID.PartialEq.eq g.met.C.Ord.total (tracked_view c.args.followers.now) (tracked_view c.acknowledge.new.self)
    c.args.from.now c.in-InFlight.number c.in-Matches.upto c.acknowledge.result c.acknowledge.ensures

pub returns-in-Matches-clause-monotone : goal.returns-in-Matches-clause-monotone
returns-in-Matches-clause-monotone g c =
    ack_rises g.NID.PartialEq.eq g.met.C.Ord.total (tracked_view c.args.followers.now) (tracked_view c.acknowledge.new.self) c.args.from.now
    c.in-InFlight.number c.in-Matches.upto c.acknowledge.result c.acknowledge.ensures

pub returns-in-Heartbeat-clause-step : goal.returns-in-Heartbeat-clause-step
returns-in-Heartbeat-clause-step g c =
    rw c.in-Heartbeat.is c.take_heartbeat.ensures.step

pub returns-in-Conflict-clause-step : goal.returns-in-Conflict-clause-step
returns-in-Conflict-clause-step g c =
    let eq = g.NID.PartialEq.eq in
    let cmp = g.C.Ord.cmp in
    let old = tracked_view c.args.followers.now in
    let new = tracked_view c.take_conflict.new.followers in
    let from = c.args.from.now in
    let number = c.in-InFlight.number in
    let index = c.in-Conflict.index in
    let last = c.in-Conflict.last in
    let table : (entry : ProgressEntryOf g.row.C.Denot) → after_response cmp entry c.args.response.now
    ≡ as_refused (after_conflict entry (Some number) index last) = λ entry. rw (c.in-InFlight.is, c.in-Conflict.is) refl in
    rw c.refuse-in-Conflict.ensures (refused_response (member_value eq old from)
    (λ entry. after_conflict entry (Some number) index last) (λ entry. after_response cmp entry c.args.response.now)
    (λ next. WritesMember eq old from next new)
    (λ next. WritesMember eq old from next new) old new (λ entry _. table entry)
    (λ entry next known is. is) c.take_conflict.result c.take_conflict.ensures.step)

pub returns-in-HigherVote-clause-step : goal.returns-in-HigherVote-clause-step
returns-in-HigherVote-clause-step g c =
    let eq = g.NID.PartialEq.eq in
    let cmp = g.C.Ord.cmp in
    let old = tracked_view c.args.followers.now in
    let from = c.args.from.now in
    let request = c.args.response.now.request in
    rw c.if_known.ensures (refuses_known _ (member_value eq old from)
    (λ entry. after_response cmp entry c.args.response.now) (λ next. WritesMember eq old from next old) old HigherVote
    (λ entry. ap (after_outcome cmp entry request) c.in-HigherVote.is ∙ vote_table cmp entry request c.in-HigherVote.field-0))

pub returns-in-HigherVote-clause-monotone : goal.returns-in-HigherVote-clause-monotone
returns-in-HigherVote-clause-monotone g c = id_le-refl g.met.C.Ord.total c.args.followers.now.progress.granted
