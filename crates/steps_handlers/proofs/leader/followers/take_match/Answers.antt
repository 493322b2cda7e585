use Rattle.std.proofs.Common.{◌≡◌, ◌∙◌, ◌^◌, Some, ap, max, nat_lt, sym, subst, true, false, refl}
use Rattle.std.specs.Option.{option_cmp}
use Rattle.raft_base.specs.LogId.{id_lt, log_id_cmp, next_index}
use Rattle.raft_progress.specs.progress.ProgressView.{state}
use Rattle.raft_progress.specs.tracked.Followers.{member_value}
use Rattle.raft_progress.specs.tracked.SingleSteps.{IsTrackedUpdate}
use Rattle.raft_progress.specs.tracked.Tracked.{tracked_view}
use Rattle.raft_progress.specs.declared.entry.ProgressEntryOf.{ProgressEntryOf}
use Rattle.raft_progress.specs.declared.inflight.InflightOf.TheVariants.{None as Idle}
use Rattle.steps_handlers.specs.Responses.{matched}
use Rattle.steps_handlers.proofs.lemmas.FollowerLemmas.{at_most_if_below, member_updated}
use Rattle.steps_handlers.proofs.lemmas.SendLemmas.{member_stays}
use Rattle.steps_handlers.proofs.leader.followers.take_match.Goals as goal

pub returns-then-not-log_id_below-clause-step : goal.returns-then-not-log_id_below-clause-step
returns-then-not-log_id_below-clause-step g c =
    let eq = g.NID.PartialEq.eq in
    let old = tracked_view c.args.followers.now in
    let from = c.args.from.now in
    let found = c.in-Some.found in
    let known : member_value eq old from ≡ Some found =
    sym (sym c.in-Some.is ∙ c.copied.ensures ∙ c.try_get.ensures ∙ ap (λ p. (state eq p).value from) c.progress.ensures) in
    let stays : id_lt g.C.Ord.cmp found.matching c.args.upto ≡ false = sym c.log_id_below.ensures ∙ c.if-not-log_id_below.true in
    (found, found, known, rw stays refl, member_stays g.met.NID.Eq.laws old old from found known)

pub returns-clause-step : goal.returns-clause-step
returns-clause-step g c =
    let eq = g.NID.PartialEq.eq in
    let cmp = g.C.Ord.cmp in
    let old = tracked_view c.args.followers.now in
    let new = tracked_view c.update-reply.new.self in
    let from = c.args.from.now in
    let found = c.in-Some.found in
    let upto = c.args.upto in
    let known : member_value eq old from ≡ Some found =
    sym (sym c.in-Some.is ∙ c.copied.ensures ∙ c.try_get.ensures ∙ ap (λ p. (state eq p).value from) c.progress.ensures) in
    let below : id_lt cmp found.matching upto ≡ true = sym c.log_id_below.ensures ∙ c.if-not-log_id_below.false in
    let next : nat_lt (next_index upto) (2 ^ 64) ≡ true = sym c.has_next_index.ensures ∙ c.if-not-has_next_index.false in
    let made : (record found { matching = upto; inflight = Idle; searching_end = c.max.result }) ≡ matched found upto =
    ap (λ n. record found { matching = upto; inflight = Idle; searching_end = n })
    (c.max.ensures ∙ ap (λ n. max found.searching_end n) c.next_index.ensures) in
    let update = subst (λ (e : ProgressEntryOf g.row.C.Denot). IsTrackedUpdate eq (option_cmp (log_id_cmp cmp))
    (λ (e : ProgressEntryOf g.row.C.Denot). e.matching) old from e c.update-reply.result new) made c.update-reply.ensures.step in (
      found,
      matched found upto,
      known,
      rw (below, next) refl,
      member_updated g.met.C.Ord.total eq old new from found (matched found upto) c.update-reply.result update known
          (at_most_if_below cmp found.matching upto below),
    )
