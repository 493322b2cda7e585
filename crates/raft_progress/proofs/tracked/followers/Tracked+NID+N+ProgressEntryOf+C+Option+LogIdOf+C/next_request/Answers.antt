use Rattle.std.specs.Coded.{Coded-set, coded_list}
use Rattle.std.specs.Option.{option_copied_mut}
use Rattle.std.proofs.Common.{◌≡◌, ◌∙◌, Bool, Some, ap, if◌then◌else◌, refl, subst, sym}
use Rattle.raft_base.specs.LogIdLawful.{optional-log_id_cmp-total}
use Rattle.raft_progress.specs.entry.Probe.{after_send}
use Rattle.raft_progress.specs.entry.Request.{FollowsRequest}
use Rattle.raft_progress.specs.progress.Kept.{with_value}
use Rattle.raft_progress.specs.progress.VecProgress.{view}
use Rattle.raft_progress.specs.tracked.Followers.{member_value}
use Rattle.raft_progress.specs.tracked.Tracked.{tracked_view}
use Rattle.raft_progress.specs.declared.entry.ProgressEntryOf.{ProgressEntryOf}
use Rattle.raft_progress.specs.declared.inflight.InflightOf.TheVariants.{None as Idle}
use Rattle.raft_progress.proofs.lemmas.entry.ResponseLemmas.{made_by, next_keeps, requests}
use Rattle.raft_progress.proofs.lemmas.tracked.FollowerLemmas.{ready_kept}
use Rattle.raft_progress.proofs.tracked.followers.Tracked+NID+N+ProgressEntryOf+C+Option+LogIdOf+C.next_request.Goals as goal

pub invariant_of-self-then-probe_or_send : goal.invariant_of-self-then-probe_or_send
invariant_of-self-then-probe_or_send g c =
    let eq = g.NID.PartialEq.eq in
    let old = tracked_view c.args.self.now in
    let id = c.args.id.now in
    let entry = c.in-Some.entry.now in
    let next = c.probe_or_send.new.self in
    let log = g.L.LogStateReader.log_view c.args.log.now in
    let known : member_value eq old id ≡ Some entry = sym c.get_mut.ensures.value ∙ ap option_copied_mut c.in-Some.is in
    let is : view (c.get_mut.follows.lender next) ≡ with_value eq old.progress id next = rw c.in-Some.is at
    (c.get_mut.follows.holds next) in
    let kept : next.matching ≡ entry.matching =
    made_by (after_send g.C.Ord.cmp entry log c.args.max_entries) entry next
    (λ (n : ProgressEntryOf g.row.C.Denot). n.matching ≡ entry.matching) refl
    (λ n k. next_keeps g.C.Ord.cmp entry n log c.args.max_entries k) c.probe_or_send.result c.probe_or_send.ensures.sent
    c.probe_or_send.ensures.unchanged in
    record {
      ready = ∣
          ready_kept g.met.NID.Eq.laws g.NID.Ord.cmp (optional-log_id_cmp-total g.met.C.Ord.total)
          (λ (e : ProgressEntryOf g.row.C.Denot). e.matching) (Coded-set (coded_list (coded_list g.row.NID.coded))) old
          (record { membership = c.args.self.now.membership; progress = view (c.get_mut.follows.lender next) })
          c.args.self.now.ready id entry next known kept (λ i. record { membership = c.args.self.now.membership; progress = is i })
          ∣₁;
      sides_fit = c.args.self.now.sides_fit;
    }

pub invariant_of-self-else-probe_or_send : goal.invariant_of-self-else-probe_or_send
invariant_of-self-else-probe_or_send g c =
    let eq = g.NID.PartialEq.eq in
    let old = tracked_view c.args.self.now in
    let id = c.args.id.now in
    let entry = c.in-Some.entry.now in
    let next = c.probe_or_send.new.self in
    let log = g.L.LogStateReader.log_view c.args.log.now in
    let known : member_value eq old id ≡ Some entry = sym c.get_mut.ensures.value ∙ ap option_copied_mut c.in-Some.is in
    let is : view (c.get_mut.follows.lender next) ≡ with_value eq old.progress id next = rw c.in-Some.is at
    (c.get_mut.follows.holds next) in
    let kept : next.matching ≡ entry.matching =
    made_by (after_send g.C.Ord.cmp entry log c.args.max_entries) entry next
    (λ (n : ProgressEntryOf g.row.C.Denot). n.matching ≡ entry.matching) refl
    (λ n k. next_keeps g.C.Ord.cmp entry n log c.args.max_entries k) c.probe_or_send.result c.probe_or_send.ensures.sent
    c.probe_or_send.ensures.unchanged in
    record {
      ready = ∣
          ready_kept g.met.NID.Eq.laws g.NID.Ord.cmp (optional-log_id_cmp-total g.met.C.Ord.total)
          (λ (e : ProgressEntryOf g.row.C.Denot). e.matching) (Coded-set (coded_list (coded_list g.row.NID.coded))) old
          (record { membership = c.args.self.now.membership; progress = view (c.get_mut.follows.lender next) })
          c.args.self.now.ready id entry next known kept (λ i. record { membership = c.args.self.now.membership; progress = is i })
          ∣₁;
      sides_fit = c.args.self.now.sides_fit;
    }

pub returns-then-probe_or_send : goal.returns-then-probe_or_send
returns-then-probe_or_send g c =
    let eq = g.NID.PartialEq.eq in
    let old = tracked_view c.args.self.now in
    let id = c.args.id.now in
    let entry = c.in-Some.entry.now in
    let next = c.probe_or_send.new.self in
    let log = g.L.LogStateReader.log_view c.args.log.now in
    let known : member_value eq old id ≡ Some entry = sym c.get_mut.ensures.value ∙ ap option_copied_mut c.in-Some.is in
    let is : view (c.get_mut.follows.lender next) ≡ with_value eq old.progress id next = rw c.in-Some.is at
    (c.get_mut.follows.holds next) in
    let table = after_send g.C.Ord.cmp entry log c.args.max_entries in
    let follows = subst (λ (b : Bool). FollowsRequest table entry (if b then next.inflight else Idle) next)
    c.if-probe_or_send.true (requests table entry next c.probe_or_send.result c.probe_or_send.ensures.sent
    c.probe_or_send.ensures.unchanged) in
    (entry, next, known, follows, λ i. record { membership = c.args.self.now.membership; progress = is i })

pub returns : goal.returns
returns g c =
    let eq = g.NID.PartialEq.eq in
    let old = tracked_view c.args.self.now in
    let id = c.args.id.now in
    let entry = c.in-Some.entry.now in
    let next = c.probe_or_send.new.self in
    let log = g.L.LogStateReader.log_view c.args.log.now in
    let known : member_value eq old id ≡ Some entry = sym c.get_mut.ensures.value ∙ ap option_copied_mut c.in-Some.is in
    let is : view (c.get_mut.follows.lender next) ≡ with_value eq old.progress id next = rw c.in-Some.is at
    (c.get_mut.follows.holds next) in
    let table = after_send g.C.Ord.cmp entry log c.args.max_entries in
    let follows = subst (λ (b : Bool). FollowsRequest table entry (if b then next.inflight else Idle) next)
    c.if-probe_or_send.false (requests table entry next c.probe_or_send.result c.probe_or_send.ensures.sent
    c.probe_or_send.ensures.unchanged) in
    (entry, next, known, follows, λ i. record { membership = c.args.self.now.membership; progress = is i })
