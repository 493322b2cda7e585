use Rattle.std.specs.Coded.{Coded-set, coded_list}
use Rattle.std.specs.Option.{option_copied_mut}
use Rattle.std.proofs.Common.{◌≡◌, ◌∙◌, Some, ap, refl, sym}
use Rattle.raft_base.specs.LogIdLawful.{optional-log_id_cmp-total}
use Rattle.raft_progress.specs.entry.EntryTable.{entry_after_conflict}
use Rattle.raft_progress.specs.progress.Kept.{with_value}
use Rattle.raft_progress.specs.progress.VecProgress.{view}
use Rattle.raft_progress.specs.tracked.Followers.{member_value, with_member_value}
use Rattle.raft_progress.specs.tracked.Tracked.{tracked_view}
use Rattle.raft_progress.specs.tracked.TrackedState.{TrackedView}
use Rattle.raft_progress.specs.declared.entry.ProgressEntryOf.{ProgressEntryOf}
use Rattle.raft_progress.proofs.lemmas.entry.ResponseLemmas.{conflict_keeps, followed, responds}
use Rattle.raft_progress.proofs.lemmas.tracked.FollowerLemmas.{ready_kept, same_member}
use Rattle.raft_progress.proofs.tracked.followers.Tracked+NID+N+ProgressEntryOf+C+Option+LogIdOf+C.conflict.Goals as goal

pub invariant_of-self : goal.invariant_of-self
invariant_of-self g c =
    let eq = g.NID.PartialEq.eq in
    let old = tracked_view c.args.self.now in
    let id = c.args.id.now in
    let entry = c.in-Some.entry.now in
    let next = c.update_conflicting.new.self in
    let request = c.args.request_id in
    let known : member_value eq old id ≡ Some entry = sym c.get_mut.ensures.value ∙ ap option_copied_mut c.in-Some.is in
    let is : view (c.get_mut.follows.lender next) ≡ with_value eq old.progress id next = rw c.in-Some.is at
    (c.get_mut.follows.holds next) in
    let kept : next.matching ≡ entry.matching =
    followed (λ (n : ProgressEntryOf g.row.C.Denot). n.matching ≡ entry.matching) (entry_after_conflict entry request c.args.conflict) entry
    c.update_conflicting.result next refl (λ s k. conflict_keeps entry s request c.args.conflict k) c.update_conflicting.ensures.table in
    record {
      ready = ∣
          ready_kept g.met.NID.Eq.laws g.NID.Ord.cmp (optional-log_id_cmp-total g.met.C.Ord.total)
          (λ (e : ProgressEntryOf g.row.C.Denot). e.matching) (Coded-set (coded_list (coded_list g.row.NID.coded))) old
          (record { membership = c.args.self.now.membership; progress = view (c.get_mut.follows.lender next) })
          c.args.self.now.ready id entry next known kept (λ i. record { membership = c.args.self.now.membership; progress = is i })
          ∣₁;
      sides_fit = c.args.self.now.sides_fit;
    }

pub returns-in-Some : goal.returns-in-Some
returns-in-Some g c =
    let eq = g.NID.PartialEq.eq in
    let old = tracked_view c.args.self.now in
    let id = c.args.id.now in
    let entry = c.in-Some.entry.now in
    let next = c.update_conflicting.new.self in
    let known : member_value eq old id ≡ Some entry = sym c.get_mut.ensures.value ∙ ap option_copied_mut c.in-Some.is in
    let is : view (c.get_mut.follows.lender next) ≡ with_value eq old.progress id next = rw c.in-Some.is at
    (c.get_mut.follows.holds next) in
    let new : TrackedView g.row.NID.Denot g.row.N.Denot (ProgressEntryOf g.row.C.Denot) _ = record {
      membership = c.args.self.now.membership;
      progress = view (c.get_mut.follows.lender next);
    } in
    let written : new ≡ with_member_value eq old id next = λ i. record { membership = c.args.self.now.membership; progress = is i } in
    responds (member_value eq old id) (λ e. entry_after_conflict e c.args.request_id c.args.conflict)
    (λ n. new ≡ with_member_value eq old id n) old new entry next c.update_conflicting.result known
    c.update_conflicting.ensures.table written
    (λ same. written ∙ ap (λ n. with_member_value eq old id n) same ∙ same_member eq old id entry known)
