use Rattle.std.proofs.Common.{IsTrue, Some, ◌≡◌, ◌+◌, ◌∷◌, ◌∙◌, drop, refl, sym, ap}
use Rattle.std.proofs.lemmas.List.{drop_more, drop_all}
use Rattle.raft_members.specs.membership.Members.{same_members}
use Rattle.raft_members.specs.membership.Stored.{log_id_of, membership_of}
use Rattle.raft_state.proofs.lemmas.AppendedLemmas.{none_appended, none_follows, one_appended, one_follows}
use Rattle.raft_state.proofs.raft_state.RaftStateIn.memberships_after.Goals.{in-Some+in_ok-try_clone+in_ok-effective, in_default}
use Rattle.raft_state.proofs.raft_state.RaftStateIn.memberships_after.Goals as goal

pub loop-entry-init : goal.loop-entry-init
loop-entry-init g c =
    let copied = c.in_ok-memberships.ensures in
    record { follow = rw copied c.requires.follow; appended = λ new rest. rw copied at rest }

pub append-requires-after_bounds : goal.append-requires-after_bounds
append-requires-after_bounds g c lifetimes outlive =
    let es = c.args.entries.now in
    let entry = c.entry-item.result in
    let left = drop (c.loop-entry.entry-index + 1) es in
    let more : drop c.loop-entry.entry-index es ≡ entry ∷ left =
    drop_more es c.loop-entry.entry-index entry c.loop-entry-test.true ∙ ap (λ e. e ∷ left) (sym c.entry-item.is) in
    let stores = sym (rw c.in-Some.is at c.get_membership.ensures) in
    let follow = one_follows g.C.Ord.cmp g.Ent.RaftLogId.id_of g.Ent.RaftPayload.membership (log_id_of c.loop-entry.memberships.effective)
    entry left c.in-Some.membership.now stores (rw more at c.loop-entry.invariant.follow) in
    rw (c.in_ok-effective.ensures.log_id, c.get_log_id.ensures) follow.0

pub loop-entry-preserved : goal.loop-entry-preserved
loop-entry-preserved g c =
    let es = c.args.entries.now in
    let entry = c.entry-item.result in
    let left = drop (c.loop-entry.entry-index + 1) es in
    let more : drop c.loop-entry.entry-index es ≡ entry ∷ left =
    drop_more es c.loop-entry.entry-index entry c.loop-entry-test.true ∙ ap (λ e. e ∷ left) (sym c.entry-item.is) in
    elim c.match-get_membership.branch [
      | in-Some+in_ok-try_clone+in_ok-effective w ↦ (
          let stores = sym (rw w.in-Some.is at c.get_membership.ensures) in
          let follow = one_follows g.C.Ord.cmp g.Ent.RaftLogId.id_of g.Ent.RaftPayload.membership
          (log_id_of c.loop-entry.memberships.effective) entry left w.in-Some.membership.now stores
          (rw more at c.loop-entry.invariant.follow) in
          let id = w.in_ok-effective.ensures.log_id ∙ ap Some w.get_log_id.ensures in
          let equal : IsTrue (same_members g.NID.PartialEq.eq g.N.PartialEq.eq w.in-Some.membership.now
          (membership_of w.in_ok-effective.effective.value)) =
          rw w.in_ok-effective.ensures.membership w.in_ok-try_clone.ensures.equal in
          let configs : (membership_of w.in_ok-effective.effective.value).configs ≡ w.in-Some.membership.now.configs =
          rw w.in_ok-effective.ensures.membership w.in_ok-try_clone.ensures.configs in
          record {
            follow = rw (w.memberships-is, w.append.ensures, id) follow.1;
            appended = λ new rest. c.loop-entry.invariant.appended new
                (rw more (one_appended g.NID.PartialEq.eq g.N.PartialEq.eq g.Ent.RaftLogId.id_of g.Ent.RaftPayload.membership entry left
                w.in-Some.membership.now w.in_ok-effective.effective.value c.loop-entry.memberships new stores (id, equal, configs)
                (rw (w.memberships-is, w.append.ensures) at rest)));
          })
      | in_default w ↦ (
          let stores = sym (rw w.in_default.is at c.get_membership.ensures) in
          record {
            follow = rw w.memberships-is (none_follows g.C.Ord.cmp g.Ent.RaftLogId.id_of g.Ent.RaftPayload.membership
                (log_id_of c.loop-entry.memberships.effective) entry left stores (rw more at c.loop-entry.invariant.follow));
            appended = λ new rest. c.loop-entry.invariant.appended new
                (rw more (none_appended g.NID.PartialEq.eq g.N.PartialEq.eq g.Ent.RaftLogId.id_of g.Ent.RaftPayload.membership entry left
                c.loop-entry.memberships new stores (rw w.memberships-is at rest)));
          })
    ]

pub returns : goal.returns
returns g c =
    let end = drop_all c.loop-entry.entry-index c.args.entries.now c.loop-entry-test.false in
    c.loop-entry.invariant.appended c.loop-entry.memberships (rw end refl)
