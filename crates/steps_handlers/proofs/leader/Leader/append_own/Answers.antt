use Rattle.std.proofs.Common.{◌≡◌, [], ◌∷◌, ◌++◌, List, Some, ap, rules, sym, ◌∙◌}
use Rattle.std.specs.Cmp.{second_so}
use Rattle.raft_state.specs.entry.Entry.{payload_membership}
use Rattle.raft_state.specs.declared.entry.EntryOf.{EntryOf}
use Rattle.steps_handlers.specs.Proposals.{next_own_id}
use Rattle.steps_handlers.proofs.lemmas.AppendLemmas.{appends_payload}
use Rattle.steps_handlers.proofs.lemmas.FollowerLemmas.{id_le-refl}
use Rattle.steps_handlers.proofs.leader.Leader.append_own.Goals as goal

pub update_accepted-requires-clause-no_lesser_leader : goal.update_accepted-requires-clause-no_lesser_leader
update_accepted-requires-clause-no_lesser_leader g c = λ κs lives.
    rw c.append_entries.ensures.rest (second_so _ _ (sym c.can_accept.ensures ∙ c.if-not-can_accept.false))

pub returns-clause-appended : goal.returns-clause-appended
returns-clause-appended g c =
    let entry : EntryOf g.row.C.Denot g.row.NID.Denot g.row.N.Denot g.row.D.Denot =
    record { log_id = c.new-log_id.result; payload = c.args.payload } in
    let items : c.deref-3.result.now ≡ entry ∷ [] =
    c.deref-3.ensures.value ∙ c.in-Ok.ensures.items
    ∙ ap (λ (xs : List (EntryOf g.row.C.Denot g.row.NID.Denot g.row.N.Denot g.row.D.Denot)). xs ++ entry ∷ [])
    c.new-entries.ensures.items in
    let own : c.new-log_id.result ≡ next_own_id c.args.self.now.leader_id c.args.state.now = search rules in
    let done = rw items at c.in_ok-append_entries.ensures.memberships in
    record {
      leads = search rules;
      is_next = search rules;
      log = search rules;
      memberships = rw (c.update_accepted.ensures.taken, ← own)
          (appends_payload g.NID.PartialEq.eq g.N.PartialEq.eq
          (λ (e : EntryOf g.row.C.Denot g.row.NID.Denot g.row.N.Denot g.row.D.Denot). e.log_id)
          (λ (e : EntryOf g.row.C.Denot g.row.NID.Denot g.row.N.Denot g.row.D.Denot). payload_membership e.payload)
          entry c.args.state.now.membership_state c.append_entries.new.self.membership_state done);
      accepted = search rules;
      rest = search rules;
    }

pub returns-clause-sound : goal.returns-clause-sound
returns-clause-sound g c = λ sound.
    let entry : EntryOf g.row.C.Denot g.row.NID.Denot g.row.N.Denot g.row.D.Denot =
    record { log_id = c.new-log_id.result; payload = c.args.payload } in
    let items : c.deref-3.result.now ≡ entry ∷ [] =
    c.deref-3.ensures.value ∙ c.in-Ok.ensures.items
    ∙ ap (λ (xs : List (EntryOf g.row.C.Denot g.row.NID.Denot g.row.N.Denot g.row.D.Denot)). xs ++ entry ∷ [])
    c.new-entries.ensures.items in
    let last = rw items at c.in_ok-append_entries.ensures.last in
    c.update_accepted.ensures.sound (c.append_entries.ensures.sound sound)
    (rw last (id_le-refl g.met.C.Ord.total (Some c.new-log_id.result)))
