use Rattle.std.specs.Prelude.{length}
use Rattle.std.specs.Option.{option_cmp}
use Rattle.std.proofs.lemmas.Result.{err_from_is_err_and}
use Rattle.std.proofs.Common.{◌≡◌, ◌<◌, ℕ, List, ap, refl, sym, subst, ◌∙◌}
use Rattle.raft_base.specs.LogId.{log_id_cmp, next_index}
use Rattle.raft_members.specs.membership.Change.{changed}
use Rattle.raft_members.specs.membership.Members.{members_of}
use Rattle.raft_members.specs.quorum.Reached.{EachQuorumKnows}
use Rattle.raft_progress.specs.declared.entry.ProgressEntryOf.{ProgressEntryOf}
use Rattle.raft_progress.specs.progress.CountedValue.{has_part}
use Rattle.raft_progress.specs.progress.ProgressView.{state}
use Rattle.raft_progress.specs.tracked.Tracked.{tracked_view}
use Rattle.raft_state.specs.declared.entry.EntryOf.{EntryOf}
use Rattle.raft_state.specs.membership_state.Apply.{members_after_change}
use Rattle.raft_state.specs.membership_state.Memberships.{in_effect}
use Rattle.steps_handlers.specs.Changes.{KeepsValues}
use Rattle.steps_handlers.specs.Leadership.{Leadership, number_past}
use Rattle.steps_handlers.proofs.lemmas.ChangeLemmas.{effective_configs, own_payload, refuses_entry, stores_copy}
use Rattle.steps_handlers.proofs.lemmas.KnownLemmas.{changed_configs, quorums_still_know}
use Rattle.steps_handlers.proofs.leader.Leader.propose_change.Goals as goal

pub returns-clause-appended : goal.returns-clause-appended
returns-clause-appended g c =
    let eq = g.NID.PartialEq.eq in
    let id_cmp = g.NID.Ord.cmp in
    let by = option_cmp (log_id_cmp g.C.Ord.cmp) in
    let old = tracked_view c.self.inside.followers in
    let new = tracked_view c.in_ok-followers.followers in
    let granted = old.progress.granted in
    let own = c.in_ok-entry.ensures.appended in
    let committed = rw c.change_handler-handler.ensures at c.in-Ok.ensures.committed in
    let says = rw c.change_handler-handler.ensures at c.in-Ok.ensures.changed in
    let kept = rw (← c.self.view_is) at c.in_ok-followers.ensures.kept in
    let number : c.saturating_add-number.result ≡ number_past c.args.self.now.last_request =
    c.saturating_add-number.ensures ∙ ap (λ (l : Leadership _ _ _). number_past l.last_request) c.self.view_is in
    record {
      counts = sym c.counts_by_effective.ensures ∙ c.if-not-counts_by_effective.false;
      greatest = rw c.granted-granted.ensures.granted at c.granted-granted.ensures.greatest;
      own_granted = sym c.has_own_granted.ensures ∙ c.if-not-has_own_granted.false;
      committed = committed;
      own = own_payload _ _ _ _ _ _ own;
      stores = stores_copy eq g.N.PartialEq.eq _ _ c.in_ok-stored.stored _ c.in_ok-followers.ensures.members
          (ap (λ (e : EntryOf g.row.C.Denot g.row.NID.Denot g.row.N.Denot g.row.D.Denot). e.payload) own.is_next)
          c.in_ok-stored.ensures.configs c.in_ok-stored.ensures.equal;
      changed = rw (c.in_ok-followers.ensures.members, ← c.change_handler-handler.ensures) c.in-Ok.ensures.changed;
      valid = rw c.in_ok-followers.ensures.members c.in-Ok.ensures.valid_itself;
      coherent = rw (c.in_ok-followers.ensures.members, ← c.change_handler-handler.ensures) c.in-Ok.ensures.coherent;
      counted = rw c.in_ok-followers.ensures.members (sym (c.in_ok-stored.ensures.configs)
          ∙ sym (effective_configs eq g.N.PartialEq.eq _ c.in_ok-stored.stored
          c.args.state.now.membership_state c.append_own.new.state.membership_state own.memberships));
      kept = subst (λ (i : ℕ). KeepsValues eq i (number_past c.args.self.now.last_request) c.args.self.now.followers new)
          (c.next_index.ensures ∙ ap next_index (c.copied-last.ensures ∙ c.last_log_id.ensures))
          (subst (λ (n : ℕ). KeepsValues eq c.next_index.result n c.args.self.now.followers new) number c.in_ok-followers.ensures.kept);
      still_known = λ some same.
          let some' : 0 < length old.membership.configs = rw (← c.self.view_is) at some in
          let same' : old.membership.configs ≡ (in_effect c.args.state.now.membership_state).configs =
          rw (← c.self.view_is) at same in
          let configs : new.membership.configs
          ≡ (changed eq id_cmp (members_of id_cmp old.membership) c.args.change c.args.retain).configs =
          ap (λ m. m.configs) c.in_ok-followers.ensures.members ∙ says.0
          ∙ sym (changed_configs eq id_cmp (members_of id_cmp old.membership)
          (members_of id_cmp (in_effect c.args.state.now.membership_state)) c.args.change c.args.retain same') in
          let knows = subst (λ (cs : List (List g.row.NID.Denot)). EachQuorumKnows eq cs (state eq old.progress).is_voter
          (λ id. has_part by (λ (e : ProgressEntryOf g.row.C.Denot). e.matching) granted ((state eq old.progress).value id)))
          (sym configs) (c.quorums_know_granted.ensures.changed_quorums some' c.args.change c.args.retain) in
          rw (← c.self.view_is) (quorums_still_know g.met.NID.Eq.laws id_cmp by (λ (e : ProgressEntryOf g.row.C.Denot). e.matching)
          old new granted c.in_ok-followers.ensures.ready knows kept.kept);
      node = rw (← number, ← c.self.view_is) refl;
    }

pub returns-in_err-entry-clause-refused : goal.returns-in_err-entry-clause-refused
returns-in_err-entry-clause-refused g c =
    let next = members_after_change g.NID.PartialEq.eq g.NID.Ord.cmp c.args.state.now.membership_state c.args.change c.args.retain in
    let why = refuses_entry _ g.row.D.Denot next c.in_ok-stored.stored c.args.self.now c.args.state.now c.append_own.new.state
    c.in_err-entry.field-0.0 c.in_err-entry.ensures.refused in
    let p = err_from_is_err_and c.from_residual-in_err-entry.result c.from_residual-in_err-entry.ensures.1 in
    rw (p.1, p.2) why
