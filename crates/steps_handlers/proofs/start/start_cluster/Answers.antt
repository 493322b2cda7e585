use Rattle.std.proofs.Common.{◌≡◌, [], ◌∷◌, ◌++◌, List, ap, rules, sym, ◌∙◌}
use Rattle.std.proofs.lemmas.Bool.{or_parts}
use Rattle.raft_state.specs.log_id_list.FullLog.{full_log}
use Rattle.raft_state.specs.raft_state.VoteAndLog.{vote_of}
use Rattle.raft_state.specs.declared.entry.EntryOf.{EntryOf}
use Rattle.raft_state.specs.declared.entry.payload.EntryPayload.TheVariants.{Membership as Stores}
use Rattle.raft_members.specs.membership.Members.{members_of}
use Rattle.raft_members.specs.membership.Stored.{log_id_of}
use Rattle.raft_members.specs.membership.Valid.{IsValid}
use Rattle.steps_handlers.specs.Start.{first_log_id}
use Rattle.steps_handlers.proofs.lemmas.StartLemmas.{comes_first, if_no_err, is_empty, not_decided, only_one, some_config}
use Rattle.steps_handlers.proofs.start.start_cluster.Goals as goal

pub returns-clause-decides : goal.returns-clause-decides
returns-clause-decides g c = record {
  configs = some_config _ c.as_slice.result.now c.args.membership.configs (rw (← c.as_slice.ensures.value) at c.get_joint_config.ensures)
      (sym c.is_empty.ensures ∙ c.if-is_empty.false);
  valid = if_no_err (IsValid g.NID.PartialEq.eq (members_of g.NID.Ord.cmp c.args.membership)) c.ensure_valid.result
      (sym c.is_err.ensures.value ∙ c.if-is_err.false) c.ensure_valid.ensures.valid;
}

pub returns-then-not-can_append_entries-clause-refused : goal.returns-then-not-can_append_entries-clause-refused
returns-then-not-can_append_entries-clause-refused g c =
    let s = c.args.state.now in
    let entry : EntryOf g.row.L-Committed.Denot g.row.NID.Denot g.row.N.Denot g.row.D.Denot =
    record { log_id = c.new.result; payload = Stores c.args.membership } in
    let items : c.deref.result.now ≡ entry ∷ [] =
    c.deref.ensures.value ∙ c.in-Ok.ensures.items
    ∙ ap (λ (xs : List (EntryOf g.row.L-Committed.Denot g.row.NID.Denot g.row.N.Denot g.row.D.Denot)). xs ++ entry ∷ [])
    c.new-entries.ensures.items in
    let none = (or_parts _ _ (sym c.is_initialized.ensures.2 ∙ c.if-is_initialized.false)).0 in
    let empty = is_empty (full_log s.log_ids) none in
    let own : c.new.result ≡ first_log_id (g.L.LeaderIdentity.committed (vote_of s).leader_id) = search rules in
    let may = sym c.can_append_entries.ensures ∙ c.if-not-can_append_entries.true in
    comes_first g.L.Committed.Ord.cmp (g.L.LeaderIdentity.committed (vote_of s).leader_id) (log_id_of s.membership_state.effective)
    (rw (items, empty, own) at may)

pub returns-clause-starts : goal.returns-clause-starts
returns-clause-starts g c =
    let s = c.args.state.now in
    let entry : EntryOf g.row.L-Committed.Denot g.row.NID.Denot g.row.N.Denot g.row.D.Denot =
    record { log_id = c.new.result; payload = Stores c.args.membership } in
    let items : c.deref-2.result.now ≡ entry ∷ [] =
    c.deref-2.ensures.value ∙ c.in-Ok.ensures.items
    ∙ ap (λ (xs : List (EntryOf g.row.L-Committed.Denot g.row.NID.Denot g.row.N.Denot g.row.D.Denot)). xs ++ entry ∷ [])
    c.new-entries.ensures.items in
    let none = (or_parts _ _ (sym c.is_initialized.ensures.2 ∙ c.if-is_initialized.false)).0 in
    let empty = is_empty (full_log s.log_ids) none in
    let own : c.new.result ≡ first_log_id (g.L.LeaderIdentity.committed (vote_of s).leader_id) = search rules in
    let first = first_log_id (g.L.LeaderIdentity.committed (vote_of s).leader_id) in
    let log : full_log c.append_entries.new.self.log_ids ≡ first ∷ [] =
    rw (← own) (only_one g.L.Committed.PartialEq.eq (full_log c.append_entries.new.self.log_ids) c.new.result
    (rw (items, empty) at c.in_ok-append_entries.ensures.log) (rw items at c.in_ok-append_entries.ensures.last)) in
    record { entry = search (rules, own); log = log; effective = search (rules, own) }

pub returns-then-is_empty-clause-refused : goal.returns-then-is_empty-clause-refused
returns-then-is_empty-clause-refused g c = λ decides.
    not_decided _ c.as_slice.result.now c.args.membership.configs (rw (← c.as_slice.ensures.value) at c.get_joint_config.ensures)
    (sym c.is_empty.ensures ∙ c.if-is_empty.true) decides.configs
