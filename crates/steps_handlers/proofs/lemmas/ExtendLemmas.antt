-- What an append of entries makes of a state.
use Rattle.std.proofs.Common.{◌≡◌, Bool, true, List, IsTrue, ◌++◌, ap, subst, sym}
use Rattle.std.proofs.lemmas.Bool.{and_parts}
use Rattle.std.specs.Cmp.{IsEquivalence}
use Rattle.std.specs.Option.{option_or}
use Rattle.std.specs.Prelude.{Result, Ok, Err, OnOk}
use Rattle.std.specs.declared.cmp.Ordering.{Ordering}
use Rattle.steps_handlers.proofs.lemmas.RunLemmas.{plain_stores_none}
use Rattle.steps_handlers.specs.Entries.{effective_with, entry_ids}
use Rattle.steps_handlers.specs.Inner.Log.{Extends, are_plain, may_extend}
use Rattle.raft_members.specs.membership.Stored.{log_id_of}
use Rattle.raft_state.proofs.lemmas.AppendedLemmas.{begins_zero, last_effective, log_and_more, none_stored}
use Rattle.raft_state.specs.entry.Entry.{payload_membership}
use Rattle.raft_state.specs.log_id_list.FullLog.{full_log, same_log}
use Rattle.raft_state.specs.log_id_list.LogEdits.{log_after_extend}
use Rattle.raft_state.specs.log_id_list.LogKept.{HasIds, KeepsIds}
use Rattle.raft_state.specs.log_id_list.LogReads.{last_id}
use Rattle.raft_state.specs.membership_state.Memberships.{Memberships}
use Rattle.raft_state.specs.raft_state.Appended.{are_consecutive, begins_at_zero, AppendsMemberships}
use Rattle.raft_state.specs.declared.entry.EntryOf.{EntryOf}
use Rattle.raft_state.specs.declared.raft_state.RaftStateIn.{RaftStateIn}

module _ {K N I L C D : Type 0} (eq : C → C → Bool) (eqs : IsEquivalence eq) (cmp : C → C → Ordering) (id_eq : K → K → Bool)
    (same : N → N → Bool) (es : List (EntryOf C K N D)) (old new : RaftStateIn K N I L C) (may : may_extend cmp es old ≡ true) where
  consecutive : are_consecutive (last_id (full_log old.log_ids)) (entry_ids es) ≡ true
  consecutive = (and_parts _ _ (and_parts _ _ may).0).1

  -- the log ids of entries that may be appended begin an empty log at index 0
  pub extend_zero : begins_at_zero (full_log old.log_ids) (entry_ids es) ≡ true
  extend_zero = begins_zero (full_log old.log_ids) (entry_ids es) consecutive

  -- the log ids of plain entries are appended
  pub plain_extends : {T E : Type 0} (r : Result T E) → are_plain eq es ≡ true
      → OnOk r (IsTrue (same_log eq (full_log new.log_ids) (log_after_extend (full_log old.log_ids) (entry_ids es))))
      → OnOk r (last_id (full_log new.log_ids) ≡ option_or (last_id (entry_ids es)) (last_id (full_log old.log_ids)))
      → OnOk r (KeepsIds eq (full_log old.log_ids) (full_log new.log_ids)) → OnOk r (HasIds eq (entry_ids es) (full_log new.log_ids))
      → new ≡ record old { log_ids = new.log_ids } → OnOk r (Extends eq id_eq same es old new)
  plain_extends (Err e) plain log last kept own rest = tt
  plain_extends (Ok v) plain log last kept own rest =
      let stay : new.membership_state ≡ old.membership_state = ap (λ s. s.membership_state) rest in
      let none = none_stored id_eq same (λ e. e.log_id) (λ e. payload_membership e.payload) es old.membership_state
      (plain_stores_none eq eqs es plain) in
      let last_one = last_effective id_eq same (λ e. e.log_id) (λ e. payload_membership e.payload) es old.membership_state
      old.membership_state none in
      record {
        log = rw (log_and_more (full_log old.log_ids) (entry_ids es) consecutive) at log;
        last = last;
        kept = kept;
        own = own;
        memberships = rw stay none;
        effective = rw stay last_one;
        rest = subst (λ (m : Memberships C K N). new ≡ record old { log_ids = new.log_ids; membership_state = m }) (sym stay) rest;
      }

-- what a call that appends entries says
pub call_extends : {K N I L C D T E : Type 0} (eq : C → C → Bool) (id_eq : K → K → Bool) (same : N → N → Bool)
    (es : List (EntryOf C K N D)) (old new : RaftStateIn K N I L C) (r : Result T E)
    → OnOk r (IsTrue (same_log eq (full_log new.log_ids) (full_log old.log_ids ++ entry_ids es)))
    → OnOk r (last_id (full_log new.log_ids) ≡ option_or (last_id (entry_ids es)) (last_id (full_log old.log_ids)))
    → OnOk r (KeepsIds eq (full_log old.log_ids) (full_log new.log_ids)) → OnOk r (HasIds eq (entry_ids es) (full_log new.log_ids))
    → OnOk r (AppendsMemberships id_eq same (λ e. e.log_id) (λ e. payload_membership e.payload) es old.membership_state
    new.membership_state)
    → OnOk r (log_id_of new.membership_state.effective ≡ effective_with (log_id_of old.membership_state.effective) es)
    → new ≡ record old { log_ids = new.log_ids; membership_state = new.membership_state } → OnOk r (Extends eq id_eq same es old new)
call_extends eq id_eq same es old new (Err e) log last kept own members effective rest = tt
call_extends eq id_eq same es old new (Ok v) log last kept own members effective rest = record {
  log = log;
  last = last;
  kept = kept;
  own = own;
  memberships = members;
  effective = effective;
  rest = rest;
}
