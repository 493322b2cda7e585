-- The memberships after an append and after a snapshot are those of the views.
use Rattle.std.specs.Prelude.{◌≡◌, ◌⊎◌, ◌<◌, ◌≤◌, ◌-◌, ◌||◌, ℕ, Bool, true, false, nat_lt, Option, Some, None, List, [], ◌∷◌, is_some, if◌then◌else◌}
use Rattle.std.specs.Option.{option_map}
use Rattle.std.specs.declared.cmp.Ordering.{Ordering}
use Rattle.std.proofs.Common.{refl, sym, ap, subst, ◌∙◌, inl, inr, arith}
use Rattle.std.proofs.lemmas.Bool.{and_parts, cases_lt}
use Rattle.std.proofs.lemmas.Bool.Decides.{nat_tests}
use Rattle.raft_base.specs.LogId.{id_le, id_lt, index_of, next_index}
use Rattle.raft_base.specs.LogIndex.{index_le, index_lt}
use Rattle.raft_base.specs.declared.log_id.LogIdOf.{LogIdOf}
use Rattle.raft_members.specs.membership.Members.{MemberList}
use Rattle.raft_members.specs.membership.Stored.{log_id_of, membership_of}
use Rattle.raft_members.specs.declared.membership.stored.StoredMembershipOf.{StoredMembershipOf}
use Rattle.raft_state.specs.entry.Entry.{payload_membership}
use Rattle.raft_state.specs.log_id_list.FullLog.{full_log}
use Rattle.raft_state.specs.log_id_list.LogReads.{last_id}
use Rattle.raft_state.specs.membership_state.MembershipMoves.{after_append, after_commit, after_truncate, after_update_committed}
use Rattle.raft_state.specs.membership_state.Memberships.{Memberships, index_at}
use Rattle.raft_state.specs.raft_state.Appended.{AppendsMemberships, IsStoredBy, last_stored}
use Rattle.raft_state.specs.raft_state.Install.{is_not_above, is_not_past}
use Rattle.raft_state.specs.declared.entry.EntryOf.{EntryOf}
use Rattle.raft_state.specs.declared.raft_state.RaftStateIn.{RaftStateIn}
use Rattle.steps_handlers.specs.Append.{TakesMemberships, greater_id, memberships_before}
use Rattle.steps_handlers.specs.Entries.{allows_commit, allows_commit_past, effective_before, effective_with, ends_before, entry_ids, memberships_below}
use Rattle.safety_laws.specs.Ranks.{IsAmong}
use Rattle.steps_safety.proofs.Members.{Members, after_cut, after_ids}
use Rattle.steps_safety.proofs.MoveLemmas.{AreNamed, appends, commit_seen, members_seen, named_appends, named_commit, named_cut, seen_at, seen_configs, truncates, update_seen}
use Rattle.steps_safety.proofs.Views.{AfterUpdate, MaySettle, after_fresh}

-- the configs that an entry holds
abbrev pub held_in : {C K N D : Type 0} → EntryOf C K N D → Option (List (List K))
held_in entry = option_map (λ m. m.configs) (payload_membership entry.payload)

module _ {K N I L C : Type 0} (initial : List (List K)) (s : RaftStateIn K N I L C)
    (within : index_le (index_at s.membership_state.effective) (index_of (last_id (full_log s.log_ids))) ≡ true) where
  -- what is cut before new entries
  pub below_seen : (since : ℕ) → (since ≡ 0 → last_id (full_log s.log_ids) ≡ None)
      → members_seen initial (memberships_below since s) ≡ after_cut (since - 1) (members_seen initial s.membership_state)
  below_seen since first = by (cases_lt 0 since)
    where
      last : Option (LogIdOf C)
      last = last_id (full_log s.log_ids)

      old : Memberships C K N
      old = s.membership_state

      stays : (o l : Option (LogIdOf C)) → index_le (index_of o) (index_of l) ≡ true → index_lt (index_of l) (Some since) ≡ true
          → nat_lt (since - 1) (seen_at o) ≡ false
      stays None l h e = grind (arith, nat_tests)
      stays (Some id) None h e = cc
      stays (Some id) (Some x) h e = grind (arith, nat_tests)

      same : ends_before since s ≡ true → members_seen initial s.membership_state ≡ after_cut (since - 1)
          (members_seen initial s.membership_state)
      same e = rw (stays (log_id_of s.membership_state.effective) (last_id (full_log s.log_ids)) within e) refl

      by : ((0 < since) ⊎ (since ≤ 0))
          → members_seen initial (memberships_below since s) ≡ after_cut (since - 1) (members_seen initial s.membership_state)
      by (inl pos) = pick (ends_before since s) refl
        where
          pick : (b : Bool) → ends_before since s ≡ b
              → members_seen initial (if b then s.membership_state else after_truncate since s.membership_state)
              ≡ after_cut (since - 1) (members_seen initial s.membership_state)
          pick true e = same e
          pick false e = truncates initial since s.membership_state pos
      by (inr none) =
          let z : since ≡ 0 = omega (arith, none) in
          let e : ends_before since s ≡ true =
          ap (λ (o : Option (LogIdOf C)). index_lt (index_of o) (Some since)) (first z) in
          rw e (same e)

  before_seen : {D : Type 0} (holds : LogIdOf C → Option (List (List K))) (new : List (EntryOf C K N D))
      → ((e : EntryOf C K N D) (es : List (EntryOf C K N D)) → new ≡ e ∷ es → e.log_id.index ≡ 0
      → last_id (full_log s.log_ids) ≡ None)
      → after_ids holds (entry_ids new) (members_seen initial (memberships_before new s))
      ≡ after_fresh holds (entry_ids new) (members_seen initial s.membership_state)
  before_seen holds [] first = refl
  before_seen holds (e ∷ es) first = ap (after_ids holds (e.log_id ∷ entry_ids es)) (below_seen e.log_id.index (first e es refl))

module _ {C K N E : Type 0} (eq : K → K → Bool) (same : N → N → Bool) where
  -- the log id of the effective membership once entries are appended
  pub effective_is : (id_of : E → LogIdOf C) (membership : E → Option (MemberList K N)) (es : List E) (old new : Memberships C K N)
      → AppendsMemberships eq same id_of membership es old new
      → log_id_of new.effective ≡ last_stored id_of (λ e. is_some (membership e)) (log_id_of old.effective) es
  effective_is id_of membership [] old new a = ap (λ (m : Memberships C K N). log_id_of m.effective) a
  effective_is id_of membership (e ∷ es) old new a =
      by (membership e) refl (λ mid b. effective_is id_of membership es mid new b)
    where
      by : (o : Option (MemberList K N)) → membership e ≡ o
          → ((mid : Memberships C K N) → AppendsMemberships eq same id_of membership es mid new
          → log_id_of new.effective ≡ last_stored id_of (λ x. is_some (membership x)) (log_id_of mid.effective) es)
          → log_id_of new.effective
          ≡ last_stored id_of (λ x. is_some (membership x)) (if is_some (membership e) then Some (id_of e) else log_id_of old.effective)
          es
      by None h rest =
          let b : AppendsMemberships eq same id_of membership es old new = rw h at a in
          rw h (rest old b)
      by (Some w) h rest =
          let b : (stored : StoredMembershipOf C K N) × IsStoredBy eq same (id_of e) w stored
          × AppendsMemberships eq same id_of membership es (after_append stored old) new = rw h at a in
          rw h
          (rest (after_append b.0 old) b.2
          ∙ ap (λ (o : Option (LogIdOf C)). last_stored id_of (λ x. is_some (membership x)) o es) (b.1).0)

module _ {K N I L C D : Type 0} (initial : List (List K)) (cmp : C → C → Ordering) (eq : K → K → Bool) (same : N → N → Bool)
    (s : RaftStateIn K N I L C) (new : List (EntryOf C K N D)) (id : Option (LogIdOf C)) (m : Memberships C K N)
    (takes : TakesMemberships cmp eq same new id s m) where
  before_is : (es : List (EntryOf C K N D)) → effective_before es s ≡ log_id_of (memberships_before es s).effective
  before_is [] = refl
  before_is (e ∷ es) = refl

  -- what a request to append entries makes of the memberships
  pub append_seen : (holds : LogIdOf C → Option (List (List K))) → ((e : EntryOf C K N D) → IsAmong e new → holds e.log_id ≡ held_in e)
      → allows_commit_past cmp (effective_with (effective_before new s) new) s.committed id ≡ true
      → index_le (index_at s.membership_state.effective) (index_of (last_id (full_log s.log_ids))) ≡ true
      → ((e : EntryOf C K N D) (es : List (EntryOf C K N D)) → new ≡ e ∷ es → e.log_id.index ≡ 0
      → last_id (full_log s.log_ids) ≡ None)
      → MaySettle (next_index (greater_id cmp s.committed id))
      (after_fresh holds (entry_ids new) (members_seen initial s.membership_state)) (members_seen initial m)
  append_seen holds all allowed within first =
      let appended = takes.0 in
      let moved : members_seen initial appended ≡ after_fresh holds (entry_ids new) (members_seen initial s.membership_state) =
      appends initial eq same (λ e. e.log_id) (λ e. payload_membership e.payload) holds new (memberships_before new s) appended all
      takes.1 ∙ before_seen initial s within holds new first in
      let ends : log_id_of appended.effective ≡ effective_with (effective_before new s) new =
      effective_is eq same (λ e. e.log_id) (λ e. payload_membership e.payload) new (memberships_before new s) appended takes.1
      ∙ ap (λ (o : Option (LogIdOf C)). effective_with o new) (sym (before_is new)) in
      subst (λ (x : Members (List (List K))). MaySettle (next_index (greater_id cmp s.committed id)) x (members_seen initial m)) moved
      (subst (λ (x : Memberships C K N). MaySettle (next_index (greater_id cmp s.committed id)) (members_seen initial appended)
      (members_seen initial x)) (sym takes.2)
      (by appended (subst (λ (o : Option (LogIdOf C)). allows_commit_past cmp o s.committed id ≡ true) (sym ends) allowed)))
    where
      by : (appended : Memberships C K N) → allows_commit_past cmp (log_id_of appended.effective) s.committed id ≡ true
          → MaySettle (next_index (greater_id cmp s.committed id)) (members_seen initial appended)
          (members_seen initial (if id_lt cmp s.committed id then after_commit cmp id appended else appended))
      by appended allowed = pick (id_lt cmp s.committed id) refl id refl allowed
        where
          none_least : (b : Option (LogIdOf C)) → id_lt cmp b None ≡ true → ⊥
          none_least None h = cc
          none_least (Some x) h = cc

          pick : (due : Bool) → id_lt cmp s.committed id ≡ due → (o : Option (LogIdOf C)) → id ≡ o
              → (if due then allows_commit cmp (log_id_of appended.effective) id else true) ≡ true
              → MaySettle (next_index (if due then id else s.committed)) (members_seen initial appended)
              (members_seen initial (if due then after_commit cmp id appended else appended))
          pick false e o is allowed = inl refl
          pick true e None is allowed = absurd (none_least s.committed (rw is at e))
          pick true e (Some u) is allowed =
              rw is (commit_seen initial cmp true u appended (next_index (Some u)) (λ yes. rw is at allowed) (omega arith))

  pub append_named : AreNamed s.membership_state → AreNamed m
  append_named are =
      subst (λ (x : Memberships C K N). AreNamed x) (sym takes.2)
      (named_commit cmp (id_lt cmp s.committed id) id takes.0
      (named_appends eq same (λ e. e.log_id) (λ e. payload_membership e.payload) new (memberships_before new s) takes.0 takes.1
      (before_named new)))
    where
      before_named : (es : List (EntryOf C K N D)) → AreNamed (memberships_before es s)
      before_named [] = are
      before_named (e ∷ es) = named_cut (ends_before e.log_id.index s) e.log_id.index s.membership_state are

module _ {C K N : Type 0} (initial : List (List K)) (cmp : C → C → Ordering) where
  -- what a snapshot makes of the memberships of a server whose log has its last log id
  pub install_seen : (id : LogIdOf C) (stored : StoredMembershipOf C K N) (old : Memberships C K N)
      → is_not_past cmp id stored ≡ true
      → (is_not_above cmp old.committed stored || index_lt (Some id.index) (index_at old.committed)) ≡ true
      → (index_lt (Some id.index) (index_at old.committed) ≡ true → id_le cmp (Some id) (log_id_of old.committed) ≡ true)
      → ((a b c : Option (LogIdOf C)) → id_lt cmp a b ≡ true → id_le cmp b c ≡ true → id_le cmp c a ≡ true → ⊥)
      → AfterUpdate id.index (seen_at (log_id_of stored)) (seen_configs initial (log_id_of stored) (membership_of stored).configs)
      (members_seen initial old) (members_seen initial (after_update_committed cmp stored id.index old))
  install_seen id stored old fits keeps sorted no_cycle =
      update_seen initial cmp stored id.index old
      (and_parts (id_le cmp (log_id_of stored) (Some id)) (index_le (index_at stored) (Some id.index)) fits).1
      (λ less. by less (is_not_above cmp old.committed stored) refl keeps)
    where
      by : id_lt cmp (log_id_of old.committed) (log_id_of stored) ≡ true → (b : Bool) → is_not_above cmp old.committed stored ≡ b
          → (b || index_lt (Some id.index) (index_at old.committed)) ≡ true
          → index_le (index_at old.committed) (index_at stored) ≡ true
      by less true e keeps =
          (and_parts (id_le cmp (log_id_of old.committed) (log_id_of stored)) (index_le (index_at old.committed) (index_at stored)) e).1
      by less false e keeps =
          absurd (no_cycle (log_id_of old.committed) (log_id_of stored) (Some id) less
          (and_parts (id_le cmp (log_id_of stored) (Some id)) (index_le (index_at stored) (Some id.index)) fits).0 (sorted keeps))
