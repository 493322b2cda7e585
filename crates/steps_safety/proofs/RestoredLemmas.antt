-- The memberships after a restart are those of the views.
use Rattle.std.specs.Prelude.{◌≡◌, ◌⊎◌, ◌≤◌, ◌&&◌, suc, Bool, true, false, Option, Some, None, List, if◌then◌else◌}
use Rattle.std.specs.declared.cmp.Ordering.{Ordering}
use Rattle.std.proofs.Common.{refl, sym, ap, subst, ◌∙◌, inl, inr, arith}
use Rattle.std.proofs.lemmas.Bool.{and_parts}
use Rattle.raft_base.specs.LogId.{id_le, id_lt, next_index}
use Rattle.raft_base.specs.declared.log_id.LogIdOf.{LogIdOf}
use Rattle.raft_members.specs.membership.Members.{MemberList, same_members}
use Rattle.raft_members.specs.membership.Stored.{log_id_of, membership_of}
use Rattle.raft_members.specs.declared.membership.stored.StoredMembershipOf.{StoredMembershipOf}
use Rattle.raft_progress.specs.progress.Comparisons.{OrdMembers}
use Rattle.raft_state.specs.entry.Entry.{payload_membership}
use Rattle.raft_state.specs.log_id_list.FullLog.{full_log}
use Rattle.raft_state.specs.membership_state.MembershipMoves.{after_commit, commits, may_commit}
use Rattle.raft_state.specs.membership_state.Memberships.{Memberships}
use Rattle.raft_state.specs.declared.entry.EntryOf.{EntryOf}
use Rattle.raft_state.specs.declared.raft_state.RaftStateIn.{RaftStateIn}
use Rattle.raft_state.specs.declared.snapshot_meta.SnapshotMetaOf.{SnapshotMetaOf}
use Rattle.steps_handlers.specs.Append.{greater_id}
use Rattle.steps_handlers.specs.Entries.{allows_commit, allows_commit_past, effective_with, entry_ids, has_id}
use Rattle.steps_handlers.specs.Restart.{AppendsStored, CommitsKnown, IsMembershipAt, snapshot_membership}
use Rattle.safety_laws.specs.Ranks.{IsAmong}
use Rattle.steps_safety.proofs.Members.{Members, after_ids, both_are}
use Rattle.steps_safety.proofs.MoveLemmas.{AreNamed, Named, appends, commit_seen, members_seen, named_appends, named_commit, seen_at, seen_configs}
use Rattle.steps_safety.proofs.TakenLemmas.{effective_is, held_in}
use Rattle.steps_safety.proofs.Views.{MaySettle}

-- log ids are in order
pub record AreOrdered {C : Type 0} (cmp : C → C → Ordering) : Type 0 where
  pub itself : (a : Option (LogIdOf C)) → id_lt cmp a a ≡ true → ⊥
  pub both : (a b : Option (LogIdOf C)) → id_lt cmp a b ≡ true → id_le cmp b a ≡ true → ⊥

-- the memberships of a snapshot, as the views have them
abbrev pub start_of : {C K N : Type 0} → List (List K) → Option (LogIdOf C) → StoredMembershipOf C K N → Members (List (List K))
start_of initial None stored = both_are 0 initial
start_of initial (Some last) stored =
    both_are (seen_at (log_id_of stored)) (seen_configs initial (log_id_of stored) (membership_of stored).configs)

-- what is known to be committed, besides a log id, if the log has the committed membership or not
abbrev known_by : {C K N : Type 0} → (C → C → Ordering) → Bool → Option (LogIdOf C) → Memberships C K N → Option (LogIdOf C)
known_by cmp has before m =
    if has && may_commit cmp (log_id_of m.committed) m then greater_id cmp before (log_id_of m.committed) else before

module _ {C K N : Type 0} (initial : List (List K)) (eq : K → K → Bool) (same : N → N → Bool)
    (one : (x y : MemberList K N) → same_members eq same x y ≡ true → y.configs ≡ x.configs) where
  starts : (last : Option (LogIdOf C)) (stored : StoredMembershipOf C K N) (first : Memberships C K N)
      → IsMembershipAt eq same last stored first.committed × IsMembershipAt eq same last stored first.effective
      → members_seen initial first ≡ start_of initial last stored
  starts None stored first a = rw (a.0.log_id, a.1.log_id) refl
  starts (Some last) stored first a =
      let c : (membership_of first.committed).configs ≡ (membership_of stored).configs =
      one (membership_of stored) (membership_of first.committed) (a.0).1 in
      let e : (membership_of first.effective).configs ≡ (membership_of stored).configs =
      one (membership_of stored) (membership_of first.effective) (a.1).1 in
      rw ((a.0).0, (a.1).0, c, e) refl

  first_id : (last : Option (LogIdOf C)) (stored : StoredMembershipOf C K N) (m : StoredMembershipOf C K N)
      → IsMembershipAt eq same last stored m → log_id_of m ≡ snapshot_membership last stored
  first_id None stored m a = a.log_id
  first_id (Some last) stored m a = a.0

module _ {C K N : Type 0} (initial : List (List K)) (cmp : C → C → Ordering) (ordered : AreOrdered cmp) where
  abbrev Result : Members (List (List K)) → Option (LogIdOf C) → Option (LogIdOf C) → Memberships C K N → Type 0
  Result app before committed now =
      MaySettle (next_index committed) app (members_seen initial now)
      × ((committed ≡ before) ⊎ (next_index committed ≤ suc app.committed_at))

  -- what is known by the committed membership
  second : (before committed : Option (LogIdOf C)) (has : Bool) (appended m now : Memberships C K N)
      → MaySettle (next_index before) (members_seen initial appended) (members_seen initial m)
      → (id_lt cmp before (log_id_of m.committed) ≡ true → m ≡ appended)
      → committed ≡ known_by cmp has before m
      → now ≡ (if id_lt cmp before committed then after_commit cmp committed m else m)
      → Result (members_seen initial appended) before committed now
  second before committed has appended m now settles new known is =
      by (has && may_commit cmp (log_id_of m.committed) m) refl known
    where
      nothing : committed ≡ before → Result (members_seen initial appended) before committed now
      nothing e =
          let no : id_lt cmp before committed ≡ false = rw e (false_of (id_lt cmp before before) (ordered.itself before)) in
          let same_now : now ≡ m = rw no at is in
          (rw (e, same_now) settles, inl e)
        where
          false_of : (b : Bool) → (b ≡ true → ⊥) → b ≡ false
          false_of true f = absurd (f refl)
          false_of false f = refl

      by : (t : Bool) → (has && may_commit cmp (log_id_of m.committed) m) ≡ t
          → committed ≡ (if t then greater_id cmp before (log_id_of m.committed) else before)
          → Result (members_seen initial appended) before committed now
      by false t e = nothing e
      by true t e = pick (id_lt cmp before (log_id_of m.committed)) refl e
        where
          pick : (b : Bool) → id_lt cmp before (log_id_of m.committed) ≡ b
              → committed ≡ (if b then log_id_of m.committed else before)
              → Result (members_seen initial appended) before committed now
          pick false less e = nothing e
          pick true less e = go (log_id_of m.committed) refl
            where
              may : may_commit cmp (log_id_of m.committed) m ≡ true
              may = (and_parts (has) (may_commit cmp (log_id_of m.committed) m) t).1

              whole : m ≡ appended
              whole = new less

              least : (b : Option (LogIdOf C)) → id_lt cmp b None ≡ true → ⊥
              least None h = cc
              least (Some x) h = cc

              go : (o : Option (LogIdOf C)) → log_id_of m.committed ≡ o → Result (members_seen initial appended) before committed now
              go None at = absurd (least before (rw at at less))
              go (Some c) at =
                  let known_is : committed ≡ Some c = e ∙ at in
                  let yes : id_lt cmp before committed ≡ true = rw e less in
                  let now_is : now ≡ after_commit cmp (Some c) m = (rw yes at is)
                  ∙ ap (λ (o : Option (LogIdOf C)). after_commit cmp o m) known_is in
                  let settled_now = commit_seen initial cmp true c m (next_index (Some c)) (λ x. rw at at may) (omega arith) in
                  let start : members_seen initial m ≡ members_seen initial appended = ap (members_seen initial) whole in
                  let index : (members_seen initial appended).committed_at ≡ c.index =
                  ap (λ (x : Members (List (List K))). x.committed_at) (sym start) ∙ ap seen_at at in (
                    rw (known_is, now_is)
                        (subst (λ (x : Members (List (List K))). MaySettle (next_index (Some c)) x
                        (members_seen initial (after_commit cmp (Some c) m))) start settled_now),
                    inr (rw known_is (omega (arith, index))),
                  )

module _ {K N I L C D : Type 0} (initial : List (List K)) (logs : OrdMembers C) (eq : K → K → Bool) (same : N → N → Bool)
    (one : (x y : MemberList K N) → same_members eq same x y ≡ true → y.configs ≡ x.configs) where
  -- what a restart makes of the memberships of the snapshot and of the entries past it, and what it knows to be committed
  pub restart_seen : AreOrdered logs.cmp → (holds : LogIdOf C → Option (List (List K))) (meta : SnapshotMetaOf C K N)
      (es : List (EntryOf C K N D)) (known : Option (LogIdOf C)) (m : Memberships C K N) (s : RaftStateIn K N I L C)
      → ((e : EntryOf C K N D) → IsAmong e es → holds e.log_id ≡ held_in e)
      → AppendsStored logs.cmp eq same meta es known m
      → allows_commit_past logs.cmp (effective_with (snapshot_membership meta.last_log_id meta.last_membership) es) meta.last_log_id known
      ≡ true
      → CommitsKnown logs.eq logs.cmp (greater_id logs.cmp meta.last_log_id known) m s
      → MaySettle (next_index s.committed) (after_ids holds (entry_ids es) (start_of initial meta.last_log_id meta.last_membership))
      (members_seen initial s.membership_state)
      × ((s.committed ≡ greater_id logs.cmp meta.last_log_id known)
      ⊎ (next_index s.committed
      ≤ suc (after_ids holds (entry_ids es) (start_of initial meta.last_log_id meta.last_membership)).committed_at))
  restart_seen ordered holds meta es known m s all a allowed knows =
      let first = a.0 in
      let appended = a.1 in
      let snapshot = a.2 in
      let moved = appends initial eq same (λ e. e.log_id) (λ e. payload_membership e.payload) holds es first appended all a.3
      ∙ ap (after_ids holds (entry_ids es)) (starts initial eq same one meta.last_log_id meta.last_membership first snapshot) in
      let ends : log_id_of appended.effective ≡ effective_with (snapshot_membership meta.last_log_id meta.last_membership) es =
      effective_is eq same (λ e. e.log_id) (λ e. payload_membership e.payload) es first appended a.3
      ∙ ap (λ (o : Option (LogIdOf C)). effective_with o es)
      (first_id initial eq same one meta.last_log_id meta.last_membership first.effective snapshot.1) in
      subst (λ (x : Members (List (List K))). MaySettle (next_index s.committed) x (members_seen initial s.membership_state)
      × ((s.committed ≡ greater_id logs.cmp meta.last_log_id known) ⊎ (next_index s.committed ≤ suc x.committed_at))) moved
      (first_settles ordered meta.last_log_id known (has_id logs.eq (full_log s.log_ids) (log_id_of m.committed)) appended m
      s.membership_state s.committed
      (subst (λ (o : Option (LogIdOf C)). allows_commit_past logs.cmp o meta.last_log_id known ≡ true) (sym ends) allowed) a.4
      knows.known knows.memberships)
    where
      first_settles : AreOrdered logs.cmp → (last known : Option (LogIdOf C)) (has : Bool)
          (appended m now : Memberships C K N) (committed : Option (LogIdOf C))
          → allows_commit_past logs.cmp (log_id_of appended.effective) last known ≡ true
          → m ≡ (if id_lt logs.cmp last known then after_commit logs.cmp known appended else appended)
          → committed ≡ known_by logs.cmp has (greater_id logs.cmp last known) m
          → now ≡ (if id_lt logs.cmp (greater_id logs.cmp last known) committed then after_commit logs.cmp committed m else m)
          → MaySettle (next_index committed) (members_seen initial appended) (members_seen initial now)
          × ((committed ≡ greater_id logs.cmp last known) ⊎ (next_index committed ≤ suc (members_seen initial appended).committed_at))
      first_settles ordered last known has appended m now committed allowed made known_is now_is =
          pick (id_lt logs.cmp last known) refl known refl allowed made known_is now_is
        where
          pick : (due : Bool) → id_lt logs.cmp last known ≡ due → (o : Option (LogIdOf C)) → known ≡ o
              → (if due then allows_commit logs.cmp (log_id_of appended.effective) known else true) ≡ true
              → m ≡ (if due then after_commit logs.cmp known appended else appended)
              → committed ≡ known_by logs.cmp has (if due then known else last) m
              → now ≡ (if id_lt logs.cmp (if due then known else last) committed then after_commit logs.cmp committed m else m)
              → MaySettle (next_index committed) (members_seen initial appended) (members_seen initial now)
              × ((committed ≡ (if due then known else last))
              ⊎ (next_index committed ≤ suc (members_seen initial appended).committed_at))
          pick false e o is allowed made known_is now_is =
              second initial logs.cmp ordered last committed has appended m now (inl (ap (members_seen initial) made)) (λ less. made)
              known_is now_is
          pick true e None is allowed made known_is now_is = absurd (least last (rw is at e))
            where
              least : (b : Option (LogIdOf C)) → id_lt logs.cmp b None ≡ true → ⊥
              least None h = cc
              least (Some x) h = cc
          pick true e (Some u) is allowed made known_is now_is =
              second initial logs.cmp ordered known committed has appended m now
              (subst (λ (o : Option (LogIdOf C)). MaySettle (next_index o) (members_seen initial appended) (members_seen initial m))
              (sym is)
              (subst (λ (x : Memberships C K N). MaySettle (next_index (Some u)) (members_seen initial appended) (members_seen initial x))
              (sym (made ∙ ap (λ (o : Option (LogIdOf C)). after_commit logs.cmp o appended) is))
              (commit_seen initial logs.cmp true u appended (next_index (Some u)) (λ yes. rw is at allowed) (omega arith))))
              (λ less. unsettled less (commits logs.cmp known appended) refl made) known_is now_is
            where
              -- if the effective one was committed, nothing more is known by it
              unsettled : id_lt logs.cmp known (log_id_of m.committed) ≡ true → (b : Bool) → commits logs.cmp known appended ≡ b
                  → m ≡ (if b then record { committed = appended.effective; effective = appended.effective } else appended)
                  → m ≡ appended
              unsettled less true c made_is =
                  let at : log_id_of m.committed ≡ log_id_of appended.effective =
                  ap (λ (x : Memberships C K N). log_id_of x.committed) made_is in
                  absurd (ordered.both known (log_id_of appended.effective) (rw at at less) c)
              unsettled less false c made_is = made_is

  pub restart_named : (meta : SnapshotMetaOf C K N) (es : List (EntryOf C K N D)) (known before : Option (LogIdOf C))
      (m : Memberships C K N) (s : RaftStateIn K N I L C)
      → ((last : LogIdOf C) → meta.last_log_id ≡ Some last → Named meta.last_membership) → AppendsStored logs.cmp eq same meta es known m
      → CommitsKnown logs.eq logs.cmp before m s → AreNamed s.membership_state
  restart_named meta es known before m s is a knows =
      subst (λ (x : Memberships C K N). AreNamed x) (sym knows.memberships)
      (named_commit logs.cmp (id_lt logs.cmp before s.committed) s.committed m
      (subst (λ (x : Memberships C K N). AreNamed x) (sym a.4)
      (named_commit logs.cmp (id_lt logs.cmp meta.last_log_id known) known a.1
      (named_appends eq same (λ e. e.log_id) (λ e. payload_membership e.payload) es a.0 a.1 a.3
      (record {
        committed = at meta.last_log_id refl (a.0).committed (a.2).0;
        effective = at meta.last_log_id refl (a.0).effective (a.2).1;
      })))))
    where
      at : (last : Option (LogIdOf C)) → meta.last_log_id ≡ last → (x : StoredMembershipOf C K N)
          → IsMembershipAt eq same last meta.last_membership x → Named x
      at None e x is_none = λ _. ap (λ (l : MemberList K N). l.configs) is_none.membership
      at (Some last) e x is_copy = λ none. one (membership_of meta.last_membership) (membership_of x) is_copy.1
          ∙ is last e (sym is_copy.0 ∙ none)
