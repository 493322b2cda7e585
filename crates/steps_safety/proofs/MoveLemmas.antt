-- The memberships of a state as the views have them, and their moves.
use Rattle.std.specs.Prelude.{◌≡◌, ◌<◌, ◌≤◌, ◌-◌, ℕ, Bool, true, false, nat_lt, Option, Some, None, List, [], ◌∷◌, map, if◌then◌else◌}
use Rattle.std.specs.Option.{option_map}
use Rattle.std.specs.declared.cmp.Ordering.{Ordering}
use Rattle.std.proofs.Common.{refl, sym, ap, subst, ◌∙◌, inl, inr, arith}
use Rattle.std.proofs.lemmas.Bool.Decides.{nat_tests}
use Rattle.raft_base.specs.LogId.{id_lt, index_of}
use Rattle.raft_base.specs.LogIndex.{index_le}
use Rattle.raft_base.specs.declared.log_id.LogIdOf.{LogIdOf}
use Rattle.raft_members.specs.membership.Members.{MemberList}
use Rattle.raft_members.specs.membership.Stored.{log_id_of, membership_of}
use Rattle.raft_members.specs.declared.membership.stored.StoredMembershipOf.{StoredMembershipOf}
use Rattle.raft_state.specs.membership_state.MembershipMoves.{after_append, after_commit, after_truncate, after_update_committed, commits, is_covered, is_cut, may_commit}
use Rattle.raft_state.specs.membership_state.Memberships.{Memberships, index_at}
use Rattle.raft_state.specs.raft_state.Appended.{AppendsMemberships, IsStoredBy}
use Rattle.safety_laws.specs.Ranks.{IsAmong}
use Rattle.steps_safety.proofs.Members.{Members, after_cut, after_ids, after_member}
use Rattle.steps_safety.proofs.Views.{AfterUpdate, MaySettle}

-- the index of the entry that holds a membership, 0 if none does
abbrev pub seen_at : {C : Type 0} → Option (LogIdOf C) → ℕ
seen_at None = 0
seen_at (Some id) = id.index

-- a server that has no membership yet is seen with the initial one
abbrev pub seen_configs : {C K : Type 0} → List (List K) → Option (LogIdOf C) → List (List K) → List (List K)
seen_configs initial None configs = initial
seen_configs initial (Some id) configs = configs

-- the memberships of a state as the views have them
abbrev pub members_seen : {C K N : Type 0} → List (List K) → Memberships C K N → Members (List (List K))
members_seen initial m = record {
  committed = seen_configs initial (log_id_of m.committed) (membership_of m.committed).configs;
  committed_at = seen_at (log_id_of m.committed);
  effective = seen_configs initial (log_id_of m.effective) (membership_of m.effective).configs;
  effective_at = seen_at (log_id_of m.effective);
}

same_bool : (a b : Bool) → (a ≡ true → b ≡ true) → (b ≡ true → a ≡ true) → a ≡ b
same_bool true true f g = refl
same_bool true false f g = sym (f refl)
same_bool false true f g = g refl
same_bool false false f g = refl

module _ {C : Type 0} where
  cut_same : (since : ℕ) (o : Option (LogIdOf C)) → 0 < since
      → index_le (Some since) (index_of o) ≡ nat_lt (since - 1) (seen_at o)
  cut_same since None pos = same_bool false (nat_lt (since - 1) 0) (λ h. cc) (λ h. absurd (grind (arith, nat_tests)))
  cut_same since (Some id) pos =
      same_bool (index_le (Some since) (Some id.index)) (nat_lt (since - 1) id.index) (λ h. grind (arith, nat_tests))
      (λ h. grind (arith, nat_tests))

module _ {C K N : Type 0} (initial : List (List K)) where
  pub truncates : (since : ℕ) (m : Memberships C K N) → 0 < since
      → members_seen initial (after_truncate since m) ≡ after_cut (since - 1) (members_seen initial m)
  truncates since m pos = by (is_cut since m) (cut_same since (log_id_of m.effective) pos)
    where
      by : (b : Bool) → b ≡ nat_lt (since - 1) (seen_at (log_id_of m.effective))
          → members_seen initial (if b then record { committed = m.committed; effective = m.committed } else m)
          ≡ after_cut (since - 1) (members_seen initial m)
      by true e = rw (sym e) refl
      by false e = rw (sym e) refl

  pub appends : {E : Type 0} (eq : K → K → Bool) (same : N → N → Bool) (id_of : E → LogIdOf C)
      (membership : E → Option (MemberList K N)) (holds : LogIdOf C → Option (List (List K))) (es : List E)
      (old new : Memberships C K N)
      → ((e : E) → IsAmong e es → holds (id_of e) ≡ option_map (λ m. m.configs) (membership e))
      → AppendsMemberships eq same id_of membership es old new
      → members_seen initial new ≡ after_ids holds (map id_of es) (members_seen initial old)
  appends eq same id_of membership holds [] old new all a = ap (members_seen initial) a
  appends {E} eq same id_of membership holds (e ∷ es) old new all a =
      by (membership e) refl (λ mid b. appends eq same id_of membership holds es mid new (λ x among. all x (inr among)) b)
    where
      moved : (w : MemberList K N) (stored : StoredMembershipOf C K N) → log_id_of stored ≡ Some (id_of e)
          → (membership_of stored).configs ≡ w.configs
          → members_seen initial (after_append stored old)
          ≡ after_member (id_of e).index (Some w.configs) (members_seen initial old)
      moved w stored is configs = rw (is, configs) refl

      by : (o : Option (MemberList K N)) → membership e ≡ o
          → ((mid : Memberships C K N) → AppendsMemberships eq same id_of membership es mid new
          → members_seen initial new ≡ after_ids holds (map id_of es) (members_seen initial mid))
          → members_seen initial new
          ≡ after_ids holds (map id_of es) (after_member (id_of e).index (holds (id_of e)) (members_seen initial old))
      by None h rest =
          let b : AppendsMemberships eq same id_of membership es old new = rw h at a in
          let held : holds (id_of e) ≡ None = all e (inl refl) ∙ ap (option_map (λ m. m.configs)) h in
          rw held (rest old b)
      by (Some w) h rest =
          let b : (stored : StoredMembershipOf C K N) × IsStoredBy eq same (id_of e) w stored
          × AppendsMemberships eq same id_of membership es (after_append stored old) new = rw h at a in
          let held : holds (id_of e) ≡ Some w.configs = all e (inl refl) ∙ ap (option_map (λ m. m.configs)) h in
          rw held (rest (after_append b.0 old) b.2 ∙ ap (after_ids holds (map id_of es)) (moved w b.0 (b.1).0 (b.1).2))

  pub commit_seen : (cmp : C → C → Ordering) (is_due : Bool) (upto : LogIdOf C) (m : Memberships C K N) (next : ℕ)
      → (is_due ≡ true → may_commit cmp (Some upto) m ≡ true) → upto.index < next
      → MaySettle next (members_seen initial m) (members_seen initial (if is_due then after_commit cmp (Some upto) m else m))
  commit_seen cmp false upto m next may lt = inl refl
  commit_seen cmp true upto m next may lt = by (commits cmp (Some upto) m) (may refl)
    where
      low : (o : Option (LogIdOf C)) → index_le (index_of o) (Some upto.index) ≡ true → seen_at o < next
      low None h = omega (arith, lt)
      low (Some id) h = let le : id.index ≤ upto.index = grind (arith, nat_tests) in omega (arith, le, lt)

      by : (b : Bool) → (if b then index_le (index_at m.effective) (Some upto.index) else true) ≡ true
          → MaySettle next (members_seen initial m)
          (members_seen initial (if b then record { committed = m.effective; effective = m.effective } else m))
      by true h = inr (refl, low (log_id_of m.effective) h)
      by false h = inl refl

  pub update_seen : (cmp : C → C → Ordering) (new : StoredMembershipOf C K N) (upto : ℕ) (m : Memberships C K N)
      → index_le (index_at new) (Some upto) ≡ true
      → (id_lt cmp (log_id_of m.committed) (log_id_of new) ≡ true
      → index_le (index_at m.committed) (index_at new) ≡ true)
      → AfterUpdate upto (seen_at (log_id_of new))
      (seen_configs initial (log_id_of new) (membership_of new).configs)
      (members_seen initial m) (members_seen initial (after_update_committed cmp new upto m))
  update_seen cmp new upto m fits order = by (is_covered upto m) refl
    where
      Result : Bool → Type 0
      Result b =
          AfterUpdate upto (seen_at (log_id_of new))
          (seen_configs initial (log_id_of new) (membership_of new).configs) (members_seen initial m)
          (members_seen initial (if b then record { committed = new; effective = new }
          else record {
            committed = if id_lt cmp (log_id_of m.committed) (log_id_of new) then new else m.committed;
            effective = if index_le (index_at m.effective) (index_at new) then new else m.effective;
          }))

      low : (o : Option (LogIdOf C)) → index_le (index_of o) (Some upto) ≡ true → seen_at o ≤ upto
      low None h = omega arith
      low (Some id) h = grind (arith, nat_tests)

      high : (o : Option (LogIdOf C)) → index_le (index_of o) (Some upto) ≡ false → upto < seen_at o
      high None h = cc
      high (Some id) h = grind (arith, nat_tests)

      le_seen : (a b : Option (LogIdOf C)) → index_le (index_of a) (index_of b) ≡ true
          → seen_at a ≤ seen_at b
      le_seen None b h = omega arith
      le_seen (Some x) None h = cc
      le_seen (Some x) (Some y) h = grind (arith, nat_tests)

      by : (b : Bool) → is_covered upto m ≡ b → Result b
      by true e = inl (low (log_id_of m.effective) e, refl)
      by false e =
          stays (index_le (index_at m.effective) (index_at new)) refl (id_lt cmp (log_id_of m.committed) (log_id_of new)) refl
        where
          past : upto < seen_at (log_id_of m.effective)
          past = high (log_id_of m.effective) e

          stays : (c : Bool) → index_le (index_at m.effective) (index_at new) ≡ c → (d : Bool)
              → id_lt cmp (log_id_of m.committed) (log_id_of new) ≡ d
              → AfterUpdate upto (seen_at (log_id_of new))
              (seen_configs initial (log_id_of new) (membership_of new).configs) (members_seen initial m)
              (members_seen initial (record {
                committed = if d then new else m.committed;
                effective = if c then new else m.effective;
              }))
          stays true g d h =
              absurd (omega (arith, past, le_seen (log_id_of m.effective) (log_id_of new) g, low (log_id_of new) fits))
          stays false g true h = inr (past, inr (le_seen (log_id_of m.committed) (log_id_of new) (order h), refl))
          stays false g false h = inr (past, inl refl)

-- ---- no membership without an entry that holds it

-- a membership that no entry holds has no configs
abbrev pub Named : {C K N : Type 0} → StoredMembershipOf C K N → Type 0
Named m = log_id_of m ≡ None → (membership_of m).configs ≡ []

pub record AreNamed {C K N : Type 0} (m : Memberships C K N) : Type 0 where
  pub committed : Named m.committed
  pub effective : Named m.effective

pub named_some : {C K N : Type 0} (stored : StoredMembershipOf C K N) (id : LogIdOf C) → log_id_of stored ≡ Some id → Named stored
named_some stored id e none = absurd (none_some (sym none ∙ e))
  where
    none_some : None ≡ Some id → ⊥
    none_some f = cc

module _ {C K N : Type 0} where
  pub named_append : (stored : StoredMembershipOf C K N) (m : Memberships C K N) → Named stored → AreNamed m
      → AreNamed (after_append stored m)
  named_append stored m is are = record { committed = are.effective; effective = is }

  pub named_cut : (b : Bool) (since : ℕ) (m : Memberships C K N) → AreNamed m
      → AreNamed (if b then m else after_truncate since m)
  named_cut true since m are = are
  named_cut false since m are = by (is_cut since m)
    where
      by : (b : Bool) → AreNamed (if b then record { committed = m.committed; effective = m.committed } else m)
      by true = record { committed = are.committed; effective = are.committed }
      by false = are

  pub named_commit : (cmp : C → C → Ordering) (b : Bool) (upto : Option (LogIdOf C)) (m : Memberships C K N) → AreNamed m
      → AreNamed (if b then after_commit cmp upto m else m)
  named_commit cmp false upto m are = are
  named_commit cmp true upto m are = by (commits cmp upto m)
    where
      by : (b : Bool) → AreNamed (if b then record { committed = m.effective; effective = m.effective } else m)
      by true = record { committed = are.effective; effective = are.effective }
      by false = are

  pub named_both : (stored : StoredMembershipOf C K N) → Named stored
      → AreNamed (let m : Memberships C K N = record { committed = stored; effective = stored } in m)
  named_both stored is = record { committed = is; effective = is }

  pub named_update : (cmp : C → C → Ordering) (new : StoredMembershipOf C K N) (upto : ℕ) (m : Memberships C K N) → Named new
      → AreNamed m → AreNamed (after_update_committed cmp new upto m)
  named_update cmp new upto m is are =
      by (is_covered upto m) (id_lt cmp (log_id_of m.committed) (log_id_of new)) (index_le (index_at m.effective) (index_at new))
    where
      pick : (b : Bool) (x y : StoredMembershipOf C K N) → Named x → Named y → Named (if b then x else y)
      pick true x y f g = f
      pick false x y f g = g

      by : (a b c : Bool) → AreNamed (if a then record { committed = new; effective = new }
          else record { committed = if b then new else m.committed; effective = if c then new else m.effective })
      by true b c = record { committed = is; effective = is }
      by false b c = record {
        committed = pick b new m.committed is are.committed;
        effective = pick c new m.effective is are.effective;
      }

  pub named_appends : {E : Type 0} (eq : K → K → Bool) (same : N → N → Bool) (id_of : E → LogIdOf C)
      (membership : E → Option (MemberList K N)) (es : List E) (old new : Memberships C K N)
      → AppendsMemberships eq same id_of membership es old new → AreNamed old → AreNamed new
  named_appends eq same id_of membership [] old new a are = subst (λ (m : Memberships C K N). AreNamed m) (sym a) are
  named_appends eq same id_of membership (e ∷ es) old new a are =
      by (membership e) refl (λ mid b named. named_appends eq same id_of membership es mid new b named)
    where
      by : (o : Option (MemberList K N)) → membership e ≡ o → ((mid : Memberships C K N)
          → AppendsMemberships eq same id_of membership es mid new → AreNamed mid → AreNamed new) → AreNamed new
      by None h rest =
          let b : AppendsMemberships eq same id_of membership es old new = rw h at a in
          rest old b are
      by (Some w) h rest =
          let b : (stored : StoredMembershipOf C K N) × IsStoredBy eq same (id_of e) w stored
          × AppendsMemberships eq same id_of membership es (after_append stored old) new = rw h at a in
          rest (after_append b.0 old) b.2
          (named_append b.0 old (named_some b.0 (id_of e) (b.1).0) are)
