-- Entries whose memberships follow one another, and what they leave.
use Rattle.std.proofs.Common.{◌≡◌, ℕ, ◌+◌, ◌-◌, Bool, true, false, ◌&&◌, List, [], ◌∷◌, ◌++◌, Option, Some, None, is_some, nat_eq, refl, sym, ap, arith, ◌∙◌}
use Rattle.std.proofs.lemmas.Bool.{and_parts}
use Rattle.std.proofs.lemmas.Bool.Decides.{nat_tests}
use Rattle.std.proofs.lemmas.List.{append-nil}
use Rattle.std.specs.declared.cmp.Ordering.{Ordering}
use Rattle.std.specs.List.{list_any}
use Rattle.std.specs.Option.{option_cmp}
use Rattle.std.specs.Ordering.{nat_cmp}
use Rattle.raft_base.specs.LogId.{id_le, id_lt, index_of, log_id_cmp, next_index}
use Rattle.raft_base.specs.LogIndex.{index_le, index_lt}
use Rattle.raft_base.specs.Validate.{first_false}
use Rattle.raft_base.specs.declared.log_id.LogIdOf.{LogIdOf}
use Rattle.raft_members.specs.membership.Members.{MemberList}
use Rattle.raft_members.specs.membership.Stored.{log_id_of}
use Rattle.raft_members.specs.declared.membership.stored.StoredMembershipOf.{StoredMembershipOf}
use Rattle.raft_progress.proofs.lemmas.OrderLemmas.{AtMost-from_lt}
use Rattle.raft_state.proofs.lemmas.validate.RelationLemmas.{hold_all}
use Rattle.raft_state.proofs.lemmas.log_id_list.KeptLemmas.{last_of_parts}
use Rattle.raft_state.specs.raft_state.Appended.{AppendsMemberships, IsStoredBy, are_consecutive, begins_at_zero, last_stored, memberships_follow}
use Rattle.raft_state.specs.log_id_list.FullLog.{end_index}
use Rattle.raft_state.specs.log_id_list.LogEdits.{log_after_append, log_after_extend, missing_ids}
use Rattle.raft_state.specs.log_id_list.LogReads.{last_id}
use Rattle.raft_state.specs.membership_state.MembershipMoves.{after_append}
use Rattle.raft_state.specs.membership_state.MembershipRelations.{membership_relations}
use Rattle.raft_state.specs.membership_state.Memberships.{Memberships, index_at}

module _ {C K N E : Type 0} (cmp : C → C → Ordering) (id_of : E → LogIdOf C) (membership : E → Option (MemberList K N)) where
  -- a membership follows the last one, and those after it follow it
  pub one_follows : (last : Option (LogIdOf C)) (e : E) (es : List E) (w : MemberList K N) → membership e ≡ Some w
      → memberships_follow cmp id_of (λ x. is_some (membership x)) last (e ∷ es) ≡ true
      → (id_lt cmp last (Some (id_of e)) && index_lt (index_of last) (Some (id_of e).index) ≡ true)
      × (memberships_follow cmp id_of (λ x. is_some (membership x)) (Some (id_of e)) es ≡ true)
  one_follows last e es w stores follow = and_parts _ _ (rw stores at follow)

  -- an entry without a membership is passed over
  pub none_follows : (last : Option (LogIdOf C)) (e : E) (es : List E) → membership e ≡ None
      → memberships_follow cmp id_of (λ x. is_some (membership x)) last (e ∷ es) ≡ true
      → memberships_follow cmp id_of (λ x. is_some (membership x)) last es ≡ true
  none_follows last e es stores follow = rw stores at follow

module _ {C K N E : Type 0} (eq : K → K → Bool) (same : N → N → Bool) (id_of : E → LogIdOf C)
    (membership : E → Option (MemberList K N)) where
  -- the membership of an entry becomes effective, and then those of the entries after it
  pub one_appended : (e : E) (es : List E) (w : MemberList K N) (stored : StoredMembershipOf C K N) (old new : Memberships C K N)
      → membership e ≡ Some w
      → IsStoredBy eq same (id_of e) w stored → AppendsMemberships eq same id_of membership es (after_append stored old) new
      → AppendsMemberships eq same id_of membership (e ∷ es) old new
  one_appended e es w stored old new stores is rest = rw stores (stored, is, rest)

  pub none_appended : (e : E) (es : List E) (old new : Memberships C K N) → membership e ≡ None
      → AppendsMemberships eq same id_of membership es old new → AppendsMemberships eq same id_of membership (e ∷ es) old new
  none_appended e es old new stores rest = rw stores rest

module _ {C K N E : Type 0} (eq : K → K → Bool) (same : N → N → Bool) (id_of : E → LogIdOf C)
    (membership : E → Option (MemberList K N)) where
  -- if no entry stores a membership, all stay as they are
  pub none_stored : (es : List E) (m : Memberships C K N) → list_any (λ e. is_some (membership e)) es ≡ false
      → AppendsMemberships eq same id_of membership es m m
  none_stored [] m none = refl
  none_stored (e ∷ es) m none = by (membership e) refl (none_stored es m)
    where
      by : (o : Option (MemberList K N)) → membership e ≡ o
          → (list_any (λ x. is_some (membership x)) es ≡ false → AppendsMemberships eq same id_of membership es m m)
          → AppendsMemberships eq same id_of membership (e ∷ es) m m
      by None stores later = none_appended eq same id_of membership e es m m stores (later (rw stores at none))
      by (Some w) stores later = let some : true ≡ false = rw stores at none in cc

  -- the effective membership is the one of the last entry that stores one
  pub last_effective : (es : List E) (m new : Memberships C K N) → AppendsMemberships eq same id_of membership es m new
      → log_id_of new.effective ≡ last_stored id_of (λ e. is_some (membership e)) (log_id_of m.effective) es
  last_effective [] m new is = rw is refl
  last_effective (e ∷ es) m new is = by (membership e) refl (λ m rest. last_effective es m new rest)
    where
      by : (o : Option (MemberList K N)) → membership e ≡ o
          → ((m : Memberships C K N) → AppendsMemberships eq same id_of membership es m new
          → log_id_of new.effective ≡ last_stored id_of (λ x. is_some (membership x)) (log_id_of m.effective) es)
          → log_id_of new.effective ≡ last_stored id_of (λ x. is_some (membership x)) (log_id_of m.effective) (e ∷ es)
      by None stores later = rw stores (later m (rw stores at is))
      by (Some w) stores later =
          let one = rw stores at is in
          let at : log_id_of one.0 ≡ Some (id_of e) = one.1.0 in
          let last = later (after_append one.0 m) one.2 in
          rw stores (rw at at last)

zero_first : (i : ℕ) → nat_eq i 0 ≡ true → index_le (Some i) (Some 0) ≡ true
zero_first i h = grind (arith, nat_tests)

-- log ids whose indexes go on from the end of a log begin an empty one at index 0
pub begins_zero : {C : Type 0} (log ids : List (LogIdOf C)) → are_consecutive (last_id log) ids ≡ true → begins_at_zero log ids ≡ true
begins_zero [] [] h = refl
begins_zero [] (id ∷ ids) h =
    let first = (and_parts (nat_eq id.index 0) (are_consecutive (Some id) ids) h).0 in zero_first id.index first
begins_zero (x ∷ log) ids h = refl

-- and leave out no index
none_missing : {C : Type 0} (log : List (LogIdOf C)) (i : ℕ) → i ≡ end_index log → missing_ids log i ≡ []
none_missing [] i h = refl
none_missing (k ∷ []) i h = let z : i - (k.index + 1) ≡ 0 = omega arith in rw z refl
none_missing (k ∷ l ∷ ks) i h = none_missing (l ∷ ks) i h

then_more : {C : Type 0} (log ids : List (LogIdOf C)) (id : LogIdOf C) → (log ++ id ∷ []) ++ ids ≡ log ++ id ∷ ids
then_more [] ids id = refl
then_more (x ∷ log) ids id = ap (λ more. x ∷ more) (then_more log ids id)

pub log_and_more : {C : Type 0} (log ids : List (LogIdOf C)) → are_consecutive (last_id log) ids ≡ true
    → log_after_extend log ids ≡ log ++ ids
log_and_more log [] h = sym (append-nil log)
log_and_more {C} log (id ∷ ids) h =
    let b = and_parts (nat_eq id.index (next_index (last_id log))) (are_consecutive (Some id) ids) h in let b0 = b.0 in
    let at : id.index ≡ end_index log = grind (arith, nat_tests) in
    let one : log_after_append log id ≡ log ++ id ∷ [] = rw (none_missing log id.index at, append-nil log) refl in
    let more = log_and_more (log ++ id ∷ []) ids (rw (last_of_parts log id) b.1) in
    rw one (more ∙ then_more log ids id)

-- a membership under a greater log id and index, after the effective one
one_stays : {C K N : Type 0} (cmp : C → C → Ordering) (id : LogIdOf C) (stored : StoredMembershipOf C K N) (m : Memberships C K N)
    → log_id_of stored ≡ Some id
    → (id_lt cmp (log_id_of m.effective) (Some id) && index_lt (index_of (log_id_of m.effective)) (Some id.index) ≡ true)
    → first_false (membership_relations cmp (after_append stored m)) ≡ None
one_stays cmp id stored m is follows =
    let up = and_parts _ _ follows in
    let low : id_le cmp (log_id_of m.effective) (log_id_of stored) ≡ true =
    rw is (AtMost-from_lt (option_cmp (log_id_cmp cmp)) (log_id_of m.effective) (Some id) up.0) in
    let index : index_le (index_at m.effective) (index_at stored) ≡ true =
    rw is (AtMost-from_lt (option_cmp nat_cmp) (index_at m.effective) (Some id.index) up.1) in
    hold_all _ _ _ low (hold_all _ _ _ index refl)

-- valid memberships stay valid
pub appended_stay : {C K N E : Type 0} (cmp : C → C → Ordering) (eq : K → K → Bool) (same : N → N → Bool) (id_of : E → LogIdOf C)
    (membership : E → Option (MemberList K N))
    → (es : List E) (m new : Memberships C K N)
    → memberships_follow cmp id_of (λ x. is_some (membership x)) (log_id_of m.effective) es ≡ true
    → AppendsMemberships eq same id_of membership es m new → first_false (membership_relations cmp m) ≡ None
    → first_false (membership_relations cmp new) ≡ None
appended_stay cmp eq same id_of membership [] m new follow appends valid = rw appends valid
appended_stay {C} {K} {N} {E} cmp eq same id_of membership (e ∷ es) m new follow appends valid =
    by (membership e) refl (λ m follow appends valid. appended_stay cmp eq same id_of membership es m new follow appends valid)
  where
    by : (o : Option (MemberList K N)) → membership e ≡ o
        → ((m : Memberships C K N) → memberships_follow cmp id_of (λ x. is_some (membership x)) (log_id_of m.effective) es ≡ true
        → AppendsMemberships eq same id_of membership es m new → first_false (membership_relations cmp m) ≡ None
        → first_false (membership_relations cmp new) ≡ None)
        → first_false (membership_relations cmp new) ≡ None
    by None stores later = later m (none_follows cmp id_of membership (log_id_of m.effective) e es stores follow) (rw stores at appends)
        valid
    by (Some w) stores later =
        let one = rw stores at appends in
        let follows = one_follows cmp id_of membership (log_id_of m.effective) e es w stores follow in
        let is : log_id_of one.0 ≡ Some (id_of e) = one.1.0 in
        later (after_append one.0 m) (rw is follows.1) one.2 (one_stays cmp (id_of e) one.0 m is follows.0)
