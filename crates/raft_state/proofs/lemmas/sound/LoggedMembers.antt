-- Memberships that are in the log or purged, and what the calls of a state leave of them.
use Rattle.std.proofs.Common.{◌≡◌, ℕ, suc, ◌+◌, ◌≤◌, Bool, true, false, List, [], ◌∷◌, Option, Some, None, if◌then◌else◌, map, nat_le, refl, sym, arith, true≢false, ◌∙◌}
use Rattle.std.proofs.lemmas.Bool.{and_parts, or_right}
use Rattle.std.proofs.lemmas.Bool.Decides.{nat_tests}
use Rattle.std.specs.declared.cmp.Ordering.{Ordering}
use Rattle.std.specs.Cmp.{IsEquivalence, IsTotalOrder}
use Rattle.std.specs.Option.{option_cmp}
use Rattle.raft_base.specs.LogId.{id_le, id_lt, log_id_cmp, next_index}
use Rattle.raft_base.specs.LogIdLawful.{optional-log_id_cmp-total}
use Rattle.raft_base.specs.declared.log_id.LogIdOf.{LogIdOf}
use Rattle.raft_members.specs.membership.Members.{MemberList}
use Rattle.raft_members.specs.membership.Stored.{log_id_of}
use Rattle.raft_members.specs.declared.membership.stored.StoredMembershipOf.{StoredMembershipOf}
use Rattle.raft_progress.proofs.lemmas.OrderLemmas.{AtMost-from_lt, le_lt, not_lt-from_AtMost}
use Rattle.raft_state.proofs.lemmas.log_id_list.IdOrderLemmas.{then_less}
use Rattle.raft_state.proofs.lemmas.log_id_list.OrderLemmas.{From}
use Rattle.raft_state.proofs.lemmas.sound.LoggedIds.{ends_not_past, extension_keeps, front_keeps, in_log, purge_keeps, purged_or_in, same_itself}
use Rattle.raft_state.specs.raft_state.Appended.{AppendsMemberships}
use Rattle.raft_state.specs.log_id_list.FullLog.{first_index}
use Rattle.raft_state.specs.log_id_list.LogConditions.{all_follow, follows}
use Rattle.raft_state.specs.log_id_list.LogEdits.{front, log_after_purge}
use Rattle.raft_state.specs.log_id_list.LogKept.{HasIds, KeepsIds}
use Rattle.raft_state.specs.membership_state.MembershipMoves.{after_append, after_commit, after_truncate, commits, is_cut, is_effective_committed}
use Rattle.raft_state.specs.membership_state.Memberships.{Memberships}

-- both memberships are in this log or purged, and the effective one is committed once its log id is
pub record AreKept {C K N : Type 0} (eq : C → C → Bool) (cmp : C → C → Ordering) (next : ℕ) (log : List (LogIdOf C))
    (upto : Option (LogIdOf C)) (m : Memberships C K N) : Type 0 where
  pub committed : purged_or_in eq next log (log_id_of m.committed) ≡ true
  pub effective : purged_or_in eq next log (log_id_of m.effective) ≡ true
  pub known : id_le cmp (log_id_of m.effective) upto ≡ true → is_effective_committed eq m ≡ true

module _ {C K N : Type 0} (eq : C → C → Bool) (cmp : C → C → Ordering) (eqs : IsEquivalence eq) where
  -- one membership alone is the committed one
  pub alone : (next : ℕ) (log : List (LogIdOf C)) (upto : Option (LogIdOf C)) (stored : StoredMembershipOf C K N)
      → purged_or_in eq next log (log_id_of stored) ≡ true
      → AreKept eq cmp next log upto (record { committed = stored; effective = stored })
  alone next log upto stored h = record { committed = h; effective = h; known = λ le. same_itself eq eqs (log_id_of stored) }

  pub cut_members : (next : ℕ) (log : List (LogIdOf C)) (upto : Option (LogIdOf C)) (since : ℕ) (m : Memberships C K N)
      → next_index (log_id_of m.committed) ≤ since → AreKept eq cmp next log upto m
      → AreKept eq cmp next (front log since) upto (after_truncate since m)
  cut_members next log upto since m past kept = by (is_cut since m) refl
    where
      stays : purged_or_in eq next (front log since) (log_id_of m.committed) ≡ true
      stays = front_keeps eq next log since (log_id_of m.committed) past kept.committed

      by : (t : Bool) → t ≡ is_cut since m
          → AreKept eq cmp next (front log since) upto
          (let new : Memberships C K N = (if t then record { committed = m.committed; effective = m.committed } else m) in new)
      by true e = alone next (front log since) upto m.committed stays
      by false e = record {
        committed = stays;
        effective = front_keeps eq next log since (log_id_of m.effective) (ends_not_past (log_id_of m.effective) since (sym e))
            kept.effective;
        known = kept.known;
      }

  pub commit_members : (next : ℕ) (log : List (LogIdOf C)) (old upto : Option (LogIdOf C)) (m : Memberships C K N)
      → AreKept eq cmp next log old m → AreKept eq cmp next log upto (after_commit cmp upto m)
  commit_members next log old upto m kept = by (commits cmp upto m) refl
    where
      by : (t : Bool) → t ≡ commits cmp upto m
          → AreKept eq cmp next log upto
          (let new : Memberships C K N = (if t then record { committed = m.effective; effective = m.effective } else m) in new)
      by true e = alone next log upto m.effective kept.effective
      by false e = record {
        committed = kept.committed;
        effective = kept.effective;
        known = λ le. absurd (true≢false (sym le ∙ sym e));
      }

  pub purge_members : (next : ℕ) (log : List (LogIdOf C)) (upto : Option (LogIdOf C)) (id : LogIdOf C) (m : Memberships C K N)
      → From (first_index log) log → next ≤ id.index + 1 → AreKept eq cmp next log upto m
      → AreKept eq cmp (id.index + 1) (log_after_purge log id) upto m
  purge_members next log upto id m row le kept = record {
    committed = purge_keeps eq next log id (log_id_of m.committed) row le kept.committed;
    effective = purge_keeps eq next log id (log_id_of m.effective) row le kept.effective;
    known = kept.known;
  }

  pub extend_members : (b next : ℕ) (old new : List (LogIdOf C)) (upto : Option (LogIdOf C)) (m : Memberships C K N)
      → From b old → KeepsIds eq old new → AreKept eq cmp next old upto m → AreKept eq cmp next new upto m
  extend_members b next old new upto m row keeps kept = record {
    committed = extension_keeps eq eqs b next old new (log_id_of m.committed) row keeps kept.committed;
    effective = extension_keeps eq eqs b next old new (log_id_of m.effective) row keeps kept.effective;
    known = kept.known;
  }

module _ {C K N E : Type 0} (eq : C → C → Bool) (cmp : C → C → Ordering) (eqs : IsEquivalence eq) (total : IsTotalOrder cmp)
    (eq_id : K → K → Bool) (same : N → N → Bool) (id_of : E → LogIdOf C) (membership : E → Option (MemberList K N)) where
  -- a log id that may come next is above the last one
  next_above : (last : Option (LogIdOf C)) (id : LogIdOf C) → follows cmp last id ≡ true → id_lt cmp last (Some id) ≡ true
  next_above None id h = refl
  next_above (Some l) id h =
      let b = and_parts _ _ h in let b0 = b.0 in then_less (cmp l.leader_id id.leader_id) l.index id.index b.1 (grind (arith, nat_tests))

  -- and so are the memberships of entries that a log has, above what is committed
  pub append_members : (next : ℕ) (log : List (LogIdOf C)) (upto last : Option (LogIdOf C)) (es : List E) (old new : Memberships C K N)
      → id_le cmp upto last ≡ true → all_follow cmp last (map id_of es) ≡ true → HasIds eq (map id_of es) log
      → AppendsMemberships eq_id same id_of membership es old new → AreKept eq cmp next log upto old
      → AreKept eq cmp next log upto new
  append_members next log upto last [] old new low follow has is kept = rw is kept
  append_members next log upto last (e ∷ es) old new low follow has is kept =
      by (membership e) refl (λ m rest step. append_members next log upto (Some (id_of e)) es m new
      (AtMost-from_lt (option_cmp (log_id_cmp cmp)) upto (Some (id_of e)) above) b.1 (λ n id at. has (suc n) id at) rest step)
    where
      b : (follows cmp last (id_of e) ≡ true) × (all_follow cmp (Some (id_of e)) (map id_of es) ≡ true)
      b = and_parts _ _ follow

      above : id_lt cmp upto (Some (id_of e)) ≡ true
      above = le_lt (optional-log_id_cmp-total total) upto last (Some (id_of e)) low (next_above last (id_of e) b.0)

      by : (o : Option (MemberList K N)) → membership e ≡ o
          → ((m : Memberships C K N) → AppendsMemberships eq_id same id_of membership es m new → AreKept eq cmp next log upto m
          → AreKept eq cmp next log upto new)
          → AreKept eq cmp next log upto new
      by None stores later = later old (rw stores at is) kept
      by (Some w) stores later =
          let one = rw stores at is in
          let stored = one.0 in
          let at : log_id_of one.0 ≡ Some (id_of e) = one.1.0 in
          let here : in_log eq log (Some (id_of e)) ≡ true = has 0 (id_of e) refl in
          let inside : purged_or_in eq next log (log_id_of one.0) ≡ true =
          rw at (or_right (nat_le (next_index (Some (id_of e))) next) (in_log eq log (Some (id_of e))) here) in
          let less : id_lt cmp upto (log_id_of one.0) ≡ true = rw at above in
          later (after_append one.0 old) one.2 (record {
            committed = kept.effective;
            effective = inside;
            known = λ le. absurd (true≢false (sym less ∙ not_lt-from_AtMost (optional-log_id_cmp-total total) (log_id_of one.0) upto le));
          })
