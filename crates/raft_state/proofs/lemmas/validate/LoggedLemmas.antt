-- If the purge point is in the log, the log has all its log ids from there on.
use Rattle.std.proofs.Common.{◌≡◌, ℕ, suc, ◌+◌, ◌<◌, ◌≤◌, Bool, true, false, nat_lt, nat_le, ◌==◌, if◌then◌else◌, List, [], ◌∷◌, Option, Some, None, IsTrue, refl, sym, ap, subst, arith, inl, inr, ◌∙◌}
use Rattle.std.specs.Option.{is_some, option_or}
use Rattle.std.specs.declared.cmp.Ordering.{Ordering}
use Rattle.std.specs.Ordering.{nat_cmp, is_le}
use Rattle.std.proofs.lemmas.Option.{same_Some}
use Rattle.std.specs.Cmp.{IsTotalOrder}
use Rattle.std.proofs.lemmas.Bool.{cases_lt}
use Rattle.std.proofs.lemmas.Bool.Decides.{nat_tests}
use Rattle.raft_base.specs.declared.log_id.LogIdOf.{LogIdOf}
use Rattle.raft_state.specs.log_id_list.FullLog.{full_log, first_index, end_index}
use Rattle.raft_state.specs.log_id_list.LogReads.{id_at, first_id, last_id}
use Rattle.raft_state.proofs.lemmas.log_id_list.KeyListLemmas.{IsKeyList, step_keys, tail_keys}
use Rattle.raft_state.proofs.lemmas.log_id_list.FullLogLemmas.{at_full, covering, covers, covers_none}
use Rattle.raft_state.proofs.lemmas.log_id_list.CutLemmas.{last_full, first_full}
use Rattle.raft_state.proofs.lemmas.log_id_list.IdOrderLemmas.{then_less}
use Rattle.raft_progress.proofs.lemmas.OrderLemmas.{AtMost-refl, AtMost-trans}
use Rattle.raft_base.specs.LogId.{next_index, id_le, index_of, same_ids}
use Rattle.raft_base.specs.LogIndex.{index_le}
use Rattle.raft_base.specs.LogView.{LogView, prev_id}
use Rattle.raft_base.specs.Logged.{Logged}
use Rattle.raft_state.specs.raft_state.Valid.{fits_purged_next, none_or_logged}

-- a log of these keys with this purge point
abbrev pub log_of_keys : {C : Type 0} → List (LogIdOf C) → Option (LogIdOf C) → LogView C → LogView C
log_of_keys keys purge rest = record rest { id_at = id_at (full_log keys); last = last_id (full_log keys); purge_upto = purge }

-- the purge point is in the log; if there is none, the log begins at index 0
abbrev pub PurgeIn : {C : Type 0} → List (LogIdOf C) → Option (LogIdOf C) → Type 0
PurgeIn keys None = first_index (full_log keys) ≡ 0
PurgeIn keys (Some upto) = IsTrue (is_some (id_at (full_log keys) upto.index))

whole : {C : Type 0} (k : LogIdOf C) (ks : List (LogIdOf C)) (j : ℕ) → k.index ≤ j
    → covering (k ∷ ks) j ≡ option_or (covering ks j) (Some k)
whole k ks j le = let t : nat_le k.index j ≡ true = grind (arith, nat_tests) in rw t refl

none_some : {A : Type 0} (x : A) → (let o : Option A = None in o) ≡ Some x → ⊥
none_some x h = cc

none_true : {A : Type 0} (o : Option A) → o ≡ None → IsTrue (is_some o) → ⊥
none_true None e h = cc
none_true (Some x) e h = cc

either_none : {A : Type 0} (t : Bool) → (if t then (let o : Option A = None in o) else None) ≡ None
either_none true = refl
either_none false = refl

module _ {C : Type 0} (cmp : C → C → Ordering) (total : IsTotalOrder cmp) where
  -- a later index has no lesser leader
  first_le : (k : LogIdOf C) (ks : List (LogIdOf C)) (j : ℕ) (c : LogIdOf C) → IsKeyList cmp (k ∷ ks) → covering ks j ≡ Some c
      → is_le (cmp k.leader_id c.leader_id) ≡ true
  first_le k [] j c s e = cc
  first_le k (l ∷ ks) j c s e = elim (cases_lt j l.index) [
    | inl below ↦ (let n = covers_none l ks j below in cc)
    | inr past ↦ by_rest (λ d h. first_le l ks j d (tail_keys cmp k l ks s) h) (covering ks j) refl (sym (whole l ks j past) ∙ e)
  ]
    where
      by_rest : ((d : LogIdOf C) → covering ks j ≡ Some d → is_le (cmp l.leader_id d.leader_id) ≡ true) → (o : Option (LogIdOf C))
          → o ≡ covering ks j → option_or o (Some l) ≡ Some c → is_le (cmp k.leader_id c.leader_id) ≡ true
      by_rest more None is e = let f : l ≡ c = cc in
          subst (λ (x : LogIdOf C). is_le (cmp k.leader_id x.leader_id) ≡ true) f (step_keys cmp k l ks s).1
      by_rest more (Some d) is e = let f : d ≡ c = cc in
          subst (λ (x : LogIdOf C). is_le (cmp k.leader_id x.leader_id) ≡ true) f
          (AtMost-trans total k.leader_id l.leader_id d.leader_id (step_keys cmp k l ks s).1 (more d (sym is)))

  rising_le : (ks : List (LogIdOf C)) (i j : ℕ) (a b : LogIdOf C) → IsKeyList cmp ks → covering ks i ≡ Some a → covering ks j ≡ Some b
      → i < j → is_le (cmp a.leader_id b.leader_id) ≡ true
  rising_le [] i j a b s p q lt = cc
  rising_le (k ∷ []) i j a b s p q lt = elim (cases_lt i k.index) [
    | inl below ↦ (let n = covers_none k [] i below in cc)
    | inr past ↦ (let f : k ≡ a = (let w = whole k [] i past in cc) in let g : k ≡ b = (let w = whole k [] j (omega arith) in cc) in
        rw (← f, ← g) (AtMost-refl total k.leader_id))
  ]
  rising_le (k ∷ l ∷ ks) i j a b s p q lt = elim (cases_lt i k.index) [
    | inl early ↦ (let n = covers_none k (l ∷ ks) i early in cc)
    | inr from ↦
        (let wi = whole k (l ∷ ks) i from in let wj = whole k (l ∷ ks) j (omega arith) in
        elim (cases_lt i l.index) [
          | inl below ↦ (let n = covers_none l ks i below in
              let f : k ≡ a = same_Some k a (rw n at (sym wi ∙ p)) in
              elim (cases_lt j l.index) [
                | inl also ↦ (let m = covers_none l ks j also in let g : k ≡ b = same_Some k b (rw m at (sym wj ∙ q)) in
                    rw (← f, ← g) (AtMost-refl total k.leader_id))
                | inr past ↦ (let d = covers l ks j past in let g : d.0 ≡ b = same_Some d.0 b (rw d.1 at (sym wj ∙ q)) in
                    rw (← f) (first_le k (l ∷ ks) j b s (d.1 ∙ ap Some g)))
              ])
          | inr past ↦ (let d = covers l ks i past in let e = covers l ks j (omega arith) in
              let f : d.0 ≡ a = same_Some d.0 a (rw d.1 at (sym wi ∙ p)) in
              let g : e.0 ≡ b = same_Some e.0 b (rw e.1 at (sym wj ∙ q)) in
              rising_le (l ∷ ks) i j a b (tail_keys cmp k l ks s) (d.1 ∙ ap Some f) (e.1 ∙ ap Some g) lt)
        ])
  ]

  last_covers : (k : LogIdOf C) (ks : List (LogIdOf C)) → IsKeyList cmp (k ∷ ks)
      → (y : LogIdOf C) × (last_id (k ∷ ks) ≡ Some y) × (covering (k ∷ ks) y.index ≡ Some y)
  last_covers k [] s = (k, refl, whole k [] k.index (omega arith))
  last_covers k (l ∷ ks) s =
      let q = last_covers l ks (tail_keys cmp k l ks s) in
      let up = (step_keys cmp k l ks s).0 in
      let reached : l.index ≤ q.0.index =
      elim (cases_lt q.0.index l.index) [
        | inl below ↦
            (let n = covers_none l ks q.0.index below in let e = q.2 in absurd (none_some q.0 (sym n ∙ e)))
        | inr past ↦ past
      ] in
      (q.0, q.1, whole k (l ∷ ks) q.0.index (omega arith) ∙ ap (λ (o : Option (LogIdOf C)). option_or o (Some k)) q.2)

  id_here : (ks : List (LogIdOf C)) (j : ℕ) (c : LogIdOf C) → IsKeyList cmp ks → j < end_index ks → covering ks j ≡ Some c
      → id_at (full_log ks) j ≡ Some (record { leader_id = c.leader_id; index = j })
  id_here ks j c s lt e = let t : nat_lt j (end_index ks) ≡ true = grind (arith, nat_tests) in rw (at_full cmp ks j s, t, e) refl

  purge_low : (k : LogIdOf C) (ks : List (LogIdOf C)) (purge : Option (LogIdOf C)) → IsKeyList cmp (k ∷ ks) → PurgeIn (k ∷ ks) purge
      → (k.index ≤ next_index purge) × (next_index purge ≤ end_index (k ∷ ks)) × ((i : ℕ) → next_index purge ≤ i + 1 → k.index ≤ i)
  purge_low k ks None s h =
      let f = first_full cmp (k ∷ ks) s in let z : k.index ≡ 0 = sym f ∙ h in (omega arith, omega arith, λ i le. omega arith)
  purge_low k ks (Some u) s h = elim (cases_lt u.index k.index) [
    | inl below ↦ absurd (none_true (id_at (full_log (k ∷ ks)) u.index)
        (at_full cmp (k ∷ ks) u.index s ∙ rw (covers_none k ks u.index below) (either_none (nat_lt u.index (end_index (k ∷ ks))))) h)
    | inr past ↦ elim (cases_lt u.index (end_index (k ∷ ks))) [
      | inl within ↦ (omega arith, omega arith, λ i le. omega arith)
      | inr out ↦ (let t : nat_lt u.index (end_index (k ∷ ks)) ≡ false = grind (arith, nat_tests) in
          absurd (none_true (id_at (full_log (k ∷ ks)) u.index) (at_full cmp (k ∷ ks) u.index s ∙ rw t refl) h))
    ]
  ]

-- the ids of a key list from the purge point on
pub logged_keys : {C : Type 0} (cmp : C → C → Ordering) (total : IsTotalOrder cmp) (ks : List (LogIdOf C)) (purge : Option (LogIdOf C))
    (rest : LogView C) → IsKeyList cmp ks → PurgeIn ks purge → Logged cmp (log_of_keys ks purge rest)
logged_keys cmp total [] None rest s inside =
    record {
      purged = omega arith;
      has_each = λ i low high. absurd (omega arith);
      rises = λ i j low lt high. absurd (omega arith);
      at_end = refl;
    }
logged_keys cmp total [] (Some u) rest s inside = cc
logged_keys {C} cmp total (k ∷ ks) purge rest s inside =
    let low = purge_low cmp total k ks purge s inside in
    let low1 = low.1 in
    let l : next_index (last_id (full_log (k ∷ ks))) ≡ end_index (k ∷ ks) = ap next_index (last_full cmp (k ∷ ks) s) in
    let y = last_covers cmp total k ks s in
    let n1 : next_index (last_id (k ∷ ks)) ≡ y.0.index + 1 = rw y.1 refl in
    let n2 : next_index (last_id (k ∷ ks)) ≡ end_index (k ∷ ks) = refl in
    let n : end_index (k ∷ ks) ≡ suc y.0.index = omega arith in
    record {
      purged = omega arith;
      has_each = λ i from high. (let c = covers k ks i (low.2 i from) in
          (record { leader_id = c.0.leader_id; index = i }, id_here cmp total (k ∷ ks) i c.0 s (omega arith) c.1, refl));
      rises = λ i j from lt high.
          (let c = covers k ks i (low.2 i from) in let d = covers k ks j (low.2 j (omega arith)) in
          rw (id_here cmp total (k ∷ ks) i c.0 s (omega arith) c.1, id_here cmp total (k ∷ ks) j d.0 s (omega arith) d.1)
          (then_less (cmp c.0.leader_id d.0.leader_id) i j (rising_le cmp total (k ∷ ks) i j c.0 d.0 s c.1 d.1 lt) lt));
      at_end = subst (λ (x : ℕ). prev_id (id_at (full_log (k ∷ ks))) x ≡ last_id (full_log (k ∷ ks))) (sym (l ∙ n))
          (id_here cmp total (k ∷ ks) y.0.index y.0 s (omega arith) y.2 ∙ sym (last_full cmp (k ∷ ks) s ∙ y.1));
    }

at_zero : (i : ℕ) → is_le (nat_cmp i 0) ≡ true → i ≡ 0
at_zero i h = grind (arith, nat_tests)

-- if nothing is to be purged, the log of a valid state begins at index 0
pub begins : {C : Type 0} (cmp : C → C → Ordering) (next : ℕ) (log : List (LogIdOf C)) (t : Bool) → t ≡ (next == 0)
    → (if t then index_le (index_of (first_id log)) (Some 0) else next_index (first_id log) == next) ≡ true
    → id_le cmp (if t then None else first_id log) None ≡ true → first_index log ≡ 0
begins cmp next [] t e h k = refl
begins cmp next (x ∷ xs) true e h k = at_zero x.index h
begins cmp next (x ∷ xs) false e h k = cc

some_there : {C : Type 0} (eq : C → C → Bool) (o : Option (LogIdOf C)) (u : LogIdOf C) → same_ids eq o (Some u) ≡ true → is_some o ≡ true
some_there eq None u h = cc
some_there eq (Some x) u h = refl

-- the purge point of a valid state is in its log, or its log begins at index 0
pub purge_in : {C : Type 0} (cmp : C → C → Ordering) (eq : C → C → Bool) (next : ℕ) (keys : List (LogIdOf C)) (purge : Option (LogIdOf C))
    (rest : LogView C)
    → fits_purged_next next (first_id (full_log keys)) ≡ true
    → id_le cmp (if next == 0 then None else first_id (full_log keys)) purge ≡ true
    → none_or_logged eq (log_of_keys keys purge rest) purge ≡ true → PurgeIn keys purge
purge_in cmp eq next keys None rest h k l = begins cmp next (full_log keys) (next == 0) refl h k
purge_in cmp eq next keys (Some u) rest h k l = some_there eq (id_at (full_log keys) u.index) u l
