-- Logs by their entries, which of two is up to date, and which of two votes is greater.
use Rattle.std.specs.Prelude.{◌≡◌, ◌≤◌, ℕ, zero, suc, Bool, true, false, List, [], ◌∷◌, length, take, slice_get, Option, Some, None, if◌then◌else◌}
use Rattle.std.specs.Ordering.{is_le, nat_cmp, ordering_then}
use Rattle.std.specs.declared.cmp.Ordering.{Ordering}
use Rattle.std.specs.declared.cmp.Ordering.TheVariants.{Less, Equal, Greater}
use Rattle.std.proofs.Common.{refl, sym, ap, ◌∙◌, inl, inr, arith}
use Rattle.std.proofs.lemmas.Bool.{cases_lt}
use Rattle.std.proofs.lemmas.Bool.Decides.{nat_tests}
use mathlib.Core.Bool.{beq}
use Rattle.raft_base.specs.Vote.{by_leader_then_committed, vote_cmp}
use Rattle.raft_base.specs.declared.log_id.LogIdOf.{LogIdOf}
use Rattle.raft_base.specs.declared.vote.VoteIn.{VoteIn}
use Rattle.raft_base.specs.LogId.{id_le}
use Rattle.safety_laws.specs.Log.{Entry, IsUpToDate, last_term, last_term_or}
use Rattle.raft_state.proofs.lemmas.log_id_list.SameLogLemmas.{SameLog}
use Rattle.steps_safety.specs.Server.{AreRanked, IsIdAt, IsLastId, Leaders, State}

pub by_index : (i j : ℕ) → is_le (nat_cmp i j) ≡ true → i ≤ j
by_index i j h = grind (arith, nat_tests)

module _ {C D : Type 0} (rank : C → ℕ) where
  -- the last term of a log is that of its last entry
  pub last_is : (r i : ℕ) (log : List (Entry C D)) (e : Entry C D) → slice_get log i ≡ Some e → length log ≡ suc i
      → last_term_or rank r log ≡ rank e.term
  last_is r i [] e at end = absurd (omega (arith, end))
  last_is r zero (x ∷ []) e at end = cc
  last_is r zero (x ∷ y ∷ log) e at end = absurd (omega (arith, end))
  last_is r (suc i) (x ∷ log) e at end = last_is (rank x.term) i log e at (omega (arith, end))

  -- so is that of each prefix
  pub last_of_take : (r i : ℕ) (log : List (Entry C D)) (e : Entry C D) → slice_get log i ≡ Some e
      → last_term_or rank r (take (suc i) log) ≡ rank e.term
  last_of_take r i [] e at = cc
  last_of_take r zero (x ∷ log) e at = cc
  last_of_take r (suc i) (x ∷ log) e at = last_of_take (rank x.term) i log e at

  pub no_last : (log : List (Entry C D)) → length log ≡ 0 → last_term rank log ≡ 0
  no_last [] e = refl
  no_last (x ∷ log) e = absurd (omega (arith, e))

module _ {L C K D : Type 0} (k : Leaders L C K) (rank : C → ℕ) (leaders : List L) (terms : List C) (first : C)
    (ranked : AreRanked k rank leaders terms first) where
  -- an empty log is behind each log
  empty_behind : (own cand : List (Entry C D)) → length own ≡ 0 → IsUpToDate rank cand own
  empty_behind own cand none = elim (cases_lt 0 (last_term rank cand)) [
    | inl more ↦ inl (let z = no_last rank own none in omega (arith, z, more))
    | inr zero_last ↦ inr (let z = no_last rank own none in (omega (arith, z, zero_last), omega (arith, none)))
  ]

  -- the last log ids of two logs tell which one is up to date
  pub up_to_date : (own cand : List (Entry C D)) (a b : Option (LogIdOf C)) → IsLastId first terms own a
      → IsLastId first terms cand b → id_le k.cmp a b ≡ true → IsUpToDate rank cand own
  up_to_date own cand None b is to_last le = empty_behind own cand is
  up_to_date own cand (Some x) None is to_last le = cc
  up_to_date own cand (Some x) (Some y) is to_last le = by x.index y.index refl refl is.1 to_last.1
    where
      both : (i j : ℕ) → x.index ≡ suc i → y.index ≡ suc j → (e f : Entry C D) → slice_get own i ≡ Some e
          → slice_get cand j ≡ Some f → e.term ≡ x.leader_id → f.term ≡ y.leader_id → (o : Ordering)
          → k.cmp x.leader_id y.leader_id ≡ o → is_le (ordering_then o (nat_cmp x.index y.index)) ≡ true
          → IsUpToDate rank cand own
      both i j at to e f own_at cand_at term term' Less o h =
          let one = last_is rank 0 i own e own_at (is.0 ∙ at) in
          let two = last_is rank 0 j cand f cand_at (to_last.0 ∙ to) in
          let less = ranked.less x.leader_id y.leader_id is.2 to_last.2 o in
          inl (omega (arith, one, two, less, ap rank term, ap rank term'))
      both i j at to e f own_at cand_at term term' Equal o h =
          let one = last_is rank 0 i own e own_at (is.0 ∙ at) in
          let two = last_is rank 0 j cand f cand_at (to_last.0 ∙ to) in
          let same = ap rank (ranked.one x.leader_id y.leader_id o) in
          let le = by_index x.index y.index h in
          inr (omega (arith, one, two, same, ap rank term, ap rank term'), omega (arith, is.0, to_last.0, le))
      both i j at to e f own_at cand_at term term' Greater o h = cc

      to_first : (i : ℕ) → x.index ≡ suc i → y.index ≡ 0 → y.leader_id ≡ first → (o : Ordering)
          → k.cmp x.leader_id y.leader_id ≡ o → is_le (ordering_then o (nat_cmp x.index y.index)) ≡ true
          → IsUpToDate rank cand own
      to_first i at to is_first Less o h = absurd (ranked.least x.leader_id is.2 (rw is_first at o))
      to_first i at to is_first Equal o h = let le = by_index x.index y.index h in absurd (omega (arith, at, to, le))
      to_first i at to is_first Greater o h = cc

      by : (i j : ℕ) → x.index ≡ i → y.index ≡ j → IsIdAt first own i x → IsIdAt first cand j y → IsUpToDate rank cand own
      by zero j at to ia ib = empty_behind own cand (is.0 ∙ at)
      by (suc i) zero at to ia ib = to_first i at to ib (k.cmp x.leader_id y.leader_id) refl le
      by (suc i) (suc j) at to ia ib =
          both i j at to ia.0 ib.0 ia.1 ib.1 ia.2 ib.2 (k.cmp x.leader_id y.leader_id) refl le

-- votes with equal parts are equal
pub same_votes : {L : Type 0} (x y : VoteIn L) → x.leader_id ≡ y.leader_id → x.committed ≡ y.committed → x ≡ y
same_votes x y a b = λ i. record { leader_id = a i; committed = b i }

pub some_same : {X : Type 0} (x y : X) → Some x ≡ Some y → x ≡ y
some_same x y e = cc

-- what is returned if something is due is what is granted
pub is_due : {X : Type 0} (due : Bool) (granted : Option X) (x : X) → Some x ≡ (if due then granted else None)
    → (due ≡ true) × (granted ≡ Some x)
is_due true granted x e = (refl, sym e)
is_due false granted x e = let no : ⊥ = cc in absurd no

pub beq_is : (a b : Bool) → beq a b ≡ true → a ≡ b
beq_is true true h = refl
beq_is true false h = cc
beq_is false true h = cc
beq_is false false h = refl

-- a vote of a candidate that is greater is of a greater leader
pub greater_leader : {L : Type 0} (order : L → L → Option Ordering) (a b : VoteIn L) → a.committed ≡ false
    → vote_cmp order a b ≡ Some Greater → order a.leader_id b.leader_id ≡ Some Greater
greater_leader order a b none h =
    by (order a.leader_id b.leader_id) b.committed refl
    (ap (λ (c : Bool). by_leader_then_committed (order a.leader_id b.leader_id) c b.committed) (sym none) ∙ h)
  where
    by : (o : Option Ordering) (d : Bool) → order a.leader_id b.leader_id ≡ o → by_leader_then_committed o false d ≡ Some Greater
        → order a.leader_id b.leader_id ≡ Some Greater
    by (Some Less) d e h = cc
    by (Some Greater) d e h = e
    by (Some Equal) true e h = cc
    by (Some Equal) false e h = cc
    by None true e h = cc
    by None false e h = cc

-- views with equal parts are equal
pub same_state : {L C : Type 0} (x y : State L C) → x.vote ≡ y.vote → x.ids ≡ y.ids → x.purged_next ≡ y.purged_next
    → x.committed ≡ y.committed → x ≡ y
same_state x y a b c d = λ i. record { vote = a i; ids = b i; purged_next = c i; committed = d i }

-- the log ids of two logs that are the same
pub same_logs : {C : Type 0} (eq : C → C → Bool) → ((x y : C) → eq x y ≡ true → x ≡ y) → (xs ys : List (LogIdOf C))
    → SameLog eq xs ys → xs ≡ ys
same_logs eq exact [] [] h = refl
same_logs eq exact [] (y ∷ ys) h = absurd h
same_logs eq exact (x ∷ xs) [] h = absurd h
same_logs eq exact (x ∷ xs) (y ∷ ys) h =
    let a = exact x.leader_id y.leader_id h.0 in
    let b : x.index ≡ y.index = h.1 in
    let rest = same_logs eq exact xs ys h.2 in
    λ i. record { leader_id = a i; index = b i } ∷ rest i
