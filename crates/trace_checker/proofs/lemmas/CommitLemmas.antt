-- How many entries leaders have committed.
use Rattle.std.specs.Prelude.{◌≡◌, ◌⊎◌, ◌<◌, ◌≤◌, ℕ, zero, suc, Bool, false, ◌&&◌, ◌||◌, nat_le, max, Option, Some, None, List, [], ◌∷◌, length, map, get_or, set}
use Rattle.std.specs.List.{list_any}
use Rattle.std.specs.Option.{unwrap_or}
use Rattle.std.proofs.Common.{refl, sym, ap, ◌∙◌, inl, inr, arith}
use Rattle.std.proofs.lemmas.Bool.{and_right, cases_eq}
use Rattle.std.proofs.lemmas.List.{get_or-set_other, get_or-set_same, length-set}
use Rattle.std.proofs.lemmas.Option.{same_Some}
use Rattle.safety_laws.specs.Log.{Entry}
use Rattle.trace_checker.specs.Inner.CheckerState.{has_committed, knows}
use Rattle.trace_checker.specs.Inner.Kept.{AreBounded, leader_in}
use Rattle.trace_checker.specs.Inner.Logs.{AllLogs, IsExact, log_at}
use Rattle.trace_checker.specs.declared.checker.leader.Leader.{Leader}
use Rattle.trace_checker.proofs.lemmas.StateLemmas.{too_long}

module _ {T N : Type 0} (most : ℕ) where
  -- a leader is replaced by one that has committed no more either
  pub bounded_set : (leaders : List (Leader T N)) (j : ℕ) (new : Leader T N) → j < length leaders
      → ((n : ℕ) → new.committed ≡ Some n → n ≤ most) → AreBounded most leaders
      → AreBounded most (set leaders j new)
  bounded_set leaders j new within more bounded i n x h at e = go (cases_eq i j)
    where
      in_list : i < length leaders
      in_list = rw (length-set leaders j new) at h

      go : (i ≡ j) ⊎ (i ≡ j → ⊥) → n ≤ most
      go (inl q) =
          let it : x ≡ new = at ∙ ap (λ m. get_or (set leaders j new) m x) q ∙ get_or-set_same leaders j new x within in
          more n (sym (ap (λ (y : Leader T N). y.committed) it) ∙ e)
      go (inr q) = bounded i n x in_list (at ∙ get_or-set_other leaders j i new x q) e

  pub bounded_same : (leaders : List (Leader T N)) (j : ℕ) (l new : Leader T N) → j < length leaders
      → l ≡ get_or leaders j l → new.committed ≡ l.committed → AreBounded most leaders
      → AreBounded most (set leaders j new)
  bounded_same leaders j l new within is same bounded =
      bounded_set leaders j new within (λ n e. bounded j n l within is (sym same ∙ e)) bounded

  -- a leader that has committed nothing is added
  pub bounded_more : (leaders : List (Leader T N)) (new : Leader T N) → new.committed ≡ None
      → AreBounded most leaders → AreBounded most (new ∷ leaders)
  bounded_more leaders new none bounded zero n x h at e =
      absurd (none_some n (sym none ∙ sym (ap (λ (y : Leader T N). y.committed) at) ∙ e))
    where
      none_some : (m : ℕ) → None ≡ Some m → ⊥
      none_some m q = cc
  bounded_more leaders new none bounded (suc i) n x h at e = bounded i n x (omega (arith, h)) at e

-- a leader commits entries
pub bounded_commit : {T N : Type 0} (most : ℕ) (leaders : List (Leader T N)) (j n : ℕ) (l new : Leader T N)
    → j < length leaders → l ≡ get_or leaders j l
    → new.committed ≡ Some (max (unwrap_or l.committed 0) n) → AreBounded most leaders
    → AreBounded (max most n) (set leaders j new)
bounded_commit {T} {N} most leaders j n l new within is commits bounded =
    bounded_set (max most n) leaders j new within
    (λ m e. let q : max (unwrap_or l.committed 0) n ≡ m = same_Some (max (unwrap_or l.committed 0) n) m (sym commits ∙ e) in
    omega (arith, q, before l.committed refl))
    (λ i m x h at e. let b : m ≤ most = bounded i m x h at e in omega (arith, b))
  where
    before : (o : Option ℕ) → l.committed ≡ o → unwrap_or o 0 ≤ most
    before None e = omega arith
    before (Some m) e = bounded j m l within is e

-- nobody has committed more entries than all leaders
pub none_know : {T N D : Type 0} (rank : T → ℕ) (same : Entry T D → Entry T D → Bool) → IsExact same
    → (logs : AllLogs T D) (r most : ℕ) (p : List (Entry T D)) (leaders : List (Leader T N)) → most < length p
    → AreBounded most leaders → false ≡ list_any (knows rank same r p) (map (leader_in logs) leaders)
none_know rank same exact logs r most p [] long bounded = refl
none_know {T} {N} {D} rank same exact logs r most p (l ∷ leaders) long bounded =
    none_know rank same exact logs r most p leaders long
    (λ i n x h at e. bounded (suc i) n x (omega (arith, h)) at e)
    ∙ ap (λ b. b || list_any (knows rank same r p) (map (leader_in logs) leaders)) (go l.committed refl)
  where
    go : (o : Option ℕ) → l.committed ≡ o
        → false ≡ (nat_le (rank l.term) r && has_committed same (log_at logs l.log) o p)
    go None e = sym (and_right (nat_le (rank l.term) r) false refl)
    go (Some n) e =
        let b : n ≤ most = bounded 0 n l (omega arith) refl e in
        too_long same exact (nat_le (rank l.term) r) n p (log_at logs l.log) (omega (arith, b, long))
