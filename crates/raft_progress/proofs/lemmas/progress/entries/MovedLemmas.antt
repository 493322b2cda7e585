-- An entry that has moved up.
use Rattle.std.specs.Prelude.{◌≡◌, ℕ, ◌<◌, Bool, true, false, cond, ◌||◌, List, [], ◌∷◌, ◌++◌, length, Some}
use Rattle.std.specs.declared.cmp.Ordering.{Ordering}
use Rattle.std.specs.Ordering.{is_le, is_lt}
use Rattle.std.specs.Cmp.{IsEquivalence, IsTotalOrder}
use Rattle.std.specs.List.{AllByRecursion, IsDistinct, list_any}
use Rattle.std.specs.Map.{keys_of, lookup}
use Rattle.std.specs.Set.{is_member}
use Rattle.std.proofs.Common.{arith, sym, ap, refl, ◌∙◌, true≢false, suc, get_or, append_assoc, length-append}
use Rattle.std.proofs.lemmas.Bool.{or_right}
use Rattle.std.proofs.lemmas.List.{append-nil}
use Rattle.raft_progress.specs.Inner.Rises.{LastAtLeast, RisesTo}
use Rattle.raft_progress.specs.progress.Entries.{put_after_last, entries_after_rise}
use Rattle.raft_progress.proofs.lemmas.OrderLemmas.{lt_reversed}
use Rattle.std.proofs.Math.Seq.{get_or-append_seam}

or_swap : (a b c : Bool) → (a || (b || c)) ≡ (b || (a || c))
or_swap true true c = refl
or_swap true false c = refl
or_swap false true c = refl
or_swap false false c = refl

module _ {ID V : Type 0} {eq : ID → ID → Bool} (laws : IsEquivalence eq) where
  keys_all : (R : ID → Type 0) (xs : List (ID × V)) (e : ID × V) (ys : List (ID × V)) → AllByRecursion R (keys_of (xs ++ (e ∷ ys)))
      → AllByRecursion R (keys_of (e ∷ (xs ++ ys)))
  keys_all R [] e ys a = a
  keys_all R (x ∷ xs) e ys a = let r = keys_all R xs e ys a.1 in (r.0, (a.0, r.1))

  keys_all_prefix : (R : ID → Type 0) (prefix xs : List (ID × V)) (e : ID × V) (ys : List (ID × V))
      → AllByRecursion R (keys_of (prefix ++ (xs ++ (e ∷ ys)))) → AllByRecursion R (keys_of (prefix ++ (e ∷ (xs ++ ys))))
  keys_all_prefix R [] xs e ys a = keys_all R xs e ys a
  keys_all_prefix R (f ∷ fs) xs e ys a = (a.0, keys_all_prefix R fs xs e ys a.1)

  distinct_passed : (xs : List (ID × V)) (e : ID × V) (ys : List (ID × V)) → IsDistinct eq (keys_of (xs ++ (e ∷ ys)))
      → IsDistinct eq (keys_of (e ∷ (xs ++ ys)))
  unfolding IsDistinct
  distinct_passed [] e ys d = d
  distinct_passed (x ∷ xs) e ys d =
      let r = distinct_passed xs e ys d.1 in
      let a = keys_all (λ y. eq x.0 y ≡ false) xs e ys d.0 in ((laws.symm e.0 x.0 ∙ a.0, r.0), (a.1, r.1))

  pub distinct_moved : (prefix xs : List (ID × V)) (e : ID × V) (ys : List (ID × V)) → IsDistinct eq (keys_of (prefix ++ (xs ++ (e ∷ ys))))
      → IsDistinct eq (keys_of (prefix ++ (e ∷ (xs ++ ys))))
  unfolding IsDistinct
  distinct_moved [] xs e ys d = distinct_passed xs e ys d
  distinct_moved (f ∷ fs) xs e ys d = (keys_all_prefix (λ y. eq f.0 y ≡ false) fs xs e ys d.0, distinct_moved fs xs e ys d.1)

  member_passed : (xs : List (ID × V)) (e : ID × V) (ys : List (ID × V)) (x : ID)
      → is_member eq (keys_of (e ∷ (xs ++ ys))) x ≡ is_member eq (keys_of (xs ++ (e ∷ ys))) x
  member_passed [] e ys x = refl
  member_passed (f ∷ fs) e ys x = or_swap (eq x e.0) (eq x f.0) (is_member eq (keys_of (fs ++ ys)) x)
      ∙ ap (λ b. eq x f.0 || b) (member_passed fs e ys x)

  pub member_moved : (prefix xs : List (ID × V)) (e : ID × V) (ys : List (ID × V)) (x : ID)
      → is_member eq (keys_of (prefix ++ (e ∷ (xs ++ ys)))) x ≡ is_member eq (keys_of (prefix ++ (xs ++ (e ∷ ys)))) x
  member_moved [] xs e ys x = member_passed xs e ys x
  member_moved (f ∷ fs) xs e ys x = ap (λ b. eq x f.0 || b) (member_moved fs xs e ys x)

  lookup_passed : (xs : List (ID × V)) (e : ID × V) (ys : List (ID × V)) → IsDistinct eq (keys_of (xs ++ (e ∷ ys))) → (x : ID)
      → lookup (eq x) (e ∷ (xs ++ ys)) ≡ lookup (eq x) (xs ++ (e ∷ ys))
  unfolding IsDistinct
  lookup_passed [] e ys d x = refl
  lookup_passed (f ∷ fs) e ys d x = by (eq x e.0) (eq x f.0) refl refl (lookup_passed fs e ys d.1 x)
    where
      apart : eq f.0 e.0 ≡ false
      apart = (keys_all (λ y. eq f.0 y ≡ false) fs e ys d.0).0

      by : (b c : Bool) → eq x e.0 ≡ b → eq x f.0 ≡ c → cond b (Some e.1) (lookup (eq x) (fs ++ ys)) ≡ lookup (eq x) (fs ++ (e ∷ ys))
          → cond b (Some e.1) (cond c (Some f.1) (lookup (eq x) (fs ++ ys))) ≡ cond c (Some f.1) (lookup (eq x) (fs ++ (e ∷ ys)))
      by true true t u h = absurd (true≢false (sym t ∙ laws.congr x f.0 e.0 u ∙ apart))
      by true false t u h = h
      by false true t u h = refl
      by false false t u h = h

  pub lookup_moved : (prefix xs : List (ID × V)) (e : ID × V) (ys : List (ID × V)) → IsDistinct eq (keys_of (prefix ++ (xs ++ (e ∷ ys))))
      → (x : ID) → lookup (eq x) (prefix ++ (e ∷ (xs ++ ys))) ≡ lookup (eq x) (prefix ++ (xs ++ (e ∷ ys)))
  unfolding IsDistinct
  lookup_moved [] xs e ys d x = lookup_passed xs e ys d x
  lookup_moved (f ∷ fs) xs e ys d x = ap (λ r. cond (eq x f.0) (Some f.1) r) (lookup_moved fs xs e ys d.1 x)

-- the entries are those of the definition
module _ {ID V P : Type 0} {cmp : P → P → Ordering} (o : IsTotalOrder cmp) (part : V → P) where
  none_reaches : (e : ID × V) (xs : List (ID × V)) → AllByRecursion (λ f. is_lt (cmp (part f.1) (part e.1)) ≡ true) xs
      → list_any (λ h. is_le (cmp (part e.1) (part h.1))) xs ≡ false
  none_reaches e [] a = refl
  none_reaches e (x ∷ xs) a = rw (ap is_le (o.antisymm (part e.1) (part x.1)) ∙ lt_reversed (cmp (part x.1) (part e.1)) a.0)
      (none_reaches e xs a.1)

  put_first : (e : ID × V) (xs : List (ID × V)) → AllByRecursion (λ f. is_lt (cmp (part f.1) (part e.1)) ≡ true) xs
      → put_after_last cmp part e xs ≡ e ∷ xs
  put_first e [] a = refl
  put_first e (x ∷ xs) a = rw (none_reaches e (x ∷ xs) a) refl

  any_last : (e : ID × V) (f : ID × V) (fs xs : List (ID × V)) → LastAtLeast cmp part (part e.1) (f ∷ fs)
      → list_any (λ h. is_le (cmp (part e.1) (part h.1))) ((f ∷ fs) ++ xs) ≡ true
  any_last e f [] xs l = rw l refl
  any_last e f (h ∷ hs) xs l = or_right (is_le (cmp (part e.1) (part f.1))) _ (any_last e h hs xs l)

  put_moved : (e : ID × V) (prefix xs : List (ID × V)) → LastAtLeast cmp part (part e.1) prefix
      → AllByRecursion (λ f. is_lt (cmp (part f.1) (part e.1)) ≡ true) xs → put_after_last cmp part e (prefix ++ xs) ≡ prefix ++ (e ∷ xs)
  put_moved e [] xs l a = put_first e xs a
  put_moved e (f ∷ fs) xs l a = rw (any_last e f fs xs l) (ap (λ zs. f ∷ zs) (put_moved e fs xs (shorter fs l) a))
    where
      shorter : (fs : List (ID × V)) → LastAtLeast cmp part (part e.1) (f ∷ fs) → LastAtLeast cmp part (part e.1) fs
      shorter [] m = tt
      shorter (h ∷ hs) m = m

  risen_at : (is_id : ID → Bool) (before prefix : List (ID × V)) (e : ID × V) (rest : List (ID × V))
      → AllByRecursion (λ f. is_id f.0 ≡ false) prefix → is_id e.0 ≡ true
      → entries_after_rise cmp part is_id before (prefix ++ (e ∷ rest)) ≡ put_after_last cmp part e (before ++ prefix) ++ rest
  risen_at is_id before [] e rest a h = rw h (ap (λ xs. put_after_last cmp part e xs ++ rest) (sym (append-nil before)))
  risen_at is_id before (f ∷ fs) e rest a h =
      rw a.0 (risen_at is_id (before ++ f ∷ []) fs e rest a.1 h
      ∙ ap (λ xs. put_after_last cmp part e xs ++ rest) (append_assoc before (f ∷ []) fs))

  all_below : (is_id : ID → Bool) (xs ys : List (ID × V)) (d : ID × V) → ((k : ℕ) → k < length xs → is_id (get_or (xs ++ ys) k d).0 ≡ false)
      → AllByRecursion (λ f. is_id f.0 ≡ false) xs
  all_below is_id [] ys d h = tt
  all_below is_id (x ∷ xs) ys d h = (h 0 (omega arith), all_below is_id xs ys d (λ k l. h (suc k) (omega arith)))

  -- an entry that moves up by neighbours has moved up by the definition
  pub is_risen : (is_id : ID → Bool) (old : List (ID × V)) (from : ℕ) (new : List (ID × V)) (to : ℕ) (d : ID × V)
      → RisesTo cmp part old from new to → is_id (get_or old from d).0 ≡ true → ((k : ℕ) → k < from → is_id (get_or old k d).0 ≡ false)
      → new ≡ entries_after_rise cmp part is_id [] old
  is_risen is_id old from new to d r h b =
      let p = r.passes in
      let was : old ≡ (p.prefix ++ p.passed) ++ (p.entry ∷ p.rest) = p.was ∙ sym (append_assoc p.prefix p.passed (p.entry ∷ p.rest)) in
      let len : length (p.prefix ++ p.passed) ≡ from = length-append p.prefix p.passed ∙ p.was_at in
      let is_it : is_id p.entry.0 ≡ true =
      ap (λ (e : ID × V). is_id e.0) (sym (ap (λ xs. get_or xs from d) was
      ∙ ap (λ n. get_or ((p.prefix ++ p.passed) ++ (p.entry ∷ p.rest)) n d) (sym len)
      ∙ get_or-append_seam (p.prefix ++ p.passed) p.entry p.rest d)) ∙ h in
      let is_first = all_below is_id (p.prefix ++ p.passed) (p.entry ∷ p.rest) d
      (λ k l. ap (λ xs. is_id (get_or xs k d).0) (sym was) ∙ b k (omega arith)) in
      p.now
      ∙ sym (append_assoc p.prefix (p.entry ∷ p.passed) p.rest)
      ∙ ap (λ xs. xs ++ p.rest) (sym (put_moved p.entry p.prefix p.passed r.stops p.lesser))
      ∙ sym (risen_at is_id [] (p.prefix ++ p.passed) p.entry p.rest is_first is_it)
      ∙ ap (entries_after_rise cmp part is_id []) (sym was)
