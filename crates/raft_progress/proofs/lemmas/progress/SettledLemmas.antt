-- A progress is in order after an update.
use Rattle.std.specs.Prelude.{◌≡◌, ℕ, ◌+◌, ◌-◌, ◌<◌, ◌≤◌, Bool, true, false, cond, List, [], ◌∷◌, ◌++◌, length, take, Option, Some, None, position}
use Rattle.std.specs.Ordering.{is_le, is_lt}
use Rattle.std.specs.declared.cmp.Ordering.{Ordering}
use Rattle.std.specs.declared.cmp.Ordering.TheVariants.{Less, Equal, Greater}
use Rattle.std.specs.Cmp.{IsEquivalence, IsTotalOrder}
use Rattle.std.specs.Map.{keys_of, lookup}
use Rattle.std.specs.Set.{is_member}
use Rattle.std.specs.List.{IsDistinct, prefix_len}
use Rattle.std.proofs.Common.{arith, sym, ap, refl, ◌∙◌, true≢false, get_or, set, subst, suc, zero, ltb, ltb-true, ltb-false, length-append, append_assoc}
use Rattle.std.proofs.lemmas.List.{take-set-le, set-set, set-get_or, get_or-set_same, take-append-le, get_or-take}
use Rattle.std.proofs.Math.Seq.{take-set-lt, get_or-append_seam, set-append_seam}
use Rattle.std.proofs.lemmas.List.Quantifiers.{position-Some}
use Rattle.raft_progress.specs.progress.CountedValue.{AtMost}
use Rattle.raft_progress.specs.progress.InOrder.{AreEntriesInOrder}
use Rattle.raft_progress.specs.Inner.Recount.{exceeds, prefix_test}
use Rattle.raft_progress.specs.Inner.Rises.{IsShortestPrefix, Passed, RisesTo}
use Rattle.raft_progress.specs.progress.Entries.{IsFalling}
use Rattle.raft_progress.proofs.lemmas.OrderLemmas.{AtMost-from_not_lt, lt_le}
use Rattle.raft_progress.proofs.lemmas.progress.entries.FallingLemmas.{falling_risen, falling_set, falling_weaker}
use Rattle.raft_progress.proofs.lemmas.progress.entries.PrefixLemmas.{prefix_fails}
use Rattle.raft_progress.proofs.lemmas.progress.entries.MovedLemmas.{distinct_moved, member_moved, lookup_moved}
use Rattle.raft_progress.proofs.lemmas.ListLemmas.{take_add}
use Rattle.raft_progress.proofs.lemmas.progress.recount.CountedValueLemmas.{counted_still, counted_none, counted_prefix, not_below_still, lead_fails, in_lead, not_both}
use Rattle.raft_progress.proofs.lemmas.progress.UpdateLemmas.{keys_take}

tied : {P : Type 0} {cmp : P → P → Ordering} (o : IsTotalOrder cmp) (a b : P) → AtMost cmp a b → AtMost cmp b a → cmp a b ≡ Equal
tied {P} {cmp} o a b h k = by (cmp a b) refl
  where
    by : (r : Ordering) → cmp a b ≡ r → r ≡ Equal
    by Equal t = refl
    by Less t = absurd (not_both o a b (ap is_lt t) k)
    by Greater t = absurd (true≢false (sym h ∙ ap is_le t))

length_take : {X : Type 0} (xs : List X) (n i : ℕ) → i < n → i < length xs → i < length (take n xs)
length_take xs zero i l h = absurd (omega arith)
length_take [] (suc n) i l h = absurd (omega arith)
length_take (x ∷ xs) (suc n) zero l h = omega arith
length_take (x ∷ xs) (suc n) (suc i) l h = let r = length_take xs n i (omega arith) (omega arith) in omega arith

-- if the entries of a prefix all pass, they do with any entries after it
prefix_any : {X : Type 0} (p : X → Bool) (xs ys zs : List X) → length xs ≤ prefix_len p (xs ++ ys) → length xs ≤ prefix_len p (xs ++ zs)
prefix_any p [] ys zs l = omega arith
prefix_any {X} p (x ∷ xs) ys zs l = by (p x) l (prefix_any p xs ys zs)
  where
    by : (b : Bool) → suc (length xs) ≤ cond b (1 + prefix_len p (xs ++ ys)) 0
        → (length xs ≤ prefix_len p (xs ++ ys) → length xs ≤ prefix_len p (xs ++ zs))
        → suc (length xs) ≤ cond b (1 + prefix_len p (xs ++ zs)) 0
    by true h r = let q = r (omega arith) in omega arith
    by false h r = absurd (omega arith)

pub none_before : {ID V : Type 0} (eq : ID → Bool) (es : List (ID × V)) (n : ℕ) (d : ID × V)
    → ((k : ℕ) → k < n → k < length es → eq (get_or es k d).0 ≡ false) → Rattle.std.specs.List.list_any eq (take n (keys_of es)) ≡ false
none_before eq es zero d h = refl
none_before eq [] (suc n) d h = refl
none_before eq (e ∷ es) (suc n) d h = rw (h 0 (omega arith) (omega arith))
    (none_before eq es n d (λ k l m. h (suc k) (omega arith) (omega arith)))

module _ {ID V P QS : Type 0} {eq : ID → ID → Bool} (laws : IsEquivalence eq) {cmp : P → P → Ordering} (o : IsTotalOrder cmp) (part : V → P)
    (has_quorum : QS → (ID → Bool) → Bool) (qs : QS)
    (superset : (s t : ID → Bool) → ((x : ID) → s x ≡ true → t x ≡ true) → has_quorum qs s ≡ true → has_quorum qs t ≡ true) (d0 : P) (n : ℕ)
    (entries : List (ID × V)) (g : P) (r : AreEntriesInOrder eq cmp part has_quorum qs entries n d0 g) (id : ID) (i : ℕ) (e0 : ID × V)
    (at : position (λ (f : ID × V). eq id f.0) entries ≡ Some i) (is : e0 ≡ get_or entries i e0) (w : V) (up : AtMost cmp (part e0.1)
    (part w))
    (next : List (ID × V)) (next_is : next ≡ set entries i (e0.0, w)) (same_keys : keys_of next ≡ keys_of entries)
    (written : (x : ID) → lookup (eq x) next ≡ cond (eq id x) (Some w) (lookup (eq x) entries))
    (was : lookup (eq id) entries ≡ Some e0.1) where
  place : (i < length entries) × (eq id (get_or entries i e0).0 ≡ true) × ((k : ℕ) → k < i → eq id (get_or entries k e0).0 ≡ false)
  place = position-Some (λ (f : ID × V). eq id f.0) entries i e0 at

  member_within : is_member eq (take n (keys_of entries)) id ≡ true → i < n
  member_within m = by (ltb i n) refl
    where
      by : (b : Bool) → ltb i n ≡ b → i < n
      by true t = ltb-true i n t
      by false t =
          let l = ltb-false i n t in
          absurd (true≢false (sym m ∙ none_before (eq id) entries n e0 (λ k a b. place.2 k (omega arith))))

  distinct' : IsDistinct eq (keys_of next)
  distinct' = rw same_keys r.distinct

  -- the value is written and the voter keeps its position
  module _ (low : i < n → is_lt (cmp g (part w)) ≡ true → AtMost cmp (part w) (part e0.1)) where
    over : i < n → is_lt (cmp g (part w)) ≡ true → is_lt (cmp g (part e0.1)) ≡ true
    over l h = lt_le o g (part w) (part e0.1) h (low l h)

    same_over : i < n → is_lt (cmp g (part w)) ≡ is_lt (cmp g (part e0.1))
    same_over l = by (is_lt (cmp g (part w))) (is_lt (cmp g (part e0.1))) refl refl
      where
        by : (b c : Bool) → is_lt (cmp g (part w)) ≡ b → is_lt (cmp g (part e0.1)) ≡ c → b ≡ c
        by true true t u = refl
        by false false t u = refl
        by true false t u = absurd (true≢false (sym (over l t) ∙ u))
        by false true t u = absurd (true≢false (sym (lt_le o g (part e0.1) (part w) u up) ∙ t))

    still_tied : i < n → cmp (part e0.1) g ≡ Equal → cmp (part w) g ≡ Equal
    still_tied l t = by (is_lt (cmp g (part w))) refl
      where
        by : (b : Bool) → is_lt (cmp g (part w)) ≡ b → cmp (part w) g ≡ Equal
        by true u = absurd (not_both o g (part e0.1) (over l u) (ap is_le t))
        by false u = tied o (part w) g (AtMost-from_not_lt o g (part w) u)
            (ap (λ b. b) (ap is_le (sym (o.congr (part e0.1) g (part w) t))) ∙ up)

    still_falling : IsFalling cmp part g (take n next)
    still_falling = by (ltb i n) refl
      where
        by : (b : Bool) → ltb i n ≡ b → IsFalling cmp part g (take n next)
        by true t =
            let l = ltb-true i n t in
            rw next_is (rw (take-set-lt n entries i (e0.0, w) l)
            (falling_set o part g (take n entries) i e0 (e0.0, w) e0 (length_take entries n i l place.0)
            (is ∙ sym (get_or-take n entries i e0 l)) up (λ h. (over l h, low l h)) r.falling))
        by false t = let l = ltb-false i n t in rw next_is (rw (take-set-le n entries i (e0.0, w) l) r.falling)

    pub order_still : AreEntriesInOrder eq cmp part has_quorum qs next n d0 g
    order_still = record {
      distinct = distinct';
      falling = still_falling;
      not_below = not_below_still laws o part has_quorum qs superset d0 n entries next id e0.1 w
          (λ x. ap (λ ks. is_member eq (take n ks) x) same_keys) written was up r.not_below;
      counted = counted_still laws o part has_quorum qs superset d0 n entries next id e0.1 w
          (λ x. ap (λ ks. is_member eq (take n ks) x) same_keys) written was up g r.distinct r.falling (λ m. same_over (member_within m))
          (λ m. still_tied (member_within m)) r.counted;
    }

  -- the voter has moved up
  module _ (voter : i < n) (high : is_lt (cmp g (part w)) ≡ true) (moved : List (ID × V)) (to : ℕ)
      (rises : RisesTo cmp part next i moved to) where
    abbrev p : Passed cmp part next i moved to
    p = rises.passes

    entry_is : p.entry ≡ (e0.0, w)
    entry_is =
        let len : length (p.prefix ++ p.passed) ≡ i = length-append p.prefix p.passed ∙ p.was_at in
        let was' : next ≡ (p.prefix ++ p.passed) ++ (p.entry ∷ p.rest) = p.was ∙ sym (append_assoc p.prefix p.passed (p.entry ∷ p.rest)) in
        sym (ap (λ xs. get_or xs i e0) was' ∙ ap (λ k. get_or ((p.prefix ++ p.passed) ++ (p.entry ∷ p.rest)) k e0) (sym len)
        ∙ get_or-append_seam (p.prefix ++ p.passed) p.entry p.rest e0)
        ∙ ap (λ xs. get_or xs i e0) next_is ∙ get_or-set_same entries i (e0.0, w) e0 place.0

    part_is : part p.entry.1 ≡ part w
    part_is = ap (λ (f : ID × V). part f.1) entry_is

    entries_are : entries ≡ p.prefix ++ (p.passed ++ (e0 ∷ p.rest))
    entries_are =
        let len : length (p.prefix ++ p.passed) ≡ i = length-append p.prefix p.passed ∙ p.was_at in
        sym (set-get_or entries i e0) ∙ ap (set entries i) (sym is) ∙ sym (set-set entries i (e0.0, w) e0)
        ∙ ap (λ xs. set xs i e0) (sym next_is)
        ∙ ap (λ xs. set xs i e0) (p.was ∙ sym (append_assoc p.prefix p.passed (p.entry ∷ p.rest)))
        ∙ ap (λ k. set ((p.prefix ++ p.passed) ++ (p.entry ∷ p.rest)) k e0) (sym len)
        ∙ set-append_seam (p.prefix ++ p.passed) p.entry p.rest e0 ∙ append_assoc p.prefix p.passed (e0 ∷ p.rest)

    after : ℕ
    after = n - i - 1

    take_old : (e : ID × V) → take n (p.prefix ++ (p.passed ++ (e ∷ p.rest))) ≡ p.prefix ++ (p.passed ++ (e ∷ take after p.rest))
    unfolding after
    take_old e =
        let q = p.was_at in
        take_add p.prefix (p.passed ++ (e ∷ p.rest)) (length p.passed + suc after) n (omega arith)
        ∙ ap (λ xs. p.prefix ++ xs) (take_add p.passed (e ∷ p.rest) (suc after) (length p.passed + suc after) refl)

    take_new : take n (p.prefix ++ (p.entry ∷ (p.passed ++ p.rest))) ≡ p.prefix ++ (p.entry ∷ (p.passed ++ take after p.rest))
    unfolding after
    take_new =
        let q = p.was_at in
        take_add p.prefix (p.entry ∷ (p.passed ++ p.rest)) (suc (length p.passed + after)) n (omega arith)
        ∙ ap (λ xs. p.prefix ++ (p.entry ∷ xs)) (take_add p.passed p.rest after (length p.passed + after) refl)

    distinct_next : IsDistinct eq (keys_of (p.prefix ++ (p.passed ++ (p.entry ∷ p.rest))))
    distinct_next = subst (λ (es : List (ID × V)). IsDistinct eq (keys_of es)) p.was distinct'

    pub distinct_to : IsDistinct eq (keys_of moved)
    distinct_to = subst (λ (es : List (ID × V)). IsDistinct eq (keys_of es)) (sym p.now)
        (distinct_moved laws p.prefix p.passed p.entry p.rest distinct_next)

    pub written_to : (x : ID) → lookup (eq x) moved ≡ cond (eq id x) (Some w) (lookup (eq x) entries)
    written_to x = ap (λ es. lookup (eq x) es) p.now ∙ lookup_moved laws p.prefix p.passed p.entry p.rest distinct_next x
        ∙ ap (λ es. lookup (eq x) es) (sym p.was) ∙ written x

    pub voters_to : (x : ID) → is_member eq (take n (keys_of moved)) x ≡ is_member eq (take n (keys_of entries)) x
    voters_to x =
        ap (λ es. is_member eq (take n (keys_of es)) x) p.now
        ∙ ap (λ ks. is_member eq ks x) (sym (keys_take laws n (p.prefix ++ (p.entry ∷ (p.passed ++ p.rest)))))
        ∙ ap (λ es. is_member eq (keys_of es) x) take_new
        ∙ member_moved laws p.prefix p.passed p.entry (take after p.rest) x
        ∙ ap (λ es. is_member eq (keys_of es) x) (sym (take_old p.entry))
        ∙ ap (λ ks. is_member eq ks x) (keys_take laws n (p.prefix ++ (p.passed ++ (p.entry ∷ p.rest))))
        ∙ ap (λ es. is_member eq (take n (keys_of es)) x) (sym p.was)
        ∙ ap (λ ks. is_member eq (take n ks) x) same_keys

    take_moved : take n moved ≡ p.prefix ++ (p.entry ∷ (p.passed ++ take after p.rest))
    take_moved = ap (take n) p.now ∙ take_new

    take_progress_entries : take n entries ≡ p.prefix ++ (p.passed ++ (e0 ∷ take after p.rest))
    take_progress_entries = ap (take n) entries_are ∙ take_old e0

    pub falling_to : IsFalling cmp part g (take n moved)
    falling_to =
        subst (IsFalling cmp part g) (sym take_moved)
        (falling_risen o part g p.prefix p.passed e0 p.entry (take after p.rest) (ap (λ x. is_lt (cmp g x)) part_is ∙ high)
        (ap (λ x. is_le (cmp (part e0.1) x)) part_is
        ∙ up) p.lesser rises.stops (subst (IsFalling cmp part g) take_progress_entries r.falling))

    pub not_below_to : (x : ID) (u : V) → is_member eq (take n (keys_of moved)) x ≡ true → lookup (eq x) moved ≡ Some u
        → AtMost cmp d0 (part u)
    not_below_to = not_below_still laws o part has_quorum qs superset d0 n entries moved id e0.1 w voters_to written_to was up r.not_below

    -- the voter's part was above granted before
    pub order_moved : is_lt (cmp g (part e0.1)) ≡ true → AreEntriesInOrder eq cmp part has_quorum qs moved n d0 g
    order_moved h = record {
      distinct = distinct_to;
      falling = falling_to;
      not_below = not_below_to;
      counted = counted_still laws o part has_quorum qs superset d0 n entries moved id e0.1 w voters_to written_to was up g r.distinct
          r.falling (λ m. high ∙ sym h) (λ m t. absurd (not_both o g (part e0.1) h (ap is_le t))) r.counted;
    }

    length_moved : to < length (take n moved)
    length_moved = let q = p.now_at in rw take_moved (omega (arith, length-append p.prefix (p.entry ∷ (p.passed ++ take after p.rest))))

    lead_to : to < prefix_len (exceeds cmp part g) (take n moved)
    lead_to =
        in_lead laws o part has_quorum qs superset d0 n moved distinct_to g falling_to to e0 length_moved
        (ap (λ xs. is_lt (cmp g (part (get_or xs to e0).1))) take_moved
        ∙ ap (λ k. is_lt (cmp g (part (get_or (p.prefix ++ (p.entry ∷ (p.passed ++ take after p.rest))) k e0).1))) (sym p.now_at)
        ∙ ap (λ (f : ID × V). is_lt (cmp g (part f.1))) (get_or-append_seam p.prefix p.entry (p.passed ++ take after p.rest) e0)
        ∙ ap (λ x. is_lt (cmp g x)) part_is ∙ high)

    -- the prefixes before the voter were no quorum, and none of them has changed
    fails_before : (l : ℕ) → 1 ≤ l → l ≤ to → prefix_test eq (has_quorum qs) (take n moved) l ≡ false
    fails_before l one far =
        let q = p.now_at in
        let lead : length p.prefix ≤ prefix_len (exceeds cmp part g) (p.prefix ++ (p.entry ∷ (p.passed ++ take after p.rest))) =
        subst (λ (xs : List (ID × V)). length p.prefix ≤ prefix_len (exceeds cmp part g) xs) take_moved
        (let h = lead_to in omega arith) in
        let lead' : length p.prefix ≤ prefix_len (exceeds cmp part g) (take n entries) =
        subst (λ (xs : List (ID × V)). length p.prefix ≤ prefix_len (exceeds cmp part g) xs) (sym take_progress_entries)
        (prefix_any (exceeds cmp part g) p.prefix _ (p.passed ++ (e0 ∷ take after p.rest)) lead) in
        let fails : prefix_test eq (has_quorum qs) (take n entries) l ≡ false =
        prefix_fails eq (has_quorum qs) superset (take n entries) l (prefix_len (exceeds cmp part g) (take n entries)) (omega arith)
        (lead_fails laws o part has_quorum qs superset d0 n entries r.distinct g r.falling r.counted (omega arith)) in
        let same : take l (take n moved) ≡ take l (take n entries) =
        ap (take l) take_moved ∙ take-append-le l p.prefix (p.entry ∷ (p.passed ++ take after p.rest)) (omega arith)
        ∙ sym (take-append-le l p.prefix (p.passed ++ (e0 ∷ take after p.rest)) (omega arith)) ∙ ap (take l) (sym take_progress_entries) in
        ap (λ es. has_quorum qs (is_member eq (keys_of es))) same ∙ fails

    module _ (found : Option ℕ) (tests : ℕ)
        (scan : IsShortestPrefix eq (has_quorum qs) (take n moved) to (prefix_len (exceeds cmp part g) (take n moved)) found tests) where
      pub order_none : found ≡ None → AreEntriesInOrder eq cmp part has_quorum qs moved n d0 g
      order_none none = record {
        distinct = distinct_to;
        falling = falling_to;
        not_below = not_below_to;
        counted = counted_none laws o part has_quorum qs superset d0 n entries moved id e0.1 w voters_to written_to was up g r.counted
            distinct_to falling_to (scan.none none (prefix_len (exceeds cmp part g) (take n moved)) lead_to (omega arith));
      }

      fails_least : (k : ℕ) → found ≡ Some k → (l : ℕ) → 1 ≤ l → l < k → prefix_test eq (has_quorum qs) (take n moved) l ≡ false
      fails_least k s l one far = by (ltb to l) refl
        where
          by : (b : Bool) → ltb to l ≡ b → prefix_test eq (has_quorum qs) (take n moved) l ≡ false
          by true t = scan.least k l s (ltb-true to l t) far
          by false t = fails_before l one (ltb-false to l t)

      pub order_found : (k : ℕ) (f : ID × V) → found ≡ Some k → f ≡ get_or (take n moved) (k - 1) f
          → AreEntriesInOrder eq cmp part has_quorum qs moved n d0 (part f.1)
      order_found k f s here =
          let a = scan.above k s in
          let c = counted_prefix laws o part has_quorum qs superset d0 n entries moved id e0.1 w voters_to written_to was up g r.counted
          distinct_to falling_to k f (omega arith) (scan.within k s) (scan.holds k s) (fails_least k s) here in
          record {
            distinct = distinct_to;
            falling = falling_weaker o part g (part f.1) c.0 (take n moved) falling_to;
            not_below = not_below_to;
            counted = c.1;
          }
