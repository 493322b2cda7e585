-- Voters that come first if their part exceeds granted, and whose parts never rise there.
use Rattle.std.specs.Prelude.{◌≡◌, ℕ, ◌+◌, ◌<◌, Bool, true, false, cond, List, [], ◌∷◌, ◌++◌, length, filter, take}
use Rattle.std.specs.Ordering.{is_le, is_lt}
use Rattle.std.specs.declared.cmp.Ordering.{Ordering}
use Rattle.std.specs.Cmp.{IsTotalOrder}
use Rattle.std.specs.List.{AllByRecursion, prefix_len}
use Rattle.std.proofs.Common.{arith, sym, ap, refl, ◌∙◌, true≢false, suc, zero, get_or, set}
use Rattle.raft_progress.specs.progress.CountedValue.{AtMost}
use Rattle.raft_progress.specs.Inner.Rises.{LastAtLeast}
use Rattle.raft_progress.specs.progress.Entries.{IsFalling}
use Rattle.raft_progress.proofs.lemmas.OrderLemmas.{AtMost-trans, AtMost-from_lt, lt_le, le_lt}
use Rattle.raft_progress.proofs.lemmas.ListLemmas.{all_weaker, filter_none, all_get, all_first, all_last, all_both}

module _ {ID V P : Type 0} {cmp : P → P → Ordering} (o : IsTotalOrder cmp) (part : V → P) (g : P) where
  -- a test that a greater part passes too, and only parts above g
  module _ (t : P → Bool) (up : (a b : P) → t a ≡ true → AtMost cmp a b → t b ≡ true)
      (over : (a : P) → t a ≡ true → is_lt (cmp g a) ≡ true) where
    none_behind : (e : ID × V) (es : List (ID × V)) → t (part e.1) ≡ false
        → AllByRecursion (λ f. is_lt (cmp g (part f.1)) ≡ true → AtMost cmp (part f.1) (part e.1)) es
        → AllByRecursion (λ f. t (part f.1) ≡ false) es
    none_behind e [] n a = tt
    none_behind e (f ∷ fs) n a = (by (t (part f.1)) refl, none_behind e fs n a.1)
      where
        by : (b : Bool) → t (part f.1) ≡ b → b ≡ false
        by false h = refl
        by true h = absurd (true≢false (sym (up (part f.1) (part e.1) h (a.0 (over (part f.1) h))) ∙ n))

    -- the voters that pass are a prefix
    pub filter_is_prefix : (voters : List (ID × V)) → IsFalling cmp part g voters
        → filter (λ e. t (part e.1)) voters ≡ take (prefix_len (λ e. t (part e.1)) voters) voters
    filter_is_prefix [] s = refl
    filter_is_prefix (e ∷ es) s = by (t (part e.1)) refl (filter_is_prefix es s.1)
      where
        by : (b : Bool) → t (part e.1) ≡ b → filter (λ f. t (part f.1)) es ≡ take (prefix_len (λ f. t (part f.1)) es) es
            → cond b (e ∷ filter (λ f. t (part f.1)) es) (filter (λ f. t (part f.1)) es)
            ≡ take (cond b (1 + prefix_len (λ f. t (part f.1)) es) 0) (e ∷ es)
        by true h i = let one : suc (prefix_len (λ f. t (part f.1)) es) ≡ 1 + prefix_len (λ f. t (part f.1)) es = omega arith in
            ap (λ xs. e ∷ xs) i ∙ ap (λ k. take k (e ∷ es)) one
        by false h i = filter_none (λ f. t (part f.1)) es (none_behind e es h s.0)

    -- a voter that passes is in that prefix
    pub in_prefix : (voters : List (ID × V)) → IsFalling cmp part g voters → (i : ℕ) (d : ID × V) → i < length voters
        → t (part (get_or voters i d).1) ≡ true → i < prefix_len (λ e. t (part e.1)) voters
    in_prefix [] s i d l h = absurd (omega arith)
    in_prefix (e ∷ es) s i d l h = by (t (part e.1)) refl (λ j k q. in_prefix es s.1 j d k q) i l h
      where
        by : (b : Bool) → t (part e.1) ≡ b
            → ((j : ℕ) → j < length es → t (part (get_or es j d).1) ≡ true → j < prefix_len (λ f. t (part f.1)) es) → (j : ℕ)
            → j < length (e ∷ es) → t (part (get_or (e ∷ es) j d).1) ≡ true → j < cond b (1 + prefix_len (λ f. t (part f.1)) es) 0
        by true n again zero k q = omega arith
        by true n again (suc j) k q = let r = again j (omega arith) q in omega arith
        by false n again zero k q = absurd (true≢false (sym q ∙ n))
        by false n again (suc j) k q = absurd
            (true≢false (sym q ∙ all_get (λ f. t (part f.1) ≡ false) es j d (omega arith) (none_behind e es n s.0)))

  -- an entry less
  falling_less : (passed : List (ID × V)) (e : ID × V) (rest : List (ID × V)) → IsFalling cmp part g (passed ++ (e ∷ rest))
      → IsFalling cmp part g (passed ++ rest)
  falling_less [] e rest s = s.1
  falling_less (f ∷ fs) e rest s = (
    all_both _ fs rest (all_first _ fs (e ∷ rest) s.0) (all_last _ fs (e ∷ rest) s.0).1,
    falling_less fs e rest s.1,
  )

  falling_last : (passed : List (ID × V)) (e : ID × V) (rest : List (ID × V)) → IsFalling cmp part g (passed ++ (e ∷ rest))
      → AllByRecursion (λ f. is_lt (cmp g (part f.1)) ≡ true → AtMost cmp (part f.1) (part e.1)) rest
  falling_last [] e rest s = s.0
  falling_last (f ∷ fs) e rest s = falling_last fs e rest s.1

  -- a part that is not below the last one of a prefix is not below any before it
  below_first : (e : ID × V) → is_lt (cmp g (part e.1)) ≡ true → (p : P) (f : ID × V) (fs : List (ID × V))
      → LastAtLeast cmp part (part e.1) (f ∷ fs) → AllByRecursion (λ h. is_lt (cmp g (part h.1)) ≡ true → AtMost cmp (part h.1) p) (f ∷ fs)
      → AtMost cmp (part e.1) p
  below_first e q p f [] l a = AtMost-trans o (part e.1) (part f.1) p l (a.0 (lt_le o g (part e.1) (part f.1) q l))
  below_first e q p f (h ∷ hs) l a = below_first e q p h hs l a.1

  -- an entry whose part rose above g, put directly after the last that isn't lesser, keeps the order
  pub falling_risen : (prefix passed : List (ID × V)) (e e' : ID × V) (rest : List (ID × V)) → is_lt (cmp g (part e'.1)) ≡ true
      → AtMost cmp (part e.1) (part e'.1) → AllByRecursion (λ f. is_lt (cmp (part f.1) (part e'.1)) ≡ true) passed
      → LastAtLeast cmp part (part e'.1) prefix → IsFalling cmp part g (prefix ++ (passed ++ (e ∷ rest)))
      → IsFalling cmp part g (prefix ++ (e' ∷ (passed ++ rest)))
  falling_risen [] passed e e' rest q up lesser l s = (
    all_both _ passed rest
        (all_weaker _ (λ f. is_lt (cmp g (part f.1)) ≡ true → AtMost cmp (part f.1) (part e'.1))
        (λ f h _. AtMost-from_lt cmp (part f.1) (part e'.1) h) passed lesser)
        (all_weaker (λ (f : ID × V). is_lt (cmp g (part f.1)) ≡ true → AtMost cmp (part f.1) (part e.1))
        (λ f. is_lt (cmp g (part f.1)) ≡ true → AtMost cmp (part f.1) (part e'.1))
        (λ f h k. AtMost-trans o (part f.1) (part e.1) (part e'.1) (h k) up) rest (falling_last passed e rest s)),
    falling_less passed e rest s,
  )
  falling_risen (f ∷ fs) passed e e' rest q up lesser l s =
      let R : ID × V → Type 0 = λ h. is_lt (cmp g (part h.1)) ≡ true → AtMost cmp (part h.1) (part f.1) in (
        all_both R fs (e' ∷ (passed ++ rest)) (all_first R fs (passed ++ (e ∷ rest)) s.0) (
          λ _. at fs l (all_first R fs (passed ++ (e ∷ rest)) s.0),
          all_both R passed rest (all_first R passed (e ∷ rest) (all_last R fs (passed ++ (e ∷ rest)) s.0))
              (all_last R passed (e ∷ rest) (all_last R fs (passed ++ (e ∷ rest)) s.0)).1,
        ),
        falling_risen fs passed e e' rest q up lesser (shorter fs l) s.1,
      )
    where
      shorter : (fs : List (ID × V)) → LastAtLeast cmp part (part e'.1) (f ∷ fs) → LastAtLeast cmp part (part e'.1) fs
      shorter [] m = tt
      shorter (h ∷ hs) m = m

      at : (fs : List (ID × V)) → LastAtLeast cmp part (part e'.1) (f ∷ fs)
          → AllByRecursion (λ h. is_lt (cmp g (part h.1)) ≡ true → AtMost cmp (part h.1) (part f.1)) fs → AtMost cmp (part e'.1) (part f.1)
      at [] m a = m
      at (h ∷ hs) m a = below_first e' q (part f.1) h hs m a

  -- a part that rises, and not above g unless it was there, keeps the order in place
  all_set : (p : P) (xs : List (ID × V)) (i : ℕ) (e e' d : ID × V) → i < length xs → e ≡ get_or xs i d
      → (is_lt (cmp g (part e'.1)) ≡ true → (is_lt (cmp g (part e.1)) ≡ true) × AtMost cmp (part e'.1) (part e.1))
      → AllByRecursion (λ h. is_lt (cmp g (part h.1)) ≡ true → AtMost cmp (part h.1) p) xs
      → AllByRecursion (λ h. is_lt (cmp g (part h.1)) ≡ true → AtMost cmp (part h.1) p) (set xs i e')
  all_set p [] i e e' d l is c a = absurd (omega arith)
  all_set p (x ∷ xs) zero e e' d l is c a = (λ q. at q, a.1)
    where
      at : is_lt (cmp g (part e'.1)) ≡ true → AtMost cmp (part e'.1) p
      at q =
          let k : is_lt (cmp g (part x.1)) ≡ true = ap (λ (f : ID × V). is_lt (cmp g (part f.1))) (sym is) ∙ (c q).0 in
          AtMost-trans o (part e'.1) (part e.1) p (c q).1 (ap (λ (f : ID × V). is_le (cmp (part f.1) p)) is ∙ a.0 k)
  all_set p (x ∷ xs) (suc i) e e' d l is c a = (a.0, all_set p xs i e e' d (omega arith) is c a.1)

  pub falling_set : (xs : List (ID × V)) (i : ℕ) (e e' d : ID × V) → i < length xs → e ≡ get_or xs i d → AtMost cmp (part e.1) (part e'.1)
      → (is_lt (cmp g (part e'.1)) ≡ true → (is_lt (cmp g (part e.1)) ≡ true) × AtMost cmp (part e'.1) (part e.1)) → IsFalling cmp part g xs
      → IsFalling cmp part g (set xs i e')
  falling_set [] i e e' d l is up c s = absurd (omega arith)
  falling_set (x ∷ xs) zero e e' d l is up c s = (
    all_weaker (λ (f : ID × V). is_lt (cmp g (part f.1)) ≡ true → AtMost cmp (part f.1) (part x.1))
        (λ f. is_lt (cmp g (part f.1)) ≡ true → AtMost cmp (part f.1) (part e'.1))
        (λ f h k. AtMost-trans o (part f.1) (part x.1) (part e'.1) (h k) (rw (← is) up)) xs s.0,
    s.1,
  )
  falling_set (x ∷ xs) (suc i) e e' d l is up c s =
      (all_set (part x.1) xs i e e' d (omega arith) is c s.0, falling_set xs i e e' d (omega arith) is up c s.1)

  -- with more granted fewer parts have to fall
  pub falling_weaker : (g' : P) → AtMost cmp g g' → (xs : List (ID × V)) → IsFalling cmp part g xs → IsFalling cmp part g' xs
  falling_weaker g' up [] s = tt
  falling_weaker g' up (x ∷ xs) s = (
    all_weaker (λ (f : ID × V). is_lt (cmp g (part f.1)) ≡ true → AtMost cmp (part f.1) (part x.1))
        (λ f. is_lt (cmp g' (part f.1)) ≡ true → AtMost cmp (part f.1) (part x.1)) (λ f h k. h (le_lt o g g' (part f.1) up k)) xs s.0,
    falling_weaker g' up xs s.1,
  )
