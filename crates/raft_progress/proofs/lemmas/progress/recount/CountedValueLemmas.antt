-- The counted value after a voter's part has risen.
use Rattle.std.specs.Prelude.{◌≡◌, ℕ, ◌-◌, ◌<◌, ◌≤◌, Bool, true, false, cond, ◌&&◌, ◌||◌, List, [], ◌∷◌, length, filter, take, Option, Some, None, ◌⊎◌}
use Rattle.std.specs.Ordering.{is_le, is_lt, ordering_reverse}
use Rattle.std.specs.declared.cmp.Ordering.{Ordering}
use Rattle.std.specs.declared.cmp.Ordering.TheVariants.{Less, Equal, Greater}
use Rattle.std.specs.Cmp.{IsEquivalence, IsTotalOrder}
use Rattle.std.specs.Map.{keys_of, lookup}
use Rattle.std.specs.Set.{is_member}
use Rattle.std.specs.List.{IsDistinct, prefix_len}
use Rattle.std.proofs.Common.{arith, sym, ap, refl, ◌∙◌, true≢false, get_or, inl, inr, subst, suc, zero, ltb, ltb-true, ltb-false}
use Rattle.std.proofs.lemmas.Cmp.{tied_itself, alike_right}
use Rattle.std.proofs.lemmas.List.Elements.{All-take, recursion_from_All}
use Rattle.std.proofs.lemmas.List.Sums.{prefix_len_passes, prefix_len-le-length}
use Rattle.raft_progress.specs.progress.CountedValue.{AtMost, IsCounted, IsReached, has_part, reached}
use Rattle.raft_progress.specs.Inner.Recount.{at_least, exceeds, prefix_test, reaches}
use Rattle.raft_progress.specs.progress.ProgressState.{ProgressState}
use Rattle.raft_progress.specs.progress.Entries.{IsFalling, state_of}
use Rattle.raft_progress.proofs.lemmas.OrderLemmas.{AtMost-refl, AtMost-trans, AtMost-from_lt, AtMost-from_not_lt, lt_le, le_lt}
use Rattle.raft_progress.proofs.lemmas.progress.recount.CountedAfreshLemmas.{absent, members, found, same_test, voter_value}
use Rattle.raft_progress.proofs.lemmas.progress.entries.FallingLemmas.{filter_is_prefix, in_prefix}
use Rattle.raft_progress.proofs.lemmas.ListLemmas.{all_get, of_both}
use Rattle.raft_progress.proofs.lemmas.progress.entries.PrefixLemmas.{prefix_grows}
use Rattle.raft_progress.proofs.lemmas.progress.entries.RisingLemmas.{split_at}
use Rattle.raft_progress.proofs.lemmas.progress.UpdateLemmas.{lookup_alike}
use Rattle.raft_members.proofs.CallerLemmas.{is_member-alike}

-- whether a value is there and passes
abbrev pub has : {V : Type 0} → (V → Bool) → Option V → Bool
has t None = false
has t (Some v) = t v

tied_le : (r : Ordering) → r ≡ Equal → is_le r ≡ true
tied_le r e = ap is_le e

pub not_both : {P : Type 0} {cmp : P → P → Ordering} (o : IsTotalOrder cmp) (g p : P) → is_lt (cmp g p) ≡ true → AtMost cmp p g → ⊥
not_both {P} {cmp} o g p h k = true≢false (sym (le_lt o p g p k h) ∙ ap is_lt (tied_itself o p))

above_one : {X : Type 0} (is_in : List X → Bool) → is_in [] ≡ false → (xs : List X) (m : ℕ) → is_in (take m xs) ≡ true → 1 ≤ m
above_one is_in e xs zero h = absurd (true≢false (sym h ∙ e))
above_one is_in e xs (suc m) h = omega arith

module _ {ID V : Type 0} {eq : ID → ID → Bool} (laws : IsEquivalence eq) where
  -- the kept ids are those of the voters whose value passes
  kept_at : (t : V → Bool) (entries : List (ID × V)) (n : ℕ) → IsDistinct eq (keys_of entries) → (x : ID)
      → is_member eq (keys_of (filter (λ e. t e.1) (take n entries))) x
      ≡ (is_member eq (take n (keys_of entries)) x && has t (lookup (eq x) entries))
  unfolding IsDistinct
  kept_at t entries zero d x = refl
  kept_at t [] (suc n) d x = refl
  kept_at t (e ∷ es) (suc n) d x = by (eq x e.0) (t e.1) refl refl (kept_at t es n d.1 x)
    where
      by : (b c : Bool) → eq x e.0 ≡ b → t e.1 ≡ c
          → is_member eq (keys_of (filter (λ f. t f.1) (take n es))) x ≡ (is_member eq (take n (keys_of es)) x && has t (lookup (eq x) es))
          → is_member eq (keys_of (cond c (e ∷ filter (λ f. t f.1) (take n es)) (filter (λ f. t f.1) (take n es)))) x
          ≡ ((b || is_member eq (take n (keys_of es)) x) && has t (cond b (Some e.1) (lookup (eq x) es)))
      by true true a u h = rw (a, u) refl
      by true false a u h = h ∙ ap (λ b. b && has t (lookup (eq x) es)) (absent laws e.0 x n (keys_of es) d.0 a) ∙ sym u
      by false true a u h = rw a h
      by false false a u h = h

module _ {ID V P QS : Type 0} {eq : ID → ID → Bool} (laws : IsEquivalence eq) {cmp : P → P → Ordering} (o : IsTotalOrder cmp) (part : V → P)
    (has_quorum : QS → (ID → Bool) → Bool) (qs : QS)
    (superset : (s t : ID → Bool) → ((x : ID) → s x ≡ true → t x ≡ true) → has_quorum qs s ≡ true → has_quorum qs t ≡ true) (d0 : P)
    (n : ℕ) where
  abbrev St : List (ID × V) → ProgressState ID V P QS
  St entries = state_of eq qs entries n d0

  -- the voters whose part exceeds g
  abbrev above : List (ID × V) → P → ID → Bool
  above entries g x = is_member eq (take n (keys_of entries)) x && has (λ v. is_lt (cmp g (part v))) (lookup (eq x) entries)

  abbrev lead : List (ID × V) → P → ℕ
  lead entries g = prefix_len (exceeds cmp part g) (take n entries)

  module _ (entries : List (ID × V)) (d : IsDistinct eq (keys_of entries)) (g : P) (fall : IsFalling cmp part g (take n entries)) where
    above_prefix : (x : ID) → is_member eq (keys_of (take (lead entries g) (take n entries))) x ≡ above entries g x
    above_prefix x = ap (λ es. is_member eq (keys_of es) x)
        (sym (filter_is_prefix o part g (λ p. is_lt (cmp g p)) (λ a b h k. lt_le o g a b h k) (λ a h. h) (take n entries) fall))
        ∙ kept_at laws (λ v. is_lt (cmp g (part v))) entries n d x

    above_quorum : prefix_test eq (has_quorum qs) (take n entries) (lead entries g) ≡ has_quorum qs (above entries g)
    above_quorum = ap (has_quorum qs) (λ i x. above_prefix x i)

    reaches_prefix : (p : P) → is_lt (cmp g p) ≡ true
        → reaches eq cmp part (has_quorum qs) (take n entries) p
        ≡ prefix_test eq (has_quorum qs) (take n entries) (prefix_len (at_least cmp part p) (take n entries))
    reaches_prefix p h = ap (λ es. has_quorum qs (is_member eq (keys_of es)))
        (filter_is_prefix o part g (λ q. is_le (cmp p q)) (λ a b k l. AtMost-trans o p a b k l) (λ a k. lt_le o g p a h k) (take n entries)
        fall)

    in_reach : (p : P) → is_lt (cmp g p) ≡ true → (i : ℕ) (e : ID × V) → i < length (take n entries)
        → AtMost cmp p (part (get_or (take n entries) i e).1) → i < prefix_len (at_least cmp part p) (take n entries)
    in_reach p h i e l k = in_prefix o part g (λ q. is_le (cmp p q)) (λ a b k l. AtMost-trans o p a b k l) (λ a k. lt_le o g p a h k)
        (take n entries) fall i e l k

    pub in_lead : (i : ℕ) (e : ID × V) → i < length (take n entries) → is_lt (cmp g (part (get_or (take n entries) i e).1)) ≡ true
        → i < lead entries g
    in_lead i e l k = in_prefix o part g (λ p. is_lt (cmp g p)) (λ a b h k. lt_le o g a b h k) (λ a h. h) (take n entries) fall i e l k

    entry_reached : (k : ℕ) (e : ID × V) → k < length (take n entries)
        → reaches eq cmp part (has_quorum qs) (take n entries) (part (get_or (take n entries) k e).1) ≡ true
        → IsReached cmp part has_quorum (St entries) (get_or (take n entries) k e).0 (get_or (take n entries) k e).1
    entry_reached k e l q = record {
      voter = all_get (λ (f : ID × V). is_member eq (take n (keys_of entries)) f.0 ≡ true) (take n entries) k e l (members laws entries n);
      value = All-take (λ (f : ID × V). lookup (eq f.0) entries ≡ Some f.1) n entries
          (found laws o part has_quorum qs entries n d0 d) k e l;
      quorum = sym (same_test laws o part has_quorum qs entries n d0 d (part (get_or (take n entries) k e).1)) ∙ q;
    }

    lead_within : lead entries g ≤ length (take n entries)
    lead_within = prefix_len-le-length (exceeds cmp part g) (take n entries)

    -- if granted is counted, the voters above it are no quorum
    pub lead_fails : IsCounted cmp part has_quorum (St entries) g → 1 ≤ lead entries g
        → prefix_test eq (has_quorum qs) (take n entries) (lead entries g) ≡ false
    lead_fails c l = by (prefix_test eq (has_quorum qs) (take n entries) (lead entries g)) refl
      where
        by : (b : Bool) → prefix_test eq (has_quorum qs) (take n entries) (lead entries g) ≡ b → b ≡ false
        by false t = refl
        by true t =
            let w = lead_within in
            let i : ℕ = lead entries g - 1 in
            let within : i < length (take n entries) = omega arith in
            let e = (split_at (take n entries) i within).entry in
            let f : ID × V = get_or (take n entries) i e in
            let over : is_lt (cmp g (part f.1)) ≡ true = prefix_len_passes (exceeds cmp part g) (take n entries) i e (omega arith) in
            let far : i < prefix_len (at_least cmp part (part f.1)) (take n entries) =
            in_reach (part f.1) over i e within (AtMost-refl o (part f.1)) in
            let q : prefix_test eq (has_quorum qs) (take n entries) (prefix_len (at_least cmp part (part f.1)) (take n entries)) ≡ true =
            superset _ _ (prefix_grows eq (take n entries) (lead entries g) (prefix_len (at_least cmp part (part f.1)) (take n entries))
            (omega arith)) t in
            absurd (not_both o g (part f.1) over (c.others_at_most f.0 f.1 (entry_reached i e within (reaches_prefix (part f.1) over ∙ q))))

    pub above_fails : IsCounted cmp part has_quorum (St entries) g → (x : ID) → above entries g x ≡ true
        → has_quorum qs (above entries g) ≡ false
    above_fails c x h = sym above_quorum ∙ lead_fails c
        (above_one (λ es. is_member eq (keys_of es) x) refl (take n entries) (lead entries g) (above_prefix x ∙ h))

  -- if the voters above g are no quorum, no part above g is reached
  others_stay : (entries : List (ID × V)) (g : P) → ((x : ID) → above entries g x ≡ true → has_quorum qs (above entries g) ≡ false)
      → (x : ID) (v : V) → IsReached cmp part has_quorum (St entries) x v → AtMost cmp (part v) g
  others_stay entries g fails x v r = by (is_lt (cmp g (part v))) refl
    where
      up : (y : ID) → reached cmp part (St entries) (part v) y ≡ true → is_lt (cmp g (part v)) ≡ true → above entries g y ≡ true
      up y h k = at (is_member eq (take n (keys_of entries)) y) (lookup (eq y) entries) h
        where
          at : (b : Bool) (u : Option V) → (b && has_part cmp part (part v) u) ≡ true → (b && has (λ w. is_lt (cmp g (part w))) u) ≡ true
          at true (Some u) a = lt_le o g (part v) (part u) k a
          at true None a = a
          at false u a = a

      by : (b : Bool) → is_lt (cmp g (part v)) ≡ b → AtMost cmp (part v) g
      by false t = AtMost-from_not_lt o g (part v) t
      by true t =
          let here : above entries g x ≡ true = rw (r.voter, r.value) t in
          absurd (true≢false (sym (superset (reached cmp part (St entries) (part v)) (above entries g) (λ y h. up y h t) r.quorum)
          ∙ fails x here))

  -- either some part ties with g, or the parts that are at least g exceed it
  tie_or_not : (g : P) (xs : List (ID × V))
      → ((k : ℕ) × (e : ID × V) × (k < length xs) × (cmp (part (get_or xs k e).1) g ≡ Equal))
      ⊎ (filter (at_least cmp part g) xs ≡ filter (exceeds cmp part g) xs)
  tie_or_not g [] = inr refl
  tie_or_not g (x ∷ xs) = by (cmp g (part x.1)) refl (tie_or_not g xs)
    where
      by : (r : Ordering) → cmp g (part x.1) ≡ r
          → ((k : ℕ) × (e : ID × V) × (k < length xs) × (cmp (part (get_or xs k e).1) g ≡ Equal))
          ⊎ (filter (at_least cmp part g) xs ≡ filter (exceeds cmp part g) xs)
          → ((k : ℕ) × (e : ID × V) × (k < length (x ∷ xs)) × (cmp (part (get_or (x ∷ xs) k e).1) g ≡ Equal))
          ⊎ (filter (at_least cmp part g) (x ∷ xs) ≡ filter (exceeds cmp part g) (x ∷ xs))
      by Equal t r = inl (0, x, omega arith, o.antisymm (part x.1) g ∙ ap ordering_reverse t)
      by Less t r = elim r [
        | inl h ↦ inl (suc h.0, h.1, let l = h.2 in omega arith, h.3)
        | inr h ↦ inr (rw t (ap (λ es. x ∷ es) h))
      ]
      by Greater t r = elim r [
        | inl h ↦ inl (suc h.0, h.1, let l = h.2 in omega arith, h.3)
        | inr h ↦ inr (rw t h)
      ]

  module _ (entries entries' : List (ID × V)) (id : ID) (v w : V)
      (same_voters : (x : ID) → is_member eq (take n (keys_of entries')) x ≡ is_member eq (take n (keys_of entries)) x)
      (written : (x : ID) → lookup (eq x) entries' ≡ cond (eq id x) (Some w) (lookup (eq x) entries))
      (was : lookup (eq id) entries ≡ Some v)
      (up : AtMost cmp (part v) (part w)) where
    value_up : (y : ID) (u : V) → lookup (eq y) entries ≡ Some u
        → (u' : V) × (lookup (eq y) entries' ≡ Some u') × AtMost cmp (part u) (part u')
    value_up y u h = by (eq id y) refl
      where
        by : (b : Bool) → eq id y ≡ b → (u' : V) × (lookup (eq y) entries' ≡ Some u') × AtMost cmp (part u) (part u')
        by true t =
            let same : v ≡ u = let e = sym was ∙ lookup_alike laws id y t entries ∙ h in cc in
            (w, written y ∙ ap (λ b. cond b (Some w) (lookup (eq y) entries)) t, ap (λ x. is_le (cmp (part x) (part w))) (sym same) ∙ up)
        by false t = (u, written y ∙ ap (λ b. cond b (Some w) (lookup (eq y) entries)) t ∙ h, AtMost-refl o (part u))

    reached_up : (p p' : P) → AtMost cmp p' p → (y : ID) → reached cmp part (St entries) p y ≡ true
        → reached cmp part (St entries') p' y ≡ true
    reached_up p p' l y h = by (lookup (eq y) entries) refl (of_both _ _ h)
      where
        by : (u : Option V) → lookup (eq y) entries ≡ u
            → (is_member eq (take n (keys_of entries)) y ≡ true) × (has_part cmp part p (lookup (eq y) entries) ≡ true)
            → reached cmp part (St entries') p' y ≡ true
        by None t a = absurd (true≢false (sym (rw t at a.1)))
        by (Some u) t a =
            let r = value_up y u t in
            let far : AtMost cmp p (part u) = rw t at a.1 in
            rw (same_voters y, a.0, r.1) (AtMost-trans o p' (part u) (part r.0) (AtMost-trans o p' p (part u) l far) r.2)

    pub not_below_still : ((x : ID) (u : V) → is_member eq (take n (keys_of entries)) x ≡ true → lookup (eq x) entries ≡ Some u
        → AtMost cmp d0 (part u)) → (x : ID) (u : V) → is_member eq (take n (keys_of entries')) x ≡ true → lookup (eq x) entries' ≡ Some u
        → AtMost cmp d0 (part u)
    not_below_still below x u m l = by (eq id x) refl (sym (written x) ∙ l)
      where
        m' : is_member eq (take n (keys_of entries)) x ≡ true
        m' = sym (same_voters x) ∙ m

        by : (t : Bool) → eq id x ≡ t → cond t (Some w) (lookup (eq x) entries) ≡ Some u → AtMost cmp d0 (part u)
        by true t q =
            let same : w ≡ u = cc in
            rw (← same) (AtMost-trans o d0 (part v) (part w) (below x v m' (sym (lookup_alike laws id x t entries) ∙ was)) up)
        by false t q = below x u m' q

    -- a part that stays above g or stays not above it
    above_same : (g : P) → (is_member eq (take n (keys_of entries)) id ≡ true → is_lt (cmp g (part w)) ≡ is_lt (cmp g (part v))) → (x : ID)
        → above entries' g x ≡ above entries g x
    above_same g same x = by (eq id x) (is_member eq (take n (keys_of entries)) x) refl refl
      where
        by : (b c : Bool) → eq id x ≡ b → is_member eq (take n (keys_of entries)) x ≡ c → above entries' g x ≡ above entries g x
        by false c t h = rw (same_voters x, written x, t) refl
        by true false t h = rw (same_voters x, h) refl
        by true true t h =
            let at : lookup (eq x) entries ≡ Some v = sym (lookup_alike laws id x t entries) ∙ was in
            rw (same_voters x, h, written x, t, at) (same (is_member-alike laws id x t (take n (keys_of entries)) ∙ h))

    -- granted stays if no voter passes it
    pub counted_still : (g : P) → IsDistinct eq (keys_of entries) → IsFalling cmp part g (take n entries)
        → (is_member eq (take n (keys_of entries)) id ≡ true → is_lt (cmp g (part w)) ≡ is_lt (cmp g (part v)))
        → (is_member eq (take n (keys_of entries)) id ≡ true → cmp (part v) g ≡ Equal → cmp (part w) g ≡ Equal)
        → IsCounted cmp part has_quorum (St entries) g → IsCounted cmp part has_quorum (St entries') g
    counted_still g d fall same tie c = record {
      is_one = elim c.is_one [
        | inl e ↦ inl e
        | inr r ↦ inr (one r.0 r.1 r.2 r.3)
      ];
      default_at_most = c.default_at_most;
      others_at_most = others_stay entries' g
          (λ x h. ap (has_quorum qs) (λ i y. above_same g same y i) ∙ above_fails entries d g fall c x (sym (above_same g same x) ∙ h));
    }
      where
        one : (x : ID) (u : V) → IsReached cmp part has_quorum (St entries) x u → cmp (part u) g ≡ Equal
            → (x' : ID) × (u' : V) × IsReached cmp part has_quorum (St entries') x' u' × (cmp (part u') g ≡ Equal)
        one x u r t = by (eq id x) refl
          where
            by : (b : Bool) → eq id x ≡ b
                → (x' : ID) × (u' : V) × IsReached cmp part has_quorum (St entries') x' u' × (cmp (part u') g ≡ Equal)
            by false q = (
              x,
              u,
              record {
                voter = same_voters x ∙ r.voter;
                value = written x ∙ ap (λ b. cond b (Some w) (lookup (eq x) entries)) q ∙ r.value;
                quorum = superset (reached cmp part (St entries) (part u)) (reached cmp part (St entries') (part u))
                    (reached_up (part u) (part u) (AtMost-refl o (part u))) r.quorum;
              },
              t,
            )
            by true q =
                let is : v ≡ u = let e = sym was ∙ lookup_alike laws id x q entries ∙ r.value in cc in
                let t' : cmp (part w) g ≡ Equal =
                tie (is_member-alike laws id x q (take n (keys_of entries)) ∙ r.voter) (ap (λ y. cmp (part y) g) is ∙ t) in
                let less : AtMost cmp (part w) (part u) = tied_le _ (alike_right o (part u) g (part w) t ∙ t') in (
                  x,
                  w,
                  record {
                    voter = same_voters x ∙ r.voter;
                    value = written x ∙ ap (λ b. cond b (Some w) (lookup (eq x) entries)) q;
                    quorum = superset (reached cmp part (St entries) (part u)) (reached cmp part (St entries') (part w))
                        (reached_up (part u) (part w) less) r.quorum;
                  },
                  t',
                )

    module _ (g : P) (c : IsCounted cmp part has_quorum (St entries) g) (d' : IsDistinct eq (keys_of entries'))
        (fall' : IsFalling cmp part g (take n entries')) where
      -- no prefix is a quorum
      pub counted_none : prefix_test eq (has_quorum qs) (take n entries') (lead entries' g) ≡ false
          → IsCounted cmp part has_quorum (St entries') g
      counted_none f = record {
        is_one = elim c.is_one [
          | inl e ↦ inl e
          | inr r ↦ inr (one r.0 r.1 r.2 r.3)
        ];
        default_at_most = c.default_at_most;
        others_at_most = others_stay entries' g (λ x h. sym (above_quorum entries' d' g fall') ∙ f);
      }
        where
          one : (x : ID) (u : V) → IsReached cmp part has_quorum (St entries) x u → cmp (part u) g ≡ Equal
              → (x' : ID) × (u' : V) × IsReached cmp part has_quorum (St entries') x' u' × (cmp (part u') g ≡ Equal)
          one x u r t =
              let back : AtMost cmp g (part u) = tied_le _ (o.antisymm g (part u) ∙ ap ordering_reverse t) in
              let q : has_quorum qs (reached cmp part (St entries') g) ≡ true =
              superset (reached cmp part (St entries) (part u)) (reached cmp part (St entries') g) (reached_up (part u) g back) r.quorum in
              let reach : reaches eq cmp part (has_quorum qs) (take n entries') g ≡ true =
              same_test laws o part has_quorum qs entries' n d0 d' g ∙ q in
              elim (tie_or_not g (take n entries')) [
                | inl h ↦ (
                  (get_or (take n entries') h.0 h.1).0,
                  (get_or (take n entries') h.0 h.1).1,
                  entry_reached entries' d' g fall' h.0 h.1 h.2
                      (ap (λ (t' : ID × V → Bool). has_quorum qs (is_member eq (keys_of (filter t' (take n entries')))))
                      (λ i e. is_le (o.congr (part (get_or (take n entries') h.0 h.1).1) g (part e.1) h.3 i)) ∙ reach),
                  h.3,
                )
                | inr h ↦ absurd (true≢false
                    (sym reach ∙ ap (λ (es : List (ID × V)). has_quorum qs (is_member eq (keys_of es)))
                    (h ∙ filter_is_prefix o part g (λ p. is_lt (cmp g p)) (λ a b h k. lt_le o g a b h k) (λ a h. h) (take n entries') fall')
                    ∙ f))
              ]

      -- the shortest prefix that is a quorum
      pub counted_prefix : (k : ℕ) (f : ID × V) → 1 ≤ k → k ≤ lead entries' g → prefix_test eq (has_quorum qs) (take n entries') k ≡ true
          → ((l : ℕ) → 1 ≤ l → l < k → prefix_test eq (has_quorum qs) (take n entries') l ≡ false) → f ≡ get_or (take n entries') (k - 1) f
          → (AtMost cmp g (part f.1)) × IsCounted cmp part has_quorum (St entries') (part f.1)
      counted_prefix k f one far q least is =
          let w = lead_within entries' d' g fall' in
          let within : k - 1 < length (take n entries') = omega arith in
          let over' : is_lt (cmp g (part (get_or (take n entries') (k - 1) f).1)) ≡ true =
          prefix_len_passes (exceeds cmp part g) (take n entries') (k - 1) f (omega arith) in
          let over : is_lt (cmp g (part f.1)) ≡ true = ap (λ (e : ID × V). is_lt (cmp g (part e.1))) is ∙ over' in
          let more : AtMost cmp g (part f.1) = AtMost-from_lt cmp g (part f.1) over in
          let far' = in_reach entries' d' g fall' (part f.1) over (k - 1) f within
          (ap (λ (e : ID × V). is_le (cmp (part f.1) (part e.1))) (sym is) ∙ AtMost-refl o (part f.1)) in
          let grown : prefix_test eq (has_quorum qs) (take n entries') (prefix_len (at_least cmp part (part f.1))
          (take n entries')) ≡ true =
          superset _ _ (prefix_grows eq (take n entries') k (prefix_len (at_least cmp part (part f.1)) (take n entries'))
          (omega arith)) q in
          let reach : reaches eq cmp part (has_quorum qs) (take n entries') (part (get_or (take n entries') (k - 1) f).1) ≡ true =
          ap (λ (e : ID × V). reaches eq cmp part (has_quorum qs) (take n entries') (part e.1)) (sym is)
          ∙ reaches_prefix entries' d' g fall' (part f.1) over ∙ grown in (
            more,
            record {
              is_one = inr (
                f.0,
                f.1,
                subst (λ (e : ID × V). IsReached cmp part has_quorum (St entries') e.0 e.1) (sym is)
                    (entry_reached entries' d' g fall' (k - 1) f within reach),
                tied_itself o (part f.1),
              );
              default_at_most = AtMost-trans o d0 g (part f.1) c.default_at_most more;
              others_at_most = λ x u r.
                  voter_value laws (λ (y : V). reaches eq cmp part (has_quorum qs) (take n entries') (part y) ≡ true
                  → AtMost cmp (part y) (part f.1)) entries' n x u r.voter r.value
                  (recursion_from_All (λ (e : ID × V). reaches eq cmp part (has_quorum qs) (take n entries') (part e.1) ≡ true
                  → AtMost cmp (part e.1) (part f.1)) (take n entries') (λ j e l h. below j e l h more))
                  (same_test laws o part has_quorum qs entries' n d0 d' (part u) ∙ r.quorum);
            },
          )
        where
          below : (j : ℕ) (e : ID × V) → j < length (take n entries')
              → reaches eq cmp part (has_quorum qs) (take n entries') (part (get_or (take n entries') j e).1) ≡ true
              → AtMost cmp g (part f.1)
              → AtMost cmp (part (get_or (take n entries') j e).1) (part f.1)
          below j e l h more = by (is_lt (cmp g (part (get_or (take n entries') j e).1))) refl
            where
              by : (b : Bool) → is_lt (cmp g (part (get_or (take n entries') j e).1)) ≡ b
                  → AtMost cmp (part (get_or (take n entries') j e).1) (part f.1)
              by false t = AtMost-trans o (part (get_or (take n entries') j e).1) g (part f.1)
                  (AtMost-from_not_lt o g (part (get_or (take n entries') j e).1) t) more
              by true t =
                  let p : P = part (get_or (take n entries') j e).1 in
                  let m : ℕ = prefix_len (at_least cmp part p) (take n entries') in
                  let far' : j < m = in_reach entries' d' g fall' p t j e l (AtMost-refl o p) in
                  let at : prefix_test eq (has_quorum qs) (take n entries') m ≡ true = sym (reaches_prefix entries' d' g fall' p t) ∙ h in
                  to m at (omega arith) (λ i i'. prefix_len_passes (at_least cmp part p) (take n entries') i f i')
                where
                  to : (m : ℕ) → prefix_test eq (has_quorum qs) (take n entries') m ≡ true → 1 ≤ m
                      → ((i : ℕ) → i < m → is_le (cmp (part (get_or (take n entries') j e).1)
                      (part (get_or (take n entries') i f).1)) ≡ true)
                      → AtMost cmp (part (get_or (take n entries') j e).1) (part f.1)
                  to m at up' h' = split (ltb m k) refl
                    where
                      split : (b : Bool) → ltb m k ≡ b → AtMost cmp (part (get_or (take n entries') j e).1) (part f.1)
                      split true u = absurd (true≢false (sym at ∙ least m up' (ltb-true m k u)))
                      split false u = let v' = ltb-false m k u in
                          ap (λ (y : ID × V). is_le (cmp (part (get_or (take n entries') j e).1) (part y.1))) is ∙ h' (k - 1) (omega arith)
