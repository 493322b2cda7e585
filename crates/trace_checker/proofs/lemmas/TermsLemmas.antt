-- What a server has kept since its earlier terms.
use Rattle.std.specs.Prelude.{◌≡◌, ◌+◌, ◌-◌, ◌<◌, ◌≤◌, ℕ, zero, suc, Bool, true, false, nat_le, min, if◌then◌else◌, List, [], ◌∷◌, ◌++◌, length, take, get_or, set}
use Rattle.std.proofs.Common.{refl, sym, ap, ◌∙◌, arith}
use Rattle.std.proofs.lemmas.Bool.{le-leb, leb-false, leb-true, lt-leb, lt-ltb}
use Rattle.std.proofs.lemmas.List.{take_more}
use Rattle.trace_checker.specs.Inner.CheckerState.{kept_after, kept_from}
use Rattle.trace_checker.specs.Inner.TermsState.{IsRising, last_kept, lowered}
use Rattle.trace_checker.specs.declared.checker.terms.Kept.{Kept}

-- ---- the last items

pub kept_from_push : (n : ℕ) (ks : List Kept) (k : Kept) (r : ℕ)
    → kept_from n (ks ++ k ∷ []) r ≡ (if nat_le k.term r then k.len else kept_from n ks r)
kept_from_push n [] k r = refl
kept_from_push n (x ∷ ks) k r = kept_from_push (if nat_le x.term r then x.len else n) ks k r

kept_to : (ks : List Kept) (i r : ℕ) (d : Kept) → 0 < i → i ≤ length ks
    → kept_from 0 (take i ks) r
    ≡ (if nat_le (get_or ks (i - 1) d).term r then (get_or ks (i - 1) d).len else kept_from 0 (take (i - 1) ks) r)
kept_to ks i r d pos within =
    let before : i - 1 < length ks = omega arith in
    let at : i - 1 + 1 ≡ i = omega arith in
    ap (λ j. kept_from 0 (take j ks) r) (sym at)
    ∙ ap (λ (l : List Kept). kept_from 0 l r) (take_more ks (i - 1) d before)
    ∙ kept_from_push 0 (take (i - 1) ks) (get_or ks (i - 1) d) r

-- a search goes on before an item of a later term
pub kept_before : (ks : List Kept) (i r : ℕ) (d : Kept) → 0 < i → i ≤ length ks
    → r < (get_or ks (i - 1) d).term → kept_from 0 (take i ks) r ≡ kept_from 0 (take (i - 1) ks) r
kept_before ks i r d pos within above =
    kept_to ks i r d pos within
    ∙ ap (λ b. if b then (get_or ks (i - 1) d).len else kept_from 0 (take (i - 1) ks) r)
    (lt-leb (get_or ks (i - 1) d).term r above)

-- a search ends at an item of a term that is not later
pub kept_here : (ks : List Kept) (i r : ℕ) (d : Kept) → 0 < i → i ≤ length ks
    → (get_or ks (i - 1) d).term ≤ r → kept_from 0 (take i ks) r ≡ (get_or ks (i - 1) d).len
kept_here ks i r d pos within below =
    kept_to ks i r d pos within
    ∙ ap (λ b. if b then (get_or ks (i - 1) d).len else kept_from 0 (take (i - 1) ks) r)
    (le-leb (get_or ks (i - 1) d).term r below)

pub last_kept_at : (n j : ℕ) (ks : List Kept) (d : Kept) → suc j ≡ length ks
    → (get_or ks j d).len ≡ last_kept n ks
last_kept_at n j [] d h = absurd (omega (arith, h))
last_kept_at n zero (x ∷ []) d h = refl
last_kept_at n zero (x ∷ y ∷ ks) d h = absurd (omega (arith, h))
last_kept_at n (suc j) (x ∷ ks) d h = last_kept_at x.len j ks d (omega (arith, h))

-- ---- rising lists

pub rising_to : (t n last : ℕ) (ks : List Kept) → IsRising t n last ks → t ≤ last
rising_to t n last [] h = h
rising_to t n last (k ∷ ks) h =
    let next : k.term ≤ last = rising_to k.term k.len last ks h.rest in
    omega (arith, h.term, next)

pub rising_higher : (t n last next : ℕ) (ks : List Kept) → IsRising t n last ks → last ≤ next
    → IsRising t n next ks
rising_higher t n last next [] h up = omega (arith, h, up)
rising_higher t n last next (k ∷ ks) h up = record {
  term = h.term;
  len = h.len;
  rest = rising_higher k.term k.len last next ks h.rest up;
}

pub rising_push : (t n last next len : ℕ) (ks : List Kept) → IsRising t n last ks
    → last_kept n ks ≤ len → last ≤ next → IsRising t n next (ks ++ record { term = last; len = len } ∷ [])
rising_push t n last next len [] h more up = record { term = h; len = more; rest = up }
rising_push t n last next len (k ∷ ks) h more up = record {
  term = h.term;
  len = h.len;
  rest = rising_push k.term k.len last next len ks h.rest more up;
}

rising_lowered_to : (m t n last : ℕ) (ks : List Kept) → n ≤ m → IsRising t n last ks
    → IsRising t n last (lowered m ks)
rising_lowered_to m t n last [] fits h = h
rising_lowered_to m t n last (k ∷ ks) fits h =
    go (nat_le k.len m) refl (λ small. rising_lowered_to m k.term k.len last ks small h.rest)
  where
    go : (b : Bool) → nat_le k.len m ≡ b → (k.len ≤ m → IsRising k.term k.len last (lowered m ks))
        → IsRising t n last (if b then k ∷ lowered m ks else record { term = k.term; len = m } ∷ [])
    go true e rest = record {
      term = h.term;
      len = h.len;
      rest = rest (leb-true k.len m e);
    }
    go false e rest = record {
      term = h.term;
      len = fits;
      rest = rising_to k.term k.len last ks h.rest;
    }

pub rising_lowered : (m last : ℕ) (ks : List Kept) → IsRising 0 0 last ks → IsRising 0 0 last (lowered m ks)
rising_lowered m last ks h = rising_lowered_to m 0 0 last ks (omega arith) h

-- ---- what is kept in a rising list

kept_above : (m s t n last r : ℕ) (ks : List Kept) → m < s → m < n → IsRising t n last ks
    → m < kept_from s ks r
kept_above m s t n last r [] more above h = more
kept_above m s t n last r (k ∷ ks) more above h =
    let here : m < k.len = omega (arith, above, h.len) in
    kept_above m (if nat_le k.term r then k.len else s) k.term k.len last r ks (go (nat_le k.term r) here) here h.rest
  where
    go : (b : Bool) → m < k.len → m < (if b then k.len else s)
    go true here = here
    go false here = more

kept_first : (s t n last r : ℕ) (ks : List Kept) → r < t → IsRising t n last ks → kept_from s ks r ≡ s
kept_first s t n last r [] before h = refl
kept_first s t n last r (k ∷ ks) before h =
    let later : r < k.term = omega (arith, before, h.term) in
    ap (λ b. kept_from (if b then k.len else s) ks r) (lt-leb k.term r later)
    ∙ kept_first s k.term k.len last r ks later h.rest

kept_end : (s t n last r : ℕ) (ks : List Kept) → last ≤ r → IsRising t n last ks
    → kept_from s ks r ≡ last_kept s ks
kept_end s t n last r [] after h = refl
kept_end s t n last r (k ∷ ks) after h =
    let to : k.term ≤ last = rising_to k.term k.len last ks h.rest in
    let earlier : k.term ≤ r = omega (arith, to, after) in
    ap (λ b. kept_from (if b then k.len else s) ks r) (le-leb k.term r earlier)
    ∙ kept_end k.len k.term k.len last r ks after h.rest

kept_under : (s e t n last r : ℕ) (ks : List Kept) → s ≤ e → e ≤ n → IsRising t n last ks
    → kept_from s ks r ≤ last_kept e ks
kept_under s e t n last r [] fits small h = fits
kept_under s e t n last r (k ∷ ks) fits small h =
    kept_under (if nat_le k.term r then k.len else s) k.len k.term k.len last r ks (go (nat_le k.term r))
    (omega arith) h.rest
  where
    go : (b : Bool) → (if b then k.len else s) ≤ k.len
    go true = omega arith
    go false = omega (arith, fits, small, h.len)

kept_lowered_to : (m s t n last r : ℕ) (ks : List Kept) → s ≤ m → IsRising t n last ks
    → kept_from s (lowered m ks) r ≡ min (kept_from s ks r) m
kept_lowered_to m s t n last r [] fits h = omega arith
kept_lowered_to m s t n last r (k ∷ ks) fits h =
    go (nat_le k.len m) refl (nat_le k.term r) refl (λ x small. kept_lowered_to m x k.term k.len last r ks small h.rest)
  where
    go : (b : Bool) → nat_le k.len m ≡ b → (c : Bool) → nat_le k.term r ≡ c
        → ((x : ℕ) → x ≤ m → kept_from x (lowered m ks) r ≡ min (kept_from x ks r) m)
        → kept_from s (if b then k ∷ lowered m ks else record { term = k.term; len = m } ∷ []) r
        ≡ min (kept_from (if c then k.len else s) ks r) m
    go true e true f rest =
        let small : k.len ≤ m = leb-true k.len m e in
        ap (λ c. kept_from (if c then k.len else s) (lowered m ks) r) f
        ∙ rest k.len small
    go true e false f rest =
        ap (λ c. kept_from (if c then k.len else s) (lowered m ks) r) f
        ∙ rest s fits
    go false e true f rest =
        let big : m < k.len = leb-false k.len m e in
        let more : m < kept_from k.len ks r = kept_above m k.len k.term k.len last r ks big big h.rest in
        ap (λ c. if c then m else s) f ∙ omega (arith, more)
    go false e false f rest =
        let same : kept_from s ks r ≡ s = kept_first s k.term k.len last r ks (leb-false k.term r f) h.rest in
        ap (λ c. if c then m else s) f ∙ omega (arith, same, fits)

pub kept_lowered : (m last r : ℕ) (ks : List Kept) → IsRising 0 0 last ks
    → kept_from 0 (lowered m ks) r ≡ min (kept_from 0 ks r) m
kept_lowered m last r ks h = kept_lowered_to m 0 0 0 last r ks (omega arith) h

-- ---- a term is reached

pub reach_pushes : (last next len r : ℕ) (ks : List Kept) → IsRising 0 0 last ks → last < next
    → last_kept 0 ks < len
    → kept_from 0 (ks ++ record { term = last; len = len } ∷ []) r ≡ kept_after ks last len next r
reach_pushes last next len r ks h up more =
    kept_from_push 0 ks (record { term = last; len = len }) r ∙ go (nat_le last r)
    ∙ ap (λ b. if b then (if nat_le last r then len else min (kept_from 0 ks r) len) else kept_from 0 ks r)
    (sym (lt-ltb last next up))
  where
    under : kept_from 0 ks r ≤ last_kept 0 ks
    under = kept_under 0 0 0 0 last r ks (omega arith) (omega arith) h

    go : (b : Bool) → (if b then len else kept_from 0 ks r) ≡ (if b then len else min (kept_from 0 ks r) len)
    go true = refl
    go false = omega (arith, under, more)

pub reach_lowers : (last next len r : ℕ) (ks : List Kept) → IsRising 0 0 last ks → last < next
    → len ≤ last_kept 0 ks → kept_from 0 (lowered len ks) r ≡ kept_after ks last len next r
reach_lowers last next len r ks h up few =
    kept_lowered len last r ks h ∙ go (nat_le last r) refl
    ∙ ap (λ b. if b then (if nat_le last r then len else min (kept_from 0 ks r) len) else kept_from 0 ks r)
    (sym (lt-ltb last next up))
  where
    go : (b : Bool) → nat_le last r ≡ b
        → min (kept_from 0 ks r) len ≡ (if b then len else min (kept_from 0 ks r) len)
    go true e =
        let end : kept_from 0 ks r ≡ last_kept 0 ks = kept_end 0 0 0 last r ks (leb-true last r e) h in
        omega (arith, end, few)
    go false e = refl

-- ---- a list is lowered in place

last_from : (t n last : ℕ) (ks : List Kept) → IsRising t n last ks → n ≤ last_kept n ks
last_from t n last [] h = omega arith
last_from t n last (k ∷ ks) h =
    let rest : k.len ≤ last_kept k.len ks = last_from k.term k.len last ks h.rest in
    omega (arith, h.len, rest)

lowered_none : (m t n last : ℕ) (ks : List Kept) → IsRising t n last ks → last_kept n ks ≤ m
    → lowered m ks ≡ ks
lowered_none m t n last [] h fits = refl
lowered_none m t n last (k ∷ ks) h fits =
    let rest : k.len ≤ last_kept k.len ks = last_from k.term k.len last ks h.rest in
    let small : k.len ≤ m = omega (arith, rest, fits) in
    ap (λ b. if b then k ∷ lowered m ks else record { term = k.term; len = m } ∷ []) (le-leb k.len m small)
    ∙ ap (λ l. k ∷ l) (lowered_none m k.term k.len last ks h.rest fits)

rising_len : (t n last j : ℕ) (ks : List Kept) (d : Kept) → IsRising t n last ks → j < length ks
    → n ≤ (get_or ks j d).len
rising_len t n last j [] d h within = absurd (omega (arith, within))
rising_len t n last zero (k ∷ ks) d h within = h.len
rising_len t n last (suc j) (k ∷ ks) d h within =
    let rest : k.len ≤ (get_or ks j d).len = rising_len k.term k.len last j ks d h.rest (omega (arith, within)) in
    omega (arith, h.len, rest)

lowered_in : (m t n last c : ℕ) (ks : List Kept) (d : Kept) → IsRising t n last ks → c < length ks
    → m < (get_or ks c d).len → ((j : ℕ) → suc j ≡ c → (get_or ks j d).len ≤ m)
    → lowered m ks ≡ take (suc c) (set ks c (record { term = (get_or ks c d).term; len = m }))
lowered_in m t n last c [] d h within above fits = absurd (omega (arith, within))
lowered_in m t n last zero (k ∷ ks) d h within above fits =
    ap (λ b. if b then k ∷ lowered m ks else record { term = k.term; len = m } ∷ []) (lt-leb k.len m above)
lowered_in m t n last (suc c) (k ∷ ks) d h within above fits =
    ap (λ b. if b then k ∷ lowered m ks else record { term = k.term; len = m } ∷ []) (le-leb k.len m (small c refl))
    ∙ ap (λ l. k ∷ l) (lowered_in m k.term k.len last c ks d h.rest (omega (arith, within)) above
    (λ j e. fits (suc j) (ap (λ i. suc i) e)))
  where
    small : (i : ℕ) → i ≡ c → k.len ≤ m
    small zero e = fits zero (ap (λ i. suc i) e)
    small (suc i) e =
        let here : (get_or ks i d).len ≤ m = fits (suc i) (ap (λ j. suc j) e) in
        let rest : k.len ≤ (get_or ks i d).len =
        rising_len k.term k.len last i ks d h.rest (omega (arith, within, e)) in
        omega (arith, here, rest)

-- nothing is greater
pub lowers_nothing : (m last c : ℕ) (ks : List Kept) (d : Kept) → IsRising 0 0 last ks → c ≡ length ks
    → (0 < c → (get_or ks (c - 1) d).len ≤ m) → ks ≡ lowered m ks
lowers_nothing m last c [] d h is fits = refl
lowers_nothing m last c (k ∷ ks) d h is fits =
    let at : suc (c - 1) ≡ length (k ∷ ks) = omega (arith, is) in
    let pos : 0 < c = omega (arith, is) in
    let small : last_kept 0 (k ∷ ks) ≤ m = rw (← last_kept_at 0 (c - 1) (k ∷ ks) d at) (fits pos) in
    sym (lowered_none m 0 0 last (k ∷ ks) h small)

-- the first item that is greater is lowered, and those after it go
pub lowers_at : (m last c : ℕ) (ks : List Kept) (d : Kept) → IsRising 0 0 last ks → c < length ks
    → d ≡ get_or ks c d → m < (get_or ks c d).len → (0 < c → (get_or ks (c - 1) d).len ≤ m)
    → take (c + 1) (set ks c (record { term = d.term; len = m })) ≡ lowered m ks
lowers_at m last c ks d h within is above fits =
    ap (λ n. take n (set ks c (record { term = d.term; len = m }))) more
    ∙ ap (λ (x : Kept). take (suc c) (set ks c (record { term = x.term; len = m }))) is
    ∙ sym (lowered_in m 0 0 last c ks d h within above before)
  where
    more : c + 1 ≡ suc c
    more = omega arith

    before : (j : ℕ) → suc j ≡ c → (get_or ks j d).len ≤ m
    before j e =
        let at : j ≡ c - 1 = omega (arith, e) in
        let pos : 0 < c = omega (arith, e) in
        rw at (fits pos)
