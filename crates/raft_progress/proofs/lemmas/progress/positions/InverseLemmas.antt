-- Two lists each of which has the positions of its numbers in the other, and how a move rewrites
-- both.
use Rattle.std.specs.Prelude.{◌≡◌, ◌≢◌, ℕ, ◌-◌, ◌<◌, ◌≤◌, Bool, cond, ◌==◌, List, [], ◌∷◌, ◌++◌, length, map, take, drop}
use Rattle.std.specs.Map.{keys_of, values_of, lookup}
use Rattle.std.specs.Option.{option_map}
use Rattle.std.proofs.Common.{arith, sym, ap, refl, ◌∙◌, get_or, set, subst, suc, zero, inl, inr}
use Rattle.std.proofs.Math.Seq.{take-append_seam}
use Rattle.std.proofs.lemmas.Bool.{cases_eq}
use Rattle.std.proofs.lemmas.Map.Made.{lookup-map_values}
use Rattle.std.proofs.lemmas.List.{length-map, length-set, get_or-set_same, get_or-set_other, set-set, set_comm, set-get_or, get_or-map}
use Rattle.std.proofs.lemmas.Bool.Decides.{nat_tests}
use Rattle.raft_progress.specs.Inner.Positions.{AreInverse, position_after}

-- lists that agree everywhere are the same
pub same_lists : (xs ys : List ℕ) → length xs ≡ length ys → ((k : ℕ) → k < length xs → get_or xs k 0 ≡ get_or ys k 0) → xs ≡ ys
same_lists [] [] l h = refl
same_lists [] (y ∷ ys) l h = absurd (omega arith)
same_lists (x ∷ xs) [] l h = absurd (omega arith)
same_lists (x ∷ xs) (y ∷ ys) l h =
    ap (λ z. z ∷ xs) (h 0 (omega arith)) ∙ ap (λ zs. y ∷ zs) (same_lists xs ys (omega arith) (λ k m. h (suc k) (omega arith)))

-- positions that are renumbered, and ranks that moved with them
renumbered : (P R P' R' : List ℕ) (f g : ℕ → ℕ) → AreInverse P R → length P' ≡ length P → length R' ≡ length R
    → ((r : ℕ) → r < length P → get_or P' r 0 ≡ f (get_or P r 0)) → ((p : ℕ) → p < length R → get_or R' p 0 ≡ get_or R (g p) 0)
    → ((p : ℕ) → p < length R → f p < length R) → ((p : ℕ) → p < length R → g p < length R)
    → ((p : ℕ) → g (f p) ≡ p) → ((p : ℕ) → f (g p) ≡ p) → AreInverse P' R'
renumbered P R P' R' f g a lp lr fs gs fin gin gf fg = record { one_length = lr ∙ a.one_length ∙ sym lp; back = back; forth = forth }
  where
    back : (r : ℕ) → r < length P' → (get_or P' r 0 < length R') × (get_or R' (get_or P' r 0) 0 ≡ r)
    back r l =
        let m : r < length P = omega arith in
        let b = a.back r m in
        let e = fs r m in
        let i = fin (get_or P r 0) b.0 in
        (omega arith, ap (λ p. get_or R' p 0) e ∙ gs (f (get_or P r 0)) i ∙ ap (λ p. get_or R p 0) (gf (get_or P r 0)) ∙ b.1)

    forth : (p : ℕ) → p < length R' → (get_or R' p 0 < length P') × (get_or P' (get_or R' p 0) 0 ≡ p)
    forth p l =
        let m : p < length R = omega arith in
        let b = a.forth (g p) (gin p m) in
        let e = gs p m in
        (omega arith, ap (λ r. get_or P' r 0) e ∙ fs (get_or R (g p) 0) b.0 ∙ ap f b.1 ∙ fg p)

-- the position after the entries at `at` and before it have been swapped
abbrev pub exchanged : ℕ → ℕ → ℕ
exchanged at position = cond (position == at) (at - 1) (cond (position == at - 1) at position)

exchanged_at : (at : ℕ) → exchanged at at ≡ at - 1
exchanged_at at = grind (arith, nat_tests)

exchanged_before : (at : ℕ) → 0 < at → exchanged at (at - 1) ≡ at
exchanged_before at l = grind (arith, nat_tests)

exchanged_other : (at p : ℕ) → p ≢ at → p ≢ at - 1 → exchanged at p ≡ p
exchanged_other at p m n = grind (arith, nat_tests)

exchanged_within : (at p n : ℕ) → at < n → p < n → exchanged at p < n
exchanged_within at p n l m = grind (arith, nat_tests)

exchanged_twice : (at p : ℕ) → 0 < at → exchanged at (exchanged at p) ≡ p
exchanged_twice at p l = grind (arith, nat_tests)

-- two neighbours swap positions
module _ (P R : List ℕ) (a : AreInverse P R) (at u l : ℕ) (second : 0 < at) (within : at < length R) (us : u ≡ get_or R (at - 1) 0)
    (ls : l ≡ get_or R at 0) where
  u_within : u < length P
  u_within = let b = a.forth (at - 1) (omega arith) in omega arith

  l_within : l < length P
  l_within = let b = a.forth at within in omega arith

  position_of_u : get_or P u 0 ≡ at - 1
  position_of_u = let b = a.forth (at - 1) (omega arith) in ap (λ r. get_or P r 0) us ∙ b.1

  position_of_l : get_or P l 0 ≡ at
  position_of_l = let b = a.forth at within in ap (λ r. get_or P r 0) ls ∙ b.1

  pub apart : u ≢ l
  apart e = let p = position_of_u in let q = position_of_l in let w = ap (λ r. get_or P r 0) e in omega arith

  swapped_positions : (r : ℕ) → r < length P → get_or (set (set P u at) l (at - 1)) r 0 ≡ exchanged at (get_or P r 0)
  swapped_positions r m = elim (cases_eq r l) [
    | inl e ↦
        ap (λ k. get_or (set (set P u at) l (at - 1)) k 0) e
        ∙ get_or-set_same (set P u at) l (at - 1) 0 (omega (arith, l_within, length-set P u at))
        ∙ sym (ap (λ k. exchanged at (get_or P k 0)) e ∙ ap (exchanged at) position_of_l ∙ exchanged_at at)
    | inr n ↦
        get_or-set_other (set P u at) l r (at - 1) 0 n
        ∙ elim (cases_eq r u) [
          | inl e ↦
              ap (λ k. get_or (set P u at) k 0) e ∙ get_or-set_same P u at 0 u_within
              ∙ sym (ap (λ k. exchanged at (get_or P k 0)) e ∙ ap (exchanged at) position_of_u ∙ exchanged_before at second)
          | inr o ↦
              let b = (a.back r m).1 in
              get_or-set_other P u r at 0 o
              ∙ sym (exchanged_other at (get_or P r 0) (λ e. n (sym b ∙ ap (λ p. get_or R p 0) e ∙ sym ls))
              (λ e. o (sym b ∙ ap (λ p. get_or R p 0) e ∙ sym us)))
        ]
  ]

  swapped_ranks : (p : ℕ) → p < length R → get_or (set (set R (at - 1) l) at u) p 0 ≡ get_or R (exchanged at p) 0
  swapped_ranks p m = elim (cases_eq p at) [
    | inl e ↦
        ap (λ k. get_or (set (set R (at - 1) l) at u) k 0) e
        ∙ get_or-set_same (set R (at - 1) l) at u 0 (omega (arith, length-set R (at - 1) l))
        ∙ us ∙ sym (ap (λ k. get_or R (exchanged at k) 0) e ∙ ap (λ k. get_or R k 0) (exchanged_at at))
    | inr n ↦
        get_or-set_other (set R (at - 1) l) at p u 0 n
        ∙ elim (cases_eq p (at - 1)) [
          | inl e ↦
              ap (λ k. get_or (set R (at - 1) l) k 0) e ∙ get_or-set_same R (at - 1) l 0 (omega arith)
              ∙ ls ∙ sym (ap (λ k. get_or R (exchanged at k) 0) e ∙ ap (λ k. get_or R k 0) (exchanged_before at second))
          | inr o ↦ get_or-set_other R (at - 1) p l 0 o ∙ sym (ap (λ k. get_or R k 0) (exchanged_other at p n o))
        ]
  ]

  pub inverse_swapped : AreInverse (set (set P u at) l (at - 1)) (set (set R (at - 1) l) at u)
  inverse_swapped =
      renumbered P R _ _ (exchanged at) (exchanged at) a (length-set (set P u at) l (at - 1) ∙ length-set P u at)
      (length-set (set R (at - 1) l) at u ∙ length-set R (at - 1) l)
      swapped_positions swapped_ranks (λ p m. exchanged_within at p (length R) within m) (λ p m. exchanged_within at p (length R) within m)
      (λ p. exchanged_twice at p second) (λ p. exchanged_twice at p second)

  pub positions_swapped : set (set P u at) l (at - 1) ≡ map (exchanged at) P
  positions_swapped =
      let n = length-set (set P u at) l (at - 1) ∙ length-set P u at in
      same_lists _ _ (n ∙ sym (length-map P (exchanged at)))
      (λ k m. let w : k < length P = omega arith in swapped_positions k w ∙ sym (get_or-map (exchanged at) P k 0 0 w))

-- what an entry's new position makes of the ids and of the positions
pub keys_rewritten : {ID : Type 0} (es : List (ID × ℕ)) (i : ℕ) (d : ID × ℕ) (w : ℕ)
    → keys_of (set es i ((get_or es i d).0, w)) ≡ keys_of es
keys_rewritten [] i d w = refl
keys_rewritten (e ∷ es) zero d w = refl
keys_rewritten (e ∷ es) (suc i) d w = ap (λ ks. e.0 ∷ ks) (keys_rewritten es i d w)

pub values_rewritten : {ID : Type 0} (es : List (ID × ℕ)) (i : ℕ) (x : ID) (w : ℕ) → values_of (set es i (x, w)) ≡ set (values_of es) i w
values_rewritten [] i x w = refl
values_rewritten (e ∷ es) zero x w = refl
values_rewritten (e ∷ es) (suc i) x w = ap (λ vs. e.1 ∷ vs) (values_rewritten es i x w)

-- if all positions are renumbered, so is the position of each id
parted : {ID : Type 0} → List ID → List ℕ → List (ID × ℕ)
parted [] vs = []
parted (k ∷ ks) [] = []
parted (k ∷ ks) (v ∷ vs) = (k, v) ∷ parted ks vs

parted_itself : {ID : Type 0} (es : List (ID × ℕ)) → parted (keys_of es) (values_of es) ≡ es
unfolding parted
parted_itself [] = refl
parted_itself (e ∷ es) = ap (λ fs. e ∷ fs) (parted_itself es)

parted-map : {ID : Type 0} (f : ℕ → ℕ) (ks : List ID) (vs : List ℕ) → parted ks (map f vs) ≡ map (λ e. (e.0, f e.1)) (parted ks vs)
unfolding parted
parted-map f [] vs = refl
parted-map f (k ∷ ks) [] = refl
parted-map f (k ∷ ks) (v ∷ vs) = ap (λ fs. (k, f v) ∷ fs) (parted-map f ks vs)

pub lookup_renumbered : {ID : Type 0} (f : ℕ → ℕ) (test : ID → Bool) (es fs : List (ID × ℕ)) → keys_of fs ≡ keys_of es
    → values_of fs ≡ map f (values_of es) → lookup test fs ≡ option_map f (lookup test es)
lookup_renumbered f test es fs k v =
    ap (lookup test) (sym (parted_itself fs) ∙ ap (λ ks. parted ks (values_of fs)) k ∙ ap (parted (keys_of es)) v
    ∙ parted-map f (keys_of es) (values_of es) ∙ ap (map (λ e. (e.0, f e.1))) (parted_itself es))
    ∙ lookup-map_values f test es

-- if an entry moves up step by step, its last step is a swap
after_step : (position last : ℕ) → 0 < position → position ≤ last → (p : ℕ)
    → exchanged position (position_after position last p) ≡ position_after (position - 1) last p
after_step position last l m p = grind (arith, nat_tests)

after_none : (last p : ℕ) → position_after last last p ≡ p
after_none last p = grind (arith, nat_tests)

-- When an entry moves up past several others, its position and the rank of its position are written
-- last. Until then the two lists would be those of a move that ends at `position`, if the entry were
-- put there.
pub record Lifted (P R : List ℕ) (last risen position : ℕ) (P' R' : List ℕ) : Type 0 where
  pub inverse : AreInverse (set P' risen position) (set R' position risen)
  pub positions : set P' risen position ≡ map (position_after position last) P

after_both : (P : List ℕ) (f g h : ℕ → ℕ) → ((p : ℕ) → f (g p) ≡ h p) → map f (map g P) ≡ map h P
after_both [] f g h e = refl
after_both (p ∷ P) f g h e = ap (λ q. q ∷ map f (map g P)) (e p) ∙ ap (λ qs. h p ∷ qs) (after_both P f g h e)

after_neither : (P : List ℕ) (f : ℕ → ℕ) → ((p : ℕ) → f p ≡ p) → map f P ≡ P
after_neither [] f e = refl
after_neither (p ∷ P) f e = ap (λ q. q ∷ map f P) (e p) ∙ ap (λ qs. p ∷ qs) (after_neither P f e)

pub lifted_none : (P R : List ℕ) (last risen : ℕ) → AreInverse P R → last < length R → risen ≡ get_or R last 0
    → Lifted P R last risen last P R
lifted_none P R last risen a l is =
    let b = a.forth last l in
    let at : get_or P risen 0 ≡ last = ap (λ r. get_or P r 0) is ∙ b.1 in
    let ps : set P risen last ≡ P = ap (set P risen) (sym at) ∙ set-get_or P risen 0 in
    let rs : set R last risen ≡ R = ap (set R last) is ∙ set-get_or R last 0 in
    record {
      inverse = subst (λ vs. AreInverse vs (set R last risen)) (sym ps) (subst (AreInverse P) (sym rs) a);
      positions = ps ∙ sym (after_neither P (position_after last last) (after_none last));
    }

module _ (P R : List ℕ) (last risen position : ℕ) (P' R' : List ℕ) (m : Lifted P R last risen position P' R')
    (within : position < length R') where
  n : position < length (set R' position risen)
  n = omega (arith, length-set R' position risen)

  risen_at : risen ≡ get_or (set R' position risen) position 0
  risen_at = sym (get_or-set_same R' position risen 0 within)

  module _ (passed : ℕ) (second : 0 < position) (top : position ≤ last) (is : passed ≡ get_or R' (position - 1) 0) where
    passed_at : passed ≡ get_or (set R' position risen) (position - 1) 0
    passed_at = is ∙ sym (get_or-set_other R' position (position - 1) risen 0 (λ e. omega arith))

    pub passed_within : passed < length P'
    passed_within = let b = (m.inverse.forth (position - 1) (omega (arith, n))).0 in let e = passed_at in
        omega (arith, length-set P' risen position)

    pub lifted_more : Lifted P R last risen (position - 1) (set P' passed position) (set R' position passed)
    lifted_more =
        let down : position - 1 ≢ position = λ e. omega arith in
        let ne = apart (set P' risen position) (set R' position risen) m.inverse position passed risen second n passed_at risen_at in
        let ps : set (set (set P' risen position) passed position) risen (position - 1) ≡ set (set P' passed position) risen
        (position - 1) =
        ap (λ vs. set vs risen (position - 1)) (set_comm P' risen passed position position (λ e. ne (sym e)))
        ∙ set-set (set P' passed position) risen position (position - 1) in
        let rs : set (set (set R' position risen) (position - 1) risen) position passed ≡ set (set R' position passed)
        (position - 1) risen =
        ap (λ vs. set vs position passed) (set_comm R' position (position - 1) risen risen (λ e. down (sym e)))
        ∙ set-set (set R' (position - 1) risen) position risen passed
        ∙ set_comm R' (position - 1) position risen passed down in
        let inv = inverse_swapped (set P' risen position)
        (set R' position risen) m.inverse position passed risen second n passed_at risen_at in
        record {
          inverse = subst (λ vs. AreInverse vs (set (set R' position passed) (position - 1) risen)) ps
              (subst (AreInverse (set (set (set P' risen position) passed position) risen (position - 1))) rs inv);
          positions =
              sym ps ∙ positions_swapped (set P' risen position)
              (set R' position risen) m.inverse position passed risen second n passed_at risen_at
              ∙ ap (map (exchanged position)) m.positions
              ∙ after_both P (exchanged position) (position_after position last) (position_after (position - 1) last)
              (after_step position last second top);
        }

-- a list that is lent as a slice is what was written there
pub lent_whole : {X : Type 0} (xs ys : List X) (n : ℕ) → n ≡ length xs → length ys ≡ length xs → take n (ys ++ drop (length ys) xs) ≡ ys
lent_whole xs ys n l m = ap (λ k. take k (ys ++ drop (length ys) xs)) (l ∙ sym m) ∙ take-append_seam ys (drop (length ys) xs)
