-- What the tests of a comparison say of one another, and how a total order chains them.
use Rattle.std.specs.Prelude.{◌≡◌, true, false}
use Rattle.std.specs.declared.cmp.Ordering.{Ordering}
use Rattle.std.specs.declared.cmp.Ordering.TheVariants.{Less, Equal, Greater}
use Rattle.std.specs.Ordering.{is_eq, is_gt, is_le, is_lt, ordering_reverse}
use Rattle.std.specs.Cmp.{IsTotalOrder}
use Rattle.std.proofs.Common.{sym, ap, refl, ◌∙◌, true≢false}
use Rattle.std.proofs.lemmas.Cmp.{alike_right, tied_itself, upto}
use Rattle.raft_progress.specs.progress.CountedValue.{AtMost}

less : (r : Ordering) → is_lt r ≡ true → r ≡ Less
less Less e = refl
less Equal e = absurd (true≢false (sym e))
less Greater e = absurd (true≢false (sym e))

pub le_of_eq : (o : Ordering) → is_eq o ≡ true → is_le o ≡ true
le_of_eq Less h = refl
le_of_eq Equal h = refl
le_of_eq Greater h = absurd (true≢false (sym h))

not_gt_from_le : (r : Ordering) → is_le r ≡ true → is_gt r ≡ false
not_gt_from_le Less e = refl
not_gt_from_le Equal e = refl
not_gt_from_le Greater e = absurd (true≢false (sym e))

le_from_not_gt : (r : Ordering) → is_gt r ≡ false → is_le r ≡ true
le_from_not_gt Less e = refl
le_from_not_gt Equal e = refl
le_from_not_gt Greater e = absurd (true≢false e)

-- of a comparison from the other side
pub lt_reversed : (r : Ordering) → is_lt r ≡ true → is_le (ordering_reverse r) ≡ false
lt_reversed Less h = refl
lt_reversed Equal h = absurd (true≢false (sym h))
lt_reversed Greater h = absurd (true≢false (sym h))

not_lt_reversed : (r : Ordering) → is_lt r ≡ false → is_le (ordering_reverse r) ≡ true
not_lt_reversed Less e = absurd (true≢false e)
not_lt_reversed Equal e = refl
not_lt_reversed Greater e = refl

le_reversed : (r : Ordering) → is_le r ≡ true → is_lt (ordering_reverse r) ≡ false
le_reversed Less e = refl
le_reversed Equal e = refl
le_reversed Greater e = absurd (true≢false (sym e))

-- what `<` says of `<=`
pub AtMost-from_lt : {P : Type 0} (cmp : P → P → Ordering) (a b : P) → is_lt (cmp a b) ≡ true → AtMost cmp a b
AtMost-from_lt cmp a b = elim (cmp a b) as (λ o. is_lt o ≡ true → is_le o ≡ true)
    [ Less ↦ λ e. refl | Equal ↦ λ e. refl | Greater ↦ λ e. e ]

module _ {P : Type 0} {cmp : P → P → Ordering} (o : IsTotalOrder cmp) where
  pub AtMost-refl : (a : P) → AtMost cmp a a
  AtMost-refl a = ap is_le (tied_itself o a)

  pub AtMost-trans : (a b c : P) → AtMost cmp a b → AtMost cmp b c → AtMost cmp a c
  AtMost-trans a b c p q = le_from_not_gt (cmp a c) (upto o a b c (not_gt_from_le (cmp a b) p) (not_gt_from_le (cmp b c) q))

  pub AtMost-from_not_lt : (a b : P) → is_lt (cmp a b) ≡ false → AtMost cmp b a
  AtMost-from_not_lt a b h = ap is_le (o.antisymm b a) ∙ not_lt_reversed (cmp a b) h

  pub not_lt-from_AtMost : (a b : P) → AtMost cmp a b → is_lt (cmp b a) ≡ false
  not_lt-from_AtMost a b h = ap is_lt (o.antisymm b a) ∙ le_reversed (cmp a b) h

-- g < p <= q gives g < q
pub lt_le : {P : Type 0} {cmp : P → P → Ordering} (o : IsTotalOrder cmp) (g p q : P) → is_lt (cmp g p) ≡ true → AtMost cmp p q
    → is_lt (cmp g q) ≡ true
lt_le {P} {cmp} o g p q a b = by (cmp p q) refl b
  where
    by : (r : Ordering) → cmp p q ≡ r → is_le r ≡ true → is_lt (cmp g q) ≡ true
    by Less t e = ap is_lt (o.trans g p q (less (cmp g p) a) t)
    by Equal t e = ap is_lt (sym (alike_right o p q g t)) ∙ a
    by Greater t e = absurd (true≢false (sym e))

-- g <= p < q gives g < q
pub le_lt : {P : Type 0} {cmp : P → P → Ordering} (o : IsTotalOrder cmp) (g p q : P) → AtMost cmp g p → is_lt (cmp p q) ≡ true
    → is_lt (cmp g q) ≡ true
le_lt {P} {cmp} o g p q a b = by (cmp g p) refl a
  where
    by : (r : Ordering) → cmp g p ≡ r → is_le r ≡ true → is_lt (cmp g q) ≡ true
    by Less t e = ap is_lt (o.trans g p q t (less (cmp p q) b))
    by Equal t e = ap is_lt (o.congr g p q t) ∙ b
    by Greater t e = absurd (true≢false (sym e))
