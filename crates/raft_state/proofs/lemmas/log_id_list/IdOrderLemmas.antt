-- The order of leaders and of log ids.
use Rattle.std.proofs.Common.{◌≡◌, ℕ, ◌<◌, ◌≤◌, Bool, true, false, Option, Some, None, IsTrue, refl, sym, arith, ◌∙◌}
use Rattle.std.proofs.lemmas.Bool.Decides.{nat_tests}
use Rattle.std.specs.declared.cmp.Ordering.{Ordering}
use Rattle.std.specs.declared.cmp.Ordering.TheVariants.{Less, Equal, Greater}
use Rattle.std.specs.Cmp.{IsEquivalence, IsTotalOrder}
use Rattle.std.specs.Ordering.{is_eq, is_le, is_lt, nat_cmp, ordering_then}
use Rattle.raft_base.specs.LogId.{id_le}
use Rattle.raft_base.specs.declared.log_id.LogIdOf.{LogIdOf}

less_of : (o : Ordering) (t : Bool) → t ≡ is_eq o → is_le o ≡ true → t ≡ false → is_lt o ≡ true
less_of Less t e h f = refl
less_of Equal t e h f = cc
less_of Greater t e h f = cc

pub equal_of : (o : Ordering) → is_eq o ≡ true → o ≡ Equal
equal_of Less h = cc
equal_of Equal h = refl
equal_of Greater h = cc

-- of log ids the leaders decide, and under one leader the indexes
pub then_below : (o : Ordering) (i j : ℕ) → is_le o ≡ true → i ≤ j → is_le (ordering_then o (nat_cmp i j)) ≡ true
then_below Less i j h le = refl
then_below Equal i j h le = grind (arith, nat_tests)
then_below Greater i j h le = cc

pub then_less : (o : Ordering) (i j : ℕ) → is_le o ≡ true → i < j → is_lt (ordering_then o (nat_cmp i j)) ≡ true
then_less Less i j h lt = refl
then_less Equal i j h lt = grind (arith, nat_tests)
then_less Greater i j h lt = cc

lt_not_eq : (o : Ordering) (t : Bool) → t ≡ is_eq o → is_lt o ≡ true → t ≡ true → ⊥
lt_not_eq Less t e h f = cc
lt_not_eq Equal t e h f = cc
lt_not_eq Greater t e h f = cc

-- no log id is the least
pub none_at_most : {C : Type 0} (cmp : C → C → Ordering) (a : Option (LogIdOf C)) → id_le cmp None a ≡ true
none_at_most cmp None = refl
none_at_most cmp (Some a) = refl

module _ {C : Type 0} (cmp : C → C → Ordering) (eq : C → C → Bool) (total : IsTotalOrder cmp)
    (law : (x y : C) → eq x y ≡ is_eq (cmp x y)) where
  pub strictly_less : (a b : C) → IsTrue (is_le (cmp a b)) → eq a b ≡ false → IsTrue (is_lt (cmp a b))
  strictly_less a b h f = less_of (cmp a b) (eq a b) (law a b) h f

  pub apart : (a b : C) → IsTrue (is_lt (cmp a b)) → eq a b ≡ true → ⊥
  apart a b h e = lt_not_eq (cmp a b) (eq a b) (law a b) h e

  pub upto_equal : (a b c : C) → eq a b ≡ true → IsTrue (is_le (cmp b c)) → IsTrue (is_le (cmp a c))
  upto_equal a b c e h = let o = equal_of (cmp a b) (sym (law a b) ∙ e) in rw (total.congr a b c o) h

-- an equality of leaders is transitive and symmetric
module _ {C : Type 0} {eq : C → C → Bool} (eqs : IsEquivalence eq) where
  pub leaders_trans : (a b c : C) → eq a b ≡ true → eq b c ≡ true → eq a c ≡ true
  leaders_trans a b c h g = eqs.congr a b c h ∙ g

  pub leaders_symm : (a b : C) → eq a b ≡ true → eq b a ≡ true
  leaders_symm a b h = eqs.symm b a ∙ h
