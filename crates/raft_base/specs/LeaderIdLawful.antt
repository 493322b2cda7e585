-- The laws of the order of leader ids.
use Rattle.std.specs.Prelude.{◌≡◌, ◌≢◌, ℕ, Bool, Some, None, ◌&&◌, nat_eq}
use Rattle.std.specs.Cmp.{IsPartialOrder, IsTotalOrder, then_total, on_total, nat_cmp_total, po, both_tied, unsigned_ties, ranked}
use Rattle.std.specs.Ordering.{ordering_then, nat_cmp, eq_by_cmp}
use Rattle.std.proofs.Common.{refl, sym}
use Rattle.std.specs.declared.cmp.Ordering.{Ordering}
use Rattle.std.specs.declared.cmp.Ordering.TheVariants.{Less, Equal, Greater}

-- an order by term and then by node is a partial order if the order of nodes is total
pub term_then_node-partial : {N : Type 0} {cmp : N → N → Ordering} {same : N → N → Bool}
    → IsTotalOrder cmp
    → ((x y : N) → same x y ≡ eq_by_cmp cmp x y) → {L : Type 0} (term : L → ℕ) (node : L → N)
    → IsPartialOrder (λ a b. nat_eq (term a) (term b) && same (node a) (node b))
    (λ a b. Some (ordering_then (nat_cmp (term a) (term b)) (cmp (node a) (node b))))
term_then_node-partial {N} {cmp} {same} o ties term node =
    po (then_total (on_total term nat_cmp_total) (on_total node o))
    (λ a b. both_tied (nat_eq (term a) (term b)) (same (node a) (node b))
    (nat_cmp (term a) (term b)) (cmp (node a) (node b))
    (unsigned_ties (term a) (term b)) (ties (node a) (node b)))

-- if any two leaders compare, there are no leaders that do not compare
pub never_none : {G : Type 0} (o : Ordering) → Some o ≡ None → G
never_none o h = cc

-- what two leaders compare as is what decides
pub decided : {p : Ordering} (o : Ordering) → Some o ≡ Some p → o ≡ p
decided o h = cc

-- numbers that differ do not tie
pub apart : (x y : ℕ) → x ≢ y → nat_cmp x y ≡ Equal → ⊥
apart x y h e = h (ranked x y Equal (sym e))

-- the first order decides unless it ties
pub first_decides : (o next : Ordering) → (o ≡ Equal → ⊥) → Some (ordering_then o next) ≡ Some o
first_decides Less next h = refl
first_decides Equal next h = absurd (h refl)
first_decides Greater next h = refl
