-- The laws of the order of standard Raft's leader ids.
use Rattle.std.specs.Prelude.{◌≡◌, ℕ, Bool, true, false, Option, Some, None, ◌&&◌, nat_eq, cond, IsTrue}
use Rattle.std.specs.Bool.{Decides}
use Rattle.std.specs.Cmp.{IsEquivalence, IsPartialOrder, po, then_po, on_po, nat_cmp_total, unsigned_ties}
use Rattle.std.specs.Option.{option_eq, option_map}
use Rattle.std.specs.Ordering.{nat_cmp, ordering_reverse, partial_ordering_then, is_eq, is_le, is_some_and}
use Rattle.std.proofs.Common.{refl, sym, ap, ◌∙◌, subst}
use Rattle.std.specs.declared.cmp.Ordering.{Ordering}
use Rattle.std.specs.declared.cmp.Ordering.TheVariants.{Less, Equal, Greater}
use Rattle.raft_base.specs.LeaderIdStd.{voted_cmp}

-- a test decides whether two nodes tie
tied : (b : Bool) → Decides b (cond b (Some Equal) None ≡ Some Equal)
tied true = (λ _. refl, λ _. refl)
tied false = (λ h. cc, λ h. cc)

-- a node is never below another node
never_less : (b : Bool) {G : Type 0} → cond b (Some Equal) None ≡ Some Less → G
never_less true h = cc
never_less false h = cc

tie_reversed : (b : Bool) → cond b (Some Equal) None
    ≡ option_map ordering_reverse (cond b (Some Equal) None)
tie_reversed true = refl
tie_reversed false = refl

module _ {N : Type 0} {same : N → N → Bool} (e : IsEquivalence same) where
  reversed : (x y : Option N) → voted_cmp same x y
      ≡ option_map ordering_reverse (voted_cmp same y x)
  reversed None None = refl
  reversed None (Some n) = refl
  reversed (Some m) None = refl
  reversed (Some m) (Some n) =
      tie_reversed (same m n)
      ∙ ap (λ b. option_map ordering_reverse (cond b (Some Equal) None)) (e.symm m n)

  chain : (x y z : Option N) → voted_cmp same x y ≡ Some Less → voted_cmp same y z ≡ Some Less
      → voted_cmp same x z ≡ Some Less
  chain None None z h k = cc
  chain None (Some n) None h k = cc
  chain None (Some n) (Some p) h k = refl
  chain (Some m) None z h k = cc
  chain (Some m) (Some n) z h k = never_less (same m n) h

  ties : (x y : Option N) → Decides (option_eq same x y) (voted_cmp same x y ≡ Some Equal)
  ties None None = (λ _. refl, λ _. refl)
  ties None (Some n) = (λ h. cc, λ h. cc)
  ties (Some m) None = (λ h. cc, λ h. cc)
  ties (Some m) (Some n) = tied (same m n)

  alike : (x y z : Option N) → option_eq same x y ≡ true → voted_cmp same x z ≡ voted_cmp same y z
  alike None None z h = refl
  alike None (Some n) z h = cc
  alike (Some m) None z h = cc
  alike (Some m) (Some n) None h = refl
  alike (Some m) (Some n) (Some p) h = ap (λ b. cond b (Some Equal) None) (e.congr m n p h)

  voted_cmp-partial : IsPartialOrder (option_eq same) (voted_cmp same)
  voted_cmp-partial =
      record { antisymm = reversed; trans = chain; matches_eq = ties; congr = alike }

  -- by term, and then by the node that is voted for
  pub term_then_voted-partial : {L : Type 0} (term : L → ℕ) (voted : L → Option N)
      → IsPartialOrder (λ a b. nat_eq (term a) (term b) && option_eq same (voted a) (voted b))
      (λ a b. partial_ordering_then (Some (nat_cmp (term a) (term b)))
      (voted_cmp same (voted a) (voted b)))
  term_then_voted-partial term voted =
      then_po (on_po term (po nat_cmp_total unsigned_ties)) (on_po voted voted_cmp-partial)

-- if two leaders of one term do not compare, what is below the first one is below the second one
below_both : {N : Type 0} (same : N → N → Bool) (a b c : Option N) → voted_cmp same a b ≡ None
    → voted_cmp same c a ≡ Some Less → voted_cmp same c b ≡ Some Less
below_both same None None c h k = cc
below_both same None (Some n) c h k = cc
below_both same (Some m) None c h k = cc
below_both same (Some m) (Some n) None h k = refl
below_both same (Some m) (Some n) (Some p) h k = never_less (same p m) k

-- neither of the two nodes is below any other
above_both : {N : Type 0} (same : N → N → Bool) (a b c : Option N) {G : Type 0}
    → voted_cmp same a b ≡ None → voted_cmp same a c ≡ Some Less → G
above_both same None None c h k = cc
above_both same None (Some n) c h k = cc
above_both same (Some m) None c h k = cc
above_both same (Some m) (Some n) None h k = cc
above_both same (Some m) (Some n) (Some p) h k = never_less (same m p) k

-- what does not compare is of one term
pub one_term : (o : Ordering) (p : Option Ordering) → partial_ordering_then (Some o) p ≡ None
    → (o ≡ Equal) × (p ≡ None)
one_term Less p h = cc
one_term Equal p h = (refl, h)
one_term Greater p h = cc

-- below by term or, in one term, by the node
moved : (o : Ordering) (p q : Option Ordering) → (p ≡ Some Less → q ≡ Some Less)
    → partial_ordering_then (Some o) p ≡ Some Less → partial_ordering_then (Some o) q ≡ Some Less
moved Less p q step h = refl
moved Equal p q step h = step h
moved Greater p q step h = cc

module _ {N : Type 0} (same : N → N → Bool) (s t u : ℕ) (a b c : Option N)
    (apart : partial_ordering_then (Some (nat_cmp s t)) (voted_cmp same a b) ≡ None) where
  -- if two leaders do not compare, a third one that is below the first is below the second
  pub alike_below : partial_ordering_then (Some (nat_cmp u s)) (voted_cmp same c a) ≡ Some Less
      → partial_ordering_then (Some (nat_cmp u t)) (voted_cmp same c b) ≡ Some Less
  alike_below h =
      let one = one_term (nat_cmp s t) (voted_cmp same a b) apart in
      let same_side : nat_cmp u s ≡ nat_cmp u t =
      nat_cmp_total.antisymm u s ∙ ap ordering_reverse (nat_cmp_total.congr s t u one.0)
      ∙ sym (nat_cmp_total.antisymm u t) in
      subst (λ (o : Ordering). partial_ordering_then (Some o) (voted_cmp same c b) ≡ Some Less)
      same_side (moved (nat_cmp u s) (voted_cmp same c a) (voted_cmp same c b)
      (below_both same a b c one.1) h)

  pub alike_above : partial_ordering_then (Some (nat_cmp s u)) (voted_cmp same a c) ≡ Some Less
      → partial_ordering_then (Some (nat_cmp t u)) (voted_cmp same b c) ≡ Some Less
  alike_above h =
      let one = one_term (nat_cmp s t) (voted_cmp same a b) apart in
      subst (λ (o : Ordering). partial_ordering_then (Some o) (voted_cmp same b c) ≡ Some Less)
      (nat_cmp_total.congr s t u one.0)
      (moved (nat_cmp s u) (voted_cmp same a c) (voted_cmp same b c)
      (λ k. above_both same a b c one.1 k) h)

-- the first order decides unless it ties
pub first_decides : (o : Ordering) (p : Option Ordering) → (o ≡ Equal → ⊥)
    → partial_ordering_then (Some o) p ≡ Some o
first_decides Less p h = refl
first_decides Equal p h = absurd (h refl)
first_decides Greater p h = refl

-- what is at most another has at most its term
pub term_at_most : (o : Ordering) (p : Option Ordering)
    → IsTrue (is_some_and is_le (partial_ordering_then (Some o) p)) → IsTrue (is_le o)
term_at_most Less p h = refl
term_at_most Equal p h = refl
term_at_most Greater p h = cc

-- of two nodes that are voted for neither is below the other, so what is below has the lower term
pub lesser_term : {N : Type 0} {m n : N} (same : N → N → Bool) (o : Ordering) (a b : Option N)
    → a ≡ Some m → b ≡ Some n → partial_ordering_then (Some o) (voted_cmp same a b) ≡ Some Less
    → o ≡ Less
lesser_term same Less a b x y h = refl
lesser_term {m = m} {n = n} same Equal a b x y h =
    never_less (same m n) (subst (λ (v : Option _). voted_cmp same v (Some n) ≡ Some Less) x
    (subst (λ (v : Option _). voted_cmp same a v ≡ Some Less) y h))
lesser_term same Greater a b x y h = cc

-- terms that tie are equal
pub same_term : (s t : ℕ) → nat_cmp s t ≡ Equal → nat_eq s t ≡ true
same_term s t h = unsigned_ties s t ∙ ap is_eq h
