-- Gathering the ids that have reached a part, and counting the greatest part.
use Rattle.std.specs.Prelude.{◌≡◌, ℕ, ◌+◌, ◌<◌, Bool, true, false, cond, ◌||◌, List, [], ◌∷◌, length, filter, take, Contains, Option, Some, None}
use Rattle.std.specs.Map.{keys_of}
use Rattle.std.specs.Option.{ForSome}
use Rattle.std.specs.Ordering.{is_lt}
use Rattle.std.specs.Set.{is_member}
use Rattle.std.specs.declared.cmp.Ordering.{Ordering}
use Rattle.std.specs.Cmp.{IsTotalOrder}
use Rattle.std.proofs.Common.{arith, sym, ap, refl, ◌∙◌, true≢false, get_or, inl, inr, subst}
use Rattle.std.proofs.lemmas.List.Elements.{All-more, All-weaker, Contains-get_or}
use Rattle.raft_progress.specs.progress.CountedValue.{AtMost}
use Rattle.raft_progress.specs.Inner.Conditions.{is_below_bound}
use Rattle.raft_progress.specs.Inner.Recount.{IsGreatest, at_least, reaches}
use Rattle.raft_progress.proofs.lemmas.OrderLemmas.{AtMost-refl, AtMost-trans, AtMost-from_lt, AtMost-from_not_lt}

module _ {ID V P : Type 0} (eq : ID → ID → Bool) {cmp : P → P → Ordering} (o : IsTotalOrder cmp) (part : V → P)
    (is_quorum : (ID → Bool) → Bool) (voters : List (ID × V)) (default : P) where
  pub greatest_none : IsGreatest eq cmp part is_quorum voters (take 0 voters) default default
  greatest_none = record { is_one = inl refl; default_at_most = AtMost-refl o default; others_at_most = λ k d l. absurd (omega arith) }

  -- a voter's part that exceeds the default and that a quorum has reached, before any other is seen
  pub greatest_first : (i : ℕ) (e : ID × V) (p : P) → i < length voters → e ≡ get_or voters i e → p ≡ part e.1
      → is_lt (cmp default p) ≡ true → reaches eq cmp part is_quorum voters p ≡ true → IsGreatest eq cmp part is_quorum voters [] default p
  greatest_first i e p l is pe h q = record {
    is_one = inr (
      e,
      subst (Contains voters) (sym is) (Contains-get_or voters i e l),
      sym pe,
      ap (λ x. reaches eq cmp part is_quorum voters x) (sym pe) ∙ q,
    );
    default_at_most = AtMost-from_lt cmp default p h;
    others_at_most = λ k d l. absurd (omega arith);
  }

  pub greatest_keeps : (i : ℕ) (e : ID × V) (g : P) → i < length voters → e ≡ get_or voters i e
      → (reaches eq cmp part is_quorum voters (part e.1) ≡ true → AtMost cmp (part e.1) g)
      → IsGreatest eq cmp part is_quorum voters (take i voters) default g
      → IsGreatest eq cmp part is_quorum voters (take (i + 1) voters) default g
  greatest_keeps i e g l is h r = record {
    is_one = r.is_one;
    default_at_most = r.default_at_most;
    others_at_most = All-more (λ f. reaches eq cmp part is_quorum voters (part f.1) ≡ true → AtMost cmp (part f.1) g) voters i e l
        r.others_at_most (subst (λ (f : ID × V). reaches eq cmp part is_quorum voters (part f.1) ≡ true → AtMost cmp (part f.1) g) is h);
  }

  pub greatest_rises : (i : ℕ) (e : ID × V) (g : P) → i < length voters → e ≡ get_or voters i e → is_lt (cmp g (part e.1)) ≡ true
      → reaches eq cmp part is_quorum voters (part e.1) ≡ true → IsGreatest eq cmp part is_quorum voters (take i voters) default g
      → IsGreatest eq cmp part is_quorum voters (take (i + 1) voters) default (part e.1)
  greatest_rises i e g l is h q r =
      let up : AtMost cmp g (part e.1) = AtMost-from_lt cmp g (part e.1) h in
      record {
        is_one = inr (e, subst (Contains voters) (sym is) (Contains-get_or voters i e l), refl, q);
        default_at_most = AtMost-trans o default g (part e.1) r.default_at_most up;
        others_at_most = All-more (λ f. reaches eq cmp part is_quorum voters (part f.1) ≡ true → AtMost cmp (part f.1) (part e.1)) voters i
            e l
            (All-weaker (λ (f : ID × V). reaches eq cmp part is_quorum voters (part f.1) ≡ true → AtMost cmp (part f.1) g)
            (λ f. reaches eq cmp part is_quorum voters (part f.1) ≡ true → AtMost cmp (part f.1) (part e.1))
            (λ f k y. AtMost-trans o (part f.1) g (part e.1) (k y) up) (take i voters) r.others_at_most)
            (subst (λ (f : ID × V). reaches eq cmp part is_quorum voters (part f.1) ≡ true → AtMost cmp (part f.1) (part e.1)) is
            (λ _. AtMost-refl o (part e.1)));
      }

  -- the two ways on from a voter, with the loop's names for its part and the best
  pub loop_rises : (i : ℕ) (e : ID × V) (g p best : P) → i < length voters → e ≡ get_or voters i e → p ≡ part e.1 → is_lt (cmp g p) ≡ true
      → reaches eq cmp part is_quorum voters p ≡ true → best ≡ p → IsGreatest eq cmp part is_quorum voters (take i voters) default g
      → IsGreatest eq cmp part is_quorum voters (take (i + 1) voters) default best
  loop_rises i e g p best l is pe h q be r =
      let h' : is_lt (cmp g (part e.1)) ≡ true = ap (λ x. is_lt (cmp g x)) (sym pe) ∙ h in
      let q' : reaches eq cmp part is_quorum voters (part e.1) ≡ true = ap (λ x. reaches eq cmp part is_quorum voters x) (sym pe) ∙ q in
      subst (IsGreatest eq cmp part is_quorum voters (take (i + 1) voters) default) (sym (be ∙ pe)) (greatest_rises i e g l is h' q' r)

  pub loop_keeps : (i : ℕ) (e : ID × V) (g p best : P) → i < length voters → e ≡ get_or voters i e → p ≡ part e.1
      → (reaches eq cmp part is_quorum voters p ≡ true → is_lt (cmp g p) ≡ false) → best ≡ g
      → IsGreatest eq cmp part is_quorum voters (take i voters) default g
      → IsGreatest eq cmp part is_quorum voters (take (i + 1) voters) default best
  loop_keeps i e g p best l is pe h be r =
      subst (IsGreatest eq cmp part is_quorum voters (take (i + 1) voters) default) (sym be)
      (greatest_keeps i e g l is (λ q.
      AtMost-from_not_lt o g (part e.1) (ap (λ x. is_lt (cmp g x)) (sym pe) ∙ h (ap (λ x. reaches eq cmp part is_quorum voters x) pe ∙ q)))
      r)

-- ---- what fewer voters have reached

-- an id of an entry that passes a test is one of an entry that passes a weaker one
member_weaker : {ID V : Type 0} (eq : ID → ID → Bool) (s t : ID × V → Bool) → ((e : ID × V) → s e ≡ true → t e ≡ true)
    → (es : List (ID × V)) (x : ID) → is_member eq (keys_of (filter s es)) x ≡ true → is_member eq (keys_of (filter t es)) x ≡ true
member_weaker eq s t w [] x h = h
member_weaker {ID} {V} eq s t w (e ∷ es) x h = by (s e) (t e) (w e) h (member_weaker eq s t w es x)
  where
    first : (c : Bool) (m n : Bool) → (c || m) ≡ true → (m ≡ true → n ≡ true) → (c || n) ≡ true
    first true m n h k = refl
    first false m n h k = k h

    later : (c n : Bool) → n ≡ true → (c || n) ≡ true
    later true n k = refl
    later false n k = k

    by : (a b : Bool) → (a ≡ true → b ≡ true)
        → is_member eq (keys_of (cond a (e ∷ filter s es) (filter s es))) x ≡ true
        → (is_member eq (keys_of (filter s es)) x ≡ true → is_member eq (keys_of (filter t es)) x ≡ true)
        → is_member eq (keys_of (cond b (e ∷ filter t es) (filter t es))) x ≡ true
    by true true w h k = first (eq x e.0) _ _ h k
    by true false w h k = absurd (true≢false (sym (w refl)))
    by false true w h k = later (eq x e.0) _ (k h)
    by false false w h k = k h

module _ {ID V P : Type 0} (eq : ID → ID → Bool) {cmp : P → P → Ordering} (o : IsTotalOrder cmp) (part : V → P)
    (is_quorum : (ID → Bool) → Bool)
    (superset : (s t : ID → Bool) → ((x : ID) → s x ≡ true → t x ≡ true) → is_quorum s ≡ true → is_quorum t ≡ true)
    (voters : List (ID × V)) where
  reaches_down : (p q : P) → AtMost cmp p q → reaches eq cmp part is_quorum voters q ≡ true → reaches eq cmp part is_quorum voters p ≡ true
  reaches_down p q l h = superset _ _
      (member_weaker eq (at_least cmp part q) (at_least cmp part p) (λ e k. AtMost-trans o p q (part e.1) l k) voters) h

  -- no part from one on that no quorum has reached is reached
  pub unreached_beyond : (q : P) (u : Option P) → ForSome u (λ p. reaches eq cmp part is_quorum voters p ≡ false)
      → is_below_bound cmp q u ≡ false → reaches eq cmp part is_quorum voters q ≡ false
  unreached_beyond q None a h = absurd (true≢false h)
  unreached_beyond q (Some p) a h = by (reaches eq cmp part is_quorum voters q) refl
    where
      by : (b : Bool) → reaches eq cmp part is_quorum voters q ≡ b → b ≡ false
      by true t = absurd (true≢false (sym (reaches_down p q (AtMost-from_not_lt o q p h) t) ∙ a p refl))
      by false t = refl
