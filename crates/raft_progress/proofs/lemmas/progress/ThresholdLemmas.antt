-- What granted says of any part and of any quorum.
use Rattle.std.specs.Prelude.{◌≡◌, ◌⊎◌, Bool, true, false, ◌&&◌, List, [], ◌∷◌, Option, Some, None, take}
use Rattle.std.specs.Cmp.{IsEquivalence, IsTotalOrder, first_so, second_so}
use Rattle.std.specs.Ordering.{is_le, is_lt}
use Rattle.std.specs.declared.cmp.Ordering.{Ordering}
use Rattle.std.specs.declared.cmp.Ordering.TheVariants.{Equal}
use Rattle.std.specs.List.{AllByRecursion}
use Rattle.std.specs.Map.{keys_of, lookup}
use Rattle.std.specs.Set.{is_member}
use Rattle.std.proofs.Common.{ap, inl, inr, refl, sym, ◌∙◌, true≢false}
use Rattle.std.proofs.lemmas.List.Elements.{All-take, recursion_from_All}
use Rattle.raft_progress.specs.Inner.Recount.{at_least}
use Rattle.raft_progress.specs.progress.CountedValue.{AtMost, has_part, reached}
use Rattle.raft_progress.specs.progress.InOrder.{IsInOrder}
use Rattle.raft_progress.specs.progress.ProgressView.{ProgressView, state}
use Rattle.raft_progress.specs.progress.Threshold.{CountedValuesTie, GrantedIsThreshold, QuorumReached}
use Rattle.raft_progress.proofs.lemmas.progress.recount.CountedAfreshLemmas.{found, members, voter_value}
use Rattle.raft_progress.proofs.lemmas.tracked.HeadlineLemmas.{granted_reached}
use Rattle.raft_progress.proofs.lemmas.progress.InOrderLemmas.{counted_once, counted_tied}
use Rattle.raft_progress.proofs.lemmas.ListLemmas.{all_weaker, both}
use Rattle.raft_progress.proofs.lemmas.OrderLemmas.{AtMost-from_lt, AtMost-from_not_lt, AtMost-refl, AtMost-trans}

pair_all : {X : Type 0} (A B : X → Type 0) (xs : List X) → AllByRecursion A xs → AllByRecursion B xs → AllByRecursion (λ x. A x × B x) xs
pair_all A B [] a b = tt
pair_all A B (x ∷ xs) a b = ((a.0, b.0), pair_all A B xs a.1 b.1)

module _ {ID V P : Type 0} {cmp : P → P → Ordering} (o : IsTotalOrder cmp) (part : V → P) (Good : ID × V → Type 0) (q : P) where
  pub record Least (es : List (ID × V)) : Type 0 where
    pub entry : ID × V
    pub good : Good entry
    pub passes : at_least cmp part q entry ≡ true
    pub least : AllByRecursion (λ f. at_least cmp part q f ≡ true → AtMost cmp (part entry.1) (part f.1)) es

  -- of the entries with a part of at least q there is a least one, if there is one
  pub least_reached : (es : List (ID × V)) → AllByRecursion Good es → AllByRecursion (λ f. at_least cmp part q f ≡ false) es ⊎ Least es
  least_reached [] g = inl tt
  least_reached (e ∷ es) g = by (at_least cmp part q e) refl (least_reached es g.1)
    where
      lesser : (m : Least es) → at_least cmp part q e ≡ true → (b : Bool) → is_lt (cmp (part e.1) (part m.entry.1)) ≡ b → Least (e ∷ es)
      lesser m t true l = record {
        entry = e;
        good = g.0;
        passes = t;
        least = (
          (λ _. AtMost-refl o (part e.1)),
          all_weaker (λ (f : ID × V). at_least cmp part q f ≡ true → AtMost cmp (part m.entry.1) (part f.1))
              (λ (f : ID × V). at_least cmp part q f ≡ true → AtMost cmp (part e.1) (part f.1))
              (λ f k h. AtMost-trans o (part e.1) (part m.entry.1) (part f.1) (AtMost-from_lt cmp (part e.1) (part m.entry.1) l) (k h)) es
              m.least,
        );
      }
      lesser m t false l = record {
        entry = m.entry;
        good = m.good;
        passes = m.passes;
        least = ((λ _. AtMost-from_not_lt o (part e.1) (part m.entry.1) l), m.least);
      }

      by : (b : Bool) → at_least cmp part q e ≡ b → AllByRecursion (λ f. at_least cmp part q f ≡ false) es ⊎ Least es
          → AllByRecursion (λ f. at_least cmp part q f ≡ false) (e ∷ es) ⊎ Least (e ∷ es)
      by false t (inl a) = inl (t, a)
      by false t (inr m) = inr (record {
        entry = m.entry;
        good = m.good;
        passes = m.passes;
        least = ((λ h. absurd (true≢false (sym h ∙ t))), m.least);
      })
      by true t (inl a) = inr (record {
        entry = e;
        good = g.0;
        passes = t;
        least = (
          (λ _. AtMost-refl o (part e.1)),
          all_weaker (λ (f : ID × V). at_least cmp part q f ≡ false)
              (λ (f : ID × V). at_least cmp part q f ≡ true → AtMost cmp (part e.1) (part f.1)) (λ f n h. absurd (true≢false (sym h ∙ n)))
              es a,
        );
      })
      by true t (inr m) = inr (lesser m t (is_lt (cmp (part e.1) (part m.entry.1))) refl)

module _ {ID V P QS : Type 0} {eq : ID → ID → Bool} (laws : IsEquivalence eq) {cmp : P → P → Ordering} (o : IsTotalOrder cmp) (part : V → P)
    (has_quorum : QS → (ID → Bool) → Bool) (superset : (c : QS) (s t : ID → Bool) → ((x : ID) → s x ≡ true → t x ≡ true)
    → has_quorum c s ≡ true → has_quorum c t ≡ true) (p : ProgressView ID V P QS) (r : IsInOrder eq cmp part has_quorum p) where
  back : (a b : P) → cmp a b ≡ Equal → AtMost cmp b a
  back a b e = AtMost-from_not_lt o a b (ap is_lt e)

  less : (a b : P) → AtMost cmp a b → (value : Option V) → has_part cmp part b value ≡ true → has_part cmp part a value ≡ true
  less a b up None h = h
  less a b up (Some v) h = AtMost-trans o a b (part v) up h

  pub reached_below : (q : P) → AtMost cmp q p.granted → AtMost cmp q p.default_part ⊎ QuorumReached cmp part has_quorum (state eq p) q
  reached_below q up =
      elim r.counted.is_one as (λ _. AtMost cmp q p.default_part ⊎ QuorumReached cmp part has_quorum (state eq p) q) [
        | inl e ↦ inl (AtMost-trans o q p.granted p.default_part up (back p.default_part p.granted e))
        | inr w ↦ inr (
            let here : AtMost cmp q (part w.1) = AtMost-trans o q p.granted (part w.1) up (back (part w.1) p.granted w.3) in
            record {
              voter = w.0;
              has_reached = both _ _ w.2.voter (ap (has_part cmp part q) w.2.value ∙ here);
              quorum = superset p.quorum_set (reached cmp part (state eq p) (part w.1)) (reached cmp part (state eq p) q)
                  (λ x h. both _ _ (first_so _ _ h) (less q (part w.1) here ((state eq p).value x)
                  (second_so ((state eq p).is_voter x) _ h))) w.2.quorum;
            }
            )
      ]

  rises_to : (q pm : P) → AllByRecursion (λ f. at_least cmp part q f ≡ true → AtMost cmp pm (part f.1)) (take p.voter_count p.entries)
      → (y : ID) → (state eq p).is_voter y ≡ true → (value : Option V) → lookup (eq y) p.entries ≡ value → has_part cmp part q value ≡ true
      → has_part cmp part pm value ≡ true
  rises_to q pm a y m None l h = h
  rises_to q pm a y m (Some v) l h = voter_value laws (λ (u : V). is_le (cmp q (part u)) ≡ true → AtMost cmp pm (part u)) p.entries
      p.voter_count y v m l a h

  none_reached : (q : P) → AllByRecursion (λ f. at_least cmp part q f ≡ false) (take p.voter_count p.entries) → (y : ID)
      → (state eq p).is_voter y ≡ true → (value : Option V) → lookup (eq y) p.entries ≡ value → has_part cmp part q value ≡ true → ⊥
  none_reached q a y m None l h = true≢false (sym h)
  none_reached q a y m (Some v) l h = true≢false
      (sym h ∙ voter_value laws (λ (u : V). is_le (cmp q (part u)) ≡ false) p.entries p.voter_count y v m l a)

  good : AllByRecursion (λ e. (is_member eq (take p.voter_count (keys_of p.entries)) e.0 ≡ true) × (lookup (eq e.0) p.entries ≡ Some e.1))
      (take p.voter_count p.entries)
  good = pair_all (λ (e : ID × V). is_member eq (take p.voter_count (keys_of p.entries)) e.0 ≡ true)
      (λ (e : ID × V). lookup (eq e.0) p.entries ≡ Some e.1) (take p.voter_count p.entries) (members laws p.entries p.voter_count)
      (recursion_from_All (λ (e : ID × V). lookup (eq e.0) p.entries ≡ Some e.1) (take p.voter_count p.entries)
      (All-take (λ (e : ID × V). lookup (eq e.0) p.entries ≡ Some e.1) p.voter_count p.entries
      (found laws o part has_quorum p.quorum_set p.entries p.voter_count p.default_part r.distinct)))

  pub below_reached : (q : P) → AtMost cmp q p.default_part ⊎ QuorumReached cmp part has_quorum (state eq p) q → AtMost cmp q p.granted
  below_reached q (inl d) = AtMost-trans o q p.default_part p.granted d r.counted.default_at_most
  below_reached q (inr k) =
      let voter : (state eq p).is_voter k.voter ≡ true = first_so _ _ k.has_reached in
      elim (least_reached o part (λ (e : ID × V). (is_member eq (take p.voter_count (keys_of p.entries)) e.0 ≡ true)
      × (lookup (eq e.0) p.entries ≡ Some e.1)) q (take p.voter_count p.entries) good) as (λ _. AtMost cmp q p.granted) [
        | inl none ↦ absurd (none_reached q none k.voter voter ((state eq p).value k.voter) refl
            (second_so ((state eq p).is_voter k.voter) _ k.has_reached))
        | inr m ↦ AtMost-trans o q (part m.entry.1) p.granted m.passes (r.counted.others_at_most m.entry.0 m.entry.1 record {
          voter = m.good.0;
          value = m.good.1;
          quorum = superset p.quorum_set (reached cmp part (state eq p) q) (reached cmp part (state eq p) (part m.entry.1))
              (λ y h. both _ _ (first_so _ _ h) (rises_to q (part m.entry.1) m.least y (first_so _ _ h) ((state eq p).value y) refl
              (second_so ((state eq p).is_voter y) _ h))) k.quorum;
        })
      ]

  pub meeting_know : ((s t : ID → Bool) → has_quorum p.quorum_set s ≡ true → has_quorum p.quorum_set t ≡ true
      → (id : ID) × ((state eq p).is_voter id ≡ true) × (s id ≡ true) × (t id ≡ true)) → (set : ID → Bool)
      → has_quorum p.quorum_set set ≡ true → (id : ID) × (set id ≡ true) × ((state eq p).is_voter id ≡ true)
      × (has_part cmp part p.granted ((state eq p).value id) ≡ true)
  meeting_know meet set h =
      elim (granted_reached laws o part has_quorum p (superset p.quorum_set) r) as
      (λ _. (id : ID) × (set id ≡ true) × ((state eq p).is_voter id ≡ true)
      × (has_part cmp part p.granted ((state eq p).value id) ≡ true)) [
        | inl q ↦ let w = meet (λ id. (state eq p).is_voter id && has_part cmp part p.granted ((state eq p).value id)) set q h in
            (w.0, w.3, w.1, second_so ((state eq p).is_voter w.0) _ w.2)
        | inr all ↦ let w = meet set set h h in (w.0, w.2, w.1, all w.0 w.1)
      ]

pub threshold : {ID V P QS : Type 0} {eq : ID → ID → Bool} (laws : IsEquivalence eq) {cmp : P → P → Ordering} (o : IsTotalOrder cmp)
    (part : V → P) (has_quorum : QS → (ID → Bool) → Bool)
    (superset : (c : QS) (s t : ID → Bool) → ((x : ID) → s x ≡ true → t x ≡ true) → has_quorum c s ≡ true → has_quorum c t ≡ true)
    → GrantedIsThreshold ID V P QS eq cmp part has_quorum
threshold laws o part has_quorum superset p r q =
    (reached_below laws o part has_quorum superset p r q, below_reached laws o part has_quorum superset p r q)

pub counted_values_tie : {ID V P QS : Type 0} {cmp : P → P → Ordering} (o : IsTotalOrder cmp) (part : V → P)
    (has_quorum : QS → (ID → Bool) → Bool) → CountedValuesTie ID V P QS cmp part has_quorum
counted_values_tie o part has_quorum s g h c = (counted_once o part has_quorum s g h c, counted_tied o part has_quorum s g h c)
