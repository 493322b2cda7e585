-- What is known of a progress that is in order by some proof.
use Rattle.std.specs.Prelude.{◌≡◌, ℕ, ◌+◌, ◌<◌, ◌≤◌, ◌||◌, Bool, true, false, List, [], ◌∷◌, Option, length, map, take}
use Rattle.std.specs.Ordering.{is_eq, is_lt}
use Rattle.std.specs.declared.cmp.Ordering.{Ordering}
use Rattle.std.specs.Cmp.{IsEquivalence, IsTotalOrder}
use Rattle.std.specs.Coded.{Coded-set, coded_bool}
use Rattle.std.specs.List.{IsDistinct, list_all, list_any}
use Rattle.std.specs.Set.{is_member}
use Rattle.std.specs.Map.{keys_of}
use Rattle.std.proofs.Common.{ap, arith, get_or, refl, subst, suc, sym, zero, ◌∙◌, true≢false}
use mathlib.Core.Logic.{∥∥₁_elim, ∥∥₁_prop}
use Rattle.std.proofs.lemmas.List.{take_all}
use Rattle.raft_progress.specs.progress.CountedValue.{IsCounted}
use Rattle.raft_progress.specs.progress.InOrder.{IsInOrder}
use Rattle.raft_progress.specs.Inner.Recount.{IsGreatest, at_least, reaches}
use Rattle.raft_progress.specs.Inner.Conditions.{ids_differ, never_rises}
use Rattle.raft_progress.specs.Inner.Settled.{HasVotersOfSet}
use Rattle.raft_progress.specs.progress.ProgressView.{ProgressView, state}
use Rattle.raft_progress.specs.progress.Answered.{IsAnswered}
use Rattle.raft_progress.specs.progress.Steps.{IsIncreased, IsWritten}
use Rattle.raft_progress.specs.tracked.TrackedState.{Configs, IsReady, TrackedView, has_quorum, is_voter}
use Rattle.raft_progress.specs.declared.progress.steps.Reply.{Reply}
use Rattle.raft_progress.proofs.lemmas.progress.recount.CountedAfreshLemmas.{IsCounted-from_greatest}
use Rattle.raft_progress.proofs.lemmas.progress.InOrderLemmas.{counted_once, counted_tied, distinct_from_test, equal_from_test, falling_from_test, lowest_from_test, test_from_distinct, test_from_falling, test_from_lowest}
use Rattle.raft_progress.proofs.lemmas.progress.recount.RecountLemmas.{greatest_keeps, greatest_none, greatest_rises}
use Rattle.raft_progress.proofs.lemmas.OrderLemmas.{AtMost-from_not_lt}
use Rattle.raft_progress.proofs.lemmas.tracked.TrackedLemmas.{counts_increased, counts_written}
use Rattle.raft_progress.proofs.lemmas.progress.UpdateLemmas.{lookup_alike}

-- the item at a position
item_at : {X : Type 0} (xs : List X) (i : ℕ) → i < length xs → (x : X) × (x ≡ get_or xs i x)
item_at [] i l = absurd (omega arith)
item_at (x ∷ xs) zero l = (x, refl)
item_at (x ∷ xs) (suc i) l = item_at xs i (omega arith)

module _ {ID V P : Type 0} (eq : ID → ID → Bool) {cmp : P → P → Ordering} (o : IsTotalOrder cmp) (part : V → P)
    (is_quorum : (ID → Bool) → Bool) (voters : List (ID × V)) (default : P) where
  -- the greatest part among the first voters
  greatest : (i : ℕ) → i ≤ length voters → (g : P) × IsGreatest eq cmp part is_quorum voters (take i voters) default g
  greatest zero l = (default, greatest_none eq o part is_quorum voters default)
  greatest (suc i) l =
      let r = greatest i (omega arith) in
      let e = item_at voters i (omega arith) in
      let one : i + 1 ≡ suc i = omega arith in
      subst (λ (n : ℕ). (g : P) × IsGreatest eq cmp part is_quorum voters (take n voters) default g) one
      (by r.0 r.1 e.0 e.1 (omega arith) (is_lt (cmp r.0 (part e.0.1))) (reaches eq cmp part is_quorum voters (part e.0.1)) refl refl)
    where
      by : (g : P) → IsGreatest eq cmp part is_quorum voters (take i voters) default g → (e : ID × V) → e ≡ get_or voters i e
          → i < length voters → (b c : Bool) → is_lt (cmp g (part e.1)) ≡ b → reaches eq cmp part is_quorum voters (part e.1) ≡ c
          → (h : P) × IsGreatest eq cmp part is_quorum voters (take (i + 1) voters) default h
      by g r e is m true true t u = (part e.1, greatest_rises eq o part is_quorum voters default i e g m is t u r)
      by g r e is m false c t u = (
        g,
        greatest_keeps eq o part is_quorum voters default i e g m is
            (λ q. AtMost-from_not_lt o g (part e.1) t) r,
      )
      by g r e is m true false t u = (
        g,
        greatest_keeps eq o part is_quorum voters default i e g m is (λ q. absurd (true≢false (sym q ∙ u)))
            r,
      )

module _ {ID V P QS : Type 0} {eq : ID → ID → Bool} (laws : IsEquivalence eq) {cmp : P → P → Ordering} (o : IsTotalOrder cmp) (part : V → P)
    (has_quorum : QS → (ID → Bool) → Bool) (p : ProgressView ID V P QS) where
  -- some value is counted
  some_counted : IsDistinct eq (keys_of p.entries) → (g : P) × IsCounted cmp part has_quorum (state eq p) g
  some_counted d =
      let voters = take p.voter_count p.entries in
      let r = greatest eq o part (has_quorum p.quorum_set) voters p.default_part (length voters) (omega arith) in (
        r.0,
        IsCounted-from_greatest laws o part has_quorum p.quorum_set p.entries p.voter_count p.default_part d r.0
            (subst (λ (vs : List (ID × V)). IsGreatest eq cmp part (has_quorum p.quorum_set) voters vs p.default_part r.0)
            (take_all (length voters) voters (omega arith)) r.1),
      )

  -- in order by some proof is in order
  pub in_order_of : ∥ IsInOrder eq cmp part has_quorum p ∥₁ → IsInOrder eq cmp part has_quorum p
  in_order_of h =
      let voters = take p.voter_count p.entries in
      let differ : ids_differ eq p.entries ≡ true = ∥∥₁_elim h (Coded-set coded_bool _ _)
      (λ r. test_from_distinct laws p.entries r.distinct) in
      let falls : never_rises cmp part p.granted voters ≡ true =
      ∥∥₁_elim h (Coded-set coded_bool _ _) (λ r. test_from_falling o part p.granted voters r.falling) in
      let d = distinct_from_test laws p.entries differ in
      let lowest : list_all (at_least cmp part p.default_part) voters ≡ true =
      ∥∥₁_elim h (Coded-set coded_bool _ _) (λ r. test_from_lowest laws o part has_quorum p.quorum_set p.entries p.voter_count
      p.default_part d r.not_below) in
      let k = some_counted d in
      let tied : is_eq (cmp k.0 p.granted) ≡ true =
      ∥∥₁_elim h (Coded-set coded_bool _ _) (λ r. ap is_eq (counted_once o part has_quorum (state eq p) k.0 p.granted k.1 r.counted)) in
      record {
        distinct = d;
        falling = falling_from_test o part p.granted voters falls;
        not_below = lowest_from_test laws o part has_quorum p.quorum_set p.entries p.voter_count p.default_part d lowest;
        counted = counted_tied o part has_quorum (state eq p) k.0 p.granted k.1 (equal_from_test (cmp k.0 p.granted) tied);
      }

-- ready by some proof is ready
pub ready_of : {K N V P : Type 0} {eq : K → K → Bool} (laws : IsEquivalence eq) (id_cmp : K → K → Ordering) {cmp : P → P → Ordering}
    (o : IsTotalOrder cmp) (part : V → P) → IsSet (List (List K)) → (t : TrackedView K N V P) → ∥ IsReady eq id_cmp cmp part t ∥₁
    → IsReady eq id_cmp cmp part t
ready_of {eq = eq} laws id_cmp {cmp} o part lists t h = record {
  ordered = in_order_of laws o part (has_quorum eq) t.progress (∥∥₁_elim h ∥∥₁_prop (λ r. ∣ r.ordered ∣₁));
  counts_by = record {
    configs = ∥∥₁_elim h (lists _ _) (λ r. r.counts_by.configs);
    voters = λ id. ∥∥₁_elim h (Coded-set coded_bool _ _) (λ r. r.counts_by.voters id);
    known = λ id. ∥∥₁_elim h (Coded-set coded_bool _ _) (λ r. r.counts_by.known id);
  };
}

any_mapped : {X Y : Type 0} (f : X → Y) (p : Y → Bool) (xs : List X) → list_any p (map f xs) ≡ list_any (λ x. p (f x)) xs
any_mapped f p [] = refl
any_mapped f p (x ∷ xs) = ap (λ b. p (f x) || b) (any_mapped f p xs)

-- each voter of a ready progress is one of its configs
pub has_voters_of_set : {K N V P : Type 0} {eq : K → K → Bool} {id_cmp : K → K → Ordering} {cmp : P → P → Ordering} {part : V → P}
    (t : TrackedView K N V P) → IsReady eq id_cmp cmp part t → HasVotersOfSet eq (is_voter eq) t.progress
has_voters_of_set {eq = eq} t r x m =
    sym (any_mapped (λ c. c.items) (λ c. is_member eq c x) t.progress.quorum_set.items)
    ∙ ap (list_any (λ c. is_member eq c x)) r.counts_by.configs ∙ sym (r.counts_by.voters x) ∙ m

-- a step that keeps the membership is one of both
pub answered_tracked : {K N V P : Type 0} (Done : ProgressView K V P (Configs K) → Type 0) (old : TrackedView K N V P) (reply : Reply K P)
    (new : TrackedView K N V P) → new.membership ≡ old.membership
    → IsAnswered (λ (p : ProgressView K V P (Configs K)). p.granted) Done old.progress reply new.progress
    → IsAnswered (λ (t : TrackedView K N V P). t.progress.granted) (λ t. (t.membership ≡ old.membership) × Done t.progress) old reply new
answered_tracked Done old reply new kept a = record {
  refused = λ r i. record { membership = kept i; progress = a.refused r i };
  done = λ r. (kept, a.done r);
  tells = a.tells;
}

module _ {K N V P : Type 0} {eq : K → K → Bool} (laws : IsEquivalence eq) (id_cmp : K → K → Ordering) {cmp : P → P → Ordering}
    (o : IsTotalOrder cmp) (part : V → P) (lists : IsSet (List (List K))) (old new : TrackedView K N V P)
    (kept : new.membership ≡ old.membership) (h : ∥ IsReady eq id_cmp cmp part old ∥₁)
    (r : IsInOrder eq cmp part (has_quorum eq) new.progress) (id : K) (value : V) (reply : Reply K P) where
  -- a write keeps it ready
  pub ready_written : IsWritten eq cmp part (has_quorum eq) (state eq old.progress) id value reply (state eq new.progress)
      → IsReady eq id_cmp cmp part new
  ready_written w = record {
    ordered = r;
    counts_by = counts_written eq id_cmp old.membership new.membership (state eq old.progress) (state eq new.progress) kept
        (ready_of laws id_cmp o part lists old h).counts_by cmp part (has_quorum eq) id value reply
        (λ x y e. lookup_alike laws x y e old.progress.entries) w;
  }

  -- and so does an increase
  pub ready_increased : (partial_cmp : V → V → Option Ordering)
      → IsIncreased eq cmp partial_cmp part (has_quorum eq) (state eq old.progress) id value reply (state eq new.progress)
      → IsReady eq id_cmp cmp part new
  ready_increased partial_cmp w = record {
    ordered = r;
    counts_by = counts_increased eq id_cmp old.membership new.membership (state eq old.progress) (state eq new.progress) kept
        (ready_of laws id_cmp o part lists old h).counts_by cmp partial_cmp part (has_quorum eq) id value reply
        (λ x y e. lookup_alike laws x y e old.progress.entries) w;
  }
