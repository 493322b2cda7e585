-- Learners fit if no id among the voters and them is repeated, and a sorted list shows whether one
-- is.
use Rattle.std.specs.Prelude.{◌≡◌, ℕ, ◌+◌, ◌<◌, Bool, true, false, ◌||◌, List, [], ◌∷◌, ◌++◌, length}
use Rattle.std.specs.declared.cmp.Ordering.{Ordering}
use Rattle.std.specs.Cmp.{IsEquivalence, IsTotalOrder}
use Rattle.std.specs.List.{IsDistinct, AllByRecursion}
use Rattle.std.specs.List.Sorted.{IsSorted, IsStrictlySortedBy}
use Rattle.std.specs.Ordering.{eq_by_cmp}
use Rattle.std.specs.Set.{is_member}
use Rattle.std.proofs.Common.{arith, get_or, refl, subst, sym, true≢false, ◌∙◌}
use Rattle.std.proofs.lemmas.Map.Keys.{IsDistinct-from_sorted, sorted_from_all_adjacent}
use Rattle.raft_progress.specs.progress.NewProgress.{LearnersFit}
use Rattle.raft_progress.proofs.lemmas.ListLemmas.{all_both, all_last}
use Rattle.raft_progress.proofs.lemmas.progress.positions.MadeLemmas.{less_from}

pub neither : (a b : Bool) → (a || b) ≡ false → (a ≡ false) × (b ≡ false)
neither true b h = absurd (true≢false h)
neither false b h = (refl, h)

module _ {ID : Type 0} {eq : ID → ID → Bool} (laws : IsEquivalence eq) where
  apart_member : (w x : ID) (ys : List ID) → AllByRecursion (λ y. eq w y ≡ false) ys → eq x w ≡ true → is_member eq ys x ≡ false
  apart_member w x [] a e = refl
  apart_member w x (y ∷ ys) a e = rw (laws.congr x w y e, a.0) (apart_member w x ys a.1 e)

  apart_all : (w : ID) (ys : List ID) → is_member eq ys w ≡ false → AllByRecursion (λ y. eq w y ≡ false) ys
  apart_all w [] h = tt
  apart_all w (y ∷ ys) h = let n = neither (eq w y) (is_member eq ys w) h in (n.0, apart_all w ys n.1)

  last_distinct : (voters learners : List ID) → IsDistinct eq (voters ++ learners) → IsDistinct eq learners
  unfolding IsDistinct
  last_distinct [] learners d = d
  last_distinct (w ∷ ws) learners d = last_distinct ws learners d.1

  none_votes : (voters learners : List ID) → IsDistinct eq (voters ++ learners) → (x : ID) → is_member eq learners x ≡ true
      → is_member eq voters x ≡ false
  unfolding IsDistinct
  none_votes [] learners d x m = refl
  none_votes (w ∷ ws) learners d x m = by (eq x w) refl (none_votes ws learners d.1 x m)
    where
      by : (b : Bool) → eq x w ≡ b → is_member eq ws x ≡ false → (eq x w || is_member eq ws x) ≡ false
      by true e r = absurd (true≢false
          (sym m ∙ apart_member w x learners (all_last (λ y. eq w y ≡ false) ws learners d.0) e))
      by false e r = rw e r

  joined_distinct : (voters learners : List ID) → IsDistinct eq voters → IsDistinct eq learners
      → ((x : ID) → is_member eq learners x ≡ true → is_member eq voters x ≡ false) → IsDistinct eq (voters ++ learners)
  unfolding IsDistinct
  joined_distinct [] learners dv dl n = dl
  joined_distinct (w ∷ ws) learners dv dl n = (
    all_both (λ y. eq w y ≡ false) ws learners dv.0 (apart_all w learners (by (is_member eq learners w) refl)),
    joined_distinct ws learners dv.1 dl (λ x m. (neither (eq x w) (is_member eq ws x) (n x m)).1),
  )
    where
      by : (b : Bool) → is_member eq learners w ≡ b → b ≡ false
      by true e = absurd (true≢false (sym (laws.refl w) ∙ (neither (eq w w) (is_member eq ws w) (n w e)).0))
      by false e = refl

  module _ (voters : List ID) (is_voter : ID → Bool) (v : (x : ID) → is_member eq voters x ≡ is_voter x) (learners : List ID) where
    pub distinct_fits : IsDistinct eq (voters ++ learners) → LearnersFit eq is_voter learners
    distinct_fits d = record {
      distinct = last_distinct voters learners d;
      no_voters = λ x m. sym (v x) ∙ none_votes voters learners d x m;
    }

    pub fits_distinct : IsDistinct eq voters → LearnersFit eq is_voter learners → IsDistinct eq (voters ++ learners)
    fits_distinct d f = joined_distinct voters learners d f.distinct (λ x m. v x ∙ f.no_voters x m)

  module _ {cmp : ID → ID → Ordering} (total : IsTotalOrder cmp) (ties : (x y : ID) → eq x y ≡ eq_by_cmp cmp x y) where
    -- ids that ascend are distinct
    pub ascending_distinct : (ids : List ID) → IsStrictlySortedBy cmp ids → IsDistinct eq ids
    ascending_distinct ids s = subst (λ (e : ID → ID → Bool). IsDistinct e ids) (λ i x y. sym (ties x y) i)
        (IsDistinct-from_sorted cmp ids s)

    -- ids in order of which no neighbours are equal are distinct
    pub sorted_distinct : (ids : List ID) → IsSorted cmp ids
        → ((k : ℕ) (d : ID) → k + 1 < length ids → eq (get_or ids k d) (get_or ids (k + 1) d) ≡ false) → IsDistinct eq ids
    unfolding IsDistinct
    sorted_distinct [] s a = tt
    sorted_distinct (x ∷ xs) s a =
        ascending_distinct (x ∷ xs) (sorted_from_all_adjacent total (x ∷ xs) x
        (λ k l. less_from laws total ties _ _ (s k x (omega arith) l) (a k x l)))
