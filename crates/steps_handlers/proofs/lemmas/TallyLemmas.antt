-- The members that may have voted for a candidate, and the majorities that they may be.
use Rattle.std.specs.Prelude.{◌≡◌, ℕ, ◌*◌, ◌==◌, Bool, true, false, cond, nat_lt, List, [], ◌∷◌, length, count_by, filter, map, refl}
use Rattle.std.specs.BTreeSet.{BTreeSet, IsOrdered}
use Rattle.std.specs.List.{AllByRecursion, IsDistinct, list_all}
use Rattle.std.specs.Ordering.{eq_by_cmp}
use Rattle.std.specs.Set.{is_member, unique_keys}
use Rattle.std.specs.declared.cmp.Ordering.{Ordering}
use Rattle.std.proofs.Common.{arith, ap, subst, sym, ◌∙◌, ltb, ltb-true, lt-ltb, true≢false, ◌/◌}
use Rattle.std.proofs.Math.Dec.{eqb-suc-zero}
use Rattle.std.proofs.lemmas.Bool.{ltb_from_iff}
use Rattle.std.proofs.lemmas.List.Folds.{list_all-map}
use Rattle.std.proofs.lemmas.List.Sums.{length-filter}
use Rattle.std.proofs.lemmas.Map.Keys.{IsDistinct-from_sorted}
use Rattle.raft_members.specs.quorum.Majority.{is_joint_majority, is_majority}

-- comparing a count with half of a length
half : (n m : ℕ) → ltb (m / 2) n ≡ ltb m (2 * n)
half n m = ltb_from_iff ((λ e. let l = ltb-true _ _ e in omega arith), (λ l. lt-ltb _ _ (omega arith)))

module _ {K : Type 0} (eq : K → K → Bool) where
  absent : (x : K) (ys : List K) → AllByRecursion (λ y. eq x y ≡ false) ys → is_member eq ys x ≡ false
  absent x [] a = refl
  absent x (y ∷ ys) a = rw (a.0, absent x ys a.1) refl

  -- distinct ids are each there once
  once : (xs : List K) → IsDistinct eq xs → unique_keys eq xs ≡ xs
  unfolding IsDistinct
  once [] d = refl
  once (x ∷ xs) d =
      ap (λ (b : Bool). cond b (unique_keys eq xs) (x ∷ unique_keys eq xs)) (absent x xs d.0) ∙ ap (λ ys. x ∷ ys) (once xs d.1)

  -- more than half of a set, counted id by id, are a majority of it
  pub counted_majority : (cmp : K → K → Ordering) → ((x y : K) → eq x y ≡ eq_by_cmp cmp x y) → (set : BTreeSet K) → IsOrdered cmp set
      → (p : K → Bool) → ltb (length set.keys / 2) (length (filter p set.keys)) ≡ is_majority eq set.keys p
  counted_majority cmp ties set ordered p =
      let distinct : IsDistinct eq set.keys =
      subst (λ (e : K → K → Bool). IsDistinct e set.keys) (sym (λ i x y. ties x y i)) (IsDistinct-from_sorted cmp set.keys ordered) in
      half _ (length set.keys)
      ∙ ap (λ n. ltb (length set.keys) (2 * n)) (length-filter p set.keys ∙ ap (count_by p) (sym (once set.keys distinct)))

  -- a majority of each set is a majority of each config, which are the lists of their ids
  pub each_majority : (p : K → Bool) (sets : List (BTreeSet K)) (configs : List (List K)) → map (λ c. c.keys) sets ≡ configs
      → list_all (λ c. is_majority eq c.keys p) sets ≡ is_joint_majority eq configs p
  each_majority p sets configs is =
      sym (list_all-map (λ c. is_majority eq c p) (λ (c : BTreeSet K). c.keys) sets) ∙ ap (list_all (λ c. is_majority eq c p)) is

-- there is no config exactly if there is no set
pub no_config : {K : Type 0} (sets : List (BTreeSet K)) (configs : List (List K)) → map (λ c. c.keys) sets ≡ configs
    → (length sets == 0) ≡ true → nat_lt 0 (length configs) ≡ false
no_config {K} [] configs is none = subst (λ (cs : List (List K)). nat_lt 0 (length cs) ≡ false) is refl
no_config (c ∷ cs) configs is none = absurd (true≢false (sym none ∙ eqb-suc-zero (length cs)))

pub a_config : {K : Type 0} (sets : List (BTreeSet K)) (configs : List (List K)) → map (λ c. c.keys) sets ≡ configs
    → (length sets == 0) ≡ false → nat_lt 0 (length configs) ≡ true
a_config [] configs is some = absurd (true≢false some)
a_config {K} (c ∷ cs) configs is some = subst (λ (ds : List (List K)). nat_lt 0 (length ds) ≡ true) is (lt-ltb _ _ (omega arith))
