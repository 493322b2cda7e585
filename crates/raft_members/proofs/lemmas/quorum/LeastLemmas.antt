-- How many ids a quorum has at least, and when their number decides.
use Rattle.std.specs.Prelude.{◌≡◌, ℕ, ◌+◌, ◌/◌, Bool, true, cond, ◌||◌, List, [], ◌∷◌, length, count_by, nat_le}
use Rattle.std.proofs.Common.{arith, ap, refl, sym, ◌∙◌, ltb, ltb-true}
use Rattle.std.proofs.lemmas.Bool.{leb-true, le-leb, ltb_from_iff}
use Rattle.std.proofs.lemmas.List.Sums.{count_by-le-length, sum_by-cons}
use Rattle.std.proofs.Math.Bool.{or-true}
use Rattle.std.specs.Cmp.{IsEquivalence}
use Rattle.std.specs.List.{list_any}
use Rattle.std.specs.Set.{is_member}
use Rattle.raft_members.specs.quorum.Majority.{has_at_least, is_majority}
use Rattle.raft_members.specs.quorum.QuorumSize.{QuorumsHaveAtLeast, SizeDecides}
use Rattle.raft_members.proofs.lemmas.quorum.MajorityLemmas.{count_by-is_member, flipped, majority_count}

module _ {K : Type 0} {eq : K → K → Bool} (laws : IsEquivalence eq) where
  -- a majority has more than half of the voters
  pub majority_least : (voters : List K) → QuorumsHaveAtLeast eq (is_majority eq voters) (length voters / 2 + 1)
  majority_least voters ids d h =
      let more = ltb-true _ _ (majority_count laws ids voters d ∙ h) in
      omega (arith, count_by-le-length (λ x. list_any (λ y. eq y x) voters) ids)

  -- a quorum of a stated size has that size
  pub at_least_least : (voters : List K) (need : ℕ) → QuorumsHaveAtLeast eq (has_at_least eq voters need) need
  at_least_least voters need ids d h =
      let more = leb-true _ _ h in
      omega (arith, count_by-is_member laws ids voters d, count_by-le-length (is_member eq voters) ids)

  -- if each id passes a test, all are counted
  count_all : (p : K → Bool) (ids : List K) → ((x : K) → is_member eq ids x ≡ true → p x ≡ true) → count_by p ids ≡ length ids
  count_all p [] h = refl
  count_all p (x ∷ xs) h =
      let here : p x ≡ true = h x (ap (λ b. b || is_member eq xs x) (laws.refl x)) in
      let one : ◌≡◌ {A = ℕ} (cond (p x) 1 0) 1 = rw here refl in
      let rest = count_all p xs (λ y m. h y (later y x m)) in
      omega (arith, sum_by-cons (λ y. cond (p y) 1 0) x xs, one, rest)
    where
      later : (y x : K) → is_member eq xs y ≡ true → (eq y x || is_member eq xs y) ≡ true
      later y x m = rw m (or-true (eq y x))

  -- voters of a list are a majority exactly if they are more than half of its length
  pub majority_decides : (voters : List K) → SizeDecides eq (is_majority eq voters) (is_member eq voters) (length voters / 2 + 1)
  majority_decides voters ids d are =
      sym (majority_count laws ids voters d)
      ∙ ap (ltb (length voters / 2)) (count_all _ ids (λ x m. flipped laws x voters ∙ are x m))
      ∙ sym (ltb_from_iff ((λ e. let l = leb-true _ _ e in omega arith), (λ l. le-leb _ _ (omega arith))))

  -- of some ids, those are a quorum of a stated size that have this size
  pub at_least_decides : (voters : List K) (need : ℕ) → SizeDecides eq (has_at_least eq voters need) (is_member eq voters) need
  at_least_decides voters need ids d are =
      ap (nat_le need) (sym (count_by-is_member laws ids voters d) ∙ count_all (is_member eq voters) ids are)
