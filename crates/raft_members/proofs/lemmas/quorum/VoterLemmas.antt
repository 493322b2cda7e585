-- A majority of each config is one of the voters alone, and there is a voter in it.
use Rattle.std.specs.Prelude.{◌≡◌, ◌<◌, ◌*◌, ◌+◌, Bool, true, ◌&&◌, cond, List, [], ◌∷◌, length, nat_lt, count_by, refl}
use Rattle.std.specs.Cmp.{IsEquivalence, first_so, second_so}
use Rattle.std.specs.Cmp.Derive.{both_true}
use Rattle.std.specs.Set.{is_member, unique_keys}
use Rattle.std.proofs.Common.{ap, arith, sym, ◌∙◌, true≢false}
use Rattle.std.proofs.lemmas.Bool.{or_left, or_right}
use Rattle.std.proofs.lemmas.List.Sums.{sum_by-cons}
use Rattle.raft_members.specs.quorum.Majority.{is_joint_majority, is_majority, is_voter_of}
use Rattle.raft_members.proofs.lemmas.quorum.MajorityLemmas.{is_member-unique_keys}
use Rattle.raft_members.proofs.lemmas.quorum.MeetingLemmas.{majority_member}

module _ {K : Type 0} {eq : K → K → Bool} (laws : IsEquivalence eq) where
  module _ (voter set : K → Bool) where
    -- if all items are voters, as many are voters of the set as are of the set
    count_voters : (xs : List K) → ((x : K) → is_member eq xs x ≡ true → voter x ≡ true)
        → count_by (λ x. voter x && set x) xs ≡ count_by set xs
    count_voters [] within = refl
    count_voters (x ∷ xs) within =
        sum_by-cons (λ y. cond (voter y && set y) 1 0) x xs
        ∙ (λ i. cond (within x (or_left _ _ (laws.refl x)) i && set x) 1 0
        + count_voters xs (λ y m. within y (or_right _ _ m)) i)
        ∙ sym (sum_by-cons (λ y. cond (set y) 1 0) x xs)

    majority_of_voters : (c : List K) → ((x : K) → is_member eq c x ≡ true → voter x ≡ true)
        → is_majority eq c set ≡ true → is_majority eq c (λ x. voter x && set x) ≡ true
    majority_of_voters c within h =
        ap (λ n. nat_lt (length c) (2 * n))
        (count_voters (unique_keys eq c) (λ x m. within x (sym (is_member-unique_keys laws c x) ∙ m))) ∙ h

    -- a majority of each config has one of the voters, if all members of the configs are voters
    pub joint_majority_of_voters : (configs : List (List K)) → ((x : K) → is_voter_of eq configs x ≡ true → voter x ≡ true)
        → is_joint_majority eq configs set ≡ true → is_joint_majority eq configs (λ x. voter x && set x) ≡ true
    joint_majority_of_voters [] within h = refl
    joint_majority_of_voters (c ∷ cs) within h =
        both_true (majority_of_voters c (λ x m. within x (or_left _ _ m)) (first_so _ _ h))
        (joint_majority_of_voters cs (λ x m. within x (or_right _ _ m)) (second_so _ _ h))

  -- configs with a voter are some
  pub has_config-voter : (configs : List (List K)) (x : K) → is_voter_of eq configs x ≡ true → 0 < length configs
  has_config-voter [] x h = absurd (true≢false (sym h))
  has_config-voter (c ∷ cs) x h = omega arith

  -- if there is a config, a majority of each has a member
  pub joint_majority_member : (configs : List (List K)) (set : K → Bool) → 0 < length configs
      → is_joint_majority eq configs set ≡ true → (x : K) × (set x ≡ true)
  joint_majority_member [] set some h = absurd (omega arith)
  joint_majority_member (c ∷ cs) set some h = let m = majority_member laws c set (first_so _ _ h) in (m.0, m.2)
