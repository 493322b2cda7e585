-- A quorum of a membership's progress has reached a part exactly if a majority of each config has.
use Rattle.std.specs.Prelude.{◌≡◌, ◌↔◌, ◌⊎◌, ◌<◌, ◌≤◌, ℕ, Bool, true, false, ◌&&◌, Option, Some, None, nat_le, refl}
use Rattle.std.specs.declared.cmp.Ordering.{Ordering}
use Rattle.std.specs.Cmp.{IsEquivalence, first_so, second_so}
use Rattle.std.specs.List.{list_all}
use Rattle.std.specs.Option.{option_map_or}
use Rattle.std.specs.Ordering.{bool_cmp, is_le, nat_cmp}
use Rattle.std.proofs.Common.{ap, arith, inl, inr, subst, sym, ◌∙◌, true≢false}
use Rattle.std.proofs.lemmas.Bool.Decides.{nat_tests}
use Rattle.std.proofs.lemmas.List.Folds.{list_all-map}
use Rattle.raft_members.specs.quorum.Majority.{is_joint_majority, is_majority}
use Rattle.raft_members.specs.quorum.MajorityLawful.{is_joint_majority-superset}
use Rattle.raft_members.proofs.CallerLemmas.{has_config-voter, joint_majority_member, joint_majority_of_voters}
use Rattle.raft_progress.specs.progress.CountedValue.{AtMost, has_part, reached}
use Rattle.raft_progress.specs.progress.ProgressView.{state}
use Rattle.raft_progress.specs.progress.Threshold.{QuorumReached}
use Rattle.raft_progress.specs.tracked.EachConfig.{MajorityOfEach}
use Rattle.raft_progress.specs.tracked.TrackedState.{IsReady, TrackedView, has_quorum}

module _ {K N V P : Type 0} {eq : K → K → Bool} (laws : IsEquivalence eq) {id_cmp : K → K → Ordering} {cmp : P → P → Ordering}
    (part : V → P) (t : TrackedView K N V P) (r : IsReady eq id_cmp cmp part t) (q : P) where
  abbrev has : K → Bool
  has id = option_map_or (λ v. is_le (cmp q (part v))) ((state eq t.progress).value id) false

  abbrev voter : K → Bool
  voter = (state eq t.progress).is_voter

  same_part : (o : Option V) → has_part cmp part q o ≡ option_map_or (λ v. is_le (cmp q (part v))) o false
  same_part None = refl
  same_part (Some v) = refl

  same_reached : reached cmp part (state eq t.progress) q ≡ (λ id. voter id && has id)
  same_reached = λ i id. voter id && same_part ((state eq t.progress).value id) i

  -- quorums of the progress are those of the configs
  same_quorums : (s : K → Bool) → has_quorum eq t.progress.quorum_set s ≡ is_joint_majority eq t.membership.configs s
  same_quorums s = sym (list_all-map (λ c. is_majority eq c s) (λ c. c.items) t.progress.quorum_set.items)
      ∙ ap (list_all (λ c. is_majority eq c s)) r.counts_by.configs

  pub each_reached : QuorumReached cmp part (has_quorum eq) (state eq t.progress) q ↔ MajorityOfEach eq t (λ v. is_le (cmp q (part v)))
  each_reached = (
    (λ k. record {
      config = has_config-voter laws t.membership.configs k.voter (sym (r.counts_by.voters k.voter) ∙ first_so _ _ k.has_reached);
      majority = is_joint_majority-superset eq t.membership.configs (λ id. voter id && has id) has (λ x h. second_so (voter x) _ h)
          (sym (same_quorums (λ id. voter id && has id)) ∙ ap (has_quorum eq t.progress.quorum_set) (sym same_reached) ∙ k.quorum);
    }),
    (λ m.
        let within = joint_majority_of_voters laws voter has t.membership.configs (λ x v. r.counts_by.voters x ∙ v) m.majority in
        let one = joint_majority_member laws t.membership.configs (λ x. voter x && has x) m.config within in
        record {
          voter = one.0;
          has_reached = (λ i. same_reached i one.0) ∙ one.1;
          quorum = ap (has_quorum eq t.progress.quorum_set) same_reached ∙ same_quorums (λ id. voter id && has id) ∙ within;
        }),
  )

-- ---- numbers, and votes

same_test : (a b : ℕ) → is_le (nat_cmp a b) ≡ nat_le a b
same_test a b = grind (arith, nat_tests)

up_to : (a b : ℕ) → a ≤ b → AtMost nat_cmp a b
up_to a b h = grind (arith, nat_tests)

from_up_to : (a b : ℕ) → AtMost nat_cmp a b → a ≤ b
from_up_to a b h = grind (arith, nat_tests)

not_past : (n d : ℕ) → AtMost nat_cmp n d → d < n → ⊥
not_past n d h l = let below : n ≤ d = from_up_to n d h in omega arith

same_vote : (b : Bool) → is_le (bool_cmp true b) ≡ b
same_vote true = refl
same_vote false = refl

module _ {K N : Type 0} {eq : K → K → Bool} (laws : IsEquivalence eq) {id_cmp : K → K → Ordering} where
  -- past the default, a number is at most what is granted exactly if a majority of each config has it
  pub number_granted : (t : TrackedView K N ℕ ℕ) → IsReady eq id_cmp nat_cmp (λ v. v) t → (n : ℕ)
      → AtMost nat_cmp n t.progress.granted ↔ (AtMost nat_cmp n t.progress.default_part
      ⊎ QuorumReached nat_cmp (λ (v : ℕ). v) (has_quorum eq) (state eq t.progress) n) → t.progress.default_part < n
      → n ≤ t.progress.granted ↔ MajorityOfEach eq t (λ v. nat_le n v)
  number_granted t r n threshold past =
      let each = each_reached laws (λ v. v) t r n in
      let same : (λ (v : ℕ). is_le (nat_cmp n v)) ≡ (λ (v : ℕ). nat_le n v) = λ i v. same_test n v i in (
        (λ h. elim (threshold.0 (up_to n t.progress.granted h)) as (λ _. MajorityOfEach eq t (λ v. nat_le n v)) [
          | inl d ↦ absurd (not_past n t.progress.default_part d past)
          | inr k ↦ subst (MajorityOfEach eq t) same (each.0 k)
        ]),
        (λ m. from_up_to n t.progress.granted (threshold.1 (inr (each.1 (subst (MajorityOfEach eq t) (sym same) m))))),
      )

  -- `true` is granted, if it is not the default, exactly if a majority of each config has it
  pub vote_granted : (t : TrackedView K N Bool Bool) → IsReady eq id_cmp bool_cmp (λ v. v) t
      → AtMost bool_cmp true t.progress.granted ↔
      (AtMost bool_cmp true t.progress.default_part ⊎ QuorumReached bool_cmp (λ (v : Bool). v) (has_quorum eq) (state eq t.progress) true)
      → t.progress.default_part ≡ false → (t.progress.granted ≡ true) ↔ MajorityOfEach eq t (λ v. v)
  vote_granted t r threshold none =
      let each = each_reached laws (λ v. v) t r true in
      let same : (λ (v : Bool). is_le (bool_cmp true v)) ≡ (λ (v : Bool). v) = λ i v. same_vote v i in (
        (λ h. elim (threshold.0 (same_vote t.progress.granted ∙ h)) as (λ _. MajorityOfEach eq t (λ v. v)) [
          | inl d ↦ absurd (true≢false (sym d ∙ same_vote t.progress.default_part ∙ none))
          | inr k ↦ subst (MajorityOfEach eq t) same (each.0 k)
        ]),
        (λ m. sym (same_vote t.progress.granted) ∙ threshold.1 (inr (each.1 (subst (MajorityOfEach eq t) (sym same) m)))),
      )
