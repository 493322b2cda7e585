-- Quorums of memberships that share a config intersect.
use Rattle.std.specs.Prelude.{◌≡◌, ◌⊎◌, ◌+◌, ◌*◌, ◌<◌, ◌≤◌, ◌&&◌, ◌||◌, Bool, true, false, not, count_by, List, [], ◌∷◌, ◌++◌, length, map}
use Rattle.std.specs.Cmp.{IsEquivalence}
use Rattle.std.specs.Cmp.Lexicographic.{pointwise}
use Rattle.std.specs.List.{filter, list_all, list_any}
use Rattle.std.specs.Cmp.{first_so, second_so}
use Rattle.std.specs.Set.{is_member, unique_keys}
use Rattle.std.proofs.Common.{ap, refl, sym, ◌∙◌, inl, inr, arith, ltb-true}
use Rattle.std.proofs.lemmas.Bool.{and_from, or_left}
use Rattle.std.proofs.lemmas.List.{length-append}
use Rattle.std.proofs.lemmas.List.Sums.{length-filter}
use Rattle.std.proofs.lemmas.Map.Made.{is_member-filter, length-le_from_is_member}
use Rattle.std.proofs.lemmas.List.Folds.{list_any-append}
use Rattle.std.proofs.lemmas.List.Folds.{list_all-map}
use Rattle.raft_members.specs.quorum.Coherence.{has_child, is_coherent, share_child}
use Rattle.raft_members.specs.quorum.Majority.{is_majority}
use Rattle.raft_members.specs.quorum.QuorumSize.{majority_size}
use Rattle.raft_members.proofs.lemmas.quorum.MajorityLemmas.{IsDistinct-filter, IsDistinct-unique_keys, is_member-unique_keys}
use Rattle.raft_members.proofs.lemmas.quorum.MeetingLemmas.{shared}
use Rattle.trace_checker.specs.Memberships.{majorities_meet, meets_some, some_meet}
use Rattle.safety_laws.proofs.lemmas.TestLemmas.{or_cases}
use Rattle.safety_laws.proofs.lemmas.JointLemmas.{coherent_intersect}

-- a test of images, as a test of what they are images of
any_mapped : {X Y : Type 0} (p : Y → Bool) (f : X → Y) (xs : List X) → list_any p (map f xs) ≡ list_any (λ x. p (f x)) xs
any_mapped p f [] = refl
any_mapped p f (x ∷ xs) = ap (λ b. p (f x) || b) (any_mapped p f xs)

module _ {K : Type 0} {eq : K → K → Bool} (laws : IsEquivalence eq) (same : (x y : K) → eq x y ≡ true → x ≡ y) where
  -- of configs in any form, by their lists of voters
  pub sharing_intersect : {Q : Type 0} (voters : Q → List K) (these those : List Q)
      → share_child (λ q r. pointwise eq (voters q) (voters r)) these those ≡ true → (s t : K → Bool)
      → list_all (λ q. is_majority eq (voters q) s) these ≡ true → list_all (λ q. is_majority eq (voters q) t) those ≡ true
      → (id : K) × (s id ≡ true) × (t id ≡ true)
  sharing_intersect voters these those shared s t in_these in_those =
      let coherent : is_coherent eq (map voters those) (map voters these) ≡ true =
      any_mapped (λ c. has_child (pointwise eq) (map voters those) c) voters these
      ∙ (λ i. list_any (λ q. any_mapped (λ d. pointwise eq d (voters q)) voters those i) these) ∙ shared in
      let m = coherent_intersect laws same (map voters those) (map voters these) coherent t s
      (list_all-map (λ c. is_majority eq c t) voters those ∙ in_those)
      (list_all-map (λ c. is_majority eq c s) voters these ∙ in_these) in (m.0, m.2, m.1)

  -- ---- majorities of two configs that have more servers than both configs together

  -- the members of a config that are in a set are members of any list that has the config's members
  no_more : (s : K → Bool) (c w : List K) → ((x : K) → is_member eq c x ≡ true → is_member eq w x ≡ true)
      → count_by s (unique_keys eq c) ≤ length (filter s w)
  no_more s c w within =
      let less : length (filter s (unique_keys eq c)) ≤ length (filter s w) =
      length-le_from_is_member laws (filter s (unique_keys eq c)) (filter s w)
      (IsDistinct-filter laws s (unique_keys eq c) (IsDistinct-unique_keys laws c)) members in
      rw length-filter at less
    where
      alike : (q x : K) → eq q x ≡ true → s q ≡ s x
      alike q x e = ap s (same q x e)

      members : (q : K) → is_member eq (filter s (unique_keys eq c)) q ≡ true → is_member eq (filter s w) q ≡ true
      members q e =
          let both : (is_member eq (unique_keys eq c) q && s q) ≡ true =
          sym (is_member-filter laws s q (alike q) (unique_keys eq c)) ∙ e in
          let in_c : is_member eq c q ≡ true =
          sym (is_member-unique_keys laws c q) ∙ first_so (is_member eq (unique_keys eq c) q) (s q) both in
          is_member-filter laws s q (alike q) w
          ∙ and_from (is_member eq w q) (s q) (within q in_c) (second_so (is_member eq (unique_keys eq c) q) (s q) both)

  in_first : (c d : List K) (x : K) → is_member eq c x ≡ true → is_member eq (c ++ d) x ≡ true
  in_first c d x e = list_any-append (eq x) c d ∙ or_left (is_member eq c x) (is_member eq d x) e

  -- a member of the second config is one of the first, or one of those that are added
  in_second : (c d : List K) (x : K) → is_member eq d x ≡ true
      → is_member eq (c ++ filter (λ y. not (is_member eq c y)) d) x ≡ true
  in_second c d x e =
      list_any-append (eq x) c (filter (λ y. not (is_member eq c y)) d)
      ∙ go (is_member eq c x) refl
    where
      alike : (y : K) → eq x y ≡ true → not (is_member eq c x) ≡ not (is_member eq c y)
      alike y f = ap (λ z. not (is_member eq c z)) (same x y f)

      go : (b : Bool) → is_member eq c x ≡ b
          → (b || is_member eq (filter (λ y. not (is_member eq c y)) d) x) ≡ true
      go true f = refl
      go false f =
          is_member-filter laws (λ y. not (is_member eq c y)) x alike d
          ∙ and_from (is_member eq d x) (not (is_member eq c x)) e (ap not f)

  pub majorities_share : (c d : List K) (s t : K → Bool) → majorities_meet eq c d ≡ true
      → is_majority eq c s ≡ true → is_majority eq d t ≡ true → (id : K) × (s id ≡ true) × (t id ≡ true)
  majorities_share c d s t few in_c in_d =
      let new : List K = filter (λ y. not (is_member eq c y)) d in
      let w : List K = c ++ new in
      let size : length w ≡ length c + count_by (λ y. not (is_member eq c y)) d =
      length-append c new ∙ ap (λ n. length c + n) (length-filter (λ y. not (is_member eq c y)) d) in
      let a : length c < 2 * count_by s (unique_keys eq c) =
      ltb-true (length c) (2 * count_by s (unique_keys eq c)) in_c in
      let b : length d < 2 * count_by t (unique_keys eq d) =
      ltb-true (length d) (2 * count_by t (unique_keys eq d)) in_d in
      let few' : length c + count_by (λ y. not (is_member eq c y)) d < majority_size c + majority_size d =
      ltb-true (length c + count_by (λ y. not (is_member eq c y)) d) (majority_size c + majority_size d) few in
      let more : length w < length (filter s w) + length (filter t w) =
      omega (arith, a, b, few', size, no_more s c w (in_first c new), no_more t d w (in_second c d)) in
      let m = shared laws s t w more in (m.0, m.2, m.3)

  meets_right : {Q : Type 0} (voters : Q → List K) (c : List K) (others : List Q)
      → meets_some eq voters c others ≡ true → (s t : K → Bool) → is_majority eq c s ≡ true
      → list_all (λ q. is_majority eq (voters q) t) others ≡ true
      → (id : K) × (s id ≡ true) × (t id ≡ true)
  meets_right voters c [] e s t in_c all = absurd (cc)
  meets_right {Q} voters c (d ∷ others) e s t in_c all =
      go (or_cases (majorities_meet eq c (voters d)) (meets_some eq voters c others) e)
      (λ f. meets_right voters c others f s t in_c
      (second_so (is_majority eq (voters d) t) (list_all (λ q. is_majority eq (voters q) t) others) all))
    where
      go : (majorities_meet eq c (voters d) ≡ true) ⊎ (meets_some eq voters c others ≡ true)
          → (meets_some eq voters c others ≡ true → (id : K) × (s id ≡ true) × (t id ≡ true))
          → (id : K) × (s id ≡ true) × (t id ≡ true)
      go (inl f) rest =
          majorities_share c (voters d) s t f in_c
          (first_so (is_majority eq (voters d) t) (list_all (λ q. is_majority eq (voters q) t) others) all)
      go (inr f) rest = rest f

  pub meeting_intersect : {Q : Type 0} (voters : Q → List K) (these others : List Q)
      → some_meet eq voters these others ≡ true → (s t : K → Bool)
      → list_all (λ q. is_majority eq (voters q) s) these ≡ true
      → list_all (λ q. is_majority eq (voters q) t) others ≡ true
      → (id : K) × (s id ≡ true) × (t id ≡ true)
  meeting_intersect voters [] others e s t in_these in_others = absurd (cc)
  meeting_intersect {Q} voters (c ∷ these) others e s t in_these in_others =
      go (or_cases (meets_some eq voters (voters c) others) (some_meet eq voters these others) e)
      (λ f. meeting_intersect voters these others f s t
      (second_so (is_majority eq (voters c) s) (list_all (λ q. is_majority eq (voters q) s) these) in_these) in_others)
    where
      go : (meets_some eq voters (voters c) others ≡ true) ⊎ (some_meet eq voters these others ≡ true)
          → (some_meet eq voters these others ≡ true → (id : K) × (s id ≡ true) × (t id ≡ true))
          → (id : K) × (s id ≡ true) × (t id ≡ true)
      go (inl f) rest =
          meets_right voters (voters c) others f s t
          (first_so (is_majority eq (voters c) s) (list_all (λ q. is_majority eq (voters q) s) these) in_these) in_others
      go (inr f) rest = rest f

  -- memberships that share a config, or of which configs have majorities that meet
  pub known_intersect : {Q : Type 0} (voters : Q → List K) (these others : List Q)
      → (share_child (λ q r. pointwise eq (voters q) (voters r)) these others || some_meet eq voters these others) ≡ true
      → (s t : K → Bool) → list_all (λ q. is_majority eq (voters q) s) these ≡ true
      → list_all (λ q. is_majority eq (voters q) t) others ≡ true
      → (id : K) × (s id ≡ true) × (t id ≡ true)
  known_intersect {Q} voters these others e s t in_these in_others =
      go (or_cases (share_child (λ q r. pointwise eq (voters q) (voters r)) these others) (some_meet eq voters these others) e)
    where
      go : (share_child (λ q r. pointwise eq (voters q) (voters r)) these others ≡ true)
          ⊎ (some_meet eq voters these others ≡ true) → (id : K) × (s id ≡ true) × (t id ≡ true)
      go (inl f) = sharing_intersect voters these others f s t in_these in_others
      go (inr f) = meeting_intersect voters these others f s t in_these in_others
