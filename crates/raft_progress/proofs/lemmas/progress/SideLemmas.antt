-- Voters of two configs that are counted in place of a quorum test.
use Rattle.std.specs.Prelude.{◌≡◌, ℕ, ◌+◌, ◌-◌, ◌<◌, ◌≤◌, Bool, true, false, cond, ◌&&◌, ◌||◌, ◌/◌, List, [], ◌∷◌, Option, Some, count_by, is_some, length, map, max, nat_le, take}
use Rattle.std.specs.declared.cmp.Ordering.{Ordering}
use Rattle.std.specs.Cmp.{Equal-is, IsEquivalence, IsTotalOrder, first_so, second_so}
use Rattle.std.specs.declared.cmp.Ordering.TheVariants.{Equal, Greater, Less}
use Rattle.std.specs.Ordering.{eq_by_cmp, is_eq, ordering_reverse}
use Rattle.std.specs.List.{AllByRecursion, IsDistinct, list_all, list_any}
use Rattle.std.specs.List.Sorted.{IsStrictlySortedBy}
use Rattle.std.specs.Map.{keys_of, lookup, values_of}
use Rattle.std.specs.Set.{is_member}
use Rattle.std.proofs.Common.{ap, arith, get_or, ltb, ltb-false, ltb-true, refl, subst, suc, sym, zero, ◌∙◌, true≢false}
use Rattle.std.proofs.lemmas.Bool.{leb-true, le-leb, ltb_from_iff}
use Rattle.std.proofs.lemmas.Bool.Decides.{nat_tests}
use Rattle.std.proofs.lemmas.Cmp.{alike_right}
use Rattle.std.proofs.lemmas.List.{get_or-take, length-map, length-take}
use Rattle.std.proofs.lemmas.List.Folds.{list_all-map}
use Rattle.std.proofs.lemmas.List.Sums.{sum_by-cons}
use Rattle.std.proofs.lemmas.Map.Entries.{length-keys_of, place_from_lookup}
use Rattle.std.proofs.lemmas.Map.Made.{is_some-lookup}
use Rattle.std.proofs.lemmas.Option.{get_or_from_slice_get, slice_get_within}
use Rattle.raft_members.specs.quorum.Majority.{is_majority}
use Rattle.raft_members.specs.quorum.QuorumSize.{QuorumsHaveAtLeast}
use Rattle.raft_members.specs.membership.Members.{MemberList, members_of}
use Rattle.raft_members.proofs.CallerLemmas.{is_member-alike}
use Rattle.raft_members.proofs.lemmas.quorum.LeastLemmas.{majority_least}
use Rattle.raft_members.proofs.lemmas.quorum.MajorityLemmas.{flipped, majority_count}
use Rattle.raft_progress.specs.Inner.Positions.{AreAtPositions, AreInverse, position_in}
use Rattle.raft_progress.specs.Inner.Recount.{prefix_test}
use Rattle.raft_progress.specs.Inner.Sides.{AreKnownIds, AreSidesOf, AreSidesOfMembers, IsShortestWith, IsSideOf}
use Rattle.raft_progress.specs.declared.progress.sides.Side.{Side}
use Rattle.raft_progress.specs.declared.progress.sides.Sides.{Sides}
use Rattle.raft_progress.specs.tracked.TrackedState.{Configs, HasConfigs, IsReady, TrackedView, has_quorum}
use Rattle.raft_progress.proofs.lemmas.progress.UpdateLemmas.{IsDistinct-take, keys_take}
use Rattle.raft_progress.proofs.lemmas.progress.positions.LookupLemmas.{key_at}
use Rattle.raft_progress.proofs.lemmas.progress.positions.MadeLemmas.{position_at}
use Rattle.raft_progress.proofs.lemmas.progress.positions.PositionsLemmas.{any_default, position_ranked}

-- two lists of which each two items pass their tests together have as many items that pass
count_alike : {X Y : Type 0} (f : X → Bool) (g : Y → Bool) (xs : List X) (ys : List Y) → length xs ≡ length ys
    → ((k : ℕ) (d : X) (e : Y) → k < length xs → f (get_or xs k d) ≡ g (get_or ys k e)) → count_by f xs ≡ count_by g ys
count_alike f g [] [] same h = refl
count_alike f g [] (y ∷ ys) same h = absurd (omega arith)
count_alike f g (x ∷ xs) [] same h = absurd (omega arith)
count_alike f g (x ∷ xs) (y ∷ ys) same h =
    let rest = count_alike f g xs ys (omega arith) (λ k d e l. h (suc k) d e (omega arith)) in
    let here : ◌≡◌ {A = ℕ} (cond (f x) 1 0) (cond (g y) 1 0) = ap (λ b. cond b 1 0) (h 0 x y (omega arith)) in
    omega (arith, sum_by-cons (λ z. cond (f z) 1 0) x xs, sum_by-cons (λ z. cond (g z) 1 0) y ys, here, rest)

-- a longer prefix has no fewer items that pass
count_take_le : {X : Type 0} (f : X → Bool) (j k : ℕ) (xs : List X) → j ≤ k → count_by f (take j xs) ≤ count_by f (take k xs)
count_take_le f zero k xs l = omega arith
count_take_le f (suc j) zero xs l = absurd (omega arith)
count_take_le f (suc j) (suc k) [] l = omega arith
count_take_le f (suc j) (suc k) (x ∷ xs) l =
    omega (
      arith,
      count_take_le f j k xs (omega arith),
      sum_by-cons (λ z. cond (f z) 1 0) x (take j xs),
      sum_by-cons (λ z. cond (f z) 1 0) x (take k xs),
    )

-- the number that is needed is reached by the item at a position
pub shortest_at : {X : Type 0} (f : X → Bool) (need : ℕ) (xs : List X) (i : ℕ) → count_by f (take i xs) < need
    → count_by f (take (i + 1) xs) ≡ need → IsShortestWith f need xs (i + 1)
shortest_at f need xs i less enough k l = by (ltb i k) refl
  where
    by : (b : Bool) → ltb i k ≡ b → nat_le need (count_by f (take k xs)) ≡ nat_le (i + 1) k
    by true t = let far = ltb-true i k t in let more = count_take_le f (i + 1) k xs (omega arith) in grind (arith, nat_tests)
    by false t = let near = ltb-false i k t in let fewer = count_take_le f k i xs near in grind (arith, nat_tests)

-- or by none of them
pub shortest_past : {X : Type 0} (f : X → Bool) (need : ℕ) (xs : List X) → count_by f (take (length xs) xs) < need
    → IsShortestWith f need xs (length xs + 1)
shortest_past f need xs less k l = let below = count_take_le f k (length xs) xs l in grind (arith, nat_tests)

-- what is long enough for both is as long as the greater
pub both_long : (a b m k : ℕ) (c d : Bool) → c ≡ nat_le a k → d ≡ nat_le b k → m ≡ max a b → (c && d) ≡ nat_le m k
both_long a b m k c d e f is =
    let both : (nat_le a k && nat_le b k) ≡ nat_le m k = grind (arith, nat_tests) in
    ap (λ x. x && d) e ∙ ap (λ x. nat_le a k && x) f ∙ both

-- a prefix is one by its own length
take_own : {X : Type 0} (k : ℕ) (xs : List X) → take (length (take k xs)) xs ≡ take k xs
take_own zero xs = refl
take_own (suc k) [] = refl
take_own (suc k) (x ∷ xs) = ap (λ ys. x ∷ ys) (take_own k xs)

-- more than a number is at least one more
at_need : (a m : ℕ) → ltb a m ≡ nat_le (a + 1) m
at_need a m = sym (ltb_from_iff ((λ e. let l = leb-true _ _ e in omega arith), (λ l. le-leb _ _ (omega arith))))

and_true : (b : Bool) → (b && true) ≡ b
and_true true = refl
and_true false = refl

-- the place of a member
place_of : {K : Type 0} (eq : K → K → Bool) (ks : List K) (x : K) → is_member eq ks x ≡ true
    → (k : ℕ) × (k < length ks) × (eq x (get_or ks k x) ≡ true)
place_of eq [] x m = absurd (true≢false (sym m))
place_of {K} eq (y ∷ ks) x m = by (eq x y) refl m (place_of eq ks x)
  where
    by : (b : Bool) → eq x y ≡ b → (b || is_member eq ks x) ≡ true
        → (is_member eq ks x ≡ true → (k : ℕ) × (k < length ks) × (eq x (get_or ks k x) ≡ true))
        → (k : ℕ) × (k < length (y ∷ ks)) × (eq x (get_or (y ∷ ks) k x) ≡ true)
    by true t h rest = (0, omega arith, t)
    by false t h rest = let r = rest h in let l = r.1 in (suc r.0, omega arith, r.2)

module _ {K : Type 0} {eq : K → K → Bool} (laws : IsEquivalence eq) where
  -- a list of positions that agrees with the ids has their members
  pub found_members : (ids : List K) (found : K → Option ℕ) → AreAtPositions eq ids found → (x : K)
      → is_some (found x) ≡ is_member eq ids x
  found_members ids found t x = by (is_member eq ids x) refl
    where
      by : (b : Bool) → is_member eq ids x ≡ b → is_some (found x) ≡ b
      by true m = let p = place_of eq ids x m in ap is_some (t.here x p.0 p.1 p.2)
      by false m = ap is_some (t.unknown x m)

  module _ (es : List (K × ℕ)) (ranks : List ℕ) (inverse : AreInverse (values_of es) ranks) (ids : List K)
      (tells : AreAtPositions eq ids (position_in eq es)) where
    -- the rank of each position leads to the id there
    ranked : (k : ℕ) (d e : K) → k < length ids
        → (get_or ranks k 0 < length (keys_of es)) × (eq (get_or ids k d) (get_or (keys_of es) (get_or ranks k 0) e) ≡ true)
    ranked k d e l =
        let x = get_or ids k d in
        let f = place_from_lookup (eq x) es k (tells.here x k l (ap (eq x) (any_default ids k x d l) ∙ laws.refl x)) in
        let w = slice_get_within es f.0 (f.1, k) f.2 in
        let b = inverse.back f.0 (omega (arith, length-map es (λ e. e.1))) in
        let entry = get_or_from_slice_get es f.0 (f.1, k) (f.1, k) f.2 in
        let at : get_or (values_of es) f.0 0 ≡ k = sym (position_at es f.0 (f.1, k) 0 w) ∙ ap (λ (e : K × ℕ). e.1) entry in
        let rank : get_or ranks k 0 ≡ f.0 = ap (λ p. get_or ranks p 0) (sym at) ∙ b.1 in
        let key : get_or (keys_of es) (get_or ranks k 0) e ≡ f.1 = ap (λ r. get_or (keys_of es) r e) rank
        ∙ sym (key_at es f.0 (f.1, k) e w) ∙ ap (λ (e : K × ℕ). e.0) entry in
        (omega (arith, length-keys_of es), ap (eq x) key ∙ f.3)

    -- the ranks of the first positions are within a side
    pub rank_within : (config : List K) (side : Side) → IsSideOf eq config (keys_of es) side → (n k : ℕ) → k < length (take n ranks)
        → get_or (take n ranks) k 0 < length side.has.items
    rank_within config side s n k l =
        let t = length-take n ranks in
        let near : k < n = omega arith in
        let f = inverse.forth k (omega arith) in
        let r = f.0 in
        let one = s.one_length in
        omega (arith, get_or-take n ranks k 0 near, length-map es (λ e. e.1), length-keys_of es)

    -- each id has a rank
    pub enough_ranks : (n : ℕ) → 0 < n → n ≤ length ids → n ≤ length ranks
    enough_ranks zero some l = omega arith
    enough_ranks (suc n) some l = let r = position_ranked laws es ranks inverse ids n (omega arith) tells in omega arith

    module _ (distinct : IsDistinct eq ids) (n : ℕ) (some : 0 < n) (n_ids : n ≤ length ids) where
      n_ranks : n ≤ length ranks
      n_ranks = enough_ranks n some n_ids

      -- the first ids are a majority exactly if as many of them as are needed are on the side
      side_counts : (config : List K) (side : Side) → IsSideOf eq config (keys_of es) side → (k : ℕ)
          → is_majority eq config (is_member eq (take k (take n ids)))
          ≡ nat_le side.need (count_by (λ r. get_or side.has.items r false) (take k (take n ranks)))
      side_counts config side s k =
          let ranks_fit = n_ranks in
          let lengths : length (take k (take n ids)) ≡ length (take k (take n ranks)) =
          omega (arith, length-take k (take n ids), length-take n ids, length-take k (take n ranks), length-take n ranks) in
          let counts = count_alike (λ x. list_any (λ y. eq y x) config) (λ r. get_or side.has.items r false) (take k (take n ids))
          (take k (take n ranks)) lengths
          (λ j d e l.
          let t = length-take k (take n ids) in
          let u = length-take n ids in
          let in_k : j < k = omega arith in
          let in_n : j < n = omega arith in
          let in_ids : j < length ids = omega arith in
          let in_ranks : j < length ranks = omega arith in
          let r = ranked j d d in_ids in
          let one = s.one_length in
          ap (λ x. list_any (λ y. eq y x) config) (get_or-take k (take n ids) j d in_k ∙ get_or-take n ids j d in_n)
          ∙ flipped laws (get_or ids j d) config
          ∙ is_member-alike laws (get_or ids j d) (get_or (keys_of es) (get_or ranks j 0) d) r.1 config
          ∙ sym (s.has (get_or ranks j 0) d r.0)
          ∙ ap (λ r. get_or side.has.items r false)
          (any_default ranks j 0 e in_ranks ∙ sym (get_or-take n ranks j e in_n) ∙ sym (get_or-take k (take n ranks) j e in_k))) in
          sym (majority_count laws (take k (take n ids)) config (IsDistinct-take laws k (take n ids) (IsDistinct-take laws n ids distinct)))
          ∙ ap (ltb (length config / 2)) counts
          ∙ at_need (length config / 2) (count_by (λ r. get_or side.has.items r false) (take k (take n ranks)))
          ∙ ap (λ need. nat_le need (count_by (λ r. get_or side.has.items r false) (take k (take n ranks)))) (sym s.need)

      module _ (quorum : (K → Bool) → Bool) (sides : Sides) (a : AreSidesOf eq quorum (keys_of es) sides) where
        both_count : (k : ℕ) → quorum (is_member eq (take k (take n ids)))
            ≡ (nat_le sides.first.need (count_by (λ r. get_or sides.first.has.items r false) (take k (take n ranks)))
            && nat_le sides.second.need (count_by (λ r. get_or sides.second.has.items r false) (take k (take n ranks))))
        both_count k = a.decides (is_member eq (take k (take n ids)))
            ∙ λ i. side_counts a.first_config sides.first a.first k i && side_counts a.second_config sides.second a.second k i

        -- a prefix of the voters is a quorum exactly if it is as long as the sides say
        pub sides_decide : {V : Type 0} (entries : List (K × V)) → keys_of entries ≡ ids → (len : ℕ)
            → ((k : ℕ) → k ≤ length (take n ranks)
            → (nat_le sides.first.need (count_by (λ r. get_or sides.first.has.items r false) (take k (take n ranks)))
            && nat_le sides.second.need (count_by (λ r. get_or sides.second.has.items r false) (take k (take n ranks)))) ≡ nat_le len k)
            → (k : ℕ) → prefix_test eq quorum (take n entries) k ≡ nat_le len (length (take k (take n entries)))
        sides_decide {V} entries same len counted k =
            let voters : List (K × V) = take n entries in
            let m : ℕ = length (take k voters) in
            let keys : keys_of (take k voters) ≡ take m (take n ids) =
            ap (λ (vs : List (K × V)). keys_of vs) (sym (take_own k voters)) ∙ keys_take laws m voters
            ∙ ap (take m) (keys_take laws n entries ∙ ap (take n) same) in
            let ranks_fit = n_ranks in
            let within : m ≤ length (take n ranks) =
            omega (arith, length-take k voters, length-take n entries, length-take n ranks, length-keys_of entries, ap length same) in
            ap (λ ks. quorum (is_member eq ks)) keys ∙ both_count m ∙ counted m within

  -- a quorum has as many ids as a majority of each config
  pub sides_least : (quorum : (K → Bool) → Bool) (ids : List K) (sides : Sides) → AreSidesOf eq quorum ids sides
      → QuorumsHaveAtLeast eq quorum (max sides.first.need sides.second.need)
  sides_least quorum ids sides a ks d h =
      let both : (is_majority eq a.first_config (is_member eq ks) && is_majority eq a.second_config (is_member eq ks)) ≡ true =
      sym (a.decides (is_member eq ks)) ∙ h in
      let f = majority_least laws a.first_config ks d (first_so _ _ both) in
      let s = majority_least laws a.second_config ks d (second_so (is_majority eq a.first_config (is_member eq ks)) _ both) in
      let m = a.first.need in
      let n = a.second.need in
      omega arith

  -- the ids of the positions are those of the entries
  pub known_ids : {V : Type 0} (es : List (K × ℕ)) (entries : List (K × V)) → AreAtPositions eq (keys_of entries) (position_in eq es)
      → (x : K) → is_member eq (keys_of es) x ≡ is_some (lookup (eq x) entries)
  known_ids es entries t x =
      sym (is_some-lookup (eq x) es) ∙ found_members (keys_of entries) (position_in eq es) t x ∙ sym (is_some-lookup (eq x) entries)

-- ---- two lists of the same ids, ascending

module _ {K : Type 0} {eq : K → K → Bool} {cmp : K → K → Ordering} (laws : IsEquivalence eq) (total : IsTotalOrder cmp)
    (ties : (x y : K) → eq x y ≡ eq_by_cmp cmp x y) where
  tied : (x y : K) → eq x y ≡ true → cmp x y ≡ Equal
  tied x y e = (Equal-is (cmp x y)).0 (sym (ties x y) ∙ e)

  apart : (x y : K) → cmp x y ≡ Less → eq y x ≡ false
  apart x y l = laws.symm y x ∙ ties x y ∙ ap is_eq l

  -- what is below each id of a list is below each member
  below_member : (y x : K) (ks : List K) → AllByRecursion (λ z. cmp y z ≡ Less) ks → is_member eq ks x ≡ true → cmp y x ≡ Less
  below_member y x [] a m = absurd (true≢false (sym m))
  below_member y x (z ∷ zs) a m = by (eq x z) refl m (below_member y x zs a.1)
    where
      by : (b : Bool) → eq x z ≡ b → (b || is_member eq zs x) ≡ true → (is_member eq zs x ≡ true → cmp y x ≡ Less) → cmp y x ≡ Less
      by true t h rest = alike_right total x z y (tied x z t) ∙ a.0
      by false t h rest = rest h

  first_alike : (x y : K) (xs ys : List K) → AllByRecursion (λ z. cmp x z ≡ Less) xs → AllByRecursion (λ z. cmp y z ≡ Less) ys
      → ((z : K) → is_member eq (x ∷ xs) z ≡ is_member eq (y ∷ ys) z) → eq x y ≡ true
  first_alike x y xs ys a b m = by (eq x y) refl
    where
      by : (c : Bool) → eq x y ≡ c → eq x y ≡ true
      by true t = t
      by false t =
          let up : (eq x y || is_member eq ys x) ≡ true = sym (m x) ∙ ap (λ c. c || is_member eq xs x) (laws.refl x) in
          let down : (eq y x || is_member eq xs y) ≡ true = m y ∙ ap (λ c. c || is_member eq ys y) (laws.refl y) in
          let below : cmp y x ≡ Less = below_member y x ys b (ap (λ c. c || is_member eq ys x) (sym t) ∙ up) in
          let above : cmp x y ≡ Less =
          below_member x y xs a (ap (λ c. c || is_member eq xs y) (sym (laws.symm y x ∙ t)) ∙ down) in
          let turned : cmp x y ≡ Greater = total.antisymm x y ∙ ap ordering_reverse below in
          cc

  rest_alike : (x y : K) (xs ys : List K) → AllByRecursion (λ z. cmp x z ≡ Less) xs → AllByRecursion (λ z. cmp y z ≡ Less) ys
      → ((z : K) → is_member eq (x ∷ xs) z ≡ is_member eq (y ∷ ys) z) → (z : K) → is_member eq xs z ≡ is_member eq ys z
  rest_alike x y xs ys a b m z = by (is_member eq xs z) (is_member eq ys z) refl refl (m z)
    where
      heads : eq z x ≡ eq z y
      heads = laws.symm z x ∙ laws.congr x y z (first_alike x y xs ys a b m) ∙ laws.symm y z

      by : (c d : Bool) → is_member eq xs z ≡ c → is_member eq ys z ≡ d → (eq z x || c) ≡ (eq z y || d) → c ≡ d
      by true true t u h = refl
      by false false t u h = refl
      by true false t u h =
          let out : eq z x ≡ false = apart x z (below_member x z xs a t) in
          sym (ap (λ e. e || true) out) ∙ h ∙ ap (λ e. e || false) (sym heads ∙ out)
      by false true t u h =
          let out : eq z y ≡ false = apart y z (below_member y z ys b u) in
          sym (ap (λ e. e || false) (heads ∙ out)) ∙ h ∙ ap (λ e. e || true) out

  same_ids : (xs ys : List K) → IsStrictlySortedBy cmp xs → IsStrictlySortedBy cmp ys
      → ((z : K) → is_member eq xs z ≡ is_member eq ys z)
      → (length xs ≡ length ys) × ((r : ℕ) (d : K) → r < length xs → eq (get_or xs r d) (get_or ys r d) ≡ true)
  unfolding IsStrictlySortedBy
  same_ids [] [] s t m = (refl, λ r d l. absurd (omega arith))
  same_ids [] (y ∷ ys) s t m = absurd (true≢false (ap (λ c. c || is_member eq ys y) (sym (laws.refl y)) ∙ sym (m y)))
  same_ids (x ∷ xs) [] s t m = absurd (true≢false (ap (λ c. c || is_member eq xs x) (sym (laws.refl x)) ∙ m x))
  same_ids (x ∷ xs) (y ∷ ys) s t m =
      let rest = same_ids xs ys s.1 t.1 (rest_alike x y xs ys s.0 t.0 m) in
      let one = rest.0 in
      (omega arith, λ r d l. by r d l rest.1)
    where
      by : (r : ℕ) (d : K) → r < length (x ∷ xs)
          → ((r : ℕ) (d : K) → r < length xs → eq (get_or xs r d) (get_or ys r d) ≡ true)
          → eq (get_or (x ∷ xs) r d) (get_or (y ∷ ys) r d) ≡ true
      by zero d l rest = first_alike x y xs ys s.0 t.0 m
      by (suc r) d l rest = rest r d (omega arith)

  -- a side is one of each list of the same ids
  pub side_alike : (config xs ys : List K) (side : Side) → IsStrictlySortedBy cmp xs → IsStrictlySortedBy cmp ys
      → ((z : K) → is_member eq xs z ≡ is_member eq ys z) → IsSideOf eq config xs side → IsSideOf eq config ys side
  side_alike config xs ys side s t m a =
      let same = same_ids xs ys s t m in
      let one = same.0 in
      let old = a.one_length in
      record {
        need = a.need;
        one_length = omega arith;
        has = λ r d l.
            let in_xs : r < length xs = omega arith in
            a.has r d in_xs ∙ is_member-alike laws (get_or xs r d) (get_or ys r d) (same.1 r d in_xs) config;
      }

-- ---- a membership with two configs

-- a list of two items
pub two_items : {X : Type 0} (xs : List X) (d e : X) → 2 ≤ length xs → length xs < 3 → d ≡ get_or xs 0 d → e ≡ get_or xs 1 e
    → xs ≡ d ∷ e ∷ []
two_items [] d e l m h k = absurd (omega arith)
two_items (x ∷ []) d e l m h k = absurd (omega arith)
two_items (x ∷ y ∷ []) d e l m h k = λ i. sym h i ∷ sym k i ∷ []
two_items (x ∷ y ∷ z ∷ zs) d e l m h k = absurd (omega arith)

-- two sides of some list of its ids are those of each
pub sides_of_two : {K N : Type 0} {eq : K → K → Bool} {cmp : K → K → Ordering} (laws : IsEquivalence eq) (total : IsTotalOrder cmp)
    → ((x y : K) → eq x y ≡ eq_by_cmp cmp x y) → (m : MemberList K N) (a b ids : List K) → m.configs ≡ a ∷ b ∷ []
    → AreKnownIds eq cmp m ids → (sides : Sides) → IsSideOf eq a ids sides.first → IsSideOf eq b ids sides.second
    → AreSidesOfMembers eq cmp m sides
sides_of_two {K} {N} {eq} {cmp} laws total ties m a b ids is known sides first second = record {
  two = ap length is;
  first = λ xs k.
      side_alike laws total ties (get_or m.configs 0 []) ids xs sides.first known.ascending k.ascending
      (λ z. known.known z ∙ sym (k.known z))
      (subst (λ (c : List K). IsSideOf eq c ids sides.first) (sym (ap (λ cs. get_or cs 0 []) is)) first);
  second = λ xs k.
      side_alike laws total ties (get_or m.configs 1 []) ids xs sides.second known.ascending k.ascending
      (λ z. known.known z ∙ sym (k.known z))
      (subst (λ (c : List K). IsSideOf eq c ids sides.second) (sym (ap (λ cs. get_or cs 1 []) is)) second);
}

all_of_two : {X : Type 0} (p : X → Bool) (xs : List X) (d : X) → length xs ≡ 2
    → list_all p xs ≡ (p (get_or xs 0 d) && p (get_or xs 1 d))
all_of_two p [] d e = absurd (omega arith)
all_of_two p (x ∷ []) d e = absurd (omega arith)
all_of_two p (x ∷ y ∷ []) d e = ap (λ b. p x && b) (and_true (p y))
all_of_two p (x ∷ y ∷ z ∷ zs) d e = absurd (omega arith)

-- the sides of a membership are those of its quorum set
pub sides_of_members : {K N : Type 0} (eq : K → K → Bool) (cmp : K → K → Ordering) (m : MemberList K N) (sides : Sides)
    → AreSidesOfMembers eq cmp m sides → (configs : Configs K) → HasConfigs (members_of cmp m) configs → (ids : List K)
    → AreKnownIds eq cmp m ids → AreSidesOf eq (has_quorum eq configs) ids sides
sides_of_members eq cmp m sides fit configs h ids known = record {
  first_config = get_or m.configs 0 [];
  second_config = get_or m.configs 1 [];
  first = fit.first ids known;
  second = fit.second ids known;
  decides = λ set. sym (list_all-map (λ ks. is_majority eq ks set) (λ q. q.items) configs.items)
      ∙ ap (list_all (λ ks. is_majority eq ks set)) h ∙ all_of_two (λ ks. is_majority eq ks set) m.configs [] fit.two;
}

-- and those of a ready progress
pub sides_ready : {K N V P : Type 0} {eq : K → K → Bool} (laws : IsEquivalence eq) (id_cmp : K → K → Ordering) (cmp : P → P → Ordering)
    (part : V → P) (t : TrackedView K N V P) → IsReady eq id_cmp cmp part t → (es : List (K × ℕ)) → IsStrictlySortedBy id_cmp (keys_of es)
    → AreAtPositions eq (keys_of t.progress.entries) (position_in eq es) → (sides : Sides) → AreSidesOfMembers eq id_cmp t.membership sides
    → AreSidesOf eq (has_quorum eq t.progress.quorum_set) (keys_of es) sides
sides_ready {eq = eq} laws id_cmp cmp part t ready es ascending tells sides fit =
    sides_of_members eq id_cmp t.membership sides fit t.progress.quorum_set ready.counts_by.configs (keys_of es)
    record {
      ascending = ascending;
      known = λ id. known_ids laws es t.progress.entries tells id ∙ ready.counts_by.known id;
    }
