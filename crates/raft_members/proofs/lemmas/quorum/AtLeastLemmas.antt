-- Quorums of a stated size: how they are counted, which lists of ids have the same ones, that two
-- of them share an id, and clones of their sets.
use Rattle.std.specs.Prelude.{◌≡◌, ◌&&◌, ℕ, ◌+◌, ◌-◌, ◌<◌, ◌≤◌, Bool, IsTrue, List, length, count_by, nat_eq}
use Rattle.std.proofs.Common.{arith, ap, subst, sym, ◌∙◌, leb, ltb}
use Rattle.std.proofs.lemmas.Bool.{leb-true, le-leb, lt-leb, ltb_from_iff}
use Rattle.std.proofs.lemmas.List.Sums.{length-filter, count_by-le-length}
use Rattle.std.specs.Cmp.{IsEquivalence, nat_eq_equiv}
use Rattle.std.specs.Cmp.Derive.{both_true}
use Rattle.std.specs.Cmp.Lexicographic.{lists_equiv, pointwise}
use Rattle.std.specs.List.{IsDistinct, filter, list_any}
use Rattle.std.specs.List.Sorted.{IsStrictlySortedBy}
use Rattle.std.specs.Ordering.{eq_by_cmp}
use Rattle.std.specs.Set.{distinct_count, is_member, unique_keys}
use Rattle.std.specs.declared.cmp.Ord as order_ghosts
use Rattle.std.specs.declared.cmp.Ordering.{Ordering}
use Rattle.std.specs.declared.cmp.PartialEq as eq_ghosts
use Rattle.std.specs.declared.cmp.PartialOrd as partial_ghosts
use Rattle.std.proofs.lemmas.Map.Keys.{IsDistinct-from_sorted}
use Rattle.std.proofs.lemmas.Map.Made.{is_member-filter, length-from_keys, length-from_same_keys}
use Rattle.raft_members.specs.quorum.AtLeast.{IsAlike, ids_of, need_of}
use Rattle.raft_members.specs.quorum.Majority.{has_at_least}
use Rattle.raft_members.specs.declared.quorum.at_least.AtLeast.{AtLeast}
use Rattle.raft_members.specs.quorum.Meeting.{AtLeastQuorumsMeet, NeedPastIdsHasNoQuorum, RespectsEquality, ShareMember}
use Rattle.raft_members.proofs.lemmas.quorum.MajorityLemmas.{IsDistinct-filter, IsDistinct-unique_keys, count_by-is_member, flipped, is_member-unique_keys}
use Rattle.raft_members.proofs.lemmas.quorum.MeetingLemmas.{shared}

-- comparing a count with one less
above : (k n : ℕ) → 1 ≤ k → ltb (k - 1) n ≡ leb k n
above k n p = sym (ltb_from_iff ((λ e. let l = leb-true _ _ e in omega arith), (λ l. le-leb _ _ (omega arith))))

share : (n a b k l : ℕ) → n < k + l → k ≤ a → l ≤ b → n < a + b
share n a b k l h i j = omega arith

module _ {K : Type 0} {eq : K → K → Bool} (laws : IsEquivalence eq) where
  -- distinct ids are a quorum if more than need - 1 of them are among the voters
  pub at_least_count : (ids voters : List K) (need : ℕ) → 1 ≤ need → IsDistinct eq ids
      → ltb (need - 1) (count_by (λ x. list_any (λ y. eq y x) voters) ids) ≡ has_at_least eq voters need (is_member eq ids)
  at_least_count ids voters need p d =
      above need _ p ∙ ap (λ n. leb need n) (count_same ids ∙ count_by-is_member laws ids voters d)
    where
      count_same : (zs : List K) → count_by (λ x. list_any (λ y. eq y x) voters) zs ≡ count_by (λ x. is_member eq voters x) zs
      count_same zs = simp (flipped laws)

  pub at_least_meet : AtLeastQuorumsMeet eq
  at_least_meet ids need other s t n hs ht =
      let u = unique_keys eq ids in
      let a : need ≤ length (filter s u) = rw length-filter (leb-true need (count_by s u) hs) in
      let b : other ≤ length (filter t u) = rw length-filter (leb-true other (count_by t u) ht) in
      let m : ShareMember eq u s t = shared laws s t u (share (length u) (length (filter s u)) (length (filter t u)) need other n a b) in
      (m.0, sym (is_member-unique_keys laws ids m.0) ∙ m.1, m.2, m.3)

module _ {K : Type 0} {eq : K → K → Bool} (laws : IsEquivalence eq) (kept given : List K)
    (same : (x : K) → is_member eq kept x ≡ is_member eq given x) where
  -- an ascending list has as many ids as any list of the same ids, if equal ones count once
  pub ascending_count : (cmp : K → K → Ordering) → ((x y : K) → eq x y ≡ eq_by_cmp cmp x y) → IsStrictlySortedBy cmp kept
      → length kept ≡ distinct_count eq given
  ascending_count cmp ties ascending =
      length-from_keys laws kept given (subst (λ (e : K → K → Bool). IsDistinct e kept) (λ i x y. sym (ties x y) i)
      (IsDistinct-from_sorted cmp kept ascending)) same

  -- two lists of the same ids have the same quorums, in any order and with any repetitions
  pub same_quorums : (need : ℕ) (set : K → Bool) → RespectsEquality eq set → has_at_least eq kept need set ≡ has_at_least eq given need set
  same_quorums need set respects = ap (λ n. leb need n)
      (sym (length-filter set (unique_keys eq kept))
      ∙ length-from_same_keys laws (chosen kept) (chosen given) (distinct kept) (distinct given)
      (λ x. has kept x ∙ ap (λ b. b && set x) (same x) ∙ sym (has given x)) ∙ length-filter set (unique_keys eq given))
    where
      chosen : List K → List K
      chosen ids = filter set (unique_keys eq ids)

      distinct : (ids : List K) → IsDistinct eq (chosen ids)
      distinct ids = IsDistinct-filter laws set (unique_keys eq ids) (IsDistinct-unique_keys laws ids)

      has : (ids : List K) (x : K) → is_member eq (chosen ids) x ≡ (is_member eq ids x && set x)
      has ids x = is_member-filter laws set x (respects x) (unique_keys eq ids) ∙ ap (λ b. b && set x) (is_member-unique_keys laws ids x)

pub past_ids : {K : Type 0} (eq : K → K → Bool) → NeedPastIdsHasNoQuorum eq
past_ids eq ids need s n = lt-leb _ _ (omega (arith, count_by-le-length s (unique_keys eq ids)))

-- a clone of a quorum set of a stated size is equal to it
pub at_least_clones : {K : Type 0} {o : order_ghosts.Ghosts K} {e : eq_ghosts.Ghosts K} {q : partial_ghosts.Ghosts K} {eq : K → K → Bool}
    → IsEquivalence eq → (a b : AtLeast K o e q) → IsAlike a b
    → IsTrue (pointwise eq (ids_of a) (ids_of b) && nat_eq (need_of a) (need_of b))
at_least_clones {eq = eq} laws a b h =
    both_true
    (subst (λ ids. IsTrue (pointwise eq (ids_of a) ids)) (sym h.0) ((lists_equiv laws).refl (ids_of a)))
    (subst (λ n. IsTrue (nat_eq (need_of a) n)) (sym h.1) (nat_eq_equiv.refl (need_of a)))
