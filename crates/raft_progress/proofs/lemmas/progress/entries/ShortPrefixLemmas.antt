-- Prefixes that are too short to be a quorum need no test.
use Rattle.std.specs.Prelude.{◌≡◌, ℕ, ◌+◌, ◌-◌, ◌^◌, ◌<◌, ◌≤◌, Bool, true, false, cond, None, Some, List, [], ◌∷◌, max, slice_get, take}
use Rattle.std.specs.Bool.{then_some}
use Rattle.std.specs.declared.cmp.Ordering.{Ordering}
use Rattle.std.specs.Cmp.{IsEquivalence}
use Rattle.std.specs.Ordering.{is_lt}
use Rattle.std.specs.Set.{is_member}
use Rattle.std.specs.List.{IsDistinct, prefix_len}
use Rattle.std.specs.Map.{keys_of}
use Rattle.std.proofs.Common.{ap, arith, refl, subst, suc, sym, zero, get_or, ltb, ltb-true, ltb-false, ◌∙◌}
use Rattle.std.proofs.lemmas.Map.Entries.{length-keys_of}
use Rattle.raft_members.specs.quorum.QuorumSize.{QuorumsHaveAtLeast}
use Rattle.raft_progress.specs.Inner.Recount.{exceeds, prefix_test}
use Rattle.raft_progress.specs.Inner.Rises.{IsShortestPrefix}
use Rattle.raft_progress.specs.Inner.Settled.{FindsGranted, KeptByStep}
use Rattle.raft_progress.specs.progress.ProgressView.{ProgressView}
use Rattle.raft_progress.specs.progress.Statistics.{count_after}
use Rattle.raft_progress.proofs.lemmas.progress.UpdateLemmas.{IsDistinct-voters}
use Rattle.raft_progress.proofs.lemmas.ListLemmas.{length_take_le, some_inside}
use Rattle.raft_progress.proofs.lemmas.progress.entries.PrefixLemmas.{single_prefix}

-- entries that pass a test lead up to one that doesn't at most
pub lead_ends : {X : Type 0} (p : X → Bool) (xs : List X) (n : ℕ) (d : X) → p (get_or xs n d) ≡ false → prefix_len p xs ≤ n
lead_ends p [] n d fails = omega arith
lead_ends {X} p (x ∷ xs) zero d fails = by (p x) fails
  where
    by : (b : Bool) → b ≡ false → cond b (1 + prefix_len p xs) 0 ≤ 0
    by false f = omega arith
    by true f = cc
lead_ends {X} p (x ∷ xs) (suc n) d fails = by (p x) (lead_ends p xs n d fails)
  where
    by : (b : Bool) → prefix_len p xs ≤ n → cond b (1 + prefix_len p xs) 0 ≤ suc n
    by false h = omega arith
    by true h = omega arith

module _ {ID V P QS : Type 0} {eq : ID → ID → Bool} (laws : IsEquivalence eq) (cmp : P → P → Ordering) (part : V → P)
    (has_quorum : QS → (ID → Bool) → Bool) (old : ProgressView ID V P QS)
    (distinct : IsDistinct eq (keys_of (take old.voter_count old.entries)))
    (size : ℕ) (least : QuorumsHaveAtLeast eq (has_quorum old.quorum_set) size) (position low : ℕ)
    (is : low ≡ max (size - 1) position) where
  -- a prefix with fewer ids than each quorum is none
  short_fails : (k : ℕ) → k < size → prefix_test eq (has_quorum old.quorum_set) (take old.voter_count old.entries) k ≡ false
  short_fails k l = by (prefix_test eq (has_quorum old.quorum_set) voters k) refl
    where
      voters : List (ID × V)
      voters = take old.voter_count old.entries

      by : (b : Bool) → prefix_test eq (has_quorum old.quorum_set) voters k ≡ b → b ≡ false
      by false e = refl
      by true e =
          let h = least (keys_of (take k voters)) (IsDistinct-voters laws k voters distinct) e in
          absurd (omega (arith, length-keys_of (take k voters), length_take_le voters k))

  -- what is granted past `low` is granted past the position
  pub finds_granted_past : (new : ProgressView ID V P QS) → FindsGranted eq cmp part has_quorum old low new
      → FindsGranted eq cmp part has_quorum old position new
  finds_granted_past new s = record {
    kept = s.kept;
    same_progress_entries = s.same_progress_entries;
    moves = s.moves;
    found = s.found;
    tests = s.tests;
    shortest = record {
      none = λ e k l m. by k l (s.shortest.none e k) (λ n. m) (ltb low k) refl;
      above = λ k e. let h = s.shortest.above k e in omega arith;
      within = s.shortest.within;
      holds = s.shortest.holds;
      least = λ k l e m n. by l m (s.shortest.least k l e) (λ h. n) (ltb low l) refl;
      tested = s.shortest.tested;
      few = s.shortest.few;
    };
    counts = s.counts;
    stays = s.stays;
    rises = s.rises;
  }
    where
      by : {Q : Type 0} (k : ℕ) → position < k
          → (low < k → Q → prefix_test eq (has_quorum old.quorum_set) (take old.voter_count old.entries) k ≡ false) → (low < k → Q)
          → (b : Bool)
          → ltb low k ≡ b → prefix_test eq (has_quorum old.quorum_set) (take old.voter_count old.entries) k ≡ false
      by k l h q true t = h (ltb-true low k t) (q (ltb-true low k t))
      by k l h q false t = let m = ltb-false low k t in short_fails k (omega arith)

  -- if no prefix past `low` has only parts that exceed granted, none past the position is a quorum
  pub finds_no_granted : prefix_len (exceeds cmp part old.granted) (take old.voter_count old.entries) ≤ low
      → old.stat.is_quorum_count < 2 ^ 64
      → FindsGranted eq cmp part has_quorum old position old
  finds_no_granted ends fits = record {
    kept = record { quorum_set = refl; voter_count = refl; default_part = refl; updates = refl };
    same_progress_entries = refl;
    moves = refl;
    found = None;
    tests = 0;
    shortest = record {
      none = λ e k l m. short_fails k (omega arith);
      above = λ k e. cc;
      within = λ k e. cc;
      holds = λ k e. cc;
      least = λ k l e. cc;
      tested = λ k e. cc;
      few = λ k l. omega arith;
    };
    counts = omega arith;
    stays = λ e. refl;
    rises = λ k e. cc;
  }

-- granted is found by one test of the only voter
module _ {ID V P QS : Type 0} (eq : ID → ID → Bool) (cmp : P → P → Ordering) (part : V → P) (has_quorum : QS → (ID → Bool) → Bool)
    (old new : ProgressView ID V P QS) (only : old.voter_count ≡ 1) (e : ID × V) (at : slice_get old.entries 0 ≡ Some e)
    (leads : is_lt (cmp old.granted (part e.1)) ≡ true) (passed : Bool)
    (tells : IsDistinct eq (e.0 ∷ []) → passed ≡ has_quorum old.quorum_set (is_member eq (e.0 ∷ []))) where
  first_alone : (ws : List (ID × V)) → slice_get ws 0 ≡ Some e → take 1 ws ≡ e ∷ []
  first_alone [] h = cc
  first_alone (f ∷ fs) h = ap (λ g. g ∷ []) (some_inside f e h)

  voters_are : take old.voter_count old.entries ≡ e ∷ []
  voters_are = ap (λ n. take n old.entries) only ∙ first_alone old.entries at

  alone : IsDistinct eq (e.0 ∷ [])
  unfolding IsDistinct
  alone = (tt, tt)

  tested : IsShortestPrefix eq (has_quorum old.quorum_set) (take old.voter_count old.entries) 0
      (prefix_len (exceeds cmp part old.granted) (take old.voter_count old.entries)) (then_some {T = ℕ} passed 1) 1
  tested =
      subst (λ (vs : List (ID × V)). IsShortestPrefix eq (has_quorum old.quorum_set) vs 0 (prefix_len (exceeds cmp part old.granted) vs)
      (then_some {T = ℕ} passed 1) 1) (sym voters_are)
      (rw leads (single_prefix eq (has_quorum old.quorum_set) (e ∷ []) 0 1 refl (omega arith) passed (tells alone)))

  pub only_voter_granted : KeptByStep old new → new.entries ≡ old.entries → new.stat.move_count ≡ old.stat.move_count
      → new.stat.is_quorum_count ≡ count_after old.stat.is_quorum_count 1 → (passed ≡ false → new.granted ≡ old.granted)
      → (passed ≡ true → new.granted ≡ part e.1) → FindsGranted eq cmp part has_quorum old 0 new
  only_voter_granted kept entries moves counts stays rises = record {
    kept = kept;
    same_progress_entries = entries;
    moves = moves;
    found = then_some {T = ℕ} passed 1;
    tests = 1;
    shortest = tested;
    counts = counts;
    stays = λ none. by_none passed stays none;
    rises = λ k some. let h = by_some passed rises k some in (
      e,
      ap (λ n. get_or (e ∷ []) n e) (sym h.0) ∙ ap (λ (vs : List (ID × V)). get_or vs (k - 1) e) (sym voters_are),
      h.1,
    );
  }
    where
      by_none : (b : Bool) → (b ≡ false → new.granted ≡ old.granted) → then_some {T = ℕ} b 1 ≡ None → new.granted ≡ old.granted
      by_none true f h = cc
      by_none false f h = f refl

      by_some : (b : Bool) → (b ≡ true → new.granted ≡ part e.1) → (k : ℕ) → then_some {T = ℕ} b 1 ≡ Some k
          → (k - 1 ≡ 0) × (new.granted ≡ part e.1)
      by_some true f k h = let same : 1 ≡ k = cc in (omega arith, f refl)
      by_some false f k h = cc
