-- Voters that are counted in place of a quorum test.
use Rattle.std.specs.Prelude.{◌≡◌, ℕ, ◌+◌, ◌-◌, ◌^◌, ◌<◌, ◌≤◌, Bool, true, false, ◌||◌, None, Some, List, [], ◌∷◌, length, max, nat_le, position, take}
use Rattle.std.specs.declared.cmp.Ordering.{Ordering}
use Rattle.std.specs.Cmp.{IsEquivalence, IsTotalOrder}
use Rattle.std.specs.Ordering.{is_lt}
use Rattle.std.specs.Set.{is_member}
use Rattle.std.specs.List.{IsDistinct, prefix_len}
use Rattle.std.specs.Map.{keys_of, lookup, set_value}
use Rattle.std.proofs.Common.{ap, arith, refl, subst, suc, sym, zero, get_or, set, ◌∙◌}
use Rattle.std.proofs.lemmas.Bool.Decides.{nat_tests}
use Rattle.std.proofs.lemmas.List.{length-take}
use Rattle.std.proofs.lemmas.Map.Entries.{length-keys_of}
use Rattle.raft_members.specs.quorum.QuorumSize.{SizeDecides}
use Rattle.raft_progress.specs.Inner.Recount.{exceeds, prefix_test}
use Rattle.raft_progress.specs.Inner.Settled.{CanCount, CanCountOnceRisen, FindsGranted}
use Rattle.raft_progress.specs.progress.CountedValue.{AtMost}
use Rattle.raft_progress.specs.progress.Entries.{IsFalling}
use Rattle.raft_progress.specs.progress.InOrder.{AreEntriesInOrder}
use Rattle.raft_progress.specs.progress.ProgressView.{ProgressView}
use Rattle.raft_progress.specs.progress.Statistics.{count_after}
use Rattle.raft_progress.proofs.lemmas.OrderLemmas.{lt_le}
use Rattle.raft_progress.proofs.lemmas.progress.SettledLemmas as settles
use Rattle.raft_progress.proofs.lemmas.progress.UpdateLemmas.{IsDistinct-voters, keys_take, lookup_written, same_keys}
use Rattle.raft_progress.proofs.lemmas.progress.entries.FallingLemmas.{in_prefix}

-- a member of the first items is a member of all
member_of_take : {ID : Type 0} (eq : ID → ID → Bool) (k : ℕ) (ks : List ID) (x : ID) → is_member eq (take k ks) x ≡ true
    → is_member eq ks x ≡ true
member_of_take eq zero ks x m = cc
member_of_take eq (suc k) [] x m = m
member_of_take {ID} eq (suc k) (y ∷ ks) x m = by (eq x y) m (member_of_take eq k ks x)
  where
    by : (b : Bool) → (b || is_member eq (take k ks) x) ≡ true
        → (is_member eq (take k ks) x ≡ true → is_member eq ks x ≡ true) → (b || is_member eq ks x) ≡ true
    by true h r = refl
    by false h r = r h

-- a prefix of voters is a quorum exactly if it has as many voters as decide
pub decided_by_size : {ID V P QS : Type 0} {eq : ID → ID → Bool} (laws : IsEquivalence eq) {cmp : P → P → Ordering} {part : V → P}
    (has_quorum : QS → (ID → Bool) → Bool) (is_voter : QS → ID → Bool) (old : ProgressView ID V P QS)
    → IsDistinct eq (keys_of (take old.voter_count old.entries)) → CanCount eq cmp part is_voter old → (size : ℕ)
    → SizeDecides eq (has_quorum old.quorum_set) (is_voter old.quorum_set) size → (k : ℕ)
    → prefix_test eq (has_quorum old.quorum_set) (take old.voter_count old.entries) k
    ≡ nat_le size (length (take k (take old.voter_count old.entries)))
decided_by_size {ID} {V} {eq = eq} laws has_quorum is_voter old distinct can size decides k =
    let voters : List (ID × V) = take old.voter_count old.entries in
    decides (keys_of (take k voters)) (IsDistinct-voters laws k voters distinct)
    (λ x m. can.voters x
    (subst (λ (ks : List ID). is_member eq ks x ≡ true) (keys_take laws old.voter_count old.entries)
    (member_of_take eq k (keys_of voters) x (subst (λ (ks : List ID). is_member eq ks x ≡ true) (keys_take laws k voters) m))))
    ∙ ap (nat_le size) (length-keys_of (take k voters))

module _ {ID V P QS : Type 0} (eq : ID → ID → Bool) {cmp : P → P → Ordering} (o : IsTotalOrder cmp) (part : V → P)
    (has_quorum : QS → (ID → Bool) → Bool) (old : ProgressView ID V P QS)
    (falling : IsFalling cmp part old.granted (take old.voter_count old.entries)) (size : ℕ)
    (decided : (k : ℕ) → prefix_test eq (has_quorum old.quorum_set) (take old.voter_count old.entries) k
    ≡ nat_le size (length (take k (take old.voter_count old.entries)))) (position last : ℕ)
    (is : last ≡ max (size - 1) position) where
  abbrev voters : List (ID × V)
  voters = take old.voter_count old.entries

  fails : (k : ℕ) → k < size → prefix_test eq (has_quorum old.quorum_set) voters k ≡ false
  fails k l = let n = length-take k voters in let d = decided k in grind (arith, nat_tests)

  some_digit : (k : ℕ) → 0 < length voters → length voters < 2 ^ k → 1 ≤ k
  some_digit zero some l = absurd (omega arith)
  some_digit (suc k) some l = omega arith

  -- no prefix that is long enough has only parts that exceed granted
  pub none_granted : prefix_len (exceeds cmp part old.granted) voters ≤ last → 0 < length voters → (tests n : ℕ) → tests ≤ 1
      → n ≡ count_after old.stat.is_quorum_count tests
      → FindsGranted eq cmp part has_quorum old position (record old { stat = record old.stat { is_quorum_count = n } })
  none_granted ends some tests n one counted = record {
    kept = record { quorum_set = refl; voter_count = refl; default_part = refl; updates = refl };
    same_progress_entries = refl;
    moves = refl;
    found = None;
    tests = tests;
    shortest = record {
      none = λ e k l m. fails k (omega arith);
      above = λ k e. cc;
      within = λ k e. cc;
      holds = λ k e. cc;
      least = λ k l e. cc;
      tested = λ k e. cc;
      few = λ k l. let d = some_digit k some l in omega arith;
    };
    counts = counted;
    stays = λ e. refl;
    rises = λ k e. cc;
  }

  -- the part of the last of so many voters exceeds granted, and is granted
  module _ (within : last < length voters) (e : ID × V) (at : e ≡ get_or voters last e)
      (leads : is_lt (cmp old.granted (part e.1)) ≡ true) where
    long : last < prefix_len (exceeds cmp part old.granted) voters
    long = in_prefix o part old.granted (λ p. is_lt (cmp old.granted p)) (λ a b h k. lt_le o old.granted a b h k) (λ a h. h) voters
        falling last e within (subst (λ (f : ID × V). is_lt (cmp old.granted (part f.1)) ≡ true) at leads)

    passes : prefix_test eq (has_quorum old.quorum_set) voters (last + 1) ≡ true
    passes = let n = length-take (last + 1) voters in let d = decided (last + 1) in grind (arith, nat_tests)

    pub last_granted : (g : P) → g ≡ part e.1 → (n : ℕ) → n ≡ count_after old.stat.is_quorum_count 1
        → FindsGranted eq cmp part has_quorum old position
        (record old { granted = g; stat = record old.stat { is_quorum_count = n } })
    last_granted g granted n counted = record {
      kept = record { quorum_set = refl; voter_count = refl; default_part = refl; updates = refl };
      same_progress_entries = refl;
      moves = refl;
      found = Some (last + 1);
      tests = 1;
      shortest = record {
        none = λ e. cc;
        above = λ k e. let here : last + 1 ≡ k = cc in omega arith;
        within = λ k e. let here : last + 1 ≡ k = cc in let far = long in omega arith;
        holds = λ k e. let here : last + 1 ≡ k = cc
            in subst (λ (n : ℕ). prefix_test eq (has_quorum old.quorum_set) voters n ≡ true) here passes;
        least = λ k l e m n. let here : last + 1 ≡ k = cc in fails l (omega arith);
        tested = λ k e. omega arith;
        few = λ k l. some_digit k (omega arith) l;
      };
      counts = counted;
      stays = λ e. cc;
      rises = λ k h.
          let here : last + 1 ≡ k = cc in
          let place : last ≡ k - 1 = omega arith in
          (e, subst (λ (j : ℕ). e ≡ get_or voters j e) place at, granted);
    }

-- the value of an id is written, and not yet moved up
module _ {ID V P QS : Type 0} {eq : ID → ID → Bool} (laws : IsEquivalence eq) {cmp : P → P → Ordering} (o : IsTotalOrder cmp) (part : V → P)
    (has_quorum : QS → (ID → Bool) → Bool) (superset : (qs : QS) (s t : ID → Bool) → ((x : ID) → s x ≡ true → t x ≡ true)
    → has_quorum qs s ≡ true → has_quorum qs t ≡ true) (is_voter : QS → ID → Bool) (mid : ProgressView ID V P QS) (ws : List (ID × V))
    (r : AreEntriesInOrder eq cmp part has_quorum mid.quorum_set ws mid.voter_count mid.default_part mid.granted) (id : ID) (i : ℕ)
    (e0 : ID × V) (at : position (λ (f : ID × V). eq id f.0) ws ≡ Some i) (is : e0 ≡ get_or ws i e0) (w : V)
    (up : AtMost cmp (part e0.1) (part w)) (next_is : mid.entries ≡ set ws i (e0.0, w)) (was : lookup (eq id) ws ≡ Some e0.1)
    (wrote : mid.entries ≡ set_value (eq id) ws w)
    (of_set : (x : ID) → is_member eq (take mid.voter_count (keys_of ws)) x ≡ true → is_voter mid.quorum_set x ≡ true) where
  -- once it has moved up, voters can be counted
  pub counts_once_risen : CanCountOnceRisen eq cmp part is_voter mid i (part w)
  counts_once_risen voter high to new risen = record {
    voters = λ x m.
        subst (λ (qs : QS). is_voter qs x ≡ true) (sym risen.kept.quorum_set)
        (of_set x (sym (settles.voters_to laws o part has_quorum mid.quorum_set (superset mid.quorum_set) mid.default_part mid.voter_count
        ws mid.granted r id i e0 at is w up mid.entries next_is (same_keys laws ws mid.entries id e0.1 w was wrote)
        (lookup_written laws ws mid.entries id e0.1 w was wrote) was voter high new.entries to risen.rises x)
        ∙ subst (λ (n : ℕ). is_member eq (take n (keys_of new.entries)) x ≡ true) risen.kept.voter_count m));
    falling =
        subst (λ (g : P). IsFalling cmp part g (take new.voter_count new.entries)) (sym risen.granted)
        (subst (λ (n : ℕ). IsFalling cmp part mid.granted (take n new.entries)) (sym risen.kept.voter_count)
        (settles.falling_to laws o part has_quorum mid.quorum_set (superset mid.quorum_set) mid.default_part mid.voter_count ws mid.granted
        r id i e0 at is w up mid.entries next_is (same_keys laws ws mid.entries id e0.1 w was wrote)
        (lookup_written laws ws mid.entries id e0.1 w was wrote) was voter high new.entries to risen.rises));
  }
