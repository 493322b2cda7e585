-- What an update comes to, from what its steps do.
use Rattle.std.specs.Prelude.{◌≡◌, ℕ, ◌-◌, ◌<◌, ◌≤◌, ◌^◌, Bool, true, false, cond, ◌&&◌, ◌||◌, nat_lt, List, [], ◌∷◌, length, take, Option, Some, None, position}
use Rattle.std.specs.Ordering.{is_le, is_lt}
use Rattle.std.specs.declared.cmp.Ordering.{Ordering}
use Rattle.std.specs.Cmp.{IsEquivalence, IsTotalOrder}
use Rattle.std.specs.Map.{keys_of, lookup, set_value}
use Rattle.std.specs.Set.{is_member}
use Rattle.std.specs.List.{prefix_len, list_any}
use Rattle.std.proofs.Common.{arith, sym, ap, refl, ◌∙◌, true≢false, get_or, set, subst, suc, zero, ltb, ltb-true, ltb-false, lt-ltb}
use Rattle.std.proofs.lemmas.Cmp.{tied_itself}
use Rattle.std.proofs.lemmas.List.{get_or-set_same}
use Rattle.std.proofs.lemmas.List.Quantifiers.{position-Some}
use Rattle.std.proofs.lemmas.List.Sums.{prefix_len_passes}
use Rattle.raft_progress.specs.progress.CountedValue.{AtMost}
use Rattle.raft_progress.specs.progress.InOrder.{IsInOrder, AreEntriesInOrder}
use Rattle.raft_progress.specs.Inner.Recount.{exceeds}
use Rattle.raft_progress.specs.Inner.Rises.{IsShortestPrefix}
use Rattle.raft_progress.specs.Inner.Settled.{FindsGranted, IsPutInOrder, IsRaised, KeptByStep}
use Rattle.raft_progress.specs.progress.ProgressState.{Writes}
use Rattle.raft_progress.specs.progress.ProgressView.{ProgressView, state}
use Rattle.raft_progress.specs.progress.Statistics.{count_after}
use Rattle.raft_progress.specs.progress.Entries.{entries_after_rise, state_of}
use Rattle.raft_progress.proofs.lemmas.OrderLemmas.{AtMost-from_lt, AtMost-from_not_lt, AtMost-refl}
use Rattle.raft_progress.proofs.lemmas.progress.entries.MovedLemmas.{is_risen}
use Rattle.raft_progress.proofs.lemmas.progress.SettledLemmas as settles
use Rattle.raft_progress.proofs.lemmas.progress.UpdateLemmas.{same_keys, lookup_written, writes}
use Rattle.raft_progress.proofs.lemmas.ListLemmas.{of_both, length_take_le}
use Rattle.raft_progress.proofs.lemmas.progress.StatisticsLemmas.{counted_none}

-- an id's value went from v to w; the entries were ws, and in mid it is written
pub record Outcome {ID V P QS : Type 0} (eq : ID → ID → Bool) (cmp : P → P → Ordering) (part : V → P) (has_quorum : QS → (ID → Bool) → Bool)
    (mid : ProgressView ID V P QS) (ws : List (ID × V)) (id : ID) (v w : V) (new : ProgressView ID V P QS) : Type 0 where
  pub ordered : IsInOrder eq cmp part has_quorum new
  pub written : Writes eq (state_of eq mid.quorum_set ws mid.voter_count mid.default_part) id w (state eq new)
  pub voter_count : new.voter_count ≡ mid.voter_count
  pub updates : new.stat.update_count ≡ mid.stat.update_count
  pub monotone : AtMost cmp mid.granted new.granted
  pub rises : (is_member eq (take mid.voter_count (keys_of ws)) id && (is_lt (cmp (part v) (part w)) && is_lt (cmp mid.granted (part w))))
      ≡ true → (new.entries ≡ entries_after_rise cmp part (eq id) [] (set_value (eq id) ws w))
      × (new.stat.move_count ≡ count_after mid.stat.move_count 1)
  pub stays : (is_member eq (take mid.voter_count (keys_of ws)) id && (is_lt (cmp (part v) (part w)) && is_lt (cmp mid.granted (part w))))
      ≡ false → (new.entries ≡ set_value (eq id) ws w) × (new.stat.move_count ≡ mid.stat.move_count)
  pub tests : ℕ
  pub counts_tests : new.stat.is_quorum_count ≡ count_after mid.stat.is_quorum_count tests
  pub few_tests : (k : ℕ) → mid.voter_count < 2 ^ k → tests ≤ k
  pub tested_to_rise : is_lt (cmp mid.granted new.granted) ≡ true → 1 ≤ tests
  pub not_tested : (is_member eq (take mid.voter_count (keys_of ws)) id
      && (is_le (cmp (part v) mid.granted) && is_lt (cmp mid.granted (part w)))) ≡ false → (tests ≡ 0) × (new.granted ≡ mid.granted)

pub some_before : {ID V : Type 0} (eq : ID → Bool) (es : List (ID × V)) (n i : ℕ) (d : ID × V) → i < n → i < length es
    → eq (get_or es i d).0 ≡ true → list_any eq (take n (keys_of es)) ≡ true
some_before eq es zero i d l m h = absurd (omega arith)
some_before eq [] (suc n) i d l m h = absurd (omega arith)
some_before eq (e ∷ es) (suc n) zero d l m h = rw h refl
some_before eq (e ∷ es) (suc n) (suc i) d l m h = rw (some_before eq es n i d (omega arith) (omega arith) h) (or_true (eq e.0))
  where
    or_true : (b : Bool) → (b || true) ≡ true
    or_true true = refl
    or_true false = refl

order_alike : {ID V P QS : Type 0} (eq : ID → ID → Bool) (cmp : P → P → Ordering) (part : V → P) (hq : QS → (ID → Bool) → Bool)
    (qs qs' : QS) (ws : List (ID × V)) (n n' : ℕ) (d d' g g' : P) → qs' ≡ qs → n' ≡ n → d' ≡ d → g' ≡ g
    → AreEntriesInOrder eq cmp part hq qs ws n d g → AreEntriesInOrder eq cmp part hq qs' ws n' d' g'
order_alike {ID} {V} {P} {QS} eq cmp part hq qs qs' ws n n' d d' g g' a b c f r =
    subst (λ (x : QS). AreEntriesInOrder eq cmp part hq x ws n' d' g') (sym a)
    (subst (λ (x : ℕ). AreEntriesInOrder eq cmp part hq qs ws x d' g') (sym b)
    (subst (λ (x : P). AreEntriesInOrder eq cmp part hq qs ws n x g') (sym c)
    (subst (λ (x : P). AreEntriesInOrder eq cmp part hq qs ws n d x) (sym f) r)))

module _ {ID V P QS : Type 0} {eq : ID → ID → Bool} (laws : IsEquivalence eq) {cmp : P → P → Ordering} (o : IsTotalOrder cmp) (part : V → P)
    (has_quorum : QS → (ID → Bool) → Bool) (superset : (qs : QS) (s t : ID → Bool) → ((x : ID) → s x ≡ true → t x ≡ true)
    → has_quorum qs s ≡ true → has_quorum qs t ≡ true) (mid new : ProgressView ID V P QS) (ws : List (ID × V))
    (r : AreEntriesInOrder eq cmp part has_quorum mid.quorum_set ws mid.voter_count mid.default_part mid.granted) (id : ID) (i : ℕ)
    (e0 : ID × V) (at : position (λ (f : ID × V). eq id f.0) ws ≡ Some i) (is : e0 ≡ get_or ws i e0) (w : V)
    (up : AtMost cmp (part e0.1) (part w)) (next_is : mid.entries ≡ set ws i (e0.0, w)) (was : lookup (eq id) ws ≡ Some e0.1)
    (wrote : mid.entries ≡ set_value (eq id) ws w) (before : P) (before_is : before ≡ part e0.1) (fits : mid.stat.is_quorum_count < 2 ^ 64)
    (put : IsPutInOrder eq cmp part has_quorum mid i before new) where
  place : (i < length ws) × (eq id (get_or ws i e0).0 ≡ true) × ((k : ℕ) → k < i → eq id (get_or ws k e0).0 ≡ false)
  place = position-Some (λ (f : ID × V). eq id f.0) ws i e0 at

  member_is : is_member eq (take mid.voter_count (keys_of ws)) id ≡ nat_lt i mid.voter_count
  member_is = by (ltb i mid.voter_count) refl
    where
      by : (b : Bool) → ltb i mid.voter_count ≡ b → is_member eq (take mid.voter_count (keys_of ws)) id ≡ b
      by true t = some_before (eq id) ws mid.voter_count i e0 (ltb-true i mid.voter_count t) place.0 place.1
      by false t = let l = ltb-false i mid.voter_count t in
          settles.none_before (eq id) ws mid.voter_count e0 (λ k a b. place.2 k (omega arith))

  entry_is : put.entry ≡ (e0.0, w)
  entry_is = put.at ∙ ap (λ xs. get_or xs i put.entry) next_is ∙ get_or-set_same ws i (e0.0, w) put.entry place.0

  abbrev raises : Bool
  raises = is_member eq (take mid.voter_count (keys_of ws)) id && (is_lt (cmp (part e0.1) (part w)) && is_lt (cmp mid.granted (part w)))

  raises_is : raises ≡ (nat_lt i mid.voter_count && (is_lt (cmp before (part put.entry.1)) && is_lt (cmp mid.granted (part put.entry.1))))
  raises_is =
      ap (λ b. b && (is_lt (cmp (part e0.1) (part w)) && is_lt (cmp mid.granted (part w)))) member_is
      ∙ ap (λ (x : P). nat_lt i mid.voter_count && (is_lt (cmp x (part w)) && is_lt (cmp mid.granted (part w)))) (sym before_is)
      ∙ ap (λ (f : ID × V). nat_lt i mid.voter_count && (is_lt (cmp before (part f.1)) && is_lt (cmp mid.granted (part f.1))))
      (sym entry_is)

  keys_same : keys_of mid.entries ≡ keys_of ws
  keys_same = same_keys laws ws mid.entries id e0.1 w was wrote

  value_written : (x : ID) → lookup (eq x) mid.entries ≡ cond (eq id x) (Some w) (lookup (eq x) ws)
  value_written = lookup_written laws ws mid.entries id e0.1 w was wrote

  -- nothing moves
  kept_outcome : raises ≡ false → Outcome eq cmp part has_quorum mid ws id e0.1 w new
  kept_outcome down =
      let same : new ≡ mid = put.kept (sym raises_is ∙ down) in
      subst (λ (p : ProgressView ID V P QS). Outcome eq cmp part has_quorum mid ws id e0.1 w p) (sym same)
      record {
        ordered = settles.order_still laws o part has_quorum mid.quorum_set (superset mid.quorum_set) mid.default_part mid.voter_count ws
            mid.granted r id i e0 at is w up mid.entries next_is keys_same value_written was low;
        written = writes laws ws mid.entries id e0.1 w was wrote mid.quorum_set mid.quorum_set mid.voter_count mid.voter_count
            mid.default_part
            mid.default_part refl refl refl;
        voter_count = refl;
        updates = refl;
        monotone = AtMost-refl o mid.granted;
        rises = λ h. absurd (true≢false (sym h ∙ down));
        stays = λ h. (wrote, refl);
        tests = 0;
        counts_tests = counted_none mid.stat.is_quorum_count fits;
        few_tests = λ k h. omega arith;
        tested_to_rise = λ h. absurd (true≢false (sym h ∙ ap is_lt (tied_itself o mid.granted)));
        not_tested = λ h. (refl, refl);
      }
    where
      low : i < mid.voter_count → is_lt (cmp mid.granted (part w)) ≡ true → AtMost cmp (part w) (part e0.1)
      low l h = AtMost-from_not_lt o (part e0.1) (part w) (by (is_lt (cmp (part e0.1) (part w))) refl)
        where
          by : (b : Bool) → is_lt (cmp (part e0.1) (part w)) ≡ b → b ≡ false
          by false t = refl
          by true t =
              let all : raises ≡ true = rw (member_is, lt-ltb i mid.voter_count l, t, h) refl in
              absurd (true≢false (sym all ∙ down))

  above_of : is_le (cmp before mid.granted) ≡ false → is_lt (cmp mid.granted (part e0.1)) ≡ true
  above_of t = by (is_lt (cmp mid.granted (part e0.1))) refl
    where
      by : (b : Bool) → is_lt (cmp mid.granted (part e0.1)) ≡ b → b ≡ true
      by true u = refl
      by false u = absurd (true≢false (sym (AtMost-from_not_lt o mid.granted (part e0.1) u)
          ∙ ap (λ (x : P). is_le (cmp x mid.granted)) (sym before_is) ∙ t))

  module _ (rise : raises ≡ true) where
    voter : i < mid.voter_count
    voter = ltb-true i mid.voter_count (sym member_is ∙ (of_both _ _ rise).0)

    high : is_lt (cmp mid.granted (part w)) ≡ true
    high = (of_both _ _ (of_both _ _ rise).1).1

    abbrev raised : IsRaised eq cmp part has_quorum mid i (is_le (cmp before mid.granted)) new
    raised = put.raised (sym raises_is ∙ rise)

    abbrev m : ProgressView ID V P QS
    m = raised.middle

    first_at : eq id (get_or mid.entries i e0).0 ≡ true
    first_at = ap (λ xs. eq id (get_or xs i e0).0) next_is ∙ ap (λ (f : ID × V). eq id f.0) (get_or-set_same ws i (e0.0, w) e0 place.0)
        ∙ ap (λ (f : ID × V). eq id f.0) is ∙ place.1

    none_at : (k : ℕ) → k < i → eq id (get_or mid.entries k e0).0 ≡ false
    none_at k l = ap (λ xs. eq id (get_or xs k e0).0) next_is ∙ ap (λ (f : ID × V). eq id f.0) (get_or-set_below ws i (e0.0, w) e0 k l)
        ∙ place.2 k l
      where
        get_or-set_below : (xs : List (ID × V)) (j : ℕ) (a d : ID × V) (h : ℕ) → h < j → get_or (set xs j a) h d ≡ get_or xs h d
        get_or-set_below [] j a d h q = refl
        get_or-set_below (x ∷ xs) zero a d h q = absurd (omega arith)
        get_or-set_below (x ∷ xs) (suc j) a d zero q = refl
        get_or-set_below (x ∷ xs) (suc j) a d (suc h) q = get_or-set_below xs j a d h (omega arith)

    entries_risen : m.entries ≡ entries_after_rise cmp part (eq id) [] (set_value (eq id) ws w)
    entries_risen = subst (λ (es : List (ID × V)). m.entries ≡ entries_after_rise cmp part (eq id) [] es) wrote
        (is_risen o part (eq id) mid.entries i (m.entries) raised.to e0 raised.risen.rises first_at none_at)

    written_m : (p : ProgressView ID V P QS) → p.entries ≡ m.entries → KeptByStep m p
        → Writes eq (state_of eq mid.quorum_set ws mid.voter_count mid.default_part) id w (state eq p)
    written_m p s g = record {
      quorum_set = g.quorum_set ∙ raised.risen.kept.quorum_set;
      is_voter = λ x. ap (λ es. is_member eq (take p.voter_count (keys_of es)) x) s
          ∙ ap (λ k. is_member eq (take k (keys_of (m.entries))) x) (g.voter_count ∙ raised.risen.kept.voter_count)
          ∙ settles.voters_to laws o part has_quorum mid.quorum_set (superset mid.quorum_set) mid.default_part mid.voter_count ws
          mid.granted r id i e0 at is w up mid.entries next_is keys_same value_written was voter high
          (m.entries) raised.to raised.risen.rises x;
      value = λ x. ap (λ es. lookup (eq x) es) s
          ∙ settles.written_to laws o part has_quorum mid.quorum_set (superset mid.quorum_set) mid.default_part mid.voter_count ws
          mid.granted r id i e0 at is w up mid.entries next_is keys_same value_written was voter high
          (m.entries) raised.to raised.risen.rises x;
      default_part = g.default_part ∙ raised.risen.kept.default_part;
    }

    moved_outcome : is_le (cmp before mid.granted) ≡ false → Outcome eq cmp part has_quorum mid ws id e0.1 w new
    moved_outcome t =
        subst (λ (p : ProgressView ID V P QS). Outcome eq cmp part has_quorum mid ws id e0.1 w p) (sym (raised.kept t))
        record {
          ordered = order_alike eq cmp part has_quorum mid.quorum_set m.quorum_set
              (m.entries) mid.voter_count m.voter_count mid.default_part
              m.default_part mid.granted m.granted raised.risen.kept.quorum_set raised.risen.kept.voter_count
              raised.risen.kept.default_part raised.risen.granted
              (settles.order_moved laws o part has_quorum mid.quorum_set (superset mid.quorum_set) mid.default_part mid.voter_count ws
              mid.granted r id i e0 at is w up mid.entries next_is keys_same value_written was voter high (m.entries) raised.to
              raised.risen.rises (above_of t));
          written = written_m m refl record { quorum_set = refl; voter_count = refl; default_part = refl; updates = refl };
          voter_count = raised.risen.kept.voter_count;
          updates = raised.risen.kept.updates;
          monotone = subst (AtMost cmp mid.granted) (sym raised.risen.granted) (AtMost-refl o mid.granted);
          rises = λ h. (entries_risen, raised.risen.moves);
          stays = λ h. absurd (true≢false (sym rise ∙ h));
          tests = 0;
          counts_tests = raised.risen.tests ∙ counted_none mid.stat.is_quorum_count fits;
          few_tests = λ k h. omega arith;
          tested_to_rise = λ h. absurd (true≢false
              (sym h ∙ ap (λ (x : P). is_lt (cmp mid.granted x)) raised.risen.granted ∙ ap is_lt (tied_itself o mid.granted)));
          not_tested = λ h. (refl, raised.risen.granted);
        }

    module _ (t : is_le (cmp before mid.granted) ≡ true) where
      abbrev s : FindsGranted eq cmp part has_quorum m raised.to new
      s = raised.looked t

      scan : IsShortestPrefix eq (has_quorum mid.quorum_set) (take mid.voter_count (m.entries)) raised.to
          (prefix_len (exceeds cmp part mid.granted) (take mid.voter_count (m.entries))) s.found s.tests
      scan =
          subst (λ (x : QS). IsShortestPrefix eq (has_quorum x) (take mid.voter_count (m.entries)) raised.to
          (prefix_len (exceeds cmp part mid.granted) (take mid.voter_count (m.entries))) s.found s.tests) raised.risen.kept.quorum_set
          (subst (λ (x : ℕ). IsShortestPrefix eq (has_quorum m.quorum_set) (take x (m.entries)) raised.to
          (prefix_len (exceeds cmp part mid.granted) (take x (m.entries))) s.found s.tests) raised.risen.kept.voter_count
          (subst (λ (x : P). IsShortestPrefix eq (has_quorum m.quorum_set) (take m.voter_count (m.entries)) raised.to
          (prefix_len (exceeds cmp part x) (take m.voter_count (m.entries))) s.found s.tests) raised.risen.granted s.shortest))

      ordered_new : (found : Option ℕ) → s.found ≡ found
          → AreEntriesInOrder eq cmp part has_quorum mid.quorum_set (m.entries) mid.voter_count mid.default_part new.granted
      ordered_new None none =
          subst (λ (x : P). AreEntriesInOrder eq cmp part has_quorum mid.quorum_set (m.entries) mid.voter_count mid.default_part x)
          (sym (s.stays none ∙ raised.risen.granted))
          (settles.order_none laws o part has_quorum mid.quorum_set (superset mid.quorum_set) mid.default_part mid.voter_count ws
          mid.granted r id i e0 at is w up mid.entries next_is keys_same value_written was voter high (m.entries) raised.to
          raised.risen.rises s.found s.tests scan none)
      ordered_new (Some k) some =
          let f = s.rises k some in
          subst (λ (x : P). AreEntriesInOrder eq cmp part has_quorum mid.quorum_set (m.entries) mid.voter_count mid.default_part x)
          (sym f.2)
          (settles.order_found laws o part has_quorum mid.quorum_set (superset mid.quorum_set) mid.default_part mid.voter_count ws
          mid.granted r id i e0 at is w up mid.entries next_is keys_same value_written was voter high (m.entries) raised.to
          raised.risen.rises s.found s.tests scan k f.0 some
          (f.1 ∙ ap (λ x. get_or (take x (m.entries)) (k - 1) f.0) raised.risen.kept.voter_count))

      never_less : (found : Option ℕ) → s.found ≡ found → AtMost cmp mid.granted new.granted
      never_less None none = subst (AtMost cmp mid.granted) (sym (s.stays none ∙ raised.risen.granted)) (AtMost-refl o mid.granted)
      never_less (Some k) some =
          let f = s.rises k some in
          let voters = take m.voter_count m.entries in
          let low = s.shortest.above k some in
          let far = s.shortest.within k some in
          let over : is_lt (cmp m.granted (part (get_or voters (k - 1) f.0).1)) ≡ true =
          prefix_len_passes (exceeds cmp part m.granted) voters (k - 1) f.0 (omega arith) in
          subst (AtMost cmp mid.granted) (sym f.2)
          (AtMost-from_lt cmp mid.granted (part f.0.1)
          (ap (λ (x : P). is_lt (cmp x (part f.0.1))) (sym raised.risen.granted)
          ∙ ap (λ (e : ID × V). is_lt (cmp m.granted (part e.1))) f.1 ∙ over))

      tested : (found : Option ℕ) → s.found ≡ found → is_lt (cmp mid.granted new.granted) ≡ true → 1 ≤ s.tests
      tested None none h = absurd (true≢false
          (sym h ∙ ap (λ (x : P). is_lt (cmp mid.granted x)) (s.stays none ∙ raised.risen.granted)
          ∙ ap is_lt (tied_itself o mid.granted)))
      tested (Some k) some h = scan.tested k some

      scanned_outcome : Outcome eq cmp part has_quorum mid ws id e0.1 w new
      scanned_outcome = record {
        ordered = order_alike eq cmp part has_quorum mid.quorum_set new.quorum_set new.entries mid.voter_count new.voter_count
            mid.default_part
            new.default_part new.granted new.granted (s.kept.quorum_set ∙ raised.risen.kept.quorum_set)
            (s.kept.voter_count ∙ raised.risen.kept.voter_count) (s.kept.default_part ∙ raised.risen.kept.default_part) refl
            (subst (λ (es : List (ID × V)). AreEntriesInOrder eq cmp part has_quorum mid.quorum_set es mid.voter_count mid.default_part
            new.granted) (sym s.same_progress_entries) (ordered_new s.found refl));
        written = written_m new s.same_progress_entries s.kept;
        voter_count = s.kept.voter_count ∙ raised.risen.kept.voter_count;
        updates = s.kept.updates ∙ raised.risen.kept.updates;
        monotone = never_less s.found refl;
        rises = λ h. (s.same_progress_entries ∙ entries_risen, s.moves ∙ raised.risen.moves);
        stays = λ h. absurd (true≢false (sym rise ∙ h));
        tests = s.tests;
        counts_tests = s.counts ∙ ap (λ x. count_after x s.tests) raised.risen.tests;
        few_tests = λ k h. scan.few k (let l = length_take_le (m.entries) mid.voter_count in omega arith);
        tested_to_rise = tested s.found refl;
        not_tested = λ h. absurd (true≢false
            (sym (passed (of_both _ _ rise).0 (ap (λ (x : P). is_le (cmp x mid.granted)) (sym before_is) ∙ t) high) ∙ h));
      }
        where
          passed : {a b c : Bool} → a ≡ true → b ≡ true → c ≡ true → (a && (b && c)) ≡ true
          passed x y z = rw (x, y, z) refl

    raised_outcome : Outcome eq cmp part has_quorum mid ws id e0.1 w new
    raised_outcome = by (is_le (cmp before mid.granted)) refl
      where
        by : (b : Bool) → is_le (cmp before mid.granted) ≡ b → Outcome eq cmp part has_quorum mid ws id e0.1 w new
        by true t = scanned_outcome t
        by false t = moved_outcome t

  pub outcome : Outcome eq cmp part has_quorum mid ws id e0.1 w new
  outcome = by raises refl
    where
      by : (b : Bool) → raises ≡ b → Outcome eq cmp part has_quorum mid ws id e0.1 w new
      by true t = raised_outcome t
      by false t = kept_outcome t
