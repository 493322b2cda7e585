-- The test of a trace in which each config counts once it is applied is right.
use Rattle.std.specs.Prelude.{◌≡◌, ◌⊎◌, ◌<◌, ◌≤◌, ℕ, zero, suc, Bool, true, false, ◌&&◌, ◌||◌, nat_lt, nat_le, nat_eq, Some, is_none, List, [], ◌∷◌, length, take, drop}
use Rattle.std.specs.Cmp.{first_so, second_so}
use Rattle.std.proofs.Common.{refl, sym, ap, ◌∙◌, inl, inr, arith, ltb-true}
use Rattle.std.proofs.lemmas.Bool.{leb-true, eqb-true, eq-eqb, or_left, or_right}
use Rattle.safety_laws.specs.Log.{Entry}
use Rattle.safety_laws.specs.Events.{History}
use Rattle.safety_laws.specs.Facts.{Counting, HasVoted, IsCommittedBy, IsElectedBy}
use Rattle.safety_laws.specs.Configs.{HoldNoConfig, effective_config}
use Rattle.safety_laws.specs.AppliedConfigs.{HoldAtMostOneConfig, IsInitialOrKnown, IsKnown, KeepsQuorums, MayCountAcks, MayCountVotes, applied}
use Rattle.safety_laws.specs.Execution.{ConfigRules, FactsAreStableBy, IsExecutionBy, NextBy}
use Rattle.safety_laws.specs.AppliedExecution.{NextWhenApplied, use_applied}
use Rattle.safety_laws.specs.Trace.{Acked, Appended, Applied, AreExact, Campaigned, Committed, Granted, Restarted, TermsHaveRanks, Tests, TraceEvent, Wrote, are_allowed_by, candidate_log_in, counts_acks, counts_votes, earlier, events_in, has_acked, has_voted, history, hold_no_config, is_earlier, is_known_by, is_prefix, is_quorum_of_log, leader_log_in, same_leader}
use Rattle.safety_laws.specs.AppliedTrace.{IsSafeAppliedTrace, applied_tests, has_votes_by, hold_at_most_one, intersect_rule, is_elected_by_known, is_shorter, known_commit_rule, may_count_acks, some_upto}
use Rattle.safety_laws.proofs.lemmas.PrefixLemmas.{prefix_itself, take_prefix}
use Rattle.safety_laws.proofs.lemmas.RuleLemmas.{intersect_tests, known_commit_tests, may_commit_known, passes}
use Rattle.safety_laws.proofs.lemmas.AppliedExecutionLemmas.{Counts, steady}
use Rattle.safety_laws.proofs.lemmas.StepLemmas.{step_keeps_facts}
use Rattle.safety_laws.proofs.lemmas.TestLemmas.{acked_right, at_most_one_right, leader_from, leader_right, no_config_right, or_cases, prefix_right, voted_right}
use Rattle.safety_laws.proofs.lemmas.TraceLemmas as traces

some_found : (n : ℕ) (f : ℕ → Bool) → some_upto n f ≡ true → (i : ℕ) × (f i ≡ true)
some_found zero f e = (zero, e)
some_found (suc n) f e = go (or_cases (f (suc n)) (some_upto n f) e) (some_found n f)
  where
    go : ((f (suc n) ≡ true) ⊎ (some_upto n f ≡ true)) → (some_upto n f ≡ true → (i : ℕ) × (f i ≡ true))
        → (i : ℕ) × (f i ≡ true)
    go (inl x) rec = (suc n, x)
    go (inr x) rec = rec x

module _ {T ID D M : Type 0} (k : Tests T ID D M) (exact : AreExact k) where
  abbrev Q : Counting T ID D
  Q = applied k.rank k.config_of k.initial k.quorum_of

  abbrev Rules : ConfigRules T ID D M
  Rules = use_applied k.rank k.config_of k.initial k.quorum_of

  abbrev Step : History T ID D → History T ID D → Type 0
  Step old new = NextWhenApplied k.rank k.config_of k.initial k.quorum_of old new

  abbrev Kept : History T ID D → Type 0
  Kept h = Counts k.rank k.config_of k.initial k.quorum_of h

  abbrev Known : History T ID D → (T → ℕ → Type 0) → List (Entry T D) → Type 0
  Known h early p = IsKnown k.rank k.config_of k.initial k.quorum_of h early p

  abbrev InitialOrKnown : History T ID D → (T → ℕ → Type 0) → List (Entry T D) → Type 0
  InitialOrKnown h early p = IsInitialOrKnown k.rank k.config_of k.initial k.quorum_of h early p

  abbrev Events : Type 0
  Events = List (TraceEvent T ID D)

  abbrev IsRun : Events → Type 0
  IsRun es = IsExecutionBy Step (history k es) (earlier k es)

  abbrev AreAllowed : Events → Type 0
  AreAllowed es = are_allowed_by k (applied_tests k) es ≡ true

  allowed_last : (e : TraceEvent T ID D) (es : Events) → AreAllowed (e ∷ es)
      → passes k (applied_tests k) e es ≡ true
  allowed_last e es ok = traces.allowed_last k exact (applied_tests k) e es ok

  allowed_before : (e : TraceEvent T ID D) (es : Events) → AreAllowed (e ∷ es) → AreAllowed es
  allowed_before e es ok = traces.allowed_before k exact (applied_tests k) e es ok

  facts_of : (e : TraceEvent T ID D) (es : Events) → AreAllowed (e ∷ es) → IsRun (e ∷ es)
      → FactsAreStableBy k.rank Q (history k es) (history k (e ∷ es))
  facts_of e es ok run =
      step_keeps_facts k.rank Rules Step Kept
      (steady k.rank k.config_of k.initial k.quorum_of
      (traces.initial_intersects k exact (applied_tests k) (e ∷ es) ok))
      (history k (e ∷ es)) (history k es) (earlier k es) run

  none_after : (p : List (Entry T D)) → HoldNoConfig k.config_of (drop (length p) p)
  none_after [] = tt
  none_after (e ∷ p) = none_after p

  -- elected, in this history or in one where the candidate counts by no fewer configs
  elected_with : (es fs : Events) (t : T) (c : ID) → events_in k fs ≡ events_in k es
      → candidate_log_in k fs t c ≡ candidate_log_in k es t c
      → ((a : ℕ) → counts_votes k es t c a ≡ true → counts_votes k fs t c a ≡ true)
      → is_elected_by_known k es t c ≡ true → IsElectedBy k.rank Q (history k fs) t c
  elected_with es fs t c same cand more e =
      let a : Bool = has_voted k t c (events_in k es c) in
      let b : Bool = some_upto (length (candidate_log_in k es t c)) (has_votes_by k es t c) in
      let x = some_found (length (candidate_log_in k es t c)) (has_votes_by k es t c) (second_so a b e) in
      let log : List (Entry T D) = candidate_log_in k es t c in
      let f : Bool = counts_votes k es t c x.0 in
      let g : Bool = hold_at_most_one k (drop x.0 log) in
      let q : Bool = is_quorum_of_log k (take x.0 log) (λ v. has_voted k t c (events_in k es v)) in
      let rest = second_so f (g && q) x.1 in
      record {
        voters = λ v. has_voted k t c (events_in k es v);
        is_quorum = record {
          counted_at = x.0;
          counts = more x.0 (first_so f (g && q) x.1);
          at_most_one = rw cand (at_most_one_right k exact (drop x.0 log) (first_so g q rest));
          is_quorum = rw cand (second_so g q rest);
        };
        have_voted = λ v y. rw same (voted_right k exact t c (events_in k es v) y);
        for_itself = rw same (voted_right k exact t c (events_in k es c) (first_so a b e));
      }

  pub elected_right : (es : Events) (t : T) (c : ID) → is_elected_by_known k es t c ≡ true
      → IsElectedBy k.rank Q (history k es) t c
  elected_right es t c e = elected_with es es t c refl refl (λ a x. x) e

  -- a candidate counts no less after a commit is recorded
  votes_more : (es : Events) (d : ID) (u : T) (n m : ℕ) (t : T) (c : ID) (a : ℕ)
      → counts_votes k es t c a ≡ true → counts_votes k (Committed d u n m ∷ es) t c a ≡ true
  votes_more es d u n m t c a e = go (or_cases x y e)
    where
      p : List (Entry T D)
      p = take a (candidate_log_in k es t c)

      x : Bool
      x = hold_no_config k p

      y : Bool
      y = is_known_by k (is_earlier k t) p es

      z : Bool
      z = is_earlier k t u m && is_prefix k p (take n (leader_log_in k es u d))

      go : ((x ≡ true) ⊎ (y ≡ true)) → (x || (z || y)) ≡ true
      go (inl f) = or_left x (z || y) f
      go (inr f) = or_right x (z || y) (or_right z y f)

  elected_after : (es : Events) (d : ID) (u : T) (n m : ℕ) (t : T) (c : ID)
      → is_elected_by_known k es t c ≡ true
      → IsElectedBy k.rank Q (history k (Committed d u n m ∷ es)) t c
  elected_after es d u n m t c e =
      elected_with es (Committed d u n m ∷ es) t c refl refl (λ a x. votes_more es d u n m t c a x) e

  -- the parts of the test of a commit
  record Parts (es : Events) (t : T) (c : ID) (n m : ℕ) : Type 0 where
    elected : is_elected_by_known k es t c ≡ true
    own_term : length (candidate_log_in k es t c) < n
    within : m ≤ n
    written : n ≤ length (leader_log_in k es t c)
    counts : may_count_acks k es t c m ≡ true
    at_most_one : HoldAtMostOneConfig k.config_of (drop m (take n (leader_log_in k es t c)))
    is_quorum : is_quorum_of_log k (take m (leader_log_in k es t c))
        (λ v. has_acked k t c n (events_in k es v)) ≡ true

  parts : (es : Events) (t : T) (c : ID) (n m : ℕ)
      → passes k (applied_tests k) (Committed c t n m) es ≡ true → Parts es t c n m
  parts es t c n m e =
      let log : List (Entry T D) = leader_log_in k es t c in
      let a : Bool = is_elected_by_known k es t c in
      let b : Bool = nat_lt (length (candidate_log_in k es t c)) n in
      let r : Bool = is_none (known_commit_rule k es t c n m) in
      let f : Bool = nat_le m n in
      let d : Bool = nat_le n (length log) in
      let g : Bool = may_count_acks k es t c m in
      let o : Bool = hold_at_most_one k (drop m (take n log)) in
      let q : Bool = is_quorum_of_log k (take m log) (λ v. has_acked k t c n (events_in k es v)) in
      let e1 = second_so a (b && r) e in
      let e2 : may_commit_known k es t c n m ≡ true =
      sym (known_commit_tests k es t c n m) ∙ second_so b r e1 in
      let e3 = second_so f (d && (g && (o && q))) e2 in
      let e4 = second_so d (g && (o && q)) e3 in
      let e5 = second_so g (o && q) e4 in
      record {
        elected = first_so a (b && r) e;
        own_term = ltb-true (length (candidate_log_in k es t c)) n (first_so b r e1);
        within = leb-true m n (first_so f (d && (g && (o && q))) e2);
        written = leb-true n (length log) (first_so d (g && (o && q)) e3);
        counts = first_so g (o && q) e4;
        at_most_one = at_most_one_right k exact (drop m (take n log)) (first_so o q e5);
        is_quorum = second_so o q e5;
      }

  pub committed_right : (es : Events) (t : T) (c : ID) (n m : ℕ)
      → passes k (applied_tests k) (Committed c t n m) es ≡ true
      → IsCommittedBy k.rank Q (history k (Committed c t n m ∷ es)) t c n m
  committed_right es t c n m e =
      let x = parts es t c n m e in
      record {
        elected = elected_after es c t n m t c x.elected;
        own_term = x.own_term;
        written = x.written;
        having = λ v. has_acked k t c n (events_in k es v);
        is_quorum = record {
          within = x.within;
          counts =
              or_left (same_leader k t c t c && nat_eq m m) (counts_acks k es t c m)
              (rw (leader_from k exact t t c c refl refl) (eq-eqb m m refl));
          at_most_one = x.at_most_one;
          is_quorum = x.is_quorum;
        };
        have_acked = λ v y. acked_right k exact t c n (events_in k es v) y;
      }

  -- what was known before an event is known after it
  lift : (e : TraceEvent T ID D) (es : Events) → AreAllowed (e ∷ es) → IsRun (e ∷ es)
      → (early : T → ℕ → Type 0) (p : List (Entry T D)) → Known (history k es) early p
      → Known (history k (e ∷ es)) early p
  lift e es ok run early p x =
      let still =
      (facts_of e es ok run).committed x.in_term x.by_leader x.committed_to x.counted_at x.committed in
      record {
        in_term = x.in_term;
        by_leader = x.by_leader;
        committed_to = x.committed_to;
        counted_at = x.counted_at;
        committed = still.0;
        before = x.before;
        known_to = x.known_to;
        is = rw (still.1) x.is;
        none_since = x.none_since;
      }

  -- what the last recorded commit shows
  known_here : (es : Events) (d : ID) (u : T) (n m : ℕ)
      → passes k (applied_tests k) (Committed d u n m) es ≡ true → (is_early : T → ℕ → Bool)
      (early : T → ℕ → Type 0) → ((s : T) (b : ℕ) → is_early s b ≡ true → early s b)
      → (p : List (Entry T D)) → (is_early u m && is_prefix k p (take n (leader_log_in k es u d))) ≡ true
      → Known (history k (Committed d u n m ∷ es)) early p
  known_here es d u n m ok is_early early sound p e =
      let a : Bool = is_early u m in
      let b : Bool = is_prefix k p (take n (leader_log_in k es u d)) in
      record {
        in_term = u;
        by_leader = d;
        committed_to = n;
        counted_at = m;
        committed = committed_right es u d n m ok;
        before = sound u m (first_so a b e);
        known_to = length p;
        is =
            rw (take_prefix (prefix_itself p))
            (prefix_right k exact p (take n (leader_log_in k es u d)) (second_so a b e));
        none_since = none_after p;
      }

  known_right : (is_early : T → ℕ → Bool) (early : T → ℕ → Type 0)
      → ((s : T) (b : ℕ) → is_early s b ≡ true → early s b) → (es : Events) → AreAllowed es → IsRun es
      → (p : List (Entry T D)) → is_known_by k is_early p es ≡ true → Known (history k es) early p
  known_right is_early early sound [] ok run p e = absurd (cc)
  known_right is_early early sound (Committed d u n m ∷ es) ok run p e =
      go (or_cases (is_early u m && is_prefix k p (take n (leader_log_in k es u d)))
      (is_known_by k is_early p es) e)
      (known_right is_early early sound es (allowed_before (Committed d u n m) es ok) run.1 p)
    where
      go : (((is_early u m && is_prefix k p (take n (leader_log_in k es u d))) ≡ true)
          ⊎ (is_known_by k is_early p es ≡ true))
          → (is_known_by k is_early p es ≡ true → Known (history k es) early p)
          → Known (history k (Committed d u n m ∷ es)) early p
      go (inl x) rec =
          known_here es d u n m (allowed_last (Committed d u n m) es ok) is_early early sound p x
      go (inr x) rec = lift (Committed d u n m) es ok run early p (rec x)
  known_right is_early early sound (x ∷ es) ok run p e =
      lift x es ok run early p
      (known_right is_early early sound es (allowed_before x es ok) run.1 p e)

  earlier_right : (t s : T) (b : ℕ) → is_earlier k t s b ≡ true → k.rank s < k.rank t
  earlier_right t s b e = ltb-true (k.rank s) (k.rank t) e

  shorter_right : (t : T) (a : ℕ) (s : T) (b : ℕ) → is_shorter k t a s b ≡ true
      → (k.rank s < k.rank t) ⊎ ((k.rank s ≡ k.rank t) × (b < a))
  shorter_right t a s b e =
      go (or_cases (nat_lt (k.rank s) (k.rank t)) (nat_eq (k.rank s) (k.rank t) && nat_lt b a) e)
    where
      go : ((nat_lt (k.rank s) (k.rank t) ≡ true)
          ⊎ ((nat_eq (k.rank s) (k.rank t) && nat_lt b a) ≡ true))
          → (k.rank s < k.rank t) ⊎ ((k.rank s ≡ k.rank t) × (b < a))
      go (inl x) = inl (ltb-true (k.rank s) (k.rank t) x)
      go (inr x) =
          inr (
            eqb-true (k.rank s) (k.rank t) (first_so (nat_eq (k.rank s) (k.rank t)) (nat_lt b a) x),
            ltb-true b a (second_so (nat_eq (k.rank s) (k.rank t)) (nat_lt b a) x),
          )

  -- a config that passes a test of the earlier events may be counted by
  count_right : (is_early : T → ℕ → Bool) (early : T → ℕ → Type 0)
      → ((s : T) (b : ℕ) → is_early s b ≡ true → early s b) → (es : Events) → AreAllowed es → IsRun es
      → (p : List (Entry T D)) → (hold_no_config k p || is_known_by k is_early p es) ≡ true
      → InitialOrKnown (history k es) early p
  count_right is_early early sound es ok run p e =
      go (or_cases (hold_no_config k p) (is_known_by k is_early p es) e)
    where
      go : ((hold_no_config k p ≡ true) ⊎ (is_known_by k is_early p es ≡ true))
          → InitialOrKnown (history k es) early p
      go (inl x) = inl (no_config_right k exact p x)
      go (inr x) = inr (known_right is_early early sound es ok run p x)

  abbrev CountsVotes : History T ID D → T → List (Entry T D) → Type 0
  CountsVotes h t p = MayCountVotes k.rank k.config_of k.initial k.quorum_of h t p

  abbrev CountsAcks : History T ID D → T → ℕ → List (Entry T D) → Type 0
  CountsAcks h t a p = MayCountAcks k.rank k.config_of k.initial k.quorum_of h t a p

  count_votes : (es : Events) → AreAllowed es → IsRun es → (t : T) (p : List (Entry T D))
      → (hold_no_config k p || is_known_by k (is_earlier k t) p es) ≡ true → CountsVotes (history k es) t p
  count_votes es ok run t p e =
      count_right (is_earlier k t) (λ (s : T) (b : ℕ). k.rank s < k.rank t)
      (λ s b x. earlier_right t s b x) es ok run p e

  move_elected : (h : History T ID D) (u t : T) (d c : ID) → u ≡ t → d ≡ c → IsElectedBy k.rank Q h u d
      → IsElectedBy k.rank Q h t c
  move_elected h u t d c e f x = rw (e, f) at x

  -- who has recorded a commit is elected
  was_elected : (es : Events) → AreAllowed es → IsRun es → (t : T) (c : ID) (a : ℕ)
      → counts_acks k es t c a ≡ true → IsElectedBy k.rank Q (history k es) t c
  was_elected [] ok run t c a e = absurd (cc)
  was_elected (Committed d u n m ∷ es) ok run t c a e =
      go (or_cases (same_leader k u d t c && nat_eq m a) (counts_acks k es t c a) e)
      (was_elected es (allowed_before (Committed d u n m) es ok) run.1 t c a)
    where
      go : (((same_leader k u d t c && nat_eq m a) ≡ true) ⊎ (counts_acks k es t c a ≡ true))
          → (counts_acks k es t c a ≡ true → IsElectedBy k.rank Q (history k es) t c)
          → IsElectedBy k.rank Q (history k (Committed d u n m ∷ es)) t c
      go (inl x) rec =
          let same = leader_right k exact u t d c (first_so (same_leader k u d t c) (nat_eq m a) x) in
          move_elected (history k (Committed d u n m ∷ es)) u t d c same.0 same.1
          (elected_after es d u n m u d (parts es u d n m (allowed_last (Committed d u n m) es ok)).elected)
      go (inr x) rec = ((facts_of (Committed d u n m) es ok run).elected t c (rec x)).0
  was_elected (x ∷ es) ok run t c a e =
      ((facts_of x es ok run).elected t c (was_elected es (allowed_before x es ok) run.1 t c a e)).0

  -- a config that passes the test may be appended
  may_append : (es : Events) (t : T) (c : ID) (m : M)
      → is_none (intersect_rule k es t c (Some m)) ≡ true
      → KeepsQuorums k.rank k.config_of k.initial k.quorum_of (leader_log_in k es t c) m
  may_append es t c m e =
      let now : M = effective_config k.config_of k.initial (leader_log_in k es t c) in
      let a : Bool = k.intersect now m in
      let b : Bool = k.intersect m m in
      let f : (a && b) ≡ true = sym (intersect_tests k es t c m) ∙ e in
      record {
        old_and_new = exact.intersect now m (first_so a b f);
        new = exact.intersect m m (second_so a b f);
      }

  -- a campaign leaves the logs of those who have votes
  campaign_keeps : (es : Events) (c : ID) (t u : T) (d : ID) (a : ℕ)
      → (HasVoted t c (events_in k es d) → ⊥) → HasVoted u d (events_in k es d) → (b : Bool)
      → same_leader k t c u d ≡ b → counts_votes k es u d a ≡ true
      → counts_votes k (Campaigned c t ∷ es) u d a ≡ true
  campaign_keeps es c t u d a none v true e x =
      let same = leader_right k exact t u c d e in absurd (none (rw (same.0, same.1) v))
  campaign_keeps es c t u d a none v false e x =
      let same : candidate_log_in k (Campaigned c t ∷ es) u d ≡ candidate_log_in k es u d = rw e refl in
      ap (λ (l : List (Entry T D)). hold_no_config k (take a l) || is_known_by k (is_earlier k u) (take a l) es) same
      ∙ x

  -- by which configs candidates and leaders count after a commit
  module _ (es : Events) (c : ID) (t : T) (n m : ℕ) (ok : AreAllowed (Committed c t n m ∷ es)) (run : IsRun es)
    where
      before : AreAllowed es
      before = allowed_before (Committed c t n m) es ok

      last : passes k (applied_tests k) (Committed c t n m) es ≡ true
      last = allowed_last (Committed c t n m) es ok

      abbrev New : History T ID D
      New = history k (Committed c t n m ∷ es)

      commit_votes : (u : T) (d : ID) (a : ℕ) → counts_votes k (Committed c t n m ∷ es) u d a ≡ true
          → CountsVotes (history k es) u (take a (candidate_log_in k es u d))
          ⊎ CountsVotes New u (take a (candidate_log_in k es u d))
      commit_votes u d a e = go (or_cases x (z || y) e)
        where
          p : List (Entry T D)
          p = take a (candidate_log_in k es u d)

          x : Bool
          x = hold_no_config k p

          y : Bool
          y = is_known_by k (is_earlier k u) p es

          z : Bool
          z = is_earlier k u t m && is_prefix k p (take n (leader_log_in k es t c))

          known : ((z ≡ true) ⊎ (y ≡ true)) → CountsVotes (history k es) u p ⊎ CountsVotes New u p
          known (inl f) =
              inr (inr (known_here es c t n m last (is_earlier k u) (λ (s : T) (b : ℕ). k.rank s < k.rank u)
              (λ s b w. earlier_right u s b w) p f))
          known (inr f) =
              inl (inr (known_right (is_earlier k u) (λ (s : T) (b : ℕ). k.rank s < k.rank u)
              (λ s b w. earlier_right u s b w) es before run p f))

          go : ((x ≡ true) ⊎ ((z || y) ≡ true)) → CountsVotes (history k es) u p ⊎ CountsVotes New u p
          go (inl f) = inl (inl (no_config_right k exact p f))
          go (inr f) = known (or_cases z y f)

      mine : (m ≤ length (leader_log_in k es t c)) × CountsAcks (history k es) t m (take m (leader_log_in k es t c))
      mine =
          let x = parts es t c n m last in (
            omega (arith, x.within, x.written),
            count_right (is_shorter k t m)
                (λ (s : T) (b : ℕ). (k.rank s < k.rank t) ⊎ ((k.rank s ≡ k.rank t) × (b < m)))
                (λ s b w. shorter_right t m s b w) es before run (take m (leader_log_in k es t c)) x.counts,
          )

      abbrev MayCount : T → ID → ℕ → Type 0
      MayCount u d a = (a ≤ length (leader_log_in k es u d)) × CountsAcks (history k es) u a (take a (leader_log_in k es u d))

      move : (u : T) (d : ID) (a : ℕ) → t ≡ u → c ≡ d → m ≡ a → MayCount u d a
      move u d a e f g =
          let x : MayCount t c m = mine in rw (e, f, g) at x

      commit_acks : (u : T) (d : ID) (a : ℕ) → counts_acks k (Committed c t n m ∷ es) u d a ≡ true
          → (IsElectedBy k.rank Q (history k es) u d × (counts_acks k es u d a ≡ true)) ⊎ MayCount u d a
      commit_acks u d a e =
          go (or_cases (same_leader k t c u d && nat_eq m a) (counts_acks k es u d a) e)
        where
          go : (((same_leader k t c u d && nat_eq m a) ≡ true) ⊎ (counts_acks k es u d a ≡ true))
              → (IsElectedBy k.rank Q (history k es) u d × (counts_acks k es u d a ≡ true)) ⊎ MayCount u d a
          go (inl x) =
              let same = leader_right k exact t u c d (first_so (same_leader k t c u d) (nat_eq m a) x) in
              inr (move u d a same.0 same.1 (eqb-true m a (second_so (same_leader k t c u d) (nat_eq m a) x)))
          go (inr x) = inl (was_elected es before run u d a x, x)

  -- an event that is neither a campaign nor a commit changes nothing of what is counted by
  quiet : (e : TraceEvent T ID D) (es : Events) → AreAllowed (e ∷ es) → IsRun es
      → ((u : T) (d : ID) (a : ℕ) → counts_votes k (e ∷ es) u d a ≡ counts_votes k es u d a)
      → ((u : T) (d : ID) (a : ℕ) → counts_acks k (e ∷ es) u d a ≡ counts_acks k es u d a)
      → ((u : T) (d : ID) → candidate_log_in k (e ∷ es) u d ≡ candidate_log_in k es u d)
      → NextBy k.rank Rules (history k es) (history k (e ∷ es)) → Step (history k es) (history k (e ∷ es))
  quiet e es ok run same_votes same_acks same_log next = record {
    next = next;
    votes_stay = λ u d a el x. same_votes u d a ∙ x;
    acks_stay = λ u d a el x. same_acks u d a ∙ x;
    votes = λ u d a el x.
        inr (inl (rw (same_log u d)
        (count_votes es (allowed_before e es ok) run u (take a (candidate_log_in k es u d)) (sym (same_votes u d a) ∙ x))));
    acks = λ u d a el x.
        let y = sym (same_acks u d a) ∙ x in inl (was_elected es (allowed_before e es ok) run u d a y, y);
  }

  made : (e : TraceEvent T ID D) (es : Events) → AreAllowed (e ∷ es) → IsRun es
      → NextBy k.rank Rules (history k es) (history k (e ∷ es)) → Step (history k es) (history k (e ∷ es))
  made (Campaigned c t) es ok run next = record {
    next = next;
    votes_stay = λ u d a el x.
        campaign_keeps es c t u d a
        (λ y. traces.no_votes k exact (applied_tests k) es c t (allowed_before (Campaigned c t) es ok)
        (allowed_last (Campaigned c t) es ok) d y)
        el.for_itself (same_leader k t c u d) refl x;
    acks_stay = λ u d a el x. x;
    votes = λ u d a el x.
        inr (inl (count_votes es (allowed_before (Campaigned c t) es ok) run u
        (take a (candidate_log_in k (Campaigned c t ∷ es) u d)) x));
    acks = λ u d a el x. inl (was_elected es (allowed_before (Campaigned c t) es ok) run u d a x, x);
  }
  made (Committed c t n m) es ok run next = record {
    next = next;
    votes_stay = λ u d a el x. votes_more es c t n m u d a x;
    acks_stay = λ u d a el x. or_right (same_leader k t c u d && nat_eq m a) (counts_acks k es u d a) x;
    votes = λ u d a el x. inr (commit_votes es c t n m ok run u d a x);
    acks = λ u d a el x. either u d a (commit_acks es c t n m ok run u d a x);
  }
    where
      either : (u : T) (d : ID) (a : ℕ)
          → ((IsElectedBy k.rank Q (history k es) u d × (counts_acks k es u d a ≡ true))
          ⊎ MayCount es c t n m ok run u d a)
          → (IsElectedBy k.rank Q (history k es) u d × (counts_acks k es u d a ≡ true))
          ⊎ ((a ≤ length (leader_log_in k es u d))
          × (CountsAcks (history k es) u a (take a (leader_log_in k es u d))
          ⊎ CountsAcks (history k (Committed c t n m ∷ es)) u a (take a (leader_log_in k es u d))))
      either u d a (inl x) = inl x
      either u d a (inr x) = inr (x.0, inl x.1)
  made (Granted s t c) es ok run next =
      quiet (Granted s t c) es ok run (λ u d a. refl) (λ u d a. refl) (λ u d. refl) next
  made (Appended s t c n sent) es ok run next =
      quiet (Appended s t c n sent) es ok run (λ u d a. refl) (λ u d a. refl) (λ u d. refl) next
  made (Acked s t c n) es ok run next =
      quiet (Acked s t c n) es ok run (λ u d a. refl) (λ u d a. refl) (λ u d. refl) next
  made (Restarted s n) es ok run next =
      quiet (Restarted s n) es ok run (λ u d a. refl) (λ u d a. refl) (λ u d. refl) next
  made (Wrote c t x) es ok run next =
      quiet (Wrote c t x) es ok run (λ u d a. refl) (λ u d a. refl) (λ u d. refl) next
  made (Applied s t c n) es ok run next =
      quiet (Applied s t c n) es ok run (λ u d a. refl) (λ u d a. refl) (λ u d. refl) next

  right : traces.AreRight k (applied_tests k) Rules Step Kept
  right = record {
    config_of = λ d. refl;
    steady = λ meet. steady k.rank k.config_of k.initial k.quorum_of meet;
    elected = elected_right;
    committed = λ es c t n m ok run. committed_right es t c n m (allowed_last (Committed c t n m) es ok);
    may_append = λ es ok run t c m e. may_append es t c m e;
    step = made;
  }

  pub trace_is_safe : (es : Events) → TermsHaveRanks k es → AreAllowed es → IsSafeAppliedTrace k es
  trace_is_safe es ranks ok = traces.trace_is_safe k exact (applied_tests k) Rules Step Kept right es ranks ok
