-- Executions in which each config counts once it is applied follow the rules, and facts are stable in
-- them.
use Rattle.std.specs.Prelude.{◌≡◌, ◌⊎◌, ◌<◌, ◌≤◌, ℕ, Bool, true, Option, List, ◌∷◌, length, take}
use Rattle.std.proofs.Common.{inl, inr, arith}
use Rattle.safety_laws.specs.Log.{Entry, IsPrefix}
use Rattle.safety_laws.specs.Events.{History, log_after}
use Rattle.safety_laws.specs.Facts.{Counting, IsElectedBy}
use Rattle.safety_laws.specs.Rules.{FollowsRaftBy}
use Rattle.safety_laws.specs.Safety.{IsSafeBy}
use Rattle.safety_laws.specs.Apply.{MayApplyBy}
use Rattle.safety_laws.specs.Configs.{QuorumsIntersect}
use Rattle.safety_laws.specs.AppliedConfigs.{AcksByRule, FollowsRaftWhenApplied, IsInitialOrKnown, MayCountAcks, MayCountVotes, VotesByRule, applied}
use Rattle.safety_laws.specs.Ranks.{IsAmong}
use Rattle.safety_laws.specs.Execution.{ConfigRules, FactsAreStableBy}
use Rattle.safety_laws.specs.AppliedExecution.{IsExecutionWhenApplied, NextWhenApplied, use_applied}
use Rattle.safety_laws.proofs.lemmas.PrefixLemmas.{prefix_length, take_of_prefix}
use Rattle.safety_laws.proofs.lemmas.AppliedLemmas.{applied_is_safe}
use Rattle.safety_laws.proofs.lemmas.StepLemmas as steps

module _ {T ID D M : Type 0} (rank : T → ℕ) (config_of : D → Option M) (initial : M) (quorum_of : M → (ID → Bool) → Bool)
  where
    -- candidates and leaders count by the rule
    pub record Counts (h : History T ID D) : Type 0 where
      pub votes : (t : T) (c : ID) → IsElectedBy rank (applied rank config_of initial quorum_of) h t c
          → VotesByRule rank config_of initial quorum_of h t c
      pub acks : (t : T) (c : ID) → IsElectedBy rank (applied rank config_of initial quorum_of) h t c
          → AcksByRule rank config_of initial quorum_of h t c

module _ {T ID D M : Type 0} (rank : T → ℕ) (config_of : D → Option M) (initial : M) (quorum_of : M → (ID → Bool) → Bool)
    (meet : QuorumsIntersect quorum_of initial initial) where
  abbrev Q : Counting T ID D
  Q = applied rank config_of initial quorum_of

  abbrev Rules : ConfigRules T ID D M
  Rules = use_applied rank config_of initial quorum_of

  abbrev Step : History T ID D → History T ID D → Type 0
  Step old new = NextWhenApplied rank config_of initial quorum_of old new

  abbrev Kept : History T ID D → Type 0
  Kept h = Counts rank config_of initial quorum_of h

  -- what was known is known
  known_stays : (old new : History T ID D) → FactsAreStableBy rank Q old new → (early : T → ℕ → Type 0)
      (log : List (Entry T D)) → IsInitialOrKnown rank config_of initial quorum_of old early log
      → IsInitialOrKnown rank config_of initial quorum_of new early log
  known_stays old new facts early log (inl none) = inl none
  known_stays old new facts early log (inr k) =
      let still = facts.committed k.in_term k.by_leader k.committed_to k.counted_at k.committed in
      inr (record {
        in_term = k.in_term;
        by_leader = k.by_leader;
        committed_to = k.committed_to;
        counted_at = k.counted_at;
        committed = still.0;
        before = k.before;
        known_to = k.known_to;
        is = rw still.1 k.is;
        none_since = k.none_since;
      })

  module _ (old new : History T ID D) (made : Step old new) (facts : FactsAreStableBy rank Q old new)
      (counts : Kept old) where
    abbrev Earlier : T → T → ℕ → Type 0
    Earlier t s b = rank s < rank t

    abbrev Shorter : T → ℕ → T → ℕ → Type 0
    Shorter t a s b = (rank s < rank t) ⊎ ((rank s ≡ rank t) × (b < a))

    votes_stay : (t : T) (c : ID) → IsElectedBy rank Q new t c → VotesByRule rank config_of initial quorum_of new t c
    votes_stay t c el a by = go (made.votes t c a el by)
      where
        go : ((IsElectedBy rank Q old t c × (old.votes_by t c a ≡ true))
            ⊎ (MayCountVotes rank config_of initial quorum_of old t (take a (new.candidate_log t c))
            ⊎ MayCountVotes rank config_of initial quorum_of new t (take a (new.candidate_log t c))))
            → MayCountVotes rank config_of initial quorum_of new t (take a (new.candidate_log t c))
        go (inl x) =
            rw (facts.elected t c x.0).1
            (known_stays old new facts (Earlier t) (take a (old.candidate_log t c)) (counts.votes t c x.0 a x.1))
        go (inr (inl k)) = known_stays old new facts (Earlier t) (take a (new.candidate_log t c)) k
        go (inr (inr k)) = k

    acks_stay : (t : T) (c : ID) → IsElectedBy rank Q new t c → AcksByRule rank config_of initial quorum_of new t c
    acks_stay t c el a by = go (made.acks t c a el by)
      where
        go : ((IsElectedBy rank Q old t c × (old.acks_by t c a ≡ true))
            ⊎ ((a ≤ length (new.leader_log t c))
            × (MayCountAcks rank config_of initial quorum_of old t a (take a (new.leader_log t c))
            ⊎ MayCountAcks rank config_of initial quorum_of new t a (take a (new.leader_log t c)))))
            → (a ≤ length (new.leader_log t c))
            × MayCountAcks rank config_of initial quorum_of new t a (take a (new.leader_log t c))
        go (inl x) =
            let r = counts.acks t c x.0 a x.1 in
            let grows : IsPrefix (old.leader_log t c) (new.leader_log t c) = (facts.elected t c x.0).2 in (
              omega (arith, r.0, prefix_length grows),
              rw (take_of_prefix a (old.leader_log t c) (new.leader_log t c) grows r.0)
                  (known_stays old new facts (Shorter t a) (take a (old.leader_log t c)) r.1),
            )
        go (inr (le, inl k)) = (le, known_stays old new facts (Shorter t a) (take a (new.leader_log t c)) k)
        go (inr (le, inr k)) = (le, k)

    counts_stay : Kept new
    counts_stay = record { votes = votes_stay; acks = acks_stay }

  follows_all : (h : History T ID D) → FollowsRaftBy rank Q h → steps.Proposes Rules h → Kept h
      → FollowsRaftWhenApplied rank config_of initial quorum_of h
  follows_all h follows proposes counts = record {
    keeps_rules = follows;
    initial_intersects = meet;
    votes = counts.votes;
    acks = counts.acks;
    appends = λ t c el. proposes t c;
  }

  pub steady : steps.AreSteady rank Rules Step Kept
  steady = record {
    next = λ old new made. made.next;
    first = λ h empty. record {
      votes = λ t c el a by. absurd (rw (empty.events c) at el.for_itself);
      acks = λ t c el a by. absurd (rw (empty.events c) at el.for_itself);
    };
    keeps = λ old new made facts counts. counts_stay old new made facts counts;
    safe = λ h follows proposes counts.
        (applied_is_safe rank config_of initial quorum_of h (follows_all h follows proposes counts)).safe;
    elects = λ old new made t c voters el same is. record {
      counted_at = is.counted_at;
      counts = made.votes_stay t c is.counted_at el is.counts;
      at_most_one = rw same is.at_most_one;
      is_quorum = rw same is.is_quorum;
    };
    commits = λ old new made t c n m having el grows le is. record {
      within = is.within;
      counts = made.acks_stay t c m el is.counts;
      at_most_one =
          rw (take_of_prefix n (old.leader_log t c) (new.leader_log t c) grows le) is.at_most_one;
      is_quorum =
          rw (take_of_prefix m (old.leader_log t c) (new.leader_log t c) grows (omega (arith, is.within, le)))
          is.is_quorum;
    };
    may_append = λ old new facts t c log m may. may;
  }

  module _ (last : History T ID D) (earlier : List (History T ID D))
      (run : IsExecutionWhenApplied rank config_of initial quorum_of last earlier) where
    pub execution_is_safe : (h : History T ID D) → IsAmong h (last ∷ earlier) → IsSafeBy rank Q h
    execution_is_safe h among = steps.execution_is_safe rank Rules Step Kept steady last earlier run h among

    pub execution_keeps_facts : (h : History T ID D) → IsAmong h (last ∷ earlier)
        → FactsAreStableBy rank Q h last
    execution_keeps_facts h among =
        steps.execution_keeps_facts rank Rules Step Kept steady last earlier run h among

    pub all_times_agree : (g h : History T ID D) → IsAmong g (last ∷ earlier) → IsAmong h (last ∷ earlier)
        → (s r : ID) (i k : ℕ) → MayApplyBy rank Q g (g.events s) i → MayApplyBy rank Q h (h.events r) k
        → IsPrefix (take i (log_after (g.events s))) (take k (log_after (h.events r)))
        ⊎ IsPrefix (take k (log_after (h.events r))) (take i (log_after (g.events s)))
    all_times_agree g h in_g in_h s r i k x y =
        steps.all_times_agree rank Rules Step Kept steady last earlier run g h in_g in_h s r i k x y
