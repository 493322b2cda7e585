-- Executions in which each config counts from its append on follow the rules, and facts are stable in
-- them.
use Rattle.std.specs.Prelude.{◌⊎◌, ℕ, Bool, Option, List, ◌∷◌, take}
use Rattle.std.proofs.Common.{arith}
use Rattle.safety_laws.specs.Log.{IsPrefix}
use Rattle.safety_laws.specs.Events.{History, log_after}
use Rattle.safety_laws.specs.Rules.{FollowsRaft}
use Rattle.safety_laws.specs.Safety.{IsSafe}
use Rattle.safety_laws.specs.Apply.{MayApply}
use Rattle.safety_laws.specs.Configs.{ProposesByRule, QuorumsIntersect, is_quorum}
use Rattle.safety_laws.specs.Ranks.{IsAmong}
use Rattle.safety_laws.specs.Execution.{ConfigRules, FactsAreStable, IsExecution, Next, use_appended}
use Rattle.safety_laws.proofs.lemmas.PrefixLemmas.{prefix_length, take_of_prefix}
use Rattle.safety_laws.proofs.lemmas.ChangeLemmas.{changing_is_safe}
use Rattle.safety_laws.proofs.lemmas.StepLemmas as steps

-- no more than the rules
abbrev pub Nothing : {T ID D : Type 0} → History T ID D → Type 0
Nothing h = Unit {0}

module _ {T ID D M : Type 0} (rank : T → ℕ) (config_of : D → Option M) (initial : M) (quorum_of : M → (ID → Bool) → Bool)
    (meet : QuorumsIntersect quorum_of initial initial) where
  abbrev Rules : ConfigRules T ID D M
  Rules = use_appended rank config_of initial quorum_of

  abbrev Step : History T ID D → History T ID D → Type 0
  Step old new = Next rank config_of initial quorum_of old new

  pub steady : steps.AreSteady rank Rules Step Nothing
  steady = record {
    next = λ old new made. made;
    first = λ h empty. tt;
    keeps = λ old new made facts kept. tt;
    safe = λ h follows proposes kept.
        changing_is_safe rank config_of initial quorum_of h
        (record { keeps_rules = follows; initial_intersects = meet; proposals = λ t c el. proposes t c });
    elects = λ old new made t c voters el same is. rw same is;
    commits = λ old new made t c n m having el grows le is. record {
      within = is.within;
      written = omega (arith, is.written, prefix_length grows);
      is_quorum =
          rw (take_of_prefix m (old.leader_log t c) (new.leader_log t c) grows is.written) is.is_quorum;
    };
    may_append = λ old new facts t c log m may. record {
      committed_to = may.committed_to;
      counted_at = may.counted_at;
      committed = (facts.committed t c may.committed_to may.counted_at may.committed).0;
      before = may.before;
      none_since = may.none_since;
      old_and_new = may.old_and_new;
      new = may.new;
    };
  }

  module _ (last : History T ID D) (earlier : List (History T ID D))
      (run : IsExecution rank config_of initial quorum_of last earlier) where
    pub execution_is_safe : (h : History T ID D) → IsAmong h (last ∷ earlier)
        → IsSafe rank (is_quorum rank config_of initial quorum_of) h
    execution_is_safe h among = steps.execution_is_safe rank Rules Step Nothing steady last earlier run h among

    -- each history of an execution follows the rules
    pub execution_follows : (h : History T ID D) → IsAmong h (last ∷ earlier)
        → FollowsRaft rank (is_quorum rank config_of initial quorum_of) h
    execution_follows h among = steps.execution_follows rank Rules Step Nothing steady last earlier run h among

    pub execution_keeps_facts : (h : History T ID D) → IsAmong h (last ∷ earlier)
        → FactsAreStable rank config_of initial quorum_of h last
    execution_keeps_facts h among =
        steps.execution_keeps_facts rank Rules Step Nothing steady last earlier run h among

    pub execution_proposes : (h : History T ID D) → IsAmong h (last ∷ earlier) → (t : T) (c : ID)
        → ProposesByRule rank config_of initial quorum_of h t c
    execution_proposes h among t c = steps.execution_proposes rank Rules Step Nothing steady last earlier run h among t c

    pub all_times_agree : (g h : History T ID D) → IsAmong g (last ∷ earlier) → IsAmong h (last ∷ earlier)
        → (s r : ID) (i k : ℕ)
        → MayApply rank (is_quorum rank config_of initial quorum_of) g (g.events s) i
        → MayApply rank (is_quorum rank config_of initial quorum_of) h (h.events r) k
        → IsPrefix (take i (log_after (g.events s))) (take k (log_after (h.events r)))
        ⊎ IsPrefix (take k (log_after (h.events r))) (take i (log_after (g.events s)))
    all_times_agree g h in_g in_h s r i k x y =
        steps.all_times_agree rank Rules Step Nothing steady last earlier run g h in_g in_h s r i k x y

  pub step_keeps_facts : (last old : History T ID D) (earlier : List (History T ID D))
      → IsExecution rank config_of initial quorum_of last (old ∷ earlier)
      → FactsAreStable rank config_of initial quorum_of old last
  step_keeps_facts last old earlier run =
      steps.step_keeps_facts rank Rules Step Nothing steady last old earlier run
