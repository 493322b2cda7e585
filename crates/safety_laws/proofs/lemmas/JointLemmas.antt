-- If memberships are lists of configs and change to coherent ones, quorums intersect.
use Rattle.std.specs.Prelude.{◌≡◌, ◌<◌, ℕ, Bool, true, Option, List, [], ◌∷◌, length}
use Rattle.std.specs.Cmp.{IsEquivalence}
use Rattle.std.proofs.Common.{ap, arith}
use Rattle.raft_members.specs.quorum.Coherence.{is_coherent}
use Rattle.raft_members.specs.quorum.Majority.{is_joint_majority}
use Rattle.raft_members.proofs.CallerLemmas.{quorums_meet, coherent_meet}
use Rattle.safety_laws.specs.Log.{Entry}
use Rattle.safety_laws.specs.Events.{History}
use Rattle.safety_laws.specs.Safety.{IsSafe}
use Rattle.safety_laws.specs.Configs.{effective_config, is_quorum, QuorumsIntersect, MayProposeConfig, MayProposeMembership, FollowsRaftWithMemberships}
use Rattle.safety_laws.proofs.lemmas.ChangeLemmas.{changing_is_safe}

module _ {K : Type 0} {eq : K → K → Bool} (laws : IsEquivalence eq)
    (same : (x y : K) → eq x y ≡ true → x ≡ y) where
  pub coherent_intersect : (a b : List (List K)) → is_coherent eq a b ≡ true
      → QuorumsIntersect (is_joint_majority eq) a b
  coherent_intersect a b coherent s t in_s in_t =
      let x = coherent_meet laws a b s t (λ p q e. ap s (same p q e)) coherent in_s in_t in
      (x.0, x.3, x.4)

  pub itself_intersects : (m : List (List K)) → 0 < length m
      → QuorumsIntersect (is_joint_majority eq) m m
  itself_intersects m some s t in_s in_t =
      let x = quorums_meet laws m s t some in_s in_t in (x.0, x.2, x.3)

coherent_some : {K : Type 0} (eq : K → K → Bool) (a b : List (List K)) → is_coherent eq a b ≡ true
    → 0 < length b
coherent_some eq a [] e = absurd (cc)
coherent_some eq a (c ∷ b) e = omega arith

module _ {T K D : Type 0} {eq : K → K → Bool} (laws : IsEquivalence eq)
    (same : (x y : K) → eq x y ≡ true → x ≡ y) (rank : T → ℕ)
    (configs_of : D → Option (List (List K))) (initial : List (List K)) (h : History T K D)
    (rules : FollowsRaftWithMemberships rank eq configs_of initial h) where
  may_propose : (t : T) (c : K) (log : List (Entry T D)) (m : List (List K))
      → MayProposeMembership rank eq configs_of initial h t c log m
      → MayProposeConfig rank configs_of initial (is_joint_majority eq) h t c log m
  may_propose t c log m p = record {
    committed_to = p.committed_to;
    counted_at = p.counted_at;
    committed = p.committed;
    before = p.before;
    none_since = p.none_since;
    old_and_new =
        coherent_intersect laws same (effective_config configs_of initial log) m p.coherent;
    new =
        itself_intersects laws same m
        (coherent_some eq (effective_config configs_of initial log) m p.coherent);
  }

  pub joint_is_safe : IsSafe rank (is_quorum rank configs_of initial (is_joint_majority eq)) h
  joint_is_safe =
      changing_is_safe rank configs_of initial (is_joint_majority eq) h
      (record {
        keeps_rules = rules.keeps_rules;
        initial_intersects = itself_intersects laws same initial rules.has_config;
        proposals = λ t c el log e m st long is.
            may_propose t c log m (rules.proposals t c el log e m st long is);
      })
