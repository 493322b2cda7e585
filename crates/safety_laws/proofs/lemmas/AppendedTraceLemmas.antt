-- The test of a trace in which each config counts from its append on is right.
use Rattle.std.specs.Prelude.{◌≡◌, ◌⊎◌, ◌≤◌, ℕ, Bool, true, ◌&&◌, nat_lt, nat_le, Some, is_none, List, [], ◌∷◌, length, take, drop}
use Rattle.std.specs.Cmp.{first_so, second_so}
use Rattle.std.proofs.Common.{refl, sym, ◌∙◌, inl, inr, arith, ltb-true}
use Rattle.std.proofs.lemmas.Bool.{leb-true}
use Rattle.safety_laws.specs.Log.{Entry}
use Rattle.safety_laws.specs.Events.{History}
use Rattle.safety_laws.specs.Facts.{IsCommitted, IsElected}
use Rattle.safety_laws.specs.Configs.{HoldNoConfig, MayProposeConfig, effective_config, is_quorum}
use Rattle.safety_laws.specs.Execution.{ConfigRules, IsExecution, Next, use_appended}
use Rattle.safety_laws.specs.Trace.{AreExact, Committed, IsSafeTrace, TermsHaveRanks, Tests, TraceEvent, appended_tests, are_allowed, candidate_log_in, commit_rule, earlier, events_in, has_acked, has_voted, history, hold_no_config, is_config_committed, is_elected, leader_log_in, proposal_rule, same_leader}
use Rattle.safety_laws.proofs.lemmas.RuleLemmas.{commit_tests, may_commit, may_propose, passes, proposal_tests}
use Rattle.safety_laws.proofs.lemmas.ExecutionLemmas.{Nothing, steady, step_keeps_facts}
use Rattle.safety_laws.proofs.lemmas.TestLemmas.{or_cases, leader_right, no_config_right, voted_right, acked_right}
use Rattle.safety_laws.proofs.lemmas.TraceLemmas as traces

module _ {T ID D M : Type 0} (k : Tests T ID D M) (exact : AreExact k) where
  abbrev Q : List (Entry T D) → (ID → Bool) → Bool
  Q = is_quorum k.rank k.config_of k.initial k.quorum_of

  abbrev Events : Type 0
  Events = List (TraceEvent T ID D)

  abbrev Rules : ConfigRules T ID D M
  Rules = use_appended k.rank k.config_of k.initial k.quorum_of

  abbrev Step : History T ID D → History T ID D → Type 0
  Step old new = Next k.rank k.config_of k.initial k.quorum_of old new

  abbrev IsRun : Events → Type 0
  IsRun es = IsExecution k.rank k.config_of k.initial k.quorum_of (history k es) (earlier k es)

  allowed_last : (e : TraceEvent T ID D) (es : Events) → are_allowed k (e ∷ es) ≡ true
      → passes k (appended_tests k) e es ≡ true
  allowed_last e es ok = traces.allowed_last k exact (appended_tests k) e es ok

  allowed_before : (e : TraceEvent T ID D) (es : Events) → are_allowed k (e ∷ es) ≡ true
      → are_allowed k es ≡ true
  allowed_before e es ok = traces.allowed_before k exact (appended_tests k) e es ok

  -- elected and committed
  pub elected_right : (es : Events) (t : T) (c : ID) → is_elected k es t c ≡ true
      → IsElected k.rank Q (history k es) t c
  elected_right es t c e =
      let a : Bool = has_voted k t c (events_in k es c) in
      let b : Bool = Q (candidate_log_in k es t c) (λ v. has_voted k t c (events_in k es v)) in
      record {
        voters = λ v. has_voted k t c (events_in k es v);
        is_quorum = second_so a b e;
        have_voted = λ v x. voted_right k exact t c (events_in k es v) x;
        for_itself = voted_right k exact t c (events_in k es c) (first_so a b e);
      }

  pub committed_right : (es : Events) (t : T) (c : ID) (n m : ℕ)
      → passes k (appended_tests k) (Committed c t n m) es ≡ true
      → IsCommitted k.rank Q (history k es) t c n m
  committed_right es t c n m e =
      let a : Bool = is_elected k es t c in
      let b : Bool = nat_lt (length (candidate_log_in k es t c)) n in
      let r : Bool = is_none (commit_rule k es t c n m) in
      let f : Bool = nat_le n m in
      let d : Bool = nat_le m (length (leader_log_in k es t c)) in
      let q : Bool =
      Q (take m (leader_log_in k es t c)) (λ v. has_acked k t c n (events_in k es v)) in
      let e1 = second_so a (b && r) e in
      let e2 : may_commit k es t c n m ≡ true = sym (commit_tests k es t c n m) ∙ second_so b r e1 in
      let e3 = second_so f (d && q) e2 in
      let within : n ≤ m = leb-true n m (first_so f (d && q) e2) in
      let written : m ≤ length (leader_log_in k es t c) =
      leb-true m (length (leader_log_in k es t c)) (first_so d q e3) in
      record {
        elected = elected_right es t c (first_so a (b && r) e);
        own_term = ltb-true (length (candidate_log_in k es t c)) n (first_so b r e1);
        written = omega (arith, within, written);
        having = λ v. has_acked k t c n (events_in k es v);
        is_quorum = record { within = within; written = written; is_quorum = second_so d q e3 };
        have_acked = λ v x. acked_right k exact t c n (events_in k es v) x;
      }

  -- a leader's commit after which no entry of this log holds a config
  record ConfigCommitted (es : Events) (t : T) (c : ID) (log : List (Entry T D)) : Type 0 where
    to : ℕ
    counted_at : ℕ
    committed : IsCommitted k.rank Q (history k es) t c to counted_at
    none_since : HoldNoConfig k.config_of (drop to log)

  lift_config : (e : TraceEvent T ID D) (es : Events) → are_allowed k (e ∷ es) ≡ true
      → IsRun (e ∷ es) → (t : T) (c : ID) (log : List (Entry T D)) → ConfigCommitted es t c log
      → ConfigCommitted (e ∷ es) t c log
  lift_config e es ok run t c log x =
      let facts =
      step_keeps_facts k.rank k.config_of k.initial k.quorum_of (traces.initial_intersects k exact (appended_tests k) (e ∷ es) ok)
      (history k (e ∷ es)) (history k es) (earlier k es) run in
      record {
        to = x.to;
        counted_at = x.counted_at;
        committed = (facts.committed t c x.to x.counted_at x.committed).0;
        none_since = x.none_since;
      }

  config_committed : (es : Events) → are_allowed k es ≡ true → IsRun es → (t : T) (c : ID)
      (log : List (Entry T D)) → is_config_committed k t c log es ≡ true
      → ConfigCommitted es t c log
  config_committed [] ok run t c log e = absurd (cc)
  config_committed (Committed d u n m ∷ es) ok run t c log e =
      lift_config (Committed d u n m) es ok run t c log
      (go (or_cases (same_leader k u d t c && hold_no_config k (drop n log))
      (is_config_committed k t c log es) e)
      (config_committed es (allowed_before (Committed d u n m) es ok) run.1 t c log))
    where
      go : (((same_leader k u d t c && hold_no_config k (drop n log)) ≡ true)
          ⊎ (is_config_committed k t c log es ≡ true))
          → (is_config_committed k t c log es ≡ true → ConfigCommitted es t c log)
          → ConfigCommitted es t c log
      go (inl x) rec =
          let a : Bool = same_leader k u d t c in
          let b : Bool = hold_no_config k (drop n log) in
          let same = leader_right k exact u t d c (first_so a b x) in
          let done : IsCommitted k.rank Q (history k es) u d n m =
          committed_right es u d n m (allowed_last (Committed d u n m) es ok) in
          record {
            to = n;
            counted_at = m;
            committed = rw (same.0, same.1) at done;
            none_since = no_config_right k exact (drop n log) (second_so a b x);
          }
      go (inr x) rec = rec x
  config_committed (x ∷ es) ok run t c log e =
      lift_config x es ok run t c log (config_committed es (allowed_before x es ok) run.1 t c log e)

  -- a config that passes the test may be proposed
  proposal : (es : Events) → are_allowed k es ≡ true → IsRun es → (t : T) (c : ID) (m : M)
      → is_none (proposal_rule k es t c (Some m)) ≡ true
      → MayProposeConfig k.rank k.config_of k.initial k.quorum_of (history k es) t c
      (leader_log_in k es t c) m
  proposal es ok run t c m e =
      let log : List (Entry T D) = leader_log_in k es t c in
      let now : M = effective_config k.config_of k.initial log in
      let f : may_propose k es t c m ≡ true = sym (proposal_tests k es t c m) ∙ e in
      let a : Bool = k.intersect now m in
      let b : Bool = k.intersect m m in
      let d : Bool = is_config_committed k t c log es in
      let f1 = second_so a (b && d) f in
      let x : ConfigCommitted es t c log =
      config_committed es ok run t c log (second_so b d f1) in
      record {
        committed_to = x.to;
        counted_at = x.counted_at;
        committed = x.committed;
        before = x.committed.is_quorum.written;
        none_since = x.none_since;
        old_and_new = exact.intersect now m (first_so a (b && d) f);
        new = exact.intersect m m (first_so b d f1);
      }

  right : traces.AreRight k (appended_tests k) Rules Step Nothing
  right = record {
    config_of = λ d. refl;
    steady = λ meet. steady k.rank k.config_of k.initial k.quorum_of meet;
    elected = elected_right;
    committed = λ es c t n m ok run.
        let facts =
        step_keeps_facts k.rank k.config_of k.initial k.quorum_of
        (traces.initial_intersects k exact (appended_tests k) (Committed c t n m ∷ es) ok)
        (history k (Committed c t n m ∷ es)) (history k es) (earlier k es) run in
        (facts.committed t c n m (committed_right es t c n m (allowed_last (Committed c t n m) es ok))).0;
    may_append = proposal;
    step = λ e es ok run next. next;
  }

  pub trace_is_safe : (es : Events) → TermsHaveRanks k es → are_allowed k es ≡ true
      → IsSafeTrace k es
  trace_is_safe es ranks ok = traces.trace_is_safe k exact (appended_tests k) Rules Step Nothing right es ranks ok
