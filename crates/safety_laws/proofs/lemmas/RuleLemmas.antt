-- What an event that breaks no rule passes, as conjunctions of tests.
use Rattle.std.specs.Prelude.{◌≡◌, ℕ, Bool, true, false, not, ◌&&◌, ◌||◌, nat_lt, nat_le, Option, Some, None, is_none, List, ◌++◌, length, take, drop}
use Rattle.std.proofs.Common.{refl, ap, ◌∙◌}
use Rattle.std.proofs.Math.Bool.{and_comm}
use Rattle.safety_laws.specs.declared.rule.Rule.TheVariants.{NoCampaign, OwnCandidate, CandidateBehind, OtherTerm, ApartConfigs, ApartQuorums, EarlyConfig, EarlierTerm, CountedEarly, CountedLate, UnknownConfig, ConfigsFollow, NoQuorum, NotInLog, NotCommitted, CampaignedTwice, NotElected, PassedTerm, MissingEntries, DropsMatching, ForeignEntries, TermNotReached, NotWritten, NotKept, LostAcked}
use Rattle.safety_laws.specs.Configs.{effective_config}
use Rattle.safety_laws.specs.Trace.{Tests, TraceEvent, Campaigned, Granted, Appended, Acked, Restarted, Wrote, Committed, Applied, durable, term_in, voted_in, log_in, is_up_to_date, events_in, has_campaigned, ConfigTests, is_allowed_by, commit_rule, has_kept, has_acked, candidate_log_in, leader_log_in, is_config_committed, is_known_committed, is_quorum_of_log, is_prefix, common_prefix, unless, proposal_rule}
use Rattle.safety_laws.specs.AppliedTrace.{hold_at_most_one, intersect_rule, known_commit_rule, may_count_acks}
use Rattle.safety_laws.specs.declared.rule.Rule.{Rule}

-- ---- tests in a row

rule_first : (b : Bool) (r : Rule) (o : Option Rule) → is_none (unless b r o) ≡ (b && is_none o)
rule_first true r o = refl
rule_first false r o = refl

and_swap : (a b c : Bool) → (a && (b && c)) ≡ (b && (a && c))
and_swap true b c = refl
and_swap false true c = refl
and_swap false false c = refl

rules_2 : (a b : Bool) (p q : Rule) → is_none (unless a p (unless b q None)) ≡ (a && b)
rules_2 true true p q = refl
rules_2 true false p q = refl
rules_2 false b p q = refl

rules_3 : (a b c : Bool) (p q r : Rule)
    → is_none (unless a p (unless b q (unless c r None))) ≡ (a && (b && c))
rules_3 true b c p q r = rules_2 b c q r
rules_3 false b c p q r = refl

rules_4 : (a b c d : Bool) (p q r s : Rule)
    → is_none (unless a p (unless b q (unless c r (unless d s None)))) ≡ (a && (b && (c && d)))
rules_4 true b c d p q r s = rules_3 b c d q r s
rules_4 false b c d p q r s = refl

rules_5 : (a b c d e : Bool) (p q r s t : Rule)
    → is_none (unless a p (unless b q (unless c r (unless d s (unless e t None)))))
    ≡ (a && (b && (c && (d && e))))
rules_5 true b c d e p q r s t = rules_4 b c d e q r s t
rules_5 false b c d e p q r s t = refl

pub first_none : (b : Bool) (r : Rule) (o : Option Rule) → unless b r o ≡ None → b ≡ true
first_none true r o e = refl
first_none false r o e = absurd (cc)

pub rest_none : (b : Bool) (r : Rule) (o : Option Rule) → unless b r o ≡ None → o ≡ None
rest_none true r o e = e
rest_none false r o e = absurd (cc)

-- ---- an event breaks no rule exactly if it passes each test

module _ {T ID D M : Type 0} (k : Tests T ID D M) (conf : ConfigTests T ID D M) where
  -- an event passes each test after the earlier ones
  abbrev pub passes : TraceEvent T ID D → List (TraceEvent T ID D) → Bool
  passes (Campaigned c t) es =
      nat_lt (term_in k es c) (k.rank t) && not (has_campaigned k t c es)
  passes (Granted s t c) es =
      (nat_le (term_in k es s) (k.rank t) && nat_lt (voted_in k es s) (k.rank t))
      && (has_campaigned k t c es && (not (k.same_id c s)
      && is_up_to_date k (candidate_log_in k es t c) (log_in k es s)))
  passes (Appended s t c n sent) es =
      nat_le (term_in k es s) (k.rank t) && (conf.is_elected es t c
      && (nat_le n (length (log_in k es s))
      && (is_prefix k (common_prefix k (log_in k es s) (leader_log_in k es t c))
      (take n (log_in k es s) ++ sent)
      && (is_prefix k (take n (log_in k es s) ++ sent) (log_in k es s)
      || is_prefix k (take n (log_in k es s) ++ sent) (leader_log_in k es t c)))))
  passes (Acked s t c n) es =
      nat_le (k.rank t) (term_in k es s) && (conf.is_elected es t c
      && (nat_le n (length (leader_log_in k es t c))
      && has_kept k (k.rank t) (take n (leader_log_in k es t c)) (events_in k es s)))
  passes (Restarted s n) es =
      nat_le (durable k (events_in k es s)) n && nat_le n (length (log_in k es s))
  passes (Wrote c t e) es =
      conf.is_elected es t c && (k.same_term e.term t && is_none (conf.config_rule es t c (k.config_of e.content)))
  passes (Committed c t n m) es =
      conf.is_elected es t c && (nat_lt (length (candidate_log_in k es t c)) n && is_none (conf.commit_rule es t c n m))
  passes (Applied s t c n) es =
      conf.is_elected es t c && (nat_le n (length (leader_log_in k es t c))
      && (is_prefix k (take n (leader_log_in k es t c)) (log_in k es s)
      && is_known_committed k (k.rank t) (take n (leader_log_in k es t c)) es))

  pub allowed_by_rules : (e : TraceEvent T ID D) (es : List (TraceEvent T ID D))
      → is_allowed_by k conf e es ≡ passes e es
  allowed_by_rules (Campaigned c t) es =
      let new : Bool = not (has_campaigned k t c es) in
      let term : Bool = nat_lt (term_in k es c) (k.rank t) in
      rules_2 new term CampaignedTwice PassedTerm ∙ and_comm new term
  allowed_by_rules (Granted s t c) es =
      let campaigned : Bool = has_campaigned k t c es in
      let term : Bool = nat_le (term_in k es s) (k.rank t) && nat_lt (voted_in k es s) (k.rank t) in
      let other : Bool = not (k.same_id c s) in
      let log : Bool = is_up_to_date k (candidate_log_in k es t c) (log_in k es s) in
      rules_4 campaigned term other log NoCampaign PassedTerm OwnCandidate CandidateBehind
      ∙ and_swap campaigned term (other && log)
  allowed_by_rules (Appended s t c n sent) es =
      let elected : Bool = conf.is_elected es t c in
      let term : Bool = nat_le (term_in k es s) (k.rank t) in
      let within : Bool = nat_le n (length (log_in k es s)) in
      let keeps : Bool =
      is_prefix k (common_prefix k (log_in k es s) (leader_log_in k es t c)) (take n (log_in k es s) ++ sent) in
      let of_these : Bool =
      is_prefix k (take n (log_in k es s) ++ sent) (log_in k es s)
      || is_prefix k (take n (log_in k es s) ++ sent) (leader_log_in k es t c) in
      rules_5 elected term within keeps of_these NotElected PassedTerm MissingEntries DropsMatching ForeignEntries
      ∙ and_swap elected term (within && (keeps && of_these))
  allowed_by_rules (Acked s t c n) es =
      let elected : Bool = conf.is_elected es t c in
      let term : Bool = nat_le (k.rank t) (term_in k es s) in
      let written : Bool = nat_le n (length (leader_log_in k es t c)) in
      let kept : Bool = has_kept k (k.rank t) (take n (leader_log_in k es t c)) (events_in k es s) in
      rules_4 elected term written kept NotElected TermNotReached NotWritten NotKept
      ∙ and_swap elected term (written && kept)
  allowed_by_rules (Restarted s n) es =
      rules_2 (nat_le (durable k (events_in k es s)) n) (nat_le n (length (log_in k es s))) LostAcked
      MissingEntries
  allowed_by_rules (Wrote c t e) es =
      rule_first (conf.is_elected es t c) NotElected
      (unless (k.same_term e.term t) OtherTerm (conf.config_rule es t c (k.config_of e.content)))
      ∙ ap (λ x. conf.is_elected es t c && x)
      (rule_first (k.same_term e.term t) OtherTerm (conf.config_rule es t c (k.config_of e.content)))
  allowed_by_rules (Committed c t n m) es =
      let own : Bool = nat_lt (length (candidate_log_in k es t c)) n in
      rule_first (conf.is_elected es t c) NotElected (unless own EarlierTerm (conf.commit_rule es t c n m))
      ∙ ap (λ x. conf.is_elected es t c && x) (rule_first own EarlierTerm (conf.commit_rule es t c n m))
  allowed_by_rules (Applied s t c n) es =
      rules_4 (conf.is_elected es t c) (nat_le n (length (leader_log_in k es t c)))
      (is_prefix k (take n (leader_log_in k es t c)) (log_in k es s))
      (is_known_committed k (k.rank t) (take n (leader_log_in k es t c)) es) NotElected NotWritten NotInLog
      NotCommitted

-- ---- each config counts from its append on

module _ {T ID D M : Type 0} (k : Tests T ID D M) where
  -- a leader's first n entries, the last of its own term, are committed by a quorum of the config after
  -- its first m entries
  abbrev pub may_commit : List (TraceEvent T ID D) → T → ID → ℕ → ℕ → Bool
  may_commit es t c n m =
      nat_le n m && (nat_le m (length (leader_log_in k es t c))
      && is_quorum_of_log k (take m (leader_log_in k es t c))
      (λ v. has_acked k t c n (events_in k es v)))

  -- a leader may append an entry that holds this config
  abbrev pub may_propose : List (TraceEvent T ID D) → T → ID → M → Bool
  may_propose es t c m =
      k.intersect (effective_config k.config_of k.initial (leader_log_in k es t c)) m
      && (k.intersect m m && is_config_committed k t c (leader_log_in k es t c) es)

  pub commit_tests : (es : List (TraceEvent T ID D)) (t : T) (c : ID) (n m : ℕ)
      → is_none (commit_rule k es t c n m) ≡ may_commit es t c n m
  commit_tests es t c n m =
      rules_3 (nat_le n m) (nat_le m (length (leader_log_in k es t c)))
      (is_quorum_of_log k (take m (leader_log_in k es t c)) (λ v. has_acked k t c n (events_in k es v)))
      CountedEarly NotWritten NoQuorum

  pub proposal_tests : (es : List (TraceEvent T ID D)) (t : T) (c : ID) (m : M)
      → is_none (proposal_rule k es t c (Some m)) ≡ may_propose es t c m
  proposal_tests es t c m =
      rules_3 (k.intersect (effective_config k.config_of k.initial (leader_log_in k es t c)) m)
      (k.intersect m m) (is_config_committed k t c (leader_log_in k es t c) es) ApartConfigs ApartQuorums
      EarlyConfig

-- ---- each config counts once it is applied

module _ {T ID D M : Type 0} (k : Tests T ID D M) where
  -- a leader's first n entries, the last of its own term, are committed by a quorum of the config of its
  -- first m entries
  abbrev pub may_commit_known : List (TraceEvent T ID D) → T → ID → ℕ → ℕ → Bool
  may_commit_known es t c n m =
      nat_le m n && (nat_le n (length (leader_log_in k es t c)) && (may_count_acks k es t c m
      && (hold_at_most_one k (drop m (take n (leader_log_in k es t c)))
      && is_quorum_of_log k (take m (leader_log_in k es t c))
      (λ v. has_acked k t c n (events_in k es v)))))

  pub known_commit_tests : (es : List (TraceEvent T ID D)) (t : T) (c : ID) (n m : ℕ)
      → is_none (known_commit_rule k es t c n m) ≡ may_commit_known es t c n m
  known_commit_tests es t c n m =
      rules_5 (nat_le m n) (nat_le n (length (leader_log_in k es t c))) (may_count_acks k es t c m)
      (hold_at_most_one k (drop m (take n (leader_log_in k es t c))))
      (is_quorum_of_log k (take m (leader_log_in k es t c)) (λ v. has_acked k t c n (events_in k es v)))
      CountedLate NotWritten UnknownConfig ConfigsFollow NoQuorum

  pub intersect_tests : (es : List (TraceEvent T ID D)) (t : T) (c : ID) (m : M)
      → is_none (intersect_rule k es t c (Some m))
      ≡ (k.intersect (effective_config k.config_of k.initial (leader_log_in k es t c)) m && k.intersect m m)
  intersect_tests es t c m =
      rules_2 (k.intersect (effective_config k.config_of k.initial (leader_log_in k es t c)) m)
      (k.intersect m m) ApartConfigs ApartQuorums
