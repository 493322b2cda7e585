-- Recorded traces of a cluster in which each config counts once it is applied. A trace has the same
-- events. The second number of `Committed` says where the config is that the leader counts by: it is the
-- last one among so many first entries of its log.
use Rattle.std.specs.Prelude.{◌≡◌, ℕ, zero, suc, Bool, true, ◌&&◌, ◌||◌, nat_lt, nat_le, nat_eq, Option, Some, None, is_none, List, [], ◌∷◌, length, take, drop}
use Rattle.safety_laws.specs.Log.{Entry}
use Rattle.safety_laws.specs.Configs.{effective_config}
use Rattle.safety_laws.specs.AppliedConfigs.{applied}
use Rattle.safety_laws.specs.AppliedExecution.{NextWhenApplied}
use Rattle.safety_laws.specs.Trace.{AreExact, ConfigTests, IsSafeTraceBy, TermsHaveRanks, Tests, TraceEvent, are_allowed_by, candidate_log_in, counts_votes, events_in, has_acked, has_voted, hold_no_config, is_known_by, is_quorum_of_log, leader_log_in, unless}
use Rattle.safety_laws.specs.declared.rule.Rule.{Rule}
use Rattle.safety_laws.specs.declared.rule.Rule.TheVariants.{ApartConfigs, ApartQuorums, ConfigsFollow, CountedLate, NoQuorum, NotWritten, UnknownConfig}

-- it holds of one of the numbers up to n
abbrev pub some_upto : ℕ → (ℕ → Bool) → Bool
some_upto zero f = f zero
some_upto (suc n) f = f (suc n) || some_upto n f

module _ {T ID D M : Type 0} (k : Tests T ID D M) where
  -- at most one of the entries holds a config
  abbrev pub hold_at_most_one : List (Entry T D) → Bool
  hold_at_most_one [] = true
  hold_at_most_one (e ∷ es) =
      hold_no_config k es || (is_none (k.config_of e.content) && hold_at_most_one es)

  -- a commit is of an earlier term, or of this one and counted at a shorter length
  abbrev pub is_shorter : T → ℕ → T → ℕ → Bool
  is_shorter t a u m =
      nat_lt (k.rank u) (k.rank t) || (nat_eq (k.rank u) (k.rank t) && nat_lt m a)

  -- a leader may count by the config of its first so many entries: it is the initial one, or a leader of
  -- an earlier term has committed it, or this one has, counting by an earlier config
  abbrev pub may_count_acks : List (TraceEvent T ID D) → T → ID → ℕ → Bool
  may_count_acks es t c a =
      hold_no_config k (take a (leader_log_in k es t c))
      || is_known_by k (is_shorter t a) (take a (leader_log_in k es t c)) es

  -- a quorum of the config of a candidate's first so many entries has voted for it, the config is known
  -- to it, and at most one config follows in its log
  abbrev pub has_votes_by : List (TraceEvent T ID D) → T → ID → ℕ → Bool
  has_votes_by es t c a =
      counts_votes k es t c a && (hold_at_most_one (drop a (candidate_log_in k es t c))
      && is_quorum_of_log k (take a (candidate_log_in k es t c))
      (λ v. has_voted k t c (events_in k es v)))

  -- a candidate is elected: it has voted for itself in time, and so has a quorum of such a config
  abbrev pub is_elected_by_known : List (TraceEvent T ID D) → T → ID → Bool
  is_elected_by_known es t c =
      has_voted k t c (events_in k es c)
      && some_upto (length (candidate_log_in k es t c)) (has_votes_by es t c)

  -- the first rule that a leader breaks by a commit
  abbrev pub known_commit_rule : List (TraceEvent T ID D) → T → ID → ℕ → ℕ → Option Rule
  known_commit_rule es t c n m =
      unless (nat_le m n) CountedLate
      (unless (nat_le n (length (leader_log_in k es t c))) NotWritten
      (unless (may_count_acks es t c m) UnknownConfig
      (unless (hold_at_most_one (drop m (take n (leader_log_in k es t c)))) ConfigsFollow
      (unless (is_quorum_of_log k (take m (leader_log_in k es t c))
      (λ v. has_acked k t c n (events_in k es v))) NoQuorum None))))

  -- the first rule that a leader breaks by an entry that holds this config, if it holds one
  abbrev pub intersect_rule : List (TraceEvent T ID D) → T → ID → Option M → Option Rule
  intersect_rule es t c None = None
  intersect_rule es t c (Some m) =
      unless (k.intersect (effective_config k.config_of k.initial (leader_log_in k es t c)) m) ApartConfigs
      (unless (k.intersect m m) ApartQuorums None)

  abbrev pub applied_tests : ConfigTests T ID D M
  applied_tests = record {
    is_elected = is_elected_by_known;
    commit_rule = known_commit_rule;
    config_rule = intersect_rule;
  }

  -- a trace is an execution, so its history is safe, and no two servers apply different entries
  abbrev pub IsSafeAppliedTrace : List (TraceEvent T ID D) → Type 0
  IsSafeAppliedTrace es =
      IsSafeTraceBy k (applied k.rank k.config_of k.initial k.quorum_of)
      (NextWhenApplied k.rank k.config_of k.initial k.quorum_of) es

-- a trace that passes the test is an execution
abbrev pub AppliedTracesAreExecutions : Type 0 → Type 0 → Type 0 → Type 0 → Type 0
AppliedTracesAreExecutions T ID D M =
    (k : Tests T ID D M) → AreExact k → (es : List (TraceEvent T ID D)) → TermsHaveRanks k es
    → are_allowed_by k (applied_tests k) es ≡ true → IsSafeAppliedTrace k es
