-- Recorded traces of a cluster: the history that a trace makes, and the test that each event of it was
-- allowed after the earlier ones. A clause at `x ∷ es` is about all events that the clauses above it do
-- not name.
use Rattle.std.specs.Prelude.{◌≡◌, ◌⊎◌, ℕ, Bool, true, false, not, ◌&&◌, ◌||◌, nat_lt, nat_le, nat_eq, min, max, if◌then◌else◌, Option, Some, None, is_none, List, [], ◌∷◌, ◌++◌, length, take, drop}
use Rattle.safety_laws.specs.Log.{Entry, IsPrefix, last_term}
use Rattle.safety_laws.specs.Events.{Event, GrantVote, LateVote, Append, Ack, Restart, History, term_after, voted_after, log_after}
use Rattle.safety_laws.specs.Configs.{effective_config, is_quorum, QuorumsIntersect}
use Rattle.safety_laws.specs.Ranks.{IsAmong}
use Rattle.safety_laws.specs.Facts.{Counting, appended}
use Rattle.safety_laws.specs.Safety.{IsSafeBy}
use Rattle.safety_laws.specs.Execution.{IsExecutionBy, Next}
use Rattle.safety_laws.specs.declared.counting.ConfigsCount.{ConfigsCount}
use Rattle.safety_laws.specs.declared.rule.Rule.{Rule}
use Rattle.safety_laws.specs.declared.rule.Rule.TheVariants.{PassedTerm, CampaignedTwice, NoCampaign, OwnCandidate, CandidateBehind, NotElected, MissingEntries, DropsMatching, ForeignEntries, TermNotReached, NotWritten, NotKept, LostAcked, OtherTerm, ApartConfigs, ApartQuorums, EarlyConfig, EarlierTerm, CountedEarly, NoQuorum, NotInLog, NotCommitted}

-- a recorded event. Events of different servers are in one order, in which an event comes after those
-- that it depends on. A trace is a list of them, the latest first
pub data TraceEvent (T ID D : Type 0) : Type 0 where
  -- a server starts a campaign in a term, with its log as it is, and votes for itself
  Campaigned : ID → T → TraceEvent T ID D
  -- a server grants its vote in a term to another, a candidate. If it has taken entries in the term,
  -- the vote is late, and no election counts it
  Granted : ID → T → ID → TraceEvent T ID D
  -- a server takes entries in a term from its leader: it keeps so many first entries of its log, and
  -- has these after them
  Appended : ID → T → ID → ℕ → List (Entry T D) → TraceEvent T ID D
  -- a server acknowledges so many first entries in a term to its leader
  Acked : ID → T → ID → ℕ → TraceEvent T ID D
  -- a server restarts with so many first entries of its log
  Restarted : ID → ℕ → TraceEvent T ID D
  -- a leader writes an entry in its term
  Wrote : ID → T → Entry T D → TraceEvent T ID D
  -- a leader commits so many first entries in its term, by a quorum of the config that was in effect
  -- when its log had as many entries as the second number
  Committed : ID → T → ℕ → ℕ → TraceEvent T ID D
  -- a server applies so many first entries, which are those of the leader of a term
  Applied : ID → T → ID → ℕ → TraceEvent T ID D

-- what the test compares by: the ranks of terms, tests whether terms, ids and contents are equal, the
-- config that a content holds, the initial config, what a quorum of a config is, a test whether quorums
-- of two configs intersect, and when configs count
pub record Tests (T ID D M : Type 0) : Type 0 where
  pub rank : T → ℕ
  pub same_term : T → T → Bool
  pub same_id : ID → ID → Bool
  pub same_content : D → D → Bool
  pub config_of : D → Option M
  pub initial : M
  pub quorum_of : M → (ID → Bool) → Bool
  pub intersect : M → M → Bool
  pub counting : ConfigsCount

-- ---- the history that a trace makes

module _ {T ID D : Type 0} where
  -- events of a server, and one more: it keeps so many entries of its log and appends these
  abbrev pub and_append : T → ID → ℕ → List (Entry T D) → List (Event T ID D) → List (Event T ID D)
  and_append t c n sent es = Append t c (take n (log_after es) ++ sent) ∷ es

  -- events of a server, and one more: it restarts with so many entries of its log
  abbrev pub and_restart : ℕ → List (Event T ID D) → List (Event T ID D)
  and_restart n es = Restart (take n (log_after es)) ∷ es

module _ {T ID D M : Type 0} (k : Tests T ID D M) where
  -- events of a server, and one more: it votes in a term, late if it has reached the term already
  abbrev pub and_vote : T → ID → List (Event T ID D) → List (Event T ID D)
  and_vote t c es =
      (if nat_lt (term_after k.rank es) (k.rank t) then GrantVote t c else LateVote t c) ∷ es

  -- the leader or candidate of one term is that of the other
  abbrev pub same_leader : T → ID → T → ID → Bool
  same_leader t c u d = k.same_term t u && k.same_id c d

  -- the events of a server
  abbrev pub events_in : List (TraceEvent T ID D) → ID → List (Event T ID D)
  events_in [] s = []
  events_in (Campaigned r t ∷ es) s =
      if k.same_id r s then GrantVote t r ∷ events_in es s else events_in es s
  events_in (Granted r t c ∷ es) s =
      if k.same_id r s then and_vote t c (events_in es s) else events_in es s
  events_in (Appended r t c n sent ∷ es) s =
      if k.same_id r s then and_append t c n sent (events_in es s) else events_in es s
  events_in (Acked r t c n ∷ es) s =
      if k.same_id r s then Ack t c n ∷ events_in es s else events_in es s
  events_in (Restarted r n ∷ es) s =
      if k.same_id r s then and_restart n (events_in es s) else events_in es s
  events_in (x ∷ es) s = events_in es s

  -- the log of a server
  abbrev pub log_in : List (TraceEvent T ID D) → ID → List (Entry T D)
  log_in es s = log_after (events_in es s)

  -- the rank of the term that a server has reached
  abbrev pub term_in : List (TraceEvent T ID D) → ID → ℕ
  term_in es s = term_after k.rank (events_in es s)

  -- the rank of the term in which a server has voted last, in time or late, 0 if it has not voted
  abbrev pub voted_in : List (TraceEvent T ID D) → ID → ℕ
  voted_in es s = voted_after k.rank (events_in es s)

  -- the log with which the candidate of a term asked for votes
  abbrev pub candidate_log_in : List (TraceEvent T ID D) → T → ID → List (Entry T D)
  candidate_log_in [] u d = []
  candidate_log_in (Campaigned c t ∷ es) u d =
      if same_leader t c u d then log_in es c else candidate_log_in es u d
  candidate_log_in (x ∷ es) u d = candidate_log_in es u d

  -- the log of the leader of a term
  abbrev pub leader_log_in : List (TraceEvent T ID D) → T → ID → List (Entry T D)
  leader_log_in [] u d = []
  leader_log_in (Campaigned c t ∷ es) u d =
      if same_leader t c u d then log_in es c else leader_log_in es u d
  leader_log_in (Wrote c t e ∷ es) u d =
      if same_leader t c u d then leader_log_in es u d ++ e ∷ [] else leader_log_in es u d
  leader_log_in (x ∷ es) u d = leader_log_in es u d

-- the terms of all campaigns
abbrev pub campaign_terms : {T ID D : Type 0} → List (TraceEvent T ID D) → List T
campaign_terms [] = []
campaign_terms (Campaigned c t ∷ es) = t ∷ campaign_terms es
campaign_terms (x ∷ es) = campaign_terms es

-- ---- tests of logs

module _ {T ID D M : Type 0} (k : Tests T ID D M) where
  -- two entries have equal terms and equal contents
  abbrev pub same_entry : Entry T D → Entry T D → Bool
  same_entry e f = k.same_term e.term f.term && k.same_content e.content f.content

  -- a log begins with these entries
  abbrev pub is_prefix : List (Entry T D) → List (Entry T D) → Bool
  is_prefix [] log = true
  is_prefix (e ∷ es) [] = false
  is_prefix (e ∷ es) (f ∷ fs) = same_entry e f && is_prefix es fs

  -- the entries with which both logs begin
  abbrev pub common_prefix : List (Entry T D) → List (Entry T D) → List (Entry T D)
  common_prefix [] log = []
  common_prefix (e ∷ es) [] = []
  common_prefix (e ∷ es) (f ∷ fs) = if same_entry e f then e ∷ common_prefix es fs else []

  -- a log is at least as up to date as another
  abbrev pub is_up_to_date : List (Entry T D) → List (Entry T D) → Bool
  is_up_to_date log other =
      nat_lt (last_term k.rank other) (last_term k.rank log)
      || (nat_eq (last_term k.rank other) (last_term k.rank log)
      && nat_le (length other) (length log))

  -- none of the entries holds a config
  abbrev pub hold_no_config : List (Entry T D) → Bool
  hold_no_config [] = true
  hold_no_config (e ∷ es) = is_none (k.config_of e.content) && hold_no_config es

-- ---- which configs are known to be committed

module _ {T ID D M : Type 0} (k : Tests T ID D M) where
  -- a leader has recorded a commit of these entries, in a term and counted at a length that are early
  -- enough
  abbrev pub is_known_by : (T → ℕ → Bool) → List (Entry T D) → List (TraceEvent T ID D) → Bool
  is_known_by early p [] = false
  is_known_by early p (Committed c t n m ∷ es) =
      (early t m && is_prefix k p (take n (leader_log_in k es t c))) || is_known_by early p es
  is_known_by early p (x ∷ es) = is_known_by early p es

  -- the term of a commit is earlier than this one
  abbrev pub is_earlier : T → T → ℕ → Bool
  is_earlier t u m = nat_lt (k.rank u) (k.rank t)

  -- if a config counts once it is applied: a candidate may count votes by the config of its first so
  -- many entries, because it is the initial one or a leader of an earlier term has committed it
  abbrev pub counts_votes : List (TraceEvent T ID D) → T → ID → ℕ → Bool
  counts_votes es t c a =
      hold_no_config k (take a (candidate_log_in k es t c))
      || is_known_by (is_earlier t) (take a (candidate_log_in k es t c)) es

  -- a leader has recorded a commit that it counted by the config of its first so many entries
  abbrev pub counts_acks : List (TraceEvent T ID D) → T → ID → ℕ → Bool
  counts_acks [] u d a = false
  counts_acks (Committed c t n m ∷ es) u d a =
      (same_leader k t c u d && nat_eq m a) || counts_acks es u d a
  counts_acks (x ∷ es) u d a = counts_acks es u d a

  -- the history of a trace: the events of each server, and the logs of candidates and leaders, and what
  -- these counted by if a config counts once it is applied
  abbrev pub history : List (TraceEvent T ID D) → History T ID D
  history es = record {
    events = events_in k es;
    candidate_log = candidate_log_in k es;
    leader_log = leader_log_in k es;
    votes_by = counts_votes es;
    acks_by = counts_acks es;
  }

  -- the histories before the last event, before the one before it, and so on
  abbrev pub earlier : List (TraceEvent T ID D) → List (History T ID D)
  earlier [] = []
  earlier (e ∷ es) = history es ∷ earlier es

-- ---- tests of one server's events

module _ {T ID D M : Type 0} (k : Tests T ID D M) where
  -- the server has granted its vote in this term to this candidate in time, before it took entries of
  -- the term. A late vote is not counted
  abbrev pub has_voted : T → ID → List (Event T ID D) → Bool
  has_voted u d [] = false
  has_voted u d (GrantVote t c ∷ es) = same_leader k t c u d || has_voted u d es
  has_voted u d (x ∷ es) = has_voted u d es

  -- the server has acknowledged m entries or more to the leader of this term
  abbrev pub has_acked : T → ID → ℕ → List (Event T ID D) → Bool
  has_acked u d m [] = false
  has_acked u d m (Ack t c n ∷ es) = (same_leader k t c u d && nat_le m n) || has_acked u d m es
  has_acked u d m (x ∷ es) = has_acked u d m es

  -- the log begins with these entries, and has done so since a term of at most this rank
  abbrev pub has_kept : ℕ → List (Entry T D) → List (Event T ID D) → Bool
  has_kept r p [] = is_prefix k p []
  has_kept r p (e ∷ es) =
      is_prefix k p (log_after (e ∷ es))
      && (nat_le (term_after k.rank (e ∷ es)) r || has_kept r p es)

  -- the number of first entries that are durable
  abbrev pub durable : List (Event T ID D) → ℕ
  durable [] = 0
  durable (Append t c log ∷ es) = min (durable es) (length (common_prefix k (log_after es) log))
  durable (Ack t c n ∷ es) = max n (durable es)
  durable (Restart log ∷ es) = min (durable es) (length (common_prefix k (log_after es) log))
  durable (x ∷ es) = durable es

-- ---- the test of a trace

-- the rule is broken unless the test holds; then a later one may be
abbrev pub unless : Bool → Rule → Option Rule → Option Rule
unless holds rule rest = if holds then rest else Some rule

module _ {T ID D M : Type 0} (k : Tests T ID D M) where
  -- there was a campaign in this term of this candidate
  abbrev pub has_campaigned : T → ID → List (TraceEvent T ID D) → Bool
  has_campaigned u d [] = false
  has_campaigned u d (Campaigned c t ∷ es) = same_leader k t c u d || has_campaigned u d es
  has_campaigned u d (x ∷ es) = has_campaigned u d es

  -- a leader of a term of at most this rank has recorded a commit of at least these entries
  abbrev pub is_known_committed : ℕ → List (Entry T D) → List (TraceEvent T ID D) → Bool
  is_known_committed r p [] = false
  is_known_committed r p (Committed c t n m ∷ es) =
      (nat_le (k.rank t) r && is_prefix k p (take n (leader_log_in k es t c)))
      || is_known_committed r p es
  is_known_committed r p (x ∷ es) = is_known_committed r p es

  -- the entries that some server applied, from the first one on, when it did so
  abbrev pub WasApplied : List (Entry T D) → List (TraceEvent T ID D) → Type 0
  WasApplied a [] = ⊥
  WasApplied a (Applied s t c n ∷ es) = (a ≡ take n (log_in k es s)) ⊎ WasApplied a es
  WasApplied a (x ∷ es) = WasApplied a es

-- what the test has to know of how configs are used: which candidates are elected, and which rule a
-- leader breaks first by a commit or by an entry that holds a config, if it holds one
pub record ConfigTests (T ID D M : Type 0) : Type 0 where
  pub is_elected : List (TraceEvent T ID D) → T → ID → Bool
  pub commit_rule : List (TraceEvent T ID D) → T → ID → ℕ → ℕ → Option Rule
  pub config_rule : List (TraceEvent T ID D) → T → ID → Option M → Option Rule

module _ {T ID D M : Type 0} (k : Tests T ID D M) (conf : ConfigTests T ID D M) where
  -- the first rule that an event breaks after the earlier ones: rules about its leader come first
  abbrev pub broken_rule_by : TraceEvent T ID D → List (TraceEvent T ID D) → Option Rule
  broken_rule_by (Campaigned c t) es =
      unless (not (has_campaigned k t c es)) CampaignedTwice
      (unless (nat_lt (term_in k es c) (k.rank t)) PassedTerm None)
  broken_rule_by (Granted s t c) es =
      unless (has_campaigned k t c es) NoCampaign
      (unless (nat_le (term_in k es s) (k.rank t) && nat_lt (voted_in k es s) (k.rank t)) PassedTerm
      (unless (not (k.same_id c s)) OwnCandidate
      (unless (is_up_to_date k (candidate_log_in k es t c) (log_in k es s)) CandidateBehind None)))
  broken_rule_by (Appended s t c n sent) es =
      unless (conf.is_elected es t c) NotElected
      (unless (nat_le (term_in k es s) (k.rank t)) PassedTerm
      (unless (nat_le n (length (log_in k es s))) MissingEntries
      (unless (is_prefix k (common_prefix k (log_in k es s) (leader_log_in k es t c))
      (take n (log_in k es s) ++ sent)) DropsMatching
      (unless (is_prefix k (take n (log_in k es s) ++ sent) (log_in k es s)
      || is_prefix k (take n (log_in k es s) ++ sent) (leader_log_in k es t c)) ForeignEntries None))))
  broken_rule_by (Acked s t c n) es =
      unless (conf.is_elected es t c) NotElected
      (unless (nat_le (k.rank t) (term_in k es s)) TermNotReached
      (unless (nat_le n (length (leader_log_in k es t c))) NotWritten
      (unless (has_kept k (k.rank t) (take n (leader_log_in k es t c)) (events_in k es s)) NotKept None)))
  broken_rule_by (Restarted s n) es =
      unless (nat_le (durable k (events_in k es s)) n) LostAcked
      (unless (nat_le n (length (log_in k es s))) MissingEntries None)
  broken_rule_by (Wrote c t e) es =
      unless (conf.is_elected es t c) NotElected
      (unless (k.same_term e.term t) OtherTerm (conf.config_rule es t c (k.config_of e.content)))
  broken_rule_by (Committed c t n m) es =
      unless (conf.is_elected es t c) NotElected
      (unless (nat_lt (length (candidate_log_in k es t c)) n) EarlierTerm (conf.commit_rule es t c n m))
  broken_rule_by (Applied s t c n) es =
      unless (conf.is_elected es t c) NotElected
      (unless (nat_le n (length (leader_log_in k es t c))) NotWritten
      (unless (is_prefix k (take n (leader_log_in k es t c)) (log_in k es s)) NotInLog
      (unless (is_known_committed k (k.rank t) (take n (leader_log_in k es t c)) es) NotCommitted None)))

  -- an event is allowed after the earlier ones if it breaks no rule
  abbrev pub is_allowed_by : TraceEvent T ID D → List (TraceEvent T ID D) → Bool
  is_allowed_by e es = is_none (broken_rule_by e es)

  -- quorums of the initial config intersect, and each event is allowed after the earlier ones
  abbrev pub are_allowed_by : List (TraceEvent T ID D) → Bool
  are_allowed_by [] = k.intersect k.initial k.initial
  are_allowed_by (e ∷ es) = is_allowed_by e es && are_allowed_by es

-- ---- each config counts from its append on

module _ {T ID D M : Type 0} (k : Tests T ID D M) where
  -- a set is a quorum of the config in effect in a log
  abbrev pub is_quorum_of_log : List (Entry T D) → (ID → Bool) → Bool
  is_quorum_of_log log set = is_quorum k.rank k.config_of k.initial k.quorum_of log set

  -- a candidate is elected: it and a quorum of the config in its log have voted for it in the term,
  -- each in time
  abbrev pub is_elected : List (TraceEvent T ID D) → T → ID → Bool
  is_elected es t c =
      has_voted k t c (events_in k es c)
      && is_quorum_of_log (candidate_log_in k es t c) (λ v. has_voted k t c (events_in k es v))

  -- the leader of this term, whose log is this now, has recorded a commit after which no entry of its
  -- log holds a config
  abbrev pub is_config_committed : T → ID → List (Entry T D) → List (TraceEvent T ID D) → Bool
  is_config_committed u d log [] = false
  is_config_committed u d log (Committed c t n m ∷ es) =
      (same_leader k t c u d && hold_no_config k (drop n log)) || is_config_committed u d log es
  is_config_committed u d log (x ∷ es) = is_config_committed u d log es

  -- the first rule that a leader breaks by an entry that holds this config, if it holds one
  abbrev pub proposal_rule : List (TraceEvent T ID D) → T → ID → Option M → Option Rule
  proposal_rule es t c None = None
  proposal_rule es t c (Some m) =
      unless (k.intersect (effective_config k.config_of k.initial (leader_log_in k es t c)) m) ApartConfigs
      (unless (k.intersect m m) ApartQuorums
      (unless (is_config_committed t c (leader_log_in k es t c) es) EarlyConfig None))

  -- the first rule that a leader breaks by a commit
  abbrev pub commit_rule : List (TraceEvent T ID D) → T → ID → ℕ → ℕ → Option Rule
  commit_rule es t c n m =
      unless (nat_le n m) CountedEarly
      (unless (nat_le m (length (leader_log_in k es t c))) NotWritten
      (unless (is_quorum_of_log (take m (leader_log_in k es t c))
      (λ v. has_acked k t c n (events_in k es v))) NoQuorum None))

  abbrev pub appended_tests : ConfigTests T ID D M
  appended_tests = record { is_elected = is_elected; commit_rule = commit_rule; config_rule = proposal_rule }

  -- quorums of the initial config intersect, and each event is allowed after the earlier ones
  abbrev pub are_allowed : List (TraceEvent T ID D) → Bool
  are_allowed es = are_allowed_by k appended_tests es

-- ---- what a trace shows

module _ {T ID D M : Type 0} (k : Tests T ID D M) where
  -- the tests of terms, ids and contents say whether they are equal, and quorums of configs that are
  -- said to intersect do
  pub record AreExact : Type 0 where
    pub same_term : (x y : T) → k.same_term x y ≡ true → x ≡ y
    pub term_itself : (x : T) → k.same_term x x ≡ true
    pub same_id : (x y : ID) → k.same_id x y ≡ true → x ≡ y
    pub id_itself : (x : ID) → k.same_id x x ≡ true
    pub same_content : (x y : D) → k.same_content x y ≡ true → x ≡ y
    pub content_itself : (x : D) → k.same_content x x ≡ true
    pub intersect : (a b : M) → k.intersect a b ≡ true → QuorumsIntersect k.quorum_of a b

  -- terms of campaigns that have one rank are equal
  abbrev pub TermsHaveRanks : List (TraceEvent T ID D) → Type 0
  TermsHaveRanks es =
      (t u : T) → IsAmong t (campaign_terms es) → IsAmong u (campaign_terms es)
      → k.rank t ≡ k.rank u → t ≡ u

  -- a trace is an execution by these steps, so its history is safe, and no two servers apply different
  -- entries
  pub record IsSafeTraceBy (counting : Counting T ID D) (step : History T ID D → History T ID D → Type 0)
      (es : List (TraceEvent T ID D)) : Type 0 where
    pub execution : IsExecutionBy step (history k es) (earlier k es)
    pub safe : IsSafeBy k.rank counting (history k es)
    pub applied : (a b : List (Entry T D)) → WasApplied k a es → WasApplied k b es
        → IsPrefix a b ⊎ IsPrefix b a

  abbrev pub IsSafeTrace : List (TraceEvent T ID D) → Type 0
  IsSafeTrace es =
      IsSafeTraceBy (appended (is_quorum k.rank k.config_of k.initial k.quorum_of))
      (Next k.rank k.config_of k.initial k.quorum_of) es

-- a trace that passes the test is an execution
abbrev pub TracesAreExecutions : Type 0 → Type 0 → Type 0 → Type 0 → Type 0
TracesAreExecutions T ID D M =
    (k : Tests T ID D M) → AreExact k → (es : List (TraceEvent T ID D)) → TermsHaveRanks k es
    → are_allowed k es ≡ true → IsSafeTrace k es
