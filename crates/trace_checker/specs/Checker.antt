-- What the checker of recorded traces answers, and what it keeps of the events.
use Rattle.std.specs.Prelude.{◌≡◌, ◌⊎◌, ◌<◌, ℕ, Bool, true, false, Option, Some, None, Result, List, [], ◌∷◌, length, take, drop, get_or, is_some, nat_le, if◌then◌else◌}
use Rattle.std.specs.List.{list_any, position}
use Rattle.std.specs.Option.{MatchOption}
use Rattle.std.specs.Result.{MatchResult}
use Rattle.safety_laws.specs.Log.{Entry}
use Rattle.safety_laws.specs.Trace.{same_entry, same_leader, TraceEvent, Campaigned, Granted, Appended, Acked, Restarted, Wrote, Committed, Applied, Tests, AreExact, is_known_committed, has_campaigned, hold_no_config, leader_log_in}
use Rattle.safety_laws.specs.AppliedTrace.{hold_at_most_one}
use Rattle.trace_checker.specs.Counted.{are_all_allowed, first_broken, is_elected_when}
use Rattle.trace_checker.specs.Inner.CheckerState.{LeaderState, ServerState, config_in, knows}
use Rattle.trace_checker.specs.Inner.Kept.{AreBounded, HaveLogs, Parts, commits_in, leaders_in, servers_in}
use Rattle.trace_checker.specs.Inner.Known.{SeesKnownBy}
use Rattle.trace_checker.specs.Inner.Logs.{AreLogs, AreWithout, LackContent, last_entry}
use Rattle.trace_checker.specs.Inner.Places.{ArePlaced}
use Rattle.trace_checker.specs.Inner.Seen.{SeesServers, SeesLeaders}
use Rattle.safety_laws.specs.declared.counting.ConfigsCount.{ConfigsCount}
use Rattle.safety_laws.specs.declared.counting.ConfigsCount.TheVariants.{WhenAppended}
use Rattle.trace_checker.specs.declared.checker.violation.Violation.{Violation}
use Rattle.trace_checker.specs.declared.checker.violation.Violation.TheVariants.{OutOfMemory, Rule as BreaksRule}
use Rattle.trace_checker.specs.declared.checker.learn.LearnError.{LearnError}
use Rattle.trace_checker.specs.declared.checker.learn.LearnError.TheVariants.{Known, Recorded, OutOfMemory as LearnOutOfMemory}
use Rattle.trace_checker.specs.declared.checker.Checker.{Checker}
use Rattle.trace_checker.specs.declared.checker.leader.Leader.{Leader}
use Rattle.trace_checker.specs.declared.event.Event.{Event as RecordedEvent}
use Rattle.trace_checker.specs.declared.event.Event.TheVariants.{Campaigned as RecordedCampaign, Granted as RecordedGrant, Appended as RecordedAppend, Acked as RecordedAck, Restarted as RecordedRestart, Wrote as RecordedWrite, Committed as RecordedCommit, Applied as RecordedApply}
use Rattle.std.specs.declared.cmp.PartialEq as eq_ghosts
use Rattle.trace_checker.specs.declared.checker.configs.Configs as config_ghosts
use Rattle.safety_laws.specs.declared.rule.Rule.{Rule}
use Rattle.safety_laws.specs.declared.rule.Rule.TheVariants.{InitialConfig}

-- no entry that an event names has this content
abbrev pub IsUnused : {T ID D : Type 0} → (D → D → Bool) → D → List (TraceEvent T ID D) → Type 0
IsUnused same d [] = Unit {0}
IsUnused same d (Appended s t c n sent ∷ es) = LackContent same d sent × IsUnused same d es
IsUnused same d (Wrote c t e ∷ es) = (same d e.content ≡ false) × IsUnused same d es
IsUnused same d (x ∷ es) = IsUnused same d es

module _ {T ID D : Type 0} (k : Tests T ID D (Option D)) where
  -- what the checker keeps is what the events say, and each of them was allowed
  pub record HasSeen (es : List (TraceEvent T ID D)) (servers : List (ServerState T ID D))
      (leaders : List (LeaderState T ID D)) : Type 0 where
    pub allowed : are_all_allowed k es ≡ true
    pub see_servers : SeesServers k es servers
    pub see_leaders : SeesLeaders k es leaders
    pub see_commits : (r : ℕ) (p : List (Entry T D)) → is_known_committed k r p es ≡ list_any (knows k.rank (same_entry k) r p) leaders

  -- a content is in no log exactly if it is that of no entry of the events
  abbrev pub AgreeOn : D → List (TraceEvent T ID D) → Parts T ID D → Type 0
  AgreeOn d es p =
      (AreWithout k.same_content p.logs d → IsUnused k.same_content d es)
      × (IsUnused k.same_content d es → AreWithout k.same_content p.logs d)

  -- the same of the parts of a checker, in which each log is kept once, and whose configs count in this way
  pub record Keeps (es : List (TraceEvent T ID D)) (p : Parts T ID D) : Type 0 where
    pub counting : p.counting ≡ k.counting
    pub are_logs : AreLogs (λ d. is_some (k.config_of d)) p.logs
    pub have_logs : HaveLogs p
    pub placed : ArePlaced k.rank p.places p.leaders
    pub bounded : AreBounded p.committed p.leaders
    pub known : SeesKnownBy k k.counting es (commits_in p)
    pub unused : (d : D) → AgreeOn d es p
    pub seen : HasSeen es (servers_in p) (leaders_in p)

-- what the checker compares by: ranks and equality, as the types have them, and the configs, as
-- clauses have them: `T.Term`, `N.PartialEq`, `D.PartialEq` and `C.Configs`. Each config is named by
-- the content of its entry
abbrev pub tests_when : {T ID D C : Type 0} → ConfigsCount → record { eq : T → T → Bool; rank : T → ℕ }
    → eq_ghosts.Ghosts ID → eq_ghosts.Ghosts D → config_ghosts.Ghosts C ID D → C
    → Tests T ID D (Option D)
tests_when counting terms ids contents of_type configs = record {
  rank = terms.rank;
  same_term = terms.eq;
  same_id = ids.eq;
  same_content = contents.eq;
  config_of = config_in (of_type.holds_config configs);
  initial = None;
  quorum_of = of_type.has_quorum configs;
  intersect = of_type.intersects configs;
  counting = counting;
}

-- the same, if configs count from their append on
abbrev pub tests_of : {T ID D C : Type 0} → record { eq : T → T → Bool; rank : T → ℕ }
    → eq_ghosts.Ghosts ID → eq_ghosts.Ghosts D → config_ghosts.Ghosts C ID D → C
    → Tests T ID D (Option D)
tests_of terms ids contents of_type configs =
    tests_when WhenAppended terms ids contents of_type configs

-- a recorded event, as an event of a trace
abbrev pub event_of : {T ID D : Type 0} → RecordedEvent T ID D → TraceEvent T ID D
event_of (RecordedCampaign s t) = Campaigned s t
event_of (RecordedGrant s t c) = Granted s t c
event_of (RecordedAppend s t c n sent) = Appended s t c n sent.items
event_of (RecordedAck s t c n) = Acked s t c n
event_of (RecordedRestart s n) = Restarted s n
event_of (RecordedWrite c t e) = Wrote c t e
event_of (RecordedCommit c t n m) = Committed c t n m
event_of (RecordedApply s t c n) = Applied s t c n

-- the configs of a checker
abbrev pub configs_of : {T ID D C : Type 0} → Checker T ID D C → C
configs_of c = c.configs

-- when the configs of a checker count
abbrev pub counting_of : {T ID D C : Type 0} → Checker T ID D C → ConfigsCount
counting_of c = c.counting

-- what a checker keeps
abbrev pub kept_by : {T ID D C : Type 0} → Checker T ID D C → Parts T ID D
kept_by c = record {
  counting = c.counting;
  logs = c.logs;
  servers = c.servers.items;
  leaders = c.leaders.items;
  places = c.places.entries;
  committed = c.committed;
  commits = c.commits;
}

module _ {T ID D : Type 0} (k : Tests T ID D (Option D)) where
  -- the leader of a term is at this place, and it is elected
  pub record IsElectedAt (es : List (TraceEvent T ID D)) (t : T) (c : ID) (leaders : List (Leader T ID)) (j : ℕ)
      : Type 0 where
    pub place : position (λ (l : Leader T ID). same_leader k l.term l.id t c) leaders ≡ Some j
    pub elected : is_elected_when k es t c ≡ true

  -- the leader of a term is found exactly if it is elected
  abbrev pub FindsLeader : T → ID → Parts T ID D → Option ℕ → Type 0
  FindsLeader t c p result =
      AreExact k → (es : List (TraceEvent T ID D)) → Keeps k es p
      → MatchOption result (is_elected_when k es t c ≡ false) (IsElectedAt es t c p.leaders)

-- an event is refused for the rule that it breaks, or for memory
abbrev pub IsRefusal : Option Rule → Violation → Type 0
IsRefusal broken (BreaksRule r) = broken ≡ Some r
IsRefusal broken OutOfMemory = Unit {0}

module _ {T ID D : Type 0} (k : Tests T ID D (Option D)) where
  -- an event is recorded exactly if it is allowed. If it is refused, nothing has changed
  abbrev pub Answers : TraceEvent T ID D → Parts T ID D → Parts T ID D
      → Result (Unit {0}) Violation → Type 0
  Answers e old new result =
      AreExact k → (es : List (TraceEvent T ID D)) → Keeps k es old
      → MatchResult result
      (λ _. (first_broken k e es ≡ None) × Keeps k (e ∷ es) new)
      (λ v. IsRefusal (first_broken k e es) v × Keeps k es new)

  -- a checker answers so, and keeps what the events say
  abbrev pub Records : {C : Type 0} → TraceEvent T ID D → Checker T ID D C → Checker T ID D C
      → Result (Unit {0}) Violation → Type 0
  Records e old new result = Answers e (kept_by old) (kept_by new) result

  -- a checker begins with no event, exactly if quorums of the initial config intersect
  abbrev pub Begins : {C : Type 0} → Result (Checker T ID D C) Violation → Type 0
  Begins result =
      MatchResult result (λ c. Keeps k [] (kept_by c))
      (λ v. (k.intersect k.initial k.initial ≡ false) × (v ≡ BreaksRule InitialConfig))

module _ {T ID D : Type 0} (k : Tests T ID D (Option D)) where
  -- what a checker keeps of events that it compares by one way, it keeps of them by another
  abbrev pub KeepsAlso : Tests T ID D (Option D) → Parts T ID D → Parts T ID D → Type 0
  KeepsAlso next old new =
      AreExact k → (es : List (TraceEvent T ID D)) → Keeps k es old → Keeps next es new

  -- why a membership does not become known
  abbrev pub IsUnlearned : D → List (TraceEvent T ID D) → LearnError → Type 0
  IsUnlearned d es Known = is_some (k.config_of d) ≡ true
  IsUnlearned d es Recorded = IsUnused k.same_content d es → ⊥
  IsUnlearned d es LearnOutOfMemory = Unit {0}

  -- a membership becomes known by this content unless one is known by it already, or an entry of the
  -- events has the content
  abbrev pub Learns : D → Parts T ID D → Result (Unit {0}) LearnError → Type 0
  Learns d p result =
      AreExact k → (es : List (TraceEvent T ID D)) → Keeps k es p
      → MatchResult result (λ _. (is_some (k.config_of d) ≡ false) × IsUnused k.same_content d es)
      (IsUnlearned d es)

module _ {T ID D : Type 0} (k : Tests T ID D (Option D)) where
  -- a fact of all traces whose events a checker keeps
  abbrev pub OfAll : Parts T ID D → (List (TraceEvent T ID D) → Type 0) → Type 0
  OfAll p P = AreExact k → (es : List (TraceEvent T ID D)) → Keeps k es p → P es

  -- a value of the candidate or leader of a term, if it has campaigned
  abbrev pub if_campaigned : {X : Type 0} → List (TraceEvent T ID D) → T → ID → X → Option X
  if_campaigned es t c x = if has_campaigned k t c es then Some x else None

  -- the entries after the first m, up to the first n, of the candidate or leader of a term, if it has
  -- campaigned and has n entries
  abbrev pub leader_entries_in : List (TraceEvent T ID D) → T → ID → ℕ → ℕ → Option (List (Entry T D))
  leader_entries_in es t c m n =
      let log = leader_log_in k es t c in
      if nat_le n (length log) then if_campaigned es t c (drop m (take n log)) else None

module _ {T ID D : Type 0} (k : Tests T ID D (Option D)) where
  -- no config follows so many first entries exactly if they reach the first of these lengths, and at most
  -- one does exactly if they reach the second
  abbrev pub AreConfigLens : List (Entry T D) → ℕ × ℕ → Type 0
  AreConfigLens log lens =
      (n : ℕ) → (hold_no_config k (drop n log) ≡ nat_le lens.0 n)
      × (hold_at_most_one k (drop n log) ≡ nat_le lens.1 n)

-- the last of so many first entries, if there are so many
abbrev pub entry_at : {T D : Type 0} → ℕ → List (Entry T D) → Option (Entry T D)
entry_at n log = if nat_le n (length log) then last_entry (take n log) else None

-- a trace after which recorded events come, in their order
abbrev pub trace_after : {T ID D : Type 0} → List (TraceEvent T ID D) → List (RecordedEvent T ID D)
    → List (TraceEvent T ID D)
trace_after es [] = es
trace_after es (e ∷ later) = trace_after (event_of e ∷ es) later

-- the trace of recorded events, which are given in their order
abbrev pub trace_of : {T ID D : Type 0} → List (RecordedEvent T ID D) → List (TraceEvent T ID D)
trace_of events = trace_after [] events

module _ {T ID D : Type 0} (k : Tests T ID D (Option D)) where
  -- quorums of the initial config do not intersect, which is refused as if it were the first event; or
  -- all events before this one are allowed, and it is refused
  abbrev pub IsFirstRefused : List (RecordedEvent T ID D) → ℕ → Violation → Type 0
  IsFirstRefused events i v =
      ((k.intersect k.initial k.initial ≡ false) × (i ≡ 0) × (v ≡ BreaksRule InitialConfig))
      ⊎ ((e : RecordedEvent T ID D) × (i < length events) × (e ≡ get_or events i e)
      × (are_all_allowed k (trace_of (take i events)) ≡ true)
      × IsRefusal (first_broken k (event_of e) (trace_of (take i events))) v)
