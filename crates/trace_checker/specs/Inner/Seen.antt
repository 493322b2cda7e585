-- What is kept of servers and leaders is what the events of a trace say.
use Rattle.std.specs.Prelude.{◌≡◌, ◌<◌, ◌≤◌, ℕ, true, false, nat_le, min, max, if◌then◌else◌, Option, Some, None, List, [], ◌∷◌, length, take, drop, Bool, ◌&&◌, ◌||◌}
use Rattle.std.specs.List.{find, IsDistinct}
use Rattle.std.specs.Option.{MatchOption, unwrap_or}
use Rattle.std.specs.Set.{is_member}
use Rattle.safety_laws.specs.Events.{Event, term_after, voted_after, log_after}
use Rattle.safety_laws.specs.Trace.{same_entry, TraceEvent, Tests, events_in, candidate_log_in, leader_log_in, has_voted, has_acked, durable, has_campaigned, Committed, hold_no_config, is_earlier, is_known_by, is_quorum_of_log, same_leader}
use Rattle.safety_laws.specs.AppliedTrace.{hold_at_most_one, some_upto}
use Rattle.safety_laws.specs.Log.{Entry}
use Rattle.safety_laws.specs.declared.counting.ConfigsCount.{ConfigsCount}
use Rattle.safety_laws.specs.declared.counting.ConfigsCount.TheVariants.{WhenAppended, WhenApplied}
use Rattle.trace_checker.specs.Counted.{is_elected_when}
use Rattle.trace_checker.specs.Inner.CheckerState.{kept_from, has_acked_to, common_len}
use Rattle.trace_checker.specs.Inner.CheckerState.{ServerState}
use Rattle.trace_checker.specs.Inner.CheckerState.{LeaderState}

module _ {T ID D M : Type 0} (k : Tests T ID D M) where
  -- how many first entries a server has kept since its term was at most this rank
  abbrev pub kept_at : ℕ → List (Event T ID D) → ℕ
  kept_at r [] = 0
  kept_at r (e ∷ es) =
      if nat_le (term_after k.rank (e ∷ es)) r then length (log_after (e ∷ es))
      else min (kept_at r es) (common_len (same_entry k) (log_after es) (log_after (e ∷ es)))

  -- the greatest number of first entries that the leader of this term has committed, if it has any
  abbrev pub committed_in : List (TraceEvent T ID D) → T → ID → Option ℕ
  committed_in [] u d = None
  committed_in (Committed c t n m ∷ es) u d =
      if same_leader k t c u d then Some (max (unwrap_or (committed_in es u d) 0) n) else committed_in es u d
  committed_in (x ∷ es) u d = committed_in es u d

module _ {T ID D M : Type 0} (k : Tests T ID D M) where
  -- whether these voters elect a candidate of this term with this log
  abbrev pub tally : ConfigsCount → List (TraceEvent T ID D) → T → List (Entry T D) → (ID → Bool) → Bool
  tally WhenAppended es t log voters = is_quorum_of_log k log voters
  tally WhenApplied es t log voters =
      some_upto (length log)
      (λ a. (hold_no_config k (take a log) || is_known_by k (is_earlier k t) (take a log) es)
      && (hold_at_most_one k (drop a log) && is_quorum_of_log k (take a log) voters))

-- whether a candidate is elected, and what was noted of that at its last vote. If configs count once they
-- are applied, a later commit may elect it, so a no says nothing
abbrev pub IsElectionOf : ConfigsCount → Bool → Bool → Type 0
IsElectionOf WhenAppended elected noted = elected ≡ noted
IsElectionOf WhenApplied elected noted = noted ≡ true → elected ≡ true

module _ {T ID D : Type 0} (k : Tests T ID D (Option D)) where
  -- what is kept of a server is what its events say
  pub record SeesServer (evs : List (Event T ID D)) (s : ServerState T ID D) : Type 0 where
    pub term : term_after k.rank evs ≡ s.term
    pub voted : voted_after k.rank evs ≡ s.voted
    pub log : log_after evs ≡ s.log
    pub durable : durable k evs ≡ s.durable
    pub kept : (r : ℕ) → r < s.term → kept_at k r evs ≡ kept_from 0 s.kept r
    pub votes : (t : T) (c : ID) → has_voted k t c evs ≡ true → k.rank t ≤ s.term

  -- what is kept of the server of this id, if anything is
  abbrev pub find_server : List (ServerState T ID D) → ID → Option (ServerState T ID D)
  find_server servers id = find (λ s. k.same_id s.id id) servers

  -- what is kept of each server is what its events say. A server that is not kept has no events
  abbrev pub SeesServers : List (TraceEvent T ID D) → List (ServerState T ID D) → Type 0
  SeesServers es servers =
      (id : ID) → MatchOption (find_server servers id) (events_in k es id ≡ []) (SeesServer (events_in k es id))

  -- what is kept of a candidate or leader is what the events say
  pub record SeesLeader (es : List (TraceEvent T ID D)) (t : T) (c : ID) (l : LeaderState T ID D) : Type 0 where
    pub campaigned : has_campaigned k t c es ≡ true
    pub start : l.start ≤ length l.log
    pub candidate_log : candidate_log_in k es t c ≡ take l.start l.log
    pub leader_log : leader_log_in k es t c ≡ l.log
    pub voted : (v : ID) → has_voted k t c (events_in k es v) ≡ is_member k.same_id l.voters v
    pub distinct : IsDistinct k.same_id l.voters
    pub own_vote : is_member k.same_id l.voters c ≡ true
    pub elected : IsElectionOf k.counting (is_elected_when k es t c) l.elected
    pub acked : (v : ID) (n : ℕ) → has_acked k t c n (events_in k es v) ≡ has_acked_to k.same_id l.acked v n
    pub committed : committed_in k es t c ≡ l.committed
    pub within : MatchOption l.committed (Unit {0}) (λ n. n ≤ length l.log)

  -- this server has not campaigned in this term, and no server has voted for it in time, or sent it
  -- acks
  pub record SeesNoLeader (es : List (TraceEvent T ID D)) (t : T) (c : ID) : Type 0 where
    pub campaigned : has_campaigned k t c es ≡ false
    pub candidate_log : candidate_log_in k es t c ≡ []
    pub leader_log : leader_log_in k es t c ≡ []
    pub voted : (v : ID) → has_voted k t c (events_in k es v) ≡ false
    pub acked : (v : ID) (n : ℕ) → has_acked k t c n (events_in k es v) ≡ false
    pub committed : committed_in k es t c ≡ None

  -- what is kept of the candidate or leader of this term and id, if anything is
  abbrev pub find_leader : List (LeaderState T ID D) → T → ID → Option (LeaderState T ID D)
  find_leader leaders t c = find (λ l. same_leader k l.term l.id t c) leaders

  -- what is kept of each leader is what the events say. One that is not kept has not campaigned
  abbrev pub SeesLeaders : List (TraceEvent T ID D) → List (LeaderState T ID D) → Type 0
  SeesLeaders es leaders =
      (t : T) (c : ID) → MatchOption (find_leader leaders t c) (SeesNoLeader es t c) (SeesLeader es t c)
