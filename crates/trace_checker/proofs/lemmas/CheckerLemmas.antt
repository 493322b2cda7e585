-- The checker refuses an event exactly if it is not allowed, and keeps what the events say.
use Rattle.std.specs.Prelude.{◌≡◌, ◌⊎◌, ◌+◌, ◌<◌, ◌≤◌, ℕ, zero, suc, Bool, true, false, not, ◌&&◌, ◌||◌, nat_lt, nat_le, nat_eq, min, max, if◌then◌else◌, Option, Some, None, is_none, List, [], ◌∷◌, ◌++◌, length, take, drop, get_or, set}
use Rattle.std.specs.Cmp.{first_so, second_so}
use Rattle.std.specs.List.{find, list_any, position, IsDistinct}
use Rattle.std.specs.Option.{MatchOption, unwrap_or, option_or}
use Rattle.std.specs.Set.{is_member}
use Rattle.std.proofs.Common.{refl, sym, ap, ◌∙◌, subst, inl, inr, arith}
use Rattle.std.proofs.lemmas.List.Folds.{find-append}
use Rattle.std.proofs.lemmas.List.Quantifiers.{position-Some}
use Rattle.safety_laws.specs.declared.rule.Rule.TheVariants.{OtherTerm, ApartConfigs, ApartQuorums, EarlyConfig, EarlierTerm, CountedEarly, CountedLate, UnknownConfig, ConfigsFollow, NoQuorum, NotInLog, NotCommitted, CampaignedTwice, NotElected, PassedTerm, MissingEntries, DropsMatching, ForeignEntries, TermNotReached, NotWritten, NotKept, LostAcked}
use Rattle.safety_laws.proofs.lemmas.PrefixLemmas.{prefix_length}
use Rattle.safety_laws.proofs.lemmas.TestLemmas.{leader_right, leader_from, prefix_right, entry_right, entry_itself}
use Rattle.std.proofs.lemmas.Bool.{cases_Bool, and_from, and_right, cases_lt, leb-true, leb-false, lt-ltb, le-ltb, le-leb}
use Rattle.std.proofs.lemmas.List.{take_all, take-append-le, length-append, length-take-le}
use Rattle.std.proofs.Math.Bool.{or_comm, or-false}
use Rattle.safety_laws.specs.Log.{Entry}
use Rattle.safety_laws.specs.Configs.{effective_config}
use Rattle.safety_laws.specs.Events.{Event, GrantVote, LateVote, Ack, log_after, term_after}
use Rattle.safety_laws.specs.Trace.{AreExact, Tests, TraceEvent, Campaigned, Granted, Appended, Acked, Restarted, Wrote, Committed, Applied, events_in, has_campaigned, same_entry, same_leader, hold_no_config, and_vote, and_append, and_restart, has_kept, has_acked, has_voted, candidate_log_in, leader_log_in, is_config_committed, is_known_committed, is_quorum_of_log, is_prefix, common_prefix, unless, log_in}
use Rattle.trace_checker.specs.Counted.{are_all_allowed, first_broken, is_allowed_when, is_elected_when, tests_by}
use Rattle.safety_laws.specs.declared.counting.ConfigsCount.{ConfigsCount}
use Rattle.safety_laws.specs.declared.counting.ConfigsCount.TheVariants.{WhenAppended, WhenApplied}
use Rattle.trace_checker.specs.Inner.CheckerState.{early_rule, write_rule, config_rule, config_in, no_config_in, append_rule, ack_rule, restart_rule, grant_rule, commit_rule, counted_rule, knows, has_committed, has_kept_by, has_acked_to, config_committed, common_len, kept_from, kept_after, IsAdded, HasPlace, apply_rule}
use Rattle.trace_checker.specs.Checker.{HasSeen}
use Rattle.safety_laws.specs.AppliedTrace.{hold_at_most_one, may_count_acks}
use Rattle.trace_checker.specs.Inner.Seen.{tally, IsElectionOf, SeesServer, committed_in, kept_at, SeesServers, SeesLeader, SeesNoLeader, SeesLeaders, find_server, find_leader}
use Rattle.safety_laws.proofs.lemmas.RuleLemmas.{first_none, rest_none}
use Rattle.safety_laws.specs.declared.rule.Rule.{Rule}
use Rattle.trace_checker.specs.Inner.CheckerState.{ServerState}
use Rattle.trace_checker.specs.Inner.CheckerState.{LeaderState}
use Rattle.trace_checker.proofs.lemmas.CheckedLogLemmas.{same_sym, common_from, keeps_common, appended_is_old, appended_is_other, is_prefix_by_len}
use Rattle.trace_checker.proofs.lemmas.CheckedServerLemmas.{has_kept_by_len, kept_all, sees_vote, sees_late_vote, sees_append, sees_ack, sees_restart, sees_new, see_set}
use Rattle.trace_checker.proofs.lemmas.CheckedLeaderLemmas.{found_some, write_of_other, commit_of_other, apply_same, any_set_or, vote_no_ack, any_vote_no_ack, late_vote_same, campaign_of_other, elected_by, elected_same, elected_still, election_is, grant_to_other, found_at, none_found, stays, ack_to_other, ack_no_vote, append_same, restart_same, see_leader_set, see_leader_added}

-- an append that breaks no rule is in a term that the server has not passed, and keeps entries that
-- the server has
pub append_first : {T N D : Type 0} (same : Entry T D → Entry T D → Bool) (s : ServerState T N D)
    (l : LeaderState T N D) (r n : ℕ) (sent : List (Entry T D)) → append_rule same s l r n sent ≡ None
    → (s.term ≤ r) × (n ≤ length s.log)
append_first same s l r n sent free =
    let drops : Option Rule = unless (nat_le (common_len same s.log l.log) (n + common_len same (drop n s.log) sent))
    DropsMatching
    (unless (nat_eq (common_len same (drop n s.log) sent) (length sent)
    || (nat_le n (common_len same s.log l.log)
    && nat_eq (common_len same (drop n l.log) sent) (length sent))) ForeignEntries None) in
    let missing : Option Rule = unless (nat_le n (length s.log)) MissingEntries drops in (
      leb-true s.term r (first_none (nat_le s.term r) PassedTerm missing free),
      leb-true n (length s.log)
          (first_none (nat_le n (length s.log)) MissingEntries drops (rest_none (nat_le s.term r) PassedTerm missing free)),
    )

module _ {T ID D M : Type 0} (k : Tests T ID D M) where
  pub more_allowed : (e : TraceEvent T ID D) (es : List (TraceEvent T ID D))
      → first_broken k e es ≡ None → are_all_allowed k es ≡ true → are_all_allowed k (e ∷ es) ≡ true
  more_allowed e es h g = and_from (is_allowed_when k e es) (are_all_allowed k es) (ap is_none h) g

-- what is kept of a leader
pub record LeaderIs {T ID D : Type 0} (l : LeaderState T ID D) (t : T) (c : ID) (i : ℕ)
    (es : List (Entry T D)) (vs : List ID) (b : Bool) (o : Option ℕ) : Type 0 where
  pub term : l.term ≡ t
  pub id : l.id ≡ c
  pub start : l.start ≡ i
  pub log : l.log ≡ es
  pub voters : l.voters ≡ vs
  pub elected : l.elected ≡ b
  pub committed : l.committed ≡ o

module _ {T ID D : Type 0} (k : Tests T ID D (Option D)) (exact : AreExact k) where
  -- ---- what is seen of a server or leader at its place

  pub server_seen : (es : List (TraceEvent T ID D)) (servers : List (ServerState T ID D)) (id : ID) (i : ℕ)
      (d : ServerState T ID D) → SeesServers k es servers
      → position (λ (s : ServerState T ID D). k.same_id s.id id) servers ≡ Some i
      → SeesServer k (events_in k es id) (get_or servers i d)
  server_seen es servers id i d sees e =
      subst (λ (o : Option (ServerState T ID D)). MatchOption o (events_in k es id ≡ [])
      (SeesServer k (events_in k es id)))
      (found_at (λ (s : ServerState T ID D). k.same_id s.id id) servers i d e) (sees id)

  pub leader_seen : (es : List (TraceEvent T ID D)) (leaders : List (LeaderState T ID D)) (t : T) (c : ID)
      (j : ℕ) (d : LeaderState T ID D) → SeesLeaders k es leaders
      → position (λ (l : LeaderState T ID D). same_leader k l.term l.id t c) leaders ≡ Some j
      → SeesLeader k es t c (get_or leaders j d)
  leader_seen es leaders t c j d sees e =
      subst (λ (o : Option (LeaderState T ID D)). MatchOption o (SeesNoLeader k es t c)
      (SeesLeader k es t c))
      (found_at (λ (l : LeaderState T ID D). same_leader k l.term l.id t c) leaders j d e) (sees t c)

  pub no_leader_seen : (es : List (TraceEvent T ID D)) (leaders : List (LeaderState T ID D)) (t : T)
      (c : ID) → SeesLeaders k es leaders
      → position (λ (l : LeaderState T ID D). same_leader k l.term l.id t c) leaders ≡ None
      → SeesNoLeader k es t c
  no_leader_seen es leaders t c sees e =
      subst (λ (o : Option (LeaderState T ID D)). MatchOption o (SeesNoLeader k es t c)
      (SeesLeader k es t c))
      (none_found (λ (l : LeaderState T ID D). same_leader k l.term l.id t c) leaders e) (sees t c)

  -- a server without events is added
  pub see_added : (es : List (TraceEvent T ID D)) (id : ID) (old new : List (ServerState T ID D))
      → IsAdded (λ (s : ServerState T ID D). k.same_id s.id id) id old new → SeesServers k es old
      → SeesServers k es new
  see_added es id old new is sees r =
      rw is.added (rw (find-append (λ (s : ServerState T ID D). k.same_id s.id r) old (is.server ∷ []))
      (go (find_server k old r) refl (cases_Bool (k.same_id is.server.id r))))
    where
      empty : find_server k old id ≡ None
      empty = none_found (λ (s : ServerState T ID D). k.same_id s.id id) old is.absent

      no_events : events_in k es id ≡ []
      no_events =
          subst (λ (o : Option (ServerState T ID D)). MatchOption o (events_in k es id ≡ [])
          (SeesServer k (events_in k es id))) empty (sees id)

      go : (o : Option (ServerState T ID D)) → find_server k old r ≡ o
          → (k.same_id is.server.id r ≡ true) ⊎ (k.same_id is.server.id r ≡ false)
          → MatchOption (option_or o (find (λ (s : ServerState T ID D). k.same_id s.id r) (is.server ∷ [])))
          (events_in k es r ≡ []) (SeesServer k (events_in k es r))
      go (Some s) e b =
          subst (λ (o : Option (ServerState T ID D)). MatchOption o (events_in k es r ≡ [])
          (SeesServer k (events_in k es r))) e (sees r)
      go None e (inl b) =
          let q : is.server.id ≡ r = exact.same_id is.server.id r b in
          let p : id ≡ r = sym is.is_new.is_id ∙ q in
          let none : events_in k es r ≡ [] = subst (λ (x : ID). events_in k es x ≡ []) p no_events in
          rw (b, none) (sees_new k exact is.server is.is_new.term is.is_new.voted is.is_new.log is.is_new.durable is.is_new.kept)
      go None e (inr b) =
          rw b (subst (λ (o : Option (ServerState T ID D)). MatchOption o (events_in k es r ≡ [])
          (SeesServer k (events_in k es r))) e (sees r))

  pub see_place : (es : List (TraceEvent T ID D)) (id : ID) (old new : List (ServerState T ID D)) (i : ℕ)
      (leaders : List (LeaderState T ID D))
      → HasPlace (λ (s : ServerState T ID D). k.same_id s.id id) id old new i → HasSeen k es old leaders
      → HasSeen k es new leaders
  see_place es id old new i leaders place seen = record {
    allowed = seen.allowed;
    see_servers = go place.1;
    see_leaders = seen.see_leaders;
    see_commits = seen.see_commits;
  }
    where
      go : (new ≡ old) ⊎ IsAdded (λ (s : ServerState T ID D). k.same_id s.id id) id old new
          → SeesServers k es new
      go (inl e) = λ r. rw e (seen.see_servers r)
      go (inr is) = see_added es id old new is seen.see_servers

  -- ---- restarts

  pub restart_right : (es : List (TraceEvent T ID D)) (id : ID) (s : ServerState T ID D) (n : ℕ)
      → SeesServer k (events_in k es id) s → first_broken k (Restarted id n) es ≡ restart_rule s n
  restart_right es id s n sees = rw (sees.durable, sees.log) refl

  -- the events of a server are those of each server with an equal id
  at_id : (f : List (Event T ID D) → List (Event T ID D)) (es : List (TraceEvent T ID D)) (id r : ID)
      → (if k.same_id id r then f (events_in k es r) else events_in k es r)
      ≡ (if k.same_id id r then f (events_in k es id) else events_in k es r)
  at_id f es id r = go (k.same_id id r) refl
    where
      go : (b : Bool) → k.same_id id r ≡ b
          → (if b then f (events_in k es r) else events_in k es r)
          ≡ (if b then f (events_in k es id) else events_in k es r)
      go true e =
          let q : id ≡ r = exact.same_id id r e in ap (λ (x : ID). f (events_in k es x)) (sym q)
      go false e = refl

  other_server : (b : Bool) (a o : List (Event T ID D)) → b ≡ false → (if b then a else o) ≡ o
  other_server true a o e = absurd (cc)
  other_server false a o e = refl

  this_server : (b : Bool) (a o : List (Event T ID D)) → b ≡ true → a ≡ (if b then a else o)
  this_server true a o e = refl
  this_server false a o e = absurd (cc)

  -- an event of one server, which is seen of it, changes no leader
  server_event : (e : TraceEvent T ID D) (es : List (TraceEvent T ID D)) (id : ID)
      (servers : List (ServerState T ID D)) (leaders : List (LeaderState T ID D)) (i : ℕ)
      (s new : ServerState T ID D) (evs : List (Event T ID D))
      → ((r : ID) → events_in k (e ∷ es) r ≡ (if k.same_id id r then evs else events_in k es r))
      → position (λ (x : ServerState T ID D). k.same_id x.id id) servers ≡ Some i → s ≡ get_or servers i s
      → new.id ≡ s.id → HasSeen k es servers leaders → SeesServer k evs new
      → SeesServers k (e ∷ es) (set servers i new)
  server_event e es id servers leaders i s new evs events at_i is same_id seen one =
      see_set k exact es (e ∷ es) servers i new id at_i is_id seen.see_servers
      (λ r apart. events r ∙ other_server (k.same_id id r) evs (events_in k es r) apart)
      (subst (λ (l : List (Event T ID D)). SeesServer k l new)
      (this_server (k.same_id id id) evs (events_in k es id) (exact.id_itself id) ∙ sym (events id)) one)
    where
      facts : (i < length servers) × (k.same_id (get_or servers i s).id id ≡ true)
          × ((j : ℕ) → j < i → k.same_id (get_or servers j s).id id ≡ false)
      facts = position-Some (λ (x : ServerState T ID D). k.same_id x.id id) servers i s at_i

      is_id : k.same_id new.id id ≡ true
      is_id = rw same_id (rw is facts.1)

  pub restart_seen : (es : List (TraceEvent T ID D)) (id : ID) (servers : List (ServerState T ID D))
      (leaders : List (LeaderState T ID D)) (i n : ℕ) (s new : ServerState T ID D)
      → position (λ (x : ServerState T ID D). k.same_id x.id id) servers ≡ Some i → s ≡ get_or servers i s
      → HasSeen k es servers leaders → restart_rule s n ≡ None
      → new.id ≡ s.id → new.term ≡ s.term → new.voted ≡ s.voted → new.log ≡ take n s.log
      → new.durable ≡ min s.durable n → ((r : ℕ) → kept_from 0 new.kept r ≡ min (kept_from 0 s.kept r) n)
      → (first_broken k (Restarted id n) es ≡ None)
      × HasSeen k (Restarted id n ∷ es) (set servers i new) leaders
  restart_seen es id servers leaders i n s new at_i is seen free same_id same_term vote log dur kept = (
    ok,
    record {
      allowed = more_allowed k (Restarted id n) es ok seen.allowed;
      see_servers =
          server_event (Restarted id n) es id servers leaders i s new (and_restart n (events_in k es id))
          events at_i is same_id seen
          (sees_restart k exact (events_in k es id) s new n at_s within same_term vote log dur kept);
      see_leaders = λ u d. stays k exact es (Restarted id n ∷ es) u d (restart_same k exact es id u d n)
          (find_leader k leaders u d) (seen.see_leaders u d);
      see_commits = seen.see_commits;
    },
  )
    where
      at_s : SeesServer k (events_in k es id) s
      at_s = rw is (server_seen es servers id i s seen.see_servers at_i)

      ok : first_broken k (Restarted id n) es ≡ None
      ok = restart_right es id s n at_s ∙ free

      within : n ≤ length s.log
      within =
          leb-true n (length s.log)
          (first_none (nat_le n (length s.log)) MissingEntries None
          (rest_none (nat_le s.durable n) LostAcked (unless (nat_le n (length s.log)) MissingEntries None) free))

      events : (r : ID) → events_in k (Restarted id n ∷ es) r
          ≡ (if k.same_id id r then and_restart n (events_in k es id) else events_in k es r)
      events r = at_id (λ (l : List (Event T ID D)). and_restart n l) es id r

  -- ---- entries that a server takes

  pub append_right : (es : List (TraceEvent T ID D)) (id : ID) (t : T) (c : ID) (n : ℕ)
      (sent : List (Entry T D)) (s : ServerState T ID D) (l : LeaderState T ID D)
      → SeesServer k (events_in k es id) s → SeesLeader k es t c l → is_elected_when k es t c ≡ true
      → first_broken k (Appended id t c n sent) es ≡ append_rule (same_entry k) s l (k.rank t) n sent
  append_right es id t c n sent s l sees leads elected =
      rw (elected, sees.term, sees.log, leads.leader_log)
      (inner (cases_Bool (nat_le n (length s.log))))
    where
      inner : (nat_le n (length s.log) ≡ true) ⊎ (nat_le n (length s.log) ≡ false)
          → unless (nat_le s.term (k.rank t)) PassedTerm
          (unless (nat_le n (length s.log)) MissingEntries
          (unless (is_prefix k (common_prefix k s.log l.log) (take n s.log ++ sent)) DropsMatching
          (unless (is_prefix k (take n s.log ++ sent) s.log
          || is_prefix k (take n s.log ++ sent) l.log) ForeignEntries None)))
          ≡ append_rule (same_entry k) s l (k.rank t) n sent
      inner (inl e) =
          let h : n ≤ length s.log = leb-true n (length s.log) e in
          rw (
            keeps_common k exact s.log l.log (take n s.log ++ sent),
            common_from (same_entry k) (entry_right k exact) (entry_itself k exact) n s.log sent h,
            appended_is_old k exact n s.log sent h,
            appended_is_other k exact n s.log l.log sent h,
          ) refl
      inner (inr e) = rw e refl

  pub append_seen : (es : List (TraceEvent T ID D)) (id : ID) (t : T) (c : ID) (n : ℕ)
      (sent : List (Entry T D)) (servers : List (ServerState T ID D)) (leaders : List (LeaderState T ID D))
      (i j : ℕ) (s new : ServerState T ID D) (l : LeaderState T ID D)
      → position (λ (x : ServerState T ID D). k.same_id x.id id) servers ≡ Some i → s ≡ get_or servers i s
      → position (λ (x : LeaderState T ID D). same_leader k x.term x.id t c) leaders ≡ Some j
      → l ≡ get_or leaders j l → is_elected_when k es t c ≡ true
      → HasSeen k es servers leaders → append_rule (same_entry k) s l (k.rank t) n sent ≡ None
      → new.id ≡ s.id → new.term ≡ max s.term (k.rank t) → new.voted ≡ s.voted → new.log ≡ take n s.log ++ sent
      → new.durable ≡ min s.durable (n + common_len (same_entry k) (drop n s.log) sent)
      → ((r : ℕ) → kept_from 0 new.kept r ≡ min (kept_after s.kept s.term (length s.log) (k.rank t) r)
      (n + common_len (same_entry k) (drop n s.log) sent))
      → (first_broken k (Appended id t c n sent) es ≡ None)
      × HasSeen k (Appended id t c n sent ∷ es) (set servers i new) leaders
  append_seen es id t c n sent servers leaders i j s new l at_i is at_j is_l elected seen free same_id term vote log dur kept = (
    ok,
    record {
      allowed = more_allowed k (Appended id t c n sent) es ok seen.allowed;
      see_servers =
          server_event (Appended id t c n sent) es id servers leaders i s new
          (and_append t c n sent (events_in k es id)) events at_i is same_id seen
          (sees_append k exact (events_in k es id) s new t c n sent at_s reached within term vote log dur kept);
      see_leaders = λ u d. stays k exact es (Appended id t c n sent ∷ es) u d
          (append_same k exact es id t u c d n sent) (find_leader k leaders u d) (seen.see_leaders u d);
      see_commits = seen.see_commits;
    },
  )
    where
      at_s : SeesServer k (events_in k es id) s
      at_s = rw is (server_seen es servers id i s seen.see_servers at_i)

      at_l : SeesLeader k es t c l
      at_l = rw is_l (leader_seen es leaders t c j l seen.see_leaders at_j)

      ok : first_broken k (Appended id t c n sent) es ≡ None
      ok = append_right es id t c n sent s l at_s at_l elected ∙ free

      rules : (s.term ≤ k.rank t) × (n ≤ length s.log)
      rules = append_first (same_entry k) s l (k.rank t) n sent free

      reached : s.term ≤ k.rank t
      reached = rules.0

      within : n ≤ length s.log
      within = rules.1

      events : (r : ID) → events_in k (Appended id t c n sent ∷ es) r
          ≡ (if k.same_id id r then and_append t c n sent (events_in k es id) else events_in k es r)
      events r = at_id (λ (x : List (Event T ID D)). and_append t c n sent x) es id r

  -- ---- acknowledgements

  pub ack_right : (es : List (TraceEvent T ID D)) (id : ID) (t : T) (c : ID) (n : ℕ)
      (s : ServerState T ID D) (l : LeaderState T ID D) → SeesServer k (events_in k es id) s
      → SeesLeader k es t c l → is_elected_when k es t c ≡ true
      → first_broken k (Acked id t c n) es ≡ ack_rule (same_entry k) s l (k.rank t) n
  ack_right es id t c n s l sees leads elected =
      rw (elected, sees.term, leads.leader_log) (ap (λ b. unless (nat_le (k.rank t) s.term) TermNotReached
      (unless (nat_le n (length l.log)) NotWritten (unless b NotKept None))) kept)
    where
      by_len : has_kept k (k.rank t) (take n l.log) (events_in k es id)
          ≡ (is_prefix k (take n l.log) (log_after (events_in k es id))
          && nat_le (length (take n l.log)) (kept_at k (k.rank t) (events_in k es id)))
      by_len = has_kept_by_len k exact (k.rank t) (take n l.log) (events_in k es id)

      prefix : is_prefix k (take n l.log) (log_after (events_in k es id))
          ≡ nat_eq (common_len (same_entry k) (take n l.log) s.log) (length (take n l.log))
      prefix =
          ap (λ x. is_prefix k (take n l.log) x) sees.log
          ∙ is_prefix_by_len k exact (take n l.log) s.log

      go : (b : Bool) → nat_le s.term (k.rank t) ≡ b
          → (is_prefix k (take n l.log) (log_after (events_in k es id))
          && nat_le (length (take n l.log)) (kept_at k (k.rank t) (events_in k es id)))
          ≡ (is_prefix k (take n l.log) (log_after (events_in k es id))
          && (b || nat_le (length (take n l.log)) (kept_from 0 s.kept (k.rank t))))
      go true e =
          let le : term_after k.rank (events_in k es id) ≤ k.rank t = rw sees.term (leb-true s.term (k.rank t) e) in
          short (is_prefix k (take n l.log) (log_after (events_in k es id))) refl
          (kept_all k exact (k.rank t) (events_in k es id) le)
        where
          short : (a : Bool) → is_prefix k (take n l.log) (log_after (events_in k es id)) ≡ a
              → kept_at k (k.rank t) (events_in k es id) ≡ length (log_after (events_in k es id))
              → (a && nat_le (length (take n l.log)) (kept_at k (k.rank t) (events_in k es id))) ≡ (a && true)
          short false f h = refl
          short true f h =
              le-leb (length (take n l.log)) (kept_at k (k.rank t) (events_in k es id))
              (rw h (prefix_length (prefix_right k exact (take n l.log) (log_after (events_in k es id)) f)))
      go false e =
          let lt : k.rank t < s.term = leb-false s.term (k.rank t) e in
          ap (λ x. is_prefix k (take n l.log) (log_after (events_in k es id))
          && nat_le (length (take n l.log)) x) (sees.kept (k.rank t) lt)

      kept : has_kept k (k.rank t) (take n l.log) (events_in k es id)
          ≡ has_kept_by (same_entry k) s (k.rank t) (take n l.log)
      kept =
          by_len ∙ go (nat_le s.term (k.rank t)) refl
          ∙ ap (λ x. x && (nat_le s.term (k.rank t)
          || nat_le (length (take n l.log)) (kept_from 0 s.kept (k.rank t)))) prefix

  -- a leader that is replaced keeps its position
  pub leader_place : (leaders : List (LeaderState T ID D)) (t : T) (c : ID) (j : ℕ) (l new : LeaderState T ID D)
      → position (λ (x : LeaderState T ID D). same_leader k x.term x.id t c) leaders ≡ Some j
      → l ≡ get_or leaders j l → new.term ≡ l.term → new.id ≡ l.id
      → (j < length leaders) × (same_leader k new.term new.id t c ≡ true)
  leader_place leaders t c j l new at_j is same_term same_id =
      let facts : (j < length leaders)
      × (same_leader k (get_or leaders j l).term (get_or leaders j l).id t c ≡ true)
      × ((i : ℕ) → i < j → same_leader k (get_or leaders i l).term (get_or leaders i l).id t c ≡ false) =
      position-Some (λ (x : LeaderState T ID D). same_leader k x.term x.id t c) leaders j l at_j in
      let here : same_leader k l.term l.id t c ≡ true = rw is facts.1 in
      (facts.0, rw (same_term, same_id) here)

  -- a leader of which it is noted as before whether it is elected
  as_noted : (t : T) (c : ID) (es : List (TraceEvent T ID D)) (l new : LeaderState T ID D) → new.elected ≡ l.elected
      → IsElectionOf k.counting (is_elected_when k es t c) l.elected
      → IsElectionOf k.counting (is_elected_when k es t c) new.elected
  as_noted t c es l new e h = subst (λ (b : Bool). IsElectionOf k.counting (is_elected_when k es t c) b) (sym e) h

  pub ack_seen : (es : List (TraceEvent T ID D)) (id : ID) (t : T) (c : ID) (n : ℕ)
      (servers : List (ServerState T ID D)) (leaders : List (LeaderState T ID D)) (i j : ℕ)
      (s new : ServerState T ID D) (l lnew : LeaderState T ID D)
      → position (λ (x : ServerState T ID D). k.same_id x.id id) servers ≡ Some i → s ≡ get_or servers i s
      → position (λ (x : LeaderState T ID D). same_leader k x.term x.id t c) leaders ≡ Some j
      → l ≡ get_or leaders j l → is_elected_when k es t c ≡ true
      → HasSeen k es servers leaders → ack_rule (same_entry k) s l (k.rank t) n ≡ None
      → new.id ≡ s.id → new.term ≡ s.term → new.voted ≡ s.voted → new.log ≡ s.log
      → new.durable ≡ max n s.durable → new.kept ≡ s.kept
      → ((v : ID) (m : ℕ) → has_acked_to k.same_id lnew.acked v m
      ≡ (has_acked_to k.same_id l.acked v m || (k.same_id id v && nat_le m n)))
      → LeaderIs lnew l.term l.id l.start l.log l.voters l.elected l.committed
      → (first_broken k (Acked id t c n) es ≡ None)
      × HasSeen k (Acked id t c n ∷ es) (set servers i new) (set leaders j lnew)
  ack_seen es id t c n servers leaders i j s new l lnew at_i is at_j is_l elected seen free same_id term vote log dur kept acked same = (
    ok,
    record {
      allowed = more_allowed k (Acked id t c n) es ok seen.allowed;
      see_servers =
          server_event (Acked id t c n) es id servers leaders i s new
          (Ack t c n ∷ events_in k es id) (λ r. at_id (λ (x : List (Event T ID D)). Ack t c n ∷ x) es id r)
          at_i is same_id seen
          (sees_ack k exact (events_in k es id) s new t c n at_s term vote log dur kept);
      see_leaders =
          see_leader_set k exact es (Acked id t c n ∷ es) leaders j lnew t c at_j place.1 seen.see_leaders
          (λ u d apart. ack_to_other k exact es id t u c d n apart)
          (record {
            campaigned = at_l.campaigned;
            start = rw (same.start, same.log) at_l.start;
            candidate_log = at_l.candidate_log ∙ sym (λ q. take (same.start q) (same.log q));
            leader_log = at_l.leader_log ∙ sym same.log;
            voted = λ v. ack_no_vote k exact (k.same_id id v) t t c c n (events_in k es v) ∙ at_l.voted v
                ∙ sym (ap (λ x. is_member k.same_id x v) same.voters);
            distinct = rw same.voters at_l.distinct;
            own_vote = rw same.voters at_l.own_vote;
            elected =
                elected_same k exact es (Acked id t c n ∷ es) t c refl
                (λ v. ack_no_vote k exact (k.same_id id v) t t c c n (events_in k es v)) (λ p. refl) lnew.elected
                (as_noted t c es l lnew same.elected at_l.elected);
            acked = λ v m. counted v m (k.same_id id v) refl ∙ sym (acked v m);
            committed = at_l.committed ∙ sym same.committed;
            within = rw (same.committed, same.log) at_l.within;
          });
      see_commits = λ r p. seen.see_commits r p ∙ sym (any_set_or (knows k.rank (same_entry k) r p) false leaders j lnew l
          place.0 (same_knows r p));
    },
  )
    where
      at_s : SeesServer k (events_in k es id) s
      at_s = rw is (server_seen es servers id i s seen.see_servers at_i)

      at_l : SeesLeader k es t c l
      at_l = rw is_l (leader_seen es leaders t c j l seen.see_leaders at_j)

      ok : first_broken k (Acked id t c n) es ≡ None
      ok = ack_right es id t c n s l at_s at_l elected ∙ free

      place : (j < length leaders) × (same_leader k lnew.term lnew.id t c ≡ true)
      place = leader_place leaders t c j l lnew at_j is_l same.term same.id

      counted : (v : ID) (m : ℕ) (b : Bool) → k.same_id id v ≡ b
          → has_acked k t c m (if b then Ack t c n ∷ events_in k es v else events_in k es v)
          ≡ (has_acked_to k.same_id l.acked v m || (b && nat_le m n))
      counted v m true e =
          rw (leader_from k exact t t c c refl refl)
          (ap (λ x. nat_le m n || x) (at_l.acked v m) ∙ or_comm (nat_le m n) (has_acked_to k.same_id l.acked v m))
      counted v m false e = at_l.acked v m ∙ sym (or-false (has_acked_to k.same_id l.acked v m))

      same_knows : (r : ℕ) (p : List (Entry T D)) → knows k.rank (same_entry k) r p lnew
          ≡ knows k.rank (same_entry k) r p (get_or leaders j l)
      same_knows r p =
          (λ q. nat_le (k.rank (same.term q)) r && has_committed (same_entry k) (same.log q) (same.committed q) p)
          ∙ ap (knows k.rank (same_entry k) r p) is_l

  -- ---- votes

  pub grant_right : (es : List (TraceEvent T ID D)) (id : ID) (t : T) (c : ID)
      (s : ServerState T ID D) (l : LeaderState T ID D) → SeesServer k (events_in k es id) s
      → SeesLeader k es t c l
      → first_broken k (Granted id t c) es ≡ grant_rule k.rank k.same_id s l id (k.rank t) c
  grant_right es id t c s l sees leads =
      rw (leads.campaigned, sees.term, sees.voted, leads.candidate_log, sees.log) refl

  same_id_turn : (a b : ID) → k.same_id a b ≡ k.same_id b a
  same_id_turn a b = same_sym k.same_id exact.same_id exact.id_itself a b

  -- a vote or a campaign makes no config known
  vote_tally : (w : ConfigsCount) (es : List (TraceEvent T ID D)) (id : ID) (t : T) (c : ID)
      (log : List (Entry T D)) (voters : ID → Bool)
      → tally k w (Granted id t c ∷ es) t log voters ≡ tally k w es t log voters
  vote_tally WhenAppended es id t c log voters = refl
  vote_tally WhenApplied es id t c log voters = refl

  campaign_tally : (w : ConfigsCount) (es : List (TraceEvent T ID D)) (t : T) (c : ID)
      (log : List (Entry T D)) (voters : ID → Bool)
      → tally k w (Campaigned c t ∷ es) t log voters ≡ tally k w es t log voters
  campaign_tally WhenAppended es t c log voters = refl
  campaign_tally WhenApplied es t c log voters = refl

  pub grant_seen : (es : List (TraceEvent T ID D)) (id : ID) (t : T) (c : ID)
      (servers : List (ServerState T ID D)) (leaders : List (LeaderState T ID D)) (i j : ℕ)
      (s new : ServerState T ID D) (l lnew : LeaderState T ID D)
      → position (λ (x : ServerState T ID D). k.same_id x.id id) servers ≡ Some i → s ≡ get_or servers i s
      → position (λ (x : LeaderState T ID D). same_leader k x.term x.id t c) leaders ≡ Some j
      → l ≡ get_or leaders j l
      → HasSeen k es servers leaders → grant_rule k.rank k.same_id s l id (k.rank t) c ≡ None
      → s.term < k.rank t → new.id ≡ s.id → new.term ≡ max s.term (k.rank t) → new.voted ≡ k.rank t → new.log ≡ s.log
      → new.durable ≡ s.durable
      → ((r : ℕ) → kept_from 0 new.kept r ≡ kept_after s.kept s.term (length s.log) (k.rank t) r)
      → ((v : ID) → is_member k.same_id lnew.voters v
      ≡ (is_member k.same_id l.voters v || k.same_id v id))
      → IsDistinct k.same_id lnew.voters
      → lnew.elected ≡ tally k k.counting es t (take l.start l.log) (is_member k.same_id lnew.voters)
      → lnew.acked ≡ l.acked
      → LeaderIs lnew l.term l.id l.start l.log lnew.voters lnew.elected l.committed
      → (first_broken k (Granted id t c) es ≡ None)
      × HasSeen k (Granted id t c ∷ es) (set servers i new) (set leaders j lnew)
  grant_seen es id t c servers leaders i j s new l lnew at_i is at_j is_l seen free above same_id term vote log dur kept voted
      distinct elected acked
      same = (
        ok,
        record {
          allowed = more_allowed k (Granted id t c) es ok seen.allowed;
          see_servers =
              server_event (Granted id t c) es id servers leaders i s new
              (and_vote k t c (events_in k es id)) (λ r. at_id (λ (x : List (Event T ID D)). and_vote k t c x) es id r)
              at_i is same_id seen
              (subst (λ (b : Bool). SeesServer k ((if b then GrantVote t c else LateVote t c) ∷ events_in k es id) new)
              (sym in_time) (sees_vote k exact (events_in k es id) s new t c at_s above term vote log dur kept));
          see_leaders =
              see_leader_set k exact es (Granted id t c ∷ es) leaders j lnew t c at_j place.1 seen.see_leaders
              (λ u d apart. grant_to_other k exact es id t u c d apart)
              (record {
                campaigned = at_l.campaigned;
                start = rw (same.start, same.log) at_l.start;
                candidate_log = at_l.candidate_log ∙ sym (λ q. take (same.start q) (same.log q));
                leader_log = at_l.leader_log ∙ sym same.log;
                voted = votes;
                distinct = distinct;
                own_vote = own;
                elected =
                    election_is k exact (is_elected_when k (Granted id t c ∷ es) t c) lnew.elected
                    (elected_by k exact (Granted id t c ∷ es) t c (take l.start l.log)
                    (is_member k.same_id lnew.voters) at_l.candidate_log votes own
                    ∙ vote_tally k.counting es id t c (take l.start l.log) (is_member k.same_id lnew.voters)
                    ∙ sym elected);
                acked = λ v m. any_vote_no_ack k exact (k.same_id id v) t t c c m (events_in k es v) ∙ at_l.acked v m
                    ∙ sym (ap (λ x. has_acked_to k.same_id x v m) acked);
                committed = at_l.committed ∙ sym same.committed;
                within = rw (same.committed, same.log) at_l.within;
              });
          see_commits = λ r p. seen.see_commits r p ∙ sym (any_set_or (knows k.rank (same_entry k) r p) false leaders j lnew l
              place.0 (same_knows r p));
        },
      )
    where
      at_s : SeesServer k (events_in k es id) s
      at_s = rw is (server_seen es servers id i s seen.see_servers at_i)

      at_l : SeesLeader k es t c l
      at_l = rw is_l (leader_seen es leaders t c j l seen.see_leaders at_j)

      ok : first_broken k (Granted id t c) es ≡ None
      ok = grant_right es id t c s l at_s at_l ∙ free

      in_time : nat_lt (term_after k.rank (events_in k es id)) (k.rank t) ≡ true
      in_time = rw at_s.term (lt-ltb s.term (k.rank t) above)

      place : (j < length leaders) × (same_leader k lnew.term lnew.id t c ≡ true)
      place = leader_place leaders t c j l lnew at_j is_l same.term same.id

      counted : (v : ID) (b : Bool) → k.same_id id v ≡ b
          → has_voted k t c (if b then and_vote k t c (events_in k es v) else events_in k es v)
          ≡ (is_member k.same_id l.voters v || b)
      counted v true e =
          let here : nat_lt (term_after k.rank (events_in k es v)) (k.rank t) ≡ true =
          rw (exact.same_id id v e) at in_time in
          rw here (rw (leader_from k exact t t c c refl refl) (or_comm true (is_member k.same_id l.voters v)))
      counted v false e = at_l.voted v ∙ sym (or-false (is_member k.same_id l.voters v))

      votes : (v : ID) → has_voted k t c (events_in k (Granted id t c ∷ es) v)
          ≡ is_member k.same_id lnew.voters v
      votes v =
          counted v (k.same_id id v) refl
          ∙ ap (λ x. is_member k.same_id l.voters v || x) (same_id_turn id v) ∙ sym (voted v)

      own : is_member k.same_id lnew.voters c ≡ true
      own = voted c ∙ ap (λ x. x || k.same_id c id) at_l.own_vote

      same_knows : (r : ℕ) (p : List (Entry T D)) → knows k.rank (same_entry k) r p lnew
          ≡ knows k.rank (same_entry k) r p (get_or leaders j l)
      same_knows r p =
          (λ q. nat_le (k.rank (same.term q)) r && has_committed (same_entry k) (same.log q) (same.committed q) p)
          ∙ ap (knows k.rank (same_entry k) r p) is_l

  -- a vote in a term in which the server has taken entries changes no leader
  pub late_vote_seen : (es : List (TraceEvent T ID D)) (id : ID) (t : T) (c : ID)
      (servers : List (ServerState T ID D)) (leaders : List (LeaderState T ID D)) (i j : ℕ)
      (s new : ServerState T ID D) (l : LeaderState T ID D)
      → position (λ (x : ServerState T ID D). k.same_id x.id id) servers ≡ Some i → s ≡ get_or servers i s
      → position (λ (x : LeaderState T ID D). same_leader k x.term x.id t c) leaders ≡ Some j
      → l ≡ get_or leaders j l
      → HasSeen k es servers leaders → grant_rule k.rank k.same_id s l id (k.rank t) c ≡ None
      → k.rank t ≤ s.term → new.id ≡ s.id → new.term ≡ s.term → new.voted ≡ k.rank t
      → new.log ≡ s.log → new.durable ≡ s.durable → new.kept ≡ s.kept
      → (first_broken k (Granted id t c) es ≡ None)
      × HasSeen k (Granted id t c ∷ es) (set servers i new) leaders
  late_vote_seen es id t c servers leaders i j s new l at_i is at_j is_l seen free reached same_id term vote log dur kept = (
    ok,
    record {
      allowed = more_allowed k (Granted id t c) es ok seen.allowed;
      see_servers =
          server_event (Granted id t c) es id servers leaders i s new
          (and_vote k t c (events_in k es id)) (λ r. at_id (λ (x : List (Event T ID D)). and_vote k t c x) es id r)
          at_i is same_id seen
          (subst (λ (b : Bool). SeesServer k ((if b then GrantVote t c else LateVote t c) ∷ events_in k es id) new)
          (sym late) (sees_late_vote k exact (events_in k es id) s new t c at_s term vote log dur kept));
      see_leaders = λ u d. stays k exact es (Granted id t c ∷ es) u d
          (late_vote_same k exact es id t u c d late) (find_leader k leaders u d) (seen.see_leaders u d);
      see_commits = seen.see_commits;
    },
  )
    where
      at_s : SeesServer k (events_in k es id) s
      at_s = rw is (server_seen es servers id i s seen.see_servers at_i)

      at_l : SeesLeader k es t c l
      at_l = rw is_l (leader_seen es leaders t c j l seen.see_leaders at_j)

      ok : first_broken k (Granted id t c) es ≡ None
      ok = grant_right es id t c s l at_s at_l ∙ free

      late : nat_lt (term_after k.rank (events_in k es id)) (k.rank t) ≡ false
      late = rw at_s.term (le-ltb s.term (k.rank t) reached)

  -- ---- campaigns

  pub campaign_twice : (es : List (TraceEvent T ID D)) (t : T) (c : ID) (l : LeaderState T ID D)
      → SeesLeader k es t c l → first_broken k (Campaigned c t) es ≡ Some CampaignedTwice
  campaign_twice es t c l leads = rw leads.campaigned refl

  pub campaign_right : (es : List (TraceEvent T ID D)) (t : T) (c : ID) (s : ServerState T ID D)
      → SeesServer k (events_in k es c) s → SeesNoLeader k es t c
      → first_broken k (Campaigned c t) es ≡ unless (nat_lt s.term (k.rank t)) PassedTerm None
  campaign_right es t c s sees none = rw (none.campaigned, sees.term) refl

  pub campaign_seen : (es : List (TraceEvent T ID D)) (t : T) (c : ID)
      (servers : List (ServerState T ID D)) (leaders : List (LeaderState T ID D)) (i : ℕ)
      (s new : ServerState T ID D) (lnew : LeaderState T ID D)
      → position (λ (x : ServerState T ID D). k.same_id x.id c) servers ≡ Some i → s ≡ get_or servers i s
      → position (λ (x : LeaderState T ID D). same_leader k x.term x.id t c) leaders ≡ None
      → HasSeen k es servers leaders → s.term < k.rank t
      → new.id ≡ s.id → new.term ≡ max s.term (k.rank t) → new.voted ≡ k.rank t → new.log ≡ s.log
      → new.durable ≡ s.durable
      → ((r : ℕ) → kept_from 0 new.kept r ≡ kept_after s.kept s.term (length s.log) (k.rank t) r)
      → lnew.elected ≡ tally k k.counting es t s.log (is_member k.same_id (c ∷ []))
      → lnew.acked ≡ []
      → LeaderIs lnew t c (length s.log) s.log (c ∷ []) lnew.elected None
      → (first_broken k (Campaigned c t) es ≡ None)
      × HasSeen k (Campaigned c t ∷ es) (set servers i new) (lnew ∷ leaders)
  campaign_seen es t c servers leaders i s new lnew at_i is absent seen above same_id term vote log dur kept elected acked same = (
    ok,
    record {
      allowed = more_allowed k (Campaigned c t) es ok seen.allowed;
      see_servers =
          server_event (Campaigned c t) es c servers leaders i s new
          (GrantVote t c ∷ events_in k es c) (λ r. at_id (λ (x : List (Event T ID D)). GrantVote t c ∷ x) es c r)
          at_i is same_id seen
          (sees_vote k exact (events_in k es c) s new t c at_s above term vote log dur kept);
      see_leaders =
          see_leader_added k exact es (Campaigned c t ∷ es) leaders lnew t c is_key seen.see_leaders
          (λ u d apart. campaign_of_other k exact es t u c d apart)
          (record {
            campaigned = rw me refl;
            start = rw (same.start, same.log) (omega arith);
            candidate_log = cand ∙ sym (λ q. take (same.start q) (same.log q));
            leader_log = rw me at_s.log ∙ sym same.log;
            voted = λ v. votes v ∙ sym (ap (λ x. is_member k.same_id x v) same.voters);
            distinct = rw same.voters (unfold IsDistinct in (tt, tt));
            own_vote = rw same.voters self_vote;
            elected =
                election_is k exact (is_elected_when k (Campaigned c t ∷ es) t c) lnew.elected
                (elected_by k exact (Campaigned c t ∷ es) t c s.log (is_member k.same_id (c ∷ [])) log0 votes self_vote
                ∙ campaign_tally k.counting es t c s.log (is_member k.same_id (c ∷ []))
                ∙ sym elected);
            acked = λ v m. vote_no_ack k exact (k.same_id c v) t t c c m (events_in k es v) ∙ none.acked v m
                ∙ sym (ap (λ x. has_acked_to k.same_id x v m) acked);
            committed = none.committed ∙ sym same.committed;
            within = rw same.committed tt;
          });
      see_commits = λ r p. seen.see_commits r p
          ∙ sym (ap (λ x. x || list_any (knows k.rank (same_entry k) r p) leaders) (knows_none r p));
    },
  )
    where
      at_s : SeesServer k (events_in k es c) s
      at_s = rw is (server_seen es servers c i s seen.see_servers at_i)

      none : SeesNoLeader k es t c
      none = no_leader_seen es leaders t c seen.see_leaders absent

      ok : first_broken k (Campaigned c t) es ≡ None
      ok =
          let free : unless (nat_lt s.term (k.rank t)) PassedTerm None ≡ None =
          rw (lt-ltb s.term (k.rank t) above) refl in
          campaign_right es t c s at_s none ∙ free

      me : same_leader k t c t c ≡ true
      me = leader_from k exact t t c c refl refl

      is_key : same_leader k lnew.term lnew.id t c ≡ true
      is_key = rw (same.term, same.id) me

      log0 : candidate_log_in k (Campaigned c t ∷ es) t c ≡ s.log
      log0 = rw me at_s.log

      cand : candidate_log_in k (Campaigned c t ∷ es) t c ≡ take (length s.log) s.log
      cand = log0 ∙ sym (take_all (length s.log) s.log (omega arith))

      counted : (v : ID) (b : Bool) → k.same_id c v ≡ b
          → has_voted k t c (if b then GrantVote t c ∷ events_in k es v else events_in k es v)
          ≡ (b || false)
      counted v true e = rw me refl
      counted v false e = none.voted v

      votes : (v : ID) → has_voted k t c (events_in k (Campaigned c t ∷ es) v)
          ≡ is_member k.same_id (c ∷ []) v
      votes v = counted v (k.same_id c v) refl ∙ ap (λ x. x || false) (same_id_turn c v)

      self_vote : is_member k.same_id (c ∷ []) c ≡ true
      self_vote = rw (exact.id_itself c) refl

      knows_none : (r : ℕ) (p : List (Entry T D)) → knows k.rank (same_entry k) r p lnew ≡ false
      knows_none r p =
          (λ q. nat_le (k.rank lnew.term) r && has_committed (same_entry k) lnew.log (same.committed q) p)
          ∙ and_right (nat_le (k.rank lnew.term) r) false refl

  -- ---- what a leader has committed

  -- none of the entries after more first ones holds a config if none after fewer does
  fewer_configs : (log : List (Entry T D)) (n m : ℕ) → n ≤ m → hold_no_config k (drop n log) ≡ true
      → hold_no_config k (drop m log) ≡ true
  fewer_configs [] n zero h e = refl
  fewer_configs [] n (suc m) h e = refl
  fewer_configs (x ∷ log) zero zero h e = e
  fewer_configs (x ∷ log) zero (suc m) h e =
      fewer_configs log zero m (omega arith) (second_so (is_none (k.config_of x.content)) (hold_no_config k log) e)
  fewer_configs (x ∷ log) (suc n) zero h e = absurd (omega arith)
  fewer_configs (x ∷ log) (suc n) (suc m) h e = fewer_configs log n m (omega arith) e

  -- a test that more passes where fewer passes, at the greater of two numbers
  at_max : (test : ℕ → Bool) → ((n m : ℕ) → n ≤ m → test n ≡ true → test m ≡ true) → (a n : ℕ)
      → test (max a n) ≡ (test n || test a)
  at_max test up a n = go (cases_lt a n)
    where
      both : (x y : Bool) → (y ≡ true → x ≡ true) → x ≡ (x || y)
      both true y h = refl
      both false true h = h refl
      both false false h = refl

      go : (a < n) ⊎ (n ≤ a) → test (max a n) ≡ (test n || test a)
      go (inl h) =
          let e : max a n ≡ n = omega arith in
          ap test e ∙ both (test n) (test a) (up a n (omega arith))
      go (inr h) =
          let e : max a n ≡ a = omega arith in
          ap test e ∙ both (test a) (test n) (up n a h) ∙ or_comm (test a) (test n)

  -- a leader has committed all configs of a log exactly if its greatest commit has
  configs_committed : (es : List (TraceEvent T ID D)) (u : T) (d : ID) (log : List (Entry T D))
      → is_config_committed k u d log es ≡ config_committed (hold_no_config k) (committed_in k es u d) log
  configs_committed [] u d log = refl
  configs_committed (Campaigned c t ∷ es) u d log = configs_committed es u d log
  configs_committed (Granted s t c ∷ es) u d log = configs_committed es u d log
  configs_committed (Appended s t c n sent ∷ es) u d log = configs_committed es u d log
  configs_committed (Acked s t c n ∷ es) u d log = configs_committed es u d log
  configs_committed (Restarted s n ∷ es) u d log = configs_committed es u d log
  configs_committed (Wrote c t e ∷ es) u d log = configs_committed es u d log
  configs_committed (Committed c t n m ∷ es) u d log =
      ap (λ b. (same_leader k t c u d && hold_no_config k (drop n log)) || b) (configs_committed es u d log)
      ∙ go (same_leader k t c u d) (committed_in k es u d)
    where
      go : (b : Bool) (o : Option ℕ)
          → ((b && hold_no_config k (drop n log)) || config_committed (hold_no_config k) o log)
          ≡ config_committed (hold_no_config k) (if b then Some (max (unwrap_or o 0) n) else o) log
      go true None =
          let e : n ≡ max 0 n = omega arith in
          or-false (hold_no_config k (drop n log)) ∙ ap (λ i. hold_no_config k (drop i log)) e
      go true (Some a) = sym (at_max (λ i. hold_no_config k (drop i log)) (λ i j h. fewer_configs log i j h) a n)
      go false o = refl
  configs_committed (Applied s t c n ∷ es) u d log = configs_committed es u d log

  -- ---- entries that a leader writes

  pub not_elected : (es : List (TraceEvent T ID D)) (t : T) (c : ID) → SeesNoLeader k es t c
      → is_elected_when k es t c ≡ false
  not_elected es t c none = go k.counting
    where
      go : (w : ConfigsCount) → (tests_by k w).is_elected es t c ≡ false
      go WhenAppended = rw (none.voted c) refl
      go WhenApplied = rw (none.voted c) refl

  -- whether entries hold a config is whether their contents do
  pub config_test : (holds : D → Bool) → ((d : D) → k.config_of d ≡ config_in holds d)
      → (log : List (Entry T D)) → hold_no_config k log ≡ no_config_in holds log
  config_test holds is [] = refl
  config_test holds is (e ∷ log) =
      (λ q. is_none (is e.content q) && config_test holds is log q)
      ∙ ap (λ x. x && no_config_in holds log) (go (holds e.content))
    where
      go : (b : Bool) → is_none (if b then Some (Some e.content) else None) ≡ not b
      go true = refl
      go false = refl

  pub write_right : (es : List (TraceEvent T ID D)) (t : T) (c : ID) (e : Entry T D)
      (l : LeaderState T ID D) (holds : D → Bool) → ((d : D) → k.config_of d ≡ config_in holds d)
      → k.initial ≡ None → SeesLeader k es t c l → is_elected_when k es t c ≡ true
      → first_broken k (Wrote c t e) es ≡ write_rule k.counting k.same_term holds k.intersect l t e
  write_right es t c e l holds is initial leads elected =
      rw elected (ap (λ x. unless (k.same_term e.term t) OtherTerm x) proposal)
    where
      configs : k.config_of ≡ config_in holds
      configs = λ q d. is d q

      in_effect : effective_config k.config_of k.initial (leader_log_in k es t c)
          ≡ effective_config (config_in holds) None l.log
      in_effect = λ q. effective_config (configs q) (initial q) (leads.leader_log q)

      tested : (o : Option ℕ) (x : List (Entry T D))
          → config_committed (hold_no_config k) o x ≡ config_committed (no_config_in holds) o x
      tested None x = refl
      tested (Some n) x = config_test holds is (drop n x)

      committed : is_config_committed k t c (leader_log_in k es t c) es
          ≡ config_committed (no_config_in holds) l.committed l.log
      committed =
          configs_committed es t c (leader_log_in k es t c)
          ∙ (λ q. config_committed (hold_no_config k) (leads.committed q) (leads.leader_log q))
          ∙ tested l.committed l.log

      go : (w : ConfigsCount) (b : Bool) → (tests_by k w).config_rule es t c (if b then Some (Some e.content) else None)
          ≡ (if b then unless (k.intersect (effective_config (config_in holds) None l.log) (Some e.content)) ApartConfigs
          (unless (k.intersect (Some e.content) (Some e.content)) ApartQuorums
          (early_rule w (config_committed (no_config_in holds) l.committed l.log)))
          else None)
      go WhenAppended true =
          λ q. unless (k.intersect (in_effect q) (Some e.content)) ApartConfigs
          (unless (k.intersect (Some e.content) (Some e.content)) ApartQuorums
          (unless (committed q) EarlyConfig None))
      go WhenApplied true =
          λ q. unless (k.intersect (in_effect q) (Some e.content)) ApartConfigs
          (unless (k.intersect (Some e.content) (Some e.content)) ApartQuorums None)
      go WhenAppended false = refl
      go WhenApplied false = refl

      proposal : (tests_by k k.counting).config_rule es t c (k.config_of e.content)
          ≡ config_rule k.counting holds k.intersect l e.content
      proposal =
          ap (λ o. (tests_by k k.counting).config_rule es t c o) (is e.content) ∙ go k.counting (holds e.content)

  pub write_seen : (es : List (TraceEvent T ID D)) (t : T) (c : ID) (e : Entry T D)
      (servers : List (ServerState T ID D)) (leaders : List (LeaderState T ID D)) (j : ℕ) (l lnew : LeaderState T ID D)
      → position (λ (x : LeaderState T ID D). same_leader k x.term x.id t c) leaders ≡ Some j
      → l ≡ get_or leaders j l
      → HasSeen k es servers leaders → first_broken k (Wrote c t e) es ≡ None
      → lnew.acked ≡ l.acked
      → LeaderIs lnew l.term l.id l.start (l.log ++ e ∷ []) l.voters l.elected l.committed
      → (first_broken k (Wrote c t e) es ≡ None)
      × HasSeen k (Wrote c t e ∷ es) servers (set leaders j lnew)
  write_seen es t c e servers leaders j l lnew at_j is_l seen ok acked same = (
    ok,
    record {
      allowed = more_allowed k (Wrote c t e) es ok seen.allowed;
      see_servers = seen.see_servers;
      see_leaders =
          see_leader_set k exact es (Wrote c t e ∷ es) leaders j lnew t c at_j place.1 seen.see_leaders
          (λ u d apart. write_of_other k exact es t u c d e apart)
          (record {
            campaigned = at_l.campaigned;
            start = rw (same.start, same.log) longer;
            candidate_log = at_l.candidate_log ∙ sym (take-append-le l.start l.log (e ∷ []) at_l.start)
                ∙ sym (λ q. take (same.start q) (same.log q));
            leader_log = rw me (ap (λ x. x ++ e ∷ []) at_l.leader_log ∙ sym same.log);
            voted = λ v. at_l.voted v ∙ sym (ap (λ x. is_member k.same_id x v) same.voters);
            distinct = rw same.voters at_l.distinct;
            own_vote = rw same.voters at_l.own_vote;
            elected =
                elected_same k exact es (Wrote c t e ∷ es) t c refl (λ v. refl) (λ p. refl) lnew.elected
                (as_noted t c es l lnew same.elected at_l.elected);
            acked = λ v m. at_l.acked v m ∙ sym (ap (λ x. has_acked_to k.same_id x v m) acked);
            committed = at_l.committed ∙ sym same.committed;
            within = rw (same.committed, same.log) (within l.committed at_l.within);
          });
      see_commits = λ r p. seen.see_commits r p ∙ sym (any_set_or (knows k.rank (same_entry k) r p) false leaders j lnew l
          place.0 (same_knows r p));
    },
  )
    where
      at_l : SeesLeader k es t c l
      at_l = rw is_l (leader_seen es leaders t c j l seen.see_leaders at_j)

      me : same_leader k t c t c ≡ true
      me = leader_from k exact t t c c refl refl

      place : (j < length leaders) × (same_leader k lnew.term lnew.id t c ≡ true)
      place = leader_place leaders t c j l lnew at_j is_l same.term same.id

      more : length l.log ≤ length (l.log ++ e ∷ [])
      more = simp length-append (omega arith)

      longer : l.start ≤ length (l.log ++ e ∷ [])
      longer = let a : l.start ≤ length l.log = at_l.start in omega (arith, more)

      within : (o : Option ℕ) → MatchOption o (Unit {0}) (λ n. n ≤ length l.log)
          → MatchOption o (Unit {0}) (λ n. n ≤ length (l.log ++ e ∷ []))
      within None h = tt
      within (Some n) h = omega (arith, more)

      same_committed : (o : Option ℕ) (p : List (Entry T D))
          → MatchOption o (Unit {0}) (λ n. n ≤ length l.log)
          → has_committed (same_entry k) (l.log ++ e ∷ []) o p
          ≡ has_committed (same_entry k) l.log o p
      same_committed None p h = refl
      same_committed (Some n) p h =
          ap (λ x. nat_eq (common_len (same_entry k) p x) (length p)) (take-append-le n l.log (e ∷ []) h)

      same_knows : (r : ℕ) (p : List (Entry T D)) → knows k.rank (same_entry k) r p lnew
          ≡ knows k.rank (same_entry k) r p (get_or leaders j l)
      same_knows r p =
          (λ q. nat_le (k.rank (same.term q)) r && has_committed (same_entry k) (same.log q) (same.committed q) p)
          ∙ ap (λ x. nat_le (k.rank l.term) r && x) (same_committed l.committed p at_l.within)
          ∙ ap (knows k.rank (same_entry k) r p) is_l

  -- ---- commits

  -- what a commit breaks: a rule of the leader alone, or there is no quorum
  pub commit_right : (es : List (TraceEvent T ID D)) (t : T) (c : ID) (n m : ℕ) (l : LeaderState T ID D)
      (known follows quorum : Bool) → SeesLeader k es t c l → is_elected_when k es t c ≡ true
      → (k.counting ≡ WhenApplied → may_count_acks k es t c m ≡ known)
      → (k.counting ≡ WhenApplied → hold_at_most_one k (drop m (take n l.log)) ≡ follows)
      → is_quorum_of_log k (take m l.log) (λ v. has_acked_to k.same_id l.acked v n) ≡ quorum
      → first_broken k (Committed c t n m) es
      ≡ commit_rule k.counting l n m known follows (unless quorum NoQuorum None)
  commit_right es t c n m l known follows quorum leads elected is_known is_alone is =
      λ q. unless (elected q) NotElected
      (unless (nat_lt (start q) n) EarlierTerm (go k.counting refl q))
    where
      start : length (candidate_log_in k es t c) ≡ l.start
      start = ap length leads.candidate_log ∙ length-take-le l.start l.log leads.start

      counted : is_quorum_of_log k (take m (leader_log_in k es t c)) (λ v. has_acked k t c n (events_in k es v))
          ≡ quorum
      counted = (λ q. is_quorum_of_log k (take m (leads.leader_log q)) (λ v. leads.acked v n q)) ∙ is

      go : (w : ConfigsCount) → k.counting ≡ w → (tests_by k w).commit_rule es t c n m
          ≡ counted_rule w l n m known follows (unless quorum NoQuorum None)
      go WhenAppended e =
          λ q. unless (nat_le n m) CountedEarly
          (unless (nat_le m (length (leads.leader_log q))) NotWritten
          (unless (counted q) NoQuorum None))
      go WhenApplied e =
          λ q. unless (nat_le m n) CountedLate
          (unless (nat_le n (length (leads.leader_log q))) NotWritten
          (unless (is_known e q) UnknownConfig
          (unless (((λ z. hold_at_most_one k (drop m (take n (leads.leader_log z)))) ∙ is_alone e) q) ConfigsFollow
          (unless (counted q) NoQuorum None))))

  -- a rule that is broken before the quorum is counted is broken whatever the quorum is
  pub commit_first : (l : LeaderState T ID D) (n m : ℕ) (known follows : Bool) (r : Rule) (o : Option Rule)
      → commit_rule k.counting l n m known follows None ≡ Some r
      → commit_rule k.counting l n m known follows o ≡ Some r
  commit_first l n m known follows r o e =
      go (nat_lt l.start n) e
    where
      three : (x y : Bool) → unless x CountedEarly (unless y NotWritten None) ≡ Some r
          → unless x CountedEarly (unless y NotWritten o) ≡ Some r
      three true true h = absurd (cc)
      three true false h = h
      three false y h = h

      five : (x y z u : Bool)
          → unless x CountedLate (unless y NotWritten (unless z UnknownConfig (unless u ConfigsFollow None))) ≡ Some r
          → unless x CountedLate (unless y NotWritten (unless z UnknownConfig (unless u ConfigsFollow o))) ≡ Some r
      five true true true true h = absurd (cc)
      five true true true false h = h
      five true true false u h = h
      five true false z u h = h
      five false y z u h = h

      rest : (w : ConfigsCount) → counted_rule w l n m known follows None ≡ Some r
          → counted_rule w l n m known follows o ≡ Some r
      rest WhenAppended h = three (nat_le n m) (nat_le m (length l.log)) h
      rest WhenApplied h = five (nat_le m n) (nat_le n (length l.log)) known follows h

      go : (b : Bool) → unless b EarlierTerm (counted_rule k.counting l n m known follows None) ≡ Some r
          → unless b EarlierTerm (counted_rule k.counting l n m known follows o) ≡ Some r
      go true h = rest k.counting h
      go false h = h

  -- if no such rule is broken, the quorum decides
  pub commit_then : (l : LeaderState T ID D) (n m : ℕ) (known follows : Bool) (o : Option Rule)
      → commit_rule k.counting l n m known follows None ≡ None
      → commit_rule k.counting l n m known follows o ≡ o
  commit_then l n m known follows o e =
      go (nat_lt l.start n) e
    where
      three : (x y : Bool) → unless x CountedEarly (unless y NotWritten None) ≡ None
          → unless x CountedEarly (unless y NotWritten o) ≡ o
      three true true h = refl
      three true false h = absurd (cc)
      three false y h = absurd (cc)

      five : (x y z u : Bool)
          → unless x CountedLate (unless y NotWritten (unless z UnknownConfig (unless u ConfigsFollow None))) ≡ None
          → unless x CountedLate (unless y NotWritten (unless z UnknownConfig (unless u ConfigsFollow o))) ≡ o
      five true true true true h = refl
      five true true true false h = absurd (cc)
      five true true false u h = absurd (cc)
      five true false z u h = absurd (cc)
      five false y z u h = absurd (cc)

      rest : (w : ConfigsCount) → counted_rule w l n m known follows None ≡ None
          → counted_rule w l n m known follows o ≡ o
      rest WhenAppended h = three (nat_le n m) (nat_le m (length l.log)) h
      rest WhenApplied h = five (nat_le m n) (nat_le n (length l.log)) known follows h

      go : (b : Bool) → unless b EarlierTerm (counted_rule k.counting l n m known follows None) ≡ None
          → unless b EarlierTerm (counted_rule k.counting l n m known follows o) ≡ o
      go true h = rest k.counting h
      go false h = absurd (cc)

  -- the first entries of a log that reach further hold what fewer hold
  longer_prefix : (p log : List (Entry T D)) (n m : ℕ) → n ≤ m
      → is_prefix k p (take n log) ≡ true → is_prefix k p (take m log) ≡ true
  longer_prefix [] log n m h e = refl
  longer_prefix (x ∷ p) [] n m h e = absurd (none n e)
    where
      none : (i : ℕ) → is_prefix k (x ∷ p) (take i []) ≡ true → ⊥
      none zero q = absurd (cc)
      none (suc i) q = absurd (cc)
  longer_prefix (x ∷ p) (y ∷ log) zero m h e = absurd (cc)
  longer_prefix (x ∷ p) (y ∷ log) (suc n) zero h e = absurd (omega arith)
  longer_prefix (x ∷ p) (y ∷ log) (suc n) (suc m) h e =
      and_from (same_entry k x y) (is_prefix k p (take m log))
      (first_so (same_entry k x y) (is_prefix k p (take n log)) e)
      (longer_prefix p log n m (omega arith) (second_so (same_entry k x y) (is_prefix k p (take n log)) e))

  pub commit_seen : (es : List (TraceEvent T ID D)) (t : T) (c : ID) (n m : ℕ)
      (servers : List (ServerState T ID D)) (leaders : List (LeaderState T ID D)) (j : ℕ) (l lnew : LeaderState T ID D)
      → position (λ (x : LeaderState T ID D). same_leader k x.term x.id t c) leaders ≡ Some j
      → l ≡ get_or leaders j l
      → HasSeen k es servers leaders → first_broken k (Committed c t n m) es ≡ None
      → n ≤ length l.log
      → lnew.acked ≡ l.acked
      → LeaderIs lnew l.term l.id l.start l.log l.voters l.elected
      (Some (max (unwrap_or l.committed 0) n))
      → (first_broken k (Committed c t n m) es ≡ None)
      × HasSeen k (Committed c t n m ∷ es) servers (set leaders j lnew)
  commit_seen es t c n m servers leaders j l lnew at_j is_l seen ok short acked same = (
    ok,
    record {
      allowed = more_allowed k (Committed c t n m) es ok seen.allowed;
      see_servers = seen.see_servers;
      see_leaders =
          see_leader_set k exact es (Committed c t n m ∷ es) leaders j lnew t c at_j place.1 seen.see_leaders
          (λ u d apart. commit_of_other k exact es t u c d n m apart)
          (record {
            campaigned = at_l.campaigned;
            start = rw (same.start, same.log) at_l.start;
            candidate_log = at_l.candidate_log ∙ sym (λ q. take (same.start q) (same.log q));
            leader_log = at_l.leader_log ∙ sym same.log;
            voted = λ v. at_l.voted v ∙ sym (ap (λ x. is_member k.same_id x v) same.voters);
            distinct = rw same.voters at_l.distinct;
            own_vote = rw same.voters at_l.own_vote;
            elected = elected_still k exact es t c n m t c lnew.elected (as_noted t c es l lnew same.elected at_l.elected);
            acked = λ v i. at_l.acked v i ∙ sym (ap (λ x. has_acked_to k.same_id x v i) acked);
            committed = rw me (ap (λ o. Some (max (unwrap_or o 0) n)) at_l.committed ∙ sym same.committed);
            within = rw (same.committed, same.log) (reach l.committed at_l.within);
          });
      see_commits = λ r p.
          (ap (λ b. (nat_le (k.rank t) r && is_prefix k p (take n (leader_log_in k es t c))) || b) (seen.see_commits r p)
          ∙ sym (any_set_or (knows k.rank (same_entry k) r p)
          (nat_le (k.rank t) r && is_prefix k p (take n (leader_log_in k es t c))) leaders j lnew l
          place.0 (new_knows r p)));
    },
  )
    where
      at_l : SeesLeader k es t c l
      at_l = rw is_l (leader_seen es leaders t c j l seen.see_leaders at_j)

      me : same_leader k t c t c ≡ true
      me = leader_from k exact t t c c refl refl

      place : (j < length leaders) × (same_leader k lnew.term lnew.id t c ≡ true)
      place = leader_place leaders t c j l lnew at_j is_l same.term same.id

      term_is : l.term ≡ t
      term_is =
          let facts : (j < length leaders)
          × (same_leader k (get_or leaders j l).term (get_or leaders j l).id t c ≡ true)
          × ((i : ℕ) → i < j → same_leader k (get_or leaders i l).term (get_or leaders i l).id t c ≡ false) =
          position-Some (λ (x : LeaderState T ID D). same_leader k x.term x.id t c) leaders j l at_j in
          let here : same_leader k l.term l.id t c ≡ true = rw is_l facts.1 in
          let both = leader_right k exact l.term t l.id c here in both.0

      reach : (o : Option ℕ) → MatchOption o (Unit {0}) (λ i. i ≤ length l.log)
          → max (unwrap_or o 0) n ≤ length l.log
      reach None h = omega arith
      reach (Some i) h = omega arith

      prefixes : (p : List (Entry T D)) (o : Option ℕ)
          → nat_eq (common_len (same_entry k) p (take (max (unwrap_or o 0) n) l.log)) (length p)
          ≡ (is_prefix k p (take n l.log) || has_committed (same_entry k) l.log o p)
      prefixes p None =
          let e : max 0 n ≡ n = omega arith in
          ap (λ i. nat_eq (common_len (same_entry k) p (take i l.log)) (length p)) e
          ∙ sym (is_prefix_by_len k exact p (take n l.log))
          ∙ sym (or-false (is_prefix k p (take n l.log)))
      prefixes p (Some a) =
          sym (is_prefix_by_len k exact p (take (max a n) l.log))
          ∙ at_max (λ i. is_prefix k p (take i l.log)) (λ i u h. longer_prefix p l.log i u h) a n
          ∙ ap (λ x. is_prefix k p (take n l.log) || x) (is_prefix_by_len k exact p (take a l.log))

      spread : (x y z : Bool) → (x && (y || z)) ≡ ((x && y) || (x && z))
      spread true y z = refl
      spread false y z = refl

      new_knows : (r : ℕ) (p : List (Entry T D)) → knows k.rank (same_entry k) r p lnew
          ≡ ((nat_le (k.rank t) r && is_prefix k p (take n (leader_log_in k es t c)))
          || knows k.rank (same_entry k) r p (get_or leaders j l))
      new_knows r p =
          (λ q. nat_le (k.rank (same.term q)) r && has_committed (same_entry k) (same.log q) (same.committed q) p)
          ∙ ap (λ x. nat_le (k.rank l.term) r && x) (prefixes p l.committed)
          ∙ spread (nat_le (k.rank l.term) r) (is_prefix k p (take n l.log))
          (has_committed (same_entry k) l.log l.committed p)
          ∙ (λ q. (nat_le (k.rank (term_is q)) r && is_prefix k p (take n (sym at_l.leader_log q)))
          || knows k.rank (same_entry k) r p (is_l q))

  -- ---- what is applied

  first_both : (a b : Bool) (p q : Rule) (o : Option Rule)
      → unless a p (unless b q o) ≡ option_or (unless a p (unless b q None)) o
  first_both true true p q o = refl
  first_both true false p q o = refl
  first_both false b p q o = refl

  pub apply_right : (es : List (TraceEvent T ID D)) (servers : List (ServerState T ID D))
      (leaders : List (LeaderState T ID D)) (id : ID) (t : T) (c : ID) (n : ℕ) (s : ServerState T ID D)
      (l : LeaderState T ID D) → HasSeen k es servers leaders → SeesServer k (events_in k es id) s
      → SeesLeader k es t c l → is_elected_when k es t c ≡ true
      → first_broken k (Applied id t c n) es ≡ option_or (apply_rule (same_entry k) s l n)
      (unless (list_any (knows k.rank (same_entry k) (k.rank t) (take n l.log)) leaders) NotCommitted None)
  apply_right es servers leaders id t c n s l seen sees leads elected =
      (λ q. unless (elected q) NotElected
      (unless (nat_le n (length (leads.leader_log q))) NotWritten
      (unless (in_log q) NotInLog (unless (known q) NotCommitted None))))
      ∙ first_both (nat_le n (length l.log))
      (nat_eq (common_len (same_entry k) (take n l.log) s.log) (length (take n l.log))) NotWritten NotInLog
      (unless (list_any (knows k.rank (same_entry k) (k.rank t) (take n l.log)) leaders) NotCommitted None)
    where
      in_log : is_prefix k (take n (leader_log_in k es t c)) (log_in k es id)
          ≡ nat_eq (common_len (same_entry k) (take n l.log) s.log) (length (take n l.log))
      in_log =
          (λ q. is_prefix k (take n (leads.leader_log q)) (sees.log q))
          ∙ is_prefix_by_len k exact (take n l.log) s.log

      known : is_known_committed k (k.rank t) (take n (leader_log_in k es t c)) es
          ≡ list_any (knows k.rank (same_entry k) (k.rank t) (take n l.log)) leaders
      known =
          ap (λ x. is_known_committed k (k.rank t) (take n x) es) leads.leader_log
          ∙ seen.see_commits (k.rank t) (take n l.log)

  pub apply_seen : (es : List (TraceEvent T ID D)) (servers : List (ServerState T ID D))
      (leaders : List (LeaderState T ID D)) (id : ID) (t : T) (c : ID) (n : ℕ)
      → HasSeen k es servers leaders → first_broken k (Applied id t c n) es ≡ None
      → (first_broken k (Applied id t c n) es ≡ None)
      × HasSeen k (Applied id t c n ∷ es) servers leaders
  apply_seen es servers leaders id t c n seen ok = (
    ok,
    record {
      allowed = more_allowed k (Applied id t c n) es ok seen.allowed;
      see_servers = seen.see_servers;
      see_leaders = λ u d. stays k exact es (Applied id t c n ∷ es) u d (apply_same k exact es id t u c d n)
          (find_leader k leaders u d) (seen.see_leaders u d);
      see_commits = seen.see_commits;
    },
  )

  -- ---- events that are refused

  pub campaign_refused : (es : List (TraceEvent T ID D)) (t : T) (c : ID)
      (old servers : List (ServerState T ID D)) (leaders : List (LeaderState T ID D)) (i : ℕ) (s : ServerState T ID D)
      → HasPlace (λ (x : ServerState T ID D). k.same_id x.id c) c old servers i → s ≡ get_or servers i s
      → position (λ (x : LeaderState T ID D). same_leader k x.term x.id t c) leaders ≡ None
      → HasSeen k es old leaders → k.rank t ≤ s.term
      → (first_broken k (Campaigned c t) es ≡ Some PassedTerm) × HasSeen k es servers leaders
  campaign_refused es t c old servers leaders i s place is absent seen below =
      let now : HasSeen k es servers leaders = see_place es c old servers i leaders place seen in
      let at_s : SeesServer k (events_in k es c) s =
      rw is (server_seen es servers c i s now.see_servers place.0) in
      let none : SeesNoLeader k es t c = no_leader_seen es leaders t c seen.see_leaders absent in
      let free : unless (nat_lt s.term (k.rank t)) PassedTerm None ≡ Some PassedTerm =
      rw (le-ltb s.term (k.rank t) below) refl in
      (campaign_right es t c s at_s none ∙ free, now)

  pub campaign_again : (es : List (TraceEvent T ID D)) (t : T) (c : ID)
      (servers : List (ServerState T ID D)) (leaders : List (LeaderState T ID D)) (j : ℕ)
      → position (λ (x : LeaderState T ID D). same_leader k x.term x.id t c) leaders ≡ Some j
      → HasSeen k es servers leaders
      → (first_broken k (Campaigned c t) es ≡ Some CampaignedTwice) × HasSeen k es servers leaders
  campaign_again es t c servers leaders j at_j seen =
      let found : (l : LeaderState T ID D) × (find_leader k leaders t c ≡ Some l) =
      found_some (λ (x : LeaderState T ID D). same_leader k x.term x.id t c) leaders j at_j in
      let at_l : SeesLeader k es t c found.0 =
      subst (λ (o : Option (LeaderState T ID D)). MatchOption o (SeesNoLeader k es t c) (SeesLeader k es t c))
      found.1 (seen.see_leaders t c) in
      (campaign_twice es t c found.0 at_l, seen)

  pub no_leader : (es : List (TraceEvent T ID D)) (t : T) (c : ID) (servers : List (ServerState T ID D))
      (leaders : List (LeaderState T ID D))
      → position (λ (x : LeaderState T ID D). same_leader k x.term x.id t c) leaders ≡ None
      → HasSeen k es servers leaders → (is_elected_when k es t c ≡ false)
      × (has_campaigned k t c es ≡ false)
      × ((v : ID) (n : ℕ) → has_acked k t c n (events_in k es v) ≡ false)
  no_leader es t c servers leaders absent seen =
      let none : SeesNoLeader k es t c = no_leader_seen es leaders t c seen.see_leaders absent in
      (not_elected es t c none, none.campaigned, none.acked)
