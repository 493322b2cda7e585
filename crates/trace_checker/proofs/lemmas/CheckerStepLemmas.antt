-- The checker's steps as its code takes them, by what its parts stand for. An element of a list that
-- is read and borrowed has two names there.
use Rattle.std.specs.Prelude.{◌≡◌, ◌≢◌, ◌⊎◌, ◌+◌, ◌<◌, ◌≤◌, ℕ, zero, suc, Bool, true, false, not, ◌||◌, ◌&&◌, nat_eq, nat_le, nat_lt, min, max, if◌then◌else◌, Option, Some, None, is_some, List, [], ◌∷◌, ◌++◌, length, take, drop, map, get_or, set}
use Rattle.std.specs.List.{find, position, position_or_len, IsDistinct, list_any}
use Rattle.std.specs.Option.{unwrap_or, option_or}
use Rattle.std.specs.Set.{is_member}
use Rattle.std.proofs.Common.{refl, sym, ap, ◌∙◌, subst, inl, inr, arith}
use Rattle.std.proofs.lemmas.Bool.{cases_eq, cases_lt, le-leb, le-ltb, leb-true}
use Rattle.std.proofs.lemmas.List.{get_or_append_left, get_or_default, get_or_push, get_or-set_same, get_or-set_other, set-get_or, length-map, length-set, length_push, map-append, map-set, take_all}
use Rattle.std.proofs.lemmas.List.Quantifiers.{position-Some}
use Rattle.safety_laws.specs.Log.{Entry}
use Rattle.safety_laws.specs.Configs.{effective_config}
use Rattle.safety_laws.specs.Trace.{AreExact, Tests, TraceEvent, Campaigned, Granted, Appended, Acked, Restarted, Wrote, Committed, Applied, events_in, has_campaigned, same_entry, same_leader, hold_no_config, is_earlier, is_known_by, is_quorum_of_log, unless}
use Rattle.trace_checker.specs.Counted.{first_broken, is_elected_when}
use Rattle.safety_laws.specs.AppliedTrace.{hold_at_most_one, is_shorter, may_count_acks, some_upto}
use Rattle.trace_checker.specs.Inner.Known.{CommitState, SeesKnownBy, commit_in, elected_in, is_applied}
use Rattle.safety_laws.specs.declared.counting.ConfigsCount.{ConfigsCount}
use Rattle.safety_laws.specs.declared.counting.ConfigsCount.TheVariants.{WhenAppended, WhenApplied}
use Rattle.trace_checker.specs.declared.checker.known.Commit.{Commit}
use Rattle.trace_checker.specs.Inner.CheckerState.{ServerState, LeaderState, config_in, no_config_in, write_rule, commit_rule, counted_rule, append_rule, ack_rule, restart_rule, grant_rule, knows, has_acked_to, common_len, kept_after, kept_from, IsAdded, HasPlace, apply_rule}
use Rattle.trace_checker.specs.Inner.Kept.{AreBounded, HaveLogs, IsAt, IsPushed, Parts, leader_in, commits_in, leaders_in, server_in, servers_in}
use Rattle.trace_checker.specs.Inner.Logs.{AllLogs, AreLogs, AreWithout, HasConfig, IsChild, IsExact, LackContent, config_at, log_at, no_logs}
use Rattle.trace_checker.specs.Inner.Places.{first_of, place_of}
use Rattle.trace_checker.specs.Inner.Seen.{IsElectionOf, SeesServer, SeesLeader, tally}
use Rattle.trace_checker.specs.Checker.{AgreeOn, HasSeen, IsElectedAt, Keeps}
use Rattle.safety_laws.specs.declared.rule.Rule.TheVariants.{NoCampaign, NotElected, NoQuorum, NotCommitted, PassedTerm, CampaignedTwice, EarlierTerm, CountedEarly, CountedLate, UnknownConfig, ConfigsFollow, NotWritten}
use Rattle.safety_laws.specs.declared.rule.Rule.{Rule}
use Rattle.trace_checker.specs.declared.checker.server.Server.{Server}
use Rattle.trace_checker.specs.declared.checker.leader.Leader.{Leader}
use Rattle.safety_laws.proofs.lemmas.TestLemmas.{entry_itself, entry_right, leader_right}
use Rattle.trace_checker.proofs.lemmas.CheckedLeaderLemmas.{elected_by, found_some}
use Rattle.trace_checker.proofs.lemmas.PlaceLemmas.{placed_more, placed_set}
use Rattle.trace_checker.proofs.lemmas.CommitLemmas.{bounded_commit, bounded_more, bounded_same}
use Rattle.trace_checker.proofs.lemmas.ContentLemmas.{lack_append, lack_second}
use Rattle.trace_checker.proofs.lemmas.CheckerCodeLemmas.{distinct_one}
use Rattle.trace_checker.proofs.lemmas.CheckerLemmas.{LeaderIs, ack_right, ack_seen, append_right, append_seen, apply_right, apply_seen, campaign_again, campaign_refused, campaign_seen, commit_first, commit_right, commit_seen, commit_then, grant_right, grant_seen, late_vote_seen, leader_seen, no_leader, restart_right, restart_seen, see_place, server_seen, write_right, write_seen}

-- ---- lists

pub same_item : {X : Type 0} (xs : List X) (i : ℕ) (x y : X) → i < length xs → x ≡ get_or xs i x
    → y ≡ get_or xs i y → x ≡ y
same_item xs i x y h a b = a ∙ get_or_default xs i x y h ∙ sym b

module _ {X Y : Type 0} (f : X → Y) where
  get_map : (xs : List X) (i : ℕ) (d : X) → get_or (map f xs) i (f d) ≡ f (get_or xs i d)
  get_map [] i d = refl
  get_map (x ∷ xs) zero d = refl
  get_map (x ∷ xs) (suc i) d = get_map xs i d

  pub item_map : (xs : List X) (i : ℕ) (x : X) → x ≡ get_or xs i x → f x ≡ get_or (map f xs) i (f x)
  item_map xs i x e = ap f e ∙ sym (get_map xs i x)

  place_or_len_map : (p : Y → Bool) (xs : List X)
      → position_or_len p (map f xs) ≡ position_or_len (λ x. p (f x)) xs
  place_or_len_map p [] = refl
  place_or_len_map p (x ∷ xs) = ap (λ n. if not (p (f x)) then 1 + n else 0) (place_or_len_map p xs)

  pub place_map : (p : Y → Bool) (xs : List X) → position p (map f xs) ≡ position (λ x. p (f x)) xs
  place_map p xs =
      λ q. if nat_lt (place_or_len_map p xs q) (length-map xs f q) then Some (place_or_len_map p xs q) else None

-- what is kept of servers and leaders is the same if their logs are
module _ {T N D : Type 0} (old new : AllLogs T D) where
  same_servers : (xs : List (Server N))
      → ((i : ℕ) (s : Server N) → i < length xs → s ≡ get_or xs i s → log_at new s.log ≡ log_at old s.log)
      → map (server_in {T = T} {D = D} new) xs ≡ map (server_in old) xs
  same_servers [] same = refl
  same_servers (x ∷ xs) same =
      let here : log_at new x.log ≡ log_at old x.log = same 0 x (omega arith) refl in
      let rest : map (server_in {T = T} {D = D} new) xs ≡ map (server_in old) xs =
      same_servers xs (λ i s h e. same (suc i) s (omega (arith, h)) e) in
      λ q. record {
        id = x.id;
        term = x.terms.term;
        voted = x.voted;
        log = here q;
        durable = x.durable;
        kept = x.terms.kept;
      } ∷ rest q

  same_leaders : (xs : List (Leader T N))
      → ((i : ℕ) (l : Leader T N) → i < length xs → l ≡ get_or xs i l → log_at new l.log ≡ log_at old l.log)
      → map (leader_in new) xs ≡ map (leader_in old) xs
  same_leaders [] same = refl
  same_leaders (x ∷ xs) same =
      let here : log_at new x.log ≡ log_at old x.log = same 0 x (omega arith) refl in
      let rest : map (leader_in new) xs ≡ map (leader_in old) xs =
      same_leaders xs (λ i l h e. same (suc i) l (omega (arith, h)) e) in
      λ q. record {
        term = x.term;
        id = x.id;
        start = x.start;
        log = here q;
        voters = x.voters.items;
        elected = x.elected;
        acked = x.acked.items;
        committed = x.committed;
      } ∷ rest q

module _ {T D : Type 0} (old new : AllLogs T D) where
  same_commits : (xs : List Commit)
      → ((i : ℕ) (c : Commit) → i < length xs → c ≡ get_or xs i c → log_at new c.log ≡ log_at old c.log)
      → map (commit_in new) xs ≡ map (commit_in old) xs
  same_commits [] same = refl
  same_commits (x ∷ xs) same =
      let here : log_at new x.log ≡ log_at old x.log = same 0 x (omega arith) refl in
      let rest : map (commit_in new) xs ≡ map (commit_in old) xs =
      same_commits xs (λ i c h e. same (suc i) c (omega (arith, h)) e) in
      λ q. record { rank = x.rank; counted_at = x.counted_at; entries = here q } ∷ rest q

-- ---- which contents hold a config

module _ {D : Type 0} (holds : D → Bool) where
  pub some_config : (d : D) → is_some (config_in holds d) ≡ holds d
  some_config d = go (holds d)
    where
      go : (b : Bool) → is_some (if b then Some (Some d) else None) ≡ b
      go true = refl
      go false = refl

  pub logs_by : {T : Type 0} (t : AllLogs T D) → AreLogs (λ d. is_some (config_in holds d)) t → AreLogs holds t
  logs_by t are = subst (λ (f : D → Bool). AreLogs f t) (λ q d. some_config d q) are

-- ---- the parts of a checker

module _ {T N D : Type 0} where
  -- other servers, another server or another leader
  abbrev pub with_servers : Parts T N D → List (Server N) → Parts T N D
  with_servers p new = record p { servers = new }

  abbrev pub with_server : Parts T N D → ℕ → Server N → Parts T N D
  with_server p i s = with_servers p (set p.servers i s)

  abbrev pub with_leaders : Parts T N D → List (Leader T N) → Parts T N D
  with_leaders p new = record p { leaders = new }

  abbrev pub with_leader : Parts T N D → ℕ → Leader T N → Parts T N D
  with_leader p j l = with_leaders p (set p.leaders j l)

  -- another number of entries such that no leader has committed more
  abbrev pub with_committed : Parts T N D → ℕ → Parts T N D
  with_committed p n = record p { committed = n }

  -- other commits by which configs are known
  abbrev pub with_commits : Parts T N D → List Commit → Parts T N D
  with_commits p new = record p { commits = new }

  abbrev pub with_places : Parts T N D → List (ℕ × (ℕ × ℕ)) → Parts T N D
  with_places p new = record p { places = new }

  have_server : (p : Parts T N D) (i : ℕ) (new : Server N) → HaveLogs p → i < length p.servers
      → new.log < length p.logs.logs → HaveLogs (with_server p i new)
  have_server p i new have at within = record {
    of_servers = λ j s h e. go j s (cases_eq j i) h e;
    of_leaders = have.of_leaders;
    of_commits = have.of_commits;
  }
    where
      go : (j : ℕ) (s : Server N) → (j ≡ i) ⊎ (j ≢ i) → j < length (set p.servers i new)
          → s ≡ get_or (set p.servers i new) j s → s.log < length p.logs.logs
      go j s (inl q) h e =
          let is : s ≡ new = e ∙ ap (λ m. get_or (set p.servers i new) m s) q ∙ get_or-set_same p.servers i new s at in
          subst (λ (x : Server N). x.log < length p.logs.logs) (sym is) within
      go j s (inr q) h e =
          have.of_servers j s (rw (length-set p.servers i new) at h)
          (e ∙ get_or-set_other p.servers i j new s q)

  have_leader : (p : Parts T N D) (i : ℕ) (new : Leader T N) → HaveLogs p → i < length p.leaders
      → new.log < length p.logs.logs → HaveLogs (with_leader p i new)
  have_leader p i new have at within = record {
    of_servers = have.of_servers;
    of_leaders = λ j l h e. go j l (cases_eq j i) h e;
    of_commits = have.of_commits;
  }
    where
      go : (j : ℕ) (l : Leader T N) → (j ≡ i) ⊎ (j ≢ i) → j < length (set p.leaders i new)
          → l ≡ get_or (set p.leaders i new) j l → l.log < length p.logs.logs
      go j l (inl q) h e =
          let is : l ≡ new = e ∙ ap (λ m. get_or (set p.leaders i new) m l) q ∙ get_or-set_same p.leaders i new l at in
          subst (λ (x : Leader T N). x.log < length p.logs.logs) (sym is) within
      go j l (inr q) h e =
          have.of_leaders j l (rw (length-set p.leaders i new) at h)
          (e ∙ get_or-set_other p.leaders i j new l q)

  have_more : (p : Parts T N D) (new : Leader T N) → HaveLogs p → new.log < length p.logs.logs
      → HaveLogs (with_leaders p (new ∷ p.leaders))
  have_more p new have within = record {
    of_servers = have.of_servers;
    of_leaders = go;
    of_commits = have.of_commits;
  }
    where
      go : (j : ℕ) (l : Leader T N) → j < length (new ∷ p.leaders) → l ≡ get_or (new ∷ p.leaders) j l
          → l.log < length p.logs.logs
      go zero l h e = subst (λ (x : Leader T N). x.log < length p.logs.logs) (sym e) within
      go (suc j) l h e = have.of_leaders j l (omega (arith, h)) e

-- ---- the beginning

module _ {D : Type 0} (holds : D → Bool) (T : Type 0) where
  no_config : (n : ℕ) → no_config_in {T = T} holds (drop n []) ≡ nat_le 0 n
  no_config zero = sym (le-leb 0 0 (omega arith))
  no_config (suc n) = sym (le-leb 0 (suc n) (omega arith))

  first_config : (i : ℕ) → i < 1 → config_at (no_logs {T = T} {D = D}) i ≤ i
  first_config zero h = omega arith
  first_config (suc i) h = absurd (omega (arith, h))

  has_no_config : (i : ℕ) → i < 1
      → HasConfig holds (log_at (no_logs {T = T} {D = D}) (config_at (no_logs {T = T} {D = D}) i))
      (log_at (no_logs {T = T} {D = D}) i)
  has_no_config zero h = record { content = refl; since = no_config; prefix = refl }
  has_no_config (suc i) h = absurd (omega (arith, h))

  no_logs_are : AreLogs holds (no_logs {T = T} {D = D})
  no_logs_are = record {
    some = omega arith;
    empty = refl;
    distinct = λ i j h g e. omega (arith, h, g);
    same_len = refl;
    config_first = first_config;
    config = has_no_config;
  }

module _ {T ID D : Type 0} (k : Tests T ID D (Option D)) where
  no_entry : (d : D) (i : ℕ) → LackContent k.same_content d (log_at (no_logs {T = T} {D = D}) i)
  no_entry d zero = tt
  no_entry d (suc i) = tt

  pub starts : k.intersect k.initial k.initial ≡ true
      → Keeps k [] (record {
        counting = k.counting;
        logs = no_logs;
        servers = [];
        leaders = [];
        places = [];
        committed = 0;
        commits = [];
      })
  starts intersect = record {
    are_logs = no_logs_are (λ d. is_some (k.config_of d)) T;
    have_logs = record {
      of_servers = λ i s h e. absurd (omega (arith, h));
      of_leaders = λ i l h e. absurd (omega (arith, h));
      of_commits = λ i c h e. absurd (omega (arith, h));
    };
    placed = λ i l h e. absurd (omega (arith, h));
    bounded = λ i n l h e q. absurd (omega (arith, h));
    known = nothing k.counting;
    counting = refl;
    unused = λ d. (λ without. tt, λ u i h. no_entry d i);
    seen = record {
      allowed = intersect;
      see_servers = λ id. refl;
      see_leaders = λ t c. record {
        campaigned = refl;
        candidate_log = refl;
        leader_log = refl;
        voted = λ v. refl;
        acked = λ v n. refl;
        committed = refl;
      };
      see_commits = λ r p. refl;
    };
  }
    where
      nothing : (w : ConfigsCount) → SeesKnownBy k w [] []
      nothing WhenAppended = tt
      nothing WhenApplied = λ t a p. refl

module _ {T ID D : Type 0} (k : Tests T ID D (Option D)) (exact : AreExact k) where
  pub exact_entries : IsExact (same_entry k)
  exact_entries = record { right = entry_right k exact; itself = entry_itself k exact }

  abbrev is_server : ID → Server ID → Bool
  is_server id s = k.same_id s.id id

  abbrev is_leader : T → ID → Leader T ID → Bool
  is_leader t c l = same_leader k l.term l.id t c

  within_of : {X : Type 0} (p : X → Bool) (xs : List X) (i : ℕ) (d : X) → position p xs ≡ Some i
      → i < length xs
  within_of {X} p xs i d e =
      let facts : (i < length xs) × (p (get_or xs i d) ≡ true)
      × ((j : ℕ) → j < i → p (get_or xs j d) ≡ false) = position-Some p xs i d e in facts.0

  -- ---- a server is found or added

  at_place : (p : Parts T ID D) (id : ID) (new : List (Server ID)) (i : ℕ) → log_at p.logs 0 ≡ []
      → IsAt (is_server id) id p.servers new i
      → HasPlace (λ (x : ServerState T ID D). k.same_id x.id id) id (servers_in p) (map (server_in p.logs) new) i
  at_place p id new i empty at =
      (place_map (server_in p.logs) (λ (x : ServerState T ID D). k.same_id x.id id) new ∙ at.0, go at.1)
    where
      go : (new ≡ p.servers) ⊎ IsPushed (is_server id) id p.servers new
          → (map (server_in p.logs) new ≡ servers_in p)
          ⊎ IsAdded (λ (x : ServerState T ID D). k.same_id x.id id) id (servers_in p) (map (server_in p.logs) new)
      go (inl e) = inl (ap (map (server_in p.logs)) e)
      go (inr is) = inr (record {
        absent = place_map (server_in p.logs) (λ (x : ServerState T ID D). k.same_id x.id id) p.servers ∙ is.absent;
        server = server_in p.logs is.server;
        is_new = record {
          is_id = is.is_new.is_id;
          term = is.is_new.term;
          voted = is.is_new.voted;
          log = ap (log_at p.logs) is.is_new.log ∙ empty;
          durable = is.is_new.durable;
          kept = is.is_new.kept;
        };
        added = ap (map (server_in p.logs)) is.added ∙ map-append (server_in p.logs) p.servers (is.server ∷ []);
      })

  have_at : (p : Parts T ID D) (id : ID) (new : List (Server ID)) (i : ℕ) → 0 < length p.logs.logs
      → HaveLogs p → IsAt (is_server id) id p.servers new i → HaveLogs (with_servers p new)
  have_at p id new i some have at = record {
    of_servers = go at.1;
    of_leaders = have.of_leaders;
    of_commits = have.of_commits;
  }
    where
      go : (new ≡ p.servers) ⊎ IsPushed (is_server id) id p.servers new
          → (j : ℕ) (s : Server ID) → j < length new → s ≡ get_or new j s → s.log < length p.logs.logs
      go (inl e) j s h is = have.of_servers j s (rw e at h) (is ∙ ap (λ (l : List (Server ID)). get_or l j s) e)
      go (inr a) j s h is = old_or_new (cases_lt j (length p.servers))
        where
          read : s ≡ get_or (p.servers ++ a.server ∷ []) j s
          read = is ∙ ap (λ (l : List (Server ID)). get_or l j s) a.added

          more : length new ≡ length p.servers + 1
          more = ap length a.added ∙ length_push p.servers a.server

          old_or_new : (j < length p.servers) ⊎ (length p.servers ≤ j) → s.log < length p.logs.logs
          old_or_new (inl lt) =
              have.of_servers j s lt (read ∙ get_or_append_left p.servers (a.server ∷ []) s j lt)
          old_or_new (inr ge) =
              let last : length p.servers ≡ j = omega (arith, ge, h, more) in
              let it : s ≡ a.server = read ∙ get_or_push p.servers a.server s j last in
              let none : s.log ≡ 0 = ap (λ (x : Server ID). x.log) it ∙ a.is_new.log in
              omega (arith, none, some)

  -- nothing changes when a server is found or added
  pub keeps_at : (es : List (TraceEvent T ID D)) (id : ID) (p : Parts T ID D) (new : List (Server ID))
      (i : ℕ) → IsAt (is_server id) id p.servers new i → Keeps k es p → Keeps k es (with_servers p new)
  keeps_at es id p new i at keeps = record {
    are_logs = keeps.are_logs;
    have_logs = have_at p id new i keeps.are_logs.some keeps.have_logs at;
    placed = keeps.placed;
    bounded = keeps.bounded;
    known = keeps.known;
    counting = keeps.counting;
    unused = keeps.unused;
    seen = see_place k exact es id (servers_in p) (map (server_in p.logs) new) i (leaders_in p)
        (at_place p id new i keeps.are_logs.empty at) keeps.seen;
  }

  -- ---- what is known of a server and a leader

  pub server_place : (p : Parts T ID D) (id : ID) (i : ℕ) → position (is_server id) p.servers ≡ Some i
      → position (λ (x : ServerState T ID D). k.same_id x.id id) (servers_in p) ≡ Some i
  server_place p id i at =
      place_map (server_in p.logs) (λ (x : ServerState T ID D). k.same_id x.id id) p.servers ∙ at

  pub leader_place_in : (p : Parts T ID D) (t : T) (c : ID) (o : Option ℕ)
      → position (is_leader t c) p.leaders ≡ o
      → position (λ (x : LeaderState T ID D). same_leader k x.term x.id t c) (leaders_in p) ≡ o
  leader_place_in p t c o at =
      place_map (leader_in p.logs) (λ (x : LeaderState T ID D). same_leader k x.term x.id t c) p.leaders ∙ at

  pub sees_server_at : (es : List (TraceEvent T ID D)) (p : Parts T ID D) (id : ID) (i : ℕ)
      (s : Server ID) → position (is_server id) p.servers ≡ Some i → s ≡ get_or p.servers i s
      → Keeps k es p → SeesServer k (events_in k es id) (server_in p.logs s)
  sees_server_at es p id i s at is keeps =
      rw (item_map (server_in p.logs) p.servers i s is)
      (server_seen k exact es (servers_in p) id i (server_in p.logs s) keeps.seen.see_servers (server_place p id i at))

  pub sees_leader_at : (es : List (TraceEvent T ID D)) (p : Parts T ID D) (t : T) (c : ID) (j : ℕ)
      (l : Leader T ID) → position (is_leader t c) p.leaders ≡ Some j → l ≡ get_or p.leaders j l
      → Keeps k es p → SeesLeader k es t c (leader_in p.logs l)
  sees_leader_at es p t c j l at is keeps =
      rw (item_map (leader_in p.logs) p.leaders j l is)
      (leader_seen k exact es (leaders_in p) t c j (leader_in p.logs l) keeps.seen.see_leaders (leader_place_in p t c (Some j) at))

  -- the leader of a term is one of this term
  pub term_of : (p : Parts T ID D) (t : T) (c : ID) (j : ℕ) (l : Leader T ID)
      → position (is_leader t c) p.leaders ≡ Some j → l ≡ get_or p.leaders j l → l.term ≡ t
  term_of p t c j l at is =
      let facts : (j < length p.leaders) × (is_leader t c (get_or p.leaders j l) ≡ true)
      × ((i : ℕ) → i < j → is_leader t c (get_or p.leaders i l) ≡ false) = position-Some (is_leader t c) p.leaders j l at in
      let here : is_leader t c l ≡ true = subst (λ (x : Leader T ID). is_leader t c x ≡ true) (sym is) facts.1 in
      let both = leader_right k exact l.term t l.id c here in both.0

  -- ---- what is kept after a change

  -- an event that is no commit makes nothing known
  pub quiet : (es new : List (TraceEvent T ID D)) (commits : List (CommitState T D))
      → ((t : T) (a : ℕ) (p : List (Entry T D))
      → is_known_by k (is_shorter k t a) p new ≡ is_known_by k (is_shorter k t a) p es)
      → SeesKnownBy k k.counting es commits → SeesKnownBy k k.counting new commits
  quiet es new commits same = go k.counting
    where
      go : (w : ConfigsCount) → SeesKnownBy k w es commits → SeesKnownBy k w new commits
      go WhenAppended h = tt
      go WhenApplied h = λ t a p. same t a p ∙ h t a p

  keeps_server : (es : List (TraceEvent T ID D)) (p : Parts T ID D) (i : ℕ) (new : Server ID)
      → i < length p.servers → new.log < length p.logs.logs
      → HasSeen k es (set (servers_in p) i (server_in p.logs new)) (leaders_in p)
      → ((d : D) → AgreeOn k d es p) → SeesKnownBy k k.counting es (commits_in p)
      → (old : List (TraceEvent T ID D)) → Keeps k old p → Keeps k es (with_server p i new)
  keeps_server es p i new at within seen unused known old keeps = record {
    known = known;
    are_logs = keeps.are_logs;
    have_logs = have_server p i new keeps.have_logs at within;
    placed = keeps.placed;
    bounded = keeps.bounded;
    counting = keeps.counting;
    unused = unused;
    seen = subst (λ (l : List (ServerState T ID D)). HasSeen k es l (leaders_in p))
        (sym (map-set (server_in p.logs) p.servers i new)) seen;
  }

  keeps_leader : (es : List (TraceEvent T ID D)) (p : Parts T ID D) (j most : ℕ) (l new : Leader T ID)
      → j < length p.leaders → l ≡ get_or p.leaders j l → new.term ≡ l.term → new.log < length p.logs.logs
      → HasSeen k es (servers_in p) (set (leaders_in p) j (leader_in p.logs new))
      → ((d : D) → AgreeOn k d es p) → AreBounded most (set p.leaders j new)
      → SeesKnownBy k k.counting es (commits_in p)
      → (old : List (TraceEvent T ID D)) → Keeps k old p → Keeps k es (with_committed (with_leader p j new) most)
  keeps_leader es p j most l new at is same within seen unused bounded known old keeps =
      let have : HaveLogs (with_leader p j new) = have_leader p j new keeps.have_logs at within in record {
        are_logs = keeps.are_logs;
        known = known;
        have_logs = record { of_servers = have.of_servers; of_leaders = have.of_leaders; of_commits = have.of_commits };
        placed = placed_set k.rank p.places p.leaders j l new at is same keeps.placed;
        bounded = bounded;
        counting = keeps.counting;
        unused = unused;
        seen = subst (λ (l : List (LeaderState T ID D)). HasSeen k es (servers_in p) l)
            (sym (map-set (leader_in p.logs) p.leaders j new)) seen;
      }

  -- a leader is replaced, and commits are noted
  keeps_commits : (es : List (TraceEvent T ID D)) (p : Parts T ID D) (j most : ℕ) (commits : List Commit)
      (l new : Leader T ID)
      → j < length p.leaders → l ≡ get_or p.leaders j l → new.term ≡ l.term → new.log < length p.logs.logs
      → HasSeen k es (servers_in p) (set (leaders_in p) j (leader_in p.logs new))
      → ((d : D) → AgreeOn k d es p) → AreBounded most (set p.leaders j new)
      → ((i : ℕ) (x : Commit) → i < length commits → x ≡ get_or commits i x → x.log < length p.logs.logs)
      → SeesKnownBy k k.counting es (map (commit_in p.logs) commits)
      → (old : List (TraceEvent T ID D)) → Keeps k old p
      → Keeps k es (with_commits (with_committed (with_leader p j new) most) commits)
  keeps_commits es p j most commits l new at is same within seen unused bounded have_commits known old keeps =
      let have : HaveLogs (with_leader p j new) = have_leader p j new keeps.have_logs at within in record {
        are_logs = keeps.are_logs;
        known = known;
        have_logs = record { of_servers = have.of_servers; of_leaders = have.of_leaders; of_commits = have_commits };
        placed = placed_set k.rank p.places p.leaders j l new at is same keeps.placed;
        bounded = bounded;
        counting = keeps.counting;
        unused = unused;
        seen = subst (λ (l : List (LeaderState T ID D)). HasSeen k es (servers_in p) l)
            (sym (map-set (leader_in p.logs) p.leaders j new)) seen;
      }

  log_of_server : (es : List (TraceEvent T ID D)) (p : Parts T ID D) (i : ℕ) (s : Server ID)
      → Keeps k es p → i < length p.servers → s ≡ get_or p.servers i s → s.log < length p.logs.logs
  log_of_server es p i s keeps at is = keeps.have_logs.of_servers i s at is

  -- ---- restarts

  pub restart_done : (es : List (TraceEvent T ID D)) (id : ID) (p : Parts T ID D) (i n : ℕ)
      (s0 s new : Server ID) → position (is_server id) p.servers ≡ Some i
      → s0 ≡ get_or p.servers i s0 → s ≡ get_or p.servers i s → Keeps k es p
      → restart_rule (server_in p.logs s0) n ≡ None
      → (log : ℕ) → log_at p.logs log ≡ take n (log_at p.logs s.log) → log ≤ s.log
      → new.terms.term ≡ s.terms.term
      → ((r : ℕ) → kept_from 0 new.terms.kept r ≡ min (kept_from 0 s.terms.kept r) n)
      → new ≡ record s { terms = new.terms; log = log; durable = min s.durable n }
      → (first_broken k (Restarted id n) es ≡ None) × Keeps k (Restarted id n ∷ es) (with_server p i new)
  restart_done es id p i n s0 s new at is0 is keeps free log is_log earlier term kept rest =
      let new_log : new.log ≡ log = ap (λ (x : Server ID). x.log) rest in
      let within : i < length p.servers = within_of (is_server id) p.servers i s at in
      let one : s0 ≡ s = same_item p.servers i s0 s within is0 is in
      let old_log : s.log < length p.logs.logs = log_of_server es p i s keeps within is in
      let done = restart_seen k exact es id (servers_in p) (leaders_in p) i n (server_in p.logs s) (server_in p.logs new)
      (server_place p id i at) (item_map (server_in p.logs) p.servers i s is) keeps.seen
      (subst (λ (x : Server ID). restart_rule (server_in p.logs x) n ≡ None) one free)
      (ap (λ (x : Server ID). x.id) rest) term (ap (λ (x : Server ID). x.voted) rest)
      (ap (log_at p.logs) new_log ∙ is_log) (ap (λ (x : Server ID). x.durable) rest) kept in (
        done.0,
        keeps_server (Restarted id n ∷ es) p i new within (omega (arith, old_log, earlier, new_log)) done.1 keeps.unused
            (quiet es (Restarted id n ∷ es) (commits_in p) (λ u a x. refl) keeps.known) es keeps,
      )

  pub restart_refused : (es : List (TraceEvent T ID D)) (id : ID) (p : Parts T ID D) (i n : ℕ)
      (s : Server ID) (r : Rule) → position (is_server id) p.servers ≡ Some i
      → s ≡ get_or p.servers i s → Keeps k es p → restart_rule (server_in p.logs s) n ≡ Some r
      → (first_broken k (Restarted id n) es ≡ Some r) × Keeps k es p
  restart_refused es id p i n s r at is keeps broken =
      (restart_right k exact es id (server_in p.logs s) n (sees_server_at es p id i s at is keeps) ∙ broken, keeps)

  -- ---- entries that a server takes

  pub append_refused : (es : List (TraceEvent T ID D)) (id : ID) (t : T) (c : ID) (n : ℕ)
      (sent : List (Entry T D)) (p : Parts T ID D) (i j : ℕ) (s : Server ID) (l : Leader T ID) (r : Rule)
      → position (is_server id) p.servers ≡ Some i → s ≡ get_or p.servers i s
      → IsElectedAt k es t c p.leaders j → l ≡ get_or p.leaders j l → Keeps k es p
      → append_rule (same_entry k) (server_in p.logs s) (leader_in p.logs l) (k.rank t) n sent ≡ Some r
      → (first_broken k (Appended id t c n sent) es ≡ Some r) × Keeps k es p
  append_refused es id t c n sent p i j s l r at is at_j is_l keeps broken = (
    append_right k exact es id t c n sent (server_in p.logs s) (leader_in p.logs l)
        (sees_server_at es p id i s at is keeps) (sees_leader_at es p t c j l at_j.place is_l keeps) at_j.elected ∙ broken,
    keeps,
  )

  pub append_done : (es : List (TraceEvent T ID D)) (id : ID) (t : T) (c : ID) (n same : ℕ)
      (sent : List (Entry T D)) (p : Parts T ID D) (i j : ℕ) (s0 s new : Server ID) (l0 l : Leader T ID)
      → position (is_server id) p.servers ≡ Some i
      → s0 ≡ get_or p.servers i s0 → s ≡ get_or p.servers i s
      → IsElectedAt k es t c p.leaders j
      → l0 ≡ get_or p.leaders j l0 → l ≡ get_or p.leaders j l → Keeps k es p
      → append_rule (same_entry k) (server_in p.logs s0) (leader_in p.logs l0) (k.rank t) n sent ≡ None
      → same ≡ n + common_len (same_entry k) (drop n (log_at p.logs s.log)) sent
      → (log : ℕ)
      → (append_rule (same_entry k) (server_in p.logs s) (leader_in p.logs l) (k.rank t) n sent ≡ None
      → log_at p.logs log ≡ take n (log_at p.logs s.log) ++ sent)
      → (log ≤ s.log) ⊎ (log ≤ l.log)
      → new.terms.term ≡ max s.terms.term (k.rank t)
      → ((r : ℕ) → kept_from 0 new.terms.kept r
      ≡ min (kept_after s.terms.kept s.terms.term (length (log_at p.logs s.log)) (k.rank t) r) same)
      → new ≡ record s { terms = new.terms; log = log; durable = min s.durable same }
      → (first_broken k (Appended id t c n sent) es ≡ None)
      × Keeps k (Appended id t c n sent ∷ es) (with_server p i new)
  append_done es id t c n same sent p i j s0 s new l0 l at is0 is at_j is_l0 is_l keeps free is_same log is_log earlier term
      kept rest =
      let new_log : new.log ≡ log = ap (λ (x : Server ID). x.log) rest in
      let within : i < length p.servers = within_of (is_server id) p.servers i s at in
      let within_j : j < length p.leaders = within_of (is_leader t c) p.leaders j l at_j.place in
      let one : s0 ≡ s = same_item p.servers i s0 s within is0 is in
      let other : l0 ≡ l = same_item p.leaders j l0 l within_j is_l0 is_l in
      let now : append_rule (same_entry k) (server_in p.logs s) (leader_in p.logs l) (k.rank t) n sent ≡ None =
      subst (λ (x : Server ID). append_rule (same_entry k) (server_in p.logs x) (leader_in p.logs l) (k.rank t) n sent ≡ None) one
      (subst (λ (x : Leader T ID). append_rule (same_entry k) (server_in p.logs s0) (leader_in p.logs x) (k.rank t) n sent ≡ None)
      other free) in
      let done = append_seen k exact es id t c n sent (servers_in p) (leaders_in p) i j (server_in p.logs s) (server_in p.logs new)
      (leader_in p.logs l) (server_place p id i at) (item_map (server_in p.logs) p.servers i s is)
      (leader_place_in p t c (Some j) at_j.place) (item_map (leader_in p.logs) p.leaders j l is_l) at_j.elected keeps.seen now
      (ap (λ (x : Server ID). x.id) rest) term (ap (λ (x : Server ID). x.voted) rest)
      (ap (log_at p.logs) new_log ∙ is_log now)
      (ap (λ (x : Server ID). x.durable) rest ∙ ap (λ m. min s.durable m) is_same)
      (λ r. kept r
      ∙ ap (λ m. min (kept_after s.terms.kept s.terms.term (length (log_at p.logs s.log)) (k.rank t) r) m) is_same) in
      let short : log < length p.logs.logs = go earlier within within_j in (
        done.0,
        keeps_server (Appended id t c n sent ∷ es) p i new within (rw new_log short) done.1
            (λ d. (
              λ without. (
                lack_second k.same_content d (take n (log_at p.logs s.log)) sent
                    (subst (LackContent k.same_content d) (is_log now) (without log short)),
                (keeps.unused d).0 without,
              ),
              λ none. (keeps.unused d).1 none.1,
            )) (quiet es (Appended id t c n sent ∷ es) (commits_in p) (λ u a x. refl) keeps.known) es keeps,
      )
    where
      go : (log ≤ s.log) ⊎ (log ≤ l.log) → i < length p.servers → j < length p.leaders
          → log < length p.logs.logs
      go (inl h) w v = let o : s.log < length p.logs.logs = keeps.have_logs.of_servers i s w is in omega (arith, h, o)
      go (inr h) w v = let o : l.log < length p.logs.logs = keeps.have_logs.of_leaders j l v is_l in omega (arith, h, o)

  -- ---- what a step leaves as it was

  -- a server reaches a term, after it has reserved memory
  pub record Reaches (p : Parts T ID D) (s new : Server ID) (r : ℕ) : Type 0 where
    pub id : new.id ≡ s.id
    pub term : new.terms.term ≡ max s.terms.term r
    pub voted : new.voted ≡ r
    pub log : new.log ≡ s.log
    pub durable : new.durable ≡ s.durable
    pub kept : (q : ℕ) → kept_from 0 new.terms.kept q
        ≡ kept_after s.terms.kept s.terms.term (length (log_at p.logs s.log)) r q

  reaches : (p : Parts T ID D) (s m new : Server ID) (r len : ℕ)
      → m ≡ record s { terms = record s.terms { room = m.terms.room } }
      → len ≡ length (log_at p.logs s.log) → new.terms.term ≡ max m.terms.term r
      → ((q : ℕ) → kept_from 0 new.terms.kept q ≡ kept_after m.terms.kept m.terms.term len r q)
      → new ≡ record m { terms = new.terms; voted = r } → Reaches p s new r
  reaches p s m new r len room is_len term kept rest =
      let same_term : m.terms.term ≡ s.terms.term = ap (λ (x : Server ID). x.terms.term) room in
      let same_kept : m.terms.kept ≡ s.terms.kept = ap (λ (x : Server ID). x.terms.kept) room in record {
        id = ap (λ (x : Server ID). x.id) rest ∙ ap (λ (x : Server ID). x.id) room;
        term = term ∙ ap (λ n. max n r) same_term;
        voted = ap (λ (x : Server ID). x.voted) rest;
        log = ap (λ (x : Server ID). x.log) rest ∙ ap (λ (x : Server ID). x.log) room;
        durable = ap (λ (x : Server ID). x.durable) rest ∙ ap (λ (x : Server ID). x.durable) room;
        kept = λ q. kept q ∙ (λ e. kept_after (same_kept e) (same_term e) (is_len e) r q);
      }

  -- a leader counts an acknowledgement, or a vote
  pub acked_leader : (p : Parts T ID D) (l new : Leader T ID) → new ≡ record l { acked = new.acked }
      → LeaderIs (leader_in p.logs new) l.term l.id l.start (log_at p.logs l.log) l.voters.items l.elected l.committed
  acked_leader p l new rest = record {
    term = ap (λ (x : Leader T ID). x.term) rest;
    id = ap (λ (x : Leader T ID). x.id) rest;
    start = ap (λ (x : Leader T ID). x.start) rest;
    log = ap (λ (x : Leader T ID). log_at p.logs x.log) rest;
    voters = ap (λ (x : Leader T ID). x.voters.items) rest;
    elected = ap (λ (x : Leader T ID). x.elected) rest;
    committed = ap (λ (x : Leader T ID). x.committed) rest;
  }

  pub voted_leader : (p : Parts T ID D) (l new : Leader T ID)
      → new ≡ record l { voters = new.voters; elected = new.elected }
      → LeaderIs (leader_in p.logs new) l.term l.id l.start (log_at p.logs l.log) new.voters.items new.elected l.committed
  voted_leader p l new rest = record {
    term = ap (λ (x : Leader T ID). x.term) rest;
    id = ap (λ (x : Leader T ID). x.id) rest;
    start = ap (λ (x : Leader T ID). x.start) rest;
    log = ap (λ (x : Leader T ID). log_at p.logs x.log) rest;
    voters = refl;
    elected = refl;
    committed = ap (λ (x : Leader T ID). x.committed) rest;
  }

  -- a server is replaced by one that differs in its memory alone
  pub same_server : (es : List (TraceEvent T ID D)) (p : Parts T ID D) (id : ID) (i : ℕ) (s new : Server ID)
      → position (is_server id) p.servers ≡ Some i → s ≡ get_or p.servers i s → Keeps k es p
      → new ≡ record s { terms = record s.terms { room = new.terms.room } } → Keeps k es (with_server p i new)
  same_server es p id i s new at is keeps rest =
      keeps_server es p i new within
      (rw (ap (λ (x : Server ID). x.log) rest) (log_of_server es p i s keeps within is))
      (subst (λ (x : List (ServerState T ID D)). HasSeen k es x (leaders_in p)) (sym back) keeps.seen) keeps.unused keeps.known es keeps
    where
      within : i < length p.servers
      within = within_of (is_server id) p.servers i s at

      equal : server_in p.logs new ≡ server_in p.logs s
      equal = ap (server_in p.logs) rest

      back : set (servers_in p) i (server_in p.logs new) ≡ servers_in p
      back =
          ap (set (servers_in p) i) (equal ∙ item_map (server_in p.logs) p.servers i s is)
          ∙ set-get_or (servers_in p) i (server_in p.logs s)

  -- a leader is replaced by an equal one
  pub same_leader_again : (es : List (TraceEvent T ID D)) (p : Parts T ID D) (t : T) (c : ID) (j : ℕ)
      (l new : Leader T ID) → position (is_leader t c) p.leaders ≡ Some j → l ≡ get_or p.leaders j l
      → Keeps k es p → new.acked.items ≡ l.acked.items
      → LeaderIs (leader_in p.logs new) l.term l.id l.start (log_at p.logs l.log) l.voters.items l.elected l.committed
      → new.log ≡ l.log → Keeps k es (with_leader p j new)
  same_leader_again es p t c j l new at is keeps acked same log =
      keeps_leader es p j p.committed l new within is same.term (rw log (keeps.have_logs.of_leaders j l within is))
      (subst (λ (x : List (LeaderState T ID D)). HasSeen k es (servers_in p) x) (sym back) keeps.seen) keeps.unused
      (bounded_same p.committed p.leaders j l new within is same.committed keeps.bounded) keeps.known es keeps
    where
      within : j < length p.leaders
      within = within_of (is_leader t c) p.leaders j l at

      equal : leader_in p.logs new ≡ leader_in p.logs l
      equal = λ q. record {
        term = same.term q;
        id = same.id q;
        start = same.start q;
        log = same.log q;
        voters = same.voters q;
        elected = same.elected q;
        acked = acked q;
        committed = same.committed q;
      }

      back : set (leaders_in p) j (leader_in p.logs new) ≡ leaders_in p
      back =
          ap (set (leaders_in p) j) (equal ∙ item_map (leader_in p.logs) p.leaders j l is)
          ∙ set-get_or (leaders_in p) j (leader_in p.logs l)

  -- ---- which leaders are elected

  -- nothing is kept of the leader
  pub unled : (es : List (TraceEvent T ID D)) (t : T) (c : ID) (p : Parts T ID D)
      → position (is_leader t c) p.leaders ≡ None → Keeps k es p
      → (is_elected_when k es t c ≡ false) × (has_campaigned k t c es ≡ false)
  unled es t c p absent keeps =
      let none = no_leader k exact es t c (servers_in p) (leaders_in p) (leader_place_in p t c None absent) keeps.seen in
      (none.0, none.1)

  -- a leader of which it is noted that it is elected
  pub noted_leader : (es : List (TraceEvent T ID D)) (t : T) (c : ID) (p : Parts T ID D) (j : ℕ) (l : Leader T ID)
      → position (is_leader t c) p.leaders ≡ Some j → l ≡ get_or p.leaders j l → Keeps k es p → l.elected ≡ true
      → IsElectedAt k es t c p.leaders j
  noted_leader es t c p j l at is keeps noted = record { place = at; elected = go k.counting at_l.elected }
    where
      at_l : SeesLeader k es t c (leader_in p.logs l)
      at_l = sees_leader_at es p t c j l at is keeps

      go : (w : ConfigsCount) → IsElectionOf w (is_elected_when k es t c) l.elected → is_elected_when k es t c ≡ true
      go WhenAppended h = h ∙ noted
      go WhenApplied h = h noted

  -- if configs count from their append on, no other leader is elected
  pub other_leader : (es : List (TraceEvent T ID D)) (t : T) (c : ID) (p : Parts T ID D) (j : ℕ) (l : Leader T ID)
      → position (is_leader t c) p.leaders ≡ Some j → l ≡ get_or p.leaders j l → Keeps k es p → l.elected ≡ false
      → is_applied k.counting ≡ false → is_elected_when k es t c ≡ false
  other_leader es t c p j l at is keeps noted = go k.counting at_l.elected
    where
      at_l : SeesLeader k es t c (leader_in p.logs l)
      at_l = sees_leader_at es p t c j l at is keeps

      go : (w : ConfigsCount) → IsElectionOf w (is_elected_when k es t c) l.elected → is_applied w ≡ false
          → is_elected_when k es t c ≡ false
      go WhenAppended h e = h ∙ noted
      go WhenApplied h e = absurd (cc)

  -- what is known by the events is known by the commits that are kept
  pub tally_known : (w : ConfigsCount) (es : List (TraceEvent T ID D)) (commits : List (CommitState T D))
      → SeesKnownBy k w es commits → (t : T) (log : List (Entry T D)) (voters : ID → Bool)
      → tally k w es t log voters ≡ elected_in k w commits t log voters
  tally_known WhenAppended es commits sees t log voters = refl
  tally_known WhenApplied es commits sees t log voters =
      λ q. some_upto (length log)
      (λ a. (hold_no_config k (take a log) || (earlier (take a log) ∙ sees t 0 (take a log)) q)
      && (hold_at_most_one k (drop a log) && is_quorum_of_log k (take a log) voters))
    where
      none : (b c d : Bool) → d ≡ false → b ≡ (b || (c && d))
      none true c d e = refl
      none false true d e = sym e
      none false false d e = refl

      earlier : (p : List (Entry T D))
          → is_known_by k (is_earlier k t) p es ≡ is_known_by k (is_shorter k t 0) p es
      earlier p =
          λ q. is_known_by k
          (λ u m. none (nat_lt (k.rank u) (k.rank t)) (nat_eq (k.rank u) (k.rank t)) (nat_lt m 0) (le-ltb m 0 (omega arith)) q) p es

  -- whether a leader is elected follows from its votes and the commits that are kept
  pub tallied_leader : (es : List (TraceEvent T ID D)) (t : T) (c : ID) (p : Parts T ID D) (j : ℕ) (l : Leader T ID)
      (elected : Bool) → position (is_leader t c) p.leaders ≡ Some j → l ≡ get_or p.leaders j l → Keeps k es p
      → (l.log < length p.logs.logs → IsDistinct k.same_id l.voters.items
      → elected ≡ elected_in k k.counting (commits_in p) l.term (take l.start (log_at p.logs l.log))
      (is_member k.same_id l.voters.items))
      → is_elected_when k es t c ≡ elected
  tallied_leader es t c p j l elected at is keeps counted =
      let at_l : SeesLeader k es t c (leader_in p.logs l) = sees_leader_at es p t c j l at is keeps in
      let within : j < length p.leaders = within_of (is_leader t c) p.leaders j l at in
      let term : l.term ≡ t = term_of p t c j l at is in
      let voters : ID → Bool = is_member k.same_id l.voters.items in
      let log : List (Entry T D) = take l.start (log_at p.logs l.log) in
      elected_by k exact es t c log voters at_l.candidate_log at_l.voted at_l.own_vote
      ∙ tally_known k.counting es (commits_in p) keeps.known t log voters
      ∙ sym (counted (keeps.have_logs.of_leaders j l within is) at_l.distinct
      ∙ ap (λ (x : T). elected_in k k.counting (commits_in p) x log voters) term)

  pub append_unled : (es : List (TraceEvent T ID D)) (id : ID) (t : T) (c : ID) (n : ℕ)
      (sent : List (Entry T D)) (p : Parts T ID D) → is_elected_when k es t c ≡ false
      → Keeps k es p → (first_broken k (Appended id t c n sent) es ≡ Some NotElected) × Keeps k es p
  append_unled es id t c n sent p none keeps = (rw none refl, keeps)

  pub ack_unled : (es : List (TraceEvent T ID D)) (id : ID) (t : T) (c : ID) (n : ℕ) (p : Parts T ID D)
      → is_elected_when k es t c ≡ false
      → Keeps k es p → (first_broken k (Acked id t c n) es ≡ Some NotElected) × Keeps k es p
  ack_unled es id t c n p none keeps = (rw none refl, keeps)

  pub grant_unled : (es : List (TraceEvent T ID D)) (id : ID) (t : T) (c : ID) (p : Parts T ID D)
      → position (is_leader t c) p.leaders ≡ None
      → Keeps k es p → (first_broken k (Granted id t c) es ≡ Some NoCampaign) × Keeps k es p
  grant_unled es id t c p absent keeps = let none = unled es t c p absent keeps in (rw none.1 refl, keeps)

  pub write_unled : (es : List (TraceEvent T ID D)) (t : T) (c : ID) (e : Entry T D) (p : Parts T ID D)
      → is_elected_when k es t c ≡ false
      → Keeps k es p → (first_broken k (Wrote c t e) es ≡ Some NotElected) × Keeps k es p
  write_unled es t c e p none keeps = (rw none refl, keeps)

  pub commit_unled : (es : List (TraceEvent T ID D)) (t : T) (c : ID) (n m : ℕ) (p : Parts T ID D)
      → is_elected_when k es t c ≡ false
      → Keeps k es p → (first_broken k (Committed c t n m) es ≡ Some NotElected) × Keeps k es p
  commit_unled es t c n m p none keeps = (rw none refl, keeps)

  pub apply_unled : (es : List (TraceEvent T ID D)) (id : ID) (t : T) (c : ID) (n : ℕ) (p : Parts T ID D)
      → is_elected_when k es t c ≡ false
      → Keeps k es p → (first_broken k (Applied id t c n) es ≡ Some NotElected) × Keeps k es p
  apply_unled es id t c n p none keeps = (rw none refl, keeps)

  -- ---- acknowledgements

  pub ack_refused : (es : List (TraceEvent T ID D)) (id : ID) (t : T) (c : ID) (n : ℕ)
      (p : Parts T ID D) (i j : ℕ) (s : Server ID) (l : Leader T ID) (r : Rule)
      → position (is_server id) p.servers ≡ Some i → s ≡ get_or p.servers i s
      → IsElectedAt k es t c p.leaders j → l ≡ get_or p.leaders j l → Keeps k es p
      → ack_rule (same_entry k) (server_in p.logs s) (leader_in p.logs l) (k.rank t) n ≡ Some r
      → (first_broken k (Acked id t c n) es ≡ Some r) × Keeps k es p
  ack_refused es id t c n p i j s l r at is at_j is_l keeps broken = (
    ack_right k exact es id t c n (server_in p.logs s) (leader_in p.logs l)
        (sees_server_at es p id i s at is keeps) (sees_leader_at es p t c j l at_j.place is_l keeps) at_j.elected ∙ broken,
    keeps,
  )

  -- a server and a leader are replaced
  keeps_both : (es : List (TraceEvent T ID D)) (p : Parts T ID D) (i j : ℕ) (new : Server ID) (l lnew : Leader T ID)
      → i < length p.servers → j < length p.leaders → l ≡ get_or p.leaders j l → lnew.term ≡ l.term
      → new.log < length p.logs.logs → lnew.log < length p.logs.logs
      → HasSeen k es (set (servers_in p) i (server_in p.logs new)) (set (leaders_in p) j (leader_in p.logs lnew))
      → ((d : D) → AgreeOn k d es p) → lnew.committed ≡ l.committed
      → SeesKnownBy k k.counting es (commits_in p)
      → (old : List (TraceEvent T ID D)) → Keeps k old p → Keeps k es (with_leader (with_server p i new) j lnew)
  keeps_both es p i j new l lnew at at_j is same within within_j seen unused commits known old keeps = record {
    are_logs = keeps.are_logs;
    known = known;
    placed = placed_set k.rank p.places p.leaders j l lnew at_j is same keeps.placed;
    bounded = bounded_same p.committed p.leaders j l lnew at_j is commits keeps.bounded;
    counting = keeps.counting;
    unused = unused;
    have_logs = have_leader (with_server p i new) j lnew (have_server p i new keeps.have_logs at within) at_j within_j;
    seen = subst (λ (x : List (LeaderState T ID D)). HasSeen k es (servers_in (with_server p i new)) x)
        (sym (map-set (leader_in p.logs) p.leaders j lnew))
        (subst (λ (x : List (ServerState T ID D)). HasSeen k es x (set (leaders_in p) j (leader_in p.logs lnew)))
        (sym (map-set (server_in p.logs) p.servers i new)) seen);
  }

  pub ack_done : (es : List (TraceEvent T ID D)) (id : ID) (t : T) (c : ID) (n : ℕ)
      (p : Parts T ID D) (i j : ℕ) (s0 s new : Server ID) (l0 l lnew : Leader T ID)
      → position (is_server id) p.servers ≡ Some i
      → s0 ≡ get_or p.servers i s0 → s ≡ get_or p.servers i s
      → IsElectedAt k es t c p.leaders j
      → l0 ≡ get_or p.leaders j l0 → l ≡ get_or p.leaders j l → Keeps k es p
      → ack_rule (same_entry k) (server_in p.logs s0) (leader_in p.logs l0) (k.rank t) n ≡ None
      → new ≡ record s { durable = max n s.durable }
      → ((v : ID) (m : ℕ) → has_acked_to k.same_id lnew.acked.items v m
      ≡ (has_acked_to k.same_id l.acked.items v m || (k.same_id id v && nat_le m n)))
      → lnew ≡ record l { acked = lnew.acked }
      → (first_broken k (Acked id t c n) es ≡ None)
      × Keeps k (Acked id t c n ∷ es) (with_leader (with_server p i new) j lnew)
  ack_done es id t c n p i j s0 s new l0 l lnew at is0 is at_j is_l0 is_l keeps free rest acked same =
      let within : i < length p.servers = within_of (is_server id) p.servers i s at in
      let within_j : j < length p.leaders = within_of (is_leader t c) p.leaders j l at_j.place in
      let one : s0 ≡ s = same_item p.servers i s0 s within is0 is in
      let other : l0 ≡ l = same_item p.leaders j l0 l within_j is_l0 is_l in
      let now : ack_rule (same_entry k) (server_in p.logs s) (leader_in p.logs l) (k.rank t) n ≡ None =
      subst (λ (x : Server ID). ack_rule (same_entry k) (server_in p.logs x) (leader_in p.logs l) (k.rank t) n ≡ None) one
      (subst (λ (x : Leader T ID). ack_rule (same_entry k) (server_in p.logs s0) (leader_in p.logs x) (k.rank t) n ≡ None)
      other free) in
      let done = ack_seen k exact es id t c n (servers_in p) (leaders_in p) i j (server_in p.logs s) (server_in p.logs new)
      (leader_in p.logs l) (leader_in p.logs lnew)
      (server_place p id i at) (item_map (server_in p.logs) p.servers i s is)
      (leader_place_in p t c (Some j) at_j.place) (item_map (leader_in p.logs) p.leaders j l is_l) at_j.elected keeps.seen now
      (ap (λ (x : Server ID). x.id) rest) (ap (λ (x : Server ID). x.terms.term) rest) (ap (λ (x : Server ID). x.voted) rest)
      (ap (λ (x : Server ID). log_at p.logs x.log) rest) (ap (λ (x : Server ID). x.durable) rest)
      (ap (λ (x : Server ID). x.terms.kept) rest) acked (acked_leader p l lnew same) in (
        done.0,
        keeps_both (Acked id t c n ∷ es) p i j new l lnew within within_j is_l (ap (λ (x : Leader T ID). x.term) same)
            (rw (ap (λ (x : Server ID). x.log) rest) (keeps.have_logs.of_servers i s within is))
            (rw (ap (λ (x : Leader T ID). x.log) same) (keeps.have_logs.of_leaders j l within_j is_l))
            done.1 keeps.unused (ap (λ (x : Leader T ID). x.committed) same)
            (quiet es (Acked id t c n ∷ es) (commits_in p) (λ u a x. refl) keeps.known) es keeps,
      )

  -- ---- votes

  pub grant_refused : (es : List (TraceEvent T ID D)) (id : ID) (t : T) (c : ID)
      (p : Parts T ID D) (i j : ℕ) (s : Server ID) (l : Leader T ID) (r : Rule)
      → position (is_server id) p.servers ≡ Some i → s ≡ get_or p.servers i s
      → position (is_leader t c) p.leaders ≡ Some j → l ≡ get_or p.leaders j l → Keeps k es p
      → grant_rule k.rank k.same_id (server_in p.logs s) (leader_in p.logs l) id (k.rank t) c ≡ Some r
      → (first_broken k (Granted id t c) es ≡ Some r) × Keeps k es p
  grant_refused es id t c p i j s l r at is at_j is_l keeps broken = (
    grant_right k exact es id t c (server_in p.logs s) (leader_in p.logs l)
        (sees_server_at es p id i s at is keeps) (sees_leader_at es p t c j l at_j is_l keeps) ∙ broken,
    keeps,
  )

  grant_free : (p : Parts T ID D) (id : ID) (t : T) (c : ID) (i j : ℕ) (s0 s : Server ID) (l0 l : Leader T ID)
      → i < length p.servers → j < length p.leaders
      → s0 ≡ get_or p.servers i s0 → s ≡ get_or p.servers i s
      → l0 ≡ get_or p.leaders j l0 → l ≡ get_or p.leaders j l
      → grant_rule k.rank k.same_id (server_in p.logs s0) (leader_in p.logs l0) id (k.rank t) c ≡ None
      → grant_rule k.rank k.same_id (server_in p.logs s) (leader_in p.logs l) id (k.rank t) c ≡ None
  grant_free p id t c i j s0 s l0 l within within_j is0 is is_l0 is_l free =
      subst (λ (x : Server ID). grant_rule k.rank k.same_id (server_in p.logs x) (leader_in p.logs l) id (k.rank t) c ≡ None)
      (same_item p.servers i s0 s within is0 is)
      (subst (λ (x : Leader T ID). grant_rule k.rank k.same_id (server_in p.logs s0) (leader_in p.logs x) id (k.rank t) c ≡ None)
      (same_item p.leaders j l0 l within_j is_l0 is_l) free)

  -- a candidate gets a vote, and it is noted whether it is elected then
  pub voted_again : (l v new : Leader T ID) (elected : Bool) → v ≡ record l { voters = v.voters }
      → new ≡ record v { elected = elected } → new ≡ record l { voters = new.voters; elected = new.elected }
  voted_again l v new elected first rest =
      rest ∙ (λ q. record {
        term = ap (λ (x : Leader T ID). x.term) first q;
        id = ap (λ (x : Leader T ID). x.id) first q;
        start = ap (λ (x : Leader T ID). x.start) first q;
        log = ap (λ (x : Leader T ID). x.log) first q;
        voters = sym (ap (λ (x : Leader T ID). x.voters) rest) q;
        elected = sym (ap (λ (x : Leader T ID). x.elected) rest) q;
        acked = ap (λ (x : Leader T ID). x.acked) first q;
        committed = ap (λ (x : Leader T ID). x.committed) first q;
      })

  pub elected_again : (es : List (TraceEvent T ID D)) (t : T) (c : ID) (p : Parts T ID D) (j : ℕ)
      (l v new : Leader T ID) (elected : Bool) → position (is_leader t c) p.leaders ≡ Some j → l ≡ get_or p.leaders j l
      → Keeps k es p → v ≡ record l { voters = v.voters } → new ≡ record v { elected = elected }
      → (IsDistinct k.same_id l.voters.items → IsDistinct k.same_id v.voters.items)
      → (v.log < length p.logs.logs → IsDistinct k.same_id v.voters.items
      → elected ≡ elected_in k k.counting (commits_in p) v.term (take v.start (log_at p.logs v.log))
      (is_member k.same_id v.voters.items))
      → IsDistinct k.same_id l.voters.items
      → new.elected ≡ elected_in k k.counting (commits_in p) t (take l.start (log_at p.logs l.log))
      (is_member k.same_id new.voters.items)
  elected_again es t c p j l v new elected at is keeps first rest distinct counted each =
      let log : v.log ≡ l.log = ap (λ (x : Leader T ID). x.log) first in
      let own : l.log < length p.logs.logs = keeps.have_logs.of_leaders j l (within_of (is_leader t c) p.leaders j l at) is in
      let within : v.log < length p.logs.logs = omega (arith, log, own) in
      ap (λ (x : Leader T ID). x.elected) rest
      ∙ counted within (distinct each)
      ∙ (λ q. elected_in k k.counting (commits_in p) ((ap (λ (x : Leader T ID). x.term) first ∙ term_of p t c j l at is) q)
      (take (ap (λ (x : Leader T ID). x.start) first q) (log_at p.logs (log q)))
      (is_member k.same_id (sym (ap (λ (x : Leader T ID). x.voters.items) rest) q)))

  pub grant_done : (es : List (TraceEvent T ID D)) (id : ID) (t : T) (c : ID)
      (p : Parts T ID D) (i j len : ℕ) (s0 s m new : Server ID) (l0 l lnew : Leader T ID)
      → position (is_server id) p.servers ≡ Some i
      → s0 ≡ get_or p.servers i s0 → s ≡ get_or p.servers i s
      → position (is_leader t c) p.leaders ≡ Some j
      → l0 ≡ get_or p.leaders j l0 → l ≡ get_or p.leaders j l → Keeps k es p
      → grant_rule k.rank k.same_id (server_in p.logs s0) (leader_in p.logs l0) id (k.rank t) c ≡ None
      → s.terms.term < k.rank t → m ≡ record s { terms = record s.terms { room = m.terms.room } }
      → len ≡ length (log_at p.logs s.log) → new.terms.term ≡ max m.terms.term (k.rank t)
      → ((r : ℕ) → kept_from 0 new.terms.kept r ≡ kept_after m.terms.kept m.terms.term len (k.rank t) r)
      → new ≡ record m { terms = new.terms; voted = k.rank t }
      → ((v : ID) → is_member k.same_id lnew.voters.items v
      ≡ (is_member k.same_id l.voters.items v || k.same_id v id))
      → (IsDistinct k.same_id l.voters.items → IsDistinct k.same_id lnew.voters.items)
      → (IsDistinct k.same_id l.voters.items
      → lnew.elected ≡ elected_in k k.counting (commits_in p) t (take l.start (log_at p.logs l.log))
      (is_member k.same_id lnew.voters.items))
      → lnew ≡ record l { voters = lnew.voters; elected = lnew.elected }
      → (first_broken k (Granted id t c) es ≡ None)
      × Keeps k (Granted id t c ∷ es) (with_leader (with_server p i new) j lnew)
  grant_done es id t c p i j len s0 s m new l0 l lnew at is0 is at_j is_l0 is_l keeps free above room is_len term kept
      rest voted distinct elected same =
      let reached = reaches p s m new (k.rank t) len room is_len term kept rest in
      let within : i < length p.servers = within_of (is_server id) p.servers i s at in
      let within_j : j < length p.leaders = within_of (is_leader t c) p.leaders j l at_j in
      let at_l : SeesLeader k es t c (leader_in p.logs l) = sees_leader_at es p t c j l at_j is_l keeps in
      let done = grant_seen k exact es id t c (servers_in p) (leaders_in p) i j (server_in p.logs s) (server_in p.logs new)
      (leader_in p.logs l) (leader_in p.logs lnew)
      (server_place p id i at) (item_map (server_in p.logs) p.servers i s is)
      (leader_place_in p t c (Some j) at_j) (item_map (leader_in p.logs) p.leaders j l is_l) keeps.seen
      (grant_free p id t c i j s0 s l0 l within within_j is0 is is_l0 is_l free)
      above reached.id reached.term reached.voted (ap (log_at p.logs) reached.log) reached.durable reached.kept voted
      (distinct at_l.distinct)
      (elected at_l.distinct
      ∙ sym (tally_known k.counting es (commits_in p) keeps.known t (take l.start (log_at p.logs l.log))
      (is_member k.same_id lnew.voters.items)))
      (ap (λ (x : Leader T ID). x.acked.items) same) (voted_leader p l lnew same) in (
        done.0,
        keeps_both (Granted id t c ∷ es) p i j new l lnew within within_j is_l (ap (λ (x : Leader T ID). x.term) same)
            (rw reached.log (keeps.have_logs.of_servers i s within is))
            (rw (ap (λ (x : Leader T ID). x.log) same) (keeps.have_logs.of_leaders j l within_j is_l))
            done.1 keeps.unused (ap (λ (x : Leader T ID). x.committed) same)
            (quiet es (Granted id t c ∷ es) (commits_in p) (λ u a x. refl) keeps.known) es keeps,
      )

  pub late_vote_done : (es : List (TraceEvent T ID D)) (id : ID) (t : T) (c : ID)
      (p : Parts T ID D) (i j : ℕ) (s0 s new : Server ID) (l : Leader T ID)
      → position (is_server id) p.servers ≡ Some i
      → s0 ≡ get_or p.servers i s0 → s ≡ get_or p.servers i s
      → position (is_leader t c) p.leaders ≡ Some j → l ≡ get_or p.leaders j l → Keeps k es p
      → grant_rule k.rank k.same_id (server_in p.logs s0) (leader_in p.logs l) id (k.rank t) c ≡ None
      → k.rank t ≤ s.terms.term → new ≡ record s { voted = k.rank t }
      → (first_broken k (Granted id t c) es ≡ None)
      × Keeps k (Granted id t c ∷ es) (with_server p i new)
  late_vote_done es id t c p i j s0 s new l at is0 is at_j is_l keeps free reached rest =
      let within : i < length p.servers = within_of (is_server id) p.servers i s at in
      let within_j : j < length p.leaders = within_of (is_leader t c) p.leaders j l at_j in
      let done = late_vote_seen k exact es id t c (servers_in p) (leaders_in p) i j (server_in p.logs s) (server_in p.logs new)
      (leader_in p.logs l) (server_place p id i at) (item_map (server_in p.logs) p.servers i s is)
      (leader_place_in p t c (Some j) at_j) (item_map (leader_in p.logs) p.leaders j l is_l) keeps.seen
      (grant_free p id t c i j s0 s l l within within_j is0 is is_l is_l free)
      reached (ap (λ (x : Server ID). x.id) rest) (ap (λ (x : Server ID). x.terms.term) rest)
      (ap (λ (x : Server ID). x.voted) rest) (ap (λ (x : Server ID). log_at p.logs x.log) rest)
      (ap (λ (x : Server ID). x.durable) rest) (ap (λ (x : Server ID). x.terms.kept) rest) in (
        done.0,
        keeps_server (Granted id t c ∷ es) p i new within
            (rw (ap (λ (x : Server ID). x.log) rest) (keeps.have_logs.of_servers i s within is)) done.1 keeps.unused
            (quiet es (Granted id t c ∷ es) (commits_in p) (λ u a x. refl) keeps.known) es keeps,
      )

  -- ---- campaigns

  pub campaign_twice : (es : List (TraceEvent T ID D)) (t : T) (c : ID) (p : Parts T ID D) (j : ℕ)
      → position (is_leader t c) p.leaders ≡ Some j → Keeps k es p
      → (first_broken k (Campaigned c t) es ≡ Some CampaignedTwice) × Keeps k es p
  campaign_twice es t c p j at keeps = (
    (campaign_again k exact es t c (servers_in p) (leaders_in p) j (leader_place_in p t c (Some j) at) keeps.seen).0,
    keeps,
  )

  pub campaign_passed : (es : List (TraceEvent T ID D)) (t : T) (c : ID) (p : Parts T ID D) (i : ℕ) (s : Server ID)
      → position (is_server c) p.servers ≡ Some i → s ≡ get_or p.servers i s
      → position (is_leader t c) p.leaders ≡ None → Keeps k es p → k.rank t ≤ s.terms.term
      → (first_broken k (Campaigned c t) es ≡ Some PassedTerm) × Keeps k es p
  campaign_passed es t c p i s at is absent keeps below = (
    (campaign_refused k exact es t c (servers_in p) (servers_in p) (leaders_in p) i (server_in p.logs s)
        (server_place p c i at, inl refl) (item_map (server_in p.logs) p.servers i s is)
        (leader_place_in p t c None absent) keeps.seen below).0,
    keeps,
  )

  -- a server has not campaigned in a term that it has not reached
  no_campaign : (es : List (TraceEvent T ID D)) (t : T) (c : ID) (p : Parts T ID D) (i : ℕ) (s : Server ID)
      → position (is_server c) p.servers ≡ Some i → s ≡ get_or p.servers i s → Keeps k es p
      → s.terms.term < k.rank t → position (is_leader t c) p.leaders ≡ None
  no_campaign es t c p i s at is keeps above = go (position (is_leader t c) p.leaders) refl
    where
      go : (o : Option ℕ) → position (is_leader t c) p.leaders ≡ o → o ≡ None
      go None e = refl
      go (Some j) e =
          let found : (l : Leader T ID) × (find (is_leader t c) p.leaders ≡ Some l) = found_some (is_leader t c) p.leaders j e in
          let at_l : SeesLeader k es t c (leader_in p.logs (get_or p.leaders j found.0)) =
          subst (λ (x : LeaderState T ID D). SeesLeader k es t c x)
          (get_map (leader_in p.logs) p.leaders j found.0)
          (leader_seen k exact es (leaders_in p) t c j (leader_in p.logs found.0) keeps.seen.see_leaders
          (leader_place_in p t c (Some j) e)) in
          let at_s : SeesServer k (events_in k es c) (server_in p.logs s) = sees_server_at es p c i s at is keeps in
          let below : k.rank t ≤ s.terms.term = at_s.votes t c (at_l.voted c ∙ at_l.own_vote) in
          absurd (omega (arith, below, above))

  -- a candidate votes for itself, and it is noted whether it is elected then
  pub elected_first : (p : Parts T ID D) (t : T) (c : ID) (s : Server ID) (v new : Leader T ID) (elected : Bool)
      → s.log < length p.logs.logs → v.term ≡ t → v.start ≡ length (log_at p.logs s.log) → v.log ≡ s.log
      → v.voters.items ≡ c ∷ [] → new ≡ record v { elected = elected }
      → (v.log < length p.logs.logs → IsDistinct k.same_id v.voters.items
      → elected ≡ elected_in k k.counting (commits_in p) v.term (take v.start (log_at p.logs v.log))
      (is_member k.same_id v.voters.items))
      → new.elected ≡ elected_in k k.counting (commits_in p) t (log_at p.logs s.log) (is_member k.same_id (c ∷ []))
  elected_first p t c s v new elected within term start log voters rest counted =
      ap (λ (x : Leader T ID). x.elected) rest
      ∙ counted (omega (arith, log, within)) (rw voters (distinct_one k.same_id c))
      ∙ (λ q. elected_in k k.counting (commits_in p) (term q) (take (start q) (log_at p.logs (log q)))
      (is_member k.same_id (voters q)))
      ∙ ap (λ x. elected_in k k.counting (commits_in p) t x (is_member k.same_id (c ∷ [])))
      (take_all (length (log_at p.logs s.log)) (log_at p.logs s.log) (omega arith))

  pub campaign_done : (es : List (TraceEvent T ID D)) (t : T) (c : ID) (p : Parts T ID D) (i len : ℕ)
      (s0 s m new : Server ID) (lnew : Leader T ID)
      → position (is_server c) p.servers ≡ Some i
      → s0 ≡ get_or p.servers i s0 → s ≡ get_or p.servers i s
      → Keeps k es p → s0.terms.term < k.rank t
      → m ≡ record s { terms = record s.terms { room = m.terms.room } }
      → len ≡ length (log_at p.logs s.log) → new.terms.term ≡ max m.terms.term (k.rank t)
      → ((r : ℕ) → kept_from 0 new.terms.kept r ≡ kept_after m.terms.kept m.terms.term len (k.rank t) r)
      → new ≡ record m { terms = new.terms; voted = k.rank t }
      → lnew.elected ≡ elected_in k k.counting (commits_in p) t (log_at p.logs s.log) (is_member k.same_id (c ∷ []))
      → lnew.acked.items ≡ []
      → LeaderIs (leader_in p.logs lnew) t c (length (log_at p.logs s.log)) (log_at p.logs s.log) (c ∷ []) lnew.elected None
      → lnew.log ≡ s.log
      → (places : List (ℕ × (ℕ × ℕ)))
      → place_of places (k.rank t)
      ≡ Some (first_of (place_of p.places (k.rank t)) (length p.leaders), length p.leaders)
      → ((q : ℕ) → (q ≡ k.rank t → ⊥) → place_of places q ≡ place_of p.places q)
      → (first_broken k (Campaigned c t) es ≡ None)
      × Keeps k (Campaigned c t ∷ es) (with_places (with_leaders (with_server p i new) (lnew ∷ p.leaders)) places)
  campaign_done es t c p i len s0 s m new lnew at is0 is keeps above room is_len term kept rest elected acked
      same same_log places here others =
      let reached = reaches p s m new (k.rank t) len room is_len term kept rest in
      let within : i < length p.servers = within_of (is_server c) p.servers i s at in
      let one : s0 ≡ s = same_item p.servers i s0 s within is0 is in
      let old_log : s.log < length p.logs.logs = keeps.have_logs.of_servers i s within is in
      let done = campaign_seen k exact es t c (servers_in p) (leaders_in p) i (server_in p.logs s) (server_in p.logs new)
      (leader_in p.logs lnew) (server_place p c i at) (item_map (server_in p.logs) p.servers i s is)
      (leader_place_in p t c None (no_campaign es t c p i s0 at is0 keeps above)) keeps.seen
      (subst (λ (x : Server ID). x.terms.term < k.rank t) one above)
      reached.id reached.term reached.voted (ap (log_at p.logs) reached.log) reached.durable reached.kept
      (elected
      ∙ sym (tally_known k.counting es (commits_in p) keeps.known t (log_at p.logs s.log) (is_member k.same_id (c ∷ []))))
      acked same in
      let have = have_more (with_server p i new) lnew
      (have_server p i new keeps.have_logs within (rw reached.log old_log)) (rw same_log old_log) in (
        done.0,
        record {
          are_logs = keeps.are_logs;
          have_logs = record { of_servers = have.of_servers; of_leaders = have.of_leaders; of_commits = have.of_commits };
          known = quiet es (Campaigned c t ∷ es) (commits_in p) (λ u a x. refl) keeps.known;
          placed = placed_more k.rank p.places places p.leaders lnew (k.rank t) (ap k.rank same.term) here others keeps.placed;
          bounded = bounded_more p.committed p.leaders lnew same.committed keeps.bounded;
          counting = keeps.counting;
          unused = keeps.unused;
          seen = subst (λ (x : List (ServerState T ID D)). HasSeen k (Campaigned c t ∷ es) x (leader_in p.logs lnew ∷ leaders_in p))
              (sym (map-set (server_in p.logs) p.servers i new)) done.1;
        },
      )

  -- ---- entries that a leader writes

  pub write_refused : (es : List (TraceEvent T ID D)) (t : T) (c : ID) (e : Entry T D) (p : Parts T ID D) (j : ℕ)
      (l : Leader T ID) (r : Rule) (holds : D → Bool) → ((d : D) → k.config_of d ≡ config_in holds d)
      → k.initial ≡ None → IsElectedAt k es t c p.leaders j → l ≡ get_or p.leaders j l → Keeps k es p
      → write_rule k.counting k.same_term holds k.intersect (leader_in p.logs l) t e ≡ Some r
      → (first_broken k (Wrote c t e) es ≡ Some r) × Keeps k es p
  write_refused es t c e p j l r holds is_holds initial at_j is_l keeps broken = (
    write_right k exact es t c e (leader_in p.logs l) holds is_holds initial
        (sees_leader_at es p t c j l at_j.place is_l keeps) at_j.elected ∙ broken,
    keeps,
  )

  pub write_done : (es : List (TraceEvent T ID D)) (t : T) (c : ID) (e : Entry T D) (p : Parts T ID D) (j : ℕ)
      (logs : AllLogs T D) (l0 l1 l lnew : Leader T ID) (holds : D → Bool) → ((d : D) → k.config_of d ≡ config_in holds d)
      → k.initial ≡ None → IsElectedAt k es t c p.leaders j
      → l0 ≡ get_or p.leaders j l0 → l1 ≡ get_or p.leaders j l1 → l ≡ get_or p.leaders j l → Keeps k es p
      → write_rule k.counting k.same_term holds k.intersect (leader_in p.logs l0) t e ≡ None
      → (log : ℕ) → IsChild (λ d. is_some (k.config_of d)) p.logs l1.log e logs log
      → lnew ≡ record l { log = log }
      → (first_broken k (Wrote c t e) es ≡ None)
      × Keeps k (Wrote c t e ∷ es) (record {
        counting = p.counting;
        logs = logs;
        servers = p.servers;
        leaders = set p.leaders j lnew;
        places = p.places;
        committed = p.committed;
        commits = p.commits;
      })
  write_done es t c e p j logs l0 l1 l lnew holds is_holds initial at_j is_l0 is_l1 is_l keeps free log child rest =
      let is_log : lnew.log ≡ log = ap (λ (x : Leader T ID). x.log) rest in
      let within_j : j < length p.leaders = within_of (is_leader t c) p.leaders j l at_j.place in
      let one : l0 ≡ l = same_item p.leaders j l0 l within_j is_l0 is_l in
      let other : l1 ≡ l = same_item p.leaders j l1 l within_j is_l1 is_l in
      let at_l : SeesLeader k es t c (leader_in p.logs l) = sees_leader_at es p t c j l at_j.place is_l keeps in
      let now : write_rule k.counting k.same_term holds k.intersect (leader_in p.logs l) t e ≡ None =
      subst (λ (x : Leader T ID). write_rule k.counting k.same_term holds k.intersect (leader_in p.logs x) t e ≡ None) one free in
      let new_log : log_at logs lnew.log ≡ log_at p.logs l.log ++ e ∷ [] =
      ap (log_at logs) is_log ∙ child.is ∙ ap (λ (x : Leader T ID). log_at p.logs x.log ++ e ∷ []) other in
      let done = write_seen k exact es t c e (servers_in p) (leaders_in p) j (leader_in p.logs l) (leader_in logs lnew)
      (leader_place_in p t c (Some j) at_j.place) (item_map (leader_in p.logs) p.leaders j l is_l) keeps.seen
      (write_right k exact es t c e (leader_in p.logs l) holds is_holds initial at_l at_j.elected ∙ now)
      (ap (λ (x : Leader T ID). x.acked.items) rest)
      (record {
        term = ap (λ (x : Leader T ID). x.term) rest;
        id = ap (λ (x : Leader T ID). x.id) rest;
        start = ap (λ (x : Leader T ID). x.start) rest;
        log = new_log;
        voters = ap (λ (x : Leader T ID). x.voters.items) rest;
        elected = ap (λ (x : Leader T ID). x.elected) rest;
        committed = ap (λ (x : Leader T ID). x.committed) rest;
      }) in
      let same_s : map (server_in logs) p.servers ≡ servers_in p =
      same_servers p.logs logs p.servers (λ i s h is. child.kept s.log (keeps.have_logs.of_servers i s h is)) in
      let same_l : map (leader_in logs) p.leaders ≡ leaders_in p =
      same_leaders p.logs logs p.leaders (λ i x h is. child.kept x.log (keeps.have_logs.of_leaders i x h is)) in
      let grown : Parts T ID D = record {
        counting = p.counting;
        logs = logs;
        servers = p.servers;
        leaders = p.leaders;
        places = p.places;
        committed = p.committed;
        commits = p.commits;
      } in
      let have : HaveLogs grown = record {
        of_servers = λ i s h is.
            (let o : s.log < length p.logs.logs = keeps.have_logs.of_servers i s h is in omega (arith, o, child.more));
        of_leaders = λ i x h is.
            (let o : x.log < length p.logs.logs = keeps.have_logs.of_leaders i x h is in omega (arith, o, child.more));
        of_commits = λ i x h is.
            (let o : x.log < length p.logs.logs = keeps.have_logs.of_commits i x h is in omega (arith, o, child.more));
      } in
      let same_c : map (commit_in logs) p.commits ≡ commits_in p =
      same_commits p.logs logs p.commits (λ i x h is. child.kept x.log (keeps.have_logs.of_commits i x h is)) in (
        done.0,
        record {
          are_logs = child.logs;
          known = subst (λ (x : List (CommitState T D)). SeesKnownBy k k.counting (Wrote c t e ∷ es) x) (sym same_c)
              (quiet es (Wrote c t e ∷ es) (commits_in p) (λ u a x. refl) keeps.known);
          have_logs = have_leader grown j lnew have within_j (rw is_log child.within);
          placed = placed_set k.rank p.places p.leaders j l lnew within_j is_l (ap (λ (x : Leader T ID). x.term) rest) keeps.placed;
          bounded = bounded_same p.committed p.leaders j l lnew within_j is_l (ap (λ (x : Leader T ID). x.committed) rest)
              keeps.bounded;
          counting = keeps.counting;
          unused = λ d. (
            λ without. (
              (lack_second k.same_content d (log_at p.logs l1.log) (e ∷ [])
                  (subst (LackContent k.same_content d) child.is (without log child.within))).0,
              (keeps.unused d).0 (λ i h. subst (LackContent k.same_content d) (child.kept i h)
                  (without i (omega (arith, h, child.more)))),
            ),
            λ none i h. lack_in d none.0 ((keeps.unused d).1 none.1) i (child.only i h),
          );
          seen = subst (λ (x : List (LeaderState T ID D)). HasSeen k (Wrote c t e ∷ es) (map (server_in logs) p.servers) x)
              (ap (λ (x : List (LeaderState T ID D)). set x j (leader_in logs lnew)) (sym same_l)
              ∙ sym (map-set (leader_in logs) p.leaders j lnew))
              (subst (λ (x : List (ServerState T ID D)). HasSeen k (Wrote c t e ∷ es) x (set (leaders_in p) j (leader_in logs lnew)))
              (sym same_s) done.1);
        },
      )
    where
      lack_in : (d : D) → k.same_content d e.content ≡ false → AreWithout k.same_content p.logs d → (i : ℕ)
          → (i < length p.logs.logs) ⊎ (log_at logs i ≡ log_at p.logs l1.log ++ e ∷ [])
          → LackContent k.same_content d (log_at logs i)
      lack_in d apart without i (inl h) = subst (LackContent k.same_content d) (sym (child.kept i h)) (without i h)
      lack_in d apart without i (inr h) =
          subst (LackContent k.same_content d) (sym h)
          (lack_append k.same_content d (log_at p.logs l1.log) (e ∷ [])
          (without l1.log
          (keeps.have_logs.of_leaders j l1 (within_of (is_leader t c) p.leaders j l1 at_j.place) is_l1)) (apart, tt))

  -- ---- commits

  -- what the tests of a commit say, if configs count once they are applied
  pub record CommitTests (es : List (TraceEvent T ID D)) (t : T) (c : ID) (n m : ℕ) (p : Parts T ID D)
      (l : Leader T ID) (known follows : Bool) : Type 0 where
    pub is_known : k.counting ≡ WhenApplied → may_count_acks k es t c m ≡ known
    pub is_alone : k.counting ≡ WhenApplied → hold_at_most_one k (drop m (take n (log_at p.logs l.log))) ≡ follows

  pub commit_refused : (es : List (TraceEvent T ID D)) (t : T) (c : ID) (n m : ℕ) (p : Parts T ID D) (j : ℕ)
      (l : Leader T ID) (r : Rule) → IsElectedAt k es t c p.leaders j → l ≡ get_or p.leaders j l
      → Keeps k es p → (known follows : Bool) → CommitTests es t c n m p l known follows
      → commit_rule k.counting (leader_in p.logs l) n m known follows None ≡ Some r
      → (first_broken k (Committed c t n m) es ≡ Some r) × Keeps k es p
  commit_refused es t c n m p j l r at_j is_l keeps known follows tests broken =
      let at_l : SeesLeader k es t c (leader_in p.logs l) = sees_leader_at es p t c j l at_j.place is_l keeps in
      let quorum : Bool =
      is_quorum_of_log k (take m (log_at p.logs l.log)) (λ v. has_acked_to k.same_id l.acked.items v n) in (
        commit_right k exact es t c n m (leader_in p.logs l) known follows quorum at_l at_j.elected tests.is_known tests.is_alone refl
            ∙ commit_first k exact (leader_in p.logs l) n m known follows r (unless quorum NoQuorum None) broken,
        keeps,
      )

  commit_short : (l : LeaderState T ID D) (n m : ℕ) (known follows : Bool)
      → commit_rule k.counting l n m known follows None ≡ None → n ≤ length l.log
  commit_short l n m known follows e = go k.counting (nat_lt l.start n) e
    where
      two : (x y : Bool) → nat_le n m ≡ x → nat_le m (length l.log) ≡ y
          → unless x CountedEarly (unless y NotWritten None) ≡ None → n ≤ length l.log
      two true true q w h =
          let u : n ≤ m = leb-true n m q in
          let v : m ≤ length l.log = leb-true m (length l.log) w in
          omega arith
      two true false q w h = absurd (cc)
      two false y q w h = absurd (cc)

      four : (x y : Bool) → nat_le n (length l.log) ≡ y
          → unless x CountedLate (unless y NotWritten (unless known UnknownConfig (unless follows ConfigsFollow None)))
          ≡ None → n ≤ length l.log
      four true true w h = leb-true n (length l.log) w
      four true false w h = absurd (cc)
      four false y w h = absurd (cc)

      go : (w : ConfigsCount) (b : Bool)
          → unless b EarlierTerm (counted_rule w l n m known follows None) ≡ None → n ≤ length l.log
      go WhenAppended true h = two (nat_le n m) (nat_le m (length l.log)) refl refl h
      go WhenApplied true h = four (nat_le m n) (nat_le n (length l.log)) refl h
      go w false h = absurd (cc)

  -- the quorum of a commit is tested
  commit_tested : (es : List (TraceEvent T ID D)) (t : T) (c : ID) (n m : ℕ) (p : Parts T ID D) (j : ℕ)
      (l l1 l2 : Leader T ID) (ids : List ID) (config : Option D) (quorum : Bool)
      → IsElectedAt k es t c p.leaders j
      → l ≡ get_or p.leaders j l → l1 ≡ get_or p.leaders j l1 → l2 ≡ get_or p.leaders j l2
      → Keeps k es p → (known follows : Bool) → CommitTests es t c n m p l known follows
      → commit_rule k.counting (leader_in p.logs l) n m known follows None ≡ None
      → ((v : ID) → is_member k.same_id ids v ≡ has_acked_to k.same_id l1.acked.items v n)
      → config ≡ effective_config k.config_of k.initial (take m (log_at p.logs l2.log))
      → quorum ≡ k.quorum_of config (is_member k.same_id ids)
      → first_broken k (Committed c t n m) es ≡ unless quorum NoQuorum None
  commit_tested es t c n m p j l l1 l2 ids config quorum at_j is is1 is2 keeps known follows tests free members is_config counted =
      let within : j < length p.leaders = within_of (is_leader t c) p.leaders j l at_j.place in
      let q1 : l1 ≡ l = same_item p.leaders j l1 l within is1 is in
      let q2 : l2 ≡ l = same_item p.leaders j l2 l within is2 is in
      let at_l : SeesLeader k es t c (leader_in p.logs l) = sees_leader_at es p t c j l at_j.place is keeps in
      let by_ids : (v : ID) → has_acked_to k.same_id l.acked.items v n ≡ is_member k.same_id ids v =
      λ v. sym (members v ∙ ap (λ (x : Leader T ID). has_acked_to k.same_id x.acked.items v n) q1) in
      let in_effect : config ≡ effective_config k.config_of k.initial (take m (log_at p.logs l.log)) =
      is_config ∙ ap (λ (x : Leader T ID). effective_config k.config_of k.initial (take m (log_at p.logs x.log))) q2 in
      let tested : is_quorum_of_log k (take m (log_at p.logs l.log)) (λ v. has_acked_to k.same_id l.acked.items v n)
      ≡ quorum =
      (λ q. is_quorum_of_log k (take m (log_at p.logs l.log)) (λ v. by_ids v q))
      ∙ sym (counted ∙ ap (λ x. k.quorum_of x (is_member k.same_id ids)) in_effect) in
      commit_right k exact es t c n m (leader_in p.logs l) known follows quorum at_l at_j.elected tests.is_known tests.is_alone tested
      ∙ commit_then k exact (leader_in p.logs l) n m known follows (unless quorum NoQuorum None) free

  pub commit_uncounted : (es : List (TraceEvent T ID D)) (t : T) (c : ID) (n m : ℕ) (p : Parts T ID D) (j : ℕ)
      (l l1 l2 : Leader T ID) (ids : List ID) (config : Option D) (quorum : Bool)
      → IsElectedAt k es t c p.leaders j
      → l ≡ get_or p.leaders j l → l1 ≡ get_or p.leaders j l1 → l2 ≡ get_or p.leaders j l2
      → Keeps k es p → (known follows : Bool) → CommitTests es t c n m p l known follows
      → commit_rule k.counting (leader_in p.logs l) n m known follows None ≡ None
      → ((v : ID) → is_member k.same_id ids v ≡ has_acked_to k.same_id l1.acked.items v n)
      → config ≡ effective_config k.config_of k.initial (take m (log_at p.logs l2.log))
      → quorum ≡ k.quorum_of config (is_member k.same_id ids) → quorum ≡ false
      → (first_broken k (Committed c t n m) es ≡ Some NoQuorum) × Keeps k es p
  commit_uncounted es t c n m p j l l1 l2 ids config quorum at_j is is1 is2 keeps known follows tests free members is_config counted few = (
    commit_tested es t c n m p j l l1 l2 ids config quorum at_j is is1 is2 keeps known follows tests free members is_config counted
        ∙ ap (λ b. unless b NoQuorum None) few,
    keeps,
  )

  pub commit_done : (es : List (TraceEvent T ID D)) (t : T) (c : ID) (n m : ℕ) (p : Parts T ID D) (j : ℕ)
      (l l1 l2 l3 lnew : Leader T ID) (ids : List ID) (config : Option D) (quorum : Bool)
      → IsElectedAt k es t c p.leaders j
      → l ≡ get_or p.leaders j l → l1 ≡ get_or p.leaders j l1 → l2 ≡ get_or p.leaders j l2
      → l3 ≡ get_or p.leaders j l3
      → Keeps k es p → (known follows : Bool) → CommitTests es t c n m p l known follows
      → commit_rule k.counting (leader_in p.logs l) n m known follows None ≡ None
      → ((v : ID) → is_member k.same_id ids v ≡ has_acked_to k.same_id l1.acked.items v n)
      → config ≡ effective_config k.config_of k.initial (take m (log_at p.logs l2.log))
      → quorum ≡ k.quorum_of config (is_member k.same_id ids) → quorum ≡ true
      → lnew ≡ record l3 { committed = Some (max (unwrap_or l3.committed 0) n) }
      → (most : ℕ) → most ≡ max p.committed n
      → (commits : List Commit)
      → ((i : ℕ) (x : Commit) → i < length commits → x ≡ get_or commits i x → x.log < length p.logs.logs)
      → SeesKnownBy k k.counting (Committed c t n m ∷ es) (map (commit_in p.logs) commits)
      → (first_broken k (Committed c t n m) es ≡ None)
      × Keeps k (Committed c t n m ∷ es) (with_commits (with_committed (with_leader p j lnew) most) commits)
  commit_done es t c n m p j l l1 l2 l3 lnew ids config quorum at_j is is1 is2 is3 keeps known follows tests free members
      is_config counted enough rest most is_most commits have_commits sees_commits =
      let tested : first_broken k (Committed c t n m) es ≡ unless quorum NoQuorum None =
      commit_tested es t c n m p j l l1 l2 ids config quorum at_j is is1 is2 keeps known follows tests free members is_config counted in
      let within : j < length p.leaders = within_of (is_leader t c) p.leaders j l at_j.place in
      let q3 : l ≡ l3 = same_item p.leaders j l l3 within is is3 in
      let short : n ≤ length (log_at p.logs l3.log) =
      subst (λ (x : Leader T ID). n ≤ length (log_at p.logs x.log)) q3 (commit_short (leader_in p.logs l) n m known follows free) in
      let done = commit_seen k exact es t c n m (servers_in p) (leaders_in p) j (leader_in p.logs l3) (leader_in p.logs lnew)
      (leader_place_in p t c (Some j) at_j.place) (item_map (leader_in p.logs) p.leaders j l3 is3) keeps.seen
      (tested ∙ ap (λ b. unless b NoQuorum None) enough) short (ap (λ (x : Leader T ID). x.acked.items) rest)
      (record {
        term = ap (λ (x : Leader T ID). x.term) rest;
        id = ap (λ (x : Leader T ID). x.id) rest;
        start = ap (λ (x : Leader T ID). x.start) rest;
        log = ap (λ (x : Leader T ID). log_at p.logs x.log) rest;
        voters = ap (λ (x : Leader T ID). x.voters.items) rest;
        elected = ap (λ (x : Leader T ID). x.elected) rest;
        committed = ap (λ (x : Leader T ID). x.committed) rest;
      }) in (
        done.0,
        keeps_commits (Committed c t n m ∷ es) p j most commits l3 lnew within is3 (ap (λ (x : Leader T ID). x.term) rest)
            (rw (ap (λ (x : Leader T ID). x.log) rest) (keeps.have_logs.of_leaders j l3 within is3)) done.1 keeps.unused
            (rw is_most (bounded_commit p.committed p.leaders j n l3 lnew within is3
            (ap (λ (x : Leader T ID). x.committed) rest) keeps.bounded)) have_commits sees_commits es keeps,
      )

  -- ---- what is applied

  apply_test : (es : List (TraceEvent T ID D)) (id : ID) (t : T) (c : ID) (n : ℕ) (p : Parts T ID D) (i j : ℕ)
      (s : Server ID) (l : Leader T ID)
      → position (is_server id) p.servers ≡ Some i → s ≡ get_or p.servers i s
      → IsElectedAt k es t c p.leaders j → l ≡ get_or p.leaders j l → Keeps k es p
      → first_broken k (Applied id t c n) es
      ≡ option_or (apply_rule (same_entry k) (server_in p.logs s) (leader_in p.logs l) n)
      (unless (list_any (knows k.rank (same_entry k) (k.rank t) (take n (log_at p.logs l.log))) (leaders_in p)) NotCommitted None)
  apply_test es id t c n p i j s l at is at_j is_l keeps =
      apply_right k exact es (servers_in p) (leaders_in p) id t c n (server_in p.logs s) (leader_in p.logs l) keeps.seen
      (sees_server_at es p id i s at is keeps) (sees_leader_at es p t c j l at_j.place is_l keeps) at_j.elected

  pub apply_refused : (es : List (TraceEvent T ID D)) (id : ID) (t : T) (c : ID) (n : ℕ) (p : Parts T ID D) (i j : ℕ)
      (s : Server ID) (l : Leader T ID) (r : Rule)
      → position (is_server id) p.servers ≡ Some i → s ≡ get_or p.servers i s
      → IsElectedAt k es t c p.leaders j → l ≡ get_or p.leaders j l → Keeps k es p
      → apply_rule (same_entry k) (server_in p.logs s) (leader_in p.logs l) n ≡ Some r
      → (first_broken k (Applied id t c n) es ≡ Some r) × Keeps k es p
  apply_refused es id t c n p i j s l r at is at_j is_l keeps broken = (
    apply_test es id t c n p i j s l at is at_j is_l keeps
        ∙ ap (λ (o : Option Rule). option_or o
        (unless (list_any (knows k.rank (same_entry k) (k.rank t) (take n (log_at p.logs l.log))) (leaders_in p)) NotCommitted None))
        broken,
    keeps,
  )

  -- the first entries are read of the leader a second time
  apply_known : (es : List (TraceEvent T ID D)) (id : ID) (t : T) (c : ID) (n prefix : ℕ) (p : Parts T ID D) (i j : ℕ)
      (s : Server ID) (l l2 : Leader T ID) (known : Bool)
      → position (is_server id) p.servers ≡ Some i → s ≡ get_or p.servers i s
      → IsElectedAt k es t c p.leaders j → l ≡ get_or p.leaders j l → l2 ≡ get_or p.leaders j l2
      → Keeps k es p → apply_rule (same_entry k) (server_in p.logs s) (leader_in p.logs l) n ≡ None
      → log_at p.logs prefix ≡ take n (log_at p.logs l2.log)
      → known ≡ list_any (knows k.rank (same_entry k) (k.rank t) (log_at p.logs prefix)) (leaders_in p)
      → first_broken k (Applied id t c n) es ≡ unless known NotCommitted None
  apply_known es id t c n prefix p i j s l l2 known at is at_j is_l is_l2 keeps free first is_known =
      let within : j < length p.leaders = within_of (is_leader t c) p.leaders j l at_j.place in
      let q : l2 ≡ l = same_item p.leaders j l2 l within is_l2 is_l in
      let known_l : known ≡ list_any (knows k.rank (same_entry k) (k.rank t) (take n (log_at p.logs l.log))) (leaders_in p) =
      is_known ∙ ap (λ x. list_any (knows k.rank (same_entry k) (k.rank t) x) (leaders_in p))
      (first ∙ ap (λ (x : Leader T ID). take n (log_at p.logs x.log)) q) in
      apply_test es id t c n p i j s l at is at_j is_l keeps
      ∙ ap (λ (o : Option Rule). option_or o
      (unless (list_any (knows k.rank (same_entry k) (k.rank t) (take n (log_at p.logs l.log))) (leaders_in p)) NotCommitted None))
      free
      ∙ ap (λ b. unless b NotCommitted None) (sym known_l)

  pub apply_uncommitted : (es : List (TraceEvent T ID D)) (id : ID) (t : T) (c : ID) (n prefix : ℕ) (p : Parts T ID D) (i j : ℕ)
      (s : Server ID) (l l2 : Leader T ID) (known : Bool)
      → position (is_server id) p.servers ≡ Some i → s ≡ get_or p.servers i s
      → IsElectedAt k es t c p.leaders j → l ≡ get_or p.leaders j l → l2 ≡ get_or p.leaders j l2
      → Keeps k es p → apply_rule (same_entry k) (server_in p.logs s) (leader_in p.logs l) n ≡ None
      → log_at p.logs prefix ≡ take n (log_at p.logs l2.log)
      → known ≡ list_any (knows k.rank (same_entry k) (k.rank t) (log_at p.logs prefix)) (leaders_in p)
      → known ≡ false → (first_broken k (Applied id t c n) es ≡ Some NotCommitted) × Keeps k es p
  apply_uncommitted es id t c n prefix p i j s l l2 known at is at_j is_l is_l2 keeps free first is_known none = (
    apply_known es id t c n prefix p i j s l l2 known at is at_j is_l is_l2 keeps free first is_known
        ∙ ap (λ b. unless b NotCommitted None) none,
    keeps,
  )

  pub apply_done : (es : List (TraceEvent T ID D)) (id : ID) (t : T) (c : ID) (n prefix : ℕ) (p : Parts T ID D) (i j : ℕ)
      (s : Server ID) (l l2 : Leader T ID) (known : Bool)
      → position (is_server id) p.servers ≡ Some i → s ≡ get_or p.servers i s
      → IsElectedAt k es t c p.leaders j → l ≡ get_or p.leaders j l → l2 ≡ get_or p.leaders j l2
      → Keeps k es p → apply_rule (same_entry k) (server_in p.logs s) (leader_in p.logs l) n ≡ None
      → log_at p.logs prefix ≡ take n (log_at p.logs l2.log)
      → known ≡ list_any (knows k.rank (same_entry k) (k.rank t) (log_at p.logs prefix)) (leaders_in p)
      → known ≡ true
      → (first_broken k (Applied id t c n) es ≡ None) × Keeps k (Applied id t c n ∷ es) p
  apply_done es id t c n prefix p i j s l l2 known at is at_j is_l is_l2 keeps free first is_known found =
      let ok : first_broken k (Applied id t c n) es ≡ None =
      apply_known es id t c n prefix p i j s l l2 known at is at_j is_l is_l2 keeps free first is_known
      ∙ ap (λ b. unless b NotCommitted None) found in
      let done = apply_seen k exact es (servers_in p) (leaders_in p) id t c n keeps.seen ok in (
        done.0,
        record {
          are_logs = keeps.are_logs;
          have_logs = keeps.have_logs;
          placed = keeps.placed;
          bounded = keeps.bounded;
          known = quiet es (Applied id t c n ∷ es) (commits_in p) (λ u a x. refl) keeps.known;
          counting = keeps.counting;
          unused = keeps.unused;
          seen = done.1;
        },
      )
