-- What a checker keeps, and what it stands for.
use Rattle.std.specs.Prelude.{◌≡◌, ◌⊎◌, ◌<◌, ◌≤◌, ℕ, Bool, Some, None, List, [], ◌∷◌, ◌++◌, length, map, get_or}
use Rattle.std.specs.List.{position}
use Rattle.trace_checker.specs.Inner.CheckerState.{ServerState, LeaderState}
use Rattle.trace_checker.specs.Inner.Logs.{AllLogs, log_at}
use Rattle.trace_checker.specs.Inner.Known.{CommitState, commit_in}
use Rattle.safety_laws.specs.declared.counting.ConfigsCount.{ConfigsCount}
use Rattle.trace_checker.specs.declared.checker.known.Commit.{Commit}
use Rattle.trace_checker.specs.declared.checker.server.Server.{Server}
use Rattle.trace_checker.specs.declared.checker.leader.Leader.{Leader}

-- when the configs of a checker count, its logs, servers and leaders, the numbers of each rank's leaders, a
-- number of entries such that no leader has committed more, and the commits by which configs are known
pub record Parts (T N D : Type 0) : Type 0 where
  pub counting : ConfigsCount
  pub logs : AllLogs T D
  pub servers : List (Server N)
  pub leaders : List (Leader T N)
  pub places : List (ℕ × (ℕ × ℕ))
  pub committed : ℕ
  pub commits : List Commit

module _ {T N D : Type 0} where
  -- what is kept of a server, with the entries of its log
  abbrev pub server_in : AllLogs T D → Server N → ServerState T N D
  server_in logs s = record {
    id = s.id;
    term = s.terms.term;
    voted = s.voted;
    log = log_at logs s.log;
    durable = s.durable;
    kept = s.terms.kept;
  }

  -- what is kept of a candidate or leader, with the entries of its log
  abbrev pub leader_in : AllLogs T D → Leader T N → LeaderState T N D
  leader_in logs l = record {
    term = l.term;
    id = l.id;
    start = l.start;
    log = log_at logs l.log;
    voters = l.voters.items;
    elected = l.elected;
    acked = l.acked.items;
    committed = l.committed;
  }

  abbrev pub servers_in : Parts T N D → List (ServerState T N D)
  servers_in p = map (server_in p.logs) p.servers

  abbrev pub leaders_in : Parts T N D → List (LeaderState T N D)
  leaders_in p = map (leader_in p.logs) p.leaders

  abbrev pub commits_in : Parts T N D → List (CommitState T D)
  commits_in p = map (commit_in p.logs) p.commits

  -- each server, each leader and each commit has one of the logs
  pub record HaveLogs (p : Parts T N D) : Type 0 where
    pub of_servers : (i : ℕ) (s : Server N) → i < length p.servers → s ≡ get_or p.servers i s
        → s.log < length p.logs.logs
    pub of_leaders : (i : ℕ) (l : Leader T N) → i < length p.leaders → l ≡ get_or p.leaders i l
        → l.log < length p.logs.logs
    pub of_commits : (i : ℕ) (c : Commit) → i < length p.commits → c ≡ get_or p.commits i c
        → c.log < length p.logs.logs

-- no leader has committed more entries than this number
abbrev pub AreBounded : {T N : Type 0} → ℕ → List (Leader T N) → Type 0
AreBounded {T} {N} most leaders =
    (i n : ℕ) (l : Leader T N) → i < length leaders → l ≡ get_or leaders i l → l.committed ≡ Some n
    → n ≤ most

-- nothing is kept of a server
pub record IsNew {N : Type 0} (id : N) (s : Server N) : Type 0 where
  pub is_id : s.id ≡ id
  pub term : s.terms.term ≡ 0
  pub voted : s.voted ≡ 0
  pub log : s.log ≡ 0
  pub durable : s.durable ≡ 0
  pub kept : s.terms.kept ≡ []

-- no server passed the test, and a new server of this id was added at the end
pub record IsPushed {N : Type 0} (p : Server N → Bool) (id : N) (old new : List (Server N)) : Type 0 where
  pub absent : position p old ≡ None
  pub server : Server N
  pub is_new : IsNew id server
  pub added : new ≡ old ++ server ∷ []

-- the first server that passes the test is at place i: it was there, or it was added at the end
abbrev pub IsAt : {N : Type 0} → (Server N → Bool) → N → List (Server N) → List (Server N) → ℕ → Type 0
IsAt p id old new i = (position p new ≡ Some i) × ((new ≡ old) ⊎ IsPushed p id old new)
