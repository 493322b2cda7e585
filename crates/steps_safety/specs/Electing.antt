-- What a candidate knows of its votes, and a leader of the logs of its members.
use Rattle.std.specs.Prelude.{◌≡◌, Option, Some, None}
use Rattle.raft_base.specs.declared.log_id.LogIdOf.{LogIdOf}
use Rattle.raft_progress.specs.declared.entry.ProgressEntryOf.{ProgressEntryOf}
use Rattle.safety_laws.specs.Facts.{HasAcked, IsElected}
use Rattle.safety_laws.specs.Ranks.{IsAmong}
use Rattle.steps_safety.specs.Server.{IsInLog, Leaders, Place}

-- the match of a member, if the leader counts it
abbrev pub match_of : {C : Type 0} → Option (ProgressEntryOf C) → Option (LogIdOf C)
match_of None = None
match_of (Some entry) = entry.matching

module _ {L C K D : Type 0} (k : Leaders L C K) (p : Place L C K D) where
  -- what a leader knows: it is elected, and what it counts as the match of a member is in its log, and
  -- was acknowledged to it
  pub record KnowsMatches (leader : L) (node : K) (matching : K → Option (LogIdOf C)) : Type 0 where
    pub in_use : IsAmong leader p.leaders
    pub not_first : k.committed leader ≡ p.first → ⊥
    pub elected : IsElected p.rank p.quorum p.history (k.committed leader) node
    pub in_log : (v : K) (m : LogIdOf C) → matching v ≡ Some m
        → IsInLog p.first p.terms (p.history.leader_log (k.committed leader) node) m
    pub acked : (v : K) (m : LogIdOf C) → matching v ≡ Some m
        → HasAcked (k.committed leader) node m.index (p.history.events v)
