-- What a follower keeps: rules 4 and 5.
use Rattle.std.specs.Prelude.{◌≡◌, ℕ, suc, List, [], ◌∷◌, Option, Some, None}
use Rattle.raft_base.specs.declared.log_id.LogIdOf.{LogIdOf}
use Rattle.raft_base.specs.LogId.{next_index}
use Rattle.safety_laws.specs.Apply.{IsKnownCommitted}
use Rattle.safety_laws.specs.Events.{Event, Append, Ack}
use Rattle.safety_laws.specs.Facts.{IsElected}
use Rattle.safety_laws.specs.Log.{Entry}
use Rattle.safety_laws.specs.Ranks.{IsAmong}
use Rattle.safety_laws.specs.Rules.{MayAppend, MayAck}
use Rattle.steps_safety.specs.Server.{IsInLog, IsServer, KnowsCommitted, Leaders, Place, State}

module _ {L C K D : Type 0} (k : Leaders L C K) (p : Place L C K D) where
  -- each of these log ids is in a log
  abbrev pub AllInLog : List (Entry C D) → List (LogIdOf C) → Type 0
  AllInLog log [] = Unit {0}
  AllInLog log (x ∷ xs) = IsInLog p.first p.terms log x × AllInLog log xs

  -- and this one, if it is there
  abbrev pub InLogIfAny : List (Entry C D) → Option (LogIdOf C) → Type 0
  InLogIfAny log None = Unit {0}
  InLogIfAny log (Some id) = IsInLog p.first p.terms log id

  -- a request to append entries was sent: by an elected leader, of what it has written, with what it
  -- knew to be committed
  pub record IsSent (leader : L) (prev : Option (LogIdOf C)) (ids : List (LogIdOf C))
      (committed : Option (LogIdOf C)) : Type 0 where
    pub by_node : K
    pub is_for : k.voted leader ≡ Some by_node
    pub in_use : IsAmong leader p.leaders
    pub elected_in : IsElected p.rank p.quorum p.history (k.committed leader) by_node
    pub prev_in : InLogIfAny (p.history.leader_log (k.committed leader) by_node) prev
    pub all_in : AllInLog (p.history.leader_log (k.committed leader) by_node) ids
    pub committed_in : InLogIfAny (p.history.leader_log (k.committed leader) by_node) committed
    pub is_committed : (i : ℕ) → next_index committed ≡ suc (suc i)
        → IsKnownCommitted p.rank p.quorum p.history (k.committed leader) by_node (suc i)

  -- a snapshot was sent: by an elected leader, up to a log id of its log that it knew to be committed
  pub record IsSnapshotSent (leader : L) (upto : LogIdOf C) : Type 0 where
    pub by_node : K
    pub is_for : k.voted leader ≡ Some by_node
    pub in_use : IsAmong leader p.leaders
    pub elected_in : IsElected p.rank p.quorum p.history (k.committed leader) by_node
    pub upto_in : IsInLog p.first p.terms (p.history.leader_log (k.committed leader) by_node) upto
    pub is_committed : (i : ℕ) → upto.index ≡ suc i
        → IsKnownCommitted p.rank p.quorum p.history (k.committed leader) by_node (suc i)

  -- a server has appended, and acknowledged up to a log id, by rules 4 and 5, and is the server of its
  -- state after that
  pub record Follows (leader : L) (upto : Option (LogIdOf C)) (es : List (Event C K D)) (new : State L C)
      : Type 0 where
    pub by_node : K
    pub is_for : k.voted leader ≡ Some by_node
    pub log : List (Entry C D)
    pub entries : ℕ
    pub upto_is : (i : ℕ) → next_index upto ≡ suc i → entries ≡ i
    pub upto_in : InLogIfAny (p.history.leader_log (k.committed leader) by_node) upto
    pub append : MayAppend p.rank p.quorum p.history es (k.committed leader) by_node log
    pub ack : MayAck p.rank p.quorum p.history (Append (k.committed leader) by_node log ∷ es)
        (k.committed leader) by_node entries
    pub server : IsServer k p new
        (Ack (k.committed leader) by_node entries ∷ Append (k.committed leader) by_node log ∷ es)
    pub still_known : (n : ℕ) → KnowsCommitted p.rank p.quorum p.history es n
        → KnowsCommitted p.rank p.quorum p.history
        (Ack (k.committed leader) by_node entries ∷ Append (k.committed leader) by_node log ∷ es) n

  -- a server has truncated its log, by rule 4, and is the server of its state after that
  pub record Truncates (leader : L) (es : List (Event C K D)) (new : State L C) : Type 0 where
    pub by_node : K
    pub is_for : k.voted leader ≡ Some by_node
    pub log : List (Entry C D)
    pub append : MayAppend p.rank p.quorum p.history es (k.committed leader) by_node log
    pub server : IsServer k p new (Append (k.committed leader) by_node log ∷ es)
    pub still_known : (n : ℕ) → KnowsCommitted p.rank p.quorum p.history es n
        → KnowsCommitted p.rank p.quorum p.history (Append (k.committed leader) by_node log ∷ es) n
