-- What the state of a server has to do with its events in a history of safety_laws.
--
-- A log of safety_laws has an entry for each index from 1 on. The entry at index 0 starts the cluster,
-- and is not in it.
use Rattle.std.specs.Prelude.{◌≡◌, ◌⊎◌, ◌<◌, ◌≤◌, ℕ, zero, suc, Bool, true, false, List, length, slice_get, Option, Some, None}
use Rattle.std.specs.declared.cmp.Ordering.{Ordering}
use Rattle.std.specs.declared.cmp.Ordering.TheVariants.{Less, Equal, Greater}
use Rattle.raft_base.specs.declared.log_id.LogIdOf.{LogIdOf}
use Rattle.raft_base.specs.declared.vote.VoteIn.{VoteIn}
use Rattle.raft_base.specs.LogId.{next_index}
use Rattle.safety_laws.specs.Log.{Entry}
use Rattle.safety_laws.specs.Events.{Event, History, term_after, log_after}
use Rattle.safety_laws.specs.Facts.{HasVoted}
use Rattle.safety_laws.specs.Ranks.{IsAmong}
use Rattle.safety_laws.specs.Apply.{MayApply}
use Rattle.raft_state.specs.log_id_list.LogReads.{id_at, last_id}

-- of the state of a server: its vote, the log ids that its list stands for, the index before which they
-- are purged, and the last log id that it knows to be committed
pub record State (L C : Type 0) : Type 0 where
  pub vote : VoteIn L
  pub ids : List (LogIdOf C)
  pub purged_next : ℕ
  pub committed : Option (LogIdOf C)

-- leader ids of a kind: how they compare, the term and the candidate of each, its committed leader id,
-- and how these compare
pub record Leaders (L C K : Type 0) : Type 0 where
  pub order : L → L → Option Ordering
  pub term_of : L → ℕ
  pub voted : L → Option K
  pub committed : L → C
  pub cmp : C → C → Ordering
  pub eq : C → C → Bool

-- a server's place in a cluster so far: the history, and who the server is. `leaders` and `terms` are
-- the leader ids and committed leader ids in use, and `first` is that of the entry at index 0
pub record Place (L C K D : Type 0) : Type 0 where
  pub rank : C → ℕ
  pub quorum : List (Entry C D) → (K → Bool) → Bool
  pub leaders : List L
  pub terms : List C
  pub first : C
  pub history : History C K D
  pub server : K

-- leader ids in use are ranked as they compare, and equal if they compare as equal
pub record AreRanked {L C K : Type 0} (k : Leaders L C K) (rank : C → ℕ) (leaders : List L)
    (terms : List C) (first : C) : Type 0 where
  pub greater : (a b : L) → IsAmong a leaders → IsAmong b leaders → k.order a b ≡ Some Greater
      → rank (k.committed b) < rank (k.committed a)
  pub equal : (a b : L) → k.order a b ≡ Some Equal → a ≡ b
  pub apart : (a b : L) → IsAmong a leaders → IsAmong b leaders → k.order a b ≡ None
      → rank (k.committed b) ≡ rank (k.committed a)
  pub less : (x y : C) → IsAmong x terms → IsAmong y terms → k.cmp x y ≡ Less → rank x < rank y
  pub one : (x y : C) → k.cmp x y ≡ Equal → x ≡ y
  pub flip : (x y : C) → k.cmp x y ≡ Greater → k.cmp y x ≡ Less
  pub same : (x y : C) → k.eq x y ≡ true → x ≡ y
  pub itself : (x : C) → k.eq x x ≡ true
  pub least : (x : C) → IsAmong x terms → k.cmp x first ≡ Less → ⊥

module _ {C D : Type 0} (first : C) where
  -- the log id of the entry at an index of a log
  abbrev pub IsIdAt : List (Entry C D) → ℕ → LogIdOf C → Type 0
  IsIdAt log zero id = id.leader_id ≡ first
  IsIdAt log (suc i) id = (e : Entry C D) × (slice_get log i ≡ Some e) × (e.term ≡ id.leader_id)

  -- a log id is one of a log, or that of index 0, and its leader is in use
  pub record IsInLog (terms : List C) (log : List (Entry C D)) (id : LogIdOf C) : Type 0 where
    pub at : IsIdAt log id.index id
    pub in_use : IsAmong id.leader_id terms

  -- the log id of the last entry of a log. A log with no entry has none, or that of index 0
  abbrev pub IsLastId : List C → List (Entry C D) → Option (LogIdOf C) → Type 0
  IsLastId terms log None = length log ≡ 0
  IsLastId terms log (Some id) =
      (length log ≡ id.index) × IsIdAt log id.index id × IsAmong id.leader_id terms

module _ {C K D : Type 0} (rank : C → ℕ) (quorum : List (Entry C D) → (K → Bool) → Bool)
    (h : History C K D) where
  -- a server knows that the first n entries of its log are committed: it may apply them, because of a
  -- leader of a term that it has reached
  pub record KnowsCommitted (es : List (Event C K D)) (n : ℕ) : Type 0 where
    pub may : MayApply rank quorum h es n
    pub reached : rank may.term ≤ term_after rank es

module _ {L C K D : Type 0} (k : Leaders L C K) (p : Place L C K D) where
  -- the log ids of a state are those of a log
  pub record ShowsLog (ids : List (LogIdOf C)) (log : List (Entry C D)) : Type 0 where
    pub last : IsLastId p.first p.terms log (last_id ids)
    pub each : (i : ℕ) (id : LogIdOf C) → id_at ids i ≡ Some id → IsInLog p.first p.terms log id

  -- a state is that of a server after these events: its vote is not below the term that it has
  -- reached, a vote for a candidate was granted or is of a term that the server has not reached, its log
  -- ids are those of its log, and it knows that what is purged or committed is committed
  pub record IsServer (s : State L C) (es : List (Event C K D)) : Type 0 where
    pub in_use : IsAmong s.vote.leader_id p.leaders
    pub reached : term_after p.rank es ≤ p.rank (k.committed s.vote.leader_id)
    pub voted_for : (c : K) → s.vote.committed ≡ false → 0 < k.term_of s.vote.leader_id
        → k.voted s.vote.leader_id ≡ Some c → HasVoted (k.committed s.vote.leader_id) c es
        ⊎ (term_after p.rank es < p.rank (k.committed s.vote.leader_id))
    pub log : ShowsLog s.ids (log_after es)
    pub purged : (i : ℕ) → s.purged_next ≡ suc (suc i)
        → KnowsCommitted p.rank p.quorum p.history es (suc i)
    pub committed : (i : ℕ) → next_index s.committed ≡ suc (suc i)
        → KnowsCommitted p.rank p.quorum p.history es (suc i)
