-- The facts that a history shows: votes, acknowledgements, elections, commits and what was sent.
use Rattle.std.specs.Prelude.{◌≡◌, ◌+◌, ◌⊎◌, ◌<◌, ◌≤◌, ℕ, Bool, true, List, [], ◌∷◌, ◌++◌, length, take}
use Rattle.safety_laws.specs.Log.{Entry}
use Rattle.safety_laws.specs.Events.{Event, GrantVote, Ack, History}

module _ {T ID D : Type 0} where
  -- the server has granted its vote in this term to this candidate in time, before it took entries of
  -- the term. A late vote is not counted
  abbrev pub HasVoted : T → ID → List (Event T ID D) → Type 0
  HasVoted t c [] = ⊥
  HasVoted t c (GrantVote u d ∷ es) = ((u ≡ t) × (d ≡ c)) ⊎ HasVoted t c es
  HasVoted t c (x ∷ es) = HasVoted t c es

  -- the server has acknowledged n entries or more to the leader of this term
  abbrev pub HasAcked : T → ID → ℕ → List (Event T ID D) → Type 0
  HasAcked t c n [] = ⊥
  HasAcked t c n (Ack u d m ∷ es) = ((u ≡ t) × (d ≡ c) × (n ≤ m)) ⊎ HasAcked t c n es
  HasAcked t c n (x ∷ es) = HasAcked t c n es

-- how a cluster counts: which sets of servers elect a candidate, and which commit a leader's entries
pub record Counting (T ID D : Type 0) : Type 1 where
  -- in this history, votes of this set of servers elect the candidate of a term
  pub elects : History T ID D → T → ID → (ID → Bool) → Type 0
  -- in this history, acknowledgements of this set of servers commit so many first entries of the leader
  -- of a term, counted by the config that was in effect when its log had as many entries as the second
  -- number
  pub commits : History T ID D → T → ID → ℕ → ℕ → (ID → Bool) → Type 0

-- a name that ends in `By` takes any counting. The name without it counts each config from its append
-- on (`appended`)
module _ {T ID D : Type 0} (rank : T → ℕ) (counting : Counting T ID D) (h : History T ID D) where
  -- a candidate is elected in a term: it has voted for itself, and so has a set of servers that elects
  -- it, each server in time (`HasVoted`)
  pub record IsElectedBy (t : T) (c : ID) : Type 0 where
    pub voters : ID → Bool
    pub is_quorum : counting.elects h t c voters
    pub have_voted : (v : ID) → voters v ≡ true → HasVoted t c (h.events v)
    pub for_itself : HasVoted t c (h.events c)

  -- the first n entries of a leader's log are committed: the last of them is of the leader's own
  -- term, and a set of servers that commits them has acknowledged as many. Entries of earlier terms are
  -- committed by this alone, and never by the number of servers that have them
  pub record IsCommittedBy (t : T) (c : ID) (n counted_at : ℕ) : Type 0 where
    pub elected : IsElectedBy t c
    pub own_term : length (h.candidate_log t c) < n
    pub written : n ≤ length (h.leader_log t c)
    pub having : ID → Bool
    pub is_quorum : counting.commits h t c n counted_at having
    pub have_acked : (v : ID) → having v ≡ true → HasAcked t c n (h.events v)

  -- these entries follow the first i of an elected leader's log: an append request may carry them
  pub record IsAppendEntriesBy (t : T) (c : ID) (i : ℕ) (es : List (Entry T D)) : Type 0 where
    pub elected : IsElectedBy t c
    pub within : i + length es ≤ length (h.leader_log t c)
    pub are : take (i + length es) (h.leader_log t c) ≡ take i (h.leader_log t c) ++ es

-- ---- each config counts from its append on

-- `quorum log set`: the set of servers is a quorum of the config in effect at the end of the log
module _ {T ID D : Type 0} (quorum : List (Entry T D) → (ID → Bool) → Bool) where
  -- the set is a quorum of the config that was in effect when the leader's log had `counted_at`
  -- entries, at least those that are committed
  pub record IsQuorumAt (h : History T ID D) (t : T) (c : ID) (n counted_at : ℕ) (having : ID → Bool)
      : Type 0 where
    pub within : n ≤ counted_at
    pub written : counted_at ≤ length (h.leader_log t c)
    pub is_quorum : quorum (take counted_at (h.leader_log t c)) having ≡ true

  -- a candidate counts by the config in effect in its log, and a leader by one that was in effect in
  -- its log when it had written what it commits
  abbrev pub appended : Counting T ID D
  appended = record {
    elects = λ h t c voters. quorum (h.candidate_log t c) voters ≡ true;
    commits = λ h t c n counted_at having. IsQuorumAt h t c n counted_at having;
  }

module _ {T ID D : Type 0} (rank : T → ℕ) (quorum : List (Entry T D) → (ID → Bool) → Bool)
    (h : History T ID D) where
  abbrev pub IsElected : T → ID → Type 0
  IsElected t c = IsElectedBy rank (appended quorum) h t c

  abbrev pub IsCommitted : T → ID → ℕ → ℕ → Type 0
  IsCommitted t c n counted_at = IsCommittedBy rank (appended quorum) h t c n counted_at

  abbrev pub IsAppendEntries : T → ID → ℕ → List (Entry T D) → Type 0
  IsAppendEntries t c i es = IsAppendEntriesBy rank (appended quorum) h t c i es
