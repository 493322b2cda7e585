-- What servers do, and the history of a cluster.
use Rattle.std.specs.Prelude.{◌⊎◌, ◌≤◌, ℕ, Bool, List, [], ◌∷◌, length}
use Rattle.safety_laws.specs.Log.{Entry, IsPrefix}

-- an event at one server. Votes, acknowledgements and terms are durable, also the term of an append. A
-- log is durable only as far as it was acknowledged
pub data Event (T ID D : Type 0) : Type 0 where
  -- the server grants its vote to a candidate of a term. A candidate votes for itself
  GrantVote : T → ID → Event T ID D
  -- the server grants its vote to a candidate of a term in which it has taken entries. The vote is
  -- late: the model counts it in no election
  LateVote : T → ID → Event T ID D
  -- the server takes entries from the leader of a term, and this is its log now. The leader does so
  -- too with what it writes
  Append : T → ID → List (Entry T D) → Event T ID D
  -- so many first entries are durable, and the server acknowledges them to the leader of a term
  Ack : T → ID → ℕ → Event T ID D
  -- the server restarts, and this is its log now
  Restart : List (Entry T D) → Event T ID D

-- all that was ever done. Events of different servers have no order: nothing is said of what was the
-- case at one moment at two servers
pub record History (T ID D : Type 0) : Type 0 where
  -- the events of each server, the latest first
  pub events : ID → List (Event T ID D)
  -- the log with which a candidate of a term asked for votes
  pub candidate_log : T → ID → List (Entry T D)
  -- the log of the leader of a term: what it has written so far, after the log with which it was
  -- elected
  pub leader_log : T → ID → List (Entry T D)
  -- whether a candidate of a term counts votes by the config of its first so many entries, and whether
  -- a leader of a term has counted acknowledgements by that. What a server knows to be committed
  -- decides this if a config counts once it is applied, so it is part of what was done. If a config
  -- counts from its append on, no rule reads the two
  pub votes_by : T → ID → ℕ → Bool
  pub acks_by : T → ID → ℕ → Bool

module _ {T ID D : Type 0} where
  -- the rank of the term that a server has reached
  abbrev pub term_after : (T → ℕ) → List (Event T ID D) → ℕ
  term_after rank [] = 0
  term_after rank (GrantVote t c ∷ es) = rank t
  term_after rank (Append t c log ∷ es) = rank t
  term_after rank (x ∷ es) = term_after rank es

  -- the rank of the term in which the server has voted last, in time or late, 0 if it has not voted
  abbrev pub voted_after : (T → ℕ) → List (Event T ID D) → ℕ
  voted_after rank [] = 0
  voted_after rank (GrantVote t c ∷ es) = rank t
  voted_after rank (LateVote t c ∷ es) = rank t
  voted_after rank (x ∷ es) = voted_after rank es

  -- the log of a server
  abbrev pub log_after : List (Event T ID D) → List (Entry T D)
  log_after [] = []
  log_after (Append t c log ∷ es) = log
  log_after (Restart log ∷ es) = log
  log_after (x ∷ es) = log_after es

  -- a log of the server, now or at an earlier time, begins with these entries
  abbrev pub HasHad : List (Entry T D) → List (Event T ID D) → Type 0
  HasHad p [] = IsPrefix p []
  HasHad p (e ∷ es) = IsPrefix p (log_after (e ∷ es)) ⊎ HasHad p es

  -- the log of the server begins with these entries, and has done so at all times since a time at
  -- which the server's term was at most of this rank
  abbrev pub HasKept : (T → ℕ) → ℕ → List (Entry T D) → List (Event T ID D) → Type 0
  HasKept rank r p [] = IsPrefix p []
  HasKept rank r p (e ∷ es) =
      IsPrefix p (log_after (e ∷ es))
      × ((term_after rank (e ∷ es) ≤ r) ⊎ HasKept rank r p es)

  -- these entries are durable: the server has acknowledged as many while its log began with them, and
  -- its log has begun with them ever since
  abbrev pub IsDurable : List (Entry T D) → List (Event T ID D) → Type 0
  IsDurable p [] = IsPrefix p []
  IsDurable p (Append t c log ∷ es) = IsPrefix p log × IsDurable p es
  IsDurable p (Ack t c n ∷ es) = (IsPrefix p (log_after es) × (length p ≤ n)) ⊎ IsDurable p es
  IsDurable p (Restart log ∷ es) = IsPrefix p log × IsDurable p es
  IsDurable p (x ∷ es) = IsDurable p es
