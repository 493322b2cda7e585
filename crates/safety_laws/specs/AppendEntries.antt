-- What a follower does with a leader's append request and snapshot, comparing terms alone.
use Rattle.std.specs.Prelude.{◌≡◌, ◌+◌, ◌≤◌, ℕ, suc, Bool, ◌&&◌, nat_lt, nat_eq, if◌then◌else◌, List, [], ◌∷◌, ◌++◌, length, take}
use Rattle.safety_laws.specs.Log.{Entry, last_term}
use Rattle.safety_laws.specs.Events.{Event, Append, History, term_after, log_after}
use Rattle.safety_laws.specs.Facts.{Counting, IsElectedBy, IsAppendEntriesBy, appended}
use Rattle.safety_laws.specs.Rules.{EventsFollowRulesBy, FollowsRaft, MayAppendBy, MayAckBy}
use Rattle.safety_laws.specs.Safety.{IsSafe}

module _ {T D : Type 0} (rank : T → ℕ) where
  -- a log has more than i entries, and the one after the first i is of a term of this rank
  abbrev pub has_next : ℕ → List (Entry T D) → ℕ → Bool
  has_next i log r = nat_lt i (length log) && nat_eq (last_term rank (take (suc i) log)) r

  -- a log after an append request whose entries follow the first i: entries whose terms the log has
  -- already are passed over, and from the first conflict on the log is truncated and the rest
  -- appended
  abbrev pub after_append_entries : ℕ → List (Entry T D) → List (Entry T D) → List (Entry T D)
  after_append_entries i log [] = log
  after_append_entries i log (e ∷ es) =
      if has_next i log (rank e.term) then after_append_entries (suc i) log es
      else take i log ++ (e ∷ es)

  -- a log after a snapshot of a leader's first entries, `snapshot`, one more than i: a log that has
  -- the term of the last one at its index stays, and else the snapshot takes its place
  abbrev pub after_snapshot : ℕ → List (Entry T D) → List (Entry T D) → List (Entry T D)
  after_snapshot i log snapshot =
      if has_next i log (last_term rank snapshot) then log else snapshot

module _ {T ID D : Type 0} (rank : T → ℕ) (counting : Counting T ID D) (h : History T ID D) where
  -- a server may make this its log for the leader of a term, and then acknowledge n entries
  pub record MayAppendAndAckBy (es : List (Event T ID D)) (t : T) (c : ID) (n : ℕ)
      (log : List (Entry T D)) : Type 0 where
    pub append : MayAppendBy rank counting h es t c log
    pub ack : MayAckBy rank counting h (Append t c log ∷ es) t c n

  -- if the log has the term of the entry before the request's entries, the server may append them,
  -- and then acknowledge all up to the last one
  abbrev pub MayTakeAppendEntriesBy : Type 0
  MayTakeAppendEntriesBy =
      (s : ID) (es : List (Event T ID D)) (t : T) (c : ID) (i : ℕ) (sent : List (Entry T D))
      → EventsFollowRulesBy rank counting h s es → term_after rank es ≤ rank t
      → IsAppendEntriesBy rank counting h t c i sent → i ≤ length (log_after es)
      → last_term rank (take i (log_after es)) ≡ last_term rank (take i (h.leader_log t c))
      → MayAppendAndAckBy es t c (i + length sent) (after_append_entries rank i (log_after es) sent)

  -- if the log has another term or nothing there, the server may truncate the log at that entry
  abbrev pub MayTruncateAtConflictBy : Type 0
  MayTruncateAtConflictBy =
      (s : ID) (es : List (Event T ID D)) (t : T) (c : ID) (i : ℕ)
      → EventsFollowRulesBy rank counting h s es → term_after rank es ≤ rank t
      → IsElectedBy rank counting h t c → suc i ≤ length (h.leader_log t c)
      → (suc i ≤ length (log_after es)
      → last_term rank (take (suc i) (log_after es))
      ≡ last_term rank (take (suc i) (h.leader_log t c)) → ⊥)
      → MayAppendBy rank counting h es t c (take i (log_after es))

  -- a server may install a snapshot of the leader's first entries, and then acknowledge them
  abbrev pub MayInstallSnapshotBy : Type 0
  MayInstallSnapshotBy =
      (s : ID) (es : List (Event T ID D)) (t : T) (c : ID) (i : ℕ)
      → EventsFollowRulesBy rank counting h s es → term_after rank es ≤ rank t
      → IsElectedBy rank counting h t c → suc i ≤ length (h.leader_log t c)
      → MayAppendAndAckBy es t c (suc i)
      (after_snapshot rank i (log_after es) (take (suc i) (h.leader_log t c)))

  -- a server that compares terms alone may append, truncate at a conflict, and install snapshots
  pub record ConsistencyCheckSufficesBy : Type 0 where
    pub append_entries : MayTakeAppendEntriesBy
    pub truncate : MayTruncateAtConflictBy
    pub install_snapshot : MayInstallSnapshotBy

-- ---- each config counts from its append on

module _ {T ID D : Type 0} (rank : T → ℕ) (quorum : List (Entry T D) → (ID → Bool) → Bool)
    (h : History T ID D) where
  abbrev pub MayAppendAndAck : List (Event T ID D) → T → ID → ℕ → List (Entry T D) → Type 0
  MayAppendAndAck es t c n log = MayAppendAndAckBy rank (appended quorum) h es t c n log

  abbrev pub ConsistencyCheckSuffices : Type 0
  ConsistencyCheckSuffices = ConsistencyCheckSufficesBy rank (appended quorum) h

-- in a safe history in which each server keeps the rules, a server that does so keeps them too
abbrev pub ConsistencyChecksSuffice : Type 0 → Type 0 → Type 0 → Type 0
ConsistencyChecksSuffice T ID D =
    (rank : T → ℕ) (quorum : List (Entry T D) → (ID → Bool) → Bool) (h : History T ID D)
    → FollowsRaft rank quorum h → IsSafe rank quorum h → ConsistencyCheckSuffices rank quorum h
