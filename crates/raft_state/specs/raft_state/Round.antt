-- A round of catching up: followers, one after the other.
use Rattle.std.specs.Prelude.{◌≡◌, ℕ, ◌≤◌, Bool, true, false, ◌&&◌, if◌then◌else◌, IsTrue}
use Rattle.std.specs.Prelude.{List, [], ◌∷◌, length, Option, Some}
use Rattle.std.specs.Map.{keys_of}
use Rattle.std.specs.Option.{ForSome, option_cmp}
use Rattle.std.specs.Set.{is_member}
use Rattle.std.specs.declared.cmp.Ordering.{Ordering}
use Rattle.raft_base.specs.LogId.{id_le, log_id_cmp}
use Rattle.raft_base.specs.LogView.{LogView}
use Rattle.raft_base.specs.declared.log_id.LogIdOf.{LogIdOf}
use Rattle.raft_progress.specs.catch_up.CatchUp.{MatchesAll}
use Rattle.raft_progress.specs.catch_up.HonestRun.{HonestRunEnds}
use Rattle.raft_progress.specs.progress.InOrder.{IsInOrder}
use Rattle.raft_progress.specs.progress.ProgressView.{ProgressView, state}
use Rattle.raft_progress.specs.progress.Statistics.{count_after}
use Rattle.raft_progress.specs.progress.Updated.{IsUpdated}
use Rattle.raft_progress.specs.declared.entry.ProgressEntryOf.{ProgressEntryOf}

-- the followers of a leader: a progress of entries, compared by their matching log ids
abbrev pub Followers : Type 0 → Type 0 → Type 0 → Type 0
Followers ID C QS = ProgressView ID (ProgressEntryOf C) (Option (LogIdOf C)) QS

module _ {ID C QS : Type 0} (eq : ID → ID → Bool) (cmp : C → C → Ordering)
    (has_quorum : QS → (ID → Bool) → Bool) where
  -- the followers are in order by their matching log ids
  abbrev pub IsInOrderByMatch : Followers ID C QS → Type 0
  IsInOrderByMatch p = IsInOrder eq (option_cmp (log_id_cmp cmp)) (λ e. e.matching) has_quorum p

module _ {ID C QS : Type 0} (eq : ID → ID → Bool) (cmp : C → C → Ordering)
    (has_quorum : QS → (ID → Bool) → Bool) (log : LogView C) (max_entries : ℕ)
    (can : ProgressEntryOf C → ℕ → ℕ → Bool) where
  -- a follower is skipped: it is unknown or cannot be caught up, and nothing changes that contracts
  -- see of the progress
  pub record IsPassedOver (old : Followers ID C QS) (id : ID) (agree : ℕ)
      (new : Followers ID C QS) : Type 0 where
    pub cannot : ForSome ((state eq old).value id) (λ entry. can entry agree max_entries ≡ false)
    pub same : new ≡ old

  -- a follower runs: it can be caught up, one update writes the end of its honest run, and the
  -- progress is in order again
  pub record HasRun (old : Followers ID C QS) (id : ID) (agree : ℕ)
      (new : Followers ID C QS) : Type 0 where
    pub entry : ProgressEntryOf C
    pub end : ProgressEntryOf C
    pub conflicts : ℕ
    pub acks : ℕ
    pub known : (state eq old).value id ≡ Some entry
    pub can_run : can entry agree max_entries ≡ true
    pub run : HonestRunEnds cmp log max_entries entry agree end conflicts acks
    pub updated : IsUpdated eq (option_cmp (log_id_cmp cmp)) (λ e. e.matching) (λ v w. w ≡ end)
        old id new
    pub ordered : IsInOrderByMatch eq cmp has_quorum new

  -- a follower with the index below which it agrees, and whether it ran
  abbrev pub Visits : Followers ID C QS → ID → ℕ → Bool → Followers ID C QS → Type 0
  Visits old id agree true new = HasRun old id agree new
  Visits old id agree false new = IsPassedOver old id agree new

  -- followers one after the other, and the list of those that ran
  abbrev pub IsRound : Followers ID C QS → List (ID × ℕ) → List ID → Followers ID C QS → Type 0
  IsRound old [] ran new = (ran ≡ []) × (new ≡ old)
  IsRound old (pair ∷ pairs) ran new =
      (did : Bool) × (rest : List ID) × (middle : Followers ID C QS)
      × (ran ≡ (if did then pair.0 ∷ rest else rest))
      × Visits old pair.0 pair.1 did middle × IsRound middle pairs rest new

module _ {ID C QS : Type 0} (eq : ID → ID → Bool) where
  -- a follower has all logs
  abbrev pub IsCaughtUp : (C → C → Bool) → LogView C → Followers ID C QS → ID → Type 0
  IsCaughtUp same_leader log p id = (entry : ProgressEntryOf C)
      × ((state eq p).value id ≡ Some entry) × MatchesAll same_leader log entry

  -- at least one voter ran, and the voters that ran are a quorum
  abbrev pub QuorumRan : (QS → (ID → Bool) → Bool) → Followers ID C QS → List ID → Type 0
  QuorumRan has_quorum p ran =
      ((id : ID) × ((state eq p).is_voter id ≡ true) × (is_member eq ran id ≡ true))
      × (has_quorum p.quorum_set (λ id. (state eq p).is_voter id && is_member eq ran id) ≡ true)

  -- no voter matches past the last log id
  abbrev pub NonePastLast : (C → C → Ordering) → LogView C → Followers ID C QS → Type 0
  NonePastLast cmp log p = (id : ID) (entry : ProgressEntryOf C) → (state eq p).is_voter id ≡ true
      → (state eq p).value id ≡ Some entry → IsTrue (id_le cmp entry.matching log.last)

module _ {ID C QS : Type 0} (eq : ID → ID → Bool) (same_leader : C → C → Bool)
    (cmp : C → C → Ordering) (has_quorum : QS → (ID → Bool) → Bool) (log : LogView C)
    (max_entries : ℕ) (can : ProgressEntryOf C → ℕ → ℕ → Bool) where
  -- after a round in which `count` followers ran: each of those has all logs, every other value
  -- stays, and so do voters, quorum set and default part; each run is an update, and without one
  -- nothing has changed; granted never falls, and if a quorum ran, the last log id is granted, or
  -- more if a voter matched past it before
  pub record IsRoundEnd (old : Followers ID C QS) (pairs : List (ID × ℕ)) (count : ℕ)
      (new : Followers ID C QS) (ran : List ID) : Type 0 where
    pub counted : count ≡ length ran
    pub few : count ≤ length pairs
    pub among : (id : ID) → is_member eq ran id ≡ true → is_member eq (keys_of pairs) id ≡ true
    pub round : IsRound eq cmp has_quorum log max_entries can old pairs ran new
    pub caught_up : (id : ID) → is_member eq ran id ≡ true → IsCaughtUp eq same_leader log new id
    pub others : (id : ID) → is_member eq ran id ≡ false
        → (state eq new).value id ≡ (state eq old).value id
    pub voters : (id : ID) → (state eq new).is_voter id ≡ (state eq old).is_voter id
    pub quorum_set : new.quorum_set ≡ old.quorum_set
    pub default_part : new.default_part ≡ old.default_part
    pub updates : 1 ≤ count
        → new.stat.update_count ≡ count_after old.stat.update_count count
    pub none_ran : count ≡ 0 → new ≡ old
    pub monotone : IsTrue (id_le cmp old.granted new.granted)
    pub last_at_most : QuorumRan eq has_quorum old ran → IsTrue (id_le cmp log.last new.granted)
    pub last_at_least : QuorumRan eq has_quorum old ran → NonePastLast eq cmp log old
        → IsTrue (id_le cmp new.granted log.last)
