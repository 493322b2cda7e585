-- What Raft promises of every history in which each server keeps the rules.
use Rattle.std.specs.Prelude.{◌≡◌, ◌⊎◌, ◌<◌, ℕ, Bool, true, List, length, take}
use Rattle.safety_laws.specs.Log.{Entry, IsPrefix, last_term}
use Rattle.safety_laws.specs.Events.{History, HasHad}
use Rattle.safety_laws.specs.Facts.{Counting, IsElectedBy, IsCommittedBy, appended}
use Rattle.safety_laws.specs.Rules.{FollowsRaft}

-- any two quorums, each of the config of any log, share a server
abbrev pub AllQuorumsIntersect : {T ID D : Type 0} → (List (Entry T D) → (ID → Bool) → Bool) → Type 0
AllQuorumsIntersect {T} {ID} {D} quorum =
    (a b : List (Entry T D)) (s t : ID → Bool) → quorum a s ≡ true → quorum b t ≡ true
    → (id : ID) × (s id ≡ true) × (t id ≡ true)

module _ {T ID D : Type 0} (rank : T → ℕ) (counting : Counting T ID D) (h : History T ID D) where
  -- election safety: at most one leader is elected in a term
  abbrev pub ElectionSafetyBy : Type 0
  ElectionSafetyBy =
      (t : T) (c d : ID) → IsElectedBy rank counting h t c → IsElectedBy rank counting h t d → c ≡ d

  -- a server has had a log that begins with these entries, now or at an earlier time, or the log of
  -- an elected leader begins with them
  abbrev pub WasLogBy : List (Entry T D) → Type 0
  WasLogBy p =
      ((s : ID) × HasHad p (h.events s))
      ⊎ ((t : T) × (c : ID) × IsElectedBy rank counting h t c × IsPrefix p (h.leader_log t c))

  -- log matching: if two logs have an entry of the same term at the same index, they are equal up to
  -- it, also logs of the past and those of leaders
  abbrev pub LogMatchingBy : Type 0
  LogMatchingBy =
      (a b : List (Entry T D)) → WasLogBy a → WasLogBy b → 0 < length a → length a ≡ length b
      → last_term rank a ≡ last_term rank b → a ≡ b

  -- leader completeness: each committed entry is in the log of every leader of a later term, from its
  -- election on
  abbrev pub LeaderCompletenessBy : Type 0
  LeaderCompletenessBy =
      (t u : T) (c d : ID) (n a : ℕ) → IsCommittedBy rank counting h t c n a → rank t < rank u
      → IsElectedBy rank counting h u d → IsPrefix (take n (h.leader_log t c)) (h.candidate_log u d)

  -- of two committed logs, one is a prefix of the other
  abbrev pub CommitsAgreeBy : Type 0
  CommitsAgreeBy =
      (t u : T) (c d : ID) (n m a b : ℕ) → IsCommittedBy rank counting h t c n a
      → IsCommittedBy rank counting h u d m b
      → IsPrefix (take n (h.leader_log t c)) (take m (h.leader_log u d))
      ⊎ IsPrefix (take m (h.leader_log u d)) (take n (h.leader_log t c))

  -- a history has election safety, log matching and leader completeness, and its commits agree
  pub record IsSafeBy : Type 0 where
    pub election_safety : ElectionSafetyBy
    pub log_matching : LogMatchingBy
    pub leader_completeness : LeaderCompletenessBy
    pub commits_agree : CommitsAgreeBy

-- ---- each config counts from its append on

module _ {T ID D : Type 0} (rank : T → ℕ) (quorum : List (Entry T D) → (ID → Bool) → Bool)
    (h : History T ID D) where
  abbrev pub ElectionSafety : Type 0
  ElectionSafety = ElectionSafetyBy rank (appended quorum) h

  abbrev pub LogMatching : Type 0
  LogMatching = LogMatchingBy rank (appended quorum) h

  abbrev pub LeaderCompleteness : Type 0
  LeaderCompleteness = LeaderCompletenessBy rank (appended quorum) h

  abbrev pub IsSafe : Type 0
  IsSafe = IsSafeBy rank (appended quorum) h

-- if any two quorums intersect, every history in which each server keeps the rules is safe
abbrev pub FixedMembersAreSafe : Type 0 → Type 0 → Type 0 → Type 0
FixedMembersAreSafe T ID D =
    (rank : T → ℕ) (quorum : List (Entry T D) → (ID → Bool) → Bool) → AllQuorumsIntersect quorum
    → (h : History T ID D) → FollowsRaft rank quorum h → IsSafe rank quorum h
