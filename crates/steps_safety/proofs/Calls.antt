-- What the contracts of the handlers say, over what is seen of a state, and that it keeps the rules.
use Rattle.std.specs.Prelude.{◌≡◌, ◌⊎◌, ◌<◌, ◌≤◌, ◌-◌, ℕ, suc, Bool, true, false, not, ◌&&◌, ◌||◌, List, [], ◌∷◌, length, take, drop, Option, Some, None, nat_eq, nat_le}
use Rattle.std.specs.List.{list_all, prefix_len}
use Rattle.std.specs.Option.{option_or}
use Rattle.std.specs.Ordering.{partial_ge}
use Rattle.raft_base.specs.declared.log_id.LogIdOf.{LogIdOf}
use Rattle.raft_base.specs.declared.vote.VoteIn.{VoteIn}
use Rattle.raft_base.specs.LogId.{id_le, id_lt, index_of, next_index, same_ids}
use Rattle.raft_base.specs.Vote.{vote_cmp}
use Rattle.steps_handlers.specs.Append.{greater_id, lesser_id}
use Rattle.steps_handlers.specs.Follow.{committed_vote_of}
use Rattle.safety_laws.specs.Events.{Event, log_after}
use Rattle.safety_laws.specs.Facts.{IsCommitted}
use Rattle.safety_laws.specs.Rules.{EventsFollowRules, FollowsRaft}
use Rattle.safety_laws.specs.Safety.{IsSafe}
use Rattle.raft_state.specs.log_id_list.FullLog.{end_index}
use Rattle.raft_state.specs.log_id_list.LogEdits.{front}
use Rattle.raft_state.specs.log_id_list.LogReads.{id_at, last_id}
use Rattle.steps_safety.specs.Appending.{AllInLog, Follows, IsSent, IsSnapshotSent, Truncates}
use Rattle.safety_laws.specs.Log.{Entry}
use Rattle.steps_safety.specs.Electing.{KnowsMatches}
use Rattle.steps_safety.specs.Server.{AreRanked, IsInLog, IsServer, KnowsCommitted, Leaders, Place, State}
use Rattle.steps_safety.proofs.Whole.{IsWhole}
use Rattle.steps_safety.specs.Voting.{IsAsked, VotesByRule}

-- what the contract of `handle_append_entries` speaks of, over log ids: a log id is absent, its index is
-- purged, or it is the log id that the log has at its index
abbrev pub purged_or_logged : {L C : Type 0} → (C → C → Bool) → State L C → Option (LogIdOf C) → Bool
purged_or_logged eq s None = true
purged_or_logged eq s (Some id) =
    nat_le (next_index (Some id)) s.purged_next || same_ids eq (id_at s.ids id.index) (Some id)

-- the first of these log ids that a log does not have, and those after it
abbrev pub fresh_of : {L C : Type 0} → (C → C → Bool) → State L C → List (LogIdOf C) → List (LogIdOf C)
fresh_of eq s ids = drop (prefix_len (λ id. purged_or_logged eq s (Some id)) ids) ids

-- the index from which on fresh log ids take the place of a log: past its end if there are none
abbrev pub since_of : {C : Type 0} → List (LogIdOf C) → List (LogIdOf C) → ℕ
since_of log [] = end_index log
since_of log (x ∷ xs) = x.index

-- log ids have consecutive indexes, from the index after a log id on, or from 0 if it is absent
abbrev pub are_consecutive : {C : Type 0} → Option (LogIdOf C) → List (LogIdOf C) → Bool
are_consecutive last [] = true
are_consecutive last (id ∷ ids) = nat_eq id.index (next_index last) && are_consecutive (Some id) ids

module _ {L C K D : Type 0} (k : Leaders L C K) (p : Place L C K D) where
  -- what the contract of `handle_vote_request` says
  pub record HandlesVoteRequest (vote : VoteIn L) (last : Option (LogIdOf C)) (old new : State L C)
      (granted : Bool) : Type 0 where
    pub is_granted : granted
        ≡ (id_le k.cmp (last_id old.ids) last && not vote.committed
        && partial_ge (vote_cmp k.order) vote old.vote)
    pub taken : granted ≡ true → new ≡ record old { vote = vote }
    pub refused : granted ≡ false → new ≡ old

  -- what the contract of `handle_append_entries` says if the answer is `Matches upto`
  pub record AppendMatches (leader : L) (prev : Option (LogIdOf C)) (ids : List (LogIdOf C))
      (committed upto : Option (LogIdOf C)) (old new : State L C) : Type 0 where
    pub followed : partial_ge (vote_cmp k.order) (committed_vote_of leader) old.vote ≡ true
    pub vote : new.vote ≡ committed_vote_of leader
    pub is_upto : upto ≡ option_or (last_id ids) prev
    pub has_prev : purged_or_logged k.eq new prev ≡ true
    pub has_entries : list_all (λ id. purged_or_logged k.eq new (Some id)) ids ≡ true
    pub consecutive : are_consecutive prev ids ≡ true
    pub kept : (i : ℕ) → i < since_of old.ids (fresh_of k.eq old ids)
        → same_ids k.eq (id_at new.ids i) (id_at old.ids i) ≡ true
    pub nothing_new : fresh_of k.eq old ids ≡ [] → new.ids ≡ old.ids
    pub ends : last_id new.ids ≡ option_or (last_id (fresh_of k.eq old ids)) (last_id old.ids)
    pub committed_is : new.committed ≡ greater_id k.cmp old.committed (lesser_id k.cmp committed upto)
    pub purged : new.purged_next ≡ old.purged_next

  -- and if the answer is `Conflict at`
  pub record AppendConflicts (leader : L) (prev : Option (LogIdOf C)) (at : ℕ) (old new : State L C)
      : Type 0 where
    pub followed : partial_ge (vote_cmp k.order) (committed_vote_of leader) old.vote ≡ true
    pub vote : new.vote ≡ committed_vote_of leader
    pub index : index_of prev ≡ Some at
    pub conflict : purged_or_logged k.eq old prev ≡ false
    pub truncated : new.ids ≡ front old.ids at
    pub committed_is : new.committed ≡ old.committed
    pub purged : new.purged_next ≡ old.purged_next

  -- what the contract of `handle_install_snapshot` says if the leader is followed, for a snapshot up to a
  -- log id: it is committed already, and only the vote changes; or the snapshot is installed, and the log
  -- is what it had from there on, if it had the log id, and else the log id alone
  pub record IsKnownSnapshot (upto : LogIdOf C) (old new : State L C) : Type 0 where
    pub not_past : id_lt k.cmp old.committed (Some upto) ≡ false
    pub has_committed : (x : LogIdOf C) → old.committed ≡ Some x → id_at old.ids x.index ≡ Some x
    pub same_ids_now : new.ids ≡ old.ids
    pub committed_is : new.committed ≡ old.committed
    pub purged : new.purged_next ≡ old.purged_next

  pub record IsInstalled (upto : LogIdOf C) (old new : State L C) : Type 0 where
    pub past : next_index old.committed ≤ upto.index
    pub purged_low : old.purged_next ≤ next_index old.committed
    pub committed_is : new.committed ≡ Some upto
    pub purged : new.purged_next ≡ suc upto.index
    pub kept : same_ids k.eq (id_at old.ids upto.index) (Some upto) ≡ true
        → ((i : ℕ) (y : LogIdOf C) → id_at new.ids i ≡ Some y → id_at old.ids i ≡ Some y)
        × (last_id new.ids ≡ last_id old.ids)
    pub dropped : same_ids k.eq (id_at old.ids upto.index) (Some upto) ≡ false → new.ids ≡ upto ∷ []

  pub record InstallMatches (leader : L) (upto : LogIdOf C) (old new : State L C) : Type 0 where
    pub followed : partial_ge (vote_cmp k.order) (committed_vote_of leader) old.vote ≡ true
    pub vote : new.vote ≡ committed_vote_of leader
    pub either : IsKnownSnapshot upto old new ⊎ IsInstalled upto old new

-- the place of a log id in a log, 0 if it is absent
abbrev pub place : {C : Type 0} → Option (LogIdOf C) → ℕ
place None = 0
place (Some id) = id.index

module _ {L C K D : Type 0} (k : Leaders L C K) (p : Place L C K D) (es : List (Event C K D)) (leader : L) (by_node : K)
    (log : List (Entry C D)) where
  -- the log has taken entries of a request: it is now a part of the leader's log, and up to the first new
  -- entry it was so before
  pub record TakesNew (ids : List (LogIdOf C)) (old : State L C) : Type 0 where
    pub before : Option (LogIdOf C)
    pub x : LogIdOf C
    pub xs : List (LogIdOf C)
    pub is : fresh_of k.eq old ids ≡ x ∷ xs
    pub row : are_consecutive before (x ∷ xs) ≡ true
    pub there : AllInLog k p (p.history.leader_log (k.committed leader) by_node) (x ∷ xs)
    pub fits : place before ≤ length (log_after es)
    pub same : take (place before) (log_after es) ≡ take (place before) (p.history.leader_log (k.committed leader) by_node)
    pub z : LogIdOf C
    pub last : last_id (x ∷ xs) ≡ Some z
    pub z_fits : z.index ≤ length (p.history.leader_log (k.committed leader) by_node)
    pub log_is : log ≡ take z.index (p.history.leader_log (k.committed leader) by_node)
    pub apart : (n : ℕ) → KnowsCommitted p.rank p.quorum p.history es n → n ≤ x.index - 1

  abbrev pub MatchShape : List (LogIdOf C) → State L C → Type 0
  MatchShape ids old = ((fresh_of k.eq old ids ≡ []) × (log ≡ log_after es)) ⊎ TakesNew ids old

  -- the log of a server that has a snapshot
  abbrev pub InstallShape : LogIdOf C → (old new : State L C) → Type 0
  InstallShape upto old new =
      (IsKnownSnapshot k p upto old new × (log ≡ log_after es))
      ⊎ (IsInstalled k p upto old new
      × (((same_ids k.eq (id_at old.ids upto.index) (Some upto) ≡ true) × (log ≡ log_after es)
      × (take upto.index (log_after es) ≡ take upto.index (p.history.leader_log (k.committed leader) by_node)))
      ⊎ ((same_ids k.eq (id_at old.ids upto.index) (Some upto) ≡ false)
      × (log ≡ take upto.index (p.history.leader_log (k.committed leader) by_node)))))

-- a server that handles a request for a vote keeps rule 1
abbrev pub VotesKeepRule : Type 0 → Type 0 → Type 0 → Type 0 → Type 0
VotesKeepRule L C K D =
    (k : Leaders L C K) (p : Place L C K D) → AreRanked k p.rank p.leaders p.terms p.first
    → (es : List (Event C K D)) (vote : VoteIn L) (last : Option (LogIdOf C)) (old new : State L C)
    (granted : Bool) → IsServer k p old es → IsAsked k p vote last
    → HandlesVoteRequest k p vote last old new granted
    → ((granted ≡ true → VotesByRule k p vote es new) × (granted ≡ false → IsServer k p new es))

-- a server that handles a leader's request to append entries keeps rules 4 and 5
abbrev pub AppendsKeepRules : Type 0 → Type 0 → Type 0 → Type 0 → Type 0
AppendsKeepRules L C K D =
    (k : Leaders L C K) (p : Place L C K D) → AreRanked k p.rank p.leaders p.terms p.first
    → FollowsRaft p.rank p.quorum p.history → IsSafe p.rank p.quorum p.history
    → (es : List (Event C K D)) → EventsFollowRules p.rank p.quorum p.history p.server es
    → (leader : L) (prev : Option (LogIdOf C)) (ids : List (LogIdOf C)) (committed : Option (LogIdOf C))
    (old new : State L C) → IsServer k p old es → IsWhole old.purged_next old.ids
    → IsWhole new.purged_next new.ids → IsSent k p leader prev ids committed
    → (((upto : Option (LogIdOf C)) → AppendMatches k p leader prev ids committed upto old new
    → (f : Follows k p leader upto es new) × MatchShape k p es leader f.by_node f.log ids old)
    × ((at : ℕ) → AppendConflicts k p leader prev at old new
    → (f : Truncates k p leader es new) × (f.log ≡ take (at - 1) (log_after es))))

-- a server that handles a leader's request to install a snapshot keeps rules 4 and 5
abbrev pub InstallsKeepRules : Type 0 → Type 0 → Type 0 → Type 0 → Type 0
InstallsKeepRules L C K D =
    (k : Leaders L C K) (p : Place L C K D) → AreRanked k p.rank p.leaders p.terms p.first
    → FollowsRaft p.rank p.quorum p.history → IsSafe p.rank p.quorum p.history
    → (es : List (Event C K D)) → EventsFollowRules p.rank p.quorum p.history p.server es
    → (leader : L) (upto : LogIdOf C) (old new : State L C) → IsServer k p old es
    → IsWhole old.purged_next old.ids → IsSnapshotSent k p leader upto
    → InstallMatches k p leader upto old new
    → (f : Follows k p leader (Some upto) es new) × InstallShape k p es leader f.by_node f.log upto old new

-- what a leader commits is committed: the granted log id is its own and in its log, and a quorum of the
-- config in effect in the first `counted_at` entries of its log has a match that is at least that
abbrev pub CommitsByRule : Type 0 → Type 0 → Type 0 → Type 0 → Type 0
CommitsByRule L C K D =
    (k : Leaders L C K) (p : Place L C K D) → AreRanked k p.rank p.leaders p.terms p.first
    → FollowsRaft p.rank p.quorum p.history → IsSafe p.rank p.quorum p.history
    → (leader : L) (node : K) (matching : K → Option (LogIdOf C)) → KnowsMatches k p leader node matching
    → (granted : LogIdOf C) (counted_at : ℕ) → granted.leader_id ≡ k.committed leader
    → IsInLog p.first p.terms (p.history.leader_log (k.committed leader) node) granted
    → granted.index ≤ counted_at
    → counted_at ≤ length (p.history.leader_log (k.committed leader) node)
    → p.quorum (take counted_at (p.history.leader_log (k.committed leader) node))
    (λ v. id_le k.cmp (Some granted) (matching v)) ≡ true
    → IsCommitted p.rank p.quorum p.history (k.committed leader) node granted.index counted_at
