-- Which parts are at most granted: those up to the default's part, and those that a quorum has
-- reached. Each quorum that meets the others knows granted, and no other value is counted.
use Rattle.std.specs.Prelude.{◌≡◌, ◌↔◌, ◌⊎◌, Bool, true}
use Rattle.std.specs.declared.cmp.Ordering.{Ordering}
use Rattle.std.specs.declared.cmp.Ordering.TheVariants.{Equal}
use Rattle.raft_progress.specs.progress.CountedValue.{AtMost, IsCounted, has_part, reached}
use Rattle.raft_progress.specs.progress.InOrder.{IsInOrder}
use Rattle.raft_progress.specs.progress.ProgressState.{ProgressState}
use Rattle.raft_progress.specs.progress.ProgressView.{ProgressView, state}

module _ {ID V P QS : Type 0} (cmp : P → P → Ordering) (part : V → P)
    (has_quorum : QS → (ID → Bool) → Bool) where
  -- a quorum of the voters, with at least one voter, has reached a part
  pub record QuorumReached (s : ProgressState ID V P QS) (p : P) : Type 0 where
    pub voter : ID
    pub has_reached : reached cmp part s p voter ≡ true
    pub quorum : has_quorum s.quorum_set (reached cmp part s p) ≡ true

  -- any two quorums share a voter
  abbrev pub QuorumsShareVoter : ProgressState ID V P QS → Type 0
  QuorumsShareVoter s =
      (these those : ID → Bool) → has_quorum s.quorum_set these ≡ true
      → has_quorum s.quorum_set those ≡ true
      → (id : ID) × (s.is_voter id ≡ true) × (these id ≡ true) × (those id ≡ true)

  -- each quorum has a voter whose part is at least p
  abbrev pub QuorumsHavePart : ProgressState ID V P QS → P → Type 0
  QuorumsHavePart s p =
      (set : ID → Bool) → has_quorum s.quorum_set set ≡ true
      → (id : ID) × (set id ≡ true) × (s.is_voter id ≡ true)
      × (has_part cmp part p (s.value id) ≡ true)

module _ (ID V P QS : Type 0) (eq : ID → ID → Bool) (cmp : P → P → Ordering) (part : V → P)
    (has_quorum : QS → (ID → Bool) → Bool) where
  -- in a progress that is in order, any part, a voter's or not, is at most granted exactly if it is at
  -- most the default's part or a quorum with a voter has reached it
  abbrev pub GrantedIsThreshold : Type 0
  GrantedIsThreshold =
      (p : ProgressView ID V P QS) → IsInOrder eq cmp part has_quorum p → (q : P)
      → AtMost cmp q p.granted
      ↔ (AtMost cmp q p.default_part ⊎ QuorumReached cmp part has_quorum (state eq p) q)

  -- if any two quorums share a voter, each quorum has a voter whose part is at least granted
  abbrev pub MeetingQuorumsKnowGranted : Type 0
  MeetingQuorumsKnowGranted =
      (p : ProgressView ID V P QS) → IsInOrder eq cmp part has_quorum p
      → QuorumsShareVoter cmp part has_quorum (state eq p)
      → QuorumsHavePart cmp part has_quorum (state eq p) p.granted

module _ (ID V P QS : Type 0) (cmp : P → P → Ordering) (part : V → P)
    (has_quorum : QS → (ID → Bool) → Bool) where
  -- beside one counted value of a state, exactly the parts that tie with it are counted
  abbrev pub CountedValuesTie : Type 0
  CountedValuesTie =
      (s : ProgressState ID V P QS) (g h : P) → IsCounted cmp part has_quorum s g
      → IsCounted cmp part has_quorum s h ↔ (cmp g h ≡ Equal)
