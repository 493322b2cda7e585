-- What the private steps of an update do.
use Rattle.std.specs.Prelude.{◌≡◌, ℕ, ◌-◌, ◌<◌, Bool, true, false, Option, Some, None, take, ◌&&◌, nat_lt}
use Rattle.std.specs.declared.cmp.Ordering.{Ordering}
use Rattle.std.specs.Ordering.{is_le, is_lt}
use Rattle.std.specs.List.{prefix_len}
use Rattle.std.specs.Map.{keys_of}
use Rattle.std.specs.Set.{is_member}
use Rattle.std.proofs.Common.{get_or}
use Rattle.raft_progress.specs.Inner.Recount.{exceeds}
use Rattle.raft_progress.specs.Inner.Rises.{IsShortestPrefix, RisesTo}
use Rattle.raft_progress.specs.progress.Entries.{IsFalling}
use Rattle.raft_progress.specs.progress.ProgressView.{ProgressView}
use Rattle.raft_progress.specs.progress.Statistics.{count_after}

-- what each step of an update keeps
pub record KeptByStep {ID V P QS : Type 0} (old new : ProgressView ID V P QS) : Type 0 where
  pub quorum_set : new.quorum_set ≡ old.quorum_set
  pub voter_count : new.voter_count ≡ old.voter_count
  pub default_part : new.default_part ≡ old.default_part
  pub updates : new.stat.update_count ≡ old.stat.update_count

module _ {ID V P QS : Type 0} (eq : ID → ID → Bool) (cmp : P → P → Ordering) (part : V → P)
    (has_quorum : QS → (ID → Bool) → Bool) where
  -- granted becomes the last part of the shortest prefix that was found
  pub record FindsGranted (old : ProgressView ID V P QS) (position : ℕ) (new : ProgressView ID V P QS) : Type 0 where
    pub kept : KeptByStep old new
    pub same_progress_entries : new.entries ≡ old.entries
    pub moves : new.stat.move_count ≡ old.stat.move_count
    pub found : Option ℕ
    pub tests : ℕ
    pub shortest : IsShortestPrefix eq (has_quorum old.quorum_set) (take old.voter_count old.entries) position
        (prefix_len (exceeds cmp part old.granted) (take old.voter_count old.entries)) found tests
    pub counts : new.stat.is_quorum_count ≡ count_after old.stat.is_quorum_count tests
    pub stays : found ≡ None → new.granted ≡ old.granted
    pub rises : (k : ℕ) → found ≡ Some k
        → (f : ID × V) × (f ≡ get_or (take old.voter_count old.entries) (k - 1) f)
        × (new.granted ≡ part f.1)

module _ {ID V P QS : Type 0} (cmp : P → P → Ordering) (part : V → P) where
  -- the voter has moved up to a position, and granted is not recomputed yet
  pub record MovesUp (old : ProgressView ID V P QS) (position to : ℕ) (new : ProgressView ID V P QS) : Type 0 where
    pub kept : KeptByStep old new
    pub granted : new.granted ≡ old.granted
    pub tests : new.stat.is_quorum_count ≡ old.stat.is_quorum_count
    pub moves : new.stat.move_count ≡ count_after old.stat.move_count 1
    pub rises : RisesTo cmp part old.entries position new.entries to

-- each voter of the progress is a voter of its quorum set
abbrev pub HasVotersOfSet : {ID V P QS : Type 0} → (ID → ID → Bool) → (QS → ID → Bool) → ProgressView ID V P QS → Type 0
HasVotersOfSet {ID} eq is_voter p =
    (x : ID) → is_member eq (take p.voter_count (keys_of p.entries)) x ≡ true → is_voter p.quorum_set x ≡ true

module _ {ID V P QS : Type 0} (eq : ID → ID → Bool) (cmp : P → P → Ordering) (part : V → P)
    (is_voter : QS → ID → Bool) where
  -- the number of voters that have reached a part can be compared with a size that decides: they
  -- are voters of the quorum set, and those past granted come first
  pub record CanCount (p : ProgressView ID V P QS) : Type 0 where
    pub voters : HasVotersOfSet eq is_voter p
    pub falling : IsFalling cmp part p.granted (take p.voter_count p.entries)

  -- they can be counted once the voter at a position, whose part is now `after`, has moved up
  abbrev pub CanCountOnceRisen : ProgressView ID V P QS → ℕ → P → Type 0
  CanCountOnceRisen old position after =
      position < old.voter_count → is_lt (cmp old.granted after) ≡ true
      → (to : ℕ) (new : ProgressView ID V P QS) → MovesUp cmp part old position to new → CanCount new

module _ {ID V P QS : Type 0} (eq : ID → ID → Bool) (cmp : P → P → Ordering) (part : V → P)
    (has_quorum : QS → (ID → Bool) → Bool) where
  -- the voter has moved up to a position, and the prefixes past it were tested if granted may rise
  pub record IsRaised (old : ProgressView ID V P QS) (position : ℕ) (may_grant : Bool) (new : ProgressView ID V P QS)
      : Type 0 where
    pub middle : ProgressView ID V P QS
    pub to : ℕ
    pub risen : MovesUp cmp part old position to middle
    pub looked : may_grant ≡ true → FindsGranted eq cmp part has_quorum middle to new
    pub kept : may_grant ≡ false → new ≡ middle

module _ {ID V P QS : Type 0} (eq : ID → ID → Bool) (cmp : P → P → Ordering) (part : V → P)
    (has_quorum : QS → (ID → Bool) → Bool) where
  -- the part of the value at the position was `before`, and the order is restored
  pub record IsPutInOrder (old : ProgressView ID V P QS) (position : ℕ) (before : P) (new : ProgressView ID V P QS)
      : Type 0 where
    pub entry : ID × V
    pub at : entry ≡ get_or old.entries position entry
    pub raised : (nat_lt position old.voter_count
        && (is_lt (cmp before (part entry.1)) && is_lt (cmp old.granted (part entry.1)))) ≡ true
        → IsRaised eq cmp part has_quorum old position (is_le (cmp before old.granted)) new
    pub kept : (nat_lt position old.voter_count
        && (is_lt (cmp before (part entry.1)) && is_lt (cmp old.granted (part entry.1)))) ≡ false
        → new ≡ old
