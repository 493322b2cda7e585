-- When a progress is in order.
use Rattle.std.specs.Prelude.{◌≡◌, ℕ, Bool, true, Some, List, take}
use Rattle.std.specs.declared.cmp.Ordering.{Ordering}
use Rattle.std.specs.List.{IsDistinct}
use Rattle.std.specs.Set.{is_member}
use Rattle.std.specs.Map.{keys_of, lookup}
use Rattle.raft_progress.specs.progress.CountedValue.{AtMost, IsCounted}
use Rattle.raft_progress.specs.progress.Entries.{state_of, IsFalling}
use Rattle.raft_progress.specs.progress.ProgressView.{ProgressView}

module _ {ID V P QS : Type 0} (eq : ID → ID → Bool) (cmp : P → P → Ordering) (part : V → P)
    (has_quorum : QS → (ID → Bool) → Bool) where
  -- the entries are in order for a granted value: their ids are distinct, the voters whose part
  -- exceeds granted come first and their parts never rise, no voter's part is below the default's
  -- part, and granted is the counted value
  pub record AreEntriesInOrder (quorum_set : QS) (entries : List (ID × V)) (voter_count : ℕ)
      (default_part granted : P) : Type 0 where
    pub distinct : IsDistinct eq (keys_of entries)
    pub falling : IsFalling cmp part granted (take voter_count entries)
    pub not_below : (x : ID) (v : V) → is_member eq (take voter_count (keys_of entries)) x ≡ true
        → lookup (eq x) entries ≡ Some v → AtMost cmp default_part (part v)
    pub counted : IsCounted cmp part has_quorum
        (state_of eq quorum_set entries voter_count default_part) granted

  -- a progress is in order if its entries are in order for its granted value
  abbrev pub IsInOrder : ProgressView ID V P QS → Type 0
  IsInOrder p = AreEntriesInOrder p.quorum_set p.entries p.voter_count p.default_part p.granted
