-- When two progresses are equal, and when one is a clone of the other.
use Rattle.std.specs.Prelude.{◌≡◌, ◌==◌, Bool, ◌&&◌}
use Rattle.std.specs.List.{AllZip}
use Rattle.std.specs.Cmp.Lexicographic.{pointwise}
use Rattle.raft_progress.specs.progress.ProgressView.{ProgressView}

-- equal quorum sets, granted values, numbers of voters, entries, default parts and counts
abbrev pub equal : {ID V P QS : Type 0} → (ID → ID → Bool) → (V → V → Bool) → (P → P → Bool)
    → (QS → QS → Bool) → ProgressView ID V P QS → ProgressView ID V P QS → Bool
equal id_eq value_eq part_eq set_eq a b =
    set_eq a.quorum_set b.quorum_set
    && part_eq a.granted b.granted
    && a.voter_count == b.voter_count
    && pointwise (λ d e. id_eq d.0 e.0 && value_eq d.1 e.1) a.entries b.entries
    && part_eq a.default_part b.default_part
    && (a.stat.update_count == b.stat.update_count && a.stat.move_count == b.stat.move_count
    && a.stat.is_quorum_count == b.stat.is_quorum_count)

-- a clone of each value, a quorum set that IsSetClone allows, and otherwise no change
pub record IsCloned {ID V P QS : Type 0} (IsClone : V → V → Type 0) (IsSetClone : QS → QS → Type 0)
    (old new : ProgressView ID V P QS) : Type 0 where
  pub quorum_set : IsSetClone old.quorum_set new.quorum_set
  pub entries : AllZip (λ d e. (e.0 ≡ d.0) × IsClone d.1 e.1) old.entries new.entries
  pub voter_count : new.voter_count ≡ old.voter_count
  pub default_part : new.default_part ≡ old.default_part
  pub granted : new.granted ≡ old.granted
  pub stat : new.stat ≡ old.stat
