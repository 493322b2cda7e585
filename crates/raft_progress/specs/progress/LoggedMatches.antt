-- Matching log ids that are in a log, and what is granted of them.
use Rattle.std.specs.Prelude.{◌≡◌, ◌+◌, Bool, true, nat_lt, Option, Some, None, if◌then◌else◌}
use Rattle.std.specs.Option.{option_cmp}
use Rattle.std.specs.declared.cmp.Ordering.{Ordering}
use Rattle.raft_base.specs.LogId.{log_id_cmp, next_index, same_ids}
use Rattle.raft_base.specs.LogView.{LogView}
use Rattle.raft_base.specs.declared.log_id.LogIdOf.{LogIdOf}
use Rattle.raft_progress.specs.progress.InOrder.{IsInOrder}
use Rattle.raft_progress.specs.progress.ProgressView.{ProgressView, state}

-- the log has the log id at its index, or that index is purged, so that the log no longer has it;
-- an absent log id counts as logged
abbrev pub is_logged_or_purged : {C : Type 0} → (C → C → Bool) → LogView C → Option (LogIdOf C)
    → Bool
is_logged_or_purged eq log None = true
is_logged_or_purged eq log (Some id) =
    if nat_lt (id.index + 1) (next_index log.last_purged) then true
    else same_ids eq (log.id_at id.index) (Some id)

module _ {ID V C QS : Type 0} (eq : ID → ID → Bool) (same : C → C → Bool)
    (part : V → Option (LogIdOf C)) (log : LogView C) where
  -- the default's matching log id is logged or purged, and so is the one of each voter
  pub record MatchesAreLogged (p : ProgressView ID V (Option (LogIdOf C)) QS) : Type 0 where
    pub default : is_logged_or_purged same log p.default_part ≡ true
    pub voters : (id : ID) (v : V) → (state eq p).is_voter id ≡ true
        → (state eq p).value id ≡ Some v → is_logged_or_purged same log (part v) ≡ true

module _ (ID V C QS : Type 0) (eq : ID → ID → Bool) (same : C → C → Bool) (cmp : C → C → Ordering)
    (part : V → Option (LogIdOf C)) (has_quorum : QS → (ID → Bool) → Bool) where
  -- if they are, what is granted is logged or purged too
  abbrev pub GrantedIsLogged : Type 0
  GrantedIsLogged =
      (p : ProgressView ID V (Option (LogIdOf C)) QS)
      → IsInOrder eq (option_cmp (log_id_cmp cmp)) part has_quorum p → (log : LogView C)
      → MatchesAreLogged eq same part log p → is_logged_or_purged same log p.granted ≡ true
