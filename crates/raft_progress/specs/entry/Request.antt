-- What the next request to a follower makes of its entry, if there is one.
use Rattle.std.specs.Prelude.{◌≡◌, ℕ, Option, Some, None, Result, Ok, Err, if◌then◌else◌}
use Rattle.std.specs.declared.cmp.Ordering.{Ordering}
use Rattle.raft_base.specs.LogView.{LogView}
use Rattle.raft_progress.specs.entry.Send.{can_send, send_table}
use Rattle.raft_progress.specs.declared.entry.ProgressEntryOf.{ProgressEntryOf}
use Rattle.raft_progress.specs.declared.inflight.InflightOf.{InflightOf}
use Rattle.raft_progress.specs.declared.inflight.InflightOf.TheVariants.{None as Idle}

-- what a send leaves of what is known of a member, if it uses a request number
abbrev pub sent : {C : Type 0} → Result (ProgressEntryOf C) (ProgressEntryOf C)
    → Option (ProgressEntryOf C)
sent (Ok entry) = Some entry
sent (Err entry) = None

-- what is known of a member once a request number is used for it, if one is: a send is allowed,
-- nothing is in flight, and there are logs or a snapshot to send
abbrev pub after_request : {C : Type 0} → (C → C → Ordering) → ProgressEntryOf C → LogView C → ℕ
    → Option (ProgressEntryOf C)
after_request cmp entry log max_entries =
    if can_send entry log then sent (send_table cmp entry log max_entries) else None

-- what is known of a member after a request: its entry, and what was put in flight; without a request
-- the entry is as it was, and nothing was put in flight
abbrev pub FollowsRequest : {C : Type 0} → Option (ProgressEntryOf C) → ProgressEntryOf C → InflightOf C
    → ProgressEntryOf C → Type 0
FollowsRequest (Some next) old sending new = (new ≡ next) × (sending ≡ next.inflight)
FollowsRequest None old sending new = (new ≡ old) × (sending ≡ Idle)
