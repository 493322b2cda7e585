use Rattle.std.proofs.Common.{◌≡◌, ℕ, ◌-◌, Bool, true, false, nat_lt, if◌then◌else◌, Some, None, refl}
use Rattle.raft_base.specs.LogId.{next_index}
use Rattle.raft_progress.specs.entry.EntryTable.{with_search_end}
use Rattle.raft_progress.specs.inflight.InflightTable.{inflight_after_conflict}
use Rattle.raft_progress.proofs.lemmas.catch_up.CatchUpLemmas.{acks_logs, kept_after}
use Rattle.raft_progress.proofs.catch_up.take_response.Goals as goal

-- a number that a test lets through
some_if : (t : Bool) (n m : ℕ) → (if t then Some n else None) ≡ Some m → (t ≡ true) × (n ≡ m)
some_if true n m e = (refl, cc)
some_if false n m e = absurd cc

pub returns-in-Some : goal.returns-in-Some
returns-in-Some g c = λ old conflicts acks.
    let entry = c.args.entry.now in
    let end = next_index c.args.range.prev in
    let refused = some_if (nat_lt c.args.agree.now end) (end - 1) c.in-Some.index (rw c.refused_at.ensures at c.in-Some.is) in
    let kept = kept_after (with_search_end entry c.in-Some.index (inflight_after_conflict entry.inflight c.args.id c.in-Some.index)) entry
    c.update_conflicting.result c.update_conflicting.new.self c.update_conflicting.ensures.table in
    rw (refused.0, refused.1, kept) refl

pub returns-in-None : goal.returns-in-None
returns-in-None g c = λ old conflicts acks.
    acks_logs g.C.Ord.cmp old c.args.entry.now c.update_matching.new.self c.args.agree.now c.max.result conflicts acks c.args.id
    c.args.range c.update_matching.result
    (rw c.refused_at.ensures at c.in-None.is) c.update_matching.ensures.table (rw c.next_index.ensures at c.max.ensures)
