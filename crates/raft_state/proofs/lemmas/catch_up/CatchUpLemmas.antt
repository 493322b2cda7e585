-- What the test of catching up says of the state.
use Rattle.std.proofs.Common.{◌≡◌, ℕ, Bool, true, ◌&&◌, Option, Some, None, refl}
use Rattle.std.specs.Cmp.{first_so, second_so}
use Rattle.std.specs.Option.{is_none}
use Rattle.std.specs.declared.cmp.Ordering.{Ordering}
use Rattle.raft_progress.specs.catch_up.CatchUp.{can_catch_up}
use Rattle.raft_progress.specs.declared.entry.ProgressEntryOf.{ProgressEntryOf}
use Rattle.raft_state.specs.raft_state.CatchUp.{state_can_catch_up}
use Rattle.raft_state.specs.raft_state.VoteAndLog.{log_view_of}
use Rattle.raft_state.specs.raft_state.Valid.{broken_relation, none_or_logged}
use Rattle.raft_state.specs.declared.raft_state.RaftStateIn.{RaftStateIn}

none_is : {A : Type 0} (o : Option A) → is_none o ≡ true → o ≡ None
none_is None h = refl
none_is (Some x) h = cc

-- the state is valid, its purge point is in its log, and an entry can be caught up over that log
pub tested : {K N I L C : Type 0} (eq : C → C → Bool) (cmp : C → C → Ordering) (s : RaftStateIn K N I L C) (entry : ProgressEntryOf C)
    (agree n : ℕ) → state_can_catch_up eq cmp s entry agree n ≡ true
    → (broken_relation cmp s ≡ None) × (none_or_logged eq (log_view_of s) s.purge_upto ≡ true)
    × (can_catch_up eq cmp (log_view_of s) entry agree n ≡ true)
tested eq cmp s entry agree n h =
    let two = first_so (is_none (broken_relation cmp s) && none_or_logged eq (log_view_of s) s.purge_upto)
    (can_catch_up eq cmp (log_view_of s) entry agree n) h in (
      none_is (broken_relation cmp s) (first_so (is_none (broken_relation cmp s)) (none_or_logged eq (log_view_of s) s.purge_upto) two),
      second_so (is_none (broken_relation cmp s)) (none_or_logged eq (log_view_of s) s.purge_upto) two,
      second_so (is_none (broken_relation cmp s) && none_or_logged eq (log_view_of s) s.purge_upto)
          (can_catch_up eq cmp (log_view_of s) entry agree n) h,
    )
