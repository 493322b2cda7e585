-- What a majority of each config has: a match, a vote, or whatever else a progress counts.
use Rattle.std.specs.Prelude.{◌≡◌, ◌<◌, Bool, true, false, length}
use Rattle.std.specs.Option.{option_map_or}
use Rattle.raft_members.specs.quorum.Majority.{is_joint_majority}
use Rattle.raft_progress.specs.progress.ProgressView.{state}
use Rattle.raft_progress.specs.tracked.TrackedState.{TrackedView}

-- the membership has a config, and a majority of each config has a value that passes the test
pub record MajorityOfEach {K N V P : Type 0} (eq : K → K → Bool) (t : TrackedView K N V P)
    (passes : V → Bool) : Type 0 where
  pub config : 0 < length t.membership.configs
  pub majority : is_joint_majority eq t.membership.configs
      (λ id. option_map_or passes ((state eq t.progress).value id) false) ≡ true
