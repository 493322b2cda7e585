-- A progress that counts by a membership, kept apart from it.
use Rattle.raft_members.specs.membership.Members.{MemberList}
use Rattle.raft_progress.specs.progress.ProgressView.{ProgressView}
use Rattle.raft_progress.specs.tracked.TrackedState.{Configs, TrackedView}

-- the membership and the progress as one
abbrev pub over : {K N V P : Type 0} → MemberList K N → ProgressView K V P (Configs K)
    → TrackedView K N V P
over membership progress = record { membership = membership; progress = progress }
