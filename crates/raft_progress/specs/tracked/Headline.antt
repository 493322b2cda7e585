-- What is granted is known in every quorum, now and after one change of the membership.
use Rattle.std.specs.Prelude.{◌<◌, Bool, length}
use Rattle.std.specs.declared.cmp.Ordering.{Ordering}
use Rattle.raft_members.specs.membership.Change.{changed}
use Rattle.raft_members.specs.membership.Members.{members_of}
use Rattle.raft_members.specs.quorum.Reached.{EachQuorumKnows}
use Rattle.raft_members.specs.declared.change_members.ChangeMembers.{ChangeMembers}
use Rattle.raft_progress.specs.progress.CountedValue.{has_part}
use Rattle.raft_progress.specs.progress.ProgressView.{state}
use Rattle.raft_progress.specs.tracked.TrackedState.{TrackedView}

-- if the membership has a config, each of its quorums contains a voter whose part is at least
-- granted
abbrev pub QuorumsKnowGranted : {K N V P : Type 0} → (K → K → Bool) → (P → P → Ordering) → (V → P)
    → TrackedView K N V P → Type 0
QuorumsKnowGranted eq cmp part t =
    0 < length t.membership.configs
    → EachQuorumKnows eq t.membership.configs (state eq t.progress).is_voter
    (λ id. has_part cmp part t.progress.granted ((state eq t.progress).value id))

-- each quorum of what one change makes of the membership, accepted or not, contains such a voter
abbrev pub ChangedQuorumsKnowGranted : {K N V P : Type 0} → (K → K → Bool) → (K → K → Ordering)
    → (P → P → Ordering) → (V → P) → TrackedView K N V P → Type 0
ChangedQuorumsKnowGranted {K} {N} eq id_cmp cmp part t =
    0 < length t.membership.configs
    → (change : ChangeMembers K N) (retain : Bool)
    → EachQuorumKnows eq (changed eq id_cmp (members_of id_cmp t.membership) change retain).configs
    (state eq t.progress).is_voter
    (λ id. has_part cmp part t.progress.granted ((state eq t.progress).value id))
