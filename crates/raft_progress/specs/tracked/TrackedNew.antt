-- What a new tracked progress is made of.
use Rattle.std.specs.Prelude.{Bool}
use Rattle.std.specs.declared.cmp.Ordering.{Ordering}
use Rattle.raft_members.specs.membership.Learners.{learners_of}
use Rattle.raft_members.specs.membership.Members.{members_of}
use Rattle.raft_progress.specs.progress.Statistics.{no_counts}
use Rattle.raft_progress.specs.tracked.TrackedState.{Configs, HasConfigs, TrackedView, is_voter}
use Rattle.raft_progress.specs.progress.UpgradeFold.{BeginsAnew}

module _ {K N V P : Type 0} (eq : K → K → Bool) (id_cmp : K → K → Ordering) (cmp : P → P → Ordering)
    (part : V → P) (IsClone : V → V → Type 0) where
  -- the progress begins with the configs and the learners of its membership, in the membership's
  -- order, and nothing is counted yet
  pub record BeginsOver (default : V) (made : TrackedView K N V P) : Type 0 where
    pub configs : Configs K
    pub has_configs : HasConfigs (members_of id_cmp made.membership) configs
    pub begins : BeginsAnew eq id_cmp cmp part IsClone (is_voter eq) no_counts configs
        (learners_of eq made.membership) default made.progress
