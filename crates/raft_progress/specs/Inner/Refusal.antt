-- Why the private steps of a replay are refused.
use Rattle.std.specs.Prelude.{Bool, List, None, Option, Some}
use Rattle.std.specs.declared.cmp.Ordering.{Ordering}
use Rattle.raft_members.specs.declared.error.ChangeMembershipErrorOf.{ChangeMembershipErrorOf}
use Rattle.raft_members.specs.declared.error.ChangeMembershipErrorOf.TheVariants.{InProgress, EmptyMembership, LearnerNotFound, OutOfMemory as WantOfMemory}
use Rattle.raft_progress.specs.progress.NewProgress.{LearnersFit}
use Rattle.raft_progress.specs.progress.Upgrade.{IsLeastBelow}
use Rattle.raft_progress.specs.declared.progress.steps.Reply.{Reply}
use Rattle.raft_progress.specs.declared.progress.steps.Reply.TheVariants.{Refused, BelowDefault, BadLearners, OutOfMemory}

module _ {ID V P : Type 0} (eq : ID → ID → Bool) (id_cmp : ID → ID → Ordering)
    (cmp : P → P → Ordering) (part : V → P) (is_voter : ID → Bool) where
  -- the reply refuses an upgrade: the learners do not fit, or otherwise it contains the least
  -- inherited id below the default
  abbrev pub RefusesUpgrade : List ID → V → (ID → Option V) → Reply ID P → Type 0
  RefusesUpgrade learners default old BadLearners = LearnersFit eq is_voter learners → ⊥
  RefusesUpgrade learners default old (BelowDefault id) =
      LearnersFit eq is_voter learners
      × IsLeastBelow eq id_cmp cmp part is_voter learners default old id
  RefusesUpgrade learners default old reply = ⊥

-- the reply to a refused change: it contains the voter without a node, or none for an empty config;
-- a change of a membership alone is never in progress
abbrev pub refusal_reply : {C K P : Type 0} → ChangeMembershipErrorOf C K → Reply K P
refusal_reply (InProgress _) = OutOfMemory
refusal_reply (EmptyMembership _) = Refused None
refusal_reply (LearnerNotFound e) = Refused (Some e.node_id)
refusal_reply WantOfMemory = OutOfMemory
