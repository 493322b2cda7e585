-- Calls of a membership and its progress are steps of a replay.
use Rattle.std.specs.Prelude.{Bool}
use Rattle.raft_progress.specs.progress.Comparisons.{Comparisons}
use Rattle.raft_progress.specs.tracked.TrackedCalls.{TrackedChangesAreSteps, TrackedUpdatesAreSteps}
use Rattle.raft_progress.specs.tracked.TrackedState.{tracked_state}
use Rattle.raft_progress.proofs.lemmas.tracked.ChangeLemmas.{changed_step}

module _ {K N V P : Type 0} (by : Comparisons K V P) (same : N → N → Bool) where
  pub tracked_updates_are_steps : TrackedUpdatesAreSteps K N V P by same
  tracked_updates_are_steps old new id value reply u ready = record {
    values = (u.membership, u.values);
    answered = record { refused = u.answered.refused; done = λ r. (u.membership, u.answered.done r); tells = u.answered.tells };
    ready = ready;
  }

  pub tracked_changes_are_steps : TrackedChangesAreSteps K N V P by same
  tracked_changes_are_steps old new change retain next default reply valid says u ready = record {
    values = changed_step by.eq by.id_cmp same by.cmp by.part by.IsClone (tracked_state by.eq old) change retain default next
        (tracked_state by.eq new) valid says reply u.values;
    answered = record { refused = u.answered.refused; done = u.answered.done; tells = u.answered.tells };
    ready = ready;
  }
