-- A step that was refused has changed nothing.
use Rattle.std.specs.Prelude.{Bool, List, refl}
use Rattle.std.specs.declared.cmp.Ordering.{Ordering}
use Rattle.std.proofs.Common.{true≢false}
use Rattle.raft_progress.specs.Inner.Refusal.{RefusesUpgrade}
use Rattle.raft_progress.specs.Inner.ViewAnswers.{IsViewUpgrade}
use Rattle.raft_progress.specs.progress.ProgressView.{ProgressView, state}
use Rattle.raft_progress.proofs.lemmas.progress.UpdateLemmas.{IsSame-refl}
use Rattle.raft_progress.specs.declared.progress.steps.Reply.{Reply}
use Rattle.raft_progress.specs.declared.progress.steps.Reply.TheVariants.{BelowDefault, BadLearners}

module _ {ID V P QS : Type 0} (eq : ID → ID → Bool) (id_cmp : ID → ID → Ordering) (cmp : P → P → Ordering) (part : V → P)
    (IsClone : V → V → Type 0) (has_quorum : QS → (ID → Bool) → Bool) (is_voter : QS → ID → Bool)
    (old : ProgressView ID V P QS) (quorum_set : QS) (learners : List ID) (default : V)
  where
    -- a reply that refuses the upgrade is a reply of the upgrade
    pub refused_upgrade : (reply : Reply ID P)
        → RefusesUpgrade eq id_cmp cmp part (is_voter quorum_set) learners default (state eq old).value reply
        → IsViewUpgrade eq id_cmp cmp part IsClone has_quorum is_voter old quorum_set learners default reply old
    refused_upgrade BadLearners r = record {
      values = (r, IsSame-refl (state eq old));
      answered = record { refused = λ h. refl; done = λ h. absurd (true≢false h); tells = tt };
    }
    refused_upgrade (BelowDefault id) r =
        record {
          values = (r.0, r.1, IsSame-refl (state eq old));
          answered = record { refused = λ h. refl; done = λ h. absurd (true≢false h); tells = tt };
        }
    refused_upgrade reply r = absurd r
