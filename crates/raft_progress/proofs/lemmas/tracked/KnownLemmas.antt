-- What was granted before a change is known after it.
use Rattle.std.specs.Prelude.{◌≡◌, Bool, true, ◌&&◌, Option, Some, None}
use Rattle.std.specs.Cmp.{IsEquivalence, IsTotalOrder, first_so, second_so}
use Rattle.std.specs.Ordering.{is_le}
use Rattle.std.specs.declared.cmp.Ordering.{Ordering}
use Rattle.std.proofs.Common.{ap, subst, sym, ◌∙◌, true≢false}
use Rattle.std.proofs.lemmas.Bool.{or_left}
use Rattle.raft_members.specs.quorum.Majority.{is_joint_majority, is_voter_of}
use Rattle.raft_members.proofs.CallerLemmas.{joint_majority_of_voters}
use Rattle.raft_progress.specs.progress.CountedValue.{has_part}
use Rattle.raft_progress.specs.progress.ProgressView.{state}
use Rattle.raft_progress.specs.progress.Upgrade.{Inherits}
use Rattle.raft_progress.specs.tracked.Known.{ChangeKeepsGranted}
use Rattle.raft_progress.proofs.lemmas.tracked.HeadlineLemmas.{each_quorum_knows}

pub change_keeps_granted : {K N V P : Type 0} {eq : K → K → Bool} (laws : IsEquivalence eq) (id_cmp : K → K → Ordering)
    (same : N → N → Bool) {cmp : P → P → Ordering} (o : IsTotalOrder cmp) (part : V → P) (IsClone : V → V → Type 0)
    → ChangeKeepsGranted K N V P eq id_cmp same cmp part IsClone
change_keeps_granted {K} {N} {V} {P} {eq} laws id_cmp same {cmp} o part IsClone clones old new was is change retain default g
    (valid, says, (configs, learners, has, are, (fit, can, upgraded, counted))) some set q =
    let voters : K → Bool = is_voter_of eq new.membership.configs in
    let both = joint_majority_of_voters laws voters set new.membership.configs (λ x m. m) q in
    let known = (each_quorum_knows laws id_cmp o part old was some).1 change retain (λ x. voters x && set x)
    (subst (λ cs. is_joint_majority eq cs (λ x. voters x && set x) ≡ true) says.0 both) in
    let voter : (state eq new.progress).is_voter known.0 ≡ true = is.counts_by.voters known.0 ∙ first_so _ (set known.0) known.1 in (
      known.0,
      second_so (voters known.0) _ known.1,
      voter,
      by ((state eq old.progress).value known.0) ((state eq new.progress).value known.0) known.3
          (upgraded.value known.0 (or_left _ _ (sym (upgraded.voters known.0) ∙ voter))),
    )
  where
    by : (before after : Option V) → has_part cmp part old.progress.granted before ≡ true → Inherits IsClone default before after
        → has_part cmp part old.progress.granted after ≡ true
    by None after h i = absurd (true≢false (sym h))
    by (Some v) after h i = ap (has_part cmp part old.progress.granted) i.1
        ∙ ap (λ p. is_le (cmp old.progress.granted p)) (clones v i.0 i.2) ∙ h
