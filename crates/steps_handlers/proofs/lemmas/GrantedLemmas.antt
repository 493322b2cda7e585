-- What is granted is the greatest log id that a majority of each config matches.
use Rattle.std.specs.Prelude.{◌≡◌, ◌↔◌, ◌⊎◌, Bool, Option, Some, None}
use Rattle.std.specs.Cmp.{IsEquivalence}
use Rattle.std.specs.Option.{option_cmp}
use Rattle.std.specs.declared.cmp.Ordering.{Ordering}
use Rattle.std.proofs.Common.{inl, inr, subst, sym, true≢false}
use Rattle.raft_base.specs.LogId.{log_id_cmp}
use Rattle.raft_base.specs.declared.log_id.LogIdOf.{LogIdOf}
use Rattle.raft_progress.specs.progress.CountedValue.{AtMost}
use Rattle.raft_progress.specs.progress.ProgressView.{state}
use Rattle.raft_progress.specs.progress.Threshold.{QuorumReached}
use Rattle.raft_progress.specs.tracked.TrackedState.{IsReady, has_quorum}
use Rattle.raft_progress.specs.declared.entry.ProgressEntryOf.{ProgressEntryOf}
use Rattle.raft_progress.proofs.lemmas.tracked.EachConfigLemmas.{each_reached}
use Rattle.steps_handlers.specs.Leadership.{Leadership, MajorityMatches}

module _ {K N C : Type 0} {eq : K → K → Bool} (laws : IsEquivalence eq) {id_cmp : K → K → Ordering} (cmp : C → C → Ordering)
    (l : Leadership K N C) where
  -- a log id is at most what is granted exactly if a majority of each config matches it
  pub match_granted : IsReady eq id_cmp (option_cmp (log_id_cmp cmp)) (λ (e : ProgressEntryOf C). e.matching) l.followers
      → (id : LogIdOf C)
      → AtMost (option_cmp (log_id_cmp cmp)) (Some id) l.followers.progress.granted ↔
      (AtMost (option_cmp (log_id_cmp cmp)) (Some id) l.followers.progress.default_part
      ⊎ QuorumReached (option_cmp (log_id_cmp cmp)) (λ (e : ProgressEntryOf C). e.matching) (has_quorum eq)
      (state eq l.followers.progress) (Some id))
      → l.followers.progress.default_part ≡ None
      → AtMost (option_cmp (log_id_cmp cmp)) (Some id) l.followers.progress.granted ↔ MajorityMatches eq cmp l id
  match_granted ready id threshold none =
      let each = each_reached laws (λ (e : ProgressEntryOf C). e.matching) l.followers ready (Some id) in (
        (λ h. elim (threshold.0 h) as (λ _. MajorityMatches eq cmp l id) [
          | inl d ↦ absurd (true≢false (sym (subst (λ (p : Option (LogIdOf C)). AtMost (option_cmp (log_id_cmp cmp)) (Some id) p) none d)))
          | inr k ↦ each.0 k
        ]),
        (λ m. threshold.1 (inr (each.1 m))),
      )
