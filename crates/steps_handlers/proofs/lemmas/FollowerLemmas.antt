-- What an update writes of what a leader knows of a member.
use Rattle.std.specs.Prelude.{◌≡◌, Bool, true, false, Option, Some, None, refl}
use Rattle.std.specs.Cmp.{IsTotalOrder}
use Rattle.std.specs.Option.{option_cmp}
use Rattle.std.specs.Ordering.{is_le, is_lt, ordering_reverse}
use Rattle.std.specs.declared.cmp.Ordering.{Ordering}
use Rattle.std.specs.declared.cmp.Ordering.TheVariants.{Less, Equal, Greater}
use Rattle.std.proofs.Common.{ap, subst, sym, ◌∙◌, true≢false}
use Rattle.raft_base.specs.LogId.{id_le, id_lt, log_id_cmp}
use Rattle.raft_base.specs.LogIdLawful.{optional-log_id_cmp-total}
use Rattle.raft_base.specs.declared.log_id.LogIdOf.{LogIdOf}
use Rattle.raft_progress.specs.progress.ProgressView.{state}
use Rattle.raft_progress.specs.progress.Steps.{falls}
use Rattle.raft_progress.specs.tracked.SingleSteps.{IsTrackedUpdate}
use Rattle.raft_progress.specs.tracked.TrackedState.{TrackedView}
use Rattle.raft_progress.specs.declared.entry.ProgressEntryOf.{ProgressEntryOf}
use Rattle.raft_progress.specs.declared.progress.steps.Reply.{Reply}
use Rattle.raft_progress.specs.declared.progress.steps.Reply.TheVariants.{Granted, Unknown, WouldFall, Refused, BelowDefault, BadLearners, OutOfMemory}
use Rattle.raft_progress.proofs.lemmas.OrderLemmas.{AtMost-refl}
use Rattle.steps_handlers.specs.Leadership.{Leadership, WritesEntry, WritesMember}
use Rattle.steps_handlers.proofs.lemmas.TrackedLemmas.{update_writes}

-- of a comparison from the other side
not_below : (r : Ordering) → is_le r ≡ true → is_lt (ordering_reverse r) ≡ false
not_below Less e = refl
not_below Equal e = refl
not_below Greater e = absurd (true≢false (sym e))

not_up_to : (r : Ordering) → is_le r ≡ false → is_lt (ordering_reverse r) ≡ true
not_up_to Less e = absurd (true≢false e)
not_up_to Equal e = absurd (true≢false e)
not_up_to Greater e = refl

below : (r : Ordering) → is_lt r ≡ true → is_le r ≡ true
below Less e = refl
below Equal e = absurd (true≢false (sym e))
below Greater e = absurd (true≢false (sym e))

-- a log id that is below another one is at most that
pub at_most_if_below : {C : Type 0} (cmp : C → C → Ordering) (a b : Option (LogIdOf C)) → id_lt cmp a b ≡ true → id_le cmp a b ≡ true
at_most_if_below cmp a b = below (option_cmp (log_id_cmp cmp) a b)

module _ {C : Type 0} {cmp : C → C → Ordering} (total : IsTotalOrder cmp) where
  -- each log id is at most itself
  pub id_le-refl : (a : Option (LogIdOf C)) → id_le cmp a a ≡ true
  id_le-refl a = AtMost-refl (optional-log_id_cmp-total total) a

  -- a match that is at least the present one does not fall
  pub no_fall : (current next : ProgressEntryOf C) → id_le cmp current.matching next.matching ≡ true
      → falls (option_cmp (log_id_cmp cmp)) (λ (e : ProgressEntryOf C). e.matching) (Some current) next ≡ false
  no_fall current next h =
      let o = optional-log_id_cmp-total total in
      ap is_lt (o.antisymm next.matching current.matching)
      ∙ not_below (option_cmp (log_id_cmp cmp) current.matching next.matching) h

  -- the value of a member is written, if its match does not fall
  pub member_updated : {K N : Type 0} (eq : K → K → Bool) (old new : TrackedView K N (ProgressEntryOf C) (Option (LogIdOf C)))
      (id : K) (current next : ProgressEntryOf C) (reply : Reply K (Option (LogIdOf C)))
      → IsTrackedUpdate eq (option_cmp (log_id_cmp cmp)) (λ (e : ProgressEntryOf C). e.matching) old id next reply new
      → (state eq old.progress).value id ≡ Some current → id_le cmp current.matching next.matching ≡ true
      → WritesMember eq old id next new
  member_updated eq old new id current next reply u known h =
      let w = update_writes eq (option_cmp (log_id_cmp cmp)) (λ (e : ProgressEntryOf C). e.matching) old new id next current
      reply u known (no_fall current next h) in
      record { entries = w.value; members = u.membership }

  -- what is known of a member is written, if its match does not fall
  pub entry_written : {K N : Type 0} (eq : K → K → Bool) (l : Leadership K N C)
      (new : TrackedView K N (ProgressEntryOf C) (Option (LogIdOf C))) (id : K) (current next : ProgressEntryOf C)
      (reply : Reply K (Option (LogIdOf C)))
      → IsTrackedUpdate eq (option_cmp (log_id_cmp cmp)) (λ (e : ProgressEntryOf C). e.matching) l.followers id next reply new
      → (state eq l.followers.progress).value id ≡ Some current → id_le cmp current.matching next.matching ≡ true
      → WritesEntry eq l id next (record l { followers = new })
  entry_written eq l new id current next reply u known h =
      record { member = member_updated eq l.followers new id current next reply u known h; rest = refl }

  -- a match that is below the present one falls
  falls_below : (current next : ProgressEntryOf C) → id_le cmp current.matching next.matching ≡ false
      → falls (option_cmp (log_id_cmp cmp)) (λ (e : ProgressEntryOf C). e.matching) (Some current) next ≡ true
  falls_below current next h =
      let o = optional-log_id_cmp-total total in
      ap is_lt (o.antisymm next.matching current.matching)
      ∙ not_up_to (option_cmp (log_id_cmp cmp) current.matching next.matching) h

  -- so an update of a known member with such a match changes nothing
  pub stale_stays : {K N : Type 0} (eq : K → K → Bool) (old new : TrackedView K N (ProgressEntryOf C) (Option (LogIdOf C))) (id : K)
      (current next : ProgressEntryOf C) (reply : Reply K (Option (LogIdOf C)))
      → IsTrackedUpdate eq (option_cmp (log_id_cmp cmp)) (λ (e : ProgressEntryOf C). e.matching) old id next reply new
      → (state eq old.progress).value id ≡ Some current → id_le cmp current.matching next.matching ≡ false → new ≡ old
  stale_stays eq old new id current next (Granted p) u known low =
      let w = u.values in
      let e : Some w.0 ≡ Some current = sym w.1 ∙ known in
      let same : w.0 ≡ current = cc in
      absurd (true≢false (sym (falls_below current next low) ∙ subst (λ (v : ProgressEntryOf C).
      falls (option_cmp (log_id_cmp cmp)) (λ (e : ProgressEntryOf C). e.matching) (Some v) next ≡ false) same w.2))
  stale_stays eq old new id current next (Unknown p) u known low = let e : Some current ≡ None = sym known ∙ u.values.0 in cc
  stale_stays eq old new id current next WouldFall u known low = u.answered.refused refl
  stale_stays eq old new id current next (Refused r) u known low = absurd u.values
  stale_stays eq old new id current next (BelowDefault r) u known low = absurd u.values
  stale_stays eq old new id current next BadLearners u known low = absurd u.values
  stale_stays eq old new id current next OutOfMemory u known low = absurd u.values
