-- What an update of a tracked progress writes, if the id is known and its part does not fall.
use Rattle.std.specs.Prelude.{◌≡◌, Bool, true, false, Option, Some, None, is_some, refl}
use Rattle.std.specs.declared.cmp.Ordering.{Ordering}
use Rattle.std.proofs.Common.{sym, subst, ◌∙◌, true≢false}
use Rattle.raft_members.specs.quorum.Majority.{is_voter_of}
use Rattle.raft_progress.specs.progress.NewProgress.{HasClone}
use Rattle.raft_progress.specs.progress.ProgressState.{Writes}
use Rattle.raft_progress.specs.progress.ProgressView.{state}
use Rattle.raft_progress.specs.progress.Steps.{IsWritten, falls}
use Rattle.raft_progress.specs.tracked.SingleSteps.{IsTrackedUpdate}
use Rattle.raft_progress.specs.tracked.TrackedState.{IsReady, TrackedView, has_quorum}
use Rattle.raft_progress.specs.tracked.TrackedNew.{BeginsOver}
use Rattle.raft_progress.specs.declared.progress.steps.Reply.{Reply}
use Rattle.raft_progress.specs.declared.progress.steps.Reply.TheVariants.{Granted, Unknown, WouldFall, Refused, BelowDefault, BadLearners, OutOfMemory}

module _ {K N V P : Type 0} (eq : K → K → Bool) (cmp : P → P → Ordering) (part : V → P) where
  abbrev pub IsWrite : TrackedView K N V P → K → V → Reply K P → TrackedView K N V P → Type 0
  IsWrite old id value reply new =
      IsWritten eq cmp part (has_quorum eq) (state eq old.progress) id value reply (state eq new.progress)

  -- by the reply
  write_by : (old new : TrackedView K N V P) (id : K) (value current : V) (reply : Reply K P)
      → IsWrite old id value reply new → (state eq old.progress).value id ≡ Some current
      → falls cmp part (Some current) value ≡ false
      → Writes eq (state eq old.progress) id value (state eq new.progress)
  write_by old new id value current (Granted p) w known stays = w.3
  write_by old new id value current (Unknown p) w known stays = let e : Some current ≡ None = sym known ∙ w.0 in cc
  write_by old new id value current WouldFall w known stays =
      let e : Some w.0 ≡ Some current = sym w.1 ∙ known in
      let same : w.0 ≡ current = cc in
      absurd (true≢false (sym (subst (λ v. falls cmp part (Some v) value ≡ true) same w.2) ∙ stays))
  write_by old new id value current (Refused r) w known stays = absurd w
  write_by old new id value current (BelowDefault r) w known stays = absurd w
  write_by old new id value current BadLearners w known stays = absurd w
  write_by old new id value current OutOfMemory w known stays = absurd w

  -- an update of a known id whose part does not fall writes the value
  pub update_writes : (old new : TrackedView K N V P) (id : K) (value current : V) (reply : Reply K P)
      → IsTrackedUpdate eq cmp part old id value reply new → (state eq old.progress).value id ≡ Some current
      → falls cmp part (Some current) value ≡ false
      → Writes eq (state eq old.progress) id value (state eq new.progress)
  update_writes old new id value current reply u known stays =
      write_by old new id value current reply u.values known stays

  default_by : (old new : TrackedView K N V P) (id : K) (value : V) (reply : Reply K P)
      → IsWrite old id value reply new → new.progress.default_part ≡ old.progress.default_part
  default_by old new id value (Granted p) w = w.3.default_part
  default_by old new id value (Unknown p) w = w.2.default_part
  default_by old new id value WouldFall w = w.3.default_part
  default_by old new id value (Refused r) w = absurd w
  default_by old new id value (BelowDefault r) w = absurd w
  default_by old new id value BadLearners w = absurd w
  default_by old new id value OutOfMemory w = absurd w

  -- an update leaves the default
  pub default_stays : (old new : TrackedView K N V P) (id : K) (value : V) (reply : Reply K P)
      → IsTrackedUpdate eq cmp part old id value reply new → new.progress.default_part ≡ old.progress.default_part
  default_stays old new id value reply u = default_by old new id value reply u.values

module _ {V : Type 0} (IsClone : V → V → Type 0) (default : V) where
  -- of a value that is a clone of the default or absent
  by_membership : (value : Option V) (v : V) (member : Bool)
      → (member ≡ true → HasClone IsClone default value) → (member ≡ false → value ≡ None) → value ≡ Some v
      → IsClone default v
  by_membership value v true cloned none known =
      let c = cloned refl in
      let e : Some c.0 ≡ Some v = sym c.1 ∙ known in
      let same : c.0 ≡ v = cc in subst (IsClone default) same c.2
  by_membership value v false cloned none known = let e : None ≡ Some v = sym (none refl) ∙ known in cc

module _ {K N V P : Type 0} (eq : K → K → Bool) (id_cmp : K → K → Ordering) (cmp : P → P → Ordering) (part : V → P)
    (IsClone : V → V → Type 0) where
  -- each value of a new tracked progress is a clone of the default
  pub begins_with_default : (default : V) (made : TrackedView K N V P) → BeginsOver eq id_cmp cmp part IsClone default made
      → (id : K) (v : V) → (state eq made.progress).value id ≡ Some v → IsClone default v
  begins_with_default default made b id v known =
      by_membership IsClone default ((state eq made.progress).value id) v _ (b.begins.values.value id) (b.begins.values.others id) known

module _ {K N V P : Type 0} (eq : K → K → Bool) (id_cmp : K → K → Ordering) (cmp : P → P → Ordering) (part : V → P) where
  -- each voter of the membership has a value
  pub voter_known : (t : TrackedView K N V P) → IsReady eq id_cmp cmp part t → (id : K)
      → is_voter_of eq t.membership.configs id ≡ true → is_some ((state eq t.progress).value id) ≡ true
  voter_known t ready id votes = ready.counts_by.known id ∙ rw votes refl
