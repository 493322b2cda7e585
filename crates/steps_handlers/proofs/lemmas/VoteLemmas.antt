-- What a vote that is counted changes.
use Rattle.std.specs.Prelude.{◌≡◌, Bool, true, false, ◌&&◌, ◌||◌, cond, Option, Some, None, is_some, refl}
use Rattle.std.specs.Cmp.{IsEquivalence}
use Rattle.std.specs.Option.{option_eq, option_map_or}
use Rattle.std.specs.Ordering.{bool_cmp, is_lt}
use Rattle.std.proofs.Common.{ap, sym, ◌∙◌, true≢false}
use Rattle.std.proofs.Math.Bool.{and-false, and-true, or-false, or-true}
use Rattle.raft_progress.specs.progress.ProgressView.{state}
use Rattle.raft_progress.specs.tracked.SingleSteps.{IsTrackedUpdate}
use Rattle.raft_progress.specs.tracked.TrackedState.{TrackedView}
use Rattle.raft_progress.specs.declared.progress.steps.Reply.{Reply}
use Rattle.raft_progress.specs.declared.progress.steps.Reply.TheVariants.{Granted, Unknown, WouldFall, Refused, BelowDefault, BadLearners, OutOfMemory}
use Rattle.steps_handlers.proofs.lemmas.TrackedLemmas.{IsWrite}

-- `true` is below no vote
no_fall : (b : Bool) → is_lt (bool_cmp true b) ≡ false
no_fall true = refl
no_fall false = refl

-- the value of one id after a write of another
one : (same : Bool) (value : Option Bool) → option_map_or (λ v. v) (cond same (Some true) value) false
    ≡ (option_map_or (λ v. v) value false || same)
one true value = sym (or-true (option_map_or (λ v. v) value false))
one false value = sym (or-false (option_map_or (λ v. v) value false))

none_voted : (value : Option Bool) → ((v : Bool) → value ≡ Some v → v ≡ false) → option_map_or (λ v. v) value false ≡ false
none_voted None h = refl
none_voted (Some v) h = h v refl

module _ {K N : Type 0} (eq : K → K → Bool) where
  abbrev voted : TrackedView K N Bool Bool → K → Bool
  voted t id = option_map_or (λ v. v) ((state eq t.progress).value id) false

  abbrev known : TrackedView K N Bool Bool → K → Bool
  known t id = is_some ((state eq t.progress).value id)

  counts_by : (old new : TrackedView K N Bool Bool) (from : K) (reply : Reply K Bool)
      → IsWrite eq bool_cmp (λ (v : Bool). v) old from true reply new → (id : K)
      → voted new id ≡ (voted old id || (eq from id && known old from))
  counts_by old new from (Granted p) w id =
      ap (λ o. option_map_or (λ v. v) o false) (w.3.value id) ∙ one (eq from id) ((state eq old.progress).value id)
      ∙ ap (λ b. voted old id || b) (sym (and-true (eq from id)) ∙ ap (λ o. eq from id && is_some o) (sym w.1))
  counts_by old new from (Unknown p) w id =
      ap (λ o. option_map_or (λ v. v) o false) (w.2.value id) ∙ sym (or-false (voted old id))
      ∙ ap (λ b. voted old id || b) (sym (and-false (eq from id)) ∙ ap (λ o. eq from id && is_some o) (sym w.0))
  counts_by old new from WouldFall w id = absurd (true≢false (sym w.2 ∙ no_fall w.0))
  counts_by old new from (Refused r) w id = absurd w
  counts_by old new from (BelowDefault r) w id = absurd w
  counts_by old new from BadLearners w id = absurd w
  counts_by old new from OutOfMemory w id = absurd w

  -- a vote of a member counts, and no other one
  pub counts : (old new : TrackedView K N Bool Bool) (from : K) (reply : Reply K Bool)
      → IsTrackedUpdate eq bool_cmp (λ (v : Bool). v) old from true reply new → (id : K)
      → voted new id ≡ (voted old id || (eq from id && known old from))
  counts old new from reply u = counts_by old new from reply u.values

  stays_by : IsEquivalence eq → (old new : TrackedView K N Bool Bool) (from : K) (reply : Reply K Bool)
      → IsWrite eq bool_cmp (λ (v : Bool). v) old from true reply new → known new from ≡ known old from
  stays_by laws old new from (Granted p) w =
      ap is_some (w.3.value from ∙ ap (λ b. cond b (Some true) ((state eq old.progress).value from)) (laws.refl from))
      ∙ ap is_some (sym w.1)
  stays_by laws old new from (Unknown p) w = ap is_some (w.2.value from)
  stays_by laws old new from WouldFall w = ap is_some (w.3.value from)
  stays_by laws old new from (Refused r) w = absurd w
  stays_by laws old new from (BelowDefault r) w = absurd w
  stays_by laws old new from BadLearners w = absurd w
  stays_by laws old new from OutOfMemory w = absurd w

  -- whose vote is counted is a member as before
  pub stays_known : IsEquivalence eq → (old new : TrackedView K N Bool Bool) (from : K) (reply : Reply K Bool)
      → IsTrackedUpdate eq bool_cmp (λ (v : Bool). v) old from true reply new → known new from ≡ known old from
  stays_known laws old new from reply u = stays_by laws old new from reply u.values

  -- where nobody has voted yet, the first vote is the only one
  pub first_vote : IsEquivalence eq → (old new : TrackedView K N Bool Bool) (id : K) (reply : Reply K Bool)
      → IsTrackedUpdate eq bool_cmp (λ (v : Bool). v) old id true reply new
      → ((x : K) (v : Bool) → (state eq old.progress).value x ≡ Some v → v ≡ false)
      → (x : K) → voted new x ≡ (eq id x && known new id)
  first_vote laws old new id reply u none x =
      counts old new id reply u x
      ∙ ap (λ b. b || (eq id x && known old id)) (none_voted ((state eq old.progress).value x) (none x))
      ∙ ap (λ b. eq id x && b) (sym (stays_known laws old new id reply u))

-- ---- the vote of a leader

all_three : (a b c : Bool) → a ≡ true → b ≡ true → c ≡ true → (a && b && c) ≡ true
all_three a b c ha hb hc = rw (ha, hb, hc) refl

-- a node leads by a committed vote for it, whose committed leader id is its own
pub leads_alike : {K L C : Type 0} (id_eq : K → K → Bool) (eq : C → C → Bool) → IsEquivalence eq → (votes_for : L → Option K)
    (committed : L → C) (is : Bool) (leader : L) (own : C) (id : K) → is ≡ true → own ≡ committed leader
    → option_eq id_eq (votes_for leader) (Some id) ≡ true
    → (is && eq (committed leader) own && option_eq id_eq (votes_for leader) (Some id)) ≡ true
leads_alike id_eq eq laws votes_for committed is leader own id granted same for_it =
    all_three is (eq (committed leader) own) (option_eq id_eq (votes_for leader) (Some id)) granted
    (ap (λ c. eq (committed leader) c) same ∙ laws.refl (committed leader)) for_it
