-- The next children on the way to a goal.
use Rattle.std.proofs.lemmas.Bool.{or_left, or_right}
use Rattle.std.specs.Prelude.{◌≡◌, ◌<◌, ◌-◌, Bool, true, false, cond, Option, Some, None, List, [], ◌∷◌, length, refl}
use Rattle.std.proofs.Common.{◌∙◌, arith, get_or}
use Rattle.std.specs.Cmp.{IsEquivalence}
use Rattle.std.specs.List.{slice_get}
use Rattle.std.proofs.lemmas.Map.Keys.{any_passes_from_place}
use Rattle.std.proofs.lemmas.Option.{slice_get-get_or}
use Rattle.raft_members.specs.quorum.Coherence.{has_child, share_child, next_children}

-- a list with an item has a last one
pub has_last : {Q : Type 0} (d : Q) (cs : List Q) → 0 < length cs → slice_get cs (length cs - 1) ≡ None → ⊥
has_last d cs n h = let g : slice_get cs (length cs - 1) ≡ Some (get_or cs (length cs - 1) d) =
    slice_get-get_or cs (length cs - 1) d (omega arith) in cc

module _ {Q : Type 0} (eq : Q → Q → Bool) (cs : List Q) (goal : Q) where
  pub next_if_has : has_child eq cs goal ≡ true → next_children eq cs goal ≡ goal ∷ []
  next_if_has h = rw h refl

  pub next_if_lacks : (c : Q) → has_child eq cs goal ≡ false → slice_get cs (length cs - 1) ≡ Some c
      → next_children eq cs goal ≡ c ∷ goal ∷ []
  next_if_lacks c h e = rw (h, e) refl

  pub next_if_none : slice_get cs (length cs - 1) ≡ None → next_children eq cs goal ≡ goal ∷ []
  next_if_none e = rw e (either (has_child eq cs goal))
    where
      either : (b : Bool) → cond b (goal ∷ []) (goal ∷ []) ≡ goal ∷ []
      either true = refl
      either false = refl

module _ {Q : Type 0} {eq : Q → Q → Bool} (laws : IsEquivalence eq) where
  pub equal_right : (q x y : Q) → eq x y ≡ true → eq q x ≡ eq q y
  equal_right q x y h = laws.symm q x ∙ laws.congr x y q h ∙ laws.symm y q

  module _ (cs : List Q) (goal : Q) where
    has_goal_by : (b : Bool) (k : Option Q) → has_child eq cs goal ≡ b → slice_get cs (length cs - 1) ≡ k
        → has_child eq (next_children eq cs goal) goal ≡ true
    has_goal_by true k h l = rw (next_if_has eq cs goal h) (or_left _ _ (laws.refl goal))
    has_goal_by false None h l = rw (next_if_none eq cs goal l) (or_left _ _ (laws.refl goal))
    has_goal_by false (Some c) h l = rw (next_if_lacks eq cs goal c h l) (or_right _ _ (or_left _ _ (laws.refl goal)))

    -- the goal is among the next children
    pub next_has_goal : has_child eq (next_children eq cs goal) goal ≡ true
    next_has_goal = has_goal_by (has_child eq cs goal) (slice_get cs (length cs - 1)) refl refl

    shares_by : (b : Bool) (k : Option Q) → has_child eq cs goal ≡ b → slice_get cs (length cs - 1) ≡ k → 0 < length cs
        → share_child eq (next_children eq cs goal) cs ≡ true
    shares_by true k h l n = rw (next_if_has eq cs goal h) (or_left _ _ h)
    shares_by false None h l n = absurd (has_last goal cs n l)
    shares_by false (Some c) h l n = rw (next_if_lacks eq cs goal c h l)
        (or_left _ _ (any_passes_from_place (λ d. eq d c) cs (length cs - 1) c l (laws.refl c)))

    -- the next children share one with the present ones
    pub next_shares : 0 < length cs → share_child eq (next_children eq cs goal) cs ≡ true
    next_shares n = shares_by (has_child eq cs goal) (slice_get cs (length cs - 1)) refl refl n
