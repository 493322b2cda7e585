-- The test of a sound state decides whether it is one.
use Rattle.std.proofs.Common.{◌≡◌, ◌↔◌, Bool, true, false, not, ◌||◌, Option, Some, None, IsTrue, refl, sym, ◌∙◌}
use Rattle.std.proofs.lemmas.Bool.{and_parts}
use Rattle.std.specs.Cmp.Derive.{both_true}
use Rattle.std.specs.Option.{is_none}
use Rattle.std.specs.declared.cmp.Ordering.{Ordering}
use Rattle.raft_state.specs.Inner.SoundTest.{passes_sound}
use Rattle.raft_state.specs.raft_state.Sound.{IsSound}
use Rattle.raft_state.specs.declared.raft_state.RaftStateIn.{RaftStateIn}

none_is : {A : Type 0} (o : Option A) → is_none o ≡ true → o ≡ None
none_is None h = refl
none_is (Some x) h = cc

is_none_of : {A : Type 0} (o : Option A) → o ≡ None → is_none o ≡ true
is_none_of o h = rw h refl

implied : (a b : Bool) → not a || b ≡ true → a ≡ true → b ≡ true
implied true b h is = h
implied false b h is = cc

implies : (a b : Bool) → (a ≡ true → b ≡ true) → not a || b ≡ true
implies true b h = h refl
implies false b h = refl

passed : {K N I L C : Type 0} (eq : C → C → Bool) (cmp : C → C → Ordering) (s : RaftStateIn K N I L C)
    → passes_sound eq cmp s ≡ true → IsSound eq cmp s
passed eq cmp s h =
    let known = and_parts _ _ h in
    let effective = and_parts _ _ known.0 in
    let committed = and_parts _ _ effective.0 in
    let accepted = and_parts _ _ committed.0 in
    let logged = and_parts _ _ accepted.0 in
    let purge_point = and_parts _ _ logged.0 in
    record {
      valid = none_is _ purge_point.0;
      purge_point = purge_point.1;
      committed = logged.1;
      accepted = accepted.1;
      committed_membership = committed.1;
      effective_membership = effective.1;
      known = implied _ _ known.1;
    }

pass : {K N I L C : Type 0} (eq : C → C → Bool) (cmp : C → C → Ordering) (s : RaftStateIn K N I L C)
    → IsSound eq cmp s → passes_sound eq cmp s ≡ true
pass eq cmp s sound =
    both_true (both_true (both_true (both_true (both_true (both_true (is_none_of _ sound.valid) sound.purge_point) sound.committed)
    sound.accepted) sound.committed_membership) sound.effective_membership) (implies _ _ sound.known)

pub sound_decides : {K N I L C : Type 0} (eq : C → C → Bool) (cmp : C → C → Ordering) (s : RaftStateIn K N I L C) (t : Bool)
    → t ≡ passes_sound eq cmp s → IsTrue t ↔ IsSound eq cmp s
sound_decides eq cmp s t is = (λ h. passed eq cmp s (sym is ∙ h), λ sound. is ∙ pass eq cmp s sound)
