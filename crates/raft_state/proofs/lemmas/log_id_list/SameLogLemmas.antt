-- Two logs that are the same, id by id.
use Rattle.std.proofs.Common.{◌≡◌, Bool, true, ◌&&◌, List, [], ◌∷◌, Option, Some, None, IsTrue, nat_eq, refl, arith}
use Rattle.std.proofs.lemmas.Bool.{and_parts}
use Rattle.std.proofs.lemmas.Bool.Decides.{nat_tests}
use Rattle.std.specs.Cmp.Derive.{both_true}
use Rattle.raft_base.specs.LogId.{same_ids}
use Rattle.raft_base.specs.declared.log_id.LogIdOf.{LogIdOf}
use Rattle.raft_state.specs.log_id_list.FullLog.{same_log}

-- the same indexes, and leaders that are equal by eq
abbrev pub SameLog : {C : Type 0} → (C → C → Bool) → List (LogIdOf C) → List (LogIdOf C) → Type 0
SameLog eq [] [] = Unit {0}
SameLog eq (x ∷ xs) (y ∷ ys) = IsTrue (eq x.leader_id y.leader_id) × (x.index ≡ y.index) × SameLog eq xs ys
SameLog eq [] (y ∷ ys) = ⊥
SameLog eq (x ∷ xs) [] = ⊥

-- what the test says
pub says_same : {C : Type 0} (eq : C → C → Bool) (ks ls : List (LogIdOf C)) → same_log eq ks ls ≡ true → SameLog eq ks ls
says_same eq [] [] h = tt
says_same eq [] (l ∷ ls) h = cc
says_same eq (k ∷ ks) [] h = cc
says_same eq (k ∷ ks) (l ∷ ls) h =
    let b = and_parts (eq k.leader_id l.leader_id && nat_eq k.index l.index) (same_log eq ks ls) h in
    let d = and_parts (eq k.leader_id l.leader_id) (nat_eq k.index l.index) b.0 in let d1 = d.1 in
    (d.0, grind (arith, nat_tests), says_same eq ks ls b.1)

-- and when it is true
pub is_same : {C : Type 0} (eq : C → C → Bool) (ks ls : List (LogIdOf C)) → SameLog eq ks ls → same_log eq ks ls ≡ true
is_same eq [] [] h = refl
is_same eq [] (l ∷ ls) h = absurd h
is_same eq (k ∷ ks) [] h = absurd h
is_same eq (k ∷ ks) (l ∷ ls) h =
    let h1 = h.1 in
    let t : nat_eq k.index l.index ≡ true = grind (arith, nat_tests) in
    both_true (both_true h.0 t) (is_same eq ks ls h.2)

-- a log id that equals the one of a list there
pub equal_found : {C : Type 0} (eq : C → C → Bool) (o : Option (LogIdOf C)) (id : LogIdOf C) → same_ids eq o (Some id) ≡ true
    → (x : LogIdOf C) × (o ≡ Some x) × (eq x.leader_id id.leader_id ≡ true) × (x.index ≡ id.index)
equal_found eq None id h = cc
equal_found eq (Some x) id h = let d = and_parts (eq x.leader_id id.leader_id) (nat_eq x.index id.index) h in let d1 = d.1 in
    (x, refl, d.0, grind (arith, nat_tests))
