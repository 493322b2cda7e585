-- A log that has its first entry alone, and why a start is refused.
use Rattle.std.proofs.Common.{◌≡◌, Bool, true, false, ◌&&◌, ◌==◌, List, [], ◌∷◌, Option, Some, None, arith, length, map, suc, refl, true≢false, sym, ◌∙◌}
use Rattle.std.proofs.lemmas.Bool.{and_parts}
use Rattle.std.proofs.lemmas.Bool.Decides.{nat_tests}
use Rattle.std.specs.Prelude.{is_some, IfOk, Result, Ok, Err}
use Rattle.std.specs.Result.{is_err}
use Rattle.std.specs.declared.cmp.Ordering.{Ordering}
use Rattle.raft_base.specs.LogId.{id_lt, index_of}
use Rattle.raft_base.specs.LogIndex.{index_lt}
use Rattle.raft_base.specs.declared.log_id.LogIdOf.{LogIdOf}
use Rattle.steps_handlers.specs.Start.{first_log_id, has_config}
use Rattle.raft_state.proofs.lemmas.log_id_list.EndsLemmas.{last_of_some}
use Rattle.raft_state.specs.log_id_list.FullLog.{same_log}
use Rattle.raft_state.specs.log_id_list.LogReads.{last_id}

-- a log without a last log id is empty
pub is_empty : {C : Type 0} (log : List (LogIdOf C)) → is_some (last_id log) ≡ false → log ≡ []
is_empty [] h = refl
is_empty (x ∷ xs) h = let e = last_of_some x xs in absurd (true≢false (rw e at h))

-- a log that is the same as one log id, and ends with it, is that log id
pub only_one : {C : Type 0} (eq : C → C → Bool) (log : List (LogIdOf C)) (x : LogIdOf C) → same_log eq log (x ∷ []) ≡ true
    → last_id log ≡ Some x → log ≡ x ∷ []
only_one eq [] x same last = cc
only_one eq (y ∷ []) x same last = let is : y ≡ x = cc in rw is refl
only_one eq (y ∷ z ∷ zs) x same last = absurd (true≢false (sym (and_parts _ _ same).1))

-- the first entry comes after no membership
pub comes_first : {C : Type 0} (cmp : C → C → Ordering) (leader : C) (effective : Option (LogIdOf C))
    → (id_lt cmp effective (Some (first_log_id leader)) && index_lt (index_of effective) (Some 0) && true) ≡ false
    → is_some effective ≡ true
comes_first cmp leader None h = absurd (true≢false h)
comes_first cmp leader (Some x) h = refl

-- what holds on Ok holds of what is no Err
pub if_no_err : {A B : Type 0} (P : Type 0) (r : Result A B) → is_err r ≡ false → IfOk r (λ _. P) → P
if_no_err P (Ok x) h m = m
if_no_err P (Err x) h m = absurd (true≢false h)

-- whether a membership has a config, by the number of its configs
pub some_config : {X K : Type 0} (f : X → List K) (xs : List X) (configs : List (List K)) → map f xs ≡ configs
    → (length xs == 0) ≡ false → has_config configs ≡ true
some_config f [] configs is h = cc
some_config f (x ∷ xs) configs is h = rw (← is) refl

pub no_config : {X K : Type 0} (f : X → List K) (xs : List X) (configs : List (List K)) → map f xs ≡ configs
    → (length xs == 0) ≡ true → has_config configs ≡ false
no_config f [] configs is h = rw (← is) refl
no_config f (x ∷ xs) configs is h =
    let n : length (x ∷ xs) ≡ suc (length xs) = refl in
    let z : length (x ∷ xs) ≡ 0 = grind (arith, nat_tests) in
    absurd (omega arith)

-- what holds if no membership is refused
pub not_decided : {X K : Type 0} (f : X → List K) (xs : List X) (configs : List (List K)) → map f xs ≡ configs
    → (length xs == 0) ≡ true → has_config configs ≡ true → ⊥
not_decided f xs configs is none some = true≢false (sym some ∙ no_config f xs configs is none)
