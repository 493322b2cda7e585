-- Loops over lists, and indexes that they find.
use Rattle.std.specs.Prelude.{◌≡◌, ◌+◌, ◌<◌, ◌≤◌, ℕ, zero, suc, nat_lt, Bool, true, false, ◌&&◌, ◌||◌, nat_le, if◌then◌else◌, Some, None, List, [], ◌∷◌, ◌++◌, length, drop, get_or}
use Rattle.std.specs.List.{list_any, position, position_or_len}
use Rattle.std.specs.Option.{unwrap_or}
use Rattle.std.proofs.Common.{refl, sym, ap, subst, ◌∙◌, arith}
use Rattle.std.proofs.lemmas.Bool.{ltb-true, or_right}
use Rattle.std.proofs.lemmas.List.{drop_all, drop_more}
use Rattle.std.proofs.lemmas.List.Folds.{list_any-append}
use Rattle.std.proofs.Math.Bool.{or-false}
use Rattle.trace_checker.specs.Inner.CheckerState.{has_acked_to}
use Rattle.trace_checker.specs.declared.checker.leader.Acked.{Acked}

-- if an element fails, some element passes exactly if one of the later elements does
pub any_later : {X : Type 0} {r : Bool} (p : X → Bool) (xs : List X) (i : ℕ) (x : X) → i < length xs
    → x ≡ get_or xs i x → p x ≡ false → list_any p (drop i xs) ≡ r → list_any p (drop (i + 1) xs) ≡ r
any_later p xs i x h is fails so_far =
    ap (λ b. b || list_any p (drop (i + 1) xs)) (sym fails ∙ ap p is)
    ∙ ap (list_any p) (sym (drop_more xs i x h)) ∙ so_far

-- if an element passes, some element passes
pub any_here : {X : Type 0} {r : Bool} (p : X → Bool) (xs : List X) (i : ℕ) (x : X) → i < length xs
    → x ≡ get_or xs i x → p x ≡ true → list_any p (drop i xs) ≡ r → true ≡ r
any_here p xs i x h is passes so_far =
    ap (λ b. b || list_any p (drop (i + 1) xs)) (sym passes ∙ ap p is)
    ∙ ap (list_any p) (sym (drop_more xs i x h)) ∙ so_far

-- if no element is left and none has passed, none passes
pub any_nowhere : {X : Type 0} {r : Bool} (p : X → Bool) (xs : List X) (i : ℕ) → length xs ≤ i
    → list_any p (drop i xs) ≡ r → false ≡ r
any_nowhere p xs i h so_far = sym (ap (list_any p) (drop_all i xs h)) ∙ so_far

-- if one of the later elements passes, some element passes
pub any_after : {X : Type 0} (p : X → Bool) (xs : List X) (i : ℕ) → true ≡ list_any p (drop i xs)
    → true ≡ list_any p xs
any_after p [] zero h = h
any_after p [] (suc i) h = h
any_after p (x ∷ xs) zero h = h
any_after p (x ∷ xs) (suc i) h =
    sym (or_right (p x) (list_any p xs) (sym (any_after p xs i h)))

-- what servers have acknowledged, after an acknowledgement is added
pub acked_push : {N : Type 0} (eq : N → N → Bool) (acks new : List (Acked N)) (server : N) (len : ℕ)
    → new ≡ acks ++ record { server = server; len = len } ∷ []
    → (v : N) (n : ℕ)
    → has_acked_to eq new v n ≡ (has_acked_to eq acks v n || (eq server v && nat_le n len))
acked_push {N} eq acks new server len is v n =
    ap (λ l. has_acked_to eq l v n) is
    ∙ list_any-append (λ (a : Acked N). eq a.server v && nat_le n a.len) acks
    (record { server = server; len = len } ∷ [])
    ∙ ap (λ b. has_acked_to eq acks v n || b) (or-false (eq server v && nat_le n len))

-- a position that is found is within the list
pub found_within : {X : Type 0} (p : X → Bool) (xs : List X) (i : ℕ) → position p xs ≡ Some i
    → i < length xs
found_within p xs i is = within (nat_lt (position_or_len p xs) (length xs)) refl is
  where
    within : (b : Bool) → nat_lt (position_or_len p xs) (length xs) ≡ b
        → (if b then Some (position_or_len p xs) else None) ≡ Some i → i < length xs
    within true e h =
        let same : position_or_len p xs ≡ i = ap (λ o. unwrap_or o (position_or_len p xs)) h in
        omega (arith, ltb-true (position_or_len p xs) (length xs) e)
    within false e h = absurd (cc)

-- an index that is within the items of a vector is within its length
pub within_len : (i len n : ℕ) → len ≡ n → i < n → i < len
within_len i len n is h = subst (λ (k : ℕ). i < k) (sym is) h
