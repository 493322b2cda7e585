-- How the terms of a log are read, and what one entry more makes of `after_append_entries`.
use Rattle.std.specs.Prelude.{◌≡◌, ◌-◌, ◌+◌, ◌<◌, ◌≤◌, ℕ, zero, suc, Bool, true, false, nat_lt, nat_eq, List, [], ◌∷◌, ◌++◌, length, take, drop, get_or}
use Rattle.std.specs.Cmp.{first_so, second_so}
use Rattle.std.specs.Cmp.Derive.{both_true}
use Rattle.std.proofs.Common.{refl, sym, ap, ◌∙◌, arith, ltb-true, lt-ltb}
use Rattle.std.proofs.lemmas.List.{map-append, take-map, take_all}
use Rattle.std.proofs.lemmas.Bool.{eqb-true, eq-eqb}
use Rattle.tests_laws.specs.declared.follower.LogEntry.{LogEntry}
use Rattle.tests_laws.specs.Follower.{entry_of, entries_of, number, unset, IsShared, MayTake}
use Rattle.safety_laws.specs.Log.{Entry, last_term, last_term_or}
use Rattle.safety_laws.specs.AppendEntries.{ConsistencyChecksSuffice, after_append_entries, has_next}
use Rattle.safety_laws.specs.Events.{log_after}

pub entries_of_length : (l : List LogEntry) → length (entries_of l) ≡ length l
entries_of_length [] = refl
entries_of_length (e ∷ l) = ap suc (entries_of_length l)

term_from : (t : ℕ) (l : List LogEntry) (i : ℕ) → i < length l
    → last_term_or number t (take (suc i) (entries_of l)) ≡ (get_or l i unset).term
term_from t [] i lt = absurd (omega arith)
term_from t (e ∷ l) zero lt = refl
term_from t (e ∷ l) (suc i) lt = term_from e.term l i (omega arith)

-- the term at a place is there, or it is not
pub there : (l : List LogEntry) (i t : ℕ) → i < length l → (get_or l i unset).term ≡ t
    → has_next number i (entries_of l) t ≡ true
there l i t lt e =
    both_true (lt-ltb i (length (entries_of l)) (omega (arith, entries_of_length l, lt)))
    (eq-eqb (last_term number (take (suc i) (entries_of l))) t (term_from 0 l i lt ∙ e))

not_true : (b : Bool) → (b ≡ true → ⊥) → b ≡ false
not_true true h = absurd (h refl)
not_true false h = refl

pub absent : (l : List LogEntry) (i t : ℕ) → (i < length l → (get_or l i unset).term ≡ t → ⊥)
    → has_next number i (entries_of l) t ≡ false
absent l i t h =
    not_true (has_next number i (entries_of l) t)
    (λ b.
    let lt : i < length l =
    omega (
      arith,
      entries_of_length l,
      ltb-true i (length (entries_of l))
          (first_so (nat_lt i (length (entries_of l))) (nat_eq (last_term number (take (suc i) (entries_of l))) t) b),
    ) in
    h lt
    (sym (term_from 0 l i lt)
    ∙ eqb-true (last_term number (take (suc i) (entries_of l))) t
    (second_so (nat_lt i (length (entries_of l))) (nat_eq (last_term number (take (suc i) (entries_of l))) t) b)))

pub pass : (l es : List LogEntry) (j i : ℕ) → i < length es
    → has_next number j (entries_of l) (get_or es i unset).term ≡ true
    → after_append_entries number j (entries_of l) (entries_of (drop i es))
    ≡ after_append_entries number (suc j) (entries_of l) (entries_of (drop (suc i) es))
pass l [] j i lt b = absurd (omega arith)
pass l (e ∷ es) j zero lt b = rw b refl
pass l (e ∷ es) j (suc i) lt b = pass l es j i (omega arith) b

pub stop : (l es : List LogEntry) (j i : ℕ) → i < length es
    → has_next number j (entries_of l) (get_or es i unset).term ≡ false
    → after_append_entries number j (entries_of l) (entries_of (drop i es))
    ≡ take j (entries_of l) ++ entries_of (drop i es)
stop l [] j i lt b = absurd (omega arith)
stop l (e ∷ es) j zero lt b = rw b refl
stop l (e ∷ es) j (suc i) lt b = stop l es j i (omega arith) b

pub shared_more : (l es : List LogEntry) (from i : ℕ) → i < length es → from + i < length l
    → (get_or l (from + i) unset).term ≡ (get_or es i unset).term
    → after_append_entries number from (entries_of l) (entries_of es)
    ≡ after_append_entries number (from + i) (entries_of l) (entries_of (drop i es))
    → after_append_entries number from (entries_of l) (entries_of es)
    ≡ after_append_entries number (from + (i + 1)) (entries_of l) (entries_of (drop (i + 1) es))
shared_more l es from i lt fits same so_far =
    let a : suc (from + i) ≡ from + (i + 1) = omega arith in
    let b : suc i ≡ i + 1 = omega arith in
    rw (a, b) at
    (so_far ∙ pass l es (from + i) i lt (there l (from + i) (get_or es i unset).term fits same))

pub taken_over : (l es out : List LogEntry) (from k : ℕ) → k < length es → IsShared l from es k
    → out ≡ take (from + k) l ++ drop k es
    → entries_of out ≡ after_append_entries number from (entries_of l) (entries_of es)
taken_over l es out from k lt x is =
    ap entries_of is ∙ map-append entry_of (take (from + k) l) (drop k es)
    ∙ ap (λ (y : List (Entry ℕ ℕ)). y ++ entries_of (drop k es)) (sym (take-map entry_of (from + k) l))
    ∙ sym (stop l es (from + k) k lt (x.next lt)) ∙ sym x.rest

pub may_take : ConsistencyChecksSuffice ℕ ℕ ℕ → (old : List LogEntry) (from : ℕ)
    (es new : List LogEntry) → from ≤ length old
    → entries_of new ≡ after_append_entries number from (entries_of old) (entries_of es)
    → MayTake (entries_of old) from (entries_of es) (entries_of new)
may_take law old from es new fits is quorum h follows safe s ds t c ok log term sent last =
    let le : from ≤ length (log_after ds) = omega (arith, fits, ap length log, entries_of_length old) in
    let same : last_term number (take from (log_after ds)) ≡ last_term number (take from (h.leader_log t c)) =
    ap (λ (l : List (Entry ℕ ℕ)). last_term number (take from l)) log ∙ last in
    rw (is, ← log)
    ((law number quorum h follows safe).append_entries s ds t c from (entries_of es) ok term sent le same)

pub last_is : (l : List LogEntry) → 0 < length l
    → (get_or l (length l - 1) unset).term ≡ last_term number (entries_of l)
last_is l some =
    let e : suc (length l - 1) ≡ length (entries_of l) = omega (arith, entries_of_length l) in
    sym (term_from 0 l (length l - 1) (omega arith))
    ∙ ap (last_term number)
    (ap (λ (n : ℕ). take n (entries_of l)) e ∙ take_all (length (entries_of l)) (entries_of l) (omega arith))
