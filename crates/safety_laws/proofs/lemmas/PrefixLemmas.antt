-- Prefixes of logs, and their last terms.
use Rattle.std.specs.Prelude.{◌≡◌, ◌<◌, ◌≤◌, ℕ, List, [], ◌∷◌, ◌++◌, length, take, drop}
use Rattle.std.proofs.Common.{refl, sym, ap, ◌∙◌, arith, append_assoc}
use Rattle.std.proofs.lemmas.List.{take-append-drop, take-append-le, take-take, take_at, length-append}
use Rattle.std.proofs.lemmas.List.Prefix.{front_fits, front_rest}
use Rattle.safety_laws.specs.Log.{AllOfTerm, Entry, IsPrefix, last_term, last_term_or}

module _ {T D : Type 0} where
  pub append-nil : (a : List (Entry T D)) → a ++ [] ≡ a
  append-nil [] = refl
  append-nil (e ∷ a) = ap (λ (x : List (Entry T D)). e ∷ x) (append-nil a)

  pub prefix_itself : (a : List (Entry T D)) → IsPrefix a a
  prefix_itself a = record { rest = []; is = sym (append-nil a) }

  pub prefix_trans : {a b c : List (Entry T D)} → IsPrefix a b → IsPrefix b c → IsPrefix a c
  prefix_trans {a} {b} {c} p q = record {
    rest = p.rest ++ q.rest;
    is = q.is ∙ ap (λ (x : List (Entry T D)). x ++ q.rest) p.is ∙ append_assoc a p.rest q.rest;
  }

  pub prefix_take : (n : ℕ) (a : List (Entry T D)) → IsPrefix (take n a) a
  prefix_take n a = record { rest = drop n a; is = sym (take-append-drop n a) }

  pub prefix_length : {a b : List (Entry T D)} → IsPrefix a b → length a ≤ length b
  prefix_length {a} {b} p = front_fits b a p.rest p.is

  pub take_prefix : {a b : List (Entry T D)} → IsPrefix a b → take (length a) b ≡ a
  take_prefix {a} {b} p = rw p.is (take_at a p.rest (length a) refl)

  pub prefix_within : {a b c : List (Entry T D)} → IsPrefix a c → IsPrefix b c → length a ≤ length b
      → IsPrefix a b
  prefix_within {a} {b} {c} p q le =
      let e : take (length a) b ≡ a =
      ap (λ (x : List (Entry T D)). take (length a) x) (sym (take_prefix q))
      ∙ take-take (length a) (length b) c le ∙ take_prefix p in
      rw e at (prefix_take (length a) b)

  pub prefix_same : {a b c : List (Entry T D)} → IsPrefix a c → IsPrefix b c → length a ≡ length b
      → a ≡ b
  prefix_same {a} {b} {c} p q e =
      sym (take_prefix p) ∙ ap (λ (n : ℕ). take n c) e ∙ take_prefix q

  pub take_within : (n m : ℕ) (a : List (Entry T D)) → n ≤ m → IsPrefix (take n a) (take m a)
  take_within n m a le = rw (take-take n m a le) at (prefix_take n (take m a))

  pub take_of_prefix : (n : ℕ) (a b : List (Entry T D)) → IsPrefix a b → n ≤ length a
      → take n b ≡ take n a
  take_of_prefix n a b st le =
      ap (λ (l : List (Entry T D)). take n l) st.is ∙ take-append-le n a st.rest le

  pub empty_last : (rank : T → ℕ) (a : List (Entry T D)) → length a ≡ 0 → last_term rank a ≡ 0
  empty_last rank [] e = refl
  empty_last rank (x ∷ a) e = absurd (omega arith)

  pub last_term_or-append : (rank : T → ℕ) (t : ℕ) (a b : List (Entry T D))
      → last_term_or rank t (a ++ b) ≡ last_term_or rank (last_term_or rank t a) b
  last_term_or-append rank t [] b = refl
  last_term_or-append rank t (e ∷ a) b = last_term_or-append rank (rank e.term) a b

  last_of_term : (rank : T → ℕ) (t : T) (d : ℕ) (a : List (Entry T D)) → AllOfTerm t a → 0 < length a
      → last_term_or rank d a ≡ rank t
  last_of_term rank t d [] are lt = absurd (omega arith)
  last_of_term rank t d (e ∷ []) are lt = ap rank are.0
  last_of_term rank t d (e ∷ f ∷ a) are lt =
      last_of_term rank t (rank e.term) (f ∷ a) are.1 (omega arith)

  AllOfTerm-start : (t : T) (a b : List (Entry T D)) → AllOfTerm t (a ++ b) → AllOfTerm t a
  AllOfTerm-start t [] b are = tt
  AllOfTerm-start t (e ∷ a) b are = (are.0, AllOfTerm-start t a b are.1)

  -- a prefix that is longer than the log with which a leader was elected ends in the leader's term
  pub last_added : (rank : T → ℕ) (t : T) (candidate_log added : List (Entry T D)) {written : List (Entry T D)}
      → written ≡ candidate_log ++ added → AllOfTerm t added → {q : List (Entry T D)} → IsPrefix q written
      → length candidate_log < length q → last_term rank q ≡ rank t
  last_added rank t candidate_log added {written} is are {q} p lt =
      let o : IsPrefix candidate_log q =
      prefix_within (let s : IsPrefix candidate_log written = record { rest = added; is = is } in s) p
      (omega arith) in
      let e : added ≡ o.rest ++ p.rest =
      sym (front_rest written candidate_log added is)
      ∙ front_rest written candidate_log (o.rest ++ p.rest)
      (p.is ∙ ap (λ (x : List (Entry T D)). x ++ p.rest) o.is ∙ append_assoc candidate_log o.rest p.rest) in
      let rest_are : AllOfTerm t o.rest = AllOfTerm-start t o.rest p.rest (rw e at are) in
      let long : 0 < length o.rest = omega (arith, ap length o.is, length-append candidate_log o.rest) in
      ap (last_term rank) o.is ∙ last_term_or-append rank 0 candidate_log o.rest
      ∙ last_of_term rank t (last_term rank candidate_log) o.rest rest_are long
