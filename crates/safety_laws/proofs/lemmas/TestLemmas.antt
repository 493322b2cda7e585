-- The tests of logs and of one server's events are right.
use Rattle.std.specs.Prelude.{◌≡◌, ◌⊎◌, ◌≤◌, ℕ, Bool, true, false, not, ◌&&◌, ◌||◌, nat_lt, nat_le, nat_eq, Option, Some, None, is_none, List, [], ◌∷◌, ◌++◌, length}
use Rattle.std.specs.Cmp.{first_so, second_so}
use Rattle.std.proofs.Common.{refl, sym, ap, inl, inr, arith, ltb-true}
use Rattle.std.proofs.Math.Nat.{le-min, le-max_left, le-max_right}
use Rattle.std.proofs.lemmas.Bool.{eqb-true, leb-true, and_from}
use Rattle.safety_laws.specs.Log.{Entry, IsPrefix, IsUpToDate, last_term}
use Rattle.safety_laws.specs.Events.{Ack, Append, Event, GrantVote, LateVote, HasKept, IsDurable, Restart, log_after, term_after}
use Rattle.safety_laws.specs.Facts.{HasAcked, HasVoted}
use Rattle.safety_laws.specs.Configs.{HoldNoConfig}
use Rattle.safety_laws.specs.AppliedConfigs.{HoldAtMostOneConfig}
use Rattle.safety_laws.specs.AppliedTrace.{hold_at_most_one}
use Rattle.safety_laws.specs.Trace.{AreExact, Tests, common_prefix, durable, has_acked, has_kept, has_voted, hold_no_config, is_prefix, is_up_to_date, same_entry, same_leader}
use Rattle.safety_laws.proofs.lemmas.PrefixLemmas.{prefix_length}
use Rattle.safety_laws.proofs.lemmas.ServerLemmas.{durable_now}

pub or_cases : (a b : Bool) → (a || b) ≡ true → (a ≡ true) ⊎ (b ≡ true)
or_cases true b e = inl refl
or_cases false b e = inr e

pub not_so : (b : Bool) → not b ≡ true → b ≡ true → ⊥
not_so true e f = absurd (cc)
not_so false e f = absurd (cc)

module _ {T ID D M : Type 0} (k : Tests T ID D M) (exact : AreExact k) where
  -- leaders
  pub leader_right : (t u : T) (c d : ID) → same_leader k t c u d ≡ true → (t ≡ u) × (c ≡ d)
  leader_right t u c d e = (
    exact.same_term t u (first_so (k.same_term t u) (k.same_id c d) e),
    exact.same_id c d (second_so (k.same_term t u) (k.same_id c d) e),
  )

  pub leader_from : (t u : T) (c d : ID) → t ≡ u → c ≡ d → same_leader k t c u d ≡ true
  leader_from t u c d e f =
      and_from (k.same_term t u) (k.same_id c d) (rw e (exact.term_itself u)) (rw f (exact.id_itself d))

  -- logs
  pub entry_right : (e f : Entry T D) → same_entry k e f ≡ true → e ≡ f
  entry_right e f x =
      let a : e.term ≡ f.term =
      exact.same_term e.term f.term
      (first_so (k.same_term e.term f.term) (k.same_content e.content f.content) x) in
      let b : e.content ≡ f.content =
      exact.same_content e.content f.content
      (second_so (k.same_term e.term f.term) (k.same_content e.content f.content) x) in
      λ i. record { term = a i; content = b i }

  pub prefix_right : (a b : List (Entry T D)) → is_prefix k a b ≡ true → IsPrefix a b
  prefix_right [] b e = record { rest = b; is = refl }
  prefix_right (x ∷ a) [] e = absurd (cc)
  prefix_right (x ∷ a) (y ∷ b) e =
      let f : x ≡ y = entry_right x y (first_so (same_entry k x y) (is_prefix k a b) e) in
      let s : IsPrefix a b = prefix_right a b (second_so (same_entry k x y) (is_prefix k a b) e) in
      record { rest = s.rest; is = λ i. sym f i ∷ s.is i }

  pub entry_itself : (e : Entry T D) → same_entry k e e ≡ true
  entry_itself e =
      and_from (k.same_term e.term e.term) (k.same_content e.content e.content) (exact.term_itself e.term)
      (exact.content_itself e.content)

  common_both : (p x y : List (Entry T D)) → IsPrefix p (common_prefix k (p ++ x) (p ++ y))
  common_both [] x y = record { rest = common_prefix k x y; is = refl }
  common_both (e ∷ p) x y =
      let s : IsPrefix p (common_prefix k (p ++ x) (p ++ y)) = common_both p x y in
      let t : IsPrefix (e ∷ p) (e ∷ common_prefix k (p ++ x) (p ++ y)) =
      record { rest = s.rest; is = ap (λ (l : List (Entry T D)). e ∷ l) s.is } in
      rw (entry_itself e) t

  pub common_right : {p a b : List (Entry T D)} → IsPrefix p a → IsPrefix p b
      → IsPrefix p (common_prefix k a b)
  common_right {p} {a} {b} x y = rw (x.is, y.is) (common_both p x.rest y.rest)

  pub up_to_date_right : (a b : List (Entry T D)) → is_up_to_date k a b ≡ true
      → IsUpToDate k.rank a b
  up_to_date_right a b e =
      go (or_cases (nat_lt (last_term k.rank b) (last_term k.rank a))
      (nat_eq (last_term k.rank b) (last_term k.rank a) && nat_le (length b) (length a)) e)
    where
      go : ((nat_lt (last_term k.rank b) (last_term k.rank a) ≡ true)
          ⊎ ((nat_eq (last_term k.rank b) (last_term k.rank a) && nat_le (length b) (length a)) ≡ true))
          → IsUpToDate k.rank a b
      go (inl x) = inl (ltb-true (last_term k.rank b) (last_term k.rank a) x)
      go (inr x) =
          inr (
            eqb-true (last_term k.rank b) (last_term k.rank a)
                (first_so (nat_eq (last_term k.rank b) (last_term k.rank a)) (nat_le (length b) (length a)) x),
            leb-true (length b) (length a)
                (second_so (nat_eq (last_term k.rank b) (last_term k.rank a)) (nat_le (length b) (length a)) x),
          )

  none_of : (o : Option M) → is_none o ≡ true → o ≡ None
  none_of None e = refl
  none_of (Some m) e = absurd (cc)

  pub no_config_right : (es : List (Entry T D)) → hold_no_config k es ≡ true
      → HoldNoConfig k.config_of es
  no_config_right [] e = tt
  no_config_right (x ∷ es) e = (
    none_of (k.config_of x.content)
        (first_so (is_none (k.config_of x.content)) (hold_no_config k es) e),
    no_config_right es (second_so (is_none (k.config_of x.content)) (hold_no_config k es) e),
  )

  pub at_most_one_right : (es : List (Entry T D)) → hold_at_most_one k es ≡ true
      → HoldAtMostOneConfig k.config_of es
  at_most_one_right [] e = tt
  at_most_one_right (x ∷ es) e =
      go (or_cases (hold_no_config k es) (is_none (k.config_of x.content) && hold_at_most_one k es) e)
      (at_most_one_right es)
    where
      go : ((hold_no_config k es ≡ true) ⊎ ((is_none (k.config_of x.content) && hold_at_most_one k es) ≡ true))
          → (hold_at_most_one k es ≡ true → HoldAtMostOneConfig k.config_of es) → HoldAtMostOneConfig k.config_of (x ∷ es)
      go (inl f) rec = inl (no_config_right es f)
      go (inr f) rec =
          inr (
            none_of (k.config_of x.content) (first_so (is_none (k.config_of x.content)) (hold_at_most_one k es) f),
            rec (second_so (is_none (k.config_of x.content)) (hold_at_most_one k es) f),
          )

  -- events of one server
  pub voted_right : (t : T) (c : ID) (es : List (Event T ID D)) → has_voted k t c es ≡ true
      → HasVoted t c es
  voted_right t c [] e = absurd (cc)
  voted_right t c (GrantVote u d ∷ es) e =
      go (or_cases (same_leader k u d t c) (has_voted k t c es) e) (voted_right t c es)
    where
      go : ((same_leader k u d t c ≡ true) ⊎ (has_voted k t c es ≡ true))
          → (has_voted k t c es ≡ true → HasVoted t c es)
          → ((u ≡ t) × (d ≡ c)) ⊎ HasVoted t c es
      go (inl x) rec = inl (leader_right u t d c x)
      go (inr x) rec = inr (rec x)
  voted_right t c (LateVote u d ∷ es) e = voted_right t c es e
  voted_right t c (Append u d log ∷ es) e = voted_right t c es e
  voted_right t c (Ack u d n ∷ es) e = voted_right t c es e
  voted_right t c (Restart log ∷ es) e = voted_right t c es e

  pub acked_right : (t : T) (c : ID) (n : ℕ) (es : List (Event T ID D))
      → has_acked k t c n es ≡ true → HasAcked t c n es
  acked_right t c n [] e = absurd (cc)
  acked_right t c n (GrantVote u d ∷ es) e = acked_right t c n es e
  acked_right t c n (LateVote u d ∷ es) e = acked_right t c n es e
  acked_right t c n (Append u d log ∷ es) e = acked_right t c n es e
  acked_right t c n (Ack u d m ∷ es) e =
      go (or_cases (same_leader k u d t c && nat_le n m) (has_acked k t c n es) e) (acked_right t c n es)
    where
      go : (((same_leader k u d t c && nat_le n m) ≡ true) ⊎ (has_acked k t c n es ≡ true))
          → (has_acked k t c n es ≡ true → HasAcked t c n es)
          → ((u ≡ t) × (d ≡ c) × (n ≤ m)) ⊎ HasAcked t c n es
      go (inl x) rec =
          let y = leader_right u t d c (first_so (same_leader k u d t c) (nat_le n m) x) in
          inl (y.0, y.1, leb-true n m (second_so (same_leader k u d t c) (nat_le n m) x))
      go (inr x) rec = inr (rec x)
  acked_right t c n (Restart log ∷ es) e = acked_right t c n es e

  pub kept_right : (r : ℕ) (p : List (Entry T D)) (es : List (Event T ID D))
      → has_kept k r p es ≡ true → HasKept k.rank r p es
  kept_right r p [] e = prefix_right p [] e
  kept_right r p (x ∷ es) e =
      let a : Bool = is_prefix k p (log_after (x ∷ es)) in
      let b : Bool = nat_le (term_after k.rank (x ∷ es)) r in (
        prefix_right p (log_after (x ∷ es)) (first_so a (b || has_kept k r p es) e),
        go (or_cases b (has_kept k r p es) (second_so a (b || has_kept k r p es) e)) (kept_right r p es),
      )
    where
      go : ((nat_le (term_after k.rank (x ∷ es)) r ≡ true) ⊎ (has_kept k r p es ≡ true))
          → (has_kept k r p es ≡ true → HasKept k.rank r p es)
          → (term_after k.rank (x ∷ es) ≤ r) ⊎ HasKept k.rank r p es
      go (inl y) rec = inl (leb-true (term_after k.rank (x ∷ es)) r y)
      go (inr y) rec = inr (rec y)

  -- no more entries are durable than the number says
  pub durable_within : (es : List (Event T ID D)) (p : List (Entry T D)) → IsDurable p es
      → length p ≤ durable k es
  durable_within [] p x = prefix_length x
  durable_within (GrantVote t c ∷ es) p x = durable_within es p x
  durable_within (LateVote t c ∷ es) p x = durable_within es p x
  durable_within (Append t c log ∷ es) p x =
      le-min (durable_within es p x.1) (prefix_length (common_right (durable_now es p x.1) x.0))
  durable_within (Ack t c n ∷ es) p (inl x) = omega (arith, x.1, le-max_left n (durable k es))
  durable_within (Ack t c n ∷ es) p (inr x) =
      omega (arith, durable_within es p x, le-max_right n (durable k es))
  durable_within (Restart log ∷ es) p x =
      le-min (durable_within es p x.1) (prefix_length (common_right (durable_now es p x.1) x.0))
