-- The memberships of a server are those of its log.
use Rattle.std.specs.Prelude.{◌≡◌, ◌⊎◌, ◌-◌, ◌<◌, ◌≤◌, ℕ, zero, suc, Bool, true, false, Option, Some, None, List, [], ◌∷◌, ◌++◌, length, take, drop, nat_lt, if◌then◌else◌}
use Rattle.std.specs.Option.{unwrap_or}
use Rattle.std.proofs.Common.{refl, sym, ap, ◌∙◌, inl, inr, arith}
use Rattle.std.proofs.lemmas.Bool.Decides.{nat_tests}
use Rattle.std.proofs.lemmas.List.{length-take, take-take}
use Rattle.safety_laws.specs.Log.{Entry, IsPrefix}
use Rattle.safety_laws.specs.Configs.{HoldNoConfig, effective_config}
use Rattle.steps_safety.proofs.Members.{Members, after_cut, after_member, both_are, settled}
use Rattle.safety_laws.proofs.lemmas.ConfigLemmas.{place, same_named, upto, upto_fits}
use Rattle.safety_laws.proofs.lemmas.PrefixLemmas.{prefix_take, take_within}

module _ {M : Type 0} where
  -- a cut leaves the committed one
  pub cut_keeps : (n : ℕ) (m : Members M) → (after_cut n m).committed_at ≡ m.committed_at
  cut_keeps n m = by (nat_lt n m.effective_at)
    where
      by : (b : Bool) → (if b then record {
        committed = m.committed;
        committed_at = m.committed_at;
        effective = m.committed;
        effective_at = m.committed_at;
      } else m).committed_at ≡ m.committed_at
      by true = refl
      by false = refl

module _ {T D M : Type 0} (config_of : D → Option M) (initial : M) where
  -- the log before the last entry that holds a config
  abbrev pub earlier_part : List (Entry T D) → List (Entry T D)
  earlier_part log = take (upto config_of log - 1) log

  -- the effective config is the last one in the log. The committed one is that one too, or the one before it
  pub record ShowsMembers (log : List (Entry T D)) (m : Members M) : Type 0 where
    pub at : m.effective_at ≡ upto config_of log
    pub is : m.effective ≡ effective_config config_of initial log
    pub before : ((m.committed_at ≡ upto config_of log) × (m.committed ≡ effective_config config_of initial log))
        ⊎ ((m.committed_at ≡ upto config_of (earlier_part log))
        × (m.committed ≡ effective_config config_of initial (earlier_part log)))

  pub none_past : (n : ℕ) (l : List (Entry T D)) → upto config_of l ≤ n → HoldNoConfig config_of (drop n l)
  none_past zero [] le = tt
  none_past zero (e ∷ l) le = let p = head_none (upto config_of l) (config_of e.content) le in (p.1, none_past zero l (omega (arith, p.0)))
    where
      head_none : (n : ℕ) (o : Option M) → place n o ≤ 0 → (n ≡ 0) × (o ≡ None)
      head_none zero None le = (refl, refl)
      head_none zero (Some m) le = absurd (omega arith)
      head_none (suc n) o le = absurd (omega arith)
  none_past (suc n) [] le = tt
  none_past (suc n) (e ∷ l) le = none_past n l (tail_le (upto config_of l) (config_of e.content) le)
    where
      tail_le : (k : ℕ) (o : Option M) → place k o ≤ suc n → k ≤ n
      tail_le zero o le = omega arith
      tail_le (suc k) o le = omega (arith, le)

  -- ---- the log is cut

  pub cut_shows : (log : List (Entry T D)) (m : Members M) (n : ℕ) → ShowsMembers log m → m.committed_at ≤ n
      → ShowsMembers (take n log) (after_cut n m)
  cut_shows log m n s known = by (nat_lt n m.effective_at) refl
    where
      fits : upto config_of log ≤ length log
      fits = upto_fits config_of log

      by : (b : Bool) → nat_lt n m.effective_at ≡ b
          → ShowsMembers (take n log) (if b then record {
            committed = m.committed;
            committed_at = m.committed_at;
            effective = m.committed;
            effective_at = m.committed_at;
          } else m)
      by true e = go s.before
        where
          below : n < upto config_of log
          below = let lt : n < m.effective_at = grind (arith, nat_tests) in omega (arith, lt, s.at)

          go : ((m.committed_at ≡ upto config_of log) × (m.committed ≡ effective_config config_of initial log))
              ⊎ ((m.committed_at ≡ upto config_of (earlier_part log))
              × (m.committed ≡ effective_config config_of initial (earlier_part log)))
              → ShowsMembers (take n log) (record {
                committed = m.committed;
                committed_at = m.committed_at;
                effective = m.committed;
                effective_at = m.committed_at;
              })
          go (inl same) = absurd (omega (arith, same.0, below, known))
          go (inr b) =
              let st : IsPrefix (take n log) (earlier_part log) = take_within n (upto config_of log - 1) log (omega (arith, below)) in
              let named = same_named config_of initial st (omega (arith, b.0, known, length-take n log, below, fits)) in
              record {
                at = b.0 ∙ sym named.place;
                is = b.1 ∙ sym named.members;
                before = inl (b.0 ∙ sym named.place, b.1 ∙ sym named.members);
              }
      by false e =
          let le : m.effective_at ≤ n = grind (arith, nat_tests) in
          let covers : upto config_of log ≤ length (take n log) = omega (arith, le, length-take n log, s.at, fits) in
          let named = same_named config_of initial (prefix_take n log) covers in
          let part : earlier_part (take n log) ≡ earlier_part log =
          ap (λ (k : ℕ). take (k - 1) (take n log)) named.place
          ∙ take-take (upto config_of log - 1) n log (omega (arith, le, s.at)) in
          record {
            at = s.at ∙ sym named.place;
            is = s.is ∙ sym named.members;
            before = rw (part, named.place, named.members) s.before;
          }

  -- ---- an entry is appended

  snoc_none : (i : M) (l : List (Entry T D)) (e : Entry T D) → config_of e.content ≡ None
      → (upto config_of (l ++ e ∷ []) ≡ upto config_of l) × (effective_config config_of i (l ++ e ∷ []) ≡ effective_config config_of i l)
  snoc_none i [] e none = rw none (refl, refl)
  snoc_none i (x ∷ l) e none =
      let r = snoc_none (unwrap_or (config_of x.content) i) l e none in
      (ap (λ (n : ℕ). place n (config_of x.content)) r.0, r.1)

  snoc_some : (i : M) (l : List (Entry T D)) (e : Entry T D) (new : M) → config_of e.content ≡ Some new
      → (upto config_of (l ++ e ∷ []) ≡ suc (length l)) × (effective_config config_of i (l ++ e ∷ []) ≡ new)
  snoc_some i [] e new is = rw is (refl, refl)
  snoc_some i (x ∷ l) e new is =
      let r = snoc_some (unwrap_or (config_of x.content) i) l e new is in
      (ap (λ (n : ℕ). place n (config_of x.content)) r.0, r.1)

  pub take_snoc : (l : List (Entry T D)) (e : Entry T D) (n : ℕ) → n ≤ length l → take n (l ++ e ∷ []) ≡ take n l
  take_snoc l e zero le = refl
  take_snoc [] e (suc n) le = absurd (omega (arith, le))
  take_snoc (x ∷ l) e (suc n) le = ap (λ (r : List (Entry T D)). x ∷ r) (take_snoc l e n (omega (arith, le)))

  pub take_all : (l : List (Entry T D)) → take (length l) l ≡ l
  take_all [] = refl
  take_all (x ∷ l) = ap (λ (r : List (Entry T D)). x ∷ r) (take_all l)

  -- the committed config is the one before the last one
  abbrev pub IsBefore : List (Entry T D) → Members M → Type 0
  IsBefore log m = m.committed_at ≡ upto config_of (earlier_part log)

  pub record Appended (log : List (Entry T D)) (from m : Members M) : Type 0 where
    pub shows : ShowsMembers log m
    pub committed : (m.committed_at ≡ from.committed_at) ⊎ IsBefore log m

  pub member_shows : (log : List (Entry T D)) (e : Entry T D) (from m : Members M) → Appended log from m
      → Appended (log ++ e ∷ []) from (after_member (suc (length log)) (config_of e.content) m)
  member_shows log e from m a = by (config_of e.content) refl
    where
      by : (o : Option M) → config_of e.content ≡ o → Appended (log ++ e ∷ []) from (after_member (suc (length log)) o m)
      by None none =
          let r = snoc_none initial log e none in
          let part : earlier_part (log ++ e ∷ []) ≡ earlier_part log =
          ap (λ (k : ℕ). take (k - 1) (log ++ e ∷ [])) r.0
          ∙ take_snoc log e (upto config_of log - 1) (omega (arith, upto_fits config_of log)) in
          record {
            shows = record {
              at = a.shows.at ∙ sym r.0;
              is = a.shows.is ∙ sym r.1;
              before = rw (part, r.0, r.1) a.shows.before;
            };
            committed = rw part a.committed;
          }
      by (Some new) is =
          let r = snoc_some initial log e new is in
          let part : earlier_part (log ++ e ∷ []) ≡ log =
          ap (λ (k : ℕ). take (k - 1) (log ++ e ∷ [])) r.0
          ∙ ap (λ (k : ℕ). take k (log ++ e ∷ [])) (let one : suc (length log) - 1 ≡ length log = omega arith in one)
          ∙ take_snoc log e (length log) (omega arith) ∙ take_all log in
          record {
            shows = record {
              at = sym r.0;
              is = sym r.1;
              before = inr (
                a.shows.at ∙ ap (upto config_of) (sym part),
                a.shows.is
                    ∙ ap (effective_config config_of initial) (sym part),
              );
            };
            committed = inr (a.shows.at ∙ ap (upto config_of) (sym part));
          }

  -- the effective config is committed
  pub settled_shows : (log : List (Entry T D)) (m : Members M) → ShowsMembers log m → ShowsMembers log (settled m)
  settled_shows log m s = record { at = s.at; is = s.is; before = inl (s.at, s.is) }

  -- an empty log has the initial config
  pub first_shows : ShowsMembers [] (both_are 0 initial)
  first_shows = record { at = refl; is = refl; before = inl (refl, refl) }
