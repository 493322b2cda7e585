-- The last entry of a log that holds a config.
use Rattle.std.specs.Prelude.{◌≡◌, ◌≤◌, ℕ, zero, suc, Option, Some, None, List, [], ◌∷◌, ◌++◌, length, take, drop}
use Rattle.std.proofs.Common.{refl, sym, ap, arith}
use Rattle.safety_laws.specs.Log.{Entry, IsPrefix}
use Rattle.safety_laws.specs.Configs.{HoldNoConfig, effective_config}
use Rattle.std.specs.Option.{unwrap_or}

module _ {M : Type 0} where
  -- the number of entries up to the last one that holds a config
  abbrev pub place : ℕ → Option M → ℕ
  place (suc n) o = suc (suc n)
  place zero (Some m) = 1
  place zero None = 0

  pub place_fits : (n k : ℕ) (o : Option M) → n ≤ k → place n o ≤ suc k
  place_fits zero k None le = omega arith
  place_fits zero k (Some m) le = omega arith
  place_fits (suc n) k o le = omega arith

  place_within : (n k : ℕ) (o : Option M) → place n o ≤ suc k → n ≤ k
  place_within zero k o le = omega arith
  place_within (suc n) k o le = omega arith

  place-zero : (n : ℕ) (o : Option M) → place n o ≤ 0 → (n ≡ 0) × (o ≡ None)
  place-zero zero None le = (refl, refl)
  place-zero zero (Some m) le = absurd (omega arith)
  place-zero (suc n) o le = absurd (omega arith)

  place_grows : (n k : ℕ) (o : Option M) → n ≤ k → place n o ≤ place k o
  place_grows zero zero o le = omega arith
  place_grows zero (suc k) None le = omega arith
  place_grows zero (suc k) (Some m) le = omega arith
  place_grows (suc n) zero o le = absurd (omega arith)
  place_grows (suc n) (suc k) o le = omega arith

  pub place_none : (n : ℕ) (o : Option M) → o ≡ None → n ≤ 0 → place n o ≤ 0
  place_none zero None e le = omega arith
  place_none zero (Some m) e le = absurd (cc)
  place_none (suc n) o e le = absurd (omega arith)

module _ {T D M : Type 0} (config_of : D → Option M) where
  abbrev pub upto : List (Entry T D) → ℕ
  upto [] = 0
  upto (e ∷ es) = place (upto es) (config_of e.content)

  pub upto_fits : (l : List (Entry T D)) → upto l ≤ length l
  upto_fits [] = omega arith
  upto_fits (e ∷ l) = place_fits (upto l) (length l) (config_of e.content) (upto_fits l)

  pub members-none : (m : M) (r : List (Entry T D)) → upto r ≤ 0 → effective_config config_of m r ≡ m
  members-none m [] le = refl
  members-none m (e ∷ r) le =
      let z = place-zero (upto r) (config_of e.content) le in
      rw z.1 (members-none m r (omega (arith, z.0)))

  pub record SameNamed (m : M) (p l : List (Entry T D)) : Type 0 where
    pub place : upto p ≡ upto l
    pub members : effective_config config_of m p ≡ effective_config config_of m l

  same_append : (m : M) (p r : List (Entry T D)) → upto (p ++ r) ≤ length p
      → SameNamed m p (p ++ r)
  same_append m [] r le =
      record { place = omega arith; members = sym (members-none m r le) }
  same_append m (e ∷ p) r le =
      let s =
      same_append (unwrap_or (config_of e.content) m) p r
      (place_within (upto (p ++ r)) (length p) (config_of e.content) le) in
      record { place = ap (λ (n : ℕ). place n (config_of e.content)) s.place; members = s.members }

  -- a prefix that has the last config has the same config in effect
  pub same_named : (m : M) {p l : List (Entry T D)} → IsPrefix p l → upto l ≤ length p
      → SameNamed m p l
  same_named m {p} {l} st le =
      rw (sym st.is) at (same_append m p st.rest (rw st.is at le))

  upto_append : (p r : List (Entry T D)) → upto p ≤ upto (p ++ r)
  upto_append [] r = omega arith
  upto_append (e ∷ p) r = place_grows (upto p) (upto (p ++ r)) (config_of e.content) (upto_append p r)

  pub upto_grows : {p l : List (Entry T D)} → IsPrefix p l → upto p ≤ upto l
  upto_grows {p} {l} st = rw st.is (upto_append p st.rest)

  -- the last entry that holds a config
  pub record LastNamed (k : ℕ) (l : List (Entry T D)) : Type 0 where
    pub entry : Entry T D
    pub named_members : M
    pub names : config_of entry.content ≡ Some named_members
    pub is : take (suc k) l ≡ take k l ++ entry ∷ []
    pub members : (m : M) → effective_config config_of m (take (suc k) l) ≡ named_members

  by_head : (k n : ℕ) (x : Entry T D) (l : List (Entry T D)) (o : Option M) → config_of x.content ≡ o
      → upto l ≡ n → place n o ≡ suc k → ((j : ℕ) → upto l ≡ suc j → LastNamed j l)
      → LastNamed k (x ∷ l)
  by_head k zero x l None is up e rec = absurd (omega arith)
  by_head zero zero x l (Some m) is up e rec =
      record { entry = x; named_members = m; names = is; is = refl; members = λ d. rw is refl }
  by_head (suc k) zero x l (Some m) is up e rec = absurd (omega arith)
  by_head zero (suc n) x l o is up e rec = absurd (omega arith)
  by_head (suc k) (suc n) x l o is up e rec =
      let r = rec k (omega arith) in
      record {
        entry = r.entry;
        named_members = r.named_members;
        names = r.names;
        is = ap (λ (y : List (Entry T D)). x ∷ y) r.is;
        members = λ m. r.members (unwrap_or (config_of x.content) m);
      }

  pub last_named : (k : ℕ) (l : List (Entry T D)) → upto l ≡ suc k → LastNamed k l
  last_named k [] e = absurd (omega arith)
  last_named k (x ∷ l) e =
      by_head k (upto l) x l (config_of x.content) refl refl e (λ j. last_named j l)

  pub none_upto : (n : ℕ) (l : List (Entry T D)) → HoldNoConfig config_of (drop n l) → upto l ≤ n
  none_upto zero [] none = omega arith
  none_upto zero (e ∷ l) none = place_none (upto l) (config_of e.content) none.0 (none_upto zero l none.1)
  none_upto (suc n) [] none = omega arith
  none_upto (suc n) (e ∷ l) none =
      place_fits (upto l) n (config_of e.content) (none_upto n l none)
