-- An election by a config that is known: by the last config of a log or by the one before it.
use Rattle.std.specs.Prelude.{◌≡◌, ◌⊎◌, ◌<◌, ◌≤◌, ℕ, zero, suc, Bool, true, false, not, ◌&&◌, ◌||◌, nat_le, nat_lt, nat_eq, min, if◌then◌else◌, Option, Some, None, is_none, List, [], ◌∷◌, length, take, drop}
use Rattle.std.specs.Cmp.{both_ways, first_so, second_so}
use Rattle.std.specs.Option.{unwrap_or}
use Rattle.std.proofs.Common.{refl, sym, ap, ◌∙◌, inl, inr, arith}
use Rattle.std.proofs.lemmas.Bool.{and_from, cases_lt, eq-eqb, eqb-true, le-leb, leb-true, lt-leb}
use Rattle.std.proofs.lemmas.List.{length-take, take-take}
use Rattle.safety_laws.specs.Log.{Entry}
use Rattle.safety_laws.specs.Configs.{effective_config}
use Rattle.safety_laws.specs.AppliedTrace.{hold_at_most_one, some_upto}
use Rattle.safety_laws.specs.Trace.{Tests, hold_no_config, is_quorum_of_log, same_entry}
use Rattle.trace_checker.specs.Inner.CheckerState.{common_len, config_in, no_config_in}
use Rattle.trace_checker.specs.Inner.Known.{CommitState, any_covers, at_most_one_in, covers, elected_in, is_config_known}
use Rattle.trace_checker.specs.Inner.Logs.{AllLogs, AreLogs, HasConfig, config_at, log_at}
use Rattle.safety_laws.specs.declared.counting.ConfigsCount.TheVariants.{WhenApplied}
use Rattle.trace_checker.proofs.lemmas.ConfigBeforeLemmas.{IsConfigBefore, none_among_first, none_between, none_is_at_most_one, one_later}
use Rattle.safety_laws.proofs.lemmas.TestLemmas.{or_cases}

or_left : (a b : Bool) → a ≡ true → (a || b) ≡ true
or_left true b e = refl
or_left false b e = absurd (cc)

or_right : (a b : Bool) → b ≡ true → (a || b) ≡ true
or_right true b e = refl
or_right false b e = e

-- ---- a test of numbers up to n

-- a number up to n at which the test passes
pub record PassesUpto (n : ℕ) (test : ℕ → Bool) : Type 0 where
  pub at : ℕ
  pub within : at ≤ n
  pub passes : test at ≡ true

pub upto_from : (n a : ℕ) (test : ℕ → Bool) → a ≤ n → test a ≡ true → some_upto n test ≡ true
upto_from zero zero test h e = e
upto_from zero (suc a) test h e = absurd (omega (arith, h))
upto_from (suc n) a test h e = go (cases_lt a (suc n)) (λ x. upto_from n a test x e)
  where
    go : (a < suc n) ⊎ (suc n ≤ a) → (a ≤ n → some_upto n test ≡ true) → (test (suc n) || some_upto n test) ≡ true
    go (inl x) rest = or_right (test (suc n)) (some_upto n test) (rest (omega (arith, x)))
    go (inr x) rest =
        let same : a ≡ suc n = omega (arith, x, h) in
        or_left (test (suc n)) (some_upto n test) (sym (ap test same) ∙ e)

pub upto_at : (n : ℕ) (test : ℕ → Bool) → some_upto n test ≡ true → PassesUpto n test
upto_at zero test e = record { at = zero; within = omega arith; passes = e }
upto_at (suc n) test e = go (or_cases (test (suc n)) (some_upto n test) e) (λ x. upto_at n test x)
  where
    go : ((test (suc n) ≡ true) ⊎ (some_upto n test ≡ true)) → (some_upto n test ≡ true → PassesUpto n test)
        → PassesUpto (suc n) test
    go (inl x) rest = record { at = suc n; within = omega arith; passes = x }
    go (inr x) rest =
        let p : PassesUpto n test = rest x in
        record { at = p.at; within = omega (arith, p.within); passes = p.passes }

-- ---- what covers entries, covers the first of them

module _ {T D : Type 0} (same : Entry T D → Entry T D → Bool) where
  shorter_prefix : (n : ℕ) (p log : List (Entry T D)) → common_len same p log ≡ length p
      → common_len same (take n p) log ≡ length (take n p)
  shorter_prefix zero p log e = refl
  shorter_prefix (suc n) [] log e = refl
  shorter_prefix (suc n) (x ∷ p) [] e = absurd (omega (arith, e))
  shorter_prefix (suc n) (x ∷ p) (y ∷ log) e = go (same x y) e (λ h. shorter_prefix n p log h)
    where
      go : (b : Bool) → (if b then suc (common_len same p log) else 0) ≡ suc (length p)
          → (common_len same p log ≡ length p → common_len same (take n p) log ≡ length (take n p))
          → (if b then suc (common_len same (take n p) log) else 0) ≡ suc (length (take n p))
      go true h rest = ap suc (rest (omega (arith, h)))
      go false h rest = absurd (omega (arith, h))

  covers_first : (r a n : ℕ) (p : List (Entry T D)) (c : CommitState T D) → covers same r a p c ≡ true
      → covers same r a (take n p) c ≡ true
  covers_first r a n p c e =
      let early : Bool = nat_lt c.rank r || (nat_eq c.rank r && nat_lt c.counted_at a) in
      let begins : common_len same p c.entries ≡ length p =
      eqb-true (common_len same p c.entries) (length p)
      (second_so early (nat_eq (common_len same p c.entries) (length p)) e) in
      and_from early (nat_eq (common_len same (take n p) c.entries) (length (take n p)))
      (first_so early (nat_eq (common_len same p c.entries) (length p)) e)
      (eq-eqb (common_len same (take n p) c.entries) (length (take n p)) (shorter_prefix n p c.entries begins))

  pub any_covers_first : (r a n : ℕ) (p : List (Entry T D)) (commits : List (CommitState T D))
      → any_covers same r a p commits ≡ true → any_covers same r a (take n p) commits ≡ true
  any_covers_first r a n p [] e = absurd (cc)
  any_covers_first r a n p (c ∷ commits) e =
      go (or_cases (covers same r a p c) (any_covers same r a p commits) e) (λ x. any_covers_first r a n p commits x)
    where
      go : ((covers same r a p c ≡ true) ⊎ (any_covers same r a p commits ≡ true))
          → (any_covers same r a p commits ≡ true → any_covers same r a (take n p) commits ≡ true)
          → (covers same r a (take n p) c || any_covers same r a (take n p) commits) ≡ true
      go (inl x) rest =
          or_left (covers same r a (take n p) c) (any_covers same r a (take n p) commits) (covers_first r a n p c x)
      go (inr x) rest = or_right (covers same r a (take n p) c) (any_covers same r a (take n p) commits) (rest x)

  module _ (holds : D → Bool) where
    -- the last config of first entries is known if that of more entries is
    pub known_first : (r a n : ℕ) (p : List (Entry T D)) (commits : List (CommitState T D))
        → is_config_known same holds r a p commits ≡ true → is_config_known same holds r a (take n p) commits ≡ true
    known_first r a n p commits e = go (or_cases (no_config_in holds p) (any_covers same r a p commits) e)
      where
        go : ((no_config_in holds p ≡ true) ⊎ (any_covers same r a p commits ≡ true))
            → (no_config_in holds (take n p) || any_covers same r a (take n p) commits) ≡ true
        go (inl x) =
            or_left (no_config_in holds (take n p)) (any_covers same r a (take n p) commits) (none_among_first holds n p x)
        go (inr x) =
            or_right (no_config_in holds (take n p)) (any_covers same r a (take n p) commits) (any_covers_first r a n p commits x)

-- ---- which config is in effect

module _ {T D : Type 0} (holds : D → Bool) where
  effective_none : (init : Option D) (log : List (Entry T D)) → no_config_in holds log ≡ true
      → effective_config (config_in holds) init log ≡ init
  effective_none init [] h = refl
  effective_none init (e ∷ log) h =
      ap (λ m. effective_config (config_in holds) m log)
      (go (holds e.content) (first_so (not (holds e.content)) (no_config_in holds log) h))
      ∙ effective_none init log (second_so (not (holds e.content)) (no_config_in holds log) h)
    where
      go : (b : Bool) → not b ≡ true → unwrap_or (if b then Some (Some e.content) else None) init ≡ init
      go true x = absurd (cc)
      go false x = refl

  -- the config of first entries is that of more entries if none of the later ones holds a config
  pub effective_first : (init : Option D) (n : ℕ) (log : List (Entry T D)) → no_config_in holds (drop n log) ≡ true
      → effective_config (config_in holds) init log ≡ effective_config (config_in holds) init (take n log)
  effective_first init zero log h = effective_none init log h
  effective_first init (suc n) [] h = refl
  effective_first init (suc n) (e ∷ log) h =
      effective_first (unwrap_or (config_in holds e.content) init) n log h

-- ---- the test at each length is the test at two lengths

module _ {T D N : Type 0} (same : Entry T D → Entry T D → Bool) (holds : D → Bool)
    (has_quorum : Option D → (N → Bool) → Bool) (r : ℕ) (commits : List (CommitState T D)) (log : List (Entry T D))
    (voters : N → Bool) where
  -- the config of the first so many entries is known, and the voters are a quorum of it
  abbrev pub elects_by : ℕ → Bool
  elects_by a =
      is_config_known same holds r 0 (take a log) commits
      && has_quorum (effective_config (config_in holds) None (take a log)) voters

  -- and at most one config follows in the log
  abbrev pub elects_at : ℕ → Bool
  elects_at a =
      is_config_known same holds r 0 (take a log) commits
      && (at_most_one_in holds (drop a log) && has_quorum (effective_config (config_in holds) None (take a log)) voters)

  -- fewer entries do as well if no config is between
  elects_by_fewer : (n a : ℕ) → n ≤ a → no_config_in holds (drop n (take a log)) ≡ true → elects_by a ≡ true
      → elects_by n ≡ true
  elects_by_fewer n a h none e =
      let known : Bool = is_config_known same holds r 0 (take a log) commits in
      let quorum : Bool = has_quorum (effective_config (config_in holds) None (take a log)) voters in
      let first : take n (take a log) ≡ take n log = take-take n a log h in
      and_from (is_config_known same holds r 0 (take n log) commits)
      (has_quorum (effective_config (config_in holds) None (take n log)) voters)
      (ap (λ (l : List (Entry T D)). is_config_known same holds r 0 l commits) (sym first)
      ∙ known_first same holds r 0 n (take a log) commits (first_so known quorum e))
      (ap (λ (l : List (Entry T D)). has_quorum (effective_config (config_in holds) None l) voters) (sym first)
      ∙ ap (λ m. has_quorum m voters) (sym (effective_first holds None n (take a log) none))
      ∙ second_so known quorum e)

  -- a candidate is elected by the config of so many first entries if at most one follows
  upto_by : (a : ℕ) → a ≤ length log → at_most_one_in holds (drop a log) ≡ true → elects_by a ≡ true
      → some_upto (length log) elects_at ≡ true
  upto_by a within follow e =
      let known : Bool = is_config_known same holds r 0 (take a log) commits in
      let quorum : Bool = has_quorum (effective_config (config_in holds) None (take a log)) voters in
      upto_from (length log) a elects_at within
      (and_from known (at_most_one_in holds (drop a log) && quorum) (first_so known quorum e)
      (and_from (at_most_one_in holds (drop a log)) quorum follow (second_so known quorum e)))

  -- so by its last config
  pub elects_at_last : (m : ℕ) → m ≤ length log → no_config_in holds (drop m log) ≡ true → elects_by m ≡ true
      → some_upto (length log) elects_at ≡ true
  elects_at_last m within none e = upto_by m within (none_is_at_most_one holds (drop m log) none) e

  -- if the last config is that of m first entries, and the one before it that of n, no other elects
  pub elects_at_two : (m n : ℕ) → ((i : ℕ) → no_config_in holds (drop i log) ≡ nat_le m i)
      → ((i : ℕ) → at_most_one_in holds (drop i log) ≡ nat_le n i) → n ≤ length log → elects_by m ≡ false
      → elects_by n ≡ some_upto (length log) elects_at
  elects_at_two m n since follow within not_last =
      both_ways (elects_by n) (some_upto (length log) elects_at)
      (λ e. upto_by n within (follow n ∙ le-leb n n (omega arith)) e) only
    where
      only : some_upto (length log) elects_at ≡ true → elects_by n ≡ true
      only e = go (cases_lt p.at m)
        where
          p : PassesUpto (length log) elects_at
          p = upto_at (length log) elects_at e

          known : Bool
          known = is_config_known same holds r 0 (take p.at log) commits

          one : Bool
          one = at_most_one_in holds (drop p.at log)

          quorum : Bool
          quorum = has_quorum (effective_config (config_in holds) None (take p.at log)) voters

          both : (one && quorum) ≡ true
          both = second_so known (one && quorum) p.passes

          by : elects_by p.at ≡ true
          by = and_from known quorum (first_so known (one && quorum) p.passes) (second_so one quorum both)

          enough : n ≤ p.at
          enough = leb-true n p.at (sym (follow p.at) ∙ first_so one quorum both)

          go : (p.at < m) ⊎ (m ≤ p.at) → elects_by n ≡ true
          go (inl h) =
              elects_by_fewer n p.at enough
              (one_later holds n p.at log enough (follow n ∙ le-leb n n (omega arith)) (since p.at ∙ lt-leb m p.at h)) by
          go (inr h) =
              absurd (cc (
                not_last,
                elects_by_fewer m p.at h (none_between holds m p.at log (since m ∙ le-leb m m (omega arith))) by,
              ))

-- ---- the test by the logs up to these configs

module _ {T D N : Type 0} (same : Entry T D → Entry T D → Bool) (holds : D → Bool)
    (has_quorum : Option D → (N → Bool) → Bool) (r : ℕ) (commits : List (CommitState T D)) (voters : N → Bool)
    (t : AllLogs T D) (log : ℕ) (are : AreLogs holds t) (within : log < length t.logs) where
  -- the config of a log is known, and the voters are a quorum of it
  abbrev pub elects : List (Entry T D) → Bool
  elects p =
      is_config_known same holds r 0 p commits && has_quorum (effective_config (config_in holds) None p) voters

  abbrev pub elected : Bool
  elected =
      some_upto (length (log_at t log)) (elects_at same holds has_quorum r commits (log_at t log) voters)

  short : (p : List (Entry T D)) → p ≡ take (length p) (log_at t log) → length p ≤ length (log_at t log)
  short p e =
      let len : length p ≡ min (length p) (length (log_at t log)) = ap length e ∙ length-take (length p) (log_at t log) in
      omega (arith, len)

  pub last_elects : (config : ℕ) → config ≡ config_at t log → elects (log_at t config) ≡ true → true ≡ elected
  last_elects config is e =
      let has : HasConfig holds (log_at t (config_at t log)) (log_at t log) = are.config log within in
      let m : ℕ = length (log_at t (config_at t log)) in
      sym (elects_at_last same holds has_quorum r commits (log_at t log) voters m (short (log_at t (config_at t log)) has.prefix)
      (has.since m ∙ le-leb m m (omega arith))
      (ap elects (sym has.prefix) ∙ ap (λ i. elects (log_at t i)) (sym is) ∙ e))

  pub before_elects : (config before : ℕ) → config ≡ config_at t log → elects (log_at t config) ≡ false
      → IsConfigBefore holds t log before → elects (log_at t before) ≡ elected
  before_elects config before is e at =
      let has : HasConfig holds (log_at t (config_at t log)) (log_at t log) = are.config log within in
      ap elects at.is
      ∙ elects_at_two same holds has_quorum r commits (log_at t log) voters (length (log_at t (config_at t log)))
      (length (log_at t before)) has.since at.at_most_one (short (log_at t before) at.is)
      (ap elects (sym has.prefix) ∙ ap (λ i. elects (log_at t i)) (sym is) ∙ e)

-- ---- the test by what clauses name

module _ {T ID D : Type 0} (k : Tests T ID D (Option D)) (holds : D → Bool)
    (is : (d : D) → k.config_of d ≡ config_in holds d) where
  pub no_config_test : (log : List (Entry T D)) → hold_no_config k log ≡ no_config_in holds log
  no_config_test [] = refl
  no_config_test (e ∷ log) =
      (λ q. is_none (is e.content q) && no_config_test log q) ∙ ap (λ x. x && no_config_in holds log) (go (holds e.content))
    where
      go : (b : Bool) → is_none (if b then Some (Some e.content) else None) ≡ not b
      go true = refl
      go false = refl

  pub at_most_one_test : (log : List (Entry T D)) → hold_at_most_one k log ≡ at_most_one_in holds log
  at_most_one_test [] = refl
  at_most_one_test (e ∷ log) =
      (λ q. no_config_test log q || (is_none (is e.content q) && at_most_one_test log q))
      ∙ ap (λ x. no_config_in holds log || (x && at_most_one_in holds log)) (go (holds e.content))
    where
      go : (b : Bool) → is_none (if b then Some (Some e.content) else None) ≡ not b
      go true = refl
      go false = refl

  pub elected_test : k.initial ≡ None → (commits : List (CommitState T D)) (t : T) (log : List (Entry T D))
      (voters : ID → Bool) → elected_in k WhenApplied commits t log voters
      ≡ some_upto (length log) (elects_at (same_entry k) holds k.quorum_of (k.rank t) commits log voters)
  elected_test initial commits t log voters =
      λ q. some_upto (length log) (λ a. at a q)
    where
      configs : k.config_of ≡ config_in holds
      configs = λ q d. is d q

      at : (a : ℕ) → ((hold_no_config k (take a log) || any_covers (same_entry k) (k.rank t) 0 (take a log) commits)
          && (hold_at_most_one k (drop a log) && is_quorum_of_log k (take a log) voters))
          ≡ elects_at (same_entry k) holds k.quorum_of (k.rank t) commits log voters a
      at a =
          λ q. (no_config_test (take a log) q || any_covers (same_entry k) (k.rank t) 0 (take a log) commits)
          && (at_most_one_test (drop a log) q
          && k.quorum_of (effective_config (configs q) (initial q) (take a log)) voters)
