-- The config before the last one of a log, and entries of which at most one holds a config.
use Rattle.std.specs.Prelude.{◌≡◌, ◌⊎◌, ◌-◌, ◌<◌, ◌≤◌, ℕ, zero, suc, min, Bool, true, false, not, ◌&&◌, ◌||◌, nat_le, List, [], ◌∷◌, length, take, drop}
use Rattle.std.specs.Cmp.{first_so, second_so}
use Rattle.std.proofs.Common.{refl, sym, ap, ◌∙◌, inl, inr, arith}
use Rattle.std.proofs.lemmas.Bool.{and_from, cases_lt, le-leb, lt-leb}
use Rattle.std.proofs.lemmas.List.{length-take, take-take}
use Rattle.std.proofs.Math.Bool.{and-false}
use Rattle.safety_laws.specs.Log.{Entry}
use Rattle.trace_checker.specs.Inner.CheckerState.{no_config_in}
use Rattle.trace_checker.specs.Inner.Known.{at_most_one_in}
use Rattle.trace_checker.specs.Inner.Logs.{AllLogs, AreLogs, HasConfig, config_at, log_at}
use Rattle.safety_laws.proofs.lemmas.TestLemmas.{or_cases}

module _ {T D : Type 0} (holds : D → Bool) where
  -- ---- entries of which none or one holds a config

  -- if no entry holds a config, at most one does
  pub none_is_at_most_one : (log : List (Entry T D)) → no_config_in holds log ≡ true → at_most_one_in holds log ≡ true
  none_is_at_most_one [] h = refl
  none_is_at_most_one (e ∷ log) h =
      ap (λ b. b || (not (holds e.content) && at_most_one_in holds log)) (second_so (not (holds e.content)) (no_config_in holds log) h)

  -- if an entry after the first ones holds a config, an entry does
  some_before : (n : ℕ) (log : List (Entry T D)) → no_config_in holds (drop n log) ≡ false → no_config_in holds log ≡ false
  some_before zero log h = h
  some_before (suc n) [] h = h
  some_before (suc n) (e ∷ log) h = ap (λ b. not (holds e.content) && b) (some_before n log h) ∙ and-false (not (holds e.content))

  -- if no entry holds a config, none of the first ones does
  pub none_among_first : (n : ℕ) (log : List (Entry T D)) → no_config_in holds log ≡ true → no_config_in holds (take n log) ≡ true
  none_among_first zero log h = refl
  none_among_first (suc n) [] h = h
  none_among_first (suc n) (e ∷ log) h =
      and_from (not (holds e.content)) (no_config_in holds (take n log)) (first_so (not (holds e.content)) (no_config_in holds log) h)
      (none_among_first n log (second_so (not (holds e.content)) (no_config_in holds log) h))

  -- if none of the entries after n first ones holds a config, none of those before the next a does
  pub none_between : (n a : ℕ) (log : List (Entry T D)) → no_config_in holds (drop n log) ≡ true
      → no_config_in holds (drop n (take a log)) ≡ true
  none_between zero a log h = none_among_first a log h
  none_between (suc n) zero log h = refl
  none_between (suc n) (suc a) [] h = refl
  none_between (suc n) (suc a) (e ∷ log) h = none_between n a log h

  -- if at most one of the entries after n first ones holds a config, and one after a first ones does,
  -- none between them does
  pub one_later : (n a : ℕ) (log : List (Entry T D)) → n ≤ a → at_most_one_in holds (drop n log) ≡ true
      → no_config_in holds (drop a log) ≡ false → no_config_in holds (drop n (take a log)) ≡ true
  one_later zero zero log h one some = refl
  one_later (suc n) zero log h one some = absurd (omega (arith, h))
  one_later zero (suc a) [] h one some = refl
  one_later (suc n) (suc a) [] h one some = refl
  one_later (suc n) (suc a) (e ∷ log) h one some = one_later n a log (omega (arith, h)) one some
  one_later zero (suc a) (e ∷ log) h one some =
      go (or_cases (no_config_in holds log) (not (holds e.content) && at_most_one_in holds log) one)
      (λ x. one_later zero a log (omega arith) x some)
    where
      later : no_config_in holds log ≡ false
      later = some_before a log some

      go : ((no_config_in holds log ≡ true) ⊎ ((not (holds e.content) && at_most_one_in holds log) ≡ true))
          → (at_most_one_in holds log ≡ true → no_config_in holds (take a log) ≡ true)
          → (not (holds e.content) && no_config_in holds (take a log)) ≡ true
      go (inl x) rest = absurd (cc (later, x))
      go (inr x) rest =
          and_from (not (holds e.content)) (no_config_in holds (take a log))
          (first_so (not (holds e.content)) (at_most_one_in holds log) x)
          (rest (second_so (not (holds e.content)) (at_most_one_in holds log) x))

  -- the last entry that holds a config comes after m first ones: at most one after n first ones holds
  -- one if none between them does
  one_before : (n m : ℕ) (log : List (Entry T D)) → n ≤ m → no_config_in holds (drop m log) ≡ false
      → no_config_in holds (drop (suc m) log) ≡ true → at_most_one_in holds (drop n log) ≡ no_config_in holds (drop n (take m log))
  one_before n zero [] h some none = absurd (cc)
  one_before n (suc m) [] h some none = absurd (cc)
  one_before zero zero (e ∷ log) h some none = ap (λ b. b || (not (holds e.content) && at_most_one_in holds log)) none
  one_before (suc n) zero (e ∷ log) h some none = absurd (omega (arith, h))
  one_before zero (suc m) (e ∷ log) h some none =
      ap (λ b. b || (not (holds e.content) && at_most_one_in holds log)) (some_before m log some)
      ∙ ap (λ b. not (holds e.content) && b) (one_before zero m log (omega arith) some none)
  one_before (suc n) (suc m) (e ∷ log) h some none = one_before n m log (omega (arith, h)) some none

  -- ---- the config before the last one

  -- a log is the one up to the config before the last config of another
  pub record IsConfigBefore (t : AllLogs T D) (log before : ℕ) : Type 0 where
    pub earlier : before ≤ config_at t log
    pub at_most_one : (n : ℕ) → at_most_one_in holds (drop n (log_at t log)) ≡ nat_le (length (log_at t before)) n
    pub is : log_at t before ≡ take (length (log_at t before)) (log_at t log)

  pub config_before : (t : AllLogs T D) (log shorter len : ℕ) → AreLogs holds t → log < length t.logs
      → shorter ≤ config_at t log → len ≡ length (log_at t (config_at t log)) - 1
      → log_at t shorter ≡ take len (log_at t (config_at t log)) → IsConfigBefore t log (config_at t shorter)
  config_before t log shorter len are within earlier is_len is = record {
    earlier = omega (arith, are.config_first shorter in_logs, earlier);
    at_most_one = λ n. go n (cases_lt n count) (cases_lt 0 count);
    is = has.prefix ∙ (λ q. take (length before) (shorter_is q)) ∙ take-take (length before) len whole short;
  }
    where
      whole : List (Entry T D)
      whole = log_at t log

      count : ℕ
      count = length (log_at t (config_at t log))

      before : List (Entry T D)
      before = log_at t (config_at t shorter)

      in_logs : shorter < length t.logs
      in_logs = omega (arith, earlier, are.config_first log within, within)

      last : HasConfig holds (log_at t (config_at t log)) whole
      last = are.config log within

      has : HasConfig holds before (log_at t shorter)
      has = are.config shorter in_logs

      shorter_is : log_at t shorter ≡ take len whole
      shorter_is = is ∙ ap (take len) last.prefix ∙ take-take len count whole (omega (arith, is_len))

      short : length before ≤ len
      short =
          let a : length before ≡ min (length before) (length (log_at t shorter)) =
          ap length has.prefix ∙ length-take (length before) (log_at t shorter) in
          let b : length (log_at t shorter) ≡ min len (length whole) = ap length shorter_is ∙ length-take len whole in
          omega (arith, a, b)

      go : (n : ℕ) → (n < count) ⊎ (count ≤ n) → (0 < count) ⊎ (count ≤ 0) → at_most_one_in holds (drop n whole) ≡ nat_le (length before) n
      go n (inr h) some =
          none_is_at_most_one (drop n whole) (last.since n ∙ le-leb count n h)
          ∙ sym (le-leb (length before) n (omega (arith, short, is_len, h)))
      go n (inl h) (inr none) = absurd (omega (arith, h, none))
      go n (inl h) (inl some) =
          let next : suc len ≡ count = omega (arith, is_len, some) in
          one_before n len whole (omega (arith, is_len, h)) (last.since len ∙ lt-leb count len (omega (arith, next)))
          (last.since (suc len) ∙ le-leb count (suc len) (omega (arith, next)))
          ∙ ap (λ (l : List (Entry T D)). no_config_in holds (drop n l)) (sym shorter_is) ∙ has.since n
