-- A log and one entry more.
use Rattle.std.specs.Prelude.{◌≡◌, ◌≢◌, ◌⊎◌, ◌+◌, ◌<◌, ◌≤◌, ℕ, zero, suc, Bool, true, false, not, ◌&&◌, nat_le, if◌then◌else◌, Option, Some, None, List, [], ◌∷◌, ◌++◌, length, min, drop}
use Rattle.std.specs.Option.{unwrap_or, option_or}
use Rattle.std.proofs.Common.{refl, sym, ap, ◌∙◌, subst, inl, inr, arith}
use Rattle.std.proofs.Math.Dec.{leb-suc-suc}
use Rattle.std.proofs.lemmas.Bool.{cases_eq, cases_lt, le-leb, lt-leb}
use Rattle.std.proofs.lemmas.List.{length-take, length_push, same_from_push, take-append-le, take_all}
use Rattle.std.proofs.Math.Bool.{and-false}
use Rattle.safety_laws.specs.Log.{Entry}
use Rattle.safety_laws.specs.Configs.{effective_config}
use Rattle.trace_checker.specs.Inner.CheckerState.{config_in, no_config_in}
use Rattle.trace_checker.specs.Inner.Logs.{AllLogs, log_at, config_at, and_log, AreDistinct, AreLogs, HasConfig, HasNoChild, HasParent, IsChild, IsTree, last_content, last_entry}
use Rattle.trace_checker.specs.Inner.Nodes.{logs_of}
use Rattle.trace_checker.specs.declared.checker.node.Node.{Node}
use Rattle.trace_checker.proofs.lemmas.LogTreeLemmas.{logs_push, longer, same_log, new_log, same_config, new_config}

module _ {T D : Type 0} (holds : D → Bool) where
  effective_push : (init : Option D) (log : List (Entry T D)) (e : Entry T D)
      → effective_config (config_in holds) init (log ++ e ∷ [])
      ≡ unwrap_or (config_in holds e.content) (effective_config (config_in holds) init log)
  effective_push init [] e = refl
  effective_push init (x ∷ log) e =
      effective_push (unwrap_or (config_in holds x.content) init) log e

  content_push : (log : List (Entry T D)) (e : Entry T D)
      → last_content (log ++ e ∷ []) ≡ Some e.content
  content_push [] e = refl
  content_push (x ∷ log) e = ap (λ o. option_or o (Some x.content)) (content_push log e)

  since_same : (n : ℕ) (log : List (Entry T D)) (e : Entry T D) → holds e.content ≡ false
      → no_config_in holds (drop n (log ++ e ∷ [])) ≡ no_config_in holds (drop n log)
  since_same zero [] e h = ap (λ b. not b && true) h
  since_same zero (x ∷ log) e h = ap (λ b. not (holds x.content) && b) (since_same zero log e h)
  since_same (suc zero) [] e h = refl
  since_same (suc (suc n)) [] e h = refl
  since_same (suc n) (x ∷ log) e h = since_same n log e h

  not_all : (log : List (Entry T D)) (e : Entry T D) → holds e.content ≡ true
      → no_config_in holds (log ++ e ∷ []) ≡ false
  not_all [] e h = ap (λ b. not b && true) h
  not_all (x ∷ log) e h =
      ap (λ b. not (holds x.content) && b) (not_all log e h) ∙ and-false (not (holds x.content))

  since_last : (n : ℕ) (log : List (Entry T D)) (e : Entry T D) → holds e.content ≡ true
      → no_config_in holds (drop n (log ++ e ∷ [])) ≡ nat_le (length (log ++ e ∷ [])) n
  since_last zero log e h =
      let len : length (log ++ e ∷ []) ≡ length log + 1 = length_push log e in
      not_all log e h ∙ sym (lt-leb (length (log ++ e ∷ [])) 0 (omega (arith, len)))
  since_last (suc zero) [] e h = sym (le-leb 1 1 (omega arith))
  since_last (suc (suc n)) [] e h = sym (le-leb 1 (suc (suc n)) (omega arith))
  since_last (suc n) (x ∷ log) e h =
      since_last n log e h ∙ sym (leb-suc-suc (length (log ++ e ∷ [])) n)

  config_pushed : (log : List (Entry T D)) (e : Entry T D) → holds e.content ≡ true
      → HasConfig holds (log ++ e ∷ []) (log ++ e ∷ [])
  config_pushed log e h = record {
    content = content_push log e
        ∙ sym (effective_push None log e
        ∙ ap (λ b. unwrap_or (if b then Some (Some e.content) else None)
        (effective_config (config_in holds) None log)) h);
    since = λ n. since_last n log e h;
    prefix = sym (take_all (length (log ++ e ∷ [])) (log ++ e ∷ []) (omega arith));
  }

  config_stays : (config log : List (Entry T D)) (e : Entry T D) → holds e.content ≡ false
      → HasConfig holds config log → HasConfig holds config (log ++ e ∷ [])
  config_stays config log e h has = record {
    content = has.content
        ∙ sym (effective_push None log e
        ∙ ap (λ b. unwrap_or (if b then Some (Some e.content) else None)
        (effective_config (config_in holds) None log)) h);
    since = λ n. since_same n log e h ∙ has.since n;
    prefix = has.prefix ∙ sym (take-append-le (length config) log (e ∷ []) short);
  }
    where
      short : length config ≤ length log
      short =
          let len : length config ≡ min (length config) (length log) =
          ap length has.prefix ∙ length-take (length config) log in
          omega (arith, len)

  pub is_child : (t : AllLogs T D) (log child : ℕ) (e : Entry T D) → AreLogs holds t
      → child < length t.logs → log_at t child ≡ log_at t log ++ e ∷ [] → IsChild holds t log e t child
  is_child t log child e are within is = record {
    within = within;
    is = is;
    more = omega arith;
    kept = λ i h. refl;
    only = λ i h. inl h;
    logs = are;
  }

  pub is_added : (t : AllLogs T D) (log config : ℕ) (e : Entry T D) (b : Bool) → AreLogs holds t
      → log < length t.logs → b ≡ holds e.content → HasNoChild t log e
      → config ≡ (if b then length t.logs else config_at t log)
      → IsChild holds t log e (and_log t (log_at t log ++ e ∷ []) config) (length t.logs)
  is_added t log config e b are within is_config none is = record {
    within = omega (arith, more);
    is = here;
    more = omega (arith, more);
    kept = λ i h. same_log t new config i h;
    only = λ i h. one i (cases_lt i (length t.logs)) h;
    logs = record {
      some = omega (arith, more);
      empty = same_log t new config 0 are.some ∙ are.empty;
      distinct = λ i j p q e. apart i j (cases_lt i (length t.logs)) (cases_lt j (length t.logs)) p q e;
      same_len = length_push t.configs config ∙ ap (λ n. n + 1) are.same_len ∙ sym more;
      config_first = λ i h. first i (cases_lt i (length t.logs)) h;
      config = λ i h. has i (cases_lt i (length t.logs)) h;
    };
  }
    where
      new : List (Entry T D)
      new = log_at t log ++ e ∷ []

      t2 : AllLogs T D
      t2 = and_log t new config

      more : length t2.logs ≡ length t.logs + 1
      more = longer t new config

      here : log_at t2 (length t.logs) ≡ new
      here = new_log t new config (length t.logs) refl

      one : (i : ℕ) → (i < length t.logs) ⊎ (length t.logs ≤ i) → i < length t2.logs
          → (i < length t.logs) ⊎ (log_at t2 i ≡ new)
      one i (inl x) h = inl x
      one i (inr x) h = inr (new_log t new config i (omega (arith, x, h, more)))

      apart : (i j : ℕ) → (i < length t.logs) ⊎ (length t.logs ≤ i)
          → (j < length t.logs) ⊎ (length t.logs ≤ j) → i < length t2.logs → j < length t2.logs
          → log_at t2 i ≡ log_at t2 j → i ≡ j
      apart i j (inl x) (inl y) p q h =
          are.distinct i j x y (sym (same_log t new config i x) ∙ h ∙ same_log t new config j y)
      apart i j (inl x) (inr y) p q h =
          let at : length t.logs ≡ j = omega (arith, y, q, more) in
          absurd (none i x (sym (same_log t new config i x) ∙ h ∙ new_log t new config j at))
      apart i j (inr x) (inl y) p q h =
          let at : length t.logs ≡ i = omega (arith, x, p, more) in
          absurd (none j y (sym (same_log t new config j y) ∙ sym h ∙ new_log t new config i at))
      apart i j (inr x) (inr y) p q h = omega (arith, x, y, p, q, more)

      short : (c : Bool) → (if c then length t.logs else config_at t log) ≤ length t.logs
      short true = omega arith
      short false = let h : config_at t log ≤ log = are.config_first log within in omega (arith, h)

      first : (i : ℕ) → (i < length t.logs) ⊎ (length t.logs ≤ i) → i < length t2.logs
          → config_at t2 i ≤ i
      first i (inl x) h =
          let in_configs : i < length t.configs = omega (arith, are.same_len, x) in
          let same : config_at t2 i ≡ config_at t i = same_config t new config i in_configs in
          omega (arith, same, are.config_first i x)
      first i (inr x) h =
          let at : length t.configs ≡ i = omega (arith, are.same_len, x, h, more) in
          let it : config_at t2 i ≡ config = new_config t new config i at in
          omega (arith, it, is, short b, x)

      by_kind : (c : Bool) → holds e.content ≡ c
          → HasConfig holds (log_at t2 (if c then length t.logs else config_at t log)) new
      by_kind true h =
          subst (λ (l : List (Entry T D)). HasConfig holds l new) (sym here) (config_pushed (log_at t log) e h)
      by_kind false h =
          let in_logs : config_at t log < length t.logs = omega (arith, are.config_first log within, within) in
          subst (λ (l : List (Entry T D)). HasConfig holds l new) (sym (same_log t new config (config_at t log) in_logs))
          (config_stays (log_at t (config_at t log)) (log_at t log) e h (are.config log within))

      has : (i : ℕ) → (i < length t.logs) ⊎ (length t.logs ≤ i) → i < length t2.logs
          → HasConfig holds (log_at t2 (config_at t2 i)) (log_at t2 i)
      has i (inl x) h =
          let in_configs : i < length t.configs = omega (arith, are.same_len, x) in
          let same : config_at t2 i ≡ config_at t i = same_config t new config i in_configs in
          let in_logs : config_at t i < length t.logs = omega (arith, are.config_first i x, x) in
          let there : log_at t2 (config_at t2 i) ≡ log_at t (config_at t i) =
          ap (λ j. log_at t2 j) same ∙ same_log t new config (config_at t i) in_logs in
          subst (λ (l : List (Entry T D)). HasConfig holds (log_at t2 (config_at t2 i)) l) (sym (same_log t new config i x))
          (subst (λ (l : List (Entry T D)). HasConfig holds l (log_at t i)) (sym there) (are.config i x))
      has i (inr x) h =
          let at : length t.configs ≡ i = omega (arith, are.same_len, x, h, more) in
          let at_logs : length t.logs ≡ i = omega (arith, x, h, more) in
          subst (λ (l : List (Entry T D)). HasConfig holds (log_at t2 (config_at t2 i)) l)
          (sym (new_log t new config i at_logs))
          (subst (λ j. HasConfig holds (log_at t2 j) new)
          (sym (new_config t new config i at ∙ is)) (by_kind b (sym is_config)))

-- the content of an entry, if there is one
abbrev pub content_of : {T D : Type 0} → Option (Entry T D) → Option D
content_of None = None
content_of (Some e) = Some e.content

module _ {T D : Type 0} where
  -- a log is no child of one with a greater number
  pub no_earlier : (t : AllLogs T D) (log j : ℕ) (e : Entry T D) → IsTree t → log_at t 0 ≡ []
      → AreDistinct t → log < length t.logs → j ≤ log → log_at t j ≡ log_at t log ++ e ∷ [] → ⊥
  no_earlier t log j e tree empty distinct within earlier is = go (cases_eq j 0)
    where
      some : length (log_at t j) ≡ length (log_at t log) + 1
      some = ap length is ∙ length_push (log_at t log) e

      go : (j ≡ 0) ⊎ (j ≢ 0) → ⊥
      go (inl q) =
          let none : length (log_at t j) ≡ 0 = ap length (ap (log_at t) q ∙ empty) in
          omega (arith, some, none)
      go (inr q) =
          let pos : 0 < j = omega (arith, q) in
          let up : HasParent t j = tree j pos (omega (arith, earlier, within)) in
          let both = same_from_push (log_at t up.parent) (log_at t log) up.entry e (sym up.is ∙ is) in
          let same : up.parent ≡ log =
          distinct up.parent log (omega (arith, up.earlier, earlier, within)) within both.0 in
          omega (arith, same, up.earlier, earlier)

  last_content_is : (log : List (Entry T D)) → last_content log ≡ content_of (last_entry log)
  last_content_is [] = refl
  last_content_is (e ∷ log) =
      ap (λ o. option_or o (Some e.content)) (last_content_is log) ∙ go (last_entry log)
    where
      go : (o : Option (Entry T D)) → option_or (content_of o) (Some e.content) ≡ content_of (option_or o (Some e))
      go None = refl
      go (Some x) = refl

  -- the config in effect in a log is that of the last entry of its log up to its last config
  pub config_found : (holds : D → Bool) (t : AllLogs T D) (log config : ℕ) (o : Option (Entry T D))
      → AreLogs holds t → log < length t.logs → config ≡ config_at t log
      → o ≡ last_entry (log_at t config)
      → content_of o ≡ effective_config (config_in holds) None (log_at t log)
  config_found holds t log config o are within is last =
      ap content_of last ∙ sym (last_content_is (log_at t config))
      ∙ ap (λ i. last_content (log_at t i)) is ∙ (are.config log within).content

  pub child_added : (holds : D → Bool) (ns : List (Node T D)) (t : AllLogs T D) (log next : ℕ) (b : Bool)
      (n : Node T D) (e : Entry T D) → logs_of ns ≡ t → n.parent ≡ log → n.entry ≡ e
      → n.config ≡ (if b then length t.logs else config_at t log) → next ≡ length t.logs → AreLogs holds t
      → log < length t.logs → b ≡ holds e.content → HasNoChild t log e
      → IsChild holds t log e (logs_of (ns ++ n ∷ [])) next
  child_added holds ns t log next b n e is parent entry config at are within is_config none =
      let added : and_log t (log_at t log ++ e ∷ []) n.config ≡ logs_of (ns ++ n ∷ []) =
      (λ q. and_log (sym is q) (log_at (sym is q) (sym parent q) ++ sym entry q ∷ []) n.config)
      ∙ sym (logs_push ns n) in
      subst (λ i. IsChild holds t log e (logs_of (ns ++ n ∷ [])) i) (sym at)
      (subst (λ (x : AllLogs T D). IsChild holds t log e x (length t.logs)) added
      (is_added holds t log n.config e b are within is_config none config))
