-- A log that is added to a tree of logs, and what the last node of a log says.
use Rattle.std.specs.Prelude.{◌≡◌, ◌⊎◌, ◌+◌, ◌-◌, ◌<◌, ◌≤◌, ℕ, zero, suc, min, Some, None, List, [], ◌∷◌, ◌++◌, length, take, get_or}
use Rattle.std.specs.List.{slice_get}
use Rattle.std.specs.Option.{option_or}
use Rattle.std.proofs.Common.{refl, sym, ap, ◌∙◌, subst, inl, inr, arith}
use Rattle.std.proofs.lemmas.Bool.{cases_lt}
use Rattle.std.proofs.lemmas.Option.{same_Some, slice_get_cases}
use Rattle.std.proofs.lemmas.List.{take-append-le, length_push, length-take, get_or_append_left, get_or_push, get_or_past, take_more}
use Rattle.safety_laws.specs.Log.{Entry}
use Rattle.trace_checker.specs.Inner.Logs.{AllLogs, log_at, config_at, and_log, no_logs, last_entry, HasParent, IsTree}
use Rattle.trace_checker.specs.Inner.Nodes.{logs_after, logs_of, IsNode, AreNodes}
use Rattle.trace_checker.specs.declared.checker.node.Node.{Node}

module _ {T D : Type 0} where
  -- ---- one log more

  pub longer : (t : AllLogs T D) (log : List (Entry T D)) (config : ℕ)
      → length (and_log t log config).logs ≡ length t.logs + 1
  longer t log config = length_push t.logs log

  pub same_log : (t : AllLogs T D) (log : List (Entry T D)) (config i : ℕ) → i < length t.logs
      → log_at (and_log t log config) i ≡ log_at t i
  same_log t log config i h = get_or_append_left t.logs (log ∷ []) [] i h

  pub new_log : (t : AllLogs T D) (log : List (Entry T D)) (config i : ℕ) → length t.logs ≡ i
      → log_at (and_log t log config) i ≡ log
  new_log t log config i h = get_or_push t.logs log [] i h

  pub same_config : (t : AllLogs T D) (log : List (Entry T D)) (config i : ℕ) → i < length t.configs
      → config_at (and_log t log config) i ≡ config_at t i
  same_config t log config i h = get_or_append_left t.configs (config ∷ []) 0 i h

  pub new_config : (t : AllLogs T D) (log : List (Entry T D)) (config i : ℕ) → length t.configs ≡ i
      → config_at (and_log t log config) i ≡ config
  new_config t log config i h = get_or_push t.configs config 0 i h

  -- ---- the logs of nodes

  logs_after_push : (t : AllLogs T D) (ns : List (Node T D)) (n : Node T D)
      → logs_after t (ns ++ n ∷ [])
      ≡ and_log (logs_after t ns) (log_at (logs_after t ns) n.parent ++ n.entry ∷ []) n.config
  logs_after_push t [] n = refl
  logs_after_push t (m ∷ ns) n =
      logs_after_push (and_log t (log_at t m.parent ++ m.entry ∷ []) m.config) ns n

  pub logs_push : (ns : List (Node T D)) (n : Node T D) → logs_of (ns ++ n ∷ [])
      ≡ and_log (logs_of ns) (log_at (logs_of ns) n.parent ++ n.entry ∷ []) n.config
  logs_push ns n = logs_after_push no_logs ns n

  pub logs_after_len : (t : AllLogs T D) (ns : List (Node T D))
      → length (logs_after t ns).logs ≡ length t.logs + length ns
  logs_after_len t [] = omega arith
  logs_after_len t (n ∷ ns) =
      let t2 : AllLogs T D = and_log t (log_at t n.parent ++ n.entry ∷ []) n.config in
      let more : length t2.logs ≡ length t.logs + 1 = length_push t.logs (log_at t n.parent ++ n.entry ∷ []) in
      let rest : length (logs_after t2 ns).logs ≡ length t2.logs + length ns = logs_after_len t2 ns in
      omega (arith, more, rest)

  configs_after_len : (t : AllLogs T D) (ns : List (Node T D))
      → length (logs_after t ns).configs ≡ length t.configs + length ns
  configs_after_len t [] = omega arith
  configs_after_len t (n ∷ ns) =
      let t2 : AllLogs T D = and_log t (log_at t n.parent ++ n.entry ∷ []) n.config in
      let more : length t2.configs ≡ length t.configs + 1 = length_push t.configs n.config in
      let rest : length (logs_after t2 ns).configs ≡ length t2.configs + length ns = configs_after_len t2 ns in
      omega (arith, more, rest)

  pub logs_len : (ns : List (Node T D)) → length (logs_of ns).logs ≡ length ns + 1
  logs_len ns = let e : length (logs_of ns).logs ≡ 1 + length ns = logs_after_len no_logs ns in omega (arith, e)

  pub configs_len : (ns : List (Node T D)) → length (logs_of ns).configs ≡ length ns + 1
  configs_len ns =
      let e : length (logs_of ns).configs ≡ 1 + length ns = configs_after_len no_logs ns in omega (arith, e)

  pub logs_after_at : (t : AllLogs T D) (ns : List (Node T D)) (i : ℕ) → i < length t.logs
      → log_at (logs_after t ns) i ≡ log_at t i
  logs_after_at t [] i h = refl
  logs_after_at t (n ∷ ns) i h =
      let log : List (Entry T D) = log_at t n.parent ++ n.entry ∷ [] in
      let more : length (and_log t log n.config).logs ≡ length t.logs + 1 = length_push t.logs log in
      logs_after_at (and_log t log n.config) ns i (omega (arith, more)) ∙ same_log t log n.config i h

  configs_after_at : (t : AllLogs T D) (ns : List (Node T D)) (i : ℕ) → i < length t.configs
      → config_at (logs_after t ns) i ≡ config_at t i
  configs_after_at t [] i h = refl
  configs_after_at t (n ∷ ns) i h =
      let log : List (Entry T D) = log_at t n.parent ++ n.entry ∷ [] in
      let more : length (and_log t log n.config).configs ≡ length t.configs + 1 = length_push t.configs n.config in
      configs_after_at (and_log t log n.config) ns i (omega (arith, more)) ∙ same_config t log n.config i h

  -- a number without a node stands for the empty log
  pub no_node : (ns : List (Node T D)) (t : AllLogs T D) (log : ℕ) → logs_of ns ≡ t
      → (log ≡ 0) ⊎ (length ns < log) → (log_at t log ≡ []) × (config_at t log ≡ 0)
  no_node ns t log is (inl e) =
      let one : 0 < 1 = omega arith in (
        ap (λ (x : AllLogs T D). log_at x log) (sym is) ∙ ap (λ i. log_at (logs_of ns) i) e ∙ logs_after_at no_logs ns 0 one,
        ap (λ (x : AllLogs T D). config_at x log) (sym is) ∙ ap (λ i. config_at (logs_of ns) i) e
            ∙ configs_after_at no_logs ns 0 one,
      )
  no_node ns t log is (inr h) =
      let past : length (logs_of ns).logs ≤ log = omega (arith, logs_len ns) in
      let past2 : length (logs_of ns).configs ≤ log = omega (arith, configs_len ns) in (
        ap (λ (x : AllLogs T D). log_at x log) (sym is) ∙ get_or_past (logs_of ns).logs log [] past,
        ap (λ (x : AllLogs T D). config_at x log) (sym is) ∙ get_or_past (logs_of ns).configs log 0 past2,
      )

  -- the node that is read at a number is that of the log
  pub node_is : (ns : List (Node T D)) (t : AllLogs T D) (log : ℕ) (n : Node T D) → AreNodes ns
      → logs_of ns ≡ t → 0 < log → log ≤ length ns → n ≡ get_or ns (log - 1) n → IsNode t log n
  node_is ns t log n are is pos within read =
      let at : IsNode (logs_of ns) (log - 1 + 1) n = are (log - 1) n (omega arith) read in
      let same : log - 1 + 1 ≡ log = omega arith in
      subst (λ (x : AllLogs T D). IsNode x log n) is (subst (λ i. IsNode (logs_of ns) i n) same at)

  pub are_tree : (ns : List (Node T D)) (t : AllLogs T D) → AreNodes ns → logs_of ns ≡ t → IsTree t
  are_tree ns t are is log pos within = go (slice_get_cases ns (log - 1)).1
    where
      short : log ≤ length ns
      short =
          let e : length t.logs ≡ length ns + 1 = ap (λ (x : AllLogs T D). length x.logs) (sym is) ∙ logs_len ns in
          omega (arith, e)

      go : (((n : Node T D) × (log - 1 < length ns) × (slice_get ns (log - 1) ≡ Some n)
          × (get_or ns (log - 1) n ≡ n))
          ⊎ ((length ns ≤ log - 1) × (slice_get ns (log - 1) ≡ None))) → HasParent t log
      go (inl r) =
          let at : IsNode t log r.0 = node_is ns t log r.0 are is pos short (sym r.3) in record {
            parent = r.0.parent;
            entry = r.0.entry;
            earlier = at.parent;
            is = at.is;
          }
      go (inr r) = let h : length ns ≤ log - 1 = r.0 in absurd (omega (arith, short))

  -- a node stays that of its log if a log is added
  stays_node : (t : AllLogs T D) (new : List (Entry T D)) (config log : ℕ) (n : Node T D)
      → length t.configs ≡ length t.logs → IsNode t log n → IsNode (and_log t new config) log n
  stays_node t new config log n len is =
      let more : length (and_log t new config).logs ≡ length t.logs + 1 = length_push t.logs new in
      let jump_in : n.jump < length t.logs = omega (arith, is.jump, is.within) in
      let parent_in : n.parent < length t.logs = omega (arith, is.parent, is.within) in
      let config_in : log < length t.configs = omega (arith, len, is.within) in
      let here : log_at (and_log t new config) log ≡ log_at t log = same_log t new config log is.within in
      let at_jump : log_at (and_log t new config) n.jump ≡ log_at t n.jump = same_log t new config n.jump jump_in in
      let at_parent : log_at (and_log t new config) n.parent ≡ log_at t n.parent =
      same_log t new config n.parent parent_in in record {
        within = omega (arith, more, is.within);
        parent = is.parent;
        jump = is.jump;
        len = is.len ∙ ap length (sym here);
        short = is.short;
        is = here ∙ is.is ∙ ap (λ (l : List (Entry T D)). l ++ n.entry ∷ []) (sym at_parent);
        jumps = at_jump ∙ is.jumps
            ∙ (λ q. take (length (sym at_jump q)) (sym here q));
        config = same_config t new config log config_in ∙ is.config;
      }

  -- what a new node has to be
  pub record FitsAfter (t : AllLogs T D) (log : ℕ) (n : Node T D) : Type 0 where
    pub parent : n.parent < log
    pub jump : n.jump < log
    pub len : n.len ≡ length (log_at t n.parent) + 1
    pub short : n.len ≤ log
    pub jumps : log_at t n.jump ≡ take (length (log_at t n.jump)) (log_at t n.parent)

  new_node : (t : AllLogs T D) (log : ℕ) (n : Node T D) → length t.configs ≡ length t.logs
      → length t.logs ≡ log → FitsAfter t log n
      → IsNode (and_log t (log_at t n.parent ++ n.entry ∷ []) n.config) log n
  new_node t log n len at fits =
      let new : List (Entry T D) = log_at t n.parent ++ n.entry ∷ [] in
      let t2 : AllLogs T D = and_log t new n.config in
      let more : length t2.logs ≡ length t.logs + 1 = length_push t.logs new in
      let here : log_at t2 log ≡ new = new_log t new n.config log at in
      let jump_in : n.jump < length t.logs = omega (arith, at, fits.jump) in
      let parent_in : n.parent < length t.logs = omega (arith, at, fits.parent) in
      let at_jump : log_at t2 n.jump ≡ log_at t n.jump = same_log t new n.config n.jump jump_in in
      let at_parent : log_at t2 n.parent ≡ log_at t n.parent = same_log t new n.config n.parent parent_in in
      let taken : length (log_at t n.jump) ≤ length (log_at t n.parent) =
      short_take (length (log_at t n.jump)) (log_at t n.jump) (log_at t n.parent) fits.jumps in record {
        within = omega (arith, more, at);
        parent = fits.parent;
        jump = fits.jump;
        len = fits.len ∙ sym (length_push (log_at t n.parent) n.entry) ∙ ap length (sym here);
        short = fits.short;
        is = here ∙ ap (λ (l : List (Entry T D)). l ++ n.entry ∷ []) (sym at_parent);
        jumps = at_jump ∙ fits.jumps
            ∙ sym (take-append-le (length (log_at t n.jump)) (log_at t n.parent) (n.entry ∷ []) taken)
            ∙ (λ q. take (length (sym at_jump q)) (sym here q));
        config = new_config t new n.config log (len ∙ at);
      }
    where
      short_take : (k : ℕ) (p l : List (Entry T D)) → p ≡ take k l → length p ≤ length l
      short_take k p l e = let f : length p ≡ length (take k l) = ap length e in omega (arith, f, taken_len k l)
        where
          taken_len : (k : ℕ) (l : List (Entry T D)) → length (take k l) ≤ length l
          taken_len zero l = omega arith
          taken_len (suc k) [] = omega arith
          taken_len (suc k) (x ∷ l) = let ih : length (take k l) ≤ length l = taken_len k l in omega arith

  pub nodes_push : (ns : List (Node T D)) (n : Node T D) → AreNodes ns
      → FitsAfter (logs_of ns) (length ns + 1) n → AreNodes (ns ++ n ∷ [])
  nodes_push ns n are fits i x h read =
      subst (λ (t : AllLogs T D). IsNode t (i + 1) x) (sym (logs_push ns n)) (go (cases_lt i (length ns)))
    where
      lens : length (logs_of ns).configs ≡ length (logs_of ns).logs
      lens = configs_len ns ∙ sym (logs_len ns)

      go : (i < length ns) ⊎ (length ns ≤ i)
          → IsNode (and_log (logs_of ns) (log_at (logs_of ns) n.parent ++ n.entry ∷ []) n.config) (i + 1) x
      go (inl lt) =
          stays_node (logs_of ns) (log_at (logs_of ns) n.parent ++ n.entry ∷ []) n.config (i + 1) x lens
          (are i x lt (read ∙ get_or_append_left ns (n ∷ []) x i lt))
      go (inr ge) =
          let more : length (ns ++ n ∷ []) ≡ length ns + 1 = length_push ns n in
          let at : length ns ≡ i = omega (arith, more, ge, h) in
          let is : n ≡ x = sym (read ∙ get_or_push ns n x i at) in
          let here : length (logs_of ns).logs ≡ i + 1 = logs_len ns ∙ ap (λ m. m + 1) at in
          subst (λ (y : Node T D). IsNode (and_log (logs_of ns) (log_at (logs_of ns) n.parent ++ n.entry ∷ []) n.config) (i + 1) y) is
          (subst (λ m. IsNode (and_log (logs_of ns) (log_at (logs_of ns) n.parent ++ n.entry ∷ []) n.config) (m + 1) n) at
          (new_node (logs_of ns) (length ns + 1) n lens (logs_len ns) fits))

  pub last_push : (log : List (Entry T D)) (e : Entry T D) → last_entry (log ++ e ∷ []) ≡ Some e
  last_push [] e = refl
  last_push (x ∷ log) e = ap (λ o. option_or o (Some x)) (last_push log e)

  -- the first entries of a log, and one more: the last of these
  pub take_last : (log : List (Entry T D)) (i : ℕ) (e : Entry T D) → i < length log
      → Some e ≡ last_entry (take (i + 1) log) → take (i + 1) log ≡ take i log ++ e ∷ []
  take_last log i e h is =
      let more : take (i + 1) log ≡ take i log ++ get_or log i e ∷ [] = take_more log i e h in
      let same : e ≡ get_or log i e =
      same_Some e (get_or log i e) (is ∙ ap last_entry more ∙ last_push (take i log) (get_or log i e)) in
      more ∙ ap (λ x. take i log ++ x ∷ []) (sym same)

  -- ---- parents and jumps

  pub parent_len : (t : AllLogs T D) (log : ℕ) (n : Node T D) → IsNode t log n
      → length (log_at t log) ≡ length (log_at t n.parent) + 1
  parent_len t log n is = ap length is.is ∙ length_push (log_at t n.parent) n.entry

  pub jump_short : (t : AllLogs T D) (log : ℕ) (n : Node T D) → IsNode t log n
      → length (log_at t n.jump) ≤ length (log_at t log)
  jump_short t log n is =
      let e : length (log_at t n.jump) ≡ min (length (log_at t n.jump)) (length (log_at t log)) =
      ap length is.jumps ∙ length-take (length (log_at t n.jump)) (log_at t log) in
      omega (arith, e)
