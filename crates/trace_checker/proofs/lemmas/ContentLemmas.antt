-- Logs that have no entry of a content.
use Rattle.std.specs.Prelude.{◌≡◌, ◌⊎◌, ◌+◌, ◌<◌, ◌≤◌, ◌||◌, ℕ, zero, suc, Bool, true, false, List, [], ◌∷◌, ◌++◌, length, take, drop}
use Rattle.std.specs.BTreeMap.{is_at}
use Rattle.std.specs.List.{list_any}
use Rattle.std.specs.declared.cmp.Ordering.{Ordering}
use Rattle.std.proofs.Common.{refl, sym, ap, ◌∙◌, subst, inl, inr, arith}
use Rattle.std.proofs.lemmas.Bool.{cases_lt}
use Rattle.std.proofs.lemmas.List.{get_or_past}
use Rattle.std.proofs.lemmas.List.Folds.{list_any-append}
use Rattle.std.proofs.Math.Bool.{or-false}
use Rattle.safety_laws.specs.Log.{Entry}
use Rattle.trace_checker.specs.Inner.Logs.{AllLogs, AreWithout, LackContent, and_log, log_at, no_logs}
use Rattle.trace_checker.specs.Inner.Nodes.{AreContents, logs_after, logs_of}
use Rattle.trace_checker.specs.declared.checker.node.Node.{Node}
use Rattle.trace_checker.proofs.lemmas.LogTreeLemmas.{logs_after_at, logs_after_len, longer, new_log, same_log}

neither : (a b : Bool) → (a || b) ≡ false → (a ≡ false) × (b ≡ false)
neither true b h = absurd (cc)
neither false b h = (refl, h)

pub not_both : (b : Bool) → b ≡ true → b ≡ false → ⊥
not_both true h e = absurd (cc)
not_both false h e = absurd (cc)

module _ {T D : Type 0} (same : D → D → Bool) (d : D) where
  pub lack_take : (n : ℕ) (log : List (Entry T D)) → LackContent same d log → LackContent same d (take n log)
  lack_take zero log h = tt
  lack_take (suc n) [] h = tt
  lack_take (suc n) (e ∷ log) h = (h.0, lack_take n log h.1)

  pub lack_drop : (n : ℕ) (log : List (Entry T D)) → LackContent same d log → LackContent same d (drop n log)
  lack_drop zero log h = h
  lack_drop (suc n) [] h = tt
  lack_drop (suc n) (e ∷ log) h = lack_drop n log h.1

  pub lack_append : (a b : List (Entry T D)) → LackContent same d a → LackContent same d b → LackContent same d (a ++ b)
  lack_append [] b x y = y
  lack_append (e ∷ a) b x y = (x.0, lack_append a b x.1 y)

  pub lack_second : (a b : List (Entry T D)) → LackContent same d (a ++ b) → LackContent same d b
  lack_second [] b h = h
  lack_second (e ∷ a) b h = lack_second a b h.1

  -- one log more, whose last entry is not of the content
  lack_added : (t : AllLogs T D) (parent config : ℕ) (e : Entry T D) → AreWithout same t d
      → same d e.content ≡ false → AreWithout same (and_log t (log_at t parent ++ e ∷ []) config) d
  lack_added t parent config e before apart i within = go (cases_lt i (length t.logs))
    where
      first : (parent < length t.logs) ⊎ (length t.logs ≤ parent) → LackContent same d (log_at t parent)
      first (inl h) = before parent h
      first (inr h) = subst (LackContent same d) (sym (get_or_past t.logs parent [] h)) tt

      go : (i < length t.logs) ⊎ (length t.logs ≤ i)
          → LackContent same d (log_at (and_log t (log_at t parent ++ e ∷ []) config) i)
      go (inl h) = subst (LackContent same d) (sym (same_log t (log_at t parent ++ e ∷ []) config i h)) (before i h)
      go (inr h) =
          let more = longer t (log_at t parent ++ e ∷ []) config in
          let at : length t.logs ≡ i = omega (arith, h, within, more) in
          subst (LackContent same d) (sym (new_log t (log_at t parent ++ e ∷ []) config i at))
          (lack_append (log_at t parent) (e ∷ []) (first (cases_lt parent (length t.logs))) (apart, tt))

  lack_after : (t : AllLogs T D) (ns : List (Node T D)) → AreWithout same t d
      → list_any (λ n. same d n.entry.content) ns ≡ false → AreWithout same (logs_after t ns) d
  lack_after t [] before none = before
  lack_after t (n ∷ ns) before none =
      let both = neither (same d n.entry.content) (list_any (λ m. same d m.entry.content) ns) none in
      lack_after (and_log t (log_at t n.parent ++ n.entry ∷ []) n.config) ns
      (lack_added t n.parent n.config n.entry before both.0) both.1

  not_after : (t : AllLogs T D) (ns : List (Node T D)) → AreWithout same (logs_after t ns) d
      → list_any (λ n. same d n.entry.content) ns ≡ false
  not_after t [] without = refl
  not_after t (n ∷ ns) without =
      let log : List (Entry T D) = log_at t n.parent ++ n.entry ∷ [] in
      let t2 : AllLogs T D = and_log t log n.config in
      let more : length t2.logs ≡ length t.logs + 1 = longer t log n.config in
      let all : length (logs_after t2 ns).logs ≡ length t2.logs + length ns = logs_after_len t2 ns in
      let is : log_at (logs_after t2 ns) (length t.logs) ≡ log =
      logs_after_at t2 ns (length t.logs) (omega (arith, more)) ∙ new_log t log n.config (length t.logs) refl in
      let here : LackContent same d log = subst (LackContent same d) is (without (length t.logs) (omega (arith, more, all))) in
      let apart : same d n.entry.content ≡ false = (lack_second (log_at t n.parent) (n.entry ∷ []) here).0 in
      λ q. apart q || not_after t2 ns without q

  -- no log has an entry of the content exactly if no node has
  pub lack_nodes : (ns : List (Node T D)) → list_any (λ n. same d n.entry.content) ns ≡ false
      → AreWithout same (logs_of ns) d
  lack_nodes ns none = lack_after no_logs ns empty none
    where
      empty : AreWithout {T = T} same no_logs d
      empty i within =
          let at : 0 ≡ i = omega (arith, within) in subst (λ j. LackContent {T = T} same d (log_at no_logs j)) at tt

  pub no_node_of : (ns : List (Node T D)) → AreWithout same (logs_of ns) d
      → list_any (λ n. same d n.entry.content) ns ≡ false
  no_node_of ns without = not_after no_logs ns without

-- the contents of nodes after a node is added
pub contents_push : {T D : Type 0} (same : D → D → Bool) (cmp : D → D → Ordering) (old new : List D) (ns : List (Node T D))
    (n : Node T D) (content : D) → content ≡ n.entry.content → AreContents same cmp old ns
    → ((d : D) → list_any (is_at (cmp d)) new ≡ (list_any (is_at (cmp d)) old || same d content))
    → AreContents same cmp new (ns ++ n ∷ [])
contents_push same cmp old new ns n content is are added d =
    added d ∙ (λ q. are d q || same d (is q))
    ∙ ap (λ b. list_any (λ m. same d m.entry.content) ns || b) (sym (or-false (same d n.entry.content)))
    ∙ sym (list_any-append (λ m. same d m.entry.content) ns (n ∷ []))
