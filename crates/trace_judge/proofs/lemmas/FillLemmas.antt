-- Events that are filled in.
use Rattle.std.specs.Prelude.{◌≡◌, ◌⊎◌, ℕ, Bool, true, false, if◌then◌else◌, List, [], ◌∷◌, ◌++◌, Option, Some, None, codes, get_or}
use Rattle.std.proofs.Common.{refl, sym, ap, subst, ◌∙◌, inl, inr, append_assoc, arith}
use Rattle.serde_json.specs.Data.{Data}
use Rattle.serde_json.specs.Read.{read}
use Rattle.safety_laws.specs.Ranks.{IsAmong}
use Rattle.safety_laws.specs.Trace.{TraceEvent, Campaigned, Granted, Appended, Acked, Restarted, Wrote, Committed, Applied, leader_log_in}
use Rattle.trace_judge.specs.Fields.{IsNamed}
use Rattle.trace_judge.specs.Filled.{AddsEach, HoldAfter, IsFilledIn, IsFilledInFor, IsRestoredFor}
use Rattle.trace_judge.specs.Inner.Reading.{IsMissing, TakesUpTo}
use Rattle.trace_judge.specs.Line.{Says}
use Rattle.trace_judge.specs.Logs.{EndsInTerm}
use Rattle.trace_judge.specs.Names.{Numbering}
use Rattle.trace_judge.specs.Numbers.{log_tests}
use Rattle.trace_judge.specs.Run.{Held, IsTraceOf}

module _ (P : List (TraceEvent ℕ ℕ ℕ) → TraceEvent ℕ ℕ ℕ → Type 0) where
  pub adds_none : (es : List (TraceEvent ℕ ℕ ℕ)) → AddsEach P es es
  adds_none es = ([], tt, refl)

  pub adds_one : (e : TraceEvent ℕ ℕ ℕ) (es : List (TraceEvent ℕ ℕ ℕ)) → P es e → AddsEach P es (e ∷ es)
  adds_one e es h = (e ∷ [], (h, tt), refl)

  hold_both : (before some more : List (TraceEvent ℕ ℕ ℕ)) → HoldAfter P before some → HoldAfter P (some ++ before) more
      → HoldAfter P before (more ++ some)
  hold_both before some [] one two = one
  hold_both before some (e ∷ more) one two = (
    subst (λ (es : List (TraceEvent ℕ ℕ ℕ)). P es e) (sym (append_assoc more some before)) two.0,
    hold_both before some more one two.1,
  )

  pub adds_both : (before es after : List (TraceEvent ℕ ℕ ℕ)) → AddsEach P before es → AddsEach P es after
      → AddsEach P before after
  adds_both before es after one two = (
    two.0 ++ one.0,
    hold_both before one.0 two.0 one.1
        (subst (λ (l : List (TraceEvent ℕ ℕ ℕ)). HoldAfter P l two.0) one.2 two.1),
    two.2 ∙ ap (λ (l : List (TraceEvent ℕ ℕ ℕ)). two.0 ++ l) one.2 ∙ sym (append_assoc two.0 one.0 before),
  )

module _ (P Q : List (TraceEvent ℕ ℕ ℕ) → TraceEvent ℕ ℕ ℕ → Type 0)
    (weaker : (es : List (TraceEvent ℕ ℕ ℕ)) (e : TraceEvent ℕ ℕ ℕ) → P es e → Q es e) where
  hold_weaker : (before more : List (TraceEvent ℕ ℕ ℕ)) → HoldAfter P before more → HoldAfter Q before more
  hold_weaker before [] h = tt
  hold_weaker before (e ∷ more) h = (weaker (more ++ before) e h.0, hold_weaker before more h.1)

  pub adds_weaker : (before after : List (TraceEvent ℕ ℕ ℕ)) → AddsEach P before after → AddsEach Q before after
  adds_weaker before after h = (h.0, hold_weaker before h.0 h.1, h.2)

-- ---- a line that says the start is none for which an event is filled in

abbrev first_code : Option (List ℕ) → ℕ
first_code None = 0
first_code (Some text) = get_or text 0 0

-- a line that says the start does not say that a server applies entries
not_applied : (d : Data) → IsNamed (codes "started") d → IsNamed (codes "applied") d → ⊥
not_applied d named other =
    let differs : 115 ≡ 97 = ap first_code (sym named ∙ other) in absurd (omega (arith, differs))

not_started : (number_of : Numbering) (first : ℕ) (d : Data) (es : List (TraceEvent ℕ ℕ ℕ)) (e : TraceEvent ℕ ℕ ℕ)
    → IsNamed (codes "started") d → IsFilledInFor number_of first d es e → ⊥
not_started number_of first d es (Campaigned s t) named h = h
not_started number_of first d es (Granted s t c) named h = h
not_started number_of first d es (Appended s t c n sent) named h = h
not_started number_of first d es (Acked s t c n) named h = not_applied d named h.0
not_started number_of first d es (Restarted s n) named h = h
not_started number_of first d es (Wrote c t e) named h = h
not_started number_of first d es (Committed c t n m) named h = not_applied d named h.2.0
not_started number_of first d es (Applied s t c n) named h = h

not_restored : (number_of : Numbering) (first : ℕ) (d : Data) (es : List (TraceEvent ℕ ℕ ℕ)) (e : TraceEvent ℕ ℕ ℕ)
    → IsNamed (codes "started") d → IsRestoredFor number_of first d es e → ⊥
not_restored number_of first d es (Campaigned s t) named h = h
not_restored number_of first d es (Granted s t c) named h = h
not_restored number_of first d es (Appended s t c n sent) named h = let other = h.0.0 in cc
not_restored number_of first d es (Acked s t c n) named h = h
not_restored number_of first d es (Restarted s n) named h = h
not_restored number_of first d es (Wrote c t e) named h = h
not_restored number_of first d es (Committed c t n m) named h = h
not_restored number_of first d es (Applied s t c n) named h = h

among_without : (pre later : List (List ℕ)) (line x : List ℕ) → IsAmong x (pre ++ line ∷ later)
    → (x ≡ line) ⊎ IsAmong x (pre ++ later)
among_without [] later line x (inl is) = inl is
among_without [] later line x (inr is) = inr is
among_without (y ∷ pre) later line x (inl is) = inr (inl is)
among_without (y ∷ pre) later line x (inr is) = by (among_without pre later line x is)
  where
    by : ((x ≡ line) ⊎ IsAmong x (pre ++ later)) → (x ≡ line) ⊎ IsAmong x (y ∷ pre ++ later)
    by (inl same) = inl same
    by (inr among) = inr (inr among)

module _ (number_of : Numbering) (first : ℕ) (line : List ℕ) (d : Data) (reads : read line ≡ Some d)
    (named : IsNamed (codes "started") d) (later : List (List ℕ)) where
  says_start : (x : List ℕ) (other : Data) → x ≡ line → read x ≡ Some other → IsNamed (codes "started") other
  says_start x other same is =
      let it : read x ≡ Some d = subst (λ (l : List ℕ). read l ≡ Some d) (sym same) reads in
      let says : Some other ≡ Some d = sym is ∙ it in
      let one : d ≡ other = cc in subst (λ (v : Data). IsNamed (codes "started") v) one named

  filled_without : (pre : List (List ℕ)) (es : List (TraceEvent ℕ ℕ ℕ)) (e : TraceEvent ℕ ℕ ℕ)
      → IsFilledIn number_of first (pre ++ line ∷ later) es e → IsFilledIn number_of first (pre ++ later) es e
  filled_without pre es e (inl h) = by (among_without pre later line h.0 h.2)
    where
      by : ((h.0 ≡ line) ⊎ IsAmong h.0 (pre ++ later)) → IsFilledIn number_of first (pre ++ later) es e
      by (inl same) = absurd (not_started number_of first h.1 es e (says_start h.0 h.1 same h.3) h.4)
      by (inr among) = inl (h.0, h.1, among, h.3, h.4)
  filled_without [] es e (inr h) =
      let same : h.0 ≡ line = cc in absurd (not_restored number_of first h.2 es e (says_start h.0 h.2 same h.4) h.5)
  filled_without (y ∷ pre) es e (inr h) =
      let same : y ≡ h.0 = cc in
      inr (h.0, pre ++ later, h.2, ap (λ (l : List ℕ). l ∷ pre ++ later) same, h.4, h.5)

  -- a trace stays one of lines before others if one of these says the start
  pub trace_without : (pre taken : List (List ℕ)) (held : List Held) (es : List (TraceEvent ℕ ℕ ℕ))
      → IsTraceOf number_of first (pre ++ line ∷ later) taken held es
      → IsTraceOf number_of first (pre ++ later) taken held es
  trace_without pre [] held es h = (
    h.0,
    adds_weaker (IsFilledIn number_of first (pre ++ line ∷ later)) (IsFilledIn number_of first (pre ++ later))
        (filled_without pre) [] es h.1,
  )
  trace_without pre (x ∷ taken) held es h = (
    h.0,
    h.1,
    trace_without (x ∷ pre) taken h.0 h.1 h.2,
    (
      h.3.0,
      h.3.1,
      adds_weaker (IsFilledIn number_of first (pre ++ line ∷ later)) (IsFilledIn number_of first (pre ++ later))
          (filled_without pre) h.3.0 es h.3.2,
    ),
  )

-- ---- what is filled in for a line

pub some_if : (b : Bool) (x y : ℕ) → (if b then Some x else None) ≡ Some y → x ≡ y
some_if true x y is = cc
some_if false x y is = cc

-- a server takes what it has read from its disk from a leader
pub restores : (number_of : Numbering) (first : ℕ) (d : Data) (es : List (TraceEvent ℕ ℕ ℕ)) (e : TraceEvent ℕ ℕ ℕ)
    (s t c len : ℕ) → TakesUpTo s t c len e → IsMissing es e → Says number_of first d (Restarted s len)
    → EndsInTerm d len (leader_log_in log_tests es t c) → IsRestoredFor number_of first d es e
restores number_of first d es e s t c len up missing says ends =
    let n = up.0 in
    let sent = up.1.0 in
    let sum = sym up.1.2 in
    subst (λ (x : TraceEvent ℕ ℕ ℕ). IsRestoredFor number_of first d es x) (sym up.1.1) (
      subst (λ (k : ℕ). Says number_of first d (Restarted s k)) sum says,
      subst (λ (x : TraceEvent ℕ ℕ ℕ). IsMissing es x) up.1.1 missing,
      subst (λ (k : ℕ). EndsInTerm d k (leader_log_in log_tests es t c)) sum ends,
    )
