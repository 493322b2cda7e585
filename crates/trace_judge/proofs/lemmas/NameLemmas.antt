-- Names that get numbers.
use Rattle.std.specs.Prelude.{◌≡◌, ◌⊎◌, ◌+◌, ◌^◌, ◌<◌, ◌≤◌, ℕ, Bool, true, false, List, [], ◌∷◌, Option, Some, None, IfSome, String, codes, is_some, length, nat_eq, nat_lt}
use Rattle.std.specs.Global.{Global, Vec}
use Rattle.std.specs.HashMap.{HashMap, Updates, UpdatesBy, get, get_by_text}
use Rattle.std.specs.Map.{update}
use Rattle.std.specs.Str.{bytes_eq}
use Rattle.std.specs.String.{string_bytes, string_eq}
use Rattle.std.specs.declared.hash.FoldHasher.{FoldHasher}
use Rattle.std.specs.declared.hash.BuildHasherDefault.{BuildHasherDefault}
use Rattle.std.proofs.Common.{arith, refl, sym, ap, subst, cond, inl, inr, ◌∙◌}
use Rattle.std.proofs.lemmas.Bool.{eqb-true}
use Rattle.std.proofs.lemmas.Bool.Decides.{nat_tests}
use Rattle.std.proofs.lemmas.Map.Text.{hash_map_updates_text}
use Rattle.std.proofs.lemmas.Slice.Eq.{bytes_eq-Decides}
use Rattle.serde_json.specs.Data.{Data, Items, no_items, item}
use Rattle.safety_laws.specs.Log.{Entry}
use Rattle.safety_laws.specs.Trace.{TraceEvent, Campaigned, Granted, Appended, Acked, Restarted, Wrote, Committed, Applied}
use Rattle.trace_judge.specs.Filled.{FillsIn, IsFilledIn, IsFilledInFor, IsRestoredFor}
use Rattle.trace_judge.specs.Fields.{HasConfigs, IsConfig, IsEntry, IsId, SayEach}
use Rattle.trace_judge.specs.Inner.Table.{Extends, IsTable, Learns, numbering}
use Rattle.trace_judge.specs.Line.{Says, SaysEntries}
use Rattle.trace_judge.specs.Names.{HasNumber, IsName, Name, Number, Numbering, Text}
use Rattle.trace_judge.specs.Run.{AddsLine, Held, IsTraceOf, SaysMembership, SaysStart}
use Rattle.safety_laws.specs.declared.counting.ConfigsCount.{ConfigsCount}
use Rattle.trace_judge.specs.declared.names.Names.{Names}
use Rattle.trace_judge.proofs.lemmas.FillLemmas.{adds_weaker}

-- ---- a longer table

-- a name that has no number gets the next one
module _ (old new : Names) (a : Name) (no_number : numbering old a ≡ None)
    (gets : numbering new a ≡ Some old.next) (others : (b : Name) → (b ≡ a) ⊎ (numbering new b ≡ numbering old b))
    (next : new.next ≡ old.next + 1) where
  extends : Extends (numbering old) (numbering new)
  extends b n is = by (others b)
    where
      by : ((b ≡ a) ⊎ (numbering new b ≡ numbering old b)) → numbering new b ≡ Some n
      by (inl same) = let it : numbering old a ≡ Some n = subst (λ (x : Name). numbering old x ≡ Some n) same is in cc
      by (inr kept) = kept ∙ is

  -- a number of the longer table is the next one, or one of the table
  number_is : (b : Name) (n : ℕ) → numbering new b ≡ Some n
      → ((b ≡ a) × (n ≡ old.next)) ⊎ (numbering old b ≡ Some n)
  number_is b n is = by (others b)
    where
      by : ((b ≡ a) ⊎ (numbering new b ≡ numbering old b))
          → ((b ≡ a) × (n ≡ old.next)) ⊎ (numbering old b ≡ Some n)
      by (inl same) =
          let it : numbering new a ≡ Some n = subst (λ (x : Name). numbering new x ≡ Some n) same is in
          let n_is : n ≡ old.next = cc in inl (same, n_is)
      by (inr kept) = inr (sym kept ∙ is)

  is_table : IsTable old → IsTable new
  is_table table = record {
    below = λ b n is. below b n (number_is b n is);
    apart = λ b c n b_is c_is. apart b c n (number_is b n b_is) (number_is c n c_is);
  }
    where
      below : (b : Name) (n : ℕ) → ((b ≡ a) × (n ≡ old.next)) ⊎ (numbering old b ≡ Some n) → n < new.next
      below b n (inl latest) = omega (arith, latest.1)
      below b n (inr was) = omega (arith, table.below b n was)

      apart : (b c : Name) (n : ℕ) → ((b ≡ a) × (n ≡ old.next)) ⊎ (numbering old b ≡ Some n)
          → ((c ≡ a) × (n ≡ old.next)) ⊎ (numbering old c ≡ Some n) → b ≡ c
      apart b c n (inl x) (inl y) = x.0 ∙ sym y.0
      apart b c n (inl x) (inr y) = absurd (omega (arith, x.1, table.below c n y))
      apart b c n (inr x) (inl y) = absurd (omega (arith, y.1, table.below b n x))
      apart b c n (inr x) (inr y) = table.apart b c n x y

  pub learns : Learns old new
  learns = (extends, is_table)

-- a value that is a name has the number that the table has for this name
pub named : (names : Names) (d : Data) (a : Name) (o : Option ℕ) → IsName a d → o ≡ numbering names a
    → IfSome o (λ n. HasNumber (numbering names) d n)
named names d a None is number = tt
named names d a (Some n) is number = (a, is, sym number)

not_some : {X : Type 0} (o : Option X) → is_some o ≡ false → o ≡ None
not_some None is = refl
not_some (Some x) is = cc

-- a text gets a number
pub learns_text : (old new : Names) (key : String Global) (s : List ℕ) → string_bytes key ≡ s
    → is_some (get_by_text old.texts s) ≡ false
    → UpdatesBy string_eq (string_eq key) old.texts new.texts (Some old.next)
    → new.large ≡ old.large → new.next ≡ old.next + 1 → Learns old new
learns_text old new key s key_is absent updates large_is next_is =
    learns old new (Text s) (not_some (get_by_text old.texts s) absent) gets others next_is
  where
    at : (cs : List ℕ) → get_by_text new.texts cs ≡ update bytes_eq (get_by_text old.texts) s (Some old.next) cs
    at cs = subst
        (λ (bs : List ℕ). get_by_text new.texts cs ≡ update bytes_eq (get_by_text old.texts) bs (Some old.next) cs) key_is
        (hash_map_updates_text (string_bytes key) old.texts new.texts (Some old.next) updates cs)

    gets : get_by_text new.texts s ≡ Some old.next
    gets = at s ∙ ap (λ (b : Bool). cond b (Some old.next) (get_by_text old.texts s)) ((bytes_eq-Decides s s).1 refl)

    other : (cs : List ℕ) (b : Bool) → bytes_eq s cs ≡ b
        → (Text cs ≡ Text s) ⊎ (get_by_text new.texts cs ≡ get_by_text old.texts cs)
    other cs true is = inl (ap Text (sym ((bytes_eq-Decides s cs).0 is)))
    other cs false is = inr (at cs ∙ ap (λ (b : Bool). cond b (Some old.next) (get_by_text old.texts cs)) is)

    others : (b : Name) → (b ≡ Text s) ⊎ (numbering new b ≡ numbering old b)
    others (Number n) =
        inr (ap (λ (m : HashMap ℕ ℕ (BuildHasherDefault FoldHasher)). cond (nat_lt n (2 ^ 63)) (Some n) (get nat_eq m n)) large_is)
    others (Text cs) = other cs (bytes_eq s cs) refl

-- a number gets another number
pub learns_number : (old new : Names) (number : ℕ) → 2 ^ 63 ≤ number
    → is_some (get nat_eq old.large number) ≡ false
    → Updates nat_eq old.large new.large number (Some old.next)
    → new.texts ≡ old.texts → new.next ≡ old.next + 1 → Learns old new
learns_number old new number large absent updates texts_is next_is =
    learns old new (Number number) (of old ∙ not_some (get nat_eq old.large number) absent) (of new ∙ gets) others next_is
  where
    of : (names : Names) → numbering names (Number number) ≡ get nat_eq names.large number
    of names = grind (arith, nat_tests)

    gets : get nat_eq new.large number ≡ Some old.next
    gets = updates.1

    other : (n : ℕ) (b : Bool) → nat_eq number n ≡ b
        → (Number n ≡ Number number) ⊎ (numbering new (Number n) ≡ numbering old (Number n))
    other n true is = inl (ap Number (sym (eqb-true number n is)))
    other n false is =
        inr (ap (λ (o : Option ℕ). cond (nat_lt n (2 ^ 63)) (Some n) o) (updates.2 n is))

    others : (b : Name) → (b ≡ Number number) ⊎ (numbering new b ≡ numbering old b)
    others (Number n) = other n (nat_eq number n) refl
    others (Text cs) =
        inr (ap (λ (m : HashMap (String Global) ℕ (BuildHasherDefault FoldHasher)). get_by_text m cs) texts_is)

-- ---- what a line says with more numbers

module _ (old new : Numbering) (more : Extends old new) where
  has_number : (d : Data) (n : ℕ) → HasNumber old d n → HasNumber new d n
  has_number d n h = (h.0, h.1, more h.0 n h.2)

  is_id : (name : List ℕ) (n : ℕ) (d : Data) → IsId old name n d → IsId new name n d
  is_id name n d h = (h.0, h.1, has_number h.0 n h.2)

  say_each : {A : Type 0} (P Q : Data → A → Type 0) → ((d : Data) (x : A) → P d x → Q d x) → (ds : Items) (xs : List A)
      → SayEach P ds xs → SayEach Q ds xs
  say_each P Q weaker no_items [] h = tt
  say_each P Q weaker no_items (x ∷ xs) h = absurd h
  say_each P Q weaker (item d ds) [] h = absurd h
  say_each P Q weaker (item d ds) (x ∷ xs) h = (weaker d x h.0, say_each P Q weaker ds xs h.1)

  config : (d : Data) (v : Vec ℕ) → IsConfig old d v → IsConfig new d v
  config d v h = (h.0, h.1, say_each (HasNumber old) (HasNumber new) has_number h.0 v.items h.2)

  entry : (d : Data) (e : Entry ℕ ℕ) → IsEntry old d e → IsEntry new d e
  entry d e h = (h.0, (h.1.0, h.1.1, has_number h.1.0 e.content h.1.2))

  entries : (first : ℕ) (d : Data) (n : ℕ) (sent : List (Entry ℕ ℕ)) → SaysEntries old first d n sent
      → SaysEntries new first d n sent
  entries first d n sent (inl h) =
      inl (h.0, (h.1.0, h.1.1, say_each (IsEntry old) (IsEntry new) entry h.1.0 sent h.1.2))
  entries first d n sent (inr h) = inr h

  -- what a line says stays so with more numbers
  pub says : (first : ℕ) (d : Data) (e : TraceEvent ℕ ℕ ℕ) → Says old first d e → Says new first d e
  says first d (Campaigned s t) h = (h.0, is_id (codes "server") s d h.1, h.2)
  says first d (Granted s t c) h =
      (h.0, is_id (codes "server") s d h.1, h.2, is_id (codes "candidate") c d h.3)
  says first d (Appended s t c n sent) h =
      (h.0, is_id (codes "server") s d h.1, h.2, is_id (codes "leader") c d h.3, entries first d n sent h.4)
  says first d (Acked s t c n) h =
      (h.0, is_id (codes "server") s d h.1, h.2, is_id (codes "leader") c d h.3, h.4)
  says first d (Restarted s n) h = (h.0, is_id (codes "server") s d h.1, h.2)
  says first d (Wrote c t e) h =
      (h.0, is_id (codes "leader") c d h.1, h.2, h.3, is_id (codes "content") e.content d h.4)
  says first d (Committed c t n m) h = (h.0, is_id (codes "leader") c d h.1, h.2, h.3, h.4)
  says first d (Applied s t c n) h = (h.0, is_id (codes "server") s d h.1, h.2)

  has_configs : (d : Data) (configs : List (Vec ℕ)) → HasConfigs old d configs → HasConfigs new d configs
  has_configs d configs h = (h.0, h.1, say_each (IsConfig old) (IsConfig new) config h.0 configs h.2)

  -- the membership that a line says stays so with more numbers
  pub says_membership : (d : Data) (e : TraceEvent ℕ ℕ ℕ) (m : Option Held) → SaysMembership old d e m
      → SaysMembership new d e m
  says_membership d (Campaigned s t) None h = h
  says_membership d (Campaigned s t) (Some m) h = h
  says_membership d (Granted s t c) None h = h
  says_membership d (Granted s t c) (Some m) h = h
  says_membership d (Appended s t c n sent) None h = h
  says_membership d (Appended s t c n sent) (Some m) h = h
  says_membership d (Acked s t c n) None h = h
  says_membership d (Acked s t c n) (Some m) h = h
  says_membership d (Restarted s n) None h = h
  says_membership d (Restarted s n) (Some m) h = h
  says_membership d (Wrote c t e) None h = h
  says_membership d (Wrote c t e) (Some m) h = (h.0, has_configs d m.1.items h.1)
  says_membership d (Committed c t n k) None h = h
  says_membership d (Committed c t n k) (Some m) h = h
  says_membership d (Applied s t c n) None h = h
  says_membership d (Applied s t c n) (Some m) h = h

  adds_line : (first : ℕ) (line : List ℕ) (known : List Held) (before : List (TraceEvent ℕ ℕ ℕ)) (held : List Held)
      (after : List (TraceEvent ℕ ℕ ℕ)) → AddsLine old first line known before held after
      → AddsLine new first line known before held after
  adds_line first line known before held after (inl h) = inl h
  adds_line first line known before held after (inr h) =
      inr (h.0, h.1, h.2, h.3, says first h.0 h.1 h.4, h.5, says_membership h.0 h.1 h.2 h.6, h.7, h.8)

  -- an event is filled in for a line also with more numbers
  pub filled_for : (first : ℕ) (d : Data) (es : List (TraceEvent ℕ ℕ ℕ)) (e : TraceEvent ℕ ℕ ℕ)
      → IsFilledInFor old first d es e → IsFilledInFor new first d es e
  filled_for first d es (Campaigned s t) h = h
  filled_for first d es (Granted s t c) h = h
  filled_for first d es (Appended s t c n sent) h = h
  filled_for first d es (Acked s t c n) h = says first d (Applied s t c n) h
  filled_for first d es (Restarted s n) h = h
  filled_for first d es (Wrote c t e) h = h
  filled_for first d es (Committed c t n m) h = (h.0, h.1, says first d (Applied h.0 t c h.1) h.2, h.3)
  filled_for first d es (Applied s t c n) h = h

  pub restored_for : (first : ℕ) (d : Data) (es : List (TraceEvent ℕ ℕ ℕ)) (e : TraceEvent ℕ ℕ ℕ)
      → IsRestoredFor old first d es e → IsRestoredFor new first d es e
  restored_for first d es (Campaigned s t) h = h
  restored_for first d es (Granted s t c) h = h
  restored_for first d es (Appended s t c n sent) h = (says first d (Restarted s (n + length sent)) h.0, h.1, h.2)
  restored_for first d es (Acked s t c n) h = h
  restored_for first d es (Restarted s n) h = h
  restored_for first d es (Wrote c t e) h = h
  restored_for first d es (Committed c t n m) h = h
  restored_for first d es (Applied s t c n) h = h

  filled : (first : ℕ) (lines : List (List ℕ)) (es : List (TraceEvent ℕ ℕ ℕ)) (e : TraceEvent ℕ ℕ ℕ)
      → IsFilledIn old first lines es e → IsFilledIn new first lines es e
  filled first lines es e (inl h) = inl (h.0, h.1, h.2, h.3, filled_for first h.1 es e h.4)
  filled first lines es e (inr h) = inr (h.0, h.1, h.2, h.3, h.4, restored_for first h.2 es e h.5)

  fills : (first : ℕ) (lines : List (List ℕ)) (before after : List (TraceEvent ℕ ℕ ℕ))
      → FillsIn old first lines before after → FillsIn new first lines before after
  fills first lines before after h =
      adds_weaker (IsFilledIn old first lines) (IsFilledIn new first lines) (filled first lines) before after h

  -- the trace of lines stays so with more numbers
  pub trace_more : (first : ℕ) (later taken : List (List ℕ)) (held : List Held) (es : List (TraceEvent ℕ ℕ ℕ))
      → IsTraceOf old first later taken held es → IsTraceOf new first later taken held es
  trace_more first later [] held es h = (h.0, fills first later [] es h.1)
  trace_more first later (line ∷ taken) held es h = (
    h.0,
    h.1,
    trace_more first (line ∷ later) taken h.0 h.1 h.2,
    (h.3.0, adds_line first line h.0 h.1 held h.3.0 h.3.1, fills first later h.3.0 es h.3.2),
  )

  -- what the first line says stays so with more numbers
  pub start_more : (line : List ℕ) (configs : List (Vec ℕ)) (first : ℕ) (counting : ConfigsCount)
      → SaysStart old line configs first counting → SaysStart new line configs first counting
  start_more line configs first counting h = (
    h.0,
    h.1,
    h.2,
    has_configs h.0 configs h.3,
    h.4,
    h.5,
  )
