-- Lines that a judge takes.
use Rattle.std.specs.Prelude.{◌≡◌, ◌<◌, ℕ, nat_eq, length, get_or, Bool, true, false, cond, List, [], ◌∷◌, ◌++◌, Option, Some, None, IfSome, Result, Ok, Err, IfErr, IfOk, OnOk}
use Rattle.std.specs.Borrow.{Bor}
use Rattle.std.specs.Map.{lookup}
use Rattle.std.specs.Option.{option_copied, unwrap_or}
use Rattle.std.proofs.Common.{refl, sym, ap, subst, ◌∙◌, inl, inr, arith, zero, suc}
use Rattle.std.proofs.lemmas.Bool.{eqb-true}
use Rattle.std.specs.Global.{Vec}
use Rattle.serde_json.specs.Data.{Data}
use Rattle.serde_json.specs.Read.{read}
use Rattle.safety_laws.specs.Trace.{AreExact, Tests, TraceEvent, Campaigned, Granted, Appended, Acked, Restarted, Wrote, Committed, Applied}
use Rattle.trace_checker.specs.Checker.{IsUnused, Keeps as KeepsEvents, KeepsAlso, OfAll, configs_of, counting_of, kept_by}
use Rattle.safety_laws.specs.Ranks.{IsAmong}
use Rattle.safety_laws.specs.declared.counting.ConfigsCount.{ConfigsCount}
use Rattle.trace_checker.specs.declared.memberships.Memberships.{Memberships}
use Rattle.trace_judge.specs.Fields.{HasConfigs}
use Rattle.trace_judge.specs.Filled.{AddsEach, FillsIn, IsFilledIn, IsFilledInFor, IsRestoredFor}
use Rattle.trace_judge.specs.Inner.Table.{IsTable, Learns, numbering}
use Rattle.trace_judge.specs.Inner.Taken.{FillsBy, FillsFor, GoesOn, HasTaken, IsStarted, KeepsMore, KeepsTrace, Refuses, RestoresFor, Stays, Takes, TakesEvent, TakesSaid, held_by, tests_for}
use Rattle.trace_judge.specs.Inner.Votes.{AreVotesIn}
use Rattle.trace_judge.specs.Names.{Numbering}
use Rattle.trace_judge.specs.Run.{Adds, AddsLine, AddsMembership, Held, IsTraceOf, SaysMembership, SaysStart}
use Rattle.trace_judge.specs.declared.chart.Chart.{Chart}
use Rattle.trace_judge.specs.declared.counts.Counts.{Counts}
use Rattle.trace_judge.specs.declared.judge.Judge.{Judge}
use Rattle.trace_judge.specs.declared.names.Names.{Names}
use Rattle.trace_judge.proofs.lemmas.FillLemmas.{adds_both, adds_none, adds_weaker}
use Rattle.trace_judge.proofs.lemmas.NameLemmas.{filled_for, restored_for, trace_more}
use Rattle.trace_judge.proofs.lemmas.VoteLemmas.{no_votes_in}

-- what holds of each error holds of the one that is returned, if there is one
pub whatever_err : {T E : Type 0} → (r : Result T E) (P : E → Type 0) → ((e : E) → P e) → IfErr r P
whatever_err (Ok x) P h = tt
whatever_err (Err e) P h = h e

-- what follows for each value follows for the one that is returned, if there is one
pub ok_then : {T E P : Type 0} → (r : Result T E) (Q : T → Type 0) → ((x : T) → P → Q x) → OnOk r P → IfOk r Q
ok_then (Ok x) Q h p = h x p
ok_then (Err e) Q h p = tt

-- an item of a list is among them
pub among_at : {X : Type 0} (xs : List X) (i : ℕ) (x : X) → i < length xs → x ≡ get_or xs i x → IsAmong x xs
among_at [] i x within is = absurd (omega arith)
among_at (y ∷ ys) zero x within is = inl is
among_at (y ∷ ys) (suc i) x within is = inr (among_at ys i x (omega arith) is)

-- a membership that is looked up is one of the list
among_found : {V : Type 0} (n : ℕ) (xs : List (ℕ × V)) (v : V) → Some v ≡ lookup (λ d. nat_eq d n) xs
    → IsAmong (n, v) xs
among_found n [] v is = absurd (cc)
among_found n (x ∷ xs) v is = go (nat_eq x.0 n) refl (among_found n xs v) is
  where
    go : (b : Bool) → nat_eq x.0 n ≡ b → (Some v ≡ lookup (λ d. nat_eq d n) xs → IsAmong (n, v) xs)
        → Some v ≡ cond b (Some x.1) (lookup (λ d. nat_eq d n) xs) → IsAmong (n, v) (x ∷ xs)
    go true e rest h = inl (λ q. (sym (eqb-true x.0 n e) q, ap (λ o. unwrap_or o v) h q))
    go false e rest h = inr (rest h)

pub among_copied : {V : Type 0} (n : ℕ) (xs : List (ℕ × V)) (o : Option (Bor V))
    → option_copied o ≡ lookup (λ d. nat_eq d n) xs → IfSome o (λ v. IsAmong (n, v.now) xs)
among_copied n xs None is = tt
among_copied n xs (Some v) is = among_found n xs v.now is

-- a line says a membership if it says an equal one
pub says_same : (number_of : Numbering) (d : Data) (e : TraceEvent ℕ ℕ ℕ) (n : ℕ) (a b : Vec (Vec ℕ))
    → (HasConfigs number_of d b.items → HasConfigs number_of d a.items) → SaysMembership number_of d e (Some (n, b))
    → SaysMembership number_of d e (Some (n, a))
says_same number_of d (Campaigned s t) n a b same says = says
says_same number_of d (Granted s t c) n a b same says = says
says_same number_of d (Appended s t c m sent) n a b same says = says
says_same number_of d (Acked s t c m) n a b same says = says
says_same number_of d (Restarted s m) n a b same says = says
says_same number_of d (Wrote c t e) n a b same says = (says.0, same says.1)
says_same number_of d (Committed c t m k) n a b same says = says
says_same number_of d (Applied s t c m) n a b same says = says

-- ---- events that are filled in

trace_fills : (number_of : Numbering) (first : ℕ) (later taken : List (List ℕ)) (held : List Held)
    (es after : List (TraceEvent ℕ ℕ ℕ)) → IsTraceOf number_of first later taken held es
    → FillsIn number_of first later es after → IsTraceOf number_of first later taken held after
trace_fills number_of first later [] held es after is fills =
    (is.0, adds_both (IsFilledIn number_of first later) [] es after is.1 fills)
trace_fills number_of first later (line ∷ taken) held es after is fills = (
  is.0,
  is.1,
  is.2,
  (is.3.0, is.3.1, adds_both (IsFilledIn number_of first later) is.3.0 es after is.3.2 fills),
)

-- what is filled in for a line is filled in for one of the lines that come later
filled_in_later : (number_of : Numbering) (first : ℕ) (line : List ℕ) (d : Data) (later : List (List ℕ))
    → read line ≡ Some d → IsAmong line later → (es : List (TraceEvent ℕ ℕ ℕ)) (e : TraceEvent ℕ ℕ ℕ)
    → IsFilledInFor number_of first d es e → IsFilledIn number_of first later es e
filled_in_later number_of first line d later reads among es e h = inl (line, d, among, reads, h)

-- votes that are in a trace are in it once events are filled in
pub votes_filled : (votes : List (ℕ × (ℕ × ℕ))) (filled es : List (TraceEvent ℕ ℕ ℕ)) → AreVotesIn votes es
    → AreVotesIn votes (filled ++ es)
votes_filled votes [] es are = are
votes_filled votes (e ∷ filled) es are = λ s v is. inr (votes_filled votes filled es are s v is)

-- whether tests are exact does not depend on when configs count
pub exact_when : (k : Tests ℕ ℕ ℕ (Option ℕ)) (w : ConfigsCount) → AreExact k → AreExact (record k { counting = w })
exact_when k w exact = record {
  same_term = exact.same_term;
  term_itself = exact.term_itself;
  same_id = exact.same_id;
  id_itself = exact.id_itself;
  same_content = exact.same_content;
  content_itself = exact.content_itself;
  intersect = exact.intersect;
}

module _ (tests : ConfigsCount → Memberships ℕ ℕ → Tests ℕ ℕ ℕ (Option ℕ)) where
  -- a judge that is made has taken no line
  pub started : (line : List ℕ) (judge : Judge) (members : Memberships ℕ ℕ) (counting : ConfigsCount)
      → configs_of judge.checker ≡ members → counting_of judge.checker ≡ counting
      → SaysStart (numbering judge.names) line members.initial.items judge.first counting → members.held.items ≡ []
      → IsTable judge.names → AreExact (tests counting members)
      → KeepsEvents (tests counting members) [] (kept_by judge.checker) → judge.counts.votes.entries ≡ []
      → IsStarted tests line judge
  started line judge members counting is counts says none table exact keeps no_votes =
      let same : tests counting members ≡ tests_for tests judge = λ i. tests (sym counts i) (sym is i) in (
        subst (λ (m : Memberships ℕ ℕ). SaysStart (numbering judge.names) line m.initial.items judge.first (counting_of judge.checker))
            (sym is)
            (subst (λ (w : ConfigsCount). SaysStart (numbering judge.names) line members.initial.items judge.first w) (sym counts)
            says),
        λ later. record {
          trace = [];
          is_trace = (
            ap (λ (m : Memberships ℕ ℕ). m.held.items) is ∙ none,
            adds_none (IsFilledIn (numbering judge.names) judge.first later) [],
          );
          keeps = record {
            exact = subst (λ (k : Tests ℕ ℕ ℕ (Option ℕ)). AreExact k) same exact;
            table = table;
            keeps = subst (λ (k : Tests ℕ ℕ ℕ (Option ℕ)). KeepsEvents k [] (kept_by judge.checker)) same keeps;
            votes = no_votes_in judge.counts.votes.entries [] no_votes;
          };
        },
      )

  -- an empty line is taken by doing nothing
  pub takes_empty : (line : List ℕ) (judge : Judge) → line ≡ [] → Takes tests line judge judge
  takes_empty line judge is = (
    (refl, refl, λ a n is. is, refl),
    λ later taken has. record {
      trace = has.trace;
      is_trace = (
        held_by tests judge,
        has.trace,
        has.is_trace,
        (
          has.trace,
          inl (is, refl, refl),
          adds_none (IsFilledIn (numbering judge.names) judge.first later) has.trace,
        ),
      );
      keeps = has.keeps;
    },
  )

  -- ---- one step after the other

  pub goes_on : (old mid new : Judge) → GoesOn tests old mid → GoesOn tests mid new → GoesOn tests old new
  goes_on old mid new one two =
      (two.0 ∙ one.0, two.1 ∙ one.1, λ a n is. two.2 a n (one.2 a n is), two.3 ∙ one.3)

  goes_still : (judge : Judge) → GoesOn tests judge judge
  goes_still judge = (refl, refl, λ a n is. is, refl)

  pub fills_nothing : (number_of : Numbering) (first : ℕ) (d : Data) (judge : Judge)
      → FillsFor tests number_of first d judge judge
  fills_nothing number_of first d judge =
      (goes_still judge, λ es keeps. (es, adds_none (IsFilledInFor number_of first d) es, refl, keeps))

  pub fills_both : (number_of : Numbering) (first : ℕ) (d : Data) (old mid new : Judge)
      → FillsFor tests number_of first d old mid → FillsFor tests number_of first d mid new
      → FillsFor tests number_of first d old new
  fills_both number_of first d old mid new one two = (
    goes_on old mid new one.0 two.0,
    λ es keeps.
        let some = one.1 es keeps in
        let more = two.1 some.0 some.3 in (
          more.0,
          adds_both (IsFilledInFor number_of first d) es some.0 more.0 some.1 more.1,
          more.2 ∙ some.2,
          more.3,
        ),
  )

  -- a judge fills in events before or after it stays the same
  pub fills_on : (P Q : List (TraceEvent ℕ ℕ ℕ) → TraceEvent ℕ ℕ ℕ → Type 0)
      → ((es : List (TraceEvent ℕ ℕ ℕ)) (e : TraceEvent ℕ ℕ ℕ) → P es e → Q es e) → (old mid new : Judge)
      → FillsBy tests P old mid → Stays tests mid new → FillsBy tests Q old new
  fills_on P Q weaker old mid new fills stays = (
    goes_on old mid new fills.0 stays.0,
    λ es keeps.
        let some = fills.1 es keeps in
        let next = stays.1 some.0 some.3 in (
          next.0,
          subst (λ (l : List (TraceEvent ℕ ℕ ℕ)). AddsEach Q es l) (sym next.1) (adds_weaker P Q weaker es some.0 some.1),
          next.2 ∙ some.2,
          next.3,
        ),
  )

  pub fills_after : (P : List (TraceEvent ℕ ℕ ℕ) → TraceEvent ℕ ℕ ℕ → Type 0) (old mid new : Judge) → Stays tests old mid
      → FillsBy tests P mid new → FillsBy tests P old new
  fills_after P old mid new stays fills = (
    goes_on old mid new stays.0 fills.0,
    λ es keeps.
        let some = stays.1 es keeps in
        let next = fills.1 some.0 some.3 in (
          next.0,
          subst (λ (l : List (TraceEvent ℕ ℕ ℕ)). AddsEach P l next.0) some.1 next.1,
          next.2 ∙ some.2,
          next.3,
        ),
  )

  pub stays_both : (old mid new : Judge) → Stays tests old mid → Stays tests mid new → Stays tests old new
  stays_both old mid new one two = (
    goes_on old mid new one.0 two.0,
    λ es keeps.
        let some = one.1 es keeps in
        let next = two.1 some.0 some.3 in (next.0, next.1 ∙ some.1, next.2 ∙ some.2, next.3),
  )

  -- events that are filled in for a line are so after names have got numbers
  filled_on : (old new : Judge) (d : Data) → GoesOn tests old new → (es : List (TraceEvent ℕ ℕ ℕ)) (e : TraceEvent ℕ ℕ ℕ)
      → IsFilledInFor (numbering old.names) old.first d es e → IsFilledInFor (numbering new.names) new.first d es e
  filled_on old new d goes es e h =
      subst (λ (n : ℕ). IsFilledInFor (numbering new.names) n d es e) (sym goes.1)
      (filled_for (numbering old.names) (numbering new.names) goes.2 old.first d es e h)

  restored_on : (old new : Judge) (d : Data) → GoesOn tests old new → (es : List (TraceEvent ℕ ℕ ℕ))
      (e : TraceEvent ℕ ℕ ℕ) → IsRestoredFor (numbering old.names) old.first d es e
      → IsRestoredFor (numbering new.names) new.first d es e
  restored_on old new d goes es e h =
      subst (λ (n : ℕ). IsRestoredFor (numbering new.names) n d es e) (sym goes.1)
      (restored_for (numbering old.names) (numbering new.names) goes.2 old.first d es e h)

  -- the trace of lines stays so for a judge that goes on
  trace_on : (old new : Judge) (later taken : List (List ℕ)) (held : List Held) (es : List (TraceEvent ℕ ℕ ℕ))
      → GoesOn tests old new → IsTraceOf (numbering old.names) old.first later taken held es
      → IsTraceOf (numbering new.names) new.first later taken held es
  trace_on old new later taken held es goes is =
      subst (λ (n : ℕ). IsTraceOf (numbering new.names) n later taken held es) (sym goes.1)
      (trace_more (numbering old.names) (numbering new.names) goes.2 old.first later taken held es is)

  -- a judge has taken the same lines once events are filled in for lines that come later
  has_filled : (P : List (TraceEvent ℕ ℕ ℕ) → TraceEvent ℕ ℕ ℕ → Type 0) (old new : Judge) (later taken : List (List ℕ))
      → ((es : List (TraceEvent ℕ ℕ ℕ)) (e : TraceEvent ℕ ℕ ℕ) → P es e
      → IsFilledIn (numbering new.names) new.first later es e)
      → FillsBy tests P old new → HasTaken tests later taken old → HasTaken tests later taken new
  has_filled P old new later taken filled fills has =
      let next = fills.1 has.trace has.keeps in
      record {
        trace = next.0;
        is_trace = rw next.2 (trace_fills (numbering new.names) new.first later taken (held_by tests old) has.trace next.0
            (trace_on old new later taken (held_by tests old) has.trace fills.0 has.is_trace)
            (adds_weaker P (IsFilledIn (numbering new.names) new.first later) filled has.trace next.0 next.1));
        keeps = next.3;
      }

  -- a line is refused, once events are filled in for it
  pub refuses : (line : List ℕ) (d : Data) (old mid new : Judge) → read line ≡ Some d → Stays tests old mid
      → FillsFor tests (numbering mid.names) mid.first d mid new → Refuses tests line old new
  refuses line d old mid new reads stays fills = (
    goes_on old mid new stays.0 fills.0,
    λ later taken among has.
        has_filled (IsFilledInFor (numbering mid.names) mid.first d) old new later taken
        (λ es e h.
        filled_in_later (numbering new.names) new.first line d later reads among es e (filled_on mid new d fills.0 es e h))
        (fills_after (IsFilledInFor (numbering mid.names) mid.first d) old mid new stays fills) has,
  )

  pub stays_still : (judge : Judge) → Stays tests judge judge
  stays_still judge = (goes_still judge, λ es keeps. (es, refl, refl, keeps))

  -- a line is taken by taking the event that it says, once events are filled in
  takes_said : (P : List (TraceEvent ℕ ℕ ℕ) → TraceEvent ℕ ℕ ℕ → Type 0) (line : List ℕ) (old mid new : Judge) (d : Data)
      → ((later : List (List ℕ)) (es : List (TraceEvent ℕ ℕ ℕ)) (e : TraceEvent ℕ ℕ ℕ) → P es e
      → IsFilledIn (numbering mid.names) mid.first (line ∷ later) es e)
      → FillsBy tests P old mid → read line ≡ Some d → TakesSaid tests d mid new → Takes tests line old new
  takes_said P line old mid new d filled fills reads (e, (m, says_e, fits, says_m, takes)) = (
    goes_on old mid new fills.0 takes.0,
    λ later taken has.
        let before = has_filled P old mid (line ∷ later) taken (filled later) fills has in
        let next = takes.1 before.trace before.keeps in
        let added : AddsLine (numbering mid.names) mid.first line (held_by tests mid) before.trace (held_by tests new) next.0 =
        inr (d, e, m, reads, says_e, fits before.trace before.keeps, says_m, next.2, next.1) in
        record {
          trace = next.0;
          is_trace = trace_on mid new later (line ∷ taken) (held_by tests new) next.0 takes.0 (
            held_by tests mid,
            before.trace,
            before.is_trace,
            (next.0, added, adds_none (IsFilledIn (numbering mid.names) mid.first later) next.0),
          );
          keeps = next.3;
        },
  )

  -- a line is taken once events are filled in for it
  pub takes_line : (line : List ℕ) (d : Data) (old start mid new : Judge) → read line ≡ Some d → Stays tests old start
      → FillsFor tests (numbering start.names) start.first d start mid → TakesSaid tests d mid new
      → Takes tests line old new
  takes_line line d old start mid new reads stays fills said =
      let P = IsFilledInFor (numbering start.names) start.first d in
      takes_said P line old mid new d
      (λ later es e h.
      filled_in_later (numbering mid.names) mid.first line d (line ∷ later) reads (inl refl) es e
      (filled_on start mid d fills.0 es e h))
      (fills_after P old start mid stays fills) reads said

  -- a line of a server that restarts is taken once entries are filled in that it has read from its disk
  pub takes_restored : (line : List ℕ) (d : Data) (old start mid new : Judge) → read line ≡ Some d → Stays tests old start
      → RestoresFor tests (numbering start.names) start.first d start mid → TakesSaid tests d mid new
      → Takes tests line old new
  takes_restored line d old start mid new reads stays fills said =
      let P = IsRestoredFor (numbering start.names) start.first d in
      takes_said P line old mid new d
      (λ later es e h. inr (line, later, d, refl, reads, restored_on start mid d fills.0 es e h))
      (fills_after P old start mid stays fills) reads said

  -- ---- events that the checker is asked for

  -- what a checker keeps by memberships, a judge keeps that has these
  pub keeps_on : (old new : Judge) (es : List (TraceEvent ℕ ℕ ℕ)) → tests_for tests old ≡ tests_for tests new
      → IsTable new.names → AreExact (tests_for tests old) → KeepsEvents (tests_for tests old) es (kept_by new.checker)
      → AreVotesIn new.counts.votes.entries es → KeepsTrace tests new es
  keeps_on old new es same table exact keeps votes = record {
    exact = subst (λ (k : Tests ℕ ℕ ℕ (Option ℕ)). AreExact k) same exact;
    table = table;
    keeps = subst (λ (k : Tests ℕ ℕ ℕ (Option ℕ)). KeepsEvents k es (kept_by new.checker)) same keeps;
    votes = votes;
  }

  -- a judge that knows the same memberships, and keeps the events of another trace
  pub keeps_more : (P : List (TraceEvent ℕ ℕ ℕ) → List (TraceEvent ℕ ℕ ℕ) → Type 0) (old new : Judge)
      → configs_of new.checker ≡ configs_of old.checker → counting_of new.checker ≡ counting_of old.checker
      → new.first ≡ old.first → new.names ≡ old.names
      → ((es : List (TraceEvent ℕ ℕ ℕ)) → KeepsTrace tests old es
      → (after : List (TraceEvent ℕ ℕ ℕ)) × P es after
      × KeepsEvents (tests_for tests old) after (kept_by new.checker)
      × AreVotesIn new.counts.votes.entries after)
      → KeepsMore tests P None old new
  keeps_more P old new same counting first names more = (
    (ap (λ (m : Memberships ℕ ℕ). m.initial) same, first, rw names (λ a n is. is), counting),
    λ es keeps.
        let next = more es keeps in (
          next.0,
          next.1,
          ap (λ (m : Memberships ℕ ℕ). m.held.items) same,
          keeps_on old new next.0 (λ i. tests (sym counting i) (sym same i)) (rw names keeps.table) keeps.exact next.2 next.3,
        ),
  )

  -- ---- memberships that become known

  -- what a judge keeps, it keeps by other memberships
  keeps_also : (old new : Judge) (es : List (TraceEvent ℕ ℕ ℕ))
      → KeepsAlso (tests_for tests old) (tests_for tests new) (kept_by old.checker) (kept_by new.checker)
      → new.counts ≡ old.counts → new.names ≡ old.names → AreExact (tests_for tests new) → KeepsTrace tests old es
      → KeepsTrace tests new es
  keeps_also old new es also same names exact keeps = record {
    exact = exact;
    table = rw names keeps.table;
    keeps = also keeps.exact es keeps.keeps;
    votes = subst (λ (c : Counts). AreVotesIn c.votes.entries es) (sym same) keeps.votes;
  }

  -- a judge learns a membership before it takes the event whose entry holds it
  pub takes_new : (old mid new : Judge) (e : TraceEvent ℕ ℕ ℕ) (m : Held) → GoesOn tests old mid
      → held_by tests mid ≡ held_by tests old ++ m ∷ []
      → KeepsAlso (tests_for tests old) (tests_for tests mid) (kept_by old.checker) (kept_by mid.checker)
      → mid.counts ≡ old.counts → mid.names ≡ old.names → AreExact (tests_for tests mid)
      → TakesEvent tests e None mid new → TakesEvent tests e (Some m) old new
  takes_new old mid new e m goes learned also same names exact takes = (
    goes_on old mid new goes takes.0,
    λ es keeps.
        let next = takes.1 es (keeps_also old mid es also same names exact keeps) in
        (next.0, next.1, inl (next.2 ∙ learned), next.3),
  )

  -- a judge learns a membership, refuses the event whose entry holds it, and forgets the membership
  pub stays_new : (same : ℕ → ℕ → Bool) (old mid refused new : Judge) (m : Held) → GoesOn tests old mid
      → held_by tests mid ≡ held_by tests old ++ m ∷ []
      → KeepsAlso (tests_for tests old) (tests_for tests mid) (kept_by old.checker) (kept_by mid.checker)
      → OfAll (tests_for tests old) (kept_by old.checker) (λ es. IsUnused same m.0 es)
      → mid.counts ≡ old.counts → mid.names ≡ old.names → AreExact (tests_for tests mid) → Stays tests mid refused
      → GoesOn tests refused new
      → KeepsAlso (tests_for tests refused) (tests_for tests new) (kept_by refused.checker)
      (kept_by new.checker)
      → ((before : List Held) (n : Held) → held_by tests refused ≡ before ++ n ∷ []
      → OfAll (tests_for tests refused) (kept_by refused.checker) (λ es. IsUnused same n.0 es → held_by tests new ≡ before))
      → new.counts ≡ refused.counts → new.names ≡ refused.names → AreExact (tests_for tests new)
      → Stays tests old new
  stays_new same old mid refused new m goes learned also unused same_mid names_mid exact stays back forgets forgotten same_new
      names_new exact_new = (
        goes_on old refused new (goes_on old mid refused goes stays.0) back,
        λ es keeps.
            let next = stays.1 es (keeps_also old mid es also same_mid names_mid exact keeps) in
            let still : IsUnused same m.0 next.0 = rw next.1 (unused keeps.exact es keeps.keeps) in (
              next.0,
              next.1,
              forgotten (held_by tests old) m (next.2 ∙ learned) next.3.exact next.0 next.3.keeps still,
              keeps_also refused new next.0 forgets same_new names_new exact_new next.3,
            ),
      )

  -- an entry holds a membership that is known by its content already
  pub takes_known : (old new : Judge) (e : TraceEvent ℕ ℕ ℕ) (m : Held) → IsAmong m (held_by tests old)
      → TakesEvent tests e None old new → TakesEvent tests e (Some m) old new
  takes_known old new e m is takes = (
    takes.0,
    λ es keeps. let next = takes.1 es keeps in (next.0, next.1, inr (is, next.2), next.3),
  )

  -- a judge does not learn a membership
  pub stays_unlearned : (old new : Judge) → GoesOn tests old new → held_by tests new ≡ held_by tests old
      → KeepsAlso (tests_for tests old) (tests_for tests new) (kept_by old.checker) (kept_by new.checker)
      → new.counts ≡ old.counts → new.names ≡ old.names → AreExact (tests_for tests new) → Stays tests old new
  stays_unlearned old new goes held also same names exact =
      (goes, λ es keeps. (es, refl, held, keeps_also old new es also same names exact keeps))

  -- names get numbers, and the chart may be any
  pub stays_named : (old : Judge) (names : Names) (chart : Chart) → Learns old.names names
      → Stays tests old (record old { names = names; chart = chart })
  stays_named old names chart learns = (
    (refl, refl, learns.0, refl),
    λ es keeps. (
      es,
      refl,
      refl,
      record { exact = keeps.exact; table = learns.1 keeps.table; keeps = keeps.keeps; votes = keeps.votes },
    ),
  )

  -- a judge takes an event once it has refused another one
  pub takes_after : (old mid new : Judge) (e : TraceEvent ℕ ℕ ℕ) (m : Option Held) → Stays tests old mid
      → TakesEvent tests e m mid new → TakesEvent tests e m old new
  takes_after old mid new e m stays takes = (
    goes_on old mid new stays.0 takes.0,
    λ es keeps.
        let before = stays.1 es keeps in
        let next = takes.1 before.0 before.3 in (
          next.0,
          subst (λ (l : List (TraceEvent ℕ ℕ ℕ)). Adds e l next.0) before.1 next.1,
          subst (λ (h : List Held). AddsMembership m h (held_by tests new)) before.2 next.2,
          next.3,
        ),
  )
