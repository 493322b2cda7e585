-- Lines that a judge takes from several lists.
use Rattle.std.specs.Prelude.{◌≡◌, ◌<◌, ℕ, true, if◌then◌else◌, List, [], ◌∷◌, ◌++◌, Option, Some, None, codes, map, option_map, length, set, slice_get, zero, suc}
use Rattle.std.specs.Global.{Vec}
use Rattle.std.specs.List.{All}
use Rattle.std.proofs.Common.{refl, sym, ap, subst, ◌∙◌, inl, inr, append_assoc}
use Rattle.std.proofs.lemmas.List.{append-nil, get_or-set_same, length-set, map-set, set-get_or, set-set}
use Rattle.std.proofs.lemmas.List.Elements.{All-cons, All-head, All-nil, All-tail}
use Rattle.std.proofs.lemmas.Option.{get_or_from_slice_get, slice_get-get_or, slice_get-map, slice_get_within}
use Rattle.trace_lines.specs.Lines.{lines}
use Rattle.trace_lines.specs.Reader.{IsAtEnd, KeepsLines, lines_of, lines_read}
use Rattle.trace_lines.specs.declared.reader.LineReader.{LineReader}
use Rattle.serde_json.specs.Data.{Data}
use Rattle.serde_json.specs.Read.{read}
use Rattle.safety_laws.specs.Ranks.{IsAmong}
use Rattle.safety_laws.specs.AppliedTrace.{AppliedTracesAreExecutions}
use Rattle.safety_laws.specs.Trace.{AreExact, TermsHaveRanks, Tests, TraceEvent, TracesAreExecutions, are_allowed_by}
use Rattle.trace_checker.specs.Checker.{configs_of, counting_of}
use Rattle.trace_checker.specs.Counted.{IsSafeBy, IsSafeWhen, are_all_allowed, tests_by}
use Rattle.safety_laws.specs.declared.counting.ConfigsCount.{ConfigsCount}
use Rattle.safety_laws.specs.declared.counting.ConfigsCount.TheVariants.{WhenAppended, WhenApplied}
use Rattle.trace_checker.specs.declared.memberships.Memberships.{Memberships}
use Rattle.trace_judge.specs.Fields.{IsNamed}
use Rattle.trace_judge.specs.Inner.Judged.{Begins, HasJudged, Judges, JudgesBefore, JudgesNext, JudgesSome}
use Rattle.trace_judge.specs.Inner.Table.{numbering}
use Rattle.trace_judge.specs.Inner.Taken.{GoesOn, HasTaken, IsStarted, Refuses, SaysStartOf, Takes, held_by, tests_for}
use Rattle.trace_judge.specs.Input.{IsReadToEnd, KeepKnown, WaitsWith, known_of, read_of}
use Rattle.trace_judge.specs.Lists.{HaveSafeMerge, IsMerge}
use Rattle.trace_judge.specs.Run.{LeavesStartsOut, SafeRun, SayOneStart, SaysStart, and_lines}
use Rattle.trace_judge.specs.declared.input.Lines.{Lines}
use Rattle.trace_judge.specs.declared.judge.Judge.{Judge}
use Rattle.trace_judge.proofs.lemmas.FillLemmas.{trace_without}
use Rattle.trace_judge.proofs.lemmas.NameLemmas.{start_more}

-- ---- lists that grow

merge_more : (lists mid grown : List (List (List ℕ))) (some more : List (List ℕ)) → IsMerge lists some mid
    → IsMerge mid more grown → IsMerge lists (some ++ more) grown
merge_more lists mid grown [] more one two =
    subst (λ (l : List (List (List ℕ))). IsMerge l more grown) one two
merge_more lists mid grown (line ∷ some) more one two =
    (one.0, one.1, one.2, merge_more (set lists one.0 (one.1 ++ line ∷ [])) mid grown some more one.3 two)

slice_get-set : (lists : List (List (List ℕ))) (i : ℕ) (old new : List (List ℕ)) → slice_get lists i ≡ Some old
    → slice_get (set lists i new) i ≡ Some new
slice_get-set lists i old new is =
    let within : i < length lists = slice_get_within lists i old is in
    let still : i < length (set lists i new) = subst (λ (n : ℕ). i < n) (sym (length-set lists i new)) within in
    slice_get-get_or (set lists i new) i [] still ∙ ap Some (get_or-set_same lists i new [] within)

set-same : (lists : List (List (List ℕ))) (i : ℕ) (list : List (List ℕ)) → slice_get lists i ≡ Some list
    → set lists i list ≡ lists
set-same lists i list is =
    ap (λ (l : List (List ℕ)). set lists i l) (sym (get_or_from_slice_get lists i list [] is)) ∙ set-get_or lists i []

-- one of the lists grows
merge_one : (lists : List (List (List ℕ))) (i : ℕ) (list some : List (List ℕ)) → slice_get lists i ≡ Some list
    → IsMerge lists some (set lists i (list ++ some))
merge_one lists i list [] is = ap (λ (l : List (List ℕ)). set lists i l) (append-nil list) ∙ set-same lists i list is
merge_one lists i list (line ∷ some) is =
    let longer : List (List ℕ) = list ++ line ∷ [] in (
      i,
      list,
      is,
      subst (λ (l : List (List (List ℕ))). IsMerge (set lists i longer) some l)
          (set-set lists i longer (longer ++ some)
          ∙ ap (λ (l : List (List ℕ)). set lists i l) (append_assoc list (line ∷ []) some))
          (merge_one (set lists i longer) i longer some (slice_get-set lists i list longer is)),
    )

-- one list has the only order that keeps its order
merge_alone : (list some : List (List ℕ)) (grown : List (List (List ℕ))) → IsMerge (list ∷ []) some grown
    → grown ≡ (list ++ some) ∷ []
merge_alone list [] grown is = is ∙ ap (λ (l : List (List ℕ)). l ∷ []) (sym (append-nil list))
merge_alone list (line ∷ later) grown (zero, found, at, grows) =
    let same : found ≡ list = cc in
    merge_alone (found ++ line ∷ []) later grown grows
    ∙ ap (λ (l : List (List ℕ)). l ∷ [])
    (append_assoc found (line ∷ []) later ∙ ap (λ (l : List (List ℕ)). l ++ line ∷ later) same)
merge_alone list (line ∷ later) grown (suc i, found, at, grows) = cc

-- ---- lists of which all lines are known

-- a list that is known has these lines
known_by : (found : Option (List (List ℕ))) (known : Option (List (List ℕ))) → option_map Some found ≡ Some known
    → (list : List (List ℕ)) × (found ≡ Some list) × (known ≡ Some list)
known_by None known is = cc
known_by (Some list) known is = (list, refl, cc)

known_at : (lists : List (List (List ℕ))) (all : List (Option (List (List ℕ)))) (i : ℕ) (known : Option (List (List ℕ)))
    → all ≡ map Some lists → slice_get all i ≡ Some known
    → (list : List (List ℕ)) × (slice_get lists i ≡ Some list) × (known ≡ Some list)
known_at lists all i known are is =
    known_by (slice_get lists i) known
    (sym (slice_get-map Some lists i) ∙ ap (λ (l : List (Option (List (List ℕ)))). slice_get l i) (sym are) ∙ is)

-- what is known of lists stays known if one of them keeps its lines
pub keep_known : {B : Type 0} (remaining : B → Option (List ℕ)) (xs : List (Lines B)) (i : ℕ) (x y : Lines B)
    → slice_get xs i ≡ Some x → KeepsLines remaining x.reader y.reader → KeepKnown remaining xs (set xs i y)
keep_known remaining xs i x y at keeps all are =
    let here = known_at all (map (known_of remaining) xs) i (known_of remaining x) are
    (slice_get-map (known_of remaining) xs i ∙ ap (option_map (known_of remaining)) at) in
    map-set (known_of remaining) xs i y
    ∙ ap (λ (l : List (Option (List (List ℕ)))). set l i (known_of remaining y)) are
    ∙ ap (λ (o : Option (List (List ℕ))). set (map Some all) i o) (keeps here.0 here.2)
    ∙ sym (map-set Some all i here.0) ∙ ap (map Some) (set-same all i here.0 here.1)

-- a list that was read to its end has no more lines than those that were read
known_at_end : {B : Type 0} (remaining : B → Option (List ℕ)) (reader : LineReader B) → IsAtEnd reader
    → lines_of remaining reader ≡ Some (lines_read reader)
known_at_end remaining reader ended =
    ap (λ b. option_map (λ ls. lines_read reader ++ (if reader.is_pending then reader.line.items ∷ ls else ls))
    (if b then Some [] else option_map lines (remaining reader.input))) ended.1
    ∙ ap (λ b. Some (lines_read reader ++ (if b then reader.line.items ∷ [] else []))) ended.0
    ∙ ap Some (append-nil (lines_read reader))

-- lists that were read to their ends have no more lines than those that were read
pub all_read : {B : Type 0} (remaining : B → Option (List ℕ)) (xs : List (Lines B)) (all : List (List (List ℕ)))
    → All IsReadToEnd xs → map (known_of remaining) xs ≡ map Some all → map read_of xs ≡ all
all_read remaining [] [] ended are = refl
all_read remaining [] (list ∷ all) ended are = cc
all_read remaining (x ∷ xs) [] ended are = cc
all_read remaining (x ∷ xs) (list ∷ all) ended are =
    let here : known_of remaining x ≡ Some (read_of x) = known_at_end remaining x.reader (All-head IsReadToEnd x xs ended) in
    let known : known_of remaining x ≡ Some list = cc in
    let some : Some (read_of x) ≡ Some list = sym here ∙ known in
    let same : read_of x ≡ list = cc in
    let rest : map (known_of remaining) xs ≡ map Some all = cc in
    let later = all_read remaining xs all (All-tail IsReadToEnd x xs ended) rest in
    ap (λ (l : List (List ℕ)). l ∷ map read_of xs) same ∙ ap (λ (l : List (List (List ℕ))). list ∷ l) later

-- ---- lines that say the start again are left out

leaves_more : (first_line : List ℕ) (judged kept some kept_some : List (List ℕ)) → LeavesStartsOut first_line judged kept
    → LeavesStartsOut first_line some kept_some → LeavesStartsOut first_line (judged ++ some) (kept ++ kept_some)
leaves_more first_line [] kept some kept_some none more =
    subst (λ (l : List (List ℕ)). LeavesStartsOut first_line some (l ++ kept_some)) (sym none) more
leaves_more first_line (line ∷ judged) kept some kept_some (inl (again, later)) more =
    inl (again, leaves_more first_line judged kept some kept_some later more)
leaves_more first_line (line ∷ judged) kept some kept_some (inr (rest, is, later)) more = inr (
  rest ++ kept_some,
  ap (λ (l : List (List ℕ)). l ++ kept_some) is,
  leaves_more first_line judged rest some kept_some later more,
)

and_lines-append : (earlier later : List (List ℕ)) (line : List ℕ)
    → and_lines earlier (later ++ line ∷ []) ≡ line ∷ and_lines earlier later
and_lines-append earlier [] line = refl
and_lines-append earlier (x ∷ later) line = and_lines-append (x ∷ earlier) later line

-- a trace whose events are allowed is safe, whichever way configs count
safe_when : TracesAreExecutions ℕ ℕ ℕ (Option ℕ) → AppliedTracesAreExecutions ℕ ℕ ℕ (Option ℕ)
    → (k : Tests ℕ ℕ ℕ (Option ℕ)) → AreExact k → (es : List (TraceEvent ℕ ℕ ℕ)) → TermsHaveRanks k es
    → are_all_allowed k es ≡ true → IsSafeWhen k es
safe_when law applied_law k exact es ranks allowed = go k.counting allowed
  where
    go : (w : ConfigsCount) → are_allowed_by k (tests_by k w) es ≡ true → IsSafeBy k w es
    go WhenAppended h = law k exact es ranks h
    go WhenApplied h = applied_law k exact es ranks h

module _ (tests : ConfigsCount → Memberships ℕ ℕ → Tests ℕ ℕ ℕ (Option ℕ)) where
  starts_still : (first_line : List ℕ) (old new : Judge) → GoesOn tests old new
      → SaysStartOf first_line old → SaysStartOf first_line new
  starts_still first_line old new goes starts =
      let configs = (configs_of old.checker).initial.items in
      let counting = counting_of old.checker in
      subst (λ (v : Vec (Vec ℕ)). SaysStart (numbering new.names) first_line v.items new.first (counting_of new.checker))
      (sym goes.0)
      (subst (λ (n : ℕ). SaysStart (numbering new.names) first_line configs n (counting_of new.checker)) (sym goes.1)
      (subst (λ (w : ConfigsCount). SaysStart (numbering new.names) first_line configs old.first w) (sym goes.3)
      (start_more (numbering old.names) (numbering new.names) goes.2 first_line configs old.first counting starts)))

  -- a judge that takes a line has judged it
  pub judges_taken : (first_line line : List ℕ) (old new : Judge) → Takes tests line old new
      → Judges tests first_line (line ∷ []) old new
  judges_taken first_line line old new takes later judged any has = record {
    starts = starts_still first_line old new takes.0 has.starts;
    kept = has.kept ++ line ∷ [];
    are_kept = leaves_more first_line judged has.kept (line ∷ []) (line ∷ []) has.are_kept (inr ([], refl, refl));
    taken = subst (λ (l : List (List ℕ)). HasTaken tests later l new) (sym (and_lines-append [] has.kept line))
        (takes.1 later (and_lines [] has.kept) has.taken);
  }

  -- lines are taken before others also if one of these says the start
  taken_without : (line : List ℕ) (d : Data) (later taken : List (List ℕ)) (judge : Judge) → read line ≡ Some d
      → IsNamed (codes "started") d → HasTaken tests (line ∷ later) taken judge → HasTaken tests later taken judge
  taken_without line d later taken judge reads named has = record {
    trace = has.trace;
    is_trace = trace_without (numbering judge.names) judge.first line d reads named later [] taken
        (held_by tests judge) has.trace has.is_trace;
    keeps = has.keeps;
  }

  -- a line that says the start again is judged without being taken
  pub judges_start : (first_line line : List ℕ) (old new : Judge) → SayOneStart first_line line → Refuses tests line old new
      → Judges tests first_line (line ∷ []) old new
  judges_start first_line line old new again refuses later judged any has =
      let start = again.2.4 in
      record {
        starts = starts_still first_line old new refuses.0 has.starts;
        kept = has.kept;
        are_kept = subst (λ (l : List (List ℕ)). LeavesStartsOut first_line (judged ++ line ∷ []) l) (append-nil has.kept)
            (leaves_more first_line judged has.kept (line ∷ []) [] has.are_kept (inl (again, refl)));
        taken = taken_without line start.0 later (and_lines [] has.kept) new start.1 start.2
            (refuses.1 (line ∷ later) (and_lines [] has.kept) (inl refl) has.taken);
      }

  -- a judge that refuses a line, which comes later, has judged what it had
  pub judges_none : (first_line line : List ℕ) (old new : Judge) → Refuses tests line old new
      → JudgesBefore tests (λ later. IsAmong line later) first_line [] old new
  judges_none first_line line old new refuses later judged among has =
      subst (λ (l : List (List ℕ)). HasJudged tests first_line later l new) (sym (append-nil judged)) record {
        starts = starts_still first_line old new refuses.0 has.starts;
        kept = has.kept;
        are_kept = has.are_kept;
        taken = refuses.1 later (and_lines [] has.kept) among has.taken;
      }

  -- nothing is judged
  pub judges_same : (P : List (List ℕ) → Type 0) (first_line : List ℕ) (judge : Judge)
      → JudgesBefore tests P first_line [] judge judge
  judges_same P first_line judge later judged any has =
      subst (λ (l : List (List ℕ)). HasJudged tests first_line later l judge) (sym (append-nil judged)) has

  pub judges_no_more : {B : Type 0} (first_line : List ℕ) (lists : List (Lines B)) (judge : Judge)
      → JudgesSome tests first_line lists lists judge judge
  judges_no_more first_line lists judge =
      ([], refl, judges_same (λ later. All (WaitsWith later) lists) first_line judge)

  -- a judge judges no line of a list, which waits with the same line as before, if it has waited
  pub judges_no_next : {B : Type 0} (first_line : List ℕ) (list grown : Lines B) (old new : Judge)
      → read_of grown ≡ read_of list → (list.reader.is_pending ≡ true → grown.reader ≡ list.reader)
      → JudgesBefore tests (λ later. WaitsWith later grown) first_line [] old new
      → JudgesNext tests first_line list grown old new
  judges_no_next first_line list grown old new same waits judges = (
    [],
    same ∙ sym (append-nil (read_of list)),
    λ later with_line is.
        let kept = waits is in
        subst (λ r. IsAmong r.line.items later) kept (with_line (ap (λ r. r.is_pending) kept ∙ is)),
    judges,
  )

  -- a list that has passed a line waited with this one, if it waited
  pub passed_line : {B : Type 0} (list read : Lines B) (later : List (List ℕ))
      → (list.reader.is_pending ≡ true → read.reader ≡ list.reader)
      → WaitsWith (read.reader.line.items ∷ later) list
  passed_line list read later waits is =
      inl (ap (λ r. r.line.items) (sym (waits is)))

  -- lines are among others also with more of them
  among_more : (some later : List (List ℕ)) (x : List ℕ) → IsAmong x later → IsAmong x (some ++ later)
  among_more [] later x is = is
  among_more (y ∷ some) later x is = inr (among_more some later x is)

  more_waiting : {B : Type 0} (some later : List (List ℕ)) (xs : List (Lines B)) → All (WaitsWith later) xs
      → All (WaitsWith (some ++ later)) xs
  more_waiting some later [] all = All-nil (WaitsWith (some ++ later))
  more_waiting some later (z ∷ xs) all =
      All-cons (WaitsWith (some ++ later)) z xs
      (λ is. among_more some later z.reader.line.items (All-head (WaitsWith later) z xs all is))
      (more_waiting some later xs (All-tail (WaitsWith later) z xs all))

  grown_waits : {B : Type 0} (later : List (List ℕ)) (xs : List (Lines B)) (i : ℕ) (x y : Lines B)
      → slice_get xs i ≡ Some x → All (WaitsWith later) (set xs i y) → WaitsWith later y
  grown_waits later [] i x y at all = cc
  grown_waits later (z ∷ xs) zero x y at all = All-head (WaitsWith later) y xs all
  grown_waits later (z ∷ xs) (suc i) x y at all =
      grown_waits later xs i x y at (All-tail (WaitsWith later) z (set xs i y) all)

  -- if lists wait with these lines after one of them has grown, they waited with these or with new lines
  waited_with : {B : Type 0} (some later : List (List ℕ)) (xs : List (Lines B)) (i : ℕ) (x y : Lines B)
      → slice_get xs i ≡ Some x → WaitsWith (some ++ later) x → All (WaitsWith later) (set xs i y)
      → All (WaitsWith (some ++ later)) xs
  waited_with some later [] i x y at here all = All-nil (WaitsWith (some ++ later))
  waited_with some later (z ∷ xs) zero x y at here all =
      let same : x ≡ z = cc in
      All-cons (WaitsWith (some ++ later)) z xs (subst (λ l. WaitsWith (some ++ later) l) same here)
      (more_waiting some later xs (All-tail (WaitsWith later) y xs all))
  waited_with some later (z ∷ xs) (suc i) x y at here all =
      All-cons (WaitsWith (some ++ later)) z xs
      (λ is. among_more some later z.reader.line.items (All-head (WaitsWith later) z (set xs i y) all is))
      (waited_with some later xs i x y at here (All-tail (WaitsWith later) z (set xs i y) all))

  -- after some lines of lists, a judge judges some lines of one list
  pub judges_more : {B : Type 0} (first_line : List ℕ) (lists xs : List (Lines B)) (i : ℕ) (x y : Lines B)
      (old now new : Judge) → slice_get xs i ≡ Some x → JudgesSome tests first_line lists xs old now
      → JudgesNext tests first_line x y now new → JudgesSome tests first_line lists (set xs i y) old new
  judges_more first_line lists xs i x y old now new at so_far next = (
    so_far.0 ++ next.0,
    subst (λ (l : List (List (List ℕ))). IsMerge (map read_of lists) (so_far.0 ++ next.0) l) (sym (map-set read_of xs i y))
        (merge_more (map read_of lists) (map read_of xs) (set (map read_of xs) i (read_of y)) so_far.0 next.0 so_far.1
        (subst (λ (l : List (List ℕ)). IsMerge (map read_of xs) next.0 (set (map read_of xs) i l)) (sym next.1)
        (merge_one (map read_of xs) i (read_of x) next.0 (slice_get-map read_of xs i ∙ ap (option_map read_of) at)))),
    λ later judged all has.
        let grown : WaitsWith later y = grown_waits later xs i x y at all in
        subst (λ (l : List (List ℕ)). HasJudged tests first_line later l new) (append_assoc judged so_far.0 next.0)
        (next.3 later (judged ++ so_far.0) grown
        (so_far.2 (next.0 ++ later) judged (waited_with next.0 later xs i x y at (next.2 later grown) all)
        (subst (λ (l : List (List ℕ)). HasJudged tests first_line l judged old) (append_assoc so_far.0 next.0 later) has))),
  )

  -- a judge begins with the first line of the list at a place
  pub begins : {X : Type 0} (read : X → List (List ℕ)) (xs : List X) (i : ℕ) (x y : X) (line : List ℕ) (judge : Judge)
      → slice_get xs i ≡ Some x → read y ≡ read x ++ line ∷ [] → IsStarted tests line judge
      → Begins tests (map read xs) (map read (set xs i y)) line judge
  begins read xs i x y line judge at grows started = (
    subst (λ (l : List (List (List ℕ))). IsMerge (map read xs) (line ∷ []) l) (sym (map-set read xs i y))
        (subst (λ (l : List (List ℕ)). IsMerge (map read xs) (line ∷ []) (set (map read xs) i l)) (sym grows)
        (merge_one (map read xs) i (read x) (line ∷ []) (slice_get-map read xs i ∙ ap (option_map read) at))),
    λ later. record { starts = started.0; kept = []; are_kept = refl; taken = started.1 later },
  )

  -- lines that a judge has judged are a safe run
  safe_run : ((w : ConfigsCount) (m : Memberships ℕ ℕ) (t u : ℕ) → (tests w m).rank t ≡ (tests w m).rank u → t ≡ u)
      → TracesAreExecutions ℕ ℕ ℕ (Option ℕ) → AppliedTracesAreExecutions ℕ ℕ ℕ (Option ℕ) → (first_line : List ℕ)
      (waiting later : List (List ℕ)) (judge : Judge) → HasJudged tests first_line waiting later judge
      → SafeRun tests waiting (first_line ∷ later)
  safe_run ranks law applied_law first_line waiting later judge has = record {
    first_line = first_line;
    later = later;
    lines_are = refl;
    kept = has.kept;
    are_kept = has.are_kept;
    members = configs_of judge.checker;
    first = judge.first;
    counting = counting_of judge.checker;
    number_of = numbering judge.names;
    apart = has.taken.keeps.table.apart;
    starts = has.starts;
    trace = has.taken.trace;
    is_trace = has.taken.is_trace;
    allowed = has.taken.keeps.keeps.seen.allowed;
    safe = safe_when law applied_law (tests_for tests judge) has.taken.keeps.exact has.taken.trace
        (λ t u in_t in_u e. ranks (counting_of judge.checker) (configs_of judge.checker) t u e)
        has.taken.keeps.keeps.seen.allowed;
  }

  -- the lines that a judge has judged are a safe run
  pub have_safe_merge : {B : Type 0}
      → ((w : ConfigsCount) (m : Memberships ℕ ℕ) (t u : ℕ) → (tests w m).rank t ≡ (tests w m).rank u → t ≡ u)
      → TracesAreExecutions ℕ ℕ ℕ (Option ℕ) → AppliedTracesAreExecutions ℕ ℕ ℕ (Option ℕ)
      → (lists begun grown : List (Lines B)) (first_line : List ℕ) (old new : Judge)
      → Begins tests (map read_of lists) (map read_of begun) first_line old → JudgesSome tests first_line begun grown old new
      → (waiting : List (List ℕ)) → All (WaitsWith waiting) grown
      → HaveSafeMerge tests waiting (map read_of lists) (map read_of grown)
  have_safe_merge ranks law applied_law lists begun grown first_line old new one others waiting all = record {
    merged = first_line ∷ others.0;
    is_merge = merge_more (map read_of lists) (map read_of begun) (map read_of grown) (first_line ∷ []) others.0 one.0 others.1;
    is_safe = safe_run ranks law applied_law first_line waiting others.0 new
        (others.2 waiting [] all (one.1 (others.0 ++ waiting)));
  }

  -- a list that was read to its end waits with no line
  pub none_wait : {B : Type 0} (xs : List (Lines B)) → All IsReadToEnd xs → All (WaitsWith []) xs
  none_wait [] all = All-nil (WaitsWith [])
  none_wait (x ∷ xs) all =
      let ended = All-head IsReadToEnd x xs all in
      All-cons (WaitsWith []) x xs (λ is. let not = ended.0 in cc) (none_wait xs (All-tail IsReadToEnd x xs all))

  -- one list is safe in its own order
  pub safe_alone : (list : List (List ℕ)) → HaveSafeMerge tests [] ([] ∷ []) (list ∷ []) → SafeRun tests [] list
  safe_alone list are =
      let grown : list ∷ [] ≡ are.merged ∷ [] = merge_alone [] are.merged (list ∷ []) are.is_merge in
      let same : are.merged ≡ list = cc in
      subst (λ (l : List (List ℕ)). SafeRun tests [] l) same are.is_safe
