-- The lines of lists that a judge has judged.
use Rattle.std.specs.Prelude.{◌≡◌, ℕ, List, [], ◌∷◌, ◌++◌, Option, map}
use Rattle.std.specs.List.{All}
use Rattle.safety_laws.specs.Trace.{Tests}
use Rattle.safety_laws.specs.declared.counting.ConfigsCount.{ConfigsCount}
use Rattle.trace_checker.specs.declared.memberships.Memberships.{Memberships}
use Rattle.trace_judge.specs.Inner.Taken.{HasTaken, SaysStartOf}
use Rattle.trace_judge.specs.Input.{WaitsWith, read_of}
use Rattle.trace_judge.specs.Lists.{IsMerge}
use Rattle.trace_judge.specs.Run.{LeavesStartsOut, and_lines}
use Rattle.trace_judge.specs.declared.input.Lines.{Lines}
use Rattle.trace_judge.specs.declared.judge.Judge.{Judge}

module _ (tests : ConfigsCount → Memberships ℕ ℕ → Tests ℕ ℕ ℕ (Option ℕ)) where
  -- a judge has judged these lines after the first line, before other lines that come later
  pub record HasJudged (first_line : List ℕ) (later judged : List (List ℕ)) (judge : Judge) : Type 0 where
    pub starts : SaysStartOf first_line judge
    pub kept : List (List ℕ)
    pub are_kept : LeavesStartsOut first_line judged kept
    pub taken : HasTaken tests later (and_lines [] kept) judge

  -- a judge judges some lines more, after which others come that fulfil this
  abbrev pub JudgesBefore : (List (List ℕ) → Type 0) → List ℕ → List (List ℕ) → Judge → Judge → Type 0
  JudgesBefore P first_line some old new =
      (later judged : List (List ℕ)) → P later → HasJudged first_line (some ++ later) judged old
      → HasJudged first_line later (judged ++ some) new

  -- a judge judges some lines more, whichever lines come then
  abbrev pub Judges : List ℕ → List (List ℕ) → Judge → Judge → Type 0
  Judges first_line some old new = JudgesBefore (λ later. Unit {0}) first_line some old new

  -- a judge judges the lines by which a list has grown. The list may have waited with the first line after
  -- the old ones, and it may wait with a line after the new ones
  abbrev pub JudgesNext : {B : Type 0} → List ℕ → Lines B → Lines B → Judge → Judge → Type 0
  JudgesNext first_line list grown old new =
      (some : List (List ℕ)) × (read_of grown ≡ read_of list ++ some)
      × ((later : List (List ℕ)) → WaitsWith later grown → WaitsWith (some ++ later) list)
      × JudgesBefore (λ later. WaitsWith later grown) first_line some old new

  -- a judge judges the lines by which lists have grown, in an order that keeps the order of each list. The
  -- lists may wait with lines after these
  abbrev pub JudgesSome : {B : Type 0} → List ℕ → List (Lines B) → List (Lines B) → Judge → Judge → Type 0
  JudgesSome first_line lists grown old new =
      (some : List (List ℕ)) × IsMerge (map read_of lists) some (map read_of grown)
      × JudgesBefore (λ later. All (WaitsWith later) grown) first_line some old new

  -- a judge begins with a line by which lists have grown
  abbrev pub Begins : List (List (List ℕ)) → List (List (List ℕ)) → List ℕ → Judge → Type 0
  Begins lists grown first_line judge =
      IsMerge lists (first_line ∷ []) grown × ((later : List (List ℕ)) → HasJudged first_line later [] judge)
