-- Lines that are run one after another.
use Rattle.std.specs.Prelude.{◌≡◌, ◌+◌, ◌<◌, ◌==◌, ◌^◌, ℕ, Bool, true, false, List, [], ◌∷◌, ◌++◌, Option, Some, None, IsNone, length}
use Rattle.std.specs.Io.KnownBytes.{Appends, Keeps, append_known}
use Rattle.std.proofs.Common.{arith, refl, sym, subst, ap, ◌∙◌, inl, inr, append_assoc, true≢false}
use Rattle.std.proofs.lemmas.List.{append-nil}
use Rattle.std.proofs.lemmas.List.Splits.{length-slice_split}
use Rattle.raft_script.specs.Engine.{EngineState}
use Rattle.trace_lines.specs.Lines.{TakesLine, lines}
use Rattle.raft_script.specs.Input.{TakesPart}
use Rattle.raft_script.specs.LineRun.{AnswersLine, Prints}
use Rattle.raft_script.specs.Script.{BreaksOff, RunsFirst, RunsLines, RunsScript}

-- lines lead to others, which are left: what these do makes what all do
pub record Leads (number : ℕ) (held : Option EngineState) (said left : List (List ℕ)) (replies : List ℕ) : Type 0 where
  pub ends : (status : ℕ) (more : List ℕ) → RunsLines number held left status more → RunsLines 1 None said status (replies ++ more)
  pub breaks : (more : List ℕ) (others : List (List ℕ)) → RunsFirst number held left more others
      → RunsFirst 1 None said (replies ++ more) others

-- the lines of a known script lead to those of the rest, which is unread; if nothing is known, some
-- lines lead to any
abbrev pub IsLeft : Option (List ℕ) → ℕ → Option EngineState → Option (List ℕ) → List ℕ → Type 0
IsLeft None number held unread replies = (left : List (List ℕ)) → (said : List (List ℕ)) × Leads number held said left replies
IsLeft (Some text) number held unread replies = (rest : List ℕ) × (unread ≡ Some rest) × Leads number held (lines text) (lines rest) replies

-- the lines before are run, their replies are printed, and the rest is unread
abbrev pub Passed : Option (List ℕ) → Option (List ℕ) → ℕ → Option EngineState → Option (List ℕ) → Option (List ℕ) → Type 0
Passed script before passed held unread now =
    (replies : List ℕ) × Appends before now replies × IsLeft script (passed + 1) held unread replies

none_yet : (said : List (List ℕ)) → Leads 1 None said said []
none_yet said = record { ends = λ status more runs. runs; breaks = λ more others runs. runs }

-- before the first line
pub passed_none : (script before : Option (List ℕ)) (held : Option EngineState) → IsNone held → Passed script before 0 held script before
passed_none script before (Some held) new = absurd (true≢false new)
passed_none script before None new = ([], none before, left script) where
  none : (known : Option (List ℕ)) → Appends known known []
  none None = tt
  none (Some xs) = sym (append-nil xs)

  left : (known : Option (List ℕ)) → IsLeft known 1 None known []
  left None = λ said. (said, none_yet said)
  left (Some text) = (text, refl, none_yet (lines text))

-- what is printed in between stays, and more is printed
printed : (before now between new : Option (List ℕ)) (replies reply : List ℕ) → Appends before now replies → Keeps now between
    → Appends between new reply → Appends before new (replies ++ reply)
printed None now between new replies reply all kept more = tt
printed (Some xs) None between new replies reply all kept more = absurd all
printed (Some xs) (Some ys) None new replies reply all kept more = absurd kept
printed (Some xs) (Some ys) (Some zs) None replies reply all kept more = absurd more
printed (Some xs) (Some ys) (Some zs) (Some ws) replies reply all kept more =
    more ∙ ap (λ l. l ++ reply) (kept ∙ all) ∙ append_assoc xs replies reply

-- one more line
leads_on : (number : ℕ) (held next : Option EngineState) (said left : List (List ℕ)) (line : List ℕ) (others : List (List ℕ))
    (replies reply : List ℕ) → Leads number held said left replies → left ≡ line ∷ others → AnswersLine number held line true next reply
    → Leads (number + 1) next said others (replies ++ reply)
leads_on number held next said left line others replies reply leads is answers =
    record {
      ends = λ status more runs. subst (λ (l : List ℕ). RunsLines 1 None said status l) (sym (append_assoc replies reply more))
          (leads.ends status (reply ++ more)
          (subst (λ (ls : List (List ℕ)). RunsLines number held ls status (reply ++ more)) (sym is)
          (inr (inr (next, reply, more, refl, answers, runs)))));
      breaks = λ more after runs. subst (λ (l : List ℕ). RunsFirst 1 None said l after) (sym (append_assoc replies reply more))
          (leads.breaks (reply ++ more) after
          (subst (λ (ls : List (List ℕ)). RunsFirst number held ls (reply ++ more) after) (sym is)
          (inr (next, reply, more, refl, answers, runs))));
    }

-- lines whose end is known
ends_so : (script unread : Option (List ℕ)) (number : ℕ) (held : Option EngineState) (replies : List ℕ) (status : ℕ) (more : List ℕ)
    → IsLeft script number held unread replies → (left : List (List ℕ)) → RunsLines number held left status more
    → ((text : List ℕ) → unread ≡ Some text → RunsLines number held (lines text) status more) → RunsScript script status (replies ++ more)
ends_so None unread number held replies status more is left runs known =
    let some = is left in (some.0, tt, some.1.ends status more runs)
ends_so (Some text) unread number held replies status more (rest, same, leads) left runs known =
    (lines text, refl, leads.ends status more (known rest same))

module _ (script before unread now : Option (List ℕ)) (passed : ℕ) (held : Option EngineState)
    (so_far : Passed script before passed held unread now)
    (between new left : Option (List ℕ)) (kept : Keeps now between) (line : List ℕ) where
  left_on : (known : Option (List ℕ)) (next : Option EngineState) (reply : List ℕ) → IsLeft known (passed + 1) held unread so_far.0
      → TakesLine unread line false left → AnswersLine (passed + 1) held line true next reply
      → IsLeft known (passed + 1 + 1) next left (so_far.0 ++ reply)
  left_on None next reply is takes answers = λ others. let some = is (line ∷ others) in
      (some.0, leads_on (passed + 1) held next some.0 (line ∷ others) line others so_far.0 reply some.1 refl answers)
  left_on (Some text) next reply (rest, same, leads) takes answers =
      go left (subst (λ (o : Option (List ℕ)). TakesLine o line false left) same takes) where
        go : (o : Option (List ℕ)) → TakesLine (Some rest) line false o → IsLeft (Some text) (passed + 1 + 1) next o (so_far.0 ++ reply)
        go None takes = absurd takes
        go (Some others) takes = (
          others,
          refl,
          leads_on (passed + 1) held next (lines text) (lines rest) line (lines others) so_far.0 reply
              leads takes answers,
        )

  -- a line is run, and others are left
  pub passed_more : (next : Option EngineState) (is_last runs : Bool) → is_last ≡ false → runs ≡ true → TakesLine unread line is_last left
      → Prints between new (AnswersLine (passed + 1) held line runs next) → Passed script before (passed + 1) next left new
  passed_more next true runs last is takes prints = absurd (true≢false last)
  passed_more next false false last is takes prints = absurd (true≢false (sym is))
  passed_more next false true last is takes (reply, prints, answers) = (
    so_far.0 ++ reply,
    printed before now between new so_far.0 reply so_far.1 kept prints,
    left_on script next reply so_far.2 takes
        answers,
  )

  -- the last line is run
  pub passed_last : (next : Option EngineState) (is_last runs : Bool) → is_last ≡ true → runs ≡ true → TakesLine unread line is_last left
      → Prints between new (AnswersLine (passed + 1) held line runs next) → Prints before new (RunsScript script 0)
  passed_last next false runs last is takes prints = absurd (true≢false (sym last))
  passed_last next true false last is takes prints = absurd (true≢false (sym is))
  passed_last next true true last is takes (reply, prints, answers) = (
    so_far.0 ++ reply,
    printed before now between new so_far.0 reply so_far.1 kept prints,
    ends_so script unread (passed + 1) held
        so_far.0 0 reply so_far.2 (line ∷ []) one
        (λ text is. go text left (subst (λ (o : Option (List ℕ)). TakesLine o line true left) is takes)),
  ) where
    one : RunsLines (passed + 1) held (line ∷ []) 0 reply
    one = inr (inr (next, reply, [], sym (append-nil reply), answers, (refl, refl)))

    go : (text : List ℕ) (o : Option (List ℕ)) → TakesLine (Some text) line true o → RunsLines (passed + 1) held (lines text) 0 reply
    go text None takes = absurd takes
    go text (Some others) takes = subst (λ (ls : List (List ℕ)). RunsLines (passed + 1) held ls 0 reply) (sym takes.0) one

  -- a line cannot be run
  pub passed_to_bad : (next : Option EngineState) (is_last runs : Bool) → runs ≡ false → TakesLine unread line is_last left
      → Prints between new (AnswersLine (passed + 1) held line runs next) → Prints before new (RunsScript script 2)
  passed_to_bad next is_last true is takes prints = absurd (true≢false is)
  passed_to_bad next is_last false is takes (reply, prints, answers) = (
    so_far.0 ++ reply,
    printed before now between new so_far.0 reply so_far.1 kept prints,
    ends_so script unread (passed + 1) held
        so_far.0 2 reply so_far.2 (line ∷ []) (here [])
        (λ text is. go text is_last left (subst (λ (o : Option (List ℕ)). TakesLine o line is_last left) is takes)),
  ) where
    here : (others : List (List ℕ)) → RunsLines (passed + 1) held (line ∷ others) 2 reply
    here others = inl (refl, (answers.0, refl, answers.2))

    go : (text : List ℕ) (b : Bool) (o : Option (List ℕ)) → TakesLine (Some text) line b o
        → RunsLines (passed + 1) held (lines text) 2 reply
    go text b None takes = absurd takes
    go text true (Some others) takes = subst (λ (ls : List (List ℕ)). RunsLines (passed + 1) held ls 2 reply) (sym takes.0) (here [])
    go text false (Some others) takes =
        subst (λ (ls : List (List ℕ)). RunsLines (passed + 1) held ls 2 reply) (sym takes) (here (lines others))

-- the lines up to a fault
up_to : (number : ℕ) (held : Option EngineState) (said left : List (List ℕ)) (replies : List ℕ) → Leads number held said left replies
    → RunsFirst 1 None said replies left
up_to number held said left replies leads =
    subst (λ (l : List ℕ). RunsFirst 1 None said l left) (append-nil replies) (leads.breaks [] left (none left)) where
      none : (ls : List (List ℕ)) → RunsFirst number held ls [] ls
      none [] = (refl, refl)
      none (line ∷ others) = inl (refl, refl)

kept_printed : (before now new : Option (List ℕ)) (replies : List ℕ) → Appends before now replies → Keeps now new
    → Appends before new replies
kept_printed None now new replies all kept = tt
kept_printed (Some xs) None new replies all kept = absurd all
kept_printed (Some xs) (Some ys) None replies all kept = absurd kept
kept_printed (Some xs) (Some ys) (Some zs) replies all kept = kept ∙ all

-- a line cannot be read
pub broken_inside : (script before unread now : Option (List ℕ)) (passed : ℕ) (held : Option EngineState)
    → Passed script before passed held unread now → (left new : Option (List ℕ)) → TakesPart unread left → Keeps now new
    → BreaksOff script left before new
broken_inside None before unread now passed held so_far left new takes kept = tt
broken_inside (Some text) before unread now passed held (replies, prints, (rest, same, leads)) left new takes kept = (
  rest,
  replies,
  up_to (passed + 1) held (lines text) (lines rest) replies leads,
  inl
      (subst (λ (o : Option (List ℕ)). TakesPart o left) same takes, kept_printed before now new replies prints kept),
)

-- a line that is read cannot be run
pub broken_after : (script before unread now : Option (List ℕ)) (passed : ℕ) (held : Option EngineState)
    → Passed script before passed held unread now → (left new : Option (List ℕ)) (line : List ℕ) (is_last : Bool)
    → TakesLine unread line is_last left → BreaksOff script left before new
broken_after None before unread now passed held so_far left new line is_last takes = tt
broken_after (Some text) before unread now passed held (replies, prints, (rest, same, leads)) left new line is_last takes = (
  rest,
  replies,
  up_to (passed + 1) held (lines text) (lines rest) replies leads,
  inr
      (line, is_last, subst (λ (o : Option (List ℕ)). TakesLine o line is_last left) same takes),
)

-- all numbers are used
pub passed_all : (script before unread now : Option (List ℕ)) (passed : ℕ) (held : Option EngineState)
    → Passed script before passed held unread now → passed + 1 ≡ 2 ^ 64 → Prints before now (RunsScript script 1)
passed_all script before unread now passed held (replies, prints, is) used = (
  replies,
  prints,
  subst (λ (l : List ℕ). RunsScript script 1 l) (append-nil replies)
      (ends_so script unread (passed + 1) held replies 1 [] is ([] ∷ []) (inr (inl (refl, used, refl)))
      (λ text is. out (lines text) (omega (arith, length-slice_split (λ byte. byte == 10) text)))),
) where
  out : (ls : List (List ℕ)) → 0 < length ls → RunsLines (passed + 1) held ls 1 []
  out [] some = absurd (omega arith)
  out (line ∷ others) some = inr (inl (refl, used, refl))

-- what is printed after what is held back is printed after what is written
pub held_back : (written : Option (List ℕ)) (old new : List ℕ) (Fits : List ℕ → Type 0) → Prints (Some old) (Some new) Fits
    → Prints (append_known written old) (append_known written new) Fits
held_back None old new Fits (text, more, fits) = (text, tt, fits)
held_back (Some xs) old new Fits (text, more, fits) = (text, ap (λ l. xs ++ l) more ∙ sym (append_assoc xs old text), fits)

-- what is printed and then written out, from nothing held back to nothing held back, is written
written_out : (before now after : Option (List ℕ)) (replies : List ℕ) → Appends (append_known before []) now replies
    → Keeps now (append_known after []) → Appends before after replies
written_out None now after replies all kept = tt
written_out (Some xs) None after replies all kept = absurd all
written_out (Some xs) (Some ys) None replies all kept = absurd kept
written_out (Some xs) (Some ys) (Some zs) replies all kept =
    sym (append-nil zs) ∙ kept ∙ all ∙ ap (λ l. l ++ replies) (append-nil xs)

same_script : (script unread : Option (List ℕ)) (status : ℕ) (replies : List ℕ) → Keeps script unread → RunsScript unread status replies
    → RunsScript script status replies
same_script None unread status replies kept (said, is, runs) = (said, tt, runs)
same_script (Some text) None status replies kept (said, is, runs) = absurd kept
same_script (Some text) (Some rest) status replies kept (said, is, runs) = (said, is ∙ ap lines kept, runs)

-- a script that is run, once its replies are written out, is run by its reader and its writer
pub run_whole : (script unread before now after : Option (List ℕ)) (status : ℕ) (first last : List ℕ) → Keeps script unread
    → first ≡ [] → last ≡ [] → Prints (append_known before first) now (RunsScript unread status) → Keeps now (append_known after last)
    → Prints before after (RunsScript script status)
run_whole script unread before now after status first last same none all (replies, prints, runs) kept = (
  replies,
  written_out before now after replies (subst (λ (l : List ℕ). Appends (append_known before l) now replies) none prints)
      (subst (λ (l : List ℕ). Keeps now (append_known after l)) all kept),
  same_script script unread status replies same runs,
)
