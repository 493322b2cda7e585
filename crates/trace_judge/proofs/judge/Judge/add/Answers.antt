use Rattle.std.proofs.Common.{◌≡◌, ◌∷◌, [], refl}
use Rattle.trace_checker.specs.Checker.{event_of as trace_event}
use Rattle.trace_judge.specs.Filled.{AddsEach, IsFilledInFor, IsRestoredFor}
use Rattle.trace_judge.specs.Numbers.{number_tests}
use Rattle.trace_judge.proofs.lemmas.FillLemmas.{adds_none, adds_one}
use Rattle.trace_judge.proofs.lemmas.RunLemmas.{keeps_more, votes_filled}
use Rattle.trace_judge.proofs.judge.Judge.add.Goals as goal

pub returns-in_ok-note-in-Ok-clause-fills : goal.returns-in_ok-note-in-Ok-clause-fills
returns-in_ok-note-in-Ok-clause-fills c =
    let e = trace_event c.args.event.now in
    λ number_of first d may.
    keeps_more number_tests (AddsEach (IsFilledInFor number_of first d)) c.args.self.now _ c.in-Ok.ensures.configs
    c.in-Ok.ensures.counting refl refl λ es keeps. (
      e ∷ es,
      adds_one (IsFilledInFor number_of first d) e es (may es keeps),
      (c.in-Ok.ensures.answer keeps.exact es keeps.keeps).1,
      rw c.note_filled_in.ensures (votes_filled _ (e ∷ []) es keeps.votes),
    )

pub returns-in_ok-note-in-Ok-clause-restores : goal.returns-in_ok-note-in-Ok-clause-restores
returns-in_ok-note-in-Ok-clause-restores c =
    let e = trace_event c.args.event.now in
    λ number_of first d may.
    keeps_more number_tests (AddsEach (IsRestoredFor number_of first d)) c.args.self.now _ c.in-Ok.ensures.configs
    c.in-Ok.ensures.counting refl refl λ es keeps. (
      e ∷ es,
      adds_one (IsRestoredFor number_of first d) e es (may es keeps),
      (c.in-Ok.ensures.answer keeps.exact es keeps.keeps).1,
      rw c.note_filled_in.ensures (votes_filled _ (e ∷ []) es keeps.votes),
    )

pub returns-in-Err-Rule-clause-fills : goal.returns-in-Err-Rule-clause-fills
returns-in-Err-Rule-clause-fills c = λ number_of first d may.
    keeps_more number_tests (AddsEach (IsFilledInFor number_of first d)) c.args.self.now _ c.in-Err-Rule.ensures.configs
    c.in-Err-Rule.ensures.counting refl refl λ es keeps. (
      es,
      adds_none (IsFilledInFor number_of first d) es,
      (rw c.in-Err-Rule.field-0-is at (c.in-Err-Rule.ensures.answer keeps.exact es keeps.keeps)).1,
      keeps.votes,
    )

pub returns-in-Err-Rule-clause-restores : goal.returns-in-Err-Rule-clause-restores
returns-in-Err-Rule-clause-restores c = λ number_of first d may.
    keeps_more number_tests (AddsEach (IsRestoredFor number_of first d)) c.args.self.now _ c.in-Err-Rule.ensures.configs
    c.in-Err-Rule.ensures.counting refl refl λ es keeps. (
      es,
      adds_none (IsRestoredFor number_of first d) es,
      (rw c.in-Err-Rule.field-0-is at (c.in-Err-Rule.ensures.answer keeps.exact es keeps.keeps)).1,
      keeps.votes,
    )

pub returns-in-Err-Rule-clause-stays : goal.returns-in-Err-Rule-clause-stays
returns-in-Err-Rule-clause-stays c = λ no.
    keeps_more number_tests (λ es after. after ≡ es) c.args.self.now _ c.in-Err-Rule.ensures.configs
    c.in-Err-Rule.ensures.counting refl refl λ es keeps. (
      es,
      refl,
      (rw c.in-Err-Rule.field-0-is at (c.in-Err-Rule.ensures.answer keeps.exact es keeps.keeps)).1,
      keeps.votes,
    )
