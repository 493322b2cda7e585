use Rattle.std.proofs.Common.{◌∷◌, refl, inl, inr}
use Rattle.trace_checker.specs.Checker.{event_of as trace_event}
use Rattle.trace_judge.specs.Numbers.{number_tests}
use Rattle.trace_judge.proofs.lemmas.RunLemmas.{keeps_more, whatever_err}
use Rattle.trace_judge.proofs.lemmas.VoteLemmas.{last_is_in, last_is_vote, more_votes}
use Rattle.trace_judge.proofs.judge.Judge.take_event.Goals as goal

pub returns-then-has_vote-clause-taken : goal.returns-then-has_vote-clause-taken
returns-then-has_vote-clause-taken c =
    let last = c.has_vote.ensures c.if-has_vote.true in
    let e = trace_event c.args.event.now in
    keeps_more number_tests _ c.args.self.now _ refl refl refl refl λ es keeps. (
      es,
      inr (last_is_vote _ e last, last_is_in _ e es last keeps.votes, refl),
      keeps.keeps,
      keeps.votes,
    )

pub returns-in_err-record-clause-broken : goal.returns-in_err-record-clause-broken
returns-in_err-record-clause-broken c = whatever_err c.from_residual.result _ λ fault broken.
    keeps_more number_tests _ c.args.self.now _ c.in_err-record.ensures.configs c.in_err-record.ensures.counting refl refl λ es keeps. (
      es,
      refl,
      (c.in_err-record.ensures.answer keeps.exact es keeps.keeps).1,
      keeps.votes,
    )

pub returns-clause-taken : goal.returns-clause-taken
returns-clause-taken c =
    let e = trace_event c.args.event.now in
    keeps_more number_tests _ c.args.self.now _ c.in_ok-record.ensures.configs c.in_ok-record.ensures.counting refl refl λ es keeps. (
      e ∷ es,
      inl refl,
      (c.in_ok-record.ensures.answer keeps.exact es keeps.keeps).1,
      more_votes _ _ e es c.in_ok-note.ensures keeps.votes,
    )
