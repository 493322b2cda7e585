use Rattle.std.proofs.Common.{rules, sym, ◌∙◌}
use Rattle.steps_handlers.proofs.lemmas.AppendLemmas.{must_be}
use Rattle.steps_handlers.proofs.leader.Leader.new.Goals as goal

pub returns-clause-leads : goal.returns-clause-leads
returns-clause-leads g c = record {
  elected = c.is_elected.ensures.0 c.if-not-is_elected.false;
  vote = rw (← c.vote_ref.ensures, ← c.vote.ensures) (must_be _ (sym c.ne.ensures ∙ c.if-ne.false));
  begins = search rules;
  committed = search rules;
}
