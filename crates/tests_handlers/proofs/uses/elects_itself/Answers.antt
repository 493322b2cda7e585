use Rattle.std.specs.Cmp.{nat_eq_equiv}
use Rattle.tests_handlers.proofs.lemmas.AloneLemmas.{alone_elected}
use Rattle.tests_handlers.proofs.uses.elects_itself.Goals as goal

pub returns : goal.returns
returns c = record {
  alone = λ configs.
      c.is_elected.ensures.1 (alone_elected _ nat_eq_equiv c.args.id 0 _ _ _ c.in_ok-candidate.ensures.campaigns configs);
}
