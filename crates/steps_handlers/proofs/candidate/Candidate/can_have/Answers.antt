use Rattle.std.proofs.Common.{ap, length, ltb, ◌/◌, ◌∙◌}
use Rattle.steps_handlers.specs.Campaign.{can_have_vote_of}
use Rattle.steps_handlers.proofs.lemmas.TallyLemmas.{counted_majority}
use Rattle.steps_handlers.proofs.candidate.Candidate.can_have.Goals as goal

pub returns : goal.returns
returns g c =
    let eq = g.NID.PartialEq.eq in
    let config = c.args.config.now in
    ap (λ n. ltb (n / 2) c.count_open.result) c.len.ensures.len
    ∙ ap (λ n. ltb (length config.keys / 2) n) c.count_open.ensures
    ∙ counted_majority eq g.NID.Ord.cmp g.met.NID.Ord.matches_eq config c.len.ensures.ordered
    (can_have_vote_of eq c.args.self.now c.args.refused.now)
