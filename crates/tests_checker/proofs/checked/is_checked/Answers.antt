use Rattle.std.proofs.lemmas.Bool.{eqb-true}
use Rattle.tests_checker.proofs.checked.is_checked.Goals as goal

pub returns-in-Ok : goal.returns-in-Ok
returns-in-Ok c = λ _.
    c.in-Ok.ensures.safe
    (c.memberships_are_exact.ensures (λ x y e. eqb-true x y e) (λ x y e. eqb-true x y e) (λ x y e. eqb-true x y e))
    (λ t u in_t in_u e. e)
