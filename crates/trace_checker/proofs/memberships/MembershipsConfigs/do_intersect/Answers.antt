use Rattle.std.proofs.Common.{◌∙◌, sym}
use Rattle.std.proofs.lemmas.Bool.{or_left}
use Rattle.trace_checker.proofs.memberships.MembershipsConfigs.do_intersect.Goals as goal

pub returns-then-is_coherent_with : goal.returns-then-is_coherent_with
returns-then-is_coherent_with g c =
    let first =
    rw (c.new.ensures, c.configs_of-these.ensures, c.new-2.ensures, c.configs_of-others.ensures)
    at c.is_coherent_with.ensures in
    c.if-is_coherent_with.true ∙ sym (or_left _ _ (sym first ∙ c.if-is_coherent_with.true))

pub returns-else-is_coherent_with : goal.returns-else-is_coherent_with
returns-else-is_coherent_with g c =
    let first =
    rw (c.new.ensures, c.configs_of-these.ensures, c.new-2.ensures, c.configs_of-others.ensures)
    at c.is_coherent_with.ensures in
    let second = rw (c.configs_of-these.ensures, c.configs_of-others.ensures) at c.some_meet.ensures in
    rw (sym first ∙ c.if-is_coherent_with.false) second
