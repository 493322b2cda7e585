use Rattle.std.proofs.Common.{◌-◌, arith}
use Rattle.trace_checker.proofs.lemmas.ReadLemmas.{ends_at}
use Rattle.trace_checker.proofs.held.Held.last_content.Goals as goal

pub returns : goal.returns
returns g c =
    rw (← c.self.view_is) (ends_at c.self.inside.list.items (c.len-count.result - 1) c.index.result.now
    (omega (arith, c.len-count.ensures)) c.index.ensures)
