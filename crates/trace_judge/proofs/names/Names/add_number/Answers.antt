use Rattle.std.proofs.Common.{arith, refl, sym}
use Rattle.trace_judge.proofs.lemmas.NameLemmas.{learns_number}
use Rattle.trace_judge.proofs.names.Names.add_number.Goals as goal

pub returns : goal.returns
returns c = learns_number c.args.self.now _ c.args.number c.if-number-lt-FIRST.false
    (sym c.if-contains_key.ensures) c.in_ok-insert.ensures.updates refl (grind arith)
