use Rattle.std.proofs.Common.{arith, refl, sym}
use Rattle.trace_judge.proofs.lemmas.NameLemmas.{learns_text}
use Rattle.trace_judge.proofs.names.Names.add_text.Goals as goal

pub returns : goal.returns
returns c = learns_text c.args.self.now _ c.in_ok-from_str.field-0 c.args.text.now c.in_ok-from_str.ensures.ok
    (sym c.if-contains_key.ensures) c.in_ok-insert.ensures.updates refl (grind arith)
