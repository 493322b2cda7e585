use Rattle.std.proofs.Common.{arith, rules, codes}
use Rattle.std.proofs.lemmas.Slice.Eq.{text_from_reads}
use Rattle.raft_script.proofs.script.command.Words.retain.Goals as goal

pub returns-in-retain-clause-ok : goal.returns-in-retain-clause-ok
returns-in-retain-clause-ok c = record {
  word = c.in_ok-word.field-0.now;
  first = c.in_ok-word.ensures.ok;
  fits = text_from_reads c.in_ok-word.field-0.now (codes "retain") (omega arith) (search rules);
}
