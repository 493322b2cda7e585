use Rattle.std.proofs.Common.{rules}
use Rattle.raft_script.proofs.lemmas.command.TakenLemmas.{change_lacks, retain_lacks}
use Rattle.raft_script.proofs.script.command.Words.change.Goals as goal

pub returns-in_err-change-clause-bad_line : goal.returns-in_err-change-clause-bad_line
returns-in_err-change-clause-bad_line c bad = change_lacks _ (c.in_err-change.ensures.bad_line (search rules))

pub returns-in_err-retain-clause-bad_line : goal.returns-in_err-retain-clause-bad_line
returns-in_err-retain-clause-bad_line c bad = retain_lacks _ c.in_ok-change.ensures.ok c.in_err-retain.ensures.err
