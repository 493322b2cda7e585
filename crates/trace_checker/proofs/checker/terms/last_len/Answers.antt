use Rattle.std.proofs.Common.{◌-◌, length, arith}
use Rattle.trace_checker.proofs.lemmas.TermsLemmas.{last_kept_at}
use Rattle.trace_checker.proofs.checker.terms.last_len.Goals as goal

pub returns : goal.returns
returns c = last_kept_at 0 (length c.args.kept.now - 1) c.args.kept.now (record { term = 0; len = 0 }) (omega arith)
