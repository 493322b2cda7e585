use Rattle.std.proofs.Common.{arith}
use Rattle.raft_progress.proofs.lemmas.entry.LateResponseLemmas.{refuses_others, sends_next}
use Rattle.raft_progress.proofs.entry.ProgressEntryOf.give_up.Goals as goal

pub returns-clause-refuses_late : goal.returns-clause-refuses_late
returns-clause-refuses_late g c = λ id. refuses_others g.C.Ord.cmp _ id (λ h. cc)

pub returns-clause-refuses_older : goal.returns-clause-refuses_older
returns-clause-refuses_older g c = λ log max_entries sent is id older. refuses_others g.C.Ord.cmp sent id
    (λ h. let next = sends_next g.C.Ord.cmp _ sent log max_entries id is h in omega (arith, next, older))
