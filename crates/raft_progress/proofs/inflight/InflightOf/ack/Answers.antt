use Rattle.std.proofs.Common.{rules}
use Rattle.raft_progress.specs.inflight.InflightTable.{inflight_after_ack}
use Rattle.raft_progress.proofs.lemmas.entry.EntryLemmas.{table_of_refused, table_of_taken}
use Rattle.raft_progress.proofs.inflight.InflightOf.ack.Goals as goal

pub returns-in_err-check_ack : goal.returns-in_err-check_ack
returns-in_err-check_ack g c =
    let table = table_of_refused (inflight_after_ack g.C.Ord.cmp c.args.self.now c.args.request_id c.args.upto) _
    c.in_err-check_ack.ensures in
    rw table (search rules)

pub returns : goal.returns
returns g c =
    let table = table_of_taken (inflight_after_ack g.C.Ord.cmp c.args.self.now c.args.request_id c.args.upto) c.in_ok-check_ack.ensures in
    rw table.1 (c.take_ack.ensures c.args.request_id table.0 table.1)
