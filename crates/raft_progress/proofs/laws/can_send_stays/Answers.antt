use Rattle.raft_progress.proofs.lemmas.entry.SendableLemmas.{ack_keeps, begins_sendable, conflict_keeps, give_up_keeps, growth_keeps, send_keeps, sendable_can_send}
use Rattle.raft_progress.proofs.laws.can_send_stays.Goals as goal

pub returns-clause-begins : goal.returns-clause-begins
returns-clause-begins g c = begins_sendable

pub returns-clause-sends : goal.returns-clause-sends
returns-clause-sends g c = λ log entry sent max_entries.
    send_keeps g.C.Ord.cmp entry sent (g.L.LogStateReader.log_view log) max_entries (g.met.L.LogStateReader.indexed log)

pub returns-clause-acks : goal.returns-clause-acks
returns-clause-acks g c = ack_keeps g.C.Ord.cmp

pub returns-clause-conflicts : goal.returns-clause-conflicts
returns-clause-conflicts g c = conflict_keeps

pub returns-clause-gives_up : goal.returns-clause-gives_up
returns-clause-gives_up g c = give_up_keeps

pub returns-clause-grows : goal.returns-clause-grows
returns-clause-grows g c = growth_keeps

pub returns-clause-can_send : goal.returns-clause-can_send
returns-clause-can_send g c = sendable_can_send
