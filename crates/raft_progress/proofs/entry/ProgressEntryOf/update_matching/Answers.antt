use Rattle.std.proofs.Common.{◌≡◌, Ok, true, false, nat_lt, refl, sym, ap, ◌∙◌, rules, ◌^◌, max, arith}
use Rattle.raft_base.specs.LogId.{id_lt, next_index}
use Rattle.raft_progress.specs.inflight.InflightTable.{inflight_after_ack}
use Rattle.raft_progress.specs.declared.entry.ProgressEntryOf.{ProgressEntryOf}
use Rattle.raft_progress.proofs.lemmas.entry.AckLemmas.{taken_is_valid}
use Rattle.raft_progress.proofs.lemmas.entry.EntryLemmas.{table_of_refused, table_of_taken}
use Rattle.raft_progress.proofs.entry.ProgressEntryOf.update_matching.Goals as goal

pub returns-in_err-check_ack-clause-table : goal.returns-in_err-check_ack-clause-table
returns-in_err-check_ack-clause-table g c =
    let table = table_of_refused (inflight_after_ack g.C.Ord.cmp c.args.self.now.inflight c.args.request_id c.args.matching) _
    c.in_err-check_ack.ensures in
    rw table (search rules)

pub returns-then-log_id_below-clause-table : goal.returns-then-log_id_below-clause-table
returns-then-log_id_below-clause-table g c =
    let entry = c.args.self.now in
    let table = table_of_taken (inflight_after_ack g.C.Ord.cmp entry.inflight c.args.request_id c.args.matching)
    c.in_ok-check_ack.ensures in
    let below : id_lt g.C.Ord.cmp c.args.matching entry.matching ≡ true =
    sym c.log_id_below.ensures ∙ c.if-log_id_below.true in
    rw (table.1, below) (refl, refl)

pub returns-then-not-has_next_index-clause-table : goal.returns-then-not-has_next_index-clause-table
returns-then-not-has_next_index-clause-table g c =
    let entry = c.args.self.now in
    let table = table_of_taken (inflight_after_ack g.C.Ord.cmp entry.inflight c.args.request_id c.args.matching)
    c.in_ok-check_ack.ensures in
    let above : id_lt g.C.Ord.cmp c.args.matching entry.matching ≡ false =
    sym c.log_id_below.ensures ∙ c.if-log_id_below.false in
    let large : nat_lt (next_index c.args.matching) (2 ^ 64) ≡ false = sym c.has_next_index.ensures ∙ c.if-not-has_next_index.true in
    rw (table.1, above, large) (refl, refl)

pub returns-clause-table : goal.returns-clause-table
returns-clause-table g c =
    let entry = c.args.self.now in
    let taken = table_of_taken (inflight_after_ack g.C.Ord.cmp entry.inflight c.args.request_id c.args.matching)
    c.in_ok-check_ack.ensures in
    let table : inflight_after_ack g.C.Ord.cmp entry.inflight c.args.request_id c.args.matching ≡ Ok c.take_ack.new.self =
    taken.1 ∙ ap Ok (sym (c.take_ack.ensures c.args.request_id taken.0 taken.1)) in
    let above : id_lt g.C.Ord.cmp c.args.matching entry.matching ≡ false =
    sym c.log_id_below.ensures ∙ c.if-log_id_below.false in
    let fits : nat_lt (next_index c.args.matching) (2 ^ 64) ≡ true = sym c.has_next_index.ensures ∙ c.if-not-has_next_index.false in
    let end : c.max-self.result ≡ max entry.searching_end (next_index c.args.matching) = rw c.next_index.ensures at c.max-self.ensures in
    rw (table, above, fits, end) refl

pub returns-clause-valid : goal.returns-clause-valid
returns-clause-valid g c =
    let entry = c.args.self.now in
    let matching = c.args.matching in
    let taken = table_of_taken (inflight_after_ack g.C.Ord.cmp entry.inflight c.args.request_id matching) c.in_ok-check_ack.ensures in
    let table : inflight_after_ack g.C.Ord.cmp entry.inflight c.args.request_id matching ≡ Ok c.take_ack.new.self =
    taken.1 ∙ ap Ok (sym (c.take_ack.ensures c.args.request_id taken.0 taken.1)) in
    let end : c.max-self.result ≡ max entry.searching_end (next_index matching) = rw c.next_index.ensures at c.max-self.ensures in
    let new : ProgressEntryOf g.row.C.Denot =
    record {
      matching = matching;
      curr_inflight_id = entry.curr_inflight_id;
      inflight = c.take_ack.new.self;
      searching_end = c.max-self.result;
    } in
    taken_is_valid g.C.Ord.cmp g.met.C.Ord.total new entry.inflight c.args.request_id table (omega arith)
