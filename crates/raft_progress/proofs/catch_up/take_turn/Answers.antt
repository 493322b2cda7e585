use Rattle.std.proofs.Common.{◌∙◌, sym}
use Rattle.raft_progress.proofs.lemmas.catch_up.CatchUpLemmas.{sent_ok, turn_logs}
use Rattle.raft_progress.proofs.lemmas.catch_up.HonestRunLemmas.{sent_fits, sent_none}
use Rattle.raft_progress.proofs.catch_up.take_turn.Goals as goal

pub take_response-requires : goal.take_response-requires
take_response-requires g c =
    let ok = sent_ok _ c.next_send.result c.next_send.follows.lender-at-none (sym c.is_err.ensures.value ∙ c.if-is_err.false)
    c.next_send.follows.holds-at-none in
    sent_fits g.C.PartialEq.eq g.C.Ord.cmp g.met.C.Ord.total g.met.C.Eq.laws.refl (g.L.LogStateReader.log_view c.args.log.now)
    c.requires.logged c.args.max_entries c.args.entry.now c.next_send.follows.lender-at-none c.args.agree.now c.in-Logs.id
    c.in-Logs.log_id_range c.requires.ready ok c.in-Logs.is

pub returns-then-take_response : goal.returns-then-take_response
returns-then-take_response g c i k =
    let ok = sent_ok _ c.next_send.result c.next_send.follows.lender-at-none (sym c.is_err.ensures.value ∙ c.if-is_err.false)
    c.next_send.follows.holds-at-none in
    turn_logs g.C.Ord.cmp (g.L.LogStateReader.log_view c.args.log.now) c.args.max_entries c.args.entry.now
    c.next_send.follows.lender-at-none c.take_response.new.entry c.args.agree.now c.take_response.new.agree i k i _ c.in-Logs.id
    c.in-Logs.log_id_range
    ok c.in-Logs.is (rw c.if-take_response.true at (c.take_response.ensures c.args.entry.now i k))

pub returns-else-take_response : goal.returns-else-take_response
returns-else-take_response g c i k =
    let ok = sent_ok _ c.next_send.result c.next_send.follows.lender-at-none (sym c.is_err.ensures.value ∙ c.if-is_err.false)
    c.next_send.follows.holds-at-none in
    turn_logs g.C.Ord.cmp (g.L.LogStateReader.log_view c.args.log.now) c.args.max_entries c.args.entry.now
    c.next_send.follows.lender-at-none c.take_response.new.entry c.args.agree.now c.take_response.new.agree i k _ k c.in-Logs.id
    c.in-Logs.log_id_range
    ok c.in-Logs.is (rw c.if-take_response.false at (c.take_response.ensures c.args.entry.now i k))

pub returns-in-None : goal.returns-in-None
returns-in-None g c =
    let ok = sent_ok _ c.next_send.result c.next_send.follows.lender-at-none (sym c.is_err.ensures.value ∙ c.if-is_err.false)
    c.next_send.follows.holds-at-none in
    absurd (sent_none g.C.PartialEq.eq g.C.Ord.cmp g.met.C.Ord.total g.met.C.Eq.laws.refl (g.L.LogStateReader.log_view c.args.log.now)
    c.requires.logged c.args.max_entries c.args.entry.now c.next_send.follows.lender-at-none c.args.agree.now c.requires.ready ok
    c.in-None.is)
