use Rattle.std.proofs.Common.{◌≡◌, ◌≤◌, Result, Ok, Err, arith, false, refl, rules, sym, true, ◌∙◌}
use Rattle.std.specs.Result.{is_err}
use Rattle.raft_base.specs.LogId.{next_index}
use Rattle.raft_progress.specs.inflight.Inflight.{is_idle}
use Rattle.raft_progress.specs.inflight.InflightTable.{FollowsTable}
use Rattle.raft_progress.proofs.lemmas.catch_up.CatchUpLemmas.{sent_ok}
use Rattle.tests_progress.proofs.follower_laws.sends_twice.Goals as goal

-- a call that is no error leaves what its table says
table_ok : {S E U : Type 0} (table : Result S E) (old : S) (result : Result U E) (new : S) → is_err result ≡ false
    → FollowsTable table old result new → table ≡ Ok new
table_ok (Ok s) old (Ok u) new ok is = rw is refl
table_ok (Ok s) old (Err e) new ok is = absurd is
table_ok (Err e) old (Ok u) new ok is = absurd is
table_ok (Err e) old (Err f) new ok is = cc

pub next_send-requires-2 : goal.next_send-requires-2
next_send-requires-2 g c =
    let log = g.L.LogStateReader.log_view c.args.log.now in
    let later = g.L.LogStateReader.log_view c.args.later.now in
    let follower = c.args.follower.now in
    let sent = c.next_send.follows.lender-at-none in
    let acked = c.update_matching.new.self in
    let laws = c.can_send_stays.ensures in
    let idle : is_idle follower.inflight ≡ true = search rules in
    let begins = laws.begins follower log idle (search rules) in
    let snapshot : next_index log.snapshot ≤ next_index log.last =
    rw (c.copied.ensures, c.snapshot_last_log_id.ensures) at (c.if-not-reaches-2.ensures refl) in
    let sending = sent_ok _ c.next_send.result sent (sym c.is_err.ensures.value ∙ c.if-is_err.false) c.next_send.follows.holds-at-none in
    let sends = laws.sends c.args.log.now follower sent 8 snapshot (omega (arith, c.if-follower-gt99.false)) begins sending in
    let taken = table_ok _ sent c.update_matching.result acked (sym c.is_err-2.ensures.value ∙ c.if-is_err-2.false)
    c.update_matching.ensures.table in
    let acks = laws.acks sent acked log sent.curr_inflight_id c.args.acked (λ _. c.if-not-reaches.ensures refl) sends taken in
    let grown = c.if-not-has_grown.ensures in
    laws.can_send acked later (laws.grows acked log later (grown.more refl) (grown.last refl) (grown.purged refl) acks)
