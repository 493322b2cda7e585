use Rattle.std.proofs.Common.{rules, subst, Err, IsTrue, MatchResult, Ok, Result}
use Rattle.std.specs.Result.{is_ok}
use Rattle.raft_state.specs.raft_state.VoteAndLog.{log_view_of}
use Rattle.tests_state.proofs.laws.send.Goals as goal

-- what holds of an answer that is an Ok
of_ok : {A B : Type 0} (P : A → Type 0) (Q : B → Type 0) (r : Result A B) → IsTrue (is_ok r) → MatchResult r P Q → (x : A) × P x
of_ok P Q (Ok x) h m = (x, m)
of_ok P Q (Err x) h m = cc

pub returns : goal.returns
returns g c ok =
    let sending = of_ok _ _ c.next_send.result (subst IsTrue c.is_ok.ensures.value ok) c.next_send.follows.holds-at-none in
    c.sends_from_log.ensures (log_view_of c.args.state.now) c.args.follower.now c.next_send.follows.lender-at-none c.args.max_entries
    (search rules) (search rules) (search rules) sending.1.0
