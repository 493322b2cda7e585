use Rattle.std.proofs.Common.{◌≡◌, true, false, refl, sym}
use Rattle.steps_handlers.proofs.lemmas.SnapshotLemmas.{followed_refusal, refused_after, taken_as}
use Rattle.steps_handlers.proofs.lemmas.TakeLemmas.{not_heard}
use Rattle.steps_handlers.proofs.lemmas.WrittenLemmas.{heard_installs, not_installed}
use Rattle.std.proofs.lemmas.Result.{err_from_is_err_and}
use Rattle.steps_handlers.specs.Follow.{heard, is_followed, vote_heard}
use Rattle.steps_handlers.specs.Snapshot.{install_refusal}
use Rattle.steps_handlers.proofs.snapshot.handle_install_snapshot.Goals as goal

pub returns-in_default-clause-answers : goal.returns-in_default-clause-answers
returns-in_default-clause-answers g c =
    let other : is_followed g.L.LeaderIdentity.order c.args.request.now.leader_id c.args.state.now ≡ false =
    sym (rw c.in_default.is at c.follow.ensures.follows) in
    (rw other c.vote_ref-promised.ensures, c.follow.ensures.heard)

pub returns-in_default-clause-refused : goal.returns-in_default-clause-refused
returns-in_default-clause-refused g c =
    let other : is_followed g.L.LeaderIdentity.order c.args.request.now.leader_id c.args.state.now ≡ false =
    sym (rw c.in_default.is at c.follow.ensures.follows) in
    rw other tt

pub returns-in_err-changes-clause-refused : goal.returns-in_err-changes-clause-refused
returns-in_err-changes-clause-refused g c =
    let s = c.args.state.now in
    let leader = c.args.request.now.leader_id in
    let order = g.L.LeaderIdentity.order in
    let reason = install_refusal order g.L.Committed.Ord.cmp g.L.Committed.PartialEq.eq c.args.request.now.meta (heard order leader s) in
    let followed : is_followed order leader s ≡ true = sym (rw c.in-Some.is at c.follow.ensures.follows) in
    let p = err_from_is_err_and c.from_residual.result c.from_residual.ensures.1 in
    let given = p.2 in
    let same : p.0 ≡ c.in_err-changes.field-0.0 = cc in
    followed_refusal (is_followed order leader s) reason _ followed
    (refused_after _ reason c.in_err-changes.field-0.0 p.0 c.from_residual.result p.1 same
    (rw c.follow.ensures.heard at c.in_err-changes.ensures.refused))

pub returns-clause-refused : goal.returns-clause-refused
returns-clause-refused g c =
    let s = c.args.state.now in
    let leader = c.args.request.now.leader_id in
    let order = g.L.LeaderIdentity.order in
    let reason = install_refusal order g.L.Committed.Ord.cmp g.L.Committed.PartialEq.eq c.args.request.now.meta (heard order leader s) in
    let followed : is_followed order leader s ≡ true = sym (rw c.in-Some.is at c.follow.ensures.follows) in
    followed_refusal (is_followed order leader s) reason _ followed
    (taken_as reason c.in_ok-changes.changes _ (rw c.follow.ensures.heard at c.in_ok-changes.ensures.refused))

pub returns-clause-answers : goal.returns-clause-answers
returns-clause-answers g c = (refl, rw c.follow.ensures.heard at c.in_ok-changes.ensures.installs)

pub returns-in_default-clause-writes : goal.returns-in_default-clause-writes
returns-in_default-clause-writes g c =
    let s = c.args.state.now in
    let leader = c.args.request.now.leader_id in
    let order = g.L.LeaderIdentity.order in
    let other : is_followed order leader s ≡ false = sym (rw c.in_default.is at c.follow.ensures.follows) in
    not_installed _ c.args.request.now.meta g.L.PartialEq.eq g.met.L.Eq.laws s c.follow.new.state (is_followed order leader s) other
    (not_heard order leader s c.follow.new.state other c.follow.ensures.heard)

pub returns-clause-writes : goal.returns-clause-writes
returns-clause-writes g c =
    let s = c.args.state.now in
    let leader = c.args.request.now.leader_id in
    let order = g.L.LeaderIdentity.order in
    let followed : is_followed order leader s ≡ true = sym (rw c.in-Some.is at c.follow.ensures.follows) in
    heard_installs _ c.args.request.now.meta g.L.PartialEq.eq s c.install.new.state (vote_heard order leader s) _ c.in-Some.is_new
    (is_followed order leader s) (rw c.in_ok-changes.ensures.installs.vote c.in-Some.ensures.answer) followed
    (rw c.follow.ensures.heard at c.in_ok-changes.ensures.writes)

pub returns-in_err-changes-clause-no_memory : goal.returns-in_err-changes-clause-no_memory
returns-in_err-changes-clause-no_memory g c = λ not.
    let taken = rw c.follow.ensures.heard at c.in_err-changes.ensures.no_memory in let none = taken not in cc
