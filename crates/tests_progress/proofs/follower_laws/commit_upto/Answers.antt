use Rattle.std.proofs.Common.{◌≡◌, true, Option, subst, sym}
use Rattle.raft_base.specs.declared.log_id.LogIdOf.{LogIdOf}
use Rattle.raft_progress.specs.progress.LoggedMatches.{is_logged_or_purged}
use Rattle.raft_progress.specs.progress.VecProgress.{view}
use Rattle.tests_progress.proofs.follower_laws.commit_upto.Goals as goal

pub returns : goal.returns
returns g c =
    let log = g.L.LogStateReader.log_view c.args.log.now in
    subst (λ (id : Option (LogIdOf g.row.C.Denot)). is_logged_or_purged g.C.PartialEq.eq log id ≡ true) (sym c.granted.ensures)
    (c.granted_is_logged.ensures (view c.args.followers.now) c.requires.ordered log c.requires.logged)
