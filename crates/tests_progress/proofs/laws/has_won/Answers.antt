use Rattle.std.proofs.Common.{◌≡◌, true, ap, sym, ◌∙◌}
use Rattle.std.specs.Ordering.{bool_cmp, is_lt}
use Rattle.raft_progress.specs.tracked.Tracked.{tracked_view}
use Rattle.tests_progress.proofs.laws.has_won.Goals as goal

pub returns : goal.returns
returns g c won =
    let votes = tracked_view c.args.votes.now in
    let granted : votes.progress.granted ≡ true = sym (c.granted.ensures ∙ ap (λ p. p.granted) c.progress.ensures) ∙ won in
    c.granted_meet.ensures.lacks_nothing (tracked_view c.args.matches.now) votes c.args.last
    record {
      matches_ready = c.quorums_know_granted.ensures.ready;
      votes_ready = c.quorums_know_granted-2.ensures.ready;
      share_config = c.requires.one_change;
      has_voted = λ i. is_lt (bool_cmp (c.requires.from_false i) (granted i));
    }
    c.requires.up_to_date
