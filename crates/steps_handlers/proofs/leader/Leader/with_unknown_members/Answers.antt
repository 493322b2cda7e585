use Rattle.std.proofs.Common.{◌≡◌, ap, refl, rules, ◌∙◌}
use Rattle.raft_members.specs.membership.Stored.{membership_of}
use Rattle.raft_progress.specs.tracked.Tracked.{tracked_view}
use Rattle.steps_handlers.specs.Leadership.{new_entry}
use Rattle.raft_progress.specs.declared.entry.ProgressEntryOf.{ProgressEntryOf}
use Rattle.steps_handlers.proofs.lemmas.TrackedLemmas.{begins_with_default}
use Rattle.steps_handlers.proofs.leader.Leader.with_unknown_members.Goals as goal

pub returns : goal.returns
returns g c =
    let eq = g.NID.PartialEq.eq in
    let made = tracked_view c.in_ok-followers.followers in
    let configs : made.membership.configs ≡ (membership_of c.args.state.now.membership_state.effective).configs = search rules in
    record {
      begins = record {
        node = search rules;
        leader = search rules;
        numbered = refl;
        members = search rules;
        configs = configs;
        members_at = search rules;
        counted = c.in_ok-followers.ensures.ready.counts_by.known;
        entries = λ x entry known.
            begins_with_default eq _ _ _ _ c.with_curr_inflight_id-unknown.result made
            c.in_ok-followers.ensures.progress x entry known
            ∙ c.with_curr_inflight_id-unknown.ensures
            ∙ ap (λ (e : ProgressEntryOf g.row.C.Denot). record e { curr_inflight_id = c.args.last_request }) c.empty-unknown.ensures
            ∙ ap (λ end. new_entry end c.args.last_request) c.requires.end;
      };
    }
