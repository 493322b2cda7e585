use Rattle.std.proofs.Common.{◌≡◌, ◌∙◌, None, Some, false, refl, sym, true, true≢false}
use Rattle.raft_progress.specs.tracked.Followers.{member_value}
use Rattle.raft_progress.specs.tracked.Tracked.{tracked_view}
use Rattle.steps_handlers.specs.Leadership.{WritesMember, granted_by}
use Rattle.steps_handlers.specs.Responses.{after_response}
use Rattle.steps_handlers.proofs.lemmas.AppendLemmas.{must_be, must_not_be}
use Rattle.steps_handlers.proofs.lemmas.FollowerLemmas.{id_le-refl}
use Rattle.steps_handlers.proofs.lemmas.SendLemmas.{leader_writes, on_err, response_err, response_known, response_ok, response_refused, response_written}
use Rattle.steps_handlers.proofs.leader.Leader.handle_response.Goals as goal

pub returns-then-ne-clause-monotone : goal.returns-then-ne-clause-monotone
returns-then-ne-clause-monotone g c = id_le-refl g.met.C.Ord.total (granted_by c.args.self.now)

pub returns-then-ne-clause-takes : goal.returns-then-ne-clause-takes
returns-then-ne-clause-takes g c =
    let other : g.C.PartialEq.eq c.args.response.now.leader_id c.self.inside.leader_id ≡ false =
    must_not_be _ (sym c.ne.ensures ∙ c.if-ne.true) in
    record {
      foreign = λ _. refl;
      unknown = λ own _. absurd (true≢false (sym (rw (← c.self.view_is) at own) ∙ other));
      ok = λ entry next own _ _. absurd (true≢false (sym (rw (← c.self.view_is) at own) ∙ other));
      taken = λ entry next own _ _. absurd (true≢false (sym (rw (← c.self.view_is) at own) ∙ other));
      refused = λ entry e own _ _. absurd (true≢false (sym (rw (← c.self.view_is) at own) ∙ other));
      err = refl;
    }

pub returns-clause-takes : goal.returns-clause-takes
returns-clause-takes g c =
    let me = c.self.inside in
    let eq = g.NID.PartialEq.eq in
    let cmp = g.C.Ord.cmp in
    let old = tracked_view c.self.inside.followers in
    let new = tracked_view c.take_response.new.followers in
    let from = c.args.from.now in
    let response = c.args.response.now in
    let own : g.C.PartialEq.eq response.leader_id c.self.inside.leader_id ≡ true =
    must_be _ (sym c.ne.ensures ∙ c.if-ne.false) in
    record {
      foreign = λ other. absurd (true≢false (sym own ∙ rw (← c.self.view_is) at other));
      unknown = λ is none.
          let here = rw (← c.self.view_is) at none in
          absurd (response_known (member_value eq old from) (λ entry. after_response cmp entry response)
          (λ next. WritesMember eq old from next new) old new c.in-Some.taken c.in-Some.ensures.step here);
      ok = λ entry next _ known after.
          let here = rw (← c.self.view_is) at known in
          response_ok (member_value eq old from) (λ entry. after_response cmp entry response)
          (λ next. WritesMember eq old from next new) old new c.in-Some.taken c.in-Some.ensures.step entry next here after;
      taken = λ entry next _ known after.
          let here = rw (← c.self.view_is) at known in
          let written = response_written (member_value eq old from) (λ entry. after_response cmp entry response)
          (λ next. WritesMember eq old from next new) old new c.in-Some.taken c.in-Some.ensures.step entry next here after in
          rw (← c.self.view_is) (leader_writes eq
          (record {
            id = me.id;
            leader_id = me.leader_id;
            followers = old;
            members_at = me.members_at;
            last_request = me.last_request;
          }) new from next written);
      refused = λ entry e _ known after.
          let here = rw (← c.self.view_is) at known in
          response_refused (member_value eq old from) (λ entry. after_response cmp entry response)
          (λ next. WritesMember eq old from next new) old new c.in-Some.taken c.in-Some.ensures.step entry e here after;
      err = rw (← c.self.view_is) (on_err c.in-Some.taken (new ≡ old) _
          (λ is i. record {
            id = me.id;
            leader_id = me.leader_id;
            followers = is i;
            members_at = me.members_at;
            last_request = me.last_request;
          })
          (response_err (member_value eq old from) (λ entry. after_response cmp entry response)
          (λ next. WritesMember eq old from next new) old new c.in-Some.taken c.in-Some.ensures.step));
    }

pub returns-clause-monotone : goal.returns-clause-monotone
returns-clause-monotone g c = rw (← c.self.view_is) c.take_response.ensures.monotone

pub returns-in_default-clause-takes : goal.returns-in_default-clause-takes
returns-in_default-clause-takes g c =
    let own : g.C.PartialEq.eq c.args.response.now.leader_id c.self.inside.leader_id ≡ true =
    must_be _ (sym c.ne.ensures ∙ c.if-ne.false) in
    record {
      foreign = λ other. absurd (true≢false (sym own ∙ rw (← c.self.view_is) at other));
      unknown = λ _ _. refl;
      ok = λ entry next _ known after.
          let here = rw (← c.self.view_is) at known in
          let e : Some entry ≡ None = sym here ∙ c.in_default.ensures.step.0 in
          cc;
      taken = λ entry next _ known after.
          let here = rw (← c.self.view_is) at known in
          let e : Some entry ≡ None = sym here ∙ c.in_default.ensures.step.0 in
          cc;
      refused = λ entry e _ known after.
          let here = rw (← c.self.view_is) at known in
          let e : Some entry ≡ None = sym here ∙ c.in_default.ensures.step.0 in
          cc;
      err =
          let me = c.self.inside in
          let is = c.in_default.ensures.step.1 in
          rw (← c.self.view_is) (λ i. record {
            id = me.id;
            leader_id = me.leader_id;
            followers = is i;
            members_at = me.members_at;
            last_request = me.last_request;
          });
    }

pub returns-in_default-clause-monotone : goal.returns-in_default-clause-monotone
returns-in_default-clause-monotone g c = rw (← c.self.view_is) c.take_response.ensures.monotone
