use Rattle.std.proofs.Common.{◌≡◌, ◌∙◌, refl, subst, true}
use Rattle.raft_base.specs.LogId.{id_le}
use Rattle.raft_base.specs.declared.log_id.LogIdOf.{LogIdOf}
use Rattle.steps_handlers.specs.Append.{last_id_of_request}
use Rattle.raft_progress.specs.declared.entry.ProgressEntryOf.{ProgressEntryOf}
use Rattle.std.specs.Prelude.{Option}
use Rattle.tests_handlers.proofs.lemmas.LearnedLemmas.{has_last, learned, outcome_at_least, outcome_match}
use Rattle.tests_handlers.proofs.uses.replicates.Goals as goal

pub returns-in-Matches-clause-knows : goal.returns-in-Matches-clause-knows
returns-in-Matches-clause-knows g c = λ matches number in_flight entry known.
    let answered = rw c.in-Matches.is at c.in_ok-response.ensures.answers in
    let upto = c.in-Matches.field-0 in
    let response = c.in_ok-response.response in
    learned g.NID.PartialEq.eq g.met.NID.Eq.laws _ c.args.leader.now c.handle_response.new.self c.args.member.now response
    (λ (e : ProgressEntryOf g.row.C.Denot). e.matching ≡ upto)
    (outcome_match g.C.Ord.cmp upto response number (c.in_ok-response.ensures.repeats.request ∙ in_flight) c.in-Matches.is)
    _ c.in_ok-handle_response.ensures.takes entry known
    ∙ answered.0

pub returns-in-Matches-clause-knows_as_much : goal.returns-in-Matches-clause-knows_as_much
returns-in-Matches-clause-knows_as_much g c = λ matches entry known.
    let answered = rw c.in-Matches.is at c.in_ok-response.ensures.answers in
    let upto = c.in-Matches.field-0 in
    let response = c.in_ok-response.response in
    subst (λ (i : Option (LogIdOf g.row.C.Denot)). id_le g.C.Ord.cmp i entry.matching ≡ true) answered.0
    (learned g.NID.PartialEq.eq g.met.NID.Eq.laws _ c.args.leader.now c.handle_response.new.self c.args.member.now response
    (λ (e : ProgressEntryOf g.row.C.Denot). id_le g.C.Ord.cmp upto e.matching ≡ true)
    (outcome_at_least g.C.Ord.cmp g.met.C.Ord.total upto response response.request refl c.in-Matches.is)
    _ c.in_ok-handle_response.ensures.takes entry known)

pub returns-in-Matches-clause-knows_what_is_there : goal.returns-in-Matches-clause-knows_what_is_there
returns-in-Matches-clause-knows_what_is_there g c = λ matches number in_flight entry known.
    let answered = rw c.in-Matches.is at c.in_ok-response.ensures.answers in
    let upto = c.in-Matches.field-0 in
    let response = c.in_ok-response.response in
    let match_is : entry.matching ≡ last_id_of_request c.args.request.now.prev c.args.request.now.entries.items =
    learned g.NID.PartialEq.eq g.met.NID.Eq.laws _ c.args.leader.now c.handle_response.new.self c.args.member.now response
    (λ (e : ProgressEntryOf g.row.C.Denot). e.matching ≡ upto)
    (outcome_match g.C.Ord.cmp upto response number (c.in_ok-response.ensures.repeats.request ∙ in_flight) c.in-Matches.is)
    _ c.in_ok-handle_response.ensures.takes entry known
    ∙ answered.0 in
    rw match_is (has_last g.C.PartialEq.eq c.handle_append_entries.new.state c.args.request.now.prev c.args.request.now.entries.items
    answered.1.has_prev answered.1.has_entries)
