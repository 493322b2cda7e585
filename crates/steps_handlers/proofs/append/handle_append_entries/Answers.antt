use Rattle.std.proofs.Common.{◌≡◌, false, ap, rules, sym, ◌∙◌}
use Rattle.steps_handlers.proofs.lemmas.RefusalLemmas.{taken_error}
use Rattle.steps_handlers.proofs.lemmas.TakeLemmas.{heard_answers, heard_nothing, heard_refuses, heard_rest, not_heard}
use Rattle.steps_handlers.proofs.lemmas.WrittenLemmas.{heard_writes, higher_writes}
use Rattle.steps_handlers.specs.Follow.{is_followed, vote_heard}
use Rattle.raft_progress.specs.progress.Comparisons.{OrdMembers}
use Rattle.steps_handlers.specs.declared.error.AppendError.TheVariants.{OutOfMemory}
use Rattle.steps_handlers.proofs.append.handle_append_entries.Goals as goal

pub returns-in_default-clause-answers : goal.returns-in_default-clause-answers
returns-in_default-clause-answers g c =
    let s = c.args.state.now in
    let leader = c.args.request.now.leader_id in
    let order = g.L.LeaderIdentity.order in
    let other : is_followed order leader s ≡ false = sym (rw c.in_default.is at c.follow.ensures.follows) in
    (c.vote_ref-promised.ensures, not_heard order leader s c.follow.new.state other c.follow.ensures.heard)

pub returns-in_default-clause-writes : goal.returns-in_default-clause-writes
returns-in_default-clause-writes g c =
    let s = c.args.state.now in
    let leader = c.args.request.now.leader_id in
    let order = g.L.LeaderIdentity.order in
    let other : is_followed order leader s ≡ false = sym (rw c.in_default.is at c.follow.ensures.follows) in
    rw (c.none.ensures, not_heard order leader s c.follow.new.state other c.follow.ensures.heard)
    (higher_writes _ g.met.L.Committed.Eq.laws c.args.request.now.entries.items g.met.L.Committed.Ord.total g.L.PartialEq.eq
    g.met.L.Eq.laws _ s)

pub returns-clause-writes : goal.returns-clause-writes
returns-clause-writes g c =
    let s = c.args.state.now in
    let leader = c.args.request.now.leader_id in
    let kept = ap (λ t. t.vote) c.in_ok-outcome.ensures.matches.rest in
    heard_writes _ g.met.L.Committed.Eq.laws c.args.request.now.entries.items g.L.PartialEq.eq g.met.L.Eq.laws s c.match_log.new.state
    (vote_heard g.L.LeaderIdentity.order leader s) c.in_ok-outcome.outcome _ c.in-Some.is_new (rw kept c.in-Some.ensures.answer)
    (rw c.follow.ensures.heard at c.in_ok-outcome.ensures.matches.writes)

pub returns-clause-vote : goal.returns-clause-vote
returns-clause-vote g c = ap (λ t. t.vote) c.in_ok-outcome.ensures.matches.rest ∙ ap (λ t. t.vote) c.follow.ensures.heard

pub returns-in_err-outcome-clause-vote : goal.returns-in_err-outcome-clause-vote
returns-in_err-outcome-clause-vote g c = ap (λ t. t.vote) c.in_err-outcome.ensures.refuses.rest ∙ ap (λ t. t.vote) c.follow.ensures.heard

pub returns-clause-rest : goal.returns-clause-rest
returns-clause-rest g c =
    heard_rest c.args.state.now c.follow.new.state c.match_log.new.state _ c.follow.ensures.heard c.in_ok-outcome.ensures.matches.rest

pub returns-in_err-outcome-clause-rest : goal.returns-in_err-outcome-clause-rest
returns-in_err-outcome-clause-rest g c =
    heard_rest c.args.state.now c.follow.new.state c.match_log.new.state _ c.follow.ensures.heard c.in_err-outcome.ensures.refuses.rest

pub returns-clause-answers : goal.returns-clause-answers
returns-clause-answers g c =
    heard_answers _ g.NID.PartialEq.eq g.N.PartialEq.eq c.args.state.now c.match_log.new.state
    (vote_heard g.L.LeaderIdentity.order c.args.request.now.leader_id c.args.state.now) c.args.request.now c.in_ok-outcome.outcome
    c.in_ok-outcome.ensures.matches.followed (rw c.follow.ensures.heard at c.in_ok-outcome.ensures.matches.answers)

pub returns-in_err-outcome-clause-refuses : goal.returns-in_err-outcome-clause-refuses
returns-in_err-outcome-clause-refuses g c =
    let refuses = heard_refuses _ g.NID.PartialEq.eq g.N.PartialEq.eq c.args.state.now c.match_log.new.state
    (vote_heard g.L.LeaderIdentity.order c.args.request.now.leader_id c.args.state.now) c.args.request.now c.in_err-outcome.field-0.0
    (rw c.follow.ensures.heard at c.in_err-outcome.ensures.refuses.refuses) in
    search (rules, refuses)

pub returns-in_err-outcome-clause-honest : goal.returns-in_err-outcome-clause-honest
returns-in_err-outcome-clause-honest g c = λ sound honest.
    let refuses = heard_refuses _ g.NID.PartialEq.eq g.N.PartialEq.eq c.args.state.now c.match_log.new.state
    (vote_heard g.L.LeaderIdentity.order c.args.request.now.leader_id c.args.state.now) c.args.request.now c.in_err-outcome.field-0.0
    (rw c.follow.ensures.heard at c.in_err-outcome.ensures.refuses.refuses) in
    let memory : c.in_err-outcome.field-0.0 ≡ OutOfMemory =
    taken_error g.L.Committed.PartialEq.eq g.L.Committed.Ord.cmp c.args.request.now.prev c.args.request.now.entries.items c.args.state.now
    c.args.request.now.committed c.in_err-outcome.field-0.0 (c.honest_request_may_be_taken.ensures sound honest) refuses.reason in
    search (rules, memory)

pub returns-in_err-outcome-clause-no_memory : goal.returns-in_err-outcome-clause-no_memory
returns-in_err-outcome-clause-no_memory g c = λ nothing.
    let ord : OrdMembers g.row.L-Committed.Denot = record {
      partial_cmp = g.L.Committed.PartialOrd.partial_cmp;
      eq = g.L.Committed.PartialEq.eq;
      cmp = g.L.Committed.Ord.cmp;
    } in
    let needed = rw c.follow.ensures.heard at c.in_err-outcome.ensures.refuses.needed in
    absurd (needed (heard_nothing ord g.NID.PartialEq.eq g.N.PartialEq.eq c.args.state.now c.match_log.new.state
    (vote_heard g.L.LeaderIdentity.order c.args.request.now.leader_id c.args.state.now) c.args.request.now nothing))
