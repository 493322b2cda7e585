use Rattle.std.proofs.Common.{◌≡◌, Some, refl, sym, ◌∙◌}
use Rattle.raft_progress.specs.progress.ProgressView.{state}
use Rattle.raft_progress.specs.progress.VecProgress.{view}
use Rattle.raft_state.proofs.lemmas.catch_up.RoundLemmas.{writes}
use Rattle.raft_state.proofs.raft_state.RaftStateIn.visit.Goals as goal

pub update-requires-clause-monotone : goal.update-requires-clause-monotone
update-requires-clause-monotone g c = λ old known.
    let is : Some c.in-Some.found ≡ Some old = sym c.in-Some.is ∙ c.copied.ensures ∙ c.try_get.ensures ∙ known in
    let same : c.in-Some.found ≡ old = cc in
    rw same at c.catch_up.ensures.monotone

pub returns-else-not-can_catch_up-clause-visited : goal.returns-else-not-can_catch_up-clause-visited
returns-else-not-can_catch_up-clause-visited g c =
    record {
      entry = c.in-Some.found;
      end = c.catch_up.new.entry;
      conflicts = c.catch_up.result.0;
      acks = c.catch_up.result.1;
      known = sym c.try_get.ensures ∙ sym c.copied.ensures ∙ c.in-Some.is;
      can_run = sym c.can_catch_up.ensures ∙ c.if-not-can_catch_up.false;
      run = c.catch_up.ensures.run;
      updated = c.update.follows.holds-at-none.updated;
      ordered = c.update.follows.holds-at-none.ordered;
    }

pub returns-else-not-can_catch_up-clause-caught_up : goal.returns-else-not-can_catch_up-clause-caught_up
returns-else-not-can_catch_up-clause-caught_up g c = λ _.
    let known : (state g.NID.PartialEq.eq (view c.args.progress.now)).value c.args.id.now ≡ Some c.in-Some.found =
    sym c.try_get.ensures ∙ sym c.copied.ensures ∙ c.in-Some.is in
    let written = writes g.NID.PartialEq.eq _ _ (view c.args.progress.now) (view c.update.follows.lender-at-none) c.args.id.now
    c.in-Some.found c.catch_up.new.entry c.update.follows.holds-at-none.updated known in
    (c.catch_up.new.entry, written.value c.args.id.now ∙ rw (g.met.NID.Eq.laws.refl c.args.id.now) refl, c.catch_up.ensures.caught_up)
