use Rattle.std.specs.Prelude.{ℕ}
use Rattle.std.specs.Cmp.{nat_eq_equiv}
use Rattle.std.proofs.Common.{ap, sym, ◌∙◌}
use Rattle.raft_state.specs.raft_state.VoteAndLog.{vote_of}
use Rattle.tests_safety.proofs.StoryLemmas.{writes}
use Rattle.tests_safety.proofs.story.writes.Goals as goal

pub returns : goal.returns
returns g c =
    record {
      run = writes ℕ ℕ _ _ _ _ nat_eq_equiv c.args.state.now c.proposes_blank.new.state c.args.leader.now c.in-Ok._entry
          c.in-Some._last
          (sym (c.copied.ensures ∙ c.last_log_id.ensures) ∙ c.in-Some.is) c.in-Ok.ensures.step c.in-Ok.ensures.call;
      vote = ap vote_of c.in-Ok.ensures.call.rest;
    }
