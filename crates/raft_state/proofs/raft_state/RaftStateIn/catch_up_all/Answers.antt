use Rattle.std.proofs.Common.{arith, ◌≡◌, ◌+◌, ◌∷◌, ◌∙◌, drop, refl, sym, ap}
use Rattle.std.proofs.lemmas.List.{drop_more, drop_all}
use Rattle.raft_progress.specs.progress.VecProgress.{view}
use Rattle.raft_state.specs.raft_state.CatchUp.{state_can_catch_up}
use Rattle.raft_state.specs.raft_state.VoteAndLog.{log_view_of}
use Rattle.raft_state.proofs.lemmas.catch_up.RoundLemmas.{along_over, along_ran, round_end, round_of}
use Rattle.raft_state.proofs.raft_state.RaftStateIn.catch_up_all.Goals.{then-visit, else-visit}
use Rattle.raft_state.proofs.raft_state.RaftStateIn.catch_up_all.Goals as goal

pub loop-follower-preserved : goal.loop-follower-preserved
loop-follower-preserved g c =
    let can = state_can_catch_up g.C.PartialEq.eq g.C.Ord.cmp c.args.self.now in
    let log = log_view_of c.args.self.now in
    let old = view c.args.progress.now in
    let now = view c.loop-follower.progress in
    let next = view c.visit.new.progress in
    let pairs = c.args.followers.now in
    let pair = c.follower-item.result in
    let few = c.loop-follower.invariant.small in
    let left = drop (c.loop-follower.follower-index + 1) pairs in
    let more : drop c.loop-follower.follower-index pairs ≡ pair ∷ left =
    drop_more pairs c.loop-follower.follower-index pair c.loop-follower-test.true ∙ ap (λ p. p ∷ left) (sym c.follower-item.is) in
    let here = rw more at c.loop-follower.invariant.along in
    record {
      small = elim c.if-visit.branch [
        | then-visit w ↦ (let n = w.count-is in omega arith)
        | else-visit w ↦
            (let n = w.count-is in omega arith)
      ];
      ordered = c.visit.ensures.ordered;
      along = elim c.if-visit.branch [
        | then-visit w ↦ rw w.count-is (along_ran g.met.NID.Eq.laws g.C.Ord.cmp g.QS.QuorumSet.has_quorum log c.args.max_entries can
            g.C.PartialEq.eq old pairs
            c.loop-follower.count now pair left next here w.if-visit.ensures.visited (w.if-visit.ensures.caught_up refl))
        | else-visit w ↦ rw w.count-is (along_over g.met.NID.Eq.laws g.C.Ord.cmp g.QS.QuorumSet.has_quorum log c.args.max_entries can
            g.C.PartialEq.eq old pairs
            c.loop-follower.count now pair left next here w.if-visit.ensures.visited)
      ];
    }

pub returns-clause-round : goal.returns-clause-round
returns-clause-round g c =
    let can = state_can_catch_up g.C.PartialEq.eq g.C.Ord.cmp c.args.self.now in
    let log = log_view_of c.args.self.now in
    let old = view c.args.progress.now in
    let now = view c.loop-follower.progress in
    let pairs = c.args.followers.now in
    let end = rw (drop_all c.loop-follower.follower-index pairs c.loop-follower-test.false) at c.loop-follower.invariant.along in
    let round = round_of g.met.NID.Eq.laws g.C.Ord.cmp g.QS.QuorumSet.has_quorum log c.args.max_entries can g.C.PartialEq.eq old pairs
    c.loop-follower.count now end in (
      end.ran,
      round_end g.met.NID.Eq.laws g.C.Ord.cmp g.met.C.Ord.total g.met.C.Eq.laws.refl g.met.C.Ord.matches_eq log c.args.max_entries can
          g.QS.QuorumSet.has_quorum g.met.QS.QuorumSet.superset
          old now pairs end.ran round end.caught c.loop-follower.invariant.ordered c.loop-follower.count end.counted,
    )
