use Rattle.std.proofs.Common.{arith, sym, ◌∙◌, ◌≤◌}
use Rattle.raft_progress.proofs.lemmas.progress.entries.PrefixLemmas.{prefix_tested, halves_failed, halves_found, halves_missed, halves_none, halves_passed, single_prefix, tests_fit}
use Rattle.raft_progress.proofs.progress.entries.find_shortest_quorum.Goals as goal

pub overflow_add-tests : goal.overflow_add-tests
overflow_add-tests g c =
    let t = tests_fit g.ID.PartialEq.eq (g.QS.QuorumSet.has_quorum c.args.quorum_set.now) c.args.voters.now c.args.low c.args.high
    c.loop-failed.failed c.loop-failed.end c.loop-failed.left c.loop-failed.tests c.loop-failed.invariant.halves
    c.loop-failed.invariant.fits in
    omega arith

pub loop-failed-init : goal.loop-failed-init
loop-failed-init g c = record {
  halves = halves_none g.ID.PartialEq.eq (g.QS.QuorumSet.has_quorum c.args.quorum_set.now) c.args.voters.now c.args.low c.args.high
      c.requires.within;
  fits = omega arith;
}

pub loop-failed-preserved-then-is_quorum : goal.loop-failed-preserved-then-is_quorum
loop-failed-preserved-then-is_quorum g c =
    let e = c.min-len.ensures in
    let a = c.saturating_add.ensures in
    let l : c.min-len.result ≤ c.args.high = let w = c.loop-failed.invariant.halves.within in omega arith in
    let tested = prefix_tested g.met.ID.Eq.laws (g.QS.QuorumSet.has_quorum c.args.quorum_set.now) c.args.voters.now c.requires.distinct
    c.args.ids.now c.args.high c.min-len.result l c.requires.gathered c.is_quorum.result c.is_quorum.ensures.quorum in
    record {
      halves = halves_passed g.ID.PartialEq.eq (g.QS.QuorumSet.has_quorum c.args.quorum_set.now) c.args.voters.now c.args.low c.args.high
          c.loop-failed.failed c.loop-failed.end c.loop-failed.left c.loop-failed.tests c.loop-failed.invariant.halves
          c.loop-failed-test.true c.min-len.result (omega arith) (sym tested ∙ c.if-is_quorum.true);
      fits = c.loop-failed.invariant.fits;
    }

pub loop-failed-preserved : goal.loop-failed-preserved
loop-failed-preserved g c =
    let e = c.min-len.ensures in
    let a = c.saturating_add.ensures in
    let l : c.min-len.result ≤ c.args.high = let w = c.loop-failed.invariant.halves.within in omega arith in
    let tested = prefix_tested g.met.ID.Eq.laws (g.QS.QuorumSet.has_quorum c.args.quorum_set.now) c.args.voters.now c.requires.distinct
    c.args.ids.now c.args.high c.min-len.result l c.requires.gathered c.is_quorum.result c.is_quorum.ensures.quorum in
    record {
      halves = halves_failed g.ID.PartialEq.eq (g.QS.QuorumSet.has_quorum c.args.quorum_set.now) c.args.voters.now c.args.low c.args.high
          c.loop-failed.failed c.loop-failed.end c.loop-failed.left c.loop-failed.tests c.loop-failed.invariant.halves
          c.loop-failed-test.true c.min-len.result (omega arith) (g.met.QS.QuorumSet.superset c.args.quorum_set.now)
          (sym tested ∙ c.if-is_quorum.false);
      fits = c.loop-failed.invariant.fits;
    }

pub returns-then-end-high : goal.returns-then-end-high
returns-then-end-high g c = halves_found g.ID.PartialEq.eq (g.QS.QuorumSet.has_quorum c.args.quorum_set.now) c.args.voters.now c.args.low
    c.args.high c.loop-failed.failed c.loop-failed.end c.loop-failed.left c.loop-failed.tests c.loop-failed.invariant.halves (omega arith)
    c.if-end-high.true

pub returns-else-end-high : goal.returns-else-end-high
returns-else-end-high g c = halves_missed g.ID.PartialEq.eq (g.QS.QuorumSet.has_quorum c.args.quorum_set.now) c.args.voters.now c.args.low
    c.args.high c.loop-failed.failed c.loop-failed.end c.loop-failed.left c.loop-failed.tests c.loop-failed.invariant.halves (omega arith)
    c.if-end-high.false

pub returns-then-prefixes-eq1 : goal.returns-then-prefixes-eq1
returns-then-prefixes-eq1 g c =
    let is_quorum = g.QS.QuorumSet.has_quorum c.args.quorum_set.now in
    let tested = prefix_tested g.met.ID.Eq.laws is_quorum c.args.voters.now c.requires.distinct c.args.ids.now c.args.high c.args.high
    (omega arith) c.requires.gathered c.is_quorum-passed.result c.is_quorum-passed.ensures.quorum in
    rw c.then_some-len.ensures
    (single_prefix g.ID.PartialEq.eq is_quorum c.args.voters.now c.args.low c.args.high (omega arith) c.requires.within
    c.is_quorum-passed.result tested)
