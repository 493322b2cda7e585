use Rattle.std.specs.Coded.{Coded-set, coded_list}
use Rattle.std.proofs.Common.{sym, ◌∙◌}
use Rattle.raft_progress.specs.tracked.Tracked.{tracked_view}
use Rattle.raft_progress.specs.progress.VecProgress.{view}
use Rattle.raft_progress.proofs.lemmas.tracked.ReadyLemmas.{ready_of}
use Rattle.raft_progress.proofs.lemmas.tracked.TrackedCloneLemmas.{ready_cloned, same_configs}
use Rattle.raft_progress.proofs.tracked.Tracked.try_clone.Goals as goal

pub returns-clause-progress : goal.returns-clause-progress
returns-clause-progress g c = same_configs (view c.args.self.now.progress) (view c.in_ok-progress.progress) c.in_ok-configs.configs
    g.V.Clone.is_clone c.in_ok-progress.ensures.cloned
    (c.in_ok-configs.ensures.configs ∙ c.in_ok-membership.ensures.configs
    ∙ sym (ready_of g.met.NID.Eq.laws g.NID.Ord.cmp g.met.P.Ord.total g.V.ProgressPart.part_of
    (Coded-set (coded_list (coded_list g.row.NID.coded))) (tracked_view c.args.self.now) c.args.self.now.ready).counts_by.configs)

pub sides_of-requires-clause-known : goal.sides_of-requires-clause-known
sides_of-requires-clause-known g c κs within =
    (ready_cloned g.met.NID.Eq.laws g.NID.Ord.cmp g.met.NID.Ord.matches_eq g.N.PartialEq.eq g.P.Ord.cmp g.V.ProgressPart.part_of
    g.V.Clone.is_clone c.requires.clones_have_the_part (tracked_view c.args.self.now)
    (record { membership = c.in_ok-membership.membership; progress = view c.in_ok-progress.progress })
    c.in_ok-membership.ensures.configs c.in_ok-membership.ensures.equal
    (same_configs (view c.args.self.now.progress) (view c.in_ok-progress.progress) c.in_ok-configs.configs g.V.Clone.is_clone
    c.in_ok-progress.ensures.cloned (c.in_ok-configs.ensures.configs ∙ c.in_ok-membership.ensures.configs
    ∙ sym (ready_of g.met.NID.Eq.laws g.NID.Ord.cmp g.met.P.Ord.total g.V.ProgressPart.part_of
    (Coded-set (coded_list (coded_list g.row.NID.coded))) (tracked_view c.args.self.now) c.args.self.now.ready).counts_by.configs))
    (ready_of g.met.NID.Eq.laws g.NID.Ord.cmp g.met.P.Ord.total g.V.ProgressPart.part_of
    (Coded-set (coded_list (coded_list g.row.NID.coded))) (tracked_view c.args.self.now) c.args.self.now.ready)).counts_by.known

pub invariant_of-result : goal.invariant_of-result
invariant_of-result g c =
    let ready = ready_of g.met.NID.Eq.laws g.NID.Ord.cmp g.met.P.Ord.total g.V.ProgressPart.part_of
    (Coded-set (coded_list (coded_list g.row.NID.coded))) (tracked_view c.args.self.now) c.args.self.now.ready in
    record {
      ready = ∣
          ready_cloned g.met.NID.Eq.laws g.NID.Ord.cmp g.met.NID.Ord.matches_eq g.N.PartialEq.eq g.P.Ord.cmp g.V.ProgressPart.part_of
          g.V.Clone.is_clone c.requires.clones_have_the_part (tracked_view c.args.self.now)
          (record { membership = c.in_ok-membership.membership; progress = view c.in_ok-progress.progress })
          c.in_ok-membership.ensures.configs c.in_ok-membership.ensures.equal
          (same_configs (view c.args.self.now.progress) (view c.in_ok-progress.progress) c.in_ok-configs.configs g.V.Clone.is_clone
          c.in_ok-progress.ensures.cloned (c.in_ok-configs.ensures.configs ∙ c.in_ok-membership.ensures.configs
          ∙ sym (ready_of g.met.NID.Eq.laws g.NID.Ord.cmp g.met.P.Ord.total g.V.ProgressPart.part_of
          (Coded-set (coded_list (coded_list g.row.NID.coded))) (tracked_view c.args.self.now) c.args.self.now.ready).counts_by.configs))
          ready
          ∣₁;
      sides_fit = c.in_ok-sides.ensures;
    }
