use Rattle.std.proofs.Common.{refl, rules}
use Rattle.raft_progress.specs.progress.Updated.{IsGreaterOf}
use Rattle.raft_progress.specs.progress.VecProgress.{view}
use Rattle.raft_progress.proofs.lemmas.progress.upgrade.FoldLemmas.{updated_weaker}
use Rattle.raft_progress.proofs.progress.vec_progress.VecProgressProgress.increase_to.Goals as goal

pub returns : goal.returns
returns g c =
    let h = c.update_with.follows.holds-at-none in (
      (
        refl,
        (λ _. tt),
        record {
          updated = updated_weaker g.ID.PartialEq.eq g.P.Ord.cmp g.V.ProgressPart.part_of _
              (IsGreaterOf g.V.PartialOrd.partial_cmp c.args.value) (λ v w left. search rules) (view c.args.self.now) c.args.id.now
              (view c.update_with.follows.lender-at-none) h.updated;
          ordered = h.ordered;
          granted = h.granted;
          known = h.known;
        },
      ),
      record { after = tt },
    )
