use Rattle.std.proofs.Common.{arith, refl, ◌≡◌}
use Rattle.raft_progress.proofs.lemmas.progress.CloneLemmas.{zip_step}
use Rattle.raft_progress.proofs.progress.entries.clone_entries.Goals as goal

pub loop-entry-preserved : goal.loop-entry-preserved
loop-entry-preserved g c =
    zip_step (λ (d e : g.row.ID.Denot × g.row.V.Denot). (e.0 ≡ d.0) × g.V.Clone.is_clone d.1 e.1) c.args.entries.now
    c.loop-entry.entry-index c.entry-item.result c.loop-entry.made.items c.push.new.self.items _ (omega arith) c.entry-item.is
    c.loop-entry.invariant c.in_ok-push.ensures.items (refl, c.in_ok-clone.ensures.cases)
