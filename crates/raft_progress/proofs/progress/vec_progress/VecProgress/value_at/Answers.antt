use Rattle.std.proofs.Common.{Some, sym, ap, ◌∙◌}
use Rattle.raft_progress.proofs.lemmas.progress.entries.EntriesLemmas.{lookup_found, lookup_absent}
use Rattle.raft_progress.proofs.progress.vec_progress.VecProgress.value_at.Goals as goal

pub returns-in-Some : goal.returns-in-Some
returns-in-Some g c = λ id is.
    ap (λ (e : g.row.ID.Denot × g.row.V.Denot). Some e.1) c.index.ensures
    ∙ sym (lookup_found (g.ID.PartialEq.eq id) c.args.self.now.entries.items c.in-Some.position c.index.result.now (sym is ∙ c.in-Some.is))

pub returns-in-None : goal.returns-in-None
returns-in-None g c = λ id is. sym (lookup_absent (g.ID.PartialEq.eq id) c.args.self.now.entries.items (sym is ∙ c.in-None.is))
