use Rattle.std.proofs.Common.{sym, ap, ◌∙◌, ◌≤◌, refl, Some, set, List, subst}
use Rattle.std.proofs.Math.ListN.{length-set}
use Rattle.std.specs.Map.{keys_of}
use Rattle.raft_progress.proofs.lemmas.progress.positions.PositionsLemmas.{keys_rewritten}
use Rattle.raft_progress.proofs.lemmas.progress.entries.EntriesLemmas.{lookup_found, lookup_absent, set_found}
use Rattle.raft_progress.specs.progress.VecProgress.{view}
use Rattle.raft_progress.proofs.progress.vec_progress.VecProgressProgress.get_mut.Goals as goal

pub returns-in-Some : goal.returns-in-Some
returns-in-Some g c =
    let is = c.index_mut.ensures.value in
    let at = sym c.in-Some.ensures in (
      (
        refl,
        (λ w. ap (λ (es : List (g.row.ID.Denot × g.row.V.Denot)). record (view c.args.self.now) { entries = es })
            (ap (λ (e : g.row.ID.Denot × g.row.V.Denot). set c.args.self.now.entries.items c.in-Some.position (e.0, w)) is
            ∙ set_found (g.ID.PartialEq.eq c.args.id.now) c.args.self.now.entries.items c.in-Some.position c.index_mut.result.now
            w at)),
        refl,
      ),
      record {
        writes_back = tt;
        value = ap (λ (e : g.row.ID.Denot × g.row.V.Denot). Some e.1) is
            ∙ sym (lookup_found (g.ID.PartialEq.eq c.args.id.now) c.args.self.now.entries.items c.in-Some.position c.index_mut.result.now
            at);
      },
    )

pub returns-in-None : goal.returns-in-None
returns-in-None g c = (
  (refl, (λ w. tt), refl),
  record {
    writes_back = tt;
    value = sym (lookup_absent (g.ID.PartialEq.eq c.args.id.now) c.args.self.now.entries.items
        (sym c.in-None.ensures));
  },
)

pub invariant_of-self-lent : goal.invariant_of-self-lent
invariant_of-self-lent g c = λ w.
    let is = c.index_mut.ensures.value in
    let same = ap (λ (e : g.row.ID.Denot × g.row.V.Denot). keys_of (set c.args.self.now.entries.items c.in-Some.position (e.0, w))) is
    ∙ keys_rewritten c.args.self.now.entries.items c.in-Some.position c.index_mut.result.now w in (
      subst (λ n. c.args.self.now.voter_count ≤ n)
          (sym (length-set c.args.self.now.entries.items c.in-Some.position (c.index_mut.result.now.0, w))) c.args.self.now.voters_fit,
      (c.args.self.now.scratch_fits, ((λ fresh. rw same (c.args.self.now.agree fresh)), tt)),
    )
