use Rattle.std.proofs.Common.{rules, sym, ap, ◌∙◌, ◌<◌, get_or, length, subst, Some, List, ℕ}
use Rattle.std.proofs.lemmas.Fn.{always_returns_same}
use Rattle.raft_progress.proofs.lemmas.progress.positions.LookupLemmas.{found_at, searchable, unfound_between}
use Rattle.raft_progress.proofs.progress.positions.Positions.find_among_many.Goals as goal

pub returns-in-Ok : goal.returns-in-Ok
returns-in-Ok g c =
    let es = c.args.self.now.sorted.items in
    let id = c.args.id.now in
    let rank = c.in-Ok.rank in
    let d = c.index.result.now in
    let at = c.in-Ok.ensures.position (λ e. g.ID.Ord.cmp e.0 id) (always_returns_same _ _ _ (λ a r q k. search rules)) in
    let l = subst (λ (xs : List (g.row.ID.Denot × ℕ)). rank < length xs) c.deref.ensures.value c.in-Ok.ensures.bound in
    let h = ap (λ (xs : List (g.row.ID.Denot × ℕ)). g.ID.Ord.cmp (get_or xs rank d).0 id) (sym c.deref.ensures.value) ∙ at d in
    ap (λ (e : g.row.ID.Denot × ℕ). Some e.1) c.index.ensures
    ∙ sym (found_at g.met.ID.Eq.laws g.met.ID.Ord.total g.met.ID.Ord.matches_eq es c.args.self.now.ascending id rank d l h)

pub returns-in-Err : goal.returns-in-Err
returns-in-Err g c =
    let es = c.args.self.now.sorted.items in
    let id = c.args.id.now in
    let at = c.in-Err.ensures.position (λ e. g.ID.Ord.cmp e.0 id) (always_returns_same _ _ _ (λ a r q k. search rules)) in
    let up = searchable g.met.ID.Eq.laws g.met.ID.Ord.total g.met.ID.Ord.matches_eq es c.args.self.now.ascending id in
    sym (unfound_between g.met.ID.Eq.laws g.met.ID.Ord.total g.met.ID.Ord.matches_eq es c.args.self.now.ascending id c.in-Err.field-0
    (rw c.deref.ensures.value at at up))
