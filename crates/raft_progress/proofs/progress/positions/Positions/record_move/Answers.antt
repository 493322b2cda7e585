use Rattle.std.proofs.Common.{◌∙◌, ap, sym, map, length, ℕ, List}
use Rattle.std.specs.Map.{lookup, keys_of, values_of}
use Rattle.std.proofs.lemmas.Map.Entries.{length-keys_of}
use Rattle.raft_progress.specs.Inner.Positions.{position_after}
use Rattle.raft_progress.proofs.lemmas.progress.positions.InverseLemmas.{lent_whole, lookup_renumbered}
use Rattle.raft_progress.proofs.progress.positions.Positions.record_move.Goals as goal

pub returns-then-not-self-clause-shifted : goal.returns-then-not-self-clause-shifted
returns-then-not-self-clause-shifted g c _ x =
    let es = c.args.self.now.sorted.items in
    let fs = c.shift_between.new.sorted in
    let same_keys = c.shift_between.ensures.ids ∙ ap (λ (es : List (g.row.ID.Denot × ℕ)). keys_of es) c.deref_mut.ensures.value in
    let values = c.shift_between.ensures.shifted
    ∙ ap (λ (es : List (g.row.ID.Denot × ℕ)). map (position_after c.args.first c.args.last) (values_of es))
    c.deref_mut.ensures.value in
    ap (lookup (g.ID.PartialEq.eq x)) (lent_whole es fs c.args.self.now.sorted.len c.args.self.now.sorted.ok.0
    (sym (length-keys_of fs) ∙ ap length same_keys ∙ length-keys_of es))
    ∙ lookup_renumbered (position_after c.args.first c.args.last) (g.ID.PartialEq.eq x) es fs same_keys values

pub returns-then-not-self-clause-ids : goal.returns-then-not-self-clause-ids
returns-then-not-self-clause-ids g c =
    let es = c.args.self.now.sorted.items in
    let fs = c.shift_between.new.sorted in
    let same_keys = c.shift_between.ensures.ids ∙ ap (λ (es : List (g.row.ID.Denot × ℕ)). keys_of es) c.deref_mut.ensures.value in
    ap (λ (es : List (g.row.ID.Denot × ℕ)). keys_of es)
    (lent_whole es fs c.args.self.now.sorted.len c.args.self.now.sorted.ok.0
    (sym (length-keys_of fs) ∙ ap length same_keys ∙ length-keys_of es))
    ∙ same_keys
