use Rattle.std.proofs.Common.{arith, rules, sym, ap, ◌∙◌, ◌≡◌, ◌++◌, ◌∷◌, [], ℕ, List, length, take, get_or}
use Rattle.std.specs.List.{range_with_len}
use Rattle.std.specs.Map.{keys_of, values_of}
use Rattle.std.proofs.lemmas.Fn.{always_returns_same}
use Rattle.std.proofs.lemmas.List.{map-append, take_all, take_more}
use Rattle.std.proofs.lemmas.Map.Entries.{length-keys_of}
use Rattle.raft_progress.proofs.lemmas.progress.positions.LookupLemmas.{key_at}
use Rattle.raft_progress.proofs.lemmas.progress.positions.MadeLemmas.{ascending_from_sorted, distinct_moved, found_moved, length_moved, positions_moved, range_more}
use Rattle.raft_progress.proofs.progress.positions.sorted_ids.Goals as goal

pub loop-position-preserved : goal.loop-position-preserved
loop-position-preserved g c =
    let entries = c.args.entries.now in
    let position = c.loop-position.position in
    let old = c.loop-position.sorted.items in
    let id = (get_or entries position c.index-entries-position.result).0 in
    let is = key_at entries position c.index-entries-position.result id c.loop-position-test.true in
    record {
      ids =
          ap (λ (es : List (g.row.ID.Denot × ℕ)). keys_of es) c.in_ok-push.ensures.items
          ∙ map-append (λ (e : g.row.ID.Denot × ℕ). e.0) old ((id, position) ∷ [])
          ∙ ap (λ ks. ks ++ id ∷ []) c.loop-position.invariant.ids ∙ ap (λ k. take position (keys_of entries) ++ k ∷ []) is
          ∙ sym (take_more (keys_of entries) position id (rw (length-keys_of entries) c.loop-position-test.true));
      positions =
          ap (λ (es : List (g.row.ID.Denot × ℕ)). values_of es) c.in_ok-push.ensures.items
          ∙ map-append (λ (e : g.row.ID.Denot × ℕ). e.1) old ((id, position) ∷ [])
          ∙ ap (λ ps. ps ++ position ∷ []) c.loop-position.invariant.positions ∙ sym (range_more position);
    }

pub returns : goal.returns
returns g c =
    let entries = c.args.entries.now in
    let made = c.loop-position.sorted.items in
    let es = c.sort_unstable_by_key.new.self.items in
    let ids = c.loop-position.invariant.ids ∙ take_all c.loop-position.position (keys_of entries)
    (rw (length-keys_of entries) c.loop-position-test.false) in
    let same : c.loop-position.position ≡ length (keys_of entries) = omega (arith, length-keys_of entries) in
    let positions = c.loop-position.invariant.positions ∙ ap (range_with_len 0) same in
    let moved = c.sort_unstable_by_key.ensures.permutation in
    let distinct = distinct_moved g.met.ID.Eq.laws g.met.ID.Ord.total g.met.ID.Ord.matches_eq
    (keys_of entries) made es c.requires ids positions
    moved in
    record {
      ascending = ascending_from_sorted g.met.ID.Eq.laws g.met.ID.Ord.total g.met.ID.Ord.matches_eq es distinct
          (c.sort_unstable_by_key.ensures.sorted (λ e. e.0) (always_returns_same _ _ _ (λ a r q k. search rules)));
      at_positions = found_moved g.met.ID.Eq.laws g.met.ID.Ord.total g.met.ID.Ord.matches_eq
          (keys_of entries) made es c.requires ids positions moved;
      positions = positions_moved g.met.ID.Eq.laws g.met.ID.Ord.total g.met.ID.Ord.matches_eq
          (keys_of entries) made es c.requires ids positions moved;
      one_length = length_moved g.met.ID.Eq.laws g.met.ID.Ord.total g.met.ID.Ord.matches_eq
          (keys_of entries) made es c.requires ids positions
          moved
          ∙ length-keys_of entries;
    }
