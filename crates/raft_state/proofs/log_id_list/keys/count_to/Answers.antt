use Rattle.std.proofs.Common.{◌≡◌, ◌+◌, ◌-◌, ◌<◌, ◌≤◌, ℕ, nat_le, nat_lt, take, drop, get_or, length, length-drop, arith, ◌∙◌}
use Rattle.std.proofs.lemmas.Bool.Decides.{nat_tests}
use Rattle.std.proofs.lemmas.List.{get_or-take, get_or-drop, length-take}
use Rattle.raft_state.proofs.lemmas.log_id_list.FullLogLemmas.{counted_by_place}
use Rattle.raft_state.proofs.log_id_list.keys.count_to.Goals as goal
use Rattle.raft_state.proofs.log_id_list.keys.count_to.Goals.{then-key-index, else-key-index}

-- the position of a key that is not past j is below the count n
below_count : (index j place n : ℕ) → nat_le index j ≡ nat_lt place n → index ≤ j → place < n
below_count index j place n e le = grind (arith, nat_tests)

-- the position of a key that is past j is not below it
past_count : (index j place n : ℕ) → nat_le index j ≡ nat_lt place n → j < index → n ≤ place
past_count index j place n e lt = grind (arith, nat_tests)

pub loop-key-preserved : goal.loop-key-preserved
loop-key-preserved g c =
    let keys = c.args.keys.now in
    let least = c.count_bounds-least.result.0 in
    let count = c.count_bounds-least.result.1 - least in
    let i = c.loop-key.key-index in
    let key = c.key-item.result in
    let len : length (take count (drop least keys)) ≡ _ = length-take count (drop least keys) in
    let rest : length (drop least keys) ≡ _ = length-drop least keys in
    let within = c.loop-key-test.true in
    let so_far : c.loop-key.count ≡ _ = c.loop-key.invariant in
    let is : key ≡ get_or keys (least + i) key =
    c.key-item.is ∙ get_or-take count (drop least keys) i key (omega (arith, len)) ∙ get_or-drop least keys i key in
    let place = rw (← is) at (counted_by_place 0 keys _ c.args.index (least + i) key c.requires (omega (arith, len, rest))) in
    elim c.if-key-index.branch [
      | then-key-index w ↦ (let below = below_count _ _ _ _ place w.if-key-index.true in let new = w.count-is in
          omega (arith, so_far, new, below))
      | else-key-index w ↦ (let past = past_count _ _ _ _ place w.if-key-index.false in let new = w.count-is in
          omega (arith, so_far, new, past))
    ]
