use Rattle.std.proofs.Common.{◌≡◌, ◌+◌, ◌-◌, ◌/◌, ◌<◌, ◌≤◌, ℕ, if◌then◌else◌, nat_lt, length, arith}
use Rattle.std.proofs.Common.{inl, inr}
use Rattle.std.proofs.lemmas.Bool.{cases_lt}
use Rattle.std.proofs.lemmas.Bool.Decides.{nat_tests}
use Rattle.raft_state.specs.Inner.KeyList.{keys_to}
use Rattle.raft_state.proofs.lemmas.log_id_list.FullLogLemmas.{counts_within, counted_by_place}
use Rattle.raft_state.proofs.log_id_list.keys.count_bounds.Goals as goal

pub loop-size-init : goal.loop-size-init
loop-size-init g c = let h = counts_within c.args.keys.now c.args.index in (omega arith, omega arith, omega arith)

-- of what is open of a count n of l keys, half goes by the key in the middle
halved : (least size n l back : ℕ) → 8 < size → least ≤ n → n ≤ least + size → least + size ≤ l
    → back ≡ (if nat_lt (least + size / 2) n then 0 else size / 2)
    → (least + size / 2 - back ≤ n) × (n ≤ least + size / 2 - back + (size - size / 2)) × (least + size / 2 - back + (size - size / 2) ≤ l)
halved least size n l back s at_least at_most within e = elim (cases_lt (least + size / 2) n) [
  | inl below ↦ (let o : back ≡ 0 = grind (arith, nat_tests) in rw o (omega arith, omega arith, omega arith))
  | inr past ↦ (let o : back ≡ size / 2 = grind (arith, nat_tests) in rw o (omega arith, omega arith, omega arith))
]

pub loop-size-preserved : goal.loop-size-preserved
loop-size-preserved g c =
    let place = counted_by_place 0 c.args.keys.now _ c.args.index (c.loop-size.least + c.loop-size.size / 2) c.index-keys-middle.result
    c.requires (omega arith) in
    halved _ _ (keys_to c.args.keys.now c.args.index) (length c.args.keys.now) _ c.loop-size-test.true c.loop-size.invariant.0
    c.loop-size.invariant.1 c.loop-size.invariant.2 (rw (← place) c.half_if_past.ensures)
