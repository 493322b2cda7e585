use Rattle.std.proofs.Common.{◌≡◌, ◌+◌, ◌-◌, ◌/◌, ◌%◌, ◌^◌, ◌<◌, ℕ, if◌then◌else◌, nat_le, true, false, inl, inr, arith, ◌∙◌}
use Rattle.std.proofs.lemmas.Bool.{cases_lt}
use Rattle.std.proofs.lemmas.Bool.Decides.{nat_tests}
use Rattle.std.proofs.lemmas.Nat.{and_mask}
use Rattle.std.specs.Int.Bits.{and_zero_r, bit_and}
use Rattle.raft_state.proofs.log_id_list.keys.half_if_past.Goals as goal

-- the upper half of a difference of two 64-bit numbers at 128 bits is all ones if the difference is
-- negative
masked : (half key index : ℕ) → half < 2 ^ 64 → key < 2 ^ 64 → index < 2 ^ 64
    → bit_and half ((index + (2 ^ 128 - key)) % 2 ^ 128 / 2 ^ 64) ≡ (if nat_le key index then 0 else half)
masked half key index h k i = elim (cases_lt index key) [
  | inl past ↦ (
      let test : nat_le key index ≡ false = grind (arith, nat_tests) in
      let ones : (index + (2 ^ 128 - key)) % 2 ^ 128 / 2 ^ 64 ≡ 2 ^ 64 - 1 = omega arith in
      let mask = and_mask half 64 in
      rw (test, ones) (mask ∙ omega arith))
  | inr reached ↦ (
      let test : nat_le key index ≡ true = grind (arith, nat_tests) in
      let zeros : (index + (2 ^ 128 - key)) % 2 ^ 128 / 2 ^ 64 ≡ 0 = omega arith in
      rw (test, zeros) (and_zero_r half))
]

pub returns : goal.returns
returns c = masked c.args.half c.args.key c.args.index c.ranges.half.fits c.ranges.key.fits c.ranges.index.fits
