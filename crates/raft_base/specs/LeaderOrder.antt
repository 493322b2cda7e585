-- What the order of leaders must keep if some leaders do not compare.
use Rattle.std.specs.Prelude.{◌≡◌, ◌↔◌, Option, Some, None}
use Rattle.std.specs.declared.cmp.Ordering.{Ordering}
use Rattle.std.specs.declared.cmp.Ordering.TheVariants.{Less}

-- two leaders that do not compare have the same leaders below them and the same leaders above them
abbrev pub IncomparableAlike : {L : Type 0} → (L → L → Option Ordering) → Type 0
IncomparableAlike {L} order = (a b c : L) → order a b ≡ None
    → (order c a ≡ Some Less ↔ order c b ≡ Some Less)
    × (order a c ≡ Some Less ↔ order b c ≡ Some Less)
