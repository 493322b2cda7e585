-- What follows for leaders that do not compare.
use Rattle.std.specs.Prelude.{◌≡◌, Bool, Option, Some, None}
use Rattle.std.specs.Cmp.{IsPartialOrder}
use Rattle.std.specs.Option.{option_map}
use Rattle.std.specs.Ordering.{ordering_reverse}
use Rattle.std.specs.declared.cmp.Ordering.{Ordering}
use Rattle.std.specs.declared.cmp.Ordering.TheVariants.{Less}
use Rattle.raft_base.specs.LeaderOrder.{IncomparableAlike}

none_reversed : (p q : Option Ordering) → p ≡ option_map ordering_reverse q → q ≡ None → p ≡ None
none_reversed p None e h = e
none_reversed p (Some o) e h = cc

module _ {L : Type 0} {same : L → L → Bool} {order : L → L → Option Ordering}
    (o : IsPartialOrder same order) where
  -- if two leaders do not compare, neither do they the other way round
  pub apart_back : (a b : L) → order a b ≡ None → order b a ≡ None
  apart_back a b h = none_reversed (order b a) (order a b) (o.antisymm b a) h

  -- it is enough that what is below the first is below the second, and that what is above the first
  -- is above the second
  pub alike_if : ((a b c : L) → order a b ≡ None → (order c a ≡ Some Less → order c b ≡ Some Less)
      × (order a c ≡ Some Less → order b c ≡ Some Less))
      → IncomparableAlike order
  alike_if one_way a b c h = (
    ((one_way a b c h).0, (one_way b a c (apart_back a b h)).0),
    ((one_way a b c h).1, (one_way b a c (apart_back a b h)).1),
  )
