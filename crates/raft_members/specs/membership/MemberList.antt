-- What contracts see of a membership: its two lists.
use Rattle.std.specs.Prelude.{List}

-- the configs, each as its ids in order, and the nodes in the order of their ids
pub record MemberList (K N : Type 0) : Type 0 where
  pub configs : List (List K)
  pub nodes : List (K × N)
