-- Configs as sets.
use Rattle.std.specs.Prelude.{List, map}
use Rattle.std.specs.BTreeSet.{BTreeSet}

-- the ids of each config, in order
abbrev pub ids_of_configs : {K : Type 0} → List (BTreeSet K) → List (List K)
ids_of_configs configs = map (λ c. c.keys) configs
