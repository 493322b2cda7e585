-- Relations that a valid value keeps.
use Rattle.std.specs.Prelude.{Bool, List, [], ◌∷◌, Option, Some, None, if◌then◌else◌}

-- the case of the first relation that is false
abbrev pub first_false : {E : Type 0} → List (Bool × E) → Option E
first_false [] = None
first_false (relation ∷ relations) = if relation.0 then first_false relations else Some relation.1
