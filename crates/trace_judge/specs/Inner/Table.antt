-- The table of the numbers that stand for names.
use Rattle.std.specs.Prelude.{◌≡◌, ◌^◌, ◌<◌, ℕ, Some, nat_eq, nat_lt, if◌then◌else◌}
use Rattle.std.specs.HashMap.{get, get_by_text}
use Rattle.trace_judge.specs.Names.{AreApart, Name, Number, Numbering, Text}
use Rattle.trace_judge.specs.declared.names.Names.{Names}

-- names keep their numbers
abbrev pub Extends : Numbering → Numbering → Type 0
Extends old new = (a : Name) (n : ℕ) → old a ≡ Some n → new a ≡ Some n

-- a number below 2^63 stands for itself, and a table has the numbers of the other names
abbrev pub numbering : Names → Numbering
numbering names (Number n) = if nat_lt n (2 ^ 63) then Some n else get nat_eq names.large n
numbering names (Text s) = get_by_text names.texts s

-- the next number is above all numbers of names, and different names have different numbers
pub record IsTable (names : Names) : Type 0 where
  pub below : (a : Name) (n : ℕ) → numbering names a ≡ Some n → n < names.next
  pub apart : AreApart (numbering names)

-- more names have numbers
abbrev pub Learns : Names → Names → Type 0
Learns old new = Extends (numbering old) (numbering new) × (IsTable old → IsTable new)
