-- The names of servers and of contents, and the numbers that stand for them in a trace.
use Rattle.std.specs.Prelude.{◌≡◌, ℕ, List, Option, Some, option_and_then}
use Rattle.serde_json.specs.Data.{Data}
use Rattle.serde_json.specs.Find.{as_number, as_str, as_u64}

-- a name is a number or a text. A number and the text of its digits are two names
pub data Name : Type 0 where
  Number : ℕ → Name
  Text : List ℕ → Name

-- a value is this name
abbrev pub IsName : Name → Data → Type 0
IsName (Number n) d = option_and_then as_u64 (as_number d) ≡ Some n
IsName (Text s) d = as_str d ≡ Some s

-- the number of each name that has one
abbrev pub Numbering : Type 0
Numbering = Name → Option ℕ

-- different names have different numbers
abbrev pub AreApart : Numbering → Type 0
AreApart number_of = (a b : Name) (n : ℕ) → number_of a ≡ Some n → number_of b ≡ Some n → a ≡ b

-- a value is the name that has this number
abbrev pub HasNumber : Numbering → Data → ℕ → Type 0
HasNumber number_of d n = (a : Name) × IsName a d × (number_of a ≡ Some n)
