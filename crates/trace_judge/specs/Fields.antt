-- The fields of a line, which is a JSON object.
use Rattle.std.specs.Prelude.{◌≡◌, ◌⊎◌, ◌+◌, ℕ, List, [], ◌∷◌, Option, Some, None, codes, option_and_then}
use Rattle.std.specs.Global.{Vec}
use Rattle.serde_json.specs.Data.{Data, Items, no_items, item}
use Rattle.serde_json.specs.Find.{as_array, as_number, as_str, as_u64, at, get}
use Rattle.safety_laws.specs.Log.{Entry}
use Rattle.safety_laws.specs.declared.counting.ConfigsCount.{ConfigsCount}
use Rattle.safety_laws.specs.declared.counting.ConfigsCount.TheVariants.{WhenAppended, WhenApplied}
use Rattle.trace_judge.specs.Names.{HasNumber, Numbering}

-- a field that is a number
abbrev pub number_in : List ℕ → Data → Option ℕ
number_in name d = option_and_then as_u64 (option_and_then as_number (get name d))

-- an item of a list that is a number
abbrev pub number_at : ℕ → Data → Option ℕ
number_at i d = option_and_then as_u64 (option_and_then as_number (at i d))

-- a field that is a text
abbrev pub text_in : List ℕ → Data → Option (List ℕ)
text_in name d = option_and_then as_str (get name d)

-- a field that is a list
abbrev pub list_in : List ℕ → Data → Option Items
list_in name d = option_and_then as_array (get name d)

-- a field is the name that has this number
abbrev pub IsId : Numbering → List ℕ → ℕ → Data → Type 0
IsId number_of name n d = (v : Data) × (get name d ≡ Some v) × HasNumber number_of v n

-- the name of the event
abbrev pub IsNamed : List ℕ → Data → Type 0
IsNamed name d = text_in (codes "event") d ≡ Some name

-- the last of so many entries has the index that a field has. The first entry has this index
pub record IsLen (name : List ℕ) (first n : ℕ) (d : Data) : Type 0 where
  pub index : ℕ
  pub is : number_in name d ≡ Some index
  pub counts : n + first ≡ index + 1

-- the index of the first entry, which is 1 if the line does not say it
abbrev pub IsFirst : ℕ → Data → Type 0
IsFirst first d = ((get (codes "first") d ≡ None) × (first ≡ 1)) ⊎ (number_in (codes "first") d ≡ Some first)

-- when configs count, which is from their append on if the line does not say it
abbrev pub IsCounting : ConfigsCount → Data → Type 0
IsCounting WhenAppended d =
    (get (codes "configs") d ≡ None) ⊎ (text_in (codes "configs") d ≡ Some (codes "appended"))
IsCounting WhenApplied d = text_in (codes "configs") d ≡ Some (codes "applied")

-- each item of a list says one of these values
abbrev pub SayEach : {A : Type 0} → (Data → A → Type 0) → Items → List A → Type 0
SayEach P no_items [] = Unit {0}
SayEach P no_items (x ∷ xs) = ⊥
SayEach P (item d ds) [] = ⊥
SayEach P (item d ds) (x ∷ xs) = P d x × SayEach P ds xs

module _ (number_of : Numbering) where
  -- a list of voters
  abbrev pub IsConfig : Data → Vec ℕ → Type 0
  IsConfig d v = (ds : Items) × (as_array d ≡ Some ds) × SayEach (HasNumber number_of) ds v.items

  -- an entry, which is a list of its term and its content
  abbrev pub IsEntry : Data → Entry ℕ ℕ → Type 0
  IsEntry d e =
      (number_at 0 d ≡ Some e.term) × ((v : Data) × (at 1 d ≡ Some v) × HasNumber number_of v e.content)

  -- the configs of a line
  abbrev pub HasConfigs : Data → List (Vec ℕ) → Type 0
  HasConfigs d configs =
      (ds : Items) × (list_in (codes "voters") d ≡ Some ds) × SayEach IsConfig ds configs

  -- the entries of a line
  abbrev pub HasEntries : Data → List (Entry ℕ ℕ) → Type 0
  HasEntries d es = (ds : Items) × (list_in (codes "entries") d ≡ Some ds) × SayEach IsEntry ds es
