-- What a word says.
use Rattle.std.specs.Prelude.{◌≡◌, ◌==◌, ◌<◌, ◌^◌, ℕ, Bool, List, [], if◌then◌else◌, codes, nat_eq}
use Rattle.std.specs.BTreeSet.{BTreeSet, contains}
use Rattle.std.specs.List.{All, AllZip, list_any, slice_split}
use Rattle.std.specs.Ordering.{nat_cmp}
use Rattle.std.specs.Str.Parse.{IsNumeral, digits_value}
use Rattle.std.specs.Cmp.Lexicographic.{pointwise}

-- decimal digits, whose value fits in 64 bits
abbrev pub IsNumber : List ℕ → Type 0
IsNumber word = IsNumeral 10 word × (digits_value 10 word < 2 ^ 64)

-- the word is this number
abbrev pub IsNumberOf : ℕ → List ℕ → Type 0
IsNumberOf n word = IsNumber word × (n ≡ digits_value 10 word)

-- the parts of a list: none of `-`, and of any other word those between its commas
abbrev pub parts : List ℕ → List (List ℕ)
parts word = if pointwise nat_eq word (codes "-") then [] else slice_split (λ byte. byte == 44) word

-- each part is a number
abbrev pub IsList : List ℕ → Type 0
IsList word = All IsNumber (parts word)

-- whether a number is in a list
abbrev pub stands_in : List ℕ → ℕ → Bool
stands_in word n = list_any (λ part. digits_value 10 part == n) (parts word)

-- a set has exactly the numbers of a list
abbrev pub HasNumbersOf : BTreeSet ℕ → List ℕ → Type 0
HasNumbersOf set word = (n : ℕ) → contains nat_cmp set n ≡ stands_in word n

-- the word is a list of exactly these numbers
abbrev pub IsListOf : (ℕ → Bool) → List ℕ → Type 0
IsListOf has word = IsList word × ((n : ℕ) → has n ≡ stands_in word n)

-- the lists of configs: none of `none`, and of any other word those between its slashes
abbrev pub lists : List ℕ → List (List ℕ)
lists word =
    if pointwise nat_eq word (codes "none") then [] else slice_split (λ byte. byte == 47) word

-- each part between the slashes is a list
abbrev pub IsConfigs : List ℕ → Type 0
IsConfigs word = All IsList (lists word)

-- the sets are the configs of a word, list by list
abbrev pub HasConfigsOf : List (BTreeSet ℕ) → List ℕ → Type 0
HasConfigsOf sets word = AllZip HasNumbersOf sets (lists word)

-- the word is these configs
abbrev pub IsConfigsOf : List (BTreeSet ℕ) → List ℕ → Type 0
IsConfigsOf sets word = IsConfigs word × HasConfigsOf sets word
