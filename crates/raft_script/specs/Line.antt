-- What a line says.
use Rattle.std.specs.Prelude.{◌≡◌, ◌≢◌, ◌==◌, ℕ, Bool, true, false, List, [], ◌∷◌, filter, codes, if◌then◌else◌, is_some}
use Rattle.std.specs.BTreeMap.{get}
use Rattle.std.specs.BTreeSet.{contains}
use Rattle.std.specs.List.{slice_split}
use Rattle.std.specs.Ordering.{nat_cmp}
use Rattle.raft_base.specs.declared.node.EmptyNode.{EmptyNode}
use Rattle.raft_members.specs.declared.change_members.ChangeMembers.{ChangeMembers}
use Rattle.raft_members.specs.declared.change_members.ChangeMembers.TheVariants.{AddVoterIds, AddVoters, RemoveVoters, ReplaceAllVoters, AddNodes, SetNodes, RemoveNodes, ReplaceAllNodes}
use Rattle.raft_progress.specs.declared.tracked.step.Step.TheVariants.{Update, IncreaseTo, Change}
use Rattle.raft_script.specs.Word.{IsConfigsOf, IsListOf, IsNumberOf}
use Rattle.raft_script.specs.declared.script.command.Command.{Command}
use Rattle.raft_script.specs.declared.script.command.Command.TheVariants.{Init}
use Rattle.raft_script.specs.declared.script.command.Command.TheVariants as command

-- whether there is a byte
abbrev pub has_bytes : List ℕ → Bool
has_bytes [] = false
has_bytes (byte ∷ bytes) = true

-- the words of a line: the parts between its spaces
abbrev pub words : List ℕ → List (List ℕ)
words line = filter has_bytes (slice_split (λ byte. byte == 32) line)

-- this word
abbrev pub Is : List ℕ → List ℕ → Type 0
Is text word = word ≡ text

infixr 60 ◌▸◌
-- first a word that fits, and then other words that do
abbrev pub ◌▸◌ : (List ℕ → Type 0) → (List (List ℕ) → Type 0) → List (List ℕ) → Type 0
(First ▸ Others) [] = ⊥
(First ▸ Others) (word ∷ others) = First word × Others others

-- no more words
abbrev pub End : List (List ℕ) → Type 0
End others = others ≡ []

-- the word of a kind of change
abbrev pub kind_word : ChangeMembers ℕ EmptyNode → List ℕ
kind_word (AddVoterIds ids) = codes "add-ids"
kind_word (AddVoters nodes) = codes "add"
kind_word (RemoveVoters ids) = codes "remove"
kind_word (ReplaceAllVoters ids) = codes "replace"
kind_word (AddNodes nodes) = codes "add-nodes"
kind_word (SetNodes nodes) = codes "set-nodes"
kind_word (RemoveNodes ids) = codes "remove-nodes"
kind_word (ReplaceAllNodes nodes) = codes "replace-nodes"

-- whether a change has an id
abbrev pub speaks_of : ChangeMembers ℕ EmptyNode → ℕ → Bool
speaks_of (AddVoterIds ids) id = contains nat_cmp ids id
speaks_of (AddVoters nodes) id = is_some (get nat_cmp nodes id)
speaks_of (RemoveVoters ids) id = contains nat_cmp ids id
speaks_of (ReplaceAllVoters ids) id = contains nat_cmp ids id
speaks_of (AddNodes nodes) id = is_some (get nat_cmp nodes id)
speaks_of (SetNodes nodes) id = is_some (get nat_cmp nodes id)
speaks_of (RemoveNodes ids) id = contains nat_cmp ids id
speaks_of (ReplaceAllNodes nodes) id = is_some (get nat_cmp nodes id)

-- the word that says whether removed voters stay as learners
abbrev pub retain_word : Bool → List ℕ
retain_word retain = if retain then codes "retain" else codes "drop"

-- the words of a command: its name, its arguments, and no more
abbrev pub Spells : Command → List (List ℕ) → Type 0
Spells (Init default configs learners) =
    Is (codes "init") ▸ IsNumberOf default ▸ IsConfigsOf configs.items
    ▸ IsListOf (contains nat_cmp learners) ▸ End
Spells (command.Step (Update id value)) =
    Is (codes "update") ▸ IsNumberOf id ▸ IsNumberOf value ▸ End
Spells (command.Step (IncreaseTo id value)) =
    Is (codes "increase") ▸ IsNumberOf id ▸ IsNumberOf value ▸ End
Spells (command.Step (Change change retain default)) =
    Is (codes "change") ▸ Is (kind_word change) ▸ IsListOf (speaks_of change)
    ▸ Is (retain_word retain) ▸ IsNumberOf default ▸ End

-- the words of no command
abbrev pub SpellsNone : List (List ℕ) → Type 0
SpellsNone said = (other : Command) → ¬ Spells other said

-- a line without words says nothing
abbrev pub SaysNothing : List ℕ → Type 0
SaysNothing line = words line ≡ []

-- a line says a command by its words
abbrev pub SaysCommand : List ℕ → Command → Type 0
SaysCommand line said = Spells said (words line)

-- any other line is a bad one
abbrev pub IsBadLine : List ℕ → Type 0
IsBadLine line = (words line ≢ []) × SpellsNone (words line)
