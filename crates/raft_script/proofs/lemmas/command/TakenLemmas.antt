-- Words that are taken one after another.
use Rattle.std.specs.Prelude.{◌≡◌, ◌≢◌, ℕ, Bool, false, List, [], ◌∷◌, codes}
use Rattle.std.specs.Str.{bytes_eq}
use Rattle.std.proofs.Common.{refl, sym, subst, ◌∙◌}
use Rattle.std.proofs.lemmas.Bool.{true≢false}
use Rattle.std.proofs.lemmas.Slice.Eq.{bytes_eq-Decides}
use Rattle.raft_base.specs.declared.node.EmptyNode.{EmptyNode}
use Rattle.raft_members.specs.declared.change_members.ChangeMembers.{ChangeMembers}
use Rattle.raft_progress.specs.declared.tracked.step.Step.TheVariants.{Update, IncreaseTo, Change}
use Rattle.raft_script.specs.Inner.Taken.{Lacks, LacksChange, LacksRetain, Takes, TakesChange, Whatever, left_in}
use Rattle.raft_script.specs.Line.{◌▸◌, End, Is, SpellsNone, kind_word, retain_word, speaks_of}
use Rattle.raft_script.specs.Word.{IsListOf, IsNumberOf}
use Rattle.raft_script.specs.declared.script.command.Words.{Words}
use Rattle.raft_script.specs.declared.script.command.Command.TheVariants.{Init}
use Rattle.raft_script.specs.declared.script.command.Command.TheVariants as command

-- if the other words do not fit
pub others_lack : {Taken : List ℕ → Type 0} {old left : Words} (Fits : List ℕ → Type 0) (Others : List (List ℕ) → Type 0)
    → Takes Taken old left → ¬ (Others (left_in left)) → ¬ ((Fits ▸ Others) (left_in old))
others_lack Fits Others taken lack fit = let opened = subst (Fits ▸ Others) taken.first fit in lack opened.1

-- if the first word does not fit
pub first_lacks : {Looser Fits : List ℕ → Type 0} (weaker : (word : List ℕ) → Fits word → Looser word) (old : List (List ℕ))
    (Others : List (List ℕ) → Type 0) → Lacks Looser old → ¬ ((Fits ▸ Others) old)
first_lacks weaker [] Others lack fit = fit
first_lacks weaker (word ∷ others) Others lack fit = lack (weaker word fit.0, tt)

-- texts that a test distinguishes
apart : (a b : List ℕ) → bytes_eq a b ≡ false → a ≢ b
apart a b other same = true≢false (sym ((bytes_eq-Decides a b).1 same) ∙ other)

-- a change whose arguments do not fit
pub no_change : (left : List (List ℕ)) → ((change : ChangeMembers ℕ EmptyNode) (retain : Bool) (default : ℕ)
    → ¬ ((Is (kind_word change) ▸ IsListOf (speaks_of change) ▸ Is (retain_word retain) ▸ IsNumberOf default ▸ End) left))
    → SpellsNone (codes "change" ∷ left)
no_change left lack (Init default configs learners) said = apart (codes "change") (codes "init") refl said.0
no_change left lack (command.Step (Update id value)) said = apart (codes "change") (codes "update") refl said.0
no_change left lack (command.Step (IncreaseTo id value)) said = apart (codes "change") (codes "increase") refl said.0
no_change left lack (command.Step (Change change retain default)) said = lack change retain default said.1

-- if no kind and ids of a change come first
pub change_lacks : (left : List (List ℕ)) → LacksChange left → SpellsNone (codes "change" ∷ left)
change_lacks left lack = no_change left (λ change retain default. without_others left change
    (Is (retain_word retain) ▸ IsNumberOf default ▸ End) (lack change)) where
      without_others : (old : List (List ℕ)) (change : ChangeMembers ℕ EmptyNode) (Others : List (List ℕ) → Type 0)
          → ¬ ((Is (kind_word change) ▸ IsListOf (speaks_of change) ▸ Whatever) old)
          → ¬ ((Is (kind_word change) ▸ IsListOf (speaks_of change) ▸ Others) old)
      without_others [] change Others none fit = fit
      without_others (word ∷ []) change Others none fit = fit.1
      without_others (word ∷ next ∷ others) change Others none fit = none (fit.0, (fit.1.0, tt))

-- if nothing is said about removed voters
pub retain_lacks : {taken : ChangeMembers ℕ EmptyNode} (old : Words) {left : Words} → TakesChange taken old left
    → LacksRetain (left_in left) → SpellsNone (codes "change" ∷ left_in old)
retain_lacks old {left} takes lack = no_change (left_in old) (λ change retain default.
    others_lack (Is (kind_word change)) _ takes.kind
    (others_lack (IsListOf (speaks_of change)) _ takes.ids
    (first_lacks (λ word fit. fit) (left_in left) (IsNumberOf default ▸ End) (lack retain))))

-- a name of no command
pub no_name : (name : List ℕ) (left : List (List ℕ)) → name ≢ codes "init" → name ≢ codes "update" → name ≢ codes "increase"
    → name ≢ codes "change" → SpellsNone (name ∷ left)
no_name name left init update increase change (Init default configs learners) said = init said.0
no_name name left init update increase change (command.Step (Update id value)) said = update said.0
no_name name left init update increase change (command.Step (IncreaseTo id value)) said = increase said.0
no_name name left init update increase change (command.Step (Change changed retain default)) said = change said.0
