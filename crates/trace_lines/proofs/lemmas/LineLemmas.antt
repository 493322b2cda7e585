-- A line that is read up to its line feed.
use Rattle.std.specs.Prelude.{◌≡◌, ◌==◌, ℕ, Bool, true, false, cond, not, List, [], ◌∷◌, ◌++◌, Option, Some, None, IfSome, ◌⊎◌, length, is_some}
use Rattle.std.specs.Bool.{then_some}
use Rattle.std.specs.Borrow.{MutBor}
use Rattle.std.specs.Fn.{FnOnceReturnsAtMut, Once}
use Rattle.std.specs.List.{All}
use Rattle.std.specs.List.Retain.{PopsIf}
use Rattle.std.specs.Io.BufRead.{take_through, drop_through, DropsThrough}
use Rattle.std.proofs.Common.{arith, refl, sym, subst, ap, ◌∙◌, inl, inr, length-append}
use Rattle.std.proofs.lemmas.Bool.{eqb-true}
use Rattle.std.proofs.lemmas.List.{same_from_push}
use Rattle.std.proofs.lemmas.List.Elements.{All-cons, All-pop}
use Rattle.std.proofs.lemmas.List.Splits.{slice_split_at, slice_split_none}
use Rattle.trace_lines.specs.Lines.{TakesLine, lines}

-- no line feed
abbrev Plain : List ℕ → Type 0
Plain text = All (λ byte. (byte == 10) ≡ false) text

-- all is taken, if there is no line feed
abbrev IsWhole : List ℕ → List ℕ → List ℕ → Type 0
IsWhole text read rest = Plain text × (read ≡ text) × (rest ≡ [])

-- a line is taken, with its line feed
abbrev IsCut : List ℕ → List ℕ → List ℕ → Type 0
IsCut text read rest = (front : List ℕ) × Plain front × (text ≡ front ++ 10 ∷ rest) × (read ≡ front ++ 10 ∷ [])

-- one more byte at the beginning
longer : (x : ℕ) (xs read rest : List ℕ) → (x == 10) ≡ false → IsWhole xs read rest ⊎ IsCut xs read rest
    → IsWhole (x ∷ xs) (x ∷ read) rest ⊎ IsCut (x ∷ xs) (x ∷ read) rest
longer x xs read rest other (inl (plain, all, none)) =
    inl (All-cons (λ byte. (byte == 10) ≡ false) x xs other plain, ap (λ l. x ∷ l) all, none)
longer x xs read rest other (inr (front, plain, text, taken)) =
    inr (x ∷ front, All-cons (λ byte. (byte == 10) ≡ false) x front other plain, ap (λ l. x ∷ l) text, ap (λ l. x ∷ l) taken)

cut_by : (x : ℕ) (xs : List ℕ) (b : Bool) → (x == 10) ≡ b
    → IsWhole xs (take_through 10 xs) (drop_through 10 xs) ⊎ IsCut xs (take_through 10 xs) (drop_through 10 xs)
    → IsWhole (x ∷ xs) (cond b (x ∷ []) (x ∷ take_through 10 xs)) (cond b xs (drop_through 10 xs))
    ⊎ IsCut (x ∷ xs) (cond b (x ∷ []) (x ∷ take_through 10 xs)) (cond b xs (drop_through 10 xs))
cut_by x xs true is next = inr (
  [],
  (λ k d l. absurd (omega arith)),
  ap (λ y. y ∷ xs) (eqb-true x 10 is),
  ap (λ y. y ∷ [])
      (eqb-true x 10 is),
)
cut_by x xs false is next = longer x xs (take_through 10 xs) (drop_through 10 xs) is next

cut : (text : List ℕ) → IsWhole text (take_through 10 text) (drop_through 10 text)
    ⊎ IsCut text (take_through 10 text) (drop_through 10 text)
cut [] = inl ((λ k d l. absurd (omega arith)), refl, refl)
cut (x ∷ xs) = cut_by x xs (x == 10) refl (cut xs)

-- what a line is after its line feed is removed, and whether there was none
abbrev pub IsTrimmed : List ℕ → List ℕ → Bool → Type 0
IsTrimmed read line is_last =
    ((read ≡ []) × (line ≡ []) × (is_last ≡ true))
    ⊎ ((xs : List ℕ) × (x : ℕ) × (read ≡ xs ++ x ∷ []) × (line ≡ cond (x == 10) xs (xs ++ x ∷ [])) × (is_last ≡ not (x == 10)))

-- a last line
whole_line : (text read line : List ℕ) (is_last : Bool) → Plain text → read ≡ text → IsTrimmed read line is_last
    → (line ≡ text) × (is_last ≡ true)
whole_line text read line is_last plain all (inl (none, empty, last)) = (empty ∙ sym none ∙ all, last)
whole_line text read line is_last plain all (inr (xs, x, split, is, last)) =
    let other : (x == 10) ≡ false = (All-pop (λ byte. (byte == 10) ≡ false) text xs (Some x) (sym all ∙ split) plain).1 in
    (is ∙ ap (λ b. cond b xs (xs ++ x ∷ [])) other ∙ sym split ∙ all, last ∙ ap not other)

-- a line before others
cut_line : (front read line : List ℕ) (is_last : Bool) → read ≡ front ++ 10 ∷ [] → IsTrimmed read line is_last
    → (line ≡ front) × (is_last ≡ false)
cut_line front read line is_last taken (inl (none, empty, last)) =
    absurd (omega (arith, ap length (sym taken ∙ none), length-append front (10 ∷ [])))
cut_line front read line is_last taken (inr (xs, x, split, is, last)) =
    let same = same_from_push xs front x 10 (sym split ∙ taken) in
    let feed : (x == 10) ≡ true = ap (λ y. y == 10) same.1 in
    (is ∙ ap (λ b. cond b xs (xs ++ x ∷ [])) feed ∙ same.0, last ∙ ap not feed)

takes_known : (text read line : List ℕ) (is_last : Bool) (rest : List ℕ) → IsWhole text read rest ⊎ IsCut text read rest
    → IsTrimmed read line is_last → TakesLine (Some text) line is_last (Some rest)
takes_known text read line is_last rest (inl (plain, all, none)) trimmed =
    let last = whole_line text read line is_last plain all trimmed in
    subst (λ (b : Bool). TakesLine (Some text) line b (Some rest)) (sym last.1)
    (slice_split_none (λ byte. byte == 10) text plain ∙ ap (λ l. l ∷ []) (sym last.0), none)
takes_known text read line is_last rest (inr (front, plain, is, taken)) trimmed =
    let more = cut_line front read line is_last taken trimmed in
    subst (λ (b : Bool). TakesLine (Some text) line b (Some rest)) (sym more.1)
    (ap lines is ∙ slice_split_at (λ byte. byte == 10) front 10 rest plain refl ∙ ap (λ l. l ∷ lines rest) (sym more.0))

-- reading up to a line feed, and removing the line feed, takes a line
pub takes_line : (old new : Option (List ℕ)) (read line : List ℕ) (is_last : Bool) → IfSome old (λ text. read ≡ take_through 10 text)
    → DropsThrough old new 10 → IsTrimmed read line is_last → TakesLine old line is_last new
takes_line None new read line is_last bytes drops trimmed = tt
takes_line (Some text) new read line is_last bytes drops trimmed =
    subst (λ (o : Option (List ℕ)). TakesLine (Some text) line is_last o) (sym drops)
    (takes_known text read line is_last (drop_through 10 text)
    (subst (λ (l : List ℕ). IsWhole text l (drop_through 10 text) ⊎ IsCut text l (drop_through 10 text)) (sym bytes) (cut text))
    trimmed)

shorten : (xs : List ℕ) (x y : ℕ) (b : Bool) → b ≡ (x == 10) → y ≡ x → cond b xs (xs ++ y ∷ []) ≡ cond (x == 10) xs (xs ++ x ∷ [])
shorten xs x y b tests same = ap (λ c. cond c xs (xs ++ y ∷ [])) tests ∙ ap (λ z. cond (x == 10) xs (xs ++ z ∷ [])) same

is_some_by : (b : Bool) (y : ℕ) → is_some (then_some b y) ≡ b
is_some_by true y = refl
is_some_by false y = refl

not_not : (a b : Bool) → a ≡ not b → b ≡ not a
not_not a true is = sym (ap not is)
not_not a false is = sym (ap not is)

-- a line feed is removed
pub trimmed : {F : Type 0} (g : Once F (MutBor ℕ × Unit {0}) (Bool × (MutBor ℕ × Unit {0}))) (read line : List ℕ) (f : F)
    (taken_byte : Option ℕ) (is_last : Bool)
    → ((x : ℕ) (b : Bool) (y : ℕ) → FnOnceReturnsAtMut g f x b y → (b ≡ (x == 10)) × (y ≡ x))
    → PopsIf g read line f taken_byte → is_some taken_byte ≡ not is_last → IsTrimmed read line is_last
trimmed g read line f taken_byte is_last tests (inl (none, empty, nothing)) last =
    inl (none, empty, not_not _ is_last (ap is_some (sym nothing) ∙ last))
trimmed g read line f taken_byte is_last tests (inr (xs, x, b, y, split, calls, popped, is)) last =
    let test = tests x b y calls in
    inr (
      xs,
      x,
      split,
      is ∙ shorten xs x y b test.0 test.1,
      not_not _ is_last
          (sym test.0 ∙ sym (is_some_by b y) ∙ ap is_some (sym popped) ∙ last),
    )
