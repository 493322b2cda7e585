-- What the checker keeps of the terms of a server.
use Rattle.std.specs.Prelude.{◌≤◌, ℕ, nat_le, if◌then◌else◌, List, [], ◌∷◌}
use Rattle.trace_checker.specs.declared.checker.terms.Kept.{Kept}

-- the rank of the term that a server has reached, how many first entries it has kept since it left its
-- earlier terms, and for how many terms more there is memory
pub record TermsState : Type 0 where
  pub term : ℕ
  pub kept : List Kept
  pub room : ℕ

-- this term is not less than t, and as many entries or more than n are kept since then
pub record IsFrom (t n : ℕ) (k : Kept) (Later : Type 0) : Type 0 where
  pub term : t ≤ k.term
  pub len : n ≤ k.len
  pub rest : Later

-- terms rise from t up to the last one, and numbers of entries from n on
abbrev pub IsRising : ℕ → ℕ → ℕ → List Kept → Type 0
IsRising t n last [] = t ≤ last
IsRising t n last (k ∷ ks) = IsFrom t n k (IsRising k.term k.len last ks)

-- how many first entries are kept since the last of these terms
abbrev pub last_kept : ℕ → List Kept → ℕ
last_kept n [] = n
last_kept n (k ∷ ks) = last_kept k.len ks

-- no more first entries are kept. The terms since which more were kept become one, the first of them
abbrev pub lowered : ℕ → List Kept → List Kept
lowered m [] = []
lowered m (k ∷ ks) =
    if nat_le k.len m then k ∷ lowered m ks else record { term = k.term; len = m } ∷ []
