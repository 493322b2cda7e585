-- How many ids a quorum has at least. A set of ids is its test, and ids are compared by `eq`, their
-- own `==`.
use Rattle.std.specs.Prelude.{◌≡◌, ℕ, ◌+◌, ◌/◌, ◌≤◌, Bool, true, List, length, max, nat_le}
use Rattle.std.specs.List.{IsDistinct, fold}
use Rattle.std.specs.Set.{is_member}

-- a list of distinct ids that contains a quorum has at least that many ids
abbrev pub QuorumsHaveAtLeast : {K : Type 0} → (K → K → Bool) → ((K → Bool) → Bool) → ℕ → Type 0
QuorumsHaveAtLeast {K} eq has_quorum n =
    (ids : List K) → IsDistinct eq ids → has_quorum (is_member eq ids) ≡ true → n ≤ length ids

-- distinct voters are a quorum exactly if there are at least that many of them
abbrev pub SizeDecides : {K : Type 0} → (K → K → Bool) → ((K → Bool) → Bool) → (K → Bool) → ℕ → Type 0
SizeDecides {K} eq has_quorum is_voter n =
    (ids : List K) → IsDistinct eq ids
    → ((x : K) → is_member eq ids x ≡ true → is_voter x ≡ true)
    → has_quorum (is_member eq ids) ≡ nat_le n (length ids)

-- the least number that is more than half of a config's length
abbrev pub majority_size : {K : Type 0} → List K → ℕ
majority_size config = length config / 2 + 1

-- the greatest size of the items, and 0 if there are none
abbrev pub greatest_by : {X : Type 0} → (X → ℕ) → List X → ℕ
greatest_by size items = fold (λ so_far item. max (size item) so_far) 0 items
