-- The votes that a judge remembers, so that it knows a vote that is sent again.
use Rattle.std.specs.Prelude.{◌≡◌, ℕ, List, Option, Some}
use Rattle.std.specs.BTreeMap.{is_at}
use Rattle.std.specs.Map.{lookup}
use Rattle.std.specs.Ordering.{nat_cmp}
use Rattle.safety_laws.specs.Ranks.{IsAmong}
use Rattle.safety_laws.specs.Trace.{TraceEvent, Granted}

-- the last vote of a server for another one: the term and the candidate
abbrev pub vote_of : List (ℕ × (ℕ × ℕ)) → ℕ → Option (ℕ × ℕ)
vote_of votes s = lookup (is_at (nat_cmp s)) votes

-- an event is the last vote of its server
abbrev pub IsLastVote : List (ℕ × (ℕ × ℕ)) → TraceEvent ℕ ℕ ℕ → Type 0
IsLastVote votes (Granted s t c) = vote_of votes s ≡ Some (t, c)
IsLastVote votes e = ⊥

-- each of these votes is an event of a trace
abbrev pub AreVotesIn : List (ℕ × (ℕ × ℕ)) → List (TraceEvent ℕ ℕ ℕ) → Type 0
AreVotesIn votes es =
    (s : ℕ) (v : ℕ × ℕ) → vote_of votes s ≡ Some v → IsAmong (Granted s v.0 v.1) es
