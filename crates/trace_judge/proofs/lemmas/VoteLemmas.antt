-- The votes that a judge remembers are in the trace.
use Rattle.std.specs.Prelude.{◌≡◌, ◌⊎◌, ℕ, List, [], ◌∷◌, Some}
use Rattle.std.proofs.Common.{inl, inr, sym}
use Rattle.safety_laws.specs.Ranks.{IsAmong}
use Rattle.safety_laws.specs.Trace.{TraceEvent, Campaigned, Granted, Appended, Acked, Restarted, Wrote, Committed, Applied}
use Rattle.trace_judge.specs.Inner.Votes.{AreVotesIn, IsLastVote, vote_of}
use Rattle.trace_judge.specs.Line.{IsVote}

-- no votes are in every trace
pub no_votes_in : (votes : List (ℕ × (ℕ × ℕ))) (es : List (TraceEvent ℕ ℕ ℕ)) → votes ≡ [] → AreVotesIn votes es
no_votes_in votes es none s v is =
    let nothing : vote_of [] s ≡ Some v = rw none at is in cc

-- the last vote of a server is a vote
pub last_is_vote : (votes : List (ℕ × (ℕ × ℕ))) (e : TraceEvent ℕ ℕ ℕ) → IsLastVote votes e → IsVote e
last_is_vote votes (Campaigned s t) is = absurd is
last_is_vote votes (Granted s t c) is = tt
last_is_vote votes (Appended s t c n sent) is = absurd is
last_is_vote votes (Acked s t c n) is = absurd is
last_is_vote votes (Restarted s n) is = absurd is
last_is_vote votes (Wrote c t e) is = absurd is
last_is_vote votes (Committed c t n m) is = absurd is
last_is_vote votes (Applied s t c n) is = absurd is

-- the last vote of a server is in the trace
pub last_is_in : (votes : List (ℕ × (ℕ × ℕ))) (e : TraceEvent ℕ ℕ ℕ) (es : List (TraceEvent ℕ ℕ ℕ)) → IsLastVote votes e
    → AreVotesIn votes es → IsAmong e es
last_is_in votes (Campaigned s t) es is are = absurd is
last_is_in votes (Granted s t c) es is are = are s (t, c) is
last_is_in votes (Appended s t c n sent) es is are = absurd is
last_is_in votes (Acked s t c n) es is are = absurd is
last_is_in votes (Restarted s n) es is are = absurd is
last_is_in votes (Wrote c t e) es is are = absurd is
last_is_in votes (Committed c t n m) es is are = absurd is
last_is_in votes (Applied s t c n) es is are = absurd is

-- votes stay in the trace, and one that is new is its latest event
pub more_votes : (old new : List (ℕ × (ℕ × ℕ))) (e : TraceEvent ℕ ℕ ℕ) (es : List (TraceEvent ℕ ℕ ℕ))
    → ((s : ℕ) (v : ℕ × ℕ) → vote_of new s ≡ Some v → (vote_of old s ≡ Some v) ⊎ (e ≡ Granted s v.0 v.1))
    → AreVotesIn old es → AreVotesIn new (e ∷ es)
more_votes old new e es from are s v is = by (from s v is)
  where
    by : ((vote_of old s ≡ Some v) ⊎ (e ≡ Granted s v.0 v.1)) → IsAmong (Granted s v.0 v.1) (e ∷ es)
    by (inl was) = inr (are s v was)
    by (inr latest) = inl (sym latest)
