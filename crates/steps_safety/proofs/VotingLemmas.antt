-- A voter keeps rule 1.
use Rattle.std.specs.Prelude.{◌≡◌, ◌⊎◌, ◌<◌, ◌≤◌, ℕ, Bool, true, false, not, ◌&&◌, List, ◌∷◌, Option, Some, None}
use Rattle.std.specs.Ordering.{partial_ge}
use Rattle.std.specs.declared.cmp.Ordering.{Ordering}
use Rattle.std.specs.declared.cmp.Ordering.TheVariants.{Less, Equal, Greater}
use Rattle.std.proofs.Common.{refl, sym, ◌∙◌, inl, inr, arith, true≢false}
use Rattle.std.proofs.lemmas.Bool.{and_parts}
use Rattle.raft_base.specs.declared.log_id.LogIdOf.{LogIdOf}
use Rattle.raft_base.specs.declared.vote.VoteIn.{VoteIn}
use Rattle.raft_base.specs.LogId.{id_le}
use Rattle.raft_base.specs.Vote.{by_leader_then_committed, vote_cmp}
use Rattle.safety_laws.specs.Events.{Event, GrantVote, log_after, term_after}
use Rattle.safety_laws.specs.Facts.{HasVoted}
use Rattle.safety_laws.specs.Ranks.{IsAmong}
use Rattle.raft_state.specs.log_id_list.LogReads.{last_id}
use Rattle.steps_safety.proofs.Calls.{VotesKeepRule}
use Rattle.steps_safety.specs.Server.{AreRanked, IsServer, KnowsCommitted, Leaders, Place, State}
use Rattle.steps_safety.specs.Voting.{IsAsked, VotesByRule}
use Rattle.steps_safety.proofs.PlaceLemmas.{some_same, up_to_date}

module _ {L C K D : Type 0} (k : Leaders L C K) (p : Place L C K D) (ranked : AreRanked k p.rank p.leaders p.terms p.first) where
  -- what is known to be committed is known to be so after a vote too
  known_after_vote : (es : List (Event C K D)) (t : C) (c : K) (n : ℕ) → term_after p.rank es < p.rank t
      → KnowsCommitted p.rank p.quorum p.history es n → KnowsCommitted p.rank p.quorum p.history (GrantVote t c ∷ es) n
  known_after_vote es t c n lt knows = record {
    may = record {
      term = knows.may.term;
      leader = knows.may.leader;
      elected = knows.may.elected;
      written = knows.may.written;
      in_log = knows.may.in_log;
      known = knows.may.known;
    };
    reached = omega (arith, lt, knows.reached);
  }

  module _ (es : List (Event C K D)) (vote : VoteIn L) (last : Option (LogIdOf C)) (old : State L C)
      (is : IsServer k p old es) (asked : IsAsked k p vote last) (up : id_le k.cmp (last_id old.ids) last ≡ true) where
    -- a vote of a term that the server has not reached
    anew : term_after p.rank es < p.rank (k.committed vote.leader_id) → VotesByRule k p vote es (record old { vote = vote })
    anew later = record {
      candidate = asked.candidate;
      is_for = asked.is_for;
      events = GrantVote (k.committed vote.leader_id) asked.candidate ∷ es;
      rule = inr (
        refl,
        record {
          term = later;
          up_to_date = up_to_date k p.rank p.leaders p.terms p.first ranked (log_after es)
              (p.history.candidate_log (k.committed vote.leader_id) asked.candidate) (last_id old.ids) last is.log.last asked.log up;
          own = λ same. absurd (asked.other same);
        },
      );
      has_voted = inl (refl, refl);
      server = record {
        in_use = asked.in_use;
        reached = omega arith;
        voted_for = λ c uncommitted real for.
            inl (inl (refl, some_same asked.candidate c (sym asked.is_for ∙ for)));
        log = record { last = is.log.last; each = is.log.each };
        purged = λ i at. known_after_vote es (k.committed vote.leader_id) asked.candidate _ later (is.purged i at);
        committed = λ i at. known_after_vote es (k.committed vote.leader_id) asked.candidate _ later (is.committed i at);
      };
    }

    -- the vote that the server has: it was granted before, or taken from a response
    again : vote.leader_id ≡ old.vote.leader_id → old.vote.committed ≡ false → VotesByRule k p vote es (record old { vote = vote })
    again same uncommitted =
        let term = rw same at asked.term in
        let for = rw same at asked.is_for in
        by (is.voted_for asked.candidate uncommitted term for)
      where
        by : HasVoted (k.committed old.vote.leader_id) asked.candidate es
            ⊎ (term_after p.rank es < p.rank (k.committed old.vote.leader_id))
            → VotesByRule k p vote es (record old { vote = vote })
        by (inl voted) = record {
          candidate = asked.candidate;
          is_for = asked.is_for;
          events = es;
          rule = inl refl;
          has_voted = rw same voted;
          server = record {
            in_use = asked.in_use;
            reached = rw same is.reached;
            voted_for = λ c u real for'. rw same (is.voted_for c uncommitted (rw same at real) (rw same at for'));
            log = record { last = is.log.last; each = is.log.each };
            purged = is.purged;
            committed = is.committed;
          };
        }
        by (inr later) = anew (rw same later)

    grants : (o : Option Ordering) (b : Bool) → k.order vote.leader_id old.vote.leader_id ≡ o → old.vote.committed ≡ b
        → partial_ge (λ (x y : VoteIn L). by_leader_then_committed o false b) vote old.vote ≡ true
        → VotesByRule k p vote es (record old { vote = vote })
    grants (Some Greater) b o e h =
        let lt = ranked.greater vote.leader_id old.vote.leader_id asked.in_use is.in_use o in
        anew (let low = is.reached in omega (arith, lt, low))
    grants (Some Less) b o e h = cc
    grants (Some Equal) false o e h = again (ranked.equal vote.leader_id old.vote.leader_id o) e
    grants (Some Equal) true o e h = cc
    grants None true o e h = cc
    grants None false o e h = cc

pub votes_keep_rule : {L C K D : Type 0} → VotesKeepRule L C K D
votes_keep_rule k p ranked es vote last old new granted is asked handles = (
  λ yes.
      let parts = and_parts (id_le k.cmp (last_id old.ids) last && not vote.committed) (partial_ge (vote_cmp k.order) vote old.vote)
      (sym handles.is_granted ∙ yes) in
      let up = (and_parts (id_le k.cmp (last_id old.ids) last) (not vote.committed) parts.0).0 in
      rw (handles.taken yes)
      (grants k p ranked es vote last old is asked up (k.order vote.leader_id old.vote.leader_id) old.vote.committed refl refl
      (rw asked.not_committed at parts.1)),
  λ no. rw (handles.refused no) is,
)

-- of two votes, one is at least the other: it is of a greater leader; or of the same leader, and committed if
-- the other is; or the leaders do not compare, and it is committed and the other is not
abbrev pub IsNoLesser : {L : Type 0} → (L → L → Option Ordering) → VoteIn L → VoteIn L → Type 0
IsNoLesser order a b =
    (order a.leader_id b.leader_id ≡ Some Greater)
    ⊎ (((order a.leader_id b.leader_id ≡ Some Equal) × (a.committed ≡ false → b.committed ≡ false))
    ⊎ ((order a.leader_id b.leader_id ≡ None) × (a.committed ≡ true) × (b.committed ≡ false)))

pub no_lesser : {L : Type 0} (order : L → L → Option Ordering) (a b : VoteIn L) → partial_ge (vote_cmp order) a b ≡ true
    → IsNoLesser order a b
no_lesser {L} order a b h = by (order a.leader_id b.leader_id) a.committed b.committed refl refl refl h
  where
    by : (o : Option Ordering) (c d : Bool) → order a.leader_id b.leader_id ≡ o → a.committed ≡ c → b.committed ≡ d
        → partial_ge (λ (x y : VoteIn L). by_leader_then_committed o c d) a b ≡ true → IsNoLesser order a b
    by (Some Greater) c d o e f h = inl o
    by (Some Equal) c false o e f h = inr (inl (o, λ u. f))
    by (Some Equal) true true o e f h = inr (inl (o, λ u. absurd (true≢false (sym e ∙ u))))
    by (Some Equal) false true o e f h = cc
    by (Some Less) c d o e f h = cc
    by None true false o e f h = inr (inr (o, e, f))
    by None true true o e f h = cc
    by None false true o e f h = cc
    by None false false o e f h = cc

-- a server that takes a vote from a response has done nothing that the rules speak of
pub hears_by_rule : {L C K D : Type 0} (k : Leaders L C K) (p : Place L C K D) → AreRanked k p.rank p.leaders p.terms p.first
    → (es : List (Event C K D)) (vote : VoteIn L) (old : State L C) → IsServer k p old es → IsAmong vote.leader_id p.leaders
    → partial_ge (vote_cmp k.order) vote old.vote ≡ true → IsServer k p (record old { vote = vote }) es
hears_by_rule {L} {C} {K} {D} k p ranked es vote old is in_use h = by (no_lesser k.order vote old.vote h)
  where
    serves : term_after p.rank es ≤ p.rank (k.committed vote.leader_id)
        → ((c : K) → vote.committed ≡ false → 0 < k.term_of vote.leader_id → k.voted vote.leader_id ≡ Some c
        → HasVoted (k.committed vote.leader_id) c es ⊎ (term_after p.rank es < p.rank (k.committed vote.leader_id)))
        → IsServer k p (record old { vote = vote }) es
    serves reached voted_for = record {
      in_use = in_use;
      reached = reached;
      voted_for = voted_for;
      log = record { last = is.log.last; each = is.log.each };
      purged = is.purged;
      committed = is.committed;
    }

    by : IsNoLesser k.order vote old.vote → IsServer k p (record old { vote = vote }) es
    by (inl above) =
        let lt = ranked.greater vote.leader_id old.vote.leader_id in_use is.in_use above in
        let low = is.reached in
        let later : term_after p.rank es < p.rank (k.committed vote.leader_id) = omega (arith, lt, low) in
        serves (omega (arith, later)) (λ c none real for. inr later)
    by (inr (inl (at, none_then))) =
        let same = ranked.equal vote.leader_id old.vote.leader_id at in
        serves (rw same is.reached)
        (λ c none real for. rw same (is.voted_for c (none_then none) (rw same at real) (rw same at for)))
    by (inr (inr (apart, is_committed, none))) =
        let same = ranked.apart vote.leader_id old.vote.leader_id in_use is.in_use apart in
        let low = is.reached in
        serves (omega (arith, low, same)) (λ c none real for. absurd (true≢false (sym is_committed ∙ none)))
