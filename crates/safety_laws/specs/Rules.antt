-- The rules that each server keeps. A rule speaks of the events of one server, of what candidates and
-- leaders have sent, and of who was elected. It never speaks of two servers at one moment.
use Rattle.std.specs.Prelude.{◌≡◌, ◌⊎◌, ◌<◌, ◌≤◌, ℕ, Bool, List, [], ◌∷◌, ◌++◌, length, take}
use Rattle.safety_laws.specs.Log.{Entry, IsPrefix, IsUpToDate, AllOfTerm}
use Rattle.safety_laws.specs.Events.{Event, GrantVote, LateVote, Append, Ack, Restart, History, term_after, voted_after, log_after, HasHad, HasKept, IsDurable}
use Rattle.safety_laws.specs.Facts.{Counting, IsElectedBy, appended}

-- a restart keeps terms, votes and what is durable. Entries that are not durable may be lost, and a
-- truncation that is not durable may be undone: the log is a prefix of one that the server has had
pub record MayRestart {T ID D : Type 0} (es : List (Event T ID D)) (log : List (Entry T D)) : Type 0
  where
    pub had : HasHad log es
    pub keeps : (p : List (Entry T D)) → IsDurable p es → IsPrefix p log

-- a server may also vote in a term in which it has taken entries, if it has not voted in that term
-- and has reached no greater one. The model counts no such late vote (`HasVoted`), so the candidate's
-- log plays no part here, and no proof uses the two conditions. A voter of an engine compares the
-- logs for a late vote too, because a candidate cannot tell it from another vote. The Raft paper
-- requires this for every vote, and so does the test of a trace (`broken_rule_by`). It is not proved
-- that a candidate whose quorum needs a late vote is the leader already
pub record MayVoteLate {T ID D : Type 0} (rank : T → ℕ) (es : List (Event T ID D)) (t : T) : Type 0
  where
    pub term : term_after rank es ≡ rank t
    pub voted : voted_after rank es < rank t

module _ {T ID D : Type 0} (rank : T → ℕ) (counting : Counting T ID D) (h : History T ID D) where
  -- a server grants its vote only in a term that is greater than the one that it has reached, and
  -- only to a candidate whose log is at least as up to date as its own. The log with which a
  -- candidate asks for votes is its log as it is
  pub record MayGrantVoteBy (s : ID) (es : List (Event T ID D)) (t : T) (c : ID) : Type 0 where
    pub term : term_after rank es < rank t
    pub up_to_date : IsUpToDate rank (h.candidate_log t c) (log_after es)
    pub own : c ≡ s → h.candidate_log t c ≡ log_after es

  -- a server takes entries only from an elected leader of a term that it has not passed. Its log
  -- keeps each prefix that it shares with the leader's log, and is afterwards a prefix of one of the
  -- two. A heartbeat leaves the log as it is
  pub record MayAppendBy (es : List (Event T ID D)) (t : T) (c : ID) (log : List (Entry T D)) : Type 0
    where
      pub term : term_after rank es ≤ rank t
      pub elected : IsElectedBy rank counting h t c
      pub keeps : (p : List (Entry T D)) → IsPrefix p (log_after es)
          → IsPrefix p (h.leader_log t c) → IsPrefix p log
      pub of_these : IsPrefix log (log_after es) ⊎ IsPrefix log (h.leader_log t c)

  -- a server acknowledges entries to an elected leader whose term it has reached. It has had these
  -- first entries of the leader's log since a time at which it had not passed that term. So a flush
  -- may end after the server has voted in a later term, if nothing of it was lost
  pub record MayAckBy (es : List (Event T ID D)) (t : T) (c : ID) (n : ℕ) : Type 0 where
    pub reached : rank t ≤ term_after rank es
    pub elected : IsElectedBy rank counting h t c
    pub written : n ≤ length (h.leader_log t c)
    pub has_kept : HasKept rank (rank t) (take n (h.leader_log t c)) es

  -- each event of a server was allowed after the earlier ones
  abbrev pub EventsFollowRulesBy : ID → List (Event T ID D) → Type 0
  EventsFollowRulesBy s [] = Unit {0}
  EventsFollowRulesBy s (GrantVote t c ∷ es) = MayGrantVoteBy s es t c × EventsFollowRulesBy s es
  EventsFollowRulesBy s (LateVote t c ∷ es) = MayVoteLate rank es t × EventsFollowRulesBy s es
  EventsFollowRulesBy s (Append t c log ∷ es) = MayAppendBy es t c log × EventsFollowRulesBy s es
  EventsFollowRulesBy s (Ack t c n ∷ es) = MayAckBy es t c n × EventsFollowRulesBy s es
  EventsFollowRulesBy s (Restart log ∷ es) = MayRestart es log × EventsFollowRulesBy s es

  -- an elected leader adds entries of its own term to the log with which it was elected, and never
  -- changes or withdraws what it has written, also over a restart: a leader that restarts goes on in
  -- its term only if it has all that it has sent, or leads in that term no more. Most Rafts never do;
  -- openraft goes on
  pub record AppendsOwnTermBy (t : T) (c : ID) : Type 0 where
    pub added : List (Entry T D)
    pub is : h.leader_log t c ≡ h.candidate_log t c ++ added
    pub own_term : AllOfTerm t added

  -- every server keeps the rules
  pub record FollowsRaftBy : Type 0 where
    pub servers : (s : ID) → EventsFollowRulesBy s (h.events s)
    pub leaders : (t : T) (c : ID) → IsElectedBy rank counting h t c → AppendsOwnTermBy t c
    -- terms of elected leaders that have one rank are equal
    pub ranks : (t u : T) (c d : ID) → IsElectedBy rank counting h t c → IsElectedBy rank counting h u d
        → rank t ≡ rank u → t ≡ u

-- ---- each config counts from its append on

module _ {T ID D : Type 0} (rank : T → ℕ) (quorum : List (Entry T D) → (ID → Bool) → Bool)
    (h : History T ID D) where
  abbrev pub MayGrantVote : ID → List (Event T ID D) → T → ID → Type 0
  MayGrantVote s es t c = MayGrantVoteBy rank (appended quorum) h s es t c

  abbrev pub MayAppend : List (Event T ID D) → T → ID → List (Entry T D) → Type 0
  MayAppend es t c log = MayAppendBy rank (appended quorum) h es t c log

  abbrev pub MayAck : List (Event T ID D) → T → ID → ℕ → Type 0
  MayAck es t c n = MayAckBy rank (appended quorum) h es t c n

  abbrev pub EventsFollowRules : ID → List (Event T ID D) → Type 0
  EventsFollowRules s es = EventsFollowRulesBy rank (appended quorum) h s es

  abbrev pub AppendsOwnTerm : T → ID → Type 0
  AppendsOwnTerm t c = AppendsOwnTermBy rank (appended quorum) h t c

  abbrev pub FollowsRaft : Type 0
  FollowsRaft = FollowsRaftBy rank (appended quorum) h
