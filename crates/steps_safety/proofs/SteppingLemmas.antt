-- Calls of the handlers are steps of an execution.
use Rattle.std.specs.Prelude.{◌≡◌, ◌⊎◌, ◌≤◌, ◌-◌, ℕ, zero, suc, Bool, true, false, if◌then◌else◌, List, [], ◌∷◌, ◌++◌, length, take, Option, Some, None}
use Rattle.std.proofs.Common.{refl, sym, ap, subst, ◌∙◌, inl, inr, arith, true≢false}
use Rattle.std.proofs.lemmas.List.{length-append}
use Rattle.raft_base.specs.declared.log_id.LogIdOf.{LogIdOf}
use Rattle.raft_base.specs.declared.vote.VoteIn.{VoteIn}
use Rattle.raft_base.specs.LogId.{next_index}
use Rattle.safety_laws.specs.Log.{Entry, IsPrefix}
use Rattle.safety_laws.specs.Events.{Ack, Append, Event, GrantVote, History, LateVote, Restart, log_after}
use Rattle.safety_laws.specs.Facts.{HasVoted}
use Rattle.safety_laws.specs.Rules.{FollowsRaft, MayAck, MayGrantVote}
use Rattle.safety_laws.specs.Safety.{IsSafe}
use Rattle.safety_laws.specs.Apply.{IsKnownCommitted}
use Rattle.safety_laws.specs.Configs.{is_quorum}
use Rattle.safety_laws.specs.Execution.{FactsAreStable, MayDo, Next, ServerStep}
use Rattle.safety_laws.specs.Ranks.{IsAmong}
use Rattle.steps_safety.proofs.Calls.{AppendConflicts, AppendMatches, InstallShape, MatchShape}
use Rattle.steps_safety.specs.Server.{IsIdAt, IsInLog, IsServer, KnowsCommitted, State}
use Rattle.steps_safety.specs.Voting.{VotesByRule, IsAsked}
use Rattle.steps_safety.specs.Appending.{AllInLog, Follows, InLogIfAny, IsSent, IsSnapshotSent, Truncates}
use Rattle.steps_safety.proofs.Stepping.{AppendsAreSteps, FromLeader, SeenCluster, GoesOn, InstallsAreSteps, IsSeenCluster, IsMatched, IsPast, IsStepOf, IsVoted, StepsStay, VotesAreSteps, at_server}
use Rattle.safety_laws.proofs.lemmas.PrefixLemmas.{append-nil, prefix_length}
use Rattle.safety_laws.proofs.lemmas.ExecutionLemmas.{execution_follows, execution_is_safe, execution_keeps_facts, step_keeps_facts}
use Rattle.steps_safety.proofs.VotingLemmas.{votes_keep_rule}
use Rattle.steps_safety.proofs.AppendingLemmas.{appends_keep_rules, installs_keep_rules, at_within, get_within, prefix_get, take_of_prefix}

module _ {L C K D M : Type 0} (c : SeenCluster L C K D M) (is_cluster : IsSeenCluster c) where
  abbrev pub Q : List (Entry C D) → (K → Bool) → Bool
  Q = is_quorum c.rank c.config_of c.initial c.quorum_of

  -- a history with one more event of a server
  abbrev pub with_event : History C K D → K → Event C K D → History C K D
  with_event h s e = record {
    events = λ r. if c.same_node s r then e ∷ h.events r else h.events r;
    candidate_log = h.candidate_log;
    leader_log = h.leader_log;
    votes_by = h.votes_by;
    acks_by = h.acks_by;
  }

  -- the term of a vote is in use, and the candidate has voted for itself
  abbrev pub VoteInUse : History C K D → Event C K D → Type 0
  VoteInUse h (GrantVote t d) = IsAmong t c.terms × HasVoted t d (h.events d)
  VoteInUse h (LateVote t d) = Unit {0}
  VoteInUse h (Append t d log) = Unit {0}
  VoteInUse h (Ack t d n) = Unit {0}
  VoteInUse h (Restart log) = Unit {0}

  pub own_events : (h : History C K D) (s : K) (e : Event C K D) → (with_event h s e).events s ≡ e ∷ h.events s
  own_events h s e = rw (is_cluster.node_itself s) refl

  module _ (h : History C K D) (earlier : List (History C K D)) (past : IsPast c h earlier) where
    pub follows : FollowsRaft c.rank Q h
    follows = execution_follows c.rank c.config_of c.initial c.quorum_of is_cluster.intersects h earlier past.execution h (inl refl)

    pub safe : IsSafe c.rank Q h
    safe = execution_is_safe c.rank c.config_of c.initial c.quorum_of is_cluster.intersects h earlier past.execution h (inl refl)

    voted_in_use : (e : Event C K D) (es : List (Event C K D)) → VoteInUse h e → ((t : C) (d : K) → HasVoted t d es → IsAmong t c.terms)
        → (t : C) (d : K) → HasVoted t d (e ∷ es) → IsAmong t c.terms
    voted_in_use (GrantVote u x) es new old t d (inl is) = rw is.0 at new.0
    voted_in_use (GrantVote u x) es new old t d (inr v) = old t d v
    voted_in_use (LateVote u x) es new old t d v = old t d v
    voted_in_use (Append u x log) es new old t d v = old t d v
    voted_in_use (Ack u x n) es new old t d v = old t d v
    voted_in_use (Restart log) es new old t d v = old t d v

    all_in_use : (s : K) (e : Event C K D) → VoteInUse h e → (r : K) (t : C) (d : K) → HasVoted t d ((with_event h s e).events r)
        → IsAmong t c.terms
    all_in_use s e new r t d v = by (c.same_node s r) v
      where
        by : (b : Bool) → HasVoted t d (if b then e ∷ h.events r else h.events r) → IsAmong t c.terms
        by true v = voted_in_use e (h.events r) new (past.in_use r) t d v
        by false v = past.in_use r t d v

    voted_more : (t : C) (d : K) (e : Event C K D) (es : List (Event C K D)) → HasVoted t d es → HasVoted t d (e ∷ es)
    voted_more t d (GrantVote u x) es v = inr v
    voted_more t d (LateVote u x) es v = v
    voted_more t d (Append u x log) es v = v
    voted_more t d (Ack u x n) es v = v
    voted_more t d (Restart log) es v = v

    asked_by : (e : Event C K D) (es : List (Event C K D)) → VoteInUse h e
        → ((t : C) (d : K) → HasVoted t d es → HasVoted t d (h.events d)) → (t : C) (d : K) → HasVoted t d (e ∷ es)
        → HasVoted t d (h.events d)
    asked_by (GrantVote u x) es new old t d (inl is) = rw (is.0, is.1) at new.1
    asked_by (GrantVote u x) es new old t d (inr v) = old t d v
    asked_by (LateVote u x) es new old t d v = old t d v
    asked_by (Append u x log) es new old t d v = old t d v
    asked_by (Ack u x n) es new old t d v = old t d v
    asked_by (Restart log) es new old t d v = old t d v

    all_asked : (s : K) (e : Event C K D) → VoteInUse h e → (r : K) (t : C) (d : K) → HasVoted t d ((with_event h s e).events r)
        → HasVoted t d ((with_event h s e).events d)
    all_asked s e new r t d v = still_voted (c.same_node s d) (by (c.same_node s r) v)
      where
        by : (b : Bool) → HasVoted t d (if b then e ∷ h.events r else h.events r) → HasVoted t d (h.events d)
        by true v = asked_by e (h.events r) new (past.asked_first r) t d v
        by false v = past.asked_first r t d v

        still_voted : (b : Bool) → HasVoted t d (h.events d) → HasVoted t d (if b then e ∷ h.events d else h.events d)
        still_voted true v = voted_more t d e (h.events d) v
        still_voted false v = v

    -- one more event that is allowed is a step
    pub one_event : (s : K) (e : Event C K D) → MayDo c.rank c.config_of c.initial c.quorum_of h (with_event h s e) s e → VoteInUse h e
        → GoesOn c s h earlier (with_event h s e)
    one_event s e may in_use = record {
      earlier = h ∷ earlier;
      kept = λ g among. inr among;
      past = record {
        execution = (next, past.execution);
        in_use = all_in_use s e in_use;
        asked_first = all_asked s e in_use;
      };
      stable = step_keeps_facts c.rank c.config_of c.initial c.quorum_of is_cluster.intersects (with_event h s e) h earlier
          (next, past.execution);
      others = λ r apart. rw apart refl;
      logs = λ t d apart. (refl, refl);
    }
      where
        no_more : (t : C) (d : K) (log : List (Entry C D)) (x : Entry C D) → IsPrefix (log ++ x ∷ []) (h.leader_log t d)
            → length (h.leader_log t d) ≤ length log → ⊥
        no_more t d log x st le = let n = prefix_length st in let m = length-append log (x ∷ []) in omega (arith, n, m, le)

        next : Next c.rank c.config_of c.initial c.quorum_of h (with_event h s e)
        next = record {
          servers = λ r. by r (c.same_node s r) refl;
          leaders = λ t d. inr (record {
            candidate_log = refl;
            added = [];
            is = sym (append-nil (h.leader_log t d));
            own_term = tt;
            configs = λ log x m st le holds. absurd (no_more t d log x st le);
          });
          ranks = λ t u d d' el el' same.
              is_cluster.distinct t u (all_in_use s e in_use d t d el.for_itself) (all_in_use s e in_use d' u d' el'.for_itself) same;
        }
          where
            by : (r : K) (b : Bool) → c.same_node s r ≡ b → ((with_event h s e).events r ≡ h.events r)
                ⊎ ServerStep c.rank c.config_of c.initial c.quorum_of h (with_event h s e) r
            by r true is = inr (record {
              event = e;
              is = rw is refl;
              may = subst (λ (x : K). MayDo c.rank c.config_of c.initial c.quorum_of h (with_event h s e) x e)
                  (is_cluster.nodes s r is) may;
            })
            by r false is = inl (rw is refl)

    -- what a server knows to be committed, it knows to be so in a later history
    pub still : (after : History C K D) → FactsAreStable c.rank c.config_of c.initial c.quorum_of h after
        → (es : List (Event C K D)) (i : ℕ) → KnowsCommitted c.rank Q h es i → KnowsCommitted c.rank Q after es i
    still after facts es i knows =
        let x = knows.may in
        let el = facts.elected x.term x.leader x.elected in
        let here = take_of_prefix i (h.leader_log x.term x.leader) (after.leader_log x.term x.leader) el.2 x.written in
        let there = facts.committed x.known.in_term x.known.by_leader x.known.committed_to x.known.counted_at x.known.committed in
        record {
          may = record {
            term = x.term;
            leader = x.leader;
            elected = el.0;
            written = (let st = prefix_length el.2 in let le = x.written in omega (arith, st, le));
            in_log = rw here x.in_log;
            known = record {
              in_term = x.known.in_term;
              by_leader = x.known.by_leader;
              committed_to = x.known.committed_to;
              counted_at = x.known.counted_at;
              committed = there.0;
              not_later = x.known.not_later;
              is = rw (here, there.1) x.known.is;
            };
          };
          reached = knows.reached;
        }

    -- so the server of a state is so in a later history
    pub moves : (after : History C K D) → FactsAreStable c.rank c.config_of c.initial c.quorum_of h after → (s : K) (x : State L C)
        → (es : List (Event C K D)) → IsServer c.kind (at_server c h s) x es → IsServer c.kind (at_server c after s) x es
    moves after facts s x es is = record {
      in_use = is.in_use;
      reached = is.reached;
      voted_for = is.voted_for;
      log = record { last = is.log.last; each = is.log.each };
      purged = λ i at. still after facts es (suc i) (is.purged i at);
      committed = λ i at. still after facts es (suc i) (is.committed i at);
    }

    pub nothing_done : (s : K) → GoesOn c s h earlier h
    nothing_done s = record {
      earlier = earlier;
      kept = λ g among. among;
      past = past;
      stable = execution_keeps_facts c.rank c.config_of c.initial c.quorum_of is_cluster.intersects h earlier past.execution h (inl refl);
      others = λ r apart. refl;
      logs = λ t d apart. (refl, refl);
    }

module _ {L C K D M : Type 0} (c : SeenCluster L C K D M) (is_cluster : IsSeenCluster c) (h : History C K D) (earlier : List
    (History C K D))
    (past : IsPast c h earlier) (s : K) where
  -- a call that did nothing new
  stays : (x : State L C) → IsServer c.kind (at_server c h s) x (h.events s) → IsStepOf c s h earlier x
  stays x is = record {
    after = h;
    goes_on = nothing_done c is_cluster h earlier past s;
    server = is;
    still_known = λ n x. x;
  }

  -- one event
  after_event : (x : State L C) (e : Event C K D) → MayDo c.rank c.config_of c.initial c.quorum_of h (with_event c is_cluster h s e) s e
      → VoteInUse c is_cluster h e
      → IsServer c.kind (at_server c h s) x (e ∷ h.events s)
      → ((n : ℕ) → KnowsCommitted c.rank (Q c is_cluster) h (h.events s) n
      → KnowsCommitted c.rank (Q c is_cluster) h (e ∷ h.events s) n) → IsStepOf c s h earlier x
  after_event x e may in_use is knows =
      let goes = one_event c is_cluster h earlier past s e may in_use in
      record {
        after = with_event c is_cluster h s e;
        goes_on = goes;
        server = subst (λ (es : List (Event C K D)). IsServer c.kind (at_server c (with_event c is_cluster h s e) s) x es)
            (sym (own_events c is_cluster h s e))
            (moves c is_cluster h earlier past (with_event c is_cluster h s e) goes.stable s x (e ∷ h.events s) is);
        still_known = λ n x.
            subst (λ (es : List (Event C K D)). KnowsCommitted c.rank (Q c is_cluster) (with_event c is_cluster h s e) es n)
            (sym (own_events c is_cluster h s e))
            (still c is_cluster h earlier past (with_event c is_cluster h s e) goes.stable (e ∷ h.events s) n (knows n x));
      }

  grants : (vote : VoteIn L) (last : Option (LogIdOf C)) (new : State L C) → IsAsked c.kind (at_server c h s) vote last
      → VotesByRule c.kind (at_server c h s) vote (h.events s) new → (step : IsStepOf c s h earlier new) × IsVoted c step.after s vote
      × (log_after (step.after.events s) ≡ log_after (h.events s))
  unfolding stays after_event
  grants vote last new asked g = by g.rule
    where
      one_node : (a b : K) → Some a ≡ Some b → a ≡ b
      one_node a b e = cc

      by : ((g.events ≡ h.events s) ⊎ ((g.events ≡ GrantVote (c.kind.committed vote.leader_id) g.candidate ∷ h.events s)
          × MayGrantVote c.rank (Q c is_cluster) h s (h.events s) (c.kind.committed vote.leader_id) g.candidate))
          → (step : IsStepOf c s h earlier new) × IsVoted c step.after s vote
          × (log_after (step.after.events s) ≡ log_after (h.events s))
      by (inl same) = (
        stays new (rw same at g.server),
        record { candidate = g.candidate; is_for = g.is_for; voted = rw same at g.has_voted },
        refl,
      )
      by (inr m) =
          let is_now = m.0 in
          let is_same : asked.candidate ≡ g.candidate = one_node asked.candidate g.candidate (sym asked.is_for ∙ g.is_for) in
          let asked_own = asked.own in
          let e : Event C K D = GrantVote (c.kind.committed vote.leader_id) g.candidate in (
            after_event new e (record { term = m.1.term; up_to_date = m.1.up_to_date; own = m.1.own })
                (is_cluster.in_terms vote.leader_id asked.in_use, rw is_same at asked_own)
                (rw is_now at g.server)
                (λ n x. (let may = x.may in let low = x.reached in let later = m.1.term in record {
                  may = record {
                    term = may.term;
                    leader = may.leader;
                    elected = may.elected;
                    written = may.written;
                    in_log = may.in_log;
                    known = may.known;
                  };
                  reached = omega (arith, low, later);
                })),
            record {
              candidate = g.candidate;
              is_for = g.is_for;
              voted = rw (own_events c is_cluster h s e) (inl (refl, refl));
            },
            ap log_after (own_events c is_cluster h s e),
          )

pub votes_are_steps : {L C K D M : Type 0} → VotesAreSteps L C K D M
unfolding stays
votes_are_steps {L} {C} {K} {D} {M} c is_cluster h earlier past s vote last old new granted is asked handles = by granted refl
  where
    both : ((granted ≡ true → VotesByRule c.kind (at_server c h s) vote (h.events s) new)
        × (granted ≡ false → IsServer c.kind (at_server c h s) new (h.events s)))
    both = votes_keep_rule c.kind (at_server c h s) is_cluster.ranked (h.events s) vote last old new granted is asked handles

    by : (b : Bool) → granted ≡ b → (step : IsStepOf c s h earlier new) × (granted ≡ true → IsVoted c step.after s vote)
        × (log_after (step.after.events s) ≡ log_after (h.events s))
    by true e = let g = grants c is_cluster h earlier past s vote last new asked (both.0 e) in (g.0, λ yes. g.1, g.2)
    by false e = (stays c is_cluster h earlier past s new (both.1 e), λ yes. absurd (true≢false (sym yes ∙ e)), refl)

module _ {L C K D M : Type 0} (c : SeenCluster L C K D M) (is_cluster : IsSeenCluster c) (h : History C K D) (earlier : List
    (History C K D))
    (past : IsPast c h earlier) (s : K) (leader : L) (new : State L C) where
  matched : (upto : Option (LogIdOf C)) → (f : Follows c.kind (at_server c h s) leader upto (h.events s) new)
      → (step : IsStepOf c s h earlier new) × IsMatched c step.after s leader upto
      × (log_after (step.after.events s) ≡ f.log)
  matched upto f = (
    record {
      after = two;
      goes_on = record {
        earlier = second.earlier;
        kept = λ g among. second.kept g (first.kept g among);
        past = second.past;
        stable = stable;
        others = λ r apart. second.others r apart ∙ first.others r apart;
        logs = λ t d apart. (refl, refl);
      };
      server = subst (λ (es : List (Event C K D)). IsServer c.kind (at_server c two s) new es) (sym events)
          (moves c is_cluster h earlier past two stable s new (ack ∷ append ∷ h.events s) f.server);
      still_known = λ n x.
          subst (λ (es : List (Event C K D)). KnowsCommitted c.rank (Q c is_cluster) two es n) (sym events)
          (still c is_cluster h earlier past two stable (ack ∷ append ∷ h.events s) n (f.still_known n x));
    },
    record {
      to_node = f.by_node;
      is_for = f.is_for;
      elected = (stable.elected (c.kind.committed leader) f.by_node f.append.elected).0;
      there = f.upto_in;
      acked = λ i at. rw events (inl (refl, refl, (let e = f.upto_is i at in omega (arith, e))));
    },
    ap log_after events,
  )
    where
      append : Event C K D
      append = Append (c.kind.committed leader) f.by_node f.log

      ack : Event C K D
      ack = Ack (c.kind.committed leader) f.by_node f.entries

      one : History C K D
      one = with_event c is_cluster h s append

      first : GoesOn c s h earlier one
      first = one_event c is_cluster h earlier past s append f.append tt

      two : History C K D
      two = with_event c is_cluster one s ack

      events_one : one.events s ≡ append ∷ h.events s
      events_one = own_events c is_cluster h s append

      may_ack : MayAck c.rank (Q c is_cluster) one (one.events s) (c.kind.committed leader) f.by_node f.entries
      may_ack =
          subst (λ (es : List (Event C K D)). MayAck c.rank (Q c is_cluster) one es (c.kind.committed leader) f.by_node f.entries)
          (sym events_one)
          (record {
            reached = f.ack.reached;
            elected = (first.stable.elected (c.kind.committed leader) f.by_node f.ack.elected).0;
            written = f.ack.written;
            has_kept = f.ack.has_kept;
          })

      second : GoesOn c s one first.earlier two
      second = one_event c is_cluster one first.earlier first.past s ack may_ack tt

      stable : FactsAreStable c.rank c.config_of c.initial c.quorum_of h two
      stable =
          execution_keeps_facts c.rank c.config_of c.initial c.quorum_of is_cluster.intersects two second.earlier second.past.execution h
          (second.kept h (first.kept h (inl refl)))

      events : two.events s ≡ ack ∷ append ∷ h.events s
      events = own_events c is_cluster one s ack ∙ ap (λ (es : List (Event C K D)). ack ∷ es) events_one

pub appends_are_steps : {L C K D M : Type 0} → AppendsAreSteps L C K D M
unfolding after_event
appends_are_steps {L} {C} {K} {D} {M} c is_cluster h earlier past s leader prev ids committed old new is whole whole' sent =
    (λ upto m. with_shape upto (both.0 upto m), λ at x. truncated at (both.1 at x))
  where
    law : FollowsRaft c.rank (Q c is_cluster) h
    law = follows c is_cluster h earlier past

    both : (((upto : Option (LogIdOf C))
        → AppendMatches c.kind (at_server c h s) leader prev ids committed upto old new
        → (f : Follows c.kind (at_server c h s) leader upto (h.events s) new)
        × MatchShape c.kind (at_server c h s) (h.events s) leader f.by_node f.log ids old)
        × ((at : ℕ) → AppendConflicts c.kind (at_server c h s) leader prev at old new
        → (f : Truncates c.kind (at_server c h s) leader (h.events s) new) × (f.log ≡ take (at - 1) (log_after (h.events s)))))
    both =
        appends_keep_rules c.kind (at_server c h s) is_cluster.ranked law (safe c is_cluster h earlier past) (h.events s)
        (law.servers s) leader prev ids committed old new is whole whole' sent

    with_shape : (upto : Option (LogIdOf C))
        → ((f : Follows c.kind (at_server c h s) leader upto (h.events s) new)
        × MatchShape c.kind (at_server c h s) (h.events s) leader f.by_node f.log ids old)
        → (step : IsStepOf c s h earlier new) × IsMatched c step.after s leader upto
        × FromLeader c h leader
        (λ by_node. MatchShape c.kind (at_server c h s) (h.events s) leader by_node (log_after (step.after.events s)) ids old)
    with_shape upto r =
        let f = r.0 in
        let m = matched c is_cluster h earlier past s leader new upto f in (
          m.0,
          m.1,
          record {
            by_node = f.by_node;
            is_for = f.is_for;
            elected = f.append.elected;
            shape = subst (λ (l : List (Entry C D)). MatchShape c.kind (at_server c h s) (h.events s) leader f.by_node l ids old)
                (sym m.2) r.1;
          },
        )

    truncated : (at : ℕ) → ((f : Truncates c.kind (at_server c h s) leader (h.events s) new)
        × (f.log ≡ take (at - 1) (log_after (h.events s))))
        → (step : IsStepOf c s h earlier new) × (log_after (step.after.events s) ≡ take (at - 1) (log_after (h.events s)))
    truncated at r =
        let f = r.0 in (
          after_event c is_cluster h earlier past s new (Append (c.kind.committed leader) f.by_node f.log) f.append tt
              f.server f.still_known,
          ap log_after (own_events c is_cluster h s (Append (c.kind.committed leader) f.by_node f.log)) ∙ r.1,
        )

pub installs_are_steps : {L C K D M : Type 0} → InstallsAreSteps L C K D M
installs_are_steps {L} {C} {K} {D} {M} c is_cluster h earlier past s leader upto old new is whole sent m =
    let law = follows c is_cluster h earlier past in
    let r =
    installs_keep_rules c.kind (at_server c h s) is_cluster.ranked law (safe c is_cluster h earlier past) (h.events s)
    (law.servers s) leader upto old new is whole sent m in
    let f = r.0 in
    let x = matched c is_cluster h earlier past s leader new (Some upto) f in (
      x.0,
      x.1,
      record {
        by_node = f.by_node;
        is_for = f.is_for;
        elected = f.append.elected;
        shape = subst (λ (l : List (Entry C D)). InstallShape c.kind (at_server c h s) (h.events s) leader f.by_node l upto old new)
            (sym x.2) r.1;
      },
    )

module _ {L C K D M : Type 0} (c : SeenCluster L C K D M) where
  grows_at : (old new : List (Entry C D)) → IsPrefix old new → (i : ℕ) (id : LogIdOf C) → IsIdAt c.first old i id → IsIdAt c.first new i id
  grows_at old new st zero id is = is
  grows_at old new st (suc i) id is = (is.0, prefix_get i st (get_within old i is.0 is.1) ∙ is.1, is.2)

  pub grows_in : (old new : List (Entry C D)) → IsPrefix old new → (id : LogIdOf C) → IsInLog c.first c.terms old id
      → IsInLog c.first c.terms new id
  grows_in old new st id is = record { at = grows_at old new st id.index id is.at; in_use = is.in_use }

  grows_any : (h g : History C K D) (r : K) (old new : List (Entry C D)) → IsPrefix old new → (o : Option (LogIdOf C))
      → InLogIfAny c.kind (at_server c h r) old o → InLogIfAny c.kind (at_server c g r) new o
  grows_any h g r old new st None is = tt
  grows_any h g r old new st (Some id) is = grows_in old new st id is

  grows_all : (h g : History C K D) (r : K) (old new : List (Entry C D)) → IsPrefix old new → (ids : List (LogIdOf C))
      → AllInLog c.kind (at_server c h r) old ids → AllInLog c.kind (at_server c g r) new ids
  grows_all h g r old new st [] is = tt
  grows_all h g r old new st (x ∷ xs) is = (grows_in old new st x is.0, grows_all h g r old new st xs is.1)

pub steps_stay : {L C K D M : Type 0} → StepsStay L C K D M
steps_stay {L} {C} {K} {D} {M} c is_cluster h after earlier s past goes = record {
  servers = λ r x apart is.
      subst (λ (es : List (Event C K D)). IsServer c.kind (at_server c after r) x es) (sym (goes.others r apart))
      (moves c is_cluster h earlier past after goes.stable r x (h.events r) is);
  asked = λ r vote last a. record {
    candidate = a.candidate;
    is_for = a.is_for;
    other = a.other;
    not_committed = a.not_committed;
    term = a.term;
    in_use = a.in_use;
    own = goes.stable.voted a.candidate (c.kind.committed vote.leader_id) a.candidate a.own;
    log = rw (goes.stable.asked a.candidate (c.kind.committed vote.leader_id) a.candidate a.own) a.log;
  };
  sent = λ r leader prev ids committed x. still_sent r leader prev ids committed x;
  snapshot_sent = λ r leader upto x. still_snapshot r leader upto x;
  voted = λ r vote v. record {
    candidate = v.candidate;
    is_for = v.is_for;
    voted = goes.stable.voted r (c.kind.committed vote.leader_id) v.candidate v.voted;
  };
  promised = λ vote x. record {
    in_use = x.in_use;
    own = λ n real for. goes.stable.voted n (c.kind.committed vote.leader_id) n (x.own n real for);
    elected = λ n yes real for. (goes.stable.elected (c.kind.committed vote.leader_id) n (x.elected n yes real for)).0;
  };
  matched = λ r leader upto m.
      let el = goes.stable.elected (c.kind.committed leader) m.to_node m.elected in
      record {
        to_node = m.to_node;
        is_for = m.is_for;
        elected = el.0;
        there = grows_any c h after r (h.leader_log (c.kind.committed leader) m.to_node)
            (after.leader_log (c.kind.committed leader) m.to_node) el.2 upto m.there;
        acked = λ i at. goes.stable.acked r (c.kind.committed leader) m.to_node i (m.acked i at);
      };
}
  where
    still_sent : (r : K) (leader : L) (prev : Option (LogIdOf C)) (ids : List (LogIdOf C)) (committed : Option (LogIdOf C))
        → IsSent c.kind (at_server c h r) leader prev ids committed → IsSent c.kind (at_server c after r) leader prev ids committed
    still_sent r leader prev ids committed x =
        let t = c.kind.committed leader in
        let el = goes.stable.elected t x.by_node x.elected_in in
        let st = el.2 in
        let old_log = h.leader_log t x.by_node in
        let new_log = after.leader_log t x.by_node in
        record {
          by_node = x.by_node;
          is_for = x.is_for;
          in_use = x.in_use;
          elected_in = el.0;
          prev_in = grows_any c h after r old_log new_log st prev x.prev_in;
          all_in = grows_all c h after r old_log new_log st ids x.all_in;
          committed_in = grows_any c h after r old_log new_log st committed x.committed_in;
          is_committed = λ i at. known i (fits committed i at x.committed_in) (x.is_committed i at);
        }
      where
        fits : (o : Option (LogIdOf C)) (i : ℕ) → next_index o ≡ suc (suc i)
            → InLogIfAny c.kind (at_server c h r) (h.leader_log (c.kind.committed leader) x.by_node) o
            → suc i ≤ length (h.leader_log (c.kind.committed leader) x.by_node)
        fits None i at is = absurd (omega (arith, at))
        fits (Some id) i at is =
            let w = at_within c.first (h.leader_log (c.kind.committed leader) x.by_node) id.index id is.at in omega (arith, at, w)

        known : (i : ℕ) → suc i ≤ length (h.leader_log (c.kind.committed leader) x.by_node)
            → IsKnownCommitted c.rank (Q c is_cluster) h (c.kind.committed leader) x.by_node (suc i)
            → IsKnownCommitted c.rank (Q c is_cluster) after (c.kind.committed leader) x.by_node (suc i)
        known i le kn =
            let t = c.kind.committed leader in
            let here = take_of_prefix (suc i) (h.leader_log t x.by_node) (after.leader_log t x.by_node)
            (goes.stable.elected t x.by_node x.elected_in).2 le in
            let there = goes.stable.committed kn.in_term kn.by_leader kn.committed_to kn.counted_at kn.committed in
            record {
              in_term = kn.in_term;
              by_leader = kn.by_leader;
              committed_to = kn.committed_to;
              counted_at = kn.counted_at;
              committed = there.0;
              not_later = kn.not_later;
              is = rw (here, there.1) kn.is;
            }

    still_snapshot : (r : K) (leader : L) (upto : LogIdOf C) → IsSnapshotSent c.kind (at_server c h r) leader upto
        → IsSnapshotSent c.kind (at_server c after r) leader upto
    still_snapshot r leader upto x =
        let t = c.kind.committed leader in
        let el = goes.stable.elected t x.by_node x.elected_in in
        record {
          by_node = x.by_node;
          is_for = x.is_for;
          in_use = x.in_use;
          elected_in = el.0;
          upto_in = grows_in c (h.leader_log t x.by_node) (after.leader_log t x.by_node) el.2 upto x.upto_in;
          is_committed = λ i at. known i (x.is_committed i at) (fits i at);
        }
      where
        fits : (i : ℕ) → upto.index ≡ suc i → suc i ≤ length (h.leader_log (c.kind.committed leader) x.by_node)
        fits i at =
            let w = at_within c.first (h.leader_log (c.kind.committed leader) x.by_node) upto.index upto x.upto_in.at in
            omega (arith, at, w)

        known : (i : ℕ) → IsKnownCommitted c.rank (Q c is_cluster) h (c.kind.committed leader) x.by_node (suc i)
            → suc i ≤ length (h.leader_log (c.kind.committed leader) x.by_node)
            → IsKnownCommitted c.rank (Q c is_cluster) after (c.kind.committed leader) x.by_node (suc i)
        known i kn le =
            let t = c.kind.committed leader in
            let here = take_of_prefix (suc i) (h.leader_log t x.by_node) (after.leader_log t x.by_node)
            (goes.stable.elected t x.by_node x.elected_in).2 le in
            let there = goes.stable.committed kn.in_term kn.by_leader kn.committed_to kn.counted_at kn.committed in
            record {
              in_term = kn.in_term;
              by_leader = kn.by_leader;
              committed_to = kn.committed_to;
              counted_at = kn.counted_at;
              committed = there.0;
              not_later = kn.not_later;
              is = rw (here, there.1) kn.is;
            }
