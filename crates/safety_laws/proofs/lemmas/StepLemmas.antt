-- Executions follow the rules, and facts are stable in them, however a cluster uses configs.
use Rattle.std.specs.Prelude.{◌≡◌, ◌+◌, ◌⊎◌, ◌<◌, ◌≤◌, ℕ, suc, Bool, Some, List, [], ◌∷◌, ◌++◌, length, take}
use Rattle.std.proofs.Common.{refl, sym, ap, ◌∙◌, inl, inr, arith, append_assoc}
use Rattle.std.proofs.lemmas.Bool.{cases_lt}
use Rattle.std.proofs.lemmas.List.{take-append-le, length-append}
use Rattle.safety_laws.specs.Log.{AllOfTerm, Entry, IsPrefix}
use Rattle.safety_laws.specs.Events.{Ack, Append, Event, GrantVote, LateVote, History, Restart, log_after, term_after}
use Rattle.safety_laws.specs.Facts.{Counting, HasAcked, HasVoted, IsAppendEntriesBy, IsCommittedBy, IsElectedBy}
use Rattle.safety_laws.specs.Rules.{AppendsOwnTermBy, EventsFollowRulesBy, FollowsRaftBy, MayAckBy, MayAppendBy}
use Rattle.safety_laws.specs.Safety.{ElectionSafetyBy, IsSafeBy}
use Rattle.safety_laws.specs.Apply.{MayApplyBy}
use Rattle.safety_laws.specs.Ranks.{IsAmong}
use Rattle.safety_laws.specs.Execution.{ConfigRules, FactsAreStableBy, Init, IsExecutionBy, LeaderAppendsBy, MayDoBy, NextBy, ServerStepBy, StartsCampaignBy}
use Rattle.safety_laws.proofs.lemmas.PrefixLemmas.{append-nil, take_of_prefix, prefix_itself, prefix_trans, prefix_length, prefix_within, last_added}
use Rattle.safety_laws.proofs.lemmas.ServerLemmas.{IsFrom, had_now, log_from, last_of}
use Rattle.safety_laws.proofs.lemmas.ApplyLemmas.{state_machines_agree}

module _ {T D : Type 0} where
  AllOfTerm-append : (t : T) (a b : List (Entry T D)) → AllOfTerm t a → AllOfTerm t b → AllOfTerm t (a ++ b)
  AllOfTerm-append t [] b x y = y
  AllOfTerm-append t (e ∷ a) b x y = (x.0, AllOfTerm-append t a b x.1 y)

module _ {T ID D : Type 0} where
  voted_more : (t : T) (c : ID) (d : Event T ID D) (ds : List (Event T ID D)) → HasVoted t c ds
      → HasVoted t c (d ∷ ds)
  voted_more t c (GrantVote u e) ds v = inr v
  voted_more t c (LateVote u e) ds v = v
  voted_more t c (Append u e log) ds v = v
  voted_more t c (Ack u e n) ds v = v
  voted_more t c (Restart log) ds v = v

  acked_more : (t : T) (c : ID) (n : ℕ) (d : Event T ID D) (ds : List (Event T ID D))
      → HasAcked t c n ds → HasAcked t c n (d ∷ ds)
  acked_more t c n (GrantVote u e) ds a = a
  acked_more t c n (LateVote u e) ds a = a
  acked_more t c n (Append u e log) ds a = a
  acked_more t c n (Ack u e m) ds a = inr a
  acked_more t c n (Restart log) ds a = a

module _ {T ID D M : Type 0} (rules : ConfigRules T ID D M) where
  -- a leader appends each config by the rules
  abbrev pub Proposes : History T ID D → Type 0
  Proposes h =
      (t : T) (c : ID) (log : List (Entry T D)) (e : Entry T D) (m : M)
      → IsPrefix (log ++ e ∷ []) (h.leader_log t c) → length (h.candidate_log t c) ≤ length log
      → rules.config_of e.content ≡ Some m → rules.may_append h t c log m

-- what steps of a kind have to keep, so that their executions are safe: sets of servers that elect or
-- commit go on to do so, what a leader may append it may append later, and what else is to hold holds
pub record AreSteady {T ID D M : Type 0} (rank : T → ℕ) (rules : ConfigRules T ID D M)
    (Step : History T ID D → History T ID D → Type 0) (Kept : History T ID D → Type 0) : Type 0 where
  pub next : (old new : History T ID D) → Step old new → NextBy rank rules old new
  pub first : (h : History T ID D) → Init h → Kept h
  pub keeps : (old new : History T ID D) → Step old new → FactsAreStableBy rank rules.counting old new
      → Kept old → Kept new
  pub safe : (h : History T ID D) → FollowsRaftBy rank rules.counting h → Proposes rules h → Kept h
      → IsSafeBy rank rules.counting h
  pub elects : (old new : History T ID D) → Step old new → (t : T) (c : ID) (voters : ID → Bool)
      → IsElectedBy rank rules.counting old t c → new.candidate_log t c ≡ old.candidate_log t c
      → rules.counting.elects old t c voters → rules.counting.elects new t c voters
  pub commits : (old new : History T ID D) → Step old new → (t : T) (c : ID) (n m : ℕ)
      (having : ID → Bool) → IsElectedBy rank rules.counting old t c
      → IsPrefix (old.leader_log t c) (new.leader_log t c) → n ≤ length (old.leader_log t c)
      → rules.counting.commits old t c n m having → rules.counting.commits new t c n m having
  pub may_append : (old new : History T ID D) → FactsAreStableBy rank rules.counting old new → (t : T)
      (c : ID) (log : List (Entry T D)) (m : M) → rules.may_append old t c log m
      → rules.may_append new t c log m

module _ {T ID D M : Type 0} (rank : T → ℕ) (rules : ConfigRules T ID D M)
    (Step : History T ID D → History T ID D → Type 0) (Kept : History T ID D → Type 0)
    (steady : AreSteady rank rules Step Kept) where
  abbrev Q : Counting T ID D
  Q = rules.counting

  -- what every step keeps
  record Holds (h : History T ID D) : Type 0 where
    follows : FollowsRaftBy rank Q h
    extends : (t : T) (c : ID) → AppendsOwnTermBy rank Q h t c
    names : Proposes rules h
    kept : Kept h

  safe : (h : History T ID D) → Holds h → IsSafeBy rank Q h
  safe h holds = steady.safe h holds.follows holds.names holds.kept

  module _ (old new : History T ID D) (made : Step old new) (holds : Holds old) where
    step : NextBy rank rules old new
    step = steady.next old new made

    law : FollowsRaftBy rank Q old
    law = holds.follows

    one : ElectionSafetyBy rank Q old
    one = (safe old holds).election_safety

    voted_stays : (s : ID) (t : T) (c : ID) → HasVoted t c (old.events s) → HasVoted t c (new.events s)
    voted_stays s t c v = go (step.servers s)
      where
        go : ((new.events s ≡ old.events s) ⊎ ServerStepBy rank rules old new s)
            → HasVoted t c (new.events s)
        go (inl e) = rw e v
        go (inr d) = rw d.is (voted_more t c d.event (old.events s) v)

    acked_stays : (s : ID) (t : T) (c : ID) (n : ℕ) → HasAcked t c n (old.events s)
        → HasAcked t c n (new.events s)
    acked_stays s t c n a = go (step.servers s)
      where
        go : ((new.events s ≡ old.events s) ⊎ ServerStepBy rank rules old new s)
            → HasAcked t c n (new.events s)
        go (inl e) = rw e a
        go (inr d) = rw d.is (acked_more t c n d.event (old.events s) a)

    writes : (s : ID) (t : T) (c : ID) → HasVoted t c (old.events s)
        → LeaderAppendsBy rank rules old new t c
    writes s t c v = go (step.leaders t c)
      where
        go : (StartsCampaignBy rank rules old new t c ⊎ LeaderAppendsBy rank rules old new t c)
            → LeaderAppendsBy rank rules old new t c
        go (inl x) = absurd (x.no_votes s v)
        go (inr w) = w

    elected_stays : (t : T) (c : ID) → IsElectedBy rank Q old t c → IsElectedBy rank Q new t c
    elected_stays t c el = record {
      voters = el.voters;
      is_quorum =
          steady.elects old new made t c el.voters el (writes c t c el.for_itself).candidate_log el.is_quorum;
      have_voted = λ v in_set. voted_stays v t c (el.have_voted v in_set);
      for_itself = voted_stays c t c el.for_itself;
    }

    grows : (t : T) (c : ID) → IsElectedBy rank Q old t c → IsPrefix (old.leader_log t c) (new.leader_log t c)
    grows t c el =
        let w = writes c t c el.for_itself in record { rest = w.added; is = w.is }

    take_stays : (t : T) (c : ID) (n : ℕ) → IsElectedBy rank Q old t c → n ≤ length (old.leader_log t c)
        → take n (new.leader_log t c) ≡ take n (old.leader_log t c)
    take_stays t c n el le =
        let w = writes c t c el.for_itself in
        ap (λ (x : List (Entry T D)). take n x) w.is ∙ take-append-le n (old.leader_log t c) w.added le

    committed_stays : (t : T) (c : ID) (n m : ℕ) → IsCommittedBy rank Q old t c n m
        → IsCommittedBy rank Q new t c n m
    committed_stays t c n m done = record {
      elected = elected_stays t c done.elected;
      own_term = rw (writes c t c done.elected.for_itself).candidate_log done.own_term;
      written = omega (arith, done.written, prefix_length (grows t c done.elected));
      having = done.having;
      is_quorum =
          steady.commits old new made t c n m done.having done.elected (grows t c done.elected) done.written
          done.is_quorum;
      have_acked = λ v in_set. acked_stays v t c n (done.have_acked v in_set);
    }

    sent_stays : (t : T) (c : ID) (i : ℕ) (es : List (Entry T D)) → IsAppendEntriesBy rank Q old t c i es
        → IsAppendEntriesBy rank Q new t c i es
    sent_stays t c i es sent = record {
      elected = elected_stays t c sent.elected;
      within = omega (arith, sent.within, prefix_length (grows t c sent.elected));
      are =
          take_stays t c (i + length es) sent.elected sent.within ∙ sent.are
          ∙ ap (λ (x : List (Entry T D)). x ++ es)
          (sym (take_stays t c i sent.elected (omega (arith, sent.within))));
    }

    facts_stay : FactsAreStableBy rank Q old new
    facts_stay = record {
      sent = sent_stays;
      asked = λ s t c v. (writes s t c v).candidate_log;
      voted = voted_stays;
      acked = acked_stays;
      elected = λ t c el. (
        elected_stays t c el,
        (writes c t c el.for_itself).candidate_log,
        grows t c el,
      );
      committed = λ t c n m done. (
        committed_stays t c n m done,
        take_stays t c n done.elected done.written,
      );
    }

    extends : (t : T) (c : ID) → AppendsOwnTermBy rank Q new t c
    extends t c = go (step.leaders t c)
      where
        go : (StartsCampaignBy rank rules old new t c ⊎ LeaderAppendsBy rank rules old new t c)
            → AppendsOwnTermBy rank Q new t c
        go (inl x) =
            record { added = []; is = x.nothing_written ∙ sym (append-nil (new.candidate_log t c)); own_term = tt }
        go (inr w) =
            let x = holds.extends t c in
            record {
              added = x.added ++ w.added;
              is = w.is ∙ ap (λ (y : List (Entry T D)). y ++ w.added) x.is
                  ∙ append_assoc (old.candidate_log t c) x.added w.added
                  ∙ ap (λ (y : List (Entry T D)). y ++ (x.added ++ w.added)) (sym w.candidate_log);
              own_term = AllOfTerm-append t x.added w.added x.own_term w.own_term;
            }

    -- no log has an entry that its leader has not written yet
    not_yet : (s : ID) (ds : List (Event T ID D)) → EventsFollowRulesBy rank Q old s ds → (t : T) (c : ID)
        → IsElectedBy rank Q old t c → (p : List (Entry T D)) → IsPrefix p (log_after ds)
        → IsPrefix p (new.leader_log t c) → IsPrefix p (old.leader_log t c)
    not_yet s ds ok t c el p in_log in_new = go (cases_lt (length (old.leader_log t c)) (length p))
      where
        x : AppendsOwnTermBy rank Q new t c
        x = extends t c

        go : ((length (old.leader_log t c) < length p) ⊎ (length p ≤ length (old.leader_log t c)))
            → IsPrefix p (old.leader_log t c)
        go (inr le) = prefix_within in_new (grows t c el) le
        go (inl lt) =
            by_source (log_from rank Q old law (suc (term_after rank ds)) s ds ok (omega arith) p (had_now ds p in_log))
          where
            offered_less : length (new.candidate_log t c) < length p
            offered_less =
                rw (writes c t c el.for_itself).candidate_log
                (omega (
                  arith,
                  lt,
                  ap length (holds.extends t c).is,
                  length-append (old.candidate_log t c) (holds.extends t c).added,
                ))

            by_source : IsFrom rank Q old law (suc (term_after rank ds)) p → IsPrefix p (old.leader_log t c)
            by_source (inl e) = absurd (omega (arith, lt, e))
            by_source (inr o) =
                let e : o.term ≡ t =
                law.ranks o.term t o.leader c o.elected el
                (sym (last_of rank Q old law (suc (term_after rank ds)) p o)
                ∙ last_added rank t (new.candidate_log t c) x.added x.is x.own_term in_new offered_less) in
                let el' : IsElectedBy rank Q old t o.leader = rw e at o.elected in
                let f : o.leader ≡ c = one t o.leader c el' el in
                rw (e, f) at o.start

    may_append : (s : ID) (ds : List (Event T ID D)) → EventsFollowRulesBy rank Q old s ds → (t : T)
        (c : ID) (log : List (Entry T D)) → MayAppendBy rank Q old ds t c log
        → MayAppendBy rank Q new ds t c log
    may_append s ds ok t c log may = record {
      term = may.term;
      elected = elected_stays t c may.elected;
      keeps = λ p in_log in_new. may.keeps p in_log (not_yet s ds ok t c may.elected p in_log in_new);
      of_these = go may.of_these;
    }
      where
        go : (IsPrefix log (log_after ds) ⊎ IsPrefix log (old.leader_log t c))
            → IsPrefix log (log_after ds) ⊎ IsPrefix log (new.leader_log t c)
        go (inl x) = inl x
        go (inr x) = inr (prefix_trans x (grows t c may.elected))

    may_ack : (ds : List (Event T ID D)) (t : T) (c : ID) (n : ℕ) → MayAckBy rank Q old ds t c n
        → MayAckBy rank Q new ds t c n
    may_ack ds t c n may = record {
      reached = may.reached;
      elected = elected_stays t c may.elected;
      written = omega (arith, may.written, prefix_length (grows t c may.elected));
      has_kept = rw (take_stays t c n may.elected may.written) may.has_kept;
    }

    allowed_stays : (s : ID) (ds : List (Event T ID D)) → EventsFollowRulesBy rank Q old s ds
        → ((t : T) (c : ID) → HasVoted t c ds → HasVoted t c (old.events s)) → EventsFollowRulesBy rank Q new s ds
    allowed_stays s [] ok among = tt
    allowed_stays s (GrantVote t c ∷ ds) ok among =
        let e : new.candidate_log t c ≡ old.candidate_log t c =
        (writes s t c (among t c (inl (refl, refl)))).candidate_log in (
          record {
            term = ok.0.term;
            up_to_date = rw e ok.0.up_to_date;
            own = λ itself. e ∙ ok.0.own itself;
          },
          allowed_stays s ds ok.1 (λ u d v. among u d (inr v)),
        )
    allowed_stays s (LateVote t c ∷ ds) ok among = (ok.0, allowed_stays s ds ok.1 among)
    allowed_stays s (Append t c log ∷ ds) ok among =
        (may_append s ds ok.1 t c log ok.0, allowed_stays s ds ok.1 among)
    allowed_stays s (Ack t c n ∷ ds) ok among =
        (may_ack ds t c n ok.0, allowed_stays s ds ok.1 among)
    allowed_stays s (Restart log ∷ ds) ok among = (ok.0, allowed_stays s ds ok.1 among)

    one_more : (s : ID) (d : Event T ID D) → MayDoBy rank rules old new s d
        → EventsFollowRulesBy rank Q new s (old.events s) → EventsFollowRulesBy rank Q new s (d ∷ old.events s)
    one_more s (GrantVote t c) may ok = (may, ok)
    one_more s (LateVote t c) may ok = (may, ok)
    one_more s (Append t c log) may ok =
        (may_append s (old.events s) (law.servers s) t c log may, ok)
    one_more s (Ack t c n) may ok = (may_ack (old.events s) t c n may, ok)
    one_more s (Restart log) may ok = (may, ok)

    servers : (s : ID) → EventsFollowRulesBy rank Q new s (new.events s)
    servers s =
        go (step.servers s) (allowed_stays s (old.events s) (law.servers s) (λ t c v. v))
      where
        go : ((new.events s ≡ old.events s) ⊎ ServerStepBy rank rules old new s)
            → EventsFollowRulesBy rank Q new s (old.events s) → EventsFollowRulesBy rank Q new s (new.events s)
        go (inl e) ok = rw e ok
        go (inr d) ok = rw d.is (one_more s d.event d.may ok)

    names : Proposes rules new
    names t c log e m st long is = go (step.leaders t c)
      where
        go : (StartsCampaignBy rank rules old new t c ⊎ LeaderAppendsBy rank rules old new t c)
            → rules.may_append new t c log m
        go (inl x) =
            absurd (omega (
              arith,
              long,
              prefix_length st,
              length-append log (e ∷ []),
              ap length x.nothing_written,
            ))
        go (inr w) = by_length (cases_lt (length log) (length (old.leader_log t c)))
          where
            by_length : ((length log < length (old.leader_log t c))
                ⊎ (length (old.leader_log t c) ≤ length log))
                → rules.may_append new t c log m
            by_length (inl lt) =
                let st' : IsPrefix (log ++ e ∷ []) (old.leader_log t c) =
                prefix_within st
                (let g : IsPrefix (old.leader_log t c) (new.leader_log t c) = record { rest = w.added; is = w.is } in g)
                (omega (arith, lt, length-append log (e ∷ []))) in
                steady.may_append old new facts_stay t c log m
                (holds.names t c log e m st' (rw w.candidate_log at long) is)
            by_length (inr ge) = steady.may_append old new facts_stay t c log m (w.configs log e m st ge is)

    holds_after : Holds new
    holds_after = record {
      follows = record { servers = servers; leaders = λ t c el. extends t c; ranks = step.ranks };
      extends = extends;
      names = names;
      kept = steady.keeps old new made facts_stay holds.kept;
    }

  empty_holds : (h : History T ID D) → Init h → Holds h
  empty_holds h empty = record {
    follows = record {
      servers = λ s. rw (empty.events s) tt;
      leaders = λ t c el. extends' t c;
      ranks = λ t u c d x y e. absurd (rw (empty.events c) at x.for_itself);
    };
    extends = extends';
    names = names';
    kept = steady.first h empty;
  }
    where
      extends' : (t : T) (c : ID) → AppendsOwnTermBy rank Q h t c
      extends' t c =
          record { added = []; is = empty.nothing_written t c ∙ sym (append-nil (h.candidate_log t c)); own_term = tt }

      names' : Proposes rules h
      names' t c log e m st long is =
          absurd (omega (
            arith,
            long,
            prefix_length st,
            length-append log (e ∷ []),
            ap length (empty.nothing_written t c),
          ))

  run_holds : (h : History T ID D) (earlier : List (History T ID D)) → IsExecutionBy Step h earlier → Holds h
  run_holds h [] run = empty_holds h run
  run_holds h (old ∷ earlier) run = holds_after old h run.0 (run_holds old earlier run.1)

  -- a history of an execution is itself the last one of an execution
  record IsLast (g : History T ID D) : Type 0 where
    before : List (History T ID D)
    run : IsExecutionBy Step g before

  last_of_among : (last : History T ID D) (earlier : List (History T ID D))
      → IsExecutionBy Step last earlier → (g : History T ID D)
      → IsAmong g (last ∷ earlier) → IsLast g
  last_of_among last earlier run g (inl e) = record { before = earlier; run = rw e run }
  last_of_among last [] run g (inr among) = absurd among
  last_of_among last (old ∷ earlier) run g (inr among) =
      last_of_among old earlier run.1 g among

  pub execution_is_safe : (last : History T ID D)
      (earlier : List (History T ID D)) → IsExecutionBy Step last earlier
      → (h : History T ID D) → IsAmong h (last ∷ earlier) → IsSafeBy rank Q h
  execution_is_safe last earlier run h among =
      let x = last_of_among last earlier run h among in safe h (run_holds h x.before x.run)

  -- each history of an execution follows the rules
  pub execution_follows : (last : History T ID D)
      (earlier : List (History T ID D)) → IsExecutionBy Step last earlier
      → (h : History T ID D) → IsAmong h (last ∷ earlier) → FollowsRaftBy rank Q h
  execution_follows last earlier run h among =
      let x = last_of_among last earlier run h among in
      (run_holds h x.before x.run).follows

  -- leaders append configs by the rules in each history of an execution
  pub execution_proposes : (last : History T ID D) (earlier : List (History T ID D))
      → IsExecutionBy Step last earlier → (h : History T ID D) → IsAmong h (last ∷ earlier)
      → Proposes rules h
  execution_proposes last earlier run h among =
      let x = last_of_among last earlier run h among in (run_holds h x.before x.run).names

  pub execution_kept : (last : History T ID D) (earlier : List (History T ID D))
      → IsExecutionBy Step last earlier → (h : History T ID D) → IsAmong h (last ∷ earlier) → Kept h
  execution_kept last earlier run h among =
      let x = last_of_among last earlier run h among in (run_holds h x.before x.run).kept

  facts_same : (h : History T ID D) → FactsAreStableBy rank Q h h
  facts_same h = record {
    sent = λ t c i es x. x;
    asked = λ s t c x. refl;
    voted = λ s t c x. x;
    acked = λ s t c n x. x;
    elected = λ t c x. (x, refl, prefix_itself (h.leader_log t c));
    committed = λ t c n a x. (x, refl);
  }

  facts_trans : (a b c : History T ID D) → FactsAreStableBy rank Q a b
      → FactsAreStableBy rank Q b c
      → FactsAreStableBy rank Q a c
  facts_trans a b c f g = record {
    sent = λ t d i es x. g.sent t d i es (f.sent t d i es x);
    asked = λ s t d x. g.asked s t d (f.voted s t d x) ∙ f.asked s t d x;
    voted = λ s t d x. g.voted s t d (f.voted s t d x);
    acked = λ s t d n x. g.acked s t d n (f.acked s t d n x);
    elected = λ t d x.
        let y = f.elected t d x in let z = g.elected t d y.0 in
        (z.0, z.1 ∙ y.1, prefix_trans y.2 z.2);
    committed = λ t d n m x.
        let y = f.committed t d n m x in let z = g.committed t d n m y.0 in (z.0, z.1 ∙ y.1);
  }

  pub step_keeps_facts : (last old : History T ID D)
      (earlier : List (History T ID D))
      → IsExecutionBy Step last (old ∷ earlier)
      → FactsAreStableBy rank Q old last
  step_keeps_facts last old earlier run =
      facts_stay old last run.0 (run_holds old earlier run.1)

  pub execution_keeps_facts : (last : History T ID D)
      (earlier : List (History T ID D)) → IsExecutionBy Step last earlier
      → (h : History T ID D) → IsAmong h (last ∷ earlier)
      → FactsAreStableBy rank Q h last
  execution_keeps_facts last earlier run h (inl e) = rw e (facts_same last)
  execution_keeps_facts last [] run h (inr among) = absurd among
  execution_keeps_facts last (old ∷ earlier) run h (inr among) =
      facts_trans h old last (execution_keeps_facts old earlier run.1 h among)
      (step_keeps_facts last old earlier run)

  -- the events of a server up to an earlier time follow the rules in the last history
  rules_before : (last : History T ID D) (s : ID) (e : Event T ID D) (es : List (Event T ID D))
      → EventsFollowRulesBy rank Q last s (e ∷ es) → EventsFollowRulesBy rank Q last s es
  rules_before last s (GrantVote t c) es ok = ok.1
  rules_before last s (LateVote t c) es ok = ok.1
  rules_before last s (Append t c log) es ok = ok.1
  rules_before last s (Ack t c n) es ok = ok.1
  rules_before last s (Restart log) es ok = ok.1

  rules_of_step : (last x old : History T ID D) (s : ID) → Step old x
      → EventsFollowRulesBy rank Q last s (x.events s) → EventsFollowRulesBy rank Q last s (old.events s)
  rules_of_step last x old s made ok = go ((steady.next old x made).servers s)
    where
      go : ((x.events s ≡ old.events s) ⊎ ServerStepBy rank rules old x s)
          → EventsFollowRulesBy rank Q last s (old.events s)
      go (inl e) = rw e at ok
      go (inr d) = rules_before last s d.event (old.events s) (rw d.is at ok)

  rules_of_past : (last x : History T ID D) (earlier : List (History T ID D))
      → IsExecutionBy Step x earlier → (s : ID)
      → EventsFollowRulesBy rank Q last s (x.events s) → (g : History T ID D)
      → IsAmong g (x ∷ earlier) → EventsFollowRulesBy rank Q last s (g.events s)
  rules_of_past last x earlier run s ok g (inl e) = rw e ok
  rules_of_past last x [] run s ok g (inr among) = absurd among
  rules_of_past last x (old ∷ earlier) run s ok g (inr among) =
      rules_of_past last old earlier run.1 s (rules_of_step last x old s run.0 ok) g among

  -- what a server might apply at an earlier time, it may apply in the last history
  may_apply_still : (g last : History T ID D) → FollowsRaftBy rank Q g
      → FactsAreStableBy rank Q g last → (s : ID) (i : ℕ)
      → MayApplyBy rank Q g (g.events s) i → MayApplyBy rank Q last (g.events s) i
  may_apply_still g last follows facts s i x =
      let still = facts.elected x.term x.leader x.elected in
      let here = take_of_prefix i (g.leader_log x.term x.leader) (last.leader_log x.term x.leader)
      still.2 x.written in
      let there = facts.committed x.known.in_term x.known.by_leader x.known.committed_to
      x.known.counted_at x.known.committed in
      record {
        term = x.term;
        leader = x.leader;
        elected = still.0;
        written = omega (arith, x.written, prefix_length still.2);
        in_log = rw here x.in_log;
        known = record {
          in_term = x.known.in_term;
          by_leader = x.known.by_leader;
          committed_to = x.known.committed_to;
          counted_at = x.known.counted_at;
          committed = there.0;
          not_later = x.known.not_later;
          is = rw (here, there.1) x.known.is;
        };
      }

  pub all_times_agree : (last : History T ID D)
      (earlier : List (History T ID D)) → IsExecutionBy Step last earlier
      → (g h : History T ID D) → IsAmong g (last ∷ earlier) → IsAmong h (last ∷ earlier) → (s r : ID)
      (i k : ℕ) → MayApplyBy rank Q g (g.events s) i → MayApplyBy rank Q h (h.events r) k
      → IsPrefix (take i (log_after (g.events s))) (take k (log_after (h.events r)))
      ⊎ IsPrefix (take k (log_after (h.events r))) (take i (log_after (g.events s)))
  all_times_agree last earlier run g h in_g in_h s r i k x y =
      let follows = execution_follows last earlier run last (inl refl) in
      state_machines_agree rank Q last follows
      (execution_is_safe last earlier run last (inl refl)) s r (g.events s) (h.events r) i k
      (rules_of_past last last earlier run s (follows.servers s) g in_g)
      (rules_of_past last last earlier run r (follows.servers r) h in_h)
      (may_apply_still g last (execution_follows last earlier run g in_g)
      (execution_keeps_facts last earlier run g in_g) s i x)
      (may_apply_still h last (execution_follows last earlier run h in_h)
      (execution_keeps_facts last earlier run h in_h) r k y)
