-- What the checker keeps of a leader is what the events say.
use Rattle.std.specs.Prelude.{◌≡◌, ◌⊎◌, ◌<◌, ◌≤◌, ℕ, zero, suc, Bool, true, false, ◌&&◌, ◌||◌, nat_lt, if◌then◌else◌, Option, Some, None, List, [], ◌∷◌, ◌++◌, length, get_or, set, take, drop}
use Rattle.std.specs.List.{find, list_any, position, position_or_len, slice_get}
use Rattle.std.specs.Option.{MatchOption}
use Rattle.std.proofs.Common.{refl, sym, ap, ◌∙◌, subst, inl, inr, arith}
use Rattle.std.specs.Cmp.{first_so, second_so}
use Rattle.std.proofs.lemmas.Bool.{and_from, cases_Bool, ltb-false, ltb-true}
use Rattle.std.proofs.lemmas.Option.{slice_get_cases, slice_get_past, slice_get-get_or}
use Rattle.std.proofs.lemmas.List.Folds.{find-set, find_past, find_at}
use Rattle.std.proofs.lemmas.List.Quantifiers.{position-Some}
use Rattle.safety_laws.specs.Log.{Entry}
use Rattle.safety_laws.specs.Events.{Event, GrantVote, LateVote, Ack, term_after}
use Rattle.safety_laws.specs.Trace.{AreExact, Tests, TraceEvent, Campaigned, Granted, Appended, Acked, Restarted, Wrote, Committed, Applied, events_in, candidate_log_in, leader_log_in, has_voted, has_acked, has_campaigned, counts_votes, hold_no_config, is_earlier, is_known_by, is_prefix, is_quorum_of_log, same_leader, term_in, and_vote, and_append, and_restart}
use Rattle.safety_laws.specs.AppliedTrace.{has_votes_by, hold_at_most_one, some_upto}
use Rattle.trace_checker.specs.Counted.{is_elected_when, tests_by}
use Rattle.safety_laws.specs.declared.counting.ConfigsCount.{ConfigsCount}
use Rattle.safety_laws.specs.declared.counting.ConfigsCount.TheVariants.{WhenAppended, WhenApplied}
use Rattle.trace_checker.specs.Inner.Seen.{committed_in, tally, IsElectionOf, SeesLeader, SeesNoLeader, SeesLeaders, find_leader}
use Rattle.trace_checker.specs.Inner.CheckerState.{LeaderState}
use Rattle.safety_laws.proofs.lemmas.TestLemmas.{leader_right}
use Rattle.trace_checker.proofs.lemmas.CheckedServerLemmas.{place_of}

-- ---- lists

pub any_set_or : {X : Type 0} (f : X → Bool) (b : Bool) (xs : List X) (i : ℕ) (y d : X) → i < length xs
    → f y ≡ (b || f (get_or xs i d)) → list_any f (set xs i y) ≡ (b || list_any f xs)
any_set_or f b [] i y d h e = absurd (omega arith)
any_set_or f b (x ∷ xs) zero y d h e = ap (λ c. c || list_any f xs) e ∙ assoc b (f x) (list_any f xs)
  where
    assoc : (p q r : Bool) → (p || q || r) ≡ (p || (q || r))
    assoc true q r = refl
    assoc false q r = refl
any_set_or f b (x ∷ xs) (suc i) y d h e =
    ap (λ c. f x || c) (any_set_or f b xs i y d (omega arith) e) ∙ swap (f x) b (list_any f xs)
  where
    swap : (p q r : Bool) → (p || (q || r)) ≡ (q || (p || r))
    swap true true r = refl
    swap true false r = refl
    swap false true r = refl
    swap false false r = refl

pub any_push : {X : Type 0} (f : X → Bool) (xs : List X) (y : X)
    → list_any f (xs ++ y ∷ []) ≡ (f y || list_any f xs)
any_push f [] y = refl
any_push f (x ∷ xs) y = ap (λ c. f x || c) (any_push f xs y) ∙ swap (f x) (f y) (list_any f xs)
  where
    swap : (p q r : Bool) → (p || (q || r)) ≡ (q || (p || r))
    swap true true r = refl
    swap true false r = refl
    swap false true r = refl
    swap false false r = refl

pub none_found : {X : Type 0} (p : X → Bool) (xs : List X) → position p xs ≡ None → find p xs ≡ None
none_found {X} p xs e =
    find_at p xs
    ∙ slice_get_past xs (position_or_len p xs)
    (ltb-false (position_or_len p xs) (length xs)
    (under (nat_lt (position_or_len p xs) (length xs)) refl e))
  where
    under : (b : Bool) → nat_lt (position_or_len p xs) (length xs) ≡ b
        → (if b then Some (position_or_len p xs) else None) ≡ None
        → nat_lt (position_or_len p xs) (length xs) ≡ false
    under true h g = absurd (cc)
    under false h g = h

pub found_at : {X : Type 0} (p : X → Bool) (xs : List X) (i : ℕ) (d : X) → position p xs ≡ Some i
    → find p xs ≡ Some (get_or xs i d)
found_at {X} p xs i d e =
    let facts : (i < length xs) × (p (get_or xs i d) ≡ true)
    × ((j : ℕ) → j < i → p (get_or xs j d) ≡ false) = position-Some p xs i d e in
    find_at p xs ∙ ap (λ j. slice_get xs j) (sym (place_of p xs i e)) ∙ slice_get-get_or xs i d facts.0

-- an element that passes is found if it has a position
pub found_some : {X : Type 0} (p : X → Bool) (xs : List X) (i : ℕ) → position p xs ≡ Some i
    → (x : X) × (find p xs ≡ Some x)
found_some {X} p xs i e =
    go (slice_get_cases xs (position_or_len p xs)).1 (under (nat_lt (position_or_len p xs) (length xs)) refl e)
  where
    under : (b : Bool) → nat_lt (position_or_len p xs) (length xs) ≡ b
        → (if b then Some (position_or_len p xs) else None) ≡ Some i
        → position_or_len p xs < length xs
    under true h g = ltb-true (position_or_len p xs) (length xs) h
    under false h g = absurd (cc)

    go : (((x : X) × (position_or_len p xs < length xs) × (slice_get xs (position_or_len p xs) ≡ Some x)
        × (get_or xs (position_or_len p xs) x ≡ x))
        ⊎ ((length xs ≤ position_or_len p xs) × (slice_get xs (position_or_len p xs) ≡ None)))
        → position_or_len p xs < length xs → (x : X) × (find p xs ≡ Some x)
    go (inl r) lt = (r.0, find_at p xs ∙ r.2)
    go (inr r) lt = let h : length xs ≤ position_or_len p xs = r.0 in absurd (omega arith)

-- ---- tests that more passes

or_more : (a b c : Bool) → (a || c) ≡ true → (a || (b || c)) ≡ true
or_more true b c h = refl
or_more false true c h = refl
or_more false false c h = h

and_more : (a b c : Bool) → (a ≡ true → b ≡ true) → (a && c) ≡ true → (b && c) ≡ true
and_more true b c f h = and_from b c (f refl) h
and_more false b c f h = absurd (cc)

some_or : (a b c d : Bool) → (a ≡ true → b ≡ true) → (c ≡ true → d ≡ true) → (a || c) ≡ true → (b || d) ≡ true
some_or true b c d f g h = rw (f refl) refl
some_or false true c d f g h = refl
some_or false false c d f g h = g h

some_more : (n : ℕ) (f g : ℕ → Bool) → ((a : ℕ) → f a ≡ true → g a ≡ true) → some_upto n f ≡ true
    → some_upto n g ≡ true
some_more zero f g more h = more zero h
some_more (suc n) f g more h =
    some_or (f (suc n)) (g (suc n)) (some_upto n f) (some_upto n g) (more (suc n)) (λ e. some_more n f g more e) h

module _ {T ID D : Type 0} (k : Tests T ID D (Option D)) (exact : AreExact k) where
  -- nothing changes for the candidate or leader of a term
  pub record SameFor (es new : List (TraceEvent T ID D)) (u : T) (d : ID) : Type 0 where
    pub campaigned : has_campaigned k u d new ≡ has_campaigned k u d es
    pub candidate_log : candidate_log_in k new u d ≡ candidate_log_in k es u d
    pub leader_log : leader_log_in k new u d ≡ leader_log_in k es u d
    pub voted : (v : ID) → has_voted k u d (events_in k new v) ≡ has_voted k u d (events_in k es v)
    pub acked : (v : ID) (n : ℕ)
        → has_acked k u d n (events_in k new v) ≡ has_acked k u d n (events_in k es v)
    pub committed : committed_in k new u d ≡ committed_in k es u d
    pub elected : (noted : Bool) → IsElectionOf k.counting (is_elected_when k es u d) noted
        → IsElectionOf k.counting (is_elected_when k new u d) noted

  -- a candidate stays elected, or not elected, if its log, its votes and what is known to it stay
  pub elected_same : (es new : List (TraceEvent T ID D)) (u : T) (d : ID)
      → candidate_log_in k new u d ≡ candidate_log_in k es u d
      → ((v : ID) → has_voted k u d (events_in k new v) ≡ has_voted k u d (events_in k es v))
      → ((p : List (Entry T D)) → is_known_by k (is_earlier k u) p new ≡ is_known_by k (is_earlier k u) p es)
      → (noted : Bool) → IsElectionOf k.counting (is_elected_when k es u d) noted
      → IsElectionOf k.counting (is_elected_when k new u d) noted
  elected_same es new u d log voted known noted h =
      subst (λ (b : Bool). IsElectionOf k.counting b noted) (sym (go k.counting)) h
    where
      go : (w : ConfigsCount)
          → (tests_by k w).is_elected new u d ≡ (tests_by k w).is_elected es u d
      go WhenAppended = λ i. voted d i && is_quorum_of_log k (log i) (λ v. voted v i)
      go WhenApplied =
          λ i. voted d i && some_upto (length (log i))
          (λ a. (hold_no_config k (take a (log i)) || known (take a (log i)) i)
          && (hold_at_most_one k (drop a (log i)) && is_quorum_of_log k (take a (log i)) (λ v. voted v i)))

  -- whether a candidate is elected is noted when it has got a vote
  pub election_is : (elected noted : Bool) → elected ≡ noted → IsElectionOf k.counting elected noted
  election_is elected noted e = go k.counting
    where
      go : (w : ConfigsCount) → IsElectionOf w elected noted
      go WhenAppended = e
      go WhenApplied = λ h. e ∙ h

  -- a candidate that is elected stays elected when more is known
  pub elected_still : (es : List (TraceEvent T ID D)) (t : T) (c : ID) (n m : ℕ) (u : T) (d : ID) (noted : Bool)
      → IsElectionOf k.counting (is_elected_when k es u d) noted
      → IsElectionOf k.counting (is_elected_when k (Committed c t n m ∷ es) u d) noted
  elected_still es t c n m u d noted = go k.counting
    where
      log : List (Entry T D)
      log = candidate_log_in k es u d

      more : (a : ℕ) → has_votes_by k es u d a ≡ true → has_votes_by k (Committed c t n m ∷ es) u d a ≡ true
      more a h =
          and_more (counts_votes k es u d a) (counts_votes k (Committed c t n m ∷ es) u d a)
          (hold_at_most_one k (drop a log) && is_quorum_of_log k (take a log) (λ v. has_voted k u d (events_in k es v)))
          (or_more (hold_no_config k (take a log))
          (is_earlier k u t m && is_prefix k (take a log) (take n (leader_log_in k es t c)))
          (is_known_by k (is_earlier k u) (take a log) es)) h

      go : (w : ConfigsCount) → IsElectionOf w ((tests_by k w).is_elected es u d) noted
          → IsElectionOf w ((tests_by k w).is_elected (Committed c t n m ∷ es) u d) noted
      go WhenAppended h = h
      go WhenApplied h =
          λ yes. and_from (has_voted k u d (events_in k es d))
          (some_upto (length log) (has_votes_by k (Committed c t n m ∷ es) u d))
          (first_so (has_voted k u d (events_in k es d)) (some_upto (length log) (has_votes_by k es u d)) (h yes))
          (some_more (length log) (has_votes_by k es u d) (has_votes_by k (Committed c t n m ∷ es) u d) more
          (second_so (has_voted k u d (events_in k es d)) (some_upto (length log) (has_votes_by k es u d)) (h yes)))

  -- a candidate is elected by those who have voted for it
  pub elected_by : (es : List (TraceEvent T ID D)) (t : T) (c : ID) (log : List (Entry T D))
      (voters : ID → Bool) → candidate_log_in k es t c ≡ log
      → ((v : ID) → has_voted k t c (events_in k es v) ≡ voters v) → voters c ≡ true
      → is_elected_when k es t c ≡ tally k k.counting es t log voters
  elected_by es t c log voters same voted own = go k.counting
    where
      go : (w : ConfigsCount) → (tests_by k w).is_elected es t c ≡ tally k w es t log voters
      go WhenAppended = λ i. (voted c ∙ own) i && is_quorum_of_log k (same i) (λ v. voted v i)
      go WhenApplied =
          λ i. (voted c ∙ own) i && some_upto (length (same i))
          (λ a. (hold_no_config k (take a (same i)) || is_known_by k (is_earlier k t) (take a (same i)) es)
          && (hold_at_most_one k (drop a (same i)) && is_quorum_of_log k (take a (same i)) (λ v. voted v i)))

  pub stays : (es new : List (TraceEvent T ID D)) (u : T) (d : ID) → SameFor es new u d
      → (o : Option (LeaderState T ID D)) → MatchOption o (SeesNoLeader k es u d) (SeesLeader k es u d)
      → MatchOption o (SeesNoLeader k new u d) (SeesLeader k new u d)
  stays es new u d same None sees = record {
    campaigned = same.campaigned ∙ sees.campaigned;
    candidate_log = same.candidate_log ∙ sees.candidate_log;
    leader_log = same.leader_log ∙ sees.leader_log;
    voted = λ v. same.voted v ∙ sees.voted v;
    acked = λ v n. same.acked v n ∙ sees.acked v n;
    committed = same.committed ∙ sees.committed;
  }
  stays es new u d same (Some l) sees = record {
    campaigned = same.campaigned ∙ sees.campaigned;
    start = sees.start;
    candidate_log = same.candidate_log ∙ sees.candidate_log;
    leader_log = same.leader_log ∙ sees.leader_log;
    voted = λ v. same.voted v ∙ sees.voted v;
    distinct = sees.distinct;
    own_vote = sees.own_vote;
    elected = same.elected l.elected sees.elected;
    acked = λ v n. same.acked v n ∙ sees.acked v n;
    committed = same.committed ∙ sees.committed;
    within = sees.within;
  }

  -- a leader is replaced, because other facts hold of it now
  pub see_leader_set : (es new : List (TraceEvent T ID D)) (leaders : List (LeaderState T ID D)) (i : ℕ)
      (l : LeaderState T ID D) (t : T) (c : ID)
      → position (λ (x : LeaderState T ID D). same_leader k x.term x.id t c) leaders ≡ Some i
      → same_leader k l.term l.id t c ≡ true → SeesLeaders k es leaders
      → ((u : T) (d : ID) → same_leader k t c u d ≡ false → SameFor es new u d)
      → SeesLeader k new t c l → SeesLeaders k new (set leaders i l)
  see_leader_set es new leaders i l t c at_i is_l sees others one u d =
      go (cases_Bool (same_leader k t c u d))
    where
      facts : (i < length leaders)
          × (same_leader k (get_or leaders i l).term (get_or leaders i l).id t c ≡ true)
          × ((j : ℕ) → j < i
          → same_leader k (get_or leaders j l).term (get_or leaders j l).id t c ≡ false)
      facts = position-Some (λ (x : LeaderState T ID D). same_leader k x.term x.id t c) leaders i l at_i

      here : find_leader k (set leaders i l) t c ≡ Some l
      here =
          find-set (λ (x : LeaderState T ID D). same_leader k x.term x.id t c) leaders i l
          (place_of (λ (x : LeaderState T ID D). same_leader k x.term x.id t c) leaders i at_i) facts.0 is_l

      apart : (x : LeaderState T ID D) → same_leader k x.term x.id t c ≡ true
          → same_leader k t c u d ≡ false → same_leader k x.term x.id u d ≡ false
      apart x a b =
          let e = leader_right k exact x.term t x.id c a in
          let e0 : x.term ≡ t = e.0 in
          let e1 : x.id ≡ c = e.1 in
          rw (e0, e1) b

      go : (same_leader k t c u d ≡ true) ⊎ (same_leader k t c u d ≡ false)
          → MatchOption (find_leader k (set leaders i l) u d) (SeesNoLeader k new u d)
          (SeesLeader k new u d)
      go (inl e) =
          let q = leader_right k exact t u c d e in
          let q0 : t ≡ u = q.0 in
          let q1 : c ≡ d = q.1 in
          let at_tc : MatchOption (find_leader k (set leaders i l) t c) (SeesNoLeader k new t c)
          (SeesLeader k new t c) =
          subst (λ (o : Option (LeaderState T ID D)). MatchOption o (SeesNoLeader k new t c)
          (SeesLeader k new t c)) (sym here) one in
          subst (λ (x : T). MatchOption (find_leader k (set leaders i l) x d) (SeesNoLeader k new x d)
          (SeesLeader k new x d)) q0
          (subst (λ (x : ID). MatchOption (find_leader k (set leaders i l) t x) (SeesNoLeader k new t x)
          (SeesLeader k new t x)) q1 at_tc)
      go (inr e) =
          let there : find_leader k (set leaders i l) u d ≡ find_leader k leaders u d =
          find_past (λ (x : LeaderState T ID D). same_leader k x.term x.id u d) leaders i l l
          (apart (get_or leaders i l) facts.1 e) (apart l is_l e) in
          subst (λ (o : Option (LeaderState T ID D)). MatchOption o (SeesNoLeader k new u d)
          (SeesLeader k new u d)) (sym there)
          (stays es new u d (others u d e) (find_leader k leaders u d) (sees u d))

  -- a candidate is added
  pub see_leader_added : (es new : List (TraceEvent T ID D)) (leaders : List (LeaderState T ID D))
      (l : LeaderState T ID D) (t : T) (c : ID) → same_leader k l.term l.id t c ≡ true
      → SeesLeaders k es leaders
      → ((u : T) (d : ID) → same_leader k t c u d ≡ false → SameFor es new u d)
      → SeesLeader k new t c l → SeesLeaders k new (l ∷ leaders)
  see_leader_added es new leaders l t c is_l sees others one u d =
      go (same_leader k t c u d) refl
    where
      go : (b : Bool) → same_leader k t c u d ≡ b
          → MatchOption (find_leader k (l ∷ leaders) u d) (SeesNoLeader k new u d)
          (SeesLeader k new u d)
      go true e =
          let q = leader_right k exact t u c d e in
          let q0 : t ≡ u = q.0 in
          let q1 : c ≡ d = q.1 in
          let is : same_leader k l.term l.id u d ≡ true =
          subst (λ (x : T). same_leader k l.term l.id x d ≡ true) q0
          (subst (λ (x : ID). same_leader k l.term l.id t x ≡ true) q1 is_l) in
          let seen : SeesLeader k new u d l =
          subst (λ (x : T). SeesLeader k new x d l) q0
          (subst (λ (x : ID). SeesLeader k new t x l) q1 one) in
          rw is seen
      go false e =
          let w = leader_right k exact l.term t l.id c is_l in
          let w0 : l.term ≡ t = w.0 in
          let w1 : l.id ≡ c = w.1 in
          let is : same_leader k l.term l.id u d ≡ false = rw (w0, w1) e in
          rw is (stays es new u d (others u d e) (find_leader k leaders u d) (sees u d))

  -- ---- events that change nothing for a leader

  vote_of_other : (b : Bool) (t u : T) (c d : ID) (evs : List (Event T ID D))
      → same_leader k t c u d ≡ false
      → has_voted k u d (if b then GrantVote t c ∷ evs else evs) ≡ has_voted k u d evs
  vote_of_other true t u c d evs e = rw e refl
  vote_of_other false t u c d evs e = refl

  pub vote_no_ack : (b : Bool) (t u : T) (c d : ID) (n : ℕ) (evs : List (Event T ID D))
      → has_acked k u d n (if b then GrantVote t c ∷ evs else evs) ≡ has_acked k u d n evs
  vote_no_ack true t u c d n evs = refl
  vote_no_ack false t u c d n evs = refl

  vote_in_other : (b : Bool) (t u : T) (c d : ID) (evs : List (Event T ID D))
      → same_leader k t c u d ≡ false
      → has_voted k u d (if b then and_vote k t c evs else evs) ≡ has_voted k u d evs
  vote_in_other true t u c d evs e = go (nat_lt (term_after k.rank evs) (k.rank t))
    where
      go : (v : Bool) → has_voted k u d ((if v then GrantVote t c else LateVote t c) ∷ evs)
          ≡ has_voted k u d evs
      go true = rw e refl
      go false = refl
  vote_in_other false t u c d evs e = refl

  pub any_vote_no_ack : (b : Bool) (t u : T) (c d : ID) (n : ℕ) (evs : List (Event T ID D))
      → has_acked k u d n (if b then and_vote k t c evs else evs) ≡ has_acked k u d n evs
  any_vote_no_ack true t u c d n evs = go (nat_lt (term_after k.rank evs) (k.rank t))
    where
      go : (v : Bool) → has_acked k u d n ((if v then GrantVote t c else LateVote t c) ∷ evs)
          ≡ has_acked k u d n evs
      go true = refl
      go false = refl
  any_vote_no_ack false t u c d n evs = refl

  append_no_vote : (b : Bool) (t u : T) (c d : ID) (n : ℕ) (sent : List (Entry T D))
      (evs : List (Event T ID D))
      → has_voted k u d (if b then and_append t c n sent evs else evs) ≡ has_voted k u d evs
  append_no_vote true t u c d n sent evs = refl
  append_no_vote false t u c d n sent evs = refl

  append_no_ack : (b : Bool) (t u : T) (c d : ID) (n m : ℕ) (sent : List (Entry T D))
      (evs : List (Event T ID D))
      → has_acked k u d m (if b then and_append t c n sent evs else evs) ≡ has_acked k u d m evs
  append_no_ack true t u c d n m sent evs = refl
  append_no_ack false t u c d n m sent evs = refl

  restart_no_vote : (b : Bool) (u : T) (d : ID) (n : ℕ) (evs : List (Event T ID D))
      → has_voted k u d (if b then and_restart n evs else evs) ≡ has_voted k u d evs
  restart_no_vote true u d n evs = refl
  restart_no_vote false u d n evs = refl

  restart_no_ack : (b : Bool) (u : T) (d : ID) (n m : ℕ) (evs : List (Event T ID D))
      → has_acked k u d m (if b then and_restart n evs else evs) ≡ has_acked k u d m evs
  restart_no_ack true u d n m evs = refl
  restart_no_ack false u d n m evs = refl

  pub ack_no_vote : (b : Bool) (t u : T) (c d : ID) (n : ℕ) (evs : List (Event T ID D))
      → has_voted k u d (if b then Ack t c n ∷ evs else evs) ≡ has_voted k u d evs
  ack_no_vote true t u c d n evs = refl
  ack_no_vote false t u c d n evs = refl

  ack_of_other : (b : Bool) (t u : T) (c d : ID) (n m : ℕ) (evs : List (Event T ID D))
      → same_leader k t c u d ≡ false
      → has_acked k u d m (if b then Ack t c n ∷ evs else evs) ≡ has_acked k u d m evs
  ack_of_other true t u c d n m evs e = rw e refl
  ack_of_other false t u c d n m evs e = refl

  pub campaign_of_other : (es : List (TraceEvent T ID D)) (t u : T) (c d : ID)
      → same_leader k t c u d ≡ false → SameFor es (Campaigned c t ∷ es) u d
  campaign_of_other es t u c d e = record {
    campaigned = rw e refl;
    candidate_log = rw e refl;
    leader_log = rw e refl;
    voted = λ v. vote_of_other (k.same_id c v) t u c d (events_in k es v) e;
    acked = λ v n. vote_no_ack (k.same_id c v) t u c d n (events_in k es v);
    committed = refl;
    elected = elected_same es (Campaigned c t ∷ es) u d (rw e refl)
        (λ v. vote_of_other (k.same_id c v) t u c d (events_in k es v) e) (λ p. refl);
  }

  pub grant_to_other : (es : List (TraceEvent T ID D)) (s : ID) (t u : T) (c d : ID)
      → same_leader k t c u d ≡ false → SameFor es (Granted s t c ∷ es) u d
  grant_to_other es s t u c d e = record {
    campaigned = refl;
    candidate_log = refl;
    leader_log = refl;
    voted = λ v. vote_in_other (k.same_id s v) t u c d (events_in k es v) e;
    acked = λ v n. any_vote_no_ack (k.same_id s v) t u c d n (events_in k es v);
    committed = refl;
    elected = elected_same es (Granted s t c ∷ es) u d refl (λ v. vote_in_other (k.same_id s v) t u c d (events_in k es v) e) (λ p. refl);
  }

  pub late_vote_same : (es : List (TraceEvent T ID D)) (s : ID) (t u : T) (c d : ID)
      → nat_lt (term_in k es s) (k.rank t) ≡ false → SameFor es (Granted s t c ∷ es) u d
  late_vote_same es s t u c d late = record {
    campaigned = refl;
    candidate_log = refl;
    leader_log = refl;
    voted = λ v. no_vote v (k.same_id s v) refl;
    acked = λ v n. any_vote_no_ack (k.same_id s v) t u c d n (events_in k es v);
    committed = refl;
    elected = elected_same es (Granted s t c ∷ es) u d refl (λ v. no_vote v (k.same_id s v) refl) (λ p. refl);
  }
    where
      no_vote : (v : ID) (b : Bool) → k.same_id s v ≡ b
          → has_voted k u d (if b then and_vote k t c (events_in k es v) else events_in k es v)
          ≡ has_voted k u d (events_in k es v)
      no_vote v true e =
          let late_here : nat_lt (term_in k es v) (k.rank t) ≡ false = rw (exact.same_id s v e) at late in
          rw late_here refl
      no_vote v false e = refl

  pub append_same : (es : List (TraceEvent T ID D)) (s : ID) (t u : T) (c d : ID) (n : ℕ)
      (sent : List (Entry T D)) → SameFor es (Appended s t c n sent ∷ es) u d
  append_same es s t u c d n sent = record {
    campaigned = refl;
    candidate_log = refl;
    leader_log = refl;
    voted = λ v. append_no_vote (k.same_id s v) t u c d n sent (events_in k es v);
    acked = λ v m. append_no_ack (k.same_id s v) t u c d n m sent (events_in k es v);
    committed = refl;
    elected = elected_same es (Appended s t c n sent ∷ es) u d refl
        (λ v. append_no_vote (k.same_id s v) t u c d n sent (events_in k es v)) (λ p. refl);
  }

  pub ack_to_other : (es : List (TraceEvent T ID D)) (s : ID) (t u : T) (c d : ID) (n : ℕ)
      → same_leader k t c u d ≡ false → SameFor es (Acked s t c n ∷ es) u d
  ack_to_other es s t u c d n e = record {
    campaigned = refl;
    candidate_log = refl;
    leader_log = refl;
    voted = λ v. ack_no_vote (k.same_id s v) t u c d n (events_in k es v);
    acked = λ v m. ack_of_other (k.same_id s v) t u c d n m (events_in k es v) e;
    committed = refl;
    elected = elected_same es (Acked s t c n ∷ es) u d refl (λ v. ack_no_vote (k.same_id s v) t u c d n (events_in k es v)) (λ p. refl);
  }

  pub restart_same : (es : List (TraceEvent T ID D)) (s : ID) (u : T) (d : ID) (n : ℕ)
      → SameFor es (Restarted s n ∷ es) u d
  restart_same es s u d n = record {
    campaigned = refl;
    candidate_log = refl;
    leader_log = refl;
    voted = λ v. restart_no_vote (k.same_id s v) u d n (events_in k es v);
    acked = λ v m. restart_no_ack (k.same_id s v) u d n m (events_in k es v);
    committed = refl;
    elected = elected_same es (Restarted s n ∷ es) u d refl (λ v. restart_no_vote (k.same_id s v) u d n (events_in k es v)) (λ p. refl);
  }

  pub write_of_other : (es : List (TraceEvent T ID D)) (t u : T) (c d : ID) (x : Entry T D)
      → same_leader k t c u d ≡ false → SameFor es (Wrote c t x ∷ es) u d
  write_of_other es t u c d x e = record {
    campaigned = refl;
    candidate_log = refl;
    leader_log = rw e refl;
    voted = λ v. refl;
    acked = λ v m. refl;
    committed = refl;
    elected = elected_same es (Wrote c t x ∷ es) u d refl (λ v. refl) (λ p. refl);
  }

  pub commit_of_other : (es : List (TraceEvent T ID D)) (t u : T) (c d : ID) (n m : ℕ)
      → same_leader k t c u d ≡ false → SameFor es (Committed c t n m ∷ es) u d
  commit_of_other es t u c d n m e = record {
    campaigned = refl;
    candidate_log = refl;
    leader_log = refl;
    voted = λ v. refl;
    acked = λ v m. refl;
    committed = rw e refl;
    elected = elected_still es t c n m u d;
  }

  pub apply_same : (es : List (TraceEvent T ID D)) (s : ID) (t u : T) (c d : ID) (n : ℕ)
      → SameFor es (Applied s t c n ∷ es) u d
  apply_same es s t u c d n = record {
    campaigned = refl;
    candidate_log = refl;
    leader_log = refl;
    voted = λ v. refl;
    acked = λ v m. refl;
    committed = refl;
    elected = elected_same es (Applied s t c n ∷ es) u d refl (λ v. refl) (λ p. refl);
  }
