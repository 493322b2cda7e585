-- What the checker keeps of a server is what its events say.
use Rattle.std.specs.Prelude.{◌≡◌, ◌⊎◌, ◌+◌, ◌<◌, ◌≤◌, ℕ, Bool, true, false, ◌&&◌, ◌||◌, nat_lt, nat_le, min, max, if◌then◌else◌, Option, Some, None, List, [], ◌∷◌, ◌++◌, length, take, drop, get_or, set}
use Rattle.std.specs.List.{position, position_or_len}
use Rattle.std.specs.Option.{MatchOption}
use Rattle.std.proofs.Common.{refl, sym, ap, ◌∙◌, subst, inl, inr, arith}
use Rattle.std.proofs.lemmas.Bool.{le-leb, lt-leb, cases_Bool, lt-ltb, le-ltb, cases_lt}
use Rattle.std.proofs.lemmas.List.{append-nil}
use Rattle.std.proofs.lemmas.List.Folds.{find-set, find_past}
use Rattle.std.proofs.lemmas.List.Quantifiers.{position-Some}
use Rattle.safety_laws.specs.Log.{Entry}
use Rattle.safety_laws.specs.Events.{Event, GrantVote, LateVote, Append, Ack, Restart, term_after, log_after}
use Rattle.safety_laws.specs.Trace.{AreExact, Tests, TraceEvent, events_in, is_prefix, same_entry, has_kept, has_voted, same_leader, durable, and_append, and_restart}
use Rattle.trace_checker.specs.Inner.CheckerState.{common_len, kept_from, kept_after}
use Rattle.trace_checker.specs.Inner.Seen.{SeesServer, SeesServers, kept_at, find_server}
use Rattle.trace_checker.specs.Inner.CheckerState.{ServerState}
use Rattle.safety_laws.proofs.lemmas.PrefixLemmas.{prefix_length}
use Rattle.safety_laws.proofs.lemmas.TestLemmas.{or_cases, leader_right, prefix_right, entry_right, entry_itself}
use Rattle.trace_checker.proofs.lemmas.CommonLemmas.{common_in_b}
use Rattle.trace_checker.proofs.lemmas.CheckedLogLemmas.{le_test_min, prefix_of_both, common_itself, common_from, common_length}

pub place_of : {X : Type 0} (p : X → Bool) (xs : List X) (i : ℕ) → position p xs ≡ Some i
    → i ≡ position_or_len p xs
place_of {X} p xs i e = go (nat_lt (position_or_len p xs) (length xs)) e
  where
    go : (b : Bool) → (if b then Some (position_or_len p xs) else None) ≡ Some i
        → i ≡ position_or_len p xs
    go true h = cc
    go false h = absurd (cc)

module _ {T ID D M : Type 0} (k : Tests T ID D M) (exact : AreExact k) where
  -- ---- what a server has kept

  pub kept_short : (r : ℕ) (evs : List (Event T ID D)) → kept_at k r evs ≤ length (log_after evs)
  kept_short r [] = omega arith
  kept_short r (e ∷ evs) =
      go (nat_le (term_after k.rank (e ∷ evs)) r)
      (common_in_b (same_entry k) (log_after evs)
      (log_after (e ∷ evs)))
    where
      go : (b : Bool)
          → common_len (same_entry k) (log_after evs) (log_after (e ∷ evs)) ≤ length (log_after (e ∷ evs))
          → (if b then length (log_after (e ∷ evs))
          else min (kept_at k r evs) (common_len (same_entry k) (log_after evs) (log_after (e ∷ evs))))
          ≤ length (log_after (e ∷ evs))
      go true h = omega arith
      go false h = omega arith

  pub kept_all : (r : ℕ) (evs : List (Event T ID D)) → term_after k.rank evs ≤ r
      → kept_at k r evs ≡ length (log_after evs)
  kept_all r [] h = refl
  kept_all r (e ∷ evs) h = rw (le-leb (term_after k.rank (e ∷ evs)) r h) refl

  kept_earlier : (r : ℕ) (e : Event T ID D) (evs : List (Event T ID D))
      → r < term_after k.rank (e ∷ evs)
      → kept_at k r (e ∷ evs)
      ≡ min (kept_at k r evs) (common_len (same_entry k) (log_after evs) (log_after (e ∷ evs)))
  kept_earlier r e evs h = rw (lt-leb (term_after k.rank (e ∷ evs)) r h) refl

  -- a server has kept these entries exactly if its log begins with them and it has kept as many
  pub has_kept_by_len : (r : ℕ) (p : List (Entry T D)) (evs : List (Event T ID D))
      → has_kept k r p evs ≡ (is_prefix k p (log_after evs) && nat_le (length p) (kept_at k r evs))
  has_kept_by_len r [] [] = refl
  has_kept_by_len r (x ∷ p) [] = refl
  has_kept_by_len r p (e ∷ evs) =
      go (is_prefix k p (log_after (e ∷ evs))) (nat_le (term_after k.rank (e ∷ evs)) r) refl
      (has_kept_by_len r p evs)
    where
      go : (a b : Bool) → is_prefix k p (log_after (e ∷ evs)) ≡ a
          → has_kept k r p evs ≡ (is_prefix k p (log_after evs) && nat_le (length p) (kept_at k r evs))
          → (a && (b || has_kept k r p evs))
          ≡ (a && nat_le (length p) (if b then length (log_after (e ∷ evs))
          else min (kept_at k r evs) (common_len (same_entry k) (log_after evs) (log_after (e ∷ evs)))))
      go false b h ih = refl
      go true true h ih =
          sym (le-leb (length p) (length (log_after (e ∷ evs)))
          (prefix_length (prefix_right k exact p (log_after (e ∷ evs)) h)))
      go true false h ih =
          ih
          ∙ ap (λ x. x && nat_le (length p) (kept_at k r evs))
          (prefix_of_both k exact p (log_after evs) (log_after (e ∷ evs)) h)
          ∙ le_test_min (length p) (kept_at k r evs)
          (common_len (same_entry k) (log_after evs) (log_after (e ∷ evs)))

  -- a log of which first entries are kept shares as many with the log
  pub common_take : (n : ℕ) (log : List (Entry T D)) → n ≤ length log
      → common_len (same_entry k) log (take n log) ≡ n
  common_take n log h =
      let e : common_len (same_entry k) log (take n log ++ [])
      ≡ n + common_len (same_entry k) (drop n log) [] =
      common_from (same_entry k) (entry_right k exact) (entry_itself k exact) n log [] h in
      let z : common_len (same_entry k) (drop n log) [] ≡ 0 = none (drop n log) in
      let f : common_len (same_entry k) log (take n log) ≡ n + common_len (same_entry k) (drop n log) [] =
      rw append-nil at e in
      f ∙ ap (λ x. n + x) z ∙ (omega arith)
    where
      none : (l : List (Entry T D)) → common_len (same_entry k) l [] ≡ 0
      none [] = refl
      none (x ∷ l) = refl

module _ {T ID D : Type 0} (k : Tests T ID D (Option D)) (exact : AreExact k) where
  -- ---- a step of one server

  -- what was kept of the terms below one that the server reaches
  kept_below : (evs : List (Event T ID D)) (s : ServerState T ID D) (r next : ℕ) → SeesServer k evs s
      → s.term ≤ next → r < next
      → kept_at k r evs ≡ kept_after s.kept s.term (length s.log) next r
  kept_below evs s r next sees le lt = go (cases_lt s.term next)
    where
      before : s.term < next → (r < s.term) ⊎ (s.term ≤ r)
          → kept_at k r evs
          ≡ (if nat_le s.term r then length s.log else min (kept_from 0 s.kept r) (length s.log))
      before up (inl h) =
          let f : nat_le s.term r ≡ false = lt-leb s.term r h in
          let short : kept_at k r evs ≤ length s.log = rw (← sees.log) (kept_short k exact r evs) in
          let same : kept_at k r evs ≡ kept_from 0 s.kept r = sees.kept r h in
          rw f (omega (arith, short, same))
      before up (inr h) =
          let f : nat_le s.term r ≡ true = le-leb s.term r h in
          let t : term_after k.rank evs ≤ r = rw sees.term h in
          rw f (kept_all k exact r evs t ∙ ap length sees.log)

      go : (s.term < next) ⊎ (next ≤ s.term)
          → kept_at k r evs ≡ kept_after s.kept s.term (length s.log) next r
      go (inl up) = rw (lt-ltb s.term next up) (before up (cases_lt r s.term))
      go (inr same) =
          let below : r < s.term = omega arith in
          rw (le-ltb s.term next same) (sees.kept r below)

  -- a server reaches a term by a vote
  pub sees_vote : (evs : List (Event T ID D)) (s new : ServerState T ID D) (t : T) (c : ID)
      → SeesServer k evs s → s.term < k.rank t → new.term ≡ max s.term (k.rank t)
      → new.voted ≡ k.rank t → new.log ≡ s.log → new.durable ≡ s.durable
      → ((r : ℕ) → kept_from 0 new.kept r ≡ kept_after s.kept s.term (length s.log) (k.rank t) r)
      → SeesServer k (GrantVote t c ∷ evs) new
  sees_vote evs s new t c sees up term voted log dur kept = record {
    term = omega arith;
    voted = sym voted;
    log = sees.log ∙ sym log;
    durable = sees.durable ∙ sym dur;
    kept = λ r h.
        (let below : r < k.rank t = omega arith in
        let le : s.term ≤ k.rank t = omega arith in
        kept_earlier k exact r (GrantVote t c) evs below
        ∙ ap (λ x. min (kept_at k r evs) x)
        (common_itself (same_entry k) (entry_right k exact) (entry_itself k exact) (log_after evs))
        ∙ small r
        ∙ kept_below evs s r (k.rank t) sees le below ∙ sym (kept r));
    votes = λ u d h. voted_by u d (or_cases (same_leader k t c u d) (has_voted k u d evs) h);
  }
    where
      voted_by : (u : T) (d : ID)
          → (same_leader k t c u d ≡ true) ⊎ (has_voted k u d evs ≡ true) → k.rank u ≤ new.term
      voted_by u d (inl e) =
          let q : k.rank t ≡ k.rank u = ap k.rank (leader_right k exact t u c d e).0 in omega (arith, q, term)
      voted_by u d (inr e) = let h : k.rank u ≤ s.term = sees.votes u d e in omega (arith, h, term)

      small : (r : ℕ) → min (kept_at k r evs) (length (log_after evs)) ≡ kept_at k r evs
      small r = let h : kept_at k r evs ≤ length (log_after evs) = kept_short k exact r evs in omega arith

  -- a server votes in a term that it has reached
  pub sees_late_vote : (evs : List (Event T ID D)) (s new : ServerState T ID D) (t : T) (c : ID)
      → SeesServer k evs s → new.term ≡ s.term → new.voted ≡ k.rank t → new.log ≡ s.log
      → new.durable ≡ s.durable → new.kept ≡ s.kept
      → SeesServer k (LateVote t c ∷ evs) new
  sees_late_vote evs s new t c sees term voted log dur kept = record {
    term = sees.term ∙ sym term;
    voted = sym voted;
    log = sees.log ∙ sym log;
    durable = sees.durable ∙ sym dur;
    kept = λ r h.
        (let below : r < s.term = omega arith in
        let still : r < term_after k.rank (LateVote t c ∷ evs) = rw sees.term below in
        kept_earlier k exact r (LateVote t c) evs still
        ∙ ap (λ x. min (kept_at k r evs) x)
        (common_itself (same_entry k) (entry_right k exact) (entry_itself k exact) (log_after evs))
        ∙ small r ∙ sees.kept r below ∙ ap (λ ks. kept_from 0 ks r) (sym kept));
    votes = λ u d h. (let before : k.rank u ≤ s.term = sees.votes u d h in omega (arith, before, term));
  }
    where
      small : (r : ℕ) → min (kept_at k r evs) (length (log_after evs)) ≡ kept_at k r evs
      small r = let h : kept_at k r evs ≤ length (log_after evs) = kept_short k exact r evs in omega arith

  -- a server takes entries
  pub sees_append : (evs : List (Event T ID D)) (s new : ServerState T ID D) (t : T) (c : ID) (n : ℕ)
      (sent : List (Entry T D)) → SeesServer k evs s → s.term ≤ k.rank t → n ≤ length s.log
      → new.term ≡ max s.term (k.rank t) → new.voted ≡ s.voted
      → new.log ≡ take n s.log ++ sent
      → new.durable ≡ min s.durable (n + common_len (same_entry k) (drop n s.log) sent)
      → ((r : ℕ) → kept_from 0 new.kept r ≡ min (kept_after s.kept s.term (length s.log) (k.rank t) r)
      (n + common_len (same_entry k) (drop n s.log) sent))
      → SeesServer k (and_append t c n sent evs) new
  sees_append evs s new t c n sent sees le within term voted log dur kept = record {
    term = omega arith;
    voted = sees.voted ∙ sym voted;
    log = ap (λ l. take n l ++ sent) sees.log ∙ sym log;
    durable =
        ap (λ x. min (durable k evs) x)
        (common_length k exact (log_after evs) (take n (log_after evs) ++ sent) ∙ shared)
        ∙ ap (λ x. min x (n + common_len (same_entry k) (drop n s.log) sent)) sees.durable ∙ sym dur;
    kept = λ r h.
        (let below : r < k.rank t = omega arith in
        kept_earlier k exact r (Append t c (take n (log_after evs) ++ sent)) evs below
        ∙ ap (λ x. min (kept_at k r evs) x) shared
        ∙ ap (λ x. min x (n + common_len (same_entry k) (drop n s.log) sent))
        (kept_below evs s r (k.rank t) sees le below) ∙ sym (kept r));
    votes = λ u d h. (let before : k.rank u ≤ s.term = sees.votes u d h in omega (arith, before, term));
  }
    where
      within_log : n ≤ length (log_after evs)
      within_log = rw sees.log within

      shared : common_len (same_entry k) (log_after evs) (take n (log_after evs) ++ sent)
          ≡ n + common_len (same_entry k) (drop n s.log) sent
      shared =
          common_from (same_entry k) (entry_right k exact) (entry_itself k exact) n (log_after evs) sent
          within_log
          ∙ ap (λ l. n + common_len (same_entry k) (drop n l) sent) sees.log

  -- a server acknowledges entries
  pub sees_ack : (evs : List (Event T ID D)) (s new : ServerState T ID D) (t : T) (c : ID) (n : ℕ)
      → SeesServer k evs s → new.term ≡ s.term → new.voted ≡ s.voted → new.log ≡ s.log
      → new.durable ≡ max n s.durable → new.kept ≡ s.kept
      → SeesServer k (Ack t c n ∷ evs) new
  sees_ack evs s new t c n sees term voted log dur kept = record {
    term = sees.term ∙ sym term;
    voted = sees.voted ∙ sym voted;
    log = sees.log ∙ sym log;
    durable = ap (λ x. max n x) sees.durable ∙ sym dur;
    kept = λ r h.
        (let below : r < s.term = omega arith in
        let still : r < term_after k.rank (Ack t c n ∷ evs) = rw sees.term below in
        kept_earlier k exact r (Ack t c n) evs still
        ∙ ap (λ x. min (kept_at k r evs) x)
        (common_itself (same_entry k) (entry_right k exact) (entry_itself k exact) (log_after evs))
        ∙ small r ∙ sees.kept r below ∙ ap (λ ks. kept_from 0 ks r) (sym kept));
    votes = λ u d h. (let before : k.rank u ≤ s.term = sees.votes u d h in omega (arith, before, term));
  }
    where
      small : (r : ℕ) → min (kept_at k r evs) (length (log_after evs)) ≡ kept_at k r evs
      small r = let h : kept_at k r evs ≤ length (log_after evs) = kept_short k exact r evs in omega arith

  -- a server restarts
  pub sees_restart : (evs : List (Event T ID D)) (s new : ServerState T ID D) (n : ℕ)
      → SeesServer k evs s → n ≤ length s.log → new.term ≡ s.term → new.voted ≡ s.voted
      → new.log ≡ take n s.log → new.durable ≡ min s.durable n
      → ((r : ℕ) → kept_from 0 new.kept r ≡ min (kept_from 0 s.kept r) n)
      → SeesServer k (and_restart n evs) new
  sees_restart evs s new n sees within term voted log dur kept = record {
    term = sees.term ∙ sym term;
    voted = sees.voted ∙ sym voted;
    log = ap (λ l. take n l) sees.log ∙ sym log;
    durable =
        ap (λ x. min (durable k evs) x)
        (common_length k exact (log_after evs) (take n (log_after evs)) ∙ shared)
        ∙ ap (λ x. min x n) sees.durable ∙ sym dur;
    kept = λ r h.
        (let below : r < s.term = omega arith in
        let still : r < term_after k.rank (Restart (take n (log_after evs)) ∷ evs) = rw sees.term below in
        kept_earlier k exact r (Restart (take n (log_after evs))) evs still
        ∙ ap (λ x. min (kept_at k r evs) x) shared
        ∙ ap (λ x. min x n) (sees.kept r below) ∙ sym (kept r));
    votes = λ u d h. (let before : k.rank u ≤ s.term = sees.votes u d h in omega (arith, before, term));
  }
    where
      within_log : n ≤ length (log_after evs)
      within_log = rw sees.log within

      shared : common_len (same_entry k) (log_after evs) (take n (log_after evs)) ≡ n
      shared = common_take k exact n (log_after evs) within_log

  -- ---- all servers

  pub sees_new : (new : ServerState T ID D) → new.term ≡ 0 → new.voted ≡ 0 → new.log ≡ [] → new.durable ≡ 0
      → new.kept ≡ [] → SeesServer k [] new
  sees_new new term voted log dur kept = record {
    term = sym term;
    voted = sym voted;
    log = sym log;
    durable = sym dur;
    kept = λ r h. absurd (omega arith);
    votes = λ u d h. absurd (cc);
  }

  -- a server is replaced, because its events are others now
  pub see_set : (es new : List (TraceEvent T ID D)) (servers : List (ServerState T ID D)) (i : ℕ)
      (s : ServerState T ID D) (r : ID) → position (λ (x : ServerState T ID D). k.same_id x.id r) servers ≡ Some i
      → k.same_id s.id r ≡ true → SeesServers k es servers
      → ((id : ID) → k.same_id r id ≡ false → events_in k new id ≡ events_in k es id)
      → SeesServer k (events_in k new r) s → SeesServers k new (set servers i s)
  see_set es new servers i s r at_i is_r sees others one id = go (cases_Bool (k.same_id r id))
    where
      facts : (i < length servers) × (k.same_id (get_or servers i s).id r ≡ true)
          × ((j : ℕ) → j < i → k.same_id (get_or servers j s).id r ≡ false)
      facts = position-Some (λ (x : ServerState T ID D). k.same_id x.id r) servers i s at_i

      here : find_server k (set servers i s) r ≡ Some s
      here =
          find-set (λ (x : ServerState T ID D). k.same_id x.id r) servers i s
          (place_of (λ (x : ServerState T ID D). k.same_id x.id r) servers i at_i) facts.0 is_r

      apart : (x : ServerState T ID D) → k.same_id x.id r ≡ true → k.same_id r id ≡ false
          → k.same_id x.id id ≡ false
      apart x a b = let e : x.id ≡ r = exact.same_id x.id r a in rw e b

      go : (k.same_id r id ≡ true) ⊎ (k.same_id r id ≡ false)
          → MatchOption (find_server k (set servers i s) id) (events_in k new id ≡ [])
          (SeesServer k (events_in k new id))
      go (inl e) =
          let q : r ≡ id = exact.same_id r id e in
          subst (λ (x : ID). MatchOption (find_server k (set servers i s) x) (events_in k new x ≡ [])
          (SeesServer k (events_in k new x))) q
          (subst (λ (o : Option (ServerState T ID D)). MatchOption o (events_in k new r ≡ [])
          (SeesServer k (events_in k new r))) (sym here) one)
      go (inr e) =
          let there : find_server k (set servers i s) id ≡ find_server k servers id =
          find_past (λ (x : ServerState T ID D). k.same_id x.id id) servers i s s
          (apart (get_or servers i s) facts.1 e) (apart s is_r e) in
          subst (λ (o : Option (ServerState T ID D)). MatchOption o (events_in k new id ≡ [])
          (SeesServer k (events_in k new id))) (sym there)
          (subst (λ (l : List (Event T ID D)). MatchOption (find_server k servers id) (l ≡ [])
          (SeesServer k l)) (sym (others id e)) (sees id))
