-- What a checker returns of the logs of leaders and servers is what the events say.
use Rattle.std.specs.Prelude.{◌≡◌, ◌<◌, ◌≤◌, ◌+◌, ◌⊎◌, ℕ, Bool, true, false, Option, Some, None, List, [], ◌∷◌, ◌++◌, length, take, drop, get_or, max, not, nat_le, nat_lt, if◌then◌else◌}
use Rattle.std.specs.List.{position, position_or_len}
use Rattle.std.specs.Option.{option_or}
use Rattle.std.proofs.Common.{refl, sym, ap, ◌∙◌, inl, inr, arith, zero, suc}
use Rattle.std.proofs.lemmas.Bool.{cases_lt, le-leb, lt-leb, lt-ltb}
use Rattle.std.proofs.lemmas.List.{drop-append-le, drop_all, length-take, length-take-le, take_more}
use Rattle.std.proofs.Math.Seq.{take-length}
use Rattle.safety_laws.specs.Log.{Entry}
use Rattle.safety_laws.specs.Trace.{AreExact, Tests, TraceEvent, candidate_log_in, common_prefix, events_in, has_campaigned, hold_no_config, leader_log_in, log_in, same_entry, same_leader}
use Rattle.safety_laws.specs.AppliedTrace.{hold_at_most_one}
use Rattle.trace_checker.specs.Checker.{AreConfigLens, Keeps, entry_at, if_campaigned, leader_entries_in}
use Rattle.safety_laws.specs.Events.{log_after}
use Rattle.trace_checker.specs.Inner.CheckerState.{ServerState, common_len, config_in, no_config_in}
use Rattle.trace_checker.specs.Inner.Known.{at_most_one_in}
use Rattle.trace_checker.specs.Inner.Kept.{Parts, leader_in, leaders_in, server_in, servers_in}
use Rattle.trace_checker.specs.Inner.Seen.{find_server}
use Rattle.trace_checker.specs.Inner.Logs.{last_entry, log_at}
use Rattle.trace_checker.specs.Memberships.{EndsWith}
use Rattle.trace_checker.specs.declared.checker.leader.Leader.{Leader}
use Rattle.trace_checker.specs.declared.checker.server.Server.{Server}
use Rattle.trace_checker.proofs.lemmas.CheckedLeaderLemmas.{none_found}
use Rattle.trace_checker.proofs.lemmas.CheckedLogLemmas.{common_length}
use Rattle.trace_checker.proofs.lemmas.LogTreeLemmas.{take_last}
use Rattle.trace_checker.proofs.lemmas.KnownElectionLemmas.{at_most_one_test, no_config_test}
use Rattle.trace_checker.proofs.lemmas.CheckerLemmas.{leader_seen, no_leader_seen}
use Rattle.trace_checker.proofs.lemmas.CheckerStepLemmas.{leader_place_in, place_map, sees_leader_at, sees_server_at, unled}

-- the last of some memberships
pub ends_at : {V D : Type 0} (held : List (D × V)) (i : ℕ) (m : D × V) → i + 1 ≡ length held → m ≡ get_or held i m
    → EndsWith held (Some m.0)
ends_at held i m len is =
    let within : i < length held = omega arith in (
      take i held,
      (
        m.1,
        sym (take-length held) ∙ ap (λ n. take n held) (sym len) ∙ take_more held i m within
            ∙ ap (λ x. take i held ++ x ∷ []) (sym is),
      ),
    )

-- an item that passes is not before the first one that does
first_before : {X : Type 0} (p : X → Bool) (xs : List X) (i : ℕ) (x : X) → i < length xs → x ≡ get_or xs i x
    → p x ≡ true → position_or_len p xs ≤ i
first_before p [] i x within is passes = absurd (omega arith)
first_before p (y ∷ ys) zero x within is passes = rw (← is, passes) (omega arith)
first_before p (y ∷ ys) (suc i) x within is passes =
    go (p y) (first_before p ys i x (omega arith) is passes)
  where
    go : (b : Bool) → position_or_len p ys ≤ i → (if not b then 1 + position_or_len p ys else 0) ≤ suc i
    go true h = omega arith
    go false h = omega arith

-- an item that passes has a position
not_absent : {X : Type 0} (p : X → Bool) (xs : List X) (i : ℕ) (x : X) → i < length xs → x ≡ get_or xs i x
    → p x ≡ true → position p xs ≡ None → ⊥
not_absent p xs i x within is passes absent =
    let before : position_or_len p xs ≤ i = first_before p xs i x within is passes in
    let found : nat_lt (position_or_len p xs) (length xs) ≡ true =
    lt-ltb (position_or_len p xs) (length xs) (omega arith) in
    let some : Some (position_or_len p xs) ≡ None = rw found at absent in cc

-- the last entry of so many that come after the first m
pub drop_last : {T D : Type 0} (log : List (Entry T D)) (m i : ℕ) (e : Entry T D) → m ≤ i → i < length log
    → Some e ≡ last_entry (take (i + 1) log) → drop m (take (i + 1) log) ≡ drop m (take i log) ++ e ∷ []
drop_last log m i e after within is =
    ap (drop m) (take_last log i e within is)
    ∙ drop-append-le m (take i log) (e ∷ []) (omega (arith, length-take-le i log (omega (arith, within)), after))

-- all that is read after the first m, up to the first n
pub read_to_end : {T D : Type 0} (log read : List (Entry T D)) (m n i : ℕ) → n ≤ i → i ≤ max m n
    → read ≡ drop m (take i log) → read ≡ drop m (take n log)
read_to_end log read m n i past before is = go (cases_lt m n)
  where
    nothing : (j : ℕ) → j ≤ m → drop m (take j log) ≡ []
    nothing j le = drop_all m (take j log) (omega (arith, length-take j log, le))

    go : (m < n) ⊎ (n ≤ m) → read ≡ drop m (take n log)
    go (inl h) =
        let same : i ≡ n = omega (arith, past, before, h) in is ∙ ap (λ j. drop m (take j log)) same
    go (inr h) = is ∙ nothing i (omega (arith, before, h)) ∙ sym (nothing n h)

-- entries have a last one
pub not_without_last : {T D : Type 0} (log : List (Entry T D)) → 0 < length log → None ≡ last_entry log → ⊥
not_without_last [] some none = absurd (omega arith)
not_without_last {T} {D} (e ∷ log) some none = go (last_entry log) none
  where
    go : (o : Option (Entry T D)) → None ≡ option_or o (Some e) → ⊥
    go None h = cc
    go (Some x) h = cc

module _ {T ID D : Type 0} (k : Tests T ID D (Option D)) (exact : AreExact k) where
  pub no_leader_read : {X : Type 0} (es : List (TraceEvent T ID D)) (t : T) (c : ID) (p : Parts T ID D) (x : X)
      → position (λ (l : Leader T ID). same_leader k l.term l.id t c) p.leaders ≡ None → Keeps k es p
      → None ≡ if_campaigned k es t c x
  no_leader_read es t c p x absent keeps = rw ((unled k exact es t c p absent keeps).1) refl

  pub leader_len_read : (es : List (TraceEvent T ID D)) (t : T) (c : ID) (p : Parts T ID D) (j n : ℕ) (l : Leader T ID)
      → position (λ (l : Leader T ID). same_leader k l.term l.id t c) p.leaders ≡ Some j → l ≡ get_or p.leaders j l
      → n ≡ length (log_at p.logs l.log) → Keeps k es p
      → Some n ≡ if_campaigned k es t c (length (leader_log_in k es t c))
  leader_len_read es t c p j n l at is len keeps =
      let sees = sees_leader_at k exact es p t c j l at is keeps in
      rw (sees.campaigned, sees.leader_log) (ap Some len)

  pub leader_start_read : (es : List (TraceEvent T ID D)) (t : T) (c : ID) (p : Parts T ID D) (j : ℕ) (l : Leader T ID)
      → position (λ (l : Leader T ID). same_leader k l.term l.id t c) p.leaders ≡ Some j → l ≡ get_or p.leaders j l
      → Keeps k es p → Some l.start ≡ if_campaigned k es t c (length (candidate_log_in k es t c))
  leader_start_read es t c p j l at is keeps =
      let sees = sees_leader_at k exact es p t c j l at is keeps in
      rw (sees.campaigned, sees.candidate_log, length-take-le l.start (log_at p.logs l.log) sees.start) refl

  pub leader_entry_read : (es : List (TraceEvent T ID D)) (t : T) (c : ID) (p : Parts T ID D) (j n : ℕ) (l : Leader T ID)
      → position (λ (l : Leader T ID). same_leader k l.term l.id t c) p.leaders ≡ Some j → l ≡ get_or p.leaders j l
      → Keeps k es p → entry_at n (log_at p.logs l.log) ≡ entry_at n (leader_log_in k es t c)
  leader_entry_read es t c p j n l at is keeps =
      ap (λ x. entry_at n x) (sym (sees_leader_at k exact es p t c j l at is keeps).leader_log)

  pub leader_entries_read : (es : List (TraceEvent T ID D)) (t : T) (c : ID) (p : Parts T ID D) (j m n : ℕ)
      (l : Leader T ID) (read : List (Entry T D))
      → position (λ (l : Leader T ID). same_leader k l.term l.id t c) p.leaders ≡ Some j → l ≡ get_or p.leaders j l
      → Keeps k es p → n ≤ length (log_at p.logs l.log) → read ≡ drop m (take n (log_at p.logs l.log))
      → Some read ≡ leader_entries_in k es t c m n
  leader_entries_read es t c p j m n l read at is keeps within are =
      let sees = sees_leader_at k exact es p t c j l at is keeps in
      rw (sees.campaigned, sees.leader_log, le-leb n (length (log_at p.logs l.log)) within) (ap Some are)

  pub leader_entries_short : (es : List (TraceEvent T ID D)) (t : T) (c : ID) (p : Parts T ID D) (j m n : ℕ)
      (l : Leader T ID)
      → position (λ (l : Leader T ID). same_leader k l.term l.id t c) p.leaders ≡ Some j → l ≡ get_or p.leaders j l
      → Keeps k es p → length (log_at p.logs l.log) < n → None ≡ leader_entries_in k es t c m n
  leader_entries_short es t c p j m n l at is keeps short =
      let sees = sees_leader_at k exact es p t c j l at is keeps in
      rw (sees.leader_log, lt-leb n (length (log_at p.logs l.log)) short) refl

  pub no_leader_entries : (es : List (TraceEvent T ID D)) (t : T) (c : ID) (p : Parts T ID D) (m n : ℕ)
      → position (λ (l : Leader T ID). same_leader k l.term l.id t c) p.leaders ≡ None → Keeps k es p
      → None ≡ leader_entries_in k es t c m n
  no_leader_entries es t c p m n absent keeps =
      rw ((unled k exact es t c p absent keeps).1) (go (nat_le n (length (leader_log_in k es t c))))
    where
      go : (b : Bool) → let nothing : Option (List (Entry T D)) = None in nothing ≡ (if b then None else None)
      go true = refl
      go false = refl

  -- the logs of a server and of a leader begin with so many equal entries
  pub common_read : (es : List (TraceEvent T ID D)) (id : ID) (t : T) (c : ID) (p : Parts T ID D) (i j n : ℕ) (s : Server ID)
      (l : Leader T ID)
      → position (λ (s : Server ID). k.same_id s.id id) p.servers ≡ Some i → s ≡ get_or p.servers i s
      → position (λ (l : Leader T ID). same_leader k l.term l.id t c) p.leaders ≡ Some j → l ≡ get_or p.leaders j l
      → Keeps k es p → n ≡ common_len (same_entry k) (log_at p.logs s.log) (log_at p.logs l.log)
      → n ≡ length (common_prefix k (log_in k es id) (leader_log_in k es t c))
  common_read es id t c p i j n s l at_s is_s at_l is_l keeps common =
      let own : log_in k es id ≡ log_at p.logs s.log = (sees_server_at k exact es p id i s at_s is_s keeps).log in
      let led : leader_log_in k es t c ≡ log_at p.logs l.log =
      (sees_leader_at k exact es p t c j l at_l is_l keeps).leader_log in
      common ∙ sym (common_length k exact (log_at p.logs s.log) (log_at p.logs l.log))
      ∙ (λ q. length (common_prefix k (sym own q) (sym led q)))

  common_with_nil : (log : List (Entry T D)) → 0 ≡ length (common_prefix k log [])
  common_with_nil [] = refl
  common_with_nil (e ∷ log) = refl

  pub no_leader_common : (es : List (TraceEvent T ID D)) (id : ID) (t : T) (c : ID) (p : Parts T ID D)
      → position (λ (l : Leader T ID). same_leader k l.term l.id t c) p.leaders ≡ None → Keeps k es p
      → 0 ≡ length (common_prefix k (log_in k es id) (leader_log_in k es t c))
  no_leader_common es id t c p absent keeps =
      common_with_nil (log_in k es id)
      ∙ ap (λ x. length (common_prefix k (log_in k es id) x))
      (sym (no_leader_seen k exact es (leaders_in p) t c keeps.seen.see_leaders
      (leader_place_in k exact p t c None absent)).leader_log)

  pub server_entry_read : (es : List (TraceEvent T ID D)) (id : ID) (p : Parts T ID D) (i n : ℕ) (s : Server ID)
      → position (λ (s : Server ID). k.same_id s.id id) p.servers ≡ Some i → s ≡ get_or p.servers i s
      → Keeps k es p → entry_at n (log_at p.logs s.log) ≡ entry_at n (log_in k es id)
  server_entry_read es id p i n s at is keeps =
      ap (λ x. entry_at n x) (sym (sees_server_at k exact es p id i s at is keeps).log)

  pub server_len_read : (es : List (TraceEvent T ID D)) (id : ID) (p : Parts T ID D) (i n : ℕ) (s : Server ID)
      → position (λ (s : Server ID). k.same_id s.id id) p.servers ≡ Some i → s ≡ get_or p.servers i s
      → n ≡ length (log_at p.logs s.log) → Keeps k es p → n ≡ length (log_in k es id)
  server_len_read es id p i n s at is len keeps =
      len ∙ ap (λ x. length x) (sym (sees_server_at k exact es p id i s at is keeps).log)

  -- what is kept of a leader that has not campaigned, or of a server that has no events
  nothing_at : (n : ℕ) → None ≡ entry_at {T = T} {D = D} n []
  nothing_at zero = refl
  nothing_at (suc n) = go (nat_le (suc n) 0)
    where
      go : (b : Bool) → let nothing : Option (Entry T D) = None in nothing ≡ (if b then None else None)
      go true = refl
      go false = refl

  pub no_leader_log : (es : List (TraceEvent T ID D)) (t : T) (c : ID) (p : Parts T ID D) (n : ℕ)
      → position (λ (l : Leader T ID). same_leader k l.term l.id t c) p.leaders ≡ None → Keeps k es p
      → None ≡ entry_at n (leader_log_in k es t c)
  no_leader_log es t c p n absent keeps =
      nothing_at n
      ∙ ap (λ x. entry_at n x) (sym (no_leader_seen k exact es (leaders_in p) t c keeps.seen.see_leaders
      (leader_place_in k exact p t c None absent)).leader_log)

  no_server_nil : (es : List (TraceEvent T ID D)) (id : ID) (p : Parts T ID D)
      → position (λ (s : Server ID). k.same_id s.id id) p.servers ≡ None → Keeps k es p → log_in k es id ≡ []
  no_server_nil es id p absent keeps =
      let none : find_server k (servers_in p) id ≡ None =
      none_found (λ (s : ServerState T ID D). k.same_id s.id id) (servers_in p)
      (place_map (server_in p.logs) (λ (x : ServerState T ID D). k.same_id x.id id) p.servers ∙ absent) in
      let no_events : events_in k es id ≡ [] = rw none at (keeps.seen.see_servers id) in
      ap log_after no_events

  pub no_server_len : (es : List (TraceEvent T ID D)) (id : ID) (p : Parts T ID D)
      → position (λ (s : Server ID). k.same_id s.id id) p.servers ≡ None → Keeps k es p → 0 ≡ length (log_in k es id)
  no_server_len es id p absent keeps = ap (λ x. length x) (sym (no_server_nil es id p absent keeps))

  pub no_server_log : (es : List (TraceEvent T ID D)) (id : ID) (p : Parts T ID D) (n : ℕ)
      → position (λ (s : Server ID). k.same_id s.id id) p.servers ≡ None → Keeps k es p
      → None ≡ entry_at n (log_in k es id)
  no_server_log es id p n absent keeps =
      nothing_at n ∙ ap (λ x. entry_at n x) (sym (no_server_nil es id p absent keeps))

  pub no_server_common : (es : List (TraceEvent T ID D)) (id : ID) (t : T) (c : ID) (p : Parts T ID D)
      → position (λ (s : Server ID). k.same_id s.id id) p.servers ≡ None → Keeps k es p
      → 0 ≡ length (common_prefix k (log_in k es id) (leader_log_in k es t c))
  no_server_common es id t c p absent keeps =
      ap (λ x. length (common_prefix k x (leader_log_in k es t c))) (sym (no_server_nil es id p absent keeps))

  -- each leader that is kept has campaigned
  pub is_campaigned : (es : List (TraceEvent T ID D)) (p : Parts T ID D) (i : ℕ) (l : Leader T ID) → i < length p.leaders
      → l ≡ get_or p.leaders i l → Keeps k es p → has_campaigned k l.term l.id es ≡ true
  is_campaigned es p i l within is keeps =
      go (position (λ (x : Leader T ID). same_leader k x.term x.id l.term l.id) p.leaders) refl
    where
      is_itself : same_leader k l.term l.id l.term l.id ≡ true
      is_itself = rw (exact.term_itself l.term, exact.id_itself l.id) refl

      go : (o : Option ℕ) → position (λ (x : Leader T ID). same_leader k x.term x.id l.term l.id) p.leaders ≡ o
          → has_campaigned k l.term l.id es ≡ true
      go None absent =
          absurd (not_absent (λ (x : Leader T ID). same_leader k x.term x.id l.term l.id) p.leaders i l within is is_itself
          absent)
      go (Some j) at =
          (leader_seen k exact es (leaders_in p) l.term l.id j (leader_in p.logs l) keeps.seen.see_leaders
          (leader_place_in k exact p l.term l.id (Some j) at)).campaigned

  -- the lengths up to the last config of the first entries of a leader, and up to the config before
  pub config_lens_read : (holds : D → Bool) → ((d : D) → k.config_of d ≡ config_in holds d)
      → (es : List (TraceEvent T ID D)) (t : T) (c : ID) (p : Parts T ID D) (j n : ℕ) (l : Leader T ID)
      (log last before : ℕ)
      → position (λ (l : Leader T ID). same_leader k l.term l.id t c) p.leaders ≡ Some j → l ≡ get_or p.leaders j l
      → log_at p.logs log ≡ take n (log_at p.logs l.log)
      → ((m : ℕ) → no_config_in holds (drop m (log_at p.logs log)) ≡ nat_le last m)
      → ((m : ℕ) → at_most_one_in holds (drop m (log_at p.logs log)) ≡ nat_le before m) → Keeps k es p
      → AreConfigLens k (take n (leader_log_in k es t c)) (last, before)
  config_lens_read holds holds_is es t c p j n l log last before at is first none one keeps m =
      let sees = sees_leader_at k exact es p t c j l at is keeps in
      let same : take n (leader_log_in k es t c) ≡ log_at p.logs log =
      ap (λ x. take n x) sees.leader_log ∙ sym first in (
        ap (λ x. hold_no_config k (drop m x)) same ∙ no_config_test k holds holds_is (drop m (log_at p.logs log)) ∙ none m,
        ap (λ x. hold_at_most_one k (drop m x)) same ∙ at_most_one_test k holds holds_is (drop m (log_at p.logs log))
            ∙ one m,
      )
