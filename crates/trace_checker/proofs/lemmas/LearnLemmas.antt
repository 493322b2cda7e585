-- A config that no entry holds so far, and that becomes known, changes no test of the earlier events.
use Rattle.std.specs.Prelude.{◌≡◌, ℕ, Bool, true, false, not, ◌&&◌, ◌||◌, nat_lt, nat_le, min, max, if◌then◌else◌, Option, Some, None, is_none, is_some, List, [], ◌∷◌, ◌++◌, length, take, drop, map}
use Rattle.std.specs.Cmp.Lexicographic.{pointwise}
use Rattle.std.specs.List.{list_all, list_any}
use Rattle.std.specs.Option.{MatchOption, unwrap_or}
use Rattle.std.proofs.Common.{refl, sym, ap, ◌∙◌, subst}
use Rattle.std.proofs.lemmas.List.{map-append}
use Rattle.std.proofs.lemmas.Option.{same_Some}
use Rattle.safety_laws.specs.Log.{Entry}
use Rattle.safety_laws.specs.Configs.{effective_config}
use Rattle.safety_laws.specs.Events.{Event, GrantVote, LateVote, Append, Ack, Restart, log_after, term_after}
use Rattle.safety_laws.specs.Trace.{Tests, TraceEvent, Campaigned, Granted, Appended, Acked, Restarted, Wrote, Committed, Applied, and_append, and_restart, and_vote, candidate_log_in, common_prefix, durable, events_in, has_acked, has_campaigned, has_kept, has_voted, hold_no_config, is_config_committed, is_earlier, is_known_by, is_known_committed, is_prefix, is_quorum_of_log, leader_log_in, log_in, same_entry, same_leader, unless}
use Rattle.safety_laws.specs.declared.rule.Rule.TheVariants.{ApartConfigs, ApartQuorums, CountedEarly, CountedLate, UnknownConfig, ConfigsFollow, EarlierTerm, EarlyConfig, NoQuorum, NotElected, NotWritten}
use Rattle.trace_checker.specs.Inner.CheckerState.{LeaderState, ServerState, common_len, config_in, no_config_in}
use Rattle.trace_checker.specs.Inner.Kept.{Parts, commits_in, leaders_in, servers_in}
use Rattle.trace_checker.specs.Inner.Logs.{AllLogs, AreLogs, AreWithout, LackContent, log_at}
use Rattle.safety_laws.specs.AppliedTrace.{hold_at_most_one, is_shorter, may_count_acks, some_upto}
use Rattle.trace_checker.specs.Counted.{are_all_allowed, first_broken, is_elected_when, tests_by}
use Rattle.trace_checker.specs.Inner.Known.{CommitState, SeesKnownBy}
use Rattle.safety_laws.specs.declared.counting.ConfigsCount.{ConfigsCount}
use Rattle.safety_laws.specs.declared.counting.ConfigsCount.TheVariants.{WhenAppended, WhenApplied}
use Rattle.trace_checker.specs.Inner.Seen.{IsElectionOf, SeesLeader, SeesLeaders, SeesNoLeader, SeesServer, SeesServers, committed_in, find_leader, find_server, kept_at}
use Rattle.raft_members.specs.quorum.Coherence.{share_child}
use Rattle.raft_members.specs.quorum.Majority.{is_majority}
use Rattle.trace_checker.specs.Memberships.{configs_of, held_by, some_meet}
use Rattle.trace_checker.specs.Checker.{IsUnused, Keeps}
use Rattle.trace_checker.proofs.lemmas.ContentLemmas.{lack_append, lack_drop, lack_take}

-- tests that differ in what they know of configs alone
abbrev pub with_configs : {T ID D : Type 0} → Tests T ID D (Option D) → (D → Option (Option D))
    → (Option D → (ID → Bool) → Bool) → (Option D → Option D → Bool) → Tests T ID D (Option D)
with_configs k config_of quorum_of intersect = record {
  rank = k.rank;
  same_term = k.same_term;
  same_id = k.same_id;
  same_content = k.same_content;
  config_of = config_of;
  initial = k.initial;
  quorum_of = quorum_of;
  intersect = intersect;
  counting = k.counting;
}

-- ---- configs of logs that lack a content, by two ways that differ at this content alone

module _ {T D M : Type 0} (same : D → D → Bool) (d : D) (f g : D → Option M)
    (agree : (x : D) → same d x ≡ false → f x ≡ g x) where
  pub same_effective : (m : M) (log : List (Entry T D)) → LackContent same d log
      → effective_config f m log ≡ effective_config g m log
  same_effective m [] h = refl
  same_effective m (e ∷ log) h =
      same_effective (unwrap_or (f e.content) m) log h.1
      ∙ (λ q. effective_config g (unwrap_or (agree e.content h.0 q) m) log)

module _ {T ID D : Type 0} (k : Tests T ID D (Option D)) (config_of : D → Option (Option D))
    (quorum_of : Option D → (ID → Bool) → Bool) (intersect : Option D → Option D → Bool) where
  abbrev other : Tests T ID D (Option D)
  other = with_configs k config_of quorum_of intersect

  -- ---- what does not depend on configs

  same_events : (es : List (TraceEvent T ID D)) (s : ID) → events_in other es s ≡ events_in k es s
  same_events [] s = refl
  same_events (Campaigned r t ∷ es) s =
      ap (λ x. if k.same_id r s then GrantVote t r ∷ x else x) (same_events es s)
  same_events (Granted r t c ∷ es) s =
      ap (λ x. if k.same_id r s then and_vote k t c x else x) (same_events es s)
  same_events (Appended r t c n sent ∷ es) s =
      ap (λ x. if k.same_id r s then and_append t c n sent x else x) (same_events es s)
  same_events (Acked r t c n ∷ es) s =
      ap (λ x. if k.same_id r s then Ack t c n ∷ x else x) (same_events es s)
  same_events (Restarted r n ∷ es) s =
      ap (λ x. if k.same_id r s then and_restart n x else x) (same_events es s)
  same_events (Wrote c t e ∷ es) s = same_events es s
  same_events (Committed c t n m ∷ es) s = same_events es s
  same_events (Applied r t c n ∷ es) s = same_events es s

  same_candidate_log : (es : List (TraceEvent T ID D)) (u : T) (d : ID)
      → candidate_log_in other es u d ≡ candidate_log_in k es u d
  same_candidate_log [] u d = refl
  same_candidate_log (Campaigned c t ∷ es) u d =
      λ q. if same_leader k t c u d then log_after (same_events es c q) else same_candidate_log es u d q
  same_candidate_log (Granted r t c ∷ es) u d = same_candidate_log es u d
  same_candidate_log (Appended r t c n sent ∷ es) u d = same_candidate_log es u d
  same_candidate_log (Acked r t c n ∷ es) u d = same_candidate_log es u d
  same_candidate_log (Restarted r n ∷ es) u d = same_candidate_log es u d
  same_candidate_log (Wrote c t e ∷ es) u d = same_candidate_log es u d
  same_candidate_log (Committed c t n m ∷ es) u d = same_candidate_log es u d
  same_candidate_log (Applied r t c n ∷ es) u d = same_candidate_log es u d

  same_leader_log : (es : List (TraceEvent T ID D)) (u : T) (d : ID)
      → leader_log_in other es u d ≡ leader_log_in k es u d
  same_leader_log [] u d = refl
  same_leader_log (Campaigned c t ∷ es) u d =
      λ q. if same_leader k t c u d then log_after (same_events es c q) else same_leader_log es u d q
  same_leader_log (Granted r t c ∷ es) u d = same_leader_log es u d
  same_leader_log (Appended r t c n sent ∷ es) u d = same_leader_log es u d
  same_leader_log (Acked r t c n ∷ es) u d = same_leader_log es u d
  same_leader_log (Restarted r n ∷ es) u d = same_leader_log es u d
  same_leader_log (Wrote c t e ∷ es) u d =
      ap (λ x. if same_leader k t c u d then x ++ e ∷ [] else x) (same_leader_log es u d)
  same_leader_log (Committed c t n m ∷ es) u d = same_leader_log es u d
  same_leader_log (Applied r t c n ∷ es) u d = same_leader_log es u d

  same_campaigned : (es : List (TraceEvent T ID D)) (u : T) (d : ID)
      → has_campaigned other u d es ≡ has_campaigned k u d es
  same_campaigned [] u d = refl
  same_campaigned (Campaigned c t ∷ es) u d = ap (λ b. same_leader k t c u d || b) (same_campaigned es u d)
  same_campaigned (Granted r t c ∷ es) u d = same_campaigned es u d
  same_campaigned (Appended r t c n sent ∷ es) u d = same_campaigned es u d
  same_campaigned (Acked r t c n ∷ es) u d = same_campaigned es u d
  same_campaigned (Restarted r n ∷ es) u d = same_campaigned es u d
  same_campaigned (Wrote c t e ∷ es) u d = same_campaigned es u d
  same_campaigned (Committed c t n m ∷ es) u d = same_campaigned es u d
  same_campaigned (Applied r t c n ∷ es) u d = same_campaigned es u d

  same_committed : (es : List (TraceEvent T ID D)) (u : T) (d : ID)
      → committed_in other es u d ≡ committed_in k es u d
  same_committed [] u d = refl
  same_committed (Campaigned c t ∷ es) u d = same_committed es u d
  same_committed (Granted r t c ∷ es) u d = same_committed es u d
  same_committed (Appended r t c n sent ∷ es) u d = same_committed es u d
  same_committed (Acked r t c n ∷ es) u d = same_committed es u d
  same_committed (Restarted r n ∷ es) u d = same_committed es u d
  same_committed (Wrote c t e ∷ es) u d = same_committed es u d
  same_committed (Committed c t n m ∷ es) u d =
      ap (λ o. if same_leader k t c u d then Some (max (unwrap_or o 0) n) else o) (same_committed es u d)
  same_committed (Applied r t c n ∷ es) u d = same_committed es u d

  same_prefix : (p log : List (Entry T D)) → is_prefix other p log ≡ is_prefix k p log
  same_prefix [] log = refl
  same_prefix (e ∷ p) [] = refl
  same_prefix (e ∷ p) (f ∷ log) = ap (λ b. same_entry k e f && b) (same_prefix p log)

  same_common : (a b : List (Entry T D)) → common_prefix other a b ≡ common_prefix k a b
  same_common [] b = refl
  same_common (e ∷ a) [] = refl
  same_common (e ∷ a) (f ∷ b) = ap (λ x. if same_entry k e f then e ∷ x else []) (same_common a b)

  same_voted : (u : T) (d : ID) (evs : List (Event T ID D)) → has_voted other u d evs ≡ has_voted k u d evs
  same_voted u d [] = refl
  same_voted u d (GrantVote t c ∷ evs) = ap (λ b. same_leader k t c u d || b) (same_voted u d evs)
  same_voted u d (LateVote t c ∷ evs) = same_voted u d evs
  same_voted u d (Append t c log ∷ evs) = same_voted u d evs
  same_voted u d (Ack t c n ∷ evs) = same_voted u d evs
  same_voted u d (Restart log ∷ evs) = same_voted u d evs

  same_acked : (u : T) (d : ID) (m : ℕ) (evs : List (Event T ID D))
      → has_acked other u d m evs ≡ has_acked k u d m evs
  same_acked u d m [] = refl
  same_acked u d m (GrantVote t c ∷ evs) = same_acked u d m evs
  same_acked u d m (LateVote t c ∷ evs) = same_acked u d m evs
  same_acked u d m (Append t c log ∷ evs) = same_acked u d m evs
  same_acked u d m (Ack t c n ∷ evs) = ap (λ b. (same_leader k t c u d && nat_le m n) || b) (same_acked u d m evs)
  same_acked u d m (Restart log ∷ evs) = same_acked u d m evs

  same_kept : (r : ℕ) (p : List (Entry T D)) (evs : List (Event T ID D))
      → has_kept other r p evs ≡ has_kept k r p evs
  same_kept r p [] = same_prefix p []
  same_kept r p (e ∷ evs) =
      λ q. same_prefix p (log_after (e ∷ evs)) q
      && (nat_le (term_after k.rank (e ∷ evs)) r || same_kept r p evs q)

  same_durable : (evs : List (Event T ID D)) → durable other evs ≡ durable k evs
  same_durable [] = refl
  same_durable (GrantVote t c ∷ evs) = same_durable evs
  same_durable (LateVote t c ∷ evs) = same_durable evs
  same_durable (Append t c log ∷ evs) =
      λ q. min (same_durable evs q) (length (same_common (log_after evs) log q))
  same_durable (Ack t c n ∷ evs) = ap (λ x. max n x) (same_durable evs)
  same_durable (Restart log ∷ evs) =
      λ q. min (same_durable evs q) (length (same_common (log_after evs) log q))

  same_kept_at : (r : ℕ) (evs : List (Event T ID D)) → kept_at other r evs ≡ kept_at k r evs
  same_kept_at r [] = refl
  same_kept_at r (e ∷ evs) =
      ap (λ x. if nat_le (term_after k.rank (e ∷ evs)) r then length (log_after (e ∷ evs))
      else min x (common_len (same_entry k) (log_after evs) (log_after (e ∷ evs)))) (same_kept_at r evs)

  same_known : (r : ℕ) (p : List (Entry T D)) (es : List (TraceEvent T ID D))
      → is_known_committed other r p es ≡ is_known_committed k r p es
  same_known r p [] = refl
  same_known r p (Campaigned c t ∷ es) = same_known r p es
  same_known r p (Granted s t c ∷ es) = same_known r p es
  same_known r p (Appended s t c n sent ∷ es) = same_known r p es
  same_known r p (Acked s t c n ∷ es) = same_known r p es
  same_known r p (Restarted s n ∷ es) = same_known r p es
  same_known r p (Wrote c t e ∷ es) = same_known r p es
  same_known r p (Committed c t n m ∷ es) =
      (λ q. (nat_le (k.rank t) r && is_prefix other p (take n (same_leader_log es t c q))) || same_known r p es q)
      ∙ (λ q. (nat_le (k.rank t) r && same_prefix p (take n (leader_log_in k es t c)) q) || is_known_committed k r p es)
  same_known r p (Applied s t c n ∷ es) = same_known r p es

  same_known_by : (early : T → ℕ → Bool) (p : List (Entry T D)) (es : List (TraceEvent T ID D))
      → is_known_by other early p es ≡ is_known_by k early p es
  same_known_by early p [] = refl
  same_known_by early p (Campaigned c t ∷ es) = same_known_by early p es
  same_known_by early p (Granted s t c ∷ es) = same_known_by early p es
  same_known_by early p (Appended s t c n sent ∷ es) = same_known_by early p es
  same_known_by early p (Acked s t c n ∷ es) = same_known_by early p es
  same_known_by early p (Restarted s n ∷ es) = same_known_by early p es
  same_known_by early p (Wrote c t e ∷ es) = same_known_by early p es
  same_known_by early p (Committed c t n m ∷ es) =
      (λ q. (early t m && is_prefix other p (take n (same_leader_log es t c q))) || same_known_by early p es q)
      ∙ (λ q. (early t m && same_prefix p (take n (leader_log_in k es t c)) q) || is_known_by k early p es)
  same_known_by early p (Applied s t c n ∷ es) = same_known_by early p es

  voted_same : (es : List (TraceEvent T ID D)) (t : T) (c v : ID)
      → has_voted other t c (events_in other es v) ≡ has_voted k t c (events_in k es v)
  voted_same es t c v =
      same_voted t c (events_in other es v) ∙ ap (λ x. has_voted k t c x) (same_events es v)

  acked_same : (es : List (TraceEvent T ID D)) (t : T) (c : ID) (n : ℕ) (v : ID)
      → has_acked other t c n (events_in other es v) ≡ has_acked k t c n (events_in k es v)
  acked_same es t c n v =
      same_acked t c n (events_in other es v) ∙ ap (λ x. has_acked k t c n x) (same_events es v)

  -- ---- what depends on configs, if no entry of the events has a content

  -- another config than that of this content
  abbrev pub IsOther : D → Option D → Type 0
  IsOther d None = Unit {0}
  IsOther d (Some x) = k.same_content d x ≡ false

  -- the two ways to test differ at the config of this content alone, and configs are named by contents
  pub record Agree (d : D) : Type 0 where
    pub config : (x : D) → k.same_content d x ≡ false → config_of x ≡ k.config_of x
    pub named : (x : D) (m : Option D) → k.config_of x ≡ Some m → m ≡ Some x
    pub quorum : (m : Option D) → IsOther d m → (set : ID → Bool) → quorum_of m set ≡ k.quorum_of m set
    pub meet : (m n : Option D) → IsOther d m → IsOther d n → intersect m n ≡ k.intersect m n
    pub initial : IsOther d k.initial

  module _ (d : D) (agree : Agree d) where
    lack_log : (es : List (TraceEvent T ID D)) → IsUnused k.same_content d es → (s : ID)
        → LackContent k.same_content d (log_in k es s)
    lack_log [] h s = tt
    lack_log (Campaigned r t ∷ es) h s = go (k.same_id r s) (lack_log es h s)
      where
        go : (b : Bool) → LackContent k.same_content d (log_after (events_in k es s))
            → LackContent k.same_content d (log_after (if b then GrantVote t r ∷ events_in k es s else events_in k es s))
        go true x = x
        go false x = x
    lack_log (Granted r t c ∷ es) h s =
        go (k.same_id r s) (nat_lt (term_after k.rank (events_in k es s)) (k.rank t)) (lack_log es h s)
      where
        go : (b v : Bool) → LackContent k.same_content d (log_after (events_in k es s))
            → LackContent k.same_content d (log_after (if b then (if v then GrantVote t c else LateVote t c) ∷ events_in k es s
            else events_in k es s))
        go true true x = x
        go true false x = x
        go false v x = x
    lack_log (Appended r t c n sent ∷ es) h s = go (k.same_id r s) (lack_log es h.1 s)
      where
        go : (b : Bool) → LackContent k.same_content d (log_after (events_in k es s))
            → LackContent k.same_content d (log_after (if b then and_append t c n sent (events_in k es s) else events_in k es s))
        go true x =
            lack_append k.same_content d (take n (log_after (events_in k es s))) sent
            (lack_take k.same_content d n (log_after (events_in k es s)) x) h.0
        go false x = x
    lack_log (Acked r t c n ∷ es) h s = go (k.same_id r s) (lack_log es h s)
      where
        go : (b : Bool) → LackContent k.same_content d (log_after (events_in k es s))
            → LackContent k.same_content d (log_after (if b then Ack t c n ∷ events_in k es s else events_in k es s))
        go true x = x
        go false x = x
    lack_log (Restarted r n ∷ es) h s = go (k.same_id r s) (lack_log es h s)
      where
        go : (b : Bool) → LackContent k.same_content d (log_after (events_in k es s))
            → LackContent k.same_content d (log_after (if b then and_restart n (events_in k es s) else events_in k es s))
        go true x = lack_take k.same_content d n (log_after (events_in k es s)) x
        go false x = x
    lack_log (Wrote c t e ∷ es) h s = lack_log es h.1 s
    lack_log (Committed c t n m ∷ es) h s = lack_log es h s
    lack_log (Applied r t c n ∷ es) h s = lack_log es h s

    lack_candidate : (es : List (TraceEvent T ID D)) → IsUnused k.same_content d es → (u : T) (v : ID)
        → LackContent k.same_content d (candidate_log_in k es u v)
    lack_candidate [] h u v = tt
    lack_candidate (Campaigned c t ∷ es) h u v =
        go (same_leader k t c u v) (lack_log es h c) (lack_candidate es h u v)
      where
        go : (b : Bool) → LackContent k.same_content d (log_in k es c)
            → LackContent k.same_content d (candidate_log_in k es u v)
            → LackContent k.same_content d (if b then log_in k es c else candidate_log_in k es u v)
        go true x y = x
        go false x y = y
    lack_candidate (Granted r t c ∷ es) h u v = lack_candidate es h u v
    lack_candidate (Appended r t c n sent ∷ es) h u v = lack_candidate es h.1 u v
    lack_candidate (Acked r t c n ∷ es) h u v = lack_candidate es h u v
    lack_candidate (Restarted r n ∷ es) h u v = lack_candidate es h u v
    lack_candidate (Wrote c t e ∷ es) h u v = lack_candidate es h.1 u v
    lack_candidate (Committed c t n m ∷ es) h u v = lack_candidate es h u v
    lack_candidate (Applied r t c n ∷ es) h u v = lack_candidate es h u v

    lack_leader : (es : List (TraceEvent T ID D)) → IsUnused k.same_content d es → (u : T) (v : ID)
        → LackContent k.same_content d (leader_log_in k es u v)
    lack_leader [] h u v = tt
    lack_leader (Campaigned c t ∷ es) h u v =
        go (same_leader k t c u v) (lack_log es h c) (lack_leader es h u v)
      where
        go : (b : Bool) → LackContent k.same_content d (log_in k es c)
            → LackContent k.same_content d (leader_log_in k es u v)
            → LackContent k.same_content d (if b then log_in k es c else leader_log_in k es u v)
        go true x y = x
        go false x y = y
    lack_leader (Granted r t c ∷ es) h u v = lack_leader es h u v
    lack_leader (Appended r t c n sent ∷ es) h u v = lack_leader es h.1 u v
    lack_leader (Acked r t c n ∷ es) h u v = lack_leader es h u v
    lack_leader (Restarted r n ∷ es) h u v = lack_leader es h u v
    lack_leader (Wrote c t e ∷ es) h u v = go (same_leader k t c u v) (lack_leader es h.1 u v)
      where
        go : (b : Bool) → LackContent k.same_content d (leader_log_in k es u v)
            → LackContent k.same_content d (if b then leader_log_in k es u v ++ e ∷ [] else leader_log_in k es u v)
        go true x = lack_append k.same_content d (leader_log_in k es u v) (e ∷ []) x (h.0, tt)
        go false x = x
    lack_leader (Committed c t n m ∷ es) h u v = lack_leader es h u v
    lack_leader (Applied r t c n ∷ es) h u v = lack_leader es h u v

    other_config : (x : D) (m : Option D) → k.same_content d x ≡ false → k.config_of x ≡ Some m → IsOther d m
    other_config x m h e = subst (IsOther d) (sym (agree.named x m e)) h

    other_effective : (m : Option D) (log : List (Entry T D)) → IsOther d m → LackContent k.same_content d log
        → IsOther d (effective_config k.config_of m log)
    other_effective m [] o h = o
    other_effective m (e ∷ log) o h =
        other_effective (unwrap_or (k.config_of e.content) m) log (go (k.config_of e.content) refl) h.1
      where
        go : (c : Option (Option D)) → k.config_of e.content ≡ c → IsOther d (unwrap_or c m)
        go None q = o
        go (Some x) q = other_config e.content x h.0 q

    same_no_config : (log : List (Entry T D)) → LackContent k.same_content d log
        → hold_no_config other log ≡ hold_no_config k log
    same_no_config [] h = refl
    same_no_config (e ∷ log) h = λ q. is_none (agree.config e.content h.0 q) && same_no_config log h.1 q

    same_quorum : (log : List (Entry T D)) (set : ID → Bool) → LackContent k.same_content d log
        → is_quorum_of_log other log set ≡ is_quorum_of_log k log set
    same_quorum log set h =
        (λ q. quorum_of (same_effective k.same_content d config_of k.config_of agree.config k.initial log h q) set)
        ∙ agree.quorum (effective_config k.config_of k.initial log) (other_effective k.initial log agree.initial h) set

    same_at_most_one : (log : List (Entry T D)) → LackContent k.same_content d log
        → hold_at_most_one other log ≡ hold_at_most_one k log
    same_at_most_one [] h = refl
    same_at_most_one (e ∷ log) h =
        λ q. same_no_config log h.1 q
        || (is_none (agree.config e.content h.0 q) && same_at_most_one log h.1 q)

    same_elected : (es : List (TraceEvent T ID D)) (t : T) (c : ID) → IsUnused k.same_content d es
        → is_elected_when other es t c ≡ is_elected_when k es t c
    same_elected es t c h = go k.counting
      where
        log : List (Entry T D)
        log = candidate_log_in k es t c

        lacks : LackContent k.same_content d log
        lacks = lack_candidate es h t c

        go : (w : ConfigsCount) → (tests_by other w).is_elected es t c ≡ (tests_by k w).is_elected es t c
        go WhenAppended =
            (λ q. voted_same es t c c q
            && is_quorum_of_log other (same_candidate_log es t c q) (λ v. voted_same es t c v q))
            ∙ (λ q. has_voted k t c (events_in k es c)
            && same_quorum log (λ v. has_voted k t c (events_in k es v)) lacks q)
        go WhenApplied =
            (λ q. voted_same es t c c q && some_upto (length (same_candidate_log es t c q))
            (λ a. (hold_no_config other (take a (same_candidate_log es t c q))
            || is_known_by other (is_earlier k t) (take a (same_candidate_log es t c q)) es)
            && (hold_at_most_one other (drop a (same_candidate_log es t c q))
            && is_quorum_of_log other (take a (same_candidate_log es t c q)) (λ v. voted_same es t c v q))))
            ∙ (λ q. has_voted k t c (events_in k es c) && some_upto (length log)
            (λ a. (same_no_config (take a log) (lack_take k.same_content d a log lacks) q
            || same_known_by (is_earlier k t) (take a log) es q)
            && (same_at_most_one (drop a log) (lack_drop k.same_content d a log lacks) q
            && same_quorum (take a log) (λ v. has_voted k t c (events_in k es v)) (lack_take k.same_content d a log lacks) q)))

    same_configs_committed : (es : List (TraceEvent T ID D)) (u : T) (v : ID) (log : List (Entry T D))
        → LackContent k.same_content d log → is_config_committed other u v log es ≡ is_config_committed k u v log es
    same_configs_committed [] u v log h = refl
    same_configs_committed (Campaigned c t ∷ es) u v log h = same_configs_committed es u v log h
    same_configs_committed (Granted r t c ∷ es) u v log h = same_configs_committed es u v log h
    same_configs_committed (Appended r t c n sent ∷ es) u v log h = same_configs_committed es u v log h
    same_configs_committed (Acked r t c n ∷ es) u v log h = same_configs_committed es u v log h
    same_configs_committed (Restarted r n ∷ es) u v log h = same_configs_committed es u v log h
    same_configs_committed (Wrote c t e ∷ es) u v log h = same_configs_committed es u v log h
    same_configs_committed (Committed c t n m ∷ es) u v log h =
        λ q. (same_leader k t c u v && same_no_config (drop n log) (lack_drop k.same_content d n log h) q)
        || same_configs_committed es u v log h q
    same_configs_committed (Applied r t c n ∷ es) u v log h = same_configs_committed es u v log h

    same_proposal : (es : List (TraceEvent T ID D)) (t : T) (c : ID) (x : D) → IsUnused k.same_content d es
        → k.same_content d x ≡ false
        → (tests_by other k.counting).config_rule es t c (config_of x)
        ≡ (tests_by k k.counting).config_rule es t c (k.config_of x)
    same_proposal es t c x h new =
        ap (λ o. (tests_by other k.counting).config_rule es t c o) (agree.config x new)
        ∙ go k.counting (k.config_of x) refl
      where
        log : List (Entry T D)
        log = leader_log_in k es t c

        lacks : LackContent k.same_content d log
        lacks = lack_leader es h t c

        in_effect : effective_config config_of k.initial (leader_log_in other es t c)
            ≡ effective_config k.config_of k.initial log
        in_effect =
            (λ q. effective_config config_of k.initial (same_leader_log es t c q))
            ∙ same_effective k.same_content d config_of k.config_of agree.config k.initial log lacks

        committed : is_config_committed other t c (leader_log_in other es t c) es ≡ is_config_committed k t c log es
        committed =
            (λ q. is_config_committed other t c (same_leader_log es t c q) es)
            ∙ same_configs_committed es t c log lacks

        old_and_new : (m : Option D) → IsOther d m
            → intersect (effective_config config_of k.initial (leader_log_in other es t c)) m
            ≡ k.intersect (effective_config k.config_of k.initial log) m
        old_and_new m is_other =
            (λ i. intersect (in_effect i) m)
            ∙ agree.meet (effective_config k.config_of k.initial log) m (other_effective k.initial log agree.initial lacks) is_other

        go : (w : ConfigsCount) (o : Option (Option D)) → k.config_of x ≡ o
            → (tests_by other w).config_rule es t c o ≡ (tests_by k w).config_rule es t c o
        go WhenAppended None q = refl
        go WhenApplied None q = refl
        go WhenAppended (Some m) q =
            let is_other : IsOther d m = other_config x m new q in
            λ i. unless (old_and_new m is_other i) ApartConfigs
            (unless (agree.meet m m is_other is_other i) ApartQuorums
            (unless (committed i) EarlyConfig None))
        go WhenApplied (Some m) q =
            let is_other : IsOther d m = other_config x m new q in
            λ i. unless (old_and_new m is_other i) ApartConfigs
            (unless (agree.meet m m is_other is_other i) ApartQuorums None)

    same_commit : (w : ConfigsCount) (es : List (TraceEvent T ID D)) (t : T) (c : ID) (n m : ℕ)
        → IsUnused k.same_content d es
        → (tests_by other w).commit_rule es t c n m ≡ (tests_by k w).commit_rule es t c n m
    same_commit w es t c n m h = go w
      where
        log : List (Entry T D)
        log = leader_log_in k es t c

        lacks : LackContent k.same_content d log
        lacks = lack_leader es h t c

        quorum : is_quorum_of_log other (take m (leader_log_in other es t c))
            (λ v. has_acked other t c n (events_in other es v))
            ≡ is_quorum_of_log k (take m log) (λ v. has_acked k t c n (events_in k es v))
        quorum =
            (λ q. is_quorum_of_log other (take m (same_leader_log es t c q)) (λ v. acked_same es t c n v q))
            ∙ same_quorum (take m log) (λ v. has_acked k t c n (events_in k es v)) (lack_take k.same_content d m log lacks)

        known : may_count_acks other es t c m ≡ may_count_acks k es t c m
        known =
            (λ q. hold_no_config other (take m (same_leader_log es t c q))
            || is_known_by other (is_shorter k t m) (take m (same_leader_log es t c q)) es)
            ∙ (λ q. same_no_config (take m log) (lack_take k.same_content d m log lacks) q
            || same_known_by (is_shorter k t m) (take m log) es q)

        follows : hold_at_most_one other (drop m (take n (leader_log_in other es t c)))
            ≡ hold_at_most_one k (drop m (take n log))
        follows =
            (λ q. hold_at_most_one other (drop m (take n (same_leader_log es t c q))))
            ∙ same_at_most_one (drop m (take n log))
            (lack_drop k.same_content d m (take n log) (lack_take k.same_content d n log lacks))

        go : (x : ConfigsCount)
            → (tests_by other x).commit_rule es t c n m ≡ (tests_by k x).commit_rule es t c n m
        go WhenAppended =
            λ q. unless (nat_le n m) CountedEarly
            (unless (nat_le m (length (same_leader_log es t c q))) NotWritten (unless (quorum q) NoQuorum None))
        go WhenApplied =
            λ q. unless (nat_le m n) CountedLate
            (unless (nat_le n (length (same_leader_log es t c q))) NotWritten
            (unless (known q) UnknownConfig (unless (follows q) ConfigsFollow (unless (quorum q) NoQuorum None))))

    -- ---- which rule an event breaks

    same_rule : (e : TraceEvent T ID D) (es : List (TraceEvent T ID D)) → IsUnused k.same_content d (e ∷ es)
        → first_broken other e es ≡ first_broken k e es
    same_rule (Campaigned c t) es h = rw (same_campaigned es t c, same_events es c) refl
    same_rule (Granted s t c) es h =
        rw (same_campaigned es t c, same_events es s, same_candidate_log es t c) refl
    same_rule (Appended s t c n sent) es h =
        rw (
          same_elected es t c h.1,
          same_events es s,
          same_leader_log es t c,
          same_common (log_in k es s) (leader_log_in k es t c),
          same_prefix (common_prefix k (log_in k es s) (leader_log_in k es t c)) (take n (log_in k es s) ++ sent),
          same_prefix (take n (log_in k es s) ++ sent) (log_in k es s),
          same_prefix (take n (log_in k es s) ++ sent) (leader_log_in k es t c),
        ) refl
    same_rule (Acked s t c n) es h =
        rw (
          same_elected es t c h,
          same_events es s,
          same_leader_log es t c,
          same_kept (k.rank t) (take n (leader_log_in k es t c)) (events_in k es s),
        ) refl
    same_rule (Restarted s n) es h = rw (same_events es s, same_durable (events_in k es s)) refl
    same_rule (Wrote c t e) es h =
        rw (same_elected es t c h.1, same_proposal es t c e.content h.1 h.0) refl
    same_rule (Committed c t n m) es h =
        λ q. unless (same_elected es t c h q) NotElected
        (unless (nat_lt (length (same_candidate_log es t c q)) n) EarlierTerm (same_commit k.counting es t c n m h q))
    same_rule (Applied s t c n) es h =
        rw (
          same_elected es t c h,
          same_events es s,
          same_leader_log es t c,
          same_prefix (take n (leader_log_in k es t c)) (log_in k es s),
          same_known (k.rank t) (take n (leader_log_in k es t c)) es,
        ) refl

    earlier_unused : (e : TraceEvent T ID D) (es : List (TraceEvent T ID D)) → IsUnused k.same_content d (e ∷ es)
        → IsUnused k.same_content d es
    earlier_unused (Campaigned c t) es h = h
    earlier_unused (Granted s t c) es h = h
    earlier_unused (Appended s t c n sent) es h = h.1
    earlier_unused (Acked s t c n) es h = h
    earlier_unused (Restarted s n) es h = h
    earlier_unused (Wrote c t e) es h = h.1
    earlier_unused (Committed c t n m) es h = h
    earlier_unused (Applied s t c n) es h = h

    same_allowed : (es : List (TraceEvent T ID D)) → IsUnused k.same_content d es
        → are_all_allowed other es ≡ are_all_allowed k es
    same_allowed [] h = agree.meet k.initial k.initial agree.initial agree.initial
    same_allowed (e ∷ es) h =
        λ q. is_none (same_rule e es h q) && same_allowed es (earlier_unused e es h) q

    -- ---- what is kept

    server_still : (evs : List (Event T ID D)) (s : ServerState T ID D) → SeesServer k evs s → SeesServer other evs s
    server_still evs s sees = record {
      term = sees.term;
      voted = sees.voted;
      log = sees.log;
      durable = same_durable evs ∙ sees.durable;
      kept = λ r h. same_kept_at r evs ∙ sees.kept r h;
      votes = λ t c e. sees.votes t c (sym (same_voted t c evs) ∙ e);
    }

    servers_still : (es : List (TraceEvent T ID D)) (servers : List (ServerState T ID D)) → SeesServers k es servers
        → SeesServers other es servers
    servers_still es servers sees id =
        subst (λ (evs : List (Event T ID D)). MatchOption (find_server k servers id) (evs ≡ []) (SeesServer other evs))
        (sym (same_events es id)) (go (find_server k servers id) (sees id))
      where
        go : (o : Option (ServerState T ID D))
            → MatchOption o (events_in k es id ≡ []) (SeesServer k (events_in k es id))
            → MatchOption o (events_in k es id ≡ []) (SeesServer other (events_in k es id))
        go None x = x
        go (Some s) x = server_still (events_in k es id) s x

    leaders_still : (es : List (TraceEvent T ID D)) (leaders : List (LeaderState T ID D))
        → IsUnused k.same_content d es → SeesLeaders k es leaders → SeesLeaders other es leaders
    leaders_still es leaders h sees t c = go (find_leader k leaders t c) (sees t c)
      where
        go : (o : Option (LeaderState T ID D)) → MatchOption o (SeesNoLeader k es t c) (SeesLeader k es t c)
            → MatchOption o (SeesNoLeader other es t c) (SeesLeader other es t c)
        go None x = record {
          campaigned = same_campaigned es t c ∙ x.campaigned;
          candidate_log = same_candidate_log es t c ∙ x.candidate_log;
          leader_log = same_leader_log es t c ∙ x.leader_log;
          voted = λ v. voted_same es t c v ∙ x.voted v;
          acked = λ v n. acked_same es t c n v ∙ x.acked v n;
          committed = same_committed es t c ∙ x.committed;
        }
        go (Some l) x = record {
          campaigned = same_campaigned es t c ∙ x.campaigned;
          start = x.start;
          candidate_log = same_candidate_log es t c ∙ x.candidate_log;
          leader_log = same_leader_log es t c ∙ x.leader_log;
          voted = λ v. voted_same es t c v ∙ x.voted v;
          distinct = x.distinct;
          own_vote = x.own_vote;
          elected = subst (λ (b : Bool). IsElectionOf k.counting b l.elected) (sym (same_elected es t c h)) x.elected;
          acked = λ v n. acked_same es t c n v ∙ x.acked v n;
          committed = same_committed es t c ∙ x.committed;
          within = x.within;
        }

    known_still : (w : ConfigsCount) (es : List (TraceEvent T ID D)) (commits : List (CommitState T D))
        → SeesKnownBy k w es commits → SeesKnownBy other w es commits
    known_still WhenAppended es commits sees = tt
    known_still WhenApplied es commits sees = λ t a p. same_known_by (is_shorter k t a) p es ∙ sees t a p

    logs_still : (t : AllLogs T D) → AreWithout k.same_content t d → AreLogs (λ x. is_some (k.config_of x)) t
        → AreLogs (λ x. is_some (config_of x)) t
    logs_still t without are = record {
      some = are.some;
      empty = are.empty;
      distinct = are.distinct;
      same_len = are.same_len;
      config_first = are.config_first;
      config = λ i h. record {
        content = (are.config i h).content
            ∙ sym (same_effective k.same_content d (config_in (λ x. is_some (config_of x)))
            (config_in (λ x. is_some (k.config_of x))) in_agree None (log_at t i) (without i h));
        since = λ n. no_config (drop n (log_at t i)) (lack_drop k.same_content d n (log_at t i) (without i h))
            ∙ (are.config i h).since n;
        prefix = (are.config i h).prefix;
      };
    }
      where
        in_agree : (x : D) → k.same_content d x ≡ false
            → config_in (λ y. is_some (config_of y)) x ≡ config_in (λ y. is_some (k.config_of y)) x
        in_agree x e = λ q. if is_some (agree.config x e q) then Some (Some x) else None

        no_config : (log : List (Entry T D)) → LackContent k.same_content d log
            → no_config_in (λ x. is_some (config_of x)) log ≡ no_config_in (λ x. is_some (k.config_of x)) log
        no_config [] h = refl
        no_config (e ∷ log) h = λ q. not (is_some (agree.config e.content h.0 q)) && no_config log h.1 q

    pub keeps_still : (es : List (TraceEvent T ID D)) (p : Parts T ID D) → AreWithout k.same_content p.logs d
        → Keeps k es p → Keeps other es p
    keeps_still es p without keeps =
        let new : IsUnused k.same_content d es = (keeps.unused d).0 without in record {
          are_logs = logs_still p.logs without keeps.are_logs;
          have_logs = keeps.have_logs;
          placed = keeps.placed;
          bounded = keeps.bounded;
          known = known_still k.counting es (commits_in p) keeps.known;
          counting = keeps.counting;
          unused = keeps.unused;
          seen = record {
            allowed = same_allowed es new ∙ keeps.seen.allowed;
            see_servers = servers_still es (servers_in p) keeps.seen.see_servers;
            see_leaders = leaders_still es (leaders_in p) new keeps.seen.see_leaders;
            see_commits = λ r x. same_known r x es ∙ keeps.seen.see_commits r x;
          };
        }

-- ---- memberships that become known

-- a config is named by the content of its entry
config_named : {D : Type 0} (holds : D → Bool) (x : D) (m : Option D) → config_in holds x ≡ Some m → m ≡ Some x
config_named {D} holds x m e = go (holds x) e
  where
    go : (b : Bool) → (if b then Some (Some x) else None) ≡ Some m → m ≡ Some x
    go true h = sym (same_Some (Some x) m h)
    go false h = absurd (cc)

any_still : {X : Type 0} (p : X → Bool) (xs : List X) (y : X) → p y ≡ false → list_any p (xs ++ y ∷ []) ≡ list_any p xs
any_still p [] y e = ap (λ b. b || false) e
any_still p (x ∷ xs) y e = ap (λ b. p x || b) (any_still p xs y e)

held_still : {Q D : Type 0} (same : D → D → Bool) (d : D) (q : List Q) (held : List (D × List Q)) (x : D)
    → same d x ≡ false → held_by same x (held ++ (d, q) ∷ []) ≡ held_by same x held
held_still same d q [] x e = ap (λ b. if b then q else []) e
held_still same d q (m ∷ held) x e = ap (λ r. if same m.0 x then m.1 else r) (held_still same d q held x e)

-- what memberships are tested by: the terms, ids and contents, and the configs of a membership
module _ {T ID D Q V : Type 0} (counting : ConfigsCount) (rank : T → ℕ) (same_term : T → T → Bool) (eq : ID → ID → Bool)
    (same : D → D → Bool)
    (voters : Q → List ID) (items : V → List Q) where
  abbrev configs_in : List Q → List (D × V) → Option D → List Q
  configs_in initial held m = configs_of same initial (map (λ p. (p.0, items p.1)) held) m

  abbrev known_meet : List Q → List Q → Bool
  known_meet these others =
      share_child (λ q r. pointwise eq (voters q) (voters r)) these others || some_meet eq voters these others

  abbrev pub member_tests : List Q → List (D × V) → Tests T ID D (Option D)
  member_tests initial held = record {
    rank = rank;
    same_term = same_term;
    same_id = eq;
    same_content = same;
    config_of = config_in (λ x. list_any (λ p. same p.0 x) held);
    initial = None;
    quorum_of = λ m set. list_all (λ q. is_majority eq (voters q) set) (configs_in initial held m);
    intersect = λ m n. known_meet (configs_in initial held m) (configs_in initial held n);
    counting = counting;
  }

  -- the same memberships, kept elsewhere
  pub unchanged : (initial initial2 : List Q) (held held2 : List (D × V)) → initial2 ≡ initial → held2 ≡ held
      → (es : List (TraceEvent T ID D)) (p : Parts T ID D) → Keeps (member_tests initial held) es p
      → Keeps (member_tests initial2 held2) es p
  unchanged initial initial2 held held2 is same_held es p keeps = rw (is, same_held) keeps

  module _ (initial : List Q) (held : List (D × V)) (d : D) (v : V) where
    abbrev more : List (D × V)
    more = held ++ (d, v) ∷ []

    configs_still : (m : Option D) → MatchOption m (Unit {0}) (λ x. same d x ≡ false)
        → configs_in initial more m ≡ configs_in initial held m
    configs_still None h = refl
    configs_still (Some x) h =
        ap (held_by same x) (map-append (λ p. (p.0, items p.1)) held ((d, v) ∷ []))
        ∙ held_still same d (items v) (map (λ p. (p.0, items p.1)) held) x h

    is_other : (m : Option D)
        → IsOther (member_tests initial held) (member_tests initial more).config_of (member_tests initial more).quorum_of
        (member_tests initial more).intersect d m
        → MatchOption m (Unit {0}) (λ x. same d x ≡ false)
    is_other None h = tt
    is_other (Some x) h = h

    agree : Agree (member_tests initial held) (member_tests initial more).config_of (member_tests initial more).quorum_of
        (member_tests initial more).intersect d
    agree = record {
      config = λ x h. ap (λ b. if b then Some (Some x) else None) (any_still (λ p. same p.0 x) held (d, v) h);
      named = λ x m e. config_named (λ y. list_any (λ p. same p.0 y) held) x m e;
      quorum = λ m h set. ap (λ l. list_all (λ q. is_majority eq (voters q) set) l) (configs_still m (is_other m h));
      meet = λ m n h g. λ q. known_meet (configs_still m (is_other m h) q) (configs_still n (is_other n g) q);
      initial = tt;
    }

    pub grown : (initial2 : List Q) (held2 : List (D × V)) → initial2 ≡ initial → held2 ≡ more
        → (es : List (TraceEvent T ID D)) (p : Parts T ID D) → AreWithout same p.logs d
        → Keeps (member_tests initial held) es p → Keeps (member_tests initial2 held2) es p
    grown initial2 held2 is is_more es p without keeps =
        rw (is, is_more) (keeps_still (member_tests initial held) (member_tests initial more).config_of
        (member_tests initial more).quorum_of (member_tests initial more).intersect d agree es p without keeps)

    agree_back : Agree (member_tests initial more) (member_tests initial held).config_of (member_tests initial held).quorum_of
        (member_tests initial held).intersect d
    agree_back = record {
      config = λ x h. sym (agree.config x h);
      named = λ x m e. config_named (λ y. list_any (λ p. same p.0 y) more) x m e;
      quorum = λ m h set. sym (agree.quorum m (is_other_back m h) set);
      meet = λ m n h g. sym (agree.meet m n (is_other_back m h) (is_other_back n g));
      initial = tt;
    }
      where
        is_other_back : (m : Option D)
            → IsOther (member_tests initial more) (member_tests initial held).config_of (member_tests initial held).quorum_of
            (member_tests initial held).intersect d m
            → IsOther (member_tests initial held) (member_tests initial more).config_of (member_tests initial more).quorum_of
            (member_tests initial more).intersect d m
        is_other_back None h = tt
        is_other_back (Some x) h = h

    -- the last membership is forgotten
    pub shrunk : (initial2 : List Q) (held2 last : List (D × V)) → initial2 ≡ initial → held2 ≡ held → last ≡ more
        → (es : List (TraceEvent T ID D)) (p : Parts T ID D) → AreWithout same p.logs d
        → Keeps (member_tests initial last) es p → Keeps (member_tests initial2 held2) es p
    shrunk initial2 held2 last is is_held is_more es p without keeps =
        rw (is, is_held) (keeps_still (member_tests initial more) (member_tests initial held).config_of
        (member_tests initial held).quorum_of (member_tests initial held).intersect d agree_back es p without
        (rw is_more at keeps))
