-- A trace that passes the test is an execution, however a cluster uses configs.
use Rattle.std.specs.Prelude.{◌≡◌, ◌⊎◌, ◌≤◌, ℕ, Bool, true, false, not, ◌&&◌, ◌||◌, nat_lt, nat_le, if◌then◌else◌, Some, is_none, List, [], ◌∷◌, ◌++◌, length, take, drop, get_or}
use Rattle.std.specs.Cmp.{first_so, second_so}
use Rattle.std.proofs.Common.{refl, sym, ap, ◌∙◌, inl, inr, arith, ltb-true}
use Rattle.std.proofs.lemmas.Bool.{leb-true, ltb-false, or_left, or_right}
use Rattle.std.proofs.lemmas.List.{length-append, length-take-le}
use Rattle.std.proofs.lemmas.List.Prefix.{front_rest}
use Rattle.safety_laws.specs.Log.{Entry, IsPrefix, last_term}
use Rattle.safety_laws.specs.Events.{Ack, Append, Event, GrantVote, LateVote, History, Restart, log_after}
use Rattle.safety_laws.specs.Facts.{Counting, HasVoted, IsCommittedBy, IsElectedBy}
use Rattle.safety_laws.specs.Rules.{MayAckBy, MayAppendBy, MayGrantVoteBy, MayRestart, MayVoteLate}
use Rattle.safety_laws.specs.Apply.{MayApplyBy}
use Rattle.safety_laws.specs.Configs.{QuorumsIntersect}
use Rattle.safety_laws.specs.Ranks.{IsAmong}
use Rattle.safety_laws.specs.Execution.{ConfigRules, IsExecutionBy, LeaderAppendsBy, MayDoBy, NextBy, ServerStepBy, StartsCampaignBy}
use Rattle.safety_laws.specs.Trace.{Acked, Appended, Applied, AreExact, Campaigned, Committed, Granted, ConfigTests, IsSafeTraceBy, Restarted, TermsHaveRanks, Tests, TraceEvent, WasApplied, Wrote, are_allowed_by, campaign_terms, candidate_log_in, common_prefix, durable, earlier, events_in, has_campaigned, has_kept, history, is_allowed_by, is_known_committed, is_prefix, is_up_to_date, leader_log_in, log_in, same_leader, term_in, voted_in}
use Rattle.safety_laws.proofs.lemmas.PrefixLemmas.{append-nil, prefix_itself, prefix_trans, prefix_take, prefix_length, prefix_same, prefix_within}
use Rattle.safety_laws.proofs.lemmas.RuleLemmas.{allowed_by_rules, passes}
use Rattle.safety_laws.proofs.lemmas.ServerLemmas.{durable_now, had_now}
use Rattle.safety_laws.proofs.lemmas.StepLemmas.{AreSteady, all_times_agree, execution_is_safe, step_keeps_facts}
use Rattle.safety_laws.proofs.lemmas.TestLemmas.{or_cases, not_so, leader_right, leader_from, prefix_right, common_right, up_to_date_right, kept_right, durable_within}

module _ {T ID D M : Type 0} (k : Tests T ID D M) (exact : AreExact k) (conf : ConfigTests T ID D M) where
  abbrev Events : Type 0
  Events = List (TraceEvent T ID D)

  -- who has a vote has campaigned
  campaigned_if : (b : Bool) (u : T) (d : ID) (es : Events) (s : ID) (t : T) (c : ID)
      → (HasVoted t c (events_in k es s) → has_campaigned k t c es ≡ true)
      → HasVoted t c (if b then GrantVote u d ∷ events_in k es s else events_in k es s)
      → (same_leader k u d t c || has_campaigned k t c es) ≡ true
  campaigned_if true u d es s t c rec (inl x) =
      or_left (same_leader k u d t c) (has_campaigned k t c es) (leader_from k exact u t d c x.0 x.1)
  campaigned_if true u d es s t c rec (inr x) =
      or_right (same_leader k u d t c) (has_campaigned k t c es) (rec x)
  campaigned_if false u d es s t c rec x =
      or_right (same_leader k u d t c) (has_campaigned k t c es) (rec x)

  granted_if : (b v : Bool) (u : T) (d : ID) (es : Events) (s : ID) (t : T) (c : ID)
      → has_campaigned k u d es ≡ true
      → (HasVoted t c (events_in k es s) → has_campaigned k t c es ≡ true)
      → HasVoted t c (if b then (if v then GrantVote u d else LateVote u d) ∷ events_in k es s
      else events_in k es s)
      → has_campaigned k t c es ≡ true
  granted_if true true u d es s t c had rec (inl x) = rw (x.0, x.1) at had
  granted_if true true u d es s t c had rec (inr x) = rec x
  granted_if true false u d es s t c had rec x = rec x
  granted_if false v u d es s t c had rec x = rec x

  skip_append : (b : Bool) (u : T) (d : ID) (log : List (Entry T D)) (es : List (Event T ID D)) (t : T)
      (c : ID) → HasVoted t c (if b then Append u d log ∷ es else es) → HasVoted t c es
  skip_append true u d log es t c x = x
  skip_append false u d log es t c x = x

  skip_ack : (b : Bool) (u : T) (d : ID) (n : ℕ) (es : List (Event T ID D)) (t : T) (c : ID)
      → HasVoted t c (if b then Ack u d n ∷ es else es) → HasVoted t c es
  skip_ack true u d n es t c x = x
  skip_ack false u d n es t c x = x

  skip_restart : (b : Bool) (log : List (Entry T D)) (es : List (Event T ID D)) (t : T) (c : ID)
      → HasVoted t c (if b then Restart log ∷ es else es) → HasVoted t c es
  skip_restart true log es t c x = x
  skip_restart false log es t c x = x

  pub allowed_last : (e : TraceEvent T ID D) (es : Events) → are_allowed_by k conf (e ∷ es) ≡ true
      → passes k conf e es ≡ true
  allowed_last e es ok = sym (allowed_by_rules k conf e es) ∙ first_so (is_allowed_by k conf e es) (are_allowed_by k conf es) ok

  pub allowed_before : (e : TraceEvent T ID D) (es : Events) → are_allowed_by k conf (e ∷ es) ≡ true
      → are_allowed_by k conf es ≡ true
  allowed_before e es ok = second_so (is_allowed_by k conf e es) (are_allowed_by k conf es) ok

  pub has_campaign : (es : Events) (s : ID) (t : T) (c : ID) → are_allowed_by k conf es ≡ true
      → HasVoted t c (events_in k es s) → has_campaigned k t c es ≡ true
  has_campaign [] s t c ok x = absurd x
  has_campaign (Campaigned r u ∷ es) s t c ok x =
      campaigned_if (k.same_id r s) u r es s t c
      (has_campaign es s t c (allowed_before (Campaigned r u) es ok)) x
  has_campaign (Granted r u d ∷ es) s t c ok x =
      let a : Bool = nat_le (term_in k es r) (k.rank u) && nat_lt (voted_in k es r) (k.rank u) in
      let b : Bool = has_campaigned k u d es in
      let f : Bool = not (k.same_id d r) && is_up_to_date k (candidate_log_in k es u d) (log_in k es r) in
      let had : b ≡ true =
      first_so b f (second_so a (b && f) (allowed_last (Granted r u d) es ok)) in
      granted_if (k.same_id r s) (nat_lt (term_in k es s) (k.rank u)) u d es s t c had
      (has_campaign es s t c (allowed_before (Granted r u d) es ok)) x
  has_campaign (Appended r u d n sent ∷ es) s t c ok x =
      has_campaign es s t c (allowed_before (Appended r u d n sent) es ok)
      (skip_append (k.same_id r s) u d (take n (log_after (events_in k es s)) ++ sent) (events_in k es s) t c x)
  has_campaign (Acked r u d n ∷ es) s t c ok x =
      has_campaign es s t c (allowed_before (Acked r u d n) es ok)
      (skip_ack (k.same_id r s) u d n (events_in k es s) t c x)
  has_campaign (Restarted r n ∷ es) s t c ok x =
      has_campaign es s t c (allowed_before (Restarted r n) es ok)
      (skip_restart (k.same_id r s) (take n (log_after (events_in k es s))) (events_in k es s) t c x)
  has_campaign (e ∷ es) s t c ok x = has_campaign es s t c (allowed_before e es ok) x

  -- the term of a campaign is among those of all
  term_among : (es : Events) (t : T) (c : ID) → has_campaigned k t c es ≡ true
      → IsAmong t (campaign_terms es)
  term_among [] t c e = absurd (cc)
  term_among (Campaigned r u ∷ es) t c e =
      go (or_cases (same_leader k u r t c) (has_campaigned k t c es) e) (term_among es t c)
    where
      go : ((same_leader k u r t c ≡ true) ⊎ (has_campaigned k t c es ≡ true))
          → (has_campaigned k t c es ≡ true → IsAmong t (campaign_terms es))
          → (t ≡ u) ⊎ IsAmong t (campaign_terms es)
      go (inl x) rec = inl (sym (leader_right k exact u t r c x).0)
      go (inr x) rec = inr (rec x)
  term_among (x ∷ es) t c e = term_among es t c e

  pub initial_intersects : (es : Events) → are_allowed_by k conf es ≡ true
      → QuorumsIntersect k.quorum_of k.initial k.initial
  initial_intersects [] ok = exact.intersect k.initial k.initial ok
  initial_intersects (e ∷ es) ok = initial_intersects es (allowed_before e es ok)

  pub no_votes : (es : Events) (c : ID) (t : T) → are_allowed_by k conf es ≡ true
      → passes k conf (Campaigned c t) es ≡ true → (s : ID) → HasVoted t c (events_in k es s) → ⊥
  no_votes es c t before ok s x =
      not_so (has_campaigned k t c es)
      (second_so (nat_lt (term_in k es c) (k.rank t)) (not (has_campaigned k t c es)) ok)
      (has_campaign es s t c before x)

-- what the tests that depend on the use of configs have to show
pub record AreRight {T ID D M : Type 0} (k : Tests T ID D M) (conf : ConfigTests T ID D M)
    (rules : ConfigRules T ID D M) (Step : History T ID D → History T ID D → Type 0)
    (Kept : History T ID D → Type 0) : Type 0 where
  pub config_of : (d : D) → rules.config_of d ≡ k.config_of d
  pub steady : QuorumsIntersect k.quorum_of k.initial k.initial → AreSteady k.rank rules Step Kept
  pub elected : (es : List (TraceEvent T ID D)) (t : T) (c : ID) → conf.is_elected es t c ≡ true
      → IsElectedBy k.rank rules.counting (history k es) t c
  pub committed : (es : List (TraceEvent T ID D)) (c : ID) (t : T) (n m : ℕ)
      → are_allowed_by k conf (Committed c t n m ∷ es) ≡ true
      → IsExecutionBy Step (history k (Committed c t n m ∷ es)) (earlier k (Committed c t n m ∷ es))
      → IsCommittedBy k.rank rules.counting (history k (Committed c t n m ∷ es)) t c n m
  pub may_append : (es : List (TraceEvent T ID D)) → are_allowed_by k conf es ≡ true
      → IsExecutionBy Step (history k es) (earlier k es) → (t : T) (c : ID) (m : M)
      → is_none (conf.config_rule es t c (Some m)) ≡ true
      → rules.may_append (history k es) t c (leader_log_in k es t c) m
  pub step : (e : TraceEvent T ID D) (es : List (TraceEvent T ID D))
      → are_allowed_by k conf (e ∷ es) ≡ true → IsExecutionBy Step (history k es) (earlier k es)
      → NextBy k.rank rules (history k es) (history k (e ∷ es)) → Step (history k es) (history k (e ∷ es))

module _ {T ID D M : Type 0} (k : Tests T ID D M) (exact : AreExact k) (conf : ConfigTests T ID D M)
    (rules : ConfigRules T ID D M) (Step : History T ID D → History T ID D → Type 0)
    (Kept : History T ID D → Type 0) (right : AreRight k conf rules Step Kept) where
  abbrev Q : Counting T ID D
  Q = rules.counting

  -- terms of elected leaders that have one rank are equal
  ranks_right : (es : List (TraceEvent T ID D)) → are_allowed_by k conf es ≡ true → TermsHaveRanks k es → (t u : T) (c d : ID)
      → IsElectedBy k.rank Q (history k es) t c → IsElectedBy k.rank Q (history k es) u d
      → k.rank t ≡ k.rank u → t ≡ u
  ranks_right es ok ranks t u c d x y e =
      ranks t u (term_among k exact conf es t c (has_campaign k exact conf es c t c ok x.for_itself))
      (term_among k exact conf es u d (has_campaign k exact conf es d u d ok y.for_itself)) e

  -- steps
  does : (old new : History T ID D) (f : ID → Event T ID D) (r : ID)
      → MayDoBy k.rank rules old new r (f r) → (s : ID) (b : Bool)
      → k.same_id r s ≡ b → new.events s ≡ (if b then f s ∷ old.events s else old.events s)
      → (new.events s ≡ old.events s) ⊎ ServerStepBy k.rank rules old new s
  does old new f r may s true e is =
      inr (record { event = f s; is = is; may = rw (exact.same_id r s e) at may })
  does old new f r may s false e is = inl is

  -- an entry that comes after all that was written is the one that was added
  record IsAdded (w log : List (Entry T D)) (e x : Entry T D) : Type 0 where
    logs : log ≡ w
    entries : x ≡ e

  added : (w log : List (Entry T D)) (e x : Entry T D) → IsPrefix (log ++ x ∷ []) (w ++ e ∷ [])
      → length w ≤ length log → IsAdded w log e x
  added w log e x st le =
      let long : length log ≡ length w =
      omega (arith, le, prefix_length st, length-append log (x ∷ []), length-append w (e ∷ [])) in
      let a : IsPrefix log (w ++ e ∷ []) =
      prefix_trans (let z : IsPrefix log (log ++ x ∷ []) = record { rest = x ∷ []; is = refl } in z) st in
      let b : IsPrefix w (w ++ e ∷ []) = record { rest = e ∷ []; is = refl } in
      let same_log : log ≡ w = prefix_same a b long in
      let whole : log ++ x ∷ [] ≡ w ++ e ∷ [] =
      prefix_same st (prefix_itself (w ++ e ∷ []))
      (omega (arith, long, length-append log (x ∷ []), length-append w (e ∷ []))) in
      let ends : x ∷ [] ≡ e ∷ [] =
      sym (front_rest (w ++ e ∷ []) log (x ∷ []) (sym whole))
      ∙ ap (λ (l : List (Entry T D)). drop (length l) (w ++ e ∷ [])) same_log
      ∙ front_rest (w ++ e ∷ []) w (e ∷ []) refl in
      record { logs = same_log; entries = ap (λ (l : List (Entry T D)). get_or l 0 e) ends }

  nothing : (old new : History T ID D) (t : T) (c : ID)
      → new.candidate_log t c ≡ old.candidate_log t c → new.leader_log t c ≡ old.leader_log t c
      → LeaderAppendsBy k.rank rules old new t c
  nothing old new t c o w = record {
    candidate_log = o;
    added = [];
    is = w ∙ sym (append-nil (old.leader_log t c));
    own_term = tt;
    configs = λ log e m st le is.
        absurd (omega (arith, le, prefix_length st, length-append log (e ∷ []), ap length w));
  }

  campaigns : (old new : History T ID D) (t u : T) (c d : ID) (own : List (Entry T D))
      → ((s : ID) → HasVoted t c (old.events s) → ⊥) → (b : Bool) → same_leader k t c u d ≡ b
      → new.candidate_log u d ≡ (if b then own else old.candidate_log u d)
      → new.leader_log u d ≡ (if b then own else old.leader_log u d)
      → StartsCampaignBy k.rank rules old new u d
      ⊎ LeaderAppendsBy k.rank rules old new u d
  campaigns old new t u c d own none true e o w =
      let x = leader_right k exact t u c d e in
      inl (record { no_votes = rw (x.0, x.1) at none; nothing_written = w ∙ sym o })
  campaigns old new t u c d own none false e o w = inr (nothing old new u d o w)

  writes : (old new : History T ID D) (t u : T) (c d : ID) (x : Entry T D) → x.term ≡ t
      → ((m : M) → k.config_of x.content ≡ Some m
      → rules.may_append old t c (old.leader_log t c) m)
      → (b : Bool) → same_leader k t c u d ≡ b → new.candidate_log u d ≡ old.candidate_log u d
      → new.leader_log u d ≡ (if b then old.leader_log u d ++ x ∷ [] else old.leader_log u d)
      → StartsCampaignBy k.rank rules old new u d
      ⊎ LeaderAppendsBy k.rank rules old new u d
  writes old new t u c d x term may false e o w = inr (nothing old new u d o w)
  writes old new t u c d x term may true e o w =
      let z = leader_right k exact t u c d e in
      let may' : (m : M) → k.config_of x.content ≡ Some m
      → rules.may_append old u d (old.leader_log u d) m =
      rw (z.0, z.1) at may in
      inr (record {
        candidate_log = o;
        added = x ∷ [];
        is = w;
        own_term = (term ∙ z.0, tt);
        configs = λ log y m st le is.
            let a = added (old.leader_log u d) log x y (rw w at st) le in
            rw (a.logs)
            (may' m
            (ap (λ (f : Entry T D). k.config_of f.content) (sym a.entries) ∙ sym (right.config_of y.content) ∙ is));
      })

  -- what each event needs
  may_campaign : (es : List (TraceEvent T ID D)) (c : ID) (t : T) → passes k conf (Campaigned c t) es ≡ true
      → MayGrantVoteBy k.rank Q (history k (Campaigned c t ∷ es)) c (events_in k es c) t c
  may_campaign es c t ok =
      let own : (if same_leader k t c t c then log_in k es c else candidate_log_in k es t c)
      ≡ log_in k es c =
      rw (leader_from k exact t t c c refl refl) refl in
      record {
        term = ltb-true (term_in k es c) (k.rank t)
            (first_so (nat_lt (term_in k es c) (k.rank t)) (not (has_campaigned k t c es)) ok);
        up_to_date = inr (sym (ap (λ (l : List (Entry T D)). last_term k.rank l) own), omega (arith, ap length own));
        own = λ x. own;
      }

  may_grant : (es : List (TraceEvent T ID D)) (s : ID) (t : T) (c : ID) → passes k conf (Granted s t c) es ≡ true
      → nat_lt (term_in k es s) (k.rank t) ≡ true
      → MayGrantVoteBy k.rank Q (history k (Granted s t c ∷ es)) s (events_in k es s) t c
  may_grant es s t c ok above =
      let a : Bool = nat_le (term_in k es s) (k.rank t) && nat_lt (voted_in k es s) (k.rank t) in
      let b : Bool = has_campaigned k t c es in
      let d : Bool = not (k.same_id c s) in
      let e : Bool = is_up_to_date k (candidate_log_in k es t c) (log_in k es s) in
      let ok1 = second_so a (b && (d && e)) ok in
      let ok2 = second_so b (d && e) ok1 in
      record {
        term = ltb-true (term_in k es s) (k.rank t) above;
        up_to_date =
            up_to_date_right k exact (candidate_log_in k es t c) (log_in k es s) (second_so d e ok2);
        own = λ x. absurd (not_so (k.same_id c s) (first_so d e ok2) (rw x (exact.id_itself s)));
      }

  may_vote_late : (es : List (TraceEvent T ID D)) (s : ID) (t : T) (c : ID) → passes k conf (Granted s t c) es ≡ true
      → nat_lt (term_in k es s) (k.rank t) ≡ false → MayVoteLate k.rank (events_in k es s) t
  may_vote_late es s t c ok reached =
      let a : Bool = nat_le (term_in k es s) (k.rank t) in
      let v : Bool = nat_lt (voted_in k es s) (k.rank t) in
      let b : Bool = has_campaigned k t c es in
      let d : Bool = not (k.same_id c s) in
      let e : Bool = is_up_to_date k (candidate_log_in k es t c) (log_in k es s) in
      let first : (a && v) ≡ true = first_so (a && v) (b && (d && e)) ok in
      let le : term_in k es s ≤ k.rank t = leb-true (term_in k es s) (k.rank t) (first_so a v first) in
      let ge : k.rank t ≤ term_in k es s = ltb-false (term_in k es s) (k.rank t) reached in
      record {
        term = omega arith;
        voted = ltb-true (voted_in k es s) (k.rank t) (second_so a v first);
      }

  may_vote : (es : List (TraceEvent T ID D)) (s : ID) (t : T) (c : ID) → passes k conf (Granted s t c) es ≡ true
      → (b : Bool) → nat_lt (term_in k es s) (k.rank t) ≡ b
      → MayDoBy k.rank rules (history k es)
      (history k (Granted s t c ∷ es)) s (if b then GrantVote t c else LateVote t c)
  may_vote es s t c ok true above = may_grant es s t c ok above
  may_vote es s t c ok false reached = may_vote_late es s t c ok reached

  either_prefix : (a b c : List (Entry T D)) → (is_prefix k a b || is_prefix k a c) ≡ true
      → IsPrefix a b ⊎ IsPrefix a c
  either_prefix a b c e = go (or_cases (is_prefix k a b) (is_prefix k a c) e)
    where
      go : ((is_prefix k a b ≡ true) ⊎ (is_prefix k a c ≡ true)) → IsPrefix a b ⊎ IsPrefix a c
      go (inl x) = inl (prefix_right k exact a b x)
      go (inr x) = inr (prefix_right k exact a c x)

  may_append : (es : List (TraceEvent T ID D)) (s : ID) (t : T) (c : ID) (n : ℕ) (sent : List (Entry T D))
      → passes k conf (Appended s t c n sent) es ≡ true
      → MayAppendBy k.rank Q (history k es) (events_in k es s) t c (take n (log_in k es s) ++ sent)
  may_append es s t c n sent ok =
      let old : List (Entry T D) = log_in k es s in
      let lead : List (Entry T D) = leader_log_in k es t c in
      let log : List (Entry T D) = take n (log_in k es s) ++ sent in
      let a : Bool = nat_le (term_in k es s) (k.rank t) in
      let b : Bool = conf.is_elected es t c in
      let d : Bool = nat_le n (length old) in
      let f : Bool = is_prefix k (common_prefix k old lead) log in
      let g : Bool = is_prefix k log old || is_prefix k log lead in
      let ok1 = second_so a (b && (d && (f && g))) ok in
      let ok2 = second_so b (d && (f && g)) ok1 in
      let ok3 = second_so d (f && g) ok2 in
      record {
        term = leb-true (term_in k es s) (k.rank t) (first_so a (b && (d && (f && g))) ok);
        elected = right.elected es t c (first_so b (d && (f && g)) ok1);
        keeps = λ p x y.
            prefix_trans (common_right k exact x y)
            (prefix_right k exact (common_prefix k old lead) log (first_so f g ok3));
        of_these = either_prefix log old lead (second_so f g ok3);
      }

  may_ack : (es : List (TraceEvent T ID D)) (s : ID) (t : T) (c : ID) (n : ℕ) → passes k conf (Acked s t c n) es ≡ true
      → MayAckBy k.rank Q (history k es) (events_in k es s) t c n
  may_ack es s t c n ok =
      let a : Bool = nat_le (k.rank t) (term_in k es s) in
      let b : Bool = conf.is_elected es t c in
      let d : Bool = nat_le n (length (leader_log_in k es t c)) in
      let f : Bool = has_kept k (k.rank t) (take n (leader_log_in k es t c)) (events_in k es s) in
      let ok1 = second_so a (b && (d && f)) ok in
      let ok2 = second_so b (d && f) ok1 in
      record {
        reached = leb-true (k.rank t) (term_in k es s) (first_so a (b && (d && f)) ok);
        elected = right.elected es t c (first_so b (d && f) ok1);
        written = leb-true n (length (leader_log_in k es t c)) (first_so d f ok2);
        has_kept =
            kept_right k exact (k.rank t) (take n (leader_log_in k es t c)) (events_in k es s)
            (second_so d f ok2);
      }

  may_restart : (es : List (TraceEvent T ID D)) (s : ID) (n : ℕ) → passes k conf (Restarted s n) es ≡ true
      → MayRestart (events_in k es s) (take n (log_in k es s))
  may_restart es s n ok =
      let a : Bool = nat_le (durable k (events_in k es s)) n in
      let b : Bool = nat_le n (length (log_in k es s)) in
      let le : durable k (events_in k es s) ≤ n = leb-true (durable k (events_in k es s)) n (first_so a b ok) in
      let fits : n ≤ length (log_in k es s) =
      leb-true n (length (log_in k es s)) (second_so a b ok) in
      record {
        had = had_now (events_in k es s) (take n (log_in k es s)) (prefix_take n (log_in k es s));
        keeps = λ p x.
            prefix_within (durable_now (events_in k es s) p x) (prefix_take n (log_in k es s))
            (omega (
              arith,
              le,
              durable_within k exact (events_in k es s) p x,
              length-take-le n (log_in k es s) fits,
            ));
      }

  may_write : (es : List (TraceEvent T ID D)) (c : ID) (t : T) (x : Entry T D) → passes k conf (Wrote c t x) es ≡ true
      → (x.term ≡ t) × (is_none (conf.config_rule es t c (k.config_of x.content)) ≡ true)
  may_write es c t x ok =
      let a : Bool = conf.is_elected es t c in
      let b : Bool = k.same_term x.term t in
      let f : Bool = is_none (conf.config_rule es t c (k.config_of x.content)) in
      let ok1 = second_so a (b && f) ok in
      (exact.same_term x.term t (first_so b f ok1), second_so b f ok1)

  -- the tests and ranks of the earlier events
  term_more : (e : TraceEvent T ID D) (es : List (TraceEvent T ID D)) (t : T) → IsAmong t (campaign_terms es)
      → IsAmong t (campaign_terms (e ∷ es))
  term_more (Campaigned r u) es t x = inr x
  term_more e es t x = x

  ranks_before : (e : TraceEvent T ID D) (es : List (TraceEvent T ID D)) → TermsHaveRanks k (e ∷ es)
      → TermsHaveRanks k es
  ranks_before e es ranks t u x y same =
      ranks t u (term_more e es t x) (term_more e es u y) same

  -- what was committed before an event is so after it
  abbrev IsRun : List (TraceEvent T ID D) → Type 0
  IsRun es = IsExecutionBy Step (history k es) (earlier k es)

  next : (e : TraceEvent T ID D) (es : List (TraceEvent T ID D)) → are_allowed_by k conf (e ∷ es) ≡ true
      → TermsHaveRanks k (e ∷ es) → IsRun es
      → NextBy k.rank rules (history k es) (history k (e ∷ es))
  next (Campaigned c t) es ok ranks run = record {
    servers = λ s.
        does (history k es) (history k (Campaigned c t ∷ es)) (λ q. GrantVote t c) c
        (may_campaign es c t (allowed_last k exact conf (Campaigned c t) es ok)) s (k.same_id c s) refl refl;
    leaders = λ u d.
        campaigns (history k es) (history k (Campaigned c t ∷ es)) t u c d (log_in k es c)
        (no_votes k exact conf es c t (allowed_before k exact conf (Campaigned c t) es ok)
        (allowed_last k exact conf (Campaigned c t) es ok))
        (same_leader k t c u d) refl refl refl;
    ranks = ranks_right (Campaigned c t ∷ es) ok ranks;
  }
  next (Granted s t c) es ok ranks run = record {
    servers = λ r.
        does (history k es) (history k (Granted s t c ∷ es))
        (λ q. if nat_lt (term_in k es q) (k.rank t) then GrantVote t c else LateVote t c) s
        (may_vote es s t c (allowed_last k exact conf (Granted s t c) es ok) (nat_lt (term_in k es s) (k.rank t)) refl) r
        (k.same_id s r) refl refl;
    leaders = λ u d.
        inr (nothing (history k es) (history k (Granted s t c ∷ es)) u d refl refl);
    ranks = ranks_right (Granted s t c ∷ es) ok ranks;
  }
  next (Appended s t c n sent) es ok ranks run = record {
    servers = λ r.
        does (history k es) (history k (Appended s t c n sent ∷ es))
        (λ q. Append t c (take n (log_in k es q) ++ sent)) s
        (may_append es s t c n sent (allowed_last k exact conf (Appended s t c n sent) es ok)) r (k.same_id s r) refl
        refl;
    leaders = λ u d.
        inr (nothing (history k es) (history k (Appended s t c n sent ∷ es)) u d refl refl);
    ranks = ranks_right (Appended s t c n sent ∷ es) ok ranks;
  }
  next (Acked s t c n) es ok ranks run = record {
    servers = λ r.
        does (history k es) (history k (Acked s t c n ∷ es)) (λ q. Ack t c n) s
        (may_ack es s t c n (allowed_last k exact conf (Acked s t c n) es ok)) r (k.same_id s r) refl refl;
    leaders = λ u d. inr (nothing (history k es) (history k (Acked s t c n ∷ es)) u d refl refl);
    ranks = ranks_right (Acked s t c n ∷ es) ok ranks;
  }
  next (Restarted s n) es ok ranks run = record {
    servers = λ r.
        does (history k es) (history k (Restarted s n ∷ es)) (λ q. Restart (take n (log_in k es q))) s
        (may_restart es s n (allowed_last k exact conf (Restarted s n) es ok)) r (k.same_id s r) refl refl;
    leaders = λ u d. inr (nothing (history k es) (history k (Restarted s n ∷ es)) u d refl refl);
    ranks = ranks_right (Restarted s n ∷ es) ok ranks;
  }
  next (Wrote c t x) es ok ranks run =
      let may = may_write es c t x (allowed_last k exact conf (Wrote c t x) es ok) in
      record {
        servers = λ r. inl refl;
        leaders = λ u d.
            writes (history k es) (history k (Wrote c t x ∷ es)) t u c d x may.0
            (λ m is.
            right.may_append es (allowed_before k exact conf (Wrote c t x) es ok) run t c m
            (rw is at may.1))
            (same_leader k t c u d) refl refl refl;
        ranks = ranks_right (Wrote c t x ∷ es) ok ranks;
      }
  next (Committed c t n m) es ok ranks run = record {
    servers = λ r. inl refl;
    leaders = λ u d. inr (nothing (history k es) (history k (Committed c t n m ∷ es)) u d refl refl);
    ranks = ranks_right (Committed c t n m ∷ es) ok ranks;
  }
  next (Applied s t c n) es ok ranks run = record {
    servers = λ r. inl refl;
    leaders = λ u d. inr (nothing (history k es) (history k (Applied s t c n ∷ es)) u d refl refl);
    ranks = ranks_right (Applied s t c n ∷ es) ok ranks;
  }

  run_of : (es : List (TraceEvent T ID D)) → are_allowed_by k conf es ≡ true → TermsHaveRanks k es → IsRun es
  run_of [] ok ranks = record { events = λ s. refl; nothing_written = λ t c. refl }
  run_of (e ∷ es) ok ranks =
      let run : IsRun es = run_of es (allowed_before k exact conf e es ok) (ranks_before e es ranks) in
      (right.step e es ok run (next e es ok ranks run), run)

  -- what a server applied, it might apply
  record WasKnown (es : List (TraceEvent T ID D)) (r : ℕ) (p : List (Entry T D)) : Type 0 where
    in_term : T
    by_leader : ID
    committed_to : ℕ
    counted_at : ℕ
    committed : IsCommittedBy k.rank Q (history k es) in_term by_leader committed_to counted_at
    not_later : k.rank in_term ≤ r
    is : IsPrefix p (take committed_to (leader_log_in k es in_term by_leader))

  lift_known : (e : TraceEvent T ID D) (es : List (TraceEvent T ID D)) → are_allowed_by k conf (e ∷ es) ≡ true
      → IsRun (e ∷ es) → (r : ℕ) (p : List (Entry T D)) → WasKnown es r p → WasKnown (e ∷ es) r p
  lift_known e es ok run r p x =
      let facts =
      step_keeps_facts k.rank rules Step Kept (right.steady (initial_intersects k exact conf (e ∷ es) ok))
      (history k (e ∷ es)) (history k es) (earlier k es) run in
      let still = facts.committed x.in_term x.by_leader x.committed_to x.counted_at x.committed in
      record {
        in_term = x.in_term;
        by_leader = x.by_leader;
        committed_to = x.committed_to;
        counted_at = x.counted_at;
        committed = still.0;
        not_later = x.not_later;
        is = rw (still.1) x.is;
      }

  was_known : (es : List (TraceEvent T ID D)) → are_allowed_by k conf es ≡ true → IsRun es → (r : ℕ) (p : List (Entry T D))
      → is_known_committed k r p es ≡ true → WasKnown es r p
  was_known [] ok run r p e = absurd (cc)
  was_known (Committed d u n m ∷ es) ok run r p e =
      go (or_cases (nat_le (k.rank u) r && is_prefix k p (take n (leader_log_in k es u d)))
      (is_known_committed k r p es) e)
      (was_known es (allowed_before k exact conf (Committed d u n m) es ok) run.1 r p)
    where
      go : (((nat_le (k.rank u) r && is_prefix k p (take n (leader_log_in k es u d))) ≡ true)
          ⊎ (is_known_committed k r p es ≡ true))
          → (is_known_committed k r p es ≡ true → WasKnown es r p) → WasKnown (Committed d u n m ∷ es) r p
      go (inl x) rec =
          let a : Bool = nat_le (k.rank u) r in
          let b : Bool = is_prefix k p (take n (leader_log_in k es u d)) in
          record {
            in_term = u;
            by_leader = d;
            committed_to = n;
            counted_at = m;
            committed = right.committed es d u n m ok run;
            not_later = leb-true (k.rank u) r (first_so a b x);
            is = prefix_right k exact p (take n (leader_log_in k es u d)) (second_so a b x);
          }
      go (inr x) rec = lift_known (Committed d u n m) es ok run r p (rec x)
  was_known (x ∷ es) ok run r p e =
      lift_known x es ok run r p (was_known es (allowed_before k exact conf x es ok) run.1 r p e)

  may_apply : (es : List (TraceEvent T ID D)) → are_allowed_by k conf es ≡ true → IsRun es → (s : ID) (t : T) (c : ID) (n : ℕ)
      → passes k conf (Applied s t c n) es ≡ true
      → MayApplyBy k.rank Q (history k es) (events_in k es s) n
  may_apply es ok run s t c n e =
      let a : Bool = conf.is_elected es t c in
      let b : Bool = nat_le n (length (leader_log_in k es t c)) in
      let d : Bool = is_prefix k (take n (leader_log_in k es t c)) (log_in k es s) in
      let f : Bool = is_known_committed k (k.rank t) (take n (leader_log_in k es t c)) es in
      let e1 = second_so a (b && (d && f)) e in
      let e2 = second_so b (d && f) e1 in
      let x : WasKnown es (k.rank t) (take n (leader_log_in k es t c)) =
      was_known es ok run (k.rank t) (take n (leader_log_in k es t c)) (second_so d f e2) in
      record {
        term = t;
        leader = c;
        elected = right.elected es t c (first_so a (b && (d && f)) e);
        written = leb-true n (length (leader_log_in k es t c)) (first_so b (d && f) e1);
        in_log =
            prefix_right k exact (take n (leader_log_in k es t c)) (log_in k es s) (first_so d f e2);
        known = record {
          in_term = x.in_term;
          by_leader = x.by_leader;
          committed_to = x.committed_to;
          counted_at = x.counted_at;
          committed = x.committed;
          not_later = x.not_later;
          is = x.is;
        };
      }

  record AppliedAt (a : List (Entry T D)) (es : List (TraceEvent T ID D)) : Type 0 where
    past : History T ID D
    among : IsAmong past (history k es ∷ earlier k es)
    server : ID
    count : ℕ
    may : MayApplyBy k.rank Q past (past.events server) count
    is : a ≡ take count (log_after (past.events server))

  applied_later : (a : List (Entry T D)) (e : TraceEvent T ID D) (es : List (TraceEvent T ID D)) → AppliedAt a es
      → AppliedAt a (e ∷ es)
  applied_later a e es x = record {
    past = x.past;
    among = inr x.among;
    server = x.server;
    count = x.count;
    may = x.may;
    is = x.is;
  }

  applied_at : (a : List (Entry T D)) (es : List (TraceEvent T ID D)) → are_allowed_by k conf es ≡ true → IsRun es
      → WasApplied k a es → AppliedAt a es
  applied_at a [] ok run x = absurd x
  applied_at a (Applied s u d n ∷ es) ok run (inr x) =
      applied_later a (Applied s u d n) es
      (applied_at a es (allowed_before k exact conf (Applied s u d n) es ok) run.1 x)
  applied_at a (Applied s u d n ∷ es) ok run (inl e) = record {
    past = history k es;
    among = inr (inl refl);
    server = s;
    count = n;
    may =
        may_apply es (allowed_before k exact conf (Applied s u d n) es ok) run.1 s u d n
        (allowed_last k exact conf (Applied s u d n) es ok);
    is = e;
  }
  applied_at a (e ∷ es) ok run x =
      applied_later a e es (applied_at a es (allowed_before k exact conf e es ok) run.1 x)

  pub trace_is_safe : (es : List (TraceEvent T ID D)) → TermsHaveRanks k es → are_allowed_by k conf es ≡ true
      → IsSafeTraceBy k Q Step es
  trace_is_safe es ranks ok =
      let run : IsRun es = run_of es ok ranks in
      let steady = right.steady (initial_intersects k exact conf es ok) in
      record {
        execution = run;
        safe = execution_is_safe k.rank rules Step Kept steady (history k es) (earlier k es) run (history k es) (inl refl);
        applied = λ a b x y.
            let p = applied_at a es ok run x in let q = applied_at b es ok run y in
            rw (p.is, q.is)
            (all_times_agree k.rank rules Step Kept steady (history k es) (earlier k es) run p.past q.past
            p.among q.among p.server q.server p.count q.count p.may q.may);
      }
