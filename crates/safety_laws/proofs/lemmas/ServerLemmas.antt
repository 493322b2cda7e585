-- What follows from each server's rules: which leaders wrote its log, what it keeps, and what a vote
-- shows.
use Rattle.std.specs.Prelude.{◌≡◌, ◌⊎◌, ◌<◌, ◌≤◌, ℕ, zero, suc, List, [], ◌∷◌, length, take}
use Rattle.std.proofs.Common.{refl, sym, ap, ◌∙◌, inl, inr, arith}
use Rattle.std.proofs.lemmas.List.{length-take-le}
use Rattle.std.proofs.lemmas.Bool.{cases_lt}
use Rattle.safety_laws.specs.Log.{Entry, IsPrefix, IsUpToDate, last_term}
use Rattle.safety_laws.specs.Events.{Ack, Append, Event, GrantVote, LateVote, HasHad, HasKept, History, IsDurable, Restart, log_after, term_after}
use Rattle.safety_laws.specs.Facts.{Counting, HasAcked, HasVoted, IsCommittedBy, IsElectedBy}
use Rattle.safety_laws.specs.Rules.{EventsFollowRulesBy, FollowsRaftBy, MayGrantVoteBy}
use Rattle.safety_laws.proofs.lemmas.PrefixLemmas.{prefix_itself, prefix_trans, prefix_take, prefix_length, prefix_within, take_within, empty_last, last_added}

module _ {T ID D : Type 0} where
  -- the log of a server is one that it has had
  pub had_now : (ds : List (Event T ID D)) (l : List (Entry T D)) → IsPrefix l (log_after ds)
      → HasHad l ds
  had_now [] l st = st
  had_now (e ∷ ds) l st = inl st

  pub had_less : (ds : List (Event T ID D)) (l log : List (Entry T D)) → IsPrefix l log
      → HasHad log ds → HasHad l ds
  had_less [] l log st had = prefix_trans st had
  had_less (e ∷ ds) l log st (inl now) = inl (prefix_trans st now)
  had_less (e ∷ ds) l log st (inr had) = inr (had_less ds l log st had)

  -- what is durable is in the log
  pub durable_now : (ds : List (Event T ID D)) (p : List (Entry T D)) → IsDurable p ds
      → IsPrefix p (log_after ds)
  durable_now [] p x = x
  durable_now (GrantVote t c ∷ ds) p x = durable_now ds p x
  durable_now (LateVote t c ∷ ds) p x = durable_now ds p x
  durable_now (Append t c log ∷ ds) p x = x.0
  durable_now (Ack t c n ∷ ds) p (inl x) = x.0
  durable_now (Ack t c n ∷ ds) p (inr x) = durable_now ds p x
  durable_now (Restart log ∷ ds) p x = x.0

  -- what was kept is in the log
  pub kept_now : (rank : T → ℕ) (r : ℕ) (p : List (Entry T D)) (ds : List (Event T ID D))
      → HasKept rank r p ds → IsPrefix p (log_after ds)
  kept_now rank r p [] x = x
  kept_now rank r p (e ∷ ds) x = x.0

module _ {T ID D : Type 0} (rank : T → ℕ) (counting : Counting T ID D) (h : History T ID D)
    (lawful : FollowsRaftBy rank counting h) where
  -- the events of a server before a vote that it gave
  pub record BeforeVote (s : ID) (t : T) (c : ID) : Type 0 where
    pub ds : List (Event T ID D)
    pub allowed : EventsFollowRulesBy rank counting h s ds
    pub may : MayGrantVoteBy rank counting h s ds t c

  pub before_vote : (s : ID) (t : T) (c : ID) (ds : List (Event T ID D)) → EventsFollowRulesBy rank counting h s ds
      → HasVoted t c ds → BeforeVote s t c
  before_vote s t c [] ok v = absurd v
  before_vote s t c (GrantVote u d ∷ ds) ok (inl is) =
      record { ds = ds; allowed = ok.1; may = rw (is.0, is.1) at ok.0 }
  before_vote s t c (GrantVote u d ∷ ds) ok (inr v) = before_vote s t c ds ok.1 v
  before_vote s t c (LateVote u d ∷ ds) ok v = before_vote s t c ds ok.1 v
  before_vote s t c (Append u d log ∷ ds) ok v = before_vote s t c ds ok.1 v
  before_vote s t c (Ack u d n ∷ ds) ok v = before_vote s t c ds ok.1 v
  before_vote s t c (Restart log ∷ ds) ok v = before_vote s t c ds ok.1 v

  -- no event is of a greater term than the one that was reached
  pub voted_term : (s : ID) (t : T) (c : ID) (ds : List (Event T ID D)) → EventsFollowRulesBy rank counting h s ds
      → HasVoted t c ds → rank t ≤ term_after rank ds
  voted_term s t c [] ok v = absurd v
  voted_term s t c (GrantVote u d ∷ ds) ok (inl is) = omega (arith, ap rank is.0)
  voted_term s t c (GrantVote u d ∷ ds) ok (inr v) =
      omega (arith, voted_term s t c ds ok.1 v, ok.0.term)
  voted_term s t c (LateVote u d ∷ ds) ok v = voted_term s t c ds ok.1 v
  voted_term s t c (Append u d log ∷ ds) ok v =
      omega (arith, voted_term s t c ds ok.1 v, ok.0.term)
  voted_term s t c (Ack u d n ∷ ds) ok v = voted_term s t c ds ok.1 v
  voted_term s t c (Restart log ∷ ds) ok v = voted_term s t c ds ok.1 v

  pub acked_term : (s : ID) (t : T) (c : ID) (n : ℕ) (ds : List (Event T ID D))
      → EventsFollowRulesBy rank counting h s ds → HasAcked t c n ds → rank t ≤ term_after rank ds
  acked_term s t c n [] ok a = absurd a
  acked_term s t c n (GrantVote u d ∷ ds) ok a =
      omega (arith, acked_term s t c n ds ok.1 a, ok.0.term)
  acked_term s t c n (LateVote u d ∷ ds) ok a = acked_term s t c n ds ok.1 a
  acked_term s t c n (Append u d log ∷ ds) ok a =
      omega (arith, acked_term s t c n ds ok.1 a, ok.0.term)
  acked_term s t c n (Ack u d m ∷ ds) ok (inl is) = omega (arith, ap rank is.0, ok.0.reached)
  acked_term s t c n (Ack u d m ∷ ds) ok (inr a) = acked_term s t c n ds ok.1 a
  acked_term s t c n (Restart log ∷ ds) ok a = acked_term s t c n ds ok.1 a

  -- a server votes for one candidate in a term
  pub voted_once : (s : ID) (t : T) (c d : ID) (ds : List (Event T ID D)) → EventsFollowRulesBy rank counting h s ds
      → HasVoted t c ds → HasVoted t d ds → c ≡ d
  voted_once s t c d [] ok v w = absurd v
  voted_once s t c d (GrantVote u e ∷ ds) ok (inl v) (inl w) = sym v.1 ∙ w.1
  voted_once s t c d (GrantVote u e ∷ ds) ok (inl v) (inr w) =
      absurd (omega (arith, voted_term s t d ds ok.1 w, ok.0.term, ap rank v.0))
  voted_once s t c d (GrantVote u e ∷ ds) ok (inr v) (inl w) =
      absurd (omega (arith, voted_term s t c ds ok.1 v, ok.0.term, ap rank w.0))
  voted_once s t c d (GrantVote u e ∷ ds) ok (inr v) (inr w) = voted_once s t c d ds ok.1 v w
  voted_once s t c d (LateVote u e ∷ ds) ok v w = voted_once s t c d ds ok.1 v w
  voted_once s t c d (Append u e log ∷ ds) ok v w = voted_once s t c d ds ok.1 v w
  voted_once s t c d (Ack u e n ∷ ds) ok v w = voted_once s t c d ds ok.1 v w
  voted_once s t c d (Restart log ∷ ds) ok v w = voted_once s t c d ds ok.1 v w

  -- a log is a prefix of the log of a leader of a term below the bound, and has an entry of that term
  pub record IsOf (bound : ℕ) (log : List (Entry T D)) : Type 0 where
    pub term : T
    pub leader : ID
    pub below : rank term < bound
    pub elected : IsElectedBy rank counting h term leader
    pub longer : length (h.candidate_log term leader) < length log
    pub start : IsPrefix log (h.leader_log term leader)

  abbrev pub IsFrom : ℕ → List (Entry T D) → Type 0
  IsFrom bound log = (length log ≡ 0) ⊎ IsOf bound log

  pub from_more : (b bound : ℕ) (log : List (Entry T D)) → b ≤ bound → IsFrom b log → IsFrom bound log
  from_more b bound log le (inl e) = inl e
  from_more b bound log le (inr o) =
      inr (record {
        term = o.term;
        leader = o.leader;
        below = omega (arith, o.below);
        elected = o.elected;
        longer = o.longer;
        start = o.start;
      })

  pub candidate_start : (t : T) (c : ID) → IsElectedBy rank counting h t c
      → IsPrefix (h.candidate_log t c) (h.leader_log t c)
  candidate_start t c el =
      let x = lawful.leaders t c el in record { rest = x.added; is = x.is }

  -- every log that a server has had below a term is from a leader of a lower term
  abbrev AllFrom : ℕ → Type 0
  AllFrom bound =
      (s : ID) (ds : List (Event T ID D)) → EventsFollowRulesBy rank counting h s ds → term_after rank ds < bound
      → (l : List (Entry T D)) → HasHad l ds → IsFrom bound l

  candidate_from_below : (t : T) (c : ID) → AllFrom (rank t) → IsElectedBy rank counting h t c
      → (l : List (Entry T D)) → IsPrefix l (h.candidate_log t c) → IsFrom (rank t) l
  candidate_from_below t c all el l st =
      let b = before_vote c t c (h.events c) (lawful.servers c) el.for_itself in
      all c b.ds b.allowed b.may.term l (had_now b.ds l (rw (b.may.own refl) at st))

  written_from : (bound : ℕ) (t : T) (c : ID) → ((b : ℕ) → b < bound → AllFrom b) → rank t < bound
      → IsElectedBy rank counting h t c → (l : List (Entry T D)) → IsPrefix l (h.leader_log t c) → IsFrom bound l
  written_from bound t c ih lt el l st =
      ⊎_elim_at (cases_lt (length (h.candidate_log t c)) (length l))
    where
      ⊎_elim_at : ((length (h.candidate_log t c) < length l) ⊎ (length l ≤ length (h.candidate_log t c)))
          → IsFrom bound l
      ⊎_elim_at (inl long) =
          inr (record {
            term = t;
            leader = c;
            below = lt;
            elected = el;
            longer = long;
            start = st;
          })
      ⊎_elim_at (inr short) =
          from_more (rank t) bound l (omega arith)
          (candidate_from_below t c (ih (rank t) lt) el l (prefix_within st (candidate_start t c el) short))

  from_step : (bound : ℕ) → ((b : ℕ) → b < bound → AllFrom b) → AllFrom bound
  from_step bound ih s [] ok lt l st = inl (omega (arith, prefix_length st))
  from_step bound ih s (GrantVote t c ∷ ds) ok lt l (inl st) =
      from_step bound ih s ds ok.1 (omega (arith, ok.0.term)) l (had_now ds l st)
  from_step bound ih s (GrantVote t c ∷ ds) ok lt l (inr had) =
      from_step bound ih s ds ok.1 (omega (arith, ok.0.term)) l had
  from_step bound ih s (LateVote t c ∷ ds) ok lt l (inl st) =
      from_step bound ih s ds ok.1 lt l (had_now ds l st)
  from_step bound ih s (LateVote t c ∷ ds) ok lt l (inr had) = from_step bound ih s ds ok.1 lt l had
  from_step bound ih s (Restart log ∷ ds) ok lt l (inl st) =
      from_step bound ih s ds ok.1 lt l (had_less ds l log st ok.0.had)
  from_step bound ih s (Restart log ∷ ds) ok lt l (inr had) = from_step bound ih s ds ok.1 lt l had
  from_step bound ih s (Ack t c n ∷ ds) ok lt l (inl st) =
      from_step bound ih s ds ok.1 lt l (had_now ds l st)
  from_step bound ih s (Ack t c n ∷ ds) ok lt l (inr had) = from_step bound ih s ds ok.1 lt l had
  from_step bound ih s (Append t c log ∷ ds) ok lt l (inr had) =
      from_step bound ih s ds ok.1 (omega (arith, ok.0.term)) l had
  from_step bound ih s (Append t c log ∷ ds) ok lt l (inl st) =
      go ok.0.of_these (from_step bound ih s ds ok.1 (omega (arith, ok.0.term)) l)
    where
      go : (IsPrefix log (log_after ds) ⊎ IsPrefix log (h.leader_log t c))
          → (HasHad l ds → IsFrom bound l) → IsFrom bound l
      go (inl old) before = before (had_now ds l (prefix_trans st old))
      go (inr new) before = written_from bound t c ih lt ok.0.elected l (prefix_trans st new)

  from_upto : (n b : ℕ) → b < n → AllFrom b
  from_upto zero b lt = absurd (omega arith)
  from_upto (suc n) b lt = from_step b (λ a less. from_upto n a (omega arith))

  -- each prefix of a log that a server has had is from a leader of a term that it has not passed
  pub log_from : (bound : ℕ) → AllFrom bound
  log_from bound = from_upto (suc bound) bound (omega arith)

  -- each prefix of the log of an elected candidate is from a leader of an earlier term
  pub candidate_from : (t : T) (c : ID) → IsElectedBy rank counting h t c → (l : List (Entry T D))
      → IsPrefix l (h.candidate_log t c) → IsFrom (rank t) l
  candidate_from t c el l st = candidate_from_below t c (log_from (rank t)) el l st

  pub written_is_from : (t : T) (c : ID) → IsElectedBy rank counting h t c → (l : List (Entry T D))
      → IsPrefix l (h.leader_log t c) → IsFrom (suc (rank t)) l
  written_is_from t c el l st =
      written_from (suc (rank t)) t c (λ b lt. log_from b) (omega arith) el l st

  pub prefix_from : (bound : ℕ) (p l : List (Entry T D)) → IsFrom bound l → IsPrefix p l
      → IsFrom bound p
  prefix_from bound p l (inl e) st = inl (omega (arith, prefix_length st))
  prefix_from bound p l (inr o) st =
      written_from bound o.term o.leader (λ b lt. log_from b) o.below o.elected p
      (prefix_trans st o.start)

  pub last_written : (t : T) (c : ID) → IsElectedBy rank counting h t c → (l : List (Entry T D))
      → IsPrefix l (h.leader_log t c) → length (h.candidate_log t c) < length l → last_term rank l ≡ rank t
  last_written t c el l st long =
      let x = lawful.leaders t c el in last_added rank t (h.candidate_log t c) x.added x.is x.own_term st long

  pub last_of : (bound : ℕ) (l : List (Entry T D)) (o : IsOf bound l) → last_term rank l ≡ rank o.term
  last_of bound l o = last_written o.term o.leader o.elected l o.start o.longer

  last_below : (bound : ℕ) (l : List (Entry T D)) → IsFrom bound l → last_term rank l ≤ bound
  last_below bound l (inl e) = omega (arith, empty_last rank l e)
  last_below bound l (inr o) = omega (arith, last_of bound l o, o.below)

  -- terms never decrease along a log
  pub last_term_grows : (bound : ℕ) (p l : List (Entry T D)) → IsFrom bound l → IsPrefix p l
      → last_term rank p ≤ last_term rank l
  last_term_grows bound p l (inl e) st =
      omega (arith, empty_last rank p (omega (arith, prefix_length st)))
  last_term_grows bound p l (inr o) st =
      go (cases_lt (length (h.candidate_log o.term o.leader)) (length p))
    where
      go : ((length (h.candidate_log o.term o.leader) < length p)
          ⊎ (length p ≤ length (h.candidate_log o.term o.leader)))
          → last_term rank p ≤ last_term rank l
      go (inl long) =
          omega (
            arith,
            last_written o.term o.leader o.elected p (prefix_trans st o.start) long,
            last_of bound l o,
          )
      go (inr short) =
          omega (
            arith,
            last_below (rank o.term) p
                (candidate_from o.term o.leader o.elected p
                (prefix_within (prefix_trans st o.start) (candidate_start o.term o.leader o.elected) short)),
            last_of bound l o,
          )

  -- what a server has acknowledged to a leader is durable, if all later leaders have it too
  pub kept : (s : ID) (t : T) (c : ID) (n bound : ℕ) (p : List (Entry T D))
      → ((u : T) (d : ID) → IsElectedBy rank counting h u d → rank t ≤ rank u → rank u < bound
      → IsPrefix p (h.leader_log u d)) → IsPrefix p (take n (h.leader_log t c))
      → (ds : List (Event T ID D)) → EventsFollowRulesBy rank counting h s ds
      → term_after rank ds < bound → HasAcked t c n ds → IsDurable p ds
  kept s t c n bound p held st [] ok lt a = absurd a
  kept s t c n bound p held st (GrantVote u d ∷ ds) ok lt a =
      kept s t c n bound p held st ds ok.1 (omega (arith, ok.0.term)) a
  kept s t c n bound p held st (LateVote u d ∷ ds) ok lt a = kept s t c n bound p held st ds ok.1 lt a
  kept s t c n bound p held st (Append u d log ∷ ds) ok lt a =
      let before : IsDurable p ds =
      kept s t c n bound p held st ds ok.1 (omega (arith, ok.0.term)) a in (
        ok.0.keeps p (durable_now ds p before)
            (held u d ok.0.elected (omega (arith, acked_term s t c n ds ok.1 a, ok.0.term)) lt),
        before,
      )
  kept s t c n bound p held st (Ack u d m ∷ ds) ok lt (inl is) =
      let all : IsPrefix p (take m (h.leader_log t c)) =
      prefix_trans st (take_within n m (h.leader_log t c) is.2) in
      let all' : IsPrefix p (take m (h.leader_log u d)) = rw (is.0, is.1) all in
      let now : IsPrefix (take m (h.leader_log u d)) (log_after ds) =
      kept_now rank (rank u) (take m (h.leader_log u d)) ds ok.0.has_kept in
      inl (
        prefix_trans all' now,
        omega (arith, prefix_length all', length-take-le m (h.leader_log u d) ok.0.written),
      )
  kept s t c n bound p held st (Ack u d m ∷ ds) ok lt (inr a) =
      inr (kept s t c n bound p held st ds ok.1 lt a)
  kept s t c n bound p held st (Restart log ∷ ds) ok lt a =
      let before : IsDurable p ds = kept s t c n bound p held st ds ok.1 lt a in
      (ok.0.keeps p before, before)

  -- the events before a vote, when the log began with these entries
  pub record HadAtVote (s : ID) (p : List (Entry T D)) (u : T) (d : ID) : Type 0 where
    pub ds : List (Event T ID D)
    pub allowed : EventsFollowRulesBy rank counting h s ds
    pub may : MayGrantVoteBy rank counting h s ds u d
    pub had : IsPrefix p (log_after ds)

  -- a log that was kept since a term was kept at each vote in a later term
  kept_at_vote : (s : ID) (r : ℕ) (p : List (Entry T D)) (u : T) (d : ID) → r < rank u
      → (ds : List (Event T ID D)) → EventsFollowRulesBy rank counting h s ds → HasVoted u d ds
      → HasKept rank r p ds → HadAtVote s p u d
  kept_at_vote s r p u d lt [] ok v x = absurd v
  kept_at_vote s r p u d lt (GrantVote w e ∷ ds) ok (inl is) (now, inl le) =
      absurd (omega (arith, le, lt, ap rank is.0))
  kept_at_vote s r p u d lt (GrantVote w e ∷ ds) ok (inl is) (now, inr x) =
      record { ds = ds; allowed = ok.1; may = rw (is.0, is.1) at ok.0; had = kept_now rank r p ds x }
  kept_at_vote s r p u d lt (GrantVote w e ∷ ds) ok (inr v) (now, inl le) =
      absurd (omega (arith, le, lt, voted_term s u d ds ok.1 v, ok.0.term))
  kept_at_vote s r p u d lt (GrantVote w e ∷ ds) ok (inr v) (now, inr x) =
      kept_at_vote s r p u d lt ds ok.1 v x
  kept_at_vote s r p u d lt (LateVote w e ∷ ds) ok v (now, inl le) =
      absurd (omega (arith, le, lt, voted_term s u d ds ok.1 v))
  kept_at_vote s r p u d lt (LateVote w e ∷ ds) ok v (now, inr x) =
      kept_at_vote s r p u d lt ds ok.1 v x
  kept_at_vote s r p u d lt (Append w e log ∷ ds) ok v (now, inl le) =
      absurd (omega (arith, le, lt, voted_term s u d ds ok.1 v, ok.0.term))
  kept_at_vote s r p u d lt (Append w e log ∷ ds) ok v (now, inr x) =
      kept_at_vote s r p u d lt ds ok.1 v x
  kept_at_vote s r p u d lt (Ack w e m ∷ ds) ok v (now, inl le) =
      absurd (omega (arith, le, lt, voted_term s u d ds ok.1 v))
  kept_at_vote s r p u d lt (Ack w e m ∷ ds) ok v (now, inr x) =
      kept_at_vote s r p u d lt ds ok.1 v x
  kept_at_vote s r p u d lt (Restart log ∷ ds) ok v (now, inl le) =
      absurd (omega (arith, le, lt, voted_term s u d ds ok.1 v))
  kept_at_vote s r p u d lt (Restart log ∷ ds) ok v (now, inr x) =
      kept_at_vote s r p u d lt ds ok.1 v x

  -- what a server has acknowledged to a leader, before or after a vote in a later term, its log had
  -- when it gave the vote
  had_at_vote : (s : ID) (t : T) (c : ID) (n : ℕ) (u : T) (d : ID) (p : List (Entry T D))
      → rank t < rank u
      → ((w : T) (e : ID) → IsElectedBy rank counting h w e → rank t ≤ rank w → rank w < rank u
      → IsPrefix p (h.leader_log w e)) → IsPrefix p (take n (h.leader_log t c))
      → (ds : List (Event T ID D)) → EventsFollowRulesBy rank counting h s ds → HasVoted u d ds
      → HasAcked t c n ds → HadAtVote s p u d
  had_at_vote s t c n u d p lt held st [] ok v a = absurd v
  had_at_vote s t c n u d p lt held st (GrantVote w e ∷ ds) ok (inl is) a =
      let may : MayGrantVoteBy rank counting h s ds u d = rw (is.0, is.1) at ok.0 in
      record {
        ds = ds;
        allowed = ok.1;
        may = may;
        had = durable_now ds p (kept s t c n (rank u) p held st ds ok.1 may.term a);
      }
  had_at_vote s t c n u d p lt held st (GrantVote w e ∷ ds) ok (inr v) a =
      had_at_vote s t c n u d p lt held st ds ok.1 v a
  had_at_vote s t c n u d p lt held st (LateVote w e ∷ ds) ok v a =
      had_at_vote s t c n u d p lt held st ds ok.1 v a
  had_at_vote s t c n u d p lt held st (Append w e log ∷ ds) ok v a =
      had_at_vote s t c n u d p lt held st ds ok.1 v a
  had_at_vote s t c n u d p lt held st (Ack w e m ∷ ds) ok v (inl is) =
      let x : HadAtVote s (take m (h.leader_log w e)) u d =
      kept_at_vote s (rank w) (take m (h.leader_log w e)) u d (omega (arith, lt, ap rank is.0)) ds ok.1 v
      ok.0.has_kept in
      let all : IsPrefix p (take m (h.leader_log t c)) =
      prefix_trans st (take_within n m (h.leader_log t c) is.2) in
      let all' : IsPrefix p (take m (h.leader_log w e)) = rw (is.0, is.1) all in
      record { ds = x.ds; allowed = x.allowed; may = x.may; had = prefix_trans all' x.had }
  had_at_vote s t c n u d p lt held st (Ack w e m ∷ ds) ok v (inr a) =
      had_at_vote s t c n u d p lt held st ds ok.1 v a
  had_at_vote s t c n u d p lt held st (Restart log ∷ ds) ok v a =
      had_at_vote s t c n u d p lt held st ds ok.1 v a

  -- election safety and leader completeness for the terms below a bound
  abbrev pub OneBelow : ℕ → Type 0
  OneBelow bound =
      (t : T) (c d : ID) → rank t < bound → IsElectedBy rank counting h t c → IsElectedBy rank counting h t d → c ≡ d

  abbrev pub CompleteBelow : ℕ → Type 0
  CompleteBelow bound =
      (t u : T) (c d : ID) (n m : ℕ) → rank u < bound → IsCommittedBy rank counting h t c n m → rank t < rank u
      → IsElectedBy rank counting h u d → IsPrefix (take n (h.leader_log t c)) (h.candidate_log u d)

  pub committed_length : (t : T) (c : ID) (n m : ℕ) → IsCommittedBy rank counting h t c n m
      → length (take n (h.leader_log t c)) ≡ n
  committed_length t c n m done =
      length-take-le n (h.leader_log t c) done.written

  -- a log of a leader of a later term is at or past what was committed
  abbrev pub IsAhead : T → ℕ → List (Entry T D) → Type 0
  IsAhead t n l = (rank t < last_term rank l) ⊎ ((rank t ≡ last_term rank l) × (n ≤ length l))

  pub ahead : (t u : T) (c d : ID) (n m : ℕ) → OneBelow (rank u) → CompleteBelow (rank u)
      → IsCommittedBy rank counting h t c n m → rank t < rank u → IsElectedBy rank counting h u d
      → IsAhead t n (h.candidate_log u d) → IsPrefix (take n (h.leader_log t c)) (h.candidate_log u d)
  ahead t u c d n m one complete done lt el past =
      go (candidate_from u d el l (prefix_itself l)) past
    where
      l : List (Entry T D)
      l = h.candidate_log u d

      p : List (Entry T D)
      p = take n (h.leader_log t c)

      go : IsFrom (rank u) l → IsAhead t n l → IsPrefix p l
      go (inl e) (inl later) = absurd (omega (arith, empty_last rank l e))
      go (inl e) (inr same) = absurd (omega (arith, same.1, done.own_term, e))
      go (inr o) (inl later) =
          prefix_trans (complete t o.term c o.leader n m o.below done (omega (arith, last_of (rank u) l o)) o.elected)
          (prefix_within (candidate_start o.term o.leader o.elected) o.start (omega (arith, o.longer)))
      go (inr o) (inr same) =
          let e : o.term ≡ t =
          lawful.ranks o.term t o.leader c o.elected done.elected
          (sym (last_of (rank u) l o) ∙ sym same.0) in
          let el' : IsElectedBy rank counting h t o.leader = rw e at o.elected in
          let f : o.leader ≡ c = one t o.leader c lt el' done.elected in
          let st : IsPrefix l (h.leader_log t c) = rw (e, f) at o.start in
          prefix_within (prefix_take n (h.leader_log t c)) st
          (omega (arith, committed_length t c n m done, same.1))

  pub of_same : (p : List (Entry T D)) (t w : T) (c e : ID) → t ≡ w → c ≡ e → IsPrefix p (h.leader_log t c)
      → IsPrefix p (h.leader_log w e)
  of_same p t w c e f g st = rw (f, g) at st

  -- a server that has acknowledged a committed log, and has voted in a later term, votes only for a
  -- candidate that has it
  pub by_voter : (t u : T) (c d v : ID) (n m : ℕ) → OneBelow (rank u) → CompleteBelow (rank u)
      → IsCommittedBy rank counting h t c n m → rank t < rank u → IsElectedBy rank counting h u d
      → HasVoted u d (h.events v) → HasAcked t c n (h.events v)
      → IsPrefix (take n (h.leader_log t c)) (h.candidate_log u d)
  by_voter t u c d v n m one complete done lt el voted accepted =
      ahead t u c d n m one complete done lt el (reaches b.may.up_to_date)
    where
      p : List (Entry T D)
      p = take n (h.leader_log t c)

      held : (w : T) (e : ID) → IsElectedBy rank counting h w e → rank t ≤ rank w → rank w < rank u → IsPrefix p (h.leader_log w e)
      held w e el' le less = at_term (cases_lt (rank t) (rank w))
        where
          at_term : ((rank t < rank w) ⊎ (rank w ≤ rank t)) → IsPrefix p (h.leader_log w e)
          at_term (inl later) =
              prefix_trans (complete t w c e n m less done later el') (candidate_start w e el')
          at_term (inr same) =
              let f : t ≡ w =
              lawful.ranks t w c e done.elected el' (omega arith) in
              let first : IsElectedBy rank counting h w c = rw f at done.elected in
              let g : c ≡ e = one w c e less first el' in
              of_same p t w c e f g (prefix_take n (h.leader_log t c))

      b : HadAtVote v p u d
      b =
          had_at_vote v t c n u d p lt held (prefix_itself p) (h.events v) (lawful.servers v) voted
          accepted

      has : IsPrefix p (log_after b.ds)
      has = b.had

      grows : rank t ≤ last_term rank (log_after b.ds)
      grows =
          omega (
            arith,
            last_written t c done.elected p (prefix_take n (h.leader_log t c))
                (omega (arith, committed_length t c n m done, done.own_term)),
            last_term_grows (rank u) p (log_after b.ds)
                (log_from (rank u) v b.ds b.allowed b.may.term (log_after b.ds)
                (had_now b.ds (log_after b.ds) (prefix_itself (log_after b.ds))))
                has,
          )

      long : n ≤ length (log_after b.ds)
      long = omega (arith, committed_length t c n m done, prefix_length has)

      reaches : IsUpToDate rank (h.candidate_log u d) (log_after b.ds) → IsAhead t n (h.candidate_log u d)
      reaches (inl more) = inl (omega (arith, grows, more))
      reaches (inr same) = by_terms (cases_lt (rank t) (last_term rank (h.candidate_log u d)))
        where
          by_terms : ((rank t < last_term rank (h.candidate_log u d)) ⊎ (last_term rank (h.candidate_log u d) ≤ rank t))
              → IsAhead t n (h.candidate_log u d)
          by_terms (inl later) = inl later
          by_terms (inr le) = inr (omega (arith, grows, same.0), omega (arith, long, same.1))
