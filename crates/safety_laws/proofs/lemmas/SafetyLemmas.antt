-- What follows from election safety and leader completeness.
use Rattle.std.specs.Prelude.{◌≡◌, ◌⊎◌, ◌<◌, ◌≤◌, ℕ, zero, suc, List, length, take}
use Rattle.std.proofs.Common.{sym, ◌∙◌, inl, inr, arith}
use Rattle.std.proofs.lemmas.Bool.{cases_lt}
use Rattle.safety_laws.specs.Log.{Entry, IsPrefix, last_term}
use Rattle.safety_laws.specs.Events.{History, term_after}
use Rattle.safety_laws.specs.Facts.{Counting, IsCommittedBy, IsElectedBy}
use Rattle.safety_laws.specs.Rules.{FollowsRaftBy}
use Rattle.safety_laws.specs.Safety.{CommitsAgreeBy, ElectionSafetyBy, IsSafeBy, LeaderCompletenessBy, LogMatchingBy, WasLogBy}
use Rattle.safety_laws.proofs.lemmas.PrefixLemmas.{prefix_trans, prefix_take, prefix_length, prefix_within, prefix_same}
use Rattle.safety_laws.proofs.lemmas.ServerLemmas.{IsFrom, OneBelow, CompleteBelow, log_from, written_is_from, last_of, candidate_start, committed_length, of_same}

module _ {T ID D : Type 0} (rank : T → ℕ) (counting : Counting T ID D) (h : History T ID D)
    (lawful : FollowsRaftBy rank counting h) (one : ElectionSafetyBy rank counting h)
    (complete : LeaderCompletenessBy rank counting h) where
  of_one_leader : (a b : List (Entry T D)) (t u : T) (c d : ID) → t ≡ u → IsElectedBy rank counting h t c
      → IsElectedBy rank counting h u d → IsPrefix a (h.leader_log t c) → IsPrefix b (h.leader_log u d)
      → length a ≡ length b → a ≡ b
  of_one_leader a b t u c d e el el' st st' same =
      let f : IsElectedBy rank counting h t d = rw (← e) at el' in
      let g : d ≡ c = one t d c f el in
      let st'' : IsPrefix b (h.leader_log t c) = rw (sym e, g) at st' in
      prefix_same st st'' same

  pub match_from : (n m : ℕ) (a b : List (Entry T D)) → IsFrom rank counting h lawful n a
      → IsFrom rank counting h lawful m b → 0 < length a → length a ≡ length b
      → last_term rank a ≡ last_term rank b → a ≡ b
  match_from n m a b (inl e) y long same last = absurd (omega arith)
  match_from n m a b (inr x) (inl e) long same last = absurd (omega arith)
  match_from n m a b (inr x) (inr y) long same last =
      of_one_leader a b x.term y.term x.leader y.leader
      (lawful.ranks x.term y.term x.leader y.leader x.elected y.elected
      (sym (last_of rank counting h lawful n a x) ∙ last ∙ last_of rank counting h lawful m b y))
      x.elected y.elected x.start y.start same

  -- every log of a server or an elected leader is from leaders, below some bound
  was_from : (a : List (Entry T D)) → WasLogBy rank counting h a
      → (n : ℕ) × IsFrom rank counting h lawful n a
  was_from a (inl x) =
      let n : ℕ = suc (term_after rank (h.events x.0)) in
      (n, log_from rank counting h lawful n x.0 (h.events x.0) (lawful.servers x.0) (omega arith) a x.1)
  was_from a (inr x) =
      (suc (rank x.0), written_is_from rank counting h lawful x.0 x.1 x.2 a x.3)

  log_matching : LogMatchingBy rank counting h
  log_matching a b x y long same last =
      let p = was_from a x in let q = was_from b y in match_from p.0 q.0 a b p.1 q.1 long same last

  later : (t u : T) (c d : ID) (n m at' by : ℕ) → IsCommittedBy rank counting h t c n at'
      → IsCommittedBy rank counting h u d m by → rank t < rank u
      → IsPrefix (take n (h.leader_log t c)) (take m (h.leader_log u d))
  later t u c d n m at' by x y lt =
      let st : IsPrefix (take n (h.leader_log t c)) (h.candidate_log u d) =
      complete t u c d n at' x lt y.elected in
      prefix_within (prefix_trans st (candidate_start rank counting h lawful u d y.elected))
      (prefix_take m (h.leader_log u d))
      (omega (arith, prefix_length st, committed_length rank counting h lawful u d m by y, y.own_term))

  commits_agree : CommitsAgreeBy rank counting h
  commits_agree t u c d n m at' by x y = by_terms (cases_lt (rank t) (rank u)) (cases_lt (rank u) (rank t))
    where
      P : List (Entry T D)
      P = take n (h.leader_log t c)

      Q : List (Entry T D)
      Q = take m (h.leader_log u d)

      by_lengths : IsPrefix P (h.leader_log u d) → (length P < length Q) ⊎ (length Q ≤ length P)
          → IsPrefix P Q ⊎ IsPrefix Q P
      by_lengths st (inl less) = inl (prefix_within st (prefix_take m (h.leader_log u d)) (omega arith))
      by_lengths st (inr le) = inr (prefix_within (prefix_take m (h.leader_log u d)) st le)

      by_terms : ((rank t < rank u) ⊎ (rank u ≤ rank t)) → ((rank u < rank t) ⊎ (rank t ≤ rank u)) → IsPrefix P Q ⊎ IsPrefix Q P
      by_terms (inl lt) z = inl (later t u c d n m at' by x y lt)
      by_terms (inr le) (inl lt) = inr (later u t d c m n by at' y x lt)
      by_terms (inr le) (inr ge) =
          let e : t ≡ u = lawful.ranks t u c d x.elected y.elected (omega arith) in
          let el : IsElectedBy rank counting h u c = rw e at x.elected in
          let g : c ≡ d = one u c d el y.elected in
          by_lengths (of_same rank counting h lawful P t u c d e g (prefix_take n (h.leader_log t c)))
          (cases_lt (length P) (length Q))

  by_length : {a b q : List (Entry T D)} → IsPrefix a q → IsPrefix b q → IsPrefix a b ⊎ IsPrefix b a
  by_length {a} {b} {q} x y = go (cases_lt (length a) (length b))
    where
      go : ((length a < length b) ⊎ (length b ≤ length a)) → IsPrefix a b ⊎ IsPrefix b a
      go (inl lt) = inl (prefix_within x y (omega (arith, lt)))
      go (inr le) = inr (prefix_within y x le)

  -- prefixes of committed logs agree
  pub prefixes_agree : (t u : T) (c d : ID) (n m at' by : ℕ) (a b : List (Entry T D))
      → IsCommittedBy rank counting h t c n at' → IsCommittedBy rank counting h u d m by
      → IsPrefix a (take n (h.leader_log t c)) → IsPrefix b (take m (h.leader_log u d))
      → IsPrefix a b ⊎ IsPrefix b a
  prefixes_agree t u c d n m at' by a b x y st st' = go (commits_agree t u c d n m at' by x y)
    where
      go : (IsPrefix (take n (h.leader_log t c)) (take m (h.leader_log u d))
          ⊎ IsPrefix (take m (h.leader_log u d)) (take n (h.leader_log t c))) → IsPrefix a b ⊎ IsPrefix b a
      go (inl p) = by_length (prefix_trans st p) st'
      go (inr p) = by_length st (prefix_trans st' p)

  pub safe : IsSafeBy rank counting h
  safe = record {
    election_safety = one;
    log_matching = log_matching;
    leader_completeness = complete;
    commits_agree = commits_agree;
  }

-- if each term has one leader, whose log is complete, as long as lower terms have, a history is safe
module _ {T ID D : Type 0} (rank : T → ℕ) (counting : Counting T ID D) (h : History T ID D)
    (lawful : FollowsRaftBy rank counting h)
    (one_at : (u : T) → OneBelow rank counting h lawful (rank u) → CompleteBelow rank counting h lawful (rank u)
    → (c d : ID) → IsElectedBy rank counting h u c → IsElectedBy rank counting h u d → c ≡ d)
    (held : (u : T) (d : ID) → OneBelow rank counting h lawful (rank u) → CompleteBelow rank counting h lawful (rank u)
    → IsElectedBy rank counting h u d → (t : T) (c : ID) (n m : ℕ) → IsCommittedBy rank counting h t c n m
    → rank t < rank u → IsPrefix (take n (h.leader_log t c)) (h.candidate_log u d)) where
  record Below (k : ℕ) : Type 0 where
    one : OneBelow rank counting h lawful k
    complete : CompleteBelow rank counting h lawful k

  below_step : (k : ℕ) → Below k → Below (suc k)
  below_step k b =
      record {
        one = λ t c d lt x y. one_of t c d (cases_lt (rank t) k) lt x y;
        complete = λ t u c d n m lt done less el. complete_of t u c d n m (cases_lt (rank u) k) lt done less el;
      }
    where
      one_of : (t : T) (c d : ID) → ((rank t < k) ⊎ (k ≤ rank t)) → rank t < suc k → IsElectedBy rank counting h t c
          → IsElectedBy rank counting h t d → c ≡ d
      one_of t c d (inl early) lt x y = b.one t c d early x y
      one_of t c d (inr late) lt x y =
          let e : k ≡ rank t = omega arith in
          let b' : Below (rank t) = rw e at b in one_at t b'.one b'.complete c d x y

      complete_of : (t u : T) (c d : ID) (n m : ℕ) → ((rank u < k) ⊎ (k ≤ rank u)) → rank u < suc k
          → IsCommittedBy rank counting h t c n m → rank t < rank u → IsElectedBy rank counting h u d
          → IsPrefix (take n (h.leader_log t c)) (h.candidate_log u d)
      complete_of t u c d n m (inl early) lt done less el = b.complete t u c d n m early done less el
      complete_of t u c d n m (inr late) lt done less el =
          let e : k ≡ rank u = omega arith in
          let b' : Below (rank u) = rw e at b in held u d b'.one b'.complete el t c n m done less

  below : (k : ℕ) → Below k
  below zero =
      record {
        one = λ t c d lt x y. absurd (omega arith);
        complete = λ t u c d n m lt done less el. absurd (omega arith);
      }
  below (suc k) = below_step k (below k)

  pub safe_by_terms : IsSafeBy rank counting h
  safe_by_terms =
      safe rank counting h lawful (λ t c d x y. (below (suc (rank t))).one t c d (omega arith) x y)
      (λ t u c d n m done lt el. (below (suc (rank u))).complete t u c d n m (omega arith) done lt el)
