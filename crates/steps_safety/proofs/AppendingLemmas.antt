-- A follower keeps rules 4 and 5.
use Rattle.std.specs.Prelude.{◌≡◌, ◌⊎◌, ◌<◌, ◌≤◌, ◌+◌, ◌-◌, ℕ, zero, suc, Bool, true, false, ◌||◌, List, [], ◌∷◌, length, take, drop, slice_get, Option, Some, None, nat_eq, nat_le, nat_lt, ◌==◌, if◌then◌else◌}
use Rattle.std.specs.List.{list_all, prefix_len}
use Rattle.std.specs.Option.{option_or}
use Rattle.std.specs.Ordering.{is_le, is_lt, nat_cmp, ordering_then, partial_ge}
use Rattle.std.specs.declared.cmp.Ordering.{Ordering}
use Rattle.std.specs.declared.cmp.Ordering.TheVariants.{Less, Equal, Greater}
use Rattle.std.proofs.Common.{refl, sym, ap, subst, ◌∙◌, inl, inr, arith, true≢false}
use Rattle.std.proofs.lemmas.Bool.{and_parts, cases_lt, or_parts}
use Rattle.std.proofs.lemmas.Bool.Decides.{nat_tests}
use Rattle.std.proofs.lemmas.List.{length-take, length-take-le, take-take}
use Rattle.raft_base.specs.declared.log_id.LogIdOf.{LogIdOf}
use Rattle.raft_base.specs.declared.vote.VoteIn.{VoteIn}
use Rattle.raft_base.specs.LogId.{id_le, id_lt, next_index, same_ids}
use Rattle.raft_base.specs.Vote.{by_leader_then_committed, vote_cmp}
use Rattle.safety_laws.specs.Log.{Entry, IsPrefix, last_term}
use Rattle.safety_laws.specs.Events.{Event, Append, Ack, log_after, term_after}
use Rattle.safety_laws.specs.Facts.{IsElected, appended}
use Rattle.safety_laws.specs.Ranks.{IsAmong}
use Rattle.safety_laws.specs.Rules.{EventsFollowRules, FollowsRaft, MayAppend}
use Rattle.safety_laws.specs.Safety.{IsSafe}
use Rattle.safety_laws.specs.Apply.{IsKnownCommitted}
use Rattle.safety_laws.specs.AppendEntries.{MayAppendAndAck}
use Rattle.raft_state.specs.log_id_list.LogEdits.{front}
use Rattle.raft_state.specs.log_id_list.LogReads.{id_at, last_id}
use Rattle.steps_handlers.specs.Append.{greater_id, lesser_id}
use Rattle.steps_handlers.specs.Follow.{committed_vote_of}
use Rattle.steps_safety.proofs.Calls.{AppendConflicts, AppendMatches, AppendsKeepRules, InstallMatches, InstallsKeepRules, IsInstalled, IsKnownSnapshot, are_consecutive, fresh_of, purged_or_logged, since_of, InstallShape, MatchShape, place}
use Rattle.steps_safety.specs.Server.{AreRanked, IsIdAt, IsInLog, IsLastId, IsServer, KnowsCommitted, Leaders, Place, ShowsLog, State}
use Rattle.steps_safety.proofs.Whole.{IsWhole}
use Rattle.steps_safety.specs.Appending.{AllInLog, Follows, InLogIfAny, IsSent, Truncates}
use Rattle.safety_laws.proofs.lemmas.PrefixLemmas.{prefix_itself, prefix_length, prefix_take, prefix_trans, prefix_within, take_prefix, take_within}
use Rattle.safety_laws.proofs.lemmas.ServerLemmas.{candidate_start, had_now, last_term_grows, log_from, of_same, written_is_from}
use Rattle.safety_laws.proofs.lemmas.ApplyLemmas.{applied}
use Rattle.safety_laws.proofs.lemmas.SafetyLemmas.{match_from}
use Rattle.steps_safety.proofs.PlaceLemmas.{by_index, last_of_take}

-- ---- log ids that are found

same_found : {C : Type 0} (eq : C → C → Bool) (o : Option (LogIdOf C)) (id : LogIdOf C) → same_ids eq o (Some id) ≡ true
    → (x : LogIdOf C) × (o ≡ Some x) × (eq x.leader_id id.leader_id ≡ true) × (x.index ≡ id.index)
same_found eq None id h = cc
same_found eq (Some x) id h = let d = and_parts (eq x.leader_id id.leader_id) (nat_eq x.index id.index) h in let d1 = d.1 in
    (x, refl, d.0, grind (arith, nat_tests))

pub index_found : {C : Type 0} (log : List (LogIdOf C)) (i : ℕ) (y : LogIdOf C) → id_at log i ≡ Some y → y.index ≡ i
index_found [] i y h = cc
index_found {C} (x ∷ xs) i y h = by (x.index == i) refl h (index_found xs i y)
  where
    by : (t : Bool) → (x.index == i) ≡ t → (if t then Some x else id_at xs i) ≡ Some y → (id_at xs i ≡ Some y → y.index ≡ i)
        → y.index ≡ i
    by true e g rest = let z : x.index ≡ i = grind (arith, nat_tests) in let w : x ≡ y = cc in sym (ap (λ (a : LogIdOf C). a.index) w) ∙ z
    by false e g rest = rest g

front_reads : {C : Type 0} (xs : List (LogIdOf C)) (a i : ℕ) → i < a → id_at (front xs a) i ≡ id_at xs i
front_reads [] a i lt = refl
front_reads (x ∷ xs) a i lt = elim (cases_lt x.index a) [
  | inl below ↦ (let t : nat_lt x.index a ≡ true = grind (arith, nat_tests) in rw t (same (x.index == i) (front_reads xs a i lt)))
  | inr past ↦ (let t : nat_lt x.index a ≡ false = grind (arith, nat_tests) in let u : (x.index == i) ≡ false = grind (arith, nat_tests) in
      rw (t, u) (front_reads xs a i lt))
]
  where
    same : (t : Bool) → id_at (front xs a) i ≡ id_at xs i
        → (if t then Some x else id_at (front xs a) i) ≡ (if t then Some x else id_at xs i)
    same true h = refl
    same false h = h

front_below : {C : Type 0} (xs : List (LogIdOf C)) (a i : ℕ) (y : LogIdOf C) → id_at (front xs a) i ≡ Some y → i < a
front_below [] a i y h = cc
front_below (x ∷ xs) a i y h = by (nat_lt x.index a) refl h (front_below xs a i y)
  where
    by : (t : Bool) → nat_lt x.index a ≡ t → id_at (if t then x ∷ front xs a else front xs a) i ≡ Some y
        → (id_at (front xs a) i ≡ Some y → i < a) → i < a
    by true e g rest = go (x.index == i) refl g
      where
        go : (u : Bool) → (x.index == i) ≡ u → (if u then Some x else id_at (front xs a) i) ≡ Some y → i < a
        go true f g = grind (arith, nat_tests)
        go false f g = rest g
    by false e g rest = rest g

last_some : {C : Type 0} (x : LogIdOf C) (xs : List (LogIdOf C)) → (z : LogIdOf C) × (last_id (x ∷ xs) ≡ Some z)
last_some x [] = (x, refl)
last_some x (y ∷ xs) = last_some y xs

last_more : {C : Type 0} (o : Option (LogIdOf C)) (x : LogIdOf C) (xs : List (LogIdOf C))
    → option_or (last_id (x ∷ xs)) o ≡ option_or (last_id xs) (Some x)
last_more o x [] = refl
last_more o x (y ∷ xs) = let z = last_some y xs in rw z.1 refl

last_own : {C : Type 0} (o : Option (LogIdOf C)) (x : LogIdOf C) (xs : List (LogIdOf C))
    → option_or (last_id (x ∷ xs)) o ≡ last_id (x ∷ xs)
last_own o x xs = let z = last_some x xs in rw z.1 refl

next_own : {C : Type 0} (o : Option (LogIdOf C)) (x : LogIdOf C) (xs : List (LogIdOf C)) → are_consecutive o (x ∷ xs) ≡ true
    → (x.index ≡ next_index o) × (are_consecutive (Some x) xs ≡ true)
next_own o x xs row =
    let d = and_parts (nat_eq x.index (next_index o)) (are_consecutive (Some x) xs) row in
    let d0 = d.0 in (grind (arith, nat_tests), d.1)

last_after : {C : Type 0} (o : Option (LogIdOf C)) (x : LogIdOf C) (xs : List (LogIdOf C)) (z : LogIdOf C)
    → are_consecutive o (x ∷ xs) ≡ true → last_id (x ∷ xs) ≡ Some z → x.index ≤ z.index
last_after {C} o x [] z row at = let w : x ≡ z = cc in omega (arith, ap (λ (a : LogIdOf C). a.index) w)
last_after o x (y ∷ xs) z row at =
    let n = next_own o x (y ∷ xs) row in let m = next_own (Some x) y xs n.1 in
    let r = last_after (Some x) y xs z n.1 at in omega (arith, m.0, r)

-- the elements past one more than a number are those past the number, after the first one
pub drop_next : {A : Type 0} (n : ℕ) (x : A) (xs : List A) → drop (1 + n) (x ∷ xs) ≡ drop n xs
drop_next n x xs = let e : 1 + n ≡ suc n = omega arith in rw e refl

-- ---- entries of logs

module _ {T D : Type 0} where
  pub get_within : (log : List (Entry T D)) (i : ℕ) (e : Entry T D) → slice_get log i ≡ Some e → suc i ≤ length log
  get_within [] i e h = cc
  get_within (x ∷ log) zero e h = omega arith
  get_within (x ∷ log) (suc i) e h = let r = get_within log i e h in omega (arith, r)

  -- a prefix has what the log has
  pub take_get : (n i : ℕ) (log : List (Entry T D)) → i < n → slice_get (take n log) i ≡ slice_get log i
  take_get zero i log lt = absurd (omega (arith, lt))
  take_get (suc n) i [] lt = refl
  take_get (suc n) zero (x ∷ log) lt = refl
  take_get (suc n) (suc i) (x ∷ log) lt = take_get n i log (omega (arith, lt))

  -- a prefix of a log has what the log has
  pub prefix_get : {pl log : List (Entry T D)} (i : ℕ) → IsPrefix pl log → i < length pl → slice_get log i ≡ slice_get pl i
  prefix_get {pl} {log} i st lt =
      sym (take_get (length pl) i log lt) ∙ ap (λ (x : List (Entry T D)). slice_get x i) (take_prefix st)

  pub take_of_prefix : (n : ℕ) (a b : List (Entry T D)) → IsPrefix a b → n ≤ length a → take n b ≡ take n a
  take_of_prefix n a b st le = sym (take-take n (length a) b le) ∙ ap (λ (x : List (Entry T D)). take n x) (take_prefix st)

module _ {C D : Type 0} (first : C) where
  cut_at : (n : ℕ) (log : List (Entry C D)) (i : ℕ) (id : LogIdOf C) → i ≤ n → IsIdAt first log i id → IsIdAt first (take n log) i id
  cut_at n log zero id le is = is
  cut_at n log (suc i) id le is = (is.0, take_get n i log (omega (arith, le)) ∙ is.1, is.2)

  pub at_within : (log : List (Entry C D)) (i : ℕ) (id : LogIdOf C) → IsIdAt first log i id → i ≤ length log
  at_within log zero id is = omega arith
  at_within log (suc i) id is = get_within log i is.0 is.1

  at_index : (terms : List C) (log : List (Entry C D)) (i : ℕ) (id : LogIdOf C) → id.index ≡ i → IsInLog first terms log id
      → IsIdAt first log i id
  at_index terms log i id e is = subst (λ (n : ℕ). IsIdAt first log n id) e is.at

  in_log : (terms : List C) (log : List (Entry C D)) (i : ℕ) (id : LogIdOf C) → id.index ≡ i → IsIdAt first log i id
      → IsAmong id.leader_id terms → IsInLog first terms log id
  in_log terms log i id e is am = record { at = subst (λ (n : ℕ). IsIdAt first log n id) (sym e) is; in_use = am }

-- how far a log agrees with a leader's
pub record Agree {T D : Type 0} (log lead : List (Entry T D)) (i : ℕ) : Type 0 where
  pub fits : i ≤ length log
  pub fits_lead : i ≤ length lead
  pub same : take i log ≡ take i lead

-- the log of an elected leader
module _ {L C K D : Type 0} (k : Leaders L C K) (p : Place L C K D) (ranked : AreRanked k p.rank p.leaders p.terms p.first)
    (lawful : FollowsRaft p.rank p.quorum p.history) (leader : L) (by_node : K)
    (el : IsElected p.rank p.quorum p.history (k.committed leader) by_node) where
  abbrev of_term : C
  of_term = k.committed leader

  abbrev of_log : List (Entry C D)
  of_log = p.history.leader_log (k.committed leader) by_node

  -- in the leader's log, a log id of a lesser leader is not past one of a greater leader
  sorted : (a b : LogIdOf C) → IsInLog p.first p.terms of_log a → IsInLog p.first p.terms of_log b
      → k.cmp a.leader_id b.leader_id ≡ Less → a.index ≤ b.index
  sorted a b x y less = go (cases_lt b.index a.index)
    where
      less_rank : p.rank a.leader_id < p.rank b.leader_id
      less_rank = ranked.less a.leader_id b.leader_id x.in_use y.in_use less

      by : (i j : ℕ) → j < i → IsIdAt p.first of_log i a → IsIdAt p.first of_log j b → ⊥
      by zero j lt u v = omega (arith, lt)
      by (suc i) zero lt u v = ranked.least a.leader_id x.in_use (rw v at less)
      by (suc i) (suc j) lt u v =
          let one = last_of_take p.rank 0 i of_log u.0 u.1 in
          let two = last_of_take p.rank 0 j of_log v.0 v.1 in
          let grows = last_term_grows p.rank (appended p.quorum) p.history lawful (suc (p.rank of_term)) (take (suc j) of_log)
          (take (suc i) of_log)
          (written_is_from p.rank (appended p.quorum) p.history lawful of_term by_node el (take (suc i) of_log)
          (prefix_take (suc i) of_log))
          (take_within (suc j) (suc i) of_log (omega (arith, lt))) in
          omega (arith, one, two, grows, less_rank, ap p.rank u.2, ap p.rank v.2)

      go : ((b.index < a.index) ⊎ (a.index ≤ b.index)) → a.index ≤ b.index
      go (inr le) = le
      go (inl lt) = absurd (by a.index b.index lt x.at y.at)

  -- so log ids compare as their indexes
  pub below : (a b : LogIdOf C) → IsInLog p.first p.terms of_log a → IsInLog p.first p.terms of_log b
      → id_lt k.cmp (Some a) (Some b) ≡ true → a.index ≤ b.index
  below a b x y lt = by (k.cmp a.leader_id b.leader_id) refl lt
    where
      by : (o : Ordering) → k.cmp a.leader_id b.leader_id ≡ o → is_lt (ordering_then o (nat_cmp a.index b.index)) ≡ true
          → a.index ≤ b.index
      by Less o h = sorted a b x y o
      by Equal o h = grind (arith, nat_tests)
      by Greater o h = cc

  pub not_below : (a b : LogIdOf C) → IsInLog p.first p.terms of_log a → IsInLog p.first p.terms of_log b
      → id_lt k.cmp (Some a) (Some b) ≡ false → b.index ≤ a.index
  not_below a b x y lt = by (k.cmp a.leader_id b.leader_id) refl lt
    where
      by : (o : Ordering) → k.cmp a.leader_id b.leader_id ≡ o → is_lt (ordering_then o (nat_cmp a.index b.index)) ≡ false
          → b.index ≤ a.index
      by Less o h = cc
      by Equal o h = grind (arith, nat_tests)
      by Greater o h = sorted b a y x (ranked.flip a.leader_id b.leader_id o)

  pub log_below : (a b : LogIdOf C) → IsInLog p.first p.terms of_log a → IsInLog p.first p.terms of_log b
      → id_le k.cmp (Some a) (Some b) ≡ true → a.index ≤ b.index
  log_below a b x y le = by (k.cmp a.leader_id b.leader_id) refl le
    where
      by : (o : Ordering) → k.cmp a.leader_id b.leader_id ≡ o → is_le (ordering_then o (nat_cmp a.index b.index)) ≡ true
          → a.index ≤ b.index
      by Less o h = sorted a b x y o
      by Equal o h = by_index a.index b.index h
      by Greater o h = cc

module _ {L C K D : Type 0} (k : Leaders L C K) (p : Place L C K D) (ranked : AreRanked k p.rank p.leaders p.terms p.first)
    (lawful : FollowsRaft p.rank p.quorum p.history) (safe : IsSafe p.rank p.quorum p.history)
    (es : List (Event C K D)) (ok : EventsFollowRules p.rank p.quorum p.history p.server es)
    (leader : L) (by_node : K) (in_use : IsAmong leader p.leaders)
    (el : IsElected p.rank p.quorum p.history (k.committed leader) by_node) where
  abbrev t : C
  t = k.committed leader

  abbrev log : List (Entry C D)
  log = log_after es

  abbrev lead : List (Entry C D)
  lead = p.history.leader_log (k.committed leader) by_node

  -- a leader that is followed is of a term that the server has not passed
  not_passed : (old : State L C) → IsServer k p old es → partial_ge (vote_cmp k.order) (committed_vote_of leader) old.vote ≡ true
      → term_after p.rank es ≤ p.rank (k.committed leader)
  not_passed old is ge = by (k.order leader old.vote.leader_id) old.vote.committed refl ge
    where
      by : (o : Option Ordering) (b : Bool) → k.order leader old.vote.leader_id ≡ o
          → partial_ge (λ (x y : VoteIn L). by_leader_then_committed o true b) (committed_vote_of leader) old.vote ≡ true
          → term_after p.rank es ≤ p.rank (k.committed leader)
      by (Some Greater) b o h =
          let lt = ranked.greater leader old.vote.leader_id in_use is.in_use o in omega (arith, lt, is.reached)
      by (Some Equal) b o h =
          let e = ap (λ (l : L). p.rank (k.committed l)) (ranked.equal leader old.vote.leader_id o) in
          omega (arith, e, is.reached)
      by (Some Less) b o h = cc
      by None b o h =
          let e = ranked.apart leader old.vote.leader_id in_use is.in_use o in omega (arith, e, is.reached)

  -- two prefixes of one length, of the server's log and of the leader's, are equal if their last terms are
  same_by_term : term_after p.rank es ≤ p.rank (k.committed leader) → (i : ℕ) → i ≤ length log → i ≤ length lead
      → last_term p.rank (take i log) ≡ last_term p.rank (take i lead) → take i log ≡ take i lead
  same_by_term term zero a b e = refl
  same_by_term term (suc i) a b e =
      let x : length (take (suc i) log) ≡ suc i = length-take-le (suc i) log a in
      let y : length (take (suc i) lead) ≡ suc i = length-take-le (suc i) lead b in
      match_from p.rank (appended p.quorum) p.history lawful safe.election_safety safe.leader_completeness (suc (term_after p.rank es))
      (suc (p.rank t)) (take (suc i) log) (take (suc i) lead)
      (log_from p.rank (appended p.quorum) p.history lawful (suc (term_after p.rank es)) p.server es ok (omega arith) (take (suc i) log)
      (had_now es (take (suc i) log) (prefix_take (suc i) log)))
      (written_is_from p.rank (appended p.quorum) p.history lawful t by_node el (take (suc i) lead) (prefix_take (suc i) lead))
      (omega (arith, x)) (x ∙ sym y) e

  -- an append, and the acknowledgement after it
  both : term_after p.rank es ≤ p.rank (k.committed leader) → (n : ℕ) (new : List (Entry C D)) → n ≤ length lead
      → IsPrefix (take n lead) new → ((pl : List (Entry C D)) → IsPrefix pl log → IsPrefix pl lead → IsPrefix pl new)
      → IsPrefix new log ⊎ IsPrefix new lead → MayAppendAndAck p.rank p.quorum p.history es t by_node n new
  both term n new written has keeps of_these = record {
    append = record { term = term; elected = el; keeps = keeps; of_these = of_these };
    ack = record { reached = omega arith; elected = el; written = written; has_kept = (has, inl (omega arith)) };
  }

  -- what a leader of a term that is not later knows to be committed, this leader has
  held : (u : C) (d : K) (n : ℕ) → IsElected p.rank p.quorum p.history u d → IsKnownCommitted p.rank p.quorum p.history u d n
      → p.rank u ≤ p.rank t → IsPrefix (take n (p.history.leader_log u d)) lead
  held u d n elu known le = go (cases_lt (p.rank u) (p.rank t))
    where
      go : ((p.rank u < p.rank t) ⊎ (p.rank t ≤ p.rank u)) → IsPrefix (take n (p.history.leader_log u d)) lead
      go (inl later) =
          prefix_trans known.is
          (prefix_trans
          (safe.leader_completeness known.in_term t known.by_leader by_node known.committed_to
          known.counted_at known.committed (omega (arith, known.not_later, later)) el)
          (candidate_start p.rank (appended p.quorum) p.history lawful t by_node el))
      go (inr ge) =
          let f : u ≡ t = lawful.ranks u t d by_node elu el (omega (arith, ge, le)) in
          let el' : IsElected p.rank p.quorum p.history t d = rw f at elu in
          of_same p.rank (appended p.quorum) p.history lawful (take n (p.history.leader_log u d)) u t d by_node f
          (safe.election_safety t d by_node el' el) (prefix_take n (p.history.leader_log u d))

  module _ (term : term_after p.rank es ≤ p.rank (k.committed leader)) where
    -- what the server knows to be committed, the leader has
    held_known : (n : ℕ) (knows : KnowsCommitted p.rank p.quorum p.history es n)
        → IsPrefix (take n (p.history.leader_log knows.may.term knows.may.leader)) lead
    held_known n knows =
        held knows.may.term knows.may.leader n knows.may.elected knows.may.known (let low = knows.reached in omega (arith, low, term))

    applied_in : (n : ℕ) → KnowsCommitted p.rank p.quorum p.history es n → Agree log lead n
    applied_in n knows =
        let may = knows.may in
        let is = applied p.rank (appended p.quorum) p.history lawful safe es n may in
        let st = held_known n knows in
        let long = length-take-le n (p.history.leader_log may.term may.leader) may.written in
        let fits : n ≤ length log = omega (arith, ap length is, length-take n log, long) in
        record {
          fits = fits;
          fits_lead = omega (arith, prefix_length st, long);
          same = is ∙ sym (ap (λ (m : ℕ). take m lead) (sym long) ∙ take_prefix st);
        }

    less_agree : (i n : ℕ) → i ≤ n → Agree log lead n → Agree log lead i
    less_agree i n le a = record {
      fits = omega (arith, le, a.fits);
      fits_lead = omega (arith, le, a.fits_lead);
      same = sym (take-take i n log le) ∙ ap (λ (x : List (Entry C D)). take i x) a.same ∙ take-take i n lead le;
    }

    none_agrees : Agree log lead 0
    none_agrees = record { fits = omega arith; fits_lead = omega arith; same = refl }

    -- a log id that both logs have
    both_have : (old : State L C) → IsServer k p old es → (id : LogIdOf C)
        → same_ids k.eq (id_at old.ids id.index) (Some id) ≡ true → IsInLog p.first p.terms lead id → Agree log lead id.index
    both_have old is id has there = by id.index refl there.at
      where
        f : (x : LogIdOf C) × (id_at old.ids id.index ≡ Some x) × (k.eq x.leader_id id.leader_id ≡ true) × (x.index ≡ id.index)
        f = same_found k.eq (id_at old.ids id.index) id has

        go : (i : ℕ) → id.index ≡ suc i → IsIdAt p.first lead (suc i) id → IsIdAt p.first log (suc i) f.0 → Agree log lead (suc i)
        go i e theirs mine =
            let fits = get_within log i mine.0 mine.1 in
            let fits' = get_within lead i theirs.0 theirs.1 in
            let one = last_of_take p.rank 0 i log mine.0 mine.1 in
            let two = last_of_take p.rank 0 i lead theirs.0 theirs.1 in
            let leaders = ranked.same f.0.leader_id id.leader_id f.2 in
            record {
              fits = fits;
              fits_lead = fits';
              same = same_by_term term (suc i) fits fits'
                  (one ∙ ap p.rank (mine.2 ∙ leaders ∙ sym theirs.2) ∙ sym two);
            }

        by : (i : ℕ) → id.index ≡ i → IsIdAt p.first lead i id → Agree log lead i
        by zero e theirs = none_agrees
        by (suc i) e theirs =
            go i e theirs (at_index p.first p.terms log (suc i) f.0 (f.3 ∙ e) (is.log.each id.index f.0 f.1))

    -- what is purged of the server's log, the leader has
    purged_agree : (old : State L C) → IsServer k p old es → (i : ℕ) → suc i ≤ old.purged_next → Agree log lead i
    purged_agree old is zero le = none_agrees
    purged_agree old is (suc i) le =
        let e : old.purged_next ≡ suc (suc (old.purged_next - 2)) = omega (arith, le) in
        less_agree (suc i) (suc (old.purged_next - 2)) (omega (arith, le))
        (applied_in (suc (old.purged_next - 2)) (is.purged (old.purged_next - 2) e))

    -- if a log id of the leader's is purged or logged, both logs agree up to it
    agree : (old : State L C) → IsServer k p old es → (o : Option (LogIdOf C)) → purged_or_logged k.eq old o ≡ true
        → InLogIfAny k p lead o → Agree log lead (place o)
    agree old is None has there = none_agrees
    agree old is (Some id) has there = by (nat_le (next_index (Some id)) old.purged_next) refl has
      where
        by : (b : Bool) → nat_le (next_index (Some id)) old.purged_next ≡ b
            → (b || same_ids k.eq (id_at old.ids id.index) (Some id)) ≡ true → Agree log lead id.index
        by true e h = let le : id.index + 1 ≤ old.purged_next = grind (arith, nat_tests) in
            purged_agree old is id.index (omega (arith, le))
        by false e h = both_have old is id h there

    -- if it is neither, the logs share no entry from there on
    apart : (old : State L C) → IsServer k p old es → IsWhole old.purged_next old.ids → (id : LogIdOf C)
        → purged_or_logged k.eq old (Some id) ≡ false → IsInLog p.first p.terms lead id → (pl : List (Entry C D))
        → IsPrefix pl log → IsPrefix pl lead → length pl ≤ id.index - 1
    apart old is whole id lacks there pl mine theirs = go (cases_lt (id.index - 1) (length pl))
      where
        parts : (nat_le (next_index (Some id)) old.purged_next ≡ false) × (same_ids k.eq (id_at old.ids id.index) (Some id) ≡ false)
        parts = or_parts (nat_le (next_index (Some id)) old.purged_next) (same_ids k.eq (id_at old.ids id.index) (Some id)) lacks

        past : old.purged_next ≤ id.index
        past = let e = parts.0 in grind (arith, nat_tests)

        clash : (y : LogIdOf C) → id_at old.ids id.index ≡ Some y → y.leader_id ≡ id.leader_id → ⊥
        clash y at same =
            let i = index_found old.ids id.index y at in
            let n : nat_eq y.index id.index ≡ true = grind (arith, nat_tests) in
            let l : k.eq y.leader_id id.leader_id ≡ true = rw same (ranked.itself id.leader_id) in
            let eq : same_ids k.eq (Some y) (Some id) ≡ true = rw (l, n) refl in
            true≢false (sym eq ∙ rw at at parts.1)

        leaders : (y : LogIdOf C) (i : ℕ) → id.index ≡ i → i - 1 < length pl → IsIdAt p.first lead i id → IsIdAt p.first log i y
            → y.leader_id ≡ id.leader_id
        leaders y zero e lt a b = b ∙ sym a
        leaders y (suc i) e lt a b =
            let one = prefix_get i mine (omega (arith, lt)) in
            let two = prefix_get i theirs (omega (arith, lt)) in
            let s : Some b.0 ≡ Some a.0 = sym b.1 ∙ one ∙ sym two ∙ a.1 in
            let u : b.0 ≡ a.0 = cc in
            sym b.2 ∙ ap (λ (x : Entry C D). x.term) u ∙ a.2

        found : (last : Option (LogIdOf C)) → last_id old.ids ≡ last → IsLastId p.first p.terms log last → id.index - 1 < length pl → ⊥
        found None e end lt = omega (arith, prefix_length mine, end, lt)
        found (Some x) e end lt =
            let in_range : id.index < next_index (last_id old.ids) = rw e (omega (arith, prefix_length mine, end.0, lt)) in
            let y = whole.present id.index (omega (arith, past)) in_range in
            let i = index_found old.ids id.index y.0 y.1 in
            clash y.0 y.1 (leaders y.0 id.index refl lt there.at
            (at_index p.first p.terms log id.index y.0 i (is.log.each id.index y.0 y.1)))

        go : ((id.index - 1 < length pl) ⊎ (length pl ≤ id.index - 1)) → length pl ≤ id.index - 1
        go (inr le) = le
        go (inl lt) = absurd (found (last_id old.ids) refl is.log.last lt)

    -- an append keeps what the server knows to be committed
    keeps_known : (l : List (Entry C D)) → MayAppend p.rank p.quorum p.history es t by_node l → (n : ℕ)
        (knows : KnowsCommitted p.rank p.quorum p.history es n)
        → IsPrefix (take n (p.history.leader_log knows.may.term knows.may.leader)) l
    keeps_known l append n knows =
        append.keeps (take n (p.history.leader_log knows.may.term knows.may.leader)) knows.may.in_log (held_known n knows)

    -- what is known to be committed is known to be so after an append, and after an acknowledgement
    after_append : (l : List (Entry C D)) → MayAppend p.rank p.quorum p.history es t by_node l → (n : ℕ)
        → KnowsCommitted p.rank p.quorum p.history es n → KnowsCommitted p.rank p.quorum p.history (Append t by_node l ∷ es) n
    after_append l append n knows = record {
      may = record {
        term = knows.may.term;
        leader = knows.may.leader;
        elected = knows.may.elected;
        written = knows.may.written;
        in_log = keeps_known l append n knows;
        known = knows.may.known;
      };
      reached = (let low = knows.reached in omega (arith, low, term));
    }

    after_ack : (l : List (Entry C D)) (m : ℕ) → MayAppend p.rank p.quorum p.history es t by_node l → (n : ℕ)
        → KnowsCommitted p.rank p.quorum p.history es n
        → KnowsCommitted p.rank p.quorum p.history (Ack t by_node m ∷ Append t by_node l ∷ es) n
    after_ack l m append n knows = record {
      may = record {
        term = knows.may.term;
        leader = knows.may.leader;
        elected = knows.may.elected;
        written = knows.may.written;
        in_log = keeps_known l append n knows;
        known = knows.may.known;
      };
      reached = (let low = knows.reached in omega (arith, low, term));
    }

    -- what this leader knows to be committed, and the server has acknowledged to it, the server knows to be
    -- committed
    from_leader : (l : List (Entry C D)) (m : ℕ) → MayAppendAndAck p.rank p.quorum p.history es t by_node m l → (n : ℕ) → n ≤ m
        → IsKnownCommitted p.rank p.quorum p.history t by_node n
        → KnowsCommitted p.rank p.quorum p.history (Ack t by_node m ∷ Append t by_node l ∷ es) n
    from_leader l m both n le known = record {
      may = record {
        term = t;
        leader = by_node;
        elected = el;
        written = (let most = both.ack.written in omega (arith, le, most));
        in_log = prefix_trans (take_within n m lead le) both.ack.has_kept.0;
        known = known;
      };
      reached = omega arith;
    }

    not_uncommitted : (new : State L C) → new.vote ≡ committed_vote_of leader → new.vote.committed ≡ false → ⊥
    not_uncommitted new is none = true≢false (sym (ap (λ (v : VoteIn L). v.committed) is) ∙ none)

    -- ---- a conflict

    truncates : (old new : State L C) → IsServer k p old es → IsWhole old.purged_next old.ids → IsWhole new.purged_next new.ids
        → (voted_for : k.voted leader ≡ Some by_node) → (id : LogIdOf C) → IsInLog p.first p.terms lead id
        → AppendConflicts k p leader (Some id) id.index old new
        → (f : Truncates k p leader es new) × (f.log ≡ take (id.index - 1) log)
    truncates old new is whole whole' voted_for id there c = (
      record {
        by_node = by_node;
        is_for = voted_for;
        log = take (id.index - 1) log;
        append = append;
        server = record {
          in_use = rw c.vote in_use;
          reached = rw c.vote (omega arith);
          voted_for = λ d none real for. absurd (not_uncommitted new c.vote none);
          log = record { last = last (last_id new.ids) refl; each = λ i y at. each i y (rw c.truncated at at) };
          purged = λ i at. after_append (take (id.index - 1) log) append (suc i) (is.purged i (sym c.purged ∙ at));
          committed = λ i at.
              after_append (take (id.index - 1) log) append (suc i) (is.committed i (ap next_index (sym c.committed_is) ∙ at));
        };
        still_known = λ n x. after_append (take (id.index - 1) log) append n x;
      },
      refl,
    )
      where
        append : MayAppend p.rank p.quorum p.history es t by_node (take (id.index - 1) log)
        append = record {
          term = term;
          elected = el;
          keeps = λ pl u v.
              let le = apart old is whole id c.conflict there pl u v in
              prefix_within u (prefix_take (id.index - 1) log)
              (omega (arith, le, prefix_length u, length-take (id.index - 1) log));
          of_these = inl (prefix_take (id.index - 1) log);
        }

        parts : (nat_le (next_index (Some id)) old.purged_next ≡ false) × (same_ids k.eq (id_at old.ids id.index) (Some id) ≡ false)
        parts = or_parts (nat_le (next_index (Some id)) old.purged_next) (same_ids k.eq (id_at old.ids id.index) (Some id)) c.conflict

        past : old.purged_next ≤ id.index
        past = let e = parts.0 in grind (arith, nat_tests)

        each : (i : ℕ) (y : LogIdOf C) → id_at (front old.ids id.index) i ≡ Some y
            → IsInLog p.first p.terms (take (id.index - 1) log) y
        each i y at =
            let lt = front_below old.ids id.index i y at in
            let own : id_at old.ids i ≡ Some y = sym (front_reads old.ids id.index i lt) ∙ at in
            let n = index_found old.ids i y own in
            let z = is.log.each i y own in
            in_log p.first p.terms (take (id.index - 1) log) i y n
            (cut_at p.first (id.index - 1) log i y (omega (arith, lt)) (at_index p.first p.terms log i y n z)) z.in_use

        old_end : (o : Option (LogIdOf C)) → last_id old.ids ≡ o → IsLastId p.first p.terms log o
            → (length log ≤ next_index (last_id old.ids)) × (next_index (last_id old.ids) ≤ suc (length log))
        old_end None e end = rw e (omega (arith, end), omega (arith, end))
        old_end (Some x) e end = rw e (omega (arith, end.0), omega (arith, end.0))

        ends : (length log ≤ next_index (last_id old.ids)) × (next_index (last_id old.ids) ≤ suc (length log))
        ends = old_end (last_id old.ids) refl is.log.last

        -- each index up to here is left
        left : (m : ℕ) → m ≤ length log → m < id.index → old.purged_next ≤ suc m → m < next_index (last_id old.ids)
            → m < next_index (last_id new.ids)
        left m le lt from upto =
            let y = whole.present m from upto in
            whole'.within m y.0 (rw c.truncated (front_reads old.ids id.index m lt ∙ y.1))

        last : (o : Option (LogIdOf C)) → last_id new.ids ≡ o → IsLastId p.first p.terms (take (id.index - 1) log) o
        last None e = go (cases_lt 0 (length (take (id.index - 1) log)))
          where
            go : ((0 < length (take (id.index - 1) log)) ⊎ (length (take (id.index - 1) log) ≤ 0))
                → length (take (id.index - 1) log) ≡ 0
            go (inr le) = omega (arith, le)
            go (inl lt) =
                let m = length (take (id.index - 1) log) in
                let size = length-take (id.index - 1) log in
                let ends0 = old_some (last_id old.ids) refl is.log.last (omega (arith, lt, size)) in
                let w = whole.purged_within in
                let u = left m (omega (arith, size)) (omega (arith, lt, size)) (omega (arith, size, past, w, ends0)) (omega
                (arith, size, ends0)) in
                let z : m < 0 = rw e at u in absurd (omega (arith, z))
              where
                old_some : (o : Option (LogIdOf C)) → last_id old.ids ≡ o → IsLastId p.first p.terms log o → 0 < length log
                    → next_index (last_id old.ids) ≡ suc (length log)
                old_some None e end lt = absurd (omega (arith, end, lt))
                old_some (Some x) e end lt = rw e (omega (arith, end.0))
        last (Some z) e =
            let at = whole'.at_end z e in
            let own = rw c.truncated at at in
            let lt = front_below old.ids id.index z.index z own in
            let own' : id_at old.ids z.index ≡ Some z = sym (front_reads old.ids id.index z.index lt) ∙ own in
            let y = each z.index z own in
            (size lt (whole.within z.index z own'), y.at, y.in_use)
          where
            full : (o : Option (LogIdOf C)) → last_id old.ids ≡ o → IsLastId p.first p.terms log o → z.index < next_index (last_id old.ids)
                → next_index (last_id old.ids) ≡ suc (length log)
            full None e end lt = let u : z.index < 0 = rw e at lt in absurd (omega (arith, u))
            full (Some x) e end lt = rw e (omega (arith, end.0))

            size : z.index < id.index → z.index < next_index (last_id old.ids) → length (take (id.index - 1) log) ≡ z.index
            size lt within =
                let m = length (take (id.index - 1) log) in
                let n = length-take (id.index - 1) log in
                let f = full (last_id old.ids) refl is.log.last within in
                let w = whole.purged_within in
                let u = left m (omega (arith, n)) (omega (arith, lt, n)) (omega (arith, n, past, w, f)) (omega (arith, n, f)) in
                let v : m < z.index + 1 = rw e at u in
                omega (arith, n, lt, within, f, v)

    -- ---- a match

    last_in : (o : Option (LogIdOf C)) (ids : List (LogIdOf C)) → InLogIfAny k p lead o → AllInLog k p lead ids
        → InLogIfAny k p lead (option_or (last_id ids) o)
    last_in o [] one all = one
    last_in o (x ∷ xs) one all = rw (last_more o x xs) (last_in (Some x) xs all.0 all.1)

    last_has : (s : State L C) (o : Option (LogIdOf C)) (ids : List (LogIdOf C)) → purged_or_logged k.eq s o ≡ true
        → list_all (λ id. purged_or_logged k.eq s (Some id)) ids ≡ true
        → purged_or_logged k.eq s (option_or (last_id ids) o) ≡ true
    last_has s o [] one all = one
    last_has s o (x ∷ xs) one all =
        let d = and_parts (purged_or_logged k.eq s (Some x)) (list_all (λ id. purged_or_logged k.eq s (Some id)) xs) all in
        rw (last_more o x xs) (last_has s (Some x) xs d.0 d.1)

    -- what is said of log ids reads the log ids and the purge point of a state alone
    same_reads : (s u : State L C) → s.ids ≡ u.ids → s.purged_next ≡ u.purged_next → (o : Option (LogIdOf C))
        → purged_or_logged k.eq s o ≡ true → purged_or_logged k.eq u o ≡ true
    same_reads s u ids next None h = refl
    same_reads s u ids next (Some id) h = rw (sym ids, sym next) h

    -- the first log id that the log does not have, with what is before it
    record Fresh (old new : State L C) (prev : Option (LogIdOf C)) (ids : List (LogIdOf C)) : Type 0 where
      before : Option (LogIdOf C)
      x : LogIdOf C
      xs : List (LogIdOf C)
      is : fresh_of k.eq old ids ≡ x ∷ xs
      had : (before ≡ prev) ⊎ (purged_or_logged k.eq old before ≡ true)
      before_in : InLogIfAny k p lead before
      lacks : purged_or_logged k.eq old (Some x) ≡ false
      row : are_consecutive before (x ∷ xs) ≡ true
      all_in : AllInLog k p lead (x ∷ xs)
      all_new : list_all (λ id. purged_or_logged k.eq new (Some id)) (x ∷ xs) ≡ true
      last : option_or (last_id ids) prev ≡ last_id (x ∷ xs)

    -- what both logs have before the new entries, and where these end
    record EndsAt (n : ℕ) (new : List (LogIdOf C)) (end : ℕ) : Type 0 where
      agrees : Agree log lead n
      z : LogIdOf C
      last : last_id new ≡ Some z
      upto_is : end ≡ z.index
      z_fits : z.index ≤ length lead

    fresh_next : (old : State L C) (x : LogIdOf C) (xs : List (LogIdOf C)) → purged_or_logged k.eq old (Some x) ≡ true
        → fresh_of k.eq old (x ∷ xs) ≡ fresh_of k.eq old xs
    fresh_next old x xs e = rw e (drop_next (prefix_len (λ id. purged_or_logged k.eq old (Some id)) xs) x xs)

    split : (old new : State L C) (prev : Option (LogIdOf C)) (ids : List (LogIdOf C)) → InLogIfAny k p lead prev
        → are_consecutive prev ids ≡ true → AllInLog k p lead ids
        → list_all (λ id. purged_or_logged k.eq new (Some id)) ids ≡ true
        → (fresh_of k.eq old ids ≡ []) ⊎ Fresh old new prev ids
    split old new prev [] there row all has = inl refl
    split old new prev (x ∷ xs) there row all has =
        by (purged_or_logged k.eq old (Some x)) refl
        (split old new (Some x) xs all.0 (next_own prev x xs row).1 all.1
        (and_parts (purged_or_logged k.eq new (Some x)) (list_all (λ id. purged_or_logged k.eq new (Some id)) xs) has).1)
      where
        by : (b : Bool) → purged_or_logged k.eq old (Some x) ≡ b → (fresh_of k.eq old xs ≡ []) ⊎ Fresh old new (Some x) xs
            → (fresh_of k.eq old (x ∷ xs) ≡ []) ⊎ Fresh old new prev (x ∷ xs)
        by true e (inl none) = inl (fresh_next old x xs e ∙ none)
        by true e (inr f) = inr (record {
          before = f.before;
          x = f.x;
          xs = f.xs;
          is = fresh_next old x xs e ∙ f.is;
          had = had f.had;
          before_in = f.before_in;
          lacks = f.lacks;
          row = f.row;
          all_in = f.all_in;
          all_new = f.all_new;
          last = last_more prev x xs ∙ f.last;
        })
          where
            had : (f.before ≡ Some x) ⊎ (purged_or_logged k.eq old f.before ≡ true)
                → (f.before ≡ prev) ⊎ (purged_or_logged k.eq old f.before ≡ true)
            had (inl one) = inr (rw one e)
            had (inr h) = inr h
        by false e rest = inr (record {
          before = prev;
          x = x;
          xs = xs;
          is = rw e refl;
          had = inl refl;
          before_in = there;
          lacks = e;
          row = row;
          all_in = all;
          all_new = has;
          last = last_own prev x xs;
        })

    -- a log id of each index up to the last one is among consecutive ones
    record Found (new : State L C) (i : ℕ) : Type 0 where
      w : LogIdOf C
      index : w.index ≡ i
      there : IsInLog p.first p.terms lead w
      has : purged_or_logged k.eq new (Some w) ≡ true

    find_at : (new : State L C) (o : Option (LogIdOf C)) (x : LogIdOf C) (xs : List (LogIdOf C)) (z : LogIdOf C) (i : ℕ)
        → are_consecutive o (x ∷ xs) ≡ true → AllInLog k p lead (x ∷ xs)
        → list_all (λ id. purged_or_logged k.eq new (Some id)) (x ∷ xs) ≡ true → last_id (x ∷ xs) ≡ Some z → x.index ≤ i → i ≤ z.index
        → Found new i
    find_at new o x [] z i row all has at from upto =
        let e : x ≡ z = cc in
        record {
          w = x;
          index = omega (arith, from, upto, ap (λ (a : LogIdOf C). a.index) e);
          there = all.0;
          has = (and_parts (purged_or_logged k.eq new (Some x)) true has).0;
        }
    find_at new o x (y ∷ xs) z i row all has at from upto =
        go (cases_lt x.index i)
        (λ lt. find_at new (Some x) y xs z i (next_own o x (y ∷ xs) row).1 all.1 d.1 at
        (let n = next_own (Some x) y xs (next_own o x (y ∷ xs) row).1 in omega (arith, n.0, lt)) upto)
      where
        d : (purged_or_logged k.eq new (Some x) ≡ true) × (list_all (λ id. purged_or_logged k.eq new (Some id)) (y ∷ xs) ≡ true)
        d = and_parts (purged_or_logged k.eq new (Some x)) (list_all (λ id. purged_or_logged k.eq new (Some id)) (y ∷ xs)) has

        go : ((x.index < i) ⊎ (i ≤ x.index)) → (x.index < i → Found new i) → Found new i
        go (inl lt) rest = rest lt
        go (inr le) rest = record { w = x; index = omega (arith, from, le); there = all.0; has = d.0 }

    -- the leader's log ids that a server knows to be committed with a request, it may apply
    may_commit : (l : List (Entry C D)) (old new : State L C) → IsServer k p old es → (committed upto : Option (LogIdOf C))
        → MayAppendAndAck p.rank p.quorum p.history es t by_node (place upto) l
        → InLogIfAny k p lead committed → InLogIfAny k p lead upto
        → ((i : ℕ) → next_index committed ≡ suc (suc i) → IsKnownCommitted p.rank p.quorum p.history t by_node (suc i))
        → new.committed ≡ greater_id k.cmp old.committed (lesser_id k.cmp committed upto) → (i : ℕ) → next_index new.committed ≡ suc (suc i)
        → KnowsCommitted p.rank p.quorum p.history (Ack t by_node (place upto) ∷ Append t by_node l ∷ es) (suc i)
    may_commit l old new is committed upto may u v known e i at =
        by (id_lt k.cmp old.committed (lesser_id k.cmp committed upto)) refl (ap next_index (sym e) ∙ at)
      where
        here : (n : ℕ) → n ≤ place upto → IsKnownCommitted p.rank p.quorum p.history t by_node n
            → KnowsCommitted p.rank p.quorum p.history (Ack t by_node (place upto) ∷ Append t by_node l ∷ es) n
        here n le kn = from_leader l (place upto) may n le kn

        -- of what is committed less is committed too
        less_known : (n m : ℕ) → n ≤ m → IsKnownCommitted p.rank p.quorum p.history t by_node m
            → IsKnownCommitted p.rank p.quorum p.history t by_node n
        less_known n m le kn = record {
          in_term = kn.in_term;
          by_leader = kn.by_leader;
          committed_to = kn.committed_to;
          counted_at = kn.counted_at;
          committed = kn.committed;
          not_later = kn.not_later;
          is = prefix_trans (take_within n m lead le) kn.is;
        }

        lesser : (a b : Option (LogIdOf C)) → InLogIfAny k p lead a → InLogIfAny k p lead b
            → ((j : ℕ) → next_index a ≡ suc (suc j) → IsKnownCommitted p.rank p.quorum p.history t by_node (suc j)) → (c : Bool)
            → id_lt k.cmp a b ≡ c → next_index (if c then a else b) ≡ suc (suc i)
            → (suc i ≤ place b) × IsKnownCommitted p.rank p.quorum p.history t by_node (suc i)
        lesser None b x y kn true e at = absurd (omega (arith, at))
        lesser (Some a) None x y kn true e at = cc
        lesser (Some a) (Some b) x y kn true e at = let le = below k p ranked lawful leader by_node el a b x y e in
            (omega (arith, le, at), kn i at)
        lesser None None x y kn false e at = absurd (omega (arith, at))
        lesser None (Some b) x y kn false e at = cc
        lesser (Some a) None x y kn false e at = absurd (omega (arith, at))
        lesser (Some a) (Some b) x y kn false e at =
            let le = not_below k p ranked lawful leader by_node el a b x y e in
            let n : next_index (Some a) ≡ suc (suc (a.index - 1)) = omega (arith, le, at) in
            (omega (arith, at), less_known (suc i) (suc (a.index - 1)) (omega (arith, le, at)) (kn (a.index - 1) n))

        by : (c : Bool) → id_lt k.cmp old.committed (lesser_id k.cmp committed upto) ≡ c
            → next_index (if c then lesser_id k.cmp committed upto else old.committed) ≡ suc (suc i)
            → KnowsCommitted p.rank p.quorum p.history (Ack t by_node (place upto) ∷ Append t by_node l ∷ es) (suc i)
        by false e at = after_ack l (place upto) may.append (suc i) (is.committed i at)
        by true e at =
            let r = lesser committed upto u v known (id_lt k.cmp committed upto) refl at in here (suc i) r.0 r.1

    -- a server with this log follows the leader
    followed : (old new : State L C) → IsServer k p old es → (voted_for : k.voted leader ≡ Some by_node)
        → (prev : Option (LogIdOf C)) (ids : List (LogIdOf C)) (committed upto : Option (LogIdOf C))
        → IsSent k p leader prev ids committed → InLogIfAny k p lead committed → InLogIfAny k p lead upto
        → ((i : ℕ) → next_index committed ≡ suc (suc i) → IsKnownCommitted p.rank p.quorum p.history t by_node (suc i))
        → AppendMatches k p leader prev ids committed upto old new → (l : List (Entry C D))
        → MayAppendAndAck p.rank p.quorum p.history es t by_node (place upto) l → ShowsLog k p new.ids l → Follows k p leader upto es new
    followed old new is voted_for prev ids committed upto sent u v known m l may shows = record {
      by_node = by_node;
      is_for = voted_for;
      log = l;
      entries = place upto;
      upto_is = by upto;
      upto_in = v;
      append = may.append;
      ack = may.ack;
      server = record {
        in_use = rw m.vote in_use;
        reached = rw m.vote (omega arith);
        voted_for = λ d none real for. absurd (not_uncommitted new m.vote none);
        log = record { last = shows.last; each = shows.each };
        purged = λ i at. after_ack l (place upto) may.append (suc i) (is.purged i (sym m.purged ∙ at));
        committed = may_commit l old new is committed upto may u v known m.committed_is;
      };
      still_known = λ n x. after_ack l (place upto) may.append n x;
    }
      where
        by : (o : Option (LogIdOf C)) (i : ℕ) → next_index o ≡ suc i → place o ≡ i
        by None i at = absurd (omega (arith, at))
        by (Some id) i at = omega (arith, at)

    -- there was nothing new
    known_all : (old new : State L C) → IsServer k p old es → (prev : Option (LogIdOf C)) (ids : List (LogIdOf C))
        → (committed upto : Option (LogIdOf C)) → InLogIfAny k p lead upto → AppendMatches k p leader prev ids committed upto old new
        → fresh_of k.eq old ids ≡ [] → MayAppendAndAck p.rank p.quorum p.history es t by_node (place upto) log × ShowsLog k p new.ids log
    known_all old new is prev ids committed upto v m none =
        let kept = m.nothing_new none in
        let has = last_has new prev ids m.has_prev m.has_entries in
        let has' : purged_or_logged k.eq new upto ≡ true = rw m.is_upto has in
        let a = agree old is upto (same_reads new old kept m.purged upto has') v in (
          both term (place upto) log a.fits_lead
              (rw (sym a.same) (prefix_take (place upto) log)) (λ pl x y. x) (inl (prefix_itself log)),
          record { last = rw kept is.log.last; each = λ i y at. is.log.each i y (rw kept at at) },
        )

    -- there was something new
    takes_new : (old new : State L C) → IsServer k p old es → IsWhole old.purged_next old.ids → IsWhole new.purged_next new.ids
        → (prev : Option (LogIdOf C)) (ids : List (LogIdOf C))
        → (committed upto : Option (LogIdOf C)) → InLogIfAny k p lead upto → AppendMatches k p leader prev ids committed upto old new
        → (f : Fresh old new prev ids) → MayAppendAndAck p.rank p.quorum p.history es t by_node (place upto) (take (place upto) lead)
        × ShowsLog k p new.ids (take (place upto) lead) × EndsAt (place f.before) (f.x ∷ f.xs) (place upto)
    takes_new old new is whole whole' prev ids committed upto v m f =
        rw (m.is_upto ∙ f.last ∙ z.1) (
          may,
          record { last = last; each = λ i y at. each i y at (cases_lt i f.x.index) },
          record {
            agrees = agrees;
            z = z.0;
            last = z.1;
            upto_is = refl;
            z_fits = fits;
          },
        )
      where
        z : (z : LogIdOf C) × (last_id (f.x ∷ f.xs) ≡ Some z)
        z = last_some f.x f.xs

        in_lead : IsInLog p.first p.terms lead z.0
        in_lead = rw (m.is_upto ∙ f.last ∙ z.1) at v

        fits : z.0.index ≤ length lead
        fits = at_within p.first lead z.0.index z.0 in_lead.at

        first_upto : f.x.index ≤ z.0.index
        first_upto = last_after f.before f.x f.xs z.0 f.row z.1

        since : since_of old.ids (fresh_of k.eq old ids) ≡ f.x.index
        since = ap (since_of old.ids) f.is

        after_before : f.x.index ≡ next_index f.before
        after_before = (next_own f.before f.x f.xs f.row).0

        past : old.purged_next ≤ f.x.index
        past =
            let e = (or_parts (nat_le (next_index (Some f.x)) old.purged_next) (same_ids k.eq (id_at old.ids f.x.index) (Some f.x))
            f.lacks).0 in grind (arith, nat_tests)

        -- what both logs have below the first new one
        back : (i : ℕ) (y : LogIdOf C) → id_at new.ids i ≡ Some y → i < f.x.index
            → (w : LogIdOf C) × (id_at old.ids i ≡ Some w) × (w.leader_id ≡ y.leader_id)
        back i y at lt =
            let h : same_ids k.eq (id_at new.ids i) (id_at old.ids i) ≡ true = m.kept i (rw since lt) in
            by (id_at old.ids i) refl (rw at at h)
          where
            by : (o : Option (LogIdOf C)) → id_at old.ids i ≡ o → same_ids k.eq (Some y) o ≡ true
                → (w : LogIdOf C) × (id_at old.ids i ≡ Some w) × (w.leader_id ≡ y.leader_id)
            by None e h = cc
            by (Some w) e h = (
              w,
              e,
              sym (ranked.same y.leader_id w.leader_id
                  (and_parts (k.eq y.leader_id w.leader_id) (nat_eq y.index w.index) h).0),
            )

        before_agree : (o : Option (LogIdOf C)) → (o ≡ prev) ⊎ (purged_or_logged k.eq old o ≡ true) → InLogIfAny k p lead o
            → f.x.index ≡ next_index o → Agree log lead (place o)
        before_agree o (inr h) there e = agree old is o h there
        before_agree None (inl same) there e = none_agrees
        before_agree (Some b) (inl same) there e =
            by (nat_le (next_index (Some b)) new.purged_next) refl (rw (sym same) at m.has_prev)
          where
            by : (c : Bool) → nat_le (next_index (Some b)) new.purged_next ≡ c
                → (c || same_ids k.eq (id_at new.ids b.index) (Some b)) ≡ true → Agree log lead b.index
            by true g h = let le : b.index + 1 ≤ new.purged_next = grind (arith, nat_tests) in
                purged_agree old is b.index (omega (arith, le, m.purged))
            by false g h =
                let y = same_found k.eq (id_at new.ids b.index) b h in
                let w = back b.index y.0 y.1 (omega (arith, e)) in
                let i = index_found old.ids b.index w.0 w.1 in
                let n : nat_eq w.0.index b.index ≡ true = grind (arith, nat_tests) in
                let l : k.eq w.0.leader_id b.leader_id ≡ true =
                rw (w.2 ∙ ranked.same y.0.leader_id b.leader_id y.2) (ranked.itself b.leader_id) in
                let both_same : same_ids k.eq (Some w.0) (Some b) ≡ true = rw (l, n) refl in
                both_have old is b (rw w.1 both_same) there

        agrees : Agree log lead (place f.before)
        agrees = before_agree f.before f.had f.before_in after_before

        may : MayAppendAndAck p.rank p.quorum p.history es t by_node z.0.index (take z.0.index lead)
        may =
            both term z.0.index (take z.0.index lead) fits
            (prefix_itself (take z.0.index lead))
            (λ pl u w.
            let le = apart old is whole f.x f.lacks f.all_in.0 pl u w in
            prefix_within w (prefix_take z.0.index lead) (omega (arith, le, first_upto, length-take-le z.0.index lead fits)))
            (inr (prefix_take z.0.index lead))

        ends : last_id new.ids ≡ Some z.0
        ends =
            m.ends ∙ ap (λ (fr : List (LogIdOf C)). option_or (last_id fr) (last_id old.ids)) f.is
            ∙ last_own (last_id old.ids) f.x f.xs ∙ z.1

        last : IsLastId p.first p.terms (take z.0.index lead) (last_id new.ids)
        last =
            rw ends
            (length-take-le z.0.index lead fits, cut_at p.first z.0.index lead z.0.index z.0 (omega arith) in_lead.at, in_lead.in_use)

        -- up to the log id before the first new one, both logs have the same entries
        moved : (i : ℕ) (w y : LogIdOf C) → w.leader_id ≡ y.leader_id → i < f.x.index → IsIdAt p.first log i w → IsIdAt p.first lead i y
        moved zero w y e lt a = sym e ∙ a
        moved (suc i) w y e lt a =
            let le : suc i ≤ place f.before = up_to f.before after_before in (
              a.0,
              sym (take_get (place f.before) i lead (omega (arith, le)))
                  ∙ ap (λ (x : List (Entry C D)). slice_get x i) (sym agrees.same)
                  ∙ take_get (place f.before) i log (omega (arith, le)) ∙ a.1,
              a.2 ∙ e,
            )
          where
            up_to : (o : Option (LogIdOf C)) → f.x.index ≡ next_index o → suc i ≤ place o
            up_to None g = absurd (omega (arith, g, lt))
            up_to (Some b) g = omega (arith, g, lt)

        each : (i : ℕ) (y : LogIdOf C) → id_at new.ids i ≡ Some y → ((i < f.x.index) ⊎ (f.x.index ≤ i))
            → IsInLog p.first p.terms (take z.0.index lead) y
        each i y at (inl lt) =
            let w = back i y at lt in
            let n = index_found old.ids i w.0 w.1 in
            let there = is.log.each i w.0 w.1 in
            in_log p.first p.terms (take z.0.index lead) i y (index_found new.ids i y at)
            (cut_at p.first z.0.index lead i y (omega (arith, lt, first_upto))
            (moved i w.0 y w.2 lt (at_index p.first p.terms log i w.0 n there))) (rw (sym w.2) there.in_use)
        each i y at (inr le) =
            let range = whole'.within i y at in
            let upto : i < z.0.index + 1 = rw ends at range in
            let g = find_at new f.before f.x f.xs z.0 i f.row f.all_in f.all_new z.1 le (omega (arith, upto)) in
            here g (or_logged g (nat_le (next_index (Some g.w)) new.purged_next) refl g.has)
          where
            or_logged : (g : Found new i) (c : Bool) → nat_le (next_index (Some g.w)) new.purged_next ≡ c
                → (c || same_ids k.eq (id_at new.ids g.w.index) (Some g.w)) ≡ true
                → same_ids k.eq (id_at new.ids g.w.index) (Some g.w) ≡ true
            or_logged g true e h =
                let low : g.w.index + 1 ≤ new.purged_next = grind (arith, nat_tests) in
                absurd (omega (arith, low, g.index, m.purged, past, le))
            or_logged g false e h = h

            renamed : (j : ℕ) (w y : LogIdOf C) → w.leader_id ≡ y.leader_id → IsIdAt p.first lead j w → IsIdAt p.first lead j y
            renamed zero w y e a = sym e ∙ a
            renamed (suc j) w y e a = (a.0, a.1, a.2 ∙ e)

            here : (g : Found new i) → same_ids k.eq (id_at new.ids g.w.index) (Some g.w) ≡ true
                → IsInLog p.first p.terms (take z.0.index lead) y
            here g h =
                let u = same_found k.eq (id_at new.ids g.w.index) g.w h in
                let v : id_at new.ids i ≡ Some u.0 = ap (λ (j : ℕ). id_at new.ids j) (sym g.index) ∙ u.1 in
                let same : Some u.0 ≡ Some y = sym v ∙ at in
                let one : u.0 ≡ y = cc in
                let leaders : g.w.leader_id ≡ y.leader_id =
                sym (ranked.same u.0.leader_id g.w.leader_id u.2) ∙ ap (λ (a : LogIdOf C). a.leader_id) one in
                let range = whole'.within i y at in
                let upto : i < z.0.index + 1 = rw ends at range in
                in_log p.first p.terms (take z.0.index lead) i y (index_found new.ids i y at)
                (cut_at p.first z.0.index lead i y (omega (arith, upto))
                (renamed i g.w y leaders (at_index p.first p.terms lead i g.w g.index g.there))) (rw (sym leaders) g.there.in_use)

    matches : (old new : State L C) → IsServer k p old es → IsWhole old.purged_next old.ids → IsWhole new.purged_next new.ids
        → (voted_for : k.voted leader ≡ Some by_node) → (prev : Option (LogIdOf C)) (ids : List (LogIdOf C))
        → (committed upto : Option (LogIdOf C)) → IsSent k p leader prev ids committed → InLogIfAny k p lead prev
        → AllInLog k p lead ids → InLogIfAny k p lead committed
        → ((i : ℕ) → next_index committed ≡ suc (suc i) → IsKnownCommitted p.rank p.quorum p.history t by_node (suc i))
        → AppendMatches k p leader prev ids committed upto old new
        → (f : Follows k p leader upto es new) × MatchShape k p es leader f.by_node f.log ids old
    unfolding followed
    matches old new is whole whole' voted_for prev ids committed upto sent one all u known m =
        go (split old new prev ids one m.consecutive all m.has_entries)
      where
        v : InLogIfAny k p lead upto
        v = rw m.is_upto (last_in prev ids one all)

        go : (fresh_of k.eq old ids ≡ []) ⊎ Fresh old new prev ids
            → (f : Follows k p leader upto es new) × MatchShape k p es leader f.by_node f.log ids old
        go (inl none) =
            let r = known_all old new is prev ids committed upto v m none in
            (followed old new is voted_for prev ids committed upto sent u v known m log r.0 r.1, inl (none, refl))
        go (inr f) =
            let r = takes_new old new is whole whole' prev ids committed upto v m f in
            let z = r.2 in (
              followed old new is voted_for prev ids committed upto sent u v known m (take (place upto) lead) r.0 r.1,
              inr (record {
                before = f.before;
                x = f.x;
                xs = f.xs;
                is = f.is;
                row = f.row;
                there = f.all_in;
                fits = z.agrees.fits;
                same = z.agrees.same;
                z = z.z;
                last = z.last;
                z_fits = z.z_fits;
                log_is = ap (λ (n : ℕ). take n lead) z.upto_is;
                apart = λ n knows.
                    let le = apart old is whole f.x f.lacks f.all_in.0
                    (take n (p.history.leader_log knows.may.term knows.may.leader)) knows.may.in_log (held_known n knows) in
                    let long = length-take-le n (p.history.leader_log knows.may.term knows.may.leader) knows.may.written in
                    omega (arith, le, long);
              }),
            )

    -- ---- a snapshot

    installs : (old new : State L C) → IsServer k p old es → IsWhole old.purged_next old.ids
        → (voted_for : k.voted leader ≡ Some by_node) → (upto : LogIdOf C) → IsInLog p.first p.terms lead upto
        → ((i : ℕ) → upto.index ≡ suc i → IsKnownCommitted p.rank p.quorum p.history t by_node (suc i))
        → InstallMatches k p leader upto old new
        → (f : Follows k p leader (Some upto) es new) × InstallShape k p es leader f.by_node f.log upto old new
    installs old new is whole voted_for upto there known m = by m.either
      where
        n : ℕ
        n = upto.index

        fits : upto.index ≤ length lead
        fits = at_within p.first lead upto.index upto there.at

        make : (l : List (Entry C D)) → MayAppendAndAck p.rank p.quorum p.history es t by_node upto.index l → ShowsLog k p new.ids l
            → ((i : ℕ) → new.purged_next ≡ suc (suc i)
            → KnowsCommitted p.rank p.quorum p.history (Ack t by_node upto.index ∷ Append t by_node l ∷ es) (suc i))
            → ((i : ℕ) → next_index new.committed ≡ suc (suc i)
            → KnowsCommitted p.rank p.quorum p.history (Ack t by_node upto.index ∷ Append t by_node l ∷ es) (suc i))
            → (f : Follows k p leader (Some upto) es new) × (f.by_node ≡ by_node) × (f.log ≡ l)
        make l may shows purged committed = (
          record {
            by_node = by_node;
            is_for = voted_for;
            log = l;
            entries = upto.index;
            upto_is = λ i at. omega (arith, at);
            upto_in = there;
            append = may.append;
            ack = may.ack;
            server = record {
              in_use = rw m.vote in_use;
              reached = rw m.vote (omega arith);
              voted_for = λ d none real for. absurd (not_uncommitted new m.vote none);
              log = record { last = shows.last; each = shows.each };
              purged = purged;
              committed = committed;
            };
            still_known = λ n x. after_ack l upto.index may.append n x;
          },
          refl,
          refl,
        )

        same_log : Agree log lead upto.index → MayAppendAndAck p.rank p.quorum p.history es t by_node upto.index log
        same_log a =
            both term upto.index log a.fits_lead
            (rw (sym a.same) (prefix_take upto.index log)) (λ pl x y. x) (inl (prefix_itself log))

        all_known : (l : List (Entry C D)) → MayAppendAndAck p.rank p.quorum p.history es t by_node upto.index l → (i : ℕ)
            → upto.index ≡ suc i
            → KnowsCommitted p.rank p.quorum p.history (Ack t by_node upto.index ∷ Append t by_node l ∷ es) (suc i)
        all_known l may i e = from_leader l upto.index may (suc i) (omega (arith, e)) (known i e)

        no_less : (x : LogIdOf C) → id_at old.ids x.index ≡ Some x → old.committed ≡ Some x → id_lt k.cmp (Some x) (Some upto) ≡ false
            → Agree log lead upto.index
        no_less x at e not_past = go x.index refl
          where
            mine : IsInLog p.first p.terms log x
            mine = is.log.each x.index x at

            go : (j : ℕ) → x.index ≡ j → Agree log lead upto.index
            go zero j =
                zero_case (cases_lt 0 upto.index)
              where
                zero_case : ((0 < upto.index) ⊎ (upto.index ≤ 0)) → Agree log lead upto.index
                zero_case (inr le) = less_agree upto.index 0 le none_agrees
                zero_case (inl lt) =
                    let first_x = at_index p.first p.terms log zero x j mine in
                    let in_lead : IsInLog p.first p.terms lead x =
                    in_log p.first p.terms lead zero x j first_x mine.in_use in
                    let le = not_below k p ranked lawful leader by_node el x upto in_lead there not_past in
                    absurd (omega (arith, lt, le, j))
            go (suc j) f =
                let a = applied_in (suc j) (is.committed j (ap next_index e
                ∙ (let g : next_index (Some x) ≡ suc (suc j) = omega (arith, f) in g))) in
                let at_x = at_index p.first p.terms log (suc j) x f mine in
                let same_get = sym (take_get (suc j) j log (omega arith)) ∙ ap (λ (l : List (Entry C D)). slice_get l j) a.same
                ∙ take_get (suc j) j lead (omega arith) in
                let in_lead : IsInLog p.first p.terms lead x =
                in_log p.first p.terms lead (suc j) x f (at_x.0, sym same_get ∙ at_x.1, at_x.2) mine.in_use in
                let le = not_below k p ranked lawful leader by_node el x upto in_lead there not_past in
                less_agree upto.index (suc j) (omega (arith, le, f)) a

        by_known : IsKnownSnapshot k p upto old new → (o : Option (LogIdOf C)) → old.committed ≡ o → Agree log lead upto.index
        by_known s None e = absurd (true≢false (rw e at s.not_past))
        by_known s (Some x) e = no_less x (s.has_committed x e) e (rw e at s.not_past)

        shaped : (l : List (Entry C D)) → InstallShape k p es leader by_node l upto old new
            → ((f : Follows k p leader (Some upto) es new) × (f.by_node ≡ by_node) × (f.log ≡ l))
            → (f : Follows k p leader (Some upto) es new) × InstallShape k p es leader f.by_node f.log upto old new
        shaped l shape x = (x.0, rw (x.1, x.2) shape)

        by : IsKnownSnapshot k p upto old new ⊎ IsInstalled k p upto old new
            → (f : Follows k p leader (Some upto) es new) × InstallShape k p es leader f.by_node f.log upto old new
        by (inl s) =
            let both_log = same_log (by_known s old.committed refl) in
            shaped log (inl (s, refl))
            (make log both_log
            (record { last = rw s.same_ids_now is.log.last; each = λ i y at. is.log.each i y (rw s.same_ids_now at at) })
            (λ i at. after_ack log upto.index both_log.append (suc i) (is.purged i (sym s.purged ∙ at)))
            (λ i at. after_ack log upto.index both_log.append (suc i) (is.committed i (ap next_index (sym s.committed_is) ∙ at))))
        by (inr s) = go (same_ids k.eq (id_at old.ids upto.index) (Some upto)) refl
          where
            go : (b : Bool) → same_ids k.eq (id_at old.ids upto.index) (Some upto) ≡ b
                → (f : Follows k p leader (Some upto) es new) × InstallShape k p es leader f.by_node f.log upto old new
            go true has =
                let r = s.kept has in
                let a = both_have old is upto has there in
                let both_log = same_log a in
                shaped log (inr (s, inl (has, refl, a.same)))
                (make log both_log
                (record { last = rw r.1 is.log.last; each = λ i y at. is.log.each i y (r.0 i y at) })
                (λ i at. all_known log both_log i (omega (arith, s.purged, at)))
                (λ i at. all_known log both_log i (let g : next_index (Some upto) ≡ suc (suc i) = ap next_index
                (sym s.committed_is) ∙ at in omega (arith, g))))
            go false lacks =
                let drop = s.dropped lacks in
                let low = s.purged_low in
                let past = s.past in
                let not_purged : nat_le (next_index (Some upto)) old.purged_next ≡ false = grind (arith, nat_tests) in
                let neither : purged_or_logged k.eq old (Some upto) ≡ false = rw (not_purged, lacks) refl in
                let front_log = take upto.index lead in
                let both_front : MayAppendAndAck p.rank p.quorum p.history es t by_node upto.index front_log =
                both term upto.index front_log fits
                (prefix_itself front_log)
                (λ pl u w.
                let le = apart old is whole upto neither there pl u w in
                prefix_within w (prefix_take upto.index lead) (omega (arith, le, length-take-le upto.index lead fits)))
                (inr (prefix_take upto.index lead)) in
                shaped front_log (inr (s, inr (lacks, refl)))
                (make front_log both_front
                (record {
                  last = rw drop (
                    length-take-le upto.index lead fits,
                    cut_at p.first upto.index lead upto.index upto
                        (omega arith) there.at,
                    there.in_use,
                  );
                  each = λ i y at. one i y (rw drop at at);
                })
                (λ i at. all_known front_log both_front i (omega (arith, s.purged, at)))
                (λ i at. all_known front_log both_front i (let g : next_index (Some upto) ≡ suc (suc i) = ap next_index
                (sym s.committed_is) ∙ at in omega (arith, g))))
              where
                one : (i : ℕ) (y : LogIdOf C) → id_at (upto ∷ []) i ≡ Some y → IsInLog p.first p.terms (take upto.index lead) y
                one i y at = pick (upto.index == i) at
                  where
                    pick : (b : Bool) → (if b then Some upto else None) ≡ Some y → IsInLog p.first p.terms (take upto.index lead) y
                    pick true g =
                        let same : upto ≡ y = cc in
                        subst (λ (x : LogIdOf C). IsInLog p.first p.terms (take upto.index lead) x) same
                        (record { at = cut_at p.first upto.index lead upto.index upto (omega arith) there.at; in_use = there.in_use })
                    pick false g = cc

pub installs_keep_rules : {L C K D : Type 0} → InstallsKeepRules L C K D
installs_keep_rules k p ranked lawful safe es ok leader upto old new is whole sent m =
    installs k p ranked lawful safe es ok leader sent.by_node sent.in_use sent.elected_in
    (not_passed k p ranked lawful safe es ok leader sent.by_node sent.in_use sent.elected_in old is m.followed) old new is whole
    sent.is_for upto sent.upto_in sent.is_committed m

pub appends_keep_rules : {L C K D : Type 0} → AppendsKeepRules L C K D
appends_keep_rules k p ranked lawful safe es ok leader prev ids committed old new is whole whole' sent = (
  λ upto m.
      matches k p ranked lawful safe es ok leader sent.by_node sent.in_use sent.elected_in
      (not_passed k p ranked lawful safe es ok leader sent.by_node sent.in_use sent.elected_in old is m.followed) old new is whole
      whole' sent.is_for prev ids committed upto sent sent.prev_in sent.all_in sent.committed_in sent.is_committed m,
  λ at c. by prev at c sent.prev_in,
)
  where
    by : (o : Option (LogIdOf _)) (at : ℕ) → AppendConflicts k p leader o at old new
        → InLogIfAny k p (p.history.leader_log (k.committed leader) sent.by_node) o
        → (f : Truncates k p leader es new) × (f.log ≡ take (at - 1) (log_after es))
    by None at c there = absurd (true≢false c.conflict)
    by (Some id) at c there =
        let e : id.index ≡ at = some_same id.index at c.index in
        let r =
        truncates k p ranked lawful safe es ok leader sent.by_node sent.in_use sent.elected_in
        (not_passed k p ranked lawful safe es ok leader sent.by_node sent.in_use sent.elected_in old is c.followed) old new is whole
        whole' sent.is_for id there (rw (sym e) at c) in
        (r.0, r.1 ∙ ap (λ (n : ℕ). take (n - 1) (log_after es)) e)
      where
        some_same : (a b : ℕ) → Some a ≡ Some b → a ≡ b
        some_same a b e = cc
