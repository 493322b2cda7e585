-- A server that compares terms alone keeps the rules.
use Rattle.std.specs.Prelude.{◌≡◌, ◌⊎◌, ◌+◌, ◌<◌, ◌≤◌, ℕ, zero, suc, Bool, true, false, nat_lt, nat_eq, if◌then◌else◌, List, [], ◌∷◌, ◌++◌, length, take}
use Rattle.std.specs.Cmp.{first_so, second_so}
use Rattle.std.specs.Cmp.Derive.{both_true}
use Rattle.std.proofs.Common.{refl, sym, ap, ◌∙◌, inl, inr, arith, ltb-true, lt-ltb, append_assoc}
use Rattle.std.proofs.lemmas.Bool.{cases_lt, false≢true, eqb-true, eq-eqb}
use Rattle.std.proofs.lemmas.List.{length-take, length-take-le, length-append, take-take, take_at}
use Rattle.safety_laws.specs.Log.{Entry, IsPrefix, last_term}
use Rattle.safety_laws.specs.Events.{Event, History, log_after, term_after}
use Rattle.safety_laws.specs.Facts.{Counting, IsElectedBy}
use Rattle.safety_laws.specs.Rules.{EventsFollowRulesBy, FollowsRaftBy, MayAppendBy}
use Rattle.safety_laws.specs.Safety.{IsSafeBy}
use Rattle.safety_laws.specs.AppendEntries.{ConsistencyCheckSufficesBy, MayAppendAndAckBy, after_append_entries, has_next}
use Rattle.safety_laws.proofs.lemmas.PrefixLemmas.{append-nil, prefix_itself, prefix_take, prefix_length, prefix_within, take_prefix, last_term_or-append}
use Rattle.safety_laws.proofs.lemmas.ServerLemmas.{had_now, log_from, written_is_from}
use Rattle.safety_laws.proofs.lemmas.SafetyLemmas.{match_from}

module _ {T ID D : Type 0} (rank : T → ℕ) (counting : Counting T ID D) (h : History T ID D)
    (lawful : FollowsRaftBy rank counting h) (safe : IsSafeBy rank counting h) where
  module _ (s : ID) (ds : List (Event T ID D)) (ok : EventsFollowRulesBy rank counting h s ds) (t : T) (c : ID)
      (term : term_after rank ds ≤ rank t) (el : IsElectedBy rank counting h t c) where
    abbrev log : List (Entry T D)
    log = log_after ds

    abbrev lead : List (Entry T D)
    lead = h.leader_log t c

    -- two prefixes of one length whose last terms are equal are equal
    same_by_term : (i : ℕ) → i ≤ length log → i ≤ length lead
        → last_term rank (take i log) ≡ last_term rank (take i lead) → take i log ≡ take i lead
    same_by_term zero a b e = refl
    same_by_term (suc i) a b e =
        let x : length (take (suc i) log) ≡ suc i = length-take-le (suc i) log a in
        let y : length (take (suc i) lead) ≡ suc i = length-take-le (suc i) lead b in
        match_from rank counting h lawful safe.election_safety safe.leader_completeness (suc (term_after rank ds)) (suc (rank t))
        (take (suc i) log) (take (suc i) lead)
        (log_from rank counting h lawful (suc (term_after rank ds)) s ds ok (omega arith) (take (suc i) log)
        (had_now ds (take (suc i) log) (prefix_take (suc i) log)))
        (written_is_from rank counting h lawful t c el (take (suc i) lead) (prefix_take (suc i) lead))
        (omega (arith, x)) (x ∙ sym y) e

    -- a common prefix ends before the first conflict
    shared : (i : ℕ) (p : List (Entry T D)) → IsPrefix p log → IsPrefix p lead
        → (suc i ≤ length log → last_term rank (take (suc i) log) ≡ last_term rank (take (suc i) lead) → ⊥)
        → length p ≤ i
    shared i p x y apart = go (cases_lt i (length p))
      where
        of : (l : List (Entry T D)) → IsPrefix p l → suc i ≤ length p → take (suc i) l ≡ take (suc i) p
        of l st le =
            sym (take-take (suc i) (length p) l le) ∙ ap (λ (z : List (Entry T D)). take (suc i) z) (take_prefix st)

        go : ((i < length p) ⊎ (length p ≤ i)) → length p ≤ i
        go (inr le) = le
        go (inl lt) =
            absurd (apart (omega (arith, lt, prefix_length x))
            (ap (last_term rank) (of log x lt ∙ sym (of lead y lt))))

    -- an append, and the acknowledgement after it
    both : (n : ℕ) (new : List (Entry T D)) → n ≤ length lead → IsPrefix (take n lead) new
        → ((p : List (Entry T D)) → IsPrefix p log → IsPrefix p lead → IsPrefix p new)
        → IsPrefix new log ⊎ IsPrefix new lead → MayAppendAndAckBy rank counting h ds t c n new
    both n new written has keeps of_these = record {
      append = record { term = term; elected = el; keeps = keeps; of_these = of_these };
      ack = record {
        reached = omega arith;
        elected = el;
        written = written;
        has_kept = (has, inl (omega arith));
      };
    }

    cut : (i : ℕ) → suc i ≤ length lead
        → (suc i ≤ length log → last_term rank (take (suc i) log) ≡ last_term rank (take (suc i) lead) → ⊥)
        → MayAppendBy rank counting h ds t c (take i log)
    cut i le apart = record {
      term = term;
      elected = el;
      keeps = λ p x y.
          prefix_within x (prefix_take i log)
          (omega (arith, length-take i log, shared i p x y apart, prefix_length x));
      of_these = inl (prefix_take i log);
    }

    may_append : (es : List (Entry T D)) (i : ℕ) → i + length es ≤ length lead
        → take (i + length es) lead ≡ take i lead ++ es → i ≤ length log → take i log ≡ take i lead
        → MayAppendAndAckBy rank counting h ds t c (i + length es) (after_append_entries rank i log es)
    may_append [] i within are fits same =
        both (i + length {A = Entry T D} []) log within (rw (are ∙ append-nil (take i lead) ∙ sym same) (prefix_take i log))
        (λ p x y. x) (inl (prefix_itself log))
    may_append (e ∷ es) i within are fits same =
        next (has_next rank i log (rank e.term)) refl (may_append es (suc i))
      where
        n : ℕ
        n = i + length (e ∷ es)

        one_longer : length (take i lead ++ (e ∷ [])) ≡ suc i
        one_longer =
            omega (
              arith,
              length-append (take i lead) (e ∷ []),
              length-take-le i lead (omega (arith, within)),
            )

        split : (take i lead ++ (e ∷ [])) ++ es ≡ take n lead
        split = append_assoc (take i lead) (e ∷ []) es ∙ sym are

        lead_next : take (suc i) lead ≡ take i lead ++ (e ∷ [])
        lead_next =
            sym (take-take (suc i) n lead (omega arith))
            ∙ ap (λ (x : List (Entry T D)). take (suc i) x) (sym split)
            ∙ take_at (take i lead ++ (e ∷ [])) es (suc i) one_longer

        lead_last : last_term rank (take (suc i) lead) ≡ rank e.term
        lead_last = ap (last_term rank) lead_next ∙ last_term_or-append rank 0 (take i lead) (e ∷ [])

        n_is : suc i + length es ≡ n
        n_is = omega arith

        are_next : take (suc i + length es) lead ≡ take (suc i) lead ++ es
        are_next =
            ap (λ (m : ℕ). take m lead) n_is ∙ sym split
            ∙ ap (λ (x : List (Entry T D)). x ++ es) (sym lead_next)

        next : (b : Bool) → has_next rank i log (rank e.term) ≡ b
            → (suc i + length es ≤ length lead
            → take (suc i + length es) lead ≡ take (suc i) lead ++ es → suc i ≤ length log
            → take (suc i) log ≡ take (suc i) lead
            → MayAppendAndAckBy rank counting h ds t c (suc i + length es) (after_append_entries rank (suc i) log es))
            → MayAppendAndAckBy rank counting h ds t c n
            (if b then after_append_entries rank (suc i) log es else take i log ++ (e ∷ es))
        next true holds rest =
            let lt : i < length log =
            ltb-true i (length log)
            (first_so (nat_lt i (length log)) (nat_eq (last_term rank (take (suc i) log)) (rank e.term)) holds) in
            let last : last_term rank (take (suc i) log) ≡ rank e.term =
            eqb-true (last_term rank (take (suc i) log)) (rank e.term)
            (second_so (nat_lt i (length log)) (nat_eq (last_term rank (take (suc i) log)) (rank e.term)) holds) in
            let same' : take (suc i) log ≡ take (suc i) lead =
            same_by_term (suc i) (omega (arith, lt)) (omega (arith, within)) (last ∙ sym lead_last) in
            rw n_is at
            (rest (omega (arith, within, n_is)) are_next (omega (arith, lt)) same')
        next false fails rest =
            let new : take i log ++ (e ∷ es) ≡ take n lead =
            ap (λ (x : List (Entry T D)). x ++ (e ∷ es)) same ∙ sym are in
            let apart : suc i ≤ length log → last_term rank (take (suc i) log) ≡ last_term rank (take (suc i) lead)
            → ⊥ =
            λ lt last. false≢true
            (sym fails
            ∙ both_true (lt-ltb i (length log) lt)
            (eq-eqb (last_term rank (take (suc i) log)) (rank e.term) (last ∙ lead_last))) in
            let may : MayAppendAndAckBy rank counting h ds t c n (take n lead) =
            both n (take n lead) within (prefix_itself (take n lead))
            (λ p x y.
            prefix_within y (prefix_take n lead)
            (omega (arith, length-take-le n lead within, shared i p x y apart)))
            (inr (prefix_take n lead)) in
            rw new may

    install : (i : ℕ) → suc i ≤ length lead → (b : Bool)
        → has_next rank i log (last_term rank (take (suc i) lead)) ≡ b
        → MayAppendAndAckBy rank counting h ds t c (suc i) (if b then log else take (suc i) lead)
    install i le true has =
        let u : ℕ = last_term rank (take (suc i) lead) in
        let fits : i < length log =
        ltb-true i (length log)
        (first_so (nat_lt i (length log)) (nat_eq (last_term rank (take (suc i) log)) u) has) in
        let same : take (suc i) log ≡ take (suc i) lead =
        same_by_term (suc i) (omega (arith, fits)) le
        (eqb-true (last_term rank (take (suc i) log)) u
        (second_so (nat_lt i (length log)) (nat_eq (last_term rank (take (suc i) log)) u) has)) in
        both (suc i) log le (rw (sym same) (prefix_take (suc i) log)) (λ p x y. x)
        (inl (prefix_itself log))
    install i le false fails =
        let u : ℕ = last_term rank (take (suc i) lead) in
        let apart : suc i ≤ length log → last_term rank (take (suc i) log) ≡ u → ⊥ =
        λ lt last. false≢true
        (sym fails
        ∙ both_true (lt-ltb i (length log) lt) (eq-eqb (last_term rank (take (suc i) log)) u last)) in
        both (suc i) (take (suc i) lead) le (prefix_itself (take (suc i) lead))
        (λ p x y.
        prefix_within y (prefix_take (suc i) lead)
        (omega (arith, length-take-le (suc i) lead le, shared i p x y apart)))
        (inr (prefix_take (suc i) lead))

  pub check_suffices : ConsistencyCheckSufficesBy rank counting h
  check_suffices = record {
    append_entries = λ s ds t c i es ok term sent fits last.
        may_append s ds ok t c term sent.elected es i sent.within sent.are fits
        (same_by_term s ds ok t c term sent.elected i fits (omega (arith, sent.within)) last);
    truncate = λ s ds t c i ok term el le apart. cut s ds ok t c term el i le apart;
    install_snapshot = λ s ds t c i ok term el le.
        install s ds ok t c term el i le
        (has_next rank i (log_after ds) (last_term rank (take (suc i) (h.leader_log t c)))) refl;
  }
