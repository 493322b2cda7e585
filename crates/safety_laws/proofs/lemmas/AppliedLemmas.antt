-- If configs take effect when they are applied: which quorums intersect, and that histories are safe.
use Rattle.std.specs.Prelude.{◌≡◌, ◌⊎◌, ◌<◌, ◌≤◌, ℕ, zero, suc, Bool, Option, Some, None, List, [], ◌∷◌, length, take, drop}
use Rattle.std.proofs.Common.{refl, sym, ap, ◌∙◌, inl, inr, arith}
use Rattle.std.proofs.lemmas.Bool.{cases_lt}
use Rattle.std.proofs.lemmas.List.{length-take-le, take-take}
use Rattle.safety_laws.specs.Log.{Entry, IsPrefix}
use Rattle.safety_laws.specs.Events.{History}
use Rattle.safety_laws.specs.Facts.{Counting, IsCommittedBy, IsElectedBy}
use Rattle.safety_laws.specs.Safety.{IsSafeBy}
use Rattle.safety_laws.specs.Configs.{HoldNoConfig, QuorumsIntersect, effective_config}
use Rattle.safety_laws.specs.AppliedConfigs.{AppliedConfigsAreSafe, FollowsRaftWhenApplied, HoldAtMostOneConfig, IsKnown, IsSafeWhenApplied, KeepsQuorums, applied}
use Rattle.safety_laws.proofs.lemmas.PrefixLemmas.{prefix_itself, prefix_trans, prefix_take, prefix_length, prefix_within, take_within, take_prefix}
use Rattle.safety_laws.proofs.lemmas.ServerLemmas.{IsFrom, OneBelow, CompleteBelow, prefix_from, written_is_from, candidate_from, candidate_start, from_more, voted_once, committed_length, by_voter, of_same}
use Rattle.safety_laws.proofs.lemmas.ConfigLemmas.{place, place_fits, place_none, upto, upto_fits, upto_grows, same_named, last_named, LastNamed, none_upto, members-none}
use Rattle.safety_laws.proofs.lemmas.SafetyLemmas.{safe_by_terms}
use Rattle.safety_laws.proofs.lemmas.ApplyLemmas.{state_machines_agree}
use Rattle.safety_laws.proofs.lemmas.AppendLemmas.{check_suffices}

module _ {M : Type 0} where
  place_inner : (n k : ℕ) (o : Option M) → place n o ≡ suc (suc k) → n ≡ suc k
  place_inner zero k None e = absurd (omega arith)
  place_inner zero k (Some m) e = absurd (omega arith)
  place_inner (suc n) k o e = omega arith

module _ {T D M : Type 0} (config_of : D → Option M) where
  -- if at most one entry from a on holds a config, none before the last one does
  one_upto : (a k : ℕ) (l : List (Entry T D)) → HoldAtMostOneConfig config_of (drop a l)
      → upto config_of (take (suc k) l) ≡ suc k → upto config_of (take k l) ≤ a
  one_upto a zero l one e = omega arith
  one_upto a (suc k) [] one e = absurd (omega arith)
  one_upto (suc a) (suc k) (x ∷ l) one e =
      place_fits (upto config_of (take k l)) a (config_of x.content)
      (one_upto a k l one (place_inner (upto config_of (take (suc k) l)) k (config_of x.content) e))
  one_upto zero (suc k) (x ∷ l) (inl none) e =
      let f = place_inner (upto config_of (take (suc k) l)) k (config_of x.content) e in
      absurd (omega (arith, f, none_upto config_of 0 l none, upto_grows config_of (prefix_take (suc k) l)))
  one_upto zero (suc k) (x ∷ l) (inr one) e =
      place_none (upto config_of (take k l)) (config_of x.content) one.0
      (one_upto zero k l one.1 (place_inner (upto config_of (take (suc k) l)) k (config_of x.content) e))

  -- the entries up to the last one that holds a config
  abbrev front : List (Entry T D) → List (Entry T D)
  front l = take (upto config_of l) l

  front_length : (l : List (Entry T D)) → length (front l) ≡ upto config_of l
  front_length l = length-take-le (upto config_of l) l (upto_fits config_of l)

  empty_prefix : (n : ℕ) (l p : List (Entry T D)) → n ≤ 0 → IsPrefix (take n l) p
  empty_prefix zero l p le = record { rest = p; is = refl }
  empty_prefix (suc n) l p le = absurd (omega arith)

module _ {T ID D M : Type 0} (rank : T → ℕ) (config_of : D → Option M) (initial : M) (quorum_of : M → (ID → Bool) → Bool)
    (h : History T ID D)
    (laws : FollowsRaftWhenApplied rank config_of initial quorum_of h) where
  abbrev Q : Counting T ID D
  Q = applied rank config_of initial quorum_of

  abbrev members : List (Entry T D) → M
  members l = effective_config config_of initial l

  abbrev Meet : M → M → Type 0
  Meet a b = QuorumsIntersect quorum_of a b

  swap : (a b : M) → Meet a b → Meet b a
  swap a b m s t in_b in_a = let (v, x, y) = m t s in_a in_b in (v, y, x)

  -- a config in a log intersects itself and the one before it
  change : (bound : ℕ) (l : List (Entry T D)) → IsFrom rank Q h laws.keeps_rules bound l → (k : ℕ)
      → upto config_of l ≡ suc k
      → Meet (members (take k l)) (members l) × Meet (members l) (members l)
  change bound l from k e =
      go (prefix_from rank Q h laws.keeps_rules bound now l from (prefix_take (suc k) l))
    where
      now : List (Entry T D)
      now = take (suc k) l

      long : length now ≡ suc k
      long = length-take-le (suc k) l (omega (arith, upto_fits config_of l))

      short : length (take k l) ≡ k
      short = length-take-le k l (omega (arith, upto_fits config_of l))

      n : LastNamed config_of k l
      n = last_named config_of k l e

      same : members l ≡ n.named_members
      same =
          sym ((same_named config_of initial (prefix_take (suc k) l) (omega (arith, long, e))).members)
          ∙ n.members initial

      go : IsFrom rank Q h laws.keeps_rules bound now
          → Meet (members (take k l)) (members l) × Meet (members l) (members l)
      go (inl none) = absurd (omega (arith, long, none))
      go (inr o) =
          let may : KeepsQuorums rank config_of initial quorum_of (take k l) n.named_members =
          laws.appends o.term o.leader o.elected (take k l) n.entry n.named_members
          (rw n.is at o.start) (omega (arith, o.longer, long, short)) n.names in
          (rw same may.old_and_new, rw same may.new)

  -- of a log with at most one config after a: the config at a meets that of a prefix that ends in a
  -- config not before it
  near : (bound : ℕ) (l : List (Entry T D)) → IsFrom rank Q h laws.keeps_rules bound l → (a : ℕ)
      → HoldAtMostOneConfig config_of (drop a l) → (q : List (Entry T D)) → IsPrefix q l
      → (i : ℕ) → upto config_of q ≡ i → length q ≡ i → (j : ℕ) → upto config_of (take a l) ≡ j → j ≤ i
      → Meet (members (take a l)) (members q)
  near bound l from a one q st zero eq lq j ej le =
      rw (members-none config_of initial (take a l) (omega arith), members-none config_of initial q (omega arith))
      laws.initial_intersects
  near bound l from a one q st (suc k) eq lq j ej le = go (cases_lt j (suc k))
    where
      r : List (Entry T D)
      r = take a l

      both : Meet (members (take k q)) (members q) × Meet (members q) (members q)
      both = change bound q (prefix_from rank Q h laws.keeps_rules bound q l from st) k eq

      q_is : take (suc k) l ≡ q
      q_is = ap (λ (n : ℕ). take n l) (sym lq) ∙ take_prefix st

      k_is : take k q ≡ take k l
      k_is = ap (λ (x : List (Entry T D)). take k x) (sym q_is) ∙ take-take k (suc k) l (omega arith)

      go : ((j < suc k) ⊎ (suc k ≤ j)) → Meet (members r) (members q)
      go (inr ge) =
          let s = same_named config_of initial (prefix_take (upto config_of r) r) (omega (arith, front_length config_of r)) in
          let f : IsPrefix (front config_of r) l =
          prefix_trans (prefix_take (upto config_of r) r) (prefix_take a l) in
          let e : front config_of r ≡ q =
          sym (take_prefix f) ∙ ap (λ (n : ℕ). take n l) (omega (arith, front_length config_of r, lq, ej, ge, le)) ∙ take_prefix st in
          let m : members r ≡ members q = sym s.members ∙ ap members e in
          rw m both.1
      go (inl lt) = by_place (cases_lt k a)
        where
          by_place : ((k < a) ⊎ (a ≤ k)) → Meet (members r) (members q)
          by_place (inl past) =
              let z : IsPrefix q r = rw q_is at (take_within (suc k) a l (omega (arith, past))) in
              absurd (omega (arith, upto_grows config_of z, eq, ej, lt))
          by_place (inr later) =
              let b : List (Entry T D) = take k l in
              let up : upto config_of b ≤ a = one_upto config_of a k l one (ap (upto config_of) q_is ∙ eq) in
              let a_fits : a ≤ length l = omega (arith, later, lq, prefix_length st) in
              let s =
              same_named config_of initial (take_within a k l later) (omega (arith, up, length-take-le a l a_fits)) in
              let m : members r ≡ members (take k q) = s.members ∙ ap members (sym k_is) in
              rw m both.0

  -- two logs, each counted by a config that at most one follows: if each log has the config by which the
  -- other one counts, their quorums intersect
  agree : (bound : ℕ) (p b : List (Entry T D)) → IsFrom rank Q h laws.keeps_rules bound p
      → IsFrom rank Q h laws.keeps_rules bound b → (i j : ℕ)
      → HoldAtMostOneConfig config_of (drop i p) → HoldAtMostOneConfig config_of (drop j b)
      → IsPrefix (front config_of (take i p)) b → IsPrefix (front config_of (take j b)) p
      → Meet (members (take i p)) (members (take j b))
  agree bound p b from_p from_b i j one_p one_b x_in y_in =
      go (cases_lt (upto config_of (take i p)) (upto config_of (take j b)))
    where
      x : List (Entry T D)
      x = take i p

      y : List (Entry T D)
      y = take j b

      same_x : (upto config_of (front config_of x) ≡ upto config_of x) × (members (front config_of x) ≡ members x)
      same_x =
          let s = same_named config_of initial (prefix_take (upto config_of x) x) (omega (arith, front_length config_of x)) in
          (s.place, s.members)

      same_y : (upto config_of (front config_of y) ≡ upto config_of y) × (members (front config_of y) ≡ members y)
      same_y =
          let s = same_named config_of initial (prefix_take (upto config_of y) y) (omega (arith, front_length config_of y)) in
          (s.place, s.members)

      go : ((upto config_of x < upto config_of y) ⊎ (upto config_of y ≤ upto config_of x)) → Meet (members x) (members y)
      go (inl lt) =
          let m : Meet (members x) (members (front config_of y)) =
          near bound p from_p i one_p (front config_of y) y_in (upto config_of y) same_y.0
          (front_length config_of y) (upto config_of x) refl (omega (arith, lt)) in
          rw (sym same_y.1) m
      go (inr le) =
          let m : Meet (members y) (members (front config_of x)) =
          near bound b from_b j one_b (front config_of x) x_in (upto config_of x) same_x.0
          (front_length config_of x) (upto config_of y) refl le in
          swap (members y) (members x) (rw (sym same_x.1) m)

  -- what was committed when the last config of a log was known to be
  known_front : (earlier : T → ℕ → Type 0) (l : List (Entry T D))
      → (k : IsKnown rank config_of initial quorum_of h earlier l)
      → IsPrefix (front config_of l) (take k.committed_to (h.leader_log k.in_term k.by_leader))
  known_front earlier l k =
      prefix_trans (take_within (upto config_of l) k.known_to l (none_upto config_of k.known_to l k.none_since)) k.is

  by_length : (a b q : List (Entry T D)) → IsPrefix a q → IsPrefix b q → IsPrefix a b ⊎ IsPrefix b a
  by_length a b q x y = go (cases_lt (length a) (length b))
    where
      go : ((length a < length b) ⊎ (length b ≤ length a)) → IsPrefix a b ⊎ IsPrefix b a
      go (inl lt) = inl (prefix_within x y (omega (arith, lt)))
      go (inr le) = inr (prefix_within y x le)

  -- each later leader has what is committed: by induction over the term and the length at which it was
  -- counted
  abbrev Has : (u : T) (d : ID) (s : T) (e : ID) (n : ℕ) → Type 0
  Has u d s e n = IsPrefix (take n (h.leader_log s e)) (h.candidate_log u d)

  held_step : (u : T) (d : ID) → OneBelow rank Q h laws.keeps_rules (rank u)
      → CompleteBelow rank Q h laws.keeps_rules (rank u) → IsElectedBy rank Q h u d → (t : T) (c : ID) (n a : ℕ)
      → ((s : T) (e : ID) (n' a' : ℕ) → (rank s < rank t) ⊎ ((rank s ≡ rank t) × (a' < a)) → IsCommittedBy rank Q h s e n' a'
      → Has u d s e n')
      → IsCommittedBy rank Q h t c n a → rank t < rank u → Has u d t c n
  held_step u d one complete el t c n a held done lt =
      behind
    where
      p : List (Entry T D)
      p = take n (h.leader_log t c)

      b : List (Entry T D)
      b = h.candidate_log u d

      p_length : length p ≡ n
      p_length = committed_length rank Q h laws.keeps_rules t c n a done

      p_from : IsFrom rank Q h laws.keeps_rules (rank u) p
      p_from =
          from_more rank Q h laws.keeps_rules (suc (rank t)) (rank u) p (omega (arith, lt))
          (written_is_from rank Q h laws.keeps_rules t c done.elected p (prefix_take n (h.leader_log t c)))

      b_from : IsFrom rank Q h laws.keeps_rules (rank u) b
      b_from = candidate_from rank Q h laws.keeps_rules u d el b (prefix_itself b)

      offered : IsPrefix (h.candidate_log t c) p
      offered =
          prefix_within (candidate_start rank Q h laws.keeps_rules t c done.elected)
          (prefix_take n (h.leader_log t c)) (omega (arith, p_length, done.own_term))

      y : List (Entry T D)
      y = take el.is_quorum.counted_at b

      x : List (Entry T D)
      x = take a p

      x_is : x ≡ take a (h.leader_log t c)
      x_is = take-take a n (h.leader_log t c) done.is_quorum.within

      -- the config by which the leader counted is in the candidate's log
      x_in : IsPrefix (front config_of x) b
      x_in =
          let w : IsPrefix (front config_of (take a (h.leader_log t c))) b =
          go ((laws.acks t c done.elected a done.is_quorum.counts).1) in
          rw x_is w
        where
          z : List (Entry T D)
          z = take a (h.leader_log t c)

          go : (HoldNoConfig config_of z
              ⊎ IsKnown rank config_of initial quorum_of h
              (λ (s : T) (b : ℕ). (rank s < rank t) ⊎ ((rank s ≡ rank t) × (b < a))) z)
              → IsPrefix (front config_of z) b
          go (inl none) = empty_prefix config_of (upto config_of z) z b (none_upto config_of 0 z none)
          go (inr k) =
              prefix_trans (known_front (λ (s : T) (b : ℕ). (rank s < rank t) ⊎ ((rank s ≡ rank t) × (b < a))) z k)
              (held k.in_term k.by_leader k.committed_to k.counted_at k.before k.committed)

      -- the config by which the candidate counted is among what the leader committed
      y_in : IsPrefix (front config_of y) p ⊎ IsPrefix p b
      y_in = go (laws.votes u d el el.is_quorum.counted_at el.is_quorum.counts)
        where
          in_b : IsPrefix (front config_of y) b
          in_b = prefix_trans (prefix_take (upto config_of y) y) (prefix_take el.is_quorum.counted_at b)

          pick : (IsPrefix (front config_of y) p ⊎ IsPrefix p (front config_of y))
              → IsPrefix (front config_of y) p ⊎ IsPrefix p b
          pick (inl st) = inl st
          pick (inr st) = inr (prefix_trans st in_b)

          go : (HoldNoConfig config_of y
              ⊎ IsKnown rank config_of initial quorum_of h (λ (s : T) (b : ℕ). rank s < rank u) y)
              → IsPrefix (front config_of y) p ⊎ IsPrefix p b
          go (inl none) = inl (empty_prefix config_of (upto config_of y) y p (none_upto config_of 0 y none))
          go (inr k) = by_terms (cases_lt (rank k.in_term) (rank t)) (cases_lt (rank t) (rank k.in_term))
            where
              st : IsPrefix (front config_of y) (take k.committed_to (h.leader_log k.in_term k.by_leader))
              st = known_front (λ (s : T) (b : ℕ). rank s < rank u) y k

              of_log : IsPrefix (front config_of y) (h.leader_log k.in_term k.by_leader)
              of_log = prefix_trans st (prefix_take k.committed_to (h.leader_log k.in_term k.by_leader))

              by_terms : ((rank k.in_term < rank t) ⊎ (rank t ≤ rank k.in_term))
                  → ((rank t < rank k.in_term) ⊎ (rank k.in_term ≤ rank t))
                  → IsPrefix (front config_of y) p ⊎ IsPrefix p b
              by_terms (inl early) z =
                  inl (prefix_trans st
                  (prefix_trans
                  (complete k.in_term t k.by_leader c k.committed_to k.counted_at lt k.committed early done.elected)
                  offered))
              by_terms (inr ge) (inl late) =
                  let w : IsPrefix p (h.leader_log k.in_term k.by_leader) =
                  prefix_trans (complete t k.in_term c k.by_leader n a k.before done late k.committed.elected)
                  (candidate_start rank Q h laws.keeps_rules k.in_term k.by_leader k.committed.elected) in
                  pick (by_length (front config_of y) p (h.leader_log k.in_term k.by_leader) of_log w)
              by_terms (inr ge) (inr le) =
                  let f : k.in_term ≡ t =
                  laws.keeps_rules.ranks k.in_term t k.by_leader c k.committed.elected done.elected
                  (omega (arith, ge, le)) in
                  let el' : IsElectedBy rank Q h t k.by_leader = rw f at k.committed.elected in
                  let g : k.by_leader ≡ c = one t k.by_leader c lt el' done.elected in
                  pick (by_length (front config_of y) p (h.leader_log t c)
                  (of_same rank Q h laws.keeps_rules (front config_of y) k.in_term t k.by_leader c f g of_log)
                  (prefix_take n (h.leader_log t c)))

      behind : IsPrefix p b
      behind = go y_in
        where
          go : (IsPrefix (front config_of y) p ⊎ IsPrefix p b) → IsPrefix p b
          go (inr st) = st
          go (inl st) =
              let m : Meet (members (take a (h.leader_log t c))) (members y) =
              rw x_is at (agree (rank u) p b p_from b_from a el.is_quorum.counted_at done.is_quorum.at_most_one
              el.is_quorum.at_most_one x_in st) in
              let (v, in_x, in_y) =
              m done.having el.voters done.is_quorum.is_quorum el.is_quorum.is_quorum in
              by_voter rank Q h laws.keeps_rules t u c d v n a one complete done lt el (el.have_voted v in_y)
              (done.have_acked v in_x)

  module _ (u : T) (d : ID) (one : OneBelow rank Q h laws.keeps_rules (rank u))
      (complete : CompleteBelow rank Q h laws.keeps_rules (rank u)) (el : IsElectedBy rank Q h u d) where
    abbrev HeldBelow : ℕ → Type 0
    HeldBelow r =
        (s : T) (e : ID) (n a : ℕ) → rank s < r → IsCommittedBy rank Q h s e n a → rank s < rank u → Has u d s e n

    held_at : (r : ℕ) → HeldBelow r → (size : ℕ) (s : T) (e : ID) (n a : ℕ) → rank s ≡ r → a < size
        → IsCommittedBy rank Q h s e n a → rank s < rank u → Has u d s e n
    held_at r below zero s e n a at_r less done lt = absurd (omega arith)
    held_at r below (suc size) s e n a at_r less done lt =
        held_step u d one complete el s e n a
        (go (λ s' e' n' a' at_r' less' done' lt'. held_at r below size s' e' n' a' at_r' less' done' lt')) done lt
      where
        go : ((s' : T) (e' : ID) (n' a' : ℕ) → rank s' ≡ r → a' < size → IsCommittedBy rank Q h s' e' n' a'
            → rank s' < rank u → Has u d s' e' n')
            → (s' : T) (e' : ID) (n' a' : ℕ) → ((rank s' < rank s) ⊎ ((rank s' ≡ rank s) × (a' < a)))
            → IsCommittedBy rank Q h s' e' n' a' → Has u d s' e' n'
        go again s' e' n' a' (inl early) done' =
            below s' e' n' a' (omega (arith, early, at_r)) done' (omega (arith, early, lt))
        go again s' e' n' a' (inr same) done' =
            again s' e' n' a' (omega (arith, same.0, at_r)) (omega (arith, same.1, less)) done'
            (omega (arith, same.0, lt))

    held_next : (r : ℕ) → HeldBelow r → HeldBelow (suc r)
    held_next r below s e n a less done lt = go (cases_lt (rank s) r)
      where
        go : ((rank s < r) ⊎ (r ≤ rank s)) → Has u d s e n
        go (inl early) = below s e n a early done lt
        go (inr late) = held_at r below (suc a) s e n a (omega (arith, late, less)) (omega arith) done lt

    held_below : (r : ℕ) → HeldBelow r
    held_below zero s e n a less done lt = absurd (omega arith)
    held_below (suc r) s e n a less done lt = held_next r (held_below r) s e n a less done lt

    held : (s : T) (e : ID) (n a : ℕ) → IsCommittedBy rank Q h s e n a → rank s < rank u → Has u d s e n
    held s e n a done lt = held_below (suc (rank s)) s e n a (omega arith) done lt

  -- a config by which a candidate counts is in the log of the other one
  front_in : (u : T) (c d : ID) → OneBelow rank Q h laws.keeps_rules (rank u)
      → CompleteBelow rank Q h laws.keeps_rules (rank u) → (x : IsElectedBy rank Q h u c) → IsElectedBy rank Q h u d
      → IsPrefix (front config_of (take x.is_quorum.counted_at (h.candidate_log u c))) (h.candidate_log u d)
  front_in u c d one complete x y = go (laws.votes u c x x.is_quorum.counted_at x.is_quorum.counts)
    where
      z : List (Entry T D)
      z = take x.is_quorum.counted_at (h.candidate_log u c)

      go : (HoldNoConfig config_of z
          ⊎ IsKnown rank config_of initial quorum_of h (λ (s : T) (b : ℕ). rank s < rank u) z)
          → IsPrefix (front config_of z) (h.candidate_log u d)
      go (inl none) =
          empty_prefix config_of (upto config_of z) z (h.candidate_log u d) (none_upto config_of 0 z none)
      go (inr k) =
          prefix_trans (known_front (λ (s : T) (b : ℕ). rank s < rank u) z k)
          (held u d one complete y k.in_term k.by_leader k.committed_to k.counted_at k.committed k.before)

  one_at : (u : T) → OneBelow rank Q h laws.keeps_rules (rank u) → CompleteBelow rank Q h laws.keeps_rules (rank u)
      → (c d : ID) → IsElectedBy rank Q h u c → IsElectedBy rank Q h u d → c ≡ d
  one_at u one complete c d x y =
      let a : List (Entry T D) = h.candidate_log u c in
      let b : List (Entry T D) = h.candidate_log u d in
      let m : Meet (members (take x.is_quorum.counted_at a)) (members (take y.is_quorum.counted_at b)) =
      agree (rank u) a b (candidate_from rank Q h laws.keeps_rules u c x a (prefix_itself a))
      (candidate_from rank Q h laws.keeps_rules u d y b (prefix_itself b)) x.is_quorum.counted_at
      y.is_quorum.counted_at x.is_quorum.at_most_one y.is_quorum.at_most_one
      (front_in u c d one complete x y) (front_in u d c one complete y x) in
      let (v, in_x, in_y) = m x.voters y.voters x.is_quorum.is_quorum y.is_quorum.is_quorum in
      voted_once rank Q h laws.keeps_rules v u c d (h.events v) (laws.keeps_rules.servers v)
      (x.have_voted v in_x) (y.have_voted v in_y)

  pub is_safe : IsSafeBy rank Q h
  is_safe = safe_by_terms rank Q h laws.keeps_rules one_at held

  all_safe : IsSafeWhenApplied rank config_of initial quorum_of h
  all_safe = record {
    safe = is_safe;
    machines = state_machines_agree rank Q h laws.keeps_rules is_safe;
    followers = check_suffices rank Q h laws.keeps_rules is_safe;
  }

pub applied_is_safe : {T ID D M : Type 0} → AppliedConfigsAreSafe T ID D M
applied_is_safe {T} {ID} {D} {M} rank config_of initial quorum_of h laws =
    all_safe rank config_of initial quorum_of h laws
