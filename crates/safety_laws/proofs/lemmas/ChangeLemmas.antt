-- If configs change by the rule: which quorums intersect, and that histories are safe.
use Rattle.std.specs.Prelude.{◌≡◌, ◌⊎◌, ◌<◌, ◌≤◌, ℕ, zero, suc, Bool, Option, List, length, take}
use Rattle.std.proofs.Common.{refl, sym, ap, ◌∙◌, inl, inr, arith}
use Rattle.std.proofs.lemmas.Bool.{cases_lt}
use Rattle.std.proofs.lemmas.List.{length-take-le}
use Rattle.safety_laws.specs.Log.{Entry, IsPrefix, last_term}
use Rattle.safety_laws.specs.Events.{History}
use Rattle.safety_laws.specs.Facts.{Counting, IsCommittedBy, IsElectedBy, appended}
use Rattle.safety_laws.specs.Safety.{IsSafeBy}
use Rattle.safety_laws.specs.Configs.{FollowsRaftWithConfigs, MayProposeConfig, QuorumsIntersect, effective_config, is_quorum}
use Rattle.safety_laws.proofs.lemmas.PrefixLemmas.{prefix_itself, prefix_trans, prefix_take, prefix_within, prefix_same, take_within}
use Rattle.safety_laws.proofs.lemmas.ServerLemmas.{IsFrom, OneBelow, CompleteBelow, IsAhead, from_more, prefix_from, written_is_from, candidate_from, candidate_start, last_written, last_of, last_term_grows, voted_once, committed_length, ahead, by_voter, of_same}
use Rattle.safety_laws.proofs.lemmas.ConfigLemmas.{upto, upto_fits, upto_grows, same_named, last_named, LastNamed, none_upto, members-none}
use Rattle.safety_laws.proofs.lemmas.SafetyLemmas.{safe_by_terms}

module _ {T ID D M : Type 0} (rank : T → ℕ) (config_of : D → Option M) (initial : M) (quorum_of : M → (ID → Bool) → Bool)
    (h : History T ID D) (laws : FollowsRaftWithConfigs rank config_of initial quorum_of h) where
  abbrev Q : Counting T ID D
  Q = appended (is_quorum rank config_of initial quorum_of)

  abbrev members : List (Entry T D) → M
  members l = effective_config config_of initial l

  abbrev Meet : M → M → Type 0
  Meet a b = QuorumsIntersect quorum_of a b

  swap : (a b : M) → Meet a b → Meet b a
  swap a b m s t in_b in_a = let (v, x, y) = m t s in_a in_b in (v, y, x)

  -- the last entry of a log that holds a config, the log before it and with it, and what was committed
  -- when it was written
  record Change (bound : ℕ) (l : List (Entry T D)) : Type 0 where
    place : ℕ
    is : upto config_of l ≡ suc place
    term : T
    leader : ID
    below : rank term < bound
    elected : IsElectedBy rank Q h term leader
    now : List (Entry T D)
    now_length : length now ≡ suc place
    of_log : IsPrefix now l
    of_leader : IsPrefix now (h.leader_log term leader)
    before : List (Entry T D)
    before_length : length before ≡ place
    before_now : IsPrefix before now
    done : ℕ
    counted_at : ℕ
    committed : IsCommittedBy rank Q h term leader done counted_at
    within : counted_at ≤ place
    covers : upto config_of before ≤ done
    meets : Meet (members before) (members l)
    itself : Meet (members l) (members l)

  change : (bound : ℕ) (l : List (Entry T D)) → IsFrom rank Q h laws.keeps_rules bound l → (k : ℕ)
      → upto config_of l ≡ suc k → Change bound l
  change bound l from k e =
      go (prefix_from rank Q h laws.keeps_rules bound now l from (prefix_take (suc k) l))
    where
      now : List (Entry T D)
      now = take (suc k) l

      fits : suc k ≤ length l
      fits = omega (arith, upto_fits config_of l)

      long : length now ≡ suc k
      long = length-take-le (suc k) l fits

      short : length (take k l) ≡ k
      short = length-take-le k l (omega (arith, fits))

      n : LastNamed config_of k l
      n = last_named config_of k l e

      same : members l ≡ n.named_members
      same =
          sym ((same_named config_of initial (prefix_take (suc k) l) (omega (arith, long, e))).members)
          ∙ n.members initial

      go : IsFrom rank Q h laws.keeps_rules bound now → Change bound l
      go (inl none) = absurd (omega (arith, long, none))
      go (inr o) =
          let may : MayProposeConfig rank config_of initial quorum_of h o.term o.leader (take k l) n.named_members =
          laws.proposals o.term o.leader o.elected (take k l) n.entry n.named_members
          (rw n.is at o.start) (omega (arith, o.longer, long, short)) n.names in
          record {
            place = k;
            is = e;
            term = o.term;
            leader = o.leader;
            below = o.below;
            elected = o.elected;
            now = now;
            now_length = long;
            of_log = prefix_take (suc k) l;
            of_leader = o.start;
            before = take k l;
            before_length = short;
            before_now = take_within k (suc k) l (omega arith);
            done = may.committed_to;
            counted_at = may.counted_at;
            committed = may.committed;
            within = omega (arith, may.before, short);
            covers = none_upto config_of may.committed_to (take k l) may.none_since;
            meets = rw same may.old_and_new;
            itself = rw same may.new;
          }

  -- what was committed when the change was written
  abbrev point : (bound : ℕ) (l : List (Entry T D)) → Change bound l → List (Entry T D)
  point bound l x = take x.done (h.leader_log x.term x.leader)

  point_length : (bound : ℕ) (l : List (Entry T D)) (x : Change bound l)
      → length (point bound l x) ≡ x.done
  point_length bound l x =
      committed_length rank Q h laws.keeps_rules x.term x.leader x.done x.counted_at x.committed

  point_before : (bound : ℕ) (l : List (Entry T D)) (x : Change bound l)
      → IsPrefix (point bound l x) x.before
  point_before bound l x =
      prefix_within (prefix_take x.done (h.leader_log x.term x.leader))
      (prefix_trans x.before_now x.of_leader)
      (omega (arith, point_length bound l x, x.committed.is_quorum.within, x.within, x.before_length))

  point_log : (bound : ℕ) (l : List (Entry T D)) (x : Change bound l) → IsPrefix (point bound l x) l
  point_log bound l x =
      prefix_trans (point_before bound l x) (prefix_trans x.before_now x.of_log)

  point_members : (bound : ℕ) (l : List (Entry T D)) (x : Change bound l)
      → members (point bound l x) ≡ members x.before
  point_members bound l x =
      (same_named config_of initial (point_before bound l x)
      (omega (arith, point_length bound l x, x.covers))).members

  point_term : (bound : ℕ) (l : List (Entry T D)) (x : Change bound l)
      → last_term rank (point bound l x) ≡ rank x.term
  point_term bound l x =
      last_written rank Q h laws.keeps_rules x.term x.leader x.elected (point bound l x)
      (prefix_take x.done (h.leader_log x.term x.leader))
      (omega (arith, point_length bound l x, x.committed.own_term))

  now_term : (bound : ℕ) (l : List (Entry T D)) (x : Change bound l) → last_term rank x.now ≡ rank x.term
  now_term bound l x =
      last_written rank Q h laws.keeps_rules x.term x.leader x.elected x.now x.of_leader
      (omega (arith, x.now_length, x.committed.own_term, x.committed.is_quorum.within, x.within))

  now_upto : (bound : ℕ) (l : List (Entry T D)) (x : Change bound l)
      → (upto config_of x.now ≡ suc x.place) × (members x.now ≡ members l)
  now_upto bound l x =
      let s = same_named config_of initial x.of_log (omega (arith, x.is, x.now_length)) in
      (s.place ∙ x.is, s.members)

  -- a log has what was committed before another log's change, and holds no config after it
  meets_point : (bound : ℕ) (a b : List (Entry T D)) (y : Change bound b)
      → IsPrefix (point bound b y) a → upto config_of a ≤ y.done → Meet (members a) (members b)
  meets_point bound a b y st le =
      let s =
      same_named config_of initial st (omega (arith, point_length bound b y, le)) in
      let e : members a ≡ members y.before = sym s.members ∙ point_members bound b y in
      rw e y.meets

  -- two changes of one leader that are each the first one after a commit are the same
  same_place : (x_place y_place x_done y_done : ℕ) (w now_x now_y before_x before_y : List (Entry T D))
      → IsPrefix now_x w → IsPrefix now_y w → IsPrefix before_x w → IsPrefix before_y w
      → length now_x ≡ suc x_place → length now_y ≡ suc y_place → length before_x ≡ x_place
      → length before_y ≡ y_place → upto config_of now_x ≡ suc x_place → upto config_of now_y ≡ suc y_place
      → upto config_of before_x ≤ x_done → upto config_of before_y ≤ y_done → x_done ≤ y_done
      → y_done ≤ x_place → y_done ≤ y_place → now_x ≡ now_y
  same_place i j p q w now_x now_y before_x before_y nx ny bx by lx ly kx ky ux uy cx cy le qi qj =
      go (cases_lt i j) (cases_lt j i)
    where
      go : ((i < j) ⊎ (j ≤ i)) → ((j < i) ⊎ (i ≤ j)) → now_x ≡ now_y
      go (inl lt) z =
          let st : IsPrefix now_x before_y = prefix_within nx by (omega arith) in
          absurd (omega (arith, upto_grows config_of st))
      go (inr ge) (inl lt) =
          let st : IsPrefix now_y before_x = prefix_within ny bx (omega arith) in
          absurd (omega (arith, upto_grows config_of st))
      go (inr ge) (inr ge') = prefix_same nx ny (omega arith)

  -- if two logs each have what was committed before the other's last change, their quorums intersect
  half : (bound : ℕ) (a b : List (Entry T D)) → OneBelow rank Q h laws.keeps_rules bound
      → (x : Change bound a) (y : Change bound b) → IsPrefix (point bound a x) b
      → IsPrefix (point bound b y) a → x.done ≤ y.done → Meet (members a) (members b)
  half bound a b one x y in_b in_a le = go (cases_lt x.place y.done)
    where
      go : ((x.place < y.done) ⊎ (y.done ≤ x.place)) → Meet (members a) (members b)
      go (inl past) = meets_point bound a b y in_a (omega (arith, x.is, past))
      go (inr later) =
          let y_now : IsPrefix (point bound b y) x.now =
          prefix_within in_a x.of_log (omega (arith, point_length bound b y, x.now_length, later)) in
          let y_le : rank y.term ≤ rank x.term =
          omega (
            arith,
            point_term bound b y,
            now_term bound a x,
            last_term_grows rank Q h laws.keeps_rules (suc (rank x.term)) (point bound b y) x.now
                (written_is_from rank Q h laws.keeps_rules x.term x.leader x.elected x.now x.of_leader) y_now,
          ) in
          let x_y : IsPrefix (point bound a x) (point bound b y) =
          prefix_within (point_log bound a x) in_a
          (omega (arith, point_length bound a x, point_length bound b y, le)) in
          let x_le : rank x.term ≤ rank y.term =
          omega (
            arith,
            point_term bound b y,
            point_term bound a x,
            last_term_grows rank Q h laws.keeps_rules (suc (rank y.term)) (point bound a x) (point bound b y)
                (written_is_from rank Q h laws.keeps_rules y.term y.leader y.elected (point bound b y)
                (prefix_take y.done (h.leader_log y.term y.leader))) x_y,
          ) in
          let e : y.term ≡ x.term =
          laws.keeps_rules.ranks y.term x.term y.leader x.leader y.elected x.elected
          (omega (arith, y_le, x_le)) in
          let el : IsElectedBy rank Q h x.term y.leader = rw e at y.elected in
          let f : y.leader ≡ x.leader = one x.term y.leader x.leader x.below el x.elected in
          let y_of : IsPrefix y.now (h.leader_log x.term x.leader) =
          of_same rank Q h laws.keeps_rules y.now y.term x.term y.leader x.leader e f y.of_leader in
          let same : x.now ≡ y.now =
          same_place x.place y.place x.done y.done (h.leader_log x.term x.leader) x.now y.now x.before y.before
          x.of_leader y_of (prefix_trans x.before_now x.of_leader) (prefix_trans y.before_now y_of)
          x.now_length y.now_length x.before_length y.before_length (now_upto bound a x).0
          (now_upto bound b y).0 x.covers y.covers le later
          (omega (arith, y.committed.is_quorum.within, y.within)) in
          let g : members b ≡ members a =
          sym (now_upto bound b y).1 ∙ ap members (sym same) ∙ (now_upto bound a x).1 in
          rw g x.itself

  both : (bound : ℕ) (a b : List (Entry T D)) → OneBelow rank Q h laws.keeps_rules bound
      → (x : Change bound a) (y : Change bound b) → IsPrefix (point bound a x) b
      → IsPrefix (point bound b y) a → Meet (members a) (members b)
  both bound a b one x y in_b in_a = go (cases_lt x.done y.done)
    where
      go : ((x.done < y.done) ⊎ (y.done ≤ x.done)) → Meet (members a) (members b)
      go (inl lt) = half bound a b one x y in_b in_a (omega (arith, lt))
      go (inr le) =
          swap (members b) (members a) (half bound b a one y x in_a in_b le)

  two_logs : (bound : ℕ) (a b : List (Entry T D)) → OneBelow rank Q h laws.keeps_rules bound
      → IsFrom rank Q h laws.keeps_rules bound a → IsFrom rank Q h laws.keeps_rules bound b
      → ((x : Change bound a) → IsPrefix (point bound a x) b)
      → ((y : Change bound b) → IsPrefix (point bound b y) a) → Meet (members a) (members b)
  two_logs bound a b one from_a from_b has_a has_b = go (upto config_of a) refl (upto config_of b) refl
    where
      go : (i : ℕ) → upto config_of a ≡ i → (j : ℕ) → upto config_of b ≡ j → Meet (members a) (members b)
      go zero ea zero eb =
          rw (members-none config_of initial a (omega arith), members-none config_of initial b (omega arith))
          laws.initial_intersects
      go zero ea (suc j) eb =
          let y = change bound b from_b j eb in
          meets_point bound a b y (has_b y) (omega arith)
      go (suc i) ea zero eb =
          let x = change bound a from_a i ea in
          swap (members b) (members a) (meets_point bound b a x (has_a x) (omega arith))
      go (suc i) ea (suc j) eb =
          let x = change bound a from_a i ea in
          let y = change bound b from_b j eb in both bound a b one x y (has_a x) (has_b y)

  -- each later leader has what is committed: by induction over the length at which it was counted
  abbrev Held : (u : T) (d : ID) → ℕ → Type 0
  Held u d size =
      (t : T) (c : ID) (n m : ℕ) → m < size → IsCommittedBy rank Q h t c n m → rank t < rank u
      → IsPrefix (take n (h.leader_log t c)) (h.candidate_log u d)

  held_step : (u : T) (d : ID) → OneBelow rank Q h laws.keeps_rules (rank u)
      → CompleteBelow rank Q h laws.keeps_rules (rank u) → IsElectedBy rank Q h u d → (t : T) (c : ID) (n m : ℕ)
      → Held u d m → IsCommittedBy rank Q h t c n m → rank t < rank u → IsPrefix (take n (h.leader_log t c)) (h.candidate_log u d)
  held_step u d one complete el t c n m held done lt =
      by_term (cases_lt (rank t) (last_term rank b)) (cases_lt (last_term rank b) (rank t)) (cases_lt (length b) n)
    where
      a : List (Entry T D)
      a = take m (h.leader_log t c)

      b : List (Entry T D)
      b = h.candidate_log u d

      p : List (Entry T D)
      p = take n (h.leader_log t c)

      a_length : length a ≡ m
      a_length = length-take-le m (h.leader_log t c) done.is_quorum.written

      a_from : IsFrom rank Q h laws.keeps_rules (suc (rank t)) a
      a_from =
          written_is_from rank Q h laws.keeps_rules t c done.elected a (prefix_take m (h.leader_log t c))

      a_from' : IsFrom rank Q h laws.keeps_rules (rank u) a
      a_from' = from_more rank Q h laws.keeps_rules (suc (rank t)) (rank u) a (omega (arith, lt)) a_from

      b_from : IsFrom rank Q h laws.keeps_rules (rank u) b
      b_from = candidate_from rank Q h laws.keeps_rules u d el b (prefix_itself b)

      ahead' : IsAhead rank Q h laws.keeps_rules t n b → IsPrefix p b
      ahead' past = ahead rank Q h laws.keeps_rules t u c d n m one complete done lt el past

      has_a : (x : Change (rank u) a) → IsPrefix (point (rank u) a x) b
      has_a x =
          held x.term x.leader x.done x.counted_at
          (omega (arith, x.within, x.is, upto_fits config_of a, a_length)) x.committed x.below

      offered_a : IsPrefix (h.candidate_log t c) a
      offered_a =
          prefix_within (candidate_start rank Q h laws.keeps_rules t c done.elected)
          (prefix_take m (h.leader_log t c)) (omega (arith, a_length, done.own_term, done.is_quorum.within))

      y_term : (y : Change (rank u) b) → rank y.term ≤ last_term rank b
      y_term y =
          omega (
            arith,
            point_term (rank u) b y,
            last_term_grows rank Q h laws.keeps_rules (rank u) (point (rank u) b y) b b_from (point_log (rank u) b y),
          )

      b_start : last_term rank b ≡ rank t → length b < n → (y : Change (rank u) b)
          → IsFrom rank Q h laws.keeps_rules (rank u) b → IsPrefix b a
      b_start e less y (inl none) = absurd (omega (arith, y.is, upto_fits config_of b, none))
      b_start e less y (inr o) =
          let f : o.term ≡ t =
          laws.keeps_rules.ranks o.term t o.leader c o.elected done.elected
          (sym (last_of rank Q h laws.keeps_rules (rank u) b o) ∙ e) in
          let el' : IsElectedBy rank Q h t o.leader = rw f at o.elected in
          let g : o.leader ≡ c = one t o.leader c lt el' done.elected in
          prefix_within
          (of_same rank Q h laws.keeps_rules b o.term t o.leader c f g o.start)
          (prefix_take m (h.leader_log t c)) (omega (arith, a_length, less, done.is_quorum.within))

      -- a shorter log: its quorum intersects that of the commit, and a server of both shows the rest
      behind : ((last_term rank b < rank t) ⊎ ((last_term rank b ≡ rank t) × (length b < n))) → IsPrefix p b
      behind less =
          let has_b : (y : Change (rank u) b) → IsPrefix (point (rank u) b y) a =
          λ y. in_a y less (cases_lt (rank y.term) (rank t)) in
          let (v, x, w) =
          two_logs (rank u) a b one a_from' b_from has_a has_b done.having el.voters done.is_quorum.is_quorum
          el.is_quorum in
          by_voter rank Q h laws.keeps_rules t u c d v n m one complete done lt el (el.have_voted v w)
          (done.have_acked v x)
        where
          in_a : (y : Change (rank u) b) → ((last_term rank b < rank t) ⊎ ((last_term rank b ≡ rank t) × (length b < n)))
              → ((rank y.term < rank t) ⊎ (rank t ≤ rank y.term)) → IsPrefix (point (rank u) b y) a
          in_a y z (inl early) =
              prefix_trans
              (complete y.term t y.leader c y.done y.counted_at lt y.committed early done.elected)
              offered_a
          in_a y (inl below) (inr late) = absurd (omega (arith, y_term y, below, late))
          in_a y (inr same) (inr late) =
              prefix_trans (point_log (rank u) b y) (b_start same.0 same.1 y b_from)

      by_term : ((rank t < last_term rank b) ⊎ (last_term rank b ≤ rank t)) → ((last_term rank b < rank t) ⊎ (rank t ≤ last_term rank b))
          → ((length b < n) ⊎ (n ≤ length b)) → IsPrefix p b
      by_term (inl more) y z = ahead' (inl more)
      by_term (inr le) (inl less) z = behind (inl less)
      by_term (inr le) (inr ge) (inl short) = behind (inr (omega (arith, le, ge), short))
      by_term (inr le) (inr ge) (inr long) = ahead' (inr (omega (arith, le, ge), long))

  held_upto : (u : T) (d : ID) → OneBelow rank Q h laws.keeps_rules (rank u)
      → CompleteBelow rank Q h laws.keeps_rules (rank u) → IsElectedBy rank Q h u d → (size : ℕ) → Held u d size
  held_upto u d one complete el zero t c n m less done lt = absurd (omega arith)
  held_upto u d one complete el (suc size) t c n m less done lt =
      held_step u d one complete el t c n m
      (λ t' c' n' m' less' done' lt'.
      held_upto u d one complete el size t' c' n' m' (omega (arith, less, less')) done' lt')
      done lt

  one_at : (u : T) → OneBelow rank Q h laws.keeps_rules (rank u) → CompleteBelow rank Q h laws.keeps_rules (rank u)
      → (c d : ID) → IsElectedBy rank Q h u c → IsElectedBy rank Q h u d → c ≡ d
  one_at u one complete c d x y =
      let a = h.candidate_log u c in let b = h.candidate_log u d in
      let (v, in_x, in_y) =
      two_logs (rank u) a b one (candidate_from rank Q h laws.keeps_rules u c x a (prefix_itself a))
      (candidate_from rank Q h laws.keeps_rules u d y b (prefix_itself b))
      (λ z. held_upto u d one complete y (suc z.counted_at) z.term z.leader z.done z.counted_at
      (omega arith) z.committed z.below)
      (λ z. held_upto u c one complete x (suc z.counted_at) z.term z.leader z.done z.counted_at
      (omega arith) z.committed z.below)
      x.voters y.voters x.is_quorum y.is_quorum in
      voted_once rank Q h laws.keeps_rules v u c d (h.events v) (laws.keeps_rules.servers v)
      (x.have_voted v in_x) (y.have_voted v in_y)

  pub changing_is_safe : IsSafeBy rank Q h
  changing_is_safe =
      safe_by_terms rank Q h laws.keeps_rules one_at
      (λ u d one complete el t c n m done lt.
      held_upto u d one complete el (suc m) t c n m (omega arith) done lt)
