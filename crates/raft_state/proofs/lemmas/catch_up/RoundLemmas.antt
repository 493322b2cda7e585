-- What holds between the visits of a round, and what is granted after it.
use Rattle.std.proofs.Common.{◌≡◌, ◌⊎◌, inl, inr, ℕ, ◌+◌, ◌≤◌, Bool, true, false, ◌&&◌, ◌||◌, List, [], ◌∷◌, ◌++◌, length, Option, Some, refl, sym, ap, ◌∙◌, subst, arith, if◌then◌else◌}
use Rattle.std.proofs.lemmas.Bool.{or_right}
use Rattle.std.proofs.lemmas.List.{append_assoc, append-nil}
use Rattle.std.proofs.lemmas.Cmp.{tied_itself}
use Rattle.std.specs.Cmp.Derive.{both_true}
use Rattle.std.proofs.lemmas.Option.{same_Some}
use Rattle.std.specs.Cmp.{IsEquivalence, IsTotalOrder, first_so, second_so}
use Rattle.std.specs.Map.{keys_of}
use Rattle.std.specs.Option.{option_cmp}
use Rattle.std.specs.Ordering.{eq_by_cmp, ordering_reverse}
use Rattle.std.specs.Set.{is_member}
use Rattle.std.specs.declared.cmp.Ordering.{Ordering}
use Rattle.raft_base.specs.LogId.{id_le, log_id_cmp, same_ids}
use Rattle.raft_base.specs.LogIdLawful.{optional-log_id_cmp-total}
use Rattle.raft_base.specs.LogView.{LogView}
use Rattle.raft_base.specs.declared.log_id.LogIdOf.{LogIdOf}
use Rattle.raft_members.proofs.lemmas.membership.AddedLemmas.{is_equal}
use Rattle.raft_progress.proofs.lemmas.catch_up.CatchUpLemmas.{tied}
use Rattle.raft_progress.proofs.lemmas.OrderLemmas.{le_of_eq, AtMost-refl, AtMost-trans}
use Rattle.raft_progress.specs.progress.CountedValue.{IsReached, reached}
use Rattle.raft_progress.specs.progress.ProgressState.{Writes}
use Rattle.raft_progress.specs.progress.ProgressView.{ProgressView, state}
use Rattle.raft_progress.specs.progress.Statistics.{count_after}
use Rattle.raft_progress.specs.progress.Updated.{IsUpdated}
use Rattle.raft_progress.specs.declared.entry.ProgressEntryOf.{ProgressEntryOf}
use Rattle.raft_state.specs.raft_state.Round.{Followers, HasRun, IsCaughtUp, IsInOrderByMatch, IsRound, IsRoundEnd, NonePastLast, QuorumRan, Visits}

-- an update of a known id to a value writes that value
pub writes : {ID V P QS : Type 0} (eq : ID → ID → Bool) (cmp : P → P → Ordering) (part : V → P) (old new : ProgressView ID V P QS) (id : ID)
    (v end : V) → IsUpdated eq cmp part (λ before after. after ≡ end) old id new → (state eq old).value id ≡ Some v
    → Writes eq (state eq old) id end (state eq new)
writes eq cmp part old new id v end up known = let k = up.known v known in subst (λ w. Writes eq (state eq old) id w (state eq new)) k.1 k.2

length_more : {A : Type 0} (xs : List A) (x : A) → length (xs ++ x ∷ []) ≡ length xs + 1
length_more [] x = refl
length_more (y ∷ xs) x = let more = length_more xs x in omega arith

module _ {ID C QS : Type 0} {eq : ID → ID → Bool} (e : IsEquivalence eq) (cmp : C → C → Ordering) (has_quorum : QS → (ID → Bool) → Bool)
    (log : LogView C) (n : ℕ) (can : ProgressEntryOf C → ℕ → ℕ → Bool) where
  -- a follower that ran has the end of its run, and all other values stay
  pub ran_writes : (old : Followers ID C QS) (id : ID) (agree : ℕ) (new : Followers ID C QS)
      (r : HasRun eq cmp has_quorum log n can old id agree new) → Writes eq (state eq old) id r.end (state eq new)
  ran_writes old id agree new r = writes eq (option_cmp (log_id_cmp cmp)) (λ (v : ProgressEntryOf C). v.matching) old new id r.entry r.end
      r.updated r.known

  -- what stays over a visit, and over a round
  pub record Stays (old new : Followers ID C QS) : Type 0 where
    pub quorum_set : new.quorum_set ≡ old.quorum_set
    pub is_voter : (x : ID) → (state eq new).is_voter x ≡ (state eq old).is_voter x
    pub default_part : new.default_part ≡ old.default_part

  visit_stays : (old : Followers ID C QS) (id : ID) (agree : ℕ) (did : Bool) (new : Followers ID C QS)
      → Visits eq cmp has_quorum log n can old id agree did new → Stays old new
  visit_stays old id agree true new v = let w = ran_writes old id agree new v in
      record { quorum_set = w.quorum_set; is_voter = w.is_voter; default_part = w.default_part }
  visit_stays old id agree false new v = rw v.same (record { quorum_set = refl; is_voter = λ x. refl; default_part = refl })

  pub kept : (old : Followers ID C QS) (pairs : List (ID × ℕ)) (ran : List ID) (new : Followers ID C QS)
      → IsRound eq cmp has_quorum log n can old pairs ran new → Stays old new
  kept old [] ran new r = rw r.1 (record { quorum_set = refl; is_voter = λ x. refl; default_part = refl })
  kept old (pair ∷ pairs) ran new r =
      let one = visit_stays old pair.0 pair.1 r.0 r.2 r.4 in
      let more = kept r.2 pairs r.1 new r.5 in
      record {
        quorum_set = more.quorum_set ∙ one.quorum_set;
        is_voter = λ x. more.is_voter x ∙ one.is_voter x;
        default_part = more.default_part ∙ one.default_part;
      }

  -- a value is as it was, or its id is the id of a follower that ran
  visit_value : (old : Followers ID C QS) (id : ID) (agree : ℕ) (did : Bool) (new : Followers ID C QS)
      → Visits eq cmp has_quorum log n can old id agree did new
      → (x : ID) → ((state eq new).value x ≡ (state eq old).value x) ⊎ ((did ≡ true) × (eq x id ≡ true))
  visit_value old id agree true new v x = by (eq x id) refl
    where
      by : (b : Bool) → eq x id ≡ b → ((state eq new).value x ≡ (state eq old).value x) ⊎ ((true ≡ true) × (eq x id ≡ true))
      by true h = inr (refl, h)
      by false h = inl ((ran_writes old id agree new v).value x ∙ rw (e.symm id x ∙ h) refl)
  visit_value old id agree false new v x = inl (rw v.same refl)

  in_front : (did : Bool) (id : ID) (rest : List ID) (x : ID) → did ≡ true → eq x id ≡ true
      → is_member eq (if did then id ∷ rest else rest) x ≡ true
  in_front true id rest x is h = rw h refl
  in_front false id rest x is h = cc

  behind : (did : Bool) (id : ID) (rest : List ID) (x : ID) → is_member eq rest x ≡ true
      → is_member eq (if did then id ∷ rest else rest) x ≡ true
  behind true id rest x h = or_right (eq x id) (is_member eq rest x) h
  behind false id rest x h = h

  -- each value is as it was, or its id ran
  pub kept_or_ran : (old : Followers ID C QS) (pairs : List (ID × ℕ)) (ran : List ID) (new : Followers ID C QS)
      → IsRound eq cmp has_quorum log n can old pairs ran new
      → (x : ID) → ((state eq new).value x ≡ (state eq old).value x) ⊎ (is_member eq ran x ≡ true)
  kept_or_ran old [] ran new r x = inl (rw r.1 refl)
  kept_or_ran old (pair ∷ pairs) ran new r x = elim (kept_or_ran r.2 pairs r.1 new r.5 x) [
    | inr did ↦ inr (rw r.3 (behind r.0 pair.0 r.1 x did))
    | inl same ↦ elim (visit_value old pair.0 pair.1 r.0 r.2 r.4 x) [
      | inl before ↦ inl (same ∙ before)
      | inr now ↦ inr (rw r.3 (in_front r.0 pair.0 r.1 x now.0 now.1))
    ]
  ]

  -- those that ran are among the followers
  ran_few : (did : Bool) (id : ID) (rest : List ID) (m : ℕ) → length rest ≤ m → length (if did then id ∷ rest else rest) ≤ m + 1
  ran_few true id rest m le = let s : length (id ∷ rest) ≡ length rest + 1 = omega arith in omega arith
  ran_few false id rest m le = omega arith

  pub few : (old : Followers ID C QS) (pairs : List (ID × ℕ)) (ran : List ID) (new : Followers ID C QS)
      → IsRound eq cmp has_quorum log n can old pairs ran new → length ran ≤ length pairs
  few old [] ran new r = rw r.0 (omega arith)
  few old (pair ∷ pairs) ran new r =
      let s : length (pair ∷ pairs) ≡ length pairs + 1 = omega arith in
      rw (r.3, s) (ran_few r.0 pair.0 r.1 (length pairs) (few r.2 pairs r.1 new r.5))

  ran_among : (did : Bool) (id : ID) (rest ids : List ID) (x : ID) → is_member eq (if did then id ∷ rest else rest) x ≡ true
      → (is_member eq rest x ≡ true → is_member eq ids x ≡ true) → is_member eq (id ∷ ids) x ≡ true
  ran_among true id rest ids x h more = by (eq x id) h
    where
      by : (b : Bool) → (b || is_member eq rest x) ≡ true → (b || is_member eq ids x) ≡ true
      by true h = refl
      by false h = more h
  ran_among false id rest ids x h more = or_right (eq x id) (is_member eq ids x) (more h)

  pub among : (old : Followers ID C QS) (pairs : List (ID × ℕ)) (ran : List ID) (new : Followers ID C QS)
      → IsRound eq cmp has_quorum log n can old pairs ran new
      → (x : ID) → is_member eq ran x ≡ true → is_member eq (keys_of pairs) x ≡ true
  among old [] ran new r x h = let g : is_member eq [] x ≡ true = rw r.0 at h in cc
  among old (pair ∷ pairs) ran new r x h = ran_among r.0 pair.0 r.1 (keys_of pairs) x (rw r.3 at h) (among r.2 pairs r.1 new r.5 x)

  -- each run is an update, and if none ran nothing has changed
  pub record Counts (ran : ℕ) (old new : Followers ID C QS) : Type 0 where
    pub updates : 1 ≤ ran → new.stat.update_count ≡ count_after old.stat.update_count ran
    pub none_ran : ran ≡ 0 → new ≡ old

  visit_counts : (old : Followers ID C QS) (id : ID) (agree : ℕ) (did : Bool) (middle new : Followers ID C QS) (rest : List ID)
      → Visits eq cmp has_quorum log n can old id agree did middle
      → Counts (length rest) middle new → Counts (length (if did then id ∷ rest else rest)) old new
  visit_counts old id agree true middle new [] v c = record {
    updates = λ some. ap (λ (p : Followers ID C QS). p.stat.update_count) (c.none_ran refl) ∙ v.updated.counts;
    none_ran = λ none. absurd (omega arith);
  }
  visit_counts old id agree true middle new (x ∷ rest) v c = record {
    updates = λ some. (let more = c.updates (omega arith) in let one = v.updated.counts in omega arith);
    none_ran = λ none. absurd (omega arith);
  }
  visit_counts old id agree false middle new rest v c = record {
    updates = λ some. rw (← v.same) (c.updates some);
    none_ran = λ none. c.none_ran none ∙ v.same;
  }

  pub counts : (old : Followers ID C QS) (pairs : List (ID × ℕ)) (ran : List ID) (new : Followers ID C QS)
      → IsRound eq cmp has_quorum log n can old pairs ran new → Counts (length ran) old new
  counts old [] ran new r = rw r.0 (record { updates = λ some. absurd (omega arith); none_ran = λ none. r.1 })
  counts old (pair ∷ pairs) ran new r = rw r.3 (visit_counts old pair.0 pair.1 r.0 r.2 new r.1 r.4 (counts r.2 pairs r.1 new r.5))

  -- granted never falls
  visit_not_lower : IsTotalOrder cmp → (old : Followers ID C QS) (id : ID) (agree : ℕ) (did : Bool) (new : Followers ID C QS)
      → Visits eq cmp has_quorum log n can old id agree did new → id_le cmp old.granted new.granted ≡ true
  visit_not_lower total old id agree true new v = v.updated.monotone
  visit_not_lower total old id agree false new v = rw v.same (AtMost-refl (optional-log_id_cmp-total total) old.granted)

  pub monotone : IsTotalOrder cmp → (old : Followers ID C QS) (pairs : List (ID × ℕ)) (ran : List ID) (new : Followers ID C QS)
      → IsRound eq cmp has_quorum log n can old pairs ran new → id_le cmp old.granted new.granted ≡ true
  monotone total old [] ran new r = rw r.1 (AtMost-refl (optional-log_id_cmp-total total) old.granted)
  monotone total old (pair ∷ pairs) ran new r =
      AtMost-trans (optional-log_id_cmp-total total) old.granted r.2.granted new.granted
      (visit_not_lower total old pair.0 pair.1 r.0 r.2 r.4) (monotone total r.2 pairs r.1 new r.5)

  -- some followers ran so far and are caught up, and any round from here is one from the start
  pub record Along (same_leader : C → C → Bool) (old : Followers ID C QS) (pairs : List (ID × ℕ)) (count : ℕ) (now : Followers ID C QS)
      (left : List (ID × ℕ)) : Type 0 where
    pub ran : List ID
    pub counted : count ≡ length ran
    pub on : (more : List ID) (last : Followers ID C QS) → IsRound eq cmp has_quorum log n can now left more last
        → IsRound eq cmp has_quorum log n can old pairs (ran ++ more) last
    pub caught : (id : ID) → is_member eq ran id ≡ true → IsCaughtUp eq same_leader log now id

  module _ (same_leader : C → C → Bool) (old : Followers ID C QS) (pairs : List (ID × ℕ)) where
    pub along_over : (count : ℕ) (now : Followers ID C QS) (pair : ID × ℕ) (left : List (ID × ℕ)) (next : Followers ID C QS)
        → Along same_leader old pairs count now (pair ∷ left)
        → Visits eq cmp has_quorum log n can now pair.0 pair.1 false next → Along same_leader old pairs count next left
    along_over count now pair left next a v = record {
      ran = a.ran;
      counted = a.counted;
      on = λ more last r. a.on more last (false, more, next, refl, v, r);
      caught = λ id h. rw v.same (a.caught id h);
    }

    member_more : (xs : List ID) (x y : ID) → is_member eq (xs ++ x ∷ []) y ≡ true → (is_member eq xs y ≡ true) ⊎ (eq y x ≡ true)
    member_more [] x y h = either (eq y x) h
      where
        either : (b : Bool) → (b || false) ≡ true → (is_member eq [] y ≡ true) ⊎ (b ≡ true)
        either true h = inr refl
        either false h = cc
    member_more (z ∷ xs) x y h = either (λ k. member_more xs x y k) (eq y z) refl h
      where
        either : (is_member eq (xs ++ x ∷ []) y ≡ true → (is_member eq xs y ≡ true) ⊎ (eq y x ≡ true)) → (b : Bool) → b ≡ eq y z
            → (b || is_member eq (xs ++ x ∷ []) y) ≡ true → (is_member eq (z ∷ xs) y ≡ true) ⊎ (eq y x ≡ true)
        either more true is h = inl (rw (← is) refl)
        either more false is h = elim (more h) [ inl before ↦ inl (rw (← is) before) | inr now ↦ inr now ]

    pub along_ran : (count : ℕ) (now : Followers ID C QS) (pair : ID × ℕ) (left : List (ID × ℕ)) (next : Followers ID C QS)
        → Along same_leader old pairs count now (pair ∷ left)
        → Visits eq cmp has_quorum log n can now pair.0 pair.1 true next → IsCaughtUp eq same_leader log next pair.0
        → Along same_leader old pairs (count + 1) next left
    along_ran count now pair left next a v up = record {
      ran = a.ran ++ pair.0 ∷ [];
      counted = (let one = length_more a.ran pair.0 in let before = a.counted in omega arith);
      on = λ more last r. subst (λ (xs : List ID). IsRound eq cmp has_quorum log n can old pairs xs last)
          (sym (append_assoc a.ran (pair.0 ∷ []) more)) (a.on (pair.0 ∷ more) last (true, more, next, refl, v, r));
      caught = λ id h. keeps id (eq pair.0 id) refl (member_more a.ran pair.0 id h);
    }
      where
        written : Writes eq (state eq now) pair.0 v.end (state eq next)
        written = ran_writes now pair.0 pair.1 next v

        same_value : (id : ID) → eq pair.0 id ≡ true → (state eq next).value id ≡ Some v.end
        same_value id t = written.value id ∙ rw t refl

        own : (state eq next).value pair.0 ≡ Some v.end
        own = same_value pair.0 (e.refl pair.0)

        keeps : (id : ID) (b : Bool) → eq pair.0 id ≡ b → (is_member eq a.ran id ≡ true) ⊎ (eq id pair.0 ≡ true)
            → IsCaughtUp eq same_leader log next id
        keeps id true t h = (up.0, same_value id t ∙ sym own ∙ up.1, up.2)
        keeps id false t h = elim h [
          | inl before ↦ (let c = a.caught id before in (c.0, written.value id ∙ rw t c.1, c.2))
          | inr same ↦ (let s : true ≡ false = sym same ∙ e.symm id pair.0 ∙ t in cc)
        ]

    pub round_of : (count : ℕ) (now : Followers ID C QS) (a : Along same_leader old pairs count now [])
        → IsRound eq cmp has_quorum log n can old pairs a.ran now
    round_of count now a = subst (λ (xs : List ID). IsRound eq cmp has_quorum log n can old pairs xs now) (append-nil a.ran)
        (a.on [] now (refl, refl))

module _ {ID C QS : Type 0} {same_leader : C → C → Bool} {eq : ID → ID → Bool} (e : IsEquivalence eq) (cmp : C → C → Ordering)
    (total : IsTotalOrder cmp)
    (reflexive : (x : C) → same_leader x x ≡ true) (ties : (x y : C) → same_leader x y ≡ eq_by_cmp cmp x y) (log : LogView C) (n : ℕ)
    (can : ProgressEntryOf C → ℕ → ℕ → Bool)
    (has_quorum : QS → (ID → Bool) → Bool)
    (superset : (c : QS) (s t : ID → Bool) → ((x : ID) → s x ≡ true → t x ≡ true) → has_quorum c s ≡ true → has_quorum c t ≡ true)
    (old new : Followers ID C QS) (pairs : List (ID × ℕ)) (ran : List ID)
    (round : IsRound eq cmp has_quorum log n can old pairs ran new)
    (caught : (id : ID) → is_member eq ran id ≡ true → IsCaughtUp eq same_leader log new id)
    (ordered : IsInOrderByMatch eq cmp has_quorum new) where
  order : IsTotalOrder (option_cmp (log_id_cmp cmp))
  order = optional-log_id_cmp-total total

  stays : Stays e cmp has_quorum log n can old new
  stays = kept e cmp has_quorum log n can old pairs ran new round

  le_last : id_le cmp log.last log.last ≡ true
  le_last = rw (tied_itself order log.last) refl

  -- a match that is the last log id compares as it does
  alike : (a b : Option (LogIdOf C)) → same_ids same_leader a log.last ≡ true
      → option_cmp (log_id_cmp cmp) a b ≡ option_cmp (log_id_cmp cmp) log.last b
  alike a b h = order.congr a log.last b (is_equal (option_cmp (log_id_cmp cmp) a log.last)
      (tied same_leader cmp total reflexive ties a log.last h))

  alike_right : (a b : Option (LogIdOf C)) → same_ids same_leader a log.last ≡ true
      → option_cmp (log_id_cmp cmp) b a ≡ option_cmp (log_id_cmp cmp) b log.last
  alike_right a b h = order.antisymm b a ∙ ap ordering_reverse (alike a b h) ∙ sym (order.antisymm b log.last)

  -- a voter that ran is reached by the quorum
  pub grants : QuorumRan eq has_quorum old ran → id_le cmp log.last new.granted ≡ true
  grants q =
      let x = q.0.0 in
      let mine = caught x q.0.2 in
      let v = mine.0 in
      let s = v.matching in
      let reaches : (y : ID) → ((state eq old).is_voter y && is_member eq ran y) ≡ true
      → reached (option_cmp (log_id_cmp cmp)) (λ (w : ProgressEntryOf C). w.matching) (state eq new) s y ≡ true =
      λ y h. (let theirs = caught y (second_so ((state eq old).is_voter y) (is_member eq ran y) h) in
      both_true (stays.is_voter y ∙ first_so ((state eq old).is_voter y) (is_member eq ran y) h)
      (rw (theirs.1, alike s theirs.0.matching mine.2.last, alike_right theirs.0.matching log.last theirs.2.last) (le_last))) in
      let full : IsReached (option_cmp (log_id_cmp cmp)) (λ (w : ProgressEntryOf C). w.matching) has_quorum (state eq new) x v = record {
        voter = stays.is_voter x ∙ q.0.1;
        value = mine.1;
        quorum = rw stays.quorum_set (superset old.quorum_set (λ y. (state eq old).is_voter y && is_member eq ran y)
            (reached (option_cmp (log_id_cmp cmp)) (λ (w : ProgressEntryOf C). w.matching) (state eq new) s) reaches q.1);
      } in
      rw (← alike s new.granted mine.2.last) (ordered.counted.others_at_most x v full)

  -- and not more, if no voter was past the last id
  pub grants_no_more : QuorumRan eq has_quorum old ran → NonePastLast eq cmp log old → id_le cmp new.granted log.last ≡ true
  grants_no_more q below = upper
    where
      under : (x : ID) (v : ProgressEntryOf C) → (state eq new).is_voter x ≡ true → (state eq new).value x ≡ Some v
          → id_le cmp v.matching log.last ≡ true
      under x v voter is = elim (kept_or_ran e cmp has_quorum log n can old pairs ran new round x) [
        | inl same ↦ below x v (sym (stays.is_voter x) ∙ voter) (sym same ∙ is)
        | inr did ↦ (let mine = caught x did in let f : mine.0 ≡ v = same_Some mine.0 v (sym mine.1 ∙ is) in
            le_of_eq (option_cmp (log_id_cmp cmp) v.matching log.last)
            (tied same_leader cmp total reflexive ties v.matching log.last (rw (← f) mine.2.last)))
      ]

      upper : id_le cmp new.granted log.last ≡ true
      upper = elim ordered.counted.is_one [
        | inl default ↦ (let x = q.0.0 in let mine = caught x q.0.2 in let low =
            ordered.not_below x mine.0 (stays.is_voter x ∙ q.0.1) mine.1 in
            rw (← order.congr new.default_part new.granted log.last default, ← alike_right mine.0.matching new.default_part mine.2.last)
            low)
        | inr one ↦ rw (← order.congr one.1.matching new.granted log.last one.3) (under one.0 one.1 one.2.voter one.2.value)
      ]

  -- how the round ends
  pub round_end : (count : ℕ) → count ≡ length ran → IsRoundEnd eq same_leader cmp has_quorum log n can old pairs count new ran
  round_end count is = record {
    counted = is;
    few = rw is (few e cmp has_quorum log n can old pairs ran new round);
    among = among e cmp has_quorum log n can old pairs ran new round;
    round = round;
    caught_up = caught;
    others = others;
    voters = stays.is_voter;
    quorum_set = stays.quorum_set;
    default_part = stays.default_part;
    updates = λ some. rw is (all.updates (rw is at some));
    none_ran = λ none. all.none_ran (sym is ∙ none);
    monotone = monotone e cmp has_quorum log n can total old pairs ran new round;
    last_at_most = grants;
    last_at_least = grants_no_more;
  }
    where
      all : Counts e cmp has_quorum log n can (length ran) old new
      all = counts e cmp has_quorum log n can old pairs ran new round

      others : (id : ID) → is_member eq ran id ≡ false → (state eq new).value id ≡ (state eq old).value id
      others id h = elim (kept_or_ran e cmp has_quorum log n can old pairs ran new round id) [
        | inl same ↦ same
        | inr did ↦ (let s : true ≡ false = sym did ∙ h in cc)
      ]
