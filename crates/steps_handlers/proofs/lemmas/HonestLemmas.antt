-- A request that is a piece of a leader's log is taken.
use Rattle.std.proofs.Common.{◌≡◌, ℕ, suc, ◌+◌, ◌-◌, ◌<◌, ◌≤◌, ◌==◌, Bool, true, false, ◌&&◌, ◌||◌, List, [], ◌∷◌, Option, Some, None, IsTrue, if◌then◌else◌, nat_eq, nat_le, refl, sym, subst, ap, arith, inl, inr, true≢false, ◌∙◌}
use Rattle.std.proofs.lemmas.Bool.{and_parts, cases_lt, or_left, or_parts, or_right}
use Rattle.std.proofs.lemmas.Bool.Decides.{nat_tests}
use Rattle.std.specs.Prelude.{drop, is_some, slice_get}
use Rattle.std.specs.List.{prefix_len}
use Rattle.std.specs.Option.{option_cmp, option_or}
use Rattle.std.specs.Cmp.{IsEquivalence, IsTotalOrder}
use Rattle.std.specs.Cmp.Derive.{both_true}
use Rattle.std.specs.Ordering.{is_eq, is_le, ordering_then}
use Rattle.std.specs.declared.cmp.Ordering.{Ordering}
use Rattle.std.specs.declared.cmp.Ordering.TheVariants.{Less, Equal, Greater}
use Rattle.raft_base.specs.LogId.{id_le, id_lt, index_of, log_id_cmp, next_index, same_ids}
use Rattle.raft_base.specs.LogIdLawful.{optional-log_id_cmp-total}
use Rattle.raft_base.specs.LogIndex.{index_le, index_lt}
use Rattle.raft_base.specs.declared.log_id.LogIdOf.{LogIdOf}
use Rattle.steps_handlers.proofs.lemmas.EntryLemmas.{same_through}
use Rattle.steps_handlers.specs.Append.{has_entry, last_id_of_request, lesser_id, may_cut_at, may_take, entries_to_append}
use Rattle.steps_handlers.specs.Entries.{allows_commit, effective_below, effective_with, ends_before as log_ends_before, entry_ids, has_id, has_with, last_below, may_append_after, may_commit_with, may_cut, may_take_new}
use Rattle.steps_handlers.specs.Honest.{known_end, HasBelow, IsLeadersLog, IsPieceOf}
use Rattle.raft_members.specs.membership.Stored.{log_id_of}
use Rattle.raft_progress.proofs.lemmas.OrderLemmas.{AtMost-from_lt, AtMost-refl, AtMost-trans, not_lt-from_AtMost}
use Rattle.raft_state.proofs.lemmas.log_id_list.EndsLemmas.{last_of_some}
use Rattle.raft_state.proofs.lemmas.log_id_list.ExtendLemmas.{is_key_list}
use Rattle.raft_state.proofs.lemmas.log_id_list.FrontLemmas.{from_first, front_last, none_stay}
use Rattle.raft_state.proofs.lemmas.log_id_list.IdOrderLemmas.{leaders_symm, leaders_trans, none_at_most, then_below, then_less, upto_equal}
use Rattle.raft_state.proofs.lemmas.log_id_list.KeptLemmas.{from_end, has_id_at}
use Rattle.raft_state.proofs.lemmas.log_id_list.KeyListLemmas.{IsKeyList}
use Rattle.raft_state.proofs.lemmas.log_id_list.OrderLemmas.{From, index_within, never_fall_by_index}
use Rattle.raft_state.proofs.lemmas.log_id_list.SameLogLemmas.{equal_found}
use Rattle.raft_state.proofs.lemmas.sound.LoggedIds.{either_second, ends_before, ends_not_past, found_below, in_log, in_order, is_kept, within}
use Rattle.raft_state.proofs.lemmas.sound.SoundCalls.{committed_in, purge_before, purge_point_in}
use Rattle.raft_state.proofs.lemmas.validate.CommittedLemmas.{cut_past_committed}
use Rattle.raft_state.proofs.lemmas.validate.RelationLemmas.{all_hold}
use Rattle.raft_state.specs.entry.Entry.{payload_membership}
use Rattle.raft_state.specs.log_id_list.FullLog.{end_index, first_index, full_log}
use Rattle.raft_state.specs.log_id_list.LogConditions.{all_follow, follows}
use Rattle.raft_state.specs.log_id_list.LogEdits.{front}
use Rattle.raft_state.specs.log_id_list.LogKept.{HasIds}
use Rattle.raft_state.specs.log_id_list.LogReads.{first_id, id_at, last_id}
use Rattle.raft_state.specs.log_id_list.LogReadsLawful.{id_at-indexed}
use Rattle.raft_state.specs.membership_state.MembershipMoves.{after_truncate, is_cut}
use Rattle.raft_state.specs.membership_state.Memberships.{Memberships}
use Rattle.raft_state.specs.raft_state.Appended.{are_consecutive, last_stored, memberships_follow}
use Rattle.raft_state.specs.raft_state.Sound.{purged_or_logged, IsSound}
use Rattle.raft_state.specs.raft_state.Truncate.{can_truncate_log}
use Rattle.raft_state.specs.raft_state.Valid.{fits_purged_next}
use Rattle.raft_state.specs.declared.entry.EntryOf.{EntryOf}
use Rattle.raft_state.specs.declared.raft_state.RaftStateIn.{RaftStateIn}

-- indexes of log ids, as numbers and as tests
index_is_below : {C : Type 0} (o : Option (LogIdOf C)) (i : ℕ) → next_index o ≤ i → index_lt (index_of o) (Some i) ≡ true
index_is_below None i le = refl
index_is_below (Some x) i le = grind (arith, nat_tests)

index_not_below : {C : Type 0} (o : Option (LogIdOf C)) (i : ℕ) → index_lt (index_of o) (Some i) ≡ false → i < next_index o
index_not_below None i h = cc
index_not_below (Some x) i h = grind (arith, nat_tests)

index_at_most : {C : Type 0} (a b : Option (LogIdOf C)) → next_index a ≤ next_index b → index_le (index_of a) (index_of b) ≡ true
index_at_most None None le = refl
index_at_most None (Some y) le = refl
index_at_most (Some x) None le = absurd (omega arith)
index_at_most (Some x) (Some y) le = grind (arith, nat_tests)

-- of ordered log ids the leaders are in order
leader_at_most : (o p : Ordering) → is_le (ordering_then o p) ≡ true → is_le o ≡ true
leader_at_most Less p h = refl
leader_at_most Equal p h = refl
leader_at_most Greater p h = cc

-- each index from the first one up to the end has a log id
found_at : {C : Type 0} (b : ℕ) (xs : List (LogIdOf C)) (i : ℕ) → From b xs → b ≤ i → i < end_index xs
    → (x : LogIdOf C) × (id_at xs i ≡ Some x)
found_at b [] i row le lt = absurd (omega arith)
found_at b (x ∷ xs) i row le lt = let e = from_end b x xs row in has_id_at b (x ∷ xs) i row le (omega arith)

begins_at_most : {C : Type 0} (next i : ℕ) (log : List (LogIdOf C)) → fits_purged_next next (first_id log) ≡ true → next ≤ i
    → first_index log ≤ i
begins_at_most next i [] fits le = omega arith
begins_at_most next i (x ∷ xs) fits le = by (next == 0) refl fits
  where
    by : (t : Bool) → t ≡ (next == 0) → (if t then index_le (index_of (Some x)) (Some 0) else next_index (Some x) == next) ≡ true
        → x.index ≤ i
    by true e f = let z : x.index ≤ 0 = grind (arith, nat_tests) in omega arith
    by false e f = let z : x.index + 1 ≡ next = grind (arith, nat_tests) in omega arith

-- the last one that is purged is the first one of the log
purged_first : {C : Type 0} (next i : ℕ) (log : List (LogIdOf C)) → fits_purged_next next (first_id log) ≡ true → next ≡ i + 1
    → (x : LogIdOf C) × (first_id log ≡ Some x) × (id_at log i ≡ Some x)
purged_first {C} next i log fits is = by (next == 0) refl fits
  where
    first : (xs : List (LogIdOf C)) → (next_index (first_id xs) == next) ≡ true
        → (x : LogIdOf C) × (first_id xs ≡ Some x) × (id_at xs i ≡ Some x)
    first [] f = let z : 0 ≡ next = grind (arith, nat_tests) in absurd (omega arith)
    first (x ∷ xs) f =
        let z : x.index + 1 ≡ next = grind (arith, nat_tests) in
        let t : (x.index == i) ≡ true = grind (arith, nat_tests) in (x, refl, rw t refl)

    by : (t : Bool) → t ≡ (next == 0)
        → (if t then index_le (index_of (first_id log)) (Some 0) else next_index (first_id log) == next) ≡ true
        → (x : LogIdOf C) × (first_id log ≡ Some x) × (id_at log i ≡ Some x)
    by true e f = let z : next ≡ 0 = grind (arith, nat_tests) in absurd (omega arith)
    by false e f = first log f

-- the last of several entries
last_more : {C K N D : Type 0} (p : Option (LogIdOf C)) (e : EntryOf C K N D) (es : List (EntryOf C K N D))
    → last_id_of_request p (e ∷ es) ≡ last_id_of_request (Some e.log_id) es
last_more p e [] = refl
last_more p e (f ∷ es) = rw (last_of_some f.log_id (entry_ids es)) refl

last_by_ids : {C : Type 0} (p : Option (LogIdOf C)) (x : LogIdOf C) (ids : List (LogIdOf C))
    → option_or (last_id (x ∷ ids)) p ≡ option_or (last_id ids) (Some x)
last_by_ids p x [] = refl
last_by_ids p x (y ∷ ids) = rw (last_of_some y ids) refl

-- consecutive log ids after another one with the same index
after_same_index : {C : Type 0} (p l : Option (LogIdOf C)) (ids : List (LogIdOf C)) → next_index l ≡ next_index p
    → are_consecutive p ids ≡ true → are_consecutive l ids ≡ true
after_same_index p l [] same row = refl
after_same_index p l (x ∷ ids) same row = rw same row

first_after : {C : Type 0} (p : Option (LogIdOf C)) (x : LogIdOf C) (ids : List (LogIdOf C)) → are_consecutive p (x ∷ ids) ≡ true
    → x.index ≡ next_index p
first_after p x ids row = let t : nat_eq x.index (next_index p) ≡ true = (and_parts _ _ row).0 in grind (arith, nat_tests)

rest_after : {C : Type 0} (p : Option (LogIdOf C)) (x : LogIdOf C) (ids : List (LogIdOf C)) → are_consecutive p (x ∷ ids) ≡ true
    → are_consecutive (Some x) ids ≡ true
rest_after p x ids row = (and_parts (nat_eq x.index (next_index p)) (are_consecutive (Some x) ids) row).1

-- consecutive log ids have each index up to the last one
at_place : {C : Type 0} (p : Option (LogIdOf C)) (ids : List (LogIdOf C)) (i : ℕ) → are_consecutive p ids ≡ true → next_index p ≤ i
    → i < next_index (option_or (last_id ids) p) → (x : LogIdOf C) × (slice_get ids (i - next_index p) ≡ Some x) × (x.index ≡ i)
at_place p [] i row from upto = absurd (omega arith)
at_place {C} p (x ∷ ids) i row from upto = elim (cases_lt (next_index p) i) [
  | inl later ↦
      (let at = first_after p x ids row in
      let ends : i < next_index (option_or (last_id ids) (Some x)) = rw (last_by_ids p x ids) at upto in
      let r = at_place (Some x) ids i (rest_after p x ids row) (omega arith) ends in
      let n : i - next_index p ≡ suc (i - (x.index + 1)) = omega arith in
      (r.0, rw n r.1, r.2))
  | inr here ↦
      (let at = first_after p x ids row in
      let n : i - next_index p ≡ 0 = omega arith in
      (x, rw n refl, omega arith))
]

-- the log of a leader, which is in order, and a request that is a piece of it
module _ {C : Type 0} (cmp : C → C → Ordering) (eq : C → C → Bool) (total : IsTotalOrder cmp) (law : (x y : C) → eq x y ≡ is_eq (cmp x y))
    (eqs : IsEquivalence eq) where
  as_in_log : (log : List (LogIdOf C)) (o : Option (LogIdOf C)) → has_id eq log o ≡ true → in_log eq log o ≡ true
  as_in_log log None h = refl
  as_in_log log (Some x) h = h

  -- what two log ids are that equal a third one
  both_same : (o : Option (LogIdOf C)) (x y : LogIdOf C) → same_ids eq o (Some x) ≡ true → same_ids eq o (Some y) ≡ true
      → same_ids eq (Some x) (Some y) ≡ true
  both_same o x y h g =
      let a = equal_found eq o x h in let a3 = a.3 in
      let b = equal_found eq o y g in let b3 = b.3 in
      let a1 = a.1 in let b1 = b.1 in
      let is : a.0 ≡ b.0 = cc in
      let index : a.0.index ≡ b.0.index = ap (λ z. z.index) is in
      let t : nat_eq x.index y.index ≡ true = grind (arith, nat_tests) in
      let back = rw is at (leaders_symm eqs a.0.leader_id x.leader_id a.2) in
      both_true (leaders_trans eqs x.leader_id b.0.leader_id y.leader_id back b.2) t

  equal_leaders : (a b : C) → eq a b ≡ true → is_le (cmp a b) ≡ true
  equal_leaders a b e = upto_equal cmp eq total law a b b e (AtMost-refl total b)

  module _ (ks : List (LogIdOf C)) (are : IsKeyList cmp ks) where
    -- in a log the leaders of log ids do not fall
    leaders_in : (x y : LogIdOf C) → in_log eq (full_log ks) (Some x) ≡ true → in_log eq (full_log ks) (Some y) ≡ true
        → x.index < y.index → is_le (cmp x.leader_id y.leader_id) ≡ true
    leaders_in x y h g before =
        let f = equal_found eq (id_at (full_log ks) x.index) x h in
        let z = equal_found eq (id_at (full_log ks) y.index) y g in
        let falls = never_fall_by_index cmp total ks are x.index y.index f.0 z.0 before f.1 z.1 in
        let low = upto_equal cmp eq total law x.leader_id f.0.leader_id z.0.leader_id
        (leaders_symm eqs f.0.leader_id x.leader_id f.2) falls in
        AtMost-trans total x.leader_id z.0.leader_id y.leader_id low (equal_leaders z.0.leader_id y.leader_id z.2)

    -- and a log id with a lesser index is below the other
    below_in : (a : Option (LogIdOf C)) (y : LogIdOf C) → in_log eq (full_log ks) a ≡ true → in_log eq (full_log ks) (Some y) ≡ true
        → next_index a ≤ y.index → id_lt cmp a (Some y) ≡ true
    below_in None y h g le = refl
    below_in (Some x) y h g le =
        then_less (cmp x.leader_id y.leader_id) x.index y.index (leaders_in x y h g (omega arith)) (omega arith)

    at_most_in : (a b : Option (LogIdOf C)) → in_log eq (full_log ks) a ≡ true → in_log eq (full_log ks) b ≡ true
        → next_index a ≤ next_index b → id_le cmp a b ≡ true
    at_most_in None b h g le = none_at_most cmp b
    at_most_in (Some x) None h g le = absurd (omega arith)
    at_most_in (Some x) (Some y) h g le = elim (cases_lt x.index y.index) [
      | inl before ↦ then_below (cmp x.leader_id y.leader_id) x.index y.index (leaders_in x y h g before) (omega arith)
      | inr same ↦
          (let at : x.index ≡ y.index = omega arith in
          let there = subst (λ (i : ℕ). same_ids eq (id_at (full_log ks) i) (Some x) ≡ true) at h in
          let leader = (and_parts _ _ (both_same (id_at (full_log ks) y.index) x y there g)).0 in
          then_below (cmp x.leader_id y.leader_id) x.index y.index (equal_leaders x.leader_id y.leader_id leader) (omega arith))
    ]

    module _ {K N D : Type 0} where
      -- entries of a log are in order
      entries_follow : (l : Option (LogIdOf C)) (es : List (EntryOf C K N D)) → in_log eq (full_log ks) l ≡ true
          → HasIds eq (entry_ids es) (full_log ks) → are_consecutive l (entry_ids es) ≡ true → all_follow cmp l (entry_ids es) ≡ true
      entries_follow l [] there own row = refl
      entries_follow l (e ∷ es) there own row =
          let at = first_after l e.log_id (entry_ids es) row in
          both_true (next l there at)
          (entries_follow (Some e.log_id) es (own 0 e.log_id refl) (λ n id at. own (suc n) id at)
          (rest_after l e.log_id (entry_ids es) row))
        where
          next : (l : Option (LogIdOf C)) → in_log eq (full_log ks) l ≡ true → e.log_id.index ≡ next_index l
              → follows cmp l e.log_id ≡ true
          next None there at = refl
          next (Some x) there at =
              both_true (grind (arith, nat_tests)) (leaders_in x e.log_id there (own 0 e.log_id refl) (omega arith))

      -- and so are their memberships
      abbrev InOrder : Option (LogIdOf C) → List (EntryOf C K N D) → Type 0
      InOrder o es = memberships_follow cmp (λ (e : EntryOf C K N D). e.log_id) (λ e. is_some (payload_membership e.payload)) o es ≡ true

      members_follow : (effective l : Option (LogIdOf C)) (es : List (EntryOf C K N D)) → in_log eq (full_log ks) effective ≡ true
          → next_index effective ≤ next_index l → HasIds eq (entry_ids es) (full_log ks) → are_consecutive l (entry_ids es) ≡ true
          → memberships_follow cmp (λ (e : EntryOf C K N D). e.log_id) (λ e. is_some (payload_membership e.payload)) effective es ≡ true
      members_follow effective l [] there le own row = refl
      members_follow effective l (e ∷ es) there le own row =
          let at = first_after l e.log_id (entry_ids es) row in
          let low : next_index effective ≤ e.log_id.index = omega arith in
          by (is_some (payload_membership e.payload)) low
          (members_follow (Some e.log_id) (Some e.log_id) es (own 0 e.log_id refl) (omega arith) (λ n id at. own (suc n) id at)
          (rest_after l e.log_id (entry_ids es) row))
          (members_follow effective (Some e.log_id) es there (omega arith) (λ n id at. own (suc n) id at)
          (rest_after l e.log_id (entry_ids es) row))
        where
          by : (t : Bool) → next_index effective ≤ e.log_id.index → InOrder (Some e.log_id) es → InOrder effective es
              → (if t then id_lt cmp effective (Some e.log_id) && index_lt (index_of effective) (Some e.log_id.index)
              && memberships_follow cmp (λ (e : EntryOf C K N D). e.log_id) (λ e. is_some (payload_membership e.payload))
              (Some e.log_id) es
              else memberships_follow cmp (λ (e : EntryOf C K N D). e.log_id) (λ e. is_some (payload_membership e.payload))
              effective es) ≡ true
          by true low stored others =
              both_true (both_true (below_in effective e.log_id there (own 0 e.log_id refl) low)
              (index_is_below effective e.log_id.index low)) stored
          by false low stored others = others

      -- the last one of them, and the last one that stores a membership, are in the log too
      last_in : (p : Option (LogIdOf C)) (es : List (EntryOf C K N D)) → in_log eq (full_log ks) p ≡ true
          → HasIds eq (entry_ids es) (full_log ks) → in_log eq (full_log ks) (last_id_of_request p es) ≡ true
      last_in p [] there own = there
      last_in p (e ∷ es) there own =
          rw (last_more p e es) (last_in (Some e.log_id) es (own 0 e.log_id refl) (λ n id at. own (suc n) id at))

      stored_in : (effective : Option (LogIdOf C)) (es : List (EntryOf C K N D)) → in_log eq (full_log ks) effective ≡ true
          → HasIds eq (entry_ids es) (full_log ks) → in_log eq (full_log ks) (effective_with effective es) ≡ true
      stored_in effective [] there own = there
      stored_in effective (e ∷ es) there own =
          by (is_some (payload_membership e.payload)) (stored_in (Some e.log_id) es (own 0 e.log_id refl) (λ n id at. own (suc n) id at))
          (stored_in effective es there (λ n id at. own (suc n) id at))
        where
          by : (t : Bool) → in_log eq (full_log ks) (effective_with (Some e.log_id) es) ≡ true
              → in_log eq (full_log ks) (effective_with effective es) ≡ true → in_log eq (full_log ks)
              (last_stored (λ (e : EntryOf C K N D). e.log_id) (λ e. is_some (payload_membership e.payload))
              (if t then Some e.log_id else effective) es) ≡ true
          by true stored others = stored
          by false stored others = others

  module _ {K N I L : Type 0} (s : RaftStateIn K N I L C) (are : IsKeyList cmp s.log_ids) (sound : IsSound eq cmp s)
      (ks : List (LogIdOf C)) (leader : IsLeadersLog eq cmp s ks) where
    keys : IsKeyList cmp ks
    keys = is_key_list cmp ks leader.in_order

    row : From (first_index (full_log s.log_ids)) (full_log s.log_ids)
    row = from_first cmp s.log_ids are

    fits : fits_purged_next s.purged_next (first_id (full_log s.log_ids)) ≡ true
    fits = (all_hold _ _ _ sound.valid).0

    -- what is purged is committed
    purged_low : s.purged_next ≤ next_index s.committed
    purged_low = elim (cases_lt 0 s.purged_next) [
      | inl some ↦
          (let is : s.purged_next ≡ (s.purged_next - 1) + 1 = omega arith in
          let x = purged_first s.purged_next (s.purged_next - 1) (full_log s.log_ids) fits is in
          let at : x.0.index ≡ s.purged_next - 1 = rw x.2 at (id_at-indexed (full_log s.log_ids) (s.purged_next - 1)) in
          let t : (s.purged_next == 0) ≡ false = grind (arith, nat_tests) in
          let first_low : id_le cmp (if s.purged_next == 0 then None else first_id (full_log s.log_ids)) s.purge_upto ≡ true =
          (all_hold _ _ _ ((all_hold _ _ _ sound.valid).1)).0 in
          let low : id_le cmp (Some x.0) s.purge_upto ≡ true = rw (t, x.1) at first_low in
          let own : in_log eq (full_log s.log_ids) (Some x.0) ≡ true =
          rw (at, x.2) (let n : nat_eq x.0.index x.0.index ≡ true = grind (arith, nat_tests) in both_true (eqs.refl x.0.leader_id) n) in
          let first = in_order cmp eq total law eqs s.log_ids (Some x.0) s.purge_upto are own (purge_point_in cmp eq s sound) low in
          let low_point = purge_before cmp eq total law eqs s are sound in
          omega arith)
      | inr none ↦ omega arith
    ]

    -- a log id that both logs have a log id for, where they agree
    agrees : (end : ℕ) (x y : LogIdOf C) → HasBelow eq end s (full_log ks) → x.index < end
        → in_log eq (full_log ks) (Some x) ≡ true → id_at (full_log s.log_ids) x.index ≡ Some y
        → in_log eq (full_log s.log_ids) (Some x) ≡ true
    agrees end x y has lt there here =
        let same = has x.index y lt here in
        rw here (both_same (id_at (full_log ks) x.index) y x same there)

    -- what the server has, the leader has, where they agree
    has_too : (end : ℕ) (o : Option (LogIdOf C)) → HasBelow eq end s (full_log ks) → next_index o ≤ end
        → in_log eq (full_log s.log_ids) o ≡ true → in_log eq (full_log ks) o ≡ true
    has_too end None has le here = refl
    has_too end (Some x) has le here =
        let f = equal_found eq (id_at (full_log s.log_ids) x.index) x here in
        let same = has x.index f.0 (omega arith) f.1 in
        same_through eq eqs (id_at (full_log ks) x.index) (Some f.0) x same (rw f.1 at here)

    has_committed : in_log eq (full_log ks) s.committed ≡ true
    has_committed = has_too (known_end s) s.committed leader.complete (omega arith) (committed_in cmp eq s sound)

    -- a log id of the leader's that the server has neither logged nor purged is past all that is
    -- committed
    may_cut_fresh : (x : LogIdOf C) → in_log eq (full_log ks) (Some x) ≡ true → purged_or_logged eq s (Some x) ≡ false
        → (s.purged_next ≤ x.index) × (may_cut cmp x.index s ≡ true)
    may_cut_fresh x there fresh =
        let apart = or_parts (nat_le (x.index + 1) s.purged_next) (in_log eq (full_log s.log_ids) (Some x))
        (sym (is_kept eq s (Some x)) ∙ fresh) in
        let apart0 = apart.0 in
        let past : s.purged_next ≤ x.index = grind (arith, nat_tests) in
        (past, by (log_ends_before x.index s) refl past apart.1)
      where
        known : (y : LogIdOf C) → id_at (full_log s.log_ids) x.index ≡ Some y → in_log eq (full_log s.log_ids) (Some x) ≡ false
            → known_end s ≤ x.index
        known y here none = elim (cases_lt x.index (known_end s)) [
          | inl lt ↦ absurd (true≢false (sym (agrees (known_end s) x y leader.complete lt there here) ∙ none))
          | inr ge ↦ ge
        ]

        by : (t : Bool) → log_ends_before x.index s ≡ t → s.purged_next ≤ x.index → in_log eq (full_log s.log_ids) (Some x) ≡ false
            → may_cut cmp x.index s ≡ true
        by true e past none = or_left (log_ends_before x.index s) (can_truncate_log cmp x.index s) e
        by false e past none =
            let upto = index_not_below (last_id (full_log s.log_ids)) x.index e in
            let from = begins_at_most s.purged_next x.index (full_log s.log_ids) fits past in
            let y = found_at (first_index (full_log s.log_ids)) (full_log s.log_ids) x.index row from upto in
            let end = known y.0 y.1 none in
            let committed = index_is_below s.committed x.index (omega arith) in
            let member = index_is_below (log_id_of s.membership_state.committed) x.index (omega arith) in
            let low = cut_past_committed cmp eq total law eqs s x.index are sound.committed committed in
            or_right (log_ends_before x.index s) (can_truncate_log cmp x.index s) (both_true (both_true committed low) member)

    -- if the log has what a log id of the leader's is, or its index is purged, both agree up to it
    agree_upto : (p : Option (LogIdOf C)) → purged_or_logged eq s p ≡ true → in_log eq (full_log ks) p ≡ true
        → HasBelow eq (next_index p) s (full_log ks)
    agree_upto None here there i id lt at = absurd (omega arith)
    agree_upto (Some q) here there i id lt at =
        by (nat_le (q.index + 1) s.purged_next) refl (sym (is_kept eq s (Some q)) ∙ here)
      where
        by : (t : Bool) → t ≡ nat_le (q.index + 1) s.purged_next → t || in_log eq (full_log s.log_ids) (Some q) ≡ true
            → IsTrue (same_ids eq (id_at (full_log ks) i) (Some id))
        by true e h =
            let low = purged_low in
            let le : q.index + 1 ≤ s.purged_next = grind (arith, nat_tests) in
            leader.complete i id (omega arith) at
        by false e h =
            let z = equal_found eq (id_at (full_log s.log_ids) q.index) q h in
            let mine : same_ids eq (Some z.0) (Some q) ≡ true = rw z.1 at h in
            let back : same_ids eq (Some q) (Some z.0) ≡ true = both_same (Some z.0) q z.0 mine (own z.0) in
            let same = same_through eq eqs (id_at (full_log ks) q.index) (Some q) z.0 there back in
            elim (cases_lt i q.index) [
              | inl before ↦ leader.matching q.index z.0 z.1 same i id before at
              | inr upto ↦
                  (let is : i ≡ q.index = omega arith in
                  let here = rw is at at in let z1 = z.1 in let one : id ≡ z.0 = cc in
                  rw (is, one) same)
            ]
          where
            own : (z : LogIdOf C) → same_ids eq (Some z) (Some z) ≡ true
            own z = let n : nat_eq z.index z.index ≡ true = grind (arith, nat_tests) in both_true (eqs.refl z.leader_id) n

    -- the log id before new entries is the leader's
    last_agrees : (p : Option (LogIdOf C)) → purged_or_logged eq s p ≡ true → in_log eq (full_log ks) p ≡ true
        → s.purged_next ≤ next_index p
        → (in_log eq (full_log ks) (last_id (front (full_log s.log_ids) (next_index p))) ≡ true)
        × (next_index (last_id (front (full_log s.log_ids) (next_index p))) ≡ next_index p)
    last_agrees None here there past =
        let none = none_stay 0 (full_log s.log_ids) refl in rw (← none) (refl, refl)
    last_agrees (Some q) here there past = found (by (nat_le (q.index + 1) s.purged_next) refl (sym (is_kept eq s (Some q)) ∙ here))
      where
        by : (t : Bool) → t ≡ nat_le (q.index + 1) s.purged_next → t || in_log eq (full_log s.log_ids) (Some q) ≡ true
            → (z : LogIdOf C) × (id_at (full_log s.log_ids) q.index ≡ Some z)
        by true e h =
            let le : q.index + 1 ≤ s.purged_next = grind (arith, nat_tests) in
            let x = purged_first s.purged_next q.index (full_log s.log_ids) fits (omega arith) in (x.0, x.2)
        by false e h = let z = equal_found eq (id_at (full_log s.log_ids) q.index) q h in (z.0, z.1)

        found : (z : LogIdOf C) × (id_at (full_log s.log_ids) q.index ≡ Some z)
            → (in_log eq (full_log ks) (last_id (front (full_log s.log_ids) (q.index + 1))) ≡ true)
            × (next_index (last_id (front (full_log s.log_ids) (q.index + 1))) ≡ q.index + 1)
        found (z, at) =
            let index : z.index ≡ q.index = rw at at (id_at-indexed (full_log s.log_ids) q.index) in
            let w = index_within (first_index (full_log s.log_ids)) q.index (full_log s.log_ids) z row at in
            let one : q.index + 1 ≡ suc q.index = omega arith in
            let last = front_last (first_index (full_log s.log_ids)) q.index (full_log s.log_ids) row w.1 in
            let same = agree_upto (Some q) here there q.index z (omega arith) at in
            let own = subst (λ (i : ℕ). same_ids eq (id_at (full_log ks) i) (Some z) ≡ true) (sym index) same in
            rw (one, last, at) (own, omega arith)

    -- a membership below new entries is the leader's
    membership_agrees : (end : ℕ) (o : Option (LogIdOf C)) → HasBelow eq end s (full_log ks) → purged_or_logged eq s o ≡ true
        → (next_index o ≤ s.purged_next → has_id eq (full_log ks) o ≡ true) → next_index o ≤ end → in_log eq (full_log ks) o ≡ true
    membership_agrees end o has here purged le = by (nat_le (next_index o) s.purged_next) refl (sym (is_kept eq s o) ∙ here)
      where
        by : (t : Bool) → t ≡ nat_le (next_index o) s.purged_next → t || in_log eq (full_log s.log_ids) o ≡ true
            → in_log eq (full_log ks) o ≡ true
        by true e h = as_in_log (full_log ks) o (purged (grind (arith, nat_tests)))
        by false e h = has_too end o has le h

    -- a purged or logged index is before the end
    index_within_log : (end : ℕ) (o : Option (LogIdOf C)) → purged_or_logged eq s o ≡ true → s.purged_next ≤ end
        → next_index (last_id (full_log s.log_ids)) ≤ end → next_index o ≤ end
    index_within_log end None here past upto = omega arith
    index_within_log end (Some x) here past upto = by (nat_le (x.index + 1) s.purged_next) refl (sym (is_kept eq s (Some x)) ∙ here)
      where
        by : (t : Bool) → t ≡ nat_le (x.index + 1) s.purged_next → t || in_log eq (full_log s.log_ids) (Some x) ≡ true → x.index + 1 ≤ end
        by true e h = let le : x.index + 1 ≤ s.purged_next = grind (arith, nat_tests) in omega arith
        by false e h = let w = within eq (first_index (full_log s.log_ids)) (full_log s.log_ids) x row h in let w1 = w.1 in omega arith

    effective_agrees : (since : ℕ) → HasBelow eq since s (full_log ks) → s.purged_next ≤ since → may_cut cmp since s ≡ true
        → (in_log eq (full_log ks) (effective_below since s) ≡ true) × (next_index (effective_below since s) ≤ since)
    effective_agrees since has past may = by (log_ends_before since s) refl may
      where
        effective : next_index (log_id_of s.membership_state.effective) ≤ since
            → (in_log eq (full_log ks) (log_id_of s.membership_state.effective) ≡ true)
            × (next_index (log_id_of s.membership_state.effective) ≤ since)
        effective le = (
          membership_agrees since (log_id_of s.membership_state.effective) has sound.effective_membership
              leader.effective_membership le,
          le,
        )

        cut : (t : Bool) → t ≡ is_cut since s.membership_state → next_index (log_id_of s.membership_state.committed) ≤ since
            → (in_log eq (full_log ks) (log_id_of (let m : Memberships C K N = (if t
            then record { committed = s.membership_state.committed; effective = s.membership_state.committed }
            else s.membership_state) in m).effective) ≡ true)
            × (next_index (log_id_of (let m : Memberships C K N = (if t
            then record { committed = s.membership_state.committed; effective = s.membership_state.committed }
            else s.membership_state) in m).effective) ≤ since)
        cut true e le = (
          membership_agrees since (log_id_of s.membership_state.committed) has sound.committed_membership
              leader.committed_membership le,
          le,
        )
        cut false e le = effective (ends_not_past (log_id_of s.membership_state.effective) since (sym e))

        by : (t : Bool) → t ≡ log_ends_before since s → t || can_truncate_log cmp since s ≡ true
            → (in_log eq (full_log ks) (log_id_of (let m : Memberships C K N = (if t then s.membership_state
            else after_truncate since s.membership_state) in m).effective) ≡ true)
            × (next_index (log_id_of (let m : Memberships C K N = (if t then s.membership_state
            else after_truncate since s.membership_state) in m).effective) ≤ since)
        by true e h =
            let upto = ends_before (last_id (full_log s.log_ids)) since (sym e) in
            effective (index_within_log since (log_id_of s.membership_state.effective) sound.effective_membership past upto)
        by false e h =
            let member = ends_before (log_id_of s.membership_state.committed) since ((and_parts _ _ h).1) in
            cut (is_cut since s.membership_state) refl member

    -- what the leader has below the next index of such a log id, the server has too, if it is not purged
    has_old : (p : Option (LogIdOf C)) (x : LogIdOf C) → purged_or_logged eq s p ≡ true → in_log eq (full_log ks) p ≡ true
        → in_log eq (full_log ks) (Some x) ≡ true → s.purged_next ≤ x.index → x.index < next_index p
        → in_log eq (full_log s.log_ids) (Some x) ≡ true
    has_old None x here there own past lt = absurd (omega arith)
    has_old (Some q) x here there own past lt =
        let t : nat_le (q.index + 1) s.purged_next ≡ false = grind (arith, nat_tests) in
        let logged = either_second _ _ t (sym (is_kept eq s (Some q)) ∙ here) in
        let from = begins_at_most s.purged_next x.index (full_log s.log_ids) fits past in
        let y = found_below eq (first_index (full_log s.log_ids)) x.index (full_log s.log_ids) q row logged from (omega arith) in
        agrees (q.index + 1) x y.0 (agree_upto (Some q) here there) lt own y.1

    -- what is to be committed past the committed log id is past what is purged
    past_purged : (id : LogIdOf C) → in_log eq (full_log ks) (Some id) ≡ true → id_lt cmp s.committed (Some id) ≡ true
        → s.purged_next ≤ id.index
    past_purged id own up = elim (cases_lt id.index s.purged_next) [
      | inl below ↦
          (let low = purged_low in
          let le = at_most_in ks keys (Some id) s.committed own has_committed (omega arith) in
          let not = not_lt-from_AtMost (optional-log_id_cmp-total total) (Some id) s.committed le in
          absurd (true≢false (sym up ∙ not)))
      | inr past ↦ past
    ]

    least_in : (a b : Option (LogIdOf C)) → in_log eq (full_log ks) a ≡ true → in_log eq (full_log ks) b ≡ true
        → (in_log eq (full_log ks) (lesser_id cmp a b) ≡ true) × (next_index (lesser_id cmp a b) ≤ next_index b)
    least_in a b h g = by (id_lt cmp a b) refl
      where
        by : (t : Bool) → t ≡ id_lt cmp a b
            → (in_log eq (full_log ks) (if t then a else b) ≡ true) × (next_index (if t then a else b) ≤ next_index b)
        by true e = (
          h,
          in_order cmp eq total law eqs ks a b keys h g
              (AtMost-from_lt (option_cmp (log_id_cmp cmp)) a b (sym e)),
        )
        by false e = (g, omega arith)

    allowed : (effective id : Option (LogIdOf C)) → (id_le cmp effective id ≡ true → next_index effective ≤ next_index id)
        → allows_commit cmp effective id ≡ true
    allowed effective id le = by (id_le cmp effective id) refl
      where
        by : (t : Bool) → t ≡ id_le cmp effective id → (if t then index_le (index_of effective) (index_of id) else true) ≡ true
        by true e = index_at_most effective id (le (sym e))
        by false e = refl

    -- an effective membership that is in the log, or purged, allows a log id that the log has
    effective_low : (id : Option (LogIdOf C)) → in_log eq (full_log ks) id ≡ true → in_log eq (full_log s.log_ids) id ≡ true
        → id_le cmp (log_id_of s.membership_state.effective) id ≡ true
        → next_index (log_id_of s.membership_state.effective) ≤ next_index id
    effective_low id own here le =
        by (nat_le (next_index (log_id_of s.membership_state.effective)) s.purged_next) refl
        (sym (is_kept eq s (log_id_of s.membership_state.effective)) ∙ sound.effective_membership)
      where
        by : (t : Bool) → t ≡ nat_le (next_index (log_id_of s.membership_state.effective)) s.purged_next
            → t || in_log eq (full_log s.log_ids) (log_id_of s.membership_state.effective) ≡ true
            → next_index (log_id_of s.membership_state.effective) ≤ next_index id
        by true e h =
            let there = as_in_log (full_log ks) (log_id_of s.membership_state.effective)
            (leader.effective_membership (grind (arith, nat_tests))) in
            in_order cmp eq total law eqs ks (log_id_of s.membership_state.effective) id keys there own le
        by false e h =
            in_order cmp eq total law eqs s.log_ids (log_id_of s.membership_state.effective) id are h here le

    module _ {D : Type 0} where
      -- new entries of a request, after a log id that the log has
      pub record AreNew (p : Option (LogIdOf C)) (new : List (EntryOf C K N D)) : Type 0 where
        pub here : purged_or_logged eq s p ≡ true
        pub there : in_log eq (full_log ks) p ≡ true
        pub consecutive : are_consecutive p (entry_ids new) ≡ true
        pub own : HasIds eq (entry_ids new) (full_log ks)

      abbrev IsFresh : List (EntryOf C K N D) → Type 0
      IsFresh [] = Unit {0}
      IsFresh (e ∷ es) = has_entry eq s e ≡ false

      abbrev Split : Option (LogIdOf C) → List (EntryOf C K N D) → List (EntryOf C K N D) → Type 0
      Split q xs rest = (l : Option (LogIdOf C)) × AreNew l rest × IsFresh rest × (last_id_of_request l rest ≡ last_id_of_request q xs)

      split : (p : Option (LogIdOf C)) (es : List (EntryOf C K N D)) → AreNew p es → Split p es (entries_to_append eq s es)
      split p [] new = (p, new, tt, refl)
      split p (e ∷ es) new = by (has_entry eq s e) refl (λ h. split (Some e.log_id) es (later h))
        where
          later : has_entry eq s e ≡ true → AreNew (Some e.log_id) es
          later h = record {
            here = h;
            there = new.own 0 e.log_id refl;
            consecutive = rest_after p e.log_id (entry_ids es) new.consecutive;
            own = λ n id at. new.own (suc n) id at;
          }

          by : (t : Bool) → has_entry eq s e ≡ t → (has_entry eq s e ≡ true → Split (Some e.log_id) es (entries_to_append eq s es))
              → Split p (e ∷ es) (drop (if t then 1 + prefix_len (has_entry eq s) es else 0) (e ∷ es))
          by true h more =
              let n : 1 + prefix_len (has_entry eq s) es ≡ suc (prefix_len (has_entry eq s) es) = omega arith in
              let r = more h in
              rw n (r.0, r.1, r.2, r.3 ∙ sym (last_more p e es))
          by false h more = (p, new, h, refl)

      commit_may : (p : Option (LogIdOf C)) (new : List (EntryOf C K N D)) (id : Option (LogIdOf C)) → AreNew p new
          → in_log eq (full_log ks) id ≡ true → next_index id ≤ next_index (last_id_of_request p new)
          → id_lt cmp s.committed id ≡ true → has_with eq (full_log s.log_ids) (entry_ids new) id ≡ true
      commit_may p new None are_new own le up = refl
      commit_may p [] (Some x) are_new own le up =
          has_old p x are_new.here are_new.there own (past_purged x own up) (omega arith)
      commit_may p (e ∷ es) (Some x) are_new own le up = by (nat_le e.log_id.index x.index) refl
        where
          at : e.log_id.index ≡ next_index p
          at = first_after p e.log_id (entry_ids es) are_new.consecutive

          by : (t : Bool) → t ≡ nat_le e.log_id.index x.index
              → (if t then same_ids eq (slice_get (entry_ids (e ∷ es)) (x.index - e.log_id.index)) (Some x)
              else same_ids eq (id_at (full_log s.log_ids) x.index) (Some x)) ≡ true
          by true h =
              let is = at in
              let from : e.log_id.index ≤ x.index = grind (arith, nat_tests) in
              let w = at_place p (entry_ids (e ∷ es)) x.index are_new.consecutive (omega arith) (omega arith) in
              let there = are_new.own (x.index - next_index p) w.0 w.1 in
              let same = both_same (id_at (full_log ks) x.index) w.0 x (rw w.2 at there) own in
              subst (λ (i : ℕ). same_ids eq (slice_get (entry_ids (e ∷ es)) (x.index - i)) (Some x) ≡ true) (sym at) (rw w.1 same)
          by false h =
              let is = at in
              let below : x.index < e.log_id.index = grind (arith, nat_tests) in
              has_old p x are_new.here are_new.there own (past_purged x own up) (omega arith)

      may_commit : (effective : Option (LogIdOf C)) (new : List (EntryOf C K N D)) (id : Option (LogIdOf C))
          → (id_lt cmp s.committed id ≡ true → has_with eq (full_log s.log_ids) (entry_ids new) id ≡ true)
          → (id_lt cmp s.committed id ≡ true → allows_commit cmp effective id ≡ true)
          → may_commit_with eq cmp (full_log s.log_ids) effective new s.committed id ≡ true
      may_commit effective new id has allows = by (id_lt cmp s.committed id) refl
        where
          by : (t : Bool) → t ≡ id_lt cmp s.committed id
              → (if t then has_with eq (full_log s.log_ids) (entry_ids new) id && allows_commit cmp effective id else true) ≡ true
          by true e = both_true (has (sym e)) (allows (sym e))
          by false e = refl

      take_new : (p : Option (LogIdOf C)) (new : List (EntryOf C K N D)) (id : Option (LogIdOf C)) → AreNew p new → IsFresh new
          → in_log eq (full_log ks) id ≡ true → next_index id ≤ next_index (last_id_of_request p new) → may_take_new eq cmp new id s ≡ true
      take_new p [] id are_new fresh own le =
          both_true refl (both_true refl (may_commit (log_id_of s.membership_state.effective) [] id
          (λ up. commit_may p [] id are_new own le up)
          (λ up. allowed (log_id_of s.membership_state.effective) id
          (effective_low id own (alone id (commit_may p [] id are_new own le up))))))
        where
          alone : (o : Option (LogIdOf C)) → has_with eq (full_log s.log_ids) [] o ≡ true → in_log eq (full_log s.log_ids) o ≡ true
          alone None h = refl
          alone (Some x) h = h
      take_new p (e ∷ es) id are_new fresh own le =
          let at = first_after p e.log_id (entry_ids es) are_new.consecutive in
          let cut = may_cut_fresh e.log_id (are_new.own 0 e.log_id refl) fresh in
          let past : s.purged_next ≤ next_index p = rw at at cut.0 in
          let last = last_agrees p are_new.here are_new.there past in
          let has = agree_upto p are_new.here are_new.there in
          let may : may_cut cmp (next_index p) s ≡ true = rw at at cut.1 in
          let effective = effective_agrees (next_index p) has past may in
          let members = effective.1 in
          let row = after_same_index p (last_below (next_index p) s) (entry_ids (e ∷ es)) last.1 are_new.consecutive in
          let follow = entries_follow ks keys (last_below (next_index p) s) (e ∷ es) last.0 are_new.own row in
          let stores = members_follow ks keys (effective_below (next_index p) s) p (e ∷ es) effective.0 members are_new.own
          are_new.consecutive in
          let stored = stored_in ks keys (effective_below (next_index p) s) (e ∷ es) effective.0 are_new.own in
          both_true cut.1 (subst (λ (i : ℕ). (may_append_after cmp (last_below i s) (effective_below i s) (e ∷ es)
          && may_commit_with eq cmp (full_log s.log_ids) (effective_with (effective_below i s) (e ∷ es)) (e ∷ es) s.committed id) ≡ true)
          (sym at) (both_true (both_true (both_true follow row) stores)
          (may_commit (effective_with (effective_below (next_index p) s) (e ∷ es)) (e ∷ es) id
          (λ up. commit_may p (e ∷ es) id are_new own le up)
          (λ up. allowed (effective_with (effective_below (next_index p) s) (e ∷ es)) id
          (λ low. in_order cmp eq total law eqs ks (effective_with (effective_below (next_index p) s) (e ∷ es)) id keys stored own low)))))

      pub taken : (prev : Option (LogIdOf C)) (es : List (EntryOf C K N D)) (committed : Option (LogIdOf C))
          → IsPieceOf eq (full_log ks) prev es committed → may_take eq cmp prev es committed s ≡ true
      taken prev es committed piece =
          both_true (both_true (entries_follow ks keys prev es there piece.has_entries piece.consecutive) piece.consecutive)
          (by (purged_or_logged eq s prev) refl)
        where
          cut : (o : Option (LogIdOf C)) → in_log eq (full_log ks) o ≡ true → purged_or_logged eq s o ≡ false
              → may_cut_at cmp o s ≡ true
          cut None there fresh = refl
          cut (Some x) there fresh = (may_cut_fresh x there fresh).1

          there : in_log eq (full_log ks) prev ≡ true
          there = as_in_log (full_log ks) prev piece.has_prev

          by : (t : Bool) → purged_or_logged eq s prev ≡ t
              → (if t then may_take_new eq cmp (entries_to_append eq s es) (lesser_id cmp committed (last_id_of_request prev es)) s
              else may_cut_at cmp prev s) ≡ true
          by true h =
              let are_new : AreNew prev es =
              record { here = h; there = there; consecutive = piece.consecutive; own = piece.has_entries } in
              let r = split prev es are_new in
              let last = last_in ks keys prev es there piece.has_entries in
              let id = least_in committed (last_id_of_request prev es) (as_in_log (full_log ks) committed piece.has_committed) last in
              take_new r.0 (entries_to_append eq s es) (lesser_id cmp committed (last_id_of_request prev es)) r.1 r.2 id.0 (rw r.3 id.1)
          by false h = cut prev there h
