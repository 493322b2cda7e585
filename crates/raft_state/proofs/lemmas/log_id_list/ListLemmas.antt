-- What the calls of a list do, from the laws of leaders.
use Rattle.std.proofs.Common.{◌≡◌, ℕ, suc, ◌+◌, ◌-◌, ◌<◌, ◌≤◌, max, Bool, true, List, [], ◌∷◌, Some, IfSome, IsTrue, length, map, ap, sym, arith, ◌∙◌}
use Rattle.std.proofs.lemmas.Bool.{and_parts}
use Rattle.std.specs.Prelude.{slice_get}
use Rattle.std.specs.Option.{option_map, option_or}
use Rattle.std.specs.declared.cmp.Ordering.{Ordering}
use Rattle.std.specs.Ordering.{is_eq}
use Rattle.std.proofs.lemmas.Option.{same_Some}
use Rattle.std.specs.Cmp.{IsTotalOrder, IsEquivalence}
use Rattle.raft_base.specs.declared.log_id.LogIdOf.{LogIdOf}
use Rattle.raft_progress.proofs.lemmas.OrderLemmas.{AtMost-refl}
use Rattle.raft_state.specs.log_id_list.FullLog.{first_index, full_log, same_log}
use Rattle.raft_state.specs.log_id_list.LogReads.{last_id, last_two_share_leader, leader_count}
use Rattle.raft_state.specs.log_id_list.LogEdits.{log_after_append, log_after_extend, log_after_purge}
use Rattle.raft_state.specs.log_id_list.LogConditions.{follows, all_follow, ends_share_leader}
use Rattle.raft_state.proofs.lemmas.log_id_list.KeyListLemmas.{IsKeyList}
use Rattle.raft_state.specs.Inner.KeyEdits.{keys_after_append, keys_after_extend, keys_below, keys_after_purge}
use Rattle.raft_state.specs.log_id_list.Keys.{may_be_keys}
use Rattle.raft_state.proofs.lemmas.log_id_list.SameLogLemmas.{is_same}
use Rattle.raft_state.proofs.lemmas.log_id_list.AppendLemmas.{full_after, stays_key_list}
use Rattle.raft_state.proofs.lemmas.log_id_list.IdOrderLemmas.{apart, strictly_less, upto_equal}
use Rattle.raft_state.proofs.lemmas.log_id_list.CutLemmas.{cut_stays, first_full, full_purged, last_full, purge_stays, purged_first}
use Rattle.raft_state.proofs.lemmas.log_id_list.ExtendLemmas.{all_stay, are_keys, can_append, full_after_all, is_key_list, last_added, last_added_all}
use Rattle.raft_state.proofs.lemmas.log_id_list.EndsLemmas.{added_by_ends, last_of_map, last_of_some, last_or, one_leader}
use Rattle.raft_state.proofs.lemmas.log_id_list.LastTwoLemmas.{last_two_after_append, last_two_of_full}
use Rattle.raft_state.proofs.lemmas.log_id_list.EqualLemmas as Equal

module _ {C : Type 0} (cmp : C → C → Ordering) (eq : C → C → Bool) (total : IsTotalOrder cmp) (law : (x y : C) → eq x y ≡ is_eq (cmp x y))
    (eqs : IsEquivalence eq) where
  -- an append leaves keys
  pub append_keeps : (ks : List (LogIdOf C)) (id : LogIdOf C) → IsKeyList cmp ks → IsTrue (follows cmp (last_id (full_log ks)) id)
      → IsTrue (may_be_keys cmp (keys_after_append eq ks id))
  append_keeps ks id s h =
      are_keys cmp (keys_after_append eq ks id)
      (stays_key_list eq eqs.refl cmp (strictly_less cmp eq total law) (upto_equal cmp eq total law) ks id s
      (can_append cmp ks id (rw (last_full cmp ks s) at h)))

  -- and the full log with the log id
  pub append_fills : (ks : List (LogIdOf C)) (id : LogIdOf C) → IsKeyList cmp ks → IsTrue (follows cmp (last_id (full_log ks)) id)
      → IsTrue (same_log eq (full_log (keys_after_append eq ks id)) (log_after_append (full_log ks) id))
  append_fills ks id s h =
      is_same eq (full_log (keys_after_append eq ks id)) (log_after_append (full_log ks) id)
      (full_after eq eqs.refl cmp ks id s (can_append cmp ks id (rw (last_full cmp ks s) at h)))

  -- which is the last one then
  pub append_ends : (ks : List (LogIdOf C)) (id : LogIdOf C) → IsKeyList cmp ks → IsTrue (follows cmp (last_id (full_log ks)) id)
      → last_id (full_log (keys_after_append eq ks id)) ≡ Some id
  append_ends ks id s h = last_full cmp (keys_after_append eq ks id) (is_key_list cmp (keys_after_append eq ks id) (append_keeps ks id s h))
      ∙ last_added eq ks id

  -- and shares its leader with the one before it exactly if it shares the leader of the last one
  -- before the append
  pub append_shares : (ks : List (LogIdOf C)) (id : LogIdOf C) → IsKeyList cmp ks → IsTrue (follows cmp (last_id (full_log ks)) id)
      → IfSome (last_id (full_log ks)) (λ last. last_two_share_leader eq (full_log (keys_after_append eq ks id))
      ≡ eq last.leader_id id.leader_id)
  append_shares [] id s h = tt
  append_shares (k ∷ ks) id s h = rw (
    last_full cmp (k ∷ ks) s,
    last_two_of_full eq cmp (keys_after_append eq (k ∷ ks) id)
        (is_key_list cmp (keys_after_append eq (k ∷ ks) id) (append_keeps (k ∷ ks) id s h)),
  ) (last_two_after_append eq eqs.refl eqs.congr k ks id)

  -- several appends leave keys
  pub extend_keeps : (ks ids : List (LogIdOf C)) → IsKeyList cmp ks → IsTrue (all_follow cmp (last_id (full_log ks)) ids)
      → IsTrue (may_be_keys cmp (keys_after_extend eq ks ids))
  extend_keeps ks ids s h =
      are_keys cmp (keys_after_extend eq ks ids)
      (all_stay eq eqs cmp (strictly_less cmp eq total law) (upto_equal cmp eq total law) ks ids s
      (rw (last_full cmp ks s) at h))

  -- and the full log with the log ids
  pub extend_fills : (ks ids : List (LogIdOf C)) → IsKeyList cmp ks → IsTrue (all_follow cmp (last_id (full_log ks)) ids)
      → IsTrue (same_log eq (full_log (keys_after_extend eq ks ids)) (log_after_extend (full_log ks) ids))
  extend_fills ks ids s h =
      is_same eq (full_log (keys_after_extend eq ks ids)) (log_after_extend (full_log ks) ids)
      (full_after_all eq eqs cmp (strictly_less cmp eq total law) (upto_equal cmp eq total law) ks ids s
      (rw (last_full cmp ks s) at h))

  -- the last one of these is then the last one of the log, if there are any
  pub extend_ends : (ks ids : List (LogIdOf C)) → IsKeyList cmp ks → IsTrue (all_follow cmp (last_id (full_log ks)) ids)
      → last_id (full_log (keys_after_extend eq ks ids)) ≡ option_or (last_id ids) (last_id (full_log ks))
  extend_ends ks ids s h = last_full cmp (keys_after_extend eq ks ids)
      (is_key_list cmp (keys_after_extend eq ks ids) (extend_keeps ks ids s h)) ∙ last_added_all eq ks ids
      ∙ ap (option_or (last_id ids)) (sym (last_full cmp ks s))

  -- a truncation and a purge leave keys
  pub truncate_keeps : (ks : List (LogIdOf C)) (at : ℕ) → IsKeyList cmp ks → IsTrue (may_be_keys cmp (keys_below ks at))
  truncate_keeps ks at s = are_keys cmp (keys_below ks at) (cut_stays cmp (AtMost-refl total) ks at s)

  pub purge_keeps : (ks : List (LogIdOf C)) (upto : LogIdOf C) → IsKeyList cmp ks → IsTrue (may_be_keys cmp (keys_after_purge ks upto))
  purge_keeps ks upto s = are_keys cmp (keys_after_purge ks upto) (purge_stays cmp (AtMost-refl total) ks upto s)

  -- a purge leaves a log from the greater of the two indexes on
  pub purge_begins : (ks : List (LogIdOf C)) (upto : LogIdOf C) → IsKeyList cmp ks
      → first_index (full_log (keys_after_purge ks upto)) ≡ max (first_index (full_log ks)) upto.index
  purge_begins ks upto s =
      first_full cmp (keys_after_purge ks upto) (purge_stays cmp (AtMost-refl total) ks upto s)
      ∙ purged_first cmp ks upto s ∙ ap (λ i. max i upto.index) (sym (first_full cmp ks s))

  pub purged_log_begins : (ks : List (LogIdOf C)) (upto : LogIdOf C) → IsKeyList cmp ks
      → first_index (log_after_purge (full_log ks) upto) ≡ max (first_index (full_log ks)) upto.index
  purged_log_begins ks upto s = ap first_index (sym (full_purged cmp ks upto s)) ∙ purge_begins ks upto s

  -- two key lists are equal exactly if their full logs are
  pub keys_decide : (ks ls : List (LogIdOf C)) → IsKeyList cmp ks → IsKeyList cmp ls
      → same_log eq ks ls ≡ same_log eq (full_log ks) (full_log ls)
  keys_decide ks ls s r = Equal.keys_decide eq eqs cmp (apart cmp eq total law) ks ls s r

  -- at most one key more than leaders
  pub few_keys : (ks : List (LogIdOf C)) → IsKeyList cmp ks → length ks ≤ leader_count eq (full_log ks) + 1
  few_keys ks s = Equal.few_keys eq eqs cmp (apart cmp eq total law) ks s

  -- log ids of one leader: the first one and the last one make the keys of all
  pub ends_make_all : {L : Type 0} (id_of : L → LogIdOf C) (ks : List (LogIdOf C)) (ls : List L) (f l : L) → 1 < length ls
      → Some f ≡ slice_get ls 0 → Some l ≡ slice_get ls (length ls - 1) → IsTrue (all_follow cmp (last_id ks) (map id_of ls))
      → IsTrue (ends_share_leader eq (map id_of ls))
      → keys_after_append eq (keys_after_append eq ks (id_of f)) (id_of l) ≡ keys_after_extend eq ks (map id_of ls)
  ends_make_all id_of ks [] f l some first last h e = absurd (omega arith)
  ends_make_all id_of ks (x ∷ []) f l some first last h e = absurd (omega arith)
  ends_make_all id_of ks (x ∷ y ∷ ls) f l some first last h e =
      let n : length (x ∷ y ∷ ls) - 1 ≡ suc (length ls) = omega arith in
      let is_first : id_of f ≡ id_of x = ap id_of (same_Some f x first) in
      let ends : Some l ≡ slice_get (y ∷ ls) (length ls) = rw n at last in
      let is_last : id_of l ≡ last_or (id_of y) (map id_of ls) =
      same_Some (id_of l) (last_or (id_of y) (map id_of ls)) (ap (option_map id_of) ends ∙ sym (last_of_map id_of y ls)) in
      let shared : eq (id_of x).leader_id (last_or (id_of y) (map id_of ls)).leader_id ≡ true =
      rw (last_of_some (id_of x) (id_of y ∷ map id_of ls)) at e in
      let b = and_parts (follows cmp (last_id ks) (id_of x)) (all_follow cmp (Some (id_of x)) (id_of y ∷ map id_of ls)) h in
      rw (is_first, is_last) (sym (added_by_ends eq eqs ks (id_of x) (id_of y) (map id_of ls)
      (one_leader cmp eq total law (id_of x) (id_of y) (map id_of ls) b.1 shared)))
