-- Whether the last two log ids share a leader: of keys as of their full log, and after an append.
use Rattle.std.proofs.Common.{◌≡◌, ℕ, zero, suc, ◌+◌, ◌-◌, ◌≤◌, Bool, true, false, nat_eq, List, [], ◌∷◌, ◌++◌, if◌then◌else◌, IfSome, refl, sym, arith, length, length-append, ◌∙◌}
use Rattle.std.specs.declared.cmp.Ordering.{Ordering}
use Rattle.raft_base.specs.declared.log_id.LogIdOf.{LogIdOf}
use Rattle.raft_state.specs.log_id_list.FullLog.{full_log, ids_of}
use Rattle.raft_state.specs.Inner.KeyEdits.{rest_after_append}
use Rattle.raft_state.proofs.lemmas.log_id_list.KeyListLemmas.{IsKeyList, step_keys, tail_keys}
use Rattle.raft_state.specs.log_id_list.Keys.{by_last_leader}
use Rattle.raft_state.specs.log_id_list.LogReads.{last_id, last_two_share_leader}
use Rattle.raft_state.proofs.lemmas.log_id_list.AppendLemmas.{Differ, some_after}
use Rattle.raft_state.proofs.lemmas.log_id_list.CutLemmas.{full_begins, one_key}

module _ {C : Type 0} (eq : C → C → Bool) where
  two_after_one : (x : LogIdOf C) (ys : List (LogIdOf C)) → 2 ≤ length ys → last_two_share_leader eq (x ∷ ys) ≡ last_two_share_leader eq ys
  two_after_one x [] h = absurd (omega arith)
  two_after_one x (y ∷ []) h = absurd (omega arith)
  two_after_one x (y ∷ z ∷ ys) h = refl

  two_after : (xs ys : List (LogIdOf C)) → 2 ≤ length ys → last_two_share_leader eq (xs ++ ys) ≡ last_two_share_leader eq ys
  two_after [] ys h = refl
  two_after (x ∷ xs) ys h = two_after_one x (xs ++ ys) (omega (arith, length-append xs ys)) ∙ two_after xs ys h

  -- after log ids of one leader
  two_after_ids : (c : C) (i n : ℕ) (l : LogIdOf C) → last_two_share_leader eq (ids_of c i (suc n) ++ l ∷ []) ≡ eq c l.leader_id
  two_after_ids c i zero l = refl
  two_after_ids c i (suc n) l =
      two_after_one (record { leader_id = c; index = i }) (ids_of c (i + 1) (suc n) ++ l ∷ [])
      (omega (arith, length-append (ids_of c (i + 1) (suc n)) (l ∷ []))) ∙ two_after_ids c (i + 1) n l

  -- of the keys as of the full log
  pub last_two_of_full : (cmp : C → C → Ordering) (ks : List (LogIdOf C)) → IsKeyList cmp ks
      → last_two_share_leader eq (full_log ks) ≡ last_two_share_leader eq ks
  last_two_of_full cmp [] s = refl
  last_two_of_full cmp (k ∷ []) s = rw (one_key k) refl
  last_two_of_full cmp (k ∷ l ∷ []) s =
      let up = (step_keys cmp k l [] s).0 in
      let n : l.index - k.index ≡ suc (l.index - (k.index + 1)) = omega arith in
      rw (one_key l, n) (two_after_ids k.leader_id k.index (l.index - (k.index + 1)) l)
  last_two_of_full cmp (k ∷ l ∷ m ∷ ks) s =
      let t = tail_keys cmp k l (m ∷ ks) s in
      let up = (step_keys cmp l m ks t).0 in
      let n : m.index - l.index ≡ suc (m.index - (l.index + 1)) = omega arith in
      let b = full_begins cmp m ks (tail_keys cmp l m ks t) in
      let more : 2 ≤ length (full_log (l ∷ m ∷ ks)) =
      rw (n, b.1) (omega (arith, length-append (ids_of l.leader_id (l.index + 1) (m.index - (l.index + 1))) (m ∷ b.0))) in
      two_after (ids_of k.leader_id k.index (l.index - k.index)) (full_log (l ∷ m ∷ ks)) more ∙ last_two_of_full cmp (l ∷ m ∷ ks) t

  -- the keys of the last leader are two
  two_of_test : (t : Bool) (k l : LogIdOf C) → nat_eq (length (if t then k ∷ l ∷ [] else l ∷ [])) 2 ≡ t
  two_of_test true k l = refl
  two_of_test false k l = refl

  pub two_keys_of_last : (ks : List (LogIdOf C)) → nat_eq (length (by_last_leader eq ks)) 2 ≡ last_two_share_leader eq ks
  two_keys_of_last [] = refl
  two_keys_of_last (k ∷ []) = refl
  two_keys_of_last (k ∷ l ∷ []) = two_of_test (eq k.leader_id l.leader_id) k l
  two_keys_of_last (k ∷ l ∷ m ∷ ks) = two_keys_of_last (l ∷ m ∷ ks)

  -- by position
  pub last_two_differ : (same : (c : C) → eq c c ≡ true) (ks : List (LogIdOf C)) → ((n : ℕ) → length ks ≡ suc (suc n) → Differ eq same ks n)
      → last_two_share_leader eq ks ≡ false
  last_two_differ same [] d = refl
  last_two_differ same (k ∷ []) d = refl
  last_two_differ same (k ∷ l ∷ []) d = let (x, y, p, q, e) = d zero refl in rw (← p, ← q) e
  last_two_differ same (k ∷ l ∷ m ∷ ks) d = last_two_differ same (l ∷ m ∷ ks) (λ n len. d (suc n) (omega arith))

  -- after an append: the last one before it and the new one
  module _ (same : (c : C) → eq c c ≡ true) (congr : (a b c : C) → eq a b ≡ true → eq a c ≡ eq b c) where
    after_one : (t : Bool) (k l id : LogIdOf C) → t ≡ eq k.leader_id l.leader_id
        → last_two_share_leader eq (k ∷ (if t then id ∷ [] else l ∷ id ∷ [])) ≡ eq l.leader_id id.leader_id
    after_one true k l id e = congr k.leader_id l.leader_id id.leader_id (sym e)
    after_one false k l id e = refl

    pub last_two_after_append : (k : LogIdOf C) (ks : List (LogIdOf C)) (id : LogIdOf C)
        → IfSome (last_id (k ∷ ks)) (λ last. last_two_share_leader eq (k ∷ rest_after_append eq k ks id) ≡ eq last.leader_id id.leader_id)
    last_two_after_append k [] id = refl
    last_two_after_append k (l ∷ []) id = after_one (eq k.leader_id l.leader_id) k l id refl
    last_two_after_append k (l ∷ m ∷ ks) id =
        rw (two_after_one k (l ∷ rest_after_append eq l (m ∷ ks) id) (omega (arith, some_after eq same l (m ∷ ks) id)))
        (last_two_after_append l (m ∷ ks) id)
