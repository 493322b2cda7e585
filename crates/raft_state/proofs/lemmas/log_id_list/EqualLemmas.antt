-- Two key lists are equal exactly if their full logs are, and have at most one key more than
-- leaders.
use Rattle.std.proofs.Common.{◌≡◌, ℕ, zero, suc, ◌+◌, ◌-◌, ◌<◌, ◌≤◌, Bool, true, false, List, [], ◌∷◌, ◌++◌, if◌then◌else◌, IsTrue, refl, sym, arith, length, ap, subst, append_assoc, ◌∙◌, inl, inr}
use Rattle.std.specs.declared.cmp.Ordering.{Ordering}
use Rattle.std.specs.Ordering.{is_lt}
use Rattle.std.proofs.lemmas.Bool.{cases_lt, false_from_ne_true}
use Rattle.raft_base.specs.declared.log_id.LogIdOf.{LogIdOf}
use Rattle.raft_state.specs.log_id_list.FullLog.{full_log, ids_of, same_log}
use Rattle.raft_state.proofs.lemmas.log_id_list.KeyListLemmas.{IsKeyList, step_keys, tail_keys}
use Rattle.raft_state.specs.log_id_list.LogReads.{leader_changes, leader_count}
use Rattle.raft_state.proofs.lemmas.log_id_list.SameLogLemmas.{SameLog, is_same, says_same}
use Rattle.raft_state.proofs.lemmas.log_id_list.AppendLemmas.{ids_split, one_id, same_append, same_ids}
use Rattle.raft_state.proofs.lemmas.log_id_list.IdOrderLemmas.{leaders_symm, leaders_trans}
use Rattle.std.specs.Cmp.{IsEquivalence, both_ways}
use Rattle.raft_state.proofs.lemmas.log_id_list.CutLemmas.{full_begins, one_key}

module _ {C : Type 0} (eq : C → C → Bool) (eqs : IsEquivalence eq)
    (cmp : C → C → Ordering) (apart : (a b : C) → IsTrue (is_lt (cmp a b)) → eq a b ≡ true → ⊥) where
  same_symm : (xs ys : List (LogIdOf C)) → SameLog eq xs ys → SameLog eq ys xs
  same_symm [] [] h = tt
  same_symm [] (y ∷ ys) h = absurd h
  same_symm (x ∷ xs) [] h = absurd h
  same_symm (x ∷ xs) (y ∷ ys) h = (leaders_symm eqs x.leader_id y.leader_id h.0, sym h.1, same_symm xs ys h.2)

  -- after as many ids of two leaders
  after_ids : (c d : C) (i n : ℕ) (us vs : List (LogIdOf C)) → SameLog eq (ids_of c i n ++ us) (ids_of d i n ++ vs) → SameLog eq us vs
  after_ids c d i zero us vs h = h
  after_ids c d i (suc n) us vs h = after_ids c d (i + 1) n us vs h.2

  -- equal keys have equal full logs
  pub full_same : (ks ls : List (LogIdOf C)) → SameLog eq ks ls → SameLog eq (full_log ks) (full_log ls)
  full_same [] [] h = tt
  full_same [] (l ∷ ls) h = absurd h
  full_same (k ∷ ks) [] h = absurd h
  full_same (k ∷ []) (l ∷ []) h = rw (one_id k, one_id l) (h.0, h.1, tt)
  full_same (k ∷ []) (l ∷ m ∷ ls) h = absurd h.2
  full_same (k ∷ m ∷ ks) (l ∷ []) h = absurd h.2
  full_same (k ∷ m ∷ ks) (l ∷ n ∷ ls) h =
      let i0 = h.1 in
      let i1 = h.2.1 in
      let ids : SameLog eq (ids_of k.leader_id k.index (m.index - k.index)) (ids_of l.leader_id l.index (n.index - l.index)) =
      rw (i0, i1) (same_ids eq eqs.refl k.leader_id l.leader_id l.index (n.index - l.index) h.0) in
      same_append eq eqs.refl (ids_of k.leader_id k.index (m.index - k.index)) (ids_of l.leader_id l.index (n.index - l.index))
      (full_log (m ∷ ks)) (full_log (n ∷ ls)) ids (full_same (m ∷ ks) (n ∷ ls) h.2)

  none_same : (xs : List (LogIdOf C)) (y : LogIdOf C) (ys : List (LogIdOf C)) → SameLog eq [] (xs ++ y ∷ ys) → ⊥
  none_same [] y ys h = h
  none_same (x ∷ xs) y ys h = h

  -- a key that comes before the other list's next key: impossible
  earlier : (k l a b : LogIdOf C) (ks ls : List (LogIdOf C)) → IsKeyList cmp (k ∷ a ∷ ks) → IsKeyList cmp (l ∷ b ∷ ls) → k.index ≡ l.index
      → eq k.leader_id l.leader_id ≡ true → SameLog eq (full_log (k ∷ a ∷ ks)) (full_log (l ∷ b ∷ ls)) → a.index < b.index → ⊥
  earlier k l a b ks ls s r i e h lt =
      let up = (step_keys cmp k a ks s).0 in
      let n : b.index - l.index ≡ (a.index - k.index) + suc (b.index - (a.index + 1)) = omega arith in
      let at : k.index + (a.index - k.index) ≡ a.index = omega arith in
      let split : full_log (l ∷ b ∷ ls) ≡ ids_of l.leader_id k.index (a.index - k.index)
      ++ (ids_of l.leader_id a.index (suc (b.index - (a.index + 1))) ++ full_log (b ∷ ls)) =
      rw (← i, rw (← i) at n, ids_split l.leader_id k.index (a.index - k.index) (suc (b.index - (a.index + 1))), at)
      (append_assoc (ids_of l.leader_id k.index (a.index - k.index)) (ids_of l.leader_id a.index (suc (b.index - (a.index + 1))))
      (full_log (b ∷ ls))) in
      let h2 : SameLog eq (full_log (a ∷ ks)) (ids_of l.leader_id a.index (suc (b.index - (a.index + 1))) ++ full_log (b ∷ ls)) =
      after_ids k.leader_id l.leader_id k.index (a.index - k.index) (full_log (a ∷ ks))
      (ids_of l.leader_id a.index (suc (b.index - (a.index + 1))) ++ full_log (b ∷ ls)) (rw split at h) in
      let begins = full_begins cmp a ks (tail_keys cmp k a ks s) in
      let ends = full_begins cmp b ls (tail_keys cmp l b ls r) in
      by_rest ks s (subst (λ (x : List (LogIdOf C)). SameLog eq x
      (ids_of l.leader_id a.index (suc (b.index - (a.index + 1))) ++ full_log (b ∷ ls))) begins.1 h2).0 ends h2
    where
      by_rest : (ks : List (LogIdOf C)) → IsKeyList cmp (k ∷ a ∷ ks) → eq a.leader_id l.leader_id ≡ true
          → ((ys : List (LogIdOf C)) × (full_log (b ∷ ls) ≡ b ∷ ys))
          → SameLog eq (full_log (a ∷ ks)) (ids_of l.leader_id a.index (suc (b.index - (a.index + 1))) ++ full_log (b ∷ ls)) → ⊥
      by_rest [] s same_leader ends h2 =
          let h3 = subst (λ (x : List (LogIdOf C)). SameLog eq x
          (ids_of l.leader_id a.index (suc (b.index - (a.index + 1))) ++ full_log (b ∷ ls))) (one_key a) h2 in
          none_same (ids_of l.leader_id (a.index + 1) (b.index - (a.index + 1))) b ends.0
          (subst (λ (x : List (LogIdOf C)). SameLog eq [] (ids_of l.leader_id (a.index + 1) (b.index - (a.index + 1)) ++ x)) ends.1
          h3.2)
      by_rest (m ∷ ks) s same_leader ends h2 =
          apart k.leader_id a.leader_id s.1
          (leaders_trans eqs k.leader_id l.leader_id a.leader_id e (leaders_symm eqs a.leader_id l.leader_id same_leader))

  -- one key has one id, two have more
  longer : (k l b : LogIdOf C) (ls : List (LogIdOf C)) → IsKeyList cmp (l ∷ b ∷ ls) → SameLog eq (full_log (k ∷ [])) (full_log (l ∷ b ∷ ls))
      → ⊥
  longer k l b ls r h =
      let up = (step_keys cmp l b ls r).0 in
      let n : b.index - l.index ≡ suc (b.index - (l.index + 1)) = omega arith in
      let ends = full_begins cmp b ls (tail_keys cmp l b ls r) in
      let h2 : SameLog eq (full_log (k ∷ [])) (ids_of l.leader_id l.index (suc (b.index - (l.index + 1))) ++ full_log (b ∷ ls)) =
      subst (λ (x : ℕ). SameLog eq (full_log (k ∷ [])) (ids_of l.leader_id l.index x ++ full_log (b ∷ ls))) n h in
      let h3 = subst (λ (x : List (LogIdOf C)). SameLog eq x
      (ids_of l.leader_id l.index (suc (b.index - (l.index + 1))) ++ full_log (b ∷ ls))) (one_key k) h2 in
      none_same (ids_of l.leader_id (l.index + 1) (b.index - (l.index + 1))) b ends.0
      (subst (λ (x : List (LogIdOf C)). SameLog eq [] (ids_of l.leader_id (l.index + 1) (b.index - (l.index + 1)) ++ x)) ends.1 h3.2)

  heads_same : (k l : LogIdOf C) (ks ls : List (LogIdOf C)) → IsKeyList cmp (k ∷ ks) → IsKeyList cmp (l ∷ ls)
      → SameLog eq (full_log (k ∷ ks)) (full_log (l ∷ ls)) → (eq k.leader_id l.leader_id ≡ true) × (k.index ≡ l.index)
  heads_same k l ks ls s r h =
      let a = full_begins cmp k ks s in
      let b = full_begins cmp l ls r in
      let g = subst (λ (x : List (LogIdOf C)). SameLog eq x (full_log (l ∷ ls))) a.1 h in
      let f = subst (λ (x : List (LogIdOf C)). SameLog eq (k ∷ a.0) x) b.1 g in (f.0, f.1)

  -- equal full logs have equal keys
  pub keys_same : (ks ls : List (LogIdOf C)) → IsKeyList cmp ks → IsKeyList cmp ls → SameLog eq (full_log ks) (full_log ls)
      → SameLog eq ks ls
  keys_same [] [] s r h = tt
  keys_same [] (l ∷ ls) s r h = let b = full_begins cmp l ls r in
      absurd (none_same [] l b.0 (subst (λ (x : List (LogIdOf C)). SameLog eq [] x) b.1 h))
  keys_same (k ∷ ks) [] s r h = let b = full_begins cmp k ks s in
      absurd (none_same [] k b.0 (subst (λ (x : List (LogIdOf C)). SameLog eq [] x) b.1 (same_symm (full_log (k ∷ ks)) [] h)))
  keys_same (k ∷ []) (l ∷ []) s r h = let g = heads_same k l [] [] s r h in (g.0, g.1, tt)
  keys_same (k ∷ []) (l ∷ b ∷ ls) s r h = absurd (longer k l b ls r h)
  keys_same (k ∷ a ∷ ks) (l ∷ []) s r h = absurd (longer l k a ks s (same_symm (full_log (k ∷ a ∷ ks)) (full_log (l ∷ [])) h))
  keys_same (k ∷ a ∷ ks) (l ∷ b ∷ ls) s r h =
      let g = heads_same k l (a ∷ ks) (b ∷ ls) s r h in
      elim (cases_lt a.index b.index) [
        | inl less ↦ absurd (earlier k l a b ks ls s r g.1 g.0 h less)
        | inr most ↦ elim (cases_lt b.index a.index) [
          | inl less ↦ absurd (earlier l k b a ls ks r s (sym g.1) (leaders_symm eqs k.leader_id l.leader_id g.0)
              (same_symm (full_log (k ∷ a ∷ ks)) (full_log (l ∷ b ∷ ls)) h) less)
          | inr least ↦ (let e : a.index ≡ b.index = omega arith in
              let i = g.1 in
              let n : b.index - l.index ≡ a.index - k.index = omega arith in
              let h2 : SameLog eq (ids_of k.leader_id k.index (a.index - k.index) ++ full_log (a ∷ ks))
              (ids_of l.leader_id k.index (a.index - k.index) ++ full_log (b ∷ ls)) =
              subst (λ (x : ℕ). SameLog eq (full_log (k ∷ a ∷ ks)) (ids_of l.leader_id x (a.index - k.index) ++ full_log (b ∷ ls))) (sym i)
              (subst (λ (x : ℕ). SameLog eq (full_log (k ∷ a ∷ ks)) (ids_of l.leader_id l.index x ++ full_log (b ∷ ls))) n h) in (
                g.0,
                i,
                keys_same (a ∷ ks) (b ∷ ls) (tail_keys cmp k a ks s) (tail_keys cmp l b ls r)
                    (after_ids k.leader_id l.leader_id k.index (a.index - k.index) (full_log (a ∷ ks)) (full_log (b ∷ ls)) h2),
              ))
        ]
      ]

  -- one leader has one id after another with no change
  changes_ids : (c : C) (i n : ℕ) (xs : List (LogIdOf C)) → leader_changes eq c (ids_of c i n ++ xs) ≡ leader_changes eq c xs
  changes_ids c i zero xs = refl
  changes_ids c i (suc n) xs = let z : 0 + leader_changes eq c (ids_of c (i + 1) n ++ xs) ≡ leader_changes eq c (ids_of c (i + 1) n ++ xs) =
      omega arith in rw (eqs.refl c) (z ∙ changes_ids c (i + 1) n xs)

  more_leaders : (k l : LogIdOf C) (ks : List (LogIdOf C)) → IsKeyList cmp (k ∷ l ∷ ks)
      → leader_count eq (full_log (k ∷ l ∷ ks)) ≡ (if eq k.leader_id l.leader_id then 0 else 1) + leader_count eq (full_log (l ∷ ks))
  more_leaders k l ks s =
      let up = (step_keys cmp k l ks s).0 in
      let n : l.index - k.index ≡ suc (l.index - (k.index + 1)) = omega arith in
      let b = full_begins cmp l ks (tail_keys cmp k l ks s) in
      let now : full_log (k ∷ l ∷ ks) ≡ k ∷ (ids_of k.leader_id (k.index + 1) (l.index - (k.index + 1)) ++ l ∷ b.0) =
      rw n (ap (λ (x : List (LogIdOf C)). k ∷ (ids_of k.leader_id (k.index + 1) (l.index - (k.index + 1)) ++ x)) b.1) in
      rw (now, b.1, changes_ids k.leader_id (k.index + 1) (l.index - (k.index + 1)) (l ∷ b.0)) (omega arith)

  -- at most one key more than leaders
  pub few_keys : (ks : List (LogIdOf C)) → IsKeyList cmp ks → length ks ≤ leader_count eq (full_log ks) + 1
  few_keys [] s = omega arith
  few_keys (k ∷ []) s = omega arith
  few_keys (k ∷ l ∷ []) s = let m = more_leaders k l [] s in let one : leader_count eq (full_log (l ∷ [])) ≡ 1 = rw (one_key l) refl in
      omega arith
  few_keys (k ∷ l ∷ m ∷ ks) s =
      let more = more_leaders k l (m ∷ ks) s in
      let differs : eq k.leader_id l.leader_id ≡ false =
      false_from_ne_true (eq k.leader_id l.leader_id) (apart k.leader_id l.leader_id s.1) in
      let now : leader_count eq (full_log (k ∷ l ∷ m ∷ ks)) ≡ 1 + leader_count eq (full_log (l ∷ m ∷ ks)) = more ∙ rw differs refl in
      let before = few_keys (l ∷ m ∷ ks) s.2 in omega arith

  -- two key lists are equal exactly if their full logs are
  pub keys_decide : (ks ls : List (LogIdOf C)) → IsKeyList cmp ks → IsKeyList cmp ls
      → same_log eq ks ls ≡ same_log eq (full_log ks) (full_log ls)
  keys_decide ks ls s r = both_ways (same_log eq ks ls) (same_log eq (full_log ks) (full_log ls))
      (λ h. is_same eq (full_log ks) (full_log ls) (full_same ks ls (says_same eq ks ls h)))
      (λ h. is_same eq ks ls (keys_same ks ls s r (says_same eq (full_log ks) (full_log ls) h)))
