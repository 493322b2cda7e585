-- Entries that are copied one by one, in order.
use Rattle.std.specs.Prelude.{◌≡◌, Bool, length, true, false, cond, Some, List, [], ◌∷◌, ◌++◌, IsTrue, refl, not, ◌&&◌, ◌||◌}
use Rattle.std.proofs.Common.{◌∙◌, ap, sym, append_assoc, append-nil, length-append, arith}
use Rattle.std.specs.declared.cmp.Ordering.{Ordering}
use Rattle.std.specs.declared.cmp.Ordering.TheVariants.{Less, Greater}
use Rattle.std.specs.Cmp.{IsTotalOrder, IsEquivalence, first_so, second_so}
use Rattle.std.specs.Cmp.Lexicographic.{as_long, lists_equiv, pointwise}
use Rattle.std.specs.Ordering.{ordering_reverse}
use Rattle.std.specs.List.{AllByRecursion, AllZip, filter}
use Rattle.std.specs.Set.{ClonesAreEqual}
use Rattle.std.specs.List.Sorted.{IsStrictlySortedBy}
use Rattle.std.proofs.lemmas.Map.Keys.{sorted_head, sorted_tail}
use Rattle.std.specs.Map.{lookup, keys_of}
use Rattle.std.specs.BTreeMap.{insert_entry}
use Rattle.std.specs.Option.{option_eq}
use Rattle.raft_members.specs.quorum.Majority.{is_voter_of}
use Rattle.std.specs.Cmp.Derive.{both_true}
use Rattle.raft_members.specs.membership.Change.{keeps_node}
use Rattle.raft_members.specs.membership.Members.{MemberList, same_nodes, same_members}
use Rattle.raft_members.proofs.lemmas.quorum.MajorityLemmas.{is_member-alike}

module _ {K N : Type 0} (same : N → N → Bool) where
  -- the same keys, with equal values
  abbrev pub SameEntries : List (K × N) → List (K × N) → Type 0
  SameEntries [] [] = Unit {0}
  SameEntries [] (y ∷ ys) = ⊥
  SameEntries (x ∷ xs) [] = ⊥
  SameEntries (x ∷ xs) (y ∷ ys) = (x.0 ≡ y.0) × (same x.1 y.1 ≡ true) × SameEntries xs ys

  -- a query finds equal values
  look_step : (t : K → Bool) (x y : K × N) (xs ys : List (K × N)) (b : Bool) → t x.0 ≡ b → x.0 ≡ y.0 → same x.1 y.1 ≡ true
      → IsTrue (option_eq same (lookup t xs) (lookup t ys))
      → IsTrue (option_eq same (cond (t x.0) (Some x.1) (lookup t xs)) (cond (t y.0) (Some y.1) (lookup t ys)))
  look_step t x y xs ys true e k s r = rw (← k, e) s
  look_step t x y xs ys false e k s r = rw (← k, e) r

  pub same_lookup : (t : K → Bool) (xs ys : List (K × N)) → SameEntries xs ys → IsTrue (option_eq same (lookup t xs) (lookup t ys))
  same_lookup t [] [] s = refl
  same_lookup t [] (y ∷ ys) s = absurd s
  same_lookup t (x ∷ xs) [] s = absurd s
  same_lookup t (x ∷ xs) (y ∷ ys) s = look_step t x y xs ys (t x.0) refl s.0 s.1 (same_lookup t xs ys s.2)

  -- each key is below k
  abbrev pub AllBelow : (K → K → Ordering) → K → List (K × N) → Type 0
  AllBelow cmp k [] = Unit {0}
  AllBelow cmp k (x ∷ xs) = (cmp x.0 k ≡ Less) × AllBelow cmp k xs

  module _ {cmp : K → K → Ordering} (o : IsTotalOrder cmp) where
    -- an entry above all others is inserted at the end
    pub same_insert : (xs ys : List (K × N)) (k : K) (v w : N) → SameEntries xs ys → AllBelow cmp k ys → same v w ≡ true
        → SameEntries (insert_entry cmp xs k v) (ys ++ (k, w) ∷ [])
    same_insert [] [] k v w s b e = (refl, e, tt)
    same_insert [] (y ∷ ys) k v w s b e = absurd s
    same_insert (x ∷ xs) [] k v w s b e = absurd s
    same_insert (x ∷ xs) (y ∷ ys) k v w s b e =
        let g : cmp k x.0 ≡ Greater = o.antisymm k x.0 ∙ ap (λ z. ordering_reverse (cmp z k)) s.0 ∙ ap ordering_reverse b.0 in
        rw g (s.0, s.1, same_insert xs ys k v w s.2 b.1 e)

  -- an entry below all others is inserted at the beginning
  pub same_first : (cmp : K → K → Ordering) (front xs ys : List (K × N)) (k : K) (v w : N)
      → IsStrictlySortedBy cmp (keys_of (front ++ (k, w) ∷ ys)) → SameEntries xs ys → same v w ≡ true
      → SameEntries (insert_entry cmp xs k v) ((k, w) ∷ ys)
  same_first cmp [] [] [] k v w s t e = (refl, e, tt)
  same_first cmp [] [] (y ∷ ys) k v w s t e = absurd t
  same_first cmp [] (x ∷ xs) [] k v w s t e = absurd t
  same_first cmp [] (x ∷ xs) (y ∷ ys) k v w s t e =
      let below : cmp k x.0 ≡ Less = ap (cmp k) t.0 ∙ (sorted_head cmp k (keys_of (y ∷ ys)) s).0 in
      rw below (refl, e, t)
  same_first cmp (f ∷ front) xs ys k v w s t e =
      same_first cmp front xs ys k v w (sorted_tail cmp f.0 (keys_of (front ++ (k, w) ∷ ys)) s) t e

  -- what a filter keeps is still below
  below_one : (cmp : K → K → Ordering) (k : K) (x : K × N) (xs : List (K × N)) (b : Bool) → cmp x.0 k ≡ Less → AllBelow cmp k xs
      → AllBelow cmp k (cond b (x ∷ xs) xs)
  below_one cmp k x xs true h t = (h, t)
  below_one cmp k x xs false h t = t

  pub below_filter : (cmp : K → K → Ordering) (k : K) (p : K × N → Bool) (xs : List (K × N)) → AllBelow cmp k xs
      → AllBelow cmp k (filter p xs)
  below_filter cmp k p [] h = tt
  below_filter cmp k p (x ∷ xs) h = below_one cmp k x (filter p xs) (p x) h.0 (below_filter cmp k p xs h.1)

  head_below : (cmp : K → K → Ordering) (x : K × N) (xs ys : List (K × N)) (e : K × N)
      → AllByRecursion (λ y. cmp x.0 y ≡ Less) (keys_of (xs ++ e ∷ ys)) → cmp x.0 e.0 ≡ Less
  head_below cmp x [] ys e h = h.0
  head_below cmp x (z ∷ xs) ys e h = head_below cmp x xs ys e h.1

  -- the entries before one in order are below it
  pub below_from_sorted : (cmp : K → K → Ordering) (xs ys : List (K × N)) (e : K × N) → IsStrictlySortedBy cmp (keys_of (xs ++ e ∷ ys))
      → AllBelow cmp e.0 xs
  below_from_sorted cmp [] ys e h = tt
  below_from_sorted cmp (x ∷ xs) ys e h = (
    head_below cmp x xs ys e (sorted_head cmp x.0 (keys_of (xs ++ e ∷ ys)) h),
    below_from_sorted cmp xs ys e
        (sorted_tail cmp x.0 (keys_of (xs ++ e ∷ ys)) h),
  )

  front_step : (b : Bool) (x : K × N) (f g t : List (K × N)) → g ≡ f ++ t → cond b (x ∷ g) g ≡ cond b (x ∷ f) f ++ t
  front_step true x f g t h = ap (λ l. x ∷ l) h
  front_step false x f g t h = h

  kept_front : (p : K × N → Bool) (xs : List (K × N)) (e : K × N) (b : Bool) → p e ≡ b
      → filter p (xs ++ e ∷ []) ≡ filter p xs ++ cond b (e ∷ []) []
  kept_front p [] e b h = ap (λ c. cond c (e ∷ []) []) h
  kept_front p (x ∷ xs) e b h = front_step (p x) x (filter p xs) (filter p (xs ++ e ∷ [])) (cond b (e ∷ []) []) (kept_front p xs e b h)

  pub kept_in : {cmp : K → K → Ordering} → IsTotalOrder cmp → (p : K × N → Bool) (xs rest kept : List (K × N)) (k : K) (v w : N)
      → IsStrictlySortedBy cmp (keys_of (xs ++ (k, v) ∷ rest)) → true ≡ p (k, v) → same w v ≡ true → SameEntries kept (filter p xs)
      → SameEntries (insert_entry cmp kept k w) (filter p (xs ++ (k, v) ∷ []))
  kept_in {cmp} o p xs rest kept k v w s h e t =
      rw (kept_front p xs (k, v) true (sym h)) (same_insert o kept (filter p xs) k w v t
      (below_filter cmp k p xs (below_from_sorted cmp xs rest (k, v) s)) e)

  pub kept_out : (p : K × N → Bool) (xs kept : List (K × N)) (e : K × N) → false ≡ p e → SameEntries kept (filter p xs)
      → SameEntries kept (filter p (xs ++ e ∷ []))
  kept_out p xs kept e h t = rw (kept_front p xs e false (sym h), append-nil) t

-- ids that are equal stay alike
pub voter_alike : {K : Type 0} {e : K → K → Bool} → IsEquivalence e → (cs : List (List K)) (x y : K) → e x y ≡ true
    → is_voter_of e cs x ≡ is_voter_of e cs y
voter_alike laws [] x y h = refl
voter_alike laws (c ∷ cs) x y h = λ i. is_member-alike laws x y h c i || voter_alike laws cs x y h i

pub same_stays : {K : Type 0} {e : K → K → Bool} → IsEquivalence e → (old new : List (List K)) (retain : Bool) (x y : K) → e x y ≡ true
    → keeps_node e old new retain x ≡ keeps_node e old new retain y
same_stays laws old new retain x y h = λ i. retain || (not (voter_alike laws old x y h i) || voter_alike laws new x y h i)

-- the same keys with equal values are equal nodes
module _ {K N : Type 0} {eq : K → K → Bool} {same : N → N → Bool} (e : IsEquivalence eq) (s : IsEquivalence same) where
  pub same_entries : (xs ys : List (K × N)) → SameEntries same xs ys → IsTrue (same_nodes eq same ys xs)
  same_entries [] [] h = refl
  same_entries [] (y ∷ ys) h = absurd h
  same_entries (x ∷ xs) [] h = absurd h
  same_entries (x ∷ xs) (y ∷ ys) h =
      both_true (both_true (rw h.0 (e.refl y.0)) (s.symm y.1 x.1 ∙ h.1)) (same_entries xs ys h.2)

-- a query that equal ids pass alike finds equal nodes
module _ {K N : Type 0} {eq : K → K → Bool} {same : N → N → Bool} (s : IsEquivalence same) (t : K → Bool)
    (alike : (x y : K) → eq x y ≡ true → t x ≡ t y) where
  pub equal_lookup : (xs ys : List (K × N)) → IsTrue (same_nodes eq same xs ys) → IsTrue (option_eq same (lookup t ys) (lookup t xs))
  equal_lookup [] [] h = refl
  equal_lookup [] (y ∷ ys) h = cc
  equal_lookup (x ∷ xs) [] h = cc
  equal_lookup (x ∷ xs) (y ∷ ys) h = by (t y.0) refl
      (equal_lookup xs ys (second_so (eq x.0 y.0 && same x.1 y.1) (same_nodes eq same xs ys) h))
    where
      first : (eq x.0 y.0 && same x.1 y.1) ≡ true
      first = first_so (eq x.0 y.0 && same x.1 y.1) (same_nodes eq same xs ys) h

      by : (b : Bool) → t y.0 ≡ b → IsTrue (option_eq same (lookup t ys) (lookup t xs))
          → IsTrue (option_eq same (cond (t y.0) (Some y.1) (lookup t ys)) (cond (t x.0) (Some x.1) (lookup t xs)))
      by true e r = rw (alike x.0 y.0 (first_so (eq x.0 y.0) (same x.1 y.1) first), e)
          (s.symm y.1 x.1 ∙ second_so (eq x.0 y.0) (same x.1 y.1) first)
      by false e r = rw (alike x.0 y.0 (first_so (eq x.0 y.0) (same x.1 y.1) first), e) r

-- the same configs and equal nodes make equal memberships
pub equal_members : {K N : Type 0} {eq : K → K → Bool} (same : N → N → Bool) → IsEquivalence eq → (m w : MemberList K N)
    → w.configs ≡ m.configs → IsTrue (same_nodes eq same m.nodes w.nodes) → IsTrue (same_members eq same m w)
equal_members same e m w c h = both_true (rw c ((lists_equiv (lists_equiv e)).refl m.configs)) h

-- an item moves from the remaining ones to the done ones
pub moved_on : {X : Type 0} (done : List X) (x : X) (ahead all : List X) → all ≡ done ++ x ∷ ahead → all ≡ (done ++ x ∷ []) ++ ahead
moved_on done x ahead all h = h ∙ sym (append_assoc done (x ∷ []) ahead)

-- clones of nodes are equal nodes where their ids are equal
module _ {K N : Type 0} (eq : K → K → Bool) (same : N → N → Bool) (C : K → K → Type 0) (D : N → N → Type 0)
    (equal : ClonesAreEqual same D) where
  pub cloned_nodes : (xs ys : List (K × N)) → AllZip (λ p q. C p.0 q.0 × D p.1 q.1) xs ys
      → IsTrue (pointwise eq (keys_of xs) (keys_of ys)) → IsTrue (same_nodes eq same xs ys)
  cloned_nodes [] [] z h = refl
  cloned_nodes [] (y ∷ ys) z h = absurd z
  cloned_nodes (x ∷ xs) [] z h = absurd z
  cloned_nodes (x ∷ xs) (y ∷ ys) z h =
      both_true (both_true (first_so (eq x.0 y.0) (pointwise eq (keys_of xs) (keys_of ys)) h) (equal x.1 y.1 z.0.1))
      (cloned_nodes xs ys z.1 (second_so (eq x.0 y.0) (pointwise eq (keys_of xs) (keys_of ys)) h))

module _ {K : Type 0} (eq : K → K → Bool) (xs ys : List K) where
  -- behind what is left of them two lists agree
  abbrev pub AgreeBehind : List K → List K → Type 0
  AgreeBehind ahead left = (us : List K) × (vs : List K) × (xs ≡ ahead ++ us) × (ys ≡ left ++ vs) × (pointwise eq us vs ≡ true)

  -- nothing is behind at first
  pub agree_first : (ahead left : List K) → xs ≡ ahead → ys ≡ left → AgreeBehind ahead left
  agree_first ahead left a l = ([], [], a ∙ sym (append-nil ahead), l ∙ sym (append-nil left), refl)

  -- the last of either is equal
  pub agree_next : (ahead left a l : List K) (x y : K) → AgreeBehind ahead left → ahead ≡ a ++ x ∷ [] → left ≡ l ++ y ∷ []
      → eq x y ≡ true → AgreeBehind a l
  agree_next ahead left a l x y h e f same = (
    x ∷ h.0,
    y ∷ h.1,
    h.2 ∙ ap (λ zs. zs ++ h.0) e ∙ append_assoc a (x ∷ []) h.0,
    h.3 ∙ ap (λ zs. zs ++ h.1) f ∙ append_assoc l (y ∷ []) h.1,
    both_true same h.4,
  )

  -- nothing is left of the first, and the second is as long
  pub agree_all : (ahead left : List K) → AgreeBehind ahead left → ahead ≡ [] → length xs ≡ length ys → pointwise eq xs ys ≡ true
  agree_all ahead [] h e n = rw (h.2, e, h.3) h.4
  agree_all ahead (z ∷ zs) h e n =
      let first : length xs ≡ length h.0 = ap length (h.2 ∙ ap (λ l. l ++ h.0) e) in
      let second : length ys ≡ length (z ∷ (zs ++ h.1)) = ap length h.3 in
      let long : length h.0 ≡ length h.1 = as_long eq h.0 h.1 h.4 in
      absurd (omega (arith, length-append zs h.1))
