-- Lists of the positions of ids.
use Rattle.std.specs.Prelude.{◌≡◌, ℕ, ◌+◌, ◌-◌, ◌<◌, ◌≤◌, Bool, true, false, List, [], ◌∷◌, ◌++◌, length, Option, Some, None, position, slice_get}
use Rattle.std.specs.Cmp.{IsEquivalence}
use Rattle.std.specs.Map.{keys_of, values_of}
use Rattle.std.specs.List.{IsDistinct}
use Rattle.std.specs.Option.{is_some, option_map}
use Rattle.std.proofs.Common.{arith, sym, ap, refl, ◌∙◌, get_or, set, subst, suc, zero, ltb, ltb-true, ltb-false, length-append}
use Rattle.std.proofs.lemmas.List.{get_or-append-add, get_or_append_left, length-map}
use Rattle.std.proofs.lemmas.Bool.Decides.{nat_tests}
use Rattle.std.proofs.lemmas.List.Quantifiers.{position-Some}
use Rattle.std.proofs.lemmas.Option.{get_or_from_slice_get, slice_get_within}
use Rattle.std.proofs.lemmas.Map.Entries.{length-keys_of, place_from_lookup}
use Rattle.std.proofs.lemmas.Map.Keys.{IsDistinct-from_apart, apart_from_distinct}
use Rattle.std.proofs.lemmas.Map.Made.{is_some-lookup}
use Rattle.std.specs.declared.cmp.Ordering.{Ordering}
use Rattle.raft_progress.specs.Inner.Positions.{AreAtPositions, AreInverse, WereAtPositions, position_after, position_in}
use Rattle.raft_progress.specs.Inner.Rises.{Passed}
use Rattle.raft_progress.proofs.lemmas.progress.positions.MadeLemmas.{position_at}
use Rattle.raft_progress.proofs.lemmas.progress.entries.MovedLemmas.{member_moved}
use Rattle.raft_progress.proofs.lemmas.progress.entries.EntriesLemmas.{lookup_absent}

-- the id at a position is the id of the entry there
pub key_at : {ID V : Type 0} (es : List (ID × V)) (i : ℕ) (d : ID × V) (x : ID) → i < length es
    → (get_or es i d).0 ≡ get_or (keys_of es) i x
key_at [] i d x l = absurd (omega arith)
key_at (e ∷ es) zero d x l = refl
key_at (e ∷ es) (suc i) d x l = key_at es i d x (omega arith)

keys_append : {ID V : Type 0} (es fs : List (ID × V)) → keys_of (es ++ fs) ≡ keys_of es ++ keys_of fs
keys_append [] fs = refl
keys_append (e ∷ es) fs = ap (λ ks. e.0 ∷ ks) (keys_append es fs)

-- a value that is written leaves the ids
pub keys_rewritten : {ID V : Type 0} (es : List (ID × V)) (i : ℕ) (d : ID × V) (w : V)
    → keys_of (set es i ((get_or es i d).0, w)) ≡ keys_of es
keys_rewritten [] i d w = refl
keys_rewritten (e ∷ es) zero d w = refl
keys_rewritten (e ∷ es) (suc i) d w = ap (λ ks. e.0 ∷ ks) (keys_rewritten es i d w)

pub keys_written : {ID V : Type 0} (es : List (ID × V)) (i : ℕ) (e : ID × V) (w : V) → slice_get es i ≡ Some e
    → keys_of (set es i (e.0, w)) ≡ keys_of es
keys_written {ID} {V} es i e w h = ap (λ (f : ID × V). keys_of (set es i (f.0, w))) (sym (get_or_from_slice_get es i e e h))
    ∙ keys_rewritten es i e w

-- within a list the default does not matter
pub any_default : {X : Type 0} (xs : List X) (i : ℕ) (d e : X) → i < length xs → get_or xs i d ≡ get_or xs i e
any_default [] i d e l = absurd (omega arith)
any_default (x ∷ xs) zero d e l = refl
any_default (x ∷ xs) (suc i) d e l = any_default xs i d e (omega arith)

pub passed_length : {ID V P : Type 0} (cmp : P → P → Ordering) (part : V → P) (old : List (ID × V)) (from : ℕ) (new : List (ID × V))
    (to : ℕ) → Passed cmp part old from new to → length new ≡ length old
passed_length cmp part old from new to p =
    let a = length-append p.prefix (p.passed ++ (p.entry ∷ p.rest)) in
    let b = length-append p.passed (p.entry ∷ p.rest) in
    let c = length-append p.prefix (p.entry ∷ (p.passed ++ p.rest)) in
    let d = length-append p.passed p.rest in
    ap length p.now ∙ omega arith ∙ sym (ap length p.was)

-- an entry that has passed none is at its old position
pub same_unless_passed : {ID V P : Type 0} (cmp : P → P → Ordering) (part : V → P) (old : List (ID × V)) (from : ℕ) (new : List (ID × V))
    (to : ℕ) → Passed cmp part old from new to → from ≤ to → new ≡ old
same_unless_passed {ID} {V} cmp part old from new to p l = by p.passed refl
  where
    by : (passed : List (ID × V)) → p.passed ≡ passed → new ≡ old
    by [] none = p.now ∙ ap (λ (es : List (ID × V)). p.prefix ++ (p.entry ∷ (es ++ p.rest))) none
        ∙ sym (p.was ∙ ap (λ (es : List (ID × V)). p.prefix ++ (es ++ (p.entry ∷ p.rest))) none)
    by (e ∷ es) some = let q = p.now_at in let w = p.was_at in let n = ap length some in absurd (omega arith)

-- after an entry has moved up: the positions before and after the move's range stay, the entry's
-- position is the new one, and those that it passed are one more
module _ (first last : ℕ) where
  after_before : (k : ℕ) → first ≤ last → k < first → position_after first last k ≡ k
  after_before k up l = grind (arith, nat_tests)

  after_behind : (k : ℕ) → last < k → position_after first last k ≡ k
  after_behind k l = grind (arith, nat_tests)

  after_moved : position_after first last last ≡ first
  after_moved = grind (arith, nat_tests)

  after_passed : (k : ℕ) → first ≤ k → k < last → position_after first last k ≡ k + 1
  after_passed k l m = grind (arith, nat_tests)

module _ {ID : Type 0} {eq : ID → ID → Bool} (laws : IsEquivalence eq) where
  differs : (ids : List ID) → IsDistinct eq ids → (i k : ℕ) (x : ID) → i < length ids → k < length ids → (i ≡ k → ⊥)
      → eq (get_or ids i x) (get_or ids k x) ≡ false
  differs ids d i k x l m n = by (ltb i k) refl
    where
      by : (b : Bool) → ltb i k ≡ b → eq (get_or ids i x) (get_or ids k x) ≡ false
      by true t = apart_from_distinct eq ids i k x d (ltb-true i k t) m
      by false t =
          let h = ltb-false i k t in
          let g : k < i = by' (ltb k i) refl h in
          laws.symm (get_or ids i x) (get_or ids k x) ∙ apart_from_distinct eq ids k i x d g l
        where
          by' : (b : Bool) → ltb k i ≡ b → k ≤ i → k < i
          by' true t h = ltb-true k i t
          by' false t h = let u = ltb-false k i t in absurd (n (omega arith))

  -- the list of positions has what a search of the entries finds
  pub position_is : {V : Type 0} (entries : List (ID × V)) (found : ID → Option ℕ) → AreAtPositions eq (keys_of entries) found → (id : ID)
      → found id ≡ position (λ (e : ID × V). eq id e.0) entries
  position_is [] found t id = t.unknown id refl
  position_is {V} (e ∷ es) found t id = by (position (λ (f : ID × V). eq id f.0) (e ∷ es)) refl
    where
      by : (o : Option ℕ) → position (λ (f : ID × V). eq id f.0) (e ∷ es) ≡ o → found id ≡ o
      by (Some i) h =
          let p = position-Some (λ (f : ID × V). eq id f.0) (e ∷ es) i e h in
          t.here id i (rw (length-keys_of (e ∷ es)) p.0) (ap (eq id) (sym (key_at (e ∷ es) i e id p.0)) ∙ p.1)
      by None h = t.unknown id (sym (is_some-lookup (eq id) (e ∷ es)) ∙ ap is_some (lookup_absent (eq id) (e ∷ es) h))

  -- a position from before a move is one from which the move leads to the present position
  module _ (ids : List ID) (first last : ℕ) (up : first ≤ last) (found : ID → Option ℕ)
      (t : WereAtPositions eq ids first last found) where
    found_before : (x : ID) (k : ℕ) → k < length ids → eq x (get_or ids k x) ≡ true
        → (j : ℕ) × (found x ≡ Some j) × (position_after first last j ≡ k)
    found_before x k l at = by (ltb k first) refl (ltb last k) refl
      where
        within : (k : ℕ) → k < length ids → eq x (get_or ids k x) ≡ true → first ≤ k → k ≤ last
            → (j : ℕ) × (found x ≡ Some j) × (position_after first last j ≡ k)
        within k l at m n = here (ltb first k) refl
          where
            here : (b : Bool) → ltb first k ≡ b → (j : ℕ) × (found x ≡ Some j) × (position_after first last j ≡ k)
            here true u =
                let h = ltb-true first k u in
                let same : k ≡ k - 1 + 1 = omega arith in (
                  k - 1,
                  t.passed x (k - 1) (omega arith) (ap (λ n. eq x (get_or ids n x)) (sym same) ∙ at) (omega arith) (omega arith),
                  after_passed first last (k - 1) (omega arith) (omega arith) ∙ sym same,
                )
            here false u =
                let h = ltb-false first k u in
                let same : k ≡ first = omega arith in
                (last, t.moved x (omega arith) (ap (λ n. eq x (get_or ids n x)) (sym same) ∙ at), after_moved first last ∙ sym same)

        by : (b : Bool) → ltb k first ≡ b → (c : Bool) → ltb last k ≡ c → (j : ℕ) × (found x ≡ Some j) × (position_after first last j ≡ k)
        by true u c v = let h = ltb-true k first u in (k, t.before x k l at h, after_before first last k up h)
        by false u true v = let h = ltb-true last k v in (k, t.behind x k l at h, after_behind first last k h)
        by false u false v = within k l at (ltb-false k first u) (ltb-false last k v)

    -- a list of positions that is updated with the move has the present positions
    pub found_after : (found' : ID → Option ℕ) → ((x : ID) → found' x ≡ option_map (position_after first last) (found x))
        → AreAtPositions eq ids found'
    found_after found' is = record {
      here = λ x k l at. let r = found_before x k l at in is x ∙ ap (option_map (position_after first last)) r.1
          ∙ ap (λ (n : ℕ). Some n) r.2;
      unknown = λ x m. is x ∙ ap (option_map (position_after first last)) (t.unknown x m);
    }

  -- an entry has moved up, and the list has the positions from before
  module _ {V : Type 0} (prefix passed : List (ID × V)) (e : ID × V) (rest : List (ID × V)) (found : ID → Option ℕ)
      (t : AreAtPositions eq (keys_of (prefix ++ (passed ++ (e ∷ rest)))) found) where
    abbrev Old : List ID
    Old = keys_of (prefix ++ (passed ++ (e ∷ rest)))

    abbrev New : List ID
    New = keys_of (prefix ++ (e ∷ (passed ++ rest)))

    old_is : Old ≡ keys_of prefix ++ (keys_of passed ++ (e.0 ∷ keys_of rest))
    old_is = keys_append prefix (passed ++ (e ∷ rest)) ∙ ap (λ ks. keys_of prefix ++ ks) (keys_append passed (e ∷ rest))

    new_is : New ≡ keys_of prefix ++ (e.0 ∷ (keys_of passed ++ keys_of rest))
    new_is = keys_append prefix (e ∷ (passed ++ rest)) ∙ ap (λ ks. keys_of prefix ++ (e.0 ∷ ks)) (keys_append passed rest)

    as_long : length Old ≡ length New
    as_long =
        ap length old_is
        ∙ let a = length-append (keys_of prefix) (keys_of passed ++ (e.0 ∷ keys_of rest)) in
        let b = length-append (keys_of passed) (e.0 ∷ keys_of rest) in
        let c = length-append (keys_of prefix) (e.0 ∷ (keys_of passed ++ keys_of rest)) in
        let d = length-append (keys_of passed) (keys_of rest) in
        omega arith
        ∙ ap length (sym new_is)

    same_before : (k : ℕ) (x : ID) → k < length prefix → get_or New k x ≡ get_or Old k x
    same_before k x l =
        let m : k < length (keys_of prefix) = rw (length-keys_of prefix) l in
        ap (λ ks. get_or ks k x) new_is ∙ get_or_append_left (keys_of prefix) _ x k m ∙ sym (get_or_append_left (keys_of prefix) _ x k m)
        ∙ ap (λ ks. get_or ks k x) (sym old_is)

    same_behind : (k : ℕ) (x : ID) → length prefix + length passed + 1 ≤ k → get_or New k x ≡ get_or Old k x
    same_behind k x l =
        let j : ℕ = k - length prefix - length passed - 1 in
        let f = length-keys_of prefix in
        let p = length-keys_of passed in
        let to_new : k ≡ length (keys_of prefix) + suc (length (keys_of passed) + j) = omega arith in
        let to_old : k ≡ length (keys_of prefix) + (length (keys_of passed) + suc j) = omega arith in
        ap (λ ks. get_or ks k x) new_is ∙ ap (λ n. get_or (keys_of prefix ++ (e.0 ∷ (keys_of passed ++ keys_of rest))) n x) to_new
        ∙ get_or-append-add (keys_of prefix) (e.0 ∷ (keys_of passed ++ keys_of rest)) (suc (length (keys_of passed) + j)) x
        ∙ get_or-append-add (keys_of passed) (keys_of rest) j x
        ∙ sym (ap (λ ks. get_or ks k x) old_is ∙ ap (λ n. get_or (keys_of prefix ++ (keys_of passed ++ (e.0 ∷ keys_of rest))) n x) to_old
        ∙ get_or-append-add (keys_of prefix) (keys_of passed ++ (e.0 ∷ keys_of rest)) (length (keys_of passed) + suc j) x
        ∙ get_or-append-add (keys_of passed) (e.0 ∷ keys_of rest) (suc j) x)

    same_moved : (x : ID) → get_or New (length prefix) x ≡ get_or Old (length prefix + length passed) x
    same_moved x =
        let f = length-keys_of prefix in
        let p = length-keys_of passed in
        let to_new : length prefix ≡ length (keys_of prefix) + 0 = omega arith in
        let to_old : length prefix + length passed ≡ length (keys_of prefix) + (length (keys_of passed) + 0) = omega arith in
        ap (λ ks. get_or ks (length prefix) x) new_is
        ∙ ap (λ n. get_or (keys_of prefix ++ (e.0 ∷ (keys_of passed ++ keys_of rest))) n x) to_new
        ∙ get_or-append-add (keys_of prefix) (e.0 ∷ (keys_of passed ++ keys_of rest)) 0 x
        ∙ sym (ap (λ ks. get_or ks (length prefix + length passed) x) old_is
        ∙ ap (λ n. get_or (keys_of prefix ++ (keys_of passed ++ (e.0 ∷ keys_of rest))) n x) to_old
        ∙ get_or-append-add (keys_of prefix) (keys_of passed ++ (e.0 ∷ keys_of rest)) (length (keys_of passed) + 0) x
        ∙ get_or-append-add (keys_of passed) (e.0 ∷ keys_of rest) 0 x)

    same_passed : (k : ℕ) (x : ID) → length prefix ≤ k → k < length prefix + length passed → get_or New (k + 1) x ≡ get_or Old k x
    same_passed k x l m =
        let j : ℕ = k - length prefix in
        let f = length-keys_of prefix in
        let p = length-keys_of passed in
        let near : j < length (keys_of passed) = omega arith in
        let to_new : k + 1 ≡ length (keys_of prefix) + suc j = omega arith in
        let to_old : k ≡ length (keys_of prefix) + j = omega arith in
        ap (λ ks. get_or ks (k + 1) x) new_is ∙ ap (λ n. get_or (keys_of prefix ++ (e.0 ∷ (keys_of passed ++ keys_of rest))) n x) to_new
        ∙ get_or-append-add (keys_of prefix) (e.0 ∷ (keys_of passed ++ keys_of rest)) (suc j) x
        ∙ get_or_append_left (keys_of passed) (keys_of rest) x j near
        ∙ sym (ap (λ ks. get_or ks k x) old_is ∙ ap (λ n. get_or (keys_of prefix ++ (keys_of passed ++ (e.0 ∷ keys_of rest))) n x) to_old
        ∙ get_or-append-add (keys_of prefix) (keys_of passed ++ (e.0 ∷ keys_of rest)) j x
        ∙ get_or_append_left (keys_of passed) (e.0 ∷ keys_of rest) x j near)

    pub before_move : WereAtPositions eq New (length prefix) (length prefix + length passed) found
    before_move =
        let a = length-append (keys_of prefix) (keys_of passed ++ (e.0 ∷ keys_of rest)) in
        let b = length-append (keys_of passed) (e.0 ∷ keys_of rest) in
        let n : length Old ≡ length (keys_of prefix) + (length (keys_of passed) + suc (length (keys_of rest))) =
        ap length old_is ∙ omega arith in
        let f = length-keys_of prefix in
        let p = length-keys_of passed in
        record {
          before = λ x k m at l. t.here x k (rw as_long m) (ap (eq x) (sym (same_before k x l)) ∙ at);
          moved = λ x m at. t.here x (length prefix + length passed) (omega arith) (ap (eq x) (sym (same_moved x)) ∙ at);
          passed = λ x k m at l u. t.here x k (omega arith) (ap (eq x) (sym (same_passed k x l u)) ∙ at);
          behind = λ x k m at l. t.here x k (rw as_long m) (ap (eq x) (sym (same_behind k x (omega arith))) ∙ at);
          unknown = λ x m. t.unknown x (sym (member_moved laws prefix passed e rest x) ∙ m);
        }

  pub before_passed : {V P : Type 0} (cmp : P → P → Ordering) (part : V → P) (old : List (ID × V)) (from : ℕ) (new : List (ID × V)) (to : ℕ)
      → Passed cmp part old from new to → (found : ID → Option ℕ) → AreAtPositions eq (keys_of old) found
      → WereAtPositions eq (keys_of new) to from found
  before_passed {V} {P} cmp part old from new to p found t =
      let b = before_move p.prefix p.passed p.entry p.rest found
      (subst (λ (es : List (ID × V)). AreAtPositions eq (keys_of es) found) p.was t) in
      subst (λ (es : List (ID × V)). WereAtPositions eq (keys_of es) to from found) (sym p.now)
      (subst (λ (n : ℕ). WereAtPositions eq (keys_of (p.prefix ++ (p.entry ∷ (p.passed ++ p.rest)))) n from found) p.now_at
      (subst (λ (n : ℕ). WereAtPositions eq (keys_of (p.prefix ++ (p.entry ∷ (p.passed ++ p.rest))))
      (length p.prefix) n found) p.was_at b))

  -- the same ids, and a list with the same positions
  pub found_alike : (ids ids' : List ID) (found found' : ID → Option ℕ) → ids' ≡ ids → ((x : ID) → found' x ≡ found x)
      → AreAtPositions eq ids found → AreAtPositions eq ids' found'
  found_alike ids ids' found found' same is t =
      subst (λ (ks : List ID). AreAtPositions eq ks found') (sym same) record
      { here = λ x k l h. is x ∙ t.here x k l h; unknown = λ x m. is x ∙ t.unknown x m }

  -- each position in the list has a rank
  pub position_ranked : (es : List (ID × ℕ)) (ranks : List ℕ) → AreInverse (values_of es) ranks → (ids : List ID) (k : ℕ) → k < length ids
      → AreAtPositions eq ids (position_in eq es) → k < length ranks
  position_ranked es ranks a [] k l t = absurd (omega arith)
  position_ranked es ranks a (i ∷ ids) k l t =
      let x = get_or (i ∷ ids) k i in
      let f = place_from_lookup (eq x) es k (t.here x k l (ap (eq x) (any_default (i ∷ ids) k x i l) ∙ laws.refl x)) in
      let w = slice_get_within es f.0 (f.1, k) f.2 in
      let b = a.back f.0 (omega (arith, length-map es (λ e. e.1))) in
      let e = sym (position_at es f.0 (f.1, k) 0 w) ∙ ap (λ (e : ID × ℕ). e.1) (get_or_from_slice_get es f.0 (f.1, k) (f.1, k) f.2) in
      let c = b.0 in
      omega arith

  -- if the rank of each position leads to the id there, no id is repeated
  pub distinct_if_found : (es : List (ID × ℕ)) (ranks : List ℕ) → AreInverse (values_of es) ranks → IsDistinct eq (keys_of es)
      → (ids : List ID) → length ranks ≡ length ids
      → ((p : ℕ) (d e : ID) → p < length ids → eq (get_or (keys_of es) (get_or ranks p 0) d) (get_or ids p e) ≡ true) → IsDistinct eq ids
  distinct_if_found es ranks a distinct ids same told =
      IsDistinct-from_apart eq ids
      (λ i j d o m.
      let n = length-keys_of es in
      let w = length-map es (λ e. e.1) in
      let f = a.forth i (omega arith) in
      let g = a.forth j (omega arith) in
      let one = get_or (keys_of es) (get_or ranks i 0) d in
      let other = get_or (keys_of es) (get_or ranks j 0) d in
      let apart : eq one other ≡ false =
      differs (keys_of es) distinct (get_or ranks i 0) (get_or ranks j 0) d (omega arith) (omega arith)
      (λ e. let q = ap (λ r. get_or (values_of es) r 0) e in let u = f.1 in let v = g.1 in omega arith) in
      sym (laws.congr one (get_or ids i d) (get_or ids j d) (told i d d (omega arith)))
      ∙ laws.symm one (get_or ids j d)
      ∙ sym (laws.congr other (get_or ids j d) one (told j d d m)) ∙ laws.symm other one ∙ apart)
