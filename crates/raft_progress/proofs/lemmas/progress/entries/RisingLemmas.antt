-- Moving an entry up, one neighbour at a time.
use Rattle.std.specs.Prelude.{◌≡◌, ℕ, ◌+◌, ◌-◌, ◌<◌, ◌≤◌, Bool, true, false, List, [], ◌∷◌, ◌++◌, length}
use Rattle.std.specs.declared.cmp.Ordering.{Ordering}
use Rattle.std.specs.Ordering.{is_lt}
use Rattle.std.specs.List.{swap}
use Rattle.std.proofs.Common.{arith, sym, ap, refl, ◌∙◌, true≢false, get_or, set, suc, zero, append_assoc, add-one, ltb, ltb-true, ltb-false}
use Rattle.std.specs.List.{prefix_len}
use Rattle.std.proofs.lemmas.List.Sums.{prefix_len_passes, prefix_len_stops}
use Rattle.std.proofs.lemmas.List.Edits.{swap_is}
use Rattle.std.specs.Cmp.{IsTotalOrder}
use Rattle.raft_progress.specs.progress.CountedValue.{AtMost}
use Rattle.raft_progress.specs.Inner.Rises.{LastAtLeast, Passed, RisesTo}
use Rattle.raft_progress.proofs.lemmas.OrderLemmas.{AtMost-from_not_lt}
use Rattle.std.proofs.Math.Seq.{get_or-append_seam, set-append_seam}
use Rattle.std.proofs.lemmas.List.{get_or_append_left}

length_more : {X : Type 0} (xs : List X) (y : X) → length (xs ++ y ∷ []) ≡ suc (length xs)
length_more [] y = refl
length_more (k ∷ ks) y = ap suc (length_more ks y)

length_less : {X : Type 0} (xs : List X) (x : X) (ys : List X) → length xs < length (xs ++ x ∷ ys)
length_less [] x ys = omega arith
length_less (k ∷ ks) x ys = let h = length_less ks x ys in omega arith

swap_neighbours : {X : Type 0} (xs : List X) (f e : X) (ys : List X)
    → swap (xs ++ f ∷ e ∷ ys) (length xs) (suc (length xs)) ≡ xs ++ e ∷ f ∷ ys
swap_neighbours {X} xs f e ys =
    let zs : List X = xs ++ f ∷ e ∷ ys in
    let assoc : (a b : X) → (xs ++ a ∷ []) ++ b ∷ ys ≡ xs ++ a ∷ b ∷ ys = λ a b. append_assoc xs (a ∷ []) (b ∷ ys) in
    let ga : get_or zs (length xs) f ≡ f = get_or-append_seam xs f (e ∷ ys) f in
    let gb : get_or zs (suc (length xs)) f ≡ e =
    ap (λ l. get_or l (suc (length xs)) f) (sym (assoc f e)) ∙ ap (λ n. get_or ((xs ++ f ∷ []) ++ e ∷ ys) n f) (sym (length_more xs f))
    ∙ get_or-append_seam (xs ++ f ∷ []) e ys f in
    let s1 : set zs (length xs) e ≡ xs ++ e ∷ e ∷ ys = set-append_seam xs f (e ∷ ys) e in
    let s2 : set (xs ++ e ∷ e ∷ ys) (suc (length xs)) f ≡ xs ++ e ∷ f ∷ ys =
    ap (λ l. set l (suc (length xs)) f) (sym (assoc e e)) ∙ ap (λ n. set ((xs ++ e ∷ []) ++ e ∷ ys) n f) (sym (length_more xs e))
    ∙ set-append_seam (xs ++ e ∷ []) e ys f ∙ assoc e f in
    let la : length xs < length zs = length_less xs f (e ∷ ys) in
    let lb : suc (length xs) < length zs = rw (← length_more xs f, ← assoc f e) (length_less (xs ++ f ∷ []) e ys) in
    sym (swap_is zs (length xs) (suc (length xs)) f la lb)
    ∙ ap (λ w. set (set zs (length xs) w) (suc (length xs)) (get_or zs (length xs) f)) gb
    ∙ ap (λ w. set (set zs (length xs) e) (suc (length xs)) w) ga ∙ ap (λ l. set l (suc (length xs)) f) s1 ∙ s2

pub record LastSplit {X : Type 0} (xs : List X) (n : ℕ) : Type 0 where
  pub init : List X
  pub last : X
  pub is : xs ≡ init ++ last ∷ []
  pub init_length : length init ≡ n

last_split : {X : Type 0} (xs : List X) (n : ℕ) → length xs ≡ suc n → LastSplit xs n
last_split [] n l = absurd (omega arith)
last_split (x ∷ []) n l = record { init = []; last = x; is = refl; init_length = omega arith }
last_split (x ∷ y ∷ ys) zero l = absurd (omega arith)
last_split (x ∷ y ∷ ys) (suc n) l =
    let r = last_split (y ∷ ys) n (omega arith) in
    record { init = x ∷ r.init; last = r.last; is = ap (λ zs. x ∷ zs) r.is; init_length = ap suc r.init_length }

-- the elements on both sides of a cut have swapped positions
pub swap_at_cut : {X : Type 0} (prefix back : List X) (n : ℕ) (d e : X) → 0 < n → length prefix ≡ n → 0 < length back
    → set prefix (n - 1) (get_or back 0 e) ++ set back 0 (get_or prefix (n - 1) d) ≡ swap (prefix ++ back) (n - 1) n
swap_at_cut prefix [] n d e some l more = absurd (omega arith)
swap_at_cut prefix (b ∷ bs) n d e some l more =
    let s = last_split prefix (n - 1) (omega arith) in
    let last_is : get_or prefix (n - 1) d ≡ s.last =
    ap (λ xs. get_or xs (n - 1) d) s.is ∙ ap (λ k. get_or (s.init ++ s.last ∷ []) k d) (sym s.init_length)
    ∙ get_or-append_seam s.init s.last [] d in
    let prefix_is : set prefix (n - 1) b ≡ s.init ++ b ∷ [] =
    ap (λ xs. set xs (n - 1) b) s.is ∙ ap (λ k. set (s.init ++ s.last ∷ []) k b) (sym s.init_length) ∙ set-append_seam s.init s.last [] b in
    let next : n ≡ suc (length s.init) = let h = s.init_length in omega arith in
    let swapped : swap (prefix ++ b ∷ bs) (n - 1) n ≡ s.init ++ b ∷ s.last ∷ bs =
    ap (λ xs. swap (xs ++ b ∷ bs) (n - 1) n) s.is ∙ ap (λ xs. swap xs (n - 1) n) (append_assoc s.init (s.last ∷ []) (b ∷ bs))
    ∙ ap (λ k. swap (s.init ++ s.last ∷ b ∷ bs) k n) (sym s.init_length)
    ∙ ap (λ k. swap (s.init ++ s.last ∷ b ∷ bs) (length s.init) k) next ∙ swap_neighbours s.init s.last b bs in
    ap (λ xs. xs ++ get_or prefix (n - 1) d ∷ bs) prefix_is ∙ append_assoc s.init (b ∷ []) (get_or prefix (n - 1) d ∷ bs)
    ∙ ap (λ x. s.init ++ b ∷ x ∷ bs) last_is ∙ sym swapped

pub record SplitAt {X : Type 0} (xs : List X) (n : ℕ) : Type 0 where
  pub prefix : List X
  pub entry : X
  pub rest : List X
  pub is : xs ≡ prefix ++ entry ∷ rest
  pub front_length : length prefix ≡ n

pub split_at : {X : Type 0} (xs : List X) (n : ℕ) → n < length xs → SplitAt xs n
split_at [] n l = absurd (omega arith)
split_at (x ∷ xs) zero l = record { prefix = []; entry = x; rest = xs; is = refl; front_length = refl }
split_at (x ∷ xs) (suc n) l =
    let r = split_at xs n (omega arith) in
    record { prefix = x ∷ r.prefix; entry = r.entry; rest = r.rest; is = ap (λ zs. x ∷ zs) r.is; front_length = ap suc r.front_length }

module _ {ID V P : Type 0} (cmp : P → P → Ordering) (part : V → P) where
  last_from_get : (p : P) (xs : List (ID × V)) (n : ℕ) (d : ID × V) → length xs ≡ suc n → AtMost cmp p (part (get_or xs n d).1)
      → LastAtLeast cmp part p xs
  last_from_get p [] n d l h = tt
  last_from_get p (x ∷ []) zero d l h = h
  last_from_get p (x ∷ []) (suc n) d l h = absurd (omega arith)
  last_from_get p (x ∷ y ∷ ys) zero d l h = absurd (omega arith)
  last_from_get p (x ∷ y ∷ ys) (suc n) d l h = last_from_get p (y ∷ ys) n d (omega arith) h

  -- the position that it has passed down to is in the list
  pub passed_within : (old : List (ID × V)) (from : ℕ) (new : List (ID × V)) (to : ℕ) → Passed cmp part old from new to → to < length new
  passed_within old from new to r = rw (r.now, ← r.now_at) (length_less r.prefix r.entry (r.passed ++ r.rest))

  -- nothing has been passed yet
  pub passed_none : (xs : List (ID × V)) (n : ℕ) → n < length xs → Passed cmp part xs n xs n
  passed_none xs n l =
      let s = split_at xs n l in
      record {
        prefix = s.prefix;
        passed = [];
        entry = s.entry;
        rest = s.rest;
        was = s.is;
        was_at = omega (arith, s.front_length);
        now = s.is;
        now_at = s.front_length;
        lesser = tt;
      }

  module _ (old : List (ID × V)) (from : ℕ) (now : List (ID × V)) (at : ℕ) (r : Passed cmp part old from now (at + 1)) where
    here : (d : ID × V) → get_or now (at + 1) d ≡ r.entry
    here d = ap (λ xs. get_or xs (at + 1) d) r.now ∙ ap (λ n. get_or (r.prefix ++ (r.entry ∷ (r.passed ++ r.rest))) n d) (sym r.now_at)
        ∙ get_or-append_seam r.prefix r.entry (r.passed ++ r.rest) d

    before : (d : ID × V) → get_or now at d ≡ get_or r.prefix at d
    before d = let l : at < length r.prefix = rw r.now_at (omega arith) in
        ap (λ xs. get_or xs at d) r.now ∙ get_or_append_left r.prefix (r.entry ∷ (r.passed ++ r.rest)) d at l

    -- one entry more has been passed
    pub passed_more : (next : List (ID × V)) → next ≡ swap now at (at + 1)
        → ((d : ID × V) → is_lt (cmp (part (get_or now at d).1) (part (get_or now (at + 1) d).1)) ≡ true) → Passed cmp part old from next at
    passed_more next is less =
        let s = last_split r.prefix at (r.now_at ∙ add-one at) in
        let now_is : now ≡ s.init ++ s.last ∷ r.entry ∷ (r.passed ++ r.rest) =
        r.now ∙ ap (λ xs. xs ++ (r.entry ∷ (r.passed ++ r.rest))) s.is
        ∙ append_assoc s.init (s.last ∷ []) (r.entry ∷ (r.passed ++ r.rest)) in
        let last_is : get_or now at s.last ≡ s.last =
        ap (λ xs. get_or xs at s.last) now_is ∙ ap (λ n. get_or (s.init ++ s.last ∷ r.entry ∷ (r.passed ++ r.rest)) n s.last)
        (sym s.init_length) ∙ get_or-append_seam s.init s.last (r.entry ∷ (r.passed ++ r.rest)) s.last in
        record {
          prefix = s.init;
          passed = s.last ∷ r.passed;
          entry = r.entry;
          rest = r.rest;
          was = r.was ∙ ap (λ xs. xs ++ (r.passed ++ (r.entry ∷ r.rest))) s.is
              ∙ append_assoc s.init (s.last ∷ []) (r.passed ++ (r.entry ∷ r.rest));
          was_at = omega (arith, s.init_length, r.now_at, r.was_at);
          now = is ∙ ap (λ xs. swap xs at (at + 1)) now_is
              ∙ ap (λ n. swap (s.init ++ s.last ∷ r.entry ∷ (r.passed ++ r.rest)) n (n + 1)) (sym s.init_length)
              ∙ ap (λ n. swap (s.init ++ s.last ∷ r.entry ∷ (r.passed ++ r.rest)) (length s.init) n) (add-one (length s.init))
              ∙ swap_neighbours s.init s.last r.entry (r.passed ++ r.rest);
          now_at = s.init_length;
          lesser = (
            ap (λ e. is_lt (cmp (part e.1) (part r.entry.1))) (sym last_is)
                ∙ ap (λ e. is_lt (cmp (part (get_or now at s.last).1) (part e.1))) (sym (here s.last)) ∙ less s.last,
            r.lesser,
          );
        }

    pub rises_stop : IsTotalOrder cmp → ((d : ID × V) → is_lt (cmp (part (get_or now at d).1) (part (get_or now (at + 1) d).1)) ≡ false)
        → RisesTo cmp part old from now (at + 1)
    rises_stop o not_less = record {
      passes = r;
      stops = last_from_get (part r.entry.1) r.prefix at r.entry (r.now_at ∙ add-one at)
          (AtMost-from_not_lt o (part (get_or r.prefix at r.entry).1) (part r.entry.1)
          (ap (λ e. is_lt (cmp (part e.1) (part r.entry.1))) (sym (before r.entry))
          ∙ ap (λ e. is_lt (cmp (part (get_or now at r.entry).1) (part e.1))) (sym (here r.entry)) ∙ not_less r.entry));
    }

  pub rises_prefix : (old : List (ID × V)) (from : ℕ) (now : List (ID × V)) → Passed cmp part old from now 0
      → RisesTo cmp part old from now 0
  rises_prefix old from now r = record { passes = r; stops = none_last r.prefix r.now_at }
    where
      none_last : (xs : List (ID × V)) → length xs ≡ 0 → LastAtLeast cmp part (part r.entry.1) xs
      none_last [] l = tt
      none_last (x ∷ xs) l = absurd (omega arith)

-- where a prefix ends
module _ {X : Type 0} (p : X → Bool) (xs : List X) (n : ℕ) (d x : X) (far : n ≤ prefix_len p xs) (l : n < length xs)
    (is : x ≡ get_or xs n d) where
  pub prefix_ends : p x ≡ false → n ≡ prefix_len p xs
  prefix_ends h = by (ltb n (prefix_len p xs)) refl
    where
      by : (b : Bool) → ltb n (prefix_len p xs) ≡ b → n ≡ prefix_len p xs
      by true t = absurd (true≢false (sym (prefix_len_passes p xs n d (ltb-true _ _ t)) ∙ ap p (sym is) ∙ h))
      by false t = let u = ltb-false n (prefix_len p xs) t in omega arith

  pub prefix_goes : p x ≡ true → n + 1 ≤ prefix_len p xs
  prefix_goes h = by (ltb n (prefix_len p xs)) refl
    where
      by : (b : Bool) → ltb n (prefix_len p xs) ≡ b → n + 1 ≤ prefix_len p xs
      by true t = let u = ltb-true n (prefix_len p xs) t in omega arith
      by false t =
          let u = ltb-false n (prefix_len p xs) t in
          let e : prefix_len p xs ≡ n = omega arith in
          let stop : p (get_or xs n d) ≡ false = ap (λ k. p (get_or xs k d)) (sym e) ∙ prefix_len_stops p xs d (omega arith) in
          absurd (true≢false (sym h ∙ ap p is ∙ stop))
