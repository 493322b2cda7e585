-- The positions of the learners: no update moves them.
use Rattle.std.specs.Prelude.{◌≡◌, ℕ, ◌+◌, Bool, true, false, cond, ◌||◌, Option, Some, None, List, [], ◌∷◌, ◌++◌, length, take, drop}
use Rattle.std.specs.declared.cmp.Ordering.{Ordering}
use Rattle.std.specs.Ordering.{is_le}
use Rattle.std.specs.Cmp.{first_so}
use Rattle.std.specs.List.{list_any}
use Rattle.std.specs.Map.{keys_of, set_value}
use Rattle.std.specs.Set.{is_member}
use Rattle.std.proofs.Common.{arith, sym, ap, refl, ◌∙◌, true≢false, suc, zero, length-append}
use Rattle.std.proofs.lemmas.Map.{keys-set_value}
use Rattle.raft_progress.specs.progress.NewProgress.{AreFirstEntries}
use Rattle.raft_progress.specs.progress.ProgressView.{ProgressView, state}
use Rattle.raft_progress.specs.progress.Updated.{IsSettled, IsUpdated, rises_past_granted}
use Rattle.raft_progress.specs.progress.Entries.{put_after_last, entries_after_rise}

-- what comes after some entries and as many more
drop_past : {ID V : Type 0} (xs ys : List (ID × V)) (n m : ℕ) → m ≡ length xs + n → drop m (keys_of (xs ++ ys)) ≡ drop n (keys_of ys)
drop_past [] ys n m e = let z : m ≡ n = omega arith in ap (λ k. drop k (keys_of ys)) z
drop_past (x ∷ xs) ys n zero e = absurd (omega arith)
drop_past (x ∷ xs) ys n (suc m) e = drop_past xs ys n m (omega arith)

drop_prefix : {K : Type 0} (ks ls : List K) → drop (length ks) (ks ++ ls) ≡ ls
drop_prefix [] ls = refl
drop_prefix (k ∷ ks) ls = drop_prefix ks ls

-- an entry that is put somewhere is one more
put_length : {ID V P : Type 0} (cmp : P → P → Ordering) (part : V → P) (e : ID × V) (xs : List (ID × V))
    → length (put_after_last cmp part e xs) ≡ length xs + 1
put_length cmp part e [] = refl
put_length {ID} {V} cmp part e (x ∷ xs) = by (list_any (λ h. is_le (cmp (part e.1) (part h.1))) (x ∷ xs)) (put_length cmp part e xs)
  where
    by : (b : Bool) → length (put_after_last cmp part e xs) ≡ length xs + 1
        → length (cond b (x ∷ put_after_last cmp part e xs) (e ∷ x ∷ xs)) ≡ length (x ∷ xs) + 1
    by true h = omega arith
    by false h = omega arith

-- an id among the first keys rises among them alone
risen_keys : {ID V P : Type 0} (cmp : P → P → Ordering) (part : V → P) (is_id : ID → Bool) (before es : List (ID × V)) (n k : ℕ)
    → n ≡ length before + k → list_any is_id (take k (keys_of es)) ≡ true
    → drop n (keys_of (entries_after_rise cmp part is_id before es)) ≡ drop k (keys_of es)
risen_keys cmp part is_id before [] n zero same m = absurd (true≢false (sym m))
risen_keys cmp part is_id before [] n (suc k) same m = absurd (true≢false (sym m))
risen_keys cmp part is_id before (e ∷ es) n zero same m = absurd (true≢false (sym m))
risen_keys {ID} {V} cmp part is_id before (e ∷ es) n (suc k) same m =
    let l = length-append before (e ∷ []) in by (is_id e.0) m (risen_keys cmp part is_id (before ++ e ∷ []) es n k (omega arith))
  where
    by : (b : Bool) → (b || list_any is_id (take k (keys_of es))) ≡ true
        → (list_any is_id (take k (keys_of es)) ≡ true
        → drop n (keys_of (entries_after_rise cmp part is_id (before ++ e ∷ []) es)) ≡ drop k (keys_of es))
        → drop n (keys_of (cond b (put_after_last cmp part e before ++ es) (entries_after_rise cmp part is_id (before ++ e ∷ []) es)))
        ≡ drop k (keys_of es)
    by true h later = let l = put_length cmp part e before in drop_past (put_after_last cmp part e before) es k n (omega arith)
    by false h later = later h

module _ {ID V P QS : Type 0} (eq : ID → ID → Bool) (cmp : P → P → Ordering) (part : V → P) (Left : V → V
    → Type 0) (old : ProgressView ID V P QS)
    (id : ID) (new : ProgressView ID V P QS) where
  settled_stay : (v w : V) → IsSettled eq cmp part old id v w new
      → drop old.voter_count (keys_of new.entries) ≡ drop old.voter_count (keys_of old.entries)
  settled_stay v w s = by (rises_past_granted eq cmp part old id v w) refl
    where
      keys : keys_of (set_value (eq id) old.entries w) ≡ keys_of old.entries
      keys = keys-set_value (eq id) old.entries w

      by : (b : Bool) → rises_past_granted eq cmp part old id v w ≡ b
          → drop old.voter_count (keys_of new.entries) ≡ drop old.voter_count (keys_of old.entries)
      by true c =
          let voter : is_member eq (take old.voter_count (keys_of (set_value (eq id) old.entries w))) id ≡ true =
          ap (λ ks. is_member eq (take old.voter_count ks) id) keys ∙ first_so _ _ c in
          ap (λ (es : List (ID × V)). drop old.voter_count (keys_of es)) (s.rises c).0
          ∙ risen_keys cmp part (eq id) [] (set_value (eq id) old.entries w) old.voter_count old.voter_count (omega arith) voter
          ∙ ap (drop old.voter_count) keys
      by false c = ap (λ (es : List (ID × V)). drop old.voter_count (keys_of es)) (s.stays c).0 ∙ ap (drop old.voter_count) keys

  -- an update moves no learner
  pub learners_stay : IsUpdated eq cmp part Left old id new
      → drop new.voter_count (keys_of new.entries) ≡ drop old.voter_count (keys_of old.entries)
  learners_stay u = ap (λ n. drop n (keys_of new.entries)) u.same_voter_count ∙ by ((state eq old).value id) refl
    where
      by : (o : Option V) → (state eq old).value id ≡ o
          → drop old.voter_count (keys_of new.entries) ≡ drop old.voter_count (keys_of old.entries)
      by None h = ap (λ (p : ProgressView ID V P QS). drop old.voter_count (keys_of p.entries)) (u.unknown h)
      by (Some v) h = let k = u.known v h in settled_stay v k.0 k.3

-- in a new progress they come after the voters
pub learners_first : {ID V P QS : Type 0} (id_cmp : ID → ID → Ordering) (learners : List ID) (made : ProgressView ID V P QS)
    → AreFirstEntries id_cmp learners made → drop made.voter_count (keys_of made.entries) ≡ learners
learners_first id_cmp learners made f = ap (λ ks. drop made.voter_count ks) f.ids ∙ ap (λ n. drop n (f.voters ++ learners)) f.first
    ∙ drop_prefix f.voters learners
