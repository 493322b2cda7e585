-- Counts over one update more.
use Rattle.std.specs.Prelude.{◌≡◌, ℕ, ◌+◌, ◌*◌, ◌<◌, ◌≤◌, ◌^◌, Bool, true, false, Option, Some, None}
use Rattle.std.specs.declared.cmp.Ordering.{Ordering}
use Rattle.std.proofs.Common.{arith, ◌∙◌, refl, ap, subst}
use Rattle.raft_progress.specs.progress.ProgressView.{ProgressView, state}
use Rattle.raft_progress.specs.progress.Statistics.{CountsGoOn, count_after}
use Rattle.raft_progress.specs.progress.Updated.{IsSettled, IsUpdated, rises_past_granted}
use Rattle.raft_progress.specs.declared.progress.stat.Stat.{Stat}

-- counting twice is counting the sum
counted_twice : (old a b : ℕ) → count_after (count_after old a) b ≡ count_after old (a + b)
counted_twice old a b = omega arith

pub counted_none : (old : ℕ) → old < 2 ^ 64 → old ≡ count_after old 0
counted_none old l = omega arith

one_more : (n v : ℕ) → (n + 1) * v ≡ n * v + v
one_more n v = omega arith

-- no update yet
pub counts_begin : (voters : ℕ) (s : Stat) → s.update_count < 2 ^ 64 → s.move_count < 2 ^ 64 → s.is_quorum_count < 2 ^ 64
    → CountsGoOn 0 voters s s
counts_begin voters s a b c = record {
  updated = counted_none s.update_count a;
  moved = (0, omega arith, counted_none s.move_count b);
  tested = (0, λ d h. omega arith, counted_none s.is_quorum_count c);
}

module _ {ID V P QS : Type 0} (eq : ID → ID → Bool) (cmp : P → P → Ordering) (part : V → P) (Left : V → V → Type 0) (n : ℕ) (s : Stat)
    (old : ProgressView ID V P QS) (id : ID) (new : ProgressView ID V P QS) (u : IsUpdated eq cmp part Left old id new)
    (c : CountsGoOn n old.voter_count s old.stat) where
  same : new.voter_count ≡ old.voter_count
  same = u.same_voter_count

  fits : (d : ℕ) → new.voter_count < 2 ^ d → old.voter_count < 2 ^ d
  fits d h = subst (λ (v : ℕ). v < 2 ^ d) same h

  updated_once : new.stat.update_count ≡ count_after s.update_count (n + 1)
  updated_once = u.counts ∙ ap (λ x. count_after x 1) c.updated ∙ counted_twice s.update_count n 1

  -- nothing but the update was counted
  counts_unknown : new ≡ record old { stat = record old.stat { update_count = count_after old.stat.update_count 1 } }
      → CountsGoOn (n + 1) new.voter_count s new.stat
  counts_unknown is = record {
    updated = updated_once;
    moved = let w = c.moved in let l = w.1 in (w.0, omega arith, ap (λ p. p.stat.move_count) is ∙ w.2);
    tested =
        let x = c.tested in (
          x.0,
          λ d h.
              let l = x.1 d (fits d h) in
              let e = one_more n d in
              omega arith,
          ap (λ p. p.stat.is_quorum_count) is ∙ x.2,
        );
  }

  counts_known : (v w : V) → IsSettled eq cmp part old id v w new → CountsGoOn (n + 1) new.voter_count s new.stat
  counts_known v w t = record {
    updated = updated_once;
    moved = by (rises_past_granted eq cmp part old id v w) refl;
    tested =
        let x = c.tested in (
          x.0 + t.tests,
          λ d h.
              let l = x.1 d (fits d h) in
              let m = t.few_tests d (fits d h) in
              let e = one_more n d in
              omega arith,
          t.counts_tests ∙ ap (λ y. count_after y t.tests) x.2 ∙ counted_twice s.is_quorum_count x.0 t.tests,
        );
  }
    where
      by : (b : Bool) → rises_past_granted eq cmp part old id v w ≡ b
          → (k : ℕ) × (k ≤ n + 1) × (new.stat.move_count ≡ count_after s.move_count k)
      by true h = let x = c.moved in let l = x.1 in
          (x.0 + 1, omega arith, (t.rises h).1 ∙ ap (λ y. count_after y 1) x.2 ∙ counted_twice s.move_count x.0 1)
      by false h = let x = c.moved in let l = x.1 in (x.0, omega arith, (t.stays h).1 ∙ x.2)

  pub counts_more : CountsGoOn (n + 1) new.voter_count s new.stat
  counts_more = by ((state eq old).value id) refl
    where
      by : (o : Option V) → (state eq old).value id ≡ o → CountsGoOn (n + 1) new.voter_count s new.stat
      by None h = counts_unknown (u.unknown h)
      by (Some v) h = let k = u.known v h in counts_known v k.0 k.3
