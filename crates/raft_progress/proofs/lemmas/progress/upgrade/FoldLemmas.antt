-- Inheriting the entries of a progress, one after another.
use Rattle.std.specs.Prelude.{◌≡◌, ℕ, ◌+◌, Bool, List, [], ◌∷◌, ◌++◌, drop, length}
use Rattle.std.specs.declared.cmp.Ordering.{Ordering}
use Rattle.std.specs.Map.{keys_of}
use Rattle.std.proofs.Common.{arith, ap, refl, subst, sym, ◌∙◌}
use Rattle.raft_progress.specs.progress.InOrder.{IsInOrder}
use Rattle.raft_progress.specs.progress.ProgressView.{ProgressView}
use Rattle.raft_progress.specs.progress.Statistics.{CountsGoOn}
use Rattle.raft_progress.specs.progress.Updated.{IsUpdated}
use Rattle.raft_progress.specs.progress.UpgradeFold.{BeginsAnew, IsFold, TakesOverEach}
use Rattle.raft_progress.specs.declared.progress.stat.Stat.{Stat}
use Rattle.raft_progress.proofs.lemmas.progress.entries.LearnersPositionLemmas.{learners_first, learners_stay}
use Rattle.raft_progress.proofs.lemmas.progress.StatisticsLemmas.{counts_more}

module _ {ID V P QS : Type 0} (eq : ID → ID → Bool) (cmp : P → P → Ordering) (part : V → P) where
  -- an update is one by whatever follows of its value
  pub updated_weaker : (Left Right : V → V → Type 0) → ((v w : V) → Left v w → Right v w)
      → (old : ProgressView ID V P QS) (id : ID) (new : ProgressView ID V P QS) → IsUpdated eq cmp part Left old id new
      → IsUpdated eq cmp part Right old id new
  updated_weaker Left Right follows old id new u = record {
    counts = u.counts;
    same_voter_count = u.same_voter_count;
    monotone = u.monotone;
    known = λ v e. let k = u.known v e in (k.0, follows v k.0 k.1, k.2, k.3);
    unknown = u.unknown;
  }

module _ {ID V P QS : Type 0} (eq : ID → ID → Bool) (id_cmp : ID → ID → Ordering) (cmp : P → P → Ordering) (part : V → P)
    (IsClone : V → V → Type 0) (has_quorum : QS → (ID → Bool) → Bool) (is_voter : QS → ID → Bool) where
  abbrev pub Each : List (ID × V) → ProgressView ID V P QS → ProgressView ID V P QS → Type 0
  Each = TakesOverEach eq id_cmp cmp part IsClone has_quorum is_voter

  pub each_more : (es : List (ID × V)) (first old new : ProgressView ID V P QS) (e : ID × V) → Each es first old
      → IsUpdated eq cmp part (λ v w. IsClone e.1 w) old e.0 new → IsInOrder eq cmp part has_quorum new → Each (es ++ e ∷ []) first new
  each_more [] first old new e same u r =
      (new, subst (λ (s : ProgressView ID V P QS). IsUpdated eq cmp part (λ v w. IsClone e.1 w) s e.0 new) same u, r, refl)
  each_more (d ∷ ds) first old new e (m, v, q, rest) u r = (m, v, q, each_more ds m old new e rest u r)

  each_learners : (es : List (ID × V)) (first new : ProgressView ID V P QS) → Each es first new
      → drop new.voter_count (keys_of new.entries) ≡ drop first.voter_count (keys_of first.entries)
  each_learners [] first new same = ap (λ (s : ProgressView ID V P QS). drop s.voter_count (keys_of s.entries)) same
  each_learners (e ∷ es) first new (m, u, r, rest) =
      each_learners es m new rest ∙ learners_stay eq cmp part (λ v w. IsClone e.1 w) first e.0 m u

  each_counts : (es : List (ID × V)) (n : ℕ) (s : Stat) (first new : ProgressView ID V P QS) → CountsGoOn n first.voter_count s first.stat
      → Each es first new → CountsGoOn (length es + n) new.voter_count s new.stat
  each_counts [] n s first new c same =
      let none : 0 + n ≡ n = omega arith in
      subst (λ (k : ℕ). CountsGoOn k new.voter_count s new.stat) (sym none)
      (subst (λ (p : ProgressView ID V P QS). CountsGoOn n p.voter_count s p.stat) (sym same) c)
  each_counts (e ∷ es) n s first new c (m, u, r, rest) =
      let more : length es + (n + 1) ≡ length (e ∷ es) + n = omega arith in
      subst (λ (k : ℕ). CountsGoOn k new.voter_count s new.stat) more
      (each_counts es (n + 1) s m new (counts_more eq cmp part (λ v w. IsClone e.1 w) n s first e.0 m u c) rest)

  -- nothing has been inherited yet
  pub fold_none : (stat : Stat) (quorum_set : QS) (learners : List ID) (default : V) (first : ProgressView ID V P QS)
      → BeginsAnew eq id_cmp cmp part IsClone is_voter stat quorum_set learners default first
      → IsFold eq id_cmp cmp part IsClone has_quorum is_voter [] stat quorum_set learners default first
  fold_none stat quorum_set learners default first b = record { first = first; begins = b; takes_over = refl }

  module _ (es : List (ID × V)) (stat : Stat) (quorum_set : QS) (learners : List ID) (default : V) (old : ProgressView ID V P QS)
      (f : IsFold eq id_cmp cmp part IsClone has_quorum is_voter es stat quorum_set learners default old) where
    -- one entry more, which ends in order
    pub fold_more : (e : ID × V) (new : ProgressView ID V P QS) → IsUpdated eq cmp part (λ v w. IsClone e.1 w) old e.0 new
        → IsInOrder eq cmp part has_quorum new → IsFold eq id_cmp cmp part IsClone has_quorum is_voter (es ++ e ∷ []) stat quorum_set
        learners default new
    fold_more e new u r = record { first = f.first; begins = f.begins; takes_over = each_more es f.first old new e f.takes_over u r }

    -- the learners are in the given order
    pub fold_learners : drop old.voter_count (keys_of old.entries) ≡ learners
    fold_learners = each_learners es f.first old f.takes_over ∙ learners_first id_cmp learners f.first f.begins.entries

    -- an update is counted for each entry, with at most one move, and with at most k quorum tests
    -- if the number of voters is less than 2^k
    pub fold_counts : ((voters : ℕ) → CountsGoOn 0 voters stat stat) → CountsGoOn (length es) old.voter_count stat old.stat
    fold_counts none =
        let all : length es + 0 ≡ length es = omega arith in
        subst (λ (k : ℕ). CountsGoOn k old.voter_count stat old.stat) all
        (each_counts es 0 stat f.first old
        (subst (λ (t : Stat). CountsGoOn 0 f.first.voter_count stat t) (sym f.begins.counts) (none f.first.voter_count))
        f.takes_over)
