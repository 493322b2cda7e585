-- A request that changes nothing.
use Rattle.std.proofs.Common.{◌≡◌, ◌==◌, ◌&&◌, ℕ, suc, ◌+◌, Bool, true, false, List, [], ◌∷◌, Option, Some, None, if◌then◌else◌, nat_eq, drop, length, refl, sym, arith, true≢false, ◌∙◌}
use Rattle.std.proofs.lemmas.Bool.{and_parts}
use Rattle.std.proofs.lemmas.Bool.Decides.{nat_tests}
use Rattle.std.proofs.lemmas.List.{nil_from_length}
use Rattle.std.specs.Cmp.{IsEquivalence, IsTotalOrder}
use Rattle.std.specs.Cmp.Derive.{both_true}
use Rattle.std.specs.List.{list_all, prefix_len}
use Rattle.std.specs.Option.{option_cmp}
use Rattle.std.specs.Ordering.{is_eq}
use Rattle.std.specs.declared.cmp.Ordering.{Ordering}
use Rattle.raft_base.specs.LogId.{id_le, id_lt, log_id_cmp, same_ids}
use Rattle.raft_base.specs.LogIdLawful.{optional-log_id_cmp-total}
use Rattle.raft_base.specs.declared.log_id.LogIdOf.{LogIdOf}
use Rattle.steps_handlers.proofs.lemmas.CutLemmas.{replaces_nothing}
use Rattle.steps_handlers.proofs.lemmas.TakeLemmas.{commit_took}
use Rattle.steps_handlers.specs.Append.{lesser_id, Took}
use Rattle.raft_progress.proofs.lemmas.OrderLemmas.{AtMost-from_lt, AtMost-from_not_lt, AtMost-refl, lt_le, not_lt-from_AtMost}
use Rattle.raft_progress.specs.progress.Comparisons.{OrdMembers}
use Rattle.raft_state.proofs.lemmas.log_id_list.IdOrderLemmas.{none_at_most, then_below, upto_equal}
use Rattle.raft_state.specs.raft_state.Sound.{purged_or_logged}
use Rattle.raft_state.specs.declared.entry.EntryOf.{EntryOf}
use Rattle.raft_state.specs.declared.raft_state.RaftStateIn.{RaftStateIn}

-- no entries, by their number
pub no_entries : {A : Type 0} (xs : List A) → (length xs == 0) ≡ true → xs ≡ []
no_entries xs h = let zero : length xs ≡ 0 = grind (arith, nat_tests) in nil_from_length xs zero

not_so : (t : Bool) → (t ≡ true → ⊥) → t ≡ false
not_so true f = absurd (f refl)
not_so false f = refl

module _ {C : Type 0} (cmp : C → C → Ordering) (total : IsTotalOrder cmp) where
  -- nothing is to be committed if one of two log ids is not past what is committed
  pub not_past_least : (a b c : Option (LogIdOf C)) → (id_lt cmp c a && id_lt cmp c b) ≡ false
      → id_lt cmp c (lesser_id cmp a b) ≡ false
  not_past_least a b c h = by (id_lt cmp a b) refl
    where
      by : (t : Bool) → id_lt cmp a b ≡ t → id_lt cmp c (if t then a else b) ≡ false
      by true e = not_so (id_lt cmp c a) (λ lt. true≢false (sym (both_true lt
          (lt_le (optional-log_id_cmp-total total) c a b lt (AtMost-from_lt (option_cmp (log_id_cmp cmp)) a b e))) ∙ h))
      by false e = not_so (id_lt cmp c b) (λ lt. true≢false (sym (both_true
          (lt_le (optional-log_id_cmp-total total) c b a lt (AtMost-from_not_lt (optional-log_id_cmp-total total) a b e)) lt) ∙ h))

  module _ (eq : C → C → Bool) (law : (a b : C) → eq a b ≡ is_eq (cmp a b)) where
    equal_at_most : (a b : Option (LogIdOf C)) → same_ids eq a b ≡ true → id_le cmp a b ≡ true
    equal_at_most None b h = none_at_most cmp b
    equal_at_most (Some x) None h = cc
    equal_at_most (Some x) (Some y) h =
        let d = and_parts (eq x.leader_id y.leader_id) (nat_eq x.index y.index) h in let d1 = d.1 in
        let index : x.index ≡ y.index = grind (arith, nat_tests) in
        let leader = upto_equal cmp eq total law x.leader_id y.leader_id y.leader_id d.0 (AtMost-refl total y.leader_id) in
        then_below (cmp x.leader_id y.leader_id) x.index y.index leader (omega arith)

    -- equal committed log ids leave nothing to commit
    pub none_to_commit : (a b c : Option (LogIdOf C)) → same_ids eq a c ≡ true → id_lt cmp c (lesser_id cmp a b) ≡ false
    none_to_commit a b c h =
        let low : id_lt cmp c a ≡ false = not_lt-from_AtMost (optional-log_id_cmp-total total) a c (equal_at_most a c h) in
        not_past_least a b c (rw low refl)

-- if a log has all entries, none is new
pub none_new : {A : Type 0} (p : A → Bool) (n : ℕ) (xs : List A) → n ≡ prefix_len p xs → list_all p xs ≡ true → drop n xs ≡ []
none_new {A} p n xs is all = rw is (by xs all)
  where
    by : (ys : List A) → list_all p ys ≡ true → drop (prefix_len p ys) ys ≡ []
    by [] h = refl
    by (y ∷ ys) h =
        let b = and_parts (p y) (list_all p ys) h in
        let more : 1 + prefix_len p ys ≡ suc (prefix_len p ys) = omega arith in
        rw (b.0, more) (by ys b.1)

-- without entries, and with nothing to commit, all stays as it is
pub heartbeat_took : {K N I L C D : Type 0} (ord : OrdMembers C) (id_eq : K → K → Bool) (same : N → N → Bool) (eqs : IsEquivalence ord.eq)
    (prev : Option (LogIdOf C)) (es : List (EntryOf C K N D)) (id : Option (LogIdOf C)) (s : RaftStateIn K N I L C) → es ≡ []
    → purged_or_logged ord.eq s prev ≡ true → id_lt ord.cmp s.committed id ≡ false → Took ord id_eq same prev es id s s
heartbeat_took {K} {N} {I} {L} {C} {D} ord id_eq same eqs prev es id s none has not =
    let no_entries : List (EntryOf C K N D) = [] in
    rw none (commit_took ord id_eq same eqs prev no_entries id s 0 refl has refl s (replaces_nothing ord id_eq same eqs s) s
    (rw not refl) (rw not refl) (rw not refl))
