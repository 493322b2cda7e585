-- What is granted is in the log if the matches are.
use Rattle.std.specs.Prelude.{◌≡◌, ℕ, ◌+◌, Bool, true, false, nat_eq, nat_lt, Option, Some, None, refl, if◌then◌else◌}
use Rattle.std.specs.Cmp.{IsEquivalence}
use Rattle.std.specs.Cmp.Derive.{both_true}
use Rattle.std.specs.Option.{option_cmp}
use Rattle.std.specs.Ordering.{is_eq, nat_cmp, ordering_then}
use Rattle.std.specs.declared.cmp.Ordering.{Ordering}
use Rattle.std.specs.declared.cmp.Ordering.TheVariants.{Equal, Greater, Less}
use Rattle.std.proofs.Common.{ap, arith, inl, inr, subst, sym, ◌∙◌}
use Rattle.std.proofs.lemmas.Bool.Decides.{nat_tests}
use Rattle.raft_base.specs.LogId.{log_id_cmp, next_index, same_id, same_ids}
use Rattle.raft_base.specs.LogIdLawful.{same_id-equiv}
use Rattle.raft_base.specs.LogView.{LogView}
use Rattle.raft_base.specs.declared.log_id.LogIdOf.{LogIdOf}
use Rattle.raft_progress.specs.progress.LoggedMatches.{GrantedIsLogged, is_logged_or_purged}

both_equal : (a b : Ordering) → ordering_then a b ≡ Equal → (a ≡ Equal) × (b ≡ Equal)
both_equal Less b h = cc
both_equal Equal b h = (refl, h)
both_equal Greater b h = cc

number_same : (i j : ℕ) → nat_cmp i j ≡ Equal → i ≡ j
number_same i j h = grind (arith, nat_tests)

number_eq : (i j : ℕ) → i ≡ j → nat_eq i j ≡ true
number_eq i j h = grind (arith, nat_tests)

module _ {C : Type 0} (same : C → C → Bool) (cmp : C → C → Ordering) (laws : IsEquivalence same)
    (ties : (a b : C) → same a b ≡ is_eq (cmp a b)) (log : LogView C) where
  same_found : (found : Option (LogIdOf C)) (a b : LogIdOf C) → same_id same a b ≡ true → same_ids same found (Some a) ≡ true
      → same_ids same found (Some b) ≡ true
  same_found None a b s h = cc
  same_found (Some f) a b s h =
      let e = same_id-equiv laws in e.symm f b ∙ sym (e.congr a b f s) ∙ e.symm a f ∙ h

  by_index : (purged : Bool) (found : Option (LogIdOf C)) (a b : LogIdOf C) → same_id same a b ≡ true
      → (if purged then true else same_ids same found (Some a)) ≡ true → (if purged then true else same_ids same found (Some b)) ≡ true
  by_index true found a b s h = refl
  by_index false found a b s h = same_found found a b s h

  -- of two log ids that compare as equal, a log has both or neither
  logged_alike : (a b : Option (LogIdOf C)) → option_cmp (log_id_cmp cmp) a b ≡ Equal → is_logged_or_purged same log a ≡ true
      → is_logged_or_purged same log b ≡ true
  logged_alike None None e h = refl
  logged_alike None (Some b) e h = cc
  logged_alike (Some a) None e h = refl
  logged_alike (Some a) (Some b) e h =
      let parts = both_equal (cmp a.leader_id b.leader_id) (nat_cmp a.index b.index) e in
      let at = number_same a.index b.index parts.1 in
      let leaders : same a.leader_id b.leader_id ≡ true = ties a.leader_id b.leader_id ∙ ap is_eq parts.0 in
      let s : same_id same a b ≡ true = both_true leaders (number_eq a.index b.index at) in
      by_index (nat_lt (b.index + 1) (next_index log.last_purged)) (log.id_at b.index) a b s
      (subst (λ (i : ℕ). (if nat_lt (i + 1) (next_index log.last_purged) then true else same_ids same (log.id_at i) (Some a)) ≡ true) at h)

-- what is granted compares as equal to the default's matching log id, or to that of a voter
pub granted_is_logged : {ID V C QS : Type 0} (eq : ID → ID → Bool) (same : C → C → Bool) (cmp : C → C → Ordering)
    (part : V → Option (LogIdOf C)) (has_quorum : QS → (ID → Bool) → Bool) → IsEquivalence same
    → ((a b : C) → same a b ≡ is_eq (cmp a b)) → GrantedIsLogged ID V C QS eq same cmp part has_quorum
granted_is_logged eq same cmp part has_quorum laws ties p o log logged = elim o.counted.is_one [
  | inl tie ↦ logged_alike same cmp laws ties log p.default_part p.granted tie logged.default
  | inr one ↦ logged_alike same cmp laws ties log (part one.1) p.granted one.3 (logged.voters one.0 one.1 one.2.voter one.2.value)
]
