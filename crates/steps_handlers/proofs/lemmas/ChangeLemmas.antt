-- What a change of the membership leaves of what is known of the members, and the step from a joint
-- membership to its last config.
use Rattle.std.specs.Prelude.{◌≡◌, ℕ, ◌<◌, ◌-◌, Bool, true, false, cond, List, [], ◌∷◌, Option, Some, None, is_some, length, nat_lt, refl}
use Rattle.std.specs.Cmp.{IsEquivalence}
use Rattle.std.specs.Cmp.Lexicographic.{lists_equiv, pointwise}
use Rattle.std.specs.List.{AllZip, slice_get}
use Rattle.std.specs.Option.{option_map_or}
use Rattle.std.specs.declared.cmp.Ordering.{Ordering}
use Rattle.std.proofs.Common.{ap, arith, sym, subst, ◌∙◌, true≢false}
use Rattle.std.proofs.lemmas.Bool.Decides.{nat_tests}
use Rattle.raft_base.specs.declared.log_id.LogIdOf.{LogIdOf}
use Rattle.raft_members.specs.membership.Change.{last_config, union_of}
use Rattle.raft_members.specs.quorum.Coherence.{has_config, next_configs}
use Rattle.raft_members.specs.membership.Members.{MemberList, Members, same_members}
use Rattle.raft_members.proofs.lemmas.membership.ReplaceLemmas.{last_passes}
use Rattle.raft_progress.specs.progress.Equal.{IsCloned}
use Rattle.raft_progress.specs.progress.NewProgress.{HasClone}
use Rattle.raft_progress.specs.progress.ProgressView.{state}
use Rattle.raft_progress.specs.progress.Upgrade.{Inherits}
use Rattle.raft_progress.specs.tracked.SingleSteps.{IsTrackedChangeTo}
use Rattle.raft_progress.specs.tracked.TrackedState.{HasSameConfigs, TrackedView}
use Rattle.raft_progress.specs.declared.progress.steps.Reply.TheVariants.{Granted}
use Rattle.raft_state.specs.membership_state.Apply.{IsApplyRefusal}
use Rattle.raft_state.specs.membership_state.Memberships.{Memberships, in_effect}
use Rattle.raft_state.specs.declared.raft_state.RaftStateIn.{RaftStateIn}
use Rattle.raft_state.specs.declared.entry.EntryOf.{EntryOf}
use Rattle.raft_state.specs.declared.entry.payload.EntryPayload.{EntryPayload}
use Rattle.raft_state.specs.declared.entry.payload.EntryPayload.TheVariants.{Membership}
use Rattle.steps_handlers.specs.Changes.{AppendsMembers, IsChangeRefusal, RefusesMembers, StoresMembership}
use Rattle.steps_handlers.specs.Compared.{Compared}
use Rattle.steps_handlers.specs.Leadership.{Leadership}
use Rattle.steps_handlers.specs.Proposals.{AppendsOwn, AppendsPayload, RefusesOwn}
use Rattle.steps_handlers.specs.declared.error.ProposeError.{ProposeError}
use Rattle.steps_handlers.specs.declared.leader.change.ChangeError.{ChangeError}
use Rattle.steps_handlers.specs.declared.leader.change.ChangeError.TheVariants.{Change, Entry, NoOwnGranted, NotEffective, NotJoint}

same_progress_entries : {K V : Type 0} (IsClone : V → V → Type 0) → ((v w : V) → IsClone v w → w ≡ v) → (es fs : List (K × V))
    → AllZip (λ d e. (e.0 ≡ d.0) × IsClone d.1 e.1) es fs → fs ≡ es
same_progress_entries IsClone same [] [] z = refl
same_progress_entries IsClone same [] (f ∷ fs) z = absurd z
same_progress_entries IsClone same (e ∷ es) [] z = absurd z
same_progress_entries IsClone same (e ∷ es) (f ∷ fs) z =
    let value = same e.1 f.1 z.0.1 in
    let key = z.0.0 in
    let pairs : f ≡ e = λ i. (key i, value i) in
    let rest = same_progress_entries IsClone same es fs z.1 in
    λ i. pairs i ∷ rest i

-- a value that is inherited, or the default
inherited : {V : Type 0} (IsClone : V → V → Type 0) → ((v w : V) → IsClone v w → w ≡ v) → (default v : V)
    (old new : Option V) (member : Bool) → (member ≡ true → Inherits IsClone default old new)
    → (member ≡ false → new ≡ None) → old ≡ Some v → is_some new ≡ true → new ≡ Some v
inherited IsClone same default v old new true takes none known some =
    let h : HasClone IsClone v new = subst (λ o. Inherits IsClone default o new) known (takes refl) in
    h.1 ∙ ap Some (same v h.0 h.2)
inherited IsClone same default v old new false takes none known some =
    absurd (true≢false (sym some ∙ ap is_some (none refl)))

begun : {V : Type 0} (IsClone : V → V → Type 0) → ((v w : V) → IsClone v w → w ≡ v) → (default v : V)
    (old new : Option V) (member : Bool) → (member ≡ true → Inherits IsClone default old new)
    → (member ≡ false → new ≡ None) → old ≡ None → new ≡ Some v → v ≡ default
begun IsClone same default v old new true takes none known some =
    let h : HasClone IsClone default new = subst (λ o. Inherits IsClone default o new) known (takes refl) in
    let e : Some v ≡ Some h.0 = sym some ∙ h.1 in
    let is : v ≡ h.0 = cc in
    is ∙ same default h.0 h.2
begun IsClone same default v old new false takes none known some = let e : None ≡ Some v = sym (none refl) ∙ some in cc

module _ {K N V P : Type 0} (eq : K → K → Bool) (id_cmp : K → K → Ordering) (cmp : P → P → Ordering) (part : V → P)
    (IsClone : V → V → Type 0) (same : (v w : V) → IsClone v w → w ≡ v) where
  abbrev value : TrackedView K N V P → K → Option V
  value t id = (state eq t.progress).value id

  -- a clone has the values of what was cloned
  clone_values : (old clone : TrackedView K N V P) → IsCloned IsClone HasSameConfigs old.progress clone.progress → (id : K)
      → value clone id ≡ value old id
  clone_values old clone c id =
      let entries = same_progress_entries IsClone same old.progress.entries clone.progress.entries c.entries in
      λ i. (state eq (record clone.progress { entries = entries i })).value id

  module _ (old clone new : TrackedView K N V P) (next : MemberList K N) (default : V) (p : P)
      (made : IsTrackedChangeTo eq id_cmp cmp part IsClone clone next default (Granted p) new)
      (cloned : IsCloned IsClone HasSameConfigs old.progress clone.progress) where
    -- it counts by the membership that was given
    pub goes_to : new.membership ≡ next
    goes_to = made.values.0

    -- who stays keeps its value
    pub keeps_value : (id : K) (v : V) → value old id ≡ Some v → is_some (value new id) ≡ true → value new id ≡ Some v
    keeps_value id v known some =
        let over = made.values.1 in
        inherited IsClone same default v (value clone id) (value new id) _ (over.4.2.value id) (over.4.2.others id)
        (clone_values old clone cloned id ∙ known) some

    -- the default is the one that was given
    pub begins_part : new.progress.default_part ≡ part default
    begins_part = let over = made.values.1 in over.4.2.default_part

    -- who is new has the default
    pub begins_value : (id : K) (v : V) → value old id ≡ None → value new id ≡ Some v → v ≡ default
    begins_value id v known some =
        let over = made.values.1 in
        begun IsClone same default v (value clone id) (value new id) _ (over.4.2.value id) (over.4.2.others id)
        (clone_values old clone cloned id ∙ known) some

-- ---- the last config

-- more than one is some
pub longer : (n : ℕ) → nat_lt 1 n ≡ true → 0 < n
longer n h = grind (arith, nat_tests)

-- to add no voter keeps the last config as the goal
pub no_more : {K : Type 0} (cmp : K → K → Ordering) (xs : List K) → union_of cmp xs [] ≡ xs
no_more cmp [] = refl
no_more cmp (x ∷ xs) = refl

module _ {K : Type 0} {eq : K → K → Bool} (laws : IsEquivalence eq) where
  -- the last of some configs is one of them
  has_last : (c : List K) (cs : List (List K)) → has_config eq (c ∷ cs) (last_config (c ∷ cs)) ≡ true
  has_last c cs =
      last_passes eq (c ∷ cs) (omega arith) (λ d. pointwise eq d (last_config (c ∷ cs)))
      ((lists_equiv laws).refl (last_config (c ∷ cs)))

  -- from configs, their last one alone stands next
  pub last_alone : (cmp : K → K → Ordering) (configs : List (List K)) → 0 < length configs
      → next_configs eq configs (union_of cmp (last_config configs) []) ≡ last_config configs ∷ []
  last_alone cmp [] some = absurd (omega arith)
  last_alone cmp (c ∷ cs) some =
      ap (λ goal. next_configs eq (c ∷ cs) goal) (no_more cmp (last_config (c ∷ cs)))
      ∙ ap (λ b. cond b (last_config (c ∷ cs) ∷ [])
      (option_map_or (λ last. last ∷ last_config (c ∷ cs) ∷ []) (slice_get (c ∷ cs) (length (c ∷ cs) - 1))
      (last_config (c ∷ cs) ∷ []))) (has_last c cs)

-- ---- the step out of a joint membership

module _ {K N I L C : Type 0} (by : Compared K N L C) where
  -- a change that no joint membership has to be left for is refused for what any other is
  refused_joint : (D : Type 0) (fits : Bool) (members next : Members K N) (l : Leadership K N C) (s : RaftStateIn K N I L C)
      → members ≡ next → (e : ChangeError C K) → IsChangeRefusal by D true members l s e → IsChangeRefusal by D fits next l s e
  refused_joint D fits members next l s is NotEffective h = h
  refused_joint D fits members next l s is NoOwnGranted h = h
  refused_joint D fits members next l s is NotJoint h = absurd (true≢false h)
  refused_joint D fits members next l s is (Change e) h =
      subst (λ (m : Members K N). IsApplyRefusal by.eq by.id_eq by.id_cmp s.membership_state m e) is h
  refused_joint D fits members next l s is (Entry e) h = h

  module _ {D : Type 0} (members next : Members K N) (is : members ≡ next) (old new : Leadership K N C)
      (before after : RaftStateIn K N I L C) where
    -- what is proposed as a change is proposed as the step to the same members
    pub appends_joint : (entry : EntryOf C K N D) → AppendsMembers by members old before new after entry
        → AppendsMembers by next old before new after entry
    appends_joint entry h = subst (λ (m : Members K N). AppendsMembers by m old before new after entry) is h

    -- and what is refused is refused
    pub refuses_joint : (fits : Bool) (e : ChangeError C K) → RefusesMembers by D true members old before new after e
        → RefusesMembers by D fits next old before new after e
    refuses_joint fits e h = record {
      refused = refused_joint D fits members next old before is e h.refused;
      err = h.err;
      err_state = h.err_state;
    }

  -- a change whose entry is refused is refused with the entry's refusal
  pub refuses_entry : (D : Type 0) (next : Members K N) (m : MemberList K N) (l : Leadership K N C) (old new : RaftStateIn K N I L C)
      (e : ProposeError) → RefusesOwn by {D = D} l (Membership m) old new e → RefusesMembers by D true next l old l new (Entry e)
  refuses_entry D next m l old new e h = record { refused = (m, h.refused); err = refl; err_state = h.err }

  -- an entry of the leader's own is appended with the payload that it has
  pub own_payload : {D : Type 0} (l : Leadership K N C) (payload : EntryPayload K N D) (old new : RaftStateIn K N I L C)
      (entry : EntryOf C K N D) → AppendsOwn by l payload old new entry → AppendsOwn by l entry.payload old new entry
  own_payload {D = D} l payload old new entry h =
      subst (λ (p : EntryPayload K N D). AppendsOwn by l p old new entry) (sym (ap (λ e. e.payload) h.is_next)) h

-- ---- what the leader counts by

-- a membership that becomes effective has the configs of the one that was proposed
pub effective_configs : {K N C : Type 0} (eq : K → K → Bool) (same : N → N → Bool) (id : LogIdOf C) (m : MemberList K N)
    (old new : Memberships C K N) → AppendsPayload eq same id (Some m) old new → (in_effect new).configs ≡ m.configs
effective_configs eq same id m old new (stored, (at, alike, configs), is) = ap (λ w. (in_effect w).configs) is ∙ configs

-- a payload with a copy of the members that the leader counts by stores them
pub stores_copy : {K N D : Type 0} (eq : K → K → Bool) (same : N → N → Bool) (m members stored : MemberList K N)
    (payload : EntryPayload K N D) → m ≡ members → payload ≡ Membership stored → stored.configs ≡ members.configs
    → same_members eq same members stored ≡ true
    → StoresMembership eq same m payload
stores_copy {K = K} {N = N} {D = D} eq same m members stored payload is copy configs equal =
    subst (λ (p : EntryPayload K N D). StoresMembership eq same m p) (sym copy)
    (subst (λ (x : MemberList K N). StoresMembership {D = D} eq same x (Membership stored)) (sym is) (configs, equal))
