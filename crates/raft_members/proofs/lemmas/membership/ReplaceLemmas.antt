-- Voters that are replaced by a goal, and what two changes of voters lead to.
use Rattle.std.specs.Prelude.{◌≡◌, ◌⊎◌, ◌<◌, ◌-◌, Bool, true, false, not, cond, ◌||◌, Option, Some, None, List, [], ◌∷◌, length, is_some, refl}
use Rattle.std.proofs.Common.{sym, ◌∙◌, ap, arith, inl, inr, subst}
use Rattle.std.specs.declared.cmp.Ordering.{Ordering}
use Rattle.std.specs.declared.cmp.Ordering.TheVariants.{Equal}
use Rattle.std.specs.Cmp.{IsEquivalence}
use Rattle.std.specs.Cmp.Lexicographic.{pointwise, lists_equiv}
use Rattle.std.specs.BTreeMap.{keys}
use Rattle.std.specs.List.{filter, list_any, slice_get}
use Rattle.std.specs.Option.{unwrap_or}
use Rattle.std.specs.Set.{is_member}
use Rattle.std.proofs.lemmas.Map.Keys.{any_passes_from_place}
use Rattle.raft_members.specs.quorum.Coherence.{has_config, next_configs}
use Rattle.raft_members.specs.quorum.Majority.{is_voter_of}
use Rattle.raft_members.proofs.lemmas.membership.UnionLemmas.{union_again}
use Rattle.raft_members.proofs.lemmas.quorum.NextLemmas.{has_last, next_if_has, next_if_lacks, next_if_none, next_has_goal}
use Rattle.raft_members.specs.membership.Members.{Members, MemberList, HasMembers, members_of}
use Rattle.raft_members.specs.membership.Change.{next_members, last_config, changed, union_of, without}
use Rattle.raft_members.specs.membership.Valid.{has_empty_config, is_empty_config}
use Rattle.raft_members.specs.membership.Refusal.{IsRefusal}
use Rattle.raft_members.specs.membership.ReplaceAll.{CanReplace, LeadsToGoal, OnlyMemory, TwoChanges}
use Rattle.raft_members.specs.declared.change_members.ChangeMembers.{ChangeMembers}
use Rattle.raft_members.specs.declared.change_members.ChangeMembers.TheVariants.{AddVoterIds, AddVoters, RemoveVoters, ReplaceAllVoters}
use Rattle.raft_members.specs.declared.error.ChangeMembershipErrorOf.{ChangeMembershipErrorOf}
use Rattle.raft_members.specs.declared.error.ChangeMembershipErrorOf.TheVariants.{InProgress, EmptyMembership, LearnerNotFound, OutOfMemory}

cond_new : {N : Type 0} (r a : Bool) (x : Option N) → cond (r || (not a || true)) x None ≡ x
cond_new true a x = refl
cond_new false true x = refl
cond_new false false x = refl

not_empty : {K : Type 0} (g : List K) → 0 < length g → is_empty_config g ≡ false
not_empty [] h = absurd (omega arith)
not_empty (x ∷ xs) h = refl

either_false : (a b : Bool) → a ≡ false → b ≡ false → (a || b) ≡ false
either_false a b h k = λ i. h i || k i

split : {P : Type 0} (a b : Bool) → (a ≡ true → P) → (b ≡ true → P) → (a || b) ≡ true → P
split true b f g h = f refl
split false b f g h = g h

must_false : (b : Bool) → (b ≡ true → ⊥) → b ≡ false
must_false true f = absurd (f refl)
must_false false f = refl

-- the goal is the last of the next configs
last_is : {K : Type 0} (ds : List (List K)) (last goal : List K) → (ds ≡ goal ∷ []) ⊎ (ds ≡ last ∷ goal ∷ []) → last_config ds ≡ goal
last_is ds last goal (inl h) = ap last_config h
last_is ds last goal (inr h) = ap last_config h

passed_by : {K : Type 0} (test : K → Bool) (x : K) (ys : List K) (b : Bool) → test x ≡ b → filter test ys ≡ ys
    → filter test (cond b (x ∷ ys) ys) ≡ cond b (x ∷ ys) ys
passed_by test x ys true h same = rw h (ap (λ zs. x ∷ zs) same)
passed_by test x ys false h same = same

-- what has passed a test passes it again
filter_again : {K : Type 0} (test : K → Bool) (xs : List K) → filter test (filter test xs) ≡ filter test xs
filter_again test [] = refl
filter_again test (x ∷ xs) = passed_by test x (filter test xs) (test x) refl (filter_again test xs)

module _ {K : Type 0} (e : K → K → Bool) (cs : List (List K)) (goal : List K) where
  either_by : (b : Bool) (k : Option (List K)) → has_config e cs goal ≡ b → slice_get cs (length cs - 1) ≡ k
      → (next_configs e cs goal ≡ goal ∷ []) ⊎ (next_configs e cs goal ≡ last_config cs ∷ goal ∷ [])
  either_by true k h l = inl (next_if_has (pointwise e) cs goal h)
  either_by false None h l = inl (next_if_none (pointwise e) cs goal l)
  either_by false (Some c) h l = inr (next_if_lacks (pointwise e) cs goal c h l
      ∙ ap (λ d. d ∷ goal ∷ []) (sym (ap (λ o. unwrap_or o []) l)))

  -- the next configs are the goal alone, or the last config and the goal
  pub next_either : (next_configs e cs goal ≡ goal ∷ []) ⊎ (next_configs e cs goal ≡ last_config cs ∷ goal ∷ [])
  next_either = either_by (has_config e cs goal) (slice_get cs (length cs - 1)) refl refl

module _ {K : Type 0} (e : K → K → Bool) (cs : List (List K)) (n : 0 < length cs) where
  last_by : (P : List K → Bool) (k : Option (List K)) → slice_get cs (length cs - 1) ≡ k → P (unwrap_or k []) ≡ true → list_any P cs ≡ true
  last_by P None l h = absurd (has_last [] cs n l)
  last_by P (Some c) l h = any_passes_from_place P cs (length cs - 1) c l h

  -- if the last config passes a test, one of the configs passes it
  pub last_passes : (P : List K → Bool) → P (last_config cs) ≡ true → list_any P cs ≡ true
  last_passes P h = last_by P (slice_get cs (length cs - 1)) refl h

  pub last_not_empty : has_empty_config cs ≡ false → is_empty_config (last_config cs) ≡ false
  last_not_empty h = must_false (is_empty_config (last_config cs)) (λ t. let f = last_passes is_empty_config t in cc)

module _ {K N : Type 0} {e : K → K → Bool} (m : Members K N) (goal : List K) (retain : Bool) (can : CanReplace e m goal) where
  no_empty : (ds : List (List K)) → (ds ≡ goal ∷ []) ⊎ (ds ≡ last_config m.configs ∷ goal ∷ []) → has_empty_config ds ≡ false
  no_empty ds (inl h) = rw h (either_false _ _ (not_empty goal can.has_id) refl)
  no_empty ds (inr h) = rw h (either_false _ _ (last_not_empty e m.configs can.has_config can.valid.0)
      (either_false _ _ (not_empty goal can.has_id) refl))

  has_node : (ds : List (List K)) → (ds ≡ goal ∷ []) ⊎ (ds ≡ last_config m.configs ∷ goal ∷ []) → (k : K) → is_voter_of e ds k ≡ true
      → is_some (m.node k) ≡ true
  has_node ds (inl h) k w = split (is_member e goal k) false (can.has_nodes k) (λ f. cc) (ap (λ xs. is_voter_of e xs k) (sym h) ∙ w)
  has_node ds (inr h) k w =
      split (is_member e (last_config m.configs) k) (is_member e goal k || false)
      (λ l. can.valid.1 k (last_passes e m.configs can.has_config (λ c. is_member e c k) l))
      (λ r. split (is_member e goal k) false (can.has_nodes k) (λ f. cc) r)
      (ap (λ xs. is_voter_of e xs k) (sym h) ∙ w)

  pub next_no_empty : has_empty_config (next_members e m goal retain).configs ≡ false
  next_no_empty = no_empty (next_configs e m.configs goal) (next_either e m.configs goal)

  pub next_has_node : (k : K) → is_voter_of e (next_members e m goal retain).configs k ≡ true
      → is_some ((next_members e m goal retain).node k) ≡ true
  next_has_node k w =
      ap (λ b. is_some (cond (retain || (not (is_voter_of e m.configs k) || b)) (m.node k) None)) w
      ∙ ap is_some (cond_new retain (is_voter_of e m.configs k) (m.node k))
      ∙ has_node (next_configs e m.configs goal) (next_either e m.configs goal) k w

module _ {K N : Type 0} {e : K → K → Bool} (laws : IsEquivalence e) (cmp : K → K → Ordering) (m : Members K N) (retain : Bool) where
  replaced_only_memory : {C : Type 0} (g : List K) (r : ChangeMembershipErrorOf C K) → IsRefusal e cmp (next_members e m g retain) r
      → CanReplace e m g → r ≡ OutOfMemory
  replaced_only_memory g (InProgress _) h can = absurd h
  replaced_only_memory g (EmptyMembership _) h can = let t = next_no_empty m g retain can in cc
  replaced_only_memory g (LearnerNotFound x) h can = let t = next_has_node m g retain can x.node_id h.1.is_voter in let u =
      h.1.is_unknown in cc
  replaced_only_memory g OutOfMemory h can = refl

  pub only_memory : {C : Type 0} (c : ChangeMembers K N) (r : ChangeMembershipErrorOf C K) → IsRefusal e cmp (changed e cmp m c retain) r
      → OnlyMemory e m c r
  only_memory (ReplaceAllVoters g) r h = replaced_only_memory g.keys r h
  only_memory _ r h = tt

  -- if the goal of a change is an idempotent function of the last config, two changes lead to it
  leads_to : (c : ChangeMembers K N) (n : MemberList K N) (aim : List K → List K)
      → aim (aim (last_config m.configs)) ≡ aim (last_config m.configs) → n.configs ≡ next_configs e m.configs (aim (last_config m.configs))
      → ((retain : Bool) → (changed e cmp (members_of cmp n) c retain).configs ≡ next_configs e n.configs (aim (last_config n.configs)))
      → LeadsToGoal e cmp m c (aim (last_config m.configs)) n
  leads_to c n aim fixed is next =
      let goal = aim (last_config m.configs) in
      let either : (n.configs ≡ goal ∷ []) ⊎ (n.configs ≡ last_config m.configs ∷ goal ∷ []) =
      subst (λ (cs : List (List K)). (cs ≡ goal ∷ []) ⊎ (cs ≡ last_config m.configs ∷ goal ∷ [])) (sym is)
      (next_either e m.configs goal) in
      record {
        configs = either;
        second_change = λ retain.
            next retain
            ∙ ap (λ last. next_configs e n.configs (aim last)) (last_is n.configs (last_config m.configs) goal either)
            ∙ ap (next_configs e n.configs) fixed
            ∙ next_if_has (pointwise e) n.configs goal
            (ap (λ cs. has_config e cs goal) is ∙ next_has_goal (lists_equiv laws) m.configs goal);
      }

  pub two_changes : ((x : K) → cmp x x ≡ Equal) → (same : N → N → Bool) (c : ChangeMembers K N) (n : MemberList K N)
      → HasMembers same cmp n (changed e cmp m c retain) → TwoChanges e cmp m c n
  two_changes ties same (AddVoterIds ids) n s =
      leads_to (AddVoterIds ids) n (λ last. union_of cmp last ids.keys) (union_again cmp ties (last_config m.configs) ids.keys) s.0
      (λ retain. refl)
  two_changes ties same (AddVoters nodes) n s =
      leads_to (AddVoters nodes) n (λ last. union_of cmp last (keys nodes)) (union_again cmp ties (last_config m.configs) (keys nodes)) s.0
      (λ retain. refl)
  two_changes ties same (RemoveVoters ids) n s =
      leads_to (RemoveVoters ids) n (λ last. without e last ids.keys)
      (filter_again (λ id. not (is_member e ids.keys id)) (last_config m.configs)) s.0 (λ retain. refl)
  two_changes ties same (ReplaceAllVoters g) n s = leads_to (ReplaceAllVoters g) n (λ last. g.keys) refl s.0 (λ retain. refl)
  two_changes ties same _ n s = tt
