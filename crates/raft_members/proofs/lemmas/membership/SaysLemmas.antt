-- What holds of a membership holds of one with the same contents.
use Rattle.std.proofs.lemmas.Bool.{or_right}
use Rattle.std.specs.Prelude.{◌≡◌, Bool, true, false, not, cond, ◌||◌, Option, Some, None, List, IsTrue, is_some, refl, length, ◌<◌, Result, Ok, Err, IfOk}
use Rattle.std.proofs.Common.{sym, ◌∙◌, ap, subst}
use Rattle.std.specs.declared.cmp.Ordering.{Ordering}
use Rattle.std.specs.Cmp.{IsEquivalence}
use Rattle.std.specs.Cmp.Lexicographic.{lists_equiv}
use Rattle.std.specs.Option.{option_eq, option_or}
use Rattle.std.specs.Ordering.{eq_by_cmp}
use Rattle.std.specs.BTreeMap.{BTreeMap, get, keys, is_at}
use Rattle.std.specs.Set.{is_member}
use Rattle.std.proofs.lemmas.Map.Made.{is_some-lookup}
use Rattle.raft_members.specs.quorum.Coherence.{is_coherent, next_configs}
use Rattle.raft_members.specs.quorum.Majority.{is_voter_of}
use Rattle.raft_members.proofs.lemmas.quorum.NextLemmas.{next_shares, next_has_goal}
use Rattle.raft_members.proofs.lemmas.quorum.MajorityLemmas.{in_set}
use Rattle.raft_members.proofs.lemmas.quorum.MeetingLemmas.{voter_there}
use Rattle.raft_members.proofs.lemmas.membership.UnionLemmas.{is_member-union_of}
use Rattle.raft_members.proofs.lemmas.membership.AddedLemmas.{or_none, option_or_alike, option_trans}
use Rattle.raft_members.proofs.lemmas.membership.ReachedLemmas.{self_coherent, quorum_reaches}
use Rattle.raft_members.specs.quorum.Reached.{ChangeKeepsReached}
use Rattle.raft_members.specs.membership.Members.{MemberList, node_at, members_of, HasMembers, Members}
use Rattle.raft_members.specs.membership.Refusal.{IsRefusal}
use Rattle.raft_members.specs.membership.Valid.{has_empty_config, FirstWithoutNode, FirstUnknown}
use Rattle.raft_members.specs.membership.Change.{changed, next_members, with_nodes, union_of, last_config, keeps_node}
use Rattle.raft_members.specs.declared.change_members.ChangeMembers.{ChangeMembers}
use Rattle.raft_members.specs.declared.change_members.ChangeMembers.TheVariants.{AddVoterIds, AddVoters, RemoveVoters, ReplaceAllVoters, AddNodes, SetNodes, RemoveNodes, ReplaceAllNodes}
use Rattle.raft_members.specs.declared.error.ChangeMembershipErrorOf.{ChangeMembershipErrorOf}
use Rattle.raft_members.specs.declared.error.ChangeMembershipErrorOf.TheVariants.{InProgress, EmptyMembership, LearnerNotFound, OutOfMemory}

some_alike : {N : Type 0} (same : N → N → Bool) (x y : Option N) → IsTrue (option_eq same x y) → is_some x ≡ is_some y
some_alike same None None h = refl
some_alike same None (Some y) h = cc
some_alike same (Some x) None h = cc
some_alike same (Some x) (Some y) h = refl

module _ {K N : Type 0} (same : N → N → Bool) (eq : K → K → Bool) (cmp : K → K → Ordering) (m : MemberList K N) (w : Members K N)
    (s : HasMembers same cmp m w) where
  pub same_first_missing : (o : Option K) → FirstWithoutNode eq cmp (members_of cmp m) o → FirstWithoutNode eq cmp w o
  same_first_missing o h =
      let known : K → Bool = λ k. is_some (w.node k) in
      subst (λ (v : K → Bool). FirstUnknown cmp v known o) (λ i. is_voter_of eq (s.0 i))
      (subst (λ (f : K → Bool). FirstUnknown cmp (is_voter_of eq m.configs) f o)
      (λ i k. some_alike same (node_at cmp m.nodes k) (w.node k) (s.1 k) i) h)

  pub same_empty : has_empty_config m.configs ≡ has_empty_config w.configs
  same_empty = ap has_empty_config s.0

  pub same_refusal : {C : Type 0} (e : ChangeMembershipErrorOf C K) → IsRefusal eq cmp (members_of cmp m) e → IsRefusal eq cmp w e
  same_refusal (InProgress _) h = h
  same_refusal (EmptyMembership _) h = sym same_empty ∙ h
  same_refusal (LearnerNotFound e) h = (sym same_empty ∙ h.0, same_first_missing (Some e.node_id) h.1)
  same_refusal OutOfMemory h = tt

module _ {K N : Type 0} {eq : K → K → Bool} (laws : IsEquivalence eq) (cmp : K → K → Ordering) where
  -- a change shares a config with the membership that it changes
  pub changed_coherent : (m : Members K N) (c : ChangeMembers K N) (retain : Bool) → 0 < length m.configs
      → is_coherent eq m.configs (changed eq cmp m c retain).configs ≡ true
  changed_coherent m (AddVoterIds s) retain n = next_shares (lists_equiv laws) m.configs _ n
  changed_coherent m (AddVoters es) retain n = next_shares (lists_equiv laws) m.configs _ n
  changed_coherent m (RemoveVoters s) retain n = next_shares (lists_equiv laws) m.configs _ n
  changed_coherent m (ReplaceAllVoters s) retain n = next_shares (lists_equiv laws) m.configs _ n
  changed_coherent m (AddNodes es) retain n = self_coherent laws m.configs n
  changed_coherent m (SetNodes es) retain n = self_coherent laws m.configs n
  changed_coherent m (RemoveNodes s) retain n = self_coherent laws m.configs n
  changed_coherent m (ReplaceAllNodes es) retain n = self_coherent laws m.configs n

  -- the result of a change is coherent with the membership that it changes
  pub made_coherent : {E : Type 0} (same : N → N → Bool) (r : Result (MemberList K N) E) (old next : MemberList K N) (c : ChangeMembers K N)
      (retain : Bool) → HasMembers same cmp next (changed eq cmp (members_of cmp old) c retain) → IfOk r (λ m. m ≡ next)
      → IfOk r (λ m. 0 < length old.configs → is_coherent eq old.configs m.configs ≡ true)
  made_coherent same (Ok m) old next c retain s is =
      λ n. ap (λ (x : MemberList K N). is_coherent eq old.configs x.configs) is ∙ ap (λ cs. is_coherent eq old.configs cs) s.0
      ∙ changed_coherent (members_of cmp old) c retain n
  made_coherent same (Err e) old next c retain s is = tt

  pub change_keeps_reached : ChangeKeepsReached K N eq cmp
  change_keeps_reached m voter reached h = record {
    quorums = quorum_reaches laws m.configs m.configs voter reached h (self_coherent laws m.configs h.has_config);
    changed_quorums = λ change retain. quorum_reaches laws m.configs (changed eq cmp m change retain).configs voter reached h
        (changed_coherent m change retain h.has_config);
  }

-- ---- nodes that are added to the next membership

more_by : {N : Type 0} {same : N → N → Bool} → IsEquivalence same → (n v found : Option N) (kept : Bool)
    → (is_some found ≡ true → kept ≡ true) → IsTrue (option_eq same n (cond kept v None))
    → IsTrue (option_eq same (option_or n found) (cond kept (option_or v found) None))
more_by alike n v None true k h = rw (or_none n, or_none v) h
more_by alike n v None false k h = rw (or_none n) h
more_by alike n v (Some f) true k h = option_or_alike alike n v (Some f) h
more_by alike n v (Some f) false k h = let e = k refl in cc

or_true : (a b : Bool) → (a || (b || true)) ≡ true
or_true a b = or_right _ _ (or_right _ _ refl)

module _ {K N : Type 0} {eq : K → K → Bool} (laws : IsEquivalence eq) (cmp : K → K → Ordering)
    (ties : (x y : K) → eq x y ≡ eq_by_cmp cmp x y) {same : N → N → Bool} (alike : IsEquivalence same) (m : Members K N)
    (more : BTreeMap K N) (retain : Bool) where
  -- an id that a change adds is a voter next
  added_votes : (id : K) → is_some (get cmp more id) ≡ true
      → is_voter_of eq (next_configs eq m.configs (union_of cmp (last_config m.configs) (keys more))) id ≡ true
  added_votes id h =
      let goal = union_of cmp (last_config m.configs) (keys more) in
      let named : is_member eq (keys more) id ≡ true =
      sym (in_set laws cmp ties id (keys more)) ∙ sym (is_some-lookup (is_at (cmp id)) more.entries) ∙ h in
      voter_there laws (next_configs eq m.configs goal) goal id (next_has_goal (lists_equiv laws) m.configs goal)
      (is_member-union_of laws cmp ties id (last_config m.configs) (keys more) named)

  -- a step to voters with nodes, to which those nodes are added, is the change that adds the voters
  pub more_says : (n r : MemberList K N) → HasMembers same cmp n (next_members eq m (union_of cmp (last_config m.configs)
      (keys more)) retain)
      → r.configs ≡ n.configs → ((id : K) → node_at cmp r.nodes id ≡ option_or (node_at cmp n.nodes id) (get cmp more id))
      → HasMembers same cmp r (changed eq cmp m (AddVoters more) retain)
  more_says n r s c u =
      let next : List (List K) = next_configs eq m.configs (union_of cmp (last_config m.configs) (keys more)) in (
        c ∙ s.0,
        λ id. rw (u id) (more_by alike (node_at cmp n.nodes id) (m.node id) (get cmp more id)
            (keeps_node eq m.configs next retain id) (λ h. ap (λ v. retain || (not (is_voter_of eq m.configs id) || v)) (added_votes id h)
            ∙ or_true retain (not (is_voter_of eq m.configs id))) (s.1 id)),
      )

-- the same configs with nodes that equal the given ones
pub if_says : {K N E : Type 0} {same : N → N → Bool} → IsEquivalence same
    → (cmp : K → K → Ordering) (m : Members K N) (given node : K → Option N) (r : Result (MemberList K N) E)
    → ((id : K) → IsTrue (option_eq same (given id) (node id))) → IfOk r (λ n. HasMembers same cmp n (with_nodes m given))
    → IfOk r (λ n. HasMembers same cmp n (with_nodes m node))
if_says alike cmp m given node (Ok n) e s = (s.0, λ id. option_trans alike (node_at cmp n.nodes id) (given id) (node id) (s.1 id) (e id))
if_says alike cmp m given node (Err _) e s = tt

-- if two facts about a result imply a third, the third holds of it
pub in_both : {T E : Type 0} (r : Result T E) (P Q R : T → Type 0) → ((x : T) → P x → Q x → R x) → IfOk r P → IfOk r Q → IfOk r R
in_both (Ok x) P Q R f p q = f x p q
in_both (Err e) P Q R f p q = tt
