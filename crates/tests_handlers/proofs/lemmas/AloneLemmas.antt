-- What the only voter decides alone.
use Rattle.std.specs.Prelude.{◌≡◌, ◌<◌, ◌&&◌, ℕ, Bool, true, false, IsTrue, Option, Some, None, is_some, List, [], ◌∷◌, length}
use Rattle.std.specs.Prelude.{cond, if◌then◌else◌, refl}
use Rattle.std.specs.Cmp.{IsEquivalence, IsTotalOrder}
use Rattle.std.specs.Option.{option_map_or}
use Rattle.std.specs.Ordering.{is_le, nat_cmp, ordering_reverse, ordering_then}
use Rattle.std.specs.declared.cmp.Ordering.{Ordering}
use Rattle.std.specs.declared.cmp.Ordering.TheVariants.{Less, Equal, Greater}
use Rattle.std.proofs.Common.{ap, arith, subst, sym, true≢false, ◌∙◌}
use Rattle.raft_base.specs.LogId.{id_le, id_lt}
use Rattle.raft_base.specs.LogIdLawful.{optional-log_id_cmp-total}
use Rattle.raft_base.specs.declared.log_id.LogIdOf.{LogIdOf}
use Rattle.raft_members.specs.quorum.Majority.{is_joint_majority, is_voter_of}
use Rattle.raft_progress.specs.progress.Comparisons.{OrdMembers}
use Rattle.raft_progress.specs.declared.entry.ProgressEntryOf.{ProgressEntryOf}
use Rattle.raft_progress.proofs.lemmas.OrderLemmas.{AtMost-from_not_lt, AtMost-refl, AtMost-trans}
use Rattle.steps_handlers.specs.Campaign.{Campaign, Campaigns, HasMajorities, has_vote_of, is_counted}
use Rattle.steps_handlers.specs.Compared.{Compared}
use Rattle.steps_handlers.specs.Leadership.{BeginsToLead, Commits, IsGreatestMatch, Leadership, WritesEntry, entry_of, flushed_entry, granted_by, is_of_leader}
use Rattle.raft_state.specs.membership_state.Memberships.{in_effect}
use Rattle.raft_state.specs.declared.raft_state.RaftStateIn.{RaftStateIn}

module _ {K : Type 0} (eq : K → K → Bool) (id : K) where
  -- one id is a majority of itself
  alone_majority : (set : K → Bool) → set id ≡ true → is_joint_majority eq ((id ∷ []) ∷ []) set ≡ true
  alone_majority set h = ap (λ b. is_joint_majority eq ((id ∷ []) ∷ []) (λ x. b)) h

  -- one id is a voter of its config
  alone_voter : eq id id ≡ true → is_voter_of eq ((id ∷ []) ∷ []) id ≡ true
  alone_voter same = rw same refl

-- the only voter that campaigns is elected
pub alone_elected : {K N I L C : Type 0} (by : Compared K N L C) → IsEquivalence by.id_eq → (id : K) (term : ℕ)
    (old new : RaftStateIn K N I L C) (made : Campaign K N L C) → Campaigns by id term old new made
    → (in_effect old.membership_state).configs ≡ (id ∷ []) ∷ [] → HasMajorities by.id_eq made
alone_elected {K = K} by laws id term old new made c alone =
    let eq = by.id_eq in
    let configs : made.votes.membership.configs ≡ (id ∷ []) ∷ [] = c.configs ∙ alone in
    let voter : is_voter_of eq (in_effect old.membership_state).configs id ≡ true =
    ap (λ cs. is_voter_of eq cs id) alone ∙ alone_voter eq id (laws.refl id) in
    let own : has_vote_of eq made id ≡ true =
    c.own_vote id ∙ ap (λ b. b && is_counted eq made id) (laws.refl id) ∙ c.voters_counted id voter in
    record {
      config = subst (λ (cs : List (List K)). 0 < length cs) (sym configs) (omega arith);
      majority = ap (λ cs. is_joint_majority eq cs (has_vote_of eq made)) configs ∙ alone_majority eq id (has_vote_of eq made) own;
    }

-- a set is a majority of one id exactly if it has the id
counts_alone : {K : Type 0} (eq : K → K → Bool) (id : K) (b : Bool) → is_joint_majority eq ((id ∷ []) ∷ []) (λ x. b) ≡ b
counts_alone eq id true = refl
counts_alone eq id false = refl

-- log ids that are at most each other are of leaders that tie
leaders_tie : (o i j : Ordering) → is_le (ordering_then (ordering_reverse o) i) ≡ true → is_le (ordering_then o j) ≡ true → o ≡ Equal
leaders_tie Less i j above below = cc
leaders_tie Equal i j above below = refl
leaders_tie Greater i j above below = cc

module _ {K N C : Type 0} (eq : K → K → Bool) (by : OrdMembers C) (total : IsTotalOrder by.cmp)
    (ties : (x y : C) → by.cmp x y ≡ Equal → by.eq x y ≡ true) (l : Leadership K N C) (id : K) (own : LogIdOf C)
    (alone : l.followers.membership.configs ≡ (id ∷ []) ∷ []) (counted : entry_of eq l id ≡ Some (flushed_entry (Some own)))
    (greatest : IsGreatestMatch eq by.cmp l (granted_by l)) where
  abbrev matches : LogIdOf C → Option (ProgressEntryOf C) → Bool
  matches x e = option_map_or (λ (e : ProgressEntryOf C). id_le by.cmp (Some x) e.matching) e false

  -- a majority matches what the only voter has on disk
  alone_matches : (x : LogIdOf C)
      → is_joint_majority eq l.followers.membership.configs (λ k. matches x (entry_of eq l k)) ≡ id_le by.cmp (Some x) (Some own)
  alone_matches x =
      ap (λ cs. is_joint_majority eq cs (λ k. matches x (entry_of eq l k))) alone
      ∙ counts_alone eq id (matches x (entry_of eq l id)) ∙ ap (matches x) counted

  itself : (x : Option (LogIdOf C)) → id_le by.cmp x x ≡ true
  itself x = AtMost-refl (optional-log_id_cmp-total total) x

  own_granted : id_le by.cmp (Some own) (granted_by l) ≡ true
  own_granted = (greatest own).1 record {
    config = subst (λ (cs : List (List K)). 0 < length cs) (sym alone) (omega arith);
    majority = alone_matches own ∙ itself (Some own);
  }

  of_leader : is_of_leader by.eq own.leader_id (granted_by l) ≡ true
  of_leader = of (granted_by l) refl
    where
      of : (g : Option (LogIdOf C)) → granted_by l ≡ g → is_of_leader by.eq own.leader_id g ≡ true
      of None e = absurd (true≢false (sym (subst (λ (g : Option (LogIdOf C)). id_le by.cmp (Some own) g ≡ true) e own_granted)))
      of (Some g) e =
          let above : id_le by.cmp (Some own) (Some g) ≡ true =
          subst (λ (g : Option (LogIdOf C)). id_le by.cmp (Some own) g ≡ true) e own_granted in
          let at_most : id_le by.cmp (Some g) (granted_by l) ≡ true =
          subst (λ (h : Option (LogIdOf C)). id_le by.cmp (Some g) h ≡ true) (sym e) (itself (Some g)) in
          let below : id_le by.cmp (Some g) (Some own) ≡ true = sym (alone_matches g) ∙ ((greatest g).0 at_most).majority in
          ties g.leader_id own.leader_id (leaders_tie (by.cmp g.leader_id own.leader_id) (nat_cmp own.index g.index)
          (nat_cmp g.index own.index) (subst (λ o. is_le (ordering_then o (nat_cmp own.index g.index)) ≡ true)
          (total.antisymm own.leader_id g.leader_id) above) below)

  -- if nothing new is committed, and what is granted is of the leader and not less than its own, no commit is due
  not_below : (of_leader below : Bool) (g : Option (LogIdOf C)) → of_leader ≡ true
      → (let none : Option (LogIdOf C) = None in none ≡ (if of_leader && below then g else None))
      → id_le by.cmp (Some own) g ≡ true → below ≡ false
  not_below true false g is answer granted = refl
  not_below true true None is answer granted = cc
  not_below true true (Some g) is answer granted = cc
  not_below false below g is answer granted = cc

  own_committed : {I L : Type 0} (old new : RaftStateIn K N I L C) (upto : Option (LogIdOf C)) → own.leader_id ≡ l.leader_id
      → Commits eq by l old new upto → id_le by.cmp (Some own) new.committed ≡ true
  own_committed old new (Some upto) mine c =
      subst (λ (g : Option (LogIdOf C)). id_le by.cmp (Some own) g ≡ true) (sym (c.is_granted refl)) own_granted
  own_committed {I} {L} old new None mine c =
      let not_due : id_lt by.cmp old.committed (granted_by l) ≡ false =
      not_below (is_of_leader by.eq l.leader_id (granted_by l)) (id_lt by.cmp old.committed (granted_by l)) (granted_by l)
      (subst (λ leader. is_of_leader by.eq leader (granted_by l) ≡ true) mine of_leader) c.answer own_granted in
      let order = optional-log_id_cmp-total total in
      subst (λ (s : RaftStateIn K N I L C). id_le by.cmp (Some own) s.committed ≡ true) (sym c.committed)
      (AtMost-trans order (Some own) (granted_by l) old.committed own_granted
      (AtMost-from_not_lt order old.committed (granted_by l) not_due))

-- the only voter that leads has committed an entry of its own, once it has counted it
pub alone_commits : {K N I L C : Type 0} {eq : K → K → Bool} → IsEquivalence eq → (by : OrdMembers C) → IsTotalOrder by.cmp
    → ((x y : C) → by.cmp x y ≡ Equal → by.eq x y ≡ true) → (id_cmp : K → K → Ordering) (same : N → N → Bool) (id : K) (leader : C)
    (last : ℕ) (start old new : RaftStateIn K N I L C) (l flushed : Leadership K N C) (own : LogIdOf C)
    (upto : Option (LogIdOf C)) → BeginsToLead eq id_cmp same id leader last start l
    → (in_effect start.membership_state).configs ≡ (id ∷ []) ∷ []
    → ((entry : ProgressEntryOf C) → entry_of eq l l.id ≡ Some entry → IsTrue (id_le by.cmp entry.matching (Some own))
    → WritesEntry eq l l.id (flushed_entry (Some own)) flushed)
    → own.leader_id ≡ l.leader_id → Commits eq by flushed old new upto → id_le by.cmp (Some own) new.committed ≡ true
alone_commits {K} {N} {I} {L} {C} {eq} laws by total ties id_cmp same id leader last start old new l flushed own upto begins only
    counts mine c =
    own_committed eq by total ties flushed l.id own
    (ap (λ m. m.configs) wrote.member.members ∙ begins.configs ∙ alone)
    (wrote.member.entries l.id ∙ ap (λ b. cond b (Some (flushed_entry (Some own))) (entry_of eq l l.id)) (laws.refl l.id))
    c.greatest old new upto (mine ∙ sym (ap (λ (k : Leadership K N C). k.leader_id) wrote.rest)) c
  where
    alone : (in_effect start.membership_state).configs ≡ (l.id ∷ []) ∷ []
    alone = only ∙ ap (λ k. (k ∷ []) ∷ []) (sym begins.node)

    writes : (e : Option (ProgressEntryOf C)) → entry_of eq l l.id ≡ e → IsTrue (is_some e)
        → WritesEntry eq l l.id (flushed_entry (Some own)) flushed
    writes None h some = cc
    writes (Some e) h some =
        counts e h (ap (λ (m : Option (LogIdOf C)). id_le by.cmp m (Some own))
        (ap (λ (e : ProgressEntryOf C). e.matching) (begins.entries l.id e h)))

    voter : is_voter_of eq l.followers.membership.configs l.id ≡ true
    voter = ap (λ cs. is_voter_of eq cs l.id) (begins.configs ∙ alone) ∙ alone_voter eq l.id (laws.refl l.id)

    wrote : WritesEntry eq l l.id (flushed_entry (Some own)) flushed
    wrote = writes (entry_of eq l l.id) refl (begins.counted l.id ∙ rw voter refl)
