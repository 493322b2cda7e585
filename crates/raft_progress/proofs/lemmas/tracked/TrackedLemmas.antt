-- A membership and the progress that counts by it.
use Rattle.std.specs.Prelude.{◌≡◌, Bool, true, false, ◌&&◌, ◌||◌, cond, not, List, Option, Some, None, is_some, refl, MatchBool, IsTrue}
use Rattle.std.specs.declared.cmp.Ordering.{Ordering}
use Rattle.std.specs.Option.{option_eq}
use Rattle.std.specs.Set.{is_member}
use Rattle.std.proofs.Common.{ap, sym, subst, ◌∙◌, true≢false}
use Rattle.raft_members.specs.quorum.Majority.{is_voter_of}
use Rattle.raft_members.specs.membership.Members.{MemberList, Members, HasMembers, members_of, node_at}
use Rattle.raft_progress.specs.progress.InOrder.{IsInOrder}
use Rattle.raft_progress.specs.progress.NewProgress.{HasClone, LearnersFit}
use Rattle.raft_progress.specs.progress.ProgressView.{ProgressView, state}
use Rattle.raft_progress.specs.progress.ProgressState.{IsSame, ProgressState, Writes}
use Rattle.raft_progress.specs.progress.Steps.{IsIncreased, IsWritten, stays}
use Rattle.raft_progress.specs.tracked.TrackedState.{AreLearners, Configs, CountsBy, HasConfigs, IsReady, has_quorum, is_voter}
use Rattle.raft_progress.specs.progress.Upgrade.{Inherits, IsUpgraded}
use Rattle.raft_progress.specs.declared.progress.steps.Reply.{Reply}
use Rattle.raft_progress.specs.declared.progress.steps.Reply.TheVariants.{Granted, Unknown, WouldFall, Refused, BelowDefault, BadLearners, OutOfMemory}

and_not : (a b : Bool) → (a && not b) ≡ true → b ≡ false
and_not true false h = refl
and_not true true h = absurd (true≢false (sym h))
and_not false b h = absurd (true≢false (sym h))

or_and_not : (a b : Bool) → (a || (b && not a)) ≡ (a || b)
or_and_not true b = refl
or_and_not false true = refl
or_and_not false false = refl

module _ {K N : Type 0} (eq : K → K → Bool) (m : Members K N) (configs : Configs K) (learners : List K)
    (voters : (id : K) → is_voter eq configs id ≡ is_voter_of eq m.configs id) (l : AreLearners eq m learners) where
  -- the learners of a membership fit its configs
  pub learners_of_fit : LearnersFit eq (is_voter eq configs) learners
  learners_of_fit = record {
    distinct = l.distinct;
    no_voters = λ id h. voters id ∙ and_not (is_some (m.node id)) (is_voter_of eq m.configs id) (sym (l.are_known id) ∙ h);
  }

  -- voters and learners are the voters and the ids with a node
  is_in : (id : K) → (is_voter eq configs id || is_member eq learners id) ≡ (is_voter_of eq m.configs id || is_some (m.node id))
  is_in id = rw (voters id, l.are_known id) (or_and_not (is_voter_of eq m.configs id) (is_some (m.node id)))

  clone_there : {V : Type 0} (IsClone : V → V → Type 0) (v : V) (o : Option V) → HasClone IsClone v o → is_some o ≡ true
  clone_there IsClone v o h = ap is_some h.1

  inherited_there : {V : Type 0} (IsClone : V → V → Type 0) (default : V) (old new : Option V) → Inherits IsClone default old new
      → is_some new ≡ true
  inherited_there IsClone default None new h = clone_there IsClone default new h
  inherited_there IsClone default (Some v) new h = clone_there IsClone v new h

  module _ {V P : Type 0} (IsClone : V → V → Type 0) (part : V → P) (default : V) (old : K → Option V)
      (new : ProgressState K V P (Configs K)) (u : IsUpgraded eq IsClone part (is_voter eq configs) configs learners default old new) where
    -- an id has a value exactly if it is a voter or has a node
    pub upgraded_known : (id : K) → is_some (new.value id) ≡ (is_voter_of eq m.configs id || is_some (m.node id))
    upgraded_known id = by (is_voter eq configs id || is_member eq learners id) refl ∙ is_in id
      where
        by : (b : Bool) → (is_voter eq configs id || is_member eq learners id) ≡ b
            → is_some (new.value id) ≡ (is_voter eq configs id || is_member eq learners id)
        by true t = inherited_there IsClone default (old id) (new.value id) (u.value id t) ∙ sym t
        by false t = ap is_some (u.others id t) ∙ sym t

-- an upgraded progress counts by the membership whose configs and learners it went over to
pub counts_upgraded : {K N V P : Type 0} (eq : K → K → Bool) (id_cmp : K → K → Ordering) (list : MemberList K N) (configs : Configs K)
    (learners : List K) → ((id : K) → is_voter eq configs id ≡ is_voter_of eq list.configs id) → HasConfigs (members_of id_cmp list) configs
    → AreLearners eq (members_of id_cmp list) learners
    → (IsClone : V → V → Type 0) (part : V → P) (default : V) (old : K → Option V) (new : ProgressState K V P (Configs K))
    → IsUpgraded eq IsClone part (is_voter eq configs) configs learners default old new
    → CountsBy eq id_cmp (record { membership = list; progress = new })
counts_upgraded {K} eq id_cmp list configs learners voters h l IsClone part default old new u = record {
  configs = subst (λ (c : Configs K). HasConfigs (members_of id_cmp list) c) (sym u.same_quorum_set) h;
  voters = λ id. u.voters id ∙ voters id;
  known = upgraded_known eq (members_of id_cmp list) configs learners voters l IsClone part default old new u;
}

-- and it is ready
pub ready_upgraded : {K N V P : Type 0} (eq : K → K → Bool) (id_cmp : K → K → Ordering) (cmp : P → P → Ordering) (part : V → P)
    (list : MemberList K N) (configs : Configs K) (learners : List K) → ((id : K) → is_voter eq configs id ≡ is_voter_of eq list.configs id)
    → HasConfigs (members_of id_cmp list) configs → AreLearners eq (members_of id_cmp list) learners
    → (IsClone : V → V → Type 0) (default : V) (old : K → Option V) (p : ProgressView K V P (Configs K))
    → IsInOrder eq cmp part (has_quorum eq) p
    → IsUpgraded eq IsClone part (is_voter eq configs) configs learners default old (state eq p)
    → IsReady eq id_cmp cmp part (record { membership = list; progress = p })
ready_upgraded eq id_cmp cmp part list configs learners voters h l IsClone default old p r u = record {
  ordered = r;
  counts_by = counts_upgraded eq id_cmp list configs learners voters h l IsClone part default old (state eq p) u;
}

-- ---- steps that keep the membership

module _ {K N V P : Type 0} (eq : K → K → Bool) (id_cmp : K → K → Ordering) (list list' : MemberList K N)
    (old new : ProgressState K V P (Configs K)) (kept : list' ≡ list)
    (c : CountsBy eq id_cmp (record { membership = list; progress = old })) where
  pub counts_same : IsSame old new → CountsBy eq id_cmp (record { membership = list'; progress = new })
  counts_same s =
      subst (λ (l : MemberList K N). CountsBy eq id_cmp (record { membership = l; progress = new })) (sym kept)
      record {
        configs = subst (λ (q : Configs K). HasConfigs (members_of id_cmp list) q) (sym s.quorum_set) c.configs;
        voters = λ id. s.is_voter id ∙ c.voters id;
        known = λ id. ap is_some (s.value id) ∙ c.known id;
      }

  counts_writes : (id : K) (current v : V) → ((x y : K) → eq x y ≡ true → old.value x ≡ old.value y) → old.value id ≡ Some current
      → Writes eq old id v new → CountsBy eq id_cmp (record { membership = list'; progress = new })
  counts_writes id current v alike e w =
      subst (λ (l : MemberList K N). CountsBy eq id_cmp (record { membership = l; progress = new })) (sym kept)
      record {
        configs = subst (λ (q : Configs K). HasConfigs (members_of id_cmp list) q) (sym w.quorum_set) c.configs;
        voters = λ x. w.is_voter x ∙ c.voters x;
        known = λ x. ap is_some (w.value x) ∙ by x (eq id x) refl ∙ c.known x;
      }
    where
      by : (x : K) (b : Bool) → eq id x ≡ b → is_some (cond b (Some v) (old.value x)) ≡ is_some (old.value x)
      by x true t = sym (ap is_some (sym (alike id x t) ∙ e))
      by x false t = refl

  pub counts_written : (cmp : P → P → Ordering) (part : V → P) (has_quorum : Configs K → (K → Bool) → Bool) (id : K) (value : V)
      (reply : Reply K P) → ((x y : K) → eq x y ≡ true → old.value x ≡ old.value y)
      → IsWritten eq cmp part has_quorum old id value reply new → CountsBy eq id_cmp (record { membership = list'; progress = new })
  counts_written cmp part has_quorum id value (Granted p) alike h = counts_writes id h.0 value alike h.1 h.3
  counts_written cmp part has_quorum id value (Unknown p) alike h = counts_same h.2
  counts_written cmp part has_quorum id value WouldFall alike h = counts_same h.3
  counts_written cmp part has_quorum id value (Refused why) alike h = absurd h
  counts_written cmp part has_quorum id value (BelowDefault below) alike h = absurd h
  counts_written cmp part has_quorum id value BadLearners alike h = absurd h
  counts_written cmp part has_quorum id value OutOfMemory alike h = absurd h

  pub counts_increased : (cmp : P → P → Ordering) (partial_cmp : V → V → Option Ordering) (part : V → P)
      (has_quorum : Configs K → (K → Bool) → Bool) (id : K) (value : V) (reply : Reply K P)
      → ((x y : K) → eq x y ≡ true → old.value x ≡ old.value y) → IsIncreased eq cmp partial_cmp part has_quorum old id value reply new
      → CountsBy eq id_cmp (record { membership = list'; progress = new })
  counts_increased cmp partial_cmp part has_quorum id value reply alike h = by (stays partial_cmp (old.value id) value) h
    where
      by : (b : Bool) → MatchBool b ((p : P) × (◌≡◌ {A = Reply K P} reply (Granted p))
          × Rattle.raft_progress.specs.progress.CountedValue.IsCounted cmp part has_quorum old p × IsSame old new)
          (IsWritten eq cmp part has_quorum old id value reply new) → CountsBy eq id_cmp (record { membership = list'; progress = new })
      by true g = counts_same g.3
      by false g = counts_written cmp part has_quorum id value reply alike g

-- ---- what a membership says

-- what is equal to a node is there with it
alike_there : {N : Type 0} (same : N → N → Bool) (a b : Option N) → IsTrue (option_eq same a b) → is_some a ≡ is_some b
alike_there same None None h = refl
alike_there same (Some x) (Some y) h = refl
alike_there same None (Some y) h = absurd (true≢false (sym h))
alike_there same (Some x) None h = absurd (true≢false (sym h))

module _ {K N : Type 0} (eq : K → K → Bool) (id_cmp : K → K → Ordering) (same : N → N → Bool) (list : MemberList K N) (w : Members K N)
    (says : HasMembers same id_cmp list w) where
  pub says_configs : (configs : Configs K) → HasConfigs (members_of id_cmp list) configs → HasConfigs w configs
  says_configs configs h = h ∙ says.0

  pub says_learners : (learners : List K) → AreLearners eq (members_of id_cmp list) learners → AreLearners eq w learners
  says_learners learners l = record {
    distinct = l.distinct;
    are_known = λ id. l.are_known id ∙ λ i. alike_there same (node_at id_cmp list.nodes id) (w.node id) (says.1 id) i
        && not (is_voter_of eq (says.0 i) id);
  }
