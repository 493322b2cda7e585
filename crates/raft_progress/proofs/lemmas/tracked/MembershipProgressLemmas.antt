-- What a progress over a membership's configs and learners is over the membership.
use Rattle.std.specs.Prelude.{◌≡◌, Bool, IfOk, List, Result, Ok, Err}
use Rattle.std.specs.declared.cmp.Ordering.{Ordering}
use Rattle.std.proofs.Common.{subst, sym}
use Rattle.raft_members.specs.membership.Learners.{learners_of}
use Rattle.raft_members.specs.quorum.Majority.{is_voter_of}
use Rattle.raft_members.specs.membership.Members.{MemberList, members_of}
use Rattle.raft_progress.specs.progress.InOrder.{IsInOrder}
use Rattle.raft_progress.specs.progress.NewProgress.{AreFirstEntries, IsNew}
use Rattle.raft_progress.specs.progress.ProgressView.{ProgressView, state}
use Rattle.raft_progress.specs.progress.Statistics.{no_counts}
use Rattle.raft_progress.specs.progress.Upgrade.{IsUpgraded}
use Rattle.raft_progress.specs.progress.UpgradeFold.{IsUpgradeFold}
use Rattle.raft_progress.specs.tracked.Over.{over}
use Rattle.raft_progress.specs.tracked.TrackedNew.{BeginsOver}
use Rattle.raft_progress.specs.tracked.TrackedState.{AreLearners, Configs, HasConfigs, IsReady, has_quorum, is_voter}
use Rattle.raft_progress.proofs.lemmas.tracked.TrackedLemmas.{ready_upgraded}

module _ {K N V P X : Type 0} (eq : K → K → Bool) (id_cmp : K → K → Ordering) (cmp : P → P → Ordering) (part : V → P)
    (IsClone : V → V → Type 0) (seen : X → ProgressView K V P (Configs K)) (m : MemberList K N) (configs : Configs K)
    (has_configs : HasConfigs (members_of id_cmp m) configs) (learners : List K) (same : learners ≡ learners_of eq m) (default : V) where
  -- a new progress begins over the membership
  pub begins_over : {E : Type 0} → (made : Result X E) → IfOk made
      (λ p. IsNew eq IsClone part (is_voter eq configs) configs learners default (state eq (seen p)))
      → IfOk made (λ p. AreFirstEntries id_cmp learners (seen p)) → IfOk made (λ p. (seen p).granted ≡ part default)
      → IfOk made (λ p. (seen p).stat ≡ no_counts)
      → IfOk made (λ p. BeginsOver eq id_cmp cmp part IsClone default (over m (seen p)))
  begins_over (Ok p) values entries granted counts = record {
    configs = configs;
    has_configs = has_configs;
    begins = record {
      values = subst (λ (ls : List K). IsNew eq IsClone part (is_voter eq configs) configs ls default (state eq (seen p))) same values;
      entries = subst (λ (ls : List K). AreFirstEntries id_cmp ls (seen p)) same entries;
      granted = granted;
      counts = counts;
    };
  }
  begins_over (Err e) values entries granted counts = tt

  module _ (old : ProgressView K V P (Configs K)) where
    -- an upgraded one has its own quorum set, and the membership's learners
    pub upgraded_over : (p : X)
        → IsUpgraded eq IsClone part (is_voter eq configs) configs learners default (state eq old).value (state eq (seen p))
        → IsUpgraded eq IsClone part (is_voter eq (seen p).quorum_set) (seen p).quorum_set (learners_of eq m) default
        (state eq old).value (state eq (seen p))
    upgraded_over p u =
        subst (λ (ls : List K). IsUpgraded eq IsClone part (is_voter eq (seen p).quorum_set) (seen p).quorum_set ls default
        (state eq old).value (state eq (seen p))) same
        (subst (λ (q : Configs K). IsUpgraded eq IsClone part (is_voter eq q) q learners default (state eq old).value (state eq (seen p)))
        (sym u.same_quorum_set) u)

    -- and is a fold over them
    pub fold_over : (p : X)
        → IsUpgraded eq IsClone part (is_voter eq configs) configs learners default (state eq old).value (state eq (seen p))
        → IsUpgradeFold eq id_cmp cmp part IsClone (has_quorum eq) (is_voter eq) old configs learners default (seen p)
        → IsUpgradeFold eq id_cmp cmp part IsClone (has_quorum eq) (is_voter eq) old (seen p).quorum_set (learners_of eq m) default
        (seen p)
    fold_over p u f =
        subst (λ (ls : List K). IsUpgradeFold eq id_cmp cmp part IsClone (has_quorum eq) (is_voter eq) old (seen p).quorum_set ls default
        (seen p)) same
        (subst (λ (q : Configs K). IsUpgradeFold eq id_cmp cmp part IsClone (has_quorum eq) (is_voter eq) old q learners default (seen p))
        (sym u.same_quorum_set) f)

    -- and is ready
    pub ready_over : ((id : K) → is_voter eq configs id ≡ is_voter_of eq m.configs id) → AreLearners eq (members_of id_cmp m) learners
        → (p : X) → IsInOrder eq cmp part (has_quorum eq) (seen p)
        → IsUpgraded eq IsClone part (is_voter eq configs) configs learners default (state eq old).value (state eq (seen p))
        → IsReady eq id_cmp cmp part (over m (seen p))
    ready_over voters are_learners p r u =
        ready_upgraded eq id_cmp cmp part m configs learners voters has_configs are_learners IsClone default (state eq old).value (seen p) r
        u
