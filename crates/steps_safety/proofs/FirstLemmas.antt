-- New servers, and the one that starts the cluster, are servers of the first world of a run.
use Rattle.std.specs.Prelude.{◌≡◌, ◌≤◌, true, false, List, [], ◌∷◌, Option, Some, Result, Ok, Err, IfOk, OnErr}
use Rattle.std.proofs.Common.{refl, sym, ap, subst, ◌∙◌, inl, inr, arith}
use Rattle.raft_base.specs.LogId.{next_index}
use Rattle.raft_base.specs.declared.log_id.LogIdOf.{LogIdOf}
use Rattle.raft_base.specs.declared.vote.VoteIn.{VoteIn}
use Rattle.steps_handlers.specs.Compared.{LeaderMembers}
use Rattle.steps_handlers.specs.Start.{first_log_id}
use Rattle.raft_members.specs.membership.Members.{MemberList}
use Rattle.raft_members.specs.membership.Stored.{log_id_of, membership_of}
use Rattle.raft_members.specs.declared.membership.stored.StoredMembershipOf.{StoredMembershipOf}
use Rattle.raft_progress.specs.progress.Comparisons.{OrdMembers}
use Rattle.raft_state.specs.log_id_list.FullLog.{full_log}
use Rattle.raft_state.specs.log_id_list.Keys.{may_be_keys}
use Rattle.raft_state.specs.membership_state.MembershipMoves.{after_append}
use Rattle.raft_state.specs.membership_state.Memberships.{IsNoMembership, Memberships}
use Rattle.raft_state.specs.raft_state.NewState.{IsNewState}
use Rattle.raft_state.specs.raft_state.Sound.{IsSound}
use Rattle.raft_state.specs.raft_state.VoteAndLog.{vote_of}
use Rattle.raft_state.specs.declared.raft_state.RaftStateIn.{RaftStateIn}
use Rattle.steps_safety.specs.Running.{IsInitial, IsNewServer}

no_membership : {C K N : Type 0} (initial : List (List K)) (m : StoredMembershipOf C K N) → IsNoMembership m → IsInitial initial m
no_membership {C} {K} {N} initial m none = inl (none.log_id, ap (λ (x : MemberList K N). x.configs) none.membership)

module _ {K N I L C : Type 0} (kind : LeaderMembers L K C) (logs : OrdMembers C) (initial : List (List K)) where
  pub new_server : (s : RaftStateIn K N I L C) (start : L) → IsNewState s
      → vote_of s ≡ record { leader_id = start; committed = false } → IsSound logs.eq logs.cmp s
      → may_be_keys logs.cmp s.log_ids ≡ true → IsNewServer kind logs initial start s
  new_server s start new vote sound keys = record {
    vote = vote;
    log = inl new.log;
    purged = new.purged_next;
    committed = (let none : next_index s.committed ≡ 0 = ap next_index new.committed in omega (arith, none));
    committed_membership = no_membership initial s.membership_state.committed new.committed_membership;
    effective_membership = no_membership initial s.membership_state.effective new.effective_membership;
    sound = sound;
    keys = keys;
  }

  pub started_server : (start : L) (old new : RaftStateIn K N I L C) → IsNewServer kind logs initial start old
      → (IsSound logs.eq logs.cmp old → IsSound logs.eq logs.cmp new) → may_be_keys logs.cmp new.log_ids ≡ true
      → new ≡ record old { log_ids = new.log_ids; membership_state = new.membership_state }
      → {X F : Type 0} (P : X → Type 0) (r : Result X F) → IfOk r P
      → ((x : X) → P x → full_log new.log_ids ≡ first_log_id (kind.committed (vote_of old).leader_id) ∷ [])
      → ((x : X) → P x → (stored : StoredMembershipOf C K N)
      × (log_id_of stored ≡ Some (first_log_id (kind.committed (vote_of old).leader_id)))
      × ((membership_of stored).configs ≡ initial) × (new.membership_state ≡ after_append stored old.membership_state))
      → OnErr r (new ≡ old) → IsNewServer kind logs initial start new
  started_server start old new is sound keys rest P (Ok x) starts log members err = record {
    vote = ap vote_of rest ∙ is.vote;
    log = inr (log x starts ∙ ap (λ (l : L). first_log_id (kind.committed l) ∷ []) (ap (λ (v : VoteIn L). v.leader_id) is.vote));
    purged = ap (λ (s : RaftStateIn K N I L C). s.purged_next) rest ∙ is.purged;
    committed = subst (λ (o : Option (LogIdOf C)). next_index o ≤ 1)
        (sym (ap (λ (s : RaftStateIn K N I L C). s.committed) rest)) is.committed;
    committed_membership = subst (λ (m : Memberships C K N). IsInitial initial m.committed) (sym (members x starts).3)
        is.effective_membership;
    effective_membership = subst (λ (m : Memberships C K N). IsInitial initial m.effective) (sym (members x starts).3)
        (inr (first_log_id (kind.committed (vote_of old).leader_id), (members x starts).1, refl, (members x starts).2));
    sound = sound is.sound;
    keys = keys;
  }
  started_server start old new is sound keys rest P (Err e) starts log members err =
      subst (λ (s : RaftStateIn K N I L C). IsNewServer kind logs initial start s) (sym err) is
