-- What an install leaves, and why it is refused.
use Rattle.std.proofs.Common.{◌≡◌, Bool, true, false, Option, Some, None, if◌then◌else◌, refl, sym, ap, true≢false, ◌∙◌}
use Rattle.std.specs.Prelude.{IfSome, Result, Ok, Err}
use Rattle.std.specs.Cmp.{IsEquivalence}
use Rattle.std.specs.declared.cmp.Ordering.{Ordering}
use Rattle.raft_base.specs.LogId.{id_lt}
use Rattle.raft_base.specs.declared.log_id.LogIdOf.{LogIdOf}
use Rattle.steps_handlers.specs.Snapshot.{Installs, RefusedFor}
use Rattle.steps_handlers.specs.declared.error.SnapshotError.{SnapshotError}
use Rattle.raft_progress.specs.progress.Comparisons.{OrdMembers}
use Rattle.raft_members.specs.membership.MembersLawful.{same_members-equiv}
use Rattle.raft_members.specs.membership.Stored.{membership_of}
use Rattle.raft_state.specs.SnapshotMeta.{IsSnapshotCopy}
use Rattle.raft_state.specs.log_id_list.FullLog.{full_log}
use Rattle.raft_state.specs.raft_state.Install.{log_after_install, state_after_install}
use Rattle.raft_state.specs.declared.raft_state.RaftStateIn.{RaftStateIn}
use Rattle.raft_state.specs.declared.snapshot_meta.SnapshotMetaOf.{SnapshotMetaOf}

none_below : {C : Type 0} (cmp : C → C → Ordering) (a : Option (LogIdOf C)) → id_lt cmp a None ≡ false
none_below cmp None = refl
none_below cmp (Some x) = refl

module _ {K N C : Type 0} (id_eq : K → K → Bool) (same : N → N → Bool) (ids : IsEquivalence id_eq) (nodes : IsEquivalence same) where
  -- a copy of a copy is a copy
  pub copy_of_copy : (meta a b : SnapshotMetaOf C K N) → IsSnapshotCopy id_eq same meta a → IsSnapshotCopy id_eq same a b
      → IsSnapshotCopy id_eq same meta b
  copy_of_copy meta a b first second = record {
    last_log_id = second.last_log_id ∙ first.last_log_id;
    log_id = second.log_id ∙ first.log_id;
    membership = (same_members-equiv ids nodes).congr (membership_of meta.last_membership) (membership_of a.last_membership)
        (membership_of b.last_membership) first.membership ∙ second.membership;
    snapshot_id = second.snapshot_id ∙ first.snapshot_id;
  }

  -- what an install of a copy leaves, if the snapshot ends with this log id
  abbrev IsInstalled : {I L : Type 0} → (L → L → Bool) → OrdMembers C → SnapshotMetaOf C K N → (old new : RaftStateIn K N I L C)
      → Option (LogIdOf C) → Type 0
  IsInstalled same_leader ord copy old new o =
      IfSome o (λ upto. new ≡ record (state_after_install same_leader ord.cmp ord.eq upto copy.last_membership old) {
        log_ids = new.log_ids;
        snapshot_meta = new.snapshot_meta;
      })

  -- so what an install of a copy leaves, an install leaves
  pub installs : {I L : Type 0} (same_leader : L → L → Bool) (ord : OrdMembers C) (meta copy : SnapshotMetaOf C K N)
      (old new : RaftStateIn K N I L C) → IsSnapshotCopy id_eq same meta copy
      → id_lt ord.cmp old.committed meta.last_log_id ≡ true
      → IfSome copy.last_log_id (λ upto. full_log new.log_ids ≡ log_after_install ord.eq upto old)
      → IsSnapshotCopy id_eq same copy new.snapshot_meta
      → IfSome copy.last_log_id (λ upto. new ≡ record (state_after_install same_leader ord.cmp ord.eq upto copy.last_membership old) {
        log_ids = new.log_ids;
        snapshot_meta = new.snapshot_meta;
      }) → Installs ord same_leader (IsSnapshotCopy id_eq same) meta old new
  installs {I} {L} same_leader ord meta copy old new copied past log snapshot ok = record {
    committed = rw past (commits meta.last_log_id past (rw copied.last_log_id at ok));
    installed = λ _. record {
      log = rw copied.last_log_id at log;
      snapshot = copy_of_copy meta copy new.snapshot_meta copied snapshot;
      rest = by meta.last_log_id (rw copied.last_log_id at ok);
    };
    known = λ not. absurd (true≢false (sym past ∙ not));
    vote = votes meta.last_log_id past (rw copied.last_log_id at ok);
  }
    where
      commits : (o : Option (LogIdOf C)) → id_lt ord.cmp old.committed o ≡ true → IsInstalled same_leader ord copy old new o
          → new.committed ≡ o
      commits None past h = absurd (true≢false (sym past ∙ none_below ord.cmp old.committed))
      commits (Some x) past h = ap (λ s. s.committed) h

      votes : (o : Option (LogIdOf C)) → id_lt ord.cmp old.committed o ≡ true → IsInstalled same_leader ord copy old new o
          → new.vote ≡ old.vote
      votes None past h = absurd (true≢false (sym past ∙ none_below ord.cmp old.committed))
      votes (Some x) past h = ap (λ s. s.vote) h

      by : (o : Option (LogIdOf C)) → IsInstalled same_leader ord copy old new o → IfSome o (λ upto. (given : SnapshotMetaOf C K N)
          × IsSnapshotCopy id_eq same meta given
          × (new ≡ record (state_after_install same_leader ord.cmp ord.eq upto given.last_membership old) {
            log_ids = new.log_ids;
            snapshot_meta = new.snapshot_meta;
          }))
      by None h = tt
      by (Some x) h = (copy, copied, h)

-- what is committed already is known
pub known_installs : {K N I L C : Type 0} (id_eq : K → K → Bool) (same : N → N → Bool) (same_leader : L → L → Bool)
    (ord : OrdMembers C) (meta : SnapshotMetaOf C K N) (s : RaftStateIn K N I L C)
    → id_lt ord.cmp s.committed meta.last_log_id ≡ false → Installs ord same_leader (IsSnapshotCopy id_eq same) meta s s
known_installs id_eq same same_leader ord meta s not = record {
  committed = rw not refl;
  installed = λ past. absurd (true≢false (sym past ∙ not));
  known = λ _. refl;
  vote = refl;
}

-- a call that is refused is refused for a reason that the caller gives
pub refused_after : (A : Type 0) {B : Type 0} (o : Option SnapshotError) (e f : SnapshotError) (r : Result B SnapshotError) → r ≡ Err f
    → f ≡ e
    → RefusedFor o (let inner : Result A SnapshotError = Err e in inner) → RefusedFor o r
refused_after A None e f r is same h = rw (is, same) h
refused_after A (Some d) e f r is same h = let reason : e ≡ d = cc in rw (is, same, reason) refl

pub taken_as : {A B : Type 0} (o : Option SnapshotError) (a : A) (b : B)
    → RefusedFor o (let inner : Result A SnapshotError = Ok a in inner)
    → RefusedFor o (let out : Result B SnapshotError = Ok b in out)
taken_as None a b h = tt
taken_as (Some d) a b h = cc

-- a leader that is followed is refused for that reason
pub followed_refusal : {T : Type 0} (followed : Bool) (reason : Option SnapshotError) (out : Result T SnapshotError) → followed ≡ true
    → RefusedFor reason out → RefusedFor (if followed then reason else None) out
followed_refusal true reason out is h = h
followed_refusal false reason out is h = cc
