-- What the steps of a request to append entries leave.
use Rattle.std.specs.Prelude.{◌≡◌, ℕ, Bool, false, List, Option, IsTrue}
use Rattle.raft_base.specs.LogId.{id_lt}
use Rattle.raft_base.specs.declared.log_id.LogIdOf.{LogIdOf}
use Rattle.steps_handlers.specs.Append.{has_all, take_tests, Answers, ChangesNothing, IfHigherVote, Refused, Refuses, Took}
use Rattle.steps_handlers.specs.Entries.{RefusedUnless}
use Rattle.steps_handlers.specs.Inner.Log.{Replaces, commit_tests, has_past_committed}
use Rattle.steps_handlers.specs.Written.{changed_from, first_index_of, risen_to, HasLogWritten}
use Rattle.steps_handlers.specs.declared.changes.Changes.{Changes}
use Rattle.steps_handlers.specs.declared.error.AppendError.{AppendError}
use Rattle.steps_handlers.specs.declared.message.AppendEntries.{AppendEntries}
use Rattle.steps_handlers.specs.declared.message.Outcome.{Outcome}
use Rattle.steps_handlers.specs.declared.message.Outcome.TheVariants.{Matches}
use Rattle.raft_progress.specs.progress.Comparisons.{OrdMembers}
use Rattle.raft_state.specs.log_id_list.FullLog.{full_log}
use Rattle.raft_state.specs.raft_state.Commit.{state_after_commit, state_may_commit}
use Rattle.raft_state.specs.declared.entry.EntryOf.{EntryOf}
use Rattle.raft_state.specs.declared.raft_state.RaftStateIn.{RaftStateIn}

-- a log id was committed, if it is past what was: the log has it, and the effective membership allows
-- it. The answer is the committed log id, if it has risen; nothing else changed
pub record CommitsUpto {K N I L C : Type 0} (ord : OrdMembers C) (id answer : Option (LogIdOf C))
    (old new : RaftStateIn K N I L C) : Type 0 where
  pub may : IsTrue (state_may_commit ord.cmp id old)
  pub has : IsTrue (has_past_committed ord.eq ord.cmp id old)
  pub ok : new ≡ state_after_commit ord.cmp id old
  pub risen : answer ≡ risen_to ord.cmp old.committed new.committed
  pub rest : new ≡ record old { committed = new.committed; membership_state = new.membership_state }

-- a commit was refused, or an allocation failed: the log id is past what is committed, and nothing
-- changed
pub record RefusesCommit {K N I L C : Type 0} (ord : OrdMembers C) (id : Option (LogIdOf C))
    (refusal : AppendError) (old new : RaftStateIn K N I L C) : Type 0 where
  pub refused : RefusedUnless (commit_tests ord.eq ord.cmp id old) refusal
  pub past : IsTrue (id_lt ord.cmp old.committed id)
  pub err : new ≡ old

-- new entries are in place of the end of a log; the answer is the index of the first one, if there is
-- one
pub record PutsNew {K N I L C D : Type 0} (ord : OrdMembers C) (id_eq : K → K → Bool)
    (same : N → N → Bool) (es : List (EntryOf C K N D)) (answer : Option ℕ)
    (old new : RaftStateIn K N I L C) : Type 0 where
  pub from : answer ≡ first_index_of es
  pub replaced : Replaces ord id_eq same es old new

-- nothing but the log, the memberships, and what is accepted and committed has changed
abbrev pub ChangesLog : {K N I L C : Type 0} → (old new : RaftStateIn K N I L C) → Type 0
ChangesLog old new = new ≡ record old {
  log_ids = new.log_ids;
  membership_state = new.membership_state;
  accepted = new.accepted;
  committed = new.committed;
}

-- what changes say of the log and of what is committed, after a request with these entries
pub record WritesLog {K N I L C D : Type 0} (ord : OrdMembers C) (es : List (EntryOf C K N D))
    (outcome : Outcome L C) (changes : Changes C) (old new : RaftStateIn K N I L C) : Type 0 where
  pub from : changes.log_from ≡ changed_from ord.eq outcome es old
  pub log : HasLogWritten ord.eq changes.log_from (full_log old.log_ids) (full_log new.log_ids)
  pub committed : changes.committed ≡ risen_to ord.cmp old.committed new.committed

-- the entries of a request were taken, and a log id was committed with them; and the changes say what
-- a disk has to write
pub record TakesEntries {K N I L C D : Type 0} (ord : OrdMembers C) (id_eq : K → K → Bool)
    (same : N → N → Bool) (request : AppendEntries L C K N D) (id : Option (LogIdOf C))
    (changes : Changes C) (old new : RaftStateIn K N I L C) : Type 0 where
  pub writes : WritesLog ord request.entries.items (Matches request.prev) changes old new
  pub took : Took ord id_eq same request.prev request.entries.items id old new
  pub rest : ChangesLog old new

-- the entries of a request were refused, or the log id, or an allocation failed: then an entry is new,
-- or the log id is past what is committed
pub record RefusesEntries {K N I L C D : Type 0} (ord : OrdMembers C) (id_eq : K → K → Bool)
    (same : N → N → Bool) (request : AppendEntries L C K N D) (id : Option (LogIdOf C))
    (refusal : AppendError) (old new : RaftStateIn K N I L C) : Type 0 where
  pub refused : Refused ord id_eq same
      (take_tests ord.eq ord.cmp request.prev request.entries.items id old) request.prev
      request.entries.items refusal old new
  pub needed : IsTrue (has_all ord.eq old request.entries.items) → id_lt ord.cmp old.committed id ≡ false → ⊥
  pub rest : ChangesLog old new

-- a request was answered by a server that follows its leader; and the changes say what a disk has to
-- write
pub record MatchesLog {K N I L C D : Type 0} (ord : OrdMembers C) (id_eq : K → K → Bool)
    (same : N → N → Bool) (request : AppendEntries L C K N D) (outcome : Outcome L C)
    (changes : Changes C) (old new : RaftStateIn K N I L C) : Type 0 where
  pub followed : IfHigherVote outcome (λ _. ⊥)
  pub answers : Answers ord id_eq same request outcome old new
  pub writes : WritesLog ord request.entries.items outcome changes old new
  pub rest : ChangesLog old new

-- a request was refused, or an allocation failed: then the request is to change something
pub record RefusesToMatch {K N I L C D : Type 0} (ord : OrdMembers C) (id_eq : K → K → Bool)
    (same : N → N → Bool) (request : AppendEntries L C K N D) (refusal : AppendError)
    (old new : RaftStateIn K N I L C) : Type 0 where
  pub refuses : Refuses ord id_eq same request refusal old new
  pub needed : ChangesNothing ord.eq ord.cmp request old → ⊥
  pub rest : ChangesLog old new
