-- Why entries are refused.
use Rattle.std.proofs.Common.{◌≡◌, Bool, true, false, ◌&&◌, List, Option, if◌then◌else◌, refl, sym, true≢false, ◌∙◌}
use Rattle.std.proofs.lemmas.Bool.{and_parts}
use Rattle.std.specs.Cmp.Derive.{both_true}
use Rattle.std.specs.declared.cmp.Ordering.{Ordering}
use Rattle.raft_base.specs.LogId.{id_lt}
use Rattle.raft_base.specs.declared.log_id.LogIdOf.{LogIdOf}
use Rattle.steps_handlers.specs.Append.{append_tests, last_id_of_request, lesser_id, may_cut_at, may_take, entries_to_append, take_tests}
use Rattle.steps_handlers.specs.Entries.{allows_commit, allows_commit_past, are_in_order, effective_before, effective_with, entry_ids, has_committed_with, has_memberships_in_order, has_with, keeps_committed, last_before, may_commit_with, may_take_new, tests_hold, RefusedUnless, TakeTests}
use Rattle.steps_handlers.specs.declared.error.AppendError.{AppendError}
use Rattle.steps_handlers.specs.declared.error.AppendError.TheVariants.{CommittedNotLogged, MembershipNotInOrder, NotInOrder, OutOfMemory, TruncatesCommitted}
use Rattle.raft_state.specs.log_id_list.FullLog.{full_log}
use Rattle.raft_state.specs.raft_state.Sound.{purged_or_logged}
use Rattle.raft_state.specs.declared.entry.EntryOf.{EntryOf}
use Rattle.raft_state.specs.declared.raft_state.RaftStateIn.{RaftStateIn}

-- tests that hold only if others do have the same refusals, and more
module _ (t u : TakeTests) (keeps : t.keeps ≡ false → u.keeps ≡ false) (order : t.order ≡ false → u.order ≡ false)
    (members : t.members ≡ false → u.members ≡ false)
    (has : t.has ≡ false → u.has ≡ false) where
  pub refused_unless_more : (e : AppendError) → RefusedUnless t e → RefusedUnless u e
  refused_unless_more OutOfMemory r = r
  refused_unless_more NotInOrder r = order r
  refused_unless_more TruncatesCommitted r = keeps r
  refused_unless_more MembershipNotInOrder r = members r
  refused_unless_more CommittedNotLogged r = has r

-- if all tests hold, only an allocation may have failed
pub only_memory : (e : AppendError) → RefusedUnless tests_hold e → e ≡ OutOfMemory
only_memory OutOfMemory r = refl
only_memory NotInOrder r = absurd (true≢false r)
only_memory TruncatesCommitted r = absurd (true≢false r)
only_memory MembershipNotInOrder r = absurd (true≢false r)
only_memory CommittedNotLogged r = absurd (true≢false r)

may_commit_parts : {K N C D : Type 0} (eq : C → C → Bool) (cmp : C → C → Ordering) (log : List (LogIdOf C))
    (effective before id : Option (LogIdOf C)) (new : List (EntryOf C K N D)) → may_commit_with eq cmp log effective new before id ≡ true
    → (has_committed_with eq cmp log before new id ≡ true) × (allows_commit_past cmp effective before id ≡ true)
may_commit_parts eq cmp log effective before id new may = by (id_lt cmp before id) may
  where
    by : (t : Bool) → (if t then has_with eq log (entry_ids new) id && allows_commit cmp effective id else true) ≡ true
        → ((if t then has_with eq log (entry_ids new) id else true) ≡ true)
        × ((if t then allows_commit cmp effective id else true) ≡ true)
    by true h = and_parts (has_with eq log (entry_ids new) id) (allows_commit cmp effective id) h
    by false h = (refl, refl)

module _ {K N I L C D : Type 0} (eq : C → C → Bool) (cmp : C → C → Ordering) (prev : Option (LogIdOf C)) (es : List (EntryOf C K N D))
    (s : RaftStateIn K N I L C) where
  -- a request that may be taken is refused only if an allocation failed
  pub taken_error : (committed : Option (LogIdOf C)) (e : AppendError) → may_take eq cmp prev es committed s ≡ true
      → RefusedUnless (append_tests (purged_or_logged eq s prev) eq cmp prev es (lesser_id cmp committed (last_id_of_request prev es)) s) e
      → e ≡ OutOfMemory
  taken_error committed e may refused =
      let id = lesser_id cmp committed (last_id_of_request prev es) in
      let rest = if purged_or_logged eq s prev then may_take_new eq cmp (entries_to_append eq s es) id s else may_cut_at cmp prev s in
      let both = and_parts (are_in_order cmp prev es) rest may in
      by both.0 (purged_or_logged eq s prev) both.1 refused
    where
      by : are_in_order cmp prev es ≡ true → (t : Bool)
          → (if t then may_take_new eq cmp (entries_to_append eq s es) (lesser_id cmp committed (last_id_of_request prev es)) s
          else may_cut_at cmp prev s) ≡ true
          → RefusedUnless (append_tests t eq cmp prev es (lesser_id cmp committed (last_id_of_request prev es)) s) e → e ≡ OutOfMemory
      by in_order true h r =
          let new = entries_to_append eq s es in
          let id = lesser_id cmp committed (last_id_of_request prev es) in
          let order = are_in_order cmp (last_before new s) new in
          let members = has_memberships_in_order cmp (effective_before new s) new in
          let effective = effective_with (effective_before new s) new in
          let commit = may_commit_with eq cmp (full_log s.log_ids) effective new s.committed id in
          let b = and_parts (keeps_committed cmp new s) (order && members && commit) h in
          let d = and_parts (order && members) commit b.1 in
          let f = and_parts order members d.0 in
          let m = may_commit_parts eq cmp (full_log s.log_ids) effective s.committed id new d.1 in
          only_memory e (refused_unless_more (take_tests eq cmp prev es id s) tests_hold
          (λ k. sym b.0 ∙ k) (λ k. sym (both_true in_order f.0) ∙ k) (λ k. sym (both_true f.1 m.1) ∙ k) (λ k. sym m.0 ∙ k) e r)
      by in_order false h r =
          only_memory e (refused_unless_more (append_tests false eq cmp prev es (lesser_id cmp committed (last_id_of_request prev es)) s)
          tests_hold (λ k. sym h ∙ k) (λ k. sym in_order ∙ k) (λ k. k) (λ k. k) e r)
