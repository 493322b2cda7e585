-- What a leader puts in flight to a member is from its log, and leaves all matches as they were.
use Rattle.std.specs.Prelude.{◌≡◌, ℕ, zero, suc, ◌+◌, Bool, true, false, cond, ◌&&◌, ◌||◌, ◌==◌, nat_lt, Option, Some, None, Result, Ok, Err, if◌then◌else◌}
use Rattle.std.specs.Option.{option_map, option_or}
use Rattle.std.proofs.Common.{refl, sym, ap, subst, ◌∙◌}
use Rattle.raft_base.specs.LogId.{id_lt, next_index}
use Rattle.raft_base.specs.LogView.{prev_id}
use Rattle.raft_base.specs.declared.log_id.LogIdOf.{LogIdOf}
use Rattle.steps_handlers.specs.Leadership.{Leadership, WritesMember, entry_of}
use Rattle.steps_handlers.specs.Responses.{SendsNext, after_probe, after_send, is_probe_due, limit_of, with_probe}
use Rattle.raft_progress.specs.entry.Request.{after_request, sent}
use Rattle.raft_progress.specs.entry.Send.{can_send, end_of, idle_send_table, send_table, start_of}
use Rattle.raft_progress.specs.inflight.Inflight.{is_idle, logs_from}
use Rattle.raft_progress.specs.progress.Comparisons.{OrdMembers}
use Rattle.raft_progress.specs.declared.entry.ProgressEntryOf.{ProgressEntryOf}
use Rattle.raft_progress.specs.declared.inflight.InflightOf.{InflightOf}
use Rattle.raft_progress.specs.declared.inflight.InflightOf.TheVariants.{None as Idle, Logs, Snapshot}
use Rattle.raft_state.specs.log_id_list.FullLog.{full_log}
use Rattle.raft_state.specs.log_id_list.LogReads.{id_at}
use Rattle.raft_state.specs.raft_state.VoteAndLog.{log_view_of}
use Rattle.raft_state.specs.declared.raft_state.RaftStateIn.{RaftStateIn}
use Rattle.steps_safety.specs.Electing.{match_of}
use Rattle.steps_safety.proofs.AppendingLemmas.{index_found}

-- the log id before the entries that are in flight
abbrev pub prev_of : {C : Type 0} → InflightOf C → Option (LogIdOf C)
prev_of Idle = None
prev_of (Logs id range) = range.prev
prev_of (Snapshot id last) = None

module _ {K N I L C : Type 0} (eq : K → K → Bool) (logs : OrdMembers C) (s : RaftStateIn K N I L C) where
  -- what is sent is from the log of the state, and the match stays
  record IsFromLog (entry next : ProgressEntryOf C) : Type 0 where
    same : next.matching ≡ entry.matching
    prev : (x : LogIdOf C) → prev_of next.inflight ≡ Some x → id_at (full_log s.log_ids) x.index ≡ Some x

  no_prev : (sending : InflightOf C) → prev_of sending ≡ None → (x : LogIdOf C) → prev_of sending ≡ Some x
      → id_at (full_log s.log_ids) x.index ≡ Some x
  no_prev sending none x e = let absent : None ≡ Some x = sym none ∙ e in cc

  -- the log id before an index is of the log
  pub before_in : (n : ℕ) (x : LogIdOf C) → prev_id (id_at (full_log s.log_ids)) n ≡ Some x → id_at (full_log s.log_ids) x.index ≡ Some x
  before_in zero x e = cc
  before_in (suc i) x e =
      subst (λ (j : ℕ). id_at (full_log s.log_ids) j ≡ Some x) (sym (index_found (full_log s.log_ids) i x e)) e

  -- a probe
  probed : (entry next : ProgressEntryOf C) → after_probe entry (log_view_of s) ≡ Some next → IsFromLog entry next
  probed entry next after =
      by (is_probe_due entry (log_view_of s)) (prev_id (id_at (full_log s.log_ids)) entry.searching_end) refl after
    where
      by : (b : Bool) (o : Option (LogIdOf C)) → prev_id (id_at (full_log s.log_ids)) entry.searching_end ≡ o
          → (if b then option_map (with_probe entry) o else None) ≡ Some next → IsFromLog entry next
      by false o f g = cc
      by true None f g = cc
      by true (Some prev) f g =
          let made : with_probe entry prev ≡ next = cc in
          record {
            same = sym (ap (λ (y : ProgressEntryOf C). y.matching) made);
            prev = λ x e. before_in entry.searching_end x (f ∙ ap (λ (y : ProgressEntryOf C). prev_of y.inflight) made ∙ e);
          }

  -- entries of the log, or nothing
  flight : (b : Bool) (id start until : ℕ) (x : LogIdOf C)
      → prev_of (if b then Logs id (record {
        prev = prev_id (id_at (full_log s.log_ids)) start;
        last = prev_id (id_at (full_log s.log_ids)) until;
      }) else Idle) ≡ Some x → id_at (full_log s.log_ids) x.index ≡ Some x
  flight true id start until x e = before_in start x e
  flight false id start until x e = cc

  idle_sent : (entry next : ProgressEntryOf C) (most : ℕ) → idle_send_table logs.cmp entry (log_view_of s) most ≡ Ok next
      → IsFromLog entry next
  idle_sent entry next most is =
      by (nat_lt entry.searching_end (next_index s.purge_upto)
      || ((start_of entry (log_view_of s) == end_of entry (log_view_of s) most) && nat_lt (next_index entry.matching) entry.searching_end))
      (start_of entry (log_view_of s) == end_of entry (log_view_of s) most) is
    where
      with_snapshot : ProgressEntryOf C
      with_snapshot = record entry {
        curr_inflight_id = entry.curr_inflight_id + 1;
        inflight = Snapshot (entry.curr_inflight_id + 1) s.snapshot_meta.last_log_id;
      }

      with_logs : ProgressEntryOf C
      with_logs = record entry {
        curr_inflight_id = entry.curr_inflight_id + 1;
        inflight = logs_from logs.cmp (entry.curr_inflight_id + 1) (prev_id (id_at (full_log s.log_ids)) (start_of entry (log_view_of s)))
            (prev_id (id_at (full_log s.log_ids)) (end_of entry (log_view_of s) most));
      }

      by : (a b : Bool) → (let r : Result (ProgressEntryOf C) (ProgressEntryOf C) = if a then Ok with_snapshot
          else (if b then Err entry else Ok with_logs) in r ≡ Ok next) → IsFromLog entry next
      by true b is =
          let made : with_snapshot ≡ next = cc in
          record {
            same = sym (ap (λ (y : ProgressEntryOf C). y.matching) made);
            prev = no_prev next.inflight (sym (ap (λ (y : ProgressEntryOf C). prev_of y.inflight) made));
          }
      by false true is = cc
      by false false is =
          let made : with_logs ≡ next = cc in
          record {
            same = sym (ap (λ (y : ProgressEntryOf C). y.matching) made);
            prev = λ x e.
                flight (id_lt logs.cmp (prev_id (id_at (full_log s.log_ids)) (start_of entry (log_view_of s)))
                (prev_id (id_at (full_log s.log_ids)) (end_of entry (log_view_of s) most))) (entry.curr_inflight_id + 1)
                (start_of entry (log_view_of s)) (end_of entry (log_view_of s) most) x
                (ap (λ (y : ProgressEntryOf C). prev_of y.inflight) made ∙ e);
          }

  table_sent : (entry next : ProgressEntryOf C) (most : ℕ) → send_table logs.cmp entry (log_view_of s) most ≡ Ok next
      → IsFromLog entry next
  table_sent entry next most is = by (is_idle entry.inflight) is
    where
      by : (b : Bool) → (let r : Result (ProgressEntryOf C) (ProgressEntryOf C) = if b
          then idle_send_table logs.cmp entry (log_view_of s) most else Err entry in r ≡ Ok next) → IsFromLog entry next
      by true is = idle_sent entry next most is
      by false is = cc

  requested : (entry next : ProgressEntryOf C) (most : ℕ) → after_request logs.cmp entry (log_view_of s) most ≡ Some next
      → IsFromLog entry next
  requested entry next most is =
      by (can_send entry (log_view_of s)) (send_table logs.cmp entry (log_view_of s) most) refl is
    where
      by : (b : Bool) (r : Result (ProgressEntryOf C) (ProgressEntryOf C)) → send_table logs.cmp entry (log_view_of s) most ≡ r
          → (if b then sent r else None) ≡ Some next → IsFromLog entry next
      by false r f g = cc
      by true (Err y) f g = cc
      by true (Ok y) f g =
          let made : y ≡ next = cc in
          subst (λ (z : ProgressEntryOf C). IsFromLog entry z) made (table_sent entry y most f)

  put_in_flight : (entry next : ProgressEntryOf C) (most : ℕ) → after_send logs.cmp entry (log_view_of s) most ≡ Some next
      → IsFromLog entry next
  put_in_flight entry next most is = by (after_probe entry (log_view_of s)) refl is
    where
      by : (o : Option (ProgressEntryOf C)) → after_probe entry (log_view_of s) ≡ o
          → option_or o (after_request logs.cmp entry (log_view_of s) (limit_of entry most)) ≡ Some next → IsFromLog entry next
      by (Some y) f g =
          let made : y ≡ next = cc in
          subst (λ (z : ProgressEntryOf C). IsFromLog entry z) made (probed entry y f)
      by None f g = requested entry next (limit_of entry most) g

  module _ (old new : Leadership K N C) (to : K) (most : ℕ) where
    -- the log id before the entries that are put in flight is of the log
    pub sent_in_log : (sending : InflightOf C) → SendsNext eq logs to (log_view_of s) most old new (Some sending) → (x : LogIdOf C)
        → prev_of sending ≡ Some x → id_at (full_log s.log_ids) x.index ≡ Some x
    sent_in_log sending call x e = by (entry_of eq old to) refl
      where
        same_sending : (y : InflightOf C) → Some sending ≡ Some y → sending ≡ y
        same_sending y h = cc

        no_entry : Some sending ≡ None → id_at (full_log s.log_ids) x.index ≡ Some x
        no_entry h = cc

        with_entry : (entry : ProgressEntryOf C) → entry_of eq old to ≡ Some entry → (o : Option (ProgressEntryOf C))
            → after_send logs.cmp entry (log_view_of s) most ≡ o → id_at (full_log s.log_ids) x.index ≡ Some x
        with_entry entry f None g = no_prev sending (ap prev_of (same_sending Idle (call.heartbeat entry f g))) x e
        with_entry entry f (Some next) g =
            (put_in_flight entry next most g).prev x
            (sym (ap prev_of (same_sending next.inflight (call.sent entry next f g))) ∙ e)

        by : (o : Option (ProgressEntryOf C)) → entry_of eq old to ≡ o → id_at (full_log s.log_ids) x.index ≡ Some x
        by None f = no_entry (call.unknown f)
        by (Some entry) f = with_entry entry f (after_send logs.cmp entry (log_view_of s) most) refl

    -- what is sent changes no membership
    pub send_members : (r : Option (InflightOf C)) → SendsNext eq logs to (log_view_of s) most old new r
        → new.followers.membership ≡ old.followers.membership
    send_members r call = by (entry_of eq old to) refl
      where
        with_entry : (entry : ProgressEntryOf C) → entry_of eq old to ≡ Some entry → (o : Option (ProgressEntryOf C))
            → after_send logs.cmp entry (log_view_of s) most ≡ o → new.followers.membership ≡ old.followers.membership
        with_entry entry f None g = ap (λ (l : Leadership K N C). l.followers.membership) (call.unchanged_by_heartbeat entry f g)
        with_entry entry f (Some next) g = (call.in_flight entry next f g).members

        by : (o : Option (ProgressEntryOf C)) → entry_of eq old to ≡ o → new.followers.membership ≡ old.followers.membership
        by None f = ap (λ (l : Leadership K N C). l.followers.membership) (call.unchanged (call.unknown f))
        by (Some entry) f = with_entry entry f (after_send logs.cmp entry (log_view_of s) most) refl

    -- and nothing but what is known of the members, and the greatest number of a request
    pub send_node : (r : Option (InflightOf C)) → SendsNext eq logs to (log_view_of s) most old new r
        → new ≡ record old { followers = new.followers; last_request = new.last_request }
    send_node r call =
        call.numbered
        ∙ ap (λ (n : ℕ). with_last n) (sym (ap (λ (l : Leadership K N C). l.last_request) call.numbered))
      where
        with_last : ℕ → Leadership K N C
        with_last n = record old { followers = new.followers; last_request = n }

    -- and no match
    pub send_matches : ((x y : K) → eq x y ≡ true → x ≡ y) → (r : Option (InflightOf C))
        → SendsNext eq logs to (log_view_of s) most old new r → (x : K)
        → match_of (entry_of eq new x) ≡ match_of (entry_of eq old x)
    send_matches nodes r call x = by (entry_of eq old to) refl
      where
        each : (entry next : ProgressEntryOf C) → entry_of eq old to ≡ Some entry → IsFromLog entry next
            → WritesMember eq old.followers to next new.followers → (b : Bool) → eq to x ≡ b
            → match_of (entry_of eq new x) ≡ match_of (entry_of eq old x)
        each entry next f is writes false e =
            ap match_of (writes.entries x ∙ ap (λ (b : Bool). cond b (Some next) (entry_of eq old x)) e)
        each entry next f is writes true e =
            ap match_of (writes.entries x ∙ ap (λ (b : Bool). cond b (Some next) (entry_of eq old x)) e)
            ∙ is.same ∙ sym (ap match_of (ap (λ (y : K). entry_of eq old y) (sym (nodes to x e)) ∙ f))

        with_entry : (entry : ProgressEntryOf C) → entry_of eq old to ≡ Some entry → (o : Option (ProgressEntryOf C))
            → after_send logs.cmp entry (log_view_of s) most ≡ o → match_of (entry_of eq new x) ≡ match_of (entry_of eq old x)
        with_entry entry f None g =
            ap (λ (l : Leadership K N C). match_of (entry_of eq l x)) (call.unchanged_by_heartbeat entry f g)
        with_entry entry f (Some next) g =
            each entry next f (put_in_flight entry next most g) (call.in_flight entry next f g) (eq to x) refl

        by : (o : Option (ProgressEntryOf C)) → entry_of eq old to ≡ o → match_of (entry_of eq new x) ≡ match_of (entry_of eq old x)
        by None f = ap (λ (l : Leadership K N C). match_of (entry_of eq l x)) (call.unchanged (call.unknown f))
        by (Some entry) f = with_entry entry f (after_send logs.cmp entry (log_view_of s) most) refl
