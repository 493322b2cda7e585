-- Calls of the handlers are steps of a run: what their contracts say is what a step says.
use Rattle.std.specs.Prelude.{◌≡◌, ◌⊎◌, ℕ, Bool, true, false, List, Option, Some, None, IfSome, Result, Ok, Err, IfOk, if◌then◌else◌}
use Rattle.std.specs.Option.{option_map}
use Rattle.std.specs.Ordering.{partial_ge}
use Rattle.std.proofs.Common.{refl, sym, ap, subst, ◌∙◌, inl, inr}
use Rattle.std.proofs.lemmas.Bool.{and_parts}
use Rattle.raft_base.specs.UTime.{moment_of, utime_of}
use Rattle.raft_base.specs.Vote.{vote_cmp}
use Rattle.raft_base.specs.declared.log_id.LogIdOf.{LogIdOf}
use Rattle.raft_base.specs.declared.vote.VoteIn.{VoteIn}
use Rattle.steps_handlers.specs.Append.{Answers, IfHigherVote}
use Rattle.steps_handlers.specs.Campaign.{Campaign, Campaigns, CountsVoteOf, grants_vote, same_vote}
use Rattle.steps_handlers.specs.Changes.{AppendsMembers}
use Rattle.steps_handlers.specs.Compared.{LeaderMembers, compared}
use Rattle.steps_handlers.specs.Follow.{heard, is_followed, vote_heard}
use Rattle.steps_handlers.specs.Leadership.{BecomesLeader, Commits, Leadership, entry_of, is_leading}
use Rattle.steps_handlers.specs.Proposals.{AppendsOwn}
use Rattle.steps_handlers.specs.Responses.{SendsNext, heartbeat_to}
use Rattle.steps_handlers.specs.Restart.{Restores}
use Rattle.steps_handlers.specs.Snapshot.{AnswersSnapshot, RefusedFor, snapshot_refusal}
use Rattle.steps_handlers.specs.Vote.{Grants}
use Rattle.steps_handlers.specs.declared.error.AppendError.{AppendError}
use Rattle.steps_handlers.specs.declared.message.AppendEntries.{AppendEntries}
use Rattle.steps_handlers.specs.declared.message.Heartbeat.{Heartbeat}
use Rattle.steps_handlers.specs.declared.message.InstallSnapshot.{InstallSnapshot}
use Rattle.steps_handlers.specs.declared.message.Outcome.{Outcome}
use Rattle.steps_handlers.specs.declared.message.Outcome.TheVariants.{HigherVote}
use Rattle.steps_handlers.specs.declared.message.RequestNumber.TheVariants.{InFlight}
use Rattle.steps_handlers.specs.declared.message.Response.{Response}
use Rattle.steps_handlers.specs.declared.error.SnapshotError.{SnapshotError}
use Rattle.steps_handlers.specs.declared.message.VoteRequest.{VoteRequest}
use Rattle.steps_handlers.specs.declared.message.VoteResponse.{VoteResponse}
use Rattle.raft_members.specs.membership.Members.{Members}
use Rattle.raft_progress.specs.progress.Comparisons.{OrdMembers}
use Rattle.raft_progress.specs.declared.entry.ProgressEntryOf.{ProgressEntryOf}
use Rattle.raft_progress.specs.declared.inflight.InflightOf.{InflightOf}
use Rattle.safety_laws.specs.Ranks.{IsAmong}
use Rattle.raft_state.specs.SnapshotMeta.{IsSnapshotCopy}
use Rattle.raft_state.specs.entry.Entry.{payload_membership}
use Rattle.raft_state.specs.log_id_list.FullLog.{full_log}
use Rattle.raft_state.specs.log_id_list.Keys.{may_be_keys}
use Rattle.raft_state.specs.log_id_list.LogReads.{id_at, last_id}
use Rattle.raft_state.specs.raft_state.Sound.{IsSound}
use Rattle.raft_state.specs.raft_state.VoteAndLog.{log_view_of, vote_of}
use Rattle.raft_state.specs.declared.entry.EntryOf.{EntryOf}
use Rattle.raft_state.specs.declared.entry.payload.EntryPayload.{EntryPayload}
use Rattle.raft_state.specs.declared.raft_state.RaftStateIn.{RaftStateIn}
use Rattle.raft_state.specs.declared.snapshot_meta.SnapshotMetaOf.{SnapshotMetaOf}
use Rattle.steps_safety.specs.Called.{AppendIsStep, CampaignIsStep, ChangeIsStep, ComesAfter, CommitIsStep, CountIsStep, ElectionIsStep, HearingIsStep, HeartbeatIsStep, InstallIsStep, ProposalIsStep, RestartIsStep, SendIsStep, VoteIsStep}
use Rattle.steps_safety.specs.Running.{Cluster, CountsByEffective, DoesOne, Message, OneAppend, OneCampaign, OneChange, OneCommit, OneCount, OneElection, OneHearing, OneHeartbeat, OneProposal, OneRestart, OneSend, OneSnapshot, OneVote, Step, World}

-- two results that are equal have one outcome
same_outcome : {L C X : Type 0} (F : Type 0) (x y : Response L C × X) → (let a : Result (Response L C × X) F = Ok x in
    let b : Result (Response L C × X) F = Ok y in a ≡ b) → x.0.outcome ≡ y.0.outcome
same_outcome {L} {C} {X} F x y e = let same : x ≡ y = cc in ap (λ (z : Response L C × X). z.0.outcome) same

-- a call that returns a response has no reason to refuse
no_reason : {T : Type 0} (o : Option SnapshotError) (x : T) → (let r : Result T SnapshotError = Ok x in
    RefusedFor o r)
    → o ≡ None
no_reason None x h = refl
no_reason (Some e) x h = cc

-- what holds of two states holds of states that are equal to them
both : {A : Type 0} (P : A → A → Type 0) (x y a b : A) → a ≡ x → b ≡ y → P x y → P a b
both {A} P x y a b e f h = subst (λ (z : A). P z b) (sym e) (subst (λ (z : A). P x z) (sym f) h)

-- a call keeps a sound state sound, and the keys of its log are in order after it
pub record Keeps {K N I L C : Type 0} (logs : OrdMembers C) (old new : RaftStateIn K N I L C) : Type 0 where
  pub sound : IsSound logs.eq logs.cmp old → IsSound logs.eq logs.cmp new
  pub keys : may_be_keys logs.cmp new.log_ids ≡ true

module _ {K N L C : Type 0} (I D : Type 0) (ids : OrdMembers K) (node_eq : N → N → Bool) (kind : LeaderMembers L K C)
    (logs : OrdMembers C) where
  -- what the server has done is a step
  steps : (c : Cluster K L) (s : K) (w v : World K N I L C D) (old new : RaftStateIn K N I L C) (campaign : Option (Campaign K N L C))
      (network : List (Message K N L C D)) → ComesAfter ids.eq s old new campaign network w v → Keeps logs old new
      → DoesOne ids node_eq kind logs c s w v → Step ids node_eq kind logs c w v
  steps c s w v old new campaign network at keeps does = record {
    server = s;
    does = does;
    sound = both (λ (a b : RaftStateIn K N I L C). IsSound logs.eq logs.cmp a → IsSound logs.eq logs.cmp b) old new (w.servers s)
        (v.servers s) at.before at.after keeps.sound;
    keys = subst (λ (b : RaftStateIn K N I L C). may_be_keys logs.cmp b.log_ids ≡ true) (sym at.after) keeps.keys;
    others = at.others;
    other_campaigns = at.other_campaigns;
  }

  pub vote_steps : (request : VoteRequest L C) (old : RaftStateIn K N I L C) (response : VoteResponse L) (new : RaftStateIn K N I L C)
      → Keeps logs old new → Grants kind.order logs.cmp request old response new
      → VoteIsStep D ids node_eq kind logs request old response new
  vote_steps request old response new keeps call c s w v at message other =
      steps c s w v old new _ _ at keeps
      (OneVote (record {
        request = request;
        response = response;
        message = message;
        other = other;
        call = both (λ (a b : RaftStateIn K N I L C). Grants kind.order logs.cmp request a response b) old new (w.servers s)
            (v.servers s) at.before at.after call;
        campaign = at.has_campaign;
        sends = at.sent;
      }))

  append_step : (request : AppendEntries L C K N D) (old new : RaftStateIn K N I L C) (outcome : Outcome L C) → Keeps logs old new
      → new.vote ≡ vote_heard kind.order request.leader_id old
      → (is_followed kind.order request.leader_id old ≡ false → outcome ≡ HigherVote (vote_of old))
      → Answers logs ids.eq node_eq request outcome old new → new.purged_next ≡ old.purged_next
      → AppendIsStep D ids node_eq kind logs request old outcome new
  append_step request old new outcome keeps vote not_followed answers purged c s w v at message other =
      steps c s w v old new _ _ at keeps
      (OneAppend (record {
        request = request;
        outcome = outcome;
        message = message;
        other = other;
        vote = both (λ (a b : RaftStateIn K N I L C). b.vote ≡ vote_heard kind.order request.leader_id a) old new (w.servers s)
            (v.servers s) at.before at.after vote;
        not_followed = subst (λ (a : RaftStateIn K N I L C). is_followed kind.order request.leader_id a ≡ false
            → outcome ≡ HigherVote (vote_of a)) (sym at.before) not_followed;
        answers = both (λ (a b : RaftStateIn K N I L C). Answers logs ids.eq node_eq request outcome a b) old new (w.servers s)
            (v.servers s) at.before at.after answers;
        purged = both (λ (a b : RaftStateIn K N I L C). b.purged_next ≡ a.purged_next) old new (w.servers s) (v.servers s) at.before
            at.after purged;
        campaign = at.has_campaign;
        sends = at.sent;
      }))

  pub append_steps : {X : Type 0} (nothing : X) (request : AppendEntries L C K N D) (old new : RaftStateIn K N I L C) → Keeps logs old new
      → new.vote ≡ vote_heard kind.order request.leader_id old → new.purged_next ≡ old.purged_next
      → (r : Result (Response L C × X) AppendError) → (is_followed kind.order request.leader_id old ≡ false → r ≡ Ok (
        record {
          leader_id = kind.committed request.leader_id;
          request = request.request;
          outcome = HigherVote (vote_of old);
        },
        nothing,
      ))
      → IfOk r (λ made. Answers logs ids.eq node_eq request made.0.outcome old new)
      → IfOk r (λ made. AppendIsStep D ids node_eq kind logs request old made.0.outcome new)
  append_steps nothing request old new keeps vote purged (Ok made) not_followed answers =
      append_step request old new made.0.outcome keeps vote (λ none. same_outcome AppendError made _ (not_followed none)) answers purged
  append_steps nothing request old new keeps vote purged (Err e) not_followed answers = tt

  install_step : (request : InstallSnapshot L C K N) (old new : RaftStateIn K N I L C) (outcome : Outcome L C) → Keeps logs old new
      → (is_followed kind.order request.leader_id old ≡ false → outcome ≡ HigherVote (vote_of old))
      → IfHigherVote outcome (λ _. is_followed kind.order request.leader_id old ≡ false)
      → AnswersSnapshot logs kind.eq (IsSnapshotCopy ids.eq node_eq) request.meta outcome (heard kind.order request.leader_id old) new
      → snapshot_refusal kind.order logs.cmp logs.eq request.leader_id request.meta old ≡ None
      → InstallIsStep D ids node_eq kind logs request old outcome new
  install_step request old new outcome keeps not_followed followed answers allowed c s w v upto at message other is_upto =
      steps c s w v old new _ _ at keeps
      (OneSnapshot (record {
        request = request;
        upto = upto;
        is_upto = is_upto;
        outcome = outcome;
        message = message;
        other = other;
        not_followed = subst (λ (a : RaftStateIn K N I L C). is_followed kind.order request.leader_id a ≡ false
            → outcome ≡ HigherVote (vote_of a)) (sym at.before) not_followed;
        followed = subst (λ (a : RaftStateIn K N I L C). IfHigherVote outcome
            (λ _. is_followed kind.order request.leader_id a ≡ false)) (sym at.before) followed;
        answers = both (λ (a b : RaftStateIn K N I L C). AnswersSnapshot logs kind.eq (IsSnapshotCopy ids.eq node_eq) request.meta
            outcome (heard kind.order request.leader_id a) b) old new (w.servers s) (v.servers s) at.before at.after answers;
        allowed = subst (λ (a : RaftStateIn K N I L C). snapshot_refusal kind.order logs.cmp logs.eq request.leader_id request.meta a
            ≡ None) (sym at.before) allowed;
        campaign = at.has_campaign;
        sends = at.sent;
      }))

  pub install_steps : {X : Type 0} (nothing : X) (request : InstallSnapshot L C K N) (old new : RaftStateIn K N I L C) → Keeps logs old new
      → (r : Result (Response L C × X) SnapshotError) → (is_followed kind.order request.leader_id old ≡ false → r ≡ Ok (
        record {
          leader_id = kind.committed request.leader_id;
          request = InFlight request.request;
          outcome = HigherVote (vote_of old);
        },
        nothing,
      ))
      → IfOk r (λ made. IfHigherVote made.0.outcome (λ _. is_followed kind.order request.leader_id old ≡ false))
      → IfOk r (λ made. AnswersSnapshot logs kind.eq (IsSnapshotCopy ids.eq node_eq) request.meta made.0.outcome
      (heard kind.order request.leader_id old) new)
      → RefusedFor (snapshot_refusal kind.order logs.cmp logs.eq request.leader_id request.meta old) r
      → IfOk r (λ made. InstallIsStep D ids node_eq kind logs request old made.0.outcome new)
  install_steps nothing request old new keeps (Ok made) not_followed followed answers refused =
      install_step request old new made.0.outcome keeps (λ none. same_outcome SnapshotError made _ (not_followed none)) followed answers
      (no_reason (snapshot_refusal kind.order logs.cmp logs.eq request.leader_id request.meta old) made refused)
  install_steps nothing request old new keeps (Err e) not_followed followed answers refused = tt

  pub hearing_step : (vote : VoteIn L) (old new : RaftStateIn K N I L C) (promised : Bool) → Keeps logs old new
      → promised ≡ partial_ge (vote_cmp kind.order) vote (vote_of old)
      → new ≡ (if promised then record old { vote = utime_of vote (moment_of old.vote) } else old)
      → HearingIsStep D ids node_eq kind logs vote old new
  hearing_step vote old new promised keeps answer taken c s w v campaign response at over message has_vote =
      steps c s w v old new _ _ at keeps
      (OneHearing (record {
        vote = vote;
        response = response;
        message = message;
        has_vote = has_vote;
        promised = promised;
        answer = subst (λ (a : RaftStateIn K N I L C). promised ≡ partial_ge (vote_cmp kind.order) vote (vote_of a)) (sym at.before)
            answer;
        taken = both (λ (a b : RaftStateIn K N I L C). b
            ≡ (if promised then record a { vote = utime_of vote (moment_of a.vote) } else a)) old new (w.servers s) (v.servers s)
            at.before at.after taken;
        campaign = is_over over;
        sends = at.sent;
      }))
    where
      is_over : (campaign ≡ w.campaigns s) ⊎ (campaign ≡ None) → (v.campaigns s ≡ w.campaigns s) ⊎ (v.campaigns s ≡ None)
      is_over (inl same) = inl (at.has_campaign ∙ same)
      is_over (inr none) = inr (at.has_campaign ∙ none)

  campaign_step : (s : K) (greatest : ℕ) (old new : RaftStateIn K N I L C) (made : Campaign K N L C) → Keeps logs old new
      → Campaigns (compared ids node_eq kind logs) s greatest old new made → CampaignIsStep D ids node_eq kind logs s old made new
  campaign_step s greatest old new made keeps call c w v at in_use =
      steps c s w v old new _ _ at keeps
      (OneCampaign (record {
        greatest_term = greatest;
        made = made;
        in_use = in_use;
        call = both (λ (a b : RaftStateIn K N I L C). Campaigns (compared ids node_eq kind logs) s greatest a b made) old new
            (w.servers s) (v.servers s) at.before at.after call;
        campaign = at.has_campaign;
        sends = at.sent;
      }))

  pub campaign_steps : (s : K) (greatest : ℕ) (old new : RaftStateIn K N I L C) → Keeps logs old new
      → {F : Type 0} (r : Result (Campaign K N L C) F) → IfOk r (Campaigns (compared ids node_eq kind logs) s greatest old new)
      → IfOk r (λ made. CampaignIsStep D ids node_eq kind logs s old made new)
  campaign_steps s greatest old new keeps (Ok made) call = campaign_step s greatest old new made keeps call
  campaign_steps s greatest old new keeps (Err e) call = tt

  pub count_steps : (from : K) (response : VoteResponse L) (before after : Campaign K N L C)
      → (grants_vote kind.eq before.vote response ≡ true → CountsVoteOf ids.eq from before after)
      → CountIsStep I D ids node_eq kind logs from response before after
  count_steps from response before after call c s w v at had keys message grants same =
      steps c s w v (w.servers s) (w.servers s) _ _ at (record { sound = λ is. is; keys = keys })
      (OneCount (record {
        before = before;
        after = after;
        from = from;
        response = response;
        message = message;
        granted = (and_parts response.granted (same_vote kind.eq response.vote before.vote) grants).0;
        for_this = same;
        campaign_before = had;
        call = call grants;
        campaign = at.has_campaign;
        state = at.after;
        sends = at.sent;
      }))

  election_step : (candidate : Campaign K N L C) (old new : RaftStateIn K N I L C) (made : Leadership K N C) → Keeps logs old new
      → BecomesLeader (compared ids node_eq kind logs) candidate old new made
      → ElectionIsStep D ids node_eq kind logs candidate old new
  election_step candidate old new made keeps call c s w v at had =
      steps c s w v old new _ _ at keeps
      (OneElection (record {
        candidate = candidate;
        made = made;
        campaign_before = had;
        call = both (λ (a b : RaftStateIn K N I L C). BecomesLeader (compared ids node_eq kind logs) candidate a b made) old new
            (w.servers s) (v.servers s) at.before at.after call;
        campaign = at.has_campaign;
        sends = at.sent;
      }))

  pub election_steps : (candidate : Campaign K N L C) (old new : RaftStateIn K N I L C) → Keeps logs old new
      → {F : Type 0} (r : Result (Leadership K N C) F) → IfOk r (BecomesLeader (compared ids node_eq kind logs) candidate old new)
      → IfOk r (λ _. ElectionIsStep D ids node_eq kind logs candidate old new)
  election_steps candidate old new keeps (Ok made) call = election_step candidate old new made keeps call
  election_steps candidate old new keeps (Err e) call = tt

  proposal_step : (leader : Leadership K N C) (payload : EntryPayload K N D) (old new : RaftStateIn K N I L C) (entry : EntryOf C K N D)
      → Keeps logs old new → AppendsOwn (compared ids node_eq kind logs) leader payload old new entry
      → payload_membership payload ≡ None → ProposalIsStep D ids node_eq kind logs leader old entry new
  proposal_step leader payload old new entry keeps call plain c s w v last at own in_use is_last =
      steps c s w v old new _ _ at keeps
      (OneProposal (record {
        leader = leader;
        leads = record {
          leads = subst (λ (a : RaftStateIn K N I L C). is_leading (compared ids node_eq kind logs) leader a ≡ true) (sym at.before)
              call.leads;
          node = own;
          in_use = subst (λ (a : RaftStateIn K N I L C). IsAmong (vote_of a).leader_id c.leaders) (sym at.before) in_use;
        };
        payload = payload;
        entry = entry;
        no_membership = plain;
        started = (last, ap (λ (a : RaftStateIn K N I L C). last_id (full_log a.log_ids)) at.before ∙ is_last);
        call = both (λ (a b : RaftStateIn K N I L C). AppendsOwn (compared ids node_eq kind logs) leader payload a b entry) old new
            (w.servers s) (v.servers s) at.before at.after call;
        campaign = at.has_campaign;
        sends = at.sent;
      }))

  pub proposal_steps : (leader : Leadership K N C) (payload : EntryPayload K N D) (old new : RaftStateIn K N I L C) → Keeps logs old new
      → {F : Type 0} (r : Result (EntryOf C K N D) F) → IfOk r (AppendsOwn (compared ids node_eq kind logs) leader payload old new)
      → payload_membership payload ≡ None → IfOk r (λ entry. ProposalIsStep D ids node_eq kind logs leader old entry new)
  proposal_steps leader payload old new keeps (Ok entry) call plain = proposal_step leader payload old new entry keeps call plain
  proposal_steps leader payload old new keeps (Err e) call plain = tt

  change_step : (leader after : Leadership K N C) (next : Members K N) (old new : RaftStateIn K N I L C) (entry : EntryOf C K N D)
      → Keeps logs old new → AppendsMembers (compared ids node_eq kind logs) next leader old after new entry
      → ChangeIsStep D ids node_eq kind logs leader old entry new
  change_step leader after next old new entry keeps call c s w v last at leads is_last counts true_matches =
      steps c s w v old new _ _ at keeps
      (OneChange (record {
        leader = leader;
        after = after;
        leads = leads;
        next = next;
        entry = entry;
        started = (last, ap (λ (a : RaftStateIn K N I L C). last_id (full_log a.log_ids)) at.before ∙ is_last);
        counts = subst (λ (a : RaftStateIn K N I L C). CountsByEffective leader a) (sym at.before) counts;
        true_matches = true_matches;
        call = both (λ (a b : RaftStateIn K N I L C). AppendsMembers (compared ids node_eq kind logs) next leader a after b entry) old new
            (w.servers s) (v.servers s) at.before at.after call;
        campaign = at.has_campaign;
        sends = at.sent;
      }))

  pub change_steps : (leader after : Leadership K N C) (next : Members K N) (old new : RaftStateIn K N I L C) → Keeps logs old new
      → {F : Type 0} (r : Result (EntryOf C K N D) F)
      → IfOk r (AppendsMembers (compared ids node_eq kind logs) next leader old after new)
      → IfOk r (λ entry. ChangeIsStep D ids node_eq kind logs leader old entry new)
  change_steps leader after next old new keeps (Ok entry) call = change_step leader after next old new entry keeps call
  change_steps leader after next old new keeps (Err e) call = tt

  send_step : (before after : Leadership K N C) (state : RaftStateIn K N I L C) (to : K) (most : ℕ) (sending : InflightOf C)
      → may_be_keys logs.cmp state.log_ids ≡ true → SendsNext ids.eq logs to (log_view_of state) most before after (Some sending)
      → SendIsStep D ids node_eq kind logs before state sending
  send_step before after state to most sending keys call c s w v request at leads is_own prev entries committed =
      steps c s w v state state _ _ at (record { sound = λ is. is; keys = keys })
      (OneSend (record {
        leader = before;
        leads = leads;
        to = to;
        max_entries = most;
        sending = sending;
        after = after;
        call = subst (λ (a : RaftStateIn K N I L C). SendsNext ids.eq logs to (log_view_of a) most before after (Some sending))
            (sym at.before) call;
        request = request;
        is_own = is_own ∙ ap (λ (a : RaftStateIn K N I L C). (vote_of a).leader_id) (sym at.before);
        prev = prev;
        entries = λ e among. (
          ap (λ (a : RaftStateIn K N I L C). id_at (full_log a.log_ids) e.log_id.index) at.before
              ∙ (entries e among).0,
          (entries e among).1,
        );
        committed = committed ∙ ap (λ (a : RaftStateIn K N I L C). a.committed) (sym at.before);
        state = at.after ∙ sym at.before;
        campaign = at.has_campaign;
        sends = at.sent;
      }))

  pub send_steps : (before after : Leadership K N C) (state : RaftStateIn K N I L C) (to : K) (most : ℕ)
      → may_be_keys logs.cmp state.log_ids ≡ true → (r : Option (InflightOf C))
      → SendsNext ids.eq logs to (log_view_of state) most before after r
      → IfSome r (SendIsStep D ids node_eq kind logs before state)
  send_steps before after state to most keys (Some sending) call = send_step before after state to most sending keys call
  send_steps before after state to most keys None call = tt

  heartbeat_step : (leader : Leadership K N C) (state : RaftStateIn K N I L C) (to : K) (entry : ProgressEntryOf C)
      → may_be_keys logs.cmp state.log_ids ≡ true → entry_of ids.eq leader to ≡ Some entry
      → HeartbeatIsStep D ids node_eq kind logs leader state (heartbeat_to (log_view_of state) entry)
  heartbeat_step leader state to entry keys known c s w v request at leads is_own prev none committed =
      steps c s w v state state _ _ at (record { sound = λ is. is; keys = keys })
      (OneHeartbeat (record {
        leader = leader;
        leads = leads;
        to = to;
        entry = entry;
        known = known;
        request = request;
        is_own = is_own ∙ ap (λ (a : RaftStateIn K N I L C). (vote_of a).leader_id) (sym at.before);
        prev = prev ∙ ap (λ (a : RaftStateIn K N I L C). (heartbeat_to (log_view_of a) entry).prev) (sym at.before);
        no_entries = none;
        committed = committed ∙ ap (λ (a : RaftStateIn K N I L C). a.committed) (sym at.before);
        state = at.after ∙ sym at.before;
        campaign = at.has_campaign;
        sends = at.sent;
      }))

  pub heartbeat_steps : (leader : Leadership K N C) (state : RaftStateIn K N I L C) (to : K)
      → may_be_keys logs.cmp state.log_ids ≡ true → (r : Option (Heartbeat C))
      → r ≡ option_map (heartbeat_to (log_view_of state)) (entry_of ids.eq leader to)
      → IfSome r (HeartbeatIsStep D ids node_eq kind logs leader state)
  heartbeat_steps leader state to keys r is =
      subst (λ (x : Option (Heartbeat C)). IfSome x (HeartbeatIsStep D ids node_eq kind logs leader state)) (sym is)
      (by (entry_of ids.eq leader to) refl)
    where
      by : (o : Option (ProgressEntryOf C)) → entry_of ids.eq leader to ≡ o
          → IfSome (option_map (heartbeat_to (log_view_of state)) o) (HeartbeatIsStep D ids node_eq kind logs leader state)
      by None f = tt
      by (Some entry) f = heartbeat_step leader state to entry keys f

  commit_step : (leader : Leadership K N C) (old new : RaftStateIn K N I L C) (upto : Option (LogIdOf C)) → Keeps logs old new
      → Commits ids.eq logs leader old new upto → CommitIsStep D ids node_eq kind logs leader old new
  commit_step leader old new upto keeps call c s w v at leads counts true_matches =
      steps c s w v old new _ _ at keeps
      (OneCommit (record {
        leader = leader;
        leads = leads;
        counts = subst (λ (a : RaftStateIn K N I L C). CountsByEffective leader a) (sym at.before) counts;
        true_matches = true_matches;
        upto = upto;
        call = both (λ (a b : RaftStateIn K N I L C). Commits ids.eq logs leader a b upto) old new (w.servers s) (v.servers s)
            at.before at.after call;
        campaign = at.has_campaign;
        sends = at.sent;
      }))

  pub commit_steps : (leader : Leadership K N C) (old new : RaftStateIn K N I L C) → Keeps logs old new
      → {F : Type 0} (r : Result (Option (LogIdOf C)) F) → IfOk r (Commits ids.eq logs leader old new)
      → IfOk r (λ _. CommitIsStep D ids node_eq kind logs leader old new)
  commit_steps leader old new keeps (Ok upto) call = commit_step leader old new upto keeps call
  commit_steps leader old new keeps (Err e) call = tt

  pub restart_step : (vote : VoteIn L) (meta : SnapshotMetaOf C K N) (stored : List (EntryOf C K N D)) (known : Option (LogIdOf C))
      (new : RaftStateIn K N I L C) → IsSound logs.eq logs.cmp new → may_be_keys logs.cmp new.log_ids ≡ true → vote_of new ≡ vote
      → Restores logs ids.eq node_eq meta stored known new
      → RestartIsStep D ids node_eq kind logs vote meta stored known new
  restart_step vote meta stored known new sound keys voted call c s w v at same disk written built no_more =
      steps c s w v (w.servers s) new _ _ at (record { sound = λ _. sound; keys = keys })
      (OneRestart (record {
        meta = meta;
        stored = stored;
        known = known;
        disk = disk;
        written = written;
        built = built;
        same_vote = ap vote_of at.after ∙ voted ∙ same;
        call = subst (λ (b : RaftStateIn K N I L C). Restores logs ids.eq node_eq meta stored known b) (sym at.after) call;
        no_more = no_more;
        campaign = at.has_campaign;
        sends = at.sent;
      }))

-- a count changes nothing but who has voted
module _ {K N L C : Type 0} (eq : K → K → Bool) (old new : Campaign K N L C) (from : K) (grants : Bool)
    (counts : grants ≡ true → CountsVoteOf eq from old new) (ignored : grants ≡ false → new ≡ old) where
  pub count_rest : new ≡ record old { votes = new.votes }
  count_rest = by grants refl
    where
      by : (b : Bool) → grants ≡ b → new ≡ record old { votes = new.votes }
      by true e = (counts e).rest
      by false e = subst (λ (x : Campaign K N L C). x ≡ record old { votes = x.votes }) (sym (ignored e)) refl
