-- A run of servers is a run of their views, so it is safe.
use Rattle.std.specs.Prelude.{◌≡◌, ◌⊎◌, ◌<◌, ◌+◌, ℕ, suc, Bool, true, false, ◌&&◌, ◌||◌, List, [], ◌∷◌, ◌++◌, map, max, Option, Some, None, if◌then◌else◌, ◌≤◌, ◌-◌, ◌==◌, zero, drop, length, nat_eq, nat_lt, not}
use Rattle.std.specs.Option.{option_eq, option_map_or, option_map, option_or}
use Rattle.std.specs.Ordering.{partial_ge}
use Rattle.std.proofs.Common.{refl, sym, ap, subst, ◌∙◌, inl, inr, arith, true≢false}
use Rattle.std.proofs.lemmas.Bool.{and_parts, false≢true}
use mathlib.Core.Bool.{beq}
use Rattle.raft_base.specs.LogId.{id_le, id_lt, next_index, index_of, same_ids}
use Rattle.raft_base.specs.LogIdLawful.{optional-log_id_cmp-total}
use Rattle.raft_base.specs.UTime.{moment_of, utime_of}
use Rattle.raft_base.specs.Vote.{vote_cmp}
use Rattle.raft_base.specs.declared.log_id.LogIdOf.{LogIdOf}
use Rattle.raft_base.specs.declared.vote.VoteIn.{VoteIn}
use Rattle.steps_handlers.specs.Append.{Answers, IfHigherVote, entries_to_append, greater_id, has_entry, last_id_of_request, lesser_id}
use Rattle.steps_handlers.specs.Campaign.{Campaign, has_vote_of, is_counted}
use Rattle.steps_handlers.specs.Compared.{LeaderMembers, compared}
use Rattle.steps_handlers.specs.Entries.{entry_ids, effective_before, ends_before, has_memberships_in_order}
use Rattle.steps_handlers.specs.Follow.{committed_vote_of, heard, is_followed}
use Rattle.steps_handlers.specs.Leadership.{Commits, Leadership, MajorityMatches, entry_of, granted_by, is_commit_due, is_of_leader}
use Rattle.steps_handlers.specs.Responses.{SendsNext}
use Rattle.steps_handlers.specs.Snapshot.{AnswersSnapshot}
use Rattle.steps_handlers.specs.declared.message.InstallSnapshot.{InstallSnapshot}
use Rattle.steps_handlers.specs.declared.message.Outcome.{Outcome}
use Rattle.steps_handlers.specs.declared.message.Outcome.TheVariants.{Conflict, HigherVote, Matches}
use Rattle.raft_members.specs.quorum.Majority.{is_joint_majority, is_voter_of}
use Rattle.raft_progress.specs.progress.Comparisons.{OrdMembers}
use Rattle.raft_progress.proofs.lemmas.OrderLemmas.{AtMost-refl}
use Rattle.raft_progress.specs.declared.entry.ProgressEntryOf.{ProgressEntryOf}
use Rattle.raft_progress.specs.declared.inflight.InflightOf.{InflightOf}
use Rattle.raft_progress.specs.declared.inflight.InflightOf.TheVariants.{None as Idle, Logs, Snapshot}
use Rattle.safety_laws.specs.Ranks.{IsAmong, rank_in}
use Rattle.safety_laws.proofs.lemmas.JointLemmas.{itself_intersects, coherent_intersect}
use Rattle.raft_state.specs.SnapshotMeta.{IsSnapshotCopy}
use Rattle.raft_state.specs.log_id_list.FullLog.{full_log, first_index}
use Rattle.raft_state.specs.log_id_list.Keys.{may_be_keys}
use Rattle.raft_state.specs.log_id_list.LogEdits.{log_after_purge}
use Rattle.raft_state.specs.log_id_list.LogReads.{id_at, last_id, first_id}
use Rattle.raft_state.specs.raft_state.Sound.{IsSound}
use Rattle.raft_state.specs.membership_state.MembershipMoves.{after_commit, after_append, after_update_committed, is_covered, is_effective_committed, may_commit}
use Rattle.raft_state.specs.raft_state.Valid.{none_or_logged, fits_purged_next}
use Rattle.raft_state.specs.raft_state.VoteAndLog.{log_view_of, vote_of}
use Rattle.raft_state.specs.declared.entry.EntryOf.{EntryOf}
use Rattle.raft_state.specs.declared.raft_state.RaftStateIn.{RaftStateIn}
use Rattle.raft_state.proofs.lemmas.log_id_list.ExtendLemmas.{is_key_list}
use Rattle.raft_state.proofs.lemmas.log_id_list.SameLogLemmas.{says_same}
use Rattle.steps_safety.specs.Disk.{disk_ids}
use Rattle.steps_safety.specs.Electing.{match_of}
use Rattle.steps_safety.specs.Running.{AnswersCandidate, AnswersLeader, AnswersSnapshotOf, Answered, Cluster, Carries, ChangesElse, CommitsGranted, CommittedAgree, CountsVote, DoesOne, EntriesSent, HearsVote, IsCluster, IsElectedLeader, IsFirst, IsRun, Leads, Message, OneAppend, OneCampaign, OneCommit, OneCount, OneElection, OneElse, OneHearing, OneHeartbeat, OneProposal, OnePurge, OneRestart, OneSend, OneSendSnapshot, OneSnapshot, OneVote, Proposes, Purges, Restarts, RunsAreSafe, SendsEntries, SendsHeartbeat, SendsSnapshot, SnapshotSent, StartsCampaign, Step, VoteAnswered, VoteAsked, World, vote_in, BuildsSnapshot, Built, CommittedMembersAgree, Counted, CountsTrueMatches, IsInitial, OneBuild, OneChange, ProposesMembers, WasWritten, Written, in_effect_at}
use Rattle.steps_safety.specs.Seen.{leaders_of, seen}
use Rattle.steps_safety.proofs.AppendingLemmas.{index_found}
use Rattle.steps_safety.proofs.LawLemmas.{AreExact, Laws, are_ranked, from_map, has_node, in_terms, not_first, one_term, ranks, cmp_one}
use Rattle.steps_safety.proofs.PlaceLemmas.{beq_is, greater_leader, is_due, same_logs, same_state, same_votes, some_same}
use Rattle.steps_safety.proofs.RunningLemmas.{runs_are_safe}
use Rattle.steps_safety.proofs.SeenLemmas.{committed_found, conflicts_seen, exact_found, followed_if, installs_seen, matches_seen, not_higher, purge_keeps, sound_is_whole, effective_within, fresh_ids, installs_members, known_members, known_snapshot, members_sorted, same_row, snapshot_fits, snapshot_keeps}
use Rattle.steps_safety.proofs.SendingLemmas.{before_in, sent_in_log}
use Rattle.steps_safety.proofs.Stepping.{IsSeenCluster, SeenCluster, at_server}
use Rattle.steps_safety.proofs.Views.{IsSeenFirst, IsSeenRun, SeenAsked, SeenDoes, SeenMatched, SeenMessage, SeenPromised, SeenSent, SeenSnapshot, SeenStep, SeenVoted, SeenWorld, SeesCampaign, SeesCommit, SeesConflict, SeesElection, SeesHearing, SeesIdle, SeesMatch, SeesPurge, SeesRefusal, SeesRestart, SeesSend, SeesSendSnapshot, SeesSnapshot, SeesVote, SeesWrite, AfterUpdate, Counts, Leads as SeenLeads, MayChange, MaySettle, MembersAgree, SeenAgree, SeenBuilt, SeenCounts, SeenWrote, SeesBuild, StartsAt, after_fresh}
use Rattle.std.specs.Cmp.Lexicographic.{pointwise}
use Rattle.std.specs.List.{prefix_len}
use Rattle.std.proofs.lemmas.Bool.Decides.{nat_tests}
use Rattle.raft_base.specs.LogIndex.{index_le, index_lt}
use Rattle.raft_members.specs.declared.membership.stored.StoredMembershipOf.{StoredMembershipOf}
use Rattle.raft_members.specs.membership.Members.{MemberList, same_members}
use Rattle.raft_members.specs.membership.Stored.{log_id_of, membership_of}
use Rattle.raft_members.specs.quorum.Coherence.{is_coherent}
use Rattle.raft_state.proofs.lemmas.log_id_list.FrontLemmas.{from_first}
use Rattle.raft_state.proofs.lemmas.log_id_list.KeyListLemmas.{IsKeyList}
use Rattle.raft_state.proofs.lemmas.log_id_list.OrderLemmas.{From}
use Rattle.raft_state.proofs.lemmas.sound.SoundCalls.{members_in_order}
use Rattle.raft_state.proofs.lemmas.validate.RelationLemmas.{all_hold}
use Rattle.raft_state.specs.declared.entry.payload.EntryPayload.{EntryPayload}
use Rattle.raft_state.specs.declared.entry.payload.EntryPayload.TheVariants.{Blank, Membership, Normal}
use Rattle.raft_state.specs.declared.snapshot_meta.SnapshotMetaOf.{SnapshotMetaOf}
use Rattle.raft_state.specs.entry.Entry.{payload_membership}
use Rattle.raft_state.specs.membership_state.Memberships.{Memberships, in_effect, index_at}
use Rattle.raft_state.specs.raft_state.Appended.{IsStoredBy, are_consecutive as are_in_row}
use Rattle.raft_state.specs.raft_state.Install.{is_logged, is_not_above, is_not_past, memberships_after_install}
use Rattle.safety_laws.specs.Configs.{QuorumsIntersect}
use Rattle.safety_laws.specs.Events.{History}
use Rattle.steps_handlers.specs.Changes.{StoresMembership}
use Rattle.steps_handlers.specs.Proposals.{AppendsOwn, next_own_id}
use Rattle.steps_handlers.specs.Restart.{entries_past, snapshot_ids}
use Rattle.steps_safety.proofs.Calls.{IsInstalled, are_consecutive, fresh_of}
use Rattle.steps_safety.proofs.GreatestLemmas.{granted_is_match}
use Rattle.steps_safety.proofs.Members.{after_cut, after_ids, after_member, both_are}
use Rattle.steps_safety.proofs.MoveLemmas.{AreNamed, Named, commit_seen as commit_settles, members_seen, named_append, named_both, named_commit, named_cut, named_some, named_update, seen_at, seen_configs}
use Rattle.steps_safety.proofs.OrderLemmas.{are_ordered, is_order, no_cycle}
use Rattle.steps_safety.proofs.RestoredLemmas.{restart_named, restart_seen as restart_settles, start_of}
use Rattle.steps_safety.proofs.TakenLemmas.{append_named, append_seen as append_settles, below_seen, held_in, install_seen}

-- ---- what is seen of messages

among_first : {X : Type 0} (x : X) (xs ys : List X) → IsAmong x xs → IsAmong x (xs ++ ys)
among_first x [] ys none = absurd none
among_first x (y ∷ xs) ys (inl e) = inl e
among_first x (y ∷ xs) ys (inr a) = inr (among_first x xs ys a)

among_second : {X : Type 0} (x : X) (xs ys : List X) → IsAmong x ys → IsAmong x (xs ++ ys)
among_second x [] ys a = a
among_second x (y ∷ xs) ys a = inr (among_second x xs ys a)

among_mapped : {X Y : Type 0} (f : X → Y) (x : X) (xs : List X) → IsAmong x xs → IsAmong (f x) (map f xs)
among_mapped f x [] none = absurd none
among_mapped f x (y ∷ ys) (inl e) = inl (ap f e)
among_mapped f x (y ∷ ys) (inr a) = inr (among_mapped f x ys a)

abbrev pub seen_snapshot : {K N L C : Type 0} → List (List K) → L → StoredMembershipOf C K N → Option (LogIdOf C)
    → List (SeenMessage L C K (List (List K)))
seen_snapshot initial leader m None = []
seen_snapshot initial leader m (Some upto) =
    SeenSnapshot leader upto (seen_at (log_id_of m)) (seen_configs initial (log_id_of m) (membership_of m).configs) ∷ []

abbrev pub seen_answer : {K L C : Type 0} → K → L → Outcome L C → List (SeenMessage L C K (List (List K)))
seen_answer from leader (Matches upto) = SeenMatched from leader upto ∷ []
seen_answer from leader (Conflict at last) = []
seen_answer from leader (HigherVote vote) = SeenPromised vote ∷ []

-- the configs that the first of these entries with an index holds
abbrev pub holds_at : {K N C D : Type 0} → List (EntryOf C K N D) → ℕ → Option (List (List K))
holds_at [] i = None
holds_at (e ∷ es) i = if nat_eq e.log_id.index i then held_in e else holds_at es i

abbrev pub holds_of : {K N C D : Type 0} → List (EntryOf C K N D) → LogIdOf C → Option (List (List K))
holds_of es id = holds_at es id.index

-- what matters of a message
abbrev pub seen_message : {K N L C D : Type 0} → List (List K) → Message K N L C D → List (SeenMessage L C K (List (List K)))
seen_message initial (VoteAsked r) = SeenAsked r.vote r.last_log_id ∷ []
seen_message initial (VoteAnswered from r) = SeenPromised r.vote ∷ (if r.granted then SeenVoted from r.vote ∷ [] else [])
seen_message initial (EntriesSent r) =
    SeenSent r.leader_id r.prev (entry_ids r.entries.items) r.committed (holds_of r.entries.items) ∷ []
seen_message initial (SnapshotSent r) = seen_snapshot initial r.leader_id r.meta.last_membership r.meta.last_log_id
seen_message initial (Answered from leader o) = seen_answer from leader o
seen_message initial (Counted leader configs) = SeenCounts leader configs ∷ []
seen_message initial (Written e) = SeenWrote e.log_id (held_in e) ∷ []
seen_message initial (Built upto at configs) = SeenBuilt upto (seen_at at) (seen_configs initial at configs) ∷ []

abbrev pub seen_network : {K N L C D : Type 0} → List (List K) → List (Message K N L C D)
    → List (SeenMessage L C K (List (List K)))
seen_network initial [] = []
seen_network initial (m ∷ ms) = seen_message initial m ++ seen_network initial ms

in_network : {K N L C D : Type 0} (initial : List (List K)) (m : Message K N L C D) (x : SeenMessage L C K (List (List K)))
    (ms : List (Message K N L C D)) → IsAmong m ms → IsAmong x (seen_message initial m) → IsAmong x (seen_network initial ms)
in_network initial m x [] none has = absurd none
in_network initial m x (y ∷ ms) (inl e) has =
    among_first x (seen_message initial y) (seen_network initial ms)
    (subst (λ (z : Message _ _ _ _ _). IsAmong x (seen_message initial z)) e has)
in_network initial m x (y ∷ ms) (inr a) has =
    among_second x (seen_message initial y) (seen_network initial ms) (in_network initial m x ms a has)

-- the view of a world
abbrev pub world_seen : {K N I L C D : Type 0} → List (List K) → World K N I L C D → SeenWorld L C K (List (List K))
world_seen initial w = record {
  servers = λ r. seen (w.servers r);
  members = λ r. members_seen initial (w.servers r).membership_state;
  network = seen_network initial w.network;
}

-- what is fixed of the views: the content of an entry is the configs that it holds
abbrev pub viewed : {K N L C : Type 0} → OrdMembers K → (N → N → Bool) → LeaderMembers L K C → OrdMembers C → Cluster K L
    → SeenCluster L C K (Option (List (List K))) (List (List K))
viewed ids node_eq kind logs c = record {
  kind = leaders_of (compared ids node_eq kind logs);
  rank = rank_in logs.cmp (map kind.committed (c.start ∷ c.leaders));
  config_of = λ d. d;
  initial = c.initial;
  quorum_of = is_joint_majority ids.eq;
  leaders = c.start ∷ c.leaders;
  terms = map kind.committed (c.start ∷ c.leaders);
  first = kind.committed c.start;
  same_node = ids.eq;
}

is_viewed : {K N L C : Type 0} {ids : OrdMembers K} (node_eq : N → N → Bool) {kind : LeaderMembers L K C} {logs : OrdMembers C}
    → Laws ids kind logs → AreExact ids kind logs → (c : Cluster K L) → IsCluster kind c
    → IsSeenCluster (viewed ids node_eq kind logs c)
is_viewed node_eq laws exact c is_cluster = record {
  ranked = are_ranked laws exact c is_cluster;
  in_terms = in_terms laws exact c is_cluster;
  distinct = (ranks laws exact c is_cluster).one;
  one_term = one_term laws;
  has_node = has_node laws exact c is_cluster;
  nodes = exact.nodes;
  node_itself = laws.ids_equal.refl;
  intersects = itself_intersects laws.ids_equal exact.nodes c.initial is_cluster.has_config;
}

-- ---- what entries hold

module _ {K N C D : Type 0} where
  -- in a row of entries each holds what is held at its index
  row_holds : (o : Option (LogIdOf C)) (es : List (EntryOf C K N D)) → are_consecutive o (entry_ids es) ≡ true
      → (e : EntryOf C K N D) → IsAmong e es → (next_index o ≤ e.log_id.index) × (holds_of es e.log_id ≡ held_in e)
  row_holds o [] row e none = absurd none
  row_holds o (x ∷ xs) row e among =
      by (and_parts (nat_eq x.log_id.index (next_index o)) (are_consecutive (Some x.log_id) (entry_ids xs)) row)
      (λ row_on a. row_holds (Some x.log_id) xs row_on e a) among
    where
      by : (nat_eq x.log_id.index (next_index o) ≡ true) × (are_consecutive (Some x.log_id) (entry_ids xs) ≡ true)
          → (are_consecutive (Some x.log_id) (entry_ids xs) ≡ true → IsAmong e xs
          → (next_index (Some x.log_id) ≤ e.log_id.index) × (holds_of xs e.log_id ≡ held_in e)) → IsAmong e (x ∷ xs)
          → (next_index o ≤ e.log_id.index) × (holds_of (x ∷ xs) e.log_id ≡ held_in e)
      by d rest (inl same) =
          let d0 = d.0 in
          let i : e.log_id.index ≡ x.log_id.index = ap (λ (y : EntryOf C K N D). y.log_id.index) same in
          let first : x.log_id.index ≡ next_index o = grind (arith, nat_tests) in
          let t : nat_eq x.log_id.index e.log_id.index ≡ true = grind (arith, nat_tests) in
          (omega (arith, i, first), rw t (ap held_in (sym same)))
      by d rest (inr later) =
          let d0 = d.0 in
          let r = rest d.1 later in
          let low = r.0 in
          let first : x.log_id.index ≡ next_index o = grind (arith, nat_tests) in
          let past : x.log_id.index < e.log_id.index = omega (arith, low) in
          let t : nat_eq x.log_id.index e.log_id.index ≡ false = grind (arith, nat_tests) in
          (omega (arith, first, past), rw t r.1)

  -- what is held at the index of an entry is what an entry there holds
  some_holds : (es : List (EntryOf C K N D)) (e : EntryOf C K N D) → IsAmong e es
      → (x : EntryOf C K N D) × IsAmong x es × (x.log_id.index ≡ e.log_id.index) × (holds_of es e.log_id ≡ held_in x)
  some_holds [] e none = absurd none
  some_holds (x ∷ xs) e among = by (nat_eq x.log_id.index e.log_id.index) refl (some_holds xs e) among
    where
      by : (b : Bool) → nat_eq x.log_id.index e.log_id.index ≡ b → (IsAmong e xs → (y : EntryOf C K N D) × IsAmong y xs
          × (y.log_id.index ≡ e.log_id.index) × (holds_of xs e.log_id ≡ held_in y)) → IsAmong e (x ∷ xs)
          → (y : EntryOf C K N D) × IsAmong y (x ∷ xs) × (y.log_id.index ≡ e.log_id.index)
          × (holds_of (x ∷ xs) e.log_id ≡ held_in y)
      by true t rest a = (x, inl refl, (let i : x.log_id.index ≡ e.log_id.index = grind (arith, nat_tests) in i), rw t refl)
      by false t rest (inl same) =
          let i : e.log_id.index ≡ x.log_id.index = ap (λ (y : EntryOf C K N D). y.log_id.index) same in
          absurd (grind (arith, nat_tests))
      by false t rest (inr a) = let r = rest a in (r.0, inr r.1, r.2, rw t r.3)

  -- the first entries of a list that pass a test are left out
  drop_among : (n : ℕ) (es : List (EntryOf C K N D)) (e : EntryOf C K N D) → IsAmong e (drop n es) → IsAmong e es
  drop_among n [] e a = dropped n a
    where
      dropped : (n : ℕ) → IsAmong e (drop n []) → IsAmong e []
      dropped zero a = a
      dropped (suc n) a = a
  drop_among zero (x ∷ xs) e a = a
  drop_among (suc n) (x ∷ xs) e a = inr (drop_among n xs e a)

-- equal memberships have the same configs
same_configs : {K N : Type 0} {eq : K → K → Bool} (same : N → N → Bool) → ((x y : K) → eq x y ≡ true → x ≡ y)
    → (x y : MemberList K N) → same_members eq same x y ≡ true → y.configs ≡ x.configs
same_configs {K} {N} {eq} same exact x y h =
    sym (alike (pointwise eq) one x.configs y.configs (and_parts (pointwise (pointwise eq) x.configs y.configs) _ h).0)
  where
    alike : {A : Type 0} (test : A → A → Bool) → ((a b : A) → test a b ≡ true → a ≡ b) → (xs ys : List A)
        → pointwise test xs ys ≡ true → xs ≡ ys
    alike test f [] [] h = refl
    alike test f [] (y ∷ ys) h = cc
    alike test f (x ∷ xs) [] h = cc
    alike {A} test f (x ∷ xs) (y ∷ ys) h =
        let d = and_parts (test x y) (pointwise test xs ys) h in
        let a : x ≡ y = f x y d.0 in
        let b : xs ≡ ys = alike test f xs ys d.1 in
        λ i. a i ∷ b i

    one : (a b : List K) → pointwise eq a b ≡ true → a ≡ b
    one a b h = alike eq exact a b h

-- ---- runs of views

-- what is known of a message: a membership that no entry holds has no configs
abbrev NamedMessage : {K N L C D : Type 0} → Message K N L C D → Type 0
NamedMessage (VoteAsked r) = Unit {0}
NamedMessage (VoteAnswered from r) = Unit {0}
NamedMessage (EntriesSent r) = Unit {0}
NamedMessage (SnapshotSent r) = Named r.meta.last_membership
NamedMessage (Answered from leader o) = Unit {0}
NamedMessage (Counted leader configs) = Unit {0}
NamedMessage (Written e) = Unit {0}
NamedMessage (Built upto at configs) = at ≡ None → configs ≡ []

module _ {K N I L C D : Type 0} {ids : OrdMembers K} (node_eq : N → N → Bool) {kind : LeaderMembers L K C} {logs : OrdMembers C}
    (laws : Laws ids kind logs) (exact : AreExact ids kind logs) (c : Cluster K L) (is_cluster : IsCluster kind c) where
  -- a campaign of a server: its votes are its own, or were answered to it
  record IsCampaign (w : World K N I L C D) (s : K) (x : Campaign K N L C) : Type 0 where
    node : kind.voted x.vote.leader_id ≡ Some s
    term : 0 < kind.term_of x.vote.leader_id
    uncommitted : x.vote.committed ≡ false
    counts : IsAmong (SeenCounts x.vote.leader_id x.votes.membership.configs) (seen_network c.initial w.network)
    votes : (r : K) → has_vote_of ids.eq x r ≡ true → (r ≡ s) ⊎ IsAmong (SeenVoted r x.vote) (seen_network c.initial w.network)

  -- what every step keeps
  record Holds (w : World K N I L C D) : Type 0 where
    sound : (s : K) → IsSound logs.eq logs.cmp (w.servers s)
    keys : (s : K) → may_be_keys logs.cmp (w.servers s).log_ids ≡ true
    campaign : (s : K) (x : Campaign K N L C) → w.campaigns s ≡ Some x → IsCampaign w s x
    named : (s : K) → AreNamed (w.servers s).membership_state
    messages : (m : Message K N L C D) → IsAmong m w.network → NamedMessage m

  abbrev Grows : World K N I L C D → World K N I L C D → Type 0
  Grows w v = (x : SeenMessage L C K (List (List K))) → IsAmong x (seen_network c.initial w.network)
      → IsAmong x (seen_network c.initial v.network)

  campaign_grows : (w v : World K N I L C D) → Grows w v → (s : K) (x : Campaign K N L C) → IsCampaign w s x → IsCampaign v s x
  campaign_grows w v grows s x is = record {
    node = is.node;
    term = is.term;
    uncommitted = is.uncommitted;
    counts = grows (SeenCounts x.vote.leader_id x.votes.membership.configs) is.counts;
    votes = λ r yes. by r (is.votes r yes);
  }
    where
      by : (r : K) → (r ≡ s) ⊎ IsAmong (SeenVoted r x.vote) (seen_network c.initial w.network)
          → (r ≡ s) ⊎ IsAmong (SeenVoted r x.vote) (seen_network c.initial v.network)
      by r (inl own) = inl own
      by r (inr among) = inr (grows (SeenVoted r x.vote) among)

  -- what a step of a server is, of views
  record IsSeenStep (s : K) (w v : World K N I L C D) : Type 0 where
    does : SeenDoes (viewed ids node_eq kind logs c) s (world_seen c.initial w) (world_seen c.initial v)
    grows : Grows w v
    campaign : (x : Campaign K N L C) → v.campaigns s ≡ Some x → IsCampaign v s x
    named : AreNamed (v.servers s).membership_state
    messages : (m : Message K N L C D) → IsAmong m v.network → NamedMessage m

  module _ (s : K) (w v : World K N I L C D) (holds : Holds w) (sound' : IsSound logs.eq logs.cmp (v.servers s))
      (keys' : may_be_keys logs.cmp (v.servers s).log_ids ≡ true) where
    none_sent : v.network ≡ w.network → Grows w v
    none_sent e x among = subst (λ (ms : List (Message K N L C D)). IsAmong x (seen_network c.initial ms)) (sym e) among

    one_sent : (m : Message K N L C D) → v.network ≡ m ∷ w.network → Grows w v
    one_sent m e x among =
        subst (λ (ms : List (Message K N L C D)). IsAmong x (seen_network c.initial ms)) (sym e)
        (among_second x (seen_message c.initial m) (seen_network c.initial w.network) among)

    abbrev Ms : Type 0
    Ms = (m : Message K N L C D) → IsAmong m v.network → NamedMessage m

    no_messages : v.network ≡ w.network → Ms
    no_messages e m among =
        holds.messages m (subst (λ (ms : List (Message K N L C D)). IsAmong m ms) e among)

    one_message : (x : Message K N L C D) → v.network ≡ x ∷ w.network → NamedMessage x → Ms
    one_message x e is m among = by (subst (λ (ms : List (Message K N L C D)). IsAmong m ms) e among)
      where
        by : IsAmong m (x ∷ w.network) → NamedMessage m
        by (inl same) = subst (λ (y : Message K N L C D). NamedMessage y) (sym same) is
        by (inr before) = holds.messages m before

    -- the memberships are as they were
    same_members_seen : (v.servers s).membership_state ≡ (w.servers s).membership_state
        → members_seen c.initial (v.servers s).membership_state ≡ members_seen c.initial (w.servers s).membership_state
    same_members_seen e = ap (members_seen c.initial) e

    same_named : (v.servers s).membership_state ≡ (w.servers s).membership_state → AreNamed (v.servers s).membership_state
    same_named e = subst (λ (m : Memberships C K N). AreNamed m) (sym e) (holds.named s)

    same_campaign : v.campaigns s ≡ w.campaigns s → Grows w v → (x : Campaign K N L C) → v.campaigns s ≡ Some x → IsCampaign v s x
    same_campaign e grows x at = campaign_grows w v grows s x (holds.campaign s x (sym e ∙ at))

    idle : seen (v.servers s) ≡ seen (w.servers s) → (v.servers s).membership_state ≡ (w.servers s).membership_state
        → seen_network c.initial v.network ≡ seen_network c.initial w.network
        → SeenDoes (viewed ids node_eq kind logs c) s (world_seen c.initial w) (world_seen c.initial v)
    idle same kept sends = SeesIdle (record { call = same; sends = sends; members = same_members_seen kept })

    -- ---- requests

    vote_seen : AnswersCandidate ids node_eq kind logs c s w v → IsSeenStep s w v
    vote_seen d = record {
      does = SeesVote (record {
        vote = d.request.vote;
        last = d.request.last_log_id;
        granted = d.response.granted;
        message = in_network c.initial (VoteAsked d.request) (SeenAsked d.request.vote d.request.last_log_id) w.network d.message
            (inl refl);
        other = d.other;
        call = λ h. record {
          is_granted = d.call.granted;
          taken = λ yes. ap seen (d.call.taken yes);
          refused = λ no. ap seen (d.call.refused no);
        };
        sends = ap (seen_network c.initial) d.sends
            ∙ ap (λ (ms : List (SeenMessage L C K (List (List K)))). SeenPromised d.response.vote ∷ ms) (sent d.response.granted refl)
            ∙ ap (λ (x : VoteIn L). SeenPromised x ∷ (if d.response.granted
            then SeenVoted s d.request.vote ∷ seen_network c.initial w.network else seen_network c.initial w.network)) d.call.answer;
        members = same_members_seen (kept d.response.granted refl);
      });
      grows = one_sent (VoteAnswered s d.response) d.sends;
      campaign = same_campaign d.campaign (one_sent (VoteAnswered s d.response) d.sends);
      named = same_named (kept d.response.granted refl);
      messages = one_message (VoteAnswered s d.response) d.sends tt;
    }
      where
        kept : (b : Bool) → d.response.granted ≡ b → (v.servers s).membership_state ≡ (w.servers s).membership_state
        kept true e = ap (λ (x : RaftStateIn K N I L C). x.membership_state) (d.call.taken e)
        kept false e = ap (λ (x : RaftStateIn K N I L C). x.membership_state) (d.call.refused e)

        sent : (b : Bool) → d.response.granted ≡ b
            → (if b then SeenVoted s d.response.vote ∷ [] else []) ++ seen_network c.initial w.network
            ≡ (if b then SeenVoted s d.request.vote ∷ seen_network c.initial w.network else seen_network c.initial w.network)
        sent true e =
            let same : d.response.vote ≡ d.request.vote = d.call.answer ∙ ap vote_of (d.call.taken e) in
            ap (λ (x : VoteIn L). SeenVoted s x ∷ seen_network c.initial w.network) same
        sent false e = refl

    append_seen : AnswersLeader ids node_eq kind logs c s w v → IsSeenStep s w v
    append_seen d = record {
      does = by d.outcome refl;
      grows = one_sent (Answered s d.request.leader_id d.outcome) d.sends;
      campaign = same_campaign d.campaign (one_sent (Answered s d.request.leader_id d.outcome) d.sends);
      named = still_named d.outcome d.answers;
      messages = one_message (Answered s d.request.leader_id d.outcome) d.sends tt;
    }
      where
        are : IsKeyList logs.cmp (w.servers s).log_ids
        are = is_key_list logs.cmp (w.servers s).log_ids (holds.keys s)

        within : index_le (index_at (w.servers s).membership_state.effective) (index_of (last_id (full_log (w.servers s).log_ids)))
            ≡ true
        within = effective_within logs.cmp logs.eq (w.servers s) are (holds.sound s)

        still_named : (o : Outcome L C) → Answers logs ids.eq node_eq d.request o (w.servers s) (v.servers s)
            → AreNamed (v.servers s).membership_state
        still_named (Matches upto) a =
            append_named c.initial logs.cmp ids.eq node_eq (w.servers s)
            (entries_to_append logs.eq (w.servers s) d.request.entries.items) _ (v.servers s).membership_state a.1.memberships
            (holds.named s)
        still_named (Conflict at last) a =
            subst (λ (m : Memberships C K N). AreNamed m) (sym a.0.memberships)
            (named_cut (ends_before at (w.servers s)) at (w.servers s).membership_state (holds.named s))
        still_named (HigherVote vote) a = same_named (ap (λ (x : RaftStateIn K N I L C). x.membership_state) a.1)

        settles : (upto : Option (LogIdOf C)) → Answers logs ids.eq node_eq d.request (Matches upto) (w.servers s) (v.servers s)
            → ((x : LogIdOf C) (xs : List (LogIdOf C))
            → fresh_of logs.eq (seen (w.servers s)) (entry_ids d.request.entries.items) ≡ x ∷ xs → x.index ≡ 0
            → last_id (full_log (w.servers s).log_ids) ≡ None) → MaySettle (next_index (v.servers s).committed)
            (after_fresh (holds_of d.request.entries.items) (fresh_of logs.eq (seen (w.servers s)) (entry_ids d.request.entries.items))
            (members_seen c.initial (w.servers s).membership_state)) (members_seen c.initial (v.servers s).membership_state)
        settles upto a first =
            let took = a.1 in
            let new = entries_to_append logs.eq (w.servers s) d.request.entries.items in
            let fresh = fresh_ids logs.eq (w.servers s) d.request.entries.items in
            let row = (and_parts _ (are_in_row d.request.prev (entry_ids d.request.entries.items)) took.in_order).1 in
            rw (fresh, took.committed)
            (append_settles c.initial logs.cmp ids.eq node_eq (w.servers s) new
            (lesser_id logs.cmp d.request.committed (last_id_of_request d.request.prev d.request.entries.items))
            (v.servers s).membership_state took.memberships (holds_of d.request.entries.items)
            (λ e among. (row_holds d.request.prev d.request.entries.items
            (same_row d.request.prev (entry_ids d.request.entries.items) row) e
            (drop_among (prefix_len (has_entry logs.eq (w.servers s)) d.request.entries.items) d.request.entries.items e among)).1)
            (and_parts (has_memberships_in_order logs.cmp (effective_before new (w.servers s)) new) _ took.allowed).1 within
            (λ e es is zero_at. first e.log_id (entry_ids es) (fresh ∙ ap entry_ids is) zero_at))

        sent : (o : Outcome L C) → d.outcome ≡ o
            → seen_network c.initial v.network ≡ seen_answer s d.request.leader_id o ++ seen_network c.initial w.network
        sent o e =
            ap (seen_network c.initial) d.sends
            ∙ ap (λ (x : Outcome L C). seen_answer s d.request.leader_id x ++ seen_network c.initial w.network) e

        answers : (o : Outcome L C) → d.outcome ≡ o → Answers logs ids.eq node_eq d.request o (w.servers s) (v.servers s)
        answers o e = subst (λ (x : Outcome L C). Answers logs ids.eq node_eq d.request x (w.servers s) (v.servers s)) e d.answers

        followed : (o : Outcome L C) → d.outcome ≡ o → ((x : VoteIn L) → o ≡ HigherVote x → ⊥)
            → is_followed kind.order d.request.leader_id (w.servers s) ≡ true
        followed o e apart =
            followed_if (is_followed kind.order d.request.leader_id (w.servers s)) o (vote_of (w.servers s))
            (λ no. sym e ∙ d.not_followed no) apart

        by : (o : Outcome L C) → d.outcome ≡ o → SeenDoes (viewed ids node_eq kind logs c) s (world_seen c.initial w)
            (world_seen c.initial v)
        by (Matches upto) e = SeesMatch (record {
          leader = d.request.leader_id;
          prev = d.request.prev;
          ids = entry_ids d.request.entries.items;
          committed = d.request.committed;
          upto = upto;
          message = in_network c.initial (EntriesSent d.request)
              (SeenSent d.request.leader_id d.request.prev (entry_ids d.request.entries.items) d.request.committed
              (holds_of d.request.entries.items)) w.network d.message (inl refl);
          holds = holds_of d.request.entries.items;
          other = d.other;
          whole = sound_is_whole logs.cmp logs.eq (w.servers s) (is_key_list logs.cmp (w.servers s).log_ids (holds.keys s)) (holds.sound s);
          whole_after = sound_is_whole logs.cmp logs.eq (v.servers s) (is_key_list logs.cmp (v.servers s).log_ids keys') sound';
          call = λ h. matches_seen ids node_eq kind logs _ (w.servers s) (v.servers s) d.request.leader_id d.request refl d.vote d.purged
              (followed (Matches upto) e (λ x f. not_higher (Matches upto) x refl f)) upto (answers (Matches upto) e);
          sends = sent (Matches upto) e;
          members = settles upto (answers (Matches upto) e);
        })
        by (Conflict at last) e = SeesConflict (record {
          leader = d.request.leader_id;
          prev = d.request.prev;
          ids = entry_ids d.request.entries.items;
          committed = d.request.committed;
          at = at;
          message = in_network c.initial (EntriesSent d.request)
              (SeenSent d.request.leader_id d.request.prev (entry_ids d.request.entries.items) d.request.committed
              (holds_of d.request.entries.items)) w.network d.message (inl refl);
          holds = holds_of d.request.entries.items;
          other = d.other;
          whole = sound_is_whole logs.cmp logs.eq (w.servers s) (is_key_list logs.cmp (w.servers s).log_ids (holds.keys s)) (holds.sound s);
          whole_after = sound_is_whole logs.cmp logs.eq (v.servers s) (is_key_list logs.cmp (v.servers s).log_ids keys') sound';
          call = λ h. conflicts_seen ids node_eq kind logs _ (w.servers s) (v.servers s) d.request.leader_id d.request refl d.vote d.purged
              (followed (Conflict at last) e (λ x f. not_higher (Conflict at last) x refl f)) at last (answers (Conflict at last) e);
          sends = sent (Conflict at last) e;
          members = λ first. ap (members_seen c.initial) (answers (Conflict at last) e).0.memberships
              ∙ below_seen c.initial (w.servers s) within at first;
        })
        by (HigherVote vote) e =
            let answer = answers (HigherVote vote) e in
            SeesRefusal (record {
              call = ap seen answer.1;
              sends = sent (HigherVote vote) e ∙ ap (λ (x : VoteIn L). SeenPromised x ∷ seen_network c.initial w.network) answer.0;
              members = same_members_seen (ap (λ (x : RaftStateIn K N I L C). x.membership_state) answer.1);
            })

    abbrev IsAnswer : InstallSnapshot L C K N → Outcome L C → Type 0
    IsAnswer request o = AnswersSnapshot logs kind.eq (IsSnapshotCopy ids.eq node_eq) request.meta o
        (heard kind.order request.leader_id (w.servers s)) (v.servers s)

    -- what a server makes of a snapshot
    module _ (d : AnswersSnapshotOf ids node_eq kind logs c s w v) where
      snap_are : IsKeyList logs.cmp (w.servers s).log_ids
      snap_are = is_key_list logs.cmp (w.servers s).log_ids (holds.keys s)

      sent_named : Named d.request.meta.last_membership
      sent_named = holds.messages (SnapshotSent d.request) d.message

      -- the copy of the membership that is kept is the one that was sent
      module _ (copy : SnapshotMetaOf C K N) (is_copy : IsSnapshotCopy ids.eq node_eq d.request.meta copy) where
        copied : (membership_of copy.last_membership).configs ≡ (membership_of d.request.meta.last_membership).configs
        copied =
            same_configs node_eq exact.nodes (membership_of d.request.meta.last_membership) (membership_of copy.last_membership)
            is_copy.membership

        copy_named : Named copy.last_membership
        copy_named none = copied ∙ sent_named (sym is_copy.log_id ∙ none)

      module _ (upto : Option (LogIdOf C)) (e : d.outcome ≡ Matches upto) where
        answer_is : IsAnswer d.request (Matches upto)
        answer_is = subst (λ (x : Outcome L C). IsAnswer d.request x) e d.answers

        follows_is : is_followed kind.order d.request.leader_id (w.servers s) ≡ true
        follows_is =
            followed_if (is_followed kind.order d.request.leader_id (w.servers s)) (Matches upto) (vote_of (w.servers s))
            (λ no. sym e ∙ d.not_followed no) (λ x f. not_higher (Matches upto) x refl f)

        known_stays : id_lt logs.cmp (w.servers s).committed (Some d.upto) ≡ false
            → (v.servers s).membership_state ≡ (w.servers s).membership_state
        known_stays =
            known_members node_eq laws exact.committed (w.servers s)
            (v.servers s) d.request.leader_id d.request.meta d.upto d.is_upto snap_are (holds.sound s) follows_is d.allowed answer_is.1

        module _ (past : id_lt logs.cmp (w.servers s).committed (Some d.upto) ≡ true) where
          made : (copy : SnapshotMetaOf C K N) × IsSnapshotCopy ids.eq node_eq d.request.meta copy
              × ((v.servers s).membership_state
              ≡ memberships_after_install logs.cmp logs.eq d.upto copy.last_membership (w.servers s))
          made =
              installs_members node_eq laws exact.committed (w.servers s)
              (v.servers s) d.request.leader_id d.request.meta d.upto d.is_upto snap_are (holds.sound s) follows_is d.allowed answer_is.1
              past

          made_named : AreNamed (v.servers s).membership_state
          made_named =
              subst (λ (m : Memberships C K N). AreNamed m) (sym made.2) (pick (is_logged logs.eq d.upto (w.servers s)))
            where
              pick : (b : Bool) → AreNamed (if b
                  then after_update_committed logs.cmp made.0.last_membership d.upto.index (w.servers s).membership_state
                  else record { committed = made.0.last_membership; effective = made.0.last_membership })
              pick true =
                  named_update logs.cmp made.0.last_membership d.upto.index (w.servers s).membership_state
                  (copy_named made.0 made.1) (holds.named s)
              pick false = named_both made.0.last_membership (copy_named made.0 made.1)

          abbrev held : List (List K)
          held =
              seen_configs c.initial (log_id_of d.request.meta.last_membership)
              (membership_of d.request.meta.last_membership).configs

          held_is : seen_configs c.initial (log_id_of made.0.last_membership) (membership_of made.0.last_membership).configs ≡ held
          held_is =
              ap (λ (o : Option (LogIdOf C)). seen_configs c.initial o (membership_of made.0.last_membership).configs)
              made.1.log_id
              ∙ ap (seen_configs c.initial (log_id_of d.request.meta.last_membership)) (copied made.0 made.1)

          kept_update : is_logged logs.eq d.upto (w.servers s) ≡ true
              → AfterUpdate d.upto.index (seen_at (log_id_of d.request.meta.last_membership)) held
              (members_seen c.initial (w.servers s).membership_state) (members_seen c.initial (v.servers s).membership_state)
          kept_update logged =
              let at : (v.servers s).membership_state ≡ after_update_committed logs.cmp made.0.last_membership d.upto.index
              (w.servers s).membership_state = made.2 ∙ ap (λ (b : Bool). if b
              then after_update_committed logs.cmp made.0.last_membership d.upto.index (w.servers s).membership_state
              else record { committed = made.0.last_membership; effective = made.0.last_membership }) logged in
              let fits : is_not_past logs.cmp d.upto made.0.last_membership ≡ true =
              ap (λ (o : Option (LogIdOf C)). id_le logs.cmp o (Some d.upto) && index_le (index_of o) (Some d.upto.index))
              made.1.log_id
              ∙ snapshot_fits node_eq laws exact.committed (w.servers s)
              (v.servers s) d.request.leader_id d.request.meta d.upto d.is_upto snap_are (holds.sound s) follows_is d.allowed answer_is.1
              past in
              let keeps : (is_not_above logs.cmp (w.servers s).membership_state.committed made.0.last_membership
              || index_lt (Some d.upto.index) (index_at (w.servers s).membership_state.committed)) ≡ true =
              ap (λ (o : Option (LogIdOf C)). (id_le logs.cmp (log_id_of (w.servers s).membership_state.committed) o
              && index_le (index_at (w.servers s).membership_state.committed) (index_of o))
              || index_lt (Some d.upto.index) (index_at (w.servers s).membership_state.committed)) made.1.log_id
              ∙ ap (λ (b : Bool). is_not_above logs.cmp (w.servers s).membership_state.committed d.request.meta.last_membership
              || (b && index_lt (Some d.upto.index) (index_at (w.servers s).membership_state.committed))) (sym logged)
              ∙ snapshot_keeps node_eq laws exact.committed (w.servers s)
              (v.servers s) d.request.leader_id d.request.meta d.upto d.is_upto snap_are (holds.sound s) follows_is d.allowed answer_is.1
              past in
              let update = install_seen c.initial logs.cmp d.upto made.0.last_membership (w.servers s).membership_state fits keeps
              (members_sorted node_eq laws exact.committed (w.servers s) snap_are (holds.sound s) d.upto logged) (no_cycle laws.total) in
              let e1 : AfterUpdate d.upto.index (seen_at (log_id_of d.request.meta.last_membership))
              (seen_configs c.initial (log_id_of made.0.last_membership) (membership_of made.0.last_membership).configs)
              (members_seen c.initial (w.servers s).membership_state)
              (members_seen c.initial (after_update_committed logs.cmp made.0.last_membership d.upto.index
              (w.servers s).membership_state)) =
              subst (λ (n : ℕ). AfterUpdate d.upto.index n
              (seen_configs c.initial (log_id_of made.0.last_membership) (membership_of made.0.last_membership).configs)
              (members_seen c.initial (w.servers s).membership_state)
              (members_seen c.initial (after_update_committed logs.cmp made.0.last_membership d.upto.index
              (w.servers s).membership_state))) (ap seen_at made.1.log_id) update in
              subst (λ (m : Memberships C K N). AfterUpdate d.upto.index (seen_at (log_id_of d.request.meta.last_membership)) held
              (members_seen c.initial (w.servers s).membership_state) (members_seen c.initial m)) (sym at)
              (subst (λ (x : List (List K)). AfterUpdate d.upto.index (seen_at (log_id_of d.request.meta.last_membership)) x
              (members_seen c.initial (w.servers s).membership_state)
              (members_seen c.initial (after_update_committed logs.cmp made.0.last_membership d.upto.index
              (w.servers s).membership_state))) held_is e1)

          replaced_both : is_logged logs.eq d.upto (w.servers s) ≡ false
              → members_seen c.initial (v.servers s).membership_state
              ≡ both_are (seen_at (log_id_of d.request.meta.last_membership)) held
          replaced_both lacks =
              let at : (v.servers s).membership_state
              ≡ record { committed = made.0.last_membership; effective = made.0.last_membership } =
              made.2 ∙ ap (λ (b : Bool). if b
              then after_update_committed logs.cmp made.0.last_membership d.upto.index (w.servers s).membership_state
              else record { committed = made.0.last_membership; effective = made.0.last_membership }) lacks in
              ap (members_seen c.initial) at
              ∙ ap (λ (n : ℕ). both_are n (seen_configs c.initial (log_id_of made.0.last_membership)
              (membership_of made.0.last_membership).configs)) (ap seen_at made.1.log_id)
              ∙ ap (both_are (seen_at (log_id_of d.request.meta.last_membership))) held_is

        -- what is installed is past what was committed
        is_new : (h : History C K (Option (List (List K))))
            → IsInstalled (leaders_of (compared ids node_eq kind logs)) (at_server (viewed ids node_eq kind logs c) h s) d.upto
            (seen (w.servers s)) (seen (v.servers s)) → (b : Bool) → id_lt logs.cmp (w.servers s).committed (Some d.upto) ≡ b
            → id_lt logs.cmp (w.servers s).committed (Some d.upto) ≡ true
        is_new h is true e = e
        is_new h is false e =
            let stays : (v.servers s).committed ≡ (w.servers s).committed =
            (known_snapshot node_eq laws exact.committed (w.servers s) (v.servers s) d.request.leader_id d.request.meta d.upto d.is_upto
            snap_are (holds.sound s) follows_is d.allowed answer_is.1 (at_server (viewed ids node_eq kind logs c) h s) e).committed_is in
            let past = is.past in
            let n : next_index (w.servers s).committed ≡ d.upto.index + 1 = ap next_index (sym stays ∙ is.committed_is) in
            absurd (omega (arith, past, n))

    snapshot_seen : AnswersSnapshotOf ids node_eq kind logs c s w v → IsSeenStep s w v
    snapshot_seen d = record {
      does = by d.outcome refl;
      grows = one_sent (Answered s d.request.leader_id d.outcome) d.sends;
      campaign = same_campaign d.campaign (one_sent (Answered s d.request.leader_id d.outcome) d.sends);
      named = still_named d.outcome refl;
      messages = one_message (Answered s d.request.leader_id d.outcome) d.sends tt;
    }
      where
        still_named : (o : Outcome L C) → d.outcome ≡ o → AreNamed (v.servers s).membership_state
        still_named (Matches upto) e = pick (id_lt logs.cmp (w.servers s).committed (Some d.upto)) refl
          where
            pick : (b : Bool) → id_lt logs.cmp (w.servers s).committed (Some d.upto) ≡ b → AreNamed (v.servers s).membership_state
            pick true past = made_named d upto e past
            pick false known = same_named (known_stays d upto e known)
        still_named (Conflict at last) e = absurd (subst (λ (x : Outcome L C). IsAnswer d.request x) e d.answers)
        still_named (HigherVote x) e =
            same_named (ap (λ (y : RaftStateIn K N I L C). y.membership_state)
            (subst (λ (y : Outcome L C). IsAnswer d.request y) e d.answers).1)

        sent : (o : Outcome L C) → d.outcome ≡ o
            → seen_network c.initial v.network ≡ seen_answer s d.request.leader_id o ++ seen_network c.initial w.network
        sent o e =
            ap (seen_network c.initial) d.sends
            ∙ ap (λ (x : Outcome L C). seen_answer s d.request.leader_id x ++ seen_network c.initial w.network) e

        -- a leader that is not followed changes nothing
        unheard : (b : Bool) → b ≡ false → (record (w.servers s) {
          vote = if b then utime_of (committed_vote_of d.request.leader_id) (moment_of (w.servers s).vote) else (w.servers s).vote;
        }) ≡ w.servers s
        unheard false e = refl
        unheard true e = absurd (true≢false e)

        not_followed : (x : VoteIn L) → d.outcome ≡ HigherVote x → is_followed kind.order d.request.leader_id (w.servers s) ≡ false
        not_followed x e =
            subst (λ (o : Outcome L C). IfHigherVote o (λ _. is_followed kind.order d.request.leader_id
            (w.servers s) ≡ false)) e d.followed

        none_heard : (x : VoteIn L) → d.outcome ≡ HigherVote x → v.servers s ≡ heard kind.order d.request.leader_id (w.servers s)
            → seen (v.servers s) ≡ seen (w.servers s)
        none_heard x e same =
            ap seen (same ∙ unheard (is_followed kind.order d.request.leader_id (w.servers s)) (not_followed x e))

        -- the vote that the answer has
        own_vote : (x y : VoteIn L) → d.outcome ≡ HigherVote x → d.outcome ≡ HigherVote y → x ≡ y
        own_vote x y e f = let same : HigherVote x ≡ HigherVote y = sym e ∙ f in cc

        by : (o : Outcome L C) → d.outcome ≡ o → SeenDoes (viewed ids node_eq kind logs c) s (world_seen c.initial w)
            (world_seen c.initial v)
        by (Matches upto) e =
            let answer : IsAnswer d.request (Matches upto) = subst (λ (x : Outcome L C). IsAnswer d.request x) e d.answers in
            let follows : is_followed kind.order d.request.leader_id (w.servers s) ≡ true =
            followed_if (is_followed kind.order d.request.leader_id (w.servers s)) (Matches upto) (vote_of (w.servers s))
            (λ no. sym e ∙ d.not_followed no) (λ x f. not_higher (Matches upto) x refl f) in
            SeesSnapshot (record {
              leader = d.request.leader_id;
              upto = d.upto;
              held_at = seen_at (log_id_of d.request.meta.last_membership);
              held = seen_configs c.initial (log_id_of d.request.meta.last_membership)
                  (membership_of d.request.meta.last_membership).configs;
              message = in_network c.initial (SnapshotSent d.request) seen_it w.network d.message
                  (sees d.request.meta.last_log_id d.is_upto);
              other = d.other;
              whole = sound_is_whole logs.cmp logs.eq (w.servers s) (is_key_list logs.cmp (w.servers s).log_ids (holds.keys s))
                  (holds.sound s);
              call = λ h. installs_seen node_eq laws exact.committed (w.servers s) (v.servers s) d.request.leader_id d.request.meta d.upto
                  d.is_upto (snap_are d) (holds.sound s) follows d.allowed answer.1 _;
              sends = sent (Matches upto) e
                  ∙ ap (λ (x : Option (LogIdOf C)). SeenMatched s d.request.leader_id x ∷ seen_network c.initial w.network) (answer.0
                  ∙ d.is_upto);
              known = λ h is. same_members_seen (known_stays d upto e is.not_past);
              kept = λ h is logged. kept_update d upto e (is_new d upto e h is (id_lt logs.cmp (w.servers s).committed (Some d.upto)) refl)
                  logged;
              replaced = λ h is lacks.
                  replaced_both d upto e (is_new d upto e h is (id_lt logs.cmp (w.servers s).committed (Some d.upto)) refl) lacks;
            })
          where
            seen_it : SeenMessage L C K (List (List K))
            seen_it =
                SeenSnapshot d.request.leader_id d.upto (seen_at (log_id_of d.request.meta.last_membership))
                (seen_configs c.initial (log_id_of d.request.meta.last_membership)
                (membership_of d.request.meta.last_membership).configs)

            sees : (o : Option (LogIdOf C)) → o ≡ Some d.upto → IsAmong seen_it
                (seen_snapshot c.initial d.request.leader_id d.request.meta.last_membership o)
            sees None e = cc
            sees (Some x) e =
                inl (ap (λ (y : LogIdOf C). SeenSnapshot d.request.leader_id y (seen_at (log_id_of d.request.meta.last_membership))
                (seen_configs c.initial (log_id_of d.request.meta.last_membership)
                (membership_of d.request.meta.last_membership).configs)) (sym (some_same x d.upto e)))
        by (Conflict at last) e = absurd (subst (λ (x : Outcome L C). IsAnswer d.request x) e d.answers)
        by (HigherVote x) e =
            SeesRefusal (record {
              call = none_heard x e (subst (λ (y : Outcome L C). IsAnswer d.request y) e d.answers).1;
              sends = sent (HigherVote x) e
                  ∙ ap (λ (y : VoteIn L). SeenPromised y ∷ seen_network c.initial w.network)
                  (own_vote x (vote_of (w.servers s)) e (d.not_followed (not_followed x e)));
              members = same_members_seen (ap (λ (y : RaftStateIn K N I L C). y.membership_state)
                  (subst (λ (y : Outcome L C). IsAnswer d.request y) e d.answers).1);
            })

    -- ---- a vote in a response

    hearing_seen : HearsVote ids node_eq kind logs c s w v → IsSeenStep s w v
    hearing_seen d = record {
      does = SeesHearing (record {
        vote = d.vote;
        message = in_network c.initial d.response (SeenPromised d.vote) w.network d.message (sees d.response d.has_vote);
        call = ap seen d.taken ∙ pick d.promised d.answer;
        sends = ap (seen_network c.initial) d.sends;
        members = same_members_seen kept;
      });
      grows = none_sent d.sends;
      campaign = λ x at. by d.campaign x at;
      named = same_named kept;
      messages = no_messages d.sends;
    }
      where
        kept : (v.servers s).membership_state ≡ (w.servers s).membership_state
        kept = ap (λ (x : RaftStateIn K N I L C). x.membership_state) d.taken ∙ stays d.promised
          where
            stays : (b : Bool) → (if b then record (w.servers s) { vote = utime_of d.vote (moment_of (w.servers s).vote) }
                else w.servers s).membership_state ≡ (w.servers s).membership_state
            stays true = refl
            stays false = refl

        sees : (m : Message K N L C D) → vote_in m ≡ Some d.vote → IsAmong (SeenPromised d.vote) (seen_message c.initial m)
        sees (VoteAsked r) e = cc
        sees (VoteAnswered from r) e = inl (ap (λ (x : VoteIn L). SeenPromised x) (some_same d.vote r.vote (sym e)))
        sees (EntriesSent r) e = cc
        sees (SnapshotSent r) e = cc
        sees (Answered from leader (Matches upto)) e = cc
        sees (Answered from leader (Conflict at last)) e = cc
        sees (Answered from leader (HigherVote x)) e = inl (ap (λ (y : VoteIn L). SeenPromised y) (some_same d.vote x (sym e)))
        sees (Counted leader configs) e = cc
        sees (Written entry) e = cc
        sees (Built upto at configs) e = cc

        pick : (b : Bool) → b ≡ partial_ge (vote_cmp kind.order) d.vote (vote_of (w.servers s))
            → seen (if b then record (w.servers s) { vote = utime_of d.vote (moment_of (w.servers s).vote) } else w.servers s)
            ≡ (if partial_ge (vote_cmp kind.order) d.vote (vote_of (w.servers s)) then record (seen (w.servers s)) { vote = d.vote }
            else seen (w.servers s))
        pick true e = rw (sym e) refl
        pick false e = rw (sym e) refl

        none_there : (x : Campaign K N L C) → None ≡ Some x → ⊥
        none_there x e = cc

        by : (v.campaigns s ≡ w.campaigns s) ⊎ (v.campaigns s ≡ None) → (x : Campaign K N L C) → v.campaigns s ≡ Some x
            → IsCampaign v s x
        by (inl same) = same_campaign same (none_sent d.sends)
        by (inr over) = λ x at. absurd (none_there x (sym over ∙ at))

    -- ---- a campaign

    campaign_seen : StartsCampaign ids node_eq kind logs c s w v → IsSeenStep s w v
    campaign_seen d = record {
      does = SeesCampaign (record {
        leader = d.made.vote.leader_id;
        in_use = inr d.in_use;
        is_own = node;
        term = term;
        above = greater_leader kind.order d.made.vote (vote_of (w.servers s)) uncommitted d.call.is_greater;
        call = same_state (seen (v.servers s)) (record (seen
            (w.servers s)) { vote = record { leader_id = d.made.vote.leader_id; committed = false } })
            (ap vote_of d.call.promised ∙ is_vote) (ap (λ (x : RaftStateIn K N I L C). full_log x.log_ids) d.call.promised)
            (ap (λ (x : RaftStateIn K N I L C). x.purged_next) d.call.promised)
            (ap (λ (x : RaftStateIn K N I L C). x.committed) d.call.promised);
        sends = ap (seen_network c.initial) d.sends
            ∙ ap (λ (x : VoteIn L). SeenAsked x d.made.last_log_id ∷ counting d.made.votes.membership.configs) is_vote
            ∙ ap (λ (x : Option (LogIdOf C)). SeenAsked (record { leader_id = d.made.vote.leader_id; committed = false }) x
            ∷ counting d.made.votes.membership.configs) d.call.last
            ∙ ap (λ (m : List (List K)). SeenAsked (record { leader_id = d.made.vote.leader_id; committed = false })
            (last_id (full_log (w.servers s).log_ids)) ∷ counting m) counted;
        members = same_members_seen kept;
      });
      grows = two_sent;
      campaign = λ x at. subst (λ (y : Campaign K N L C). IsCampaign v s y) (some_same d.made x (sym d.campaign ∙ at)) is;
      named = same_named kept;
      messages = λ m among. either m (subst (λ (ms : List (Message K N L C D)). IsAmong m ms) d.sends among);
    }
      where
        kept : (v.servers s).membership_state ≡ (w.servers s).membership_state
        kept = ap (λ (x : RaftStateIn K N I L C). x.membership_state) d.call.promised

        asking : Message K N L C D
        asking = VoteAsked (record { vote = d.made.vote; last_log_id = d.made.last_log_id })

        counting : List (List K) → List (SeenMessage L C K (List (List K)))
        counting m = SeenCounts d.made.vote.leader_id m ∷ seen_network c.initial w.network

        two_sent : Grows w v
        two_sent x among =
            subst (λ (ms : List (Message K N L C D)). IsAmong x (seen_network c.initial ms)) (sym d.sends) (inr (inr among))

        either : (m : Message K N L C D) → IsAmong m (asking ∷ Counted d.made.vote.leader_id d.made.votes.membership.configs ∷ w.network)
            → NamedMessage m
        either m (inl same) = subst (λ (y : Message K N L C D). NamedMessage y) (sym same) tt
        either m (inr (inl same)) = subst (λ (y : Message K N L C D). NamedMessage y) (sym same) tt
        either m (inr (inr before)) = holds.messages m before

        -- a server without a membership may not campaign
        counted : d.made.votes.membership.configs
            ≡ seen_configs c.initial (log_id_of (w.servers s).membership_state.effective)
            (membership_of (w.servers s).membership_state.effective).configs
        counted = d.call.configs ∙ by (log_id_of (w.servers s).membership_state.effective) refl
          where
            none_at : (x y : Option (LogIdOf C)) → index_le (index_of x) (index_of y) ≡ true → y ≡ None → x ≡ None
            none_at None y h e = refl
            none_at (Some x) None h e = cc
            none_at (Some x) (Some y) h e = cc

            by : (o : Option (LogIdOf C)) → log_id_of (w.servers s).membership_state.effective ≡ o
                → (in_effect (w.servers s).membership_state).configs
                ≡ seen_configs c.initial o (membership_of (w.servers s).membership_state.effective).configs
            by (Some id) e = refl
            by None e =
                let none : log_id_of (w.servers s).membership_state.committed ≡ None =
                none_at (log_id_of (w.servers s).membership_state.committed) (log_id_of (w.servers s).membership_state.effective)
                (members_in_order logs.cmp (w.servers s) (holds.sound s).valid) e in
                let no : (membership_of (w.servers s).membership_state.effective).configs ≡ [] = (holds.named s).effective e in
                let no' : (membership_of (w.servers s).membership_state.committed).configs ≡ [] = (holds.named s).committed none in
                absurd (false≢true (sym (ap (λ (m : List (List K)). is_voter_of ids.eq m s
                || is_voter_of ids.eq (membership_of (w.servers s).membership_state.committed).configs s) no
                ∙ ap (λ (m : List (List K)). is_voter_of ids.eq [] s || is_voter_of ids.eq m s) no') ∙ d.call.may))

        next_term : ℕ
        next_term = max d.greatest_term (kind.term_of (vote_of (w.servers s)).leader_id) + 1

        leader_is : d.made.vote.leader_id ≡ kind.leader_of next_term s
        leader_is = ap (λ (x : VoteIn L). x.leader_id) d.call.vote

        uncommitted : d.made.vote.committed ≡ false
        uncommitted = ap (λ (x : VoteIn L). x.committed) d.call.vote

        is_vote : d.made.vote ≡ record { leader_id = d.made.vote.leader_id; committed = false }
        is_vote = same_votes d.made.vote (record { leader_id = d.made.vote.leader_id; committed = false }) refl uncommitted

        node : kind.voted d.made.vote.leader_id ≡ Some s
        node = ap kind.voted leader_is ∙ (laws.made next_term s).1

        term : 0 < kind.term_of d.made.vote.leader_id
        term = let t : kind.term_of d.made.vote.leader_id ≡ next_term = ap kind.term_of leader_is ∙ (laws.made next_term s).0 in
            omega (arith, t)

        is : IsCampaign v s d.made
        is = record {
          node = node;
          term = term;
          uncommitted = uncommitted;
          counts = subst (λ (ms : List (Message K N L C D)). IsAmong
              (SeenCounts d.made.vote.leader_id d.made.votes.membership.configs) (seen_network c.initial ms)) (sym d.sends)
              (inr (inl refl));
          votes = λ r yes. inl (sym (exact.nodes s r (and_parts _ _ (sym (d.call.own_vote r) ∙ yes)).0));
        }

    count_seen : CountsVote ids node_eq kind logs c s w v → IsSeenStep s w v
    count_seen d = record {
      does = idle (ap seen d.state) kept (ap (seen_network c.initial) d.sends);
      grows = none_sent d.sends;
      campaign = λ x at. subst (λ (y : Campaign K N L C). IsCampaign v s y) (some_same d.after x (sym d.campaign ∙ at)) is;
      named = same_named kept;
      messages = no_messages d.sends;
    }
      where
        kept : (v.servers s).membership_state ≡ (w.servers s).membership_state
        kept = ap (λ (x : RaftStateIn K N I L C). x.membership_state) d.state

        before : IsCampaign w s d.before
        before = holds.campaign s d.before d.campaign_before

        same_vote : d.after.vote ≡ d.before.vote
        same_vote = ap (λ (x : Campaign K N L C). x.vote) d.call.rest

        own_answer : IsAmong (SeenVoted d.from d.before.vote) (seen_network c.initial w.network)
        own_answer =
            in_network c.initial (VoteAnswered d.from d.response) (SeenVoted d.from d.before.vote) w.network d.message
            (inr (sees d.response.granted d.granted))
          where
            sees : (b : Bool) → b ≡ true
                → IsAmong {X = SeenMessage L C K (List (List K))} (SeenVoted d.from d.before.vote)
                (if b then SeenVoted d.from d.response.vote ∷ [] else [])
            sees true e = inl (ap (λ (x : VoteIn L). SeenVoted d.from x) (sym d.for_this))
            sees false e = absurd (false≢true e)

        voted : (r : K) (b : Bool) → has_vote_of ids.eq d.before r ≡ b
            → (b || (ids.eq d.from r && is_counted ids.eq d.before d.from)) ≡ true
            → (r ≡ s) ⊎ IsAmong (SeenVoted r d.before.vote) (seen_network c.initial w.network)
        voted r true e h = before.votes r e
        voted r false e h =
            let same : d.from ≡ r = exact.nodes d.from r (and_parts (ids.eq d.from r) (is_counted ids.eq d.before d.from) h).0 in
            inr (subst (λ (x : K). IsAmong (SeenVoted x d.before.vote) (seen_network c.initial w.network)) same own_answer)

        is : IsCampaign v s d.after
        is = record {
          node = ap (λ (x : VoteIn L). kind.voted x.leader_id) same_vote ∙ before.node;
          term = (let t : kind.term_of d.after.vote.leader_id ≡ kind.term_of d.before.vote.leader_id =
              ap (λ (x : VoteIn L). kind.term_of x.leader_id) same_vote in
              let past = before.term in omega (arith, t, past));
          uncommitted = ap (λ (x : VoteIn L). x.committed) same_vote ∙ before.uncommitted;
          counts = none_sent d.sends (SeenCounts d.after.vote.leader_id d.after.votes.membership.configs)
              (subst (λ (m : List (List K)). IsAmong (SeenCounts d.after.vote.leader_id m) (seen_network c.initial w.network))
              (sym (ap (λ m. m.configs) d.call.members))
              (subst (λ (x : VoteIn L). IsAmong (SeenCounts x.leader_id d.before.votes.membership.configs)
              (seen_network c.initial w.network)) (sym same_vote) before.counts));
          votes = λ r yes. kept r (voted r (has_vote_of ids.eq d.before r) refl (sym (d.call.counted r) ∙ yes));
        }
          where
            kept : (r : K) → (r ≡ s) ⊎ IsAmong (SeenVoted r d.before.vote) (seen_network c.initial w.network)
                → (r ≡ s) ⊎ IsAmong (SeenVoted r d.after.vote) (seen_network c.initial v.network)
            kept r (inl own) = inl own
            kept r (inr among) =
                inr (none_sent d.sends (SeenVoted r d.after.vote)
                (subst (λ (x : VoteIn L). IsAmong (SeenVoted r x) (seen_network c.initial w.network)) (sym same_vote) among))

    -- ---- a leader

    same_voted : (o : Option K) (n : K) → option_eq ids.eq o (Some n) ≡ true → o ≡ Some n
    same_voted None n h = cc
    same_voted (Some m) n h = ap (λ (x : K). Some x) (exact.nodes m n h)

    election_seen : IsElectedLeader ids node_eq kind logs c s w v → IsSeenStep s w v
    election_seen d = record {
      does = SeesElection (record {
        is_own = ap kind.voted leader_is ∙ is.node;
        term = (let t : kind.term_of (vote_of (w.servers s)).leader_id ≡ kind.term_of d.candidate.vote.leader_id =
            ap kind.term_of leader_is in
            let past = is.term in omega (arith, t, past));
        not_yet = beq_is (vote_of (w.servers s)).committed d.candidate.vote.committed same.1 ∙ is.uncommitted;
        counts = has_vote_of ids.eq d.candidate;
        votes = λ r yes. by r (is.votes r yes);
        counted = d.candidate.votes.membership.configs;
        counting = subst (λ (l : L). IsAmong (SeenCounts l d.candidate.votes.membership.configs) (seen_network c.initial w.network))
            (sym leader_is) is.counts;
        majority = d.call.elected.majority;
        call = ap seen d.call.committed;
        sends = ap (seen_network c.initial) d.sends;
        members = same_members_seen kept;
      });
      grows = none_sent d.sends;
      campaign = same_campaign d.campaign (none_sent d.sends);
      named = same_named kept;
      messages = no_messages d.sends;
    }
      where
        kept : (v.servers s).membership_state ≡ (w.servers s).membership_state
        kept = ap (λ (x : RaftStateIn K N I L C). x.membership_state) d.call.committed

        is : IsCampaign w s d.candidate
        is = holds.campaign s d.candidate d.campaign_before

        same : (kind.eq (vote_of (w.servers s)).leader_id d.candidate.vote.leader_id ≡ true)
            × (beq (vote_of (w.servers s)).committed d.candidate.vote.committed ≡ true)
        same = and_parts _ _ d.call.vote

        leader_is : (vote_of (w.servers s)).leader_id ≡ d.candidate.vote.leader_id
        leader_is = exact.leaders (vote_of (w.servers s)).leader_id d.candidate.vote.leader_id same.0

        vote_is : vote_of (w.servers s) ≡ d.candidate.vote
        vote_is =
            same_votes (vote_of (w.servers s)) d.candidate.vote leader_is
            (beq_is (vote_of (w.servers s)).committed d.candidate.vote.committed same.1)

        by : (r : K) → (r ≡ s) ⊎ IsAmong (SeenVoted r d.candidate.vote) (seen_network c.initial w.network)
            → (r ≡ s) ⊎ IsAmong (SeenVoted r (vote_of (w.servers s))) (seen_network c.initial w.network)
        by r (inl own) = inl own
        by r (inr among) = inr (subst (λ (x : VoteIn L). IsAmong (SeenVoted r x) (seen_network c.initial w.network)) (sym vote_is) among)

    -- what it means to lead
    module _ (leader : Leadership K N C) (leads : Leads ids node_eq kind logs c s w v leader) where
      leads_parts : (((vote_of (w.servers s)).committed ≡ true)
          × (logs.eq (kind.committed (vote_of (w.servers s)).leader_id) leader.leader_id ≡ true))
          × (option_eq ids.eq (kind.voted (vote_of (w.servers s)).leader_id) (Some leader.id) ≡ true)
      leads_parts = let all = and_parts _ _ leads.leads in (and_parts _ _ all.0, all.1)

      leads_committed : (vote_of (w.servers s)).committed ≡ true
      leads_committed = leads_parts.0.0

      leads_own : kind.voted (vote_of (w.servers s)).leader_id ≡ Some s
      leads_own =
          same_voted (kind.voted (vote_of (w.servers s)).leader_id) leader.id leads_parts.1
          ∙ ap (λ (x : K). Some x) leads.node

      leads_id : kind.committed (vote_of (w.servers s)).leader_id ≡ leader.leader_id
      leads_id = exact.committed (kind.committed (vote_of (w.servers s)).leader_id) leader.leader_id leads_parts.0.1

      leads_term : 0 < kind.term_of (vote_of (w.servers s)).leader_id
      leads_term = is_cluster.later (vote_of (w.servers s)).leader_id leads.in_use

      leads_seen : SeenLeads (viewed ids node_eq kind logs c) s (world_seen c.initial w) (world_seen c.initial v)
      leads_seen = record { is_own = leads_own; term = leads_term; is_committed = leads_committed }

      -- it counts by the effective membership, which has an entry
      module _ (by_effective : leader.followers.membership.configs ≡ (in_effect (w.servers s).membership_state).configs)
          (some : 0 < length leader.followers.membership.configs) where
        counts_seen : leader.followers.membership.configs
            ≡ seen_configs c.initial (log_id_of (w.servers s).membership_state.effective)
            (membership_of (w.servers s).membership_state.effective).configs
        counts_seen = by_effective ∙ by (log_id_of (w.servers s).membership_state.effective) refl
          where
            by : (o : Option (LogIdOf C)) → log_id_of (w.servers s).membership_state.effective ≡ o
                → (in_effect (w.servers s).membership_state).configs
                ≡ seen_configs c.initial o (membership_of (w.servers s).membership_state.effective).configs
            by (Some id) e = refl
            by None e =
                let none : leader.followers.membership.configs ≡ [] = by_effective ∙ (holds.named s).effective e in
                let n : length leader.followers.membership.configs ≡ 0 = ap length none in
                absurd (omega (arith, some, n))

      -- what is granted, of the leader's own, a quorum has
      module _ (granted : LogIdOf C) (major : MajorityMatches ids.eq logs.cmp leader granted)
          (own : is_of_leader logs.eq leader.leader_id (Some granted) ≡ true)
          (by_effective : leader.followers.membership.configs ≡ (in_effect (w.servers s).membership_state).configs)
          (true_matches : CountsTrueMatches ids.eq s w leader) where
        abbrev matching : K → Option (LogIdOf C)
        matching r = match_of (entry_of ids.eq leader r)

        passes : (x : LogIdOf C) (o : Option (ProgressEntryOf C)) → id_le logs.cmp (Some x) (match_of o)
            ≡ option_map_or (λ (e : ProgressEntryOf C). id_le logs.cmp (Some x) e.matching) o false
        passes x None = refl
        passes x (Some e) = refl

        counted_as : (x : LogIdOf C) (m : List (List K)) → is_joint_majority ids.eq m (λ r. id_le logs.cmp (Some x) (matching r))
            ≡ is_joint_majority ids.eq m
            (λ r. option_map_or (λ (e : ProgressEntryOf C). id_le logs.cmp (Some x) e.matching) (entry_of ids.eq leader r) false)
        counted_as x m = ap (λ (f : K → Bool). is_joint_majority ids.eq m f) (λ i r. passes x (entry_of ids.eq leader r) i)

        is_true : (r : K) (m : LogIdOf C) (o : Option (ProgressEntryOf C)) → entry_of ids.eq leader r ≡ o → match_of o ≡ Some m
            → ((r ≡ s) × (id_at (full_log (w.servers s).log_ids) m.index ≡ Some m))
            ⊎ IsAmong (SeenMatched r (vote_of (w.servers s)).leader_id (Some m)) (seen_network c.initial w.network)
        is_true r m None g at = cc
        is_true r m (Some x) g at = answered (true_matches r x m g at)
          where
            answered : ((r ≡ s) × (id_at (full_log (w.servers s).log_ids) m.index ≡ Some m))
                ⊎ IsAmong (Answered r (vote_of (w.servers s)).leader_id (Matches (Some m))) w.network
                → ((r ≡ s) × (id_at (full_log (w.servers s).log_ids) m.index ≡ Some m))
                ⊎ IsAmong (SeenMatched r (vote_of (w.servers s)).leader_id (Some m)) (seen_network c.initial w.network)
            answered (inl mine) = inl mine
            answered (inr among) =
                inr (in_network c.initial (Answered r (vote_of (w.servers s)).leader_id (Matches (Some m)))
                (SeenMatched r (vote_of (w.servers s)).leader_id (Some m)) w.network among (inl refl))

        own_counts : (id_at (full_log (w.servers s).log_ids) granted.index ≡ Some granted) ⊎ ((r : K) × (matching r ≡ Some granted))
            → Counts (viewed ids node_eq kind logs c) s (world_seen c.initial w) (world_seen c.initial v)
        own_counts there = record {
          leads = leads_seen;
          granted = granted;
          own = exact.committed granted.leader_id leader.leader_id own ∙ sym leads_id;
          matching = matching;
          is_there = there;
          true_matches = λ r m at. is_true r m (entry_of ids.eq leader r) refl at;
          majority = ap (λ (m : List (List K)). is_joint_majority ids.eq m (λ r. id_le logs.cmp (Some granted) (matching r)))
              (sym (counts_seen by_effective major.config))
              ∙ counted_as granted leader.followers.membership.configs ∙ major.majority;
        }

        greatest_there : ((x : LogIdOf C) → MajorityMatches ids.eq logs.cmp leader x → id_le logs.cmp (Some x) (Some granted) ≡ true)
            → (r : K) × (matching r ≡ Some granted)
        greatest_there greatest =
            granted_is_match laws.ids_equal exact.nodes laws.total (is_order laws.total (cmp_one laws exact c is_cluster))
            leader.followers.membership.configs major.config matching granted
            (counted_as granted leader.followers.membership.configs ∙ major.majority)
            (λ x has. greatest x (record {
              config = major.config;
              majority = sym (counted_as x leader.followers.membership.configs) ∙ has;
            }))

    -- a leader appends an entry of its own
    own_seen : (leader : Leadership K N C) → Leads ids node_eq kind logs c s w v leader → (payload : EntryPayload K N D)
        (entry : EntryOf C K N D) → ((last : LogIdOf C) × (last_id (full_log (w.servers s).log_ids) ≡ Some last))
        → AppendsOwn (compared ids node_eq kind logs) leader payload (w.servers s) (v.servers s) entry
        → v.campaigns s ≡ w.campaigns s → v.network ≡ Written entry ∷ w.network
        → ((m : List (List K)) → held_in entry ≡ Some m
        → MayChange (viewed ids node_eq kind logs c) s (world_seen c.initial w) (world_seen c.initial v) m) → IsSeenStep s w v
    own_seen leader leads payload entry started call campaign sends may_change = record {
      does = SeesWrite (record {
        leads = leads_seen leader leads;
        last = started.0;
        is_last = started.1;
        content = held_in entry;
        call = same_state (seen (v.servers s)) (record (seen (w.servers s)) {
          ids = full_log (w.servers s).log_ids ++ (record {
            leader_id = kind.committed (vote_of (w.servers s)).leader_id;
            index = suc started.0.index;
          }) ∷ [];
        }) (ap vote_of call.rest) log_is (ap (λ (x : RaftStateIn K N I L C). x.purged_next) call.rest)
            (ap (λ (x : RaftStateIn K N I L C). x.committed) call.rest);
        may_change = may_change;
        members = appended (payload_membership payload) refl;
        sends = ap (seen_network c.initial) sends
            ∙ ap (λ (x : LogIdOf C). SeenWrote x (held_in entry) ∷ seen_network c.initial w.network) id_is;
      });
      grows = one_sent (Written entry) sends;
      campaign = same_campaign campaign (one_sent (Written entry) sends);
      named = named_now (payload_membership payload) refl;
      messages = one_message (Written entry) sends tt;
    }
      where
        own : C → ℕ → LogIdOf C
        own leader index = record { leader_id = leader; index = index }

        end_is : next_index (last_id (full_log (w.servers s).log_ids)) ≡ suc started.0.index
        end_is = ap next_index started.1 ∙ (let n : started.0.index + 1 ≡ suc started.0.index = omega arith in n)

        id_is : entry.log_id ≡ own (kind.committed (vote_of (w.servers s)).leader_id) (suc started.0.index)
        id_is =
            ap (λ (e : EntryOf C K N D). e.log_id) call.is_next
            ∙ ap (λ (n : ℕ). own leader.leader_id n) end_is
            ∙ ap (λ (x : C). own x (suc started.0.index)) (sym (leads_id leader leads))

        log_is : full_log (v.servers s).log_ids
            ≡ full_log (w.servers s).log_ids ++ own (kind.committed (vote_of (w.servers s)).leader_id) (suc started.0.index) ∷ []
        log_is =
            same_logs logs.eq exact.committed _ _ (says_same logs.eq _ _ call.log)
            ∙ ap (λ (n : ℕ). full_log (w.servers s).log_ids ++ own leader.leader_id n ∷ []) end_is
            ∙ ap (λ (x : C). full_log (w.servers s).log_ids ++ own x (suc started.0.index) ∷ []) (sym (leads_id leader leads))

        payload_is : payload_membership entry.payload ≡ payload_membership payload
        payload_is = ap (λ (e : EntryOf C K N D). payload_membership e.payload) call.is_next

        held_is : (o : Option (MemberList K N)) → payload_membership payload ≡ o → held_in entry ≡ option_map (λ m. m.configs) o
        held_is o e = ap (option_map (λ m. m.configs)) (payload_is ∙ e)

        next_at : next_own_id leader.leader_id (w.servers s) ≡ own leader.leader_id (suc started.0.index)
        next_at = ap (λ (n : ℕ). own leader.leader_id n) end_is

        appended : (o : Option (MemberList K N)) → payload_membership payload ≡ o
            → members_seen c.initial (v.servers s).membership_state
            ≡ after_member (suc started.0.index) (held_in entry) (members_seen c.initial (w.servers s).membership_state)
        appended None e =
            let same : (v.servers s).membership_state ≡ (w.servers s).membership_state = rw e at call.memberships in
            rw (held_is None e) (ap (members_seen c.initial) same)
        appended (Some m) e =
            let made : (stored : StoredMembershipOf C K N)
            × IsStoredBy ids.eq node_eq (next_own_id leader.leader_id (w.servers s)) m stored
            × ((v.servers s).membership_state ≡ after_append stored (w.servers s).membership_state) = rw e at call.memberships in
            let at : log_id_of made.0 ≡ Some (own leader.leader_id (suc started.0.index)) =
            (made.1).0 ∙ ap (λ (x : LogIdOf C). Some x) next_at in
            rw (held_is (Some m) e)
            (ap (members_seen c.initial) made.2 ∙ moved made.0 m (w.servers s).membership_state at (made.1).2)
          where
            moved : (stored : StoredMembershipOf C K N) (m : MemberList K N) (old : Memberships C K N)
                → log_id_of stored ≡ Some (own leader.leader_id (suc started.0.index)) → (membership_of stored).configs ≡ m.configs
                → members_seen c.initial (after_append stored old)
                ≡ after_member (suc started.0.index) (Some m.configs) (members_seen c.initial old)
            moved stored m old is configs = rw (is, configs) refl

        named_now : (o : Option (MemberList K N)) → payload_membership payload ≡ o → AreNamed (v.servers s).membership_state
        named_now None e =
            let same : (v.servers s).membership_state ≡ (w.servers s).membership_state = rw e at call.memberships in
            same_named same
        named_now (Some m) e =
            let made : (stored : StoredMembershipOf C K N)
            × IsStoredBy ids.eq node_eq (next_own_id leader.leader_id (w.servers s)) m stored
            × ((v.servers s).membership_state ≡ after_append stored (w.servers s).membership_state) = rw e at call.memberships in
            subst (λ (x : Memberships C K N). AreNamed x) (sym made.2)
            (named_append made.0 (w.servers s).membership_state
            (named_some made.0 (next_own_id leader.leader_id (w.servers s)) (made.1).0) (holds.named s))

    proposal_seen : Proposes ids node_eq kind logs c s w v → IsSeenStep s w v
    proposal_seen d =
        own_seen d.leader d.leads d.payload d.entry d.started d.call d.campaign d.sends
        (λ m is. absurd (none_some m (sym (ap (option_map (λ m. m.configs))
        (ap (λ (e : EntryOf C K N D). payload_membership e.payload) d.call.is_next ∙ d.no_membership)) ∙ is)))
      where
        none_some : (m : List (List K)) → None ≡ Some m → ⊥
        none_some m e = cc

    change_seen : ProposesMembers ids node_eq kind logs c s w v → IsSeenStep s w v
    change_seen d =
        own_seen d.leader d.leads d.entry.payload d.entry d.started d.call.own d.campaign d.sends
        (λ m is. may m is (granted_by d.leader) refl)
      where
        stored_is : (p : EntryPayload K N D) → StoresMembership ids.eq node_eq d.after.followers.membership p
            → option_map (λ m. m.configs) (payload_membership p) ≡ Some d.after.followers.membership.configs
        stored_is Blank none = absurd none
        stored_is (Normal x) none = absurd none
        stored_is (Membership x) stores = ap (λ (m : List (List K)). Some m) stores.0

        one_some : (a b : List (List K)) → Some a ≡ Some b → a ≡ b
        one_some a b e = cc

        some_of : (a b : List (List K)) → is_coherent ids.eq a b ≡ true → 0 < length b
        some_of a [] e = absurd (cc)
        some_of a (x ∷ xs) e = omega arith

        settled_ids : log_id_of (w.servers s).membership_state.effective ≡ log_id_of (w.servers s).membership_state.committed
        settled_ids = at (log_id_of (w.servers s).membership_state.committed) refl
          where
            none_there : {X : Type 0} (x : X) → Some x ≡ None → ⊥
            none_there x e = cc

            none_same : (o : Option (LogIdOf C)) → same_ids logs.eq o None ≡ true → o ≡ None
            none_same None h = refl
            none_same (Some x) h = cc

            is_settled : (b : Bool) → is_effective_committed logs.eq (w.servers s).membership_state ≡ b
                → is_effective_committed logs.eq (w.servers s).membership_state ≡ true
            is_settled true e = e
            is_settled false e = absurd (none_there _ (rw e at d.call.committed))

            same : same_ids logs.eq (log_id_of (w.servers s).membership_state.effective)
                (log_id_of (w.servers s).membership_state.committed) ≡ true
            same = is_settled (is_effective_committed logs.eq (w.servers s).membership_state) refl

            at : (o : Option (LogIdOf C)) → log_id_of (w.servers s).membership_state.committed ≡ o
                → log_id_of (w.servers s).membership_state.effective ≡ log_id_of (w.servers s).membership_state.committed
            at None f =
                none_same (log_id_of (w.servers s).membership_state.effective)
                (ap (λ (o : Option (LogIdOf C)). same_ids logs.eq (log_id_of (w.servers s).membership_state.effective) o) (sym f) ∙ same)
                ∙ sym f
            at (Some x) f =
                exact_found logs.eq exact.committed (log_id_of (w.servers s).membership_state.effective) x
                (ap (λ (o : Option (LogIdOf C)). same_ids logs.eq (log_id_of (w.servers s).membership_state.effective) o) (sym f) ∙ same)
                ∙ sym f

        may : (m : List (List K)) → held_in d.entry ≡ Some m → (o : Option (LogIdOf C)) → granted_by d.leader ≡ o
            → MayChange (viewed ids node_eq kind logs c) s (world_seen c.initial w) (world_seen c.initial v) m
        may m is None g = absurd (false≢true (ap (λ (o : Option (LogIdOf C)). is_of_leader logs.eq d.leader.leader_id o) (sym g)
            ∙ d.call.own_granted))
        may m is (Some granted) g = record {
          counts = own_counts d.leader d.leads granted major own d.counts d.true_matches
              (inr (greatest_there d.leader d.leads granted major own d.counts d.true_matches
              (λ x has. ap (λ (o : Option (LogIdOf C)). id_le logs.cmp (Some x) o) (sym g) ∙ (d.call.greatest x).1 has)));
          settled_now = ap seen_at settled_ids;
          old_and_new = subst (λ (x : List (List K)). QuorumsIntersect (is_joint_majority ids.eq) x m)
              (sym d.counts ∙ counts_seen d.leader d.leads d.counts major.config)
              (coherent_intersect laws.ids_equal exact.nodes (in_effect (w.servers s).membership_state).configs m coherent);
          new = itself_intersects laws.ids_equal exact.nodes m (some_of (in_effect (w.servers s).membership_state).configs m coherent);
        }
          where
            own : is_of_leader logs.eq d.leader.leader_id (Some granted) ≡ true
            own = ap (λ (o : Option (LogIdOf C)). is_of_leader logs.eq d.leader.leader_id o) (sym g) ∙ d.call.own_granted

            itself : id_le logs.cmp (Some granted) (granted_by d.leader) ≡ true
            itself =
                ap (λ (o : Option (LogIdOf C)). id_le logs.cmp (Some granted) o) g
                ∙ AtMost-refl (optional-log_id_cmp-total laws.total) (Some granted)

            major : MajorityMatches ids.eq logs.cmp d.leader granted
            major = (d.call.greatest granted).0 itself

            is_next : d.after.followers.membership.configs ≡ m
            is_next = one_some d.after.followers.membership.configs m (sym (stored_is d.entry.payload d.call.stores) ∙ is)

            some_before : 0 < length (in_effect (w.servers s).membership_state).configs
            some_before = subst (λ (x : List (List K)). 0 < length x) d.counts major.config

            coherent : is_coherent ids.eq (in_effect (w.servers s).membership_state).configs m ≡ true
            coherent =
                ap (is_coherent ids.eq (in_effect (w.servers s).membership_state).configs) (sym is_next) ∙ d.call.coherent some_before

    -- entries of a log that were written are seen so
    written_holds : (es : List (EntryOf C K N D)) → ((e : EntryOf C K N D) → IsAmong e es
        → (id_at (full_log (w.servers s).log_ids) e.log_id.index ≡ Some e.log_id) × WasWritten c w e)
        → (x : LogIdOf C) → IsAmong x (entry_ids es)
        → IsAmong (SeenWrote x (holds_of es x)) (seen_network c.initial w.network)
        ⊎ ((x.index ≡ 0) × ((holds_of es x ≡ None) ⊎ (holds_of es x ≡ Some c.initial)))
    written_holds es written x among = by (from_map (λ (e : EntryOf C K N D). e.log_id) x es among)
      where
        by : ((e : EntryOf C K N D) × IsAmong e es × (x ≡ e.log_id))
            → IsAmong (SeenWrote x (holds_of es x)) (seen_network c.initial w.network)
            ⊎ ((x.index ≡ 0) × ((holds_of es x ≡ None) ⊎ (holds_of es x ≡ Some c.initial)))
        by (e, in_es, same) = from (some_holds es e in_es)
          where
            from : ((y : EntryOf C K N D) × IsAmong y es × (y.log_id.index ≡ e.log_id.index) × (holds_of es e.log_id ≡ held_in y))
                → IsAmong (SeenWrote x (holds_of es x)) (seen_network c.initial w.network)
                ⊎ ((x.index ≡ 0) × ((holds_of es x ≡ None) ⊎ (holds_of es x ≡ Some c.initial)))
            from (y, in_y, index, held) = pick (written y in_y).1
              where
                one_id : y.log_id ≡ x
                one_id =
                    some_same y.log_id x
                    (sym (written y in_y).0 ∙ ap (λ (n : ℕ). id_at (full_log (w.servers s).log_ids) n) index
                    ∙ (written e in_es).0 ∙ ap (λ (z : LogIdOf C). Some z) (sym same))

                held_x : holds_of es x ≡ held_in y
                held_x = ap (holds_of es) same ∙ held

                pick : WasWritten c w y
                    → IsAmong (SeenWrote x (holds_of es x)) (seen_network c.initial w.network)
                    ⊎ ((x.index ≡ 0) × ((holds_of es x ≡ None) ⊎ (holds_of es x ≡ Some c.initial)))
                pick (inl wrote) =
                    inl (subst (λ (h : Option (List (List K))). IsAmong (SeenWrote x h) (seen_network c.initial w.network)) (sym held_x)
                    (subst (λ (z : LogIdOf C). IsAmong (SeenWrote z (held_in y)) (seen_network c.initial w.network)) one_id
                    (in_network c.initial (Written y) (SeenWrote y.log_id (held_in y)) w.network wrote (inl refl))))
                pick (inr (zero_at, is)) = inr (ap (λ (z : LogIdOf C). z.index) (sym one_id) ∙ zero_at, inr (held_x ∙ is))

    send_seen : SendsEntries ids node_eq kind logs c s w v → IsSeenStep s w v
    send_seen d = record {
      does = SeesSend (record {
        leads = leads_seen d.leader d.leads;
        prev = d.request.prev;
        ids = entry_ids d.request.entries.items;
        has_prev = prev_in d.sending d.call d.prev;
        has_ids = λ x among. by x (from_map (λ (e : EntryOf C K N D). e.log_id) x d.request.entries.items among);
        has_committed = committed_found node_eq laws exact.committed (w.servers s) (holds.sound s);
        call = ap seen d.state;
        sends = ap (seen_network c.initial) d.sends
            ∙ ap (λ (x : L). SeenSent x d.request.prev (entry_ids d.request.entries.items) d.request.committed
            (holds_of d.request.entries.items) ∷ seen_network c.initial w.network) d.is_own
            ∙ ap (λ (x : Option (LogIdOf C)). SeenSent (vote_of (w.servers s)).leader_id d.request.prev
            (entry_ids d.request.entries.items) x (holds_of d.request.entries.items) ∷ seen_network c.initial w.network) d.committed;
        holds = holds_of d.request.entries.items;
        has_holds = λ x among. written_holds d.request.entries.items d.entries x among;
        members = same_members_seen (ap (λ (x : RaftStateIn K N I L C). x.membership_state) d.state);
      });
      grows = one_sent (EntriesSent d.request) d.sends;
      campaign = same_campaign d.campaign (one_sent (EntriesSent d.request) d.sends);
      named = same_named (ap (λ (x : RaftStateIn K N I L C). x.membership_state) d.state);
      messages = one_message (EntriesSent d.request) d.sends tt;
    }
      where
        by : (x : LogIdOf C) → ((e : EntryOf C K N D) × IsAmong e d.request.entries.items × (x ≡ e.log_id))
            → id_at (full_log (w.servers s).log_ids) x.index ≡ Some x
        by x (e, among, same) =
            subst (λ (y : LogIdOf C). id_at (full_log (w.servers s).log_ids) y.index ≡ Some y) (sym same) (d.entries e among).0

        prev_in : (o : InflightOf C)
            → SendsNext ids.eq logs d.to (log_view_of (w.servers s)) d.max_entries d.leader d.after (Some o)
            → Carries ids node_eq kind logs c s w v o d.request.prev → (x : LogIdOf C) → d.request.prev ≡ Some x
            → id_at (full_log (w.servers s).log_ids) x.index ≡ Some x
        prev_in (Logs id range) call same x e =
            sent_in_log ids.eq logs (w.servers s) d.leader d.after d.to d.max_entries (Logs id range) call x (sym same ∙ e)
        prev_in Idle call has x e = has x e
        prev_in (Snapshot id last) call none x e = absurd none

    heartbeat_seen : SendsHeartbeat ids node_eq kind logs c s w v → IsSeenStep s w v
    heartbeat_seen d = record {
      does = SeesSend (record {
        leads = leads_seen d.leader d.leads;
        prev = d.request.prev;
        ids = [];
        has_prev = λ x e. before_in ids.eq logs (w.servers s) d.entry.searching_end x (sym d.prev ∙ e);
        has_ids = λ x none. absurd none;
        has_committed = committed_found node_eq laws exact.committed (w.servers s) (holds.sound s);
        call = ap seen d.state;
        sends = ap (seen_network c.initial) d.sends
            ∙ ap (λ (x : L). SeenSent x d.request.prev (entry_ids d.request.entries.items) d.request.committed
            (holds_of d.request.entries.items) ∷ seen_network c.initial w.network) d.is_own
            ∙ ap (λ (x : List (EntryOf C K N D)). SeenSent (vote_of (w.servers s)).leader_id d.request.prev (entry_ids x)
            d.request.committed (holds_of x) ∷ seen_network c.initial w.network) d.no_entries
            ∙ ap (λ (x : Option (LogIdOf C)). SeenSent (vote_of (w.servers s)).leader_id d.request.prev [] x
            (holds_of {K = K} {N = N} {C = C} {D = D} []) ∷ seen_network c.initial w.network) d.committed;
        holds = holds_of {K = K} {N = N} {C = C} {D = D} [];
        has_holds = λ x none. absurd none;
        members = same_members_seen (ap (λ (x : RaftStateIn K N I L C). x.membership_state) d.state);
      });
      grows = one_sent (EntriesSent d.request) d.sends;
      campaign = same_campaign d.campaign (one_sent (EntriesSent d.request) d.sends);
      named = same_named (ap (λ (x : RaftStateIn K N I L C). x.membership_state) d.state);
      messages = one_message (EntriesSent d.request) d.sends tt;
    }

    send_snapshot_seen : SendsSnapshot ids node_eq kind logs c s w v → IsSeenStep s w v
    send_snapshot_seen d = record {
      does = SeesSendSnapshot (record {
        leads = leads_seen d.leader d.leads;
        upto = d.upto;
        logged = d.logged;
        is_committed = (let lt = d.is_committed in omega (arith, lt));
        held_at = seen_at (log_id_of d.request.meta.last_membership);
        held = seen_configs c.initial (log_id_of d.request.meta.last_membership)
            (membership_of d.request.meta.last_membership).configs;
        built = in_network c.initial (Built d.upto (log_id_of d.request.meta.last_membership)
            (membership_of d.request.meta.last_membership).configs) _ w.network d.built (inl refl);
        call = ap seen d.state;
        sends = ap (seen_network c.initial) d.sends
            ∙ ap (λ (x : List (SeenMessage L C K (List (List K)))). x ++ seen_network c.initial w.network) sees;
        members = same_members_seen (ap (λ (x : RaftStateIn K N I L C). x.membership_state) d.state);
      });
      grows = one_sent (SnapshotSent d.request) d.sends;
      campaign = same_campaign d.campaign (one_sent (SnapshotSent d.request) d.sends);
      named = same_named (ap (λ (x : RaftStateIn K N I L C). x.membership_state) d.state);
      messages = one_message (SnapshotSent d.request) d.sends (holds.messages (Built d.upto (log_id_of d.request.meta.last_membership)
          (membership_of d.request.meta.last_membership).configs) d.built);
    }
      where
        sees : seen_snapshot c.initial d.request.leader_id d.request.meta.last_membership d.request.meta.last_log_id
            ≡ SeenSnapshot (vote_of (w.servers s)).leader_id d.upto (seen_at (log_id_of d.request.meta.last_membership))
            (seen_configs c.initial (log_id_of d.request.meta.last_membership)
            (membership_of d.request.meta.last_membership).configs) ∷ []
        sees =
            ap (λ (o : Option (LogIdOf C)). seen_snapshot c.initial d.request.leader_id d.request.meta.last_membership o) d.is_upto
            ∙ ap (λ (x : L). SeenSnapshot x d.upto (seen_at (log_id_of d.request.meta.last_membership))
            (seen_configs c.initial (log_id_of d.request.meta.last_membership)
            (membership_of d.request.meta.last_membership).configs) ∷ []) d.is_own

    -- what a leader commits
    module _ (d : CommitsGranted ids node_eq kind logs c s w v) (granted : LogIdOf C)
        (call : Commits ids.eq logs d.leader (w.servers s) (v.servers s) (Some granted)) where
      due_parts : (is_commit_due logs d.leader (w.servers s) ≡ true) × (granted_by d.leader ≡ Some granted)
      due_parts = is_due (is_commit_due logs d.leader (w.servers s)) (granted_by d.leader) granted call.answer

      granted_is : granted_by d.leader ≡ Some granted
      granted_is = due_parts.1

      due_all : (is_of_leader logs.eq d.leader.leader_id (granted_by d.leader) ≡ true)
          × (id_lt logs.cmp (w.servers s).committed (granted_by d.leader) ≡ true)
      due_all = and_parts _ _ due_parts.0

      granted_itself : id_le logs.cmp (Some granted) (Some granted) ≡ true
      granted_itself = AtMost-refl (optional-log_id_cmp-total laws.total) (Some granted)

      granted_major : MajorityMatches ids.eq logs.cmp d.leader granted
      granted_major =
          (call.greatest granted).0
          (subst (λ (o : Option (LogIdOf C)). id_le logs.cmp (Some granted) o ≡ true) (sym granted_is) granted_itself)

      committed_state : v.servers s ≡ record (w.servers s) {
        committed = granted_by d.leader;
        membership_state = after_commit logs.cmp (granted_by d.leader) (w.servers s).membership_state;
      }
      committed_state = call.committed ∙ pick (id_lt logs.cmp (w.servers s).committed (granted_by d.leader)) due_all.1
        where
          pick : (b : Bool) → b ≡ true → (if b
              then record (w.servers s) {
                committed = granted_by d.leader;
                membership_state = after_commit logs.cmp (granted_by d.leader) (w.servers s).membership_state;
              } else w.servers s) ≡ record (w.servers s) {
                committed = granted_by d.leader;
                membership_state = after_commit logs.cmp (granted_by d.leader) (w.servers s).membership_state;
              }
          pick true y = refl
          pick false y = absurd (false≢true y)

      committed_members : (v.servers s).membership_state ≡ after_commit logs.cmp (Some granted) (w.servers s).membership_state
      committed_members =
          ap (λ (x : RaftStateIn K N I L C). x.membership_state) committed_state
          ∙ ap (λ (o : Option (LogIdOf C)). after_commit logs.cmp o (w.servers s).membership_state) granted_is

      granted_may : may_commit logs.cmp (Some granted) (w.servers s).membership_state ≡ true
      granted_may = pick (id_lt logs.cmp (w.servers s).committed (granted_by d.leader)) due_all.1 (call.may refl)
        where
          pick : (b : Bool) → b ≡ true
              → (if b then may_commit logs.cmp (granted_by d.leader) (w.servers s).membership_state else true) ≡ true
              → may_commit logs.cmp (Some granted) (w.servers s).membership_state ≡ true
          pick true y h = ap (λ (o : Option (LogIdOf C)). may_commit logs.cmp o (w.servers s).membership_state) (sym granted_is) ∙ h
          pick false y h = absurd (false≢true y)

    commit_seen : CommitsGranted ids node_eq kind logs c s w v → IsSeenStep s w v
    unfolding own_counts
    commit_seen d = record {
      does = by d.upto d.call;
      grows = none_sent d.sends;
      campaign = same_campaign d.campaign (none_sent d.sends);
      named = still_named d.upto d.call;
      messages = no_messages d.sends;
    }
      where
        still_named : (upto : Option (LogIdOf C)) → Commits ids.eq logs d.leader (w.servers s) (v.servers s) upto
            → AreNamed (v.servers s).membership_state
        still_named None call = same_named (ap (λ (x : RaftStateIn K N I L C). x.membership_state) call.committed)
        still_named (Some granted) call =
            subst (λ (m : Memberships C K N). AreNamed m) (sym (committed_members d granted call))
            (named_commit logs.cmp true (Some granted) (w.servers s).membership_state (holds.named s))

        by : (upto : Option (LogIdOf C)) → Commits ids.eq logs d.leader (w.servers s) (v.servers s) upto
            → SeenDoes (viewed ids node_eq kind logs c) s (world_seen c.initial w) (world_seen c.initial v)
        by None call =
            idle (ap seen call.committed) (ap (λ (x : RaftStateIn K N I L C). x.membership_state) call.committed)
            (ap (seen_network c.initial) d.sends)
        by (Some granted) call = SeesCommit (record {
          counts = own_counts d.leader d.leads granted (granted_major d granted call)
              (ap (λ (o : Option (LogIdOf C)). is_of_leader logs.eq d.leader.leader_id o) (sym (granted_is d granted call))
              ∙ (due_all d granted call).0)
              d.counts d.true_matches (inl (exact_found logs.eq exact.committed
              (id_at (full_log (w.servers s).log_ids) granted.index) granted
              (subst (λ (o : Option (LogIdOf C)). none_or_logged logs.eq (log_view_of (w.servers s)) o ≡ true) (granted_is d granted call)
              (call.logged refl))));
          members = subst (λ (m : Memberships C K N). MaySettle (next_index (v.servers s).committed)
              (members_seen c.initial (w.servers s).membership_state) (members_seen c.initial m)) (sym (committed_members d granted call))
              (commit_settles c.initial logs.cmp true granted (w.servers s).membership_state (next_index (v.servers s).committed)
              (λ yes. granted_may d granted call)
              (let n : next_index (v.servers s).committed ≡ granted.index + 1 = ap next_index (call.is_granted refl
              ∙ granted_is d granted call) in
              omega (arith, n)));
          call = same_state (seen (v.servers s)) (record (seen (w.servers s)) { committed = Some granted })
              (ap vote_of (committed_state d granted call)) (ap (λ (x : RaftStateIn K N I L C). full_log x.log_ids)
              (committed_state d granted call))
              (ap (λ (x : RaftStateIn K N I L C). x.purged_next) (committed_state d granted call)) (call.is_granted refl
              ∙ granted_is d granted call);
          sends = ap (seen_network c.initial) d.sends;
        })

    -- ---- a restart, and a purge

    restart_seen : Restarts ids node_eq kind logs c s w v → IsSeenStep s w v
    restart_seen d = record {
      does = SeesRestart (record {
        known = (v.servers s).committed;
        next = (v.servers s).purged_next;
        left = full_log (v.servers s).log_ids;
        is_committed = (let n = d.call.purged in let m = d.disk.snapshot in omega (arith, n, m));
        same_end = ap last_id log_is ∙ d.disk.same_end;
        kept = λ i x at. d.disk.log i x (ap (λ (l : List (LogIdOf C)). id_at l i) (sym log_is) ∙ at);
        from = d.meta.last_log_id;
        start = start_of c.initial d.meta.last_log_id d.meta.last_membership;
        begins = begins d.meta.last_log_id refl;
        tail = entry_ids past;
        holds = holds_of past;
        row = row;
        in_log = in_log;
        has_holds = λ x among. written_holds past (λ e a. (
          in_log e.log_id (among_mapped (λ (y : EntryOf C K N D). y.log_id) e past a),
          d.written e a,
        )) x among;
        at_end = sym (ends d.meta.last_log_id (entry_ids past)) ∙ d.disk.same_end;
        no_more = no_more known_more.1;
        call = same_state (seen (v.servers s)) (record (seen (w.servers s)) {
          ids = full_log (v.servers s).log_ids;
          purged_next = (v.servers s).purged_next;
          committed = (v.servers s).committed;
        }) d.same_vote refl refl refl;
        members = known_more.0;
        sends = ap (seen_network c.initial) d.sends;
      });
      grows = none_sent d.sends;
      campaign = λ x at. absurd (none_there x (sym d.campaign ∙ at));
      named = restart_named c.initial logs ids.eq node_eq (same_configs node_eq exact.nodes) d.meta past d.known
          (greater_id logs.cmp d.meta.last_log_id d.known) d.call.committed.0 (v.servers s) meta_named
          d.call.committed.1 d.call.committed.2;
      messages = no_messages d.sends;
    }
      where
        past : List (EntryOf C K N D)
        past = entries_past logs.eq d.meta.last_log_id d.stored

        log_is : full_log (v.servers s).log_ids ≡ disk_ids logs.eq d.meta d.stored
        log_is = same_logs logs.eq exact.committed _ _ (says_same logs.eq _ _ d.call.log)

        none_there : (x : Campaign K N L C) → None ≡ Some x → ⊥
        none_there x e = cc

        full_row : From (first_index (full_log (v.servers s).log_ids)) (full_log (v.servers s).log_ids)
        full_row = from_first logs.cmp (v.servers s).log_ids (is_key_list logs.cmp (v.servers s).log_ids keys')

        disk_row : From (first_index (disk_ids logs.eq d.meta d.stored)) (disk_ids logs.eq d.meta d.stored)
        disk_row = subst (λ (l : List (LogIdOf C)). From (first_index l) l) log_is full_row

        rows : (i : ℕ) (o : Option (LogIdOf C)) (xs : List (LogIdOf C)) → i ≡ next_index o → From i xs → are_consecutive o xs ≡ true
        rows i o [] e h = refl
        rows i o (x ∷ xs) e h =
            let h0 = h.0 in
            let t : nat_eq x.index (next_index o) ≡ true = grind (arith, nat_tests) in
            let r = rows (i + 1) (Some x) xs (omega (arith, h0)) h.1 in
            rw (t, r) refl

        row : are_consecutive d.meta.last_log_id (entry_ids past) ≡ true
        row = by d.meta.last_log_id refl (entry_ids past) disk_row
          where
            begins_low : (xs : List (LogIdOf C)) → (first_index xs ≡ 0) ⊎ (xs ≡ []) → From (first_index xs) xs
                → are_consecutive None xs ≡ true
            begins_low xs (inl z) h = rows (first_index xs) None xs z h
            begins_low xs (inr none) h = rw none refl

            by : (o : Option (LogIdOf C)) → d.meta.last_log_id ≡ o → (xs : List (LogIdOf C))
                → From (first_index (snapshot_ids o ++ entry_ids past)) (snapshot_ids o ++ entry_ids past)
                → are_consecutive o (entry_ids past) ≡ true
            by (Some last) e xs h = rows (first_index (last ∷ entry_ids past) + 1) (Some last) (entry_ids past)
                (let h0 = h.0 in omega (arith, h0)) h.1
            by None e xs h = begins_low (entry_ids past) (low (entry_ids past) (ap (λ (o : Option
                (LogIdOf C)). snapshot_ids o ++ entry_ids past) e)) h
              where
                none_purged : (v.servers s).purged_next ≡ 0
                none_purged = d.call.purged ∙ ap next_index e

                fits : fits_purged_next (v.servers s).purged_next (first_id (full_log (v.servers s).log_ids)) ≡ true
                fits = (all_hold _ _ _ sound'.valid).0

                low : (ys : List (LogIdOf C)) → disk_ids logs.eq d.meta d.stored ≡ ys → (first_index ys ≡ 0) ⊎ (ys ≡ [])
                low [] f = inr refl
                low (y ∷ ys) f =
                    let g : fits_purged_next 0 (Some y) ≡ true =
                    ap (λ (n : ℕ). fits_purged_next n (Some y)) (sym none_purged)
                    ∙ ap (λ (o : Option (LogIdOf C)). fits_purged_next (v.servers s).purged_next o) (sym (ap first_id (log_is ∙ f)))
                    ∙ fits in
                    inl (first_zero y g)
                  where
                    first_zero : (y : LogIdOf C) → fits_purged_next 0 (Some y) ≡ true → y.index ≡ 0
                    first_zero y g = let le : y.index ≤ 0 = grind (arith, nat_tests) in omega (arith, le)

        in_row : (i : ℕ) (xs : List (LogIdOf C)) (x : LogIdOf C) → From i xs → IsAmong x xs → (i ≤ x.index) × (id_at xs x.index ≡ Some x)
        in_row i [] x h none = absurd none
        in_row i (y ∷ ys) x h (inl same) =
            let h0 = h.0 in
            let n : x.index ≡ y.index = ap (λ (z : LogIdOf C). z.index) same in
            let t : (y.index == x.index) ≡ true = grind (arith, nat_tests) in
            (omega (arith, h0, n), rw t (ap (λ (z : LogIdOf C). Some z) (sym same)))
        in_row i (y ∷ ys) x h (inr later) =
            let h0 = h.0 in
            let r = in_row (i + 1) ys x h.1 later in
            let r0 = r.0 in
            let t : (y.index == x.index) ≡ false = grind (arith, nat_tests) in
            (omega (arith, r0), rw t r.1)

        in_log : (x : LogIdOf C) → IsAmong x (entry_ids past) → id_at (full_log (w.servers s).log_ids) x.index ≡ Some x
        in_log x among =
            d.disk.log x.index x (in_row (first_index (disk_ids logs.eq d.meta d.stored)) (disk_ids logs.eq d.meta d.stored) x disk_row
            (among_second x (snapshot_ids d.meta.last_log_id) (entry_ids past) among)).1

        begins : (o : Option (LogIdOf C)) → d.meta.last_log_id ≡ o
            → ((o ≡ None) × (start_of c.initial o d.meta.last_membership ≡ both_are 0 c.initial))
            ⊎ StartsAt (viewed ids node_eq kind logs c) s (world_seen c.initial w) (world_seen c.initial v) o
            (start_of c.initial o d.meta.last_membership)
        begins None e = inl (refl, refl)
        begins (Some upto) e = inr (record {
          upto = upto;
          held_at = seen_at (log_id_of d.meta.last_membership);
          held = seen_configs c.initial (log_id_of d.meta.last_membership) (membership_of d.meta.last_membership).configs;
          is = refl;
          logged = d.disk.log upto.index upto
              (in_row (first_index (disk_ids logs.eq d.meta d.stored)) (disk_ids logs.eq d.meta d.stored) upto disk_row
              (subst (λ (o : Option (LogIdOf C)). IsAmong upto (snapshot_ids o ++ entry_ids past)) (sym e) (inl refl))).1;
          is_committed = (let n : next_index d.meta.last_log_id ≡ upto.index + 1 = ap next_index e in let m = d.disk.snapshot in
              omega (arith, n, m));
          built = in_network c.initial (Built upto (log_id_of d.meta.last_membership) (membership_of d.meta.last_membership).configs) _
              w.network (d.built upto e) (inl refl);
          both = refl;
        })

        ends : (o : Option (LogIdOf C)) (xs : List (LogIdOf C)) → last_id (snapshot_ids o ++ xs) ≡ option_or (last_id xs) o
        ends None xs = sym (or_none (last_id xs))
          where
            or_none : (o : Option (LogIdOf C)) → option_or o None ≡ o
            or_none None = refl
            or_none (Some x) = refl
        ends (Some y) [] = refl
        ends (Some y) (x ∷ xs) = sym (or_last x xs)
          where
            or_last : (x : LogIdOf C) (xs : List (LogIdOf C)) → option_or (last_id (x ∷ xs)) (Some y) ≡ last_id (x ∷ xs)
            or_last x [] = refl
            or_last x (z ∷ zs) = or_last z zs

        meta_named : (upto : LogIdOf C) → d.meta.last_log_id ≡ Some upto → Named d.meta.last_membership
        meta_named upto e =
            holds.messages (Built upto (log_id_of d.meta.last_membership) (membership_of d.meta.last_membership).configs) (d.built upto e)

        known_more : MaySettle (next_index (v.servers s).committed)
            (after_ids (holds_of past) (entry_ids past) (start_of c.initial d.meta.last_log_id d.meta.last_membership))
            (members_seen c.initial (v.servers s).membership_state)
            × (((v.servers s).committed ≡ greater_id logs.cmp d.meta.last_log_id d.known)
            ⊎ (next_index (v.servers s).committed
            ≤ suc (after_ids (holds_of past) (entry_ids past)
            (start_of c.initial d.meta.last_log_id d.meta.last_membership)).committed_at))
        known_more =
            restart_settles c.initial logs ids.eq node_eq (same_configs node_eq exact.nodes) (are_ordered laws.total)
            (holds_of past) d.meta past
            d.known d.call.committed.0 (v.servers s) (λ e a. (row_holds d.meta.last_log_id past row e a).1) d.call.committed.1
            d.call.allowed d.call.committed.2

        no_more : ((v.servers s).committed ≡ greater_id logs.cmp d.meta.last_log_id d.known)
            ⊎ (next_index (v.servers s).committed
            ≤ suc (after_ids (holds_of past) (entry_ids past)
            (start_of c.initial d.meta.last_log_id d.meta.last_membership)).committed_at)
            → (next_index (v.servers s).committed ≤ next_index (w.servers s).committed)
            ⊎ (next_index (v.servers s).committed
            ≤ suc (after_ids (holds_of past) (entry_ids past)
            (start_of c.initial d.meta.last_log_id d.meta.last_membership)).committed_at)
        no_more (inr low) = inr low
        no_more (inl e) = inl (pick (id_lt logs.cmp d.meta.last_log_id d.known) e)
          where
            pick : (b : Bool) → (v.servers s).committed ≡ (if b then d.known else d.meta.last_log_id)
                → next_index (v.servers s).committed ≤ next_index (w.servers s).committed
            pick true f = (let n = ap next_index f in let m = d.no_more in omega (arith, n, m))
            pick false f = (let n = ap next_index f in let m = d.disk.snapshot in omega (arith, n, m))

    purge_seen : Purges ids node_eq kind logs c s w v → IsSeenStep s w v
    purge_seen d = record {
      does = SeesPurge (record {
        next = (v.servers s).purged_next;
        left = full_log (v.servers s).log_ids;
        is_committed = (let n = ap (λ (x : RaftStateIn K N I L C). x.purged_next) d.rest in let m = d.is_known in
            omega (arith, n, m));
        same_end = ap last_id d.log ∙ keeps.1;
        kept = λ i x at. keeps.0 i x (ap (λ (l : List (LogIdOf C)). id_at l i) (sym d.log) ∙ at);
        call = same_state (seen (v.servers s)) (record (seen (w.servers s)) {
          ids = full_log (v.servers s).log_ids;
          purged_next = (v.servers s).purged_next;
        }) (ap vote_of d.rest) refl refl (ap (λ (x : RaftStateIn K N I L C). x.committed) d.rest);
        sends = ap (seen_network c.initial) d.sends;
        members = same_members_seen (ap (λ (x : RaftStateIn K N I L C). x.membership_state) d.rest);
      });
      grows = none_sent d.sends;
      campaign = same_campaign d.campaign (none_sent d.sends);
      named = same_named (ap (λ (x : RaftStateIn K N I L C). x.membership_state) d.rest);
      messages = no_messages d.sends;
    }
      where
        keeps : ((i : ℕ) (y : LogIdOf C) → id_at (log_after_purge (full_log (w.servers s).log_ids) d.upto) i ≡ Some y
            → id_at (full_log (w.servers s).log_ids) i ≡ Some y)
            × (last_id (log_after_purge (full_log (w.servers s).log_ids) d.upto) ≡ last_id (full_log (w.servers s).log_ids))
        keeps = purge_keeps logs.cmp (w.servers s).log_ids d.upto (is_key_list logs.cmp (w.servers s).log_ids (holds.keys s)) d.logged

    else_seen : ChangesElse ids node_eq kind logs c s w v → IsSeenStep s w v
    else_seen d = record {
      does = idle d.same d.members (ap (seen_network c.initial) d.sends);
      grows = none_sent d.sends;
      campaign = same_campaign d.campaign (none_sent d.sends);
      named = same_named d.members;
      messages = no_messages d.sends;
    }

    build_seen : BuildsSnapshot ids node_eq kind logs c s w v → IsSeenStep s w v
    build_seen d = record {
      does = SeesBuild (record {
        upto = d.upto;
        logged = d.logged;
        past_committed = low (log_id_of (w.servers s).membership_state.committed) d.past_committed;
        call = d.same;
        members = same_members_seen d.members;
        sends = ap (seen_network c.initial) d.sends ∙ by (log_id_of (w.servers s).membership_state.effective) refl;
      });
      grows = one_sent (Built d.upto (log_id_of held) (membership_of held).configs) d.sends;
      campaign = same_campaign d.campaign (one_sent (Built d.upto (log_id_of held) (membership_of held).configs) d.sends);
      named = same_named d.members;
      messages = one_message (Built d.upto (log_id_of held) (membership_of held).configs) d.sends
          (held_named (is_covered d.upto.index (w.servers s).membership_state));
    }
      where
        held : StoredMembershipOf C K N
        held = in_effect_at d.upto.index (w.servers s).membership_state

        held_named : (b : Bool) → Named (if b then (w.servers s).membership_state.effective else (w.servers s).membership_state.committed)
        held_named true = (holds.named s).effective
        held_named false = (holds.named s).committed

        low : (o : Option (LogIdOf C)) → index_le (index_of o) (Some d.upto.index) ≡ true → seen_at o ≤ d.upto.index
        low None h = omega arith
        low (Some id) h = grind (arith, nat_tests)

        by : (o : Option (LogIdOf C)) → log_id_of (w.servers s).membership_state.effective ≡ o
            → SeenBuilt d.upto (seen_at (log_id_of held)) (seen_configs c.initial (log_id_of held) (membership_of held).configs)
            ∷ seen_network c.initial w.network
            ≡ SeenBuilt d.upto (after_cut d.upto.index (members_seen c.initial (w.servers s).membership_state)).effective_at
            (after_cut d.upto.index (members_seen c.initial (w.servers s).membership_state)).effective
            ∷ seen_network c.initial w.network
        by o e =
            pick (is_covered d.upto.index (w.servers s).membership_state)
            (nat_lt d.upto.index (seen_at (log_id_of (w.servers s).membership_state.effective)))
            (covers (log_id_of (w.servers s).membership_state.effective))
          where
            covers : (o : Option (LogIdOf C)) → index_le (index_of o) (Some d.upto.index) ≡ not (nat_lt d.upto.index (seen_at o))
            covers None = (let t : nat_lt d.upto.index 0 ≡ false = grind (arith, nat_tests) in rw t refl)
            covers (Some id) = by_le (nat_lt d.upto.index id.index) refl
              where
                by_le : (b : Bool) → nat_lt d.upto.index id.index ≡ b → index_le (Some id.index) (Some d.upto.index) ≡ not b
                by_le true f = by_cmp (index_le (Some id.index) (Some d.upto.index)) refl
                  where
                    by_cmp : (t : Bool) → index_le (Some id.index) (Some d.upto.index) ≡ t
                        → index_le (Some id.index) (Some d.upto.index) ≡ false
                    by_cmp false g = g
                    by_cmp true g = absurd (grind (arith, nat_tests))
                by_le false f = by_cmp (index_le (Some id.index) (Some d.upto.index)) refl
                  where
                    by_cmp : (t : Bool) → index_le (Some id.index) (Some d.upto.index) ≡ t
                        → index_le (Some id.index) (Some d.upto.index) ≡ true
                    by_cmp true g = g
                    by_cmp false g = absurd (grind (arith, nat_tests))

            pick : (a b : Bool) → a ≡ not b
                → SeenBuilt d.upto
                (seen_at (log_id_of (if a then (w.servers s).membership_state.effective else (w.servers s).membership_state.committed)))
                (seen_configs c.initial
                (log_id_of (if a then (w.servers s).membership_state.effective else (w.servers s).membership_state.committed))
                (membership_of (if a then (w.servers s).membership_state.effective
                else (w.servers s).membership_state.committed)).configs) ∷ seen_network c.initial w.network
                ≡ SeenBuilt d.upto
                (if b then record {
                  committed = (members_seen c.initial (w.servers s).membership_state).committed;
                  committed_at = (members_seen c.initial (w.servers s).membership_state).committed_at;
                  effective = (members_seen c.initial (w.servers s).membership_state).committed;
                  effective_at = (members_seen c.initial (w.servers s).membership_state).committed_at;
                } else members_seen c.initial (w.servers s).membership_state).effective_at
                (if b then record {
                  committed = (members_seen c.initial (w.servers s).membership_state).committed;
                  committed_at = (members_seen c.initial (w.servers s).membership_state).committed_at;
                  effective = (members_seen c.initial (w.servers s).membership_state).committed;
                  effective_at = (members_seen c.initial (w.servers s).membership_state).committed_at;
                } else members_seen c.initial (w.servers s).membership_state).effective ∷ seen_network c.initial w.network
            pick true true f = absurd (true≢false f)
            pick true false f = refl
            pick false true f = refl
            pick false false f = absurd (false≢true f)

    does_seen : DoesOne ids node_eq kind logs c s w v → IsSeenStep s w v
    does_seen (OneVote d) = vote_seen d
    does_seen (OneAppend d) = append_seen d
    does_seen (OneSnapshot d) = snapshot_seen d
    does_seen (OneHearing d) = hearing_seen d
    does_seen (OneCampaign d) = campaign_seen d
    does_seen (OneCount d) = count_seen d
    does_seen (OneElection d) = election_seen d
    does_seen (OneProposal d) = proposal_seen d
    does_seen (OneSend d) = send_seen d
    does_seen (OneHeartbeat d) = heartbeat_seen d
    does_seen (OneSendSnapshot d) = send_snapshot_seen d
    does_seen (OneCommit d) = commit_seen d
    does_seen (OneRestart d) = restart_seen d
    does_seen (OnePurge d) = purge_seen d
    does_seen (OneChange d) = change_seen d
    does_seen (OneBuild d) = build_seen d
    does_seen (OneElse d) = else_seen d

  -- ---- runs

  record StepIsSeen (w v : World K N I L C D) : Type 0 where
    step : SeenStep (viewed ids node_eq kind logs c) (world_seen c.initial w) (world_seen c.initial v)
    holds : Holds v

  step_seen : (w v : World K N I L C D) → Holds w → Step ids node_eq kind logs c w v → StepIsSeen w v
  step_seen w v holds st = record {
    step = record {
      server = st.server;
      does = is.does;
      others = λ r e. ap seen (st.others r e);
      other_members = λ r e. ap (λ (x : RaftStateIn K N I L C). members_seen c.initial x.membership_state) (st.others r e);
    };
    holds = record {
      sound = λ r. sound r (ids.eq st.server r) refl;
      keys = λ r. keys r (ids.eq st.server r) refl;
      campaign = λ r. campaign r (ids.eq st.server r) refl;
      named = λ r. named r (ids.eq st.server r) refl;
      messages = is.messages;
    };
  }
    where
      is : IsSeenStep st.server w v
      is = does_seen st.server w v holds (st.sound (holds.sound st.server)) st.keys st.does

      sound : (r : K) (b : Bool) → ids.eq st.server r ≡ b → IsSound logs.eq logs.cmp (v.servers r)
      sound r true e =
          subst (λ (x : K). IsSound logs.eq logs.cmp (v.servers x)) (exact.nodes st.server r e) (st.sound (holds.sound st.server))
      sound r false e = subst (λ (x : RaftStateIn K N I L C). IsSound logs.eq logs.cmp x) (sym (st.others r e)) (holds.sound r)

      keys : (r : K) (b : Bool) → ids.eq st.server r ≡ b → may_be_keys logs.cmp (v.servers r).log_ids ≡ true
      keys r true e = subst (λ (x : K). may_be_keys logs.cmp (v.servers x).log_ids ≡ true) (exact.nodes st.server r e) st.keys
      keys r false e =
          subst (λ (x : RaftStateIn K N I L C). may_be_keys logs.cmp x.log_ids ≡ true) (sym (st.others r e)) (holds.keys r)

      named : (r : K) (b : Bool) → ids.eq st.server r ≡ b → AreNamed (v.servers r).membership_state
      named r true e = subst (λ (x : K). AreNamed (v.servers x).membership_state) (exact.nodes st.server r e) is.named
      named r false e =
          subst (λ (x : RaftStateIn K N I L C). AreNamed x.membership_state) (sym (st.others r e)) (holds.named r)

      campaign : (r : K) (b : Bool) → ids.eq st.server r ≡ b → (x : Campaign K N L C) → v.campaigns r ≡ Some x → IsCampaign v r x
      campaign r true e =
          subst (λ (y : K). (x : Campaign K N L C) → v.campaigns y ≡ Some x → IsCampaign v y x) (exact.nodes st.server r e) is.campaign
      campaign r false e = λ x at.
          campaign_grows w v is.grows r x (holds.campaign r x (sym (st.other_campaigns r e) ∙ at))

  first_seen : (w : World K N I L C D) → IsFirst ids node_eq kind logs c w
      → IsSeenFirst (viewed ids node_eq kind logs c) (world_seen c.initial w)
  first_seen w f = record {
    in_use = λ s. inl (ap (λ (x : VoteIn L). x.leader_id) ((f.server s).vote));
    no_vote = λ s. ap (λ (x : VoteIn L). kind.term_of x.leader_id) ((f.server s).vote) ∙ is_cluster.start_term;
    ids = λ s. (f.server s).log;
    purged = λ s. (let z = (f.server s).purged in omega (arith, z));
    committed = λ s. (f.server s).committed;
    sent = ap (seen_network c.initial) f.nothing_sent;
    members = λ s. both (w.servers s).membership_state.committed (w.servers s).membership_state.effective
        ((f.server s).committed_membership) ((f.server s).effective_membership);
  }
    where
      one : (m : StoredMembershipOf C K N) → IsInitial c.initial m
          → (seen_at (log_id_of m) ≡ 0) × (seen_configs c.initial (log_id_of m) (membership_of m).configs ≡ c.initial)
      one m (inl (none, empty)) = (
        ap seen_at none,
        ap (λ (o : Option (LogIdOf C)). seen_configs c.initial o
            (membership_of m).configs) none,
      )
      one m (inr (id, at, zero_at, is)) = (
        ap seen_at at ∙ zero_at,
        ap (λ (o : Option (LogIdOf C)). seen_configs c.initial o (membership_of m).configs) at ∙ is,
      )

      both : (x y : StoredMembershipOf C K N) → IsInitial c.initial x → IsInitial c.initial y
          → members_seen c.initial (record { committed = x; effective = y }) ≡ both_are 0 c.initial
      both x y is_x is_y = let a = one x is_x in let b = one y is_y in rw (a.0, a.1, b.0, b.1) refl

  first_holds : (w : World K N I L C D) → IsFirst ids node_eq kind logs c w → Holds w
  first_holds w f = record {
    sound = λ s. (f.server s).sound;
    keys = λ s. (f.server s).keys;
    campaign = λ s x at. absurd (none_there x (sym (f.no_campaign s) ∙ at));
    named = λ s. record {
      committed = named (w.servers s).membership_state.committed (f.server s).committed_membership;
      effective = named (w.servers s).membership_state.effective (f.server s).effective_membership;
    };
    messages = λ m among. absurd (subst (λ (ms : List (Message K N L C D)). IsAmong m ms) f.nothing_sent among);
  }
    where
      named : (m : StoredMembershipOf C K N) → IsInitial c.initial m → Named m
      named m (inl (none, empty)) = λ _. empty
      named m (inr (id, at, zero_at, is)) = named_some m id at

      none_there : (x : Campaign K N L C) → None ≡ Some x → ⊥
      none_there x e = cc

  record RunIsSeen (w : World K N I L C D) (ws : List (World K N I L C D)) : Type 0 where
    run : IsSeenRun (viewed ids node_eq kind logs c) (world_seen c.initial w) (map (world_seen c.initial) ws)
    holds : Holds w

  run_seen : (w : World K N I L C D) (ws : List (World K N I L C D)) → IsRun ids node_eq kind logs c w ws → RunIsSeen w ws
  run_seen w [] f = record { run = first_seen w f; holds = first_holds w f }
  run_seen w (v ∷ vs) run =
      let before = run_seen v vs run.1 in
      let st = step_seen v w before.holds run.0 in
      record { run = (st.step, before.run); holds = st.holds }

  agree : (w : World K N I L C D) (ws : List (World K N I L C D)) → IsRun ids node_eq kind logs c w ws → (u v : World K N I L C D)
      → IsAmong u (w ∷ ws) → IsAmong v (w ∷ ws) → CommittedAgree u v × CommittedMembersAgree u v
  agree w ws run u v in_u in_v = (same_ids_there, same_members_there)
    where
      both : SeenAgree (viewed ids node_eq kind logs c) (world_seen c.initial u) (world_seen c.initial v)
          × MembersAgree (world_seen c.initial u) (world_seen c.initial v)
      both =
          runs_are_safe (viewed ids node_eq kind logs c) (is_viewed node_eq laws exact c is_cluster)
          (inl refl) (not_first laws exact c is_cluster) (world_seen c.initial w)
          (map (world_seen c.initial) ws) (run_seen w ws run).run (world_seen c.initial u) (world_seen c.initial v)
          (among_mapped (world_seen c.initial) u (w ∷ ws) in_u) (among_mapped (world_seen c.initial) v (w ∷ ws) in_v)

      same_ids_there : CommittedAgree u v
      same_ids_there s r i x y low low' at at' =
          let same = both.0 s r i x y low low' at at' in
          let a = index_found (full_log (u.servers s).log_ids) i x at in
          let b = index_found (full_log (v.servers r).log_ids) i y at' in
          let n : x.index ≡ y.index = a ∙ sym b in
          λ j. record { leader_id = same j; index = n j }

      same_members_there : CommittedMembersAgree u v
      same_members_there s r x y at at' same =
          ap (λ (o : Option (LogIdOf C)). seen_configs c.initial o (membership_of (u.servers s).membership_state.committed).configs)
          (sym at)
          ∙ both.1 s r (ap seen_at at ∙ same ∙ sym (ap seen_at at'))
          ∙ ap (λ (o : Option (LogIdOf C)). seen_configs c.initial o (membership_of (v.servers r).membership_state.committed).configs)
          at'

pub are_safe : {K N L C : Type 0} (I D : Type 0) {ids : OrdMembers K} (node_eq : N → N → Bool) {kind : LeaderMembers L K C}
    {logs : OrdMembers C} → Laws ids kind logs → RunsAreSafe I D ids node_eq kind logs
are_safe I D node_eq laws exact_ids exact_leaders exact_logs c is_cluster w ws run u v in_u in_v =
    agree node_eq laws (record { nodes = exact_ids; leaders = exact_leaders; committed = exact_logs }) c is_cluster w ws run u v in_u in_v
