-- Runs of servers are safe.
use Rattle.std.specs.Prelude.{◌≡◌, ◌⊎◌, ◌<◌, ◌≤◌, ◌+◌, ◌-◌, ◌&&◌, ℕ, zero, suc, Bool, true, false, if◌then◌else◌, List, [], ◌∷◌, ◌++◌, length, drop, take, slice_get, Option, Some, None, ◌==◌, nat_eq, nat_le}
use Rattle.std.proofs.Common.{refl, sym, ap, subst, ◌∙◌, inl, inr, arith, true≢false}
use Rattle.std.proofs.lemmas.Bool.{and_parts, cases_lt, or_parts}
use Rattle.std.proofs.lemmas.List.{length-append, length-take, length-take-le}
use Rattle.raft_base.specs.declared.log_id.LogIdOf.{LogIdOf}
use Rattle.raft_base.specs.declared.vote.VoteIn.{VoteIn}
use Rattle.raft_base.specs.LogId.{index_of, next_index, same_ids}
use Rattle.raft_base.specs.Vote.{vote_cmp}
use Rattle.steps_handlers.specs.Follow.{committed_vote_of}
use Rattle.std.specs.Ordering.{partial_ge}
use Rattle.safety_laws.specs.Log.{Entry, IsPrefix}
use Rattle.safety_laws.specs.Events.{Ack, Append, Event, GrantVote, History, log_after, term_after}
use Rattle.safety_laws.specs.Facts.{HasAcked, HasVoted, IsCommitted, IsElected, appended}
use Rattle.safety_laws.specs.Rules.{FollowsRaft, MayAck, MayAppend, MayGrantVote}
use Rattle.safety_laws.specs.Apply.{IsKnownCommitted}
use Rattle.safety_laws.specs.Configs.{MayProposeConfig, effective_config, is_quorum}
use Rattle.safety_laws.specs.Execution.{FactsAreStable, LeaderAppends, Next, ServerStep, StartsCampaign}
use Rattle.safety_laws.specs.Ranks.{IsAmong}
use Rattle.raft_state.specs.log_id_list.LogReads.{id_at, last_id}
use Rattle.steps_safety.specs.Server.{IsIdAt, IsInLog, IsLastId, IsServer, KnowsCommitted, State}
use Rattle.steps_safety.specs.Voting.{IsAsked}
use Rattle.steps_safety.specs.Appending.{AllInLog, InLogIfAny, IsSent, IsSnapshotSent}
use Rattle.steps_safety.specs.Electing.{KnowsMatches}
use Rattle.steps_safety.proofs.Stepping.{SeenCluster, GoesOn, IsSeenCluster, IsMatched, IsPast, IsPromised, IsVoted, StepLeaves, at_server}
use Rattle.steps_safety.proofs.Views.{SeenAgree, Commits, SeenDoes, HandlesConflict, HandlesMatch, HandlesVote, Hears, IsSeenFirst, IsMadeLeader, IsSeenRun, Leads, SeenMessage, SeesCampaign, SeesCommit, SeesConflict, SeesElection, SeesMatch, SeesHearing, SeesPurge, SeesRefusal, SeesRestart, SeesSendSnapshot, SeesSnapshot, HandlesSnapshot, SendsSnapshot, SeenSnapshot, SeesSend, SeesVote, SeesWrite, Campaigns, Purges, Refuses, Restarts, SeenRunsAreSafe, Sends, SeenAsked, SeenVoted, SeenPromised, SeenSent, SeenMatched, SeenWorld, Writes, uncommitted, Idles, SeesIdle, Builds, Counts, MayChange, MembersAgree, MaySettle, SeenBuilt, SeenCounts, SeenWrote, SeesBuild, StartsAt, after_fresh, AfterUpdate}
use Rattle.steps_safety.proofs.Calls.{InstallShape, MatchShape, are_consecutive, fresh_of, place, purged_or_logged}
use Rattle.steps_safety.proofs.Whole.{IsWhole}
use Rattle.steps_safety.proofs.Members.{Members, after_cut, after_ids, after_member, both_are}
use Rattle.safety_laws.proofs.lemmas.ConfigLemmas.{same_named, upto, upto_fits}
use Rattle.steps_safety.proofs.MembersLemmas.{Appended, IsBefore, ShowsMembers, cut_keeps, cut_shows, earlier_part, first_shows, member_shows, none_past, settled_shows, take_all}
use Rattle.steps_safety.proofs.ConfigSteps.{HoldsTruly, end_is, end_of, ids_show, own_committed, server_knows_before}
use Rattle.steps_safety.proofs.ConfigFacts.{AllHoldTruly, CountsBy, HasMembers, IsBuilt, IsWritten, SnapshotHolds, all_among, built_in, built_of, drop_among, members_stay, snapshot_still_holds, still_built, still_counts, still_hold, still_written, written_in, written_in_part}
use Rattle.std.specs.List.{prefix_len}
use Rattle.std.specs.Option.{option_or}
use Rattle.std.proofs.lemmas.Bool.Decides.{nat_tests}
use Rattle.safety_laws.proofs.lemmas.PrefixLemmas.{append-nil, prefix_itself, prefix_length, prefix_same, prefix_take, prefix_trans, take_within}
use Rattle.safety_laws.proofs.lemmas.ServerLemmas.{IsFrom, had_now, log_from, voted_once, voted_term}
use Rattle.safety_laws.proofs.lemmas.ExecutionLemmas.{all_times_agree, execution_keeps_facts, step_keeps_facts}
use Rattle.steps_safety.proofs.AppendingLemmas.{at_within, drop_next, get_within, index_found, prefix_get, take_get, take_of_prefix}
use Rattle.steps_safety.proofs.ElectingLemmas.{acked_less, commits_by_rule, own_past}
use Rattle.steps_safety.proofs.KnownLemmas.{leader_knows, less_known, part_known}
use Rattle.steps_safety.proofs.PlaceLemmas.{some_same}
use Rattle.steps_safety.proofs.VotingLemmas.{IsNoLesser, hears_by_rule, no_lesser}
use Rattle.steps_safety.proofs.SteppingLemmas.{Q, appends_are_steps, follows, grows_in, installs_are_steps, moves, nothing_done, one_event, own_events, safe, still, steps_stay, votes_are_steps, with_event}

-- the first element that is left after the longest prefix that passes a test fails it
first_fails : {A : Type 0} (p : A → Bool) (xs : List A) (y : A) (ys : List A) → drop (prefix_len p xs) xs ≡ y ∷ ys → p y ≡ false
first_fails p [] y ys e = cc
first_fails {A} p (x ∷ xs) y ys e = by (p x) refl e (first_fails p xs y ys)
  where
    by : (b : Bool) → p x ≡ b → drop (if b then 1 + prefix_len p xs else 0) (x ∷ xs) ≡ y ∷ ys
        → (drop (prefix_len p xs) xs ≡ y ∷ ys → p y ≡ false) → p y ≡ false
    by true h e rest = rest (sym (drop_next (prefix_len p xs) x xs) ∙ e)
    by false h e rest = let same : x ≡ y = cc in rw same at h

module _ {L C K D M : Type 0} (c : SeenCluster L C K D M) where
  -- a vote for the server itself: the leader's log is the log of the server, with which it campaigns, and
  -- once it is committed, it is elected, and has acknowledged what it has written
  record IsOwn (h : History C K D) (s : K) (x : State L C) : Type 0 where
    log : h.leader_log (c.kind.committed x.vote.leader_id) s ≡ log_after (h.events s)
    asked : x.vote.committed ≡ false → h.candidate_log (c.kind.committed x.vote.leader_id) s ≡ log_after (h.events s)
    is_elected : x.vote.committed ≡ true
        → IsElected c.rank (is_quorum c.rank c.config_of c.initial c.quorum_of) h (c.kind.committed x.vote.leader_id) s
    acked : x.vote.committed ≡ true
        → length (h.candidate_log (c.kind.committed x.vote.leader_id) s) < length (h.leader_log (c.kind.committed x.vote.leader_id) s)
        → HasAcked (c.kind.committed x.vote.leader_id) s (length (h.leader_log (c.kind.committed x.vote.leader_id) s)) (h.events s)

  abbrev OwnVote : History C K D → K → State L C → Type 0
  OwnVote h s x = c.kind.voted x.vote.leader_id ≡ Some s → 0 < c.kind.term_of x.vote.leader_id → IsOwn h s x

  -- a message is true
  abbrev IsHonest : History C K D → SeenMessage L C K M → Type 0
  IsHonest h (SeenAsked vote last) =
      (r : K) → (c.kind.voted vote.leader_id ≡ Some r → ⊥) → IsAsked c.kind (at_server c h r) vote last
  IsHonest h (SeenVoted r vote) = IsVoted c h r vote
  IsHonest h (SeenPromised vote) = IsPromised c h vote
  IsHonest h (SeenSent leader prev ids committed holds) =
      ((r : K) → IsSent c.kind (at_server c h r) leader prev ids committed) × AllHoldTruly c h leader ids holds
  IsHonest h (SeenMatched r leader upto) = IsMatched c h r leader upto
  IsHonest h (SeenSnapshot leader upto held_at held) =
      ((r : K) → IsSnapshotSent c.kind (at_server c h r) leader upto) × SnapshotHolds c h leader upto held_at held
  IsHonest h (SeenWrote x holds) = IsWritten c h x holds
  IsHonest h (SeenCounts leader m) = CountsBy c h leader m
  IsHonest h (SeenBuilt upto held_at held) = IsBuilt c h upto held_at held

  -- what every step keeps
  record Inv (w : SeenWorld L C K M) : Type 0 where
    h : History C K D
    earlier : List (History C K D)
    past : IsPast c h earlier
    server : (s : K) → IsServer c.kind (at_server c h s) (w.servers s) (h.events s)
    own : (s : K) → OwnVote h s (w.servers s)
    promised : (s : K) → IsPromised c h (w.servers s).vote
    honest : (m : SeenMessage L C K M) → IsAmong m w.network → IsHonest h m
    members : (s : K) → HasMembers c h s (w.members s)

-- and all earlier histories stay earlier ones
record Carried {L C K D M : Type 0} (c : SeenCluster L C K D M) (w v : SeenWorld L C K M) (inv : Inv c w) : Type 0 where
  now : Inv c v
  kept : (g : History C K D) → IsAmong g (inv.h ∷ inv.earlier) → IsAmong g (now.h ∷ now.earlier)

module _ {L C K D M : Type 0} (c : SeenCluster L C K D M) (is_cluster : IsSeenCluster c) (w v : SeenWorld L C K M) (inv : Inv c w) (s : K)
    (others : (r : K) → c.same_node s r ≡ false → v.servers r ≡ w.servers r)
    (other_members : (r : K) → c.same_node s r ≡ false → v.members r ≡ w.members r) where
  still_honest : (after : History C K D) → GoesOn c s inv.h inv.earlier after → (m : SeenMessage L C K M) → IsHonest c inv.h m
      → IsHonest c after m
  still_honest after goes m is = by m is
    where
      left : StepLeaves c s inv.h after
      left = steps_stay c is_cluster inv.h after inv.earlier s inv.past goes

      by : (m : SeenMessage L C K M) → IsHonest c inv.h m → IsHonest c after m
      by (SeenAsked vote last) is = λ r other. left.asked r vote last (is r other)
      by (SeenVoted r vote) is = left.voted r vote is
      by (SeenPromised vote) is = left.promised vote is
      by (SeenSent leader prev ids committed holds) is = (
        λ r. left.sent r leader prev ids committed (is.0 r),
        still_hold c is_cluster inv.h after goes.stable leader ids holds
            (is.0 s).by_node (is.0 s).is_for (is.0 s).elected_in is.1,
      )
      by (SeenMatched r leader upto) is = left.matched r leader upto is
      by (SeenSnapshot leader upto held_at held) is = (
        λ r. left.snapshot_sent r leader upto (is.0 r),
        snapshot_still_holds c is_cluster inv.h after goes.stable leader upto held_at held s
            (is.0 s) is.1,
      )
      by (SeenWrote x holds) is = still_written c is_cluster inv.h after goes.stable x holds is
      by (SeenCounts leader m) is = still_counts c is_cluster inv.h after goes.stable leader m is
      by (SeenBuilt upto held_at held) is = still_built c is_cluster inv.h after goes.stable upto held_at held is

  -- what is to be shown of a step: of its server, and of what it sends
  carry : (after : History C K D) → GoesOn c s inv.h inv.earlier after
      → IsServer c.kind (at_server c after s) (v.servers s) (after.events s)
      → OwnVote c after s (v.servers s) → IsPromised c after (v.servers s).vote
      → ((m : SeenMessage L C K M) → IsAmong m v.network → IsAmong m w.network ⊎ IsHonest c after m)
      → HasMembers c after s (v.members s) → Carried c w v inv
  carry after goes is own promised sent has = record {
    now = record {
      h = after;
      earlier = goes.earlier;
      past = goes.past;
      server = λ r. server r (c.same_node s r) refl;
      own = λ r. owns r (c.same_node s r) refl;
      promised = λ r. true_vote r (c.same_node s r) refl;
      honest = λ m among. honest m (sent m among);
      members = λ r. members r (c.same_node s r) refl;
    };
    kept = goes.kept;
  }
    where
      left : StepLeaves c s inv.h after
      left = steps_stay c is_cluster inv.h after inv.earlier s inv.past goes

      server : (r : K) (b : Bool) → c.same_node s r ≡ b → IsServer c.kind (at_server c after r) (v.servers r) (after.events r)
      server r true e =
          subst (λ (x : K). IsServer c.kind (at_server c after x) (v.servers x) (after.events x)) (is_cluster.nodes s r e) is
      server r false e =
          subst (λ (x : State L C). IsServer c.kind (at_server c after r) x (after.events r)) (sym (others r e))
          (left.servers r (w.servers r) e (inv.server r))

      apart : (r : K) → c.same_node s r ≡ false → OwnVote c after r (w.servers r)
      apart r e is_own term =
          let o = inv.own r is_own term in
          let t = c.kind.committed (w.servers r).vote.leader_id in
          let logs = goes.logs t r e in
          let same = goes.others r e in
          record {
            log = logs.1 ∙ o.log ∙ ap log_after (sym same);
            asked = λ u. logs.0 ∙ o.asked u ∙ ap log_after (sym same);
            is_elected = λ u. (goes.stable.elected t r (o.is_elected u)).0;
            acked = λ u lt.
                rw (logs.1, same) (o.acked u (omega (arith, lt, ap length logs.0, ap length logs.1)));
          }

      owns : (r : K) (b : Bool) → c.same_node s r ≡ b → OwnVote c after r (v.servers r)
      owns r true e = subst (λ (x : K). OwnVote c after x (v.servers x)) (is_cluster.nodes s r e) own
      owns r false e = subst (λ (x : State L C). OwnVote c after r x) (sym (others r e)) (apart r e)

      true_vote : (r : K) (b : Bool) → c.same_node s r ≡ b → IsPromised c after (v.servers r).vote
      true_vote r true e = subst (λ (x : K). IsPromised c after (v.servers x).vote) (is_cluster.nodes s r e) promised
      true_vote r false e =
          subst (λ (x : State L C). IsPromised c after x.vote) (sym (others r e)) (left.promised (w.servers r).vote (inv.promised r))

      members : (r : K) (b : Bool) → c.same_node s r ≡ b → HasMembers c after r (v.members r)
      members r true e = subst (λ (x : K). HasMembers c after x (v.members x)) (is_cluster.nodes s r e) has
      members r false e =
          subst (λ (x : Members M). HasMembers c after r x) (sym (other_members r e))
          (members_stay c is_cluster inv.h inv.earlier inv.past after goes.stable r (w.members r) (goes.others r e) (inv.members r))

      honest : (m : SeenMessage L C K M) → (IsAmong m w.network ⊎ IsHonest c after m) → IsHonest c after m
      honest m (inl old) = still_honest after goes m (inv.honest m old)
      honest m (inr new) = new

  -- the memberships of the server after a step: those of its log, with what the append brought, and then what is
  -- committed
  finish : (after : History C K D) → GoesOn c s inv.h inv.earlier after
      → IsServer c.kind (at_server c after s) (v.servers s) (after.events s)
      → ((n : ℕ) → KnowsCommitted c.rank (Q c is_cluster) inv.h (inv.h.events s) n
      → KnowsCommitted c.rank (Q c is_cluster) after (after.events s) n)
      → (m : Members M) → Appended c.config_of c.initial (log_after (after.events s)) (w.members s) m
      → MaySettle (next_index (v.servers s).committed) m (v.members s) → HasMembers c after s (v.members s)
  finish after goes is still_known m a settles = by settles
    where
      known : (i : ℕ) → m.committed_at ≡ suc i → KnowsCommitted c.rank (Q c is_cluster) after (after.events s) (suc i)
      known i at = pick a.committed
        where
          pick : ((m.committed_at ≡ (w.members s).committed_at) ⊎ IsBefore c.config_of c.initial (log_after (after.events s)) m)
              → KnowsCommitted c.rank (Q c is_cluster) after (after.events s) (suc i)
          pick (inl same) = still_known (suc i) ((inv.members s).known i (sym same ∙ at))
          pick (inr before) = server_knows_before c is_cluster after goes.earlier goes.past s i (sym before ∙ at)

      by : MaySettle (next_index (v.servers s).committed) m (v.members s) → HasMembers c after s (v.members s)
      by (inl same) = subst (λ (x : Members M). HasMembers c after s x) (sym same) (record { shows = a.shows; known = known })
      by (inr (same, low)) =
          subst (λ (x : Members M). HasMembers c after s x) (sym same)
          (record {
            shows = settled_shows c.config_of c.initial (log_after (after.events s)) m a.shows;
            known = λ i at.
                part_known c.rank (Q c is_cluster) after (after.events s) (next_index (v.servers s).committed) is.committed i
                (omega (arith, low, at));
          })

  -- nothing is appended
  unmoved : (after : History C K D) → log_after (after.events s) ≡ log_after (inv.h.events s)
      → Appended c.config_of c.initial (log_after (after.events s)) (w.members s) (w.members s)
  unmoved after same =
      rw same (record { shows = (inv.members s).shows; committed = inl refl })

  kept_members : v.members s ≡ w.members s → HasMembers c inv.h s (v.members s)
  kept_members e = subst (λ (x : Members M). HasMembers c inv.h s x) (sym e) (inv.members s)

  here : GoesOn c s inv.h inv.earlier inv.h
  here = nothing_done c is_cluster inv.h inv.earlier inv.past s

  same_sent : v.network ≡ w.network → (after : History C K D) → (m : SeenMessage L C K M) → IsAmong m v.network
      → IsAmong m w.network ⊎ IsHonest c after m
  same_sent e after m among = inl (subst (λ (n : List (SeenMessage L C K M)). IsAmong m n) e among)

  one_sent : (after : History C K D) (x : SeenMessage L C K M) → v.network ≡ x ∷ w.network → IsHonest c after x → (m : SeenMessage L C K M)
      → IsAmong m v.network → IsAmong m w.network ⊎ IsHonest c after m
  one_sent after x e is m among = by (subst (λ (n : List (SeenMessage L C K M)). IsAmong m n) e among)
    where
      by : IsAmong m (x ∷ w.network) → IsAmong m w.network ⊎ IsHonest c after m
      by (inl same) = inr (subst (λ (y : SeenMessage L C K M). IsHonest c after y) (sym same) is)
      by (inr old) = inl old

  two_sent : (after : History C K D) (x y : SeenMessage L C K M) → v.network ≡ x ∷ y ∷ w.network → IsHonest c after x → IsHonest c after y
      → (m : SeenMessage L C K M) → IsAmong m v.network → IsAmong m w.network ⊎ IsHonest c after m
  two_sent after x y e is also m among = by (subst (λ (n : List (SeenMessage L C K M)). IsAmong m n) e among)
    where
      by : IsAmong m (x ∷ y ∷ w.network) → IsAmong m w.network ⊎ IsHonest c after m
      by (inl same) = inr (subst (λ (z : SeenMessage L C K M). IsHonest c after z) (sym same) is)
      by (inr (inl same)) = inr (subst (λ (z : SeenMessage L C K M). IsHonest c after z) (sym same) also)
      by (inr (inr old)) = inl old

  -- the vote that the server has after a step is true
  vote_promised : (vote : VoteIn L) → IsPromised c inv.h vote → (after : History C K D) → GoesOn c s inv.h inv.earlier after
      → (v.servers s).vote ≡ vote → IsPromised c after (v.servers s).vote
  vote_promised vote is after goes e =
      subst (λ (x : VoteIn L). IsPromised c after x) (sym e)
      ((steps_stay c is_cluster inv.h after inv.earlier s inv.past goes).promised vote is)

  -- so is the vote of a leader
  leader_promised : (leader : L) (n : K) → IsAmong leader c.leaders → c.kind.voted leader ≡ Some n
      → IsElected c.rank (is_quorum c.rank c.config_of c.initial c.quorum_of) inv.h (c.kind.committed leader) n
      → (after : History C K D) → GoesOn c s inv.h inv.earlier after → (v.servers s).vote ≡ committed_vote_of leader
      → IsPromised c after (v.servers s).vote
  leader_promised leader n in_use for el =
      vote_promised (committed_vote_of leader) (record {
        in_use = in_use;
        own = λ m real same.
            subst (λ (x : K). HasVoted (c.kind.committed leader) x (inv.h.events x)) (some_same n m (sym for ∙ same)) el.for_itself;
        elected = λ m yes real same.
            subst (λ (x : K). IsElected c.rank (is_quorum c.rank c.config_of c.initial c.quorum_of) inv.h (c.kind.committed leader) x)
            (some_same n m (sym for ∙ same)) el;
      })

  not_own : (leader : L) (after : History C K D) → (c.kind.voted leader ≡ Some s → ⊥) → (v.servers s).vote.leader_id ≡ leader
      → OwnVote c after s (v.servers s)
  not_own leader after other e is_own term = absurd (other (ap c.kind.voted (sym e) ∙ is_own))

  -- ---- calls of the handlers of requests

  -- the log id at index 0 is new to a server only if its log is empty
  lone : (x : State L C) → IsServer c.kind (at_server c inv.h s) x (inv.h.events s) → IsWhole x.purged_next x.ids → (id : LogIdOf C)
      → id.index ≡ 0 → id.leader_id ≡ c.first → purged_or_logged c.kind.eq x (Some id) ≡ false → last_id x.ids ≡ None
  lone x is whole id zero_at first lacks = by (last_id x.ids) refl
    where
      parts : (nat_le (next_index (Some id)) x.purged_next ≡ false)
          × (same_ids c.kind.eq (id_at x.ids id.index) (Some id) ≡ false)
      parts = or_parts (nat_le (next_index (Some id)) x.purged_next) (same_ids c.kind.eq (id_at x.ids id.index) (Some id)) lacks

      low : x.purged_next ≤ 0
      low = let p = parts.0 in grind (arith, nat_tests)

      by : (o : Option (LogIdOf C)) → last_id x.ids ≡ o → last_id x.ids ≡ None
      by None e = e
      by (Some z) e =
          let y = whole.present 0 (omega (arith, low)) (let n : next_index (last_id x.ids) ≡ z.index + 1 = ap next_index e in
          omega (arith, n)) in
          let i : y.0.index ≡ 0 = index_found x.ids 0 y.0 y.1 in
          let own : y.0.leader_id ≡ c.first =
          subst (λ (n : ℕ). IsIdAt c.first (log_after (inv.h.events s)) n y.0) i (is.log.each 0 y.0 y.1).at in
          let same : y.0.leader_id ≡ id.leader_id = own ∙ sym first in
          let at : id_at x.ids id.index ≡ Some y.0 = ap (λ (n : ℕ). id_at x.ids n) zero_at ∙ y.1 in
          absurd (true≢false (sym (logged y.0 same i) ∙ sym (ap (λ (o : Option (LogIdOf C)). same_ids c.kind.eq o (Some id)) at)
          ∙ parts.1))
        where
          logged : (y : LogIdOf C) → y.leader_id ≡ id.leader_id → y.index ≡ 0 → same_ids c.kind.eq (Some y) (Some id) ≡ true
          logged y same i =
              let e : c.kind.eq y.leader_id id.leader_id ≡ true = rw same (is_cluster.ranked.itself id.leader_id) in
              let n : nat_eq y.index id.index ≡ true = grind (arith, nat_tests) in
              rw (e, n) refl

  handles_match : HandlesMatch c s w v → Carried c w v inv
  handles_match d =
      let sent = (inv.honest (SeenSent d.leader d.prev d.ids d.committed d.holds) d.message).0 s in
      let r = (appends_are_steps c is_cluster inv.h inv.earlier inv.past s d.leader d.prev d.ids d.committed (w.servers s) (v.servers s)
      (inv.server s) d.whole d.whole_after sent).0 d.upto
      (d.call inv.h) in
      carry r.0.after r.0.goes_on r.0.server
      (not_own d.leader r.0.after d.other (ap (λ (x : VoteIn L). x.leader_id) (d.call inv.h).vote))
      (leader_promised d.leader sent.by_node sent.in_use sent.is_for sent.elected_in r.0.after r.0.goes_on (d.call inv.h).vote)
      (one_sent r.0.after (SeenMatched s d.leader d.upto) d.sends r.1)
      (finish r.0.after r.0.goes_on r.0.server r.0.still_known
      (after_fresh d.holds (fresh_of c.kind.eq (w.servers s) d.ids) (w.members s))
      (brings r.0.after r.2.by_node r.2.is_for r.2.shape)
      (d.members (λ x xs is zero_at. lone (w.servers s) (inv.server s) d.whole x zero_at
      (led_first sent.by_node x (all_among c.kind (at_server c inv.h s) (inv.h.leader_log (c.kind.committed d.leader) sent.by_node)
      d.ids sent.all_in x (fresh_among x xs is)) zero_at) (fresh_lacks x xs is))))
    where
      led_first : (n : K) (x : LogIdOf C) → IsInLog c.first c.terms (inv.h.leader_log (c.kind.committed d.leader) n) x → x.index ≡ 0
          → x.leader_id ≡ c.first
      led_first n x there zero_at =
          subst (λ (i : ℕ). IsIdAt c.first (inv.h.leader_log (c.kind.committed d.leader) n) i x) zero_at there.at

      fresh_among : (x : LogIdOf C) (xs : List (LogIdOf C)) → fresh_of c.kind.eq (w.servers s) d.ids ≡ x ∷ xs → IsAmong x d.ids
      fresh_among x xs is =
          drop_among (prefix_len (λ id. purged_or_logged c.kind.eq (w.servers s) (Some id)) d.ids) d.ids x
          (subst (λ (l : List (LogIdOf C)). IsAmong x l) (sym is) (inl refl))

      fresh_lacks : (x : LogIdOf C) (xs : List (LogIdOf C)) → fresh_of c.kind.eq (w.servers s) d.ids ≡ x ∷ xs
          → purged_or_logged c.kind.eq (w.servers s) (Some x) ≡ false
      fresh_lacks x xs is = first_fails (λ id. purged_or_logged c.kind.eq (w.servers s) (Some id)) d.ids x xs is

      truly : (n : K) → c.kind.voted d.leader ≡ Some n → (x : LogIdOf C) → IsAmong x d.ids
          → HoldsTruly c (inv.h.leader_log (c.kind.committed d.leader) n) d.holds x
      truly = (inv.honest (SeenSent d.leader d.prev d.ids d.committed d.holds) d.message).1

      brings : (after : History C K D) (n : K) → c.kind.voted d.leader ≡ Some n
          → MatchShape c.kind (at_server c inv.h s) (inv.h.events s) d.leader n (log_after (after.events s)) d.ids (w.servers s)
          → Appended c.config_of c.initial (log_after (after.events s)) (w.members s)
          (after_fresh d.holds (fresh_of c.kind.eq (w.servers s) d.ids) (w.members s))
      brings after n for (inl (none, same)) = rw none (unmoved after same)
      brings after n for (inr x) =
          rw x.is (rw x.log_is all)
        where
          lead : List (Entry C D)
          lead = inv.h.leader_log (c.kind.committed d.leader) n

          m : Members M
          m = w.members s

          first : x.x.index ≡ next_index x.before
          first =
              let t = (and_parts (nat_eq x.x.index (next_index x.before)) (are_consecutive (Some x.x) x.xs) x.row).0 in
              grind (arith, nat_tests)

          -- the first new entry is past what is committed
          low : (k : ℕ) → m.committed_at ≡ k → k ≤ x.x.index - 1
          low zero e = omega arith
          low (suc i) e = x.apart (suc i) ((inv.members s).known i e)

          back : (o : Option (LogIdOf C)) → x.x.index ≡ next_index o → x.x.index - 1 ≡ place o
          back None e = omega (arith, e)
          back (Some b) e = omega (arith, e)

          cut : Appended c.config_of c.initial (take (place x.before) lead) m (after_cut (x.x.index - 1) m)
          cut = record {
            shows =
                let s1 = cut_shows c.config_of c.initial (log_after (inv.h.events s)) m (x.x.index - 1) (inv.members s).shows
                (low m.committed_at refl) in
                subst (λ (l : List (Entry C D)). ShowsMembers c.config_of c.initial l (after_cut (x.x.index - 1) m))
                (ap (λ (k : ℕ). take k (log_after (inv.h.events s))) (back x.before first) ∙ x.same) s1;
            committed = inl (cut_keeps (x.x.index - 1) m);
          }

          in_ids : (y : LogIdOf C) → IsAmong y (x.x ∷ x.xs) → IsAmong y d.ids
          in_ids y among =
              drop_among (prefix_len (λ id. purged_or_logged c.kind.eq (w.servers s) (Some id)) d.ids) d.ids y
              (subst (λ (l : List (LogIdOf C)). IsAmong y l) (sym x.is) among)

          within : (y : LogIdOf C) → IsAmong y (x.x ∷ x.xs) → y.index ≤ length lead
          within y among =
              let there = all_among c.kind (at_server c inv.h s) lead (x.x ∷ x.xs) x.there y among in
              at_within c.first lead y.index y there.at

          all : Appended c.config_of c.initial (take x.z.index lead) m (after_ids d.holds (x.x ∷ x.xs) (after_cut (x.x.index - 1) m))
          all =
              subst (λ (k : ℕ). Appended c.config_of c.initial (take k lead) m
              (after_ids d.holds (x.x ∷ x.xs) (after_cut (x.x.index - 1) m)))
              (end_is c lead d.holds x.before x.x x.xs x.z x.last)
              (ids_show c lead d.holds x.before (x.x ∷ x.xs) m (after_cut (x.x.index - 1) m) x.row
              (λ y among. (within y among, truly n for y (in_ids y among))) cut)

  handles_conflict : HandlesConflict c s w v → Carried c w v inv
  handles_conflict d =
      let sent = (inv.honest (SeenSent d.leader d.prev d.ids d.committed d.holds) d.message).0 s in
      let r = (appends_are_steps c is_cluster inv.h inv.earlier inv.past s d.leader d.prev d.ids d.committed (w.servers s) (v.servers s)
      (inv.server s) d.whole d.whole_after sent).1 d.at
      (d.call inv.h) in
      carry r.0.after r.0.goes_on r.0.server
      (not_own d.leader r.0.after d.other (ap (λ (x : VoteIn L). x.leader_id) (d.call inv.h).vote))
      (leader_promised d.leader sent.by_node sent.in_use sent.is_for sent.elected_in r.0.after r.0.goes_on (d.call inv.h).vote)
      (same_sent d.sends r.0.after)
      (finish r.0.after r.0.goes_on r.0.server r.0.still_known (after_cut (d.at - 1) (w.members s))
      (cut_to r.0.after r.1 r.0.still_known) (inl (d.members (λ zero_at. by d.prev (d.call inv.h).index (d.call inv.h).conflict
      sent.prev_in zero_at))))
    where
      by : (o : Option (LogIdOf C)) → index_of o ≡ Some d.at → purged_or_logged c.kind.eq (w.servers s) o ≡ false
          → InLogIfAny c.kind (at_server c inv.h s) (inv.h.leader_log (c.kind.committed d.leader)
          ((inv.honest (SeenSent d.leader d.prev d.ids d.committed d.holds) d.message).0 s).by_node) o → d.at ≡ 0
          → last_id (w.servers s).ids ≡ None
      by None e lacks there zero_at = cc
      by (Some x) e lacks there zero_at =
          let at : x.index ≡ d.at = some_same x.index d.at e in
          let none : x.index ≡ 0 = omega (arith, at, zero_at) in
          lone (w.servers s) (inv.server s) d.whole x none
          (subst (λ (i : ℕ). IsIdAt c.first (inv.h.leader_log (c.kind.committed d.leader)
          ((inv.honest (SeenSent d.leader d.prev d.ids d.committed d.holds) d.message).0 s).by_node) i x) none there.at) lacks

      cut_to : (after : History C K D) → log_after (after.events s) ≡ take (d.at - 1) (log_after (inv.h.events s))
          → ((n : ℕ) → KnowsCommitted c.rank (Q c is_cluster) inv.h (inv.h.events s) n
          → KnowsCommitted c.rank (Q c is_cluster) after (after.events s) n)
          → Appended c.config_of c.initial (log_after (after.events s)) (w.members s) (after_cut (d.at - 1) (w.members s))
      cut_to after same still_known =
          rw same (record {
            shows = cut_shows c.config_of c.initial (log_after (inv.h.events s)) (w.members s) (d.at - 1) (inv.members s).shows
                (low (w.members s).committed_at refl);
            committed = inl (cut_keeps (d.at - 1) (w.members s));
          })
        where
          low : (k : ℕ) → (w.members s).committed_at ≡ k → k ≤ d.at - 1
          low zero e = omega arith
          low (suc i) e =
              let knows = still_known (suc i) ((inv.members s).known i e) in
              let n = prefix_length knows.may.in_log in
              let long = length-take-le (suc i) (after.leader_log knows.may.term knows.may.leader) knows.may.written in
              let m = length-take (d.at - 1) (log_after (inv.h.events s)) in
              omega (arith, n, long, m, ap length same)

  handles_snapshot : HandlesSnapshot c s w v → Carried c w v inv
  handles_snapshot d =
      let sent = (inv.honest (SeenSnapshot d.leader d.upto d.held_at d.held) d.message).0 s in
      let r = installs_are_steps c is_cluster inv.h inv.earlier inv.past s d.leader d.upto (w.servers s) (v.servers s)
      (inv.server s) d.whole sent (d.call inv.h) in
      carry r.0.after r.0.goes_on r.0.server
      (not_own d.leader r.0.after d.other (ap (λ (x : VoteIn L). x.leader_id) (d.call inv.h).vote))
      (leader_promised d.leader sent.by_node sent.in_use sent.is_for sent.elected_in r.0.after r.0.goes_on (d.call inv.h).vote)
      (one_sent r.0.after (SeenMatched s d.leader (Some d.upto)) d.sends r.1)
      (shows r.0.after r.0.goes_on r.0.server r.0.still_known r.2.by_node r.2.is_for r.2.shape)
    where
      shows : (after : History C K D) → GoesOn c s inv.h inv.earlier after
          → IsServer c.kind (at_server c after s) (v.servers s) (after.events s)
          → ((n : ℕ) → KnowsCommitted c.rank (Q c is_cluster) inv.h (inv.h.events s) n
          → KnowsCommitted c.rank (Q c is_cluster) after (after.events s) n)
          → (n : K) → c.kind.voted d.leader ≡ Some n
          → InstallShape c.kind (at_server c inv.h s) (inv.h.events s) d.leader n (log_after (after.events s)) d.upto (w.servers s)
          (v.servers s) → HasMembers c after s (v.members s)
      shows after goes is still_known n for (inl (known, same)) =
          finish after goes is still_known (w.members s) (unmoved after same) (inl (d.known inv.h known))
      shows after goes is still_known n for (inr (installed, inl (has, same, agree))) = by (d.kept inv.h installed has)
        where
          mine : (upto c.config_of (take d.upto.index (log_after (inv.h.events s))) ≡ d.held_at)
              × (effective_config c.config_of c.initial (take d.upto.index (log_after (inv.h.events s))) ≡ d.held)
          mine =
              let held = (inv.honest (SeenSnapshot d.leader d.upto d.held_at d.held) d.message).1 n for in
              (ap (upto c.config_of) agree ∙ held.0, ap (effective_config c.config_of c.initial) agree ∙ held.1)

          fits : upto c.config_of (log_after (inv.h.events s)) ≤ length (log_after (inv.h.events s))
          fits = upto_fits c.config_of (log_after (inv.h.events s))

          part_fits : upto c.config_of (take d.upto.index (log_after (inv.h.events s)))
              ≤ length (take d.upto.index (log_after (inv.h.events s)))
          part_fits = upto_fits c.config_of (take d.upto.index (log_after (inv.h.events s)))

          known : (i : ℕ) → d.held_at ≡ suc i → KnowsCommitted c.rank (Q c is_cluster) after (after.events s) (suc i)
          known i at =
              let long = length-take d.upto.index (log_after (inv.h.events s)) in
              let end : next_index (v.servers s).committed ≡ suc d.upto.index = ap next_index installed.committed_is
              ∙ (let e : next_index (Some d.upto) ≡ suc d.upto.index = omega arith in e) in
              part_known c.rank (Q c is_cluster) after (after.events s) (next_index (v.servers s).committed) is.committed i
              (omega (arith, part_fits, long, end, at, mine.0))

          shown : (x : Members M) → v.members s ≡ x → x.committed_at ≡ d.held_at
              → ShowsMembers c.config_of c.initial (log_after (inv.h.events s)) x → HasMembers c after s (v.members s)
          shown x e at ok =
              subst (λ (y : Members M). HasMembers c after s y) (sym e)
              (record { shows = rw same ok; known = λ i up. known i (sym at ∙ up) })

          by : AfterUpdate d.upto.index d.held_at d.held (w.members s) (v.members s) → HasMembers c after s (v.members s)
          by (inl (covered, e)) =
              let a = (inv.members s).shows.at in
              let long = length-take d.upto.index (log_after (inv.h.events s)) in
              let named = same_named c.config_of c.initial (prefix_take d.upto.index (log_after (inv.h.events s)))
              (omega (arith, covered, a, long, fits)) in
              let at = sym mine.0 ∙ named.place in
              let is_held = sym mine.1 ∙ named.members in
              shown (both_are d.held_at d.held) e refl (record { at = at; is = is_held; before = inl (at, is_held) })
          by (inr (past, inl e)) = finish after goes is still_known (w.members s) (unmoved after same) (inl e)
          by (inr (past, inr (low, e))) = go (inv.members s).shows.before
            where
              a : (w.members s).effective_at ≡ upto c.config_of (log_after (inv.h.events s))
              a = (inv.members s).shows.at

              go : (((w.members s).committed_at ≡ upto c.config_of (log_after (inv.h.events s)))
                  × ((w.members s).committed ≡ effective_config c.config_of c.initial (log_after (inv.h.events s))))
                  ⊎ (((w.members s).committed_at ≡ upto c.config_of (earlier_part c.config_of c.initial (log_after (inv.h.events s))))
                  × ((w.members s).committed
                  ≡ effective_config c.config_of c.initial (earlier_part c.config_of c.initial (log_after (inv.h.events s)))))
                  → HasMembers c after s (v.members s)
              go (inl both) =
                  absurd (omega (arith, low, mine.0, part_fits, length-take d.upto.index (log_after (inv.h.events s)), past, a, both.0))
              go (inr b) =
                  let st : IsPrefix (take d.upto.index (log_after (inv.h.events s)))
                  (earlier_part c.config_of c.initial (log_after (inv.h.events s))) =
                  take_within d.upto.index (upto c.config_of (log_after (inv.h.events s)) - 1) (log_after (inv.h.events s))
                  (omega (arith, past, a)) in
                  let named = same_named c.config_of c.initial st (omega (arith, b.0, low, mine.0, part_fits)) in
                  shown (record {
                    committed = d.held;
                    committed_at = d.held_at;
                    effective = (w.members s).effective;
                    effective_at = (w.members s).effective_at;
                  }) e refl
                  (record {
                    at = (inv.members s).shows.at;
                    is = (inv.members s).shows.is;
                    before = inr (sym mine.0 ∙ named.place, sym mine.1 ∙ named.members);
                  })
      shows after goes is still_known n for (inr (installed, inr (lacks, same))) =
          subst (λ (x : Members M). HasMembers c after s x) (sym (d.replaced inv.h installed lacks))
          (record {
            shows = rw same (record { at = sym held.0; is = sym held.1; before = inl (sym held.0, sym held.1) });
            known = λ i at.
                let fits = upto_fits c.config_of (take d.upto.index (inv.h.leader_log (c.kind.committed d.leader) n)) in
                let long = length-take d.upto.index (inv.h.leader_log (c.kind.committed d.leader) n) in
                let end : next_index (v.servers s).committed ≡ suc d.upto.index = ap next_index installed.committed_is
                ∙ (let e : next_index (Some d.upto) ≡ suc d.upto.index = omega arith in e) in
                part_known c.rank (Q c is_cluster) after (after.events s) (next_index (v.servers s).committed) is.committed i
                (omega (arith, fits, long, end, at, held.0));
          })
        where
          held : (upto c.config_of (take d.upto.index (inv.h.leader_log (c.kind.committed d.leader) n)) ≡ d.held_at)
              × (effective_config c.config_of c.initial (take d.upto.index (inv.h.leader_log (c.kind.committed d.leader) n)) ≡ d.held)
          held = (inv.honest (SeenSnapshot d.leader d.upto d.held_at d.held) d.message).1 n for

  handles_vote : HandlesVote c s w v → Carried c w v inv
  handles_vote d = by d.granted refl
    where
      asked : IsAsked c.kind (at_server c inv.h s) d.vote d.last
      asked = inv.honest (SeenAsked d.vote d.last) d.message s d.other

      asked_for : IsPromised c inv.h d.vote
      asked_for = record {
        in_use = asked.in_use;
        own = λ n real for.
            subst (λ (x : K). HasVoted (c.kind.committed d.vote.leader_id) x (inv.h.events x))
            (some_same asked.candidate n (sym asked.is_for ∙ for)) asked.own;
        elected = λ n yes real for. absurd (true≢false (sym yes ∙ asked.not_committed));
      }

      by : (b : Bool) → d.granted ≡ b → Carried c w v inv
      by true e =
          let r = votes_are_steps c is_cluster inv.h inv.earlier inv.past s d.vote d.last (w.servers s) (v.servers s) d.granted
          (inv.server s) asked (d.call inv.h) in
          let promised = vote_promised d.vote asked_for r.0.after r.0.goes_on
          (ap (λ (x : State L C). x.vote) ((d.call inv.h).taken e)) in
          carry r.0.after r.0.goes_on r.0.server
          (not_own d.vote.leader_id r.0.after d.other (ap (λ (x : State L C). x.vote.leader_id) ((d.call inv.h).taken e))) promised
          (two_sent r.0.after (SeenPromised (v.servers s).vote) (SeenVoted s d.vote) (rw e at d.sends) promised (r.1 e))
          (finish r.0.after r.0.goes_on r.0.server r.0.still_known (w.members s) (unmoved r.0.after r.2) (inl d.members))
      by false e =
          let same : v.servers s ≡ w.servers s = (d.call inv.h).refused e in
          let promised = vote_promised (w.servers s).vote (inv.promised s) inv.h here (ap (λ (x : State L C). x.vote) same) in
          carry inv.h here (subst (λ (x : State L C). IsServer c.kind (at_server c inv.h s) x (inv.h.events s)) (sym same) (inv.server s))
          (subst (λ (x : State L C). OwnVote c inv.h s x) (sym same) (inv.own s)) promised
          (one_sent inv.h (SeenPromised (v.servers s).vote) (rw e at d.sends) promised) (kept_members d.members)

  module _
      (not_first : (l : L) → IsAmong l c.leaders → 0 < c.kind.term_of l → c.kind.committed l ≡ c.first → ⊥) where
    lawful : FollowsRaft c.rank (Q c is_cluster) inv.h
    lawful = follows c is_cluster inv.h inv.earlier inv.past

    -- the server keeps its vote, and does nothing new
    kept_promise : (v.servers s).vote ≡ (w.servers s).vote → IsPromised c inv.h (v.servers s).vote
    kept_promise = vote_promised (w.servers s).vote (inv.promised s) inv.h here

    -- ---- an election

    made_leader : IsMadeLeader c s w v → Carried c w v inv
    made_leader d =
        let is = inv.server s in
        let o = inv.own s d.is_own d.term in
        carry inv.h here
        (subst (λ (x : State L C). IsServer c.kind (at_server c inv.h s) x (inv.h.events s)) (sym d.call)
        (record {
          in_use = is.in_use;
          reached = is.reached;
          voted_for = λ e none real for. absurd (true≢false none);
          log = record { last = is.log.last; each = is.log.each };
          purged = is.purged;
          committed = is.committed;
        }))
        (subst (λ (x : State L C). OwnVote c inv.h s x) (sym d.call)
        (λ is_own term. record {
          log = o.log;
          asked = λ none. absurd (true≢false none);
          is_elected = λ yes. el;
          acked = λ yes lt. absurd (omega (arith, lt, ap length o.log, ap length (o.asked d.not_yet)));
        }))
        (leader_promised (w.servers s).vote.leader_id s is.in_use d.is_own el inv.h here (ap (λ (x : State L C). x.vote) d.call))
        (same_sent d.sends inv.h) (kept_members d.members)
      where
        t : C
        t = c.kind.committed (w.servers s).vote.leader_id

        counted : CountsBy c inv.h (w.servers s).vote.leader_id d.counted
        counted = inv.honest (SeenCounts (w.servers s).vote.leader_id d.counted) d.counting

        own_vote : HasVoted t s (inv.h.events s)
        own_vote = (inv.promised s).own s d.term d.is_own

        one_node : (a b : K) → Some a ≡ Some b → a ≡ b
        one_node a b e = cc

        voted : (r : K) → (r ≡ s) ⊎ IsAmong (SeenVoted r (w.servers s).vote) w.network → HasVoted t s (inv.h.events r)
        voted r (inl same) = subst (λ (x : K). HasVoted t s (inv.h.events x)) (sym same) own_vote
        voted r (inr among) =
            let g = inv.honest (SeenVoted r (w.servers s).vote) among in
            subst (λ (x : K). HasVoted t x (inv.h.events r)) (one_node g.candidate s (sym g.is_for ∙ d.is_own)) g.voted

        el : IsElected c.rank (Q c is_cluster) inv.h t s
        el = record {
          voters = d.counts;
          is_quorum = rw (counted s d.is_own).1 d.majority;
          have_voted = λ r yes. voted r (d.votes r yes);
          for_itself = own_vote;
        }

    -- ---- a leader sends and commits

    module _ (leads : Leads c s w v) where
      is_own : IsOwn c inv.h s (w.servers s)
      is_own = inv.own s leads.is_own leads.term

      in_lead : (x : LogIdOf C) → id_at (w.servers s).ids x.index ≡ Some x
          → IsInLog c.first c.terms (inv.h.leader_log (c.kind.committed (w.servers s).vote.leader_id) s) x
      in_lead x at = rw is_own.log ((inv.server s).log.each x.index x at)

      -- what the server knows to be committed, the leader knows to be so
      own_known : (n : ℕ) → KnowsCommitted c.rank (Q c is_cluster) inv.h (inv.h.events s) n
          → IsKnownCommitted c.rank (Q c is_cluster) inv.h (c.kind.committed (w.servers s).vote.leader_id) s n
      own_known n knows =
          leader_knows c.rank (Q c is_cluster) inv.h (inv.h.events s) lawful (safe c is_cluster inv.h inv.earlier inv.past)
          (c.kind.committed (w.servers s).vote.leader_id) s is_own.log (inv.server s).reached n knows

    sends : Sends c s w v → Carried c w v inv
    sends d =
        carry inv.h here (subst (λ (x : State L C). IsServer c.kind (at_server c inv.h s) x (inv.h.events s)) (sym d.call) (inv.server s))
        (subst (λ (x : State L C). OwnVote c inv.h s x) (sym d.call) (inv.own s)) (kept_promise (ap (λ (x : State L C). x.vote) d.call))
        (one_sent inv.h (SeenSent (w.servers s).vote.leader_id d.prev d.ids (w.servers s).committed d.holds) d.sends (
          λ r. record {
            by_node = s;
            is_for = d.leads.is_own;
            in_use = (inv.server s).in_use;
            elected_in = (is_own d.leads).is_elected d.leads.is_committed;
            prev_in = any r d.prev d.has_prev;
            all_in = all r d.ids d.has_ids;
            committed_in = any r (w.servers s).committed d.has_committed;
            is_committed = λ i at. own_known d.leads (suc i) ((inv.server s).committed i at);
          },
          holds,
        )) (kept_members d.members)
      where
        one_leader : (n : K) → c.kind.voted (w.servers s).vote.leader_id ≡ Some n → n ≡ s
        one_leader n for = some_same n s (sym for ∙ d.leads.is_own)

        holds : AllHoldTruly c inv.h (w.servers s).vote.leader_id d.ids d.holds
        holds n for x among =
            subst (λ (r : K). HoldsTruly c (inv.h.leader_log (c.kind.committed (w.servers s).vote.leader_id) r) d.holds x)
            (sym (one_leader n for)) (from (d.has_holds x among))
          where
            from : IsAmong (SeenWrote x (d.holds x)) w.network
                ⊎ ((x.index ≡ 0) × ((d.holds x ≡ None) ⊎ (d.holds x ≡ Some c.initial)))
                → HoldsTruly c (inv.h.leader_log (c.kind.committed (w.servers s).vote.leader_id) s) d.holds x
            from (inl wrote) =
                written_in c is_cluster inv.h inv.earlier inv.past (c.kind.committed (w.servers s).vote.leader_id) s
                ((is_own d.leads).is_elected d.leads.is_committed) x d.holds (in_lead d.leads x (d.has_ids x among))
                (inv.honest (SeenWrote x (d.holds x)) wrote)
            from (inr (zero_at, is)) = record { first = λ e. is; later = λ i e. absurd (omega (arith, zero_at, e)) }

        any : (r : K) (o : Option (LogIdOf C)) → ((x : LogIdOf C) → o ≡ Some x → id_at (w.servers s).ids x.index ≡ Some x)
            → InLogIfAny c.kind (at_server c inv.h r) (inv.h.leader_log (c.kind.committed (w.servers s).vote.leader_id) s) o
        any r None has = tt
        any r (Some x) has = in_lead d.leads x (has x refl)

        all : (r : K) (ids : List (LogIdOf C)) → ((x : LogIdOf C) → IsAmong x ids → id_at (w.servers s).ids x.index ≡ Some x)
            → AllInLog c.kind (at_server c inv.h r) (inv.h.leader_log (c.kind.committed (w.servers s).vote.leader_id) s) ids
        all r [] has = tt
        all r (x ∷ xs) has = (in_lead d.leads x (has x (inl refl)), all r xs (λ y among. has y (inr among)))

    -- what a quorum has of the leader's own is committed
    module _ (g : Counts c s w v) where
      abbrev g_term : C
      g_term = c.kind.committed (w.servers s).vote.leader_id

      g_own : IsOwn c inv.h s (w.servers s)
      g_own = is_own g.leads

      g_elected : IsElected c.rank (Q c is_cluster) inv.h g_term s
      g_elected = g_own.is_elected g.leads.is_committed

      g_apart : c.kind.committed (w.servers s).vote.leader_id ≡ c.first → ⊥
      g_apart = not_first (w.servers s).vote.leader_id (inv.server s).in_use g.leads.term

      g_there : IsInLog c.first c.terms (inv.h.leader_log (c.kind.committed (w.servers s).vote.leader_id) s) g.granted
      g_there = by g.is_there
        where
          by : (id_at (w.servers s).ids g.granted.index ≡ Some g.granted) ⊎ ((r : K) × (g.matching r ≡ Some g.granted))
              → IsInLog c.first c.terms (inv.h.leader_log (c.kind.committed (w.servers s).vote.leader_id) s) g.granted
          by (inl logged) = in_lead g.leads g.granted logged
          by (inr (r, e)) = from (g.true_matches r g.granted e)
            where
              from : ((r ≡ s) × (id_at (w.servers s).ids g.granted.index ≡ Some g.granted))
                  ⊎ IsAmong (SeenMatched r (w.servers s).vote.leader_id (Some g.granted)) w.network
                  → IsInLog c.first c.terms (inv.h.leader_log (c.kind.committed (w.servers s).vote.leader_id) s) g.granted
              from (inl mine) = in_lead g.leads g.granted mine.1
              from (inr among) =
                  let msg = inv.honest (SeenMatched r (w.servers s).vote.leader_id (Some g.granted)) among in
                  subst (λ (x : K). IsInLog c.first c.terms (inv.h.leader_log (c.kind.committed (w.servers s).vote.leader_id) x) g.granted)
                  (some_same msg.to_node s (sym msg.is_for ∙ g.leads.is_own)) msg.there

      g_fits : g.granted.index ≤ length (inv.h.leader_log g_term s)
      g_fits = at_within c.first (inv.h.leader_log g_term s) g.granted.index g.granted g_there.at

      past_start : length (inv.h.candidate_log g_term s) < g.granted.index
      past_start = own_past c.kind (at_server c inv.h s) lawful (w.servers s).vote.leader_id s g_elected g_apart g.granted g.own g_there

      all_acked : HasAcked g_term s (length (inv.h.leader_log g_term s)) (inv.h.events s)
      all_acked = g_own.acked g.leads.is_committed (omega (arith, past_start, g_fits))

      g_one_node : (a b : K) → Some a ≡ Some b → a ≡ b
      g_one_node a b e = cc

      g_knows : KnowsMatches c.kind (at_server c inv.h s) (w.servers s).vote.leader_id s g.matching
      g_knows = record {
        in_use = (inv.server s).in_use;
        not_first = g_apart;
        elected = g_elected;
        in_log = λ r m e. in_log r m (g.true_matches r m e);
        acked = λ r m e. acked r m (g.true_matches r m e);
      }
        where
          in_log : (r : K) (m : LogIdOf C) → ((r ≡ s) × (id_at (w.servers s).ids m.index ≡ Some m))
              ⊎ IsAmong (SeenMatched r (w.servers s).vote.leader_id (Some m)) w.network
              → IsInLog c.first c.terms (inv.h.leader_log (c.kind.committed (w.servers s).vote.leader_id) s) m
          in_log r m (inl mine) = in_lead g.leads m mine.1
          in_log r m (inr among) =
              let msg = inv.honest (SeenMatched r (w.servers s).vote.leader_id (Some m)) among in
              subst (λ (x : K). IsInLog c.first c.terms (inv.h.leader_log (c.kind.committed (w.servers s).vote.leader_id) x) m)
              (g_one_node msg.to_node s (sym msg.is_for ∙ g.leads.is_own)) msg.there

          acked : (r : K) (m : LogIdOf C) → ((r ≡ s) × (id_at (w.servers s).ids m.index ≡ Some m))
              ⊎ IsAmong (SeenMatched r (w.servers s).vote.leader_id (Some m)) w.network
              → HasAcked (c.kind.committed (w.servers s).vote.leader_id) s m.index (inv.h.events r)
          acked r m (inl mine) =
              let le = at_within c.first (inv.h.leader_log g_term s) m.index m (in_lead g.leads m mine.1).at in
              subst (λ (x : K). HasAcked g_term s m.index (inv.h.events x)) (sym mine.0)
              (acked_less g_term s m.index (length (inv.h.leader_log g_term s)) (inv.h.events s) le all_acked)
          acked r m (inr among) =
              let msg = inv.honest (SeenMatched r (w.servers s).vote.leader_id (Some m)) among in
              subst (λ (x : K). HasAcked g_term x m.index (inv.h.events r)) (g_one_node msg.to_node s (sym msg.is_for ∙ g.leads.is_own))
              (msg.acked m.index (omega arith))

      config_is : effective_config c.config_of c.initial (take (length (inv.h.leader_log g_term s)) (inv.h.leader_log g_term s))
          ≡ (w.members s).effective
      config_is =
          ap (effective_config c.config_of c.initial) (take_all c.config_of c.initial (inv.h.leader_log g_term s) ∙ g_own.log)
          ∙ sym (inv.members s).shows.is

      done : IsCommitted c.rank (Q c is_cluster) inv.h g_term s g.granted.index (length (inv.h.leader_log g_term s))
      done =
          commits_by_rule c.kind (at_server c inv.h s) is_cluster.ranked lawful (safe c is_cluster inv.h inv.earlier inv.past)
          (w.servers s).vote.leader_id s g.matching g_knows g.granted (length (inv.h.leader_log g_term s)) g.own g_there g_fits
          (omega arith)
          (rw config_is g.majority)

      g_may : KnowsCommitted c.rank (Q c is_cluster) inv.h (inv.h.events s) g.granted.index
      g_may = record {
        may = record {
          term = g_term;
          leader = s;
          elected = g_elected;
          written = g_fits;
          in_log = subst (λ (l : List (Entry C D)). IsPrefix (take g.granted.index (inv.h.leader_log g_term s)) l) g_own.log
              (prefix_take g.granted.index (inv.h.leader_log g_term s));
          known = record {
            in_term = g_term;
            by_leader = s;
            committed_to = g.granted.index;
            counted_at = length (inv.h.leader_log g_term s);
            committed = done;
            not_later = omega arith;
            is = prefix_itself (take g.granted.index (inv.h.leader_log g_term s));
          };
        };
        reached = voted_term c.rank (appended (Q c is_cluster)) inv.h lawful s g_term s (inv.h.events s)
            (lawful.servers s) g_elected.for_itself;
      }

    commits : Commits c s w v → Carried c w v inv
    commits d =
        carry inv.h here now
        (subst (λ (x : State L C). OwnVote c inv.h s x) (sym d.call) (λ own term. (let o = inv.own s own term in record {
          log = o.log;
          asked = o.asked;
          is_elected = o.is_elected;
          acked = o.acked;
        })))
        (kept_promise (ap (λ (x : State L C). x.vote) d.call)) (same_sent d.sends inv.h)
        (finish inv.h here now (λ n x. x) (w.members s) (unmoved inv.h refl) d.members)
      where
        is : IsServer c.kind (at_server c inv.h s) (w.servers s) (inv.h.events s)
        is = inv.server s

        now : IsServer c.kind (at_server c inv.h s) (v.servers s) (inv.h.events s)
        now =
            subst (λ (x : State L C). IsServer c.kind (at_server c inv.h s) x (inv.h.events s)) (sym d.call)
            (record {
              in_use = is.in_use;
              reached = is.reached;
              voted_for = is.voted_for;
              log = record { last = is.log.last; each = is.log.each };
              purged = is.purged;
              committed = λ i at.
                  let e : d.counts.granted.index ≡ suc i = omega (arith, at) in
                  subst (λ (n : ℕ). KnowsCommitted c.rank (Q c is_cluster) inv.h (inv.h.events s) n) e (g_may d.counts);
            })

    idles : Idles c s w v → Carried c w v inv
    idles d =
        carry inv.h here (subst (λ (x : State L C). IsServer c.kind (at_server c inv.h s) x (inv.h.events s)) (sym d.call) (inv.server s))
        (subst (λ (x : State L C). OwnVote c inv.h s x) (sym d.call) (inv.own s)) (kept_promise (ap (λ (x : State L C). x.vote) d.call))
        (same_sent d.sends inv.h) (kept_members d.members)

    -- ---- a vote in a response

    refuses : Refuses c s w v → Carried c w v inv
    refuses d =
        carry inv.h here (subst (λ (x : State L C). IsServer c.kind (at_server c inv.h s) x (inv.h.events s)) (sym d.call) (inv.server s))
        (subst (λ (x : State L C). OwnVote c inv.h s x) (sym d.call) (inv.own s)) (kept_promise (ap (λ (x : State L C). x.vote) d.call))
        (one_sent inv.h (SeenPromised (w.servers s).vote) d.sends (inv.promised s)) (kept_members d.members)

    hears : Hears c s w v → Carried c w v inv
    hears d = by (partial_ge (vote_cmp c.kind.order) d.vote (w.servers s).vote) refl
      where
        heard : IsPromised c inv.h d.vote
        heard = inv.honest (SeenPromised d.vote) d.message

        is : IsServer c.kind (at_server c inv.h s) (w.servers s) (inv.h.events s)
        is = inv.server s

        -- the vote is of a term of a campaign of the server's own, and so is the vote that it has
        still_own : c.kind.voted d.vote.leader_id ≡ Some s → 0 < c.kind.term_of d.vote.leader_id
            → c.kind.committed d.vote.leader_id ≡ c.kind.committed (w.servers s).vote.leader_id
            → (d.vote.committed ≡ false → (w.servers s).vote.committed ≡ false) → IsOwn c inv.h s (w.servers s)
            → IsOwn c inv.h s (record (w.servers s) { vote = d.vote })
        still_own for real same none_then o = record {
          log = ap (λ (t : C). inv.h.leader_log t s) same ∙ o.log;
          asked = λ none. ap (λ (t : C). inv.h.candidate_log t s) same ∙ o.asked (none_then none);
          is_elected = λ yes. heard.elected s yes real for;
          acked = λ yes lt.
              subst (λ (t : C). HasAcked t s (length (inv.h.leader_log t s)) (inv.h.events s)) (sym same)
              (acked (w.servers s).vote.committed refl
              (subst (λ (t : C). length (inv.h.candidate_log t s) < length (inv.h.leader_log t s)) same lt));
        }
          where
            acked : (b : Bool) → (w.servers s).vote.committed ≡ b
                → length (inv.h.candidate_log (c.kind.committed (w.servers s).vote.leader_id) s)
                < length (inv.h.leader_log (c.kind.committed (w.servers s).vote.leader_id) s)
                → HasAcked (c.kind.committed (w.servers s).vote.leader_id) s
                (length (inv.h.leader_log (c.kind.committed (w.servers s).vote.leader_id) s)) (inv.h.events s)
            acked true e lt = o.acked e lt
            acked false e lt = absurd (omega (arith, lt, ap length o.log, ap length (o.asked e)))

        -- a vote for the server itself is of a term that it has reached
        owns : partial_ge (vote_cmp c.kind.order) d.vote (w.servers s).vote ≡ true
            → OwnVote c inv.h s (record (w.servers s) { vote = d.vote })
        owns h for real = by (no_lesser c.kind.order d.vote (w.servers s).vote h)
          where
            own : HasVoted (c.kind.committed d.vote.leader_id) s (inv.h.events s)
            own = heard.own s real for

            low : c.rank (c.kind.committed d.vote.leader_id) ≤ term_after c.rank (inv.h.events s)
            low =
                voted_term c.rank (appended (Q c is_cluster)) inv.h lawful s (c.kind.committed d.vote.leader_id) s (inv.h.events s)
                (lawful.servers s) own

            by : IsNoLesser c.kind.order d.vote (w.servers s).vote → IsOwn c inv.h s (record (w.servers s) { vote = d.vote })
            by (inl above) =
                let lt = is_cluster.ranked.greater d.vote.leader_id (w.servers s).vote.leader_id heard.in_use is.in_use above in
                absurd (let high = is.reached in let most = low in omega (arith, lt, high, most))
            by (inr (inl (at, none_then))) =
                let same = is_cluster.ranked.equal d.vote.leader_id (w.servers s).vote.leader_id at in
                still_own for real (ap c.kind.committed same) none_then
                (inv.own s (ap c.kind.voted (sym same) ∙ for) (subst (λ (l : L). 0 < c.kind.term_of l) same real))
            by (inr (inr (apart, is_committed, none))) =
                still_own for real same (λ u. none) (inv.own s (node.1 ∙ ap (λ (x : K). Some x) is_s) term)
              where
                ranks : c.rank (c.kind.committed (w.servers s).vote.leader_id) ≡ c.rank (c.kind.committed d.vote.leader_id)
                ranks = is_cluster.ranked.apart d.vote.leader_id (w.servers s).vote.leader_id heard.in_use is.in_use apart

                same : c.kind.committed d.vote.leader_id ≡ c.kind.committed (w.servers s).vote.leader_id
                same =
                    is_cluster.distinct (c.kind.committed d.vote.leader_id) (c.kind.committed (w.servers s).vote.leader_id)
                    (is_cluster.in_terms d.vote.leader_id heard.in_use)
                    (is_cluster.in_terms (w.servers s).vote.leader_id is.in_use) (sym ranks)

                term : 0 < c.kind.term_of (w.servers s).vote.leader_id
                term =
                    let e = is_cluster.one_term d.vote.leader_id (w.servers s).vote.leader_id apart in
                    omega (arith, e, real)

                node : (n : K) × (c.kind.voted (w.servers s).vote.leader_id ≡ Some n)
                node = is_cluster.has_node (w.servers s).vote.leader_id is.in_use term

                is_s : node.0 ≡ s
                is_s = voter (is.voted_for node.0 none term node.1)
                  where
                    voter : HasVoted (c.kind.committed (w.servers s).vote.leader_id) node.0 (inv.h.events s)
                        ⊎ (term_after c.rank (inv.h.events s) < c.rank (c.kind.committed (w.servers s).vote.leader_id))
                        → node.0 ≡ s
                    voter (inl voted) =
                        voted_once c.rank (appended (Q c is_cluster)) inv.h lawful s
                        (c.kind.committed (w.servers s).vote.leader_id) node.0 s
                        (inv.h.events s) (lawful.servers s) voted
                        (subst (λ (t : C). HasVoted t s (inv.h.events s)) same own)
                    voter (inr later) = absurd (let most = low in let at = ranks in omega (arith, later, most, at))

        by : (b : Bool) → partial_ge (vote_cmp c.kind.order) d.vote (w.servers s).vote ≡ b → Carried c w v inv
        by true h =
            let call : v.servers s ≡ record (w.servers s) { vote = d.vote } = rw h at d.call in
            carry inv.h here
            (subst (λ (x : State L C). IsServer c.kind (at_server c inv.h s) x (inv.h.events s)) (sym call)
            (hears_by_rule c.kind (at_server c inv.h s) is_cluster.ranked (inv.h.events s) d.vote (w.servers s) is heard.in_use h))
            (subst (λ (x : State L C). OwnVote c inv.h s x) (sym call) (owns h))
            (vote_promised d.vote heard inv.h here (ap (λ (x : State L C). x.vote) call)) (same_sent d.sends inv.h)
            (kept_members d.members)
        by false h = idles (record { call = rw h at d.call; members = d.members; sends = d.sends })

    -- ---- a restart, and a purge

    -- each part of what a server knows to be committed it may apply
    committed_part : (i : ℕ) → suc (suc i) ≤ next_index (w.servers s).committed
        → KnowsCommitted c.rank (Q c is_cluster) inv.h (inv.h.events s) (suc i)
    committed_part i le =
        part_known c.rank (Q c is_cluster) inv.h (inv.h.events s) (next_index (w.servers s).committed) (inv.server s).committed i le

    sends_snapshot : SendsSnapshot c s w v → Carried c w v inv
    sends_snapshot d =
        carry inv.h here (subst (λ (x : State L C). IsServer c.kind (at_server c inv.h s) x (inv.h.events s)) (sym d.call) (inv.server s))
        (subst (λ (x : State L C). OwnVote c inv.h s x) (sym d.call) (inv.own s)) (kept_promise (ap (λ (x : State L C). x.vote) d.call))
        (one_sent inv.h (SeenSnapshot (w.servers s).vote.leader_id d.upto d.held_at d.held) d.sends (
          λ r. record {
            by_node = s;
            is_for = d.leads.is_own;
            in_use = (inv.server s).in_use;
            elected_in = (is_own d.leads).is_elected d.leads.is_committed;
            upto_in = in_lead d.leads d.upto d.logged;
            is_committed = λ i at. own_known d.leads (suc i) (committed_part i (let m = d.is_committed in omega (arith, at, m)));
          },
          λ n for.
              subst (λ (r : K). (upto c.config_of (take d.upto.index (inv.h.leader_log (c.kind.committed
              (w.servers s).vote.leader_id) r)) ≡ d.held_at)
              × (effective_config c.config_of c.initial (take d.upto.index (inv.h.leader_log (c.kind.committed
              (w.servers s).vote.leader_id) r))
              ≡ d.held)) (some_same s n (sym d.leads.is_own ∙ for))
              (built_in c is_cluster inv.h inv.earlier inv.past (c.kind.committed (w.servers s).vote.leader_id) s
              ((is_own d.leads).is_elected d.leads.is_committed) d.upto d.held_at d.held (in_lead d.leads d.upto d.logged)
              (inv.honest (SeenBuilt d.upto d.held_at d.held) d.built)),
        )) (kept_members d.members)

    same_own : (x : State L C) → x.vote ≡ (w.servers s).vote → OwnVote c inv.h s x
    same_own x e =
        let own : OwnVote c inv.h s (w.servers s) = inv.own s in
        λ is_own term.
        let o = own (ap (λ (y : VoteIn L). c.kind.voted y.leader_id) (sym e) ∙ is_own)
        (subst (λ (y : VoteIn L). 0 < c.kind.term_of y.leader_id) e term) in
        let t = ap (λ (y : VoteIn L). c.kind.committed y.leader_id) e in
        let u = ap (λ (y : VoteIn L). y.committed) e in
        record {
          log = ap (λ (y : C). inv.h.leader_log y s) t ∙ o.log;
          asked = λ none. ap (λ (y : C). inv.h.candidate_log y s) t ∙ o.asked (sym u ∙ none);
          is_elected = λ yes. subst (λ (y : C). IsElected c.rank (Q c is_cluster) inv.h y s) (sym t) (o.is_elected (sym u ∙ yes));
          acked = λ yes lt.
              subst (λ (y : C). HasAcked y s (length (inv.h.leader_log y s)) (inv.h.events s)) (sym t)
              (o.acked (sym u ∙ yes)
              (subst (λ (y : C). length (inv.h.candidate_log y s) < length (inv.h.leader_log y s)) t lt));
        }

    module _ (d : Restarts c s w v) where
      -- the log of the server is a part of an elected leader's
      record IsPart : Type 0 where
        term : C
        node : K
        elected : IsElected c.rank (Q c is_cluster) inv.h term node
        part : IsPrefix (log_after (inv.h.events s)) (inv.h.leader_log term node)

      is_part : (length (log_after (inv.h.events s)) ≡ 0) ⊎ IsPart
      is_part =
          go (log_from c.rank (appended (Q c is_cluster)) inv.h lawful (suc (term_after c.rank (inv.h.events s))) s (inv.h.events s)
          (lawful.servers s) (omega arith) (log_after (inv.h.events s))
          (had_now (inv.h.events s) (log_after (inv.h.events s)) (prefix_itself (log_after (inv.h.events s)))))
        where
          go : IsFrom c.rank (appended (Q c is_cluster)) inv.h lawful (suc (term_after c.rank (inv.h.events s))) (log_after
              (inv.h.events s))
              → (length (log_after (inv.h.events s)) ≡ 0) ⊎ IsPart
          go (inl none) = inl none
          go (inr o) = inr (record { term = o.term; node = o.leader; elected = o.elected; part = o.start })

      mine_in : (x : LogIdOf C) → id_at (w.servers s).ids x.index ≡ Some x → IsInLog c.first c.terms (log_after (inv.h.events s)) x
      mine_in x at = (inv.server s).log.each x.index x at

      truly : (x : LogIdOf C) → IsAmong x d.tail → HoldsTruly c (log_after (inv.h.events s)) d.holds x
      truly x among = from (d.has_holds x among) is_part
        where
          there : IsInLog c.first c.terms (log_after (inv.h.events s)) x
          there = mine_in x (d.in_log x among)

          from : IsAmong (SeenWrote x (d.holds x)) w.network
              ⊎ ((x.index ≡ 0) × ((d.holds x ≡ None) ⊎ (d.holds x ≡ Some c.initial)))
              → (length (log_after (inv.h.events s)) ≡ 0) ⊎ IsPart → HoldsTruly c (log_after (inv.h.events s)) d.holds x
          from (inr (zero_at, is)) part = record { first = λ e. is; later = λ i e. absurd (omega (arith, zero_at, e)) }
          from (inl wrote) (inl none) =
              let past = (inv.honest (SeenWrote x (d.holds x)) wrote).past in
              let fits = at_within c.first (log_after (inv.h.events s)) x.index x there.at in
              absurd (omega (arith, past, fits, none))
          from (inl wrote) (inr p) =
              written_in_part c is_cluster inv.h inv.earlier inv.past (log_after (inv.h.events s)) p.term p.node p.elected p.part x
              d.holds there (inv.honest (SeenWrote x (d.holds x)) wrote)

      start_shows : ((d.from ≡ None) × (d.start ≡ both_are 0 c.initial)) ⊎ StartsAt c s w v d.from d.start
          → ShowsMembers c.config_of c.initial (take (place d.from) (log_after (inv.h.events s))) d.start
          × ((i : ℕ) → d.start.committed_at ≡ suc i → KnowsCommitted c.rank (Q c is_cluster) inv.h (inv.h.events s) (suc i))
      start_shows (inl (none, same)) =
          rw (none, same) (first_shows c.config_of c.initial, λ i at. absurd (omega (arith, at)))
      start_shows (inr b) = rw (b.is, b.both) (shows is_part, λ i at. known i at)
        where
          there : IsInLog c.first c.terms (log_after (inv.h.events s)) b.upto
          there = mine_in b.upto b.logged

          fits : b.upto.index ≤ length (log_after (inv.h.events s))
          fits = at_within c.first (log_after (inv.h.events s)) b.upto.index b.upto there.at

          honest : IsBuilt c inv.h b.upto b.held_at b.held
          honest = inv.honest (SeenBuilt b.upto b.held_at b.held) b.built

          held : (length (log_after (inv.h.events s)) ≡ 0) ⊎ IsPart
              → (upto c.config_of (take b.upto.index (log_after (inv.h.events s))) ≡ b.held_at)
              × (effective_config c.config_of c.initial (take b.upto.index (log_after (inv.h.events s))) ≡ b.held)
          held (inr p) =
              let r = built_in c is_cluster inv.h inv.earlier inv.past p.term p.node p.elected b.upto b.held_at b.held
              (grows_in c (log_after (inv.h.events s)) (inv.h.leader_log p.term p.node) p.part b.upto there) honest in
              let same = take_of_prefix b.upto.index (log_after (inv.h.events s)) (inv.h.leader_log p.term p.node) p.part fits in
              (ap (upto c.config_of) (sym same) ∙ r.0, ap (effective_config c.config_of c.initial) (sym same) ∙ r.1)
          held (inl none) = by honest
            where
              zero_at : b.upto.index ≡ 0
              zero_at = omega (arith, fits, none)

              empty : take b.upto.index (log_after (inv.h.events s)) ≡ []
              empty = ap (λ (n : ℕ). take n (log_after (inv.h.events s))) zero_at

              by : IsBuilt c inv.h b.upto b.held_at b.held
                  → (upto c.config_of (take b.upto.index (log_after (inv.h.events s))) ≡ b.held_at)
                  × (effective_config c.config_of c.initial (take b.upto.index (log_after (inv.h.events s))) ≡ b.held)
              by (inl z) =
                  (ap (upto c.config_of) empty ∙ sym z.1, ap (effective_config c.config_of c.initial) empty ∙ sym z.2)
              by (inr x) =
                  let theirs : take b.upto.index (inv.h.leader_log x.term x.node) ≡ [] =
                  ap (λ (n : ℕ). take n (inv.h.leader_log x.term x.node)) zero_at in (
                    ap (upto c.config_of) (empty ∙ sym theirs) ∙ x.held_at_is,
                    ap (effective_config c.config_of c.initial) (empty ∙ sym theirs) ∙ x.held_is,
                  )

          shows : (length (log_after (inv.h.events s)) ≡ 0) ⊎ IsPart
              → ShowsMembers c.config_of c.initial (take b.upto.index (log_after (inv.h.events s))) (both_are b.held_at b.held)
          shows p = let r = held p in record { at = sym r.0; is = sym r.1; before = inl (sym r.0, sym r.1) }

          known : (i : ℕ) → b.held_at ≡ suc i → KnowsCommitted c.rank (Q c is_cluster) inv.h (inv.h.events s) (suc i)
          known i at =
              let r = held is_part in
              let up = upto_fits c.config_of (take b.upto.index (log_after (inv.h.events s))) in
              let long = length-take b.upto.index (log_after (inv.h.events s)) in
              let low = b.is_committed in
              committed_part i (omega (arith, at, r.0, up, long, low))

      rebuilt : Appended c.config_of c.initial (log_after (inv.h.events s)) d.start (after_ids d.holds d.tail d.start)
      rebuilt =
          subst (λ (l : List (Entry C D)). Appended c.config_of c.initial l d.start (after_ids d.holds d.tail d.start)) whole
          (ids_show c (log_after (inv.h.events s)) d.holds d.from d.tail d.start d.start d.row
          (λ y among. (at_within c.first (log_after (inv.h.events s)) y.index y (mine_in y (d.in_log y among)).at, truly y among))
          (record { shows = (start_shows d.begins).0; committed = inl refl }))
        where
          end : (from : Option (LogIdOf C)) (tail : List (LogIdOf C)) → end_of c (log_after (inv.h.events s)) d.holds from tail
              ≡ place (option_or (last_id tail) from)
          end from [] = refl
          end from (x ∷ xs) =
              let z = some_last x xs in
              end_is c (log_after (inv.h.events s)) d.holds from x xs z.0 z.1
              ∙ sym (ap (λ (o : Option (LogIdOf C)). place (option_or o from)) z.1)
            where
              some_last : (x : LogIdOf C) (xs : List (LogIdOf C)) → (z : LogIdOf C) × (last_id (x ∷ xs) ≡ Some z)
              some_last x [] = (x, refl)
              some_last x (y ∷ ys) = some_last y ys

          long : (o : Option (LogIdOf C)) → IsLastId c.first c.terms (log_after (inv.h.events s)) o
              → place o ≡ length (log_after (inv.h.events s))
          long None is = sym is
          long (Some x) is = sym is.0

          whole : take (end_of c (log_after (inv.h.events s)) d.holds d.from d.tail) (log_after (inv.h.events s))
              ≡ log_after (inv.h.events s)
          whole =
              ap (λ (n : ℕ). take n (log_after (inv.h.events s)))
              (end d.from d.tail ∙ ap place d.at_end ∙ long (last_id (w.servers s).ids) (inv.server s).log.last)
              ∙ take_all c.config_of c.initial (log_after (inv.h.events s))

      rebuilt_known : (i : ℕ) → (after_ids d.holds d.tail d.start).committed_at ≡ suc i
          → KnowsCommitted c.rank (Q c is_cluster) inv.h (inv.h.events s) (suc i)
      rebuilt_known i at = pick rebuilt.committed
        where
          pick : (((after_ids d.holds d.tail d.start).committed_at ≡ d.start.committed_at)
              ⊎ IsBefore c.config_of c.initial (log_after (inv.h.events s)) (after_ids d.holds d.tail d.start))
              → KnowsCommitted c.rank (Q c is_cluster) inv.h (inv.h.events s) (suc i)
          pick (inl same) = (start_shows d.begins).1 i (sym same ∙ at)
          pick (inr before) = server_knows_before c is_cluster inv.h inv.earlier inv.past s i (sym before ∙ at)

      still_committed : (i : ℕ) → next_index d.known ≡ suc (suc i)
          → KnowsCommitted c.rank (Q c is_cluster) inv.h (inv.h.events s) (suc i)
      still_committed i at = pick d.no_more
        where
          pick : (next_index d.known ≤ next_index (w.servers s).committed)
              ⊎ (next_index d.known ≤ suc (after_ids d.holds d.tail d.start).committed_at)
              → KnowsCommitted c.rank (Q c is_cluster) inv.h (inv.h.events s) (suc i)
          pick (inl le) = committed_part i (omega (arith, at, le))
          pick (inr le) =
              let k = (after_ids d.holds d.tail d.start).committed_at - 1 in
              less_known c.rank (Q c is_cluster) inv.h (inv.h.events s) (suc i) (suc k) (omega (arith, at, le))
              (rebuilt_known k (omega (arith, at, le)))

      restarts : Carried c w v inv
      restarts =
          carry inv.h here
          (subst (λ (x : State L C). IsServer c.kind (at_server c inv.h s) x (inv.h.events s)) (sym d.call)
          (record {
            in_use = (inv.server s).in_use;
            reached = (inv.server s).reached;
            voted_for = (inv.server s).voted_for;
            log = record {
              last = rw d.same_end (inv.server s).log.last;
              each = λ i y at. (inv.server s).log.each i y (d.kept i y at);
            };
            purged = λ i at. committed_part i (let m = d.is_committed in omega (arith, at, m));
            committed = λ i at. still_committed i at;
          }))
          (subst (λ (x : State L C). OwnVote c inv.h s x) (sym d.call)
          (same_own (record (w.servers s) { ids = d.left; purged_next = d.next; committed = d.known }) refl))
          (kept_promise (ap (λ (x : State L C). x.vote) d.call)) (same_sent d.sends inv.h) (by d.members)
        where
          by : MaySettle (next_index d.known) (after_ids d.holds d.tail d.start) (v.members s) → HasMembers c inv.h s (v.members s)
          by (inl same) =
              subst (λ (x : Members M). HasMembers c inv.h s x) (sym same) (record { shows = rebuilt.shows; known = rebuilt_known })
          by (inr (same, low)) =
              subst (λ (x : Members M). HasMembers c inv.h s x) (sym same)
              (record {
                shows = settled_shows c.config_of c.initial (log_after (inv.h.events s)) (after_ids d.holds d.tail d.start) rebuilt.shows;
                known = λ i at.
                    part_known c.rank (Q c is_cluster) inv.h (inv.h.events s) (next_index d.known) still_committed i
                    (omega (arith, low, at));
              })

    purges : Purges c s w v → Carried c w v inv
    purges d =
        let is = inv.server s in
        carry inv.h here
        (subst (λ (x : State L C). IsServer c.kind (at_server c inv.h s) x (inv.h.events s)) (sym d.call)
        (record {
          in_use = is.in_use;
          reached = is.reached;
          voted_for = is.voted_for;
          log = record { last = rw d.same_end is.log.last; each = λ i y at. is.log.each i y (d.kept i y at) };
          purged = λ i at. committed_part i (let m = d.is_committed in omega (arith, at, m));
          committed = is.committed;
        }))
        (subst (λ (x : State L C). OwnVote c inv.h s x) (sym d.call)
        (same_own (record (w.servers s) { ids = d.left; purged_next = d.next }) refl))
        (kept_promise (ap (λ (x : State L C). x.vote) d.call)) (same_sent d.sends inv.h) (kept_members d.members)

    -- ---- a snapshot is built

    builds : Builds c s w v → Carried c w v inv
    builds d =
        carry inv.h here (subst (λ (x : State L C). IsServer c.kind (at_server c inv.h s) x (inv.h.events s)) (sym d.call) (inv.server s))
        (subst (λ (x : State L C). OwnVote c inv.h s x) (sym d.call) (inv.own s)) (kept_promise (ap (λ (x : State L C). x.vote) d.call))
        (one_sent inv.h (SeenBuilt d.upto (after_cut d.upto.index (w.members s)).effective_at
        (after_cut d.upto.index (w.members s)).effective) d.sends
        (built_of c is_cluster inv.h inv.earlier inv.past s d.upto ((inv.server s).log.each d.upto.index d.upto d.logged)
        (after_cut d.upto.index (w.members s))
        (cut_shows c.config_of c.initial (log_after (inv.h.events s)) (w.members s) d.upto.index (inv.members s).shows d.past_committed)))
        (kept_members d.members)

    -- ---- histories in which the logs of one node in one term change

    -- the node is this server, and the term is this one
    abbrev mine : C → C → K → Bool
    mine t u e = c.same_node s e && c.kind.eq u t

    mine_own : (t : C) → mine t t s ≡ true
    mine_own t = rw (is_cluster.node_itself s, is_cluster.ranked.itself t) refl

    mine_is : (t u : C) (e : K) → mine t u e ≡ true → (u ≡ t) × (e ≡ s)
    mine_is t u e h =
        let d = and_parts (c.same_node s e) (c.kind.eq u t) h in
        (is_cluster.ranked.same u t d.1, sym (is_cluster.nodes s e d.0))

    -- nobody writes, but for one leader
    no_more : (t : C) (d : K) (log : List (Entry C D)) (x : Entry C D) → IsPrefix (log ++ x ∷ []) (inv.h.leader_log t d)
        → length (inv.h.leader_log t d) ≤ length log → ⊥
    no_more t d log x st le = let n = prefix_length st in let m = length-append log (x ∷ []) in omega (arith, n, m, le)

    -- ---- a campaign

    module _ (d : Campaigns c s w v) where
      abbrev to_be : C
      to_be = c.kind.committed d.leader

      abbrev own_log : List (Entry C D)
      own_log = log_after (inv.h.events s)

      abbrev campaign : History C K D
      campaign = record {
        events = λ r. if c.same_node s r then GrantVote to_be s ∷ inv.h.events r else inv.h.events r;
        candidate_log = λ u e. if mine to_be u e then own_log else inv.h.candidate_log u e;
        leader_log = λ u e. if mine to_be u e then own_log else inv.h.leader_log u e;
        votes_by = inv.h.votes_by;
        acks_by = inv.h.acks_by;
      }

      events_own : campaign.events s ≡ GrantVote to_be s ∷ inv.h.events s
      events_own = rw (is_cluster.node_itself s) refl

      asks_with : campaign.candidate_log to_be s ≡ own_log
      asks_with = rw (mine_own to_be) refl

      writes_none : campaign.leader_log to_be s ≡ own_log
      writes_none = rw (mine_own to_be) refl

      to_be_in : IsAmong to_be c.terms
      to_be_in = is_cluster.in_terms d.leader d.in_use

      higher : term_after c.rank (inv.h.events s) < c.rank to_be
      higher =
          let is = inv.server s in
          let lt = is_cluster.ranked.greater d.leader (w.servers s).vote.leader_id d.in_use is.in_use d.above in
          omega (arith, lt, is.reached)

      -- nobody has voted for the candidate in its term
      never : (r : K) (u : C) (e : K) → u ≡ to_be → e ≡ s → HasVoted u e (inv.h.events r) → ⊥
      never r u e same_term same voted =
          let own : HasVoted to_be s (inv.h.events s) =
          subst (λ (x : K). HasVoted to_be x (inv.h.events x)) same
          (subst (λ (x : C). HasVoted x e (inv.h.events e)) same_term (inv.past.asked_first r u e voted)) in
          let low = voted_term c.rank (appended (Q c is_cluster)) inv.h lawful s to_be s (inv.h.events s) (lawful.servers s) own in
          let high = higher in omega (arith, low, high)

      may_vote : MayGrantVote c.rank (Q c is_cluster) campaign s (inv.h.events s) to_be s
      may_vote = record {
        term = higher;
        up_to_date = rw asks_with (inr (refl, omega arith));
        own = λ same. asks_with;
      }

      voted_new : (r : K) (u : C) (e : K) → HasVoted u e (campaign.events r)
          → (((to_be ≡ u) × (s ≡ e)) ⊎ HasVoted u e (inv.h.events r))
      voted_new r u e x = by (c.same_node s r) x
        where
          by : (b : Bool) → HasVoted u e (if b then GrantVote to_be s ∷ inv.h.events r else inv.h.events r)
              → (((to_be ≡ u) × (s ≡ e)) ⊎ HasVoted u e (inv.h.events r))
          by true x = x
          by false x = inr x

      votes_in_use : (r : K) (u : C) (e : K) → HasVoted u e (campaign.events r) → IsAmong u c.terms
      votes_in_use r u e x = by (voted_new r u e x)
        where
          by : (((to_be ≡ u) × (s ≡ e)) ⊎ HasVoted u e (inv.h.events r)) → IsAmong u c.terms
          by (inl is) = subst (λ (y : C). IsAmong y c.terms) is.0 to_be_in
          by (inr old) = inv.past.in_use r u e old

      votes_after_own : (r : K) (u : C) (e : K) → HasVoted u e (campaign.events r) → HasVoted u e (campaign.events e)
      votes_after_own r u e x = by (voted_new r u e x)
        where
          still_has : (b : Bool) → HasVoted u e (inv.h.events e)
              → HasVoted u e (if b then GrantVote to_be s ∷ inv.h.events e else inv.h.events e)
          still_has true x = inr x
          still_has false x = x

          by : (((to_be ≡ u) × (s ≡ e)) ⊎ HasVoted u e (inv.h.events r)) → HasVoted u e (campaign.events e)
          by (inl is) =
              subst (λ (y : K). HasVoted u e (campaign.events y)) is.1 (rw events_own (inl (is.0, is.1)))
          by (inr old) = still_has (c.same_node s e) (inv.past.asked_first r u e old)

      next : Next c.rank c.config_of c.initial c.quorum_of inv.h campaign
      next = record {
        servers = λ r. by r (c.same_node s r) refl;
        leaders = λ u e. leader u e (mine to_be u e) refl;
        ranks = λ u x e e' el el' same. is_cluster.distinct u x (votes_in_use e u e el.for_itself)
            (votes_in_use e' x e' el'.for_itself) same;
      }
        where
          by : (r : K) (b : Bool) → c.same_node s r ≡ b → (campaign.events r ≡ inv.h.events r)
              ⊎ ServerStep c.rank c.config_of c.initial c.quorum_of inv.h campaign r
          by r true is = inr (record {
            event = GrantVote to_be s;
            is = rw is refl;
            may = subst (λ (x : K). MayGrantVote c.rank (Q c is_cluster) campaign x (inv.h.events x) to_be s)
                (is_cluster.nodes s r is) may_vote;
          })
          by r false is = inl (rw is refl)

          leader : (u : C) (e : K) (b : Bool) → mine to_be u e ≡ b
              → StartsCampaign c.rank c.config_of c.initial c.quorum_of inv.h campaign u e
              ⊎ LeaderAppends c.rank c.config_of c.initial c.quorum_of inv.h campaign u e
          leader u e true is =
              let m = mine_is to_be u e is in
              inl (record { no_votes = λ r x. never r u e m.0 m.1 x; nothing_written = rw is refl })
          leader u e false is = inr (record {
            candidate_log = rw is refl;
            added = [];
            is = rw is (sym (append-nil (inv.h.leader_log u e)));
            own_term = tt;
            configs = λ log x m st le holds. absurd (no_more u e log x (rw is at st) le);
          })

      goes : GoesOn c s inv.h inv.earlier campaign
      goes = record {
        earlier = inv.h ∷ inv.earlier;
        kept = λ g among. inr among;
        past = record { execution = (next, inv.past.execution); in_use = votes_in_use; asked_first = votes_after_own };
        stable = step_keeps_facts c.rank c.config_of c.initial c.quorum_of is_cluster.intersects campaign inv.h inv.earlier
            (next, inv.past.execution);
        others = λ r apart. rw apart refl;
        logs = λ u e apart. (rw apart refl, rw apart refl);
      }

      after_vote : (n : ℕ) → KnowsCommitted c.rank (Q c is_cluster) campaign (inv.h.events s) n
          → KnowsCommitted c.rank (Q c is_cluster) campaign (GrantVote to_be s ∷ inv.h.events s) n
      after_vote n knows = record {
        may = record {
          term = knows.may.term;
          leader = knows.may.leader;
          elected = knows.may.elected;
          written = knows.may.written;
          in_log = knows.may.in_log;
          known = knows.may.known;
        };
        reached = (let low = knows.reached in let later = may_vote.term in omega (arith, low, later));
      }

      one_node : (a b : K) → Some a ≡ Some b → a ≡ b
      one_node a b e = cc

      campaigns : Carried c w v inv
      campaigns =
          let old = moves c is_cluster inv.h inv.earlier inv.past campaign goes.stable s (w.servers s) (inv.h.events s)
          (inv.server s) in
          carry campaign goes
          (subst (λ (x : State L C). IsServer c.kind (at_server c campaign s) x (campaign.events s)) (sym d.call)
          (subst (λ (es : List (Event C K D)). IsServer c.kind (at_server c campaign s)
          (record (w.servers s) { vote = uncommitted d.leader }) es) (sym events_own)
          (record {
            in_use = d.in_use;
            reached = omega arith;
            voted_for = λ e none real for. inl (inl (refl, one_node s e (sym d.is_own ∙ for)));
            log = record { last = old.log.last; each = old.log.each };
            purged = λ i at. after_vote (suc i) (old.purged i at);
            committed = λ i at. after_vote (suc i) (old.committed i at);
          })))
          (subst (λ (x : State L C). OwnVote c campaign s x) (sym d.call)
          (λ is_own term. record {
            log = writes_none ∙ sym (ap log_after events_own);
            asked = λ none. asks_with ∙ sym (ap log_after events_own);
            is_elected = λ yes. absurd (true≢false (sym yes));
            acked = λ yes lt. absurd (true≢false (sym yes));
          }))
          (subst (λ (x : State L C). IsPromised c campaign x.vote) (sym d.call)
          (record {
            in_use = d.in_use;
            own = λ n real for.
                subst (λ (x : K). HasVoted to_be x (campaign.events x)) (one_node s n (sym d.is_own ∙ for))
                (rw events_own (inl (refl, refl)));
            elected = λ n yes. absurd (true≢false (sym yes));
          }))
          (two_sent campaign (SeenAsked (uncommitted d.leader) (last_id (w.servers s).ids))
          (SeenCounts d.leader (w.members s).effective) d.sends
          (λ r other. record {
            candidate = s;
            is_for = d.is_own;
            other = λ same. other (d.is_own ∙ ap (λ (x : K). Some x) same);
            not_committed = refl;
            term = d.term;
            in_use = d.in_use;
            own = rw events_own (inl (refl, refl));
            log = rw asks_with (inv.server s).log.last;
          })
          (λ n for. subst (λ (x : K). HasVoted to_be x (campaign.events x)
          × (effective_config c.config_of c.initial (campaign.candidate_log to_be x) ≡ (w.members s).effective))
          (one_node s n (sym d.is_own ∙ for))
          (rw events_own (inl (refl, refl)), rw asks_with (sym (inv.members s).shows.is))))
          (subst (λ (x : Members M). HasMembers c campaign s x) (sym d.members)
          (record {
            shows = subst (λ (l : List (Entry C D)). ShowsMembers c.config_of c.initial l (w.members s)) (sym (ap log_after events_own))
                (inv.members s).shows;
            known = λ i at.
                subst (λ (es : List (Event C K D)). KnowsCommitted c.rank (Q c is_cluster) campaign es (suc i)) (sym events_own)
                (after_vote (suc i) (still c is_cluster inv.h inv.earlier inv.past campaign goes.stable (inv.h.events s) (suc i)
                ((inv.members s).known i at)));
          }))

    -- ---- a leader writes an entry

    module _ (d : Writes c s w v) where
      abbrev in_term : C
      in_term = c.kind.committed (w.servers s).vote.leader_id

      abbrev entry : Entry C D
      entry = record { term = in_term; content = d.content }

      abbrev longer : List (Entry C D)
      longer = log_after (inv.h.events s) ++ entry ∷ []

      o : IsOwn c inv.h s (w.servers s)
      o = inv.own s d.leads.is_own d.leads.term

      el : IsElected c.rank (Q c is_cluster) inv.h in_term s
      el = o.is_elected d.leads.is_committed

      abbrev written : History C K D
      written = record {
        events = inv.h.events;
        candidate_log = inv.h.candidate_log;
        leader_log = λ u e. if mine in_term u e then inv.h.leader_log u e ++ entry ∷ [] else inv.h.leader_log u e;
        votes_by = inv.h.votes_by;
        acks_by = inv.h.acks_by;
      }

      written_is : written.leader_log in_term s ≡ longer
      written_is = rw (mine_own in_term) (ap (λ (l : List (Entry C D)). l ++ entry ∷ []) o.log)

      last_is : (l : List (Entry C D)) (e : Entry C D) (log : List (Entry C D)) (x : Entry C D)
          → IsPrefix (log ++ x ∷ []) (l ++ e ∷ []) → length l ≤ length log → (log ≡ l) × (x ≡ e)
      last_is l e log x st le = (same, one x e got)
        where
          one : (a b : Entry C D) → Some a ≡ Some b → a ≡ b
          one a b e = cc

          n : length log ≡ length l
          n = omega (arith, prefix_length st, length-append log (x ∷ []), length-append l (e ∷ []), le)

          same : log ≡ l
          same = prefix_same (prefix_trans (record { rest = x ∷ []; is = refl }) st) (record { rest = e ∷ []; is = refl }) n

          snoc_get : (l : List (Entry C D)) (y : Entry C D) → slice_get (l ++ y ∷ []) (length l) ≡ Some y
          snoc_get [] y = refl
          snoc_get (z ∷ l) y = snoc_get l y

          got : Some x ≡ Some e
          got =
              sym (snoc_get log x)
              ∙ sym (prefix_get (length log) st (omega (arith, length-append log (x ∷ []))))
              ∙ ap (λ (k : ℕ). slice_get (l ++ e ∷ []) k) n ∙ snoc_get l e

      -- the config may be proposed
      may_propose : (m : M) → c.config_of d.content ≡ Some m
          → MayProposeConfig c.rank c.config_of c.initial c.quorum_of inv.h in_term s (inv.h.leader_log in_term s) m
      may_propose m holds = by (cases_lt g.granted.index (upto c.config_of lead))
        where
          may : MayChange c s w v m
          may = d.may_change m holds

          g : Counts c s w v
          g = may.counts

          lead : List (Entry C D)
          lead = inv.h.leader_log in_term s

          has : HasMembers c inv.h s (w.members s)
          has = inv.members s

          config_now : effective_config c.config_of c.initial (inv.h.leader_log in_term s) ≡ (w.members s).effective
          config_now = ap (effective_config c.config_of c.initial) o.log ∙ sym has.shows.is

          make : (n a : ℕ) → IsCommitted c.rank (Q c is_cluster) inv.h in_term s n a → upto c.config_of (inv.h.leader_log in_term s) ≤ n
              → MayProposeConfig c.rank c.config_of c.initial c.quorum_of inv.h in_term s (inv.h.leader_log in_term s) m
          make n a done covers = record {
            committed_to = n;
            counted_at = a;
            committed = done;
            before = done.is_quorum.written;
            none_since = none_past c.config_of c.initial n (inv.h.leader_log in_term s) covers;
            old_and_new = rw config_now may.old_and_new;
            new = may.new;
          }

          by : ((g.granted.index < upto c.config_of lead) ⊎ (upto c.config_of lead ≤ g.granted.index))
              → MayProposeConfig c.rank c.config_of c.initial c.quorum_of inv.h in_term s (inv.h.leader_log in_term s) m
          by (inr covers) = make g.granted.index (length (inv.h.leader_log in_term s)) (done g) covers
          by (inl short) =
              let committed_is : (w.members s).committed_at ≡ upto c.config_of (log_after (inv.h.events s)) =
              sym may.settled_now ∙ has.shows.at in
              let place_is : upto c.config_of lead ≡ upto c.config_of (log_after (inv.h.events s)) = ap (upto c.config_of) o.log in
              let i = upto c.config_of lead - 1 in
              let knows = own_known d.leads (suc i) (has.known i (omega (arith, committed_is, place_is, short))) in
              let r = own_committed c is_cluster inv.h inv.earlier inv.past in_term s el (suc i)
              (omega (arith, past_start g, short)) (omega (arith, upto_fits c.config_of lead, short)) knows in
              make r.0 r.1 r.2 (omega (arith, r.3, short))

      first_next : Next c.rank c.config_of c.initial c.quorum_of inv.h written
      first_next = record {
        servers = λ r. inl refl;
        leaders = λ u e. inr (leader u e (mine in_term u e) refl);
        ranks = λ u x e e' a b same. is_cluster.distinct u x (inv.past.in_use e u e a.for_itself)
            (inv.past.in_use e' x e' b.for_itself) same;
      }
        where
          leader : (u : C) (e : K) (b : Bool) → mine in_term u e ≡ b
              → LeaderAppends c.rank c.config_of c.initial c.quorum_of inv.h written u e
          leader u e true is = record {
            candidate_log = refl;
            added = entry ∷ [];
            is = rw is refl;
            own_term = (sym (mine_is in_term u e is).0, tt);
            configs = λ log x m st le holds. (
                let own = mine_is in_term u e is in
                let ends = last_is (inv.h.leader_log u e) entry log x (rw is at st) le in
                subst (λ (l : List (Entry C D)). MayProposeConfig c.rank c.config_of c.initial c.quorum_of inv.h u e l m) (sym ends.0)
                (subst (λ (a : C). MayProposeConfig c.rank c.config_of c.initial c.quorum_of inv.h a e (inv.h.leader_log a e) m) (sym own.0)
                (subst (λ (y : K). MayProposeConfig c.rank c.config_of c.initial c.quorum_of inv.h in_term y (inv.h.leader_log in_term y) m)
                (sym own.1) (may_propose m (ap (λ (y : Entry C D). c.config_of y.content) (sym ends.1) ∙ holds))))
                );
          }
          leader u e false is = record {
            candidate_log = refl;
            added = [];
            is = rw is (sym (append-nil (inv.h.leader_log u e)));
            own_term = tt;
            configs = λ log x m st le holds. absurd (no_more u e log x (rw is at st) le);
          }

      first_goes : GoesOn c s inv.h inv.earlier written
      first_goes = record {
        earlier = inv.h ∷ inv.earlier;
        kept = λ g among. inr among;
        past = record { execution = (first_next, inv.past.execution); in_use = inv.past.in_use; asked_first = inv.past.asked_first };
        stable = step_keeps_facts c.rank c.config_of c.initial c.quorum_of is_cluster.intersects written inv.h inv.earlier
            (first_next, inv.past.execution);
        others = λ r apart. refl;
        logs = λ u e apart. (refl, rw apart refl);
      }

      abbrev append : Event C K D
      append = Append in_term s longer

      abbrev ack : Event C K D
      ack = Ack in_term s (length longer)

      el_written : IsElected c.rank (Q c is_cluster) written in_term s
      el_written = (first_goes.stable.elected in_term s el).0

      may_append : MayAppend c.rank (Q c is_cluster) written (inv.h.events s) in_term s longer
      may_append = record {
        term = (inv.server s).reached;
        elected = el_written;
        keeps = λ pl x y. subst (λ (l : List (Entry C D)). IsPrefix pl l) written_is y;
        of_these = inr (rw written_is (prefix_itself longer));
      }

      abbrev with_append : History C K D
      with_append = with_event c is_cluster written s append

      second_goes : GoesOn c s written first_goes.earlier with_append
      second_goes = one_event c is_cluster written first_goes.earlier first_goes.past s append may_append tt

      events_two : with_append.events s ≡ append ∷ inv.h.events s
      events_two = own_events c is_cluster written s append

      may_ack : MayAck c.rank (Q c is_cluster) with_append (append ∷ inv.h.events s) in_term s (length longer)
      may_ack = record {
        reached = omega arith;
        elected = (second_goes.stable.elected in_term s el_written).0;
        written = rw written_is (omega arith);
        has_kept = (rw written_is (prefix_take (length longer) longer), inl (omega arith));
      }

      abbrev acked : History C K D
      acked = with_event c is_cluster with_append s ack

      third_goes : GoesOn c s with_append second_goes.earlier acked
      third_goes =
          one_event c is_cluster with_append second_goes.earlier second_goes.past s ack
          (subst (λ (es : List (Event C K D)). MayAck c.rank (Q c is_cluster) with_append es in_term s (length longer))
          (sym events_two) may_ack) tt

      events_three : acked.events s ≡ ack ∷ append ∷ inv.h.events s
      events_three = own_events c is_cluster with_append s ack ∙ ap (λ (es : List (Event C K D)). ack ∷ es) events_two

      stable : FactsAreStable c.rank c.config_of c.initial c.quorum_of inv.h acked
      stable =
          execution_keeps_facts c.rank c.config_of c.initial c.quorum_of is_cluster.intersects acked third_goes.earlier
          third_goes.past.execution inv.h (third_goes.kept inv.h (second_goes.kept inv.h (first_goes.kept inv.h (inl refl))))

      goes_on : GoesOn c s inv.h inv.earlier acked
      goes_on = record {
        earlier = third_goes.earlier;
        kept = λ g among. third_goes.kept g (second_goes.kept g (first_goes.kept g among));
        past = third_goes.past;
        stable = stable;
        others = λ r apart. third_goes.others r apart ∙ second_goes.others r apart;
        logs = λ u e apart. first_goes.logs u e apart;
      }

      after_both : (n : ℕ) → KnowsCommitted c.rank (Q c is_cluster) acked (inv.h.events s) n
          → KnowsCommitted c.rank (Q c is_cluster) acked (ack ∷ append ∷ inv.h.events s) n
      after_both n knows = record {
        may = record {
          term = knows.may.term;
          leader = knows.may.leader;
          elected = knows.may.elected;
          written = knows.may.written;
          in_log = prefix_trans knows.may.in_log (record { rest = entry ∷ []; is = refl });
          known = knows.may.known;
        };
        reached = (let low = knows.reached in let least = (inv.server s).reached in omega (arith, low, least));
      }

      abbrev own_id : LogIdOf C
      own_id = record { leader_id = in_term; index = suc d.last.index }

      last_snoc : (xs : List (LogIdOf C)) → last_id (xs ++ own_id ∷ []) ≡ Some own_id
      last_snoc [] = refl
      last_snoc (x ∷ []) = refl
      last_snoc (x ∷ y ∷ xs) = last_snoc (y ∷ xs)

      get_snoc : (l : List (Entry C D)) → slice_get (l ++ entry ∷ []) (length l) ≡ Some entry
      get_snoc [] = refl
      get_snoc (x ∷ l) = get_snoc l

      at_snoc : (xs : List (LogIdOf C)) (i : ℕ) (y : LogIdOf C) → id_at (xs ++ own_id ∷ []) i ≡ Some y
          → (id_at xs i ≡ Some y) ⊎ (own_id ≡ y)
      at_snoc [] i y at = by (own_id.index == i) at
        where
          by : (b : Bool) → (if b then Some own_id else None) ≡ Some y → (id_at [] i ≡ Some y) ⊎ (own_id ≡ y)
          by true e = inr cc
          by false e = cc
      at_snoc (x ∷ xs) i y at = by (x.index == i) at (at_snoc xs i y)
        where
          by : (b : Bool) → (if b then Some x else id_at (xs ++ own_id ∷ []) i) ≡ Some y
              → (id_at (xs ++ own_id ∷ []) i ≡ Some y → (id_at xs i ≡ Some y) ⊎ (own_id ≡ y))
              → ((if b then Some x else id_at xs i) ≡ Some y) ⊎ (own_id ≡ y)
          by true e rest = inl e
          by false e rest = rest e

      old_end : length (log_after (inv.h.events s)) ≡ d.last.index
      old_end =
          let l : IsLastId c.first c.terms (log_after (inv.h.events s)) (Some d.last) = rw d.is_last at (inv.server s).log.last in l.0

      own_in : IsInLog c.first c.terms longer own_id
      own_in = record {
        at = (entry, ap (λ (n : ℕ). slice_get longer n) (sym old_end) ∙ get_snoc (log_after (inv.h.events s)), refl);
        in_use = is_cluster.in_terms (w.servers s).vote.leader_id (inv.server s).in_use;
      }

      last_now : IsLastId c.first c.terms longer (last_id ((w.servers s).ids ++ own_id ∷ []))
      last_now =
          rw (last_snoc (w.servers s).ids)
          (let n = length-append (log_after (inv.h.events s)) (entry ∷ []) in omega (arith, n, old_end), own_in.at, own_in.in_use)

      each_now : (i : ℕ) (y : LogIdOf C) → id_at ((w.servers s).ids ++ own_id ∷ []) i ≡ Some y → IsInLog c.first c.terms longer y
      each_now i y at = by (at_snoc (w.servers s).ids i y at)
        where
          by : (id_at (w.servers s).ids i ≡ Some y) ⊎ (own_id ≡ y) → IsInLog c.first c.terms longer y
          by (inl old) =
              grows_in c (log_after (inv.h.events s)) longer (record { rest = entry ∷ []; is = refl }) y ((inv.server s).log.each i y old)
          by (inr same) = subst (λ (x : LogIdOf C). IsInLog c.first c.terms longer x) same own_in

      now : IsServer c.kind (at_server c acked s) (v.servers s) (acked.events s)
      now =
          let old = moves c is_cluster inv.h inv.earlier inv.past acked stable s (w.servers s) (inv.h.events s)
          (inv.server s) in
          (subst (λ (x : State L C). IsServer c.kind (at_server c acked s) x (acked.events s)) (sym d.call)
          (subst (λ (es : List (Event C K D)). IsServer c.kind (at_server c acked s)
          (record (w.servers s) { ids = (w.servers s).ids ++ own_id ∷ [] }) es) (sym events_three)
          (record {
            in_use = (inv.server s).in_use;
            reached = omega arith;
            voted_for = λ e none real for. absurd (true≢false (sym d.leads.is_committed ∙ none));
            log = record { last = last_now; each = each_now };
            purged = λ i at. after_both (suc i) (old.purged i at);
            committed = λ i at. after_both (suc i) (old.committed i at);
          })))

      writes : Carried c w v inv
      writes =
          carry acked goes_on now
          (subst (λ (x : State L C). OwnVote c acked s x) (sym d.call)
          (λ is_own term. record {
            log = written_is ∙ sym (ap log_after events_three);
            asked = λ none. absurd (true≢false (sym d.leads.is_committed ∙ none));
            is_elected = λ yes. (stable.elected in_term s el).0;
            acked = λ yes lt. rw (events_three, written_is) (inl (refl, refl, omega arith));
          }))
          (vote_promised (w.servers s).vote (inv.promised s) acked goes_on (ap (λ (x : State L C). x.vote) d.call))
          (one_sent acked (SeenWrote own_id (c.config_of d.content)) d.sends
          (record {
            by_node = s;
            elected = (stable.elected in_term s el).0;
            past = omega arith;
            there = λ i at.
                let e : i ≡ length (log_after (inv.h.events s)) = omega (arith, at, old_end) in
                (entry, rw written_is (ap (λ (n : ℕ). slice_get longer n) e ∙ get_snoc (log_after (inv.h.events s))), refl, refl);
          }))
          (finish acked goes_on now (λ n x.
          subst (λ (es : List (Event C K D)). KnowsCommitted c.rank (Q c is_cluster) acked es n) (sym events_three)
          (after_both n (still c is_cluster inv.h inv.earlier inv.past acked stable (inv.h.events s) n x)))
          (after_member (suc d.last.index) (c.config_of d.content) (w.members s))
          (subst (λ (l : List (Entry C D)). Appended c.config_of c.initial l (w.members s)
          (after_member (suc d.last.index) (c.config_of d.content) (w.members s))) (sym (ap log_after events_three))
          (subst (λ (n : ℕ). Appended c.config_of c.initial longer (w.members s) (after_member (suc n) (c.config_of d.content)
          (w.members s)))
          old_end
          (member_shows c.config_of c.initial (log_after (inv.h.events s)) entry (w.members s) (w.members s)
          (record { shows = (inv.members s).shows; committed = inl refl }))))
          (inl d.members))

    -- ---- each step

    one_step : SeenDoes c s w v → Carried c w v inv
    one_step (SeesVote d) = handles_vote d
    one_step (SeesMatch d) = handles_match d
    one_step (SeesConflict d) = handles_conflict d
    one_step (SeesRefusal d) = refuses d
    one_step (SeesHearing d) = hears d
    one_step (SeesCampaign d) = campaigns d
    one_step (SeesElection d) = made_leader d
    one_step (SeesWrite d) = writes d
    one_step (SeesSend d) = sends d
    one_step (SeesIdle d) = idles d
    one_step (SeesCommit d) = commits d
    one_step (SeesRestart d) = restarts d
    one_step (SeesPurge d) = purges d
    one_step (SeesSnapshot d) = handles_snapshot d
    one_step (SeesSendSnapshot d) = sends_snapshot d
    one_step (SeesBuild d) = builds d

module _ {L C K D M : Type 0} (c : SeenCluster L C K D M) (is_cluster : IsSeenCluster c)
    (first_in : IsAmong c.first c.terms)
    (not_first : (l : L) → IsAmong l c.leaders → 0 < c.kind.term_of l → c.kind.committed l ≡ c.first → ⊥) where
  abbrev nothing : History C K D
  nothing = record {
    events = λ s. [];
    candidate_log = λ t d. [];
    leader_log = λ t d. [];
    votes_by = λ t d n. false;
    acks_by = λ t d n. false;
  }

  begins : (w : SeenWorld L C K M) → IsSeenFirst c w → Inv c w
  begins w f = record {
    h = nothing;
    earlier = [];
    past = record {
      execution = record { events = λ s. refl; nothing_written = λ t d. refl };
      in_use = λ s t d v. absurd v;
      asked_first = λ s t d v. absurd v;
    };
    server = λ s. record {
      in_use = f.in_use s;
      reached = omega arith;
      voted_for = λ d none real for. absurd (omega (arith, real, f.no_vote s));
      log = record { last = last s (f.ids s); each = λ i y at. each s i y (f.ids s) at };
      purged = λ i at. absurd (omega (arith, at, f.purged s));
      committed = λ i at. absurd (omega (arith, at, f.committed s));
    };
    own = λ s is_own term. absurd (omega (arith, term, f.no_vote s));
    promised = λ s. record {
      in_use = f.in_use s;
      own = λ n real for. absurd (omega (arith, real, f.no_vote s));
      elected = λ n yes real for. absurd (omega (arith, real, f.no_vote s));
    };
    honest = λ m among. absurd (none_sent m among);
    members = λ s. subst (λ (x : Members M). HasMembers c nothing s x) (sym (f.members s))
        (record { shows = first_shows c.config_of c.initial; known = λ i at. absurd (omega (arith, at)) });
  }
    where
      first_id : LogIdOf C
      first_id = record { leader_id = c.first; index = 0 }

      last : (s : K) → ((w.servers s).ids ≡ []) ⊎ ((w.servers s).ids ≡ (record { leader_id = c.first; index = 0 }) ∷ [])
          → IsLastId {D = D} c.first c.terms [] (last_id (w.servers s).ids)
      last s (inl e) = rw e refl
      last s (inr e) = rw e (refl, refl, first_in)

      each : (s : K) (i : ℕ) (y : LogIdOf C)
          → ((w.servers s).ids ≡ []) ⊎ ((w.servers s).ids ≡ (record { leader_id = c.first; index = 0 }) ∷ [])
          → id_at (w.servers s).ids i ≡ Some y → IsInLog {D = D} c.first c.terms [] y
      each s i y (inl e) at = let g : id_at [] i ≡ Some y = subst (λ (l : List (LogIdOf C)). id_at l i ≡ Some y) e at in cc
      each s i y (inr e) at =
          by (0 == i) (subst (λ (l : List (LogIdOf C)). id_at l i ≡ Some y) e at)
        where
          by : (b : Bool) → (if b then Some (record { leader_id = c.first; index = 0 }) else None) ≡ Some y
              → IsInLog {D = D} c.first c.terms [] y
          by true g =
              let same : (record { leader_id = c.first; index = 0 }) ≡ y = cc in
              subst (λ (x : LogIdOf C). IsInLog {D = D} c.first c.terms [] x) same (record { at = refl; in_use = first_in })
          by false g = cc

      none_sent : (m : SeenMessage L C K M) → IsAmong m w.network → ⊥
      none_sent m among = let g : IsAmong m [] = subst (λ (n : List (SeenMessage L C K M)). IsAmong m n) f.sent among in g

  -- an earlier world of a run
  record Was (v w : SeenWorld L C K M) (inv : Inv c w) : Type 0 where
    past_inv : Inv c v
    among : IsAmong past_inv.h (inv.h ∷ inv.earlier)

  record Came (w : SeenWorld L C K M) (ws : List (SeenWorld L C K M)) : Type 0 where
    inv : Inv c w
    olds : (v : SeenWorld L C K M) → IsAmong v (w ∷ ws) → Was v w inv

  run_keeps : (w : SeenWorld L C K M) (ws : List (SeenWorld L C K M)) → IsSeenRun c w ws → Came w ws
  run_keeps w [] run =
      record { inv = begins w run; olds = λ v among. first v among }
    where
      first : (v : SeenWorld L C K M) → IsAmong v (w ∷ []) → Was v w (begins w run)
      first v (inl e) =
          subst (λ (x : SeenWorld L C K M). Was x w (begins w run)) (sym e) (record { past_inv = begins w run; among = inl refl })
      first v (inr none) = absurd none
  run_keeps w (u ∷ us) run =
      next (run_keeps u us run.1)
    where
      next : Came u us → Came w (u ∷ us)
      next r =
          let s = one_step c is_cluster u w r.inv run.0.server run.0.others run.0.other_members not_first run.0.does in
          record { inv = s.now; olds = λ v among. old r s v among }
        where
          old : (r : Came u us) (s : Carried c u w r.inv) (v : SeenWorld L C K M) → IsAmong v (w ∷ u ∷ us) → Was v w s.now
          old r s v (inl e) =
              subst (λ (x : SeenWorld L C K M). Was x w s.now) (sym e) (record { past_inv = s.now; among = inl refl })
          old r s v (inr among) =
              let o = r.olds v among in record { past_inv = o.past_inv; among = s.kept o.past_inv.h o.among }

  module _ (w : SeenWorld L C K M) (inv : Inv c w) where
    entry_at : (s : K) (i : ℕ) (x : LogIdOf C) → id_at (w.servers s).ids (suc i) ≡ Some x
        → (e : Entry C D) × (slice_get (log_after (inv.h.events s)) i ≡ Some e) × (e.term ≡ x.leader_id)
    entry_at s i x at =
        let n = index_found (w.servers s).ids (suc i) x at in
        subst (λ (j : ℕ). IsIdAt c.first (log_after (inv.h.events s)) j x) n ((inv.server s).log.each (suc i) x at).at

  same_entry : (a b : List (Entry C D)) (n m i : ℕ) → i < n → i < m → (e : Entry C D) → slice_get a i ≡ Some e
      → IsPrefix (take n a) (take m b) → slice_get b i ≡ Some e
  same_entry a b n m i lt lt' e at st =
      let one = take_get n i a lt in
      let long = get_within (take n a) i e (one ∙ at) in
      sym (take_get m i b lt') ∙ prefix_get i st (omega (arith, long)) ∙ one ∙ at

  -- at index 0 each log has the entry that starts the cluster
  first_at : (u : SeenWorld L C K M) (inv : Inv c u) (s : K) (x : LogIdOf C) → id_at (u.servers s).ids 0 ≡ Some x → x.leader_id ≡ c.first
  first_at u inv s x at =
      let n = index_found (u.servers s).ids 0 x at in
      subst (λ (j : ℕ). IsIdAt c.first (log_after (inv.h.events s)) j x) n ((inv.server s).log.each 0 x at).at

  agree : (w u v : SeenWorld L C K M) (inv : Inv c w) → Was u w inv → Was v w inv → SeenAgree c u v
  agree w u v inv a b s r zero x y low low' at at' =
      first_at u a.past_inv s x at ∙ sym (first_at v b.past_inv r y at')
  agree w u v inv a b s r (suc i) x y low low' at at' =
      let j = next_index (u.servers s).committed - 2 in
      let k = next_index (v.servers r).committed - 2 in
      let e = entry_at u a.past_inv s i x at in
      let f = entry_at v b.past_inv r i y at' in
      by j k e f (omega (arith, low)) (omega (arith, low'))
      (all_times_agree c.rank c.config_of c.initial c.quorum_of is_cluster.intersects inv.h inv.earlier inv.past.execution a.past_inv.h
      b.past_inv.h a.among b.among s r (suc j) (suc k)
      ((a.past_inv.server s).committed j (omega (arith, low))).may ((b.past_inv.server r).committed k (omega (arith, low'))).may)
    where
      same_some : (a b : Entry C D) → Some a ≡ Some b → a ≡ b
      same_some a b e = cc

      by : (j k : ℕ)
          → (e : (e : Entry C D) × (slice_get (log_after (a.past_inv.h.events s)) i ≡ Some e) × (e.term ≡ x.leader_id))
          → (f : (e : Entry C D) × (slice_get (log_after (b.past_inv.h.events r)) i ≡ Some e) × (e.term ≡ y.leader_id))
          → i < suc j → i < suc k
          → IsPrefix (take (suc j) (log_after (a.past_inv.h.events s))) (take (suc k) (log_after (b.past_inv.h.events r)))
          ⊎ IsPrefix (take (suc k) (log_after (b.past_inv.h.events r))) (take (suc j) (log_after (a.past_inv.h.events s)))
          → x.leader_id ≡ y.leader_id
      by j k e f lt lt' (inl st) =
          let g = same_entry (log_after (a.past_inv.h.events s)) (log_after (b.past_inv.h.events r)) (suc j) (suc k) i lt lt' e.0 e.1 st in
          sym e.2 ∙ ap (λ (a : Entry C D). a.term) (same_some e.0 f.0 (sym g ∙ f.1)) ∙ f.2
      by j k e f lt lt' (inr st) =
          let g = same_entry (log_after (b.past_inv.h.events r)) (log_after (a.past_inv.h.events s)) (suc k) (suc j) i lt' lt f.0 f.1 st in
          sym e.2 ∙ ap (λ (a : Entry C D). a.term) (same_some e.0 f.0 (sym e.1 ∙ g)) ∙ f.2

  -- the committed membership is that of the log up to its index
  committed_is : (u : SeenWorld L C K M) (inv : Inv c u) (s : K)
      → (u.members s).committed ≡ effective_config c.config_of c.initial (take (u.members s).committed_at (log_after (inv.h.events s)))
  committed_is u inv s = by shows.before
    where
      log : List (Entry C D)
      log = log_after (inv.h.events s)

      shows : ShowsMembers c.config_of c.initial (log_after (inv.h.events s)) (u.members s)
      shows = (inv.members s).shows

      same_config : (l : List (Entry C D)) → effective_config c.config_of c.initial (take (upto c.config_of l) l)
          ≡ effective_config c.config_of c.initial l
      same_config l =
          let long = length-take (upto c.config_of l) l in
          (same_named c.config_of c.initial (prefix_take (upto c.config_of l) l) (omega (arith, upto_fits c.config_of l, long))).members

      by : (((u.members s).committed_at ≡ upto c.config_of (log_after (inv.h.events s)))
          × ((u.members s).committed ≡ effective_config c.config_of c.initial (log_after (inv.h.events s))))
          ⊎ (((u.members s).committed_at ≡ upto c.config_of (earlier_part c.config_of c.initial (log_after (inv.h.events s))))
          × ((u.members s).committed
          ≡ effective_config c.config_of c.initial (earlier_part c.config_of c.initial (log_after (inv.h.events s)))))
          → (u.members s).committed
          ≡ effective_config c.config_of c.initial (take (u.members s).committed_at (log_after (inv.h.events s)))
      by (inl b) =
          b.1 ∙ sym (same_config (log_after (inv.h.events s)))
          ∙ ap (λ (n : ℕ). effective_config c.config_of c.initial (take n (log_after (inv.h.events s)))) (sym b.0)
      by (inr b) =
          let part = earlier_part c.config_of c.initial (log_after (inv.h.events s)) in
          let fits = upto_fits c.config_of (earlier_part c.config_of c.initial (log_after (inv.h.events s))) in
          let same = take_of_prefix (upto c.config_of (earlier_part c.config_of c.initial (log_after (inv.h.events s))))
          (earlier_part c.config_of c.initial (log_after (inv.h.events s))) (log_after (inv.h.events s))
          (prefix_take (upto c.config_of (log_after (inv.h.events s)) - 1) (log_after (inv.h.events s))) fits in
          b.1 ∙ sym (same_config (earlier_part c.config_of c.initial (log_after (inv.h.events s))))
          ∙ ap (effective_config c.config_of c.initial) (sym same)
          ∙ ap (λ (n : ℕ). effective_config c.config_of c.initial (take n (log_after (inv.h.events s)))) (sym b.0)

  members_agree : (w u v : SeenWorld L C K M) (inv : Inv c w) → Was u w inv → Was v w inv → MembersAgree u v
  members_agree w u v inv a b s r same =
      by (u.members s).committed_at refl (v.members r).committed_at same (committed_is u a.past_inv s) (committed_is v b.past_inv r)
    where
      by : (n : ℕ) → (u.members s).committed_at ≡ n → (m : ℕ) → n ≡ m
          → (u.members s).committed ≡ effective_config c.config_of c.initial (take n (log_after (a.past_inv.h.events s)))
          → (v.members r).committed ≡ effective_config c.config_of c.initial (take m (log_after (b.past_inv.h.events r)))
          → (u.members s).committed ≡ (v.members r).committed
      by zero at m e x y = x ∙ sym (rw (sym e) at y)
      by (suc i) at m e x y =
          let knows = (a.past_inv.members s).known i at in
          let knows' = (b.past_inv.members r).known i (sym same ∙ at) in
          let one = length-take (suc i) (log_after (a.past_inv.h.events s)) in
          let two = length-take (suc i) (log_after (b.past_inv.h.events r)) in
          let fits = prefix_length knows.may.in_log in
          let fits' = prefix_length knows'.may.in_log in
          let long = length-take-le (suc i) (a.past_inv.h.leader_log knows.may.term knows.may.leader) knows.may.written in
          let long' = length-take-le (suc i) (b.past_inv.h.leader_log knows'.may.term knows'.may.leader) knows'.may.written in
          let logs : take (suc i) (log_after (a.past_inv.h.events s)) ≡ take (suc i) (log_after (b.past_inv.h.events r)) =
          one_log (all_times_agree c.rank c.config_of c.initial c.quorum_of is_cluster.intersects inv.h inv.earlier inv.past.execution
          a.past_inv.h b.past_inv.h a.among b.among s r (suc i) (suc i) knows.may knows'.may)
          (omega (arith, one, two, fits, fits', long, long')) in
          x ∙ ap (effective_config c.config_of c.initial) logs
          ∙ ap (λ (n : ℕ). effective_config c.config_of c.initial (take n (log_after (b.past_inv.h.events r)))) e ∙ sym y
        where
          one_log : {p q : List (Entry C D)} → (IsPrefix p q ⊎ IsPrefix q p) → length p ≡ length q → p ≡ q
          one_log {p} {q} (inl st) n = prefix_same st (prefix_itself q) n
          one_log {p} {q} (inr st) n = prefix_same (prefix_itself p) st n

pub runs_are_safe : {L C K D M : Type 0} → SeenRunsAreSafe L C K D M
runs_are_safe c is_cluster first_in not_first w ws run u v in_u in_v =
    let came = run_keeps c is_cluster first_in not_first w ws run in (
      agree c is_cluster first_in not_first w u v came.inv (came.olds u in_u) (came.olds v in_v),
      members_agree c is_cluster first_in not_first w u v came.inv (came.olds u in_u) (came.olds v in_v),
    )
