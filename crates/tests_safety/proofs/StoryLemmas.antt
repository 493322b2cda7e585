-- The parts of the story of three servers are steps of a run.
use Rattle.std.specs.Prelude.{◌≡◌, ◌⊎◌, ◌+◌, ◌<◌, ℕ, nat_eq, max, Bool, true, false, ◌&&◌, List, [], ◌∷◌, ◌++◌, length, Option, Some, None, IfSome, is_some, Result, Ok, IfOk, ◌==◌, if◌then◌else◌, ◌≤◌}
use Rattle.std.specs.Cmp.{IsEquivalence}
use Rattle.std.specs.Option.{option_eq, option_zip}
use Rattle.std.proofs.Common.{refl, sym, ap, subst, ◌∙◌, inl, inr, arith}
use Rattle.std.proofs.lemmas.Bool.{and_parts, false≢true, cases_lt}
use Rattle.std.proofs.lemmas.Bool.Decides.{nat_tests}
use Rattle.raft_base.specs.LogId.{id_le, id_lt}
use Rattle.raft_base.specs.declared.log_id.LogIdOf.{LogIdOf}
use Rattle.raft_base.specs.declared.log_id.log_id_range.LogIdRangeOf.{LogIdRangeOf}
use Rattle.raft_base.specs.declared.vote.VoteIn.{VoteIn}
use Rattle.steps_handlers.specs.Campaign.{Campaign, Campaigns, CountsVoteOf, grants_vote, same_vote}
use Rattle.steps_handlers.specs.Compared.{LeaderMembers, compared}
use Rattle.steps_handlers.specs.Leadership.{BecomesLeader, Commits, Leadership, WritesEntry, entry_of, flushed_entry, granted_by, is_leading}
use Rattle.steps_handlers.specs.Proposals.{AppendsOwn, log_with_own, next_own_id}
use Rattle.steps_handlers.specs.Responses.{SendsNext, TakesResponse}
use Rattle.steps_handlers.specs.Start.{CanDecide, Starts, has_config}
use Rattle.steps_handlers.specs.Vote.{Grants}
use Rattle.steps_handlers.specs.declared.error.ResponseError.{ResponseError}
use Rattle.steps_handlers.specs.declared.message.AppendEntries.{AppendEntries}
use Rattle.steps_handlers.specs.declared.message.Heartbeat.{Heartbeat}
use Rattle.steps_handlers.specs.declared.message.Outcome.{Outcome}
use Rattle.steps_handlers.specs.declared.message.Outcome.TheVariants.{Matches}
use Rattle.steps_handlers.specs.declared.message.Response.{Response}
use Rattle.steps_handlers.specs.declared.message.VoteRequest.{VoteRequest}
use Rattle.steps_handlers.specs.declared.message.VoteResponse.{VoteResponse}
use Rattle.raft_members.specs.membership.Members.{MemberList}
use Rattle.raft_progress.specs.progress.Comparisons.{OrdMembers}
use Rattle.raft_progress.specs.declared.entry.ProgressEntryOf.{ProgressEntryOf}
use Rattle.raft_progress.specs.declared.inflight.InflightOf.{InflightOf}
use Rattle.raft_progress.specs.declared.inflight.InflightOf.TheVariants.{None as Idle, Logs, Snapshot}
use Rattle.steps_safety.specs.Called.{AppendIsStep, CampaignIsStep, ComesAfter, CommitIsStep, CountIsStep, ElectionIsStep, HeartbeatIsStep, ProposalIsStep, SendIsStep, VoteIsStep}
use Rattle.steps_safety.specs.Electing.{match_of}
use Rattle.steps_safety.specs.Running.{Answered, Carries, Cluster, Counted, CountsByEffective, EntriesSent, IsFirst, IsNewServer, IsRun, Message, Step, VoteAnswered, VoteAsked, WasWritten, World, Written, cluster_of}
use Rattle.steps_safety.proofs.AppendingLemmas.{index_found}
use Rattle.steps_safety.proofs.LawLemmas.{nodes_cluster}
use Rattle.steps_safety.proofs.MatchingLemmas.{AnswersMatch, FlushedMatch, flush_matches, response_matches, response_members, response_node}
use Rattle.steps_safety.proofs.PlaceLemmas.{same_logs}
use Rattle.steps_safety.proofs.SeenLemmas.{exact_found}
use Rattle.steps_safety.proofs.SendingLemmas.{send_matches, send_members, send_node}
use Rattle.steps_safety.proofs.CalledLemmas.{count_rest}
use Rattle.tests_safety.specs.Story.{AreExact, AreLogged, AreApart, Beats, EndsRun, Exchanges, GoesOn, HasPair, HasThree, HearsAgain, IsKnown, IsAsWritten, IsOfCampaign, IsStarted, IsTrueMatch, LeadsAlone, LeadsBack, LeadsIn, LeadsInVain, LeadsWith, Sends, TellsStory, Wins, WroteAll}
use Rattle.tests_safety.specs.declared.story.Known.{Known}
use Rattle.tests_safety.specs.declared.story.Story.{Story}
use Rattle.safety_laws.specs.Ranks.{IsAmong}
use Rattle.raft_state.specs.log_id_list.FullLog.{full_log}
use Rattle.raft_state.specs.log_id_list.Keys.{may_be_keys}
use Rattle.raft_state.specs.log_id_list.LogReads.{id_at, last_id}
use Rattle.raft_state.specs.membership_state.Memberships.{Memberships, in_effect}
use Rattle.raft_state.specs.raft_state.Valid.{none_or_logged}
use Rattle.raft_state.specs.raft_state.VoteAndLog.{log_view_of, vote_of}
use Rattle.raft_state.specs.declared.entry.EntryOf.{EntryOf}
use Rattle.raft_state.specs.declared.entry.payload.EntryPayload.{EntryPayload}
use Rattle.raft_state.specs.declared.entry.payload.EntryPayload.TheVariants.{Blank}
use Rattle.raft_state.specs.declared.raft_state.RaftStateIn.{RaftStateIn}
use Rattle.raft_state.specs.membership_state.MembershipMoves.{after_commit, commits as commits_to}
use Rattle.raft_state.proofs.lemmas.log_id_list.SameLogLemmas.{says_same}

pub equal_numbers : (x y : ℕ) → nat_eq x y ≡ true → x ≡ y
equal_numbers x y e = grind (arith, nat_tests)

-- a fact holds if there is a result
pub whenever : {A P : Type 0} (o : Option A) → P → IfSome o (λ _. P)
whenever None p = tt
whenever (Some x) p = p

-- what follows from a fact about a result, if there is one
pub if_some : {A : Type 0} {P Q : A → Type 0} (o : Option A) → IfSome o P → ((x : A) → P x → Q x) → IfSome o Q
if_some None h f = tt
if_some (Some x) h f = f x h

all_three : (a b d : Bool) → a ≡ true → b ≡ true → d ≡ true → (a && b && d) ≡ true
all_three a b d e f g = rw (e, f, g) refl

-- what is found in a log is found in a longer one
at_longer : {C : Type 0} (xs ys : List (LogIdOf C)) (i : ℕ) (y : LogIdOf C) → id_at xs i ≡ Some y → id_at (xs ++ ys) i ≡ Some y
at_longer [] ys i y e = cc
at_longer {C} (x ∷ xs) ys i y e = by (x.index == i) e (at_longer xs ys i y)
  where
    by : (b : Bool) → (if b then Some x else id_at xs i) ≡ Some y → (id_at xs i ≡ Some y → id_at (xs ++ ys) i ≡ Some y)
        → (if b then Some x else id_at (xs ++ ys) i) ≡ Some y
    by true e rest = e
    by false e rest = rest e

-- each entry that was read is of the log, as it was written
logged_among : {K N C D : Type 0} (configs : List (List K)) (log : List (LogIdOf C)) (es : List (EntryOf C K N D))
    → AreLogged configs log es → (e : EntryOf C K N D) → IsAmong e es
    → (id_at log e.log_id.index ≡ Some e.log_id) × IsAsWritten configs e.log_id.index e.payload
logged_among configs log [] logged e none = absurd none
logged_among {K} {N} {C} {D} configs log (x ∷ es) logged e (inl same) =
    subst (λ (y : EntryOf C K N D). (id_at log y.log_id.index ≡ Some y.log_id) × IsAsWritten configs y.log_id.index y.payload) (sym same)
    (logged.0, logged.1)
logged_among configs log (x ∷ es) logged e (inr among) = logged_among configs log es logged.2 e among

logged_more : {K N C D : Type 0} (configs : List (List K)) (log : List (LogIdOf C)) (es : List (EntryOf C K N D)) (e : EntryOf C K N D)
    → AreLogged configs log es → id_at log e.log_id.index ≡ Some e.log_id → IsAsWritten configs e.log_id.index e.payload
    → AreLogged configs log (es ++ e ∷ [])
logged_more configs log [] e logged is read = (is, read, tt)
logged_more configs log (x ∷ es) e logged is read = (logged.0, logged.1, logged_more configs log es e logged.2 is read)

-- a log id that is found at an index is found at its own
pub found_own : {C : Type 0} (log : List (LogIdOf C)) (i : ℕ) (x : LogIdOf C) → id_at log i ≡ Some x → id_at log x.index ≡ Some x
found_own {C} log i x e = subst (λ (j : ℕ). id_at log j ≡ Some x) (sym (index_found log i x e)) e

pub logged_push : {K N C D : Type 0} (configs : List (List K)) (log : List (LogIdOf C)) (es new : List (EntryOf C K N D)) (i : ℕ)
    (e : EntryOf C K N D) → new ≡ es ++ e ∷ [] → AreLogged configs log es → id_at log i ≡ Some e.log_id
    → IsAsWritten configs i e.payload → AreLogged configs log new
logged_push {K} {N} {C} {D} configs log es new i e is logged at read =
    subst (λ (l : List (EntryOf C K N D)). AreLogged configs log l) (sym is)
    (logged_more configs log es e logged (found_own log i e.log_id at)
    (subst (λ (j : ℕ). IsAsWritten configs j e.payload) (sym (index_found log i e.log_id at)) read))

-- what a longer log has, the shorter one has, or it is what was added
at_either : {C : Type 0} (xs : List (LogIdOf C)) (y : LogIdOf C) (i : ℕ) (x : LogIdOf C) → id_at (xs ++ y ∷ []) i ≡ Some x
    → (id_at xs i ≡ Some x) ⊎ (y ≡ x)
at_either {C} [] y i x e = by (y.index == i) e
  where
    by : (b : Bool) → (if b then Some y else None) ≡ Some x → (id_at {C = C} [] i ≡ Some x) ⊎ (y ≡ x)
    by true e = inr cc
    by false e = let no : ⊥ = cc in absurd no
at_either {C} (z ∷ zs) y i x e = by (z.index == i) e (at_either zs y i x)
  where
    by : (b : Bool) → (if b then Some z else id_at (zs ++ y ∷ []) i) ≡ Some x
        → (id_at (zs ++ y ∷ []) i ≡ Some x → (id_at zs i ≡ Some x) ⊎ (y ≡ x))
        → ((if b then Some z else id_at zs i) ≡ Some x) ⊎ (y ≡ x)
    by true e rest = inl e
    by false e rest = rest e

-- a log with index 0 alone was written
first_wrote : {K N I L C D : Type 0} (log : List (LogIdOf C)) (first : C) (w : World K N I L C D)
    → (log ≡ []) ⊎ (log ≡ (record { leader_id = first; index = 0 }) ∷ []) → WroteAll log w
first_wrote {K} {N} {I} {L} {C} log first w (inl none) i x e past =
    let f : id_at {C = C} [] i ≡ Some x = ap (λ (l : List (LogIdOf C)). id_at l i) (sym none) ∙ e in
    let no : ⊥ = cc in absurd no
first_wrote {K} {N} {I} {L} {C} log first w (inr one) i x e past =
    let n : x.index ≡ i = index_found log i x e in
    absurd (by (at_either [] (record { leader_id = first; index = 0 }) i x (ap (λ (l : List (LogIdOf C)). id_at l i) (sym one) ∙ e)) n)
  where
    by : (id_at {C = C} [] i ≡ Some x) ⊎ ((record { leader_id = first; index = 0 }) ≡ x) → x.index ≡ i → ⊥
    by (inl e) n = cc
    by (inr same) n = let z : 0 ≡ x.index = ap (λ (y : LogIdOf C). y.index) same in omega (arith, z, n, past)

-- a new server is one with the leader id of its vote
pub by_vote : {K N I L C : Type 0} (kind : LeaderMembers L K C) (logs : OrdMembers C) (configs : List (List K)) (start : L)
    (s : RaftStateIn K N I L C)
    → IsNewServer kind logs configs start s → IsNewServer kind logs configs (vote_of s).leader_id s
by_vote {K} {N} {I} {L} {C} kind logs configs start s is =
    subst (λ (l : L). IsNewServer kind logs configs l s) (sym (ap (λ (v : VoteIn L). v.leader_id) is.vote)) is

has_some : {K : Type 0} (configs : List (List K)) → has_config configs ≡ true → 0 < length configs
has_some [] h = cc
has_some (x ∷ xs) h = omega arith

-- a server that has started a cluster
pub is_started : {K N I L C X : Type 0} (ids : OrdMembers K) (same : N → N → Bool) (kind : LeaderMembers L K C) (logs : OrdMembers C)
    (start : L) (configs : List (List K)) (fresh new : RaftStateIn K N I L C) (first : LogIdOf C) (members : MemberList K N)
    (entries : List (EntryOf C K N X)) → kind.is_default start → IsNewServer kind logs members.configs start fresh
    → kind.term_of (vote_of fresh).leader_id ≡ 0 → IsNewServer kind logs members.configs (vote_of fresh).leader_id new
    → Starts ids.eq same first members entries fresh new → CanDecide ids.eq ids.cmp members → members.configs ≡ configs
    → IsStarted kind logs configs new
is_started {K} {N} {I} {L} {C} {X} ids same kind logs start configs fresh new first members entries default is_fresh term is_new starts
    decides copied = record {
      is_default = subst (λ (l : L). kind.is_default l) (sym (leader_now ∙ ap (λ (v : VoteIn L). v.leader_id) is_fresh.vote)) default;
      first_term = ap kind.term_of leader_now ∙ term;
      new = subst (λ (l : List (List K)). IsNewServer kind logs l (vote_of new).leader_id new) copied
          (by_vote kind logs members.configs (vote_of fresh).leader_id new is_new);
      some = subst (λ (l : List (List K)). 0 < length l) copied (has_some members.configs decides.configs);
    }
  where
    leader_now : (vote_of new).leader_id ≡ (vote_of fresh).leader_id
    leader_now = ap (λ (v : VoteIn L). v.leader_id) is_new.vote

-- the log id before the entries of a request is that of what is in flight, or, in a heartbeat, one of the log
abbrev pub IsCarried : {C : Type 0} → List (LogIdOf C) → InflightOf C → Option (LogIdOf C) → Type 0
IsCarried {C} log (Logs id range) prev = prev ≡ range.prev
IsCarried {C} log Idle prev = (x : LogIdOf C) → prev ≡ Some x → id_at log x.index ≡ Some x
IsCarried {C} log (Snapshot id last) prev = ⊥

pub carries_logs : {C : Type 0} (log : List (LogIdOf C)) (sending : InflightOf C) (id : ℕ) (range : LogIdRangeOf C)
    → sending ≡ Logs id range → IsCarried log sending range.prev
carries_logs {C} log sending id range is = subst (λ (x : InflightOf C). IsCarried log x range.prev) (sym is) refl

pub some_of : {A : Type 0} (P : A → Type 0) (o : Option A) (x : A) → o ≡ Some x → IfSome o P → P x
some_of {A} P o x is h = subst (λ (p : Option A). IfSome p P) is h

pub ok_of : {A E : Type 0} (P : A → Type 0) (r : Result A E) (x : A) → r ≡ Ok x → IfOk r P → P x
ok_of {A} {E} P r x is h = subst (λ (q : Result A E). IfOk q P) is h

-- what holds of each of three results holds of all three, if they are there
pub all_of : {A : Type 0} (P : A → Type 0) (x y z : Option A) (two : Option (A × A)) (three : Option ((A × A) × A)) (all : (A × A) × A)
    → two ≡ option_zip x y → three ≡ option_zip two z → three ≡ Some all → IfSome x P → IfSome y P → IfSome z P
    → P all.0.0 × P all.0.1 × P all.1
all_of {A} P x y z two three all e f is p q r =
    by x y z (ap (λ (o : Option (A × A)). option_zip o z) (sym e) ∙ sym f ∙ is) p q r
  where
    by : (x y z : Option A) → option_zip (option_zip x y) z ≡ Some all → IfSome x P → IfSome y P → IfSome z P
        → P all.0.0 × P all.0.1 × P all.1
    by (Some x) (Some y) (Some z) is p q r =
        let same : ((x, y), z) ≡ all = cc in
        subst (λ (t : (A × A) × A). P t.0.0 × P t.0.1 × P t.1) same (p, q, r)
    by (Some x) (Some y) None is p q r = let no : ⊥ = cc in absurd no
    by (Some x) None z is p q r = let no : ⊥ = cc in absurd no
    by None y z is p q r = let no : ⊥ = cc in absurd no

module _ {K N L C : Type 0} (I D : Type 0) (ids : OrdMembers K) (node_eq : N → N → Bool) (kind : LeaderMembers L K C)
    (logs : OrdMembers C) (equal : IsEquivalence ids.eq) where
  turned : (s r : K) → ids.eq s r ≡ false → ids.eq r s ≡ false
  turned s r e = equal.symm r s ∙ e

  -- the world after a server has a new state, a campaign or none, and the network these messages
  abbrev next : K → RaftStateIn K N I L C → Option (Campaign K N L C) → List (Message K N L C D) → World K N I L C D → World K N I L C D
  next s new campaign network w = record {
    servers = λ r. if ids.eq s r then new else w.servers r;
    campaigns = λ r. if ids.eq s r then campaign else w.campaigns r;
    network = network;
  }

  comes : (s : K) (old new : RaftStateIn K N I L C) (campaign : Option (Campaign K N L C)) (network : List (Message K N L C D))
      (w : World K N I L C D) → w.servers s ≡ old
      → ComesAfter ids.eq s old new campaign network w (next s new campaign network w)
  comes s old new campaign network w is = record {
    before = is;
    after = rw (equal.refl s) refl;
    has_campaign = rw (equal.refl s) refl;
    sent = refl;
    others = λ r e. rw e refl;
    other_campaigns = λ r e. rw e refl;
  }

  -- the keys of each log are in order, in each world of a run
  keys_in : ((x y : K) → ids.eq x y ≡ true → x ≡ y) → (c : Cluster K L) (w : World K N I L C D) (earlier : List (World K N I L C D))
      → IsRun ids node_eq kind logs c w earlier → (x : K) → may_be_keys logs.cmp (w.servers x).log_ids ≡ true
  keys_in nodes c w [] run x = (run.server x).keys
  keys_in nodes c w (v ∷ vs) run x = by (ids.eq run.0.server x) refl (keys_in nodes c v vs run.1 x)
    where
      by : (b : Bool) → ids.eq run.0.server x ≡ b → may_be_keys logs.cmp (v.servers x).log_ids ≡ true
          → may_be_keys logs.cmp (w.servers x).log_ids ≡ true
      by true e before =
          subst (λ (y : K). may_be_keys logs.cmp (w.servers y).log_ids ≡ true) (nodes run.0.server x e) run.0.keys
      by false e before =
          subst (λ (s : RaftStateIn K N I L C). may_be_keys logs.cmp s.log_ids ≡ true) (sym (run.0.others x e)) before

  -- a step of the first one of two servers, and of the second one
  module _ (c : Cluster K L) (s r : K) (w : World K N I L C D) (a b : RaftStateIn K N I L C)
      (has : HasPair D ids node_eq kind logs c s r a b w) (new : RaftStateIn K N I L C) (campaign : Option (Campaign K N L C))
      (network : List (Message K N L C D)) (more : (m : Message K N L C D) → IsAmong m w.network → IsAmong m network) where
    first_goes : Step ids node_eq kind logs c w (next s new campaign network w)
        → GoesOn D ids node_eq kind logs c s r w (next s new campaign network w) new b
    first_goes step = record {
      has = record {
        exact = has.exact;
        apart = has.apart;
        earlier = w ∷ has.earlier;
        run = (step, has.run);
        first = rw (equal.refl s) refl;
        second = rw has.apart has.second;
      };
      others = λ x e f. rw e refl;
      sent = more;
    }

    second_goes : Step ids node_eq kind logs c w (next r new campaign network w)
        → GoesOn D ids node_eq kind logs c s r w (next r new campaign network w) a new
    second_goes step = record {
      has = record {
        exact = has.exact;
        apart = has.apart;
        earlier = w ∷ has.earlier;
        run = (step, has.run);
        first = rw (turned s r has.apart) has.first;
        second = rw (equal.refl r) refl;
      };
      others = λ x e f. rw f refl;
      sent = more;
    }

  -- a run that goes on, and on
  pub goes_further : (c : Cluster K L) (s r : K) (w u v : World K N I L C D) (a b x y : RaftStateIn K N I L C)
      → GoesOn D ids node_eq kind logs c s r w u a b → GoesOn D ids node_eq kind logs c s r u v x y
      → GoesOn D ids node_eq kind logs c s r w v x y
  goes_further c s r w u v a b x y one two = record {
    has = two.has;
    others = λ z e f. two.others z e f ∙ one.others z e f;
    sent = λ m among. two.sent m (one.sent m among);
  }

  -- ---- an election
  module _ (s r : K) (greatest : ℕ) (old mid new old_other new_other : RaftStateIn K N I L C) (candidate counted : Campaign K N L C)
      (response : VoteResponse L) (leader : Leadership K N C) (logs_equal : IsEquivalence logs.eq)
      (made : (t : ℕ) (n : K) → (kind.term_of (kind.leader_of t n) ≡ t) × (kind.voted (kind.leader_of t n) ≡ Some n)
      × (kind.committed_of t n ≡ kind.committed (kind.leader_of t n)))
      (campaigns : Campaigns (compared ids node_eq kind logs) s greatest old mid candidate)
      (counts : grants_vote kind.eq candidate.vote response ≡ true → CountsVoteOf ids.eq r candidate counted)
      (ignored : grants_vote kind.eq candidate.vote response ≡ false → counted ≡ candidate)
      (becomes : BecomesLeader (compared ids node_eq kind logs) counted mid new leader) where
    leader_now : (vote_of new).leader_id ≡ candidate.vote.leader_id
    leader_now =
        ap (λ (x : RaftStateIn K N I L C). (vote_of x).leader_id) becomes.committed
        ∙ ap (λ (x : RaftStateIn K N I L C). (vote_of x).leader_id) campaigns.promised

    pub of_campaign : IsOfCampaign kind s (vote_of new).leader_id
    of_campaign = (
      max greatest (kind.term_of (vote_of old).leader_id),
      leader_now ∙ ap (λ (v : VoteIn L). v.leader_id) campaigns.vote,
    )

    voted : kind.voted candidate.vote.leader_id ≡ Some s
    voted =
        ap (λ (v : VoteIn L). kind.voted v.leader_id) campaigns.vote
        ∙ (made (max greatest (kind.term_of (vote_of old).leader_id) + 1) s).1

    counted_id : counted.id ≡ s
    counted_id =
        ap (λ (x : Campaign K N L C). x.id)
        (count_rest ids.eq candidate counted r (grants_vote kind.eq candidate.vote response) counts ignored) ∙ campaigns.node

    leads_now : is_leading (compared ids node_eq kind logs) leader new ≡ true
    leads_now =
        all_three (vote_of new).committed (logs.eq (kind.committed (vote_of new).leader_id) leader.leader_id)
        (option_eq ids.eq (kind.voted (vote_of new).leader_id) (Some leader.id))
        (ap (λ (x : RaftStateIn K N I L C). (vote_of x).committed) becomes.committed)
        (ap (λ (x : RaftStateIn K N I L C). logs.eq (kind.committed (vote_of x).leader_id) leader.leader_id) becomes.committed
        ∙ ap (λ (x : C). logs.eq (kind.committed (vote_of mid).leader_id) x) becomes.begins.leader
        ∙ logs_equal.refl (kind.committed (vote_of mid).leader_id))
        (ap (λ (l : L). option_eq ids.eq (kind.voted l) (Some leader.id)) leader_now
        ∙ ap (λ (o : Option K). option_eq ids.eq o (Some leader.id)) voted
        ∙ ap (λ (x : K). ids.eq s x) (becomes.begins.node ∙ counted_id) ∙ equal.refl s)

    -- a new leader counts no match
    no_match : (x : K) (m : LogIdOf C) → match_of (entry_of ids.eq leader x) ≡ Some m → ⊥
    no_match x m e = by (entry_of ids.eq leader x) refl
      where
        none_some : None ≡ Some m → ⊥
        none_some h = cc

        by : (o : Option (ProgressEntryOf C)) → entry_of ids.eq leader x ≡ o → ⊥
        by None f = none_some (sym (ap match_of f) ∙ e)
        by (Some entry) f =
            none_some (sym (ap match_of f ∙ ap (λ (y : ProgressEntryOf C). y.matching) (becomes.begins.entries x entry f)) ∙ e)

    module _ (request : VoteRequest L C) (asks : request ≡ record { vote = candidate.vote; last_log_id = candidate.last_log_id })
        (campaign : CampaignIsStep D ids node_eq kind logs s old candidate mid)
        (vote_by : VoteIsStep D ids node_eq kind logs request old_other response new_other)
        (grants_by : Grants kind.order logs.cmp request old_other response new_other)
        (count : CountIsStep I D ids node_eq kind logs r response candidate counted)
        (election : ElectionIsStep D ids node_eq kind logs counted mid new)
        (c : Cluster K L) (w : World K N I L C D) (has : HasPair D ids node_eq kind logs c s r old old_other w)
        (in_use : IsAmong (vote_of new).leader_id c.leaders) (wrote : WroteAll (full_log old.log_ids) w) where
      vote : VoteIsStep D ids node_eq kind logs (record { vote = candidate.vote; last_log_id = candidate.last_log_id }) old_other
          response new_other
      vote =
          subst (λ (q : VoteRequest L C). VoteIsStep D ids node_eq kind logs q old_other response new_other) asks vote_by

      grants : Grants kind.order logs.cmp (record { vote = candidate.vote; last_log_id = candidate.last_log_id }) old_other response
          new_other
      grants = subst (λ (q : VoteRequest L C). Grants kind.order logs.cmp q old_other response new_other) asks grants_by

      abbrev asking : Message K N L C D
      asking = VoteAsked (record { vote = candidate.vote; last_log_id = candidate.last_log_id })

      abbrev counting : Message K N L C D
      counting = Counted candidate.vote.leader_id candidate.votes.membership.configs

      abbrev asked : World K N I L C D
      asked = next s mid (Some candidate) (asking ∷ counting ∷ w.network) w

      abbrev answered : World K N I L C D
      answered = next r new_other (asked.campaigns r) (VoteAnswered r response ∷ asked.network) asked

      goes_asked : GoesOn D ids node_eq kind logs c s r w asked mid old_other
      goes_asked =
          first_goes c s r w old old_other has mid (Some candidate)
          (asking ∷ counting ∷ w.network) (λ m among. inr (inr among))
          (campaign c w asked (comes s old mid (Some candidate)
          (asking ∷ counting ∷ w.network) w has.first)
          (subst (λ (l : L). IsAmong l c.leaders) leader_now in_use))

      not_own : kind.voted candidate.vote.leader_id ≡ Some r → ⊥
      not_own e =
          let same : s ≡ r = (let both : Some s ≡ Some r = sym voted ∙ e in cc) in
          false≢true (sym has.apart ∙ ap (λ (x : K). ids.eq s x) (sym same) ∙ equal.refl s)

      goes_answered : GoesOn D ids node_eq kind logs c s r asked answered mid new_other
      goes_answered =
          second_goes c s r asked mid old_other goes_asked.has new_other (asked.campaigns r) (VoteAnswered r response ∷ asked.network)
          (λ m among. inr among)
          (vote c r asked answered
          (comes r old_other new_other (asked.campaigns r) (VoteAnswered r response ∷ asked.network) asked goes_asked.has.second)
          (inl refl) not_own)

      had : answered.campaigns s ≡ Some candidate
      had = rw (turned s r has.apart, equal.refl s) refl

      -- the vote is counted, if it is granted
      record IsCounted : Type 0 where
        world : World K N I L C D
        goes : GoesOn D ids node_eq kind logs c s r answered world mid new_other
        has_campaign : world.campaigns s ≡ Some counted

      counts_it : (b : Bool) → grants_vote kind.eq candidate.vote response ≡ b → IsCounted
      counts_it false e = record {
        world = answered;
        goes = record { has = goes_answered.has; others = λ x f g. refl; sent = λ m among. among };
        has_campaign = had ∙ ap (λ (x : Campaign K N L C). Some x) (sym (ignored e));
      }
      counts_it true e = record {
        world = after;
        goes = first_goes c s r answered mid new_other goes_answered.has mid (Some counted) answered.network (λ m among. among)
            (count c s answered after
            (subst (λ (x : RaftStateIn K N I L C). ComesAfter ids.eq s x x (Some counted) answered.network answered after)
            (sym goes_answered.has.first)
            (comes s mid mid (Some counted) answered.network answered goes_answered.has.first))
            had (keys_in has.exact.nodes c answered goes_answered.has.earlier goes_answered.has.run s) (inl refl) e same_vote_as);
        has_campaign = rw (equal.refl s) refl;
      }
        where
          after : World K N I L C D
          after = next s mid (Some counted) answered.network answered

          same_vote_as : response.vote ≡ candidate.vote
          same_vote_as =
              grants.answer
              ∙ ap vote_of (grants.taken (and_parts response.granted (same_vote kind.eq response.vote candidate.vote) e).0)

      elected : IsCounted → (v : World K N I L C D) × GoesOn D ids node_eq kind logs c s r w v new new_other
          × LeadsIn D ids node_eq kind logs c s v leader
      elected is = (last, go, leading)
        where
          last : World K N I L C D
          last = next s new (is.world.campaigns s) is.world.network is.world

          goes_last : GoesOn D ids node_eq kind logs c s r is.world last new new_other
          goes_last =
              first_goes c s r is.world mid new_other is.goes.has new (is.world.campaigns s) is.world.network (λ m among. among)
              (election c s is.world last
              (comes s mid new (is.world.campaigns s) is.world.network is.world is.goes.has.first) is.has_campaign)

          go : GoesOn D ids node_eq kind logs c s r w last new new_other
          go =
              goes_further c s r w is.world last mid new_other new new_other
              (goes_further c s r w answered is.world mid new_other mid new_other
              (goes_further c s r w asked answered mid old_other mid new_other goes_asked goes_answered) is.goes) goes_last

          leading : LeadsIn D ids node_eq kind logs c s last leader
          leading = record {
            leads = subst (λ (x : RaftStateIn K N I L C). is_leading (compared ids node_eq kind logs) leader x ≡ true)
                (sym go.has.first) leads_now;
            node = becomes.begins.node ∙ counted_id;
            in_use = subst (λ (x : RaftStateIn K N I L C). IsAmong (vote_of x).leader_id c.leaders) (sym go.has.first) in_use;
            counts = becomes.begins.configs
                ∙ sym (ap (λ (x : RaftStateIn K N I L C). (in_effect x.membership_state).configs) (go.has.first ∙ becomes.committed));
            wrote = λ i x e past. go.sent _ (wrote i x (sym (ap (λ (l : List (LogIdOf C)). id_at l i)
                (ap (λ (y : RaftStateIn K N I L C). full_log y.log_ids) (go.has.first ∙ becomes.committed)
                ∙ ap (λ (y : RaftStateIn K N I L C). full_log y.log_ids) campaigns.promised)) ∙ e) past);
            true_matches = λ x m e. absurd (no_match x m e);
          }

      pub wins : (v : World K N I L C D) × GoesOn D ids node_eq kind logs c s r w v new new_other
          × LeadsIn D ids node_eq kind logs c s v leader
      wins = elected (counts_it (grants_vote kind.eq candidate.vote response) refl)

  -- ---- a leader

  -- a leader leads by the vote of its server alone
  abbrev leads_by : VoteIn L → Leadership K N C → Bool
  leads_by v l =
      v.committed && logs.eq (kind.committed v.leader_id) l.leader_id && option_eq ids.eq (kind.voted v.leader_id) (Some l.id)

  -- a leader leads on, if the vote of its server stays, and its log loses nothing
  leads_still : (c : Cluster K L) (s : K) (w v : World K N I L C D) (old new : RaftStateIn K N I L C) (leader : Leadership K N C)
      → w.servers s ≡ old → v.servers s ≡ new → vote_of new ≡ vote_of old
      → ((i : ℕ) (m : LogIdOf C) → id_at (full_log old.log_ids) i ≡ Some m → id_at (full_log new.log_ids) i ≡ Some m)
      → ((m : Message K N L C D) → IsAmong m w.network → IsAmong m v.network)
      → (in_effect new.membership_state).configs ≡ (in_effect old.membership_state).configs
      → (WroteAll (full_log old.log_ids) v → WroteAll (full_log new.log_ids) v) → LeadsIn D ids node_eq kind logs c s w leader
      → LeadsIn D ids node_eq kind logs c s v leader
  leads_still c s w v old new leader before after vote kept more members wrote leads = record {
    leads = ap (λ (x : VoteIn L). leads_by x leader) same ∙ leads.leads;
    node = leads.node;
    in_use = subst (λ (x : VoteIn L). IsAmong x.leader_id c.leaders) (sym same) leads.in_use;
    counts = leads.counts ∙ ap (λ (x : RaftStateIn K N I L C). (in_effect x.membership_state).configs) before ∙ sym members
        ∙ sym (ap (λ (x : RaftStateIn K N I L C). (in_effect x.membership_state).configs) after);
    wrote = subst (λ (x : RaftStateIn K N I L C). WroteAll (full_log x.log_ids) v) (sym after) (wrote
        (λ i x e past. more _ (leads.wrote i x (ap (λ (y : RaftStateIn K N I L C). id_at (full_log y.log_ids) i) before ∙ e) past)));
    true_matches = λ r m e. by r m (leads.true_matches r m e);
  }
    where
      same : vote_of (v.servers s) ≡ vote_of (w.servers s)
      same = ap vote_of after ∙ vote ∙ sym (ap vote_of before)

      by : (r : K) (m : LogIdOf C) → IsTrueMatch D ids node_eq kind logs s w r m → IsTrueMatch D ids node_eq kind logs s v r m
      by r m (inl own) =
          inl (
            own.0,
            subst (λ (x : RaftStateIn K N I L C). id_at (full_log x.log_ids) m.index ≡ Some m) (sym after)
                (kept m.index m (subst (λ (x : RaftStateIn K N I L C). id_at (full_log x.log_ids) m.index ≡ Some m) before own.1)),
          )
      by r m (inr said) =
          inr (subst (λ (x : VoteIn L). IsAmong (Answered r x.leader_id (Matches (Some m))) v.network) (sym same) (more _ said))

  -- and if it learns what is true
  learns : (c : Cluster K L) (s : K) (w : World K N I L C D) (old new : Leadership K N C) → new.id ≡ old.id
      → new.leader_id ≡ old.leader_id → new.followers.membership ≡ old.followers.membership
      → ((x : K) → (match_of (entry_of ids.eq new x) ≡ match_of (entry_of ids.eq old x))
      ⊎ ((m : LogIdOf C) → match_of (entry_of ids.eq new x) ≡ Some m → IsTrueMatch D ids node_eq kind logs s w x m))
      → LeadsIn D ids node_eq kind logs c s w old → LeadsIn D ids node_eq kind logs c s w new
  learns c s w old new id leader members each leads = record {
    leads = ap (λ (x : C). (vote_of (w.servers s)).committed && logs.eq (kind.committed (vote_of (w.servers s)).leader_id) x
        && option_eq ids.eq (kind.voted (vote_of (w.servers s)).leader_id) (Some new.id)) leader
        ∙ ap (λ (x : K). (vote_of (w.servers s)).committed && logs.eq (kind.committed (vote_of (w.servers s)).leader_id) old.leader_id
        && option_eq ids.eq (kind.voted (vote_of (w.servers s)).leader_id) (Some x)) id ∙ leads.leads;
    node = id ∙ leads.node;
    in_use = leads.in_use;
    counts = ap (λ (m : MemberList K N). m.configs) members ∙ leads.counts;
    wrote = leads.wrote;
    true_matches = λ x m e. by x m e (each x);
  }
    where
      by : (x : K) (m : LogIdOf C) → match_of (entry_of ids.eq new x) ≡ Some m
          → (match_of (entry_of ids.eq new x) ≡ match_of (entry_of ids.eq old x))
          ⊎ ((n : LogIdOf C) → match_of (entry_of ids.eq new x) ≡ Some n → IsTrueMatch D ids node_eq kind logs s w x n)
          → IsTrueMatch D ids node_eq kind logs s w x m
      by x m e (inl same) = leads.true_matches x m (sym same ∙ e)
      by x m e (inr is) = is m e

  -- a proposal
  pub writes : (old new : RaftStateIn K N I L C) (leader : Leadership K N C) (entry : EntryOf C K N D) (last : LogIdOf C)
      → last_id (full_log old.log_ids) ≡ Some last → ProposalIsStep D ids node_eq kind logs leader old entry new
      → AppendsOwn (compared ids node_eq kind logs) leader Blank old new entry
      → LeadsAlone D ids node_eq kind logs old new leader leader
  writes old new leader entry last is step call c s r b w has leads = (after, goes, leading)
    where
      after : World K N I L C D
      after = next s new (w.campaigns s) (Written entry ∷ w.network) w

      goes : GoesOn D ids node_eq kind logs c s r w after new b
      goes =
          first_goes c s r w old b has new (w.campaigns s) (Written entry ∷ w.network) (λ m among. inr among)
          (step c s w after last (comes s old new (w.campaigns s) (Written entry ∷ w.network) w has.first) leads.node
          (subst (λ (x : RaftStateIn K N I L C). IsAmong (vote_of x).leader_id c.leaders) has.first leads.in_use) is)

      log_is : full_log new.log_ids ≡ log_with_own leader.leader_id old
      log_is =
          same_logs logs.eq has.exact.leaders (full_log new.log_ids) (log_with_own leader.leader_id old)
          (says_same logs.eq (full_log new.log_ids) (log_with_own leader.leader_id old) call.log)

      kept : (i : ℕ) (m : LogIdOf C) → id_at (full_log old.log_ids) i ≡ Some m → id_at (full_log new.log_ids) i ≡ Some m
      kept i m e =
          subst (λ (l : List (LogIdOf C)). id_at l i ≡ Some m) (sym log_is)
          (at_longer (full_log old.log_ids) (next_own_id leader.leader_id old ∷ []) i m e)

      wrote : WroteAll (full_log old.log_ids) after → WroteAll (full_log new.log_ids) after
      wrote before i x e past =
          by (at_either (full_log old.log_ids) (next_own_id leader.leader_id old) i x
          (ap (λ (l : List (LogIdOf C)). id_at l i) (sym log_is) ∙ e))
        where
          blank : LogIdOf C → EntryOf C K N D
          blank id = record { log_id = id; payload = Blank }

          by : (id_at (full_log old.log_ids) i ≡ Some x) ⊎ (next_own_id leader.leader_id old ≡ x)
              → IsAmong (Written (record { log_id = x; payload = Blank })) after.network
          by (inl there) = before i x there past
          by (inr same) = inl (ap (λ (y : EntryOf C K N D). written_as y) (sym (call.is_next ∙ ap blank same)))
            where
              written_as : EntryOf C K N D → Message K N L C D
              written_as y = Written y

      leading : LeadsIn D ids node_eq kind logs c s after leader
      leading =
          leads_still c s w after old new leader has.first goes.has.first (ap vote_of call.rest) kept (λ m among. inr among)
          (ap (λ (m : Memberships C K N). (in_effect m).configs) call.memberships) wrote leads

  carries : (c : Cluster K L) (s : K) (w v : World K N I L C D) (a : RaftStateIn K N I L C) → w.servers s ≡ a
      → (sending : InflightOf C) (prev : Option (LogIdOf C)) → IsCarried (full_log a.log_ids) sending prev
      → Carries ids node_eq kind logs c s w v sending prev
  carries c s w v a at (Logs id range) prev is = is
  carries c s w v a at Idle prev is = λ x e.
      subst (λ (y : RaftStateIn K N I L C). id_at (full_log y.log_ids) x.index ≡ Some x) (sym at) (is x e)
  carries c s w v a at (Snapshot id last) prev is = is

  pub sends : (a : RaftStateIn K N I L C) (to : K) (most : ℕ) (before after : Leadership K N C) (sending : InflightOf C)
      (request : AppendEntries L C K N D) → SendIsStep D ids node_eq kind logs before a sending
      → SendsNext ids.eq logs to (log_view_of a) most before after (Some sending)
      → request.leader_id ≡ (vote_of a).leader_id → IsCarried (full_log a.log_ids) sending request.prev
      → (configs : List (List K)) → AreLogged configs (full_log a.log_ids) request.entries.items → request.committed ≡ a.committed
      → Sends D ids node_eq kind logs configs a before after request
  sends a to most before after sending request step call is_own prev configs logged committed c s r b w has leads initial =
      (later, goes, leading, inl refl)
    where
      later : World K N I L C D
      later = next s a (w.campaigns s) (EntriesSent request ∷ w.network) w

      goes : GoesOn D ids node_eq kind logs c s r w later a b
      goes =
          first_goes c s r w a b has a (w.campaigns s) (EntriesSent request ∷ w.network) (λ m among. inr among)
          (step c s w later request (comes s a a (w.campaigns s) (EntriesSent request ∷ w.network) w has.first)
          (record { leads = leads.leads; node = leads.node; in_use = leads.in_use }) is_own
          (carries c s w later a has.first sending request.prev prev)
          (λ e among. by e (logged_among configs (full_log a.log_ids) request.entries.items logged e among)) committed)
        where
          by : (e : EntryOf C K N D)
              → (id_at (full_log a.log_ids) e.log_id.index ≡ Some e.log_id) × IsAsWritten configs e.log_id.index e.payload
              → (id_at (full_log a.log_ids) e.log_id.index ≡ Some e.log_id) × WasWritten c w e
          by e (at, is) = (at, either (cases_lt 0 e.log_id.index))
            where
              either : (0 < e.log_id.index) ⊎ (e.log_id.index ≤ 0) → WasWritten c w e
              either (inl past) =
                  inl (subst (λ (x : EntryPayload K N D). IsAmong (Written (record { log_id = e.log_id; payload = x })) w.network)
                  (sym (is.other past)) (leads.wrote e.log_id.index e.log_id
                  (ap (λ (x : RaftStateIn K N I L C). id_at (full_log x.log_ids) e.log_id.index) has.first ∙ at) past))
              either (inr none) =
                  let zero_at : e.log_id.index ≡ 0 = omega (arith, none) in
                  inr (zero_at, is.first zero_at ∙ ap (λ (m : List (List K)). Some m) (sym initial))

      leading : LeadsIn D ids node_eq kind logs c s later after
      leading =
          learns c s later before after
          (ap (λ (l : Leadership K N C). l.id) (send_node ids.eq logs a before after to most (Some sending) call))
          (ap (λ (l : Leadership K N C). l.leader_id) (send_node ids.eq logs a before after to most (Some sending) call))
          (send_members ids.eq logs a before after to most (Some sending) call)
          (λ x. inl (send_matches ids.eq logs a before after to most has.exact.nodes (Some sending) call x))
          (leads_still c s w later a a before has.first goes.has.first refl (λ i m e. e) (λ m among. inr among) refl (λ all. all) leads)

  -- a heartbeat
  pub beats : (a : RaftStateIn K N I L C) (leader : Leadership K N C) (heartbeat : Heartbeat C) (request : AppendEntries L C K N D)
      → HeartbeatIsStep D ids node_eq kind logs leader a heartbeat → request.leader_id ≡ (vote_of a).leader_id
      → request.prev ≡ heartbeat.prev → request.entries.items ≡ [] → request.committed ≡ a.committed
      → Beats D ids node_eq kind logs a leader request
  beats a leader heartbeat request step is_own prev none committed c s r b w has leads = (later, goes, leading, inl refl)
    where
      later : World K N I L C D
      later = next s a (w.campaigns s) (EntriesSent request ∷ w.network) w

      goes : GoesOn D ids node_eq kind logs c s r w later a b
      goes =
          first_goes c s r w a b has a (w.campaigns s) (EntriesSent request ∷ w.network) (λ m among. inr among)
          (step c s w later request (comes s a a (w.campaigns s) (EntriesSent request ∷ w.network) w has.first)
          (record { leads = leads.leads; node = leads.node; in_use = leads.in_use }) is_own prev none committed)

      leading : LeadsIn D ids node_eq kind logs c s later leader
      leading =
          leads_still c s w later a a leader has.first goes.has.first refl (λ i m e. e) (λ m among. inr among) refl (λ all. all) leads

  abbrev answer_as : K → L → Outcome L C → Message K N L C D
  answer_as r leader outcome = Answered r leader outcome

  -- an answer, which the leader takes
  pub exchanges : (r : K) (old new : RaftStateIn K N I L C) (request : AppendEntries L C K N D) (response : Response L C)
      (before after : Leadership K N C) (taken : Unit {0}) → AppendIsStep D ids node_eq kind logs request old response.outcome new
      → (let result : Result (Unit {0}) ResponseError = Ok taken in
      TakesResponse ids.eq logs r response before after result)
      → Exchanges D ids node_eq kind logs r old new request response.outcome before after
  exchanges r old new request response before after taken step call c s a w has leads message is_own =
      (later, goes, leading, inl (ap (λ (l : L). answer_as r l response.outcome) (sym is_own)))
    where
      later : World K N I L C D
      later = next r new (w.campaigns r) (Answered r request.leader_id response.outcome ∷ w.network) w

      not_own : kind.voted request.leader_id ≡ Some r → ⊥
      not_own e =
          let voted : option_eq ids.eq (kind.voted (vote_of (w.servers s)).leader_id) (Some before.id) ≡ true =
          (and_parts ((vote_of (w.servers s)).committed
          && logs.eq (kind.committed (vote_of (w.servers s)).leader_id) before.leader_id)
          (option_eq ids.eq (kind.voted (vote_of (w.servers s)).leader_id) (Some before.id)) leads.leads).1 in
          let at_r : ids.eq r before.id ≡ true =
          ap (λ (o : Option K). option_eq ids.eq o (Some before.id))
          (sym (ap (λ (x : RaftStateIn K N I L C). kind.voted (vote_of x).leader_id) has.first ∙ ap kind.voted (sym is_own) ∙ e)) ∙ voted in
          false≢true (sym (turned s r has.apart) ∙ ap (λ (x : K). ids.eq r x) (sym leads.node) ∙ at_r)

      goes : GoesOn D ids node_eq kind logs c s r w later a new
      goes =
          second_goes c s r w a old has new (w.campaigns r) (Answered r request.leader_id response.outcome ∷ w.network)
          (λ m among. inr among)
          (step c r w later
          (comes r old new (w.campaigns r) (Answered r request.leader_id response.outcome ∷ w.network) w has.second) message not_own)

      leading_before : LeadsIn D ids node_eq kind logs c s later before
      leading_before =
          leads_still c s w later a a before has.first goes.has.first refl (λ i m e. e) (λ m among. inr among) refl (λ all. all) leads

      leader_is : (vote_of (later.servers s)).leader_id ≡ request.leader_id
      leader_is = ap (λ (x : RaftStateIn K N I L C). (vote_of x).leader_id) goes.has.first ∙ sym is_own

      each : (x : K) → AnswersMatch ids.eq logs before after r response x
          → (match_of (entry_of ids.eq after x) ≡ match_of (entry_of ids.eq before x))
          ⊎ ((m : LogIdOf C) → match_of (entry_of ids.eq after x) ≡ Some m → IsTrueMatch D ids node_eq kind logs s later x m)
      each x (inl same) = inl same
      each x (inr said) = inr (λ m e. inr (inl (same_message x m (sym said.0) (said.1 ∙ ap said_as e))))
        where
          said_as : Option (LogIdOf C) → Outcome L C
          said_as o = Matches o

          same_message : (x : K) (m : LogIdOf C) → x ≡ r → response.outcome ≡ said_as (Some m)
              → answer_as x (vote_of (later.servers s)).leader_id (said_as (Some m)) ≡ answer_as r request.leader_id response.outcome
          same_message x m p o = let q = sym o in λ i. answer_as (p i) (leader_is i) (q i)

      leading : LeadsIn D ids node_eq kind logs c s later after
      leading =
          learns c s later before after
          (ap (λ (l : Leadership K N C). l.id) (response_node ids.eq logs before after r response (Ok taken) call))
          (ap (λ (l : Leadership K N C). l.leader_id) (response_node ids.eq logs before after r response (Ok taken) call))
          (response_members ids.eq logs before after r response (Ok taken) call)
          (λ x. each x (response_matches ids.eq logs before after r response has.exact.nodes (Ok taken) call x)) leading_before

  -- a commit, after the leader has counted its own log
  pub commits : (old new : RaftStateIn K N I L C) (before after : Leadership K N C) (upto committed : Option (LogIdOf C))
      → none_or_logged logs.eq (log_view_of old) upto ≡ true
      → ((entry : ProgressEntryOf C) → entry_of ids.eq before before.id ≡ Some entry → id_le logs.cmp entry.matching upto ≡ true
      → WritesEntry ids.eq before before.id (flushed_entry upto) after)
      → ((entry : ProgressEntryOf C) → entry_of ids.eq before before.id ≡ Some entry → id_le logs.cmp entry.matching upto ≡ false
      → after ≡ before)
      → (entry_of ids.eq before before.id ≡ None → (x : K) → entry_of ids.eq after x ≡ entry_of ids.eq before x)
      → after.followers.membership ≡ before.followers.membership → after ≡ record before { followers = after.followers }
      → CommitIsStep D ids node_eq kind logs after old new → Commits ids.eq logs after old new committed
      → LeadsAlone D ids node_eq kind logs old new before after
  commits old new before after upto committed logged counted stale not_counted members node step call c s r b w has leads =
      (later, goes, leading)
    where
      there : (m : LogIdOf C) → upto ≡ Some m → id_at (full_log (w.servers s).log_ids) m.index ≡ Some m
      there m e =
          subst (λ (x : RaftStateIn K N I L C). id_at (full_log x.log_ids) m.index ≡ Some m) (sym has.first)
          (exact_found logs.eq has.exact.leaders (id_at (full_log old.log_ids) m.index) m
          (subst (λ (o : Option (LogIdOf C)). none_or_logged logs.eq (log_view_of old) o ≡ true) e logged))

      each : (x : K) → FlushedMatch ids.eq logs before after upto has.exact.nodes x
          → (match_of (entry_of ids.eq after x) ≡ match_of (entry_of ids.eq before x))
          ⊎ ((m : LogIdOf C) → match_of (entry_of ids.eq after x) ≡ Some m → IsTrueMatch D ids node_eq kind logs s w x m)
      each x (inl same) = inl same
      each x (inr own) = inr (λ m e. inl (sym own.0 ∙ leads.node, there m (sym own.1 ∙ e)))

      flushed : LeadsIn D ids node_eq kind logs c s w after
      flushed =
          learns c s w before after (ap (λ (l : Leadership K N C). l.id) node) (ap (λ (l : Leadership K N C). l.leader_id) node) members
          (λ x. each x (flush_matches ids.eq logs before after upto has.exact.nodes counted stale not_counted x)) leads

      later : World K N I L C D
      later = next s new (w.campaigns s) w.network w

      goes : GoesOn D ids node_eq kind logs c s r w later new b
      goes =
          first_goes c s r w old b has new (w.campaigns s) w.network (λ m among. among)
          (step c s w later (comes s old new (w.campaigns s) w.network w has.first)
          (record { leads = flushed.leads; node = flushed.node; in_use = flushed.in_use })
          (subst (λ (y : RaftStateIn K N I L C). CountsByEffective after y) has.first flushed.counts)
          (λ x entry m known had. flushed.true_matches x m (ap match_of known ∙ had)))

      committed_now : RaftStateIn K N I L C
      committed_now = record old {
        committed = granted_by after;
        membership_state = after_commit logs.cmp (granted_by after) old.membership_state;
      }

      same_vote_now : (x y : Bool) → vote_of (if x then (if y then committed_now else old) else old) ≡ vote_of old
      same_vote_now true true = refl
      same_vote_now true false = refl
      same_vote_now false y = refl

      same_log_now : (x y : Bool) → full_log (if x then (if y then committed_now else old) else old).log_ids ≡ full_log old.log_ids
      same_log_now true true = refl
      same_log_now true false = refl
      same_log_now false y = refl

      same_members_now : (x y : Bool)
          → (in_effect (if x then (if y then committed_now else old) else old).membership_state).configs
          ≡ (in_effect old.membership_state).configs
      same_members_now true true = settled (commits_to logs.cmp (granted_by after) old.membership_state)
        where
          settled : (b : Bool) → (in_effect (if b
              then record { committed = old.membership_state.effective; effective = old.membership_state.effective }
              else old.membership_state)).configs ≡ (in_effect old.membership_state).configs
          settled true = refl
          settled false = refl
      same_members_now true false = refl
      same_members_now false y = refl

      leading : LeadsIn D ids node_eq kind logs c s later after
      leading =
          leads_still c s w later old new after has.first goes.has.first
          (ap vote_of call.committed ∙ same_vote_now (is_some committed) (id_lt logs.cmp old.committed (granted_by after)))
          (λ i m e. subst (λ (l : List (LogIdOf C)). id_at l i ≡ Some m)
          (sym (ap (λ (x : RaftStateIn K N I L C). full_log x.log_ids) call.committed
          ∙ same_log_now (is_some committed) (id_lt logs.cmp old.committed (granted_by after)))) e) (λ m among. among)
          (ap (λ (x : RaftStateIn K N I L C). (in_effect x.membership_state).configs) call.committed
          ∙ same_members_now (is_some committed) (id_lt logs.cmp old.committed (granted_by after)))
          (λ all. subst (λ (l : List (LogIdOf C)). WroteAll l later)
          (sym (ap (λ (x : RaftStateIn K N I L C). full_log x.log_ids) call.committed
          ∙ same_log_now (is_some committed) (id_lt logs.cmp old.committed (granted_by after)))) all) flushed

  -- ---- what a leader does with a follower
  pub replicates : (r : K) (old mid new old_other new_other : RaftStateIn K N I L C) (l0 l1 l2 l3 : Leadership K N C)
      (request : AppendEntries L C K N D) (outcome : Outcome L C) → LeadsAlone D ids node_eq kind logs old mid l0 l0
      → (configs : List (List K)) → Sends D ids node_eq kind logs configs mid l0 l1 request → request.leader_id ≡ (vote_of mid).leader_id
      → Exchanges D ids node_eq kind logs r old_other new_other request outcome l1 l2
      → LeadsAlone D ids node_eq kind logs mid new l2 l3 → LeadsWith D ids node_eq kind logs configs r old new old_other new_other l0 l3
  replicates r old mid new old_other new_other l0 l1 l2 l3 request outcome write configs send own exchange commit c s w has leads initial =
      let s1 = write c s r old_other w has leads in
      let s2 = send c s r old_other s1.0 s1.1.has s1.2 initial in
      let s3 = exchange c s mid s2.0 s2.1.has s2.2 s2.3 own in
      let s4 = commit c s r new_other s3.0 s3.1.has s3.2 in (
        s4.0,
        goes_further c s r w s3.0 s4.0 mid new_other new new_other
            (goes_further c s r w s2.0 s3.0 mid old_other mid new_other
            (goes_further c s r w s1.0 s2.0 mid old_other mid old_other s1.1 s2.1) s3.1) s4.1,
        s4.2,
      )

  pub asks : (r : K) (a old_other new_other : RaftStateIn K N I L C) (l0 l1 : Leadership K N C) (request : AppendEntries L C K N D)
      (outcome : Outcome L C) → Beats D ids node_eq kind logs a l0 request → request.leader_id ≡ (vote_of a).leader_id
      → Exchanges D ids node_eq kind logs r old_other new_other request outcome l0 l1
      → LeadsBack D ids node_eq kind logs r a old_other new_other outcome l0 l1
  asks r a old_other new_other l0 l1 request outcome beat own exchange c s w has leads =
      let s1 = beat c s r old_other w has leads in
      let s2 = exchange c s a s1.0 s1.1.has s1.2 s1.3 own in (
        s2.0,
        goes_further c s r w s1.0 s2.0 a old_other a new_other s1.1 s2.1,
        s2.2,
        s2.3,
      )

  pub hears_again : (r : K) (a o0 o1 o2 o3 : RaftStateIn K N I L C) (l0 l1 l2 l3 l4 l5 : Leadership K N C)
      (lost request : AppendEntries L C K N D) (cut found outcome : Outcome L C) (configs : List (List K))
      → Sends D ids node_eq kind logs configs a l0 l1 lost
      → LeadsBack D ids node_eq kind logs r a o0 o1 cut l1 l2 → LeadsBack D ids node_eq kind logs r a o1 o2 found l2 l3
      → Sends D ids node_eq kind logs configs a l3 l4 request → request.leader_id ≡ (vote_of a).leader_id
      → Exchanges D ids node_eq kind logs r o2 o3 request outcome l4 l5
      → HearsAgain D ids node_eq kind logs configs r a o0 o3 cut found l0 l5
  hears_again r a o0 o1 o2 o3 l0 l1 l2 l3 l4 l5 lost request cut found outcome configs first asks1 asks2 again own exchange c s w has
      leads initial =
      let s1 = first c s r o0 w has leads initial in
      let s2 = asks1 c s s1.0 s1.1.has s1.2 in
      let s3 = asks2 c s s2.0 s2.1.has s2.2 in
      let s4 = again c s r o2 s3.0 s3.1.has s3.2 initial in
      let s5 = exchange c s a s4.0 s4.1.has s4.2 s4.3 own in (
        s5.0,
        goes_further c s r w s4.0 s5.0 a o2 a o3
            (goes_further c s r w s3.0 s4.0 a o2 a o2
            (goes_further c s r w s2.0 s3.0 a o1 a o2 (goes_further c s r w s1.0 s2.0 a o0 a o1 s1.1 s2.1) s3.1) s4.1) s5.1,
        s5.2,
        s5.1.sent _ (s4.1.sent _ (s3.1.sent _ s2.3)),
        s5.1.sent _ (s4.1.sent _ s3.3),
      )

  -- a server that is elected and writes an entry
  pub leads_in_vain : (s r : K) (old mid new old_voter new_voter : RaftStateIn K N I L C) (leader : Leadership K N C)
      → Wins D ids node_eq kind logs s r old mid old_voter new_voter leader → LeadsAlone D ids node_eq kind logs mid new leader leader
      → vote_of new ≡ vote_of mid → LeadsInVain D ids node_eq kind logs s r old new old_voter new_voter
  leads_in_vain s r old mid new old_voter new_voter leader win write vote c w has in_use wrote =
      let s1 = win c w has (subst (λ (x : VoteIn L). IsAmong x.leader_id c.leaders) vote in_use) wrote in
      let s2 = write c s r new_voter s1.0 s1.1.has s1.2 in (
        s2.0,
        goes_further c s r w s1.0 s2.0 mid new_voter new new_voter s1.1 s2.1,
        subst (λ (x : RaftStateIn K N I L C). WroteAll (full_log x.log_ids) s2.0) s2.1.has.first s2.2.wrote,
      )

  -- ---- the story
  pub tells : (a b d : K) (x x1 x2 y y1 y2 y3 y4 z z1 z2 z3 : RaftStateIn K N I L C) (l1 l2 l3 : Leadership K N C)
      (cut found : Outcome L C) → LeadsInVain D ids node_eq kind logs a b x x1 y y1 → IsOfCampaign kind a (vote_of x1).leader_id
      → LeadsInVain D ids node_eq kind logs d b z z1 y1 y2 → IsOfCampaign kind d (vote_of z1).leader_id
      → (configs : List (List K)) → Wins D ids node_eq kind logs d b z1 z2 y2 y3 l1
      → IsOfCampaign kind d (vote_of z2).leader_id → LeadsWith D ids node_eq kind logs configs b z2 z3 y3 y4 l1 l2
      → HearsAgain D ids node_eq kind logs configs a z3 x1 x2 cut found l2 l3
      → TellsStory D ids node_eq kind logs configs a b d x y z x2 y4 z3 cut found
  tells a b d x x1 x2 y y1 y2 y3 y4 z z1 z2 z3 l1 l2 l3 cut found vain1 of1 vain2 of2 configs wins of3 replicates back = (
    (vote_of x1).leader_id,
    (vote_of z1).leader_id,
    (vote_of z2).leader_id,
    of1,
    of2,
    of3,
    λ c w exact apart three in_use1 in_use2 in_use3 initial wrote1 wrote2.
        let s1 = vain1 c w
        (record {
          exact = exact;
          apart = apart.one_two;
          earlier = three.earlier;
          run = three.run;
          first = three.one;
          second = three.two;
        }) in_use1 wrote1 in
        let s2 = vain2 c s1.0
        (record {
          exact = exact;
          apart = turned b d apart.two_three;
          earlier = s1.1.has.earlier;
          run = s1.1.has.run;
          first = s1.1.others d apart.one_three apart.two_three ∙ three.three;
          second = s1.1.has.second;
        }) in_use2 (λ i x e past. s1.1.sent _ (wrote2 i x e past)) in
        let s3 = wins c s2.0 s2.1.has in_use3 s2.2 in
        let s4 = replicates c d s3.0 s3.1.has s3.2 initial in
        let s5 = back c d s4.0
        (record {
          exact = exact;
          apart = turned a d apart.one_three;
          earlier = s4.1.has.earlier;
          run = s4.1.has.run;
          first = s4.1.has.first;
          second = s4.1.others a (turned a d apart.one_three) (turned a b apart.one_two)
              ∙ s3.1.others a (turned a d apart.one_three) (turned a b apart.one_two)
              ∙ s2.1.others a (turned a d apart.one_three) (turned a b apart.one_two) ∙ s1.1.has.first;
        }) s4.2 initial in (
          s5.0,
          record {
            earlier = s5.1.has.earlier;
            run = s5.1.has.run;
            one = s5.1.has.second;
            two = s5.1.others b (turned b d apart.two_three) apart.one_two ∙ s4.1.has.second;
            three = s5.1.has.first;
          },
          (vote_of z3).leader_id,
          s5.3,
          s5.4,
        ),
  )

  -- three new servers are a first world, from which the story goes
  pub ends_run : (a b d : K) (configs : List (List K)) (x y z p q o : RaftStateIn K N I L C) (story : Story L C)
      → AreExact ids logs → AreApart ids a b d
      → ((t : ℕ) (n : K) → (kind.term_of (kind.leader_of t n) ≡ t) × (kind.voted (kind.leader_of t n) ≡ Some n)
      × (kind.committed_of t n ≡ kind.committed (kind.leader_of t n)))
      → ((l m : L) → kind.is_default l → kind.is_default m → l ≡ m)
      → ((l m : L) → kind.committed l ≡ kind.committed m → kind.term_of l ≡ kind.term_of m)
      → IsStarted kind logs configs x → IsStarted kind logs configs y → IsStarted kind logs configs z
      → TellsStory D ids node_eq kind logs configs a b d x y z p q o story.cut story.found → IsKnown p story.one → IsKnown q story.two
      → IsKnown o story.three → EndsRun I D ids node_eq kind logs a b d story
  ends_run a b d configs x y z p q o story exact apart made one_default one_term is_x is_y is_z told one two three =
      ends
      (told.6 in_cluster first_world exact apart has_three (inl told.3.1) (inr (inl told.4.1)) (inr (inr (inl told.5.1))) refl
      (first_wrote (full_log x.log_ids) (kind.committed (vote_of x).leader_id) first_world is_x.new.log)
      (first_wrote (full_log z.log_ids) (kind.committed (vote_of z).leader_id) first_world is_z.new.log))
    where
      start : L
      start = (vote_of x).leader_id

      in_cluster : Cluster K L
      in_cluster = cluster_of kind configs (vote_of x).leader_id ((told.3.0, a) ∷ (told.4.0, d) ∷ (told.5.0, d) ∷ [])

      first_world : World K N I L C D
      first_world = record {
        servers = λ r. if ids.eq a r then x else (if ids.eq b r then y else z);
        campaigns = λ r. None;
        network = [];
      }

      news : (s t : Bool) → IsNewServer kind logs configs (vote_of x).leader_id (if s then x else (if t then y else z))
      news true t = is_x.new
      news false true =
          subst (λ (l : L). IsNewServer kind logs configs l y)
          (one_default (vote_of y).leader_id (vote_of x).leader_id is_y.is_default is_x.is_default) is_y.new
      news false false =
          subst (λ (l : L). IsNewServer kind logs configs l z)
          (one_default (vote_of z).leader_id (vote_of x).leader_id is_z.is_default is_x.is_default) is_z.new

      is_first : IsFirst ids node_eq kind logs in_cluster first_world
      is_first = record {
        server = λ r. news (ids.eq a r) (ids.eq b r);
        no_campaign = λ r. refl;
        nothing_sent = refl;
      }

      has_three : HasThree D ids node_eq kind logs in_cluster a b d x y z first_world
      has_three = record {
        earlier = [];
        run = is_first;
        one = rw (equal.refl a) refl;
        two = rw (apart.one_two, equal.refl b) refl;
        three = rw (apart.one_three, apart.two_three) refl;
      }

      known_at : {s t : RaftStateIn K N I L C} {known : Known L C} → s ≡ t → IsKnown t known → IsKnown s known
      known_at {s} {t} {known} e is = subst (λ (u : RaftStateIn K N I L C). IsKnown u known) (sym e) is

      ends : (v : World K N I L C D) × HasThree D ids node_eq kind logs in_cluster a b d p q o v × (leader : L)
          × IsAmong (Answered a leader story.cut) v.network × IsAmong (Answered a leader story.found) v.network
          → EndsRun I D ids node_eq kind logs a b d story
      ends end = record {
        cluster = in_cluster;
        is_cluster = nodes_cluster kind made one_term configs (vote_of x).leader_id
            ((told.3.0, a) ∷ (told.4.0, d) ∷ (told.5.0, d) ∷ []) is_x.some is_x.first_term;
        world = end.0;
        earlier = end.1.earlier;
        run = end.1.run;
        one = known_at end.1.one one;
        two = known_at end.1.two two;
        three = known_at end.1.three three;
        leader = end.2;
        cut = end.3;
        found = end.4;
      }
