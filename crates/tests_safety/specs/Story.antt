-- What the parts of a story of three servers say of a run. A part is about two of the servers: the first one
-- campaigns and leads, and the second one votes and follows. In whatever world of a run they are, the run
-- goes on from there as the part says.
use Rattle.std.specs.Prelude.{◌≡◌, ◌+◌, ◌⊎◌, ◌<◌, ℕ, Bool, true, false, List, [], ◌∷◌, length, Some, IsTrue}
use Rattle.std.specs.Option.{option_map}
use Rattle.raft_base.specs.declared.log_id.LogIdOf.{LogIdOf}
use Rattle.steps_handlers.specs.Compared.{LeaderMembers, compared}
use Rattle.steps_handlers.specs.Leadership.{Leadership, entry_of, is_leading}
use Rattle.steps_handlers.specs.declared.message.AppendEntries.{AppendEntries}
use Rattle.steps_handlers.specs.declared.message.Outcome.{Outcome}
use Rattle.steps_handlers.specs.declared.message.Outcome.TheVariants.{Matches}
use Rattle.raft_progress.specs.progress.Comparisons.{OrdMembers}
use Rattle.steps_safety.specs.Electing.{match_of}
use Rattle.steps_safety.specs.Running.{Answered, Cluster, CountsByEffective, EntriesSent, IsCluster, IsNewServer, IsRun, Message, World, Written}
use Rattle.tests_safety.specs.declared.story.Known.{Known}
use Rattle.tests_safety.specs.declared.story.Story.{Story}
use Rattle.safety_laws.specs.Ranks.{IsAmong}
use Rattle.raft_state.specs.log_id_list.FullLog.{full_log}
use Rattle.raft_state.specs.log_id_list.LogReads.{id_at, last_id}
use Rattle.raft_state.specs.entry.Entry.{payload_membership}
use Rattle.raft_state.specs.raft_state.VoteAndLog.{vote_of}
use Rattle.raft_state.specs.declared.entry.EntryOf.{EntryOf}
use Rattle.raft_state.specs.declared.entry.payload.EntryPayload.{EntryPayload}
use Rattle.raft_state.specs.declared.entry.payload.EntryPayload.TheVariants.{Blank}
use Rattle.raft_state.specs.declared.raft_state.RaftStateIn.{RaftStateIn}

-- a server is new, in a cluster with these configs
pub record IsStarted {K N I L C : Type 0} (kind : LeaderMembers L K C) (logs : OrdMembers C)
    (configs : List (List K)) (s : RaftStateIn K N I L C) : Type 0 where
  pub is_default : kind.is_default (vote_of s).leader_id
  pub first_term : kind.term_of (vote_of s).leader_id ≡ 0
  pub new : IsNewServer kind logs configs (vote_of s).leader_id s
  pub some : 0 < length configs

-- a leader id is of a campaign of a server
abbrev pub IsOfCampaign : {K L C : Type 0} → LeaderMembers L K C → K → L → Type 0
IsOfCampaign kind s leader = (t : ℕ) × (leader ≡ kind.leader_of (t + 1) s)

-- an entry is as it was written: the one at index 0 holds the initial configs, and each other one is blank
pub record IsAsWritten {K N D : Type 0} (configs : List (List K)) (index : ℕ) (payload : EntryPayload K N D)
    : Type 0 where
  pub first : index ≡ 0 → option_map (λ m. m.configs) (payload_membership payload) ≡ Some configs
  pub other : 0 < index → payload ≡ Blank

-- a log has the log id of each of these entries, and each is as it was written
abbrev pub AreLogged : {K N C D : Type 0} → List (List K) → List (LogIdOf C) → List (EntryOf C K N D) → Type 0
AreLogged configs log [] = Unit {0}
AreLogged configs log (e ∷ es) =
    (id_at log e.log_id.index ≡ Some e.log_id) × IsAsWritten configs e.log_id.index e.payload
    × AreLogged configs log es

-- each entry of a log past index 0 was written, and is blank
abbrev pub WroteAll : {K N I L C D : Type 0} → List (LogIdOf C) → World K N I L C D → Type 0
WroteAll {K} {N} {I} {L} {C} log w =
    (i : ℕ) (x : LogIdOf C) → id_at log i ≡ Some x → 0 < i
    → IsAmong (Written (record { log_id = x; payload = Blank })) w.network

-- what is known of a server
pub record IsKnown {K N I L C : Type 0} (s : RaftStateIn K N I L C) (known : Known L C) : Type 0 where
  pub vote : vote_of s ≡ known.vote
  pub last : last_id (full_log s.log_ids) ≡ known.last
  pub committed : s.committed ≡ known.committed

-- ids that are `==` are equal
pub record AreExact {K C : Type 0} (ids : OrdMembers K) (logs : OrdMembers C) : Type 0 where
  pub nodes : (x y : K) → ids.eq x y ≡ true → x ≡ y
  pub leaders : (x y : C) → logs.eq x y ≡ true → x ≡ y

-- three servers are three
pub record AreApart {K : Type 0} (ids : OrdMembers K) (one two three : K) : Type 0 where
  pub one_two : ids.eq one two ≡ false
  pub one_three : ids.eq one three ≡ false
  pub two_three : ids.eq two three ≡ false

module _ {K N I L C : Type 0} (D : Type 0) (ids : OrdMembers K) (node_eq : N → N → Bool)
    (kind : LeaderMembers L K C) (logs : OrdMembers C) where
  -- a world of a run, in which two servers have these states
  pub record HasPair (c : Cluster K L) (s r : K) (a b : RaftStateIn K N I L C) (w : World K N I L C D)
      : Type 0 where
    pub exact : AreExact ids logs
    pub apart : ids.eq s r ≡ false
    pub earlier : List (World K N I L C D)
    pub run : IsRun ids node_eq kind logs c w earlier
    pub first : w.servers s ≡ a
    pub second : w.servers r ≡ b

  -- the run goes on from one world to another by steps of two servers, which then have these states
  pub record GoesOn (c : Cluster K L) (s r : K) (w v : World K N I L C D) (a b : RaftStateIn K N I L C)
      : Type 0 where
    pub has : HasPair c s r a b v
    pub others : (x : K) → ids.eq s x ≡ false → ids.eq r x ≡ false → v.servers x ≡ w.servers x
    pub sent : (m : Message K N L C D) → IsAmong m w.network → IsAmong m v.network

  -- what a leader counts as the match of a member is of the leader's own log, or the member has answered it
  abbrev pub IsTrueMatch : K → World K N I L C D → K → LogIdOf C → Type 0
  IsTrueMatch s w r m =
      ((r ≡ s) × (id_at (full_log (w.servers s).log_ids) m.index ≡ Some m))
      ⊎ IsAmong (Answered r (vote_of (w.servers s)).leader_id (Matches (Some m))) w.network

  -- in a world a server leads, by its effective membership, counts true matches, and its log was written
  pub record LeadsIn (c : Cluster K L) (s : K) (w : World K N I L C D) (leader : Leadership K N C)
      : Type 0 where
    pub leads : IsTrue (is_leading (compared ids node_eq kind logs) leader (w.servers s))
    pub node : leader.id ≡ s
    pub in_use : IsAmong (vote_of (w.servers s)).leader_id c.leaders
    pub counts : CountsByEffective leader (w.servers s)
    pub wrote : WroteAll (full_log (w.servers s).log_ids) w
    pub true_matches : (r : K) (m : LogIdOf C) → match_of (entry_of ids.eq leader r) ≡ Some m
        → IsTrueMatch s w r m

  -- the run goes on, and the first one of the two servers leads
  abbrev pub LeadsOn : Cluster K L → K → K → World K N I L C D → (a b : RaftStateIn K N I L C)
      → Leadership K N C → Type 0
  LeadsOn c s r w a b leader = (v : World K N I L C D) × GoesOn c s r w v a b × LeadsIn c s v leader

  -- a server campaigns, the second one votes for it, and it leads
  abbrev pub Wins : (s r : K) → (old new old_voter new_voter : RaftStateIn K N I L C) → Leadership K N C
      → Type 0
  Wins s r old new old_voter new_voter leader =
      (c : Cluster K L) (w : World K N I L C D) → HasPair c s r old old_voter w
      → IsAmong (vote_of new).leader_id c.leaders → WroteAll (full_log old.log_ids) w
      → LeadsOn c s r w new new_voter leader

  -- a server campaigns, the second one votes for it, and it leads, but nobody hears of what it does
  abbrev pub LeadsInVain : (s r : K) → (old new old_voter new_voter : RaftStateIn K N I L C) → Type 0
  LeadsInVain s r old new old_voter new_voter =
      (c : Cluster K L) (w : World K N I L C D) → HasPair c s r old old_voter w
      → IsAmong (vote_of new).leader_id c.leaders → WroteAll (full_log old.log_ids) w
      → (v : World K N I L C D) × GoesOn c s r w v new new_voter × WroteAll (full_log new.log_ids) v

  -- a leader does something alone
  abbrev pub LeadsAlone : (old new : RaftStateIn K N I L C) → (before after : Leadership K N C) → Type 0
  LeadsAlone old new before after =
      (c : Cluster K L) (s r : K) (b : RaftStateIn K N I L C) (w : World K N I L C D)
      → HasPair c s r old b w → LeadsIn c s w before → LeadsOn c s r w new b after

  -- a leader sends a request, in a cluster with these initial configs
  abbrev pub Sends : List (List K) → RaftStateIn K N I L C → (before after : Leadership K N C)
      → AppendEntries L C K N D → Type 0
  Sends configs a before after request =
      (c : Cluster K L) (s r : K) (b : RaftStateIn K N I L C) (w : World K N I L C D)
      → HasPair c s r a b w → LeadsIn c s w before → c.initial ≡ configs
      → (v : World K N I L C D) × GoesOn c s r w v a b × LeadsIn c s v after
      × IsAmong (EntriesSent request) v.network

  -- a leader sends a heartbeat
  abbrev pub Beats : RaftStateIn K N I L C → Leadership K N C → AppendEntries L C K N D → Type 0
  Beats a leader request =
      (c : Cluster K L) (s r : K) (b : RaftStateIn K N I L C) (w : World K N I L C D)
      → HasPair c s r a b w → LeadsIn c s w leader
      → (v : World K N I L C D) × GoesOn c s r w v a b × LeadsIn c s v leader
      × IsAmong (EntriesSent request) v.network

  -- a follower answers a request, and the leader takes the answer
  abbrev pub Exchanges : (r : K) → (old new : RaftStateIn K N I L C) → AppendEntries L C K N D
      → Outcome L C → (before after : Leadership K N C) → Type 0
  Exchanges r old new request outcome before after =
      (c : Cluster K L) (s : K) (a : RaftStateIn K N I L C) (w : World K N I L C D)
      → HasPair c s r a old w → LeadsIn c s w before → IsAmong (EntriesSent request) w.network
      → request.leader_id ≡ (vote_of a).leader_id
      → (v : World K N I L C D) × GoesOn c s r w v a new × LeadsIn c s v after
      × IsAmong (Answered r (vote_of a).leader_id outcome) v.network

  -- a leader does something with a follower
  abbrev pub LeadsWith : List (List K) → (r : K) → (old new old_other new_other : RaftStateIn K N I L C)
      → (before after : Leadership K N C) → Type 0
  LeadsWith configs r old new old_other new_other before after =
      (c : Cluster K L) (s : K) (w : World K N I L C D) → HasPair c s r old old_other w
      → LeadsIn c s w before → c.initial ≡ configs → LeadsOn c s r w new new_other after

  -- and the follower has given this answer on the way
  abbrev pub LeadsBack : (r : K) → (a old_other new_other : RaftStateIn K N I L C) → Outcome L C
      → (before after : Leadership K N C) → Type 0
  LeadsBack r a old_other new_other outcome before after =
      (c : Cluster K L) (s : K) (w : World K N I L C D) → HasPair c s r a old_other w
      → LeadsIn c s w before
      → (v : World K N I L C D) × GoesOn c s r w v a new_other × LeadsIn c s v after
      × IsAmong (Answered r (vote_of a).leader_id outcome) v.network

  -- and the follower has given both of these answers on the way
  abbrev pub HearsAgain : List (List K) → (r : K) → (a old_other new_other : RaftStateIn K N I L C)
      → (cut found : Outcome L C) → (before after : Leadership K N C) → Type 0
  HearsAgain configs r a old_other new_other cut found before after =
      (c : Cluster K L) (s : K) (w : World K N I L C D) → HasPair c s r a old_other w
      → LeadsIn c s w before → c.initial ≡ configs
      → (v : World K N I L C D) × GoesOn c s r w v a new_other × LeadsIn c s v after
      × IsAmong (Answered r (vote_of a).leader_id cut) v.network
      × IsAmong (Answered r (vote_of a).leader_id found) v.network

  -- a world of a run, in which three servers have these states
  pub record HasThree (c : Cluster K L) (a b d : K) (x y z : RaftStateIn K N I L C) (w : World K N I L C D)
      : Type 0 where
    pub earlier : List (World K N I L C D)
    pub run : IsRun ids node_eq kind logs c w earlier
    pub one : w.servers a ≡ x
    pub two : w.servers b ≡ y
    pub three : w.servers d ≡ z

  -- the story of three servers, from these states to those, in a cluster with three campaigns: the first
  -- one has answered the leader so
  abbrev pub Tells : List (List K) → (a b d : K) → (x y z p q o : RaftStateIn K N I L C) → (one two three : L)
      → (cut found : Outcome L C) → Type 0
  Tells configs a b d x y z p q o one two three cut found =
      (c : Cluster K L) (w : World K N I L C D) → AreExact ids logs → AreApart ids a b d
      → HasThree c a b d x y z w → IsAmong one c.leaders → IsAmong two c.leaders
      → IsAmong three c.leaders → c.initial ≡ configs → WroteAll (full_log x.log_ids) w
      → WroteAll (full_log z.log_ids) w
      → (v : World K N I L C D) × HasThree c a b d p q o v × (leader : L)
      × IsAmong (Answered a leader cut) v.network × IsAmong (Answered a leader found) v.network

  -- the first server has campaigned once, and the third one twice
  abbrev pub TellsStory : List (List K) → (a b d : K) → (x y z p q o : RaftStateIn K N I L C) → (cut found : Outcome L C)
      → Type 0
  TellsStory configs a b d x y z p q o cut found =
      (one : L) × (two : L) × (three : L) × IsOfCampaign kind a one × IsOfCampaign kind d two
      × IsOfCampaign kind d three × Tells configs a b d x y z p q o one two three cut found

-- a run of a cluster ends in a world in which three servers are as the story says, and the first one has
-- given a leader both answers of the story
pub record EndsRun {K N L C : Type 0} (I D : Type 0) (ids : OrdMembers K) (node_eq : N → N → Bool)
    (kind : LeaderMembers L K C) (logs : OrdMembers C) (a b d : K) (story : Story L C) : Type 0 where
  pub cluster : Cluster K L
  pub is_cluster : IsCluster kind cluster
  pub world : World K N I L C D
  pub earlier : List (World K N I L C D)
  pub run : IsRun ids node_eq kind logs cluster world earlier
  pub one : IsKnown (world.servers a) story.one
  pub two : IsKnown (world.servers b) story.two
  pub three : IsKnown (world.servers d) story.three
  pub leader : L
  pub cut : IsAmong (Answered a leader story.cut) world.network
  pub found : IsAmong (Answered a leader story.found) world.network
