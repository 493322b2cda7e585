-- What messages say of configs, and that it stays true.
use Rattle.std.specs.Prelude.{◌≡◌, ◌⊎◌, ◌-◌, ◌<◌, ◌≤◌, ℕ, zero, suc, Option, Some, List, [], ◌∷◌, length, take, drop, slice_get}
use Rattle.std.proofs.Common.{refl, sym, ap, subst, ◌∙◌, inl, inr, arith}
use Rattle.std.proofs.lemmas.List.{length-take-le}
use Rattle.raft_base.specs.declared.log_id.LogIdOf.{LogIdOf}
use Rattle.safety_laws.specs.Log.{Entry, IsPrefix}
use Rattle.safety_laws.specs.Events.{Event, History, log_after, term_after}
use Rattle.safety_laws.specs.Facts.{HasVoted, IsElected, appended}
use Rattle.safety_laws.specs.Configs.{effective_config, is_quorum}
use Rattle.safety_laws.specs.Execution.{FactsAreStable}
use Rattle.safety_laws.specs.Ranks.{IsAmong}
use Rattle.safety_laws.specs.Rules.{FollowsRaft}
use Rattle.steps_safety.specs.Appending.{AllInLog, IsSnapshotSent}
use Rattle.steps_safety.specs.Server.{IsIdAt, IsInLog, KnowsCommitted, Leaders, Place}
use Rattle.steps_safety.proofs.Stepping.{IsPast, IsSeenCluster, SeenCluster, at_server}
use Rattle.steps_safety.proofs.Members.{Members}
use Rattle.safety_laws.proofs.lemmas.ConfigLemmas.{upto}
use Rattle.steps_safety.proofs.ConfigSteps.{HoldsTruly}
use Rattle.steps_safety.proofs.MembersLemmas.{ShowsMembers}
use Rattle.safety_laws.proofs.lemmas.PrefixLemmas.{prefix_itself, prefix_take, take_of_prefix}
use Rattle.steps_safety.proofs.PlaceLemmas.{last_of_take, some_same}
use Rattle.safety_laws.proofs.lemmas.ServerLemmas.{IsFrom, had_now, log_from}
use Rattle.steps_safety.proofs.AppendingLemmas.{at_within, get_within, prefix_get, take_get}
use Rattle.steps_safety.proofs.SteppingLemmas.{Q, follows, grows_in, safe, still}

pub all_among : {L C K D : Type 0} (k : Leaders L C K) (p : Place L C K D) (log : List (Entry C D)) (ids : List (LogIdOf C))
    → AllInLog k p log ids → (y : LogIdOf C) → IsAmong y ids → IsInLog p.first p.terms log y
all_among k p log [] all y among = absurd among
all_among k p log (x ∷ xs) all y (inl same) = subst (λ (z : LogIdOf _). IsInLog p.first p.terms log z) (sym same) all.0
all_among k p log (x ∷ xs) all y (inr among) = all_among k p log xs all.1 y among

pub drop_among : {C : Type 0} (n : ℕ) (ids : List (LogIdOf C)) (y : LogIdOf C) → IsAmong y (drop n ids) → IsAmong y ids
drop_among zero ids y among = among
drop_among (suc n) [] y among = absurd among
drop_among (suc n) (x ∷ xs) y among = inr (drop_among n xs y among)

module _ {L C K D M : Type 0} (c : SeenCluster L C K D M) (h : History C K D) where
  -- the memberships of a server are those of its log, and the committed one is committed
  pub record HasMembers (s : K) (m : Members M) : Type 0 where
    pub shows : ShowsMembers c.config_of c.initial (log_after (h.events s)) m
    pub known : (i : ℕ) → m.committed_at ≡ suc i
        → KnowsCommitted c.rank (is_quorum c.rank c.config_of c.initial c.quorum_of) h (h.events s) (suc i)

  -- an entry was written by an elected leader, and holds this config, if any
  pub record IsWritten (x : LogIdOf C) (holds : Option M) : Type 0 where
    pub by_node : K
    pub elected : IsElected c.rank (is_quorum c.rank c.config_of c.initial c.quorum_of) h x.leader_id by_node
    pub past : 0 < x.index
    pub there : (i : ℕ) → x.index ≡ suc i → (e : Entry C D) × (slice_get (h.leader_log x.leader_id by_node) i ≡ Some e)
        × (e.term ≡ x.leader_id) × (c.config_of e.content ≡ holds)

  -- the entries of a request hold these configs
  abbrev pub AllHoldTruly : L → List (LogIdOf C) → (LogIdOf C → Option M) → Type 0
  AllHoldTruly leader ids holds =
      (n : K) → c.kind.voted leader ≡ Some n → (x : LogIdOf C) → IsAmong x ids
      → HoldsTruly c (h.leader_log (c.kind.committed leader) n) holds x

  -- a candidate counts by the config of its log
  abbrev pub CountsBy : L → M → Type 0
  CountsBy leader m =
      (n : K) → c.kind.voted leader ≡ Some n → HasVoted (c.kind.committed leader) n (h.events n)
      × (effective_config c.config_of c.initial (h.candidate_log (c.kind.committed leader) n) ≡ m)

  -- a snapshot holds the config in effect at its end
  abbrev pub SnapshotHolds : L → LogIdOf C → ℕ → M → Type 0
  SnapshotHolds leader end held_at held =
      (n : K) → c.kind.voted leader ≡ Some n
      → (upto c.config_of (take end.index (h.leader_log (c.kind.committed leader) n)) ≡ held_at)
      × (effective_config c.config_of c.initial (take end.index (h.leader_log (c.kind.committed leader) n)) ≡ held)

  pub record IsBuiltIn (end : LogIdOf C) (held_at : ℕ) (held : M) : Type 0 where
    pub term : C
    pub node : K
    pub elected : IsElected c.rank (is_quorum c.rank c.config_of c.initial c.quorum_of) h term node
    pub there : IsInLog c.first c.terms (h.leader_log term node) end
    pub held_at_is : upto c.config_of (take end.index (h.leader_log term node)) ≡ held_at
    pub held_is : effective_config c.config_of c.initial (take end.index (h.leader_log term node)) ≡ held

  abbrev pub IsBuilt : LogIdOf C → ℕ → M → Type 0
  IsBuilt end held_at held = ((end.index ≡ 0) × (held_at ≡ 0) × (held ≡ c.initial)) ⊎ IsBuiltIn end held_at held

module _ {L C K D M : Type 0} (c : SeenCluster L C K D M) (is_cluster : IsSeenCluster c) (h after : History C K D)
    (facts : FactsAreStable c.rank c.config_of c.initial c.quorum_of h after) where
  holds_more : (old new : List (Entry C D)) (holds : LogIdOf C → Option M) (x : LogIdOf C) → IsPrefix old new
      → HoldsTruly c old holds x → HoldsTruly c new holds x
  holds_more old new holds x st t = record {
    first = t.first;
    later = λ i at.
        let r = t.later i at in
        (r.0, prefix_get i st (get_within old i r.0 r.1) ∙ r.1, r.2);
  }

  pub still_hold : (leader : L) (ids : List (LogIdOf C)) (holds : LogIdOf C → Option M) (n : K) → c.kind.voted leader ≡ Some n
      → IsElected c.rank (Q c is_cluster) h (c.kind.committed leader) n → AllHoldTruly c h leader ids holds
      → AllHoldTruly c after leader ids holds
  still_hold leader ids holds n for el all m for_m x among =
      let same = some_same n m (sym for ∙ for_m) in
      let el_m = subst (λ (r : K). IsElected c.rank (Q c is_cluster) h (c.kind.committed leader) r) same el in
      holds_more (h.leader_log (c.kind.committed leader) m) (after.leader_log (c.kind.committed leader) m) holds x
      (facts.elected (c.kind.committed leader) m el_m).2 (all m for_m x among)

  pub still_written : (x : LogIdOf C) (holds : Option M) → IsWritten c h x holds → IsWritten c after x holds
  still_written x holds w =
      let el = facts.elected x.leader_id w.by_node w.elected in
      record {
        by_node = w.by_node;
        elected = el.0;
        past = w.past;
        there = λ i at.
            let r = w.there i at in
            (r.0, prefix_get i el.2 (get_within (h.leader_log x.leader_id w.by_node) i r.0 r.1) ∙ r.1, r.2, r.3);
      }

  pub still_counts : (leader : L) (m : M) → CountsBy c h leader m → CountsBy c after leader m
  still_counts leader m by_m n for =
      let r = by_m n for in
      let t = c.kind.committed leader in
      (facts.voted n t n r.0, ap (effective_config c.config_of c.initial) (facts.asked n t n r.0) ∙ r.1)

  pub snapshot_still_holds : (leader : L) (end : LogIdOf C) (held_at : ℕ) (held : M) (s : K)
      → IsSnapshotSent c.kind (at_server c h s) leader end → SnapshotHolds c h leader end held_at held
      → SnapshotHolds c after leader end held_at held
  snapshot_still_holds leader end held_at held s sent all n for =
      let t = c.kind.committed leader in
      let same = some_same sent.by_node n (sym sent.is_for ∙ for) in
      let el = subst (λ (r : K). IsElected c.rank (Q c is_cluster) h t r) same sent.elected_in in
      let there = subst (λ (r : K). IsInLog c.first c.terms (h.leader_log t r) end) same sent.upto_in in
      let fits = at_within c.first (h.leader_log t n) end.index end there.at in
      let log = take_of_prefix end.index (h.leader_log t n) (after.leader_log t n) (facts.elected t n el).2 fits in
      let r = all n for in
      (ap (upto c.config_of) log ∙ r.0, ap (effective_config c.config_of c.initial) log ∙ r.1)

  pub still_built : (end : LogIdOf C) (held_at : ℕ) (held : M) → IsBuilt c h end held_at held → IsBuilt c after end held_at held
  still_built end held_at held (inl e) = inl e
  still_built end held_at held (inr b) =
      let el = facts.elected b.term b.node b.elected in
      let fits = at_within c.first (h.leader_log b.term b.node) end.index end b.there.at in
      let log = take_of_prefix end.index (h.leader_log b.term b.node) (after.leader_log b.term b.node) el.2 fits in
      inr (record {
        term = b.term;
        node = b.node;
        elected = el.0;
        there = grows_in c (h.leader_log b.term b.node) (after.leader_log b.term b.node) el.2 end b.there;
        held_at_is = ap (upto c.config_of) log ∙ b.held_at_is;
        held_is = ap (effective_config c.config_of c.initial) log ∙ b.held_is;
      })

module _ {L C K D M : Type 0} (c : SeenCluster L C K D M) (is_cluster : IsSeenCluster c) (h : History C K D)
    (earlier : List (History C K D)) (past : IsPast c h earlier) where
  lawful : FollowsRaft c.rank (Q c is_cluster) h
  lawful = follows c is_cluster h earlier past

  pub members_stay : (after : History C K D) → FactsAreStable c.rank c.config_of c.initial c.quorum_of h after → (r : K)
      (m : Members M) → after.events r ≡ h.events r → HasMembers c h r m → HasMembers c after r m
  members_stay after facts r m same has = record {
    shows = rw same has.shows;
    known = λ i at.
        subst (λ (es : List (Event C K D)). KnowsCommitted c.rank (Q c is_cluster) after es (suc i)) (sym same)
        (still c is_cluster h earlier past after facts (h.events r) (suc i) (has.known i at));
  }

  -- two logs of leaders with entries of one term at an index are equal up to it
  same_upto : (t u : C) (a b : K) → IsElected c.rank (Q c is_cluster) h t a → IsElected c.rank (Q c is_cluster) h u b → (i : ℕ)
      (e f : Entry C D) → slice_get (h.leader_log t a) i ≡ Some e → slice_get (h.leader_log u b) i ≡ Some f → e.term ≡ f.term
      → take (suc i) (h.leader_log t a) ≡ take (suc i) (h.leader_log u b)
  same_upto t u a b el el' i e f at at' same =
      let x = length-take-le (suc i) (h.leader_log t a) (get_within (h.leader_log t a) i e at) in
      let y = length-take-le (suc i) (h.leader_log u b) (get_within (h.leader_log u b) i f at') in
      (safe c is_cluster h earlier past).log_matching (take (suc i) (h.leader_log t a)) (take (suc i) (h.leader_log u b))
      (inr (t, a, el, prefix_take (suc i) (h.leader_log t a))) (inr (u, b, el', prefix_take (suc i) (h.leader_log u b)))
      (omega (arith, x)) (x ∙ sym y)
      (last_of_take c.rank 0 i (h.leader_log t a) e at ∙ ap c.rank same ∙ sym (last_of_take c.rank 0 i (h.leader_log u b) f at'))

  -- an entry of a leader's log holds what it was written with
  pub written_in : (t : C) (s : K) → IsElected c.rank (Q c is_cluster) h t s → (x : LogIdOf C) (holds : LogIdOf C → Option M)
      → IsInLog c.first c.terms (h.leader_log t s) x → IsWritten c h x (holds x) → HoldsTruly c (h.leader_log t s) holds x
  written_in t s el x holds there w = record {
    first = λ e. absurd (let p = w.past in omega (arith, p, e));
    later = λ i at. later i at (subst (λ (n : ℕ). IsIdAt c.first (h.leader_log t s) n x) at there.at);
  }
    where
      later : (i : ℕ) → x.index ≡ suc i
          → ((e : Entry C D) × (slice_get (h.leader_log t s) i ≡ Some e) × (e.term ≡ x.leader_id))
          → (e : Entry C D) × (slice_get (h.leader_log t s) i ≡ Some e) × (c.config_of e.content ≡ holds x)
      later i at own =
          let r = w.there i at in
          let logs = same_upto t x.leader_id s w.by_node el w.elected i own.0 r.0 own.1 r.1 (own.2 ∙ sym r.2) in
          let got =
          sym (take_get (suc i) i (h.leader_log t s) (omega arith))
          ∙ ap (λ (l : List (Entry C D)). slice_get l i) logs
          ∙ take_get (suc i) i (h.leader_log x.leader_id w.by_node) (omega arith) ∙ r.1 in
          (r.0, got, r.3)

  -- so does an entry of a part of a leader's log
  pub written_in_part : (l : List (Entry C D)) (t : C) (s : K) → IsElected c.rank (Q c is_cluster) h t s
      → IsPrefix l (h.leader_log t s) → (x : LogIdOf C) (holds : LogIdOf C → Option M) → IsInLog c.first c.terms l x
      → IsWritten c h x (holds x) → HoldsTruly c l holds x
  written_in_part l t s el st x holds there w =
      record { first = whole.first; later = λ i at. later i at (subst (λ (n : ℕ). IsIdAt c.first l n x) at there.at) }
    where
      whole : HoldsTruly c (h.leader_log t s) holds x
      whole = written_in t s el x holds (grows_in c l (h.leader_log t s) st x there) w

      later : (i : ℕ) → x.index ≡ suc i → ((e : Entry C D) × (slice_get l i ≡ Some e) × (e.term ≡ x.leader_id))
          → (e : Entry C D) × (slice_get l i ≡ Some e) × (c.config_of e.content ≡ holds x)
      later i at own =
          let r = whole.later i at in
          (r.0, sym (prefix_get i st (get_within l i own.0 own.1)) ∙ r.1, r.2)

  -- a snapshot that was built up to a log id of a leader's log holds the config in effect there
  pub built_in : (t : C) (s : K) → IsElected c.rank (Q c is_cluster) h t s → (end : LogIdOf C) (held_at : ℕ) (held : M)
      → IsInLog c.first c.terms (h.leader_log t s) end → IsBuilt c h end held_at held
      → (upto c.config_of (take end.index (h.leader_log t s)) ≡ held_at)
      × (effective_config c.config_of c.initial (take end.index (h.leader_log t s)) ≡ held)
  built_in t s el end held_at held there (inl z) =
      let none = ap (λ (n : ℕ). take n (h.leader_log t s)) z.0 in
      (ap (upto c.config_of) none ∙ sym z.1, ap (effective_config c.config_of c.initial) none ∙ sym z.2)
  built_in t s el end held_at held there (inr b) = by end.index refl there.at b.there.at
    where
      by : (n : ℕ) → end.index ≡ n → IsIdAt c.first (h.leader_log t s) n end
          → IsIdAt c.first (h.leader_log b.term b.node) n end
          → (upto c.config_of (take n (h.leader_log t s)) ≡ held_at)
          × (effective_config c.config_of c.initial (take n (h.leader_log t s)) ≡ held)
      by zero e mine theirs =
          let n : take 0 (h.leader_log t s) ≡ take end.index (h.leader_log b.term b.node) =
          ap (λ (k : ℕ). take k (h.leader_log b.term b.node)) (sym e) in
          (ap (upto c.config_of) n ∙ b.held_at_is, ap (effective_config c.config_of c.initial) n ∙ b.held_is)
      by (suc i) e mine theirs =
          let logs = same_upto t b.term s b.node el b.elected i mine.0 theirs.0 mine.1 theirs.1 (mine.2 ∙ sym theirs.2) in
          let n = ap (λ (k : ℕ). take k (h.leader_log b.term b.node)) (sym e) in (
            ap (upto c.config_of) (logs ∙ n) ∙ b.held_at_is,
            ap (effective_config c.config_of c.initial) (logs ∙ n) ∙ b.held_is,
          )

  -- a server that builds a snapshot from its memberships
  pub built_of : (s : K) (end : LogIdOf C) → IsInLog c.first c.terms (log_after (h.events s)) end → (m : Members M)
      → ShowsMembers c.config_of c.initial (take end.index (log_after (h.events s))) m
      → IsBuilt c h end m.effective_at m.effective
  built_of s end there m shows = by end.index refl
    where
      by : (n : ℕ) → end.index ≡ n → IsBuilt c h end m.effective_at m.effective
      by zero e =
          let none = ap (λ (k : ℕ). take k (log_after (h.events s))) e in
          inl (e, shows.at ∙ ap (upto c.config_of) none, shows.is ∙ ap (effective_config c.config_of c.initial) none)
      by (suc i) e =
          go (log_from c.rank (appended (Q c is_cluster)) h lawful (suc (term_after c.rank (h.events s))) s (h.events s) (lawful.servers s)
          (omega arith) (log_after (h.events s)) (had_now (h.events s) (log_after (h.events s)) (prefix_itself (log_after (h.events s)))))
        where
          fits : end.index ≤ length (log_after (h.events s))
          fits = at_within c.first (log_after (h.events s)) end.index end there.at

          go : IsFrom c.rank (appended (Q c is_cluster)) h lawful (suc (term_after c.rank (h.events s))) (log_after (h.events s))
              → IsBuilt c h end m.effective_at m.effective
          go (inl none) = absurd (omega (arith, fits, none, e))
          go (inr o) =
              let log = take_of_prefix end.index (log_after (h.events s)) (h.leader_log o.term o.leader) o.start fits in
              inr (record {
                term = o.term;
                node = o.leader;
                elected = o.elected;
                there = grows_in c (log_after (h.events s)) (h.leader_log o.term o.leader) o.start end there;
                held_at_is = ap (upto c.config_of) log ∙ sym shows.at;
                held_is = ap (effective_config c.config_of c.initial) log ∙ sym shows.is;
              })
