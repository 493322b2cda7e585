-- The configs of logs in an execution: the one before the last one is committed, and entries that are
-- appended bring their configs.
use Rattle.std.specs.Prelude.{◌≡◌, ◌⊎◌, ◌-◌, ◌<◌, ◌≤◌, ℕ, zero, suc, true, Option, Some, None, List, [], ◌∷◌, ◌++◌, length, take, slice_get, nat_eq}
use Rattle.std.proofs.Common.{refl, sym, ap, subst, ◌∙◌, inl, inr, arith}
use Rattle.std.proofs.lemmas.Bool.{and_parts}
use Rattle.std.proofs.lemmas.Bool.Decides.{nat_tests}
use Rattle.std.proofs.lemmas.List.{length-take-le}
use Rattle.raft_base.specs.declared.log_id.LogIdOf.{LogIdOf}
use Rattle.raft_base.specs.LogId.{next_index}
use Rattle.raft_state.specs.log_id_list.LogReads.{last_id}
use Rattle.safety_laws.specs.Log.{Entry, IsPrefix, last_term}
use Rattle.safety_laws.specs.Events.{History, log_after, term_after}
use Rattle.safety_laws.specs.Facts.{IsCommitted, IsElected, appended}
use Rattle.safety_laws.specs.Rules.{FollowsRaft}
use Rattle.safety_laws.specs.Apply.{IsKnownCommitted}
use Rattle.safety_laws.specs.Ranks.{IsAmong}
use Rattle.safety_laws.specs.Configs.{ProposesByRule}
use Rattle.steps_safety.proofs.Calls.{are_consecutive, place}
use Rattle.steps_safety.specs.Server.{KnowsCommitted}
use Rattle.steps_safety.proofs.Stepping.{IsPast, IsSeenCluster, SeenCluster}
use Rattle.steps_safety.proofs.Members.{Members, after_ids, after_member}
use Rattle.safety_laws.proofs.lemmas.ConfigLemmas.{LastNamed, last_named, none_upto, upto, upto_fits}
use Rattle.steps_safety.proofs.MembersLemmas.{Appended, earlier_part, member_shows}
use Rattle.safety_laws.proofs.lemmas.PrefixLemmas.{prefix_itself, prefix_length, prefix_take, prefix_trans, take_of_prefix, take_within}
use Rattle.safety_laws.proofs.lemmas.ServerLemmas.{IsFrom, had_now, last_of, last_written, log_from, written_is_from}
use Rattle.safety_laws.proofs.lemmas.ExecutionLemmas.{execution_proposes}
use Rattle.steps_safety.proofs.SteppingLemmas.{Q, follows, safe}

module _ {L C K D M : Type 0} (c : SeenCluster L C K D M) (is_cluster : IsSeenCluster c) (h : History C K D)
    (earlier : List (History C K D)) (past : IsPast c h earlier) where
  abbrev lawful : FollowsRaft c.rank (Q c is_cluster) h
  lawful = follows c is_cluster h earlier past

  abbrev known : C → K → ℕ → Type 0
  known t d n = IsKnownCommitted c.rank (Q c is_cluster) h t d n

  proposes : (t : C) (d : K) → IsElected c.rank (Q c is_cluster) h t d
      → ProposesByRule c.rank c.config_of c.initial c.quorum_of h t d
  proposes t d el =
      execution_proposes c.rank c.config_of c.initial c.quorum_of is_cluster.intersects h earlier past.execution h (inl refl) t d

  -- in a part of an elected leader's log, the config before the last one is committed
  pub leader_knows_before : (t : C) (d : K) → IsElected c.rank (Q c is_cluster) h t d → (l : List (Entry C D))
      → IsPrefix l (h.leader_log t d) → (i : ℕ) → upto c.config_of (earlier_part c.config_of c.initial l) ≡ suc i
      → IsKnownCommitted c.rank (Q c is_cluster) h t d (suc i)
  leader_knows_before t d el l st i at = by (upto c.config_of l) refl at
    where
      by : (u : ℕ) → upto c.config_of l ≡ u → upto c.config_of (take (u - 1) l) ≡ suc i
          → IsKnownCommitted c.rank (Q c is_cluster) h t d (suc i)
      by zero e up =
          let none : 0 ≡ 0 - 1 = omega arith in
          let z : 0 ≡ suc i = ap (λ (n : ℕ). upto c.config_of (take n l)) none ∙ up in
          absurd (omega (arith, z))
      by (suc k) e up_now = go (written_is_from c.rank (appended (Q c is_cluster)) h lawful t d el now (prefix_trans (prefix_take
          (suc k) l) st))
        where
          now : List (Entry C D)
          now = take (suc k) l

          up : upto c.config_of (take k l) ≡ suc i
          up = let one : k ≡ suc k - 1 = omega arith in ap (λ (n : ℕ). upto c.config_of (take n l)) one ∙ up_now

          fits : suc k ≤ length l
          fits = omega (arith, e, upto_fits c.config_of l)

          long : length now ≡ suc k
          long = length-take-le (suc k) l fits

          short : length (take k l) ≡ k
          short = length-take-le k l (omega (arith, fits))

          n : LastNamed c.config_of k l
          n = last_named c.config_of k l e

          less : suc i ≤ k
          less = omega (arith, up, upto_fits c.config_of (take k l), short)

          go : IsFrom c.rank (appended (Q c is_cluster)) h lawful (suc (c.rank t)) now
              → IsKnownCommitted c.rank (Q c is_cluster) h t d (suc i)
          go (inl none) = absurd (omega (arith, long, none))
          go (inr o) =
              let own = o.start in
              let may = proposes o.term o.leader o.elected (take k l) n.entry n.named_members
              (rw n.is at own) (omega (arith, o.longer, long, short)) n.names in
              let covers = none_upto c.config_of may.committed_to (take k l) may.none_since in
              let mine : take (suc i) (h.leader_log t d) ≡ take (suc i) now =
              take_of_prefix (suc i) now (h.leader_log t d) (prefix_trans (prefix_take (suc k) l) st) (omega (arith, long, less)) in
              let theirs : take (suc i) (h.leader_log o.term o.leader) ≡ take (suc i) now =
              take_of_prefix (suc i) now (h.leader_log o.term o.leader) own (omega (arith, long, less)) in
              record {
                in_term = o.term;
                by_leader = o.leader;
                committed_to = may.committed_to;
                counted_at = may.counted_at;
                committed = may.committed;
                not_later = omega (arith, o.below);
                is = subst (λ (x : List (Entry C D)). IsPrefix x (take may.committed_to (h.leader_log o.term o.leader)))
                    (theirs ∙ sym mine)
                    (take_within (suc i) may.committed_to (h.leader_log o.term o.leader) (omega (arith, up, covers)));
              }

  -- so it is in the log of a server
  pub server_knows_before : (s : K) (i : ℕ)
      → upto c.config_of (earlier_part c.config_of c.initial (log_after (h.events s))) ≡ suc i
      → KnowsCommitted c.rank (Q c is_cluster) h (h.events s) (suc i)
  server_knows_before s i at =
      go (log_from c.rank (appended (Q c is_cluster)) h lawful (suc (term_after c.rank (h.events s))) s (h.events s) (lawful.servers s)
      (omega arith) (log_after (h.events s)) (had_now (h.events s) (log_after (h.events s))
      (prefix_itself (log_after (h.events s)))))
    where
      log : List (Entry C D)
      log = log_after (h.events s)

      part_fits : suc i ≤ length log
      part_fits =
          omega (
            arith,
            at,
            upto_fits c.config_of (earlier_part c.config_of c.initial (log_after (h.events s))),
            prefix_length (prefix_take (upto c.config_of (log_after (h.events s)) - 1) (log_after (h.events s))),
          )

      go : IsFrom c.rank (appended (Q c is_cluster)) h lawful (suc (term_after c.rank (h.events s))) (log_after (h.events s))
          → KnowsCommitted c.rank (Q c is_cluster) h (h.events s) (suc i)
      go (inl none) = absurd (omega (arith, part_fits, none))
      go (inr o) = record {
        may = record {
          term = o.term;
          leader = o.leader;
          elected = o.elected;
          written = (let n = prefix_length o.start in omega (arith, part_fits, n));
          in_log = rw (take_of_prefix (suc i) (log_after (h.events s)) (h.leader_log o.term o.leader) o.start part_fits)
              (prefix_take (suc i) (log_after (h.events s)));
          known = leader_knows_before o.term o.leader o.elected (log_after (h.events s)) o.start i at;
        };
        reached = omega (arith, o.below);
      }

  -- what a leader knows to be committed of its own entries, it has committed
  pub own_committed : (t : C) (s : K) → IsElected c.rank (Q c is_cluster) h t s → (n : ℕ)
      → length (h.candidate_log t s) < n → n ≤ length (h.leader_log t s)
      → IsKnownCommitted c.rank (Q c is_cluster) h t s n
      → (m a : ℕ) × IsCommitted c.rank (Q c is_cluster) h t s m a × (n ≤ m)
  own_committed t s el n own fits k = (k.committed_to, k.counted_at, mine, upto_them)
    where
      part : List (Entry C D)
      part = take n (h.leader_log t s)

      long : length part ≡ n
      long = length-take-le n (h.leader_log t s) fits

      of_t : last_term c.rank part ≡ c.rank t
      of_t = last_written c.rank (appended (Q c is_cluster)) h lawful t s el part (prefix_take n (h.leader_log t s)) (omega
          (arith, own, long))

      low : c.rank t ≤ c.rank k.in_term
      low = go (written_is_from c.rank (appended (Q c is_cluster)) h lawful k.in_term k.by_leader k.committed.elected part
          (prefix_trans k.is (prefix_take k.committed_to (h.leader_log k.in_term k.by_leader))))
        where
          go : IsFrom c.rank (appended (Q c is_cluster)) h lawful (suc (c.rank k.in_term)) part → c.rank t ≤ c.rank k.in_term
          go (inl none) = absurd (omega (arith, long, none, own))
          go (inr o) = omega (arith, o.below, last_of c.rank (appended (Q c is_cluster)) h lawful (suc (c.rank k.in_term)) part o, of_t)

      same_term : k.in_term ≡ t
      same_term = lawful.ranks k.in_term t k.by_leader s k.committed.elected el (omega (arith, low, k.not_later))

      same_node : k.by_leader ≡ s
      same_node = (safe c is_cluster h earlier past).election_safety t k.by_leader s (rw same_term at k.committed.elected) el

      mine : IsCommitted c.rank (Q c is_cluster) h t s k.committed_to k.counted_at
      mine = rw (same_term, same_node) at k.committed

      upto_them : n ≤ k.committed_to
      upto_them =
          omega (arith, long, prefix_length k.is, length-take-le k.committed_to (h.leader_log k.in_term k.by_leader) k.committed.written)

-- ---- entries are appended with the configs that they hold

module _ {L C K D M : Type 0} (c : SeenCluster L C K D M) (lead : List (Entry C D)) (holds : LogIdOf C → Option M) where
  -- a log id holds the config of the entry of the log. At index 0 it is the initial one
  pub record HoldsTruly (x : LogIdOf C) : Type 0 where
    pub first : x.index ≡ 0 → (holds x ≡ None) ⊎ (holds x ≡ Some c.initial)
    pub later : (i : ℕ) → x.index ≡ suc i → (e : Entry C D) × (slice_get lead i ≡ Some e)
        × (c.config_of e.content ≡ holds x)

  take_next : (l : List (Entry C D)) (n : ℕ) → suc n ≤ length l
      → (e : Entry C D) × (slice_get l n ≡ Some e) × (take (suc n) l ≡ take n l ++ e ∷ [])
  take_next [] n le = absurd (omega (arith, le))
  take_next (x ∷ l) zero le = (x, refl, refl)
  take_next (x ∷ l) (suc n) le =
      let r = take_next l n (omega (arith, le)) in (r.0, r.1, ap (λ (y : List (Entry C D)). x ∷ y) r.2)

  -- where consecutive log ids end
  abbrev pub end_of : Option (LogIdOf C) → List (LogIdOf C) → ℕ
  end_of before [] = place before
  end_of before (x ∷ xs) = end_of (Some x) xs

  pub end_is : (before : Option (LogIdOf C)) (x : LogIdOf C) (xs : List (LogIdOf C)) (z : LogIdOf C) → last_id (x ∷ xs) ≡ Some z
      → end_of before (x ∷ xs) ≡ z.index
  end_is before x [] z is = let e : x ≡ z = cc in ap (λ (y : LogIdOf C). y.index) e
  end_is before x (y ∷ ys) z is = end_is (Some x) y ys z is

  same_some : (a b : Entry C D) → Some a ≡ Some b → a ≡ b
  same_some a b e = cc

  one_shows : (before : Option (LogIdOf C)) (x : LogIdOf C) (from m : Members M) → x.index ≡ next_index before
      → x.index ≤ length lead → HoldsTruly x → Appended c.config_of c.initial (take (place before) lead) from m
      → Appended c.config_of c.initial (take x.index lead) from (after_member x.index (holds x) m)
  one_shows None x from m at fits truly a =
      subst (λ (n : ℕ). Appended c.config_of c.initial (take n lead) from (after_member n (holds x) m)) (sym at)
      (by (holds x) (truly.first at))
    where
      by : (o : Option M) → ((o ≡ None) ⊎ (o ≡ Some c.initial)) → Appended c.config_of c.initial (take 0 lead) from (after_member 0 o m)
      by None e = a
      by (Some new) (inl e) = absurd (cc)
      by (Some new) (inr e) =
          let same : new ≡ c.initial = cc in
          record {
            shows = record { at = refl; is = same; before = inr (a.shows.at, a.shows.is) };
            committed = inr a.shows.at;
          }
  one_shows (Some b) x from m at fits truly a =
      let next : x.index ≡ suc b.index = omega (arith, at) in
      let r = take_next lead b.index (omega (arith, next, fits)) in
      let long = length-take-le b.index lead (omega (arith, next, fits)) in
      let one = member_shows c.config_of c.initial (take b.index lead) r.0 from m a in
      let own = truly.later b.index next in
      let same : own.0 ≡ r.0 = same_some own.0 r.0 (sym own.1 ∙ r.1) in
      let held : c.config_of (r.0).content ≡ holds x = ap (λ (e : Entry C D). c.config_of e.content) (sym same) ∙ own.2 in
      subst (λ (n : ℕ). Appended c.config_of c.initial (take n lead) from (after_member n (holds x) m)) (sym next)
      (rw (r.2, sym held) (rw long at one))

  pub ids_show : (before : Option (LogIdOf C)) (ids : List (LogIdOf C)) (from m : Members M)
      → are_consecutive before ids ≡ true → ((x : LogIdOf C) → IsAmong x ids → (x.index ≤ length lead) × HoldsTruly x)
      → Appended c.config_of c.initial (take (place before) lead) from m
      → Appended c.config_of c.initial (take (end_of before ids) lead) from (after_ids holds ids m)
  ids_show before [] from m row all a = a
  ids_show before (x ∷ xs) from m row all a =
      let d = and_parts (nat_eq x.index (next_index before)) (are_consecutive (Some x) xs) row in
      let t = d.0 in
      let at : x.index ≡ next_index before = grind (arith, nat_tests) in
      let one = all x (inl refl) in
      ids_show (Some x) xs from (after_member x.index (holds x) m) d.1 (λ y among. all y (inr among))
      (one_shows before x from m at one.0 one.1 a)
