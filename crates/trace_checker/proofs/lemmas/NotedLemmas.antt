-- What a commit is tested by, and what is known after it, if configs count once they are applied.
use Rattle.std.specs.Prelude.{◌≡◌, ◌⊎◌, ◌<◌, ◌≤◌, ℕ, Bool, true, false, not, ◌&&◌, ◌||◌, nat_lt, nat_eq, if◌then◌else◌, Option, Some, None, is_none, List, [], ◌∷◌, ◌++◌, length, take, drop, map, get_or}
use Rattle.std.specs.Cmp.{first_so, second_so}
use Rattle.std.specs.List.{list_any, position}
use Rattle.std.proofs.Common.{refl, sym, ap, ◌∙◌, subst, inl, inr, arith}
use Rattle.std.proofs.lemmas.Bool.{and_from, cases_lt}
use Rattle.std.proofs.lemmas.List.{get_or_append_left, get_or_push, length_push, map-append}
use Rattle.safety_laws.specs.Log.{Entry}
use Rattle.safety_laws.specs.Trace.{AreExact, Tests, TraceEvent, Committed, hold_no_config, is_known_by, is_prefix, same_entry, same_leader}
use Rattle.safety_laws.specs.AppliedTrace.{hold_at_most_one, is_shorter}
use Rattle.trace_checker.specs.Checker.{Keeps}
use Rattle.trace_checker.specs.Inner.CheckerState.{common_len, config_in, no_config_in}
use Rattle.trace_checker.specs.Inner.Kept.{Parts, commits_in, leader_in}
use Rattle.trace_checker.specs.Inner.Known.{CommitState, SeesKnownBy, any_covers, at_most_one_in, commit_in, covers, is_config_known}
use Rattle.trace_checker.specs.Inner.Logs.{AreDistinct, IsExact, log_at}
use Rattle.trace_checker.specs.Inner.Noted.{IsNoted, IsNotedBy, IsNotedWhen}
use Rattle.trace_checker.specs.Inner.Seen.{SeesLeader}
use Rattle.safety_laws.specs.declared.counting.ConfigsCount.{ConfigsCount}
use Rattle.safety_laws.specs.declared.counting.ConfigsCount.TheVariants.{WhenAppended, WhenApplied}
use Rattle.trace_checker.specs.declared.checker.known.Commit.{Commit}
use Rattle.trace_checker.specs.declared.checker.leader.Leader.{Leader}
use Rattle.safety_laws.proofs.lemmas.TestLemmas.{entry_right}
use Rattle.trace_checker.proofs.lemmas.CheckedLeaderLemmas.{any_push}
use Rattle.trace_checker.proofs.lemmas.CheckedLogLemmas.{is_prefix_by_len}
use Rattle.trace_checker.proofs.lemmas.CheckerLemmas.{config_test}
use Rattle.trace_checker.proofs.lemmas.CheckerStepLemmas.{CommitTests, exact_entries, sees_leader_at, term_of}

-- what holds of each of some items and of one more, holds of each of them together
push_each : {X : Type 0} (P : X → Type 0) (xs : List X) (y : X)
    → ((i : ℕ) (x : X) → i < length xs → x ≡ get_or xs i x → P x) → P y
    → (i : ℕ) (x : X) → i < length (xs ++ y ∷ []) → x ≡ get_or (xs ++ y ∷ []) i x → P x
push_each {X} P xs y each last i x h is = go (cases_lt i (length xs))
  where
    go : (i < length xs) ⊎ (length xs ≤ i) → P x
    go (inl lt) = each i x lt (is ∙ get_or_append_left xs (y ∷ []) x i lt)
    go (inr ge) =
        let at : length xs ≡ i = omega (arith, ge, h, length_push xs y) in
        let it : x ≡ y = is ∙ get_or_push xs y x i at in
        subst P (sym it) last

-- what holds of each of some items and of one more, holds of each of the former
push_before : {X : Type 0} (P : X → Type 0) (xs : List X) (y : X)
    → ((i : ℕ) (x : X) → i < length (xs ++ y ∷ []) → x ≡ get_or (xs ++ y ∷ []) i x → P x)
    → (i : ℕ) (x : X) → i < length xs → x ≡ get_or xs i x → P x
push_before P xs y each i x h is =
    each i x (omega (arith, h, length_push xs y)) (is ∙ sym (get_or_append_left xs (y ∷ []) x i h))

module _ {T ID D : Type 0} (k : Tests T ID D (Option D)) (exact : AreExact k) where
  -- ---- what a commit is tested by

  -- at most one of the entries holds a config if at most one of their contents does
  one_test : (holds : D → Bool) → ((d : D) → k.config_of d ≡ config_in holds d) → (log : List (Entry T D))
      → hold_at_most_one k log ≡ at_most_one_in holds log
  one_test holds is [] = refl
  one_test holds is (e ∷ log) =
      (λ q. config_test k exact holds is log q || (is_none (is e.content q) && one_test holds is log q))
      ∙ ap (λ b. no_config_in holds log || (b && at_most_one_in holds log)) (go (holds e.content))
    where
      go : (b : Bool) → is_none (if b then Some (Some e.content) else None) ≡ not b
      go true = refl
      go false = refl

  sees_known : (es : List (TraceEvent T ID D)) (p : Parts T ID D) → Keeps k es p → k.counting ≡ WhenApplied
      → SeesKnownBy k WhenApplied es (commits_in p)
  sees_known es p keeps e = subst (λ w. SeesKnownBy k w es (commits_in p)) e keeps.known

  pub commit_tests : (es : List (TraceEvent T ID D)) (t : T) (c : ID) (n m : ℕ) (p : Parts T ID D) (j : ℕ)
      (l : Leader T ID) (holds : D → Bool) → ((d : D) → k.config_of d ≡ config_in holds d)
      → position (λ (x : Leader T ID). same_leader k x.term x.id t c) p.leaders ≡ Some j → l ≡ get_or p.leaders j l
      → Keeps k es p
      → CommitTests k exact es t c n m p l
      (is_config_known (same_entry k) holds (k.rank l.term) m (take m (log_at p.logs l.log)) (commits_in p))
      (at_most_one_in holds (drop m (take n (log_at p.logs l.log))))
  commit_tests es t c n m p j l holds is at is_l keeps = record {
    is_known = λ e. (λ q. hold_no_config k (take m (at_l.leader_log q))
        || is_known_by k (is_shorter k t m) (take m (at_l.leader_log q)) es)
        ∙ (λ q. config_test k exact holds is first q || sees_known es p keeps e t m first q)
        ∙ ap (λ (x : T). is_config_known (same_entry k) holds (k.rank x) m first (commits_in p))
        (sym (term_of k exact p t c j l at is_l));
    is_alone = λ e. one_test holds is (drop m (take n (log_at p.logs l.log)));
  }
    where
      at_l : SeesLeader k es t c (leader_in p.logs l)
      at_l = sees_leader_at k exact es p t c j l at is_l keeps

      first : List (Entry T D)
      first = take m (log_at p.logs l.log)

  -- ---- what is known after a commit

  prefix_after : (p q r : List (Entry T D)) → is_prefix k p q ≡ true → is_prefix k q r ≡ true → is_prefix k p r ≡ true
  prefix_after [] q r g h = refl
  prefix_after (x ∷ p) [] r g h = absurd (cc)
  prefix_after (x ∷ p) (y ∷ q) [] g h = absurd (cc)
  prefix_after (x ∷ p) (y ∷ q) (z ∷ r) g h =
      let same : x ≡ y = entry_right k exact x y (first_so (same_entry k x y) (is_prefix k p q) g) in
      and_from (same_entry k x z) (is_prefix k p r)
      (ap (λ e. same_entry k e z) same ∙ first_so (same_entry k y z) (is_prefix k q r) h)
      (prefix_after p q r (second_so (same_entry k x y) (is_prefix k p q) g) (second_so (same_entry k y z) (is_prefix k q r) h))

  -- a commit covers what a shorter one of its term covers that was counted at the same length
  longer_covers : (r a : ℕ) (q : List (Entry T D)) (x y : CommitState T D) → y.rank ≡ x.rank
      → y.counted_at ≡ x.counted_at
      → nat_eq (common_len (same_entry k) x.entries y.entries) (length x.entries) ≡ true
      → covers (same_entry k) r a q x ≡ true → covers (same_entry k) r a q y ≡ true
  longer_covers r a q x y rank at longer h =
      and_from early_y (nat_eq (common_len (same_entry k) q y.entries) (length q))
      (early ∙ first_so early_x (nat_eq (common_len (same_entry k) q x.entries) (length q)) h)
      (sym (is_prefix_by_len k exact q y.entries)
      ∙ prefix_after q x.entries y.entries
      (is_prefix_by_len k exact q x.entries
      ∙ second_so early_x (nat_eq (common_len (same_entry k) q x.entries) (length q)) h)
      (is_prefix_by_len k exact x.entries y.entries ∙ longer))
    where
      early_x : Bool
      early_x = nat_lt x.rank r || (nat_eq x.rank r && nat_lt x.counted_at a)

      early_y : Bool
      early_y = nat_lt y.rank r || (nat_eq y.rank r && nat_lt y.counted_at a)

      early : early_y ≡ early_x
      early = λ i. nat_lt (rank i) r || (nat_eq (rank i) r && nat_lt (at i) a)

  -- one commit more is noted
  noted_covers : (p : Parts T ID D) → IsExact (same_entry k) → AreDistinct p.logs → (commit : Commit) (new : List Commit)
      → IsNoted (same_entry k) p.logs p.commits commit new → (r a : ℕ) (q : List (Entry T D))
      → (covers (same_entry k) r a q (commit_in p.logs commit) || any_covers (same_entry k) r a q (commits_in p))
      ≡ any_covers (same_entry k) r a q (map (commit_in p.logs) new)
  noted_covers p entries distinct commit new (inl is) r a q =
      sym (any_push (covers (same_entry k) r a q) (commits_in p) (commit_in p.logs commit))
      ∙ ap (any_covers (same_entry k) r a q)
      (sym (ap (map (commit_in p.logs)) is ∙ map-append (commit_in p.logs) p.commits (commit ∷ [])))
  noted_covers p entries distinct commit new (inr is) r a q =
      ap (λ b. here || b) was
      ∙ absorb here (covers (same_entry k) r a q (commit_in p.logs is.last)) (list_any (covers (same_entry k) r a q) before)
      (longer_covers r a q (commit_in p.logs is.last) (commit_in p.logs commit) is.continues.rank is.continues.counted_at
      (is.continues.longer entries distinct))
      ∙ sym now
    where
      here : Bool
      here = covers (same_entry k) r a q (commit_in p.logs commit)

      before : List (CommitState T D)
      before = map (commit_in p.logs) is.earlier

      absorb : (x y z : Bool) → (y ≡ true → x ≡ true) → (x || (y || z)) ≡ (x || z)
      absorb true y z h = refl
      absorb false true z h = absurd (cc (h refl))
      absorb false false z h = refl

      was : any_covers (same_entry k) r a q (commits_in p)
          ≡ (covers (same_entry k) r a q (commit_in p.logs is.last) || list_any (covers (same_entry k) r a q) before)
      was =
          ap (any_covers (same_entry k) r a q)
          (ap (map (commit_in p.logs)) is.was ∙ map-append (commit_in p.logs) is.earlier (is.last ∷ []))
          ∙ any_push (covers (same_entry k) r a q) before (commit_in p.logs is.last)

      now : any_covers (same_entry k) r a q (map (commit_in p.logs) new)
          ≡ (here || list_any (covers (same_entry k) r a q) before)
      now =
          ap (any_covers (same_entry k) r a q)
          (ap (map (commit_in p.logs)) is.is ∙ map-append (commit_in p.logs) is.earlier (commit ∷ []))
          ∙ any_push (covers (same_entry k) r a q) before (commit_in p.logs commit)

  pub noted_known : (es : List (TraceEvent T ID D)) (t : T) (c : ID) (n m : ℕ) (p : Parts T ID D) (j : ℕ)
      (l : Leader T ID) (new : List Commit)
      → position (λ (x : Leader T ID). same_leader k x.term x.id t c) p.leaders ≡ Some j → l ≡ get_or p.leaders j l
      → Keeps k es p → IsNotedBy k p j n m new
      → SeesKnownBy k k.counting (Committed c t n m ∷ es) (map (commit_in p.logs) new)
  noted_known es t c n m p j l new at is_l keeps noted = go k.counting keeps.known noted
    where
      at_l : SeesLeader k es t c (leader_in p.logs l)
      at_l = sees_leader_at k exact es p t c j l at is_l keeps

      go : (w : ConfigsCount) → SeesKnownBy k w es (commits_in p) → IsNotedWhen k p w j n m new
          → SeesKnownBy k w (Committed c t n m ∷ es) (map (commit_in p.logs) new)
      go WhenAppended sees is = tt
      go WhenApplied sees is =
          λ u a q. (λ i. (is_shorter k u a t m && is_prefix k q (take n (at_l.leader_log i))) || sees u a q i)
          ∙ ap (λ b. b || any_covers (same_entry k) (k.rank u) a q (commits_in p)) (one u a q)
          ∙ noted_covers p (exact_entries k exact) keeps.are_logs.distinct is.commit new is.is (k.rank u) a q
        where
          rank : k.rank t ≡ is.commit.rank
          rank = sym (is.rank l is_l ∙ ap k.rank (term_of k exact p t c j l at is_l))

          one : (u : T) (a : ℕ) (q : List (Entry T D))
              → (is_shorter k u a t m && is_prefix k q (take n (log_at p.logs l.log)))
              ≡ covers (same_entry k) (k.rank u) a q (commit_in p.logs is.commit)
          one u a q =
              λ i. (nat_lt (rank i) (k.rank u) || (nat_eq (rank i) (k.rank u) && nat_lt (sym is.at i) a))
              && (is_prefix_by_len k exact q (take n (log_at p.logs l.log))
              ∙ ap (λ x. nat_eq (common_len (same_entry k) q x) (length q)) (sym (is.log l is_l))) i

  -- each noted commit has one of the logs
  pub noted_have : (es : List (TraceEvent T ID D)) (n m : ℕ) (p : Parts T ID D) (j : ℕ) (l : Leader T ID)
      (new : List Commit) → j < length p.leaders → l ≡ get_or p.leaders j l → Keeps k es p → IsNotedBy k p j n m new
      → (i : ℕ) (x : Commit) → i < length new → x ≡ get_or new i x → x.log < length p.logs.logs
  noted_have es n m p j l new within is_l keeps noted = go k.counting noted
    where
      go : (w : ConfigsCount) → IsNotedWhen k p w j n m new
          → (i : ℕ) (x : Commit) → i < length new → x ≡ get_or new i x → x.log < length p.logs.logs
      go WhenAppended is =
          subst (λ (xs : List Commit). (i : ℕ) (x : Commit) → i < length xs → x ≡ get_or xs i x → x.log < length p.logs.logs)
          (sym is) keeps.have_logs.of_commits
      go WhenApplied is = each is.is
        where
          own : is.commit.log < length p.logs.logs
          own =
              let log : l.log < length p.logs.logs = keeps.have_logs.of_leaders j l within is_l in
              let earlier : is.commit.log ≤ l.log = is.earlier l is_l in
              omega (arith, log, earlier)

          each : IsNoted (same_entry k) p.logs p.commits is.commit new
              → (i : ℕ) (x : Commit) → i < length new → x ≡ get_or new i x → x.log < length p.logs.logs
          each (inl e) =
              subst (λ (xs : List Commit). (i : ℕ) (x : Commit) → i < length xs → x ≡ get_or xs i x
              → x.log < length p.logs.logs) (sym e)
              (push_each (λ (x : Commit). x.log < length p.logs.logs) p.commits is.commit keeps.have_logs.of_commits own)
          each (inr o) =
              subst (λ (xs : List Commit). (i : ℕ) (x : Commit) → i < length xs → x ≡ get_or xs i x
              → x.log < length p.logs.logs) (sym o.is)
              (push_each (λ (x : Commit). x.log < length p.logs.logs) o.earlier is.commit
              (push_before (λ (x : Commit). x.log < length p.logs.logs) o.earlier o.last
              (subst (λ (xs : List Commit). (i : ℕ) (x : Commit) → i < length xs → x ≡ get_or xs i x
              → x.log < length p.logs.logs) o.was keeps.have_logs.of_commits)) own)
