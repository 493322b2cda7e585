-- How many conflicts a search can still accept.
use Rattle.std.proofs.Common.{◌≡◌, ℕ, zero, suc, ◌+◌, ◌-◌, ◌*◌, ◌/◌, ◌<◌, ◌≤◌, min, max, nat_eq, Bool, true, false, nat_lt, nat_le, ◌==◌, if◌then◌else◌, Option, Some, None, Result, Ok, Err, refl, sym, subst, arith, ◌⊎◌, inl, inr, ap, IfSome, List, [], ◌∷◌, ◌&&◌}
use Rattle.std.proofs.lemmas.Bool.{cases_lt}
use Rattle.std.proofs.lemmas.Bool.Decides.{nat_tests}
use Rattle.std.specs.declared.cmp.Ordering.{Ordering}
use Rattle.std.specs.Option.{option_eq}
use Rattle.raft_base.specs.LogId.{id_lt, index_of, next_index}
use Rattle.raft_base.specs.LogView.{LogView, prev_id}
use Rattle.raft_base.specs.declared.log_id.LogIdOf.{LogIdOf}
use Rattle.raft_progress.specs.entry.EntryTable.{entry_after_conflict, with_search_end}
use Rattle.raft_progress.specs.entry.Send.{calc_mid, can_send, end_of, send_table, idle_send_table, start_of}
use Rattle.raft_progress.specs.inflight.Inflight.{is_idle, logs_from}
use Rattle.raft_progress.specs.inflight.InflightTable.{inflight_after_conflict}
use Rattle.raft_progress.specs.search.Search.{Search, after_event, after_events, after_response, after_send, new_search, one_if_accepted}
use Rattle.raft_progress.specs.declared.entry.ProgressEntryOf.{ProgressEntryOf}
use Rattle.raft_progress.specs.declared.inflight.InflightError.{InflightError}
use Rattle.raft_progress.specs.declared.inflight.InflightError.TheVariants.{ConflictBelowMatching, InvalidRequestId}
use Rattle.raft_progress.specs.declared.inflight.InflightOf.{InflightOf}
use Rattle.raft_progress.specs.declared.inflight.InflightOf.TheVariants.{None as Idle, Logs, Snapshot}
use Rattle.raft_progress.specs.declared.search.SearchEvent.{SearchEvent}
use Rattle.raft_progress.specs.declared.search.SearchEvent.TheVariants.{Send, Conflict, Heartbeat}

pub idle_is : {C : Type 0} (f : InflightOf C) → is_idle f ≡ true → f ≡ Idle
idle_is Idle h = refl
idle_is (Logs id range) h = cc
idle_is (Snapshot id last) h = cc

-- the purge point that was sent over last never goes back
module _ {L C : Type 0} (cmp : C → C → Ordering) (log_view : L → LogView C) where
  purged_step : (s : Search C) (event : SearchEvent L) → s.purged ≤ (after_event cmp log_view s event).purged
  purged_step s (Send log n) = by (can_send s.entry (log_view log.now)) (nat_le s.purged (next_index (log_view log.now).purge_upto))
      (λ t. grind (arith, nat_tests))
    where
      by : (t u : Bool) → (u ≡ true → s.purged ≤ next_index (log_view log.now).purge_upto)
          → s.purged ≤ (if t && u then record {
            entry = after_send (send_table cmp s.entry (log_view log.now) n);
            purged = next_index (log_view log.now).purge_upto;
            accepted = s.accepted;
          } else s).purged
      by true true later = later refl
      by true false later = omega arith
      by false u later = omega arith
  purged_step s (Conflict id index) = omega arith
  purged_step s (Heartbeat index) = omega arith

  purged_rises : (s : Search C) (events : List (SearchEvent L)) → s.purged ≤ (after_events cmp log_view s events).purged
  purged_rises s [] = omega arith
  purged_rises s (event ∷ events) = omega (arith, purged_step s event, purged_rises (after_event cmp log_view s event) events)

module _ (Fits : ℕ → ℕ → Type 0)
    (shrinks : (b s t : ℕ) → Fits b s → t ≤ s → Fits b t)
    (halves : (b s k : ℕ) → Fits b s → k ≡ s / 16 → 1 ≤ k → (c : ℕ) × (b ≡ suc c) × Fits c (8 * k - 1))
  where
    -- no more than b conflicts are left for an end e: only snapshots follow, or the stretch from m fits
    abbrev pub Open : ℕ → ℕ → ℕ → ℕ → Type 0
    Open m purged b e = (e < purged) ⊎ Fits b (e - m)

    -- at most b conflicts remain, with a probe in flight whose logs begin after index c
    abbrev pub Probing : ℕ → ℕ → ℕ → ℕ → Option ℕ → Type 0
    Probing m purged b e None = Unit {0}
    Probing m purged b e (Some c) = (c < m) ⊎ ((a : ℕ) × (b ≡ suc a) × Open m purged a (min e c))

    abbrev pub Left : {C : Type 0} → ℕ → ℕ → ℕ → ℕ → InflightOf C → Type 0
    Left m purged b e Idle = Open m purged b e
    Left m purged b e (Snapshot id last) = Unit {0}
    Left m purged b e (Logs id range) = Probing m purged b e (index_of range.prev)

    -- within total: what was accepted, and what is left
    abbrev pub Within : {C : Type 0} → ℕ → ℕ → ℕ → ℕ → ProgressEntryOf C → Type 0
    Within total m purged accepted entry =
        (m ≡ next_index entry.matching) × (m ≤ entry.searching_end)
        × ((b : ℕ) × (accepted + b ≡ total) × Left m purged b entry.searching_end entry.inflight)

    open_shrinks : (m purged b e f : ℕ) → f ≤ e → Open m purged b e → Open m purged b f
    open_shrinks m purged b e f le (inl h) = inl (omega arith)
    open_shrinks m purged b e f le (inr h) = inr (shrinks b (e - m) (f - m) h (omega arith))

    open_purges : (m purged later b e : ℕ) → purged ≤ later → Open m purged b e → Open m later b e
    open_purges m purged later b e le (inl h) = inl (omega arith)
    open_purges m purged later b e le (inr h) = inr h

    probing_shrinks : (m purged b e f : ℕ) (o : Option ℕ) → f ≤ e → Probing m purged b e o → Probing m purged b f o
    probing_shrinks m purged b e f None le h = tt
    probing_shrinks m purged b e f (Some c) le (inl h) = inl h
    probing_shrinks m purged b e f (Some c) le (inr (a, eq, h)) = inr (a, eq, open_shrinks m purged a (min e c) (min f c) (omega arith) h)

    probing_purges : (m purged later b e : ℕ) (o : Option ℕ) → purged ≤ later → Probing m purged b e o → Probing m later b e o
    probing_purges m purged later b e None le h = tt
    probing_purges m purged later b e (Some c) le (inl h) = inl h
    probing_purges m purged later b e (Some c) le (inr (a, eq, h)) = inr (a, eq, open_purges m purged later a (min e c) le h)

    pub left_shrinks : {C : Type 0} (m purged b e f : ℕ) (g : InflightOf C) → f ≤ e → Left m purged b e g → Left m purged b f g
    left_shrinks m purged b e f Idle le h = open_shrinks m purged b e f le h
    left_shrinks m purged b e f (Snapshot id last) le h = tt
    left_shrinks m purged b e f (Logs id range) le h = probing_shrinks m purged b e f (index_of range.prev) le h

    pub left_purges : {C : Type 0} (m purged later b e : ℕ) (g : InflightOf C) → purged ≤ later → Left m purged b e g → Left m later b e g
    left_purges m purged later b e Idle le h = open_purges m purged later b e le h
    left_purges m purged later b e (Snapshot id last) le h = tt
    left_purges m purged later b e (Logs id range) le h = probing_purges m purged later b e (index_of range.prev) le h

    -- a probe that starts at c + 1: in the middle, or at a purge point past the match
    pub probe_left : (m purged p b e c : ℕ) → m ≤ e → purged ≤ p → p ≤ e → Open m purged b e
        → ((m < p) → 1 ≤ e - m → (a : ℕ) × (b ≡ suc a))
        → c + 1 ≡ max (calc_mid m e) p → Probing m p b e (Some c)
    probe_left m purged p b e c le up pe (inl h) spare at = absurd (omega arith)
    probe_left m purged p b e c le up pe (inr h) spare at =
        elim (cases_lt c m) [
          | inl below ↦ inl below
          | inr above ↦ elim (cases_lt c p) [
            | inl early ↦ (let s = spare (omega arith) (omega arith) in inr (s.0, s.1, inl (omega arith)))
            | inr late ↦
                (let k = (e - m) / 16 in
                let q = halves b (e - m) k h refl (omega arith) in
                inr (q.0, q.1, inr (shrinks q.0 (8 * k - 1) (min e c - m) q.2 (omega arith))))
          ]
        ]

    module _ {C : Type 0} (total m purged accepted : ℕ) (entry : ProgressEntryOf C) where
      -- what a conflict returns keeps within total
      abbrev pub Keeps : Result (ProgressEntryOf C) InflightError → Type 0
      Keeps after = Within total m purged (accepted + one_if_accepted after) (after_response entry after)

      refused : (e : InflightError) → Within total m purged accepted entry → Keeps (Err e)
      refused e w = let z : accepted + 0 ≡ accepted = omega arith in rw z w

      -- a conflict at the index before the probe
      accepted_probe : (index b : ℕ) → Within total m purged accepted entry → accepted + b ≡ total
          → Probing m purged b entry.searching_end (Some index) → Keeps (with_search_end entry index (Ok Idle))
      accepted_probe index b w sum (inl below) =
          let w0 : m ≡ next_index entry.matching = w.0 in
          let w1 : m ≤ entry.searching_end = w.1 in
          let t : nat_lt index entry.searching_end ≡ true = grind (arith, nat_tests) in
          let u : nat_lt index (next_index entry.matching) ≡ true = grind (arith, nat_tests) in
          rw (t, u) (refused ConflictBelowMatching w)
      accepted_probe index b w sum (inr (a, eq, stretch)) =
          let w0 : m ≡ next_index entry.matching = w.0 in
          let w1 : m ≤ entry.searching_end = w.1 in
          elim (cases_lt index entry.searching_end) [
            | inl short ↦ elim (cases_lt index m) [
              | inl below ↦ (let t : nat_lt index entry.searching_end ≡ true = grind (arith, nat_tests) in
                  let u : nat_lt index (next_index entry.matching) ≡ true = grind (arith, nat_tests) in
                  rw (t, u) (refused ConflictBelowMatching w))
              | inr above ↦ (let t : nat_lt index entry.searching_end ≡ true = grind (arith, nat_tests) in
                  let u : nat_lt index (next_index entry.matching) ≡ false = grind (arith, nat_tests) in
                  rw (t, u) (
                    w0,
                    above,
                    (
                      a,
                      omega arith,
                      open_shrinks m purged a (min entry.searching_end index) index (omega arith)
                          stretch,
                    ),
                  ))
            ]
            | inr long ↦ (let t : nat_lt index entry.searching_end ≡ false = grind (arith, nat_tests) in
                rw t (
                  w0,
                  w1,
                  (
                    a,
                    omega arith,
                    open_shrinks m purged a (min entry.searching_end index) entry.searching_end (omega arith)
                        stretch,
                  ),
                ))
          ]

      by_tests : (t u : Bool) (e f : InflightError) (index b : ℕ) → Within total m purged accepted entry → accepted + b ≡ total
          → (u ≡ true → Probing m purged b entry.searching_end (Some index))
          → Keeps (with_search_end entry index (if t then (if u then Ok Idle else Err e) else Err f))
      by_tests true true e f index b w sum h = accepted_probe index b w sum (h refl)
      by_tests true false e f index b w sum h = refused e w
      by_tests false u e f index b w sum h = refused f w

      either_error : (t : Bool) (e f : InflightError) (index : ℕ) → Within total m purged accepted entry
          → Keeps (with_search_end entry index (if t then Err e else Err f))
      either_error true e f index w = refused e w
      either_error false e f index w = refused f w

      same_index : (o : Option ℕ) (index : ℕ) → option_eq nat_eq o (Some index) ≡ true → o ≡ Some index
      same_index None index h = cc
      same_index (Some c) index h = let e : c ≡ index = grind (arith, nat_tests) in ap Some e

      by_flight : (f : InflightOf C) (id index b : ℕ) → Within total m purged accepted entry → accepted + b ≡ total
          → Left m purged b entry.searching_end f → Keeps (with_search_end entry index (inflight_after_conflict f id index))
      by_flight Idle id index b w sum h = refused (InvalidRequestId None id) w
      by_flight (Snapshot mine last) id index b w sum h = either_error (mine == id) _ _ index w
      by_flight (Logs mine range) id index b w sum h =
          by_tests (mine == id) _ _ _ index b w sum
          (λ same. let o = same_index (index_of range.prev) index same in
          subst (λ (q : Option ℕ). Probing m purged b entry.searching_end q) o h)

      pub conflict_keeps : (id index : ℕ) → Within total m purged accepted entry → Keeps (entry_after_conflict entry (Some id) index)
      conflict_keeps id index w = by_flight entry.inflight id index w.2.0 w w.2.1 w.2.2

      pub heartbeat_keeps : (index : ℕ) → Within total m purged accepted entry
          → Within total m purged accepted (after_response entry (entry_after_conflict entry None index))
      heartbeat_keeps index w =
          let w0 : m ≡ next_index entry.matching = w.0 in
          let w1 : m ≤ entry.searching_end = w.1 in
          elim (cases_lt index entry.searching_end) [
            | inl short ↦ elim (cases_lt index m) [
              | inl below ↦ (let t : nat_lt index entry.searching_end ≡ true = grind (arith, nat_tests) in
                  let u : nat_lt index (next_index entry.matching) ≡ true = grind (arith, nat_tests) in
                  rw (t, u) w)
              | inr above ↦ (let t : nat_lt index entry.searching_end ≡ true = grind (arith, nat_tests) in
                  let u : nat_lt index (next_index entry.matching) ≡ false = grind (arith, nat_tests) in
                  rw (t, u) (
                    w0,
                    above,
                    (
                      w.2.0,
                      w.2.1,
                      left_shrinks m purged w.2.0 entry.searching_end index entry.inflight (omega arith)
                          w.2.2,
                    ),
                  ))
            ]
            | inr long ↦ (let t : nat_lt index entry.searching_end ≡ false = grind (arith, nat_tests) in rw t w)
          ]

      by_id : (p b e c : ℕ) (o : Option (LogIdOf C)) → IfSome o (λ x. x.index ≡ c) → Probing m p b e (Some c) → Probing m p b e (index_of o)
      by_id p b e c None h left = tt
      by_id p b e c (Some x) h left = subst (λ (i : ℕ). Probing m p b e (Some i)) (sym h) left

      module _ (log : LogView C) (indexed : (i : ℕ) → IfSome (log.id_at i) (λ x. x.index ≡ i)) (later : purged ≤ next_index log.purge_upto)
          (spare : m < next_index log.purge_upto → (b s : ℕ) → Fits b s → 1 ≤ s → (a : ℕ) × (b ≡ suc a)) where
        start_left : (b e from : ℕ) → m ≤ e → next_index log.purge_upto ≤ e → Open m purged b e
            → from ≡ max (calc_mid m e) (next_index log.purge_upto)
            → Probing m (next_index log.purge_upto) b e (index_of (prev_id log.id_at from))
        start_left b e zero le pe left at = tt
        start_left b e (suc c) le pe (inl h) at = absurd (omega arith)
        start_left b e (suc c) le pe (inr h) at =
            by_id (next_index log.purge_upto) b e c (log.id_at c) (indexed c)
            (probe_left m purged (next_index log.purge_upto) b e c le later pe (inr h) (λ past one. spare past b (e - m) h one)
            (omega arith))

        logs_left : (cmp : C → C → Ordering) (t : Bool) (b e from to id : ℕ) → m ≤ e → next_index log.purge_upto ≤ e → Open m purged b e
            → from ≡ max (calc_mid m e) (next_index log.purge_upto)
            → Left m (next_index log.purge_upto) b e (if t then Logs id
            (record { prev = prev_id log.id_at from; last = prev_id log.id_at to }) else Idle)
        logs_left cmp true b e from to id le pe left at = start_left b e from le pe left at
        logs_left cmp false b e from to id le pe left at = open_purges m purged (next_index log.purge_upto) b e later left

        unsent : Within total m purged accepted entry → Within total m (next_index log.purge_upto) accepted entry
        unsent w = (
          w.0,
          w.1,
          (
            w.2.0,
            w.2.1,
            left_purges m purged (next_index log.purge_upto) w.2.0 entry.searching_end entry.inflight later
                w.2.2,
          ),
        )

        same_ends : (cmp : C → C → Ordering) (n : ℕ) (t u : Bool) → next_index log.purge_upto ≤ entry.searching_end
            → (w : Within total m purged accepted entry) → Open m purged w.2.0 entry.searching_end
            → Within total m (next_index log.purge_upto) accepted
            (after_send (if t && u then Ok (record entry
            { curr_inflight_id = entry.curr_inflight_id + 1; inflight = Snapshot (entry.curr_inflight_id + 1) log.snapshot }) else
            (if t then Err entry
            else Ok (record entry {
              curr_inflight_id = entry.curr_inflight_id + 1;
              inflight = logs_from cmp (entry.curr_inflight_id + 1) (prev_id log.id_at (start_of entry log))
                  (prev_id log.id_at (end_of entry log n));
            }))))
        same_ends cmp n true true long w left = (w.0, w.1, (w.2.0, w.2.1, tt))
        same_ends cmp n true false long w left = unsent w
        same_ends cmp n false u long w left = (
          w.0,
          w.1,
          (
            w.2.0,
            w.2.1,
            logs_left cmp (id_lt cmp (prev_id log.id_at (start_of entry log))
                (prev_id log.id_at (end_of entry log n))) w.2.0 entry.searching_end (start_of entry log) (end_of entry log n)
                (entry.curr_inflight_id + 1) w.1 long left (rw w.0 refl),
          ),
        )

        idle_keeps : (cmp : C → C → Ordering) (n : ℕ) → entry.inflight ≡ Idle → Within total m purged accepted entry
            → Within total m (next_index log.purge_upto) accepted (after_send (idle_send_table cmp entry log n))
        idle_keeps cmp n idle w =
            let w0 : m ≡ next_index entry.matching = w.0 in
            let w1 : m ≤ entry.searching_end = w.1 in
            let left = subst (Left m purged w.2.0 entry.searching_end) idle w.2.2 in
            elim (cases_lt entry.searching_end (next_index log.purge_upto)) [
              | inl short ↦ (let t : nat_lt entry.searching_end (next_index log.purge_upto) ≡ true = grind (arith, nat_tests) in
                  rw t (w0, w1, (w.2.0, w.2.1, tt)))
              | inr long ↦ (let t : nat_lt entry.searching_end (next_index log.purge_upto) ≡ false = grind (arith, nat_tests) in
                  rw t (same_ends cmp n (start_of entry log == end_of entry log n) (nat_lt (next_index entry.matching) entry.searching_end)
                  long w left))
            ]

        pub send_keeps : (cmp : C → C → Ordering) (n : ℕ) (t : Bool) → t ≡ is_idle entry.inflight → Within total m purged accepted entry
            → Within total m (next_index log.purge_upto) accepted (after_send (if t then idle_send_table cmp entry log n else Err entry))
        send_keeps cmp n true e w = idle_keeps cmp n (idle_is entry.inflight (sym e)) w
        send_keeps cmp n false e w = unsent w

    -- one step of a search, and a whole one, keep what is left within total
    module _ {L C : Type 0} (cmp : C → C → Ordering) (log_view : L → LogView C) (total m last : ℕ) where
      -- each send is over a log whose ids have their indexes, and past matching one more conflict
      -- is allowed, up to the last purge point
      abbrev pub SoundLog : LogView C → Type 0
      SoundLog log = ((i : ℕ) → IfSome (log.id_at i) (λ x. x.index ≡ i))
          × (next_index log.purge_upto ≤ last → m < next_index log.purge_upto → (b s : ℕ) → Fits b s → 1 ≤ s → (a : ℕ) × (b ≡ suc a))

      abbrev pub Sound : SearchEvent L → Type 0
      Sound (Send log n) = SoundLog (log_view log.now)
      Sound (Conflict id index) = Unit {0}
      Sound (Heartbeat index) = Unit {0}

      abbrev pub AllSound : List (SearchEvent L) → Type 0
      AllSound [] = Unit {0}
      AllSound (event ∷ events) = Sound event × AllSound events

      abbrev pub Keeps-search : Search C → Type 0
      Keeps-search s = Within total m s.purged s.accepted s.entry

      sent_step : (s : Search C) (log : LogView C) (n : ℕ) (t u : Bool) → (u ≡ true → s.purged ≤ next_index log.purge_upto)
          → (if t && u then record {
            entry = after_send (send_table cmp s.entry log n);
            purged = next_index log.purge_upto;
            accepted = s.accepted;
          } else s).purged ≤ last → SoundLog log → Keeps-search s
          → Keeps-search (if t && u then record
          { entry = after_send (send_table cmp s.entry log n); purged = next_index log.purge_upto; accepted = s.accepted } else s)
      sent_step s log n true true later within sound w =
          send_keeps total m s.purged s.accepted s.entry log sound.0 (later refl) (sound.1 within) cmp n (is_idle s.entry.inflight) refl w
      sent_step s log n true false later within sound w = w
      sent_step s log n false u later within sound w = w

      step_keeps : (s : Search C) (event : SearchEvent L) → (after_event cmp log_view s event).purged ≤ last → Sound event → Keeps-search s
          → Keeps-search (after_event cmp log_view s event)
      step_keeps s (Send log n) within sound w =
          sent_step s (log_view log.now) n (can_send s.entry (log_view log.now))
          (nat_le s.purged (next_index (log_view log.now).purge_upto)) (λ t. grind (arith, nat_tests)) within sound w
      step_keeps s (Conflict id index) within sound w = conflict_keeps total m s.purged s.accepted s.entry id index w
      step_keeps s (Heartbeat index) within sound w = heartbeat_keeps total m s.purged s.accepted s.entry index w

      run_keeps : (s : Search C) (events : List (SearchEvent L)) → (after_events cmp log_view s events).purged ≤ last → AllSound events
          → Keeps-search s → Keeps-search (after_events cmp log_view s events)
      run_keeps s [] within sound w = w
      run_keeps s (event ∷ events) within sound w =
          let t = after_event cmp log_view s event in
          let here : t.purged ≤ last = omega (arith, purged_rises cmp log_view t events, within) in
          run_keeps t events within sound.1 (step_keeps s event here sound.0 w)

      -- from an entry with nothing in flight and an open stretch that fits, at most total conflicts are accepted
      pub accepted_within : (entry : ProgressEntryOf C) (events : List (SearchEvent L)) → is_idle entry.inflight ≡ true
          → m ≡ next_index entry.matching → m ≤ entry.searching_end → Fits total (entry.searching_end - m)
          → (after_events cmp log_view (new_search entry) events).purged ≤ last → AllSound events
          → (after_events cmp log_view (new_search entry) events).accepted ≤ total
      accepted_within entry events idle is le fits within sound =
          let left : Left m 0 total entry.searching_end entry.inflight =
          subst (λ (f : InflightOf C). Left m 0 total entry.searching_end f) (sym (idle_is entry.inflight idle)) (inr fits) in
          let w = run_keeps (new_search entry) events within sound (is, le, (total, omega arith, left)) in
          let sum = w.2.1 in omega arith
