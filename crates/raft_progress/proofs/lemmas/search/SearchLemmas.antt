-- The bounds on the conflicts that a search accepts.
use Rattle.std.proofs.Common.{◌≡◌, ◌∙◌, ℕ, zero, suc, ◌+◌, ◌/◌, ◌^◌, ◌<◌, ◌≤◌, refl, sym, ap, arith, List, [], ◌∷◌, IfSome, length, get_or, drop, drop-cons, add-one}
use Rattle.std.proofs.lemmas.List.{at_drop_all}
use Rattle.std.specs.declared.cmp.Ordering.{Ordering}
use Rattle.raft_base.specs.LogId.{next_index}
use Rattle.raft_base.specs.LogView.{LogView}
use Rattle.raft_progress.specs.search.Search.{CanSearch, NonePurgedPast, Search, after_event, after_events, new_search, stretch}
use Rattle.raft_progress.specs.declared.entry.ProgressEntryOf.{ProgressEntryOf}
use Rattle.raft_progress.specs.declared.search.SearchEvent.{SearchEvent}
use Rattle.raft_progress.specs.declared.search.SearchEvent.TheVariants.{Send, Conflict, Heartbeat}
use Rattle.raft_progress.proofs.lemmas.search.HalvingLemmas.{Short, Near, NearAndOne, short_halves, near_halves, near_and_one_halves}
use Rattle.raft_progress.proofs.lemmas.search.PotentialLemmas as potential

short_shrinks : (b s t : ℕ) → Short b s → t ≤ s → Short b t
short_shrinks b s t h le = omega arith

near_shrinks : (b s t : ℕ) → Near b s → t ≤ s → Near b t
near_shrinks b s t h le = omega arith

near_one_shrinks : (b s t : ℕ) → NearAndOne b s → t ≤ s → NearAndOne b t
near_one_shrinks b s t (c, e, h) le = (c, e, near_shrinks c s t h le)

short_spare : (b s : ℕ) → Short b s → 1 ≤ s → (a : ℕ) × (b ≡ suc a)
short_spare zero s h l = absurd (omega arith)
short_spare (suc b) s h l = (b, refl)

module _ {L C : Type 0} (cmp : C → C → Ordering) (log_view : L → LogView C)
    (indexed : (log : L) (i : ℕ) → IfSome ((log_view log).id_at i) (λ x. x.index ≡ i))
    (entry : ProgressEntryOf C) (events : List (SearchEvent L)) (can : CanSearch entry)
  where
    abbrev pub end : Search C
    end = after_events cmp log_view (new_search entry) events

    abbrev pub count : ℕ
    count = end.accepted

    -- at most the binary digits of the stretch
    pub within_digits : (k : ℕ) → stretch entry < 2 ^ k → count ≤ k
    within_digits k fits = potential.accepted_within Short short_shrinks short_halves cmp log_view k (next_index entry.matching) end.purged
        entry events can.0 refl can.1 fits (omega arith) (sound events)
      where
        sound : (es : List (SearchEvent L))
            → potential.AllSound Short short_shrinks short_halves cmp log_view k (next_index entry.matching) end.purged es
        sound [] = tt
        sound (Send log n ∷ es) = ((indexed log.now, λ within past b s f one. short_spare b s f one), sound es)
        sound (Conflict id index ∷ es) = (tt, sound es)
        sound (Heartbeat index ∷ es) = (tt, sound es)

    -- at most the digits of a sixteenth of it, if no purge point of a send was past matching
    pub within_near_digits : NonePurgedPast end (next_index entry.matching) → (k : ℕ) → stretch entry / 16 < 2 ^ k → count ≤ k
    within_near_digits none k fits = potential.accepted_within Near near_shrinks near_halves cmp log_view k (next_index entry.matching)
        end.purged entry events can.0 refl can.1 fits (omega arith) (sound events)
      where
        sound : (es : List (SearchEvent L))
            → potential.AllSound Near near_shrinks near_halves cmp log_view k (next_index entry.matching) end.purged es
        sound [] = tt
        sound (Send log n ∷ es) = ((indexed log.now, λ within past b s f one. absurd (omega (arith, none))), sound es)
        sound (Conflict id index ∷ es) = (tt, sound es)
        sound (Heartbeat index ∷ es) = (tt, sound es)

    -- and one more at most in any case
    pub within_one_more : (k : ℕ) → stretch entry / 16 < 2 ^ k → count ≤ k + 1
    within_one_more k fits =
        let bound = potential.accepted_within NearAndOne near_one_shrinks near_and_one_halves cmp log_view (suc k)
        (next_index entry.matching) end.purged entry events can.0 refl can.1 (k, refl, fits) (omega arith) (sound events) in omega arith
      where
        sound : (es : List (SearchEvent L))
            → potential.AllSound NearAndOne near_one_shrinks near_and_one_halves cmp log_view (suc k) (next_index entry.matching) end.purged
            es
        sound [] = tt
        sound (Send log n ∷ es) = ((indexed log.now, λ within past b s f one. (f.0, f.1)), sound es)
        sound (Conflict id index ∷ es) = (tt, sound es)
        sound (Heartbeat index ∷ es) = (tt, sound es)

-- an event at a position, and then those after it
pub next_event : {L C : Type 0} (cmp : C → C → Ordering) (log_view : L → LogView C) (s t : Search C) (events : List (SearchEvent L)) (i : ℕ)
    (x : SearchEvent L) → i < length events → x ≡ get_or events i x → after_event cmp log_view s x ≡ t
    → after_events cmp log_view t (drop (i + 1) events) ≡ after_events cmp log_view s (drop i events)
next_event cmp log_view s t events i x lt position st =
    let here = drop-cons events i x lt in
    rw (add-one, here, ← position, ← st) refl

-- after the last event the count is the one of the whole run
pub accepted_at_end : {L C : Type 0} (cmp : C → C → Ordering) (log_view : L → LogView C) (s t : Search C) (events : List (SearchEvent L))
    (i : ℕ) → length events ≤ i → after_events cmp log_view s (drop i events) ≡ t → s.accepted ≡ t.accepted
accepted_at_end cmp log_view s t events i le same =
    ap (λ (x : Search _). x.accepted) (sym (at_drop_all (after_events cmp log_view s) events i le) ∙ same)
