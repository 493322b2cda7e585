-- Lists of recorded events without an order between them, and the traces that interleave them.
-- `placed` has a number for each list: so many of its first events are placed in the trace.
use Rattle.std.specs.Prelude.{◌≡◌, ◌≢◌, ◌⊎◌, ◌+◌, ◌<◌, ◌≤◌, ℕ, true, false, Some, None, Option, Result, Bool, List, [], ◌∷◌, length, map, set, replicate, slice_get}
use Rattle.std.specs.Result.{MatchResult}
use Rattle.std.specs.Global.{Vec}
use Rattle.safety_laws.specs.Trace.{TraceEvent, Tests, AreExact, TermsHaveRanks}
use Rattle.trace_checker.specs.Counted.{IsSafeWhen, are_all_allowed, first_broken}
use Rattle.trace_checker.specs.Checker.{Keeps, event_of, kept_by}
use Rattle.trace_checker.specs.declared.checker.Checker.{Checker}
use Rattle.trace_checker.specs.declared.checker.violation.Violation.{Violation}
use Rattle.trace_checker.specs.declared.checker.violation.Violation.TheVariants.{OutOfMemory, Rule as BreaksRule}
use Rattle.safety_laws.specs.declared.rule.Rule.{Rule}
use Rattle.safety_laws.specs.declared.rule.Rule.TheVariants.{InitialConfig}
use Rattle.trace_checker.specs.declared.event.Event.{Event as RecordedEvent}

module _ {T ID D : Type 0} (lists : List (Vec (RecordedEvent T ID D))) where
  -- this event is the next one of this list, which has so many placed events
  pub record IsNext (placed : List ℕ) (list count : ℕ) (e : RecordedEvent T ID D) : Type 0 where
    pub events : Vec (RecordedEvent T ID D)
    pub events_are : slice_get lists list ≡ Some events
    pub count_is : slice_get placed list ≡ Some count
    pub is : slice_get events.items count ≡ Some e

  -- the next event of one list is placed too
  pub record IsPlaced (before placed : List ℕ) : Type 0 where
    pub list : ℕ
    pub count : ℕ
    pub event : RecordedEvent T ID D
    pub next : IsNext before list count event
    pub is : placed ≡ set before list (count + 1)

  -- a trace interleaves the placed events. A trace has its latest event first: this was the next event
  -- of one list, after the earlier events had interleaved those that were placed before
  abbrev pub Interleaves : List ℕ → List (TraceEvent T ID D) → Type 0
  Interleaves placed [] = placed ≡ replicate (length lists) 0
  Interleaves placed (e ∷ es) =
      (before : List ℕ) × (next : IsPlaced before placed) × (e ≡ event_of next.event)
      × Interleaves before es

  -- all events of the lists before this one are placed
  abbrev pub AreEnded : List ℕ → ℕ → Type 0
  AreEnded placed list =
      (i n : ℕ) (l : Vec (RecordedEvent T ID D)) → i < list → slice_get lists i ≡ Some l
      → slice_get placed i ≡ Some n → length l.items ≤ n

  -- all events of each list are placed
  abbrev pub AreAllPlaced : List ℕ → Type 0
  AreAllPlaced placed =
      (i n : ℕ) (l : Vec (RecordedEvent T ID D)) → slice_get lists i ≡ Some l
      → slice_get placed i ≡ Some n → length l.items ≤ n

module _ {T ID D : Type 0} (k : Tests T ID D (Option D))
    (lists : List (Vec (RecordedEvent T ID D))) where
  -- there is a trace that interleaves all events of the lists. It is allowed, and so it is safe
  pub record HaveSafeOrder : Type 0 where
    pub trace : List (TraceEvent T ID D)
    pub interleaves : Interleaves lists (map (λ l. length l.items) lists) trace
    pub allowed : are_all_allowed k trace ≡ true
    pub safe : TermsHaveRanks k trace → IsSafeWhen k trace

  -- after a trace the next event of this list breaks a rule
  pub record IsRefused (placed : List ℕ) (es : List (TraceEvent T ID D)) (list : ℕ) (rule : Rule)
      : Type 0 where
    pub count : ℕ
    pub event : RecordedEvent T ID D
    pub is_next : IsNext lists placed list count event
    pub breaks : first_broken k (event_of event) es ≡ Some rule

  -- after a trace no list has a next event that is allowed. This list is the first one with a next
  -- event, which is refused for this violation
  pub record AreRefused (placed : List ℕ) (es : List (TraceEvent T ID D)) (list : ℕ) (v : Violation)
      : Type 0 where
    pub none_allowed : (i n : ℕ) (e : RecordedEvent T ID D) → IsNext lists placed i n e
        → first_broken k (event_of e) es ≢ None
    pub rule : Rule
    pub is_rule : v ≡ BreaksRule rule
    pub refused : IsRefused placed es list rule
    pub first : AreEnded lists placed list

  -- there is an allowed trace that interleaves the placed events, and after it the next event of every
  -- list is refused. The next event of this list, the first one that has one, is refused for this
  -- violation
  pub record IsStuck (placed : List ℕ) (list : ℕ) (v : Violation) : Type 0 where
    pub trace : List (TraceEvent T ID D)
    pub interleaves : Interleaves lists placed trace
    pub allowed : are_all_allowed k trace ≡ true
    pub refused : AreRefused placed trace list v

  -- memory ran out when the next event of this list was recorded, after an allowed trace that
  -- interleaves the placed events
  pub record IsInterrupted (placed : List ℕ) (list : ℕ) : Type 0 where
    pub trace : List (TraceEvent T ID D)
    pub interleaves : Interleaves lists placed trace
    pub allowed : are_all_allowed k trace ≡ true
    pub count : ℕ
    pub event : RecordedEvent T ID D
    pub is_next : IsNext lists placed list count event

  -- memory ran out, at first or later; quorums of the initial config do not intersect; or no next event
  -- is allowed
  abbrev pub IsRefusedMerge : List ℕ → ℕ → Violation → Type 0
  IsRefusedMerge placed list v =
      ((v ≡ OutOfMemory) × (((placed ≡ []) × (list ≡ 0)) ⊎ IsInterrupted placed list))
      ⊎ ((k.intersect k.initial k.initial ≡ false) × (v ≡ BreaksRule InitialConfig)
      × (placed ≡ replicate (length lists) 0) × (list ≡ 0))
      ⊎ IsStuck placed list v

  -- the checker has recorded the next event of a list, or no list has a next event. It fails if memory
  -- runs out, or if the next event of every list is refused
  abbrev pub RecordsNext : {C : Type 0} → List ℕ → Checker T ID D C → List ℕ → Checker T ID D C
      → Result Bool (ℕ × Violation) → Type 0
  RecordsNext placed old new_placed new result =
      AreExact k → (es : List (TraceEvent T ID D)) → Keeps k es (kept_by old)
      → MatchResult result
      (λ more. (more ≡ true → (next : IsPlaced lists placed new_placed)
      × Keeps k (event_of next.event ∷ es) (kept_by new))
      × (more ≡ false → Keeps k es (kept_by new)))
      (λ r. ((r.1 ≡ OutOfMemory)
      × (n : ℕ) × (e : RecordedEvent T ID D) × IsNext lists new_placed r.0 n e)
      ⊎ AreRefused new_placed es r.0 r.1)
