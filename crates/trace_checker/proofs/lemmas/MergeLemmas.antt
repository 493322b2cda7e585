-- Merging lists of events.
use Rattle.std.specs.Prelude.{◌≡◌, ◌≢◌, ◌⊎◌, ◌+◌, ◌-◌, ◌<◌, ◌≤◌, ℕ, zero, suc, Some, None, Option, Result, Bool, true, IfSome, List, [], ◌∷◌, length, map, get_or, set, replicate, slice_get}
use Rattle.std.specs.Global.{Vec}
use Rattle.std.specs.Option.{option_or}
use Rattle.std.proofs.Common.{Ok, Err, refl, sym, ap, ◌∙◌, inl, inr, subst, arith}
use Rattle.std.proofs.lemmas.Bool.{cases_eq}
use Rattle.std.proofs.lemmas.Option.{slice_get-get_or, slice_get_read, slice_get_within}
use Rattle.safety_laws.specs.Trace.{AreExact, TraceEvent, Tests}
use Rattle.trace_checker.specs.Counted.{first_broken}
use Rattle.safety_laws.specs.declared.counting.ConfigsCount.{ConfigsCount}
use Rattle.trace_checker.specs.Checker.{Keeps, configs_of, counting_of, event_of, kept_by}
use Rattle.trace_checker.specs.Merge.{AreAllPlaced, AreEnded, AreRefused, Interleaves, IsNext, IsPlaced, IsRefused, IsRefusedMerge, RecordsNext}
use Rattle.trace_checker.specs.declared.checker.Checker.{Checker}
use Rattle.trace_checker.specs.declared.checker.violation.Violation.{Violation}
use Rattle.trace_checker.specs.declared.checker.violation.Violation.TheVariants.{OutOfMemory, Rule as BreaksRule}
use Rattle.trace_checker.specs.declared.event.Event.{Event as RecordedEvent}
use Rattle.safety_laws.specs.declared.rule.Rule.{Rule}

module _ {T ID D : Type 0} where
  -- how many events of the lists are left
  abbrev pub left : List (Vec (RecordedEvent T ID D)) → List ℕ → ℕ
  left [] placed = 0
  left (l ∷ lists) [] = 0
  left (l ∷ lists) (n ∷ placed) = (length l.items - n) + left lists placed

  one_less : (lists : List (Vec (RecordedEvent T ID D))) (placed : List ℕ) (i n : ℕ)
      (l : Vec (RecordedEvent T ID D)) → slice_get lists i ≡ Some l → slice_get placed i ≡ Some n
      → n < length l.items → left lists (set placed i (n + 1)) < left lists placed
  one_less [] placed i n l e f h = absurd (cc)
  one_less (m ∷ lists) [] i n l e f h = absurd (cc)
  one_less (m ∷ lists) (k ∷ placed) zero n l e f h =
      let same : m ≡ l = cc in
      let count : k ≡ n = cc in
      let longer : n < length m.items = rw same h in
      omega arith
  one_less (m ∷ lists) (k ∷ placed) (suc i) n l e f h =
      let less : left lists (set placed i (n + 1)) < left lists placed = one_less lists placed i n l e f h in
      omega arith

  -- fewer events are left once one is placed
  pub placed_less : {lists : List (Vec (RecordedEvent T ID D))} {before placed : List ℕ}
      → IsPlaced lists before placed → left lists placed < left lists before
  placed_less {lists} {before} {placed} p =
      rw p.is (one_less lists before p.list p.count p.next.events p.next.events_are p.next.count_is
      (slice_get_within p.next.events.items p.count p.event p.next.is))

  -- there is a count for each list, and no more events of a list are placed than it has
  abbrev AreWithin : List (Vec (RecordedEvent T ID D)) → List ℕ → Type 0
  AreWithin [] [] = Unit {0}
  AreWithin [] (n ∷ placed) = ⊥
  AreWithin (l ∷ lists) [] = ⊥
  AreWithin (l ∷ lists) (n ∷ placed) = (n ≤ length l.items) × AreWithin lists placed

  none_within : (lists : List (Vec (RecordedEvent T ID D))) → AreWithin lists (replicate (length lists) 0)
  none_within [] = tt
  none_within (l ∷ lists) = (omega arith, none_within lists)

  one_within : (lists : List (Vec (RecordedEvent T ID D))) (placed : List ℕ) (i n : ℕ)
      (l : Vec (RecordedEvent T ID D)) → AreWithin lists placed → slice_get lists i ≡ Some l
      → n < length l.items → AreWithin lists (set placed i (n + 1))
  one_within [] placed i n l w e h = absurd (cc)
  one_within (m ∷ lists) [] i n l w e h = w
  one_within (m ∷ lists) (k ∷ placed) zero n l w e h =
      let same : m ≡ l = cc in
      (rw same (omega arith), w.1)
  one_within (m ∷ lists) (k ∷ placed) (suc i) n l w e h = (w.0, one_within lists placed i n l w.1 e h)

  are_within : (lists : List (Vec (RecordedEvent T ID D))) (placed : List ℕ)
      (es : List (TraceEvent T ID D)) → Interleaves lists placed es → AreWithin lists placed
  are_within lists placed [] m = rw m (none_within lists)
  are_within lists placed (e ∷ es) (before, p, _, m) =
      rw p.is (one_within lists before p.list p.count p.next.events (are_within lists before es m)
      p.next.events_are (slice_get_within p.next.events.items p.count p.event p.next.is))

  all_of_each : (lists : List (Vec (RecordedEvent T ID D))) (placed : List ℕ) → AreWithin lists placed
      → AreAllPlaced lists placed → placed ≡ map (λ l. length l.items) lists
  all_of_each [] [] w all = refl
  all_of_each [] (n ∷ placed) w all = absurd w
  all_of_each (l ∷ lists) [] w all = absurd w
  all_of_each (l ∷ lists) (n ∷ placed) w all =
      let count : n ≡ length l.items = omega (arith, w.0, all 0 n l refl refl) in
      let others : placed ≡ map (λ l. length l.items) lists =
      all_of_each lists placed w.1 (λ i k m e f. all (suc i) k m e f) in
      λ q. count q ∷ others q

  -- the next event of a list, as it is read
  pub next_read : (lists : List (Vec (RecordedEvent T ID D))) (before placed : List ℕ) (i : ℕ)
      (l : Vec (RecordedEvent T ID D)) (e : RecordedEvent T ID D) → i < length lists
      → length before ≡ length lists → placed ≡ before → l ≡ get_or lists i l
      → get_or placed i 0 < length l.items → e ≡ get_or l.items (get_or placed i 0) e
      → IsNext lists before i (get_or placed i 0) e
  next_read lists before placed i l e h lengths same list_is within is = record {
    events = l;
    events_are = slice_get_read lists (length lists) i l refl h list_is;
    count_is =
        slice_get-get_or before i 0 (omega arith) ∙ ap (λ ns. Some (get_or ns i 0)) (sym same);
    is = slice_get_read l.items (length l.items) (get_or placed i 0) e refl within is;
  }

  -- one more list has no event left
  pub ended_more : (lists : List (Vec (RecordedEvent T ID D))) (placed : List ℕ) (i m : ℕ)
      (l : Vec (RecordedEvent T ID D)) → AreEnded lists placed i → slice_get lists i ≡ Some l
      → slice_get placed i ≡ Some m → length l.items ≤ m → AreEnded lists placed (i + 1)
  ended_more lists placed i m l ended list_is count_is h j n e below list_at count_at =
      elim (cases_eq j i) [
        | inl same ↦
            let events : slice_get lists i ≡ Some e = rw same at list_at in
            let count : slice_get placed i ≡ Some n = rw same at count_at in
            let same_events : e ≡ l = cc in
            let same_count : n ≡ m = cc in
            rw (same_events, same_count) h
        | inr other ↦ ended j n e (omega arith) list_at count_at
      ]

  pub all_ended : (lists : List (Vec (RecordedEvent T ID D))) (placed : List ℕ) (i : ℕ)
      → length lists ≤ i → AreEnded lists placed i → AreAllPlaced lists placed
  all_ended lists placed i h ended j n l list_is =
      let within : j < length lists = slice_get_within lists j l list_is in
      ended j n l (omega arith) list_is

  -- if no event is left, all events of the lists are placed
  pub all_placed : (lists : List (Vec (RecordedEvent T ID D))) (placed : List ℕ)
      (es : List (TraceEvent T ID D)) → Interleaves lists placed es → AreAllPlaced lists placed
      → Interleaves lists (map (λ l. length l.items) lists) es
  all_placed lists placed es m all =
      subst (λ (ns : List ℕ). Interleaves lists ns es) (all_of_each lists placed (are_within lists placed es m) all) m

module _ {T ID D : Type 0} (k : Tests T ID D (Option D)) (lists : List (Vec (RecordedEvent T ID D)))
    (placed : List ℕ) (es : List (TraceEvent T ID D)) where
  -- the next events of the first lists were tried, and each was refused, the first for this rule; the
  -- lists before that one have none
  pub record AreTried (lists_tried : ℕ) (first : Option (ℕ × Rule)) : Type 0 where
    pub none_allowed : (j n : ℕ) (e : RecordedEvent T ID D) → j < lists_tried → IsNext lists placed j n e
        → first_broken k (event_of e) es ≢ None
    pub refused : IfSome first (λ r. IsRefused k lists placed es r.0 r.1 × AreEnded lists placed r.0)

  pub none_tried : AreTried 0 None
  none_tried = record { none_allowed = λ j n e h x. absurd (omega arith); refused = tt }

  -- the next event of a list is the one at its count
  next_is : (i j m n : ℕ) (l : Vec (RecordedEvent T ID D)) (e : RecordedEvent T ID D)
      → IsNext lists placed j n e → j ≡ i → slice_get lists i ≡ Some l → slice_get placed i ≡ Some m
      → slice_get l.items m ≡ Some e
  next_is i j m n l e next same list_is count_is =
      let events : slice_get lists i ≡ Some next.events = rw same at next.events_are in
      let count : slice_get placed i ≡ Some n = rw same at next.count_is in
      let same_events : next.events ≡ l = cc in
      let same_count : n ≡ m = cc in
      (λ q. slice_get (sym same_events q).items (sym same_count q)) ∙ next.is

  -- all events of a list are placed
  pub tried_ended : (i m : ℕ) (l : Vec (RecordedEvent T ID D)) (first : Option (ℕ × Rule))
      → AreTried i first → slice_get lists i ≡ Some l → slice_get placed i ≡ Some m → length l.items ≤ m
      → AreTried (i + 1) first
  tried_ended i m l first t list_is count_is ended = record {
    none_allowed = λ j n e h next. elim (cases_eq j i) [
      | inl same ↦
          let within : m < length l.items =
          slice_get_within l.items m e (next_is i j m n l e next same list_is count_is) in
          absurd (omega arith)
      | inr other ↦ t.none_allowed j n e (omega arith) next
    ];
    refused = t.refused;
  }

  -- the next event of a list breaks a rule
  pub tried_refused : (i m : ℕ) (x : RecordedEvent T ID D) (rule : Rule) (first new : Option (ℕ × Rule))
      → AreTried i first → (first ≡ None → AreEnded lists placed i) → IsNext lists placed i m x
      → first_broken k (event_of x) es ≡ Some rule → new ≡ option_or first (Some (i, rule)) → AreTried (i + 1) new
  tried_refused i m x rule first new t ended is_next breaks new_is = record {
    none_allowed = λ j n e h next. elim (cases_eq j i) [
      | inl same ↦
          let e_is : slice_get is_next.events.items m ≡ Some e =
          next_is i j m n is_next.events e next same is_next.events_are is_next.count_is in
          let x_is : x ≡ e = cc (e_is, is_next.is) in
          λ none.
          let contrary : Some rule ≡ None =
          sym breaks ∙ ap (λ (y : RecordedEvent T ID D). first_broken k (event_of y) es) x_is ∙ none in
          absurd (cc)
      | inr other ↦ t.none_allowed j n e (omega arith) next
    ];
    refused = rw new_is (go first ended t.refused);
  }
    where
      go : (o : Option (ℕ × Rule)) → (o ≡ None → AreEnded lists placed i)
          → IfSome o (λ r. IsRefused k lists placed es r.0 r.1 × AreEnded lists placed r.0)
          → IfSome (option_or o (Some (i, rule))) (λ r. IsRefused k lists placed es r.0 r.1 × AreEnded lists placed r.0)
      go (Some r) ended h = h
      go None ended h = (record { count = m; event = x; is_next = is_next; breaks = breaks }, ended refl)

  -- the next event of each list was tried
  pub all_tried : (n i : ℕ) (rule : Rule) → length lists ≤ n → AreTried n (Some (i, rule))
      → AreRefused k lists placed es i (BreaksRule rule)
  all_tried n i rule h t = record {
    none_allowed = λ j m e next.
        let within : j < length lists = slice_get_within lists j next.events next.events_are in
        t.none_allowed j m e (omega arith) next;
    rule = rule;
    is_rule = refl;
    refused = t.refused.0;
    first = t.refused.1;
  }

-- an option is not empty if there is a further one
pub or_some : {X : Type 0} (o : Option X) (x : X) → option_or o (Some x) ≡ None → ⊥
or_some None x e = absurd (cc)
or_some (Some y) x e = absurd (cc)

-- ---- a checker that records the next event, by the configs with which it began

module _ {T ID D C : Type 0} (tests : ConfigsCount → C → Tests T ID D (Option D))
    (counting : ConfigsCount) (configs : C)
    (lists : List (Vec (RecordedEvent T ID D))) (placed before new_placed : List ℕ) (old new : Checker T ID D C)
    (same_counting : counting_of old ≡ counting) (same_configs : configs_of old ≡ configs) (same_placed : before ≡ placed)
    (exact : AreExact (tests counting configs)) where
  -- the checker has recorded events that interleave those that are placed
  abbrev pub HasTrace : List ℕ → Checker T ID D C → Type 0
  HasTrace ns c =
      (es : List (TraceEvent T ID D)) × Keeps (tests counting configs) es (kept_by c) × Interleaves lists ns es

  now : (result : Result Bool (ℕ × Violation))
      → RecordsNext (tests (counting_of old) (configs_of old)) lists before old new_placed new result
      → RecordsNext (tests counting configs) lists placed old new_placed new result
  now result h =
      subst (λ (w : ConfigsCount). RecordsNext (tests w configs) lists placed old new_placed new result) same_counting
      (subst (λ (x : C). RecordsNext (tests (counting_of old) x) lists placed old new_placed new result) same_configs
      (subst (λ (x : List ℕ). RecordsNext (tests (counting_of old) (configs_of old)) lists x old new_placed new result) same_placed h))

  pub next_seen : RecordsNext (tests (counting_of old) (configs_of old)) lists before old new_placed new (Ok true)
      → HasTrace placed old → HasTrace new_placed new
  next_seen records seen =
      let step = now (Ok true) records exact seen.0 seen.1 in
      let next = step.0 refl in
      (event_of next.0.event ∷ seen.0, next.1, (placed, next.0, refl, seen.2))

  pub none_seen : (r : ℕ × Violation)
      → RecordsNext (tests (counting_of old) (configs_of old)) lists before old new_placed new (Err r)
      → new_placed ≡ before → HasTrace placed old → IsRefusedMerge (tests counting configs) lists placed r.0 r.1
  none_seen r records same seen = go (now (Err r) records exact seen.0 seen.1)
    where
      stay : new_placed ≡ placed
      stay = same ∙ same_placed

      go : ((r.1 ≡ OutOfMemory) × (n : ℕ) × (e : RecordedEvent T ID D) × IsNext lists new_placed r.0 n e)
          ⊎ AreRefused (tests counting configs) lists new_placed seen.0 r.0 r.1
          → IsRefusedMerge (tests counting configs) lists placed r.0 r.1
      go (inl memory) =
          inl (
            memory.0,
            inr (record {
              trace = seen.0;
              interleaves = seen.2;
              allowed = seen.1.seen.allowed;
              count = memory.1;
              event = memory.2;
              is_next = subst (λ (x : List ℕ). IsNext lists x r.0 memory.1 memory.2) stay memory.3;
            }),
          )
      go (inr each) =
          inr (inr (record {
            trace = seen.0;
            interleaves = seen.2;
            allowed = seen.1.seen.allowed;
            refused = subst (λ (x : List ℕ). AreRefused (tests counting configs) lists x seen.0 r.0 r.1) stay each;
          }))
