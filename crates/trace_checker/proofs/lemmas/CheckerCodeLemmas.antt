-- Lists that the checker's loops go over.
use Rattle.std.specs.Prelude.{◌≡◌, ◌+◌, ◌<◌, ◌≤◌, ℕ, Bool, true, false, not, ◌&&◌, ◌||◌, nat_lt, nat_le, max, if◌then◌else◌, Option, Some, None, Result, List, [], ◌∷◌, ◌++◌, length, take, drop, get_or, set}
use Rattle.std.specs.List.{IsDistinct, list_any, position, position_or_len}
use Rattle.std.specs.Set.{is_member}
use Rattle.std.specs.Cmp.{IsEquivalence}
use Rattle.std.proofs.Common.{refl, sym, ap, ◌∙◌, subst, arith}
use Rattle.std.proofs.lemmas.Bool.{ltb-false, lt-ltb, le-leb, le-ltb, lt-leb}
use Rattle.std.proofs.lemmas.List.Sums.{position_or_len_is, fails_before_first}
use Rattle.std.proofs.lemmas.Bool.Decides.{nat_tests}
use Rattle.std.proofs.lemmas.Map.Keys.{IsDistinct-push}
use Rattle.std.proofs.lemmas.List.Quantifiers.{position-Some}
use Rattle.std.proofs.lemmas.List.{get_or_append_left, get_or_push, length_push, get_or_default, drop_more, take_more}
use Rattle.std.proofs.Math.Bool.{or_comm, and-true, and-false}
use Rattle.safety_laws.specs.Trace.{Tests, TraceEvent}
use Rattle.trace_checker.specs.Checker.{Records, configs_of, counting_of, event_of, trace_after, trace_of}
use Rattle.trace_checker.specs.declared.checker.Checker.{Checker}
use Rattle.safety_laws.specs.declared.counting.ConfigsCount.{ConfigsCount}
use Rattle.trace_checker.specs.declared.checker.violation.Violation.{Violation}
use Rattle.trace_checker.specs.Inner.CheckerState.{has_acked_to}
use Rattle.trace_checker.specs.declared.event.Event.{Event as RecordedEvent}
use Rattle.trace_checker.specs.declared.checker.leader.Acked.{Acked}
use Rattle.trace_checker.proofs.lemmas.CheckedLeaderLemmas.{any_push, any_set_or}

pub acked_more : {N : Type 0} (eq : N → N → Bool) (acks : List (Acked N)) (i : ℕ) (d : Acked N) (v : N)
    (n : ℕ) → i < length acks
    → has_acked_to eq (take (i + 1) acks) v n
    ≡ ((eq (get_or acks i d).server v && nat_le n (get_or acks i d).len)
    || has_acked_to eq (take i acks) v n)
acked_more eq acks i d v n h =
    ap (λ x. has_acked_to eq x v n) (take_more acks i d h)
    ∙ any_push (λ a. eq a.server v && nat_le n a.len) (take i acks) (get_or acks i d)

raised_len : (n p q : ℕ) → nat_le n (max p q) ≡ (nat_le n q || nat_le n p)
raised_len n p q = grind (arith, nat_tests)

raised : (x : Bool) (n p q : ℕ) → (x && nat_le n (max p q)) ≡ ((x && nat_le n q) || (x && nat_le n p))
raised true n p q = raised_len n p q
raised false n p q = refl

-- what a server has acknowledged is raised
pub acked_raised : {N : Type 0} (eq : N → N → Bool) → IsEquivalence eq → (acks : List (Acked N))
    (i : ℕ) (server : N) (len : ℕ) (a b : Acked N) (m : ℕ)
    → position (λ (x : Acked N). eq x.server server) acks ≡ Some i
    → a ≡ get_or acks i a → b ≡ get_or acks i b → m ≡ max a.len len
    → (v : N) (n : ℕ)
    → has_acked_to eq (set acks i (record { server = b.server; len = m })) v n
    ≡ (has_acked_to eq acks v n || (eq server v && nat_le n len))
acked_raised {N} eq laws acks i server len a b m at_i is_a is_b is_m v n =
    any_set_or (λ (x : Acked N). eq x.server v && nat_le n x.len) (eq server v && nat_le n len) acks i
    (record { server = b.server; len = m }) a facts.0 step
    ∙ or_comm (eq server v && nat_le n len) (has_acked_to eq acks v n)
  where
    facts : (i < length acks) × (eq (get_or acks i a).server server ≡ true)
        × ((j : ℕ) → j < i → eq (get_or acks j a).server server ≡ false)
    facts = position-Some (λ (y : Acked N). eq y.server server) acks i a at_i

    b_is : b ≡ get_or acks i a
    b_is = is_b ∙ get_or_default acks i b a facts.0

    m_is : m ≡ max (get_or acks i a).len len
    m_is = is_m ∙ ap (λ (y : Acked N). max y.len len) is_a

    e : eq (get_or acks i a).server v ≡ eq server v
    e = laws.congr (get_or acks i a).server server v facts.1

    step : (eq b.server v && nat_le n m)
        ≡ ((eq server v && nat_le n len) || (eq (get_or acks i a).server v && nat_le n (get_or acks i a).len))
    step =
        (λ q. eq (b_is q).server v && nat_le n (m_is q))
        ∙ (λ q. e q && nat_le n (max (get_or acks i a).len len))
        ∙ raised (eq server v) n (get_or acks i a).len len
        ∙ (λ q. (eq server v && nat_le n len) || (sym e q && nat_le n (get_or acks i a).len))

-- an id that is not in a list of distinct ids is added
pub distinct_push : {N : Type 0} (eq : N → N → Bool) → IsEquivalence eq → (ids : List N) (id : N)
    → IsDistinct eq ids → (b : Bool) → b ≡ list_any (λ y. eq y id) ids → b ≡ false
    → IsDistinct eq (ids ++ id ∷ [])
distinct_push {N} eq laws ids id h b is absent =
    IsDistinct-push laws ids id h
    (ap (λ (f : N → Bool). list_any f ids) turned ∙ sym is ∙ absent)
  where
    turned : eq id ≡ (λ (y : N). eq y id)
    turned = λ q y. laws.symm id y q

pub distinct_none : {N : Type 0} (eq : N → N → Bool) → IsDistinct eq []
unfolding IsDistinct
distinct_none eq = tt

pub distinct_one : {N : Type 0} (eq : N → N → Bool) (id : N) → IsDistinct eq (id ∷ [])
unfolding IsDistinct
distinct_one eq id = (tt, tt)

-- a server that has acknowledged as many is counted
pub counted : {N : Type 0} (eq : N → N → Bool) → IsEquivalence eq → (acks : List (Acked N)) (i : ℕ)
    (a : Acked N) (n : ℕ) (ids new : List N) → i < length acks → a ≡ get_or acks i a → n ≤ a.len
    → ((v : N) → is_member eq ids v ≡ has_acked_to eq (take i acks) v n)
    → ((v : N) → is_member eq new v ≡ (is_member eq ids v || eq v a.server))
    → (v : N) → is_member eq new v ≡ has_acked_to eq (take (i + 1) acks) v n
counted {N} eq laws acks i a n ids new h is enough before added v =
    added v ∙ (λ q. before v q || laws.symm v a.server q)
    ∙ or_comm (has_acked_to eq (take i acks) v n) (eq a.server v)
    ∙ ap (λ b. b || has_acked_to eq (take i acks) v n) (sym here)
    ∙ sym (acked_more eq acks i a v n h)
  where
    here : (eq (get_or acks i a).server v && nat_le n (get_or acks i a).len) ≡ eq a.server v
    here =
        ap (λ (x : Acked N). eq x.server v && nat_le n x.len) (sym is)
        ∙ ap (λ b. eq a.server v && b) (le-leb n a.len enough) ∙ and-true (eq a.server v)

pub not_counted : {N : Type 0} (eq : N → N → Bool) (acks : List (Acked N)) (i : ℕ) (a : Acked N)
    (n : ℕ) (ids : List N) → i < length acks → a ≡ get_or acks i a → a.len < n
    → ((v : N) → is_member eq ids v ≡ has_acked_to eq (take i acks) v n)
    → (v : N) → is_member eq ids v ≡ has_acked_to eq (take (i + 1) acks) v n
not_counted {N} eq acks i a n ids h is few before v =
    before v ∙ ap (λ b. b || has_acked_to eq (take i acks) v n) (sym here)
    ∙ sym (acked_more eq acks i a v n h)
  where
    here : (eq (get_or acks i a).server v && nat_le n (get_or acks i a).len) ≡ false
    here =
        ap (λ (x : Acked N). eq x.server v && nat_le n x.len) (sym is)
        ∙ ap (λ b. eq a.server v && b) (lt-leb n a.len few) ∙ and-false (eq a.server v)

-- the position of an element that is added, if no element before it passes
pub place_push : {X : Type 0} (p : X → Bool) (xs : List X) (y : X) → position p xs ≡ None
    → p y ≡ true → position p (xs ++ y ∷ []) ≡ Some (length xs)
place_push {X} p xs y none passes =
    ap (λ n. if nat_lt n (length (xs ++ y ∷ [])) then Some n else None) at_end
    ∙ ap (λ b. if b then Some (length xs) else None) (lt-ltb (length xs) (length (xs ++ y ∷ [])) longer)
  where
    longer : length xs < length (xs ++ y ∷ [])
    longer = simp length_push (omega arith)

    under : (b : Bool) → nat_lt (position_or_len p xs) (length xs) ≡ b
        → (if b then Some (position_or_len p xs) else None) ≡ None
        → nat_lt (position_or_len p xs) (length xs) ≡ false
    under true h g = absurd (cc)
    under false h g = h

    past : length xs ≤ position_or_len p xs
    past =
        ltb-false (position_or_len p xs) (length xs)
        (under (nat_lt (position_or_len p xs) (length xs)) refl none)

    at_end : position_or_len p (xs ++ y ∷ []) ≡ length xs
    at_end =
        position_or_len_is p (xs ++ y ∷ []) (length xs) y (omega (arith, longer))
        (λ k h. ap p (get_or_append_left xs (y ∷ []) y k h) ∙ fails_before_first p xs k y (omega (arith, past)))
        (λ h. ap p (get_or_push xs y y (length xs) refl) ∙ passes)

-- a search goes on past an element that does not pass
pub search_more : {X : Type 0} (p : X → Bool) (xs : List X) (i : ℕ) (x : X) → i < length xs
    → x ≡ get_or xs i x → p x ≡ false → position_or_len p xs ≡ i + position_or_len p (drop i xs)
    → position_or_len p xs ≡ i + 1 + position_or_len p (drop (i + 1) xs)
search_more p xs i x h is fails so_far =
    let next : position_or_len p (drop i xs) ≡ 1 + position_or_len p (drop (i + 1) xs) =
    ap (position_or_len p) (drop_more xs i x h)
    ∙ ap (λ b. if not b then 1 + position_or_len p (drop (i + 1) xs) else 0) (ap p (sym is) ∙ fails) in
    omega arith

-- a search ends at an element that passes
pub search_ends : {X : Type 0} (p : X → Bool) (xs : List X) (i : ℕ) (x : X) → i < length xs
    → x ≡ get_or xs i x → p x ≡ true → position_or_len p xs ≡ i + position_or_len p (drop i xs)
    → position p xs ≡ Some i
search_ends p xs i x h is passes so_far =
    let here : position_or_len p (drop i xs) ≡ 0 =
    ap (position_or_len p) (drop_more xs i x h)
    ∙ ap (λ b. if not b then 1 + position_or_len p (drop (i + 1) xs) else 0) (ap p (sym is) ∙ passes) in
    let found : position_or_len p xs ≡ i = omega arith in
    ap (λ n. if nat_lt n (length xs) then Some n else None) found
    ∙ ap (λ b. if b then Some i else None) (lt-ltb i (length xs) h)

-- no element passes, if none was found up to the end
pub none_to_end : {X : Type 0} (p : X → Bool) (xs : List X) (i : ℕ) → length xs ≤ i
    → position_or_len p xs ≡ i + position_or_len p (drop i xs) → position p xs ≡ None
none_to_end p xs i h e =
    ap (λ b. if b then Some (position_or_len p xs) else None) (le-ltb (position_or_len p xs) (length xs) (omega arith))

-- ---- whole traces

trace_push : {T ID D : Type 0} (es : List (TraceEvent T ID D)) (xs : List (RecordedEvent T ID D))
    (x : RecordedEvent T ID D) → trace_after es (xs ++ x ∷ []) ≡ event_of x ∷ trace_after es xs
trace_push es [] x = refl
trace_push es (y ∷ xs) x = trace_push (event_of y ∷ es) xs x

pub trace_more : {T ID D : Type 0} (events : List (RecordedEvent T ID D)) (i : ℕ)
    (e : RecordedEvent T ID D) → i < length events → e ≡ get_or events i e
    → trace_of (take (i + 1) events) ≡ event_of e ∷ trace_of (take i events)
trace_more {T} {ID} {D} events i e h is =
    ap (λ (l : List (RecordedEvent T ID D)). trace_of l) (take_more events i e h)
    ∙ trace_push [] (take i events) (get_or events i e)
    ∙ ap (λ (x : RecordedEvent T ID D). event_of x ∷ trace_of (take i events)) (sym is)

-- ---- a checker that keeps to its configs, and to when they count

pub records_by : {T ID D C : Type 0} (tests : ConfigsCount → C → Tests T ID D (Option D)) (e : TraceEvent T ID D)
    (old new : Checker T ID D C) (result : Result (Unit {0}) Violation) (counting : ConfigsCount) (configs : C)
    → counting_of old ≡ counting → configs_of old ≡ configs
    → Records (tests (counting_of old) (configs_of old)) e old new result
    → Records (tests counting configs) e old new result
records_by {T} {ID} {D} {C} tests e old new result counting configs same_counting same_configs h =
    subst (λ (x : C). Records (tests counting x) e old new result) same_configs
    (subst (λ (w : ConfigsCount). Records (tests w (configs_of old)) e old new result) same_counting h)
