-- What a leader counts as the matches of its members stays true.
use Rattle.std.specs.Prelude.{◌≡◌, ◌⊎◌, ℕ, ◌^◌, max, nat_eq, nat_lt, Bool, true, false, cond, if◌then◌else◌, Option, Some, None, Result, Ok, Err}
use Rattle.std.specs.Result.{result_unwrap_or}
use Rattle.std.specs.declared.cmp.Ordering.{Ordering}
use Rattle.std.proofs.Common.{refl, sym, ap, subst, ◌∙◌, inl, inr}
use Rattle.raft_base.specs.LogId.{id_le, id_lt, next_index}
use Rattle.raft_base.specs.declared.log_id.LogIdOf.{LogIdOf}
use Rattle.steps_handlers.specs.Leadership.{Leadership, WritesEntry, entry_of, flushed_entry}
use Rattle.steps_handlers.specs.Responses.{TakesResponse, after_conflict, after_match, after_outcome, after_response, answers, as_refused, end_after, matched, unless_late, with_hint}
use Rattle.steps_handlers.specs.declared.error.ResponseError.{ResponseError}
use Rattle.steps_handlers.specs.declared.error.ResponseError.TheVariants.{Foreign, LateHeartbeat, UnknownMember}
use Rattle.steps_handlers.specs.declared.message.Outcome.{Outcome}
use Rattle.steps_handlers.specs.declared.message.Outcome.TheVariants.{Conflict, HigherVote, Matches}
use Rattle.steps_handlers.specs.declared.message.RequestNumber.{RequestNumber}
use Rattle.steps_handlers.specs.declared.message.RequestNumber.TheVariants.{Heartbeat, InFlight}
use Rattle.steps_handlers.specs.declared.message.Response.{Response}
use Rattle.raft_progress.specs.entry.EntryTable.{entry_after_conflict, with_matching, with_search_end}
use Rattle.raft_progress.specs.inflight.InflightTable.{inflight_after_ack, inflight_after_conflict}
use Rattle.raft_progress.specs.progress.Comparisons.{OrdMembers}
use Rattle.raft_progress.specs.declared.entry.ProgressEntryOf.{ProgressEntryOf}
use Rattle.raft_progress.specs.declared.inflight.InflightError.{InflightError}
use Rattle.raft_progress.specs.declared.inflight.InflightError.TheVariants.{ConflictBelowMatching, IndexTooLarge, MatchingRegress}
use Rattle.raft_progress.specs.declared.inflight.InflightOf.{InflightOf}
use Rattle.steps_safety.specs.Electing.{match_of}

-- a leader that counts its own log up to a log id counts this as its own match, or no match has changed
module _ {K N C : Type 0} (eq : K → K → Bool) (logs : OrdMembers C) (old new : Leadership K N C) (upto : Option (LogIdOf C))
    (nodes : (x y : K) → eq x y ≡ true → x ≡ y) where
  abbrev pub FlushedMatch : K → Type 0
  FlushedMatch x = (match_of (entry_of eq new x) ≡ match_of (entry_of eq old x))
      ⊎ ((old.id ≡ x) × (match_of (entry_of eq new x) ≡ upto))

  pub flush_matches : ((entry : ProgressEntryOf C) → entry_of eq old old.id ≡ Some entry → id_le logs.cmp entry.matching upto ≡ true
      → WritesEntry eq old old.id (flushed_entry upto) new)
      → ((entry : ProgressEntryOf C) → entry_of eq old old.id ≡ Some entry → id_le logs.cmp entry.matching upto ≡ false → new ≡ old)
      → (entry_of eq old old.id ≡ None → (x : K) → entry_of eq new x ≡ entry_of eq old x) → (x : K) → FlushedMatch x
  flush_matches counted stale not_counted x = by (entry_of eq old old.id) refl
    where
      each : WritesEntry eq old old.id (flushed_entry upto) new → (b : Bool) → eq old.id x ≡ b → FlushedMatch x
      each writes false e =
          inl (ap match_of (writes.member.entries x ∙ ap (λ (b : Bool). cond b (Some (flushed_entry upto)) (entry_of eq old x)) e))
      each writes true e =
          inr (
            nodes old.id x e,
            ap match_of (writes.member.entries x ∙ ap (λ (b : Bool). cond b (Some (flushed_entry upto)) (entry_of eq old x)) e),
          )

      with_entry : (entry : ProgressEntryOf C) → entry_of eq old old.id ≡ Some entry → (b : Bool)
          → id_le logs.cmp entry.matching upto ≡ b → FlushedMatch x
      with_entry entry f false e = inl (ap (λ (l : Leadership K N C). match_of (entry_of eq l x)) (stale entry f e))
      with_entry entry f true e = each (counted entry f e) (eq old.id x) refl

      by : (o : Option (ProgressEntryOf C)) → entry_of eq old old.id ≡ o → FlushedMatch x
      by None f = inl (ap match_of (not_counted f x))
      by (Some entry) f = with_entry entry f (id_le logs.cmp entry.matching upto) refl

-- ---- a response

-- a conflict that is taken leaves the match as it was
search_match : {C : Type 0} (entry next : ProgressEntryOf C) (index : ℕ) (r : Result (InflightOf C) InflightError)
    → with_search_end entry index r ≡ Ok next → next.matching ≡ entry.matching
search_match {C} entry next index (Err e) is = cc
search_match {C} entry next index (Ok inflight) is =
    by (nat_lt index entry.searching_end) (nat_lt index (next_index entry.matching)) is
  where
    by : (a b : Bool) → (let r : Result (ProgressEntryOf C) InflightError = if a
        then (if b then Err ConflictBelowMatching else Ok (record entry { inflight = inflight; searching_end = index }))
        else Ok (record entry { inflight = inflight }) in r ≡ Ok next) → next.matching ≡ entry.matching
    by true true is = cc
    by true false is =
        let same : (record entry { inflight = inflight; searching_end = index }) ≡ next = cc in
        sym (ap (λ (x : ProgressEntryOf C). x.matching) same)
    by false b is =
        let same : (record entry { inflight = inflight }) ≡ next = cc in
        sym (ap (λ (x : ProgressEntryOf C). x.matching) same)

conflict_match : {C : Type 0} (entry next : ProgressEntryOf C) (request : Option ℕ) (index : ℕ)
    → entry_after_conflict entry request index ≡ Ok next → next.matching ≡ entry.matching
conflict_match entry next None index is = search_match entry next index (Ok entry.inflight) is
conflict_match entry next (Some id) index is =
    search_match entry next index (inflight_after_conflict entry.inflight id index) is

unwrapped_match : {C : Type 0} (entry : ProgressEntryOf C) (index : ℕ) (r : Result (ProgressEntryOf C) InflightError)
    → entry_after_conflict entry None index ≡ r → (result_unwrap_or r entry).matching ≡ entry.matching
unwrapped_match entry index (Ok x) is = conflict_match entry x None index is
unwrapped_match entry index (Err e) is = refl

hint_match : {C : Type 0} (entry next : ProgressEntryOf C) (request : Option ℕ) (index : ℕ) (last : Option ℕ)
    (r : Result (ProgressEntryOf C) InflightError) → entry_after_conflict entry request index ≡ r
    → as_refused (with_hint last r) ≡ Ok next → next.matching ≡ entry.matching
hint_match {C} entry next request index last (Err e) was is = cc
hint_match {C} entry next request index last (Ok x) was is =
    let same : result_unwrap_or (entry_after_conflict x None (end_after last)) x ≡ next = cc in
    sym (ap (λ (y : ProgressEntryOf C). y.matching) same)
    ∙ unwrapped_match x (end_after last) (entry_after_conflict x None (end_after last)) refl
    ∙ conflict_match entry x request index was

-- an acknowledgement that is taken is the match
ack_match : {C : Type 0} (cmp : C → C → Ordering) (entry next : ProgressEntryOf C) (upto : Option (LogIdOf C))
    (r : Result (InflightOf C) InflightError) → as_refused (with_matching cmp entry upto r) ≡ Ok next → next.matching ≡ upto
ack_match {C} cmp entry next upto (Err e) is = cc
ack_match {C} cmp entry next upto (Ok inflight) is =
    by (id_lt cmp upto entry.matching) (nat_lt (next_index upto) (2 ^ 64)) is
  where
    taken : ProgressEntryOf C
    taken = record entry {
      matching = upto;
      inflight = inflight;
      searching_end = max entry.searching_end (next_index upto);
    }

    by : (a b : Bool) → as_refused (let r : Result (ProgressEntryOf C) InflightError = if a then Err MatchingRegress
        else (if b then Ok taken else Err IndexTooLarge) in r) ≡ Ok next → next.matching ≡ upto
    by true b is = cc
    by false true is =
        let same : taken ≡ next = cc in
        sym (ap (λ (x : ProgressEntryOf C). x.matching) same)
    by false false is = cc

-- the response to a heartbeat that is taken is not late
on_time : {C : Type 0} (entry next : ProgressEntryOf C) (number : ℕ) (r : Result (ProgressEntryOf C) InflightError)
    → unless_late entry number r ≡ Ok next → as_refused r ≡ Ok next
on_time {C} entry next number r is = by (nat_eq entry.curr_inflight_id number) is
  where
    by : (b : Bool) → (let x : Result (ProgressEntryOf C) ResponseError = if b then as_refused r else Err LateHeartbeat in
        x ≡ Ok next) → as_refused r ≡ Ok next
    by true is = is
    by false is = cc

-- after the response to a heartbeat that matches, the match is as it was, or what the response says
heartbeat_match : {C : Type 0} (cmp : C → C → Ordering) (entry next : ProgressEntryOf C) (upto : Option (LogIdOf C))
    → as_refused (after_match cmp entry upto) ≡ Ok next → (next.matching ≡ entry.matching) ⊎ (next.matching ≡ upto)
heartbeat_match {C} cmp entry next upto is = by (id_lt cmp entry.matching upto) (nat_lt (next_index upto) (2 ^ 64)) is
  where
    by : (a b : Bool) → as_refused (let r : Result (ProgressEntryOf C) InflightError = if a
        then (if b then Ok (matched entry upto) else Err IndexTooLarge) else Ok entry in r) ≡ Ok next
        → (next.matching ≡ entry.matching) ⊎ (next.matching ≡ upto)
    by true true is =
        let same : matched entry upto ≡ next = cc in
        inr (sym (ap (λ (x : ProgressEntryOf C). x.matching) same))
    by true false is = cc
    by false b is =
        let same : entry ≡ next = cc in
        inl (sym (ap (λ (x : ProgressEntryOf C). x.matching) same))

-- after a response the match is as it was, or what the response acknowledges
response_match : {L C : Type 0} (cmp : C → C → Ordering) (entry next : ProgressEntryOf C) (request : RequestNumber) (o : Outcome L C)
    → after_outcome cmp entry request o ≡ Ok next → (next.matching ≡ entry.matching) ⊎ (o ≡ Matches next.matching)
response_match {L} {C} cmp entry next (InFlight number) (Matches upto) is =
    inr (sym (ap (λ (x : Option (LogIdOf C)). let y : Outcome L C = Matches x in y)
    (ack_match cmp entry next upto (inflight_after_ack cmp entry.inflight number upto) is)))
response_match {L} {C} cmp entry next (Heartbeat number) (Matches upto) is =
    by (heartbeat_match cmp entry next upto (on_time entry next number (after_match cmp entry upto) is))
  where
    by : (next.matching ≡ entry.matching) ⊎ (next.matching ≡ upto)
        → (next.matching ≡ entry.matching) ⊎ (let o : Outcome L C = Matches upto in o ≡ Matches next.matching)
    by (inl same) = inl same
    by (inr said) = inr (sym (ap (λ (x : Option (LogIdOf C)). let y : Outcome L C = Matches x in y) said))
response_match {L} {C} cmp entry next (InFlight number) (Conflict index last) is =
    inl (hint_match entry next (Some number) index last (entry_after_conflict entry (Some number) index) refl is)
response_match {L} {C} cmp entry next (Heartbeat number) (Conflict index last) is =
    inl (hint_match entry next None index last (entry_after_conflict entry None index) refl
    (on_time entry next number (after_conflict entry None index last) is))
response_match {L} {C} cmp entry next (InFlight number) (HigherVote vote) is = cc
response_match {L} {C} cmp entry next (Heartbeat number) (HigherVote vote) is = cc

module _ {K N L C : Type 0} (eq : K → K → Bool) (logs : OrdMembers C) (old new : Leadership K N C) (from : K)
    (response : Response L C) where
  -- a leader has taken a response of a member
  record IsTaken : Type 0 where
    pub entry : ProgressEntryOf C
    pub next : ProgressEntryOf C
    pub mine : answers logs.eq response old ≡ true
    pub known : entry_of eq old from ≡ Some entry
    pub after : after_response logs.cmp entry response ≡ Ok next
    pub writes : WritesEntry eq old from next new

  taken_or_same : (r : Result (Unit {0}) ResponseError) → TakesResponse eq logs from response old new r → (new ≡ old) ⊎ IsTaken
  taken_or_same (Err e) takes = inl takes.err
  taken_or_same (Ok x) takes = by (answers logs.eq response old) refl
    where
      refused : (e : ResponseError) → (let r : Result (Unit {0}) ResponseError = Ok x in
          r ≡ Err e) → (new ≡ old) ⊎ IsTaken
      refused e is = cc

      with_next : answers logs.eq response old ≡ true → (entry : ProgressEntryOf C) → entry_of eq old from ≡ Some entry
          → (r : Result (ProgressEntryOf C) ResponseError) → after_response logs.cmp entry response ≡ r → (new ≡ old) ⊎ IsTaken
      with_next mine entry f (Err e) is = refused e (takes.refused entry e mine f is)
      with_next mine entry f (Ok next) is =
          inr (record {
            entry = entry;
            next = next;
            mine = mine;
            known = f;
            after = is;
            writes = takes.taken entry next mine f is;
          })

      with_entry : answers logs.eq response old ≡ true → (o : Option (ProgressEntryOf C)) → entry_of eq old from ≡ o
          → (new ≡ old) ⊎ IsTaken
      with_entry mine None f = refused UnknownMember (takes.unknown mine f)
      with_entry mine (Some entry) f = with_next mine entry f (after_response logs.cmp entry response) refl

      by : (b : Bool) → answers logs.eq response old ≡ b → (new ≡ old) ⊎ IsTaken
      by false e = refused Foreign (takes.foreign e)
      by true e = with_entry e (entry_of eq old from) refl

  -- a response changes no membership
  pub response_members : (r : Result (Unit {0}) ResponseError) → TakesResponse eq logs from response old new r
      → new.followers.membership ≡ old.followers.membership
  response_members r takes = by (taken_or_same r takes)
    where
      by : (new ≡ old) ⊎ IsTaken → new.followers.membership ≡ old.followers.membership
      by (inl same) = ap (λ (l : Leadership K N C). l.followers.membership) same
      by (inr is) = is.writes.member.members

  -- and nothing but what is known of the members
  pub response_node : (r : Result (Unit {0}) ResponseError) → TakesResponse eq logs from response old new r
      → new ≡ record old { followers = new.followers }
  response_node r takes = by (taken_or_same r takes)
    where
      by : (new ≡ old) ⊎ IsTaken → new ≡ record old { followers = new.followers }
      by (inl same) = subst (λ (l : Leadership K N C). l ≡ record old { followers = l.followers }) (sym same) refl
      by (inr is) = is.writes.rest

  -- a response leaves each match as it was, or it is what the response acknowledges
  abbrev pub AnswersMatch : K → Type 0
  AnswersMatch x = (match_of (entry_of eq new x) ≡ match_of (entry_of eq old x))
      ⊎ ((from ≡ x) × (response.outcome ≡ Matches (match_of (entry_of eq new x))))

  pub response_matches : ((x y : K) → eq x y ≡ true → x ≡ y) → (r : Result (Unit {0}) ResponseError)
      → TakesResponse eq logs from response old new r → (x : K) → AnswersMatch x
  response_matches nodes r takes x = by (taken_or_same r takes)
    where
      answered : (is : IsTaken) → match_of (entry_of eq new x) ≡ is.next.matching → from ≡ x
          → (is.next.matching ≡ is.entry.matching) ⊎ (response.outcome ≡ Matches is.next.matching) → AnswersMatch x
      answered is now same (inl stays) =
          inl (now ∙ stays ∙ sym (ap match_of (ap (λ (y : K). entry_of eq old y) (sym same) ∙ is.known)))
      answered is now same (inr said) =
          inr (same, said ∙ ap (λ (o : Option (LogIdOf C)). let y : Outcome L C = Matches o in y) (sym now))

      each : (is : IsTaken) → (b : Bool) → eq from x ≡ b → AnswersMatch x
      each is false e =
          inl (ap match_of (is.writes.member.entries x ∙ ap (λ (b : Bool). cond b (Some is.next) (entry_of eq old x)) e))
      each is true e =
          answered is
          (ap match_of (is.writes.member.entries x ∙ ap (λ (b : Bool). cond b (Some is.next) (entry_of eq old x)) e))
          (nodes from x e) (response_match logs.cmp is.entry is.next response.request response.outcome is.after)

      by : (new ≡ old) ⊎ IsTaken → AnswersMatch x
      by (inl same) = inl (ap (λ (l : Leadership K N C). match_of (entry_of eq l x)) same)
      by (inr is) = each is (eq from x) refl
