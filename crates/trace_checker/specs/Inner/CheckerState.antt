-- What the checker keeps of a server and of a leader, and which rule an event breaks by it.
use Rattle.std.specs.Prelude.{◌≡◌, ◌⊎◌, ◌+◌, ℕ, suc, Bool, false, not, ◌&&◌, ◌||◌, nat_lt, nat_le, nat_eq, min, if◌then◌else◌, Option, Some, None, List, [], ◌∷◌, ◌++◌, length, take, drop}
use Rattle.std.specs.List.{list_any, list_all, position}
use Rattle.safety_laws.specs.Log.{Entry, last_term}
use Rattle.safety_laws.specs.Configs.{effective_config}
use Rattle.safety_laws.specs.Trace.{unless}
use Rattle.safety_laws.specs.declared.rule.Rule.{Rule}
use Rattle.safety_laws.specs.declared.rule.Rule.TheVariants.{PassedTerm, OwnCandidate, CandidateBehind, MissingEntries, DropsMatching, ForeignEntries, TermNotReached, NotWritten, NotKept, LostAcked, OtherTerm, ApartConfigs, ApartQuorums, EarlyConfig, EarlierTerm, CountedEarly, CountedLate, UnknownConfig, ConfigsFollow, NotInLog}
use Rattle.safety_laws.specs.declared.counting.ConfigsCount.{ConfigsCount}
use Rattle.safety_laws.specs.declared.counting.ConfigsCount.TheVariants.{WhenAppended, WhenApplied}
use Rattle.trace_checker.specs.declared.checker.terms.Kept.{Kept}
use Rattle.trace_checker.specs.declared.checker.leader.Acked.{Acked}

-- what is kept of a server, with the entries of its log
pub record ServerState (T N D : Type 0) : Type 0 where
  pub id : N
  -- the rank of the term that it has reached, and of the term in which it has voted last
  pub term : ℕ
  pub voted : ℕ
  pub log : List (Entry T D)
  pub durable : ℕ
  pub kept : List Kept

-- what is kept of a candidate or leader, with the entries of its log
pub record LeaderState (T N D : Type 0) : Type 0 where
  pub term : T
  pub id : N
  -- the length of the log with which it asked for votes
  pub start : ℕ
  pub log : List (Entry T D)
  pub voters : List N
  pub elected : Bool
  pub acked : List (Acked N)
  pub committed : Option ℕ

-- two entries are of one term and have one content
abbrev pub same_entry_by : {T D : Type 0} → (T → T → Bool) → (D → D → Bool) → Entry T D → Entry T D
    → Bool
same_entry_by same_term same_content e f =
    same_term e.term f.term && same_content e.content f.content

-- the length of the longest common prefix of two lists
abbrev pub common_len : {E : Type 0} → (E → E → Bool) → List E → List E → ℕ
common_len same [] log = 0
common_len same (e ∷ es) [] = 0
common_len same (e ∷ es) (f ∷ fs) = if same e f then suc (common_len same es fs) else 0

-- the config of an entry with this content, which is named by the content
abbrev pub config_in : {D : Type 0} → (D → Bool) → D → Option (Option D)
config_in holds d = if holds d then Some (Some d) else None

-- none of the entries holds a config
abbrev pub no_config_in : {T D : Type 0} → (D → Bool) → List (Entry T D) → Bool
no_config_in holds log = list_all (λ e. not (holds e.content)) log

-- how many first entries a server has kept since its term was at most this rank, of those terms that
-- it has left
abbrev pub kept_from : ℕ → List Kept → ℕ → ℕ
kept_from n [] r = n
kept_from n (k ∷ ks) r = kept_from (if nat_le k.term r then k.len else n) ks r

-- the same, after a server of this term and number of entries has reached another term
abbrev pub kept_after : List Kept → ℕ → ℕ → ℕ → ℕ → ℕ
kept_after ks term len next r =
    if nat_lt term next then (if nat_le term r then len else min (kept_from 0 ks r) len) else kept_from 0 ks r

-- a server has acknowledged so many entries or more
abbrev pub has_acked_to : {N : Type 0} → (N → N → Bool) → List (Acked N) → N → ℕ → Bool
has_acked_to eq acks v n = list_any (λ a. eq a.server v && nat_le n a.len) acks

-- a log is at least as up to date as another
abbrev pub up_to_date_by : {T D : Type 0} → (T → ℕ) → List (Entry T D) → List (Entry T D) → Bool
up_to_date_by rank log other =
    nat_lt (last_term rank other) (last_term rank log)
    || (nat_eq (last_term rank other) (last_term rank log) && nat_le (length other) (length log))

-- a leader has committed so many entries, and no entry after them holds a config
abbrev pub config_committed : {T D : Type 0} → (List (Entry T D) → Bool) → Option ℕ → List (Entry T D) → Bool
config_committed no_config None log = false
config_committed no_config (Some n) log = no_config (drop n log)

-- a leader has committed these entries
abbrev pub has_committed : {T D : Type 0} → (Entry T D → Entry T D → Bool) → List (Entry T D) → Option ℕ
    → List (Entry T D) → Bool
has_committed same log None p = false
has_committed same log (Some n) p = nat_eq (common_len same p (take n log)) (length p)

-- ---- which rule an event breaks, by what is kept of its server and of its leader, which is elected

-- a config waits for the one before it if configs count from their append on
abbrev pub early_rule : ConfigsCount → Bool → Option Rule
early_rule WhenAppended committed = unless committed EarlyConfig None
early_rule WhenApplied committed = None

module _ {T N D : Type 0} where
  -- the first rule that a server's vote breaks, for a candidate that has campaigned in the term
  abbrev pub grant_rule : (T → ℕ) → (N → N → Bool) → ServerState T N D → LeaderState T N D → N → ℕ → N
      → Option Rule
  grant_rule rank eq s l id r c =
      unless (nat_le s.term r && nat_lt s.voted r) PassedTerm
      (unless (not (eq c id)) OwnCandidate
      (unless (up_to_date_by rank (take l.start l.log) s.log) CandidateBehind None))

  -- the first rule that a server breaks if it keeps n entries of its log and appends these
  abbrev pub append_rule : (Entry T D → Entry T D → Bool) → ServerState T N D → LeaderState T N D → ℕ → ℕ
      → List (Entry T D) → Option Rule
  append_rule same s l r n sent =
      unless (nat_le s.term r) PassedTerm
      (unless (nat_le n (length s.log)) MissingEntries
      (unless (nat_le (common_len same s.log l.log)
      (n + common_len same (drop n s.log) sent)) DropsMatching
      (unless (nat_eq (common_len same (drop n s.log) sent) (length sent)
      || (nat_le n (common_len same s.log l.log)
      && nat_eq (common_len same (drop n l.log) sent) (length sent))) ForeignEntries None)))

  -- the log of a server has begun with these entries since its term was at most this rank
  abbrev pub has_kept_by : (Entry T D → Entry T D → Bool) → ServerState T N D → ℕ → List (Entry T D)
      → Bool
  has_kept_by same s r p =
      nat_eq (common_len same p s.log) (length p)
      && (nat_le s.term r || nat_le (length p) (kept_from 0 s.kept r))

  -- the first rule that a server's acknowledgement of n entries to its leader breaks
  abbrev pub ack_rule : (Entry T D → Entry T D → Bool) → ServerState T N D → LeaderState T N D → ℕ → ℕ
      → Option Rule
  ack_rule same s l r n =
      unless (nat_le r s.term) TermNotReached
      (unless (nat_le n (length l.log)) NotWritten
      (unless (has_kept_by same s r (take n l.log)) NotKept None))

  -- the first rule that a server breaks if it applies the first n entries of its leader's log, besides
  -- that they are committed
  abbrev pub apply_rule : (Entry T D → Entry T D → Bool) → ServerState T N D → LeaderState T N D → ℕ
      → Option Rule
  apply_rule same s l n =
      unless (nat_le n (length l.log)) NotWritten
      (unless (nat_eq (common_len same (take n l.log) s.log) (length (take n l.log))) NotInLog None)

  -- the first rule that a server's restart with its first n entries breaks
  abbrev pub restart_rule : ServerState T N D → ℕ → Option Rule
  restart_rule s n =
      unless (nat_le s.durable n) LostAcked
      (unless (nat_le n (length s.log)) MissingEntries None)

  -- the first rule that a leader's entry with this content breaks, if the content holds a config
  abbrev pub config_rule : ConfigsCount → (D → Bool) → (Option D → Option D → Bool) → LeaderState T N D → D
      → Option Rule
  config_rule counting holds intersects l d =
      if holds d then
      unless (intersects (effective_config (config_in holds) None l.log) (Some d)) ApartConfigs
      (unless (intersects (Some d) (Some d)) ApartQuorums
      (early_rule counting (config_committed (no_config_in holds) l.committed l.log)))
      else None

  -- the first rule that a leader breaks when it writes this entry in this term
  abbrev pub write_rule : ConfigsCount → (T → T → Bool) → (D → Bool) → (Option D → Option D → Bool)
      → LeaderState T N D → T → Entry T D → Option Rule
  write_rule counting same_term holds intersects l t e =
      unless (same_term e.term t) OtherTerm (config_rule counting holds intersects l e.content)

  -- what a commit needs besides a quorum. Where it is counted is another test for each kind of configs:
  -- whether the config is known, and whether at most one follows it
  abbrev pub counted_rule : ConfigsCount → LeaderState T N D → ℕ → ℕ → Bool → Bool → Option Rule → Option Rule
  counted_rule WhenAppended l n m known follows rest =
      unless (nat_le n m) CountedEarly (unless (nat_le m (length l.log)) NotWritten rest)
  counted_rule WhenApplied l n m known follows rest =
      unless (nat_le m n) CountedLate
      (unless (nat_le n (length l.log)) NotWritten
      (unless known UnknownConfig (unless follows ConfigsFollow rest)))

  abbrev pub commit_rule : ConfigsCount → LeaderState T N D → ℕ → ℕ → Bool → Bool → Option Rule → Option Rule
  commit_rule counting l n m known follows rest =
      unless (nat_lt l.start n) EarlierTerm (counted_rule counting l n m known follows rest)

  -- a leader of a term of at most this rank has committed these entries
  abbrev pub knows : (T → ℕ) → (Entry T D → Entry T D → Bool) → ℕ → List (Entry T D)
      → LeaderState T N D → Bool
  knows rank same r p l = nat_le (rank l.term) r && has_committed same l.log l.committed p

-- nothing is kept of a server
pub record IsNew {T N D : Type 0} (id : N) (s : ServerState T N D) : Type 0 where
  pub is_id : s.id ≡ id
  pub term : s.term ≡ 0
  pub voted : s.voted ≡ 0
  pub log : s.log ≡ []
  pub durable : s.durable ≡ 0
  pub kept : s.kept ≡ []

-- no server passed the test, and a new server of this id was added at the end
pub record IsAdded {T N D : Type 0} (p : ServerState T N D → Bool) (id : N)
    (old new : List (ServerState T N D)) : Type 0 where
  pub absent : position p old ≡ None
  pub server : ServerState T N D
  pub is_new : IsNew id server
  pub added : new ≡ old ++ server ∷ []

-- the first server that passes the test is at place i: it was there, or it was added at the end
abbrev pub HasPlace : {T N D : Type 0} → (ServerState T N D → Bool) → N → List (ServerState T N D)
    → List (ServerState T N D) → ℕ → Type 0
HasPlace p id old new i = (position p new ≡ Some i) × ((new ≡ old) ⊎ IsAdded p id old new)
