-- What the operations of a list do to its full log.
use Rattle.std.specs.Prelude.{ℕ, ◌+◌, ◌-◌, nat_lt, nat_le, List, [], ◌∷◌, ◌++◌, filter, if◌then◌else◌}
use Rattle.raft_base.specs.declared.log_id.LogIdOf.{LogIdOf}
use Rattle.raft_state.specs.log_id_list.FullLog.{ids_of, first_index, end_index}

-- the last leader's log ids at the indexes that are missing before index i
abbrev pub missing_ids : {C : Type 0} → List (LogIdOf C) → ℕ → List (LogIdOf C)
missing_ids [] i = []
missing_ids (k ∷ []) i = ids_of k.leader_id (k.index + 1) (i - (k.index + 1))
missing_ids (k ∷ l ∷ ks) i = missing_ids (l ∷ ks) i

-- the log, then the missing indexes with its last leader, then the log id
abbrev pub log_after_append : {C : Type 0} → List (LogIdOf C) → LogIdOf C → List (LogIdOf C)
log_after_append log id = log ++ missing_ids log id.index ++ id ∷ []

-- the log after these log ids are appended, one after the other
abbrev pub log_after_extend : {C : Type 0} → List (LogIdOf C) → List (LogIdOf C) → List (LogIdOf C)
log_after_extend log [] = log
log_after_extend log (id ∷ ids) = log_after_extend (log_after_append log id) ids

-- the log ids with an index below a
abbrev pub front : {C : Type 0} → List (LogIdOf C) → ℕ → List (LogIdOf C)
front log a = filter (λ id. nat_lt id.index a) log

-- the log ids with an index of at least a
abbrev pub rest : {C : Type 0} → List (LogIdOf C) → ℕ → List (LogIdOf C)
rest log a = filter (λ id. nat_le a id.index) log

-- what a purge leaves: only the log id for an empty log or past the last index; all below the first
-- index; and otherwise the rest from its index on, with the leaders of the log
abbrev pub log_after_purge : {C : Type 0} → List (LogIdOf C) → LogIdOf C → List (LogIdOf C)
log_after_purge log upto =
    if nat_le (end_index log) upto.index then upto ∷ []
    else (if nat_lt upto.index (first_index log) then log else rest log upto.index)
