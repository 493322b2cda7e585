-- All logs of servers and leaders, each a number. Logs that begin with the same entries share them.
use Rattle.std.specs.Prelude.{◌≡◌, ◌⊎◌, ◌<◌, ◌≤◌, ℕ, Bool, true, false, nat_le, Option, Some, None, List, [], ◌∷◌, ◌++◌, length, take, drop, get_or}
use Rattle.std.specs.Option.{option_or}
use Rattle.safety_laws.specs.Log.{Entry}
use Rattle.safety_laws.specs.Configs.{effective_config}
use Rattle.trace_checker.specs.Inner.CheckerState.{config_in, no_config_in}

-- none of the entries has this content
abbrev pub LackContent : {T D : Type 0} → (D → D → Bool) → D → List (Entry T D) → Type 0
LackContent same d [] = Unit {0}
LackContent same d (e ∷ es) = (same d e.content ≡ false) × LackContent same d es

-- the logs, and of each the log up to its last config
pub record AllLogs (T D : Type 0) : Type 0 where
  pub logs : List (List (Entry T D))
  pub configs : List ℕ

module _ {T D : Type 0} where
  -- the entries of a log. A number that is no log's stands for the empty log
  abbrev pub log_at : AllLogs T D → ℕ → List (Entry T D)
  log_at t i = get_or t.logs i []

  -- the log up to the last config of a log
  abbrev pub config_at : AllLogs T D → ℕ → ℕ
  config_at t i = get_or t.configs i 0

  -- only the empty log
  abbrev pub no_logs : AllLogs T D
  no_logs = record { logs = [] ∷ []; configs = 0 ∷ [] }

  -- one log more
  abbrev pub and_log : AllLogs T D → List (Entry T D) → ℕ → AllLogs T D
  and_log t log config = record { logs = t.logs ++ log ∷ []; configs = t.configs ++ config ∷ [] }

  -- the last entry of a log
  abbrev pub last_entry : List (Entry T D) → Option (Entry T D)
  last_entry [] = None
  last_entry (e ∷ es) = option_or (last_entry es) (Some e)

  -- no two logs are equal
  abbrev pub AreDistinct : AllLogs T D → Type 0
  AreDistinct t =
      (i j : ℕ) → i < length t.logs → j < length t.logs → log_at t i ≡ log_at t j → i ≡ j

  -- each log but the first is an earlier one and one entry more
  pub record HasParent (t : AllLogs T D) (log : ℕ) : Type 0 where
    pub parent : ℕ
    pub entry : Entry T D
    pub earlier : parent < log
    pub is : log_at t log ≡ log_at t parent ++ entry ∷ []

  abbrev pub IsTree : AllLogs T D → Type 0
  IsTree t = (log : ℕ) → 0 < log → log < length t.logs → HasParent t log

  -- no log has an entry of this content
  abbrev pub AreWithout : (D → D → Bool) → AllLogs T D → D → Type 0
  AreWithout same t d = (i : ℕ) → i < length t.logs → LackContent same d (log_at t i)

  -- no log is another and one entry more
  abbrev pub HasNoChild : AllLogs T D → ℕ → Entry T D → Type 0
  HasNoChild t log entry =
      (i : ℕ) → i < length t.logs → log_at t i ≡ log_at t log ++ entry ∷ [] → ⊥

-- a test says whether two values are equal
pub record IsExact {E : Type 0} (same : E → E → Bool) : Type 0 where
  pub right : (x y : E) → same x y ≡ true → x ≡ y
  pub itself : (x : E) → same x x ≡ true

-- the content of the last entry
abbrev pub last_content : {T D : Type 0} → List (Entry T D) → Option D
last_content [] = None
last_content (e ∷ es) = option_or (last_content es) (Some e.content)

module _ {T D : Type 0} (holds : D → Bool) where
  -- the last entry of the first log holds the config that is in effect in the second, and it is the
  -- second up to this entry. The first is empty if the second has no config
  pub record HasConfig (config log : List (Entry T D)) : Type 0 where
    pub content : last_content config ≡ effective_config (config_in holds) None log
    pub since : (n : ℕ) → no_config_in holds (drop n log) ≡ nat_le (length config) n
    pub prefix : config ≡ take (length config) log

  -- the first log is empty, no two are equal, and each knows its last config
  pub record AreLogs (t : AllLogs T D) : Type 0 where
    pub some : 0 < length t.logs
    pub empty : log_at t 0 ≡ []
    pub distinct : AreDistinct t
    pub same_len : length t.configs ≡ length t.logs
    pub config_first : (i : ℕ) → i < length t.logs → config_at t i ≤ i
    pub config : (i : ℕ) → i < length t.logs → HasConfig (log_at t (config_at t i)) (log_at t i)

  -- a log is another and one entry more. Other logs are as they were
  pub record IsChild (old : AllLogs T D) (log : ℕ) (entry : Entry T D) (new : AllLogs T D) (child : ℕ) : Type 0 where
    pub within : child < length new.logs
    pub is : log_at new child ≡ log_at old log ++ entry ∷ []
    pub more : length old.logs ≤ length new.logs
    pub kept : (i : ℕ) → i < length old.logs → log_at new i ≡ log_at old i
    pub only : (i : ℕ) → i < length new.logs
        → (i < length old.logs) ⊎ (log_at new i ≡ log_at old log ++ entry ∷ [])
    pub logs : AreLogs new
