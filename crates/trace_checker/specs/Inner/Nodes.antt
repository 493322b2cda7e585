-- The nodes of a tree of logs.
use Rattle.std.specs.Prelude.{◌≡◌, ◌<◌, ◌≤◌, ◌+◌, ℕ, Bool, List, [], ◌∷◌, ◌++◌, length, take, get_or}
use Rattle.std.specs.BTreeMap.{is_at}
use Rattle.std.specs.List.{list_any}
use Rattle.std.specs.declared.cmp.Ordering.{Ordering}
use Rattle.trace_checker.specs.Inner.Logs.{AllLogs, log_at, config_at, and_log, no_logs}
use Rattle.trace_checker.specs.declared.checker.node.Node.{Node}

module _ {T D : Type 0} where
  -- the logs of nodes, after these
  abbrev pub logs_after : AllLogs T D → List (Node T D) → AllLogs T D
  logs_after t [] = t
  logs_after t (n ∷ ns) = logs_after (and_log t (log_at t n.parent ++ n.entry ∷ []) n.config) ns

  abbrev pub logs_of : List (Node T D) → AllLogs T D
  logs_of nodes = logs_after no_logs nodes

  -- a node is the last of a log
  pub record IsNode (t : AllLogs T D) (log : ℕ) (n : Node T D) : Type 0 where
    pub within : log < length t.logs
    pub parent : n.parent < log
    pub jump : n.jump < log
    pub len : n.len ≡ length (log_at t log)
    pub short : n.len ≤ log
    pub is : log_at t log ≡ log_at t n.parent ++ n.entry ∷ []
    pub jumps : log_at t n.jump ≡ take (length (log_at t n.jump)) (log_at t log)
    pub config : config_at t log ≡ n.config

  abbrev pub AreNodes : List (Node T D) → Type 0
  AreNodes nodes =
      (i : ℕ) (n : Node T D) → i < length nodes → n ≡ get_or nodes i n
      → IsNode (logs_of nodes) (i + 1) n

  -- a content is in a set exactly if it is that of the entry of a node
  abbrev pub AreContents : (D → D → Bool) → (D → D → Ordering) → List D → List (Node T D) → Type 0
  AreContents same cmp contents nodes =
      (d : D) → list_any (is_at (cmp d)) contents ≡ list_any (λ n. same d n.entry.content) nodes
