use Rattle.std.proofs.Common.{◌≡◌, take}
use Rattle.std.specs.List.{AllZip}
use Rattle.raft_progress.proofs.progress.entries.clone_entries.Given as goal

-- the entries so far have been cloned
abbrev pub invariant-loop-entry : goal.invariant-loop-entry
invariant-loop-entry g l = AllZip (λ d e. (e.0 ≡ d.0) × g.V.Clone.is_clone d.1 e.1) (take l.entry-index l.entries) l.made.items
