use Rattle.std.proofs.Common.{List, ℕ, Bor, map}
use Rattle.std.specs.List.{All, AllZip}
use Rattle.raft_script.specs.Word.{HasNumbersOf, IsList}
use Rattle.raft_script.proofs.script.command.configs.Given as goal

-- the parts so far are lists, and each has its config
abbrev pub invariant-loop-part : goal.invariant-loop-part
invariant-loop-part l = record {
  lists : All IsList (map (λ (part : Bor (List ℕ)). part.now) l.yielded);
  configs : AllZip HasNumbersOf l.configs.items (map (λ (part : Bor (List ℕ)). part.now) l.yielded);
}
