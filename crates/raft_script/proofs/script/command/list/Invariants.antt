use Rattle.std.proofs.Common.{◌≡◌, ◌==◌, List, ℕ, Bor, map}
use Rattle.std.specs.BTreeSet.{contains}
use Rattle.std.specs.List.{All, list_any}
use Rattle.std.specs.Ordering.{nat_cmp}
use Rattle.std.specs.Str.Parse.{digits_value}
use Rattle.raft_script.specs.Word.{IsNumber}
use Rattle.raft_script.proofs.script.command.list.Given as goal

-- the parts so far are numbers, and the set has exactly these
abbrev pub invariant-loop-part : goal.invariant-loop-part
invariant-loop-part l = record {
  numbers : All IsNumber (map (λ (part : Bor (List ℕ)). part.now) l.yielded);
  has : (n : ℕ) → contains nat_cmp l.numbers n
      ≡ list_any (λ part. digits_value 10 part == n) (map (λ (part : Bor (List ℕ)). part.now) l.yielded);
}
