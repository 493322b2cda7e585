-- Equal numbers are equal by their test.
use Rattle.std.proofs.Common.{◌≡◌, ℕ, nat_eq, IsTrue, arith}
use Rattle.std.proofs.lemmas.Bool.Decides.{nat_tests}

pub same : (a b : ℕ) → b ≡ a → IsTrue (nat_eq a b)
same a b e = grind (arith, nat_tests)
