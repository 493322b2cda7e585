use Rattle.std.proofs.Common.{◌≡◌, ℕ, Bool, true, false, ◌&&◌, ◌≤◌, nat_le, refl, ap, ◌∙◌, arith}
use Rattle.std.proofs.Math.Nat.{max-eq_right}
use Rattle.std.proofs.lemmas.Bool.Decides.{nat_tests}
use Rattle.std.proofs.lemmas.Result.{on_ok_weaker}
use Rattle.raft_state.specs.log_id_list.FullLog.{first_index}
use Rattle.tests_state.proofs.laws.purge_to.Goals as goal

second : (a b c : Bool) → (a && b && c) ≡ true → b ≡ true
second true true c h = refl
second true false c h = cc
second false true c h = refl
second false false c h = cc

at_most : (a b : ℕ) → nat_le a b ≡ true → a ≤ b
at_most a b h = grind (arith, nat_tests)

pub returns : goal.returns
returns g c =
    on_ok_weaker c.purge_log.result
    (λ log. ap first_index log ∙ c.purged_log_begins.ensures ∙ max-eq_right (at_most _ _ (second _ _ _ c.requires)))
    c.purge_log.ensures.log
