-- The relation of equal full logs has the laws of equality.
use Rattle.std.specs.Prelude.{Bool, List}
use Rattle.std.specs.Cmp.{IsEquivalence, on_equiv}
use Rattle.std.specs.Cmp.Lexicographic.{lists_equiv}
use Rattle.raft_base.specs.LogIdLawful.{same_id-equiv}
use Rattle.raft_base.specs.declared.log_id.LogIdOf.{LogIdOf}
use Rattle.raft_state.specs.log_id_list.FullLog.{full_log, same_log}

pub same_log-equiv : {C : Type 0} {eq : C → C → Bool} → IsEquivalence eq
    → IsEquivalence (same_log eq)
same_log-equiv e = lists_equiv (same_id-equiv e)

-- so has the relation of keys with equal full logs
pub same_full_log-equiv : {C : Type 0} {eq : C → C → Bool} → IsEquivalence eq
    → IsEquivalence (λ (a b : List (LogIdOf C)). same_log eq (full_log a) (full_log b))
same_full_log-equiv e = on_equiv full_log (same_log-equiv e)
