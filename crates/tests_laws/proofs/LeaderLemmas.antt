-- What a leader may commit and propose.
use Rattle.std.specs.Prelude.{◌≡◌, ◌<◌, ◌≤◌, ℕ, zero, suc, Bool, true, Option, List, [], ◌∷◌, take, drop}
use Rattle.std.specs.Set.{is_member}
use Rattle.std.proofs.Common.{ap, ◌∙◌, arith}
use Rattle.std.proofs.lemmas.List.{take_all}
use Rattle.safety_laws.specs.Configs.{HoldNoConfig}
use Rattle.safety_laws.specs.Log.{Entry}
use Rattle.tests_laws.specs.Leader.{MayCommit, MayPropose}

pub may_commit : {ID : Type 0} (eq : ID → ID → Bool) (has_quorum : (ID → Bool) → Bool)
    (from written : ℕ) (acked : List ID) (n : ℕ) → from < n → n ≤ written
    → has_quorum (is_member eq acked) ≡ true → MayCommit eq has_quorum from written acked n
may_commit eq has_quorum from written acked n own within is rank quorum h t c elected e f q a =
    let all : take written (h.leader_log t c) ≡ h.leader_log t c =
    take_all written (h.leader_log t c) (omega (arith, f)) in
    record {
      elected = elected;
      own_term = omega (arith, e, own);
      written = omega (arith, f, within);
      having = is_member eq acked;
      is_quorum = record {
        within = within;
        written = omega (arith, f);
        is_quorum =
            ap (λ (l : List (Entry ℕ ℕ)). quorum l (is_member eq acked)) all
            ∙ q (is_member eq acked) ∙ is;
      };
      have_acked = a;
    }

none_after : {M : Type 0} (config_of : ℕ → Option M) (n k : ℕ) (l : List (Entry ℕ ℕ)) → n ≤ k
    → HoldNoConfig config_of (drop n l) → HoldNoConfig config_of (drop k l)
none_after config_of zero zero l le none = none
none_after config_of zero (suc k) [] le none = tt
none_after config_of zero (suc k) (e ∷ l) le none =
    none_after config_of zero k l (omega arith) none.1
none_after config_of (suc n) zero l le none = absurd (omega arith)
none_after config_of (suc n) (suc k) [] le none = tt
none_after config_of (suc n) (suc k) (e ∷ l) le none =
    none_after config_of n k l (omega arith) none

pub may_propose : (from committed configs : ℕ) → from < committed → configs ≤ committed
    → MayPropose from committed configs
may_propose from committed configs own within rank eq configs_of initial h t c m next done none co =
    let is = done own in
    record {
      committed_to = committed;
      counted_at = m;
      committed = is;
      before = is.is_quorum.written;
      none_since = none_after configs_of configs committed (h.leader_log t c) within none;
      coherent = co;
    }
