-- Lists of keys as the code reads them.
use Rattle.std.specs.Prelude.{ℕ, suc, ◌+◌, ◌≤◌, nat_le, List, [], ◌∷◌, if◌then◌else◌}
use Rattle.raft_base.specs.declared.log_id.LogIdOf.{LogIdOf}

-- indexes rise from b on, and end below e
abbrev pub Rises : {C : Type 0} → ℕ → List (LogIdOf C) → ℕ → Type 0
Rises b [] e = b ≤ e
Rises b (k ∷ ks) e = (b ≤ k.index) × Rises (k.index + 1) ks e

-- how many keys from the beginning on are not past index j
abbrev pub keys_to : {C : Type 0} → List (LogIdOf C) → ℕ → ℕ
keys_to [] j = 0
keys_to (k ∷ ks) j = if nat_le k.index j then suc (keys_to ks j) else 0
