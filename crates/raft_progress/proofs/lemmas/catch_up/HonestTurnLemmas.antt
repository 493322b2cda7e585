-- One turn of an honest run, on numbers: m after the match, e the end, l after the last id, p after the purge point.
use Rattle.std.proofs.Common.{◌≡◌, ℕ, suc, ◌+◌, ◌-◌, ◌*◌, ◌/◌, ◌<◌, ◌≤◌, min, max, refl, arith}
use Rattle.raft_progress.specs.entry.Send.{calc_mid}
use Rattle.raft_progress.proofs.lemmas.search.HalvingLemmas.{Near, near_halves}

-- what holds of an honest run between its turns
pub record Stands (m e l p agree : ℕ) : Type 0 where
  pub matched : m ≤ agree
  pub agreed : agree ≤ e
  pub logged : e ≤ l
  pub kept : p ≤ agree

-- what decreases at each turn
abbrev pub measure : ℕ → ℕ → ℕ → ℕ
measure m e l = e + 2 * (l - m)

module _ (m e l p agree : ℕ) (stands : Stands m e l p agree) where
  -- a refused probe: the end moves to the index before it
  pub conflict_falls : agree < max (calc_mid m e) p → measure m (max (calc_mid m e) p - 1) l < measure m e l
  conflict_falls lt = let a = stands.logged in let b = stands.matched in let c = stands.agreed in let d = stands.kept in omega arith

  pub conflict_halves : (b : ℕ) → agree < max (calc_mid m e) p → Near b (e - m)
      → (c : ℕ) × (b ≡ suc c) × Near c (max (calc_mid m e) p - 1 - m)
  conflict_halves b lt near =
      let a = stands.logged in let b1 = stands.matched in let c = stands.agreed in let d = stands.kept in
      let k = (e - m) / 16 in
      let q = near_halves b (e - m) k near refl (omega arith) in
      let s : max (calc_mid m e) p - 1 - m ≡ 8 * k - 1 = omega arith in
      (q.0, q.1, rw s q.2)

  module _ (n : ℕ) (some : 1 ≤ n) (more : m < l) (open_log : p < l) (le : max (calc_mid m e) p ≤ agree) where
    abbrev pub to : ℕ
    to = min (max (calc_mid m e) p + n) l

    -- an ack: the match moves past what was sent
    pub ack_falls : measure to (max e to) l < measure m e l
    ack_falls = let a = stands.logged in let b = stands.matched in let c = stands.agreed in let d = stands.kept in omega arith

    pub ack_near : (b : ℕ) → Near b (e - m) → Near b (max e to - to)
    ack_near b near = let a = stands.logged in let b1 = stands.matched in let c = stands.agreed in let d = stands.kept in omega arith
