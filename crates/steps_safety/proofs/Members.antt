-- The two memberships of a server, as indexes and configs, and their moves.
use Rattle.std.specs.Prelude.{ℕ, Option, Some, None, List, [], ◌∷◌, nat_lt, if◌then◌else◌}
use Rattle.raft_base.specs.declared.log_id.LogIdOf.{LogIdOf}

-- the committed and the effective config of a server, and the index of the entry that holds each. 0: the
-- config that the cluster was started with
pub record Members (M : Type 0) : Type 0 where
  pub committed : M
  pub committed_at : ℕ
  pub effective : M
  pub effective_at : ℕ

module _ {M : Type 0} where
  -- the log has its first n entries alone: if the effective config is cut off, the committed one is
  -- effective (`after_truncate`)
  abbrev pub after_cut : ℕ → Members M → Members M
  after_cut n m =
      if nat_lt n m.effective_at then record {
        committed = m.committed;
        committed_at = m.committed_at;
        effective = m.committed;
        effective_at = m.committed_at;
      } else m

  -- an entry is appended at an index: if it holds a config, that one is effective, and the one before it is
  -- committed (`after_append`)
  abbrev pub after_member : ℕ → Option M → Members M → Members M
  after_member i None m = m
  after_member i (Some new) m = record {
    committed = m.effective;
    committed_at = m.effective_at;
    effective = new;
    effective_at = i;
  }

  -- the effective config is committed (`after_commit`)
  abbrev pub settled : Members M → Members M
  settled m = record {
    committed = m.effective;
    committed_at = m.effective_at;
    effective = m.effective;
    effective_at = m.effective_at;
  }

  -- both are one config
  abbrev pub both_are : ℕ → M → Members M
  both_are i m = record { committed = m; committed_at = i; effective = m; effective_at = i }

  -- the entries with these log ids are appended, each with the config that it holds
  abbrev pub after_ids : {C : Type 0} → (LogIdOf C → Option M) → List (LogIdOf C) → Members M → Members M
  after_ids holds [] m = m
  after_ids holds (x ∷ xs) m = after_ids holds xs (after_member x.index (holds x) m)
