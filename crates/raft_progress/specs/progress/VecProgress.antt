-- What contracts see of a `VecProgress`, and what remains of one whose entries have been lent. No
-- other file reads its private fields.
use Rattle.raft_progress.specs.progress.ProgressView.{ProgressView}
use Rattle.std.specs.Prelude.{List, ◌≤◌, true}
use Rattle.std.specs.Vec.{with_items}
use Rattle.std.proofs.Common.{sym, ◌∙◌, subst, true≢false}
use Rattle.std.specs.declared.cmp.Ord as order_ghosts
use Rattle.std.specs.declared.cmp.PartialEq as eq_ghosts
use Rattle.std.specs.declared.cmp.PartialOrd as partial_ghosts
use Rattle.raft_progress.specs.declared.progress.vec_progress.VecProgress.{VecProgress}

-- all but the list of positions and the scratch space
abbrev pub view : {ID V P QS : Type 0} {o : order_ghosts.Ghosts ID} {e : eq_ghosts.Ghosts ID}
    {q : partial_ghosts.Ghosts ID}
    → VecProgress ID V P QS o e q → ProgressView ID V P QS
view p =
    record {
      quorum_set = p.quorum_set;
      entries = p.entries.items;
      voter_count = p.voter_count;
      default_part = p.default_part;
      granted = p.granted;
      stat = p.stat;
    }

-- the progress with other entries, as many as before, and a list of positions that is not used any
-- more
abbrev pub with_entries : {ID V P QS : Type 0} {o : order_ghosts.Ghosts ID} {e : eq_ghosts.Ghosts ID}
    {q : partial_ghosts.Ghosts ID}
    → VecProgress ID V P QS o e q → List (ID × V) → VecProgress ID V P QS o e q
with_entries p entries =
    record p {
      entries = with_items p.entries entries;
      positions = record p.positions { stale = true };
      voters_fit =
          subst (λ n. p.voter_count ≤ n)
          (sym p.entries.ok.0 ∙ (with_items p.entries entries).ok.0) p.voters_fit;
      agree = λ e. absurd (true≢false e);
    }
