use Rattle.std.proofs.Common.{Result, Ok, Err, refl, IfOk}
use Rattle.std.specs.Result.{MatchResult}
use Rattle.std.proofs.lemmas.Result.{IfOk-weaker}
use Rattle.raft_state.proofs.raft_state.RaftStateInClone.clone.Goals as goal

from_ok : {T E : Type 0} (r : Result T E) (P : T → Type 0) (Q : E → Type 0) → ((e : E) → Q e) → IfOk r P → MatchResult r P Q
from_ok (Ok x) P Q any h = h
from_ok (Err e) P Q any h = any e

pub returns : goal.returns
returns g c = record {
  cases = from_ok c.with_snapshot_meta.result _ _ (λ e z. z)
      (IfOk-weaker c.with_snapshot_meta.result _ _ (λ copy e. rw e (c.in_ok-clone.ensures.cases, refl)) c.with_snapshot_meta.ensures);
}
