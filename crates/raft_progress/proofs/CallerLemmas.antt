-- What callers may need of a progress that they have written into, and of one that counts by a
-- membership.
use Rattle.std.specs.Prelude.{◌≡◌, Bool, true, Some}
use Rattle.std.specs.declared.cmp.Ordering.{Ordering}
use Rattle.std.proofs.Common.{ap, refl}
use Rattle.std.proofs.lemmas.Map.{keys-set_value}
use Rattle.raft_progress.specs.progress.InOrder.{IsInOrder}
use Rattle.raft_progress.specs.progress.Kept.{KeepsParts, with_value}
use Rattle.raft_progress.specs.progress.ProgressView.{ProgressView, state}
use Rattle.raft_progress.proofs.lemmas.progress.KeptLemmas.{order_alike, written_parts}
pub use Rattle.raft_progress.proofs.lemmas.tracked.EachConfigLemmas.{number_granted, vote_granted}

module _ {ID V P QS : Type 0} (eq : ID → ID → Bool) (part : V → P) where
  -- if ids and voters' parts are as they were, a progress in order is in order
  pub in_order_kept : (cmp : P → P → Ordering) (has_quorum : QS → (ID → Bool) → Bool) (old new : ProgressView ID V P QS)
      → KeepsParts part old new
      → IsInOrder eq cmp part has_quorum old → IsInOrder eq cmp part has_quorum new
  in_order_kept cmp has_quorum old new k =
      order_alike eq cmp part has_quorum old new (λ set. ap (λ q. has_quorum q set) k.quorum_set) k.voter_count k.default_part k.granted
      k.ids k.parts

  -- a value in place of another keeps ids and voters' parts, if it has the same part or the id is
  -- not a voter
  pub with_value_keeps : (p : ProgressView ID V P QS) (id : ID) (v w : V) → (state eq p).value id ≡ Some v
      → ((state eq p).is_voter id ≡ true → part w ≡ part v) → KeepsParts part p (with_value eq p id w)
  with_value_keeps p id v w e same = record {
    quorum_set = refl;
    voter_count = refl;
    default_part = refl;
    granted = refl;
    ids = keys-set_value (eq id) p.entries w;
    parts = written_parts part eq id v w p.voter_count p.entries e same;
  }
