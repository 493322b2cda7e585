-- Two progresses that differ only in how their private facts are shown are equal.
use Rattle.std.proofs.Common.{◌≡◌, ◌≤◌, false, length, List, true}
use Rattle.std.specs.List.Sorted.{IsStrictlySortedBy}
use Rattle.std.specs.Map.{keys_of, values_of}
use Rattle.raft_progress.specs.Inner.Positions.{AreAtPositions, AreInverse, position_in}
use Rattle.std.proofs.Props.{props}
use Rattle.std.specs.Vec.{with_items}
use Rattle.std.specs.declared.cmp.Ord as order_ghosts
use Rattle.std.specs.declared.cmp.PartialEq as eq_ghosts
use Rattle.std.specs.declared.cmp.PartialOrd as partial_ghosts
use Rattle.raft_progress.specs.progress.VecProgress.{with_entries}
use Rattle.raft_progress.specs.declared.progress.vec_progress.VecProgress.{VecProgress}

module _ {ID V P QS : Type 0} {o : order_ghosts.Ghosts ID} {e : eq_ghosts.Ghosts ID} {q : partial_ghosts.Ghosts ID}
    (p : VecProgress ID V P QS o e q) (entries : List (ID × V)) where
  pub entries_left : (fits : p.voter_count ≤ length (with_items p.entries entries).items) (scratch : length p.scratch.items ≡ p.voter_count)
      (agree : true ≡ false → AreAtPositions e.eq (keys_of (with_items p.entries entries).items)
      (position_in e.eq p.positions.sorted.items))
      (ascending : IsStrictlySortedBy o.cmp (keys_of p.positions.sorted.items))
      (inverse : AreInverse (values_of p.positions.sorted.items) p.positions.ranks.items)
      → record p {
        entries = with_items p.entries entries;
        positions = record p.positions { stale = true; ascending = ascending; inverse = inverse };
        voters_fit = fits;
        scratch_fits = scratch;
        agree = agree;
      } ≡ with_entries p entries
  entries_left fits scratch agree ascending inverse =
      let fits_prop : IsProp (p.voter_count ≤ length (with_items p.entries entries).items) = hlevel props in
      let scratch_prop : IsProp (length p.scratch.items ≡ p.voter_count) = hlevel props in
      let agree_prop : IsProp (true ≡ false
      → AreAtPositions e.eq (keys_of (with_items p.entries entries).items) (position_in e.eq p.positions.sorted.items)) = hlevel props in
      let ascending_prop : IsProp (IsStrictlySortedBy o.cmp (keys_of p.positions.sorted.items)) = hlevel props in
      let inverse_prop : IsProp (AreInverse (values_of p.positions.sorted.items) p.positions.ranks.items) = hlevel props in
      λ i. record p {
        entries = with_items p.entries entries;
        positions = record p.positions {
          stale = true;
          ascending = ascending_prop ascending p.positions.ascending i;
          inverse = inverse_prop inverse p.positions.inverse i;
        };
        voters_fit = fits_prop fits (with_entries p entries).voters_fit i;
        scratch_fits = scratch_prop scratch p.scratch_fits i;
        agree = agree_prop agree (with_entries p entries).agree i;
      }
