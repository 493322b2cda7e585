use Rattle.std.proofs.Common.{refl, ◌∙◌}
use Rattle.std.specs.Map.{keys_of}
use Rattle.std.specs.BTreeMap.{get}
use Rattle.std.specs.Ordering.{eq_by_cmp}
use Rattle.std.proofs.lemmas.Cmp.{eq_by_cmp_equiv}
use Rattle.std.proofs.lemmas.Map.Keys.{IsDistinct-from_sorted}
use Rattle.std.proofs.lemmas.Map.Made.{update_all_distinct}
use Rattle.raft_members.proofs.membership.nodes.merged.Goals as goal

pub returns : goal.returns
returns g c q =
    c.in_ok-append.ensures.inserts_all.0 q
    ∙ update_all_distinct (eq_by_cmp_equiv g.met.NID.Ord.total) (eq_by_cmp g.NID.Ord.cmp) (λ x y. refl) (get g.NID.Ord.cmp c.args.second)
    c.args.first.entries q
    (IsDistinct-from_sorted g.NID.Ord.cmp (keys_of c.args.first.entries) c.append.ensures.other_was_ordered)
