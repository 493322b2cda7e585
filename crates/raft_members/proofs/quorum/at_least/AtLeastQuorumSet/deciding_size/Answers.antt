use Rattle.std.proofs.Common.{◌≡◌, refl, subst}
use Rattle.std.specs.Set.{is_member}
use Rattle.raft_members.specs.quorum.Majority.{has_at_least}
use Rattle.raft_members.specs.quorum.QuorumSize.{SizeDecides}
use Rattle.raft_members.proofs.lemmas.quorum.LeastLemmas.{at_least_decides}
use Rattle.raft_members.proofs.quorum.at_least.AtLeastQuorumSet.deciding_size.Goals as goal

pub returns : goal.returns
returns g c = record {
  exact = refl;
  decides = λ n is.
      let ids = c.args.self.now.ids.items in
      let need = c.args.self.now.need in
      let same : need ≡ n = cc in
      let eq = g.ID.PartialEq.eq in
      subst (SizeDecides eq (has_at_least eq ids need) (is_member eq ids)) same (at_least_decides g.met.ID.Eq.laws ids need);
}
