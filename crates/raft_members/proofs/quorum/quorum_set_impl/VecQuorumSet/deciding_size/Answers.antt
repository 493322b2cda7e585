use Rattle.std.proofs.Common.{◌≡◌, ◌∙◌, Some, ap, subst, sym}
use Rattle.std.specs.Set.{is_member}
use Rattle.raft_members.specs.quorum.Majority.{is_majority}
use Rattle.raft_members.specs.quorum.QuorumSize.{SizeDecides}
use Rattle.raft_members.proofs.lemmas.quorum.LeastLemmas.{majority_decides}
use Rattle.raft_members.proofs.quorum.quorum_set_impl.VecQuorumSet.deciding_size.Goals as goal

pub returns : goal.returns
returns g c = record {
  exact = ap Some c.least_quorum_size.ensures.exact;
  decides = λ n is.
      let same : c.least_quorum_size.result ≡ n = cc in
      let eq = g.ID.PartialEq.eq in
      subst (SizeDecides eq (is_majority eq c.args.self.now.items) (is_member eq c.args.self.now.items))
      (sym c.least_quorum_size.ensures.exact ∙ same) (majority_decides g.met.ID.Eq.laws c.args.self.now.items);
}
