use Rattle.std.proofs.Common.{map, ◌∙◌, ap}
use Rattle.std.specs.BTreeMap.{get}
use Rattle.raft_members.proofs.lemmas.membership.AddedLemmas.{option_alike}
use Rattle.raft_members.proofs.membership.Membership.with_only.Goals as goal

pub returns : goal.returns
returns g c = (
  c.in_ok-configs.ensures ∙ ap (λ xs. map (λ s. s.keys) xs) c.deref.ensures.value ∙ ap (λ m. m.configs) c.self.view_is,
  λ id. option_alike g.met.N.Eq.laws (get g.NID.Ord.cmp c.args.nodes id),
)
