use Rattle.std.proofs.Common.{sym, ◌∙◌}
use Rattle.std.specs.List.{list_any}
use Rattle.std.specs.Set.{is_member}
use Rattle.raft_members.proofs.lemmas.membership.MappedLemmas.{list_any-map}
use Rattle.raft_members.proofs.membership.configs.has_id.Goals as goal

pub returns : goal.returns
returns g c =
    c.any_contains.ensures
    ∙ (λ i. list_any (λ s. list_any (λ k. sym (g.met.ID.Ord.matches_eq c.args.id.now k) i) s.keys) c.args.configs.now)
    ∙ sym (list_any-map (λ s. s.keys) (λ ks. is_member g.ID.PartialEq.eq ks c.args.id.now) c.args.configs.now)
