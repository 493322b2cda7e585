use Rattle.std.proofs.Common.{sym, ◌∙◌}
use Rattle.raft_members.specs.membership.Valid.{is_empty_config}
use Rattle.raft_members.proofs.lemmas.membership.MappedLemmas.{list_any-map}
use Rattle.raft_members.proofs.membership.configs.has_empty.Goals as goal

pub returns : goal.returns
returns g c = c.any_empty.ensures ∙ sym (list_any-map (λ s. s.keys) is_empty_config c.args.configs.now)
