use Rattle.std.proofs.Common.{◌≡◌, Bool, sym, subst}
use Rattle.std.specs.Prelude.{IfOk}
use Rattle.std.specs.Set.{is_member}
use Rattle.raft_members.proofs.lemmas.membership.MappedLemmas.{list_any-map}
use Rattle.raft_members.proofs.membership.configs.voters.Goals as goal

pub returns-clause-voters : goal.returns-clause-voters
returns-clause-voters g c =
    subst (λ (F : g.row.ID.Denot → Bool). IfOk c.ids_of_each.result
    (λ ids. (x : g.row.ID.Denot) → is_member g.ID.PartialEq.eq ids.items x ≡ F x))
    (λ i x. sym (list_any-map (λ s. s.keys) (λ ks. is_member g.ID.PartialEq.eq ks x) c.args.configs.now) i) c.ids_of_each.ensures.voters
