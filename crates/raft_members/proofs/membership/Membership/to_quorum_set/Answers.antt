use Rattle.std.proofs.Common.{map, ◌∙◌, ap}
use Rattle.raft_members.proofs.lemmas.membership.MappedLemmas.{quorums_of_lists, voters_of_lists}
use Rattle.raft_members.proofs.membership.Membership.to_quorum_set.Goals as goal

pub returns-clause-quorums : goal.returns-clause-quorums
returns-clause-quorums g c =
    quorums_of_lists (λ v. v.items) g.NID.PartialEq.eq c.new.result.items c.args.self.now.configs
    (ap (λ v. map (λ l. l.items) v.items) c.new.ensures ∙ c.in_ok-lists.ensures ∙ ap (λ xs. map (λ s. s.keys) xs) c.deref.ensures.value
    ∙ ap (λ m. m.configs) c.self.view_is)

pub returns-clause-voters : goal.returns-clause-voters
returns-clause-voters g c =
    voters_of_lists (λ v. v.items) g.NID.PartialEq.eq c.new.result.items c.args.self.now.configs
    (ap (λ v. map (λ l. l.items) v.items) c.new.ensures ∙ c.in_ok-lists.ensures ∙ ap (λ xs. map (λ s. s.keys) xs) c.deref.ensures.value
    ∙ ap (λ m. m.configs) c.self.view_is)
