use Rattle.std.proofs.Common.{List, map, not, sym, ◌∙◌, ap, subst}
use Rattle.std.proofs.lemmas.List.Kept.{IsStrictlySortedBy-filter}
use Rattle.std.specs.List.Sorted.{IsStrictlySortedBy}
use Rattle.std.specs.Map.{keys_of}
use Rattle.std.specs.Set.{is_member}
use Rattle.raft_members.specs.membership.Learners.{learners_among}
use Rattle.raft_members.specs.quorum.Majority.{is_voter_of}
use Rattle.raft_members.proofs.lemmas.membership.LearnerLemmas.{learner_with_node}
use Rattle.raft_members.proofs.membership.Membership.learner_ids.Goals as goal

pub returns-clause-ascending : goal.returns-clause-ascending
returns-clause-ascending g c =
    IsStrictlySortedBy-filter g.NID.Ord.cmp (λ id. not (is_voter_of g.NID.PartialEq.eq (map (λ s. s.keys) c.deref.result.now) id))
    c.keys.result
    (subst (λ (ks : List g.row.NID.Denot). IsStrictlySortedBy g.NID.Ord.cmp ks) (sym c.keys.ensures.rest) c.keys.ensures.ordered)

pub returns-clause-learners : goal.returns-clause-learners
returns-clause-learners g c id =
    let configs = ap (λ xs. map (λ s. s.keys) xs) c.deref.ensures.value ∙ ap (λ m. m.configs) c.self.view_is in
    let ids = c.keys.ensures.rest ∙ ap (λ m. keys_of m.nodes) c.self.view_is in
    (λ i. is_member g.NID.PartialEq.eq (learners_among g.NID.PartialEq.eq (configs i) (ids i)) id)
    ∙ learner_with_node g.met.NID.Eq.laws g.NID.Ord.cmp g.met.NID.Ord.matches_eq c.args.self.now.configs c.args.self.now.nodes id
