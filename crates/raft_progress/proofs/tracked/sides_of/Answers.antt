use Rattle.std.proofs.Common.{◌≡◌, ◌∙◌, ◌∷◌, [], List, ap, map, subst, sym}
use Rattle.std.specs.BTreeSet.{BTreeSet}
use Rattle.std.specs.Map.{keys_of}
use Rattle.raft_progress.specs.Inner.Sides.{AreSidesOfMembers}
use Rattle.raft_progress.specs.declared.progress.sides.Sides.{Sides}
use Rattle.raft_progress.proofs.lemmas.ListLemmas.{some_inside}
use Rattle.raft_progress.proofs.lemmas.progress.SideLemmas.{sides_of_two, two_items}
use Rattle.raft_progress.proofs.tracked.sides_of.Goals as goal

pub returns-in-len2 : goal.returns-in-len2
returns-in-len2 g c = λ s is.
    let members = c.args.membership.now in
    let first = c.first-item.result in
    let second = c.second-item.result in
    let sorted = c.in-Some.sorted in
    let configs : members.configs ≡ first.keys ∷ second.keys ∷ [] =
    sym c.get_joint_config.ensures
    ∙ ap (λ (qs : List (BTreeSet g.row.NID.Denot)). map (λ q. q.keys) qs)
    (sym c.as_slice.ensures.value
    ∙ two_items c.as_slice.result.now first second c.in-len2.len_at_least c.in-len2.len_below c.first-item.is c.second-item.is) in
    subst (λ (t : Sides). AreSidesOfMembers g.NID.PartialEq.eq g.NID.Ord.cmp members t) (some_inside c.in_ok-sides.sides s is)
    (sides_of_two g.met.NID.Eq.laws g.met.NID.Ord.total g.met.NID.Ord.matches_eq members first.keys second.keys (keys_of sorted.now)
    configs
    record {
      ascending = c.sorted.ensures.ascending sorted c.in-Some.is;
      known = λ id. c.sorted.ensures.known sorted c.in-Some.is id ∙ c.requires.known id;
    } c.in_ok-sides.sides c.in_ok-sides.ensures.first c.in_ok-sides.ensures.second)
