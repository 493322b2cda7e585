use Rattle.std.proofs.Common.{◌≡◌, Option, map, take, is_some, true, Bool, ◌+◌, sym, ◌∙◌, ap, subst}
use Rattle.std.proofs.lemmas.List.{take_all}
use Rattle.std.specs.BTreeMap.{get}
use Rattle.raft_members.specs.membership.Valid.{FirstUnknown}
use Rattle.raft_members.specs.Inner.Nodes.{lesser}
use Rattle.raft_members.specs.quorum.Majority.{is_voter_of}
use Rattle.raft_members.proofs.lemmas.membership.MissingLemmas.{one_more_first}
use Rattle.raft_members.proofs.lemmas.membership.AddedLemmas.{alike_at}
use Rattle.raft_members.proofs.membership.nodes.least_missing.Goals as goal

pub returns : goal.returns
returns g c =
    let known : g.row.NID.Denot → Bool = λ k. is_some (get g.NID.Ord.cmp c.args.nodes.now k) in
    subst (λ (v : g.row.NID.Denot → Bool). FirstUnknown g.NID.Ord.cmp v known c.loop-c.least)
    (λ i. is_voter_of g.NID.PartialEq.eq (map (λ s. s.keys) (take_all c.loop-c.c-index c.args.configs.now c.loop-c-test.false i)))
    c.loop-c.invariant

pub loop-c-init : goal.loop-c-init
loop-c-init g c = λ k m. cc

pub loop-c-preserved : goal.loop-c-preserved
loop-c-preserved g c =
    let known : g.row.NID.Denot → Bool = λ k. is_some (get g.NID.Ord.cmp c.args.nodes.now k) in
    let alike : (x y : g.row.NID.Denot) → g.NID.PartialEq.eq x y ≡ true → known x ≡ known y =
    λ x y h. ap is_some (alike_at g.met.NID.Ord.total c.args.nodes.now.entries x y (sym (g.met.NID.Ord.matches_eq x y) ∙ h)) in
    subst (λ (o : Option g.row.NID.Denot). FirstUnknown g.NID.Ord.cmp
    (is_voter_of g.NID.PartialEq.eq (map (λ s. s.keys) (take (c.loop-c.c-index + 1) c.args.configs.now))) known o)
    (sym (c.lesser-least.ensures ∙ ap (lesser g.NID.Ord.cmp c.loop-c.least) c.first_missing.ensures.found))
    (one_more_first g.met.NID.Eq.laws g.met.NID.Ord.total g.met.NID.Ord.matches_eq known alike (λ s. s.keys) c.args.configs.now
    c.loop-c.c-index c.c-item.result c.loop-c.least c.loop-c-test.true (sym c.c-item.is) c.first_missing.ensures.ordered
    c.loop-c.invariant)
