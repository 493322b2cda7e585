use Rattle.std.proofs.Common.{◌≡◌}
use Rattle.std.specs.Option.{option_or}
use Rattle.std.specs.BTreeMap.{get, keys}
use Rattle.raft_members.specs.membership.Change.{union_of, last_config, next_members}
use Rattle.raft_members.specs.membership.Members.{members_of, node_at, HasMembers}
use Rattle.raft_members.proofs.lemmas.membership.SaysLemmas.{more_says, in_both}
use Rattle.raft_members.proofs.membership.Membership.with_voters.Goals as goal

pub returns : goal.returns
returns g c =
    let m = members_of g.NID.Ord.cmp c.args.self.now in
    let next = c.in_ok-next.next in
    let stands : HasMembers g.N.PartialEq.eq g.NID.Ord.cmp next
    (next_members g.NID.PartialEq.eq m (union_of g.NID.Ord.cmp (last_config m.configs) (keys c.args.voters)) c.args.retain) =
    rw c.in_ok-ids.ensures at c.in_ok-next.ensures in
    in_both c.with_more.result (λ r. r.configs ≡ next.configs)
    (λ r. (id : g.row.NID.Denot) → node_at g.NID.Ord.cmp r.nodes id
    ≡ option_or (node_at g.NID.Ord.cmp next.nodes id) (get g.NID.Ord.cmp c.args.voters id)) _
    (λ r configs each. more_says g.met.NID.Eq.laws g.NID.Ord.cmp g.met.NID.Ord.matches_eq g.met.N.Eq.laws m c.args.voters c.args.retain next
    r stands configs each)
    c.with_more.ensures.configs c.with_more.ensures.nodes
