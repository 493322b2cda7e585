use Rattle.std.proofs.Common.{IfOk, rules}
use Rattle.std.specs.BTreeSet.{IsFromIterResult}
use Rattle.std.proofs.lemmas.Result.{IfOk-weaker}
use Rattle.raft_members.proofs.lemmas.quorum.MajorityLemmas.{is_member-collected}
use Rattle.raft_members.proofs.membership.ids.set_of.Goals as goal

pub returns : goal.returns
returns g c =
    let made : IfOk c.collect.result (IsFromIterResult g.ID.Ord.cmp c.args.ids.now) = search rules in
    record {
      ascending = IfOk-weaker c.collect.result (IsFromIterResult g.ID.Ord.cmp c.args.ids.now) _ (λ set m. m.1) made;
      members = IfOk-weaker c.collect.result (IsFromIterResult g.ID.Ord.cmp c.args.ids.now) _
          (is_member-collected g.met.ID.Eq.laws g.ID.Ord.cmp g.met.ID.Ord.matches_eq c.args.ids.now) made;
    }
