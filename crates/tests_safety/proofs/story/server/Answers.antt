use Rattle.std.specs.Prelude.{ℕ, Some, nat_eq}
use Rattle.std.specs.Ordering.{nat_cmp}
use Rattle.steps_handlers.specs.Compared.{LeaderMembers}
use Rattle.raft_progress.specs.progress.Comparisons.{OrdMembers}
use Rattle.std.proofs.Common.{rules}
use Rattle.tests_safety.proofs.StoryLemmas.{by_vote, is_started}
use Rattle.tests_safety.proofs.story.server.Goals as goal

pub starts-requires : goal.starts-requires
starts-requires g c =
    let ids : OrdMembers ℕ = record { partial_cmp = λ x y. Some (nat_cmp x y); eq = nat_eq; cmp = nat_cmp } in
    let logs : OrdMembers _ = record {
      partial_cmp = g.C.PartialOrd.partial_cmp;
      eq = g.C.PartialEq.eq;
      cmp = g.C.Ord.cmp;
    } in
    let kind : LeaderMembers _ _ _ = record {
      is_default = g.L.Default.is_default;
      eq = g.L.PartialEq.eq;
      order = g.L.LeaderIdentity.order;
      term_of = g.L.LeaderIdentity.term_of;
      voted = g.L.LeaderIdentity.voted;
      committed = g.L.LeaderIdentity.committed;
      leader_of = g.L.LeaderIdentity.leader_of;
      committed_of = g.L.LeaderIdentity.committed_of;
      same_as = g.L.LeaderIdentity.same_as;
    } in
    let new = by_vote kind logs c.in-Ok.members.configs c.in-Ok-begins.ensures.new.0 c.in-Ok-begins.state
    (c.in-Ok-begins.ensures.new.2 c.in-Ok.members.configs) in
    search (rules, new)

pub returns : goal.returns
returns g c =
    let ids : OrdMembers ℕ = record { partial_cmp = λ x y. Some (nat_cmp x y); eq = nat_eq; cmp = nat_cmp } in
    let logs : OrdMembers _ = record {
      partial_cmp = g.C.PartialOrd.partial_cmp;
      eq = g.C.PartialEq.eq;
      cmp = g.C.Ord.cmp;
    } in
    let kind : LeaderMembers _ _ _ = record {
      is_default = g.L.Default.is_default;
      eq = g.L.PartialEq.eq;
      order = g.L.LeaderIdentity.order;
      term_of = g.L.LeaderIdentity.term_of;
      voted = g.L.LeaderIdentity.voted;
      committed = g.L.LeaderIdentity.committed;
      leader_of = g.L.LeaderIdentity.leader_of;
      committed_of = g.L.LeaderIdentity.committed_of;
      same_as = g.L.LeaderIdentity.same_as;
    } in
    let begun = c.in-Ok-begins.ensures in
    record {
      started = is_started ids _ kind logs begun.new.0 c.args.members.now.configs c.in-Ok-begins.state c.starts.new.state _
          c.in-Ok.members c.in-Ok-starts._entries.items begun.new.1
          (begun.new.2 c.in-Ok.members.configs) begun.first_term c.starts.ensures.new
          c.in-Ok-starts.ensures.call c.in-Ok-starts.ensures.decides c.in-Ok.ensures.configs;
    }
