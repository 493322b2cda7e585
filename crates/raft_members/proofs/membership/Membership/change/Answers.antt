use Rattle.std.proofs.Common.{◌≡◌}
use Rattle.std.proofs.lemmas.Cmp.{tied_itself}
use Rattle.std.proofs.lemmas.Result.{IfErr-weaker, IfOk-weaker}
use Rattle.raft_members.specs.membership.Change.{changed}
use Rattle.raft_members.specs.membership.Members.{members_of}
use Rattle.raft_members.specs.membership.Refusal.{IsRefusal}
use Rattle.raft_members.specs.membership.ReplaceAll.{OnlyMemory, TwoChanges}
use Rattle.raft_members.proofs.lemmas.membership.SaysLemmas.{made_coherent, same_refusal}
use Rattle.raft_members.proofs.lemmas.membership.ReplaceLemmas.{only_memory, two_changes}
use Rattle.raft_members.proofs.membership.Membership.change.Goals as goal

pub returns-clause-coherent : goal.returns-clause-coherent
returns-clause-coherent g c =
    made_coherent g.met.NID.Eq.laws g.NID.Ord.cmp g.N.PartialEq.eq c.if_valid.result c.args.self.now c.in_ok-next.next c.args.change
    c.args.retain c.in_ok-next.ensures c.if_valid.ensures.same

pub returns-clause-two_changes : goal.returns-clause-two_changes
returns-clause-two_changes g c =
    let old = members_of g.NID.Ord.cmp c.args.self.now in
    IfOk-weaker c.if_valid.result (λ m. m ≡ c.in_ok-next.next) (TwoChanges g.NID.PartialEq.eq g.NID.Ord.cmp old c.args.change)
    (λ m is. rw is (two_changes g.met.NID.Eq.laws g.NID.Ord.cmp old c.args.retain (tied_itself g.met.NID.Ord.total) g.N.PartialEq.eq
    c.args.change c.in_ok-next.next c.in_ok-next.ensures))
    c.if_valid.ensures.same

pub returns-clause-only_memory : goal.returns-clause-only_memory
returns-clause-only_memory g c =
    let old = members_of g.NID.Ord.cmp c.args.self.now in
    IfErr-weaker c.if_valid.result (IsRefusal g.NID.PartialEq.eq g.NID.Ord.cmp (members_of g.NID.Ord.cmp c.in_ok-next.next))
    (OnlyMemory g.NID.PartialEq.eq old c.args.change)
    (λ e refused. only_memory g.met.NID.Eq.laws g.NID.Ord.cmp old c.args.retain c.args.change e
    (same_refusal g.N.PartialEq.eq g.NID.PartialEq.eq g.NID.Ord.cmp c.in_ok-next.next
    (changed g.NID.PartialEq.eq g.NID.Ord.cmp old c.args.change c.args.retain) c.in_ok-next.ensures e refused))
    c.if_valid.ensures.refused
