use Rattle.std.proofs.Common.{◌∙◌, ap, rules}
use Rattle.raft_members.specs.membership.Stored.{membership_of}
use Rattle.raft_state.proofs.lemmas.membership_state.RefusalLemmas.{only_memory_alike, refused_alike}
use Rattle.raft_state.proofs.membership_state.change_handler.ChangeHandlerOf.apply.Goals as goal

pub returns-in-Err-clause-refused : goal.returns-in-Err-clause-refused
returns-in-Err-clause-refused g c =
    refused_alike g.NID.PartialEq.eq g.NID.Ord.cmp c.args.self.now.state.now c.args.change c.membership.result.now
    (c.membership.ensures ∙ ap membership_of (c.deref.ensures ∙ c.effective.ensures)) c.in-Err.refused c.refusal_of.result
    c.refusal_of.ensures
    g.C.PartialEq.eq c.args.retain (search rules) c.in-Err.ensures.refused

pub returns-in-Err-clause-only_memory : goal.returns-in-Err-clause-only_memory
returns-in-Err-clause-only_memory g c = λ _.
    only_memory_alike g.NID.PartialEq.eq g.NID.Ord.cmp c.args.self.now.state.now c.args.change c.membership.result.now
    (c.membership.ensures ∙ ap membership_of (c.deref.ensures ∙ c.effective.ensures)) c.in-Err.refused c.refusal_of.result
    c.refusal_of.ensures
    c.in-Err.ensures.only_memory
