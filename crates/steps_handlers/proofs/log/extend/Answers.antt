use Rattle.steps_handlers.proofs.lemmas.ExtendLemmas.{call_extends, extend_zero, plain_extends}
use Rattle.steps_handlers.proofs.log.extend.Goals as goal

pub returns-then-plain-clause-extends : goal.returns-then-plain-clause-extends
returns-then-plain-clause-extends g c =
    let a = c.extend_log_ids.ensures in
    plain_extends g.C.PartialEq.eq g.met.C.Eq.laws g.C.Ord.cmp g.NID.PartialEq.eq g.N.PartialEq.eq c.args.new.now c.args.state.now
    c.extend_log_ids.new.self c.requires.may c.extend_log_ids.result (c.requires.plain c.if-plain.true) a.log a.last a.kept a.own a.rest

pub returns-then-plain-clause-sound : goal.returns-then-plain-clause-sound
returns-then-plain-clause-sound g c = λ sound.
    c.extend_log_ids.ensures.sound sound (extend_zero g.C.PartialEq.eq g.met.C.Eq.laws g.C.Ord.cmp g.NID.PartialEq.eq
    g.N.PartialEq.eq c.args.new.now c.args.state.now c.extend_log_ids.new.self c.requires.may)

pub returns-clause-extends : goal.returns-clause-extends
returns-clause-extends g c =
    let a = c.append_entries.ensures in
    call_extends g.C.PartialEq.eq g.NID.PartialEq.eq g.N.PartialEq.eq c.args.new.now c.args.state.now c.append_entries.new.self
    c.append_entries.result a.log a.last a.kept a.own a.memberships a.effective a.rest
