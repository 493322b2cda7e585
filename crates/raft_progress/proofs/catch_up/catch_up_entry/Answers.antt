use Rattle.std.proofs.Common.{arith}
use Rattle.raft_progress.proofs.lemmas.catch_up.CatchUpLemmas.{along_acked, along_refused, begins, ends_run, id_left, monotone, ready_from}
use Rattle.raft_progress.proofs.catch_up.catch_up_entry.Goals as goal

pub turns-init : goal.turns-init
turns-init g c = begins g.C.PartialEq.eq g.C.Ord.cmp g.met.C.Ord.total g.met.C.Eq.laws.refl (g.L.LogStateReader.log_view c.args.log.now)
    c.requires.logged c.args.max_entries c.args.entry.now c.args.agree
    (ready_from g.C.PartialEq.eq g.C.Ord.cmp (g.L.LogStateReader.log_view c.args.log.now) c.args.max_entries c.args.entry.now c.args.agree
    c.requires.can).0

pub take_turn-requires-clause-id : goal.take_turn-requires-clause-id
take_turn-requires-clause-id g c =
    let can = ready_from g.C.PartialEq.eq g.C.Ord.cmp (g.L.LogStateReader.log_view c.args.log.now) c.args.max_entries c.args.entry.now
    c.args.agree c.requires.can in
    (id_left g.C.PartialEq.eq g.C.Ord.cmp g.met.C.Ord.total g.met.C.Eq.laws.refl (g.L.LogStateReader.log_view c.args.log.now)
    c.requires.logged c.args.max_entries c.args.entry.now c.args.agree c.turns.entry c.turns.agreed c.turns.conflicts c.turns.acks
    c.turns.invariant can.0 can.1).2

pub returns-in-Ended-clause-run : goal.returns-in-Ended-clause-run
returns-in-Ended-clause-run g c = rw c.in-Ended.ensures.1
    (ends_run g.C.PartialEq.eq g.C.Ord.cmp g.met.C.Ord.total g.met.C.Eq.laws.refl (g.L.LogStateReader.log_view c.args.log.now)
    c.requires.logged c.args.max_entries c.args.entry.now c.args.agree c.turns.entry c.turns.agreed c.turns.conflicts c.turns.acks
    c.turns.invariant c.in-Ended.ensures.0)

pub returns-in-Ended-clause-monotone : goal.returns-in-Ended-clause-monotone
returns-in-Ended-clause-monotone g c =
    let end = c.in-Ended.ensures in
    rw end.1 (monotone g.C.PartialEq.eq g.C.Ord.cmp g.met.C.Ord.total g.met.C.Eq.laws.refl g.met.C.Ord.matches_eq
    (g.L.LogStateReader.log_view c.args.log.now) c.args.max_entries c.args.entry.now c.turns.entry c.args.agree c.requires.logged
    (ready_from g.C.PartialEq.eq g.C.Ord.cmp (g.L.LogStateReader.log_view c.args.log.now) c.args.max_entries c.args.entry.now
    c.args.agree c.requires.can).0 end.3)

pub overflow_add-conflicts : goal.overflow_add-conflicts
overflow_add-conflicts g c =
    let can = ready_from g.C.PartialEq.eq g.C.Ord.cmp (g.L.LogStateReader.log_view c.args.log.now) c.args.max_entries c.args.entry.now
    c.args.agree c.requires.can in
    let left = (id_left g.C.PartialEq.eq g.C.Ord.cmp g.met.C.Ord.total g.met.C.Eq.laws.refl (g.L.LogStateReader.log_view c.args.log.now)
    c.requires.logged c.args.max_entries c.args.entry.now c.args.agree c.turns.entry c.turns.agreed c.turns.conflicts c.turns.acks
    c.turns.invariant can.0 can.1).0 in omega arith

pub turns-smaller-in-Refused : goal.turns-smaller-in-Refused
turns-smaller-in-Refused g c = (along_refused g.C.PartialEq.eq g.C.Ord.cmp g.met.C.Ord.total g.met.C.Eq.laws.refl
    (g.L.LogStateReader.log_view c.args.log.now) c.requires.logged c.args.max_entries c.args.entry.now c.args.agree c.turns.entry
    c.take_turn.new.entry c.turns.agreed c.take_turn.new.agree c.turns.conflicts c.turns.acks c.turns.invariant
    (c.in-Refused.ensures c.turns.conflicts c.turns.acks)).1

pub turns-preserved-in-Refused : goal.turns-preserved-in-Refused
turns-preserved-in-Refused g c = (along_refused g.C.PartialEq.eq g.C.Ord.cmp g.met.C.Ord.total g.met.C.Eq.laws.refl
    (g.L.LogStateReader.log_view c.args.log.now) c.requires.logged c.args.max_entries c.args.entry.now c.args.agree c.turns.entry
    c.take_turn.new.entry c.turns.agreed c.take_turn.new.agree c.turns.conflicts c.turns.acks c.turns.invariant
    (c.in-Refused.ensures c.turns.conflicts c.turns.acks)).0

pub turns-smaller : goal.turns-smaller
turns-smaller g c = (along_acked g.C.PartialEq.eq g.C.Ord.cmp g.met.C.Ord.total g.met.C.Eq.laws.refl
    (g.L.LogStateReader.log_view c.args.log.now) c.requires.logged c.args.max_entries c.args.entry.now c.args.agree c.turns.entry
    c.take_turn.new.entry c.turns.agreed c.take_turn.new.agree c.turns.conflicts c.turns.acks c.turns.invariant
    (c.in-Acked.ensures c.turns.conflicts c.turns.acks)).1

pub turns-preserved : goal.turns-preserved
turns-preserved g c = (along_acked g.C.PartialEq.eq g.C.Ord.cmp g.met.C.Ord.total g.met.C.Eq.laws.refl
    (g.L.LogStateReader.log_view c.args.log.now) c.requires.logged c.args.max_entries c.args.entry.now c.args.agree c.turns.entry
    c.take_turn.new.entry c.turns.agreed c.take_turn.new.agree c.turns.conflicts c.turns.acks c.turns.invariant
    (c.in-Acked.ensures c.turns.conflicts c.turns.acks)).0
