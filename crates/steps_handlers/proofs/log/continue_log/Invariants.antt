use Rattle.std.proofs.Common.{◌≡◌, ◌+◌, drop}
use Rattle.steps_handlers.specs.Inner.Log.{continue_from}
use Rattle.steps_handlers.proofs.log.continue_log.Given as goal

abbrev pub invariant-loop-entry : goal.invariant-loop-entry
invariant-loop-entry g l = record {
  at : l.index ≡ l.fn.last.index + l.entry-index;
  rest : continue_from g.C.PartialEq.eq l.fn.last.leader_id (l.fn.last.index + 1) l.entries
      ≡ continue_from g.C.PartialEq.eq l.fn.last.leader_id (l.index + 1) (drop l.entry-index l.entries);
}
