use Rattle.std.proofs.Common.{map, sym, arith, ◌∙◌}
use Rattle.trace_checker.specs.Inner.CheckerState.{knows, same_entry_by}
use Rattle.trace_checker.specs.Inner.Kept.{leader_in}
use Rattle.trace_checker.specs.Inner.Logs.{log_at}
use Rattle.trace_checker.proofs.lemmas.CommitLemmas.{none_know}
use Rattle.trace_checker.proofs.lemmas.LoopLemmas.{any_after}
use Rattle.trace_checker.proofs.checker.any_knows.Goals as goal

pub returns-then-most-len : goal.returns-then-most-len
returns-then-most-len g c =
    λ bounded exact distinct. none_know g.T.Term.rank (same_entry_by g.T.PartialEq.eq g.D.PartialEq.eq) exact c.args.logs.now
    c.args.rank c.args.most (log_at c.args.logs.now c.args.prefix) c.args.leaders.now.items
    (omega (arith, c.len.ensures.len, c.if-most-len.true)) bounded

pub returns-then-knows_from : goal.returns-then-knows_from
returns-then-knows_from g c =
    λ bounded exact distinct. any_after (knows g.T.Term.rank (same_entry_by g.T.PartialEq.eq g.D.PartialEq.eq) c.args.rank (log_at
    c.args.logs.now c.args.prefix)) (map (leader_in c.args.logs.now) c.args.leaders.now.items) c.args.near
    (sym c.if-knows_from.true ∙ c.knows_from.ensures exact distinct)
