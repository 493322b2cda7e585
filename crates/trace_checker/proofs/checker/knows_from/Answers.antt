use Rattle.std.proofs.Common.{◌<◌, ◌≤◌, ◌∙◌, length, map, refl, sym, arith}
use Rattle.std.proofs.lemmas.List.{length-map}
use Rattle.trace_checker.specs.Inner.CheckerState.{knows, same_entry_by}
use Rattle.trace_checker.specs.Inner.Kept.{leader_in}
use Rattle.trace_checker.specs.Inner.Logs.{log_at}
use Rattle.trace_checker.proofs.lemmas.CheckerStepLemmas.{item_map}
use Rattle.trace_checker.proofs.lemmas.LoopLemmas.{any_here, any_later, any_nowhere}
use Rattle.trace_checker.proofs.checker.knows_from.Goals as goal

pub loop-j-init : goal.loop-j-init
loop-j-init g c = λ exact distinct. refl

pub returns-then-knows : goal.returns-then-knows
returns-then-knows g c =
    let len = length-map c.args.leaders.now.items (leader_in c.args.logs.now) in
    let within : c.loop-j.j < length (map (leader_in c.args.logs.now) c.args.leaders.now.items) = omega
    (arith, c.args.leaders.now.ok.0, len) in
    λ exact distinct. any_here (knows g.T.Term.rank (same_entry_by g.T.PartialEq.eq g.D.PartialEq.eq) c.args.rank (log_at
    c.args.logs.now c.args.prefix)) (map (leader_in c.args.logs.now) c.args.leaders.now.items) c.loop-j.j
    (leader_in c.args.logs.now c.index.result.now) within
    (item_map (leader_in c.args.logs.now) c.args.leaders.now.items c.loop-j.j c.index.result.now c.index.ensures)
    (sym (c.knows.ensures exact distinct) ∙ c.if-knows.true) (c.loop-j.invariant exact distinct)

pub loop-j-preserved : goal.loop-j-preserved
loop-j-preserved g c =
    let len = length-map c.args.leaders.now.items (leader_in c.args.logs.now) in
    let within : c.loop-j.j < length (map (leader_in c.args.logs.now) c.args.leaders.now.items) = omega
    (arith, c.args.leaders.now.ok.0, len) in
    λ exact distinct. any_later (knows g.T.Term.rank (same_entry_by g.T.PartialEq.eq g.D.PartialEq.eq) c.args.rank (log_at
    c.args.logs.now c.args.prefix)) (map (leader_in c.args.logs.now) c.args.leaders.now.items) c.loop-j.j
    (leader_in c.args.logs.now c.index.result.now) within
    (item_map (leader_in c.args.logs.now) c.args.leaders.now.items c.loop-j.j c.index.result.now c.index.ensures)
    (sym (c.knows.ensures exact distinct) ∙ c.if-knows.false) (c.loop-j.invariant exact distinct)

pub returns : goal.returns
returns g c =
    let len = length-map c.args.leaders.now.items (leader_in c.args.logs.now) in
    let past : length (map (leader_in c.args.logs.now) c.args.leaders.now.items) ≤ c.loop-j.j = omega
    (arith, c.args.leaders.now.ok.0, len) in
    λ exact distinct. any_nowhere (knows g.T.Term.rank (same_entry_by g.T.PartialEq.eq g.D.PartialEq.eq) c.args.rank (log_at
    c.args.logs.now c.args.prefix)) (map (leader_in c.args.logs.now) c.args.leaders.now.items) c.loop-j.j past
    (c.loop-j.invariant exact distinct)
