use Rattle.std.proofs.Common.{◌≡◌, ◌+◌, ◌<◌, ◌≤◌, ◌∙◌, ◌-◌, ap, arith, drop, get_or, length, map, sym}
use Rattle.std.specs.List.{list_any}
use Rattle.std.proofs.lemmas.List.{drop_all, get_or-map, length-map}
use Rattle.trace_checker.specs.Inner.CheckerState.{same_entry_by}
use Rattle.trace_checker.specs.Inner.Known.{commit_in, covers}
use Rattle.trace_checker.specs.Inner.Logs.{log_at}
use Rattle.trace_checker.specs.declared.checker.known.Commit.{Commit}
use Rattle.trace_checker.proofs.lemmas.KnownLemmas.{any_before, none_from}
use Rattle.trace_checker.proofs.checker.known.is_covered.Goals as goal

pub loop-i-init : goal.loop-i-init
loop-i-init g c =
    let test = covers (same_entry_by g.T.PartialEq.eq g.D.PartialEq.eq) c.args.rank c.args.counted_at
    (log_at c.args.logs.now c.args.log) in
    let xs = map (commit_in c.args.logs.now) c.args.commits.now in
    let len = length-map c.args.commits.now (commit_in c.args.logs.now) in
    let past : length xs ≤ length c.args.commits.now = omega (arith, len) in
    λ exact distinct. ap (list_any test) (drop_all (length c.args.commits.now) xs past)

pub returns-then-covers : goal.returns-then-covers
returns-then-covers g c =
    let test = covers (same_entry_by g.T.PartialEq.eq g.D.PartialEq.eq) c.args.rank c.args.counted_at
    (log_at c.args.logs.now c.args.log) in
    let show = commit_in c.args.logs.now in
    let nothing : Commit = record { rank = 0; counted_at = 0; log = 0 } in
    let read = get_or c.args.commits.now (c.loop-i.i - 1) nothing in
    let len = length-map c.args.commits.now show in
    let within : c.loop-i.i - 1 < length c.args.commits.now = omega arith in
    let within_map : c.loop-i.i - 1 < length (map show c.args.commits.now) = omega (arith, len) in
    λ exact distinct. any_before test (map show c.args.commits.now) (c.loop-i.i - 1) (show read) within_map
    (sym (get_or-map show c.args.commits.now (c.loop-i.i - 1) nothing (show read) within))
    (sym (c.covers.ensures exact distinct) ∙ c.if-covers.true)

pub loop-i-preserved : goal.loop-i-preserved
loop-i-preserved g c =
    let test = covers (same_entry_by g.T.PartialEq.eq g.D.PartialEq.eq) c.args.rank c.args.counted_at
    (log_at c.args.logs.now c.args.log) in
    let show = commit_in c.args.logs.now in
    let xs = map show c.args.commits.now in
    let nothing : Commit = record { rank = 0; counted_at = 0; log = 0 } in
    let read = get_or c.args.commits.now (c.loop-i.i - 1) nothing in
    let len = length-map c.args.commits.now show in
    let within : c.loop-i.i - 1 < length c.args.commits.now = omega arith in
    let within_map : c.loop-i.i - 1 < length xs = omega (arith, len) in
    let next : c.loop-i.i ≡ c.loop-i.i - 1 + 1 = omega arith in
    λ exact distinct. none_from test xs (c.loop-i.i - 1) (show read) within_map
    (sym (get_or-map show c.args.commits.now (c.loop-i.i - 1) nothing (show read) within))
    (sym (c.covers.ensures exact distinct) ∙ c.if-covers.false)
    (sym (ap (λ i. list_any test (drop i xs)) next) ∙ c.loop-i.invariant exact distinct)

pub returns : goal.returns
returns g c =
    let test = covers (same_entry_by g.T.PartialEq.eq g.D.PartialEq.eq) c.args.rank c.args.counted_at
    (log_at c.args.logs.now c.args.log) in
    let none : c.loop-i.i ≡ 0 = omega arith in
    λ exact distinct. sym (c.loop-i.invariant exact distinct)
    ∙ ap (λ i. list_any test (drop i (map (commit_in c.args.logs.now) c.args.commits.now))) none
