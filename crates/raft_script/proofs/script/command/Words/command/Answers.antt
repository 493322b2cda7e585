use Rattle.std.proofs.Common.{rules, ◌≢◌, codes}
use Rattle.raft_script.proofs.lemmas.command.TakenLemmas.{no_name}
use Rattle.raft_script.proofs.script.command.Words.command.Goals as goal

pub returns-in_default-clause-bad_line : goal.returns-in_default-clause-bad_line
returns-in_default-clause-bad_line c bad =
    let init : c.args.name.now ≢ codes "init" = search rules in
    let update : c.args.name.now ≢ codes "update" = search rules in
    let increase : c.args.name.now ≢ codes "increase" = search rules in
    let change : c.args.name.now ≢ codes "change" = search rules in
    no_name c.args.name.now _ init update increase change
