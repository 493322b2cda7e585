use Rattle.std.proofs.Common.{Result, Ok, Err}
use Rattle.std.specs.Result.{OnOk}
use Rattle.tests_laws.proofs.FollowerLemmas.{may_take}
use Rattle.tests_laws.proofs.follower.take_entries.Goals as goal

on_ok : {T E P Q : Type 0} (r : Result T E) → (P → Q) → OnOk r P → OnOk r Q
on_ok (Ok x) f p = f p
on_ok (Err e) f p = tt

pub returns : goal.returns
returns c =
    on_ok c.append.result
    (may_take c.consistency_check_suffices.ensures c.args.log.now.items c.args.from c.args.entries.now
    c.append.new.log.items c.requires)
    c.append.ensures.ok
