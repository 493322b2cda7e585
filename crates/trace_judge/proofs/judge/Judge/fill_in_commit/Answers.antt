use Rattle.std.proofs.Common.{refl}
use Rattle.std.proofs.lemmas.Result.{on_ok_weaker}
use Rattle.serde_json.specs.View.{view}
use Rattle.trace_judge.specs.Inner.Table.{numbering}
use Rattle.trace_judge.proofs.judge.Judge.fill_in_commit.Goals as goal

pub returns : goal.returns
returns c =
    let old = c.args.self.now in
    on_ok_weaker c.commit_applied.result (λ fills.
    fills (numbering old.names) old.first (view c.args.value.now)
    (c.if-not-is_named.ensures.yes refl, c.in-Some.ensures, c.in-Some-len.ensures)) c.commit_applied.ensures
