use Rattle.std.proofs.lemmas.Result.{err_from_is_err_and}
use Rattle.trace_checker.proofs.checker.server.Server.append.Goals as goal

pub returns-in_err-make_room : goal.returns-in_err-make_room
returns-in_err-make_room g c =
    let p = err_from_is_err_and c.from_residual.result c.from_residual.ensures.1 in
    rw p.1 (record { term = tt; kept = tt; rest = tt; err = c.in_err-make_room.ensures.rest })
