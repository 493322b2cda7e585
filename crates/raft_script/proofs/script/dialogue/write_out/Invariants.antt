use Rattle.std.specs.Io.KnownBytes.{Keeps, append_known}
use Rattle.raft_script.proofs.script.dialogue.write_out.Given as goal

-- what is written, followed by what is held back, is as it was
abbrev pub invariant-loop : goal.invariant-loop
invariant-loop g l = Keeps (append_known (g.W.Write.contents l.fn.writer) l.fn.bytes.items)
    (append_known (g.W.Write.contents l.writer) l.bytes.items)
