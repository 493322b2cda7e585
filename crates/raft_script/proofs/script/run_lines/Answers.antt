use Rattle.std.proofs.lemmas.Result.{MatchResult-weaker}
use Rattle.raft_script.specs.Input.{contents, unread}
use Rattle.raft_script.proofs.lemmas.ScriptLemmas.{run_whole}
use Rattle.raft_script.proofs.script.run_lines.Goals as goal

pub returns : goal.returns
returns g c =
    MatchResult-weaker c.answer_lines-ended.result c.answer_lines-ended.ensures.ok
    (λ status prints. run_whole (g.R.Read.remaining c.args.reader) (unread g.R.Read.remaining c.in_ok-dialogue.dialogue)
    (g.W.Write.contents c.args.writer.now)
    (contents (g.W.Write.contents c.answer_lines-ended.new.writer) c.answer_lines-ended.new.dialogue)
    (g.W.Write.contents c.write_out.new.writer) status c.in_ok-dialogue.dialogue.replies.items c.write_out.new.bytes.items
    c.in_ok-dialogue.ensures.unread c.in_ok-dialogue.ensures.silent c.in_ok-write_out.ensures.ok prints c.write_out.ensures.contents)
    (λ e _. tt)
