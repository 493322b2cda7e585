use Rattle.std.proofs.Common.{[], ◌∷◌, ◌++◌, length, take, ◌+◌, ◌<◌, ◌≤◌, ap, sym, ◌∙◌, arith}
use Rattle.std.proofs.lemmas.List.{length_push, length-take-le}
use Rattle.trace_checker.specs.Checker.{kept_by}
use Rattle.trace_checker.specs.Inner.Logs.{last_entry, log_at}
use Rattle.trace_checker.proofs.lemmas.ReadLemmas.{drop_last, leader_entries_read, leader_entries_short, no_leader_entries, not_without_last, read_to_end}
use Rattle.trace_checker.proofs.checker.Checker.leader_entries.Goals as goal

pub loop-i-preserved : goal.loop-i-preserved
loop-i-preserved g c =
    let log = log_at c.args.self.now.logs c.index.result.now.log in
    let within : c.loop-i.i < length log = omega (arith, c.len.ensures.len) in
    let items = c.in_ok-push-in-Some-last.ensures.items in
    record {
      after = omega (arith, c.loop-i.invariant.after);
      before = omega (arith, c.loop-i.invariant.before);
      counts = omega (
        arith,
        ap length items ∙ length_push c.loop-i.entries.items c.in-Some-last.entry,
        c.loop-i.invariant.counts,
        c.loop-i.invariant.after,
      );
      read = items ∙ ap (λ l. l ++ c.in-Some-last.entry ∷ []) c.loop-i.invariant.read
          ∙ sym (drop_last log c.args.from c.loop-i.i c.in-Some-last.entry c.loop-i.invariant.after within
          (c.in-Some-last.ensures ∙ ap last_entry c.first.ensures.first));
    }

pub returns-in-None-clause-entries : goal.returns-in-None-clause-entries
returns-in-None-clause-entries g c =
    λ exact es keeps. no_leader_entries _ exact es c.args.term c.args.id (kept_by c.args.self.now) c.args.from c.args.len
    (sym (c.in-None.ensures.place exact.same_term keeps.placed)) keeps

pub returns-then-len-clause-entries : goal.returns-then-len-clause-entries
returns-then-len-clause-entries g c =
    λ exact es keeps. leader_entries_short _ exact es c.args.term c.args.id (kept_by c.args.self.now) c.in-Some.j c.args.from
    c.args.len c.index.result.now (sym (c.in-Some.ensures.place exact.same_term keeps.placed)) c.index.ensures keeps
    (omega (arith, c.len.ensures.len))

pub returns-in-None-last-clause-entries : goal.returns-in-None-last-clause-entries
returns-in-None-last-clause-entries g c =
    let log = log_at c.args.self.now.logs c.index.result.now.log in
    let within : c.loop-i.i + 1 ≤ length log = omega (arith, c.len.ensures.len) in
    absurd (not_without_last (take (c.loop-i.i + 1) log) (omega (arith, length-take-le (c.loop-i.i + 1) log within))
    (c.in-None-last.ensures ∙ ap last_entry c.first.ensures.first))

pub returns-clause-len : goal.returns-clause-len
returns-clause-len g c = omega (arith, c.loop-i.invariant.before, c.loop-i.invariant.counts)

pub returns-clause-entries : goal.returns-clause-entries
returns-clause-entries g c =
    let log = log_at c.args.self.now.logs c.index.result.now.log in
    λ exact es keeps. leader_entries_read _ exact es c.args.term c.args.id (kept_by c.args.self.now) c.in-Some.j c.args.from
    c.args.len c.index.result.now c.loop-i.entries.items (sym (c.in-Some.ensures.place exact.same_term keeps.placed))
    c.index.ensures keeps (omega (arith, c.len.ensures.len))
    (read_to_end log c.loop-i.entries.items c.args.from c.args.len c.loop-i.i (omega arith) c.loop-i.invariant.before
    c.loop-i.invariant.read)
