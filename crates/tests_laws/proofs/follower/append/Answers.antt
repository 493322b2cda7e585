use Rattle.std.proofs.Common.{◌++◌, ◌+◌, ◌-◌, List, length, take, drop, ap, ◌∙◌}
use Rattle.std.proofs.lemmas.List.{take_rest}
use Rattle.tests_laws.specs.declared.follower.LogEntry.{LogEntry}
use Rattle.tests_laws.proofs.FollowerLemmas.{taken_over}
use Rattle.tests_laws.proofs.follower.append.Goals as goal

pub returns-in_ok-extend_from_slice-clause-ok : goal.returns-in_ok-extend_from_slice-clause-ok
returns-in_ok-extend_from_slice-clause-ok c =
    let es : List LogEntry = c.args.entries.now in
    let kept = c.shared-kept.result in
    taken_over c.args.log.now.items es c.extend_from_slice.new.self.items c.args.from kept
    c.if-kept-entries.true (rw c.deref.ensures.value at c.shared-kept.ensures)
    (c.in_ok-extend_from_slice.ensures.items
    ∙ ap (λ (x : List LogEntry). x ++ take (length es - kept) (drop kept es)) c.truncate.ensures.items
    ∙ ap (λ (x : List LogEntry). take (c.args.from + kept) c.args.log.now.items ++ x) (take_rest es kept))
