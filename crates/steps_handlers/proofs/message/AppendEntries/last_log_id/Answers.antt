use Rattle.std.proofs.Common.{◌≡◌, ◌-◌, Some, length, sym}
use Rattle.std.specs.Prelude.{slice_get}
use Rattle.steps_handlers.proofs.lemmas.EntryLemmas.{last_of_entries}
use Rattle.steps_handlers.proofs.message.AppendEntries.last_log_id.Goals as goal

pub returns-in-Some : goal.returns-in-Some
returns-in-Some g c =
    let es = c.args.self.now.entries.items in
    let place : slice_get es (length es - 1) ≡ Some c.in-Some.entry.now =
    sym (rw (c.in-Some.is, c.deref.ensures.value) at c.last.ensures.value) in
    rw c.get_log_id.ensures (last_of_entries c.args.self.now.prev es c.in-Some.entry.now place)
