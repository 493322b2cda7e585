use Rattle.trace_checker.proofs.checker.Checker.record.Goals as goal

pub returns-in-Campaigned-clause-answer : goal.returns-in-Campaigned-clause-answer
returns-in-Campaigned-clause-answer g c = rw c.in-Campaigned.is c.campaigned.ensures.answer

pub returns-in-Granted-clause-answer : goal.returns-in-Granted-clause-answer
returns-in-Granted-clause-answer g c = rw c.in-Granted.is c.granted.ensures.answer

pub returns-in-Appended-clause-answer : goal.returns-in-Appended-clause-answer
returns-in-Appended-clause-answer g c = rw c.in-Appended.is (rw c.deref.ensures.value at c.appended.ensures.answer)

pub returns-in-Acked-clause-answer : goal.returns-in-Acked-clause-answer
returns-in-Acked-clause-answer g c = rw c.in-Acked.is c.acked.ensures.answer

pub returns-in-Restarted-clause-answer : goal.returns-in-Restarted-clause-answer
returns-in-Restarted-clause-answer g c = rw c.in-Restarted.is c.restarted.ensures.answer

pub returns-in-Wrote-clause-answer : goal.returns-in-Wrote-clause-answer
returns-in-Wrote-clause-answer g c = rw c.in-Wrote.is c.wrote.ensures.answer

pub returns-in-Committed-clause-answer : goal.returns-in-Committed-clause-answer
returns-in-Committed-clause-answer g c = rw c.in-Committed.is c.committed.ensures.answer

pub returns-in-Applied-clause-answer : goal.returns-in-Applied-clause-answer
returns-in-Applied-clause-answer g c = rw c.in-Applied.is c.applied.ensures.answer
