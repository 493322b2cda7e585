use Rattle.raft_progress.proofs.tracked.Tracked.new.Goals as goal

pub returns-clause-granted : goal.returns-clause-granted
returns-clause-granted g c = c.in_ok-progress.ensures.begins.begins.granted

pub sides_of-requires-clause-known : goal.sides_of-requires-clause-known
sides_of-requires-clause-known g c κs within = c.in_ok-progress.ensures.ready.counts_by.known

pub invariant_of-result : goal.invariant_of-result
invariant_of-result g c = record { ready = ∣ c.in_ok-progress.ensures.ready ∣₁; sides_fit = c.in_ok-sides.ensures }
