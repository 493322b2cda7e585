use Rattle.raft_state.proofs.log_id_list.LogIdListOf.new.Goals as goal

pub invariant_of-result : goal.invariant_of-result
invariant_of-result g c = c.requires
