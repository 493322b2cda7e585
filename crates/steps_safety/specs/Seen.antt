-- What the rules need of the state of a server, and of a kind of leader ids.
use Rattle.steps_handlers.specs.Compared.{Compared}
use Rattle.raft_state.specs.log_id_list.FullLog.{full_log}
use Rattle.raft_state.specs.raft_state.VoteAndLog.{vote_of}
use Rattle.raft_state.specs.declared.raft_state.RaftStateIn.{RaftStateIn}
use Rattle.steps_safety.specs.Server.{Leaders, State}

-- the vote, the full log, the purge point and the committed log id of a state
abbrev pub seen : {K N I L C : Type 0} → RaftStateIn K N I L C → State L C
seen s = record {
  vote = vote_of s;
  ids = full_log s.log_ids;
  purged_next = s.purged_next;
  committed = s.committed;
}

-- how leader ids compare, and the term, the candidate and the committed leader id of each
abbrev pub leaders_of : {K N L C : Type 0} → Compared K N L C → Leaders L C K
leaders_of by = record {
  order = by.order;
  term_of = by.term_of;
  voted = by.voted;
  committed = by.committed;
  cmp = by.cmp;
  eq = by.eq;
}
