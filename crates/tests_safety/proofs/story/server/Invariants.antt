use Rattle.raft_state.specs.raft_state.VoteAndLog.{vote_of}
use Rattle.tests_safety.proofs.story.server.Given as goal

abbrev pub ghost-starts : goal.ghost-starts
ghost-starts g a = (vote_of a.state.now).leader_id
