-- Lemmas for callers, in one place.
pub use Rattle.raft_members.proofs.lemmas.quorum.MeetingLemmas.{majorities_meet, majority_member, quorums_meet, coherent_meet}
pub use Rattle.raft_members.proofs.lemmas.quorum.NextLemmas.{next_shares, next_has_goal}
pub use Rattle.raft_members.proofs.lemmas.quorum.VoterLemmas.{has_config-voter, joint_majority_member, joint_majority_of_voters}
pub use Rattle.raft_members.proofs.lemmas.membership.ReachedLemmas.{self_coherent, quorum_reaches}
pub use Rattle.raft_members.proofs.lemmas.membership.SaysLemmas.{changed_coherent, change_keeps_reached}
pub use Rattle.raft_members.proofs.lemmas.membership.KeptLemmas.{voter_alike}
pub use Rattle.raft_members.proofs.lemmas.quorum.MajorityLemmas.{is_member-alike}
pub use Rattle.raft_members.proofs.lemmas.membership.LearnerLemmas.{learner_in, learner_with_node}
pub use Rattle.raft_members.proofs.lemmas.membership.MappedLemmas.{quorums_of_lists, voters_of_lists}
pub use Rattle.raft_members.proofs.lemmas.CloneLemmas.{list_clones}
pub use Rattle.raft_members.proofs.lemmas.quorum.AtLeastLemmas.{at_least_clones}
