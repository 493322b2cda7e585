-- Majorities, joint and coherent configs, and quorums that meet.
pub mod Majority
pub mod MajorityLawful
pub mod QuorumSize
pub mod AtLeast
pub mod Coherence
pub mod Meeting
pub mod Reached
