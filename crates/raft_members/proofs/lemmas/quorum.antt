pub mod AtLeastLemmas
pub mod ChunkLemmas
pub mod InOrderLemmas
pub mod LeastLemmas
pub mod MajorityLemmas
pub mod MeetingLemmas
pub mod NextLemmas
pub mod VoterLemmas
