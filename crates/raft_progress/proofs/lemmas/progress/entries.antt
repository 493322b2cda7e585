pub mod EntriesLemmas
pub mod FallingLemmas
pub mod PrefixLemmas
pub mod LearnersPositionLemmas
pub mod MovedLemmas
pub mod RisingLemmas
pub mod ShortPrefixLemmas
pub mod VoterLemmas
