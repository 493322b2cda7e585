pub mod CatchUpLemmas
pub mod RoundLemmas
