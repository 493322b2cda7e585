pub mod AloneLemmas
pub mod LearnedLemmas
