pub mod AckLemmas
pub mod EntryLemmas
pub mod LateResponseLemmas
pub mod SendableLemmas
pub mod ResponseLemmas
