pub mod InverseLemmas
pub mod LookupLemmas
pub mod MadeLemmas
pub mod PositionsLemmas
