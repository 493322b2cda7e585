pub mod BelowLemmas
pub mod FoldLemmas
pub mod LearnersFitLemmas
pub mod TakeOverLemmas
pub mod UpgradeLemmas
