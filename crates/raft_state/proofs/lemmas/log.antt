pub mod CommitLemmas
pub mod ConflictLemmas
pub mod StateExtendLemmas
pub mod StatePurgeLemmas
