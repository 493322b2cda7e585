pub mod CommittedLemmas
pub mod LoggedLemmas
pub mod RelationLemmas
