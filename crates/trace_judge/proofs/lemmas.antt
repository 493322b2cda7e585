pub mod FieldLemmas
pub mod FillLemmas
pub mod NameLemmas
pub mod RunLemmas
pub mod VoteLemmas
pub mod ListLemmas
pub mod StartLemmas
