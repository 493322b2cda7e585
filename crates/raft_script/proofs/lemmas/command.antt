pub mod ListLemmas
pub mod NumberLemmas
pub mod TakenLemmas
pub mod WordLemmas
