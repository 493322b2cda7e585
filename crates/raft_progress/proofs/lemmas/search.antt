pub mod HalvingLemmas
pub mod PotentialLemmas
pub mod PurgedLemmas
pub mod SearchKeepsLemmas
pub mod SearchLemmas
