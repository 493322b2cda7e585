pub mod CatchUpLemmas
pub mod HonestRunLemmas
pub mod HonestTurnLemmas
