-- Catching up a follower that responds honestly.
pub mod CatchUp
pub mod HonestRun
