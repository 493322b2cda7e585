-- Definitions that only private functions and proofs use.
pub mod Log
pub mod Restart
pub mod Steps
