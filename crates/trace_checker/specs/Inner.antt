-- Definitions that only private functions and proofs use.
pub mod CheckerState
pub mod Logs
pub mod TermsState
pub mod Nodes
pub mod Places
pub mod Index
pub mod Kept
pub mod Known
pub mod Noted
pub mod Seen
