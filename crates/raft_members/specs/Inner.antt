-- Definitions that only private functions and invariants use.
pub mod Configs
pub mod Nodes
pub mod Effective
