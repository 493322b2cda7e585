pub mod progress
pub mod tracked
pub mod entry
pub mod search
pub mod catch_up
pub mod ListLemmas
pub mod OrderLemmas
