-- Definitions that only private functions and invariants use.
pub mod KeyList
pub mod KeyEdits
pub mod LeaderRange
pub mod Refusal
pub mod SoundTest
