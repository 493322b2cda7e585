-- Definitions that only private functions use.
pub mod Reading
pub mod Table
pub mod Votes
pub mod Taken
pub mod Judged
