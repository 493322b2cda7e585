-- The state of a node: what is valid and sound, and what its calls leave.
pub mod VoteAndLog
pub mod NewState
pub mod Valid
pub mod Sound
pub mod Role
pub mod Appended
pub mod Truncate
pub mod Commit
pub mod Purge
pub mod Install
pub mod BuiltSnapshot
pub mod Sending
pub mod CatchUp
pub mod Round
