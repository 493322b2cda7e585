-- What a leader knows about a follower, and what responses and sends make of it.
pub mod EntryTable
pub mod EntryValid
pub mod Send
pub mod Request
pub mod Probe
pub mod Sendable
pub mod LateResponse
