-- What is in flight to a follower, and what a response makes of it.
pub mod Inflight
pub mod InflightTable
pub mod InflightValid
