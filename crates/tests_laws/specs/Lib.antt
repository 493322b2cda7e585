pub mod Callers
pub mod Follower
pub mod Leader
