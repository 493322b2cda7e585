-- The search for the last log that a leader and a follower share, over whole lists of events.
pub mod Search
pub mod Purged
