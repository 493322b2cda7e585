pub mod Server
pub mod Seen
pub mod Voting
pub mod Appending
pub mod Electing
pub mod Disk
pub mod Running
pub mod Called
