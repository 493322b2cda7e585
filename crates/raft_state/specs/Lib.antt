pub mod log_id_list
pub mod membership_state
pub mod raft_state
pub mod entry
pub mod Accepted
pub mod IOState
pub mod Inner
pub mod SnapshotMeta
