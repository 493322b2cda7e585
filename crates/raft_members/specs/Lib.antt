pub mod quorum
pub mod membership
pub mod Inner
