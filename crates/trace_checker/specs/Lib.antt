pub mod Counted
pub mod Inner
pub mod Checker
pub mod Memberships
pub mod Merge
