-- Memberships: their configs and nodes, what is valid, changes and refusals.
pub mod MemberList
pub mod Members
pub mod MembersLawful
pub mod Valid
pub mod Change
pub mod ReplaceAll
pub mod SameChange
pub mod Refusal
pub mod Defaults
pub mod InitializeError
pub mod Learners
pub mod Stored
pub mod StoredLawful
