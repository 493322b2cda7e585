-- The two memberships that a node must know, and what moves them.
pub mod Memberships
pub mod MembershipsLawful
pub mod MembershipMoves
pub mod MembershipRelations
pub mod Apply
