-- What the private functions do, one step at a time. No public contract uses these definitions.
pub mod Conditions
pub mod Placed
pub mod Positions
pub mod Recount
pub mod Refusal
pub mod Rises
pub mod Settled
pub mod Sides
pub mod ViewAnswers
pub mod Turns
