-- What a membership together with its progress is, and what a replay makes of it.
pub mod TrackedState
pub mod Tracked
pub mod TrackedNew
pub mod Over
pub mod TrackedSteps
pub mod TrackedViewSteps
pub mod SingleSteps
pub mod Followers
pub mod TrackedCalls
pub mod Headline
pub mod Known
pub mod EachConfig
pub mod Elected
