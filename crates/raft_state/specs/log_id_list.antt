-- A log as a list of keys, what its operations do to the full log, and when two logs are the same.
pub mod Keys
pub mod FullLog
pub mod FullLogLawful
pub mod LogOrder
pub mod LogReads
pub mod LogReadsLawful
pub mod LogConditions
pub mod LogEdits
pub mod LogKept
pub mod SameLog
