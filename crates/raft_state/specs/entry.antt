-- What a log entry contains.
pub mod Entry
pub mod EntryLawful
