pub mod command
pub mod NewTrackedLemmas
pub mod ReplyLemmas
pub mod ScriptLemmas
