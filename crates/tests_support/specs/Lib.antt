pub mod PlainLog
