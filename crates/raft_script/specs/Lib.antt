pub mod Engine
pub mod Inner
pub mod Input
pub mod Line
pub mod LineRun
pub mod ReplyText
pub mod Script
pub mod Word
