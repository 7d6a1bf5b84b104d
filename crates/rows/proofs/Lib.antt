pub mod Channel
pub mod Range
pub mod Unique
