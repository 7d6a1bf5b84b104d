pub mod Replying
pub mod Same
pub mod Unique
