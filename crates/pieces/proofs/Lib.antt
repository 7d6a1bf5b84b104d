pub mod Answering
pub mod Keeping
pub mod Same
pub mod Unique
