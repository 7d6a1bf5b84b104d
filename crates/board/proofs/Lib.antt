pub mod Timed
pub mod Unique
