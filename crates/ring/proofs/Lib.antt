pub mod Unique
pub mod Weight
