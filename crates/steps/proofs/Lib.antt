pub mod Cutting
pub mod Stepping
pub mod Unique
