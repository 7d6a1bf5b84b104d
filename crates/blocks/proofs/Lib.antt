pub mod Masking
pub mod Unique
